-- Helper of the code: the value of an expression as it is computed in 64 bits, every operand evaluated: none where a value leaves 64 bits
-- or a divisor is 0. Sums and products go from left to right (CIF 3 language reference, "Expressions").
use Rattle.std.specs.Prelude.{ℤ, pos, neg_ℤ, nat_abs, Bool, true, false, not, ◌&&◌, ◌||◌, Option, Some, None, if◌then◌else◌, unwrap_or}
use Rattle.std.specs.Int.{int_min, int_max}
use Rattle.std.specs.Ordering.{int_eq}
use Rattle.cif_ast.specs.Tree.{Tree, node, Shape, truth, number, named, received, paren, negative, positive, negation, absolute, least, greatest, sum, product, comparison, all_of, any_of, implication, equivalence, choice, Trees, no_trees, trees, Terms, no_terms, terms, Factors, no_factors, factors, Branches, no_branches, branches}
use Rattle.cif_ast.specs.declared.names.Name.{Name}
use Rattle.cif_source.specs.Value.{of_bool, is_true, compared, added}
use Rattle.cif_inst_constants.specs.Checked.{checked, multiplied_checked}

-- goes on with a value
abbrev pub with_value : {A B : Type 0} → Option A → (A → Option B) → Option B
with_value None go = None
with_value (Some z) go = go z

-- the first value, once there is one
abbrev pub or_first : Option ℤ → Bool → ℤ → Option ℤ
or_first None holds z = if holds then Some z else None
or_first (Some x) holds z = Some x

-- each name has a value, and nothing is received
abbrev mutual
  pub computed : (Name → ℤ) → Tree → Option ℤ
  computed name (node form at) = shape_computed name form

  pub shape_computed : (Name → ℤ) → Shape → Option ℤ
  shape_computed name (truth b) = Some (of_bool b)
  shape_computed name (number z) = checked z
  shape_computed name (named nm) = checked (name nm)
  shape_computed name received = Some (pos 0)
  shape_computed name (paren e) = computed name e
  shape_computed name (negative e) = with_value (computed name e) (λ z. checked (neg_ℤ z))
  shape_computed name (positive e) = computed name e
  shape_computed name (negation e) = with_value (computed name e) (λ z. Some (of_bool (not (is_true z))))
  shape_computed name (absolute e) = with_value (computed name e) (λ z. checked (pos (nat_abs z)))
  shape_computed name (least a b) = with_value (computed name a) (λ x. with_value (computed name b) (λ y. Some (int_min x y)))
  shape_computed name (greatest a b) = with_value (computed name a) (λ x. with_value (computed name b) (λ y. Some (int_max x y)))
  shape_computed name (sum e es) = with_value (computed name e) (λ z. terms_computed name z es)
  shape_computed name (product e es) = with_value (computed name e) (λ z. factors_computed name z es)
  shape_computed name (comparison a op b) = with_value (computed name a) (λ x. with_value (computed name b) (λ y. Some (of_bool (compared op x y))))
  shape_computed name (all_of es) = with_value (all_computed name true es) (λ b. Some (of_bool b))
  shape_computed name (any_of es) = with_value (any_computed name false es) (λ b. Some (of_bool b))
  shape_computed name (implication a b) = with_value (computed name a) (λ x. with_value (computed name b) (λ y. Some (of_bool (not (is_true x) || is_true y))))
  shape_computed name (equivalence a b) = with_value (computed name a) (λ x. with_value (computed name b) (λ y. Some (of_bool (int_eq x y))))
  shape_computed name (choice bs e) = with_value (branches_computed name None bs) (λ o. with_value (computed name e) (λ z. Some (unwrap_or o z)))

  -- from the sum so far
  pub terms_computed : (Name → ℤ) → ℤ → Terms → Option ℤ
  terms_computed name z no_terms = Some z
  terms_computed name z (terms minus e es) = with_value (computed name e) (λ x. with_value (checked (added minus z x)) (λ y. terms_computed name y es))

  pub factors_computed : (Name → ℤ) → ℤ → Factors → Option ℤ
  factors_computed name z no_factors = Some z
  factors_computed name z (factors op e es) = with_value (computed name e) (λ x. with_value (multiplied_checked op z x) (λ y. factors_computed name y es))

  -- whether all hold, those before too
  pub all_computed : (Name → ℤ) → Bool → Trees → Option Bool
  all_computed name b no_trees = Some b
  all_computed name b (trees e es) = with_value (computed name e) (λ z. all_computed name (b && is_true z) es)

  pub any_computed : (Name → ℤ) → Bool → Trees → Option Bool
  any_computed name b no_trees = Some b
  any_computed name b (trees e es) = with_value (computed name e) (λ z. any_computed name (b || is_true z) es)

  -- the value of the first branch whose conditions hold, if it isn't found before
  pub branches_computed : (Name → ℤ) → Option ℤ → Branches → Option (Option ℤ)
  branches_computed name o no_branches = Some o
  branches_computed name o (branches cs e bs) = with_value (all_computed name true cs) (λ b. with_value (computed name e) (λ z. branches_computed name (or_first o b z) bs))
