-- The value of an expression, as it is computed, rests on the values of the names in it alone.
use Rattle.std.proofs.Common.{◌≡◌, ℤ, pos, neg_ℤ, Bool, true, false, not, ◌&&◌, ◌||◌, List, ◌++◌, Option, Some, None, inl, refl}
use Rattle.std.specs.Prelude.{nat_abs, unwrap_or}
use Rattle.std.specs.Int.{int_min, int_max}
use Rattle.std.specs.Ordering.{int_eq}
use Rattle.cif_system.specs.Words.{Member}
use Rattle.cif_system.proofs.Picks.{append-left, append-right}
use Rattle.cif_ast.specs.Tree.{Tree, node, Shape, truth, number, named, received, paren, negative, positive, negation, absolute, least, greatest, sum, product, comparison, all_of, any_of, implication, equivalence, choice, Trees, no_trees, trees, Terms, no_terms, terms, Factors, no_factors, factors, Branches, no_branches, branches}
use Rattle.cif_ast.specs.declared.names.Name.{Name}
use Rattle.cif_source.specs.Uses.{names_in, shape_names, term_names, factor_names, names_in_all, branch_names}
use Rattle.cif_source.specs.Value.{of_bool, is_true, compared, added}
use Rattle.cif_inst_constants.specs.Checked.{checked, multiplied_checked}
use Rattle.cif_inst_constants.specs.Computed.{with_value, or_first, computed, shape_computed, terms_computed, factors_computed, all_computed, any_computed, branches_computed}

module _ (f g : Name → ℤ) where
  -- both give these names the same values
  abbrev pub Agree : List Name → Type 0
  Agree nms = (nm : Name) → Member nm nms → f nm ≡ g nm

  left : (xs ys : List Name) → Agree (xs ++ ys) → Agree xs
  left xs ys h nm m = h nm (append-left nm xs ys m)

  right : (xs ys : List Name) → Agree (xs ++ ys) → Agree ys
  right xs ys h nm m = h nm (append-right nm xs ys m)

  mutual
    pub same-computed : (e : Tree) → Agree (names_in e) → computed f e ≡ computed g e
    same-computed (node form at) h = computed-shape form h

    computed-shape : (s : Shape) → Agree (shape_names s) → shape_computed f s ≡ shape_computed g s
    computed-shape (truth b) h = refl
    computed-shape (number z) h = refl
    computed-shape (named nm) h = λ i. checked (h nm (inl refl) i)
    computed-shape received h = refl
    computed-shape (paren e) h = same-computed e h
    computed-shape (negative e) h = λ i. with_value (same-computed e h i) (λ z. checked (neg_ℤ z))
    computed-shape (positive e) h = same-computed e h
    computed-shape (negation e) h = λ i. with_value (same-computed e h i) (λ z. Some (of_bool (not (is_true z))))
    computed-shape (absolute e) h = λ i. with_value (same-computed e h i) (λ z. checked (pos (nat_abs z)))
    computed-shape (least a b) h = λ i. with_value (same-computed a (left (names_in a) (names_in b) h) i) (λ x. with_value (same-computed b (right (names_in a) (names_in b) h) i) (λ y. Some (int_min x y)))
    computed-shape (greatest a b) h = λ i. with_value (same-computed a (left (names_in a) (names_in b) h) i) (λ x. with_value (same-computed b (right (names_in a) (names_in b) h) i) (λ y. Some (int_max x y)))
    computed-shape (sum e es) h = λ i. with_value (same-computed e (left (names_in e) (term_names es) h) i) (λ z. computed-terms z es (right (names_in e) (term_names es) h) i)
    computed-shape (product e es) h = λ i. with_value (same-computed e (left (names_in e) (factor_names es) h) i) (λ z. computed-factors z es (right (names_in e) (factor_names es) h) i)
    computed-shape (comparison a op b) h = λ i. with_value (same-computed a (left (names_in a) (names_in b) h) i) (λ x. with_value (same-computed b (right (names_in a) (names_in b) h) i) (λ y. Some (of_bool (compared op x y))))
    computed-shape (all_of es) h = λ i. with_value (computed-all true es h i) (λ b. Some (of_bool b))
    computed-shape (any_of es) h = λ i. with_value (computed-any false es h i) (λ b. Some (of_bool b))
    computed-shape (implication a b) h = λ i. with_value (same-computed a (left (names_in a) (names_in b) h) i) (λ x. with_value (same-computed b (right (names_in a) (names_in b) h) i) (λ y. Some (of_bool (not (is_true x) || is_true y))))
    computed-shape (equivalence a b) h = λ i. with_value (same-computed a (left (names_in a) (names_in b) h) i) (λ x. with_value (same-computed b (right (names_in a) (names_in b) h) i) (λ y. Some (of_bool (int_eq x y))))
    computed-shape (choice bs e) h = λ i. with_value (computed-branches None bs (left (branch_names bs) (names_in e) h) i) (λ o. with_value (same-computed e (right (branch_names bs) (names_in e) h) i) (λ z. Some (unwrap_or o z)))

    computed-terms : (z : ℤ) (es : Terms) → Agree (term_names es) → terms_computed f z es ≡ terms_computed g z es
    computed-terms z no_terms h = refl
    computed-terms z (terms minus e es) h = λ i. with_value (same-computed e (left (names_in e) (term_names es) h) i) (λ x. with_value (checked (added minus z x)) (λ y. computed-terms y es (right (names_in e) (term_names es) h) i))

    computed-factors : (z : ℤ) (es : Factors) → Agree (factor_names es) → factors_computed f z es ≡ factors_computed g z es
    computed-factors z no_factors h = refl
    computed-factors z (factors op e es) h = λ i. with_value (same-computed e (left (names_in e) (factor_names es) h) i) (λ x. with_value (multiplied_checked op z x) (λ y. computed-factors y es (right (names_in e) (factor_names es) h) i))

    computed-all : (b : Bool) (es : Trees) → Agree (names_in_all es) → all_computed f b es ≡ all_computed g b es
    computed-all b no_trees h = refl
    computed-all b (trees e es) h = λ i. with_value (same-computed e (left (names_in e) (names_in_all es) h) i) (λ z. computed-all (b && is_true z) es (right (names_in e) (names_in_all es) h) i)

    computed-any : (b : Bool) (es : Trees) → Agree (names_in_all es) → any_computed f b es ≡ any_computed g b es
    computed-any b no_trees h = refl
    computed-any b (trees e es) h = λ i. with_value (same-computed e (left (names_in e) (names_in_all es) h) i) (λ z. computed-any (b || is_true z) es (right (names_in e) (names_in_all es) h) i)

    computed-branches : (o : Option ℤ) (bs : Branches) → Agree (branch_names bs) → branches_computed f o bs ≡ branches_computed g o bs
    computed-branches o no_branches h = refl
    computed-branches o (branches cs e bs) h =
        λ i. with_value (computed-all true cs (left (names_in_all cs) (names_in e) (left (names_in_all cs ++ names_in e) (branch_names bs) h)) i)
        (λ b. with_value (same-computed e (right (names_in_all cs) (names_in e) (left (names_in_all cs ++ names_in e) (branch_names bs) h)) i)
        (λ z. computed-branches (or_first o b z) bs (right (names_in_all cs ++ names_in e) (branch_names bs) h) i))
