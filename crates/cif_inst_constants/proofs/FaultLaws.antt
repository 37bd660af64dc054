-- What is computed in 64 bits is the value where nothing is faulty, and none elsewhere.
use Rattle.std.proofs.Common.{◌≡◌, ◌*ℤ◌, ℤ, pos, negsuc, neg_ℤ, refl, sym, ap, ◌∙◌, arith, Bool, true, false, not, ◌&&◌, ◌||◌, Option, Some, None}
use Rattle.std.specs.Prelude.{nat_abs, unwrap_or, if◌then◌else◌, int_div, int_rem, int_lt}
use Rattle.std.specs.Int.{int_min, int_max}
use Rattle.std.specs.Ordering.{int_eq}
use Rattle.std.proofs.lemmas.Bool.Decides.{nat_tests}
use Rattle.std.proofs.lemmas.Int.{ints}
use Rattle.cif_ast.specs.Tree.{Tree, node, Shape, truth, number, named, received, paren, negative, positive, negation, absolute, least, greatest, sum, product, comparison, all_of, any_of, implication, equivalence, choice, Trees, no_trees, trees, Terms, no_terms, terms, Factors, no_factors, factors, Branches, no_branches, branches}
use Rattle.cif_ast.specs.declared.names.Name.{Name}
use Rattle.cif_ast.specs.declared.expressions.MulOp.{MulOp}
use Rattle.cif_ast.specs.declared.expressions.MulOp.TheVariants as mul
use Rattle.cif_source.specs.Value.{of_bool, is_true, compared, multiplied, added, value_with, shape_value, sum_value, product_value, all_true, any_true, branch_value}
use Rattle.cif_source.specs.InstanceRules.{leaves_64_bits, divides_by_0, is_faulty, shape_faulty, sum_faulty, product_faulty, any_faulty, branch_faulty}
use Rattle.cif_inst_constants.specs.Checked.{fits_64, checked, multiplied_checked}
use Rattle.cif_inst_constants.specs.Computed.{with_value, or_first, computed, shape_computed, terms_computed, factors_computed, all_computed, any_computed, branches_computed}
use Rattle.cif_inst_constants.specs.Outcomes.{unless_faulty}

-- ---- truth values

or-right : (a b : Bool) → (a || b) ≡ false → b ≡ false
or-right true b h = cc
or-right false b h = h

or-left : (a b : Bool) → (a || b) ≡ false → a ≡ false
or-left true b h = cc
or-left false b h = refl

or-twice : (a b : Bool) → ((a || b) || b) ≡ (a || b)
or-twice true b = refl
or-twice false true = refl
or-twice false false = refl

or-three : (a b c : Bool) → (a || (b || c)) ≡ ((a || b) || c)
or-three true b c = refl
or-three false b c = refl

or-four : (a b c d : Bool) → (a || (b || (c || d))) ≡ (((a || b) || c) || d)
or-four true b c d = refl
or-four false true c d = refl
or-four false false c d = refl

or-five : (a b c d e : Bool) → (a || ((b || c) || (d || e))) ≡ ((((a || b) || c) || d) || e)
or-five true b c d e = refl
or-five false true c d e = refl
or-five false false true d e = refl
or-five false false false d e = refl

and-true : (b : Bool) → b ≡ (b && true)
and-true true = refl
and-true false = refl

or-false : (b : Bool) → b ≡ (b || false)
or-false true = refl
or-false false = refl

and-three : (a b c : Bool) → ((a && b) && c) ≡ (a && (b && c))
and-three true b c = refl
and-three false b c = refl

or-three-back : (a b c : Bool) → ((a || b) || c) ≡ (a || (b || c))
or-three-back true b c = refl
or-three-back false b c = refl

-- ---- numbers of 64 bits

fits-leaves : (z : ℤ) → fits_64 z ≡ not (leaves_64_bits z)
fits-leaves (pos n) = grind (arith, nat_tests, ints)
fits-leaves (negsuc n) = grind (arith, nat_tests, ints)

if-unless : (b : Bool) (z : ℤ) → (if (not b) then Some z else None) ≡ unless_faulty b z
if-unless true z = refl
if-unless false z = refl

pub checked-leaves : (z : ℤ) → checked z ≡ unless_faulty (leaves_64_bits z) z
checked-leaves z = ap (λ b. if b then Some z else None) (fits-leaves z) ∙ if-unless (leaves_64_bits z) z

bool-fits : (b : Bool) → leaves_64_bits (of_bool b) ≡ false
bool-fits true = refl
bool-fits false = refl

if-fits : (b : Bool) (x y : ℤ) → leaves_64_bits x ≡ false → leaves_64_bits y ≡ false → leaves_64_bits (if b then x else y) ≡ false
if-fits true x y h g = h
if-fits false x y h g = g

min-fits : (x y : ℤ) → leaves_64_bits x ≡ false → leaves_64_bits y ≡ false → leaves_64_bits (int_min x y) ≡ false
min-fits x y h g = if-fits (int_lt y x) y x g h

max-fits : (x y : ℤ) → leaves_64_bits x ≡ false → leaves_64_bits y ≡ false → leaves_64_bits (int_max x y) ≡ false
max-fits x y h g = if-fits (int_lt y x) x y h g

-- ---- one after the other

with-outcome : {A B : Type 0} (b c : Bool) (x : A) (y : B) (go : A → Option B) → (b ≡ false → go x ≡ unless_faulty c y) → with_value (unless_faulty b x) go ≡ unless_faulty (b || c) y
with-outcome true c x y go h = refl
with-outcome false c x y go h = h refl

kept : (c : Bool) (z : ℤ) → c ≡ false → Some z ≡ unless_faulty c z
kept true z h = cc
kept false z h = refl

of-truth : (b : Bool) → Some (of_bool b) ≡ unless_faulty (leaves_64_bits (of_bool b)) (of_bool b)
of-truth b = kept (leaves_64_bits (of_bool b)) (of_bool b) (bool-fits b)

divided-is : (c : Bool) (z : ℤ) → (if c then None else checked z) ≡ unless_faulty (c || leaves_64_bits (if c then pos 0 else z)) (if c then pos 0 else z)
divided-is true z = refl
divided-is false z = checked-leaves z

multiplied-is : (op : MulOp) (a b : ℤ) → multiplied_checked op a b ≡ unless_faulty (divides_by_0 op b || leaves_64_bits (multiplied op a b)) (multiplied op a b)
multiplied-is mul.Times a b = checked-leaves (a *ℤ b)
multiplied-is mul.Div a b = divided-is (int_eq b (pos 0)) (int_div a b)
multiplied-is mul.Mod a b = divided-is (int_eq b (pos 0)) (int_rem a b)

-- ---- expressions

module _ (name : Name → ℤ) where
  abbrev val : Tree → ℤ
  val e = value_with name (pos 0) e

  abbrev bad : Tree → Bool
  bad e = is_faulty (value_with name (pos 0)) e

  abbrev Is : Tree → Type 0
  Is e = computed name e ≡ unless_faulty (bad e) (val e)

  -- a value that isn't faulty has 64 bits
  pub value-fits : (e : Tree) → bad e ≡ false → leaves_64_bits (val e) ≡ false
  value-fits (node form at) h = or-right (shape_faulty (value_with name (pos 0)) form) (leaves_64_bits (shape_value name (pos 0) form)) h

  faulty-same : (e : Tree) → bad e ≡ (bad e || leaves_64_bits (val e))
  faulty-same (node form at) = sym (or-twice (shape_faulty (value_with name (pos 0)) form) (leaves_64_bits (shape_value name (pos 0) form)))

  whole : (e : Tree) → Is e → computed name e ≡ unless_faulty (bad e || leaves_64_bits (val e)) (val e)
  whole e h = h ∙ ap (λ b. unless_faulty b (val e)) (faulty-same e)

  after : {A : Type 0} (e : Tree) (c : Bool) (y : A) (go : ℤ → Option A) → Is e → (bad e ≡ false → go (val e) ≡ unless_faulty c y) → with_value (computed name e) go ≡ unless_faulty (bad e || c) y
  after e c y go h g = ap (λ o. with_value o go) h ∙ with-outcome (bad e) c (val e) y go g

  both : (a b : Tree) (go : ℤ → ℤ → Option ℤ) (c : Bool) (z : ℤ) → Is a → Is b → (bad a ≡ false → bad b ≡ false → go (val a) (val b) ≡ unless_faulty c z)
      → with_value (computed name a) (λ x. with_value (computed name b) (λ y. go x y)) ≡ unless_faulty ((bad a || bad b) || c) z
  both a b go c z h g k =
      after a (bad b || c) z (λ x. with_value (computed name b) (λ y. go x y)) h (λ u. after b c z (λ y. go (val a) y) g (λ v. k u v))
      ∙ ap (λ d. unless_faulty d z) (or-three (bad a) (bad b) c)

  both-truth : (a b : Tree) (test : ℤ → ℤ → Bool) → Is a → Is b
      → with_value (computed name a) (λ x. with_value (computed name b) (λ y. Some (of_bool (test x y)))) ≡ unless_faulty ((bad a || bad b) || leaves_64_bits (of_bool (test (val a) (val b)))) (of_bool (test (val a) (val b)))
  both-truth a b test h g = both a b (λ x y. Some (of_bool (test x y))) (leaves_64_bits (of_bool (test (val a) (val b)))) (of_bool (test (val a) (val b))) h g (λ u v. of-truth (test (val a) (val b)))

  -- the value of the first branch whose conditions hold, unless there is one before
  abbrev pick : Option ℤ → Branches → Option ℤ
  pick o no_branches = o
  pick o (branches cs e bs) = pick (or_first o (all_true name (pos 0) cs) (val e)) bs

  pick-kept : (x : ℤ) (bs : Branches) → pick (Some x) bs ≡ Some x
  pick-kept x no_branches = refl
  pick-kept x (branches cs e bs) = pick-kept x bs

  pick-is : (z : ℤ) (bs : Branches) → unwrap_or (pick None bs) z ≡ branch_value name (pos 0) z bs
  pick-is z no_branches = refl
  pick-is z (branches cs e bs) = go (all_true name (pos 0) cs) (pick-is z bs)
    where
      go : (b : Bool) → unwrap_or (pick None bs) z ≡ branch_value name (pos 0) z bs → unwrap_or (pick (or_first None b (val e)) bs) z ≡ (if b then val e else branch_value name (pos 0) z bs)
      go true h = ap (λ o. unwrap_or o z) (pick-kept (val e) bs)
      go false h = h

  branch-fits : (z : ℤ) (bs : Branches) → branch_faulty (value_with name (pos 0)) bs ≡ false → leaves_64_bits z ≡ false → leaves_64_bits (branch_value name (pos 0) z bs) ≡ false
  branch-fits z no_branches h g = g
  branch-fits z (branches cs e bs) h g =
      let front : (any_faulty (value_with name (pos 0)) cs || bad e) ≡ false = or-left (any_faulty (value_with name (pos 0)) cs || bad e) (branch_faulty (value_with name (pos 0)) bs) h in
      let rest : branch_faulty (value_with name (pos 0)) bs ≡ false = or-right (any_faulty (value_with name (pos 0)) cs || bad e) (branch_faulty (value_with name (pos 0)) bs) h in
      if-fits (all_true name (pos 0) cs) (val e) (branch_value name (pos 0) z bs) (value-fits e (or-right (any_faulty (value_with name (pos 0)) cs) (bad e) front)) (branch-fits z bs rest g)

  next-term : (z : ℤ) (minus : Bool) (e : Tree) (es : Terms) → Is e
      → (leaves_64_bits (added minus z (val e)) ≡ false → terms_computed name (added minus z (val e)) es ≡ unless_faulty (sum_faulty (value_with name (pos 0)) (added minus z (val e)) es || leaves_64_bits (sum_value name (pos 0) (added minus z (val e)) es)) (sum_value name (pos 0) (added minus z (val e)) es))
      → terms_computed name z (terms minus e es) ≡ unless_faulty (sum_faulty (value_with name (pos 0)) z (terms minus e es) || leaves_64_bits (sum_value name (pos 0) z (terms minus e es))) (sum_value name (pos 0) z (terms minus e es))
  next-term z minus e es h k =
      let n : ℤ = added minus z (val e) in
      let s : ℤ = sum_value name (pos 0) n es in
      let f : Bool = sum_faulty (value_with name (pos 0)) n es in
      after e (leaves_64_bits n || (f || leaves_64_bits s)) s (λ x. with_value (checked (added minus z x)) (λ y. terms_computed name y es)) h
      (λ u. ap (λ o. with_value o (λ y. terms_computed name y es)) (checked-leaves n) ∙ with-outcome (leaves_64_bits n) (f || leaves_64_bits s) n s (λ y. terms_computed name y es) k)
      ∙ ap (λ d. unless_faulty d s) (or-four (bad e) (leaves_64_bits n) f (leaves_64_bits s))

  next-factor : (z : ℤ) (op : MulOp) (e : Tree) (es : Factors) → Is e
      → (leaves_64_bits (multiplied op z (val e)) ≡ false → factors_computed name (multiplied op z (val e)) es ≡ unless_faulty (product_faulty (value_with name (pos 0)) (multiplied op z (val e)) es || leaves_64_bits (product_value name (pos 0) (multiplied op z (val e)) es)) (product_value name (pos 0) (multiplied op z (val e)) es))
      → factors_computed name z (factors op e es) ≡ unless_faulty (product_faulty (value_with name (pos 0)) z (factors op e es) || leaves_64_bits (product_value name (pos 0) z (factors op e es))) (product_value name (pos 0) z (factors op e es))
  next-factor z op e es h k =
      let n : ℤ = multiplied op z (val e) in
      let s : ℤ = product_value name (pos 0) n es in
      let f : Bool = product_faulty (value_with name (pos 0)) n es in
      let d : Bool = divides_by_0 op (val e) in
      after e ((d || leaves_64_bits n) || (f || leaves_64_bits s)) s (λ x. with_value (multiplied_checked op z x) (λ y. factors_computed name y es)) h
      (λ u. ap (λ o. with_value o (λ y. factors_computed name y es)) (multiplied-is op z (val e)) ∙ with-outcome (d || leaves_64_bits n) (f || leaves_64_bits s) n s (λ y. factors_computed name y es) (λ v. k (or-right d (leaves_64_bits n) v)))
      ∙ ap (λ b. unless_faulty b s) (or-five (bad e) d (leaves_64_bits n) f (leaves_64_bits s))

  next-branch : (o : Option ℤ) (cs : Trees) (e : Tree) (bs : Branches) → all_computed name true cs ≡ unless_faulty (any_faulty (value_with name (pos 0)) cs) (all_true name (pos 0) cs) → Is e
      → branches_computed name (or_first o (all_true name (pos 0) cs) (val e)) bs ≡ unless_faulty (branch_faulty (value_with name (pos 0)) bs) (pick (or_first o (all_true name (pos 0) cs) (val e)) bs)
      → branches_computed name o (branches cs e bs) ≡ unless_faulty (branch_faulty (value_with name (pos 0)) (branches cs e bs)) (pick o (branches cs e bs))
  next-branch o cs e bs g h k =
      let t : Bool = all_true name (pos 0) cs in
      let p : Option ℤ = pick (or_first o t (val e)) bs in
      let a : Bool = any_faulty (value_with name (pos 0)) cs in
      let b : Bool = branch_faulty (value_with name (pos 0)) bs in
      ap (λ w. with_value w (λ u. with_value (computed name e) (λ z. branches_computed name (or_first o u z) bs))) g
      ∙ with-outcome a (bad e || b) t p (λ u. with_value (computed name e) (λ z. branches_computed name (or_first o u z) bs)) (λ u. after e b p (λ z. branches_computed name (or_first o t z) bs) h (λ v. k))
      ∙ ap (λ d. unless_faulty d p) (or-three a (bad e) b)

  chosen : (bs : Branches) (e : Tree) → Is e
      → with_value (unless_faulty (branch_faulty (value_with name (pos 0)) bs) (pick None bs)) (λ p. with_value (computed name e) (λ z. Some (unwrap_or p z))) ≡ unless_faulty ((branch_faulty (value_with name (pos 0)) bs || bad e) || leaves_64_bits (branch_value name (pos 0) (val e) bs)) (branch_value name (pos 0) (val e) bs)
  chosen bs e h =
      let b : Bool = branch_faulty (value_with name (pos 0)) bs in
      let v : ℤ = branch_value name (pos 0) (val e) bs in
      with-outcome b (bad e || leaves_64_bits v) (pick None bs) v (λ p. with_value (computed name e) (λ z. Some (unwrap_or p z)))
      (λ u. after e (leaves_64_bits v) v (λ z. Some (unwrap_or (pick None bs) z)) h (λ w. ap Some (pick-is (val e) bs) ∙ kept (leaves_64_bits v) v (branch-fits (val e) bs u (value-fits e w))))
      ∙ ap (λ d. unless_faulty d v) (or-three b (bad e) (leaves_64_bits v))

  mutual
    pub computed_is : (e : Tree) → computed name e ≡ unless_faulty (is_faulty (value_with name (pos 0)) e) (value_with name (pos 0) e)
    computed_is (node form at) = shape-is form

    shape-is : (s : Shape) → shape_computed name s ≡ unless_faulty (shape_faulty (value_with name (pos 0)) s || leaves_64_bits (shape_value name (pos 0) s)) (shape_value name (pos 0) s)
    shape-is (truth b) = of-truth b
    shape-is (number z) = checked-leaves z
    shape-is (named nm) = checked-leaves (name nm)
    shape-is received = refl
    shape-is (paren e) = whole e (computed_is e)
    shape-is (negative e) = after e (leaves_64_bits (neg_ℤ (val e))) (neg_ℤ (val e)) (λ z. checked (neg_ℤ z)) (computed_is e) (λ u. checked-leaves (neg_ℤ (val e)))
    shape-is (positive e) = whole e (computed_is e)
    shape-is (negation e) = after e (leaves_64_bits (of_bool (not (is_true (val e))))) (of_bool (not (is_true (val e)))) (λ z. Some (of_bool (not (is_true z)))) (computed_is e) (λ u. of-truth (not (is_true (val e))))
    shape-is (absolute e) = after e (leaves_64_bits (pos (nat_abs (val e)))) (pos (nat_abs (val e))) (λ z. checked (pos (nat_abs z))) (computed_is e) (λ u. checked-leaves (pos (nat_abs (val e))))
    shape-is (least a b) = both a b (λ x y. Some (int_min x y)) (leaves_64_bits (int_min (val a) (val b))) (int_min (val a) (val b)) (computed_is a) (computed_is b) (λ u v. kept (leaves_64_bits (int_min (val a) (val b))) (int_min (val a) (val b)) (min-fits (val a) (val b) (value-fits a u) (value-fits b v)))
    shape-is (greatest a b) = both a b (λ x y. Some (int_max x y)) (leaves_64_bits (int_max (val a) (val b))) (int_max (val a) (val b)) (computed_is a) (computed_is b) (λ u v. kept (leaves_64_bits (int_max (val a) (val b))) (int_max (val a) (val b)) (max-fits (val a) (val b) (value-fits a u) (value-fits b v)))
    shape-is (sum e es) =
        after e (sum_faulty (value_with name (pos 0)) (val e) es || leaves_64_bits (sum_value name (pos 0) (val e) es)) (sum_value name (pos 0) (val e) es) (λ z. terms_computed name z es) (computed_is e) (λ u. terms-is (val e) es (value-fits e u))
        ∙ ap (λ d. unless_faulty d (sum_value name (pos 0) (val e) es)) (or-three (bad e) (sum_faulty (value_with name (pos 0)) (val e) es) (leaves_64_bits (sum_value name (pos 0) (val e) es)))
    shape-is (product e es) =
        after e (product_faulty (value_with name (pos 0)) (val e) es || leaves_64_bits (product_value name (pos 0) (val e) es)) (product_value name (pos 0) (val e) es) (λ z. factors_computed name z es) (computed_is e) (λ u. factors-is (val e) es (value-fits e u))
        ∙ ap (λ d. unless_faulty d (product_value name (pos 0) (val e) es)) (or-three (bad e) (product_faulty (value_with name (pos 0)) (val e) es) (leaves_64_bits (product_value name (pos 0) (val e) es)))
    shape-is (comparison a op b) = both-truth a b (compared op) (computed_is a) (computed_is b)
    shape-is (all_of es) =
        ap (λ o. with_value o (λ b. Some (of_bool b))) (all-is true es)
        ∙ with-outcome (any_faulty (value_with name (pos 0)) es) (leaves_64_bits (of_bool (all_true name (pos 0) es))) (all_true name (pos 0) es) (of_bool (all_true name (pos 0) es)) (λ b. Some (of_bool b)) (λ u. of-truth (all_true name (pos 0) es))
    shape-is (any_of es) =
        ap (λ o. with_value o (λ b. Some (of_bool b))) (any-is false es)
        ∙ with-outcome (any_faulty (value_with name (pos 0)) es) (leaves_64_bits (of_bool (any_true name (pos 0) es))) (any_true name (pos 0) es) (of_bool (any_true name (pos 0) es)) (λ b. Some (of_bool b)) (λ u. of-truth (any_true name (pos 0) es))
    shape-is (implication a b) = both-truth a b (λ x y. not (is_true x) || is_true y) (computed_is a) (computed_is b)
    shape-is (equivalence a b) = both-truth a b int_eq (computed_is a) (computed_is b)
    shape-is (choice bs e) =
        ap (λ o. with_value o (λ p. with_value (computed name e) (λ z. Some (unwrap_or p z)))) (branches-are None bs)
        ∙ chosen bs e (computed_is e)

    terms-is : (z : ℤ) (es : Terms) → leaves_64_bits z ≡ false → terms_computed name z es ≡ unless_faulty (sum_faulty (value_with name (pos 0)) z es || leaves_64_bits (sum_value name (pos 0) z es)) (sum_value name (pos 0) z es)
    terms-is z no_terms h = kept (leaves_64_bits z) z h
    terms-is z (terms minus e es) h = next-term z minus e es (computed_is e) (terms-is (added minus z (val e)) es)

    factors-is : (z : ℤ) (es : Factors) → leaves_64_bits z ≡ false → factors_computed name z es ≡ unless_faulty (product_faulty (value_with name (pos 0)) z es || leaves_64_bits (product_value name (pos 0) z es)) (product_value name (pos 0) z es)
    factors-is z no_factors h = kept (leaves_64_bits z) z h
    factors-is z (factors op e es) h = next-factor z op e es (computed_is e) (factors-is (multiplied op z (val e)) es)

    all-is : (b : Bool) (es : Trees) → all_computed name b es ≡ unless_faulty (any_faulty (value_with name (pos 0)) es) (b && all_true name (pos 0) es)
    all-is b no_trees = ap Some (and-true b)
    all-is b (trees e es) =
        after e (any_faulty (value_with name (pos 0)) es) (b && (is_true (val e) && all_true name (pos 0) es)) (λ z. all_computed name (b && is_true z) es) (computed_is e)
        (λ u. all-is (b && is_true (val e)) es ∙ ap (λ d. unless_faulty (any_faulty (value_with name (pos 0)) es) d) (and-three b (is_true (val e)) (all_true name (pos 0) es)))

    any-is : (b : Bool) (es : Trees) → any_computed name b es ≡ unless_faulty (any_faulty (value_with name (pos 0)) es) (b || any_true name (pos 0) es)
    any-is b no_trees = ap Some (or-false b)
    any-is b (trees e es) =
        after e (any_faulty (value_with name (pos 0)) es) (b || (is_true (val e) || any_true name (pos 0) es)) (λ z. any_computed name (b || is_true z) es) (computed_is e)
        (λ u. any-is (b || is_true (val e)) es ∙ ap (λ d. unless_faulty (any_faulty (value_with name (pos 0)) es) d) (or-three-back b (is_true (val e)) (any_true name (pos 0) es)))

    branches-are : (o : Option ℤ) (bs : Branches) → branches_computed name o bs ≡ unless_faulty (branch_faulty (value_with name (pos 0)) bs) (pick o bs)
    branches-are o no_branches = refl
    branches-are o (branches cs e bs) = next-branch o cs e bs (all-is true cs) (computed_is e) (branches-are (or_first o (all_true name (pos 0) cs) (val e)) bs)
