-- The value of an expression rests on the values of the names in it alone.
use Rattle.std.proofs.Common.{◌≡◌, ℤ, pos, neg_ℤ, not, ◌&&◌, ◌||◌, List, ◌++◌, inl, refl}
use Rattle.std.specs.Prelude.{nat_abs, if◌then◌else◌}
use Rattle.std.specs.Int.{int_min, int_max}
use Rattle.std.specs.Ordering.{int_eq}
use Rattle.cif_system.specs.Words.{Member}
use Rattle.cif_system.proofs.Picks.{append-left, append-right}
use Rattle.cif_ast.specs.Tree.{Tree, node, Shape, truth, number, named, received, paren, negative, positive, negation, absolute, least, greatest, sum, product, comparison, all_of, any_of, implication, equivalence, choice, Trees, no_trees, trees, Terms, no_terms, terms, Factors, no_factors, factors, Branches, no_branches, branches}
use Rattle.cif_ast.specs.declared.names.Name.{Name}
use Rattle.cif_source.specs.Uses.{names_in, shape_names, term_names, factor_names, names_in_all, branch_names}
use Rattle.cif_source.specs.Value.{of_bool, is_true, compared, multiplied, added, value_with, shape_value, sum_value, product_value, all_true, any_true, branch_value}

module _ (f g : Name → ℤ) (r : ℤ) where
  -- both give these names the same values
  abbrev pub Agree : List Name → Type 0
  Agree nms = (nm : Name) → Member nm nms → f nm ≡ g nm

  left : (xs ys : List Name) → Agree (xs ++ ys) → Agree xs
  left xs ys h nm m = h nm (append-left nm xs ys m)

  right : (xs ys : List Name) → Agree (xs ++ ys) → Agree ys
  right xs ys h nm m = h nm (append-right nm xs ys m)

  mutual
    pub value-agrees : (e : Tree) → Agree (names_in e) → value_with f r e ≡ value_with g r e
    value-agrees (node form at) h = shape-agrees form h

    shape-agrees : (s : Shape) → Agree (shape_names s) → shape_value f r s ≡ shape_value g r s
    shape-agrees (truth b) h = refl
    shape-agrees (number z) h = refl
    shape-agrees (named nm) h = h nm (inl refl)
    shape-agrees received h = refl
    shape-agrees (paren e) h = value-agrees e h
    shape-agrees (negative e) h = λ i. neg_ℤ (value-agrees e h i)
    shape-agrees (positive e) h = value-agrees e h
    shape-agrees (negation e) h = λ i. of_bool (not (is_true (value-agrees e h i)))
    shape-agrees (absolute e) h = λ i. pos (nat_abs (value-agrees e h i))
    shape-agrees (least a b) h = λ i. int_min (value-agrees a (left (names_in a) (names_in b) h) i) (value-agrees b (right (names_in a) (names_in b) h) i)
    shape-agrees (greatest a b) h = λ i. int_max (value-agrees a (left (names_in a) (names_in b) h) i) (value-agrees b (right (names_in a) (names_in b) h) i)
    shape-agrees (sum e es) h = λ i. sum-agrees (value-agrees e (left (names_in e) (term_names es) h) i) es (right (names_in e) (term_names es) h) i
    shape-agrees (product e es) h = λ i. product-agrees (value-agrees e (left (names_in e) (factor_names es) h) i) es (right (names_in e) (factor_names es) h) i
    shape-agrees (comparison a op b) h = λ i. of_bool (compared op (value-agrees a (left (names_in a) (names_in b) h) i) (value-agrees b (right (names_in a) (names_in b) h) i))
    shape-agrees (all_of es) h = λ i. of_bool (all-agree es h i)
    shape-agrees (any_of es) h = λ i. of_bool (any-agrees es h i)
    shape-agrees (implication a b) h = λ i. of_bool (not (is_true (value-agrees a (left (names_in a) (names_in b) h) i)) || is_true (value-agrees b (right (names_in a) (names_in b) h) i))
    shape-agrees (equivalence a b) h = λ i. of_bool (int_eq (value-agrees a (left (names_in a) (names_in b) h) i) (value-agrees b (right (names_in a) (names_in b) h) i))
    shape-agrees (choice bs e) h = λ i. branch-agrees (value-agrees e (right (branch_names bs) (names_in e) h) i) bs (left (branch_names bs) (names_in e) h) i

    sum-agrees : (z : ℤ) (es : Terms) → Agree (term_names es) → sum_value f r z es ≡ sum_value g r z es
    sum-agrees z no_terms h = refl
    sum-agrees z (terms minus e es) h = λ i. sum-agrees (added minus z (value-agrees e (left (names_in e) (term_names es) h) i)) es (right (names_in e) (term_names es) h) i

    product-agrees : (z : ℤ) (es : Factors) → Agree (factor_names es) → product_value f r z es ≡ product_value g r z es
    product-agrees z no_factors h = refl
    product-agrees z (factors op e es) h = λ i. product-agrees (multiplied op z (value-agrees e (left (names_in e) (factor_names es) h) i)) es (right (names_in e) (factor_names es) h) i

    all-agree : (es : Trees) → Agree (names_in_all es) → all_true f r es ≡ all_true g r es
    all-agree no_trees h = refl
    all-agree (trees e es) h = λ i. is_true (value-agrees e (left (names_in e) (names_in_all es) h) i) && all-agree es (right (names_in e) (names_in_all es) h) i

    any-agrees : (es : Trees) → Agree (names_in_all es) → any_true f r es ≡ any_true g r es
    any-agrees no_trees h = refl
    any-agrees (trees e es) h = λ i. is_true (value-agrees e (left (names_in e) (names_in_all es) h) i) || any-agrees es (right (names_in e) (names_in_all es) h) i

    branch-agrees : (z : ℤ) (bs : Branches) → Agree (branch_names bs) → branch_value f r z bs ≡ branch_value g r z bs
    branch-agrees z no_branches h = refl
    branch-agrees z (branches cs e bs) h =
        λ i. if (all-agree cs (left (names_in_all cs) (names_in e) (left (names_in_all cs ++ names_in e) (branch_names bs) h)) i)
        then (value-agrees e (right (names_in_all cs) (names_in e) (left (names_in_all cs ++ names_in e) (branch_names bs) h)) i)
        else (branch-agrees z bs (right (names_in_all cs ++ names_in e) (branch_names bs) h) i)
