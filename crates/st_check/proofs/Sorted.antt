-- An expression that has a sort has no undeclared name, so that names are asked for only where there is no sort.
use Rattle.std.proofs.Common.{◌≡◌, Bool, true, false, ◌&&◌, List, Option, Some, None, refl, ap, ◌∙◌}
use Rattle.std.specs.Prelude.{is_some, option_map, if◌then◌else◌}
use Rattle.grammar.proofs.Texts.{and_left, and_right}
use Rattle.st_ast.specs.Checks.{Sort, boolean, integer, sort_of_type, is_boolean, is_integer, is_same_sort, given, sort_of, all_integer_factors, all_integers, all_booleans, knows, knows_factors, knows_terms, knows_all, knows_conditions, boolean_conditions}
use Rattle.st_ast.specs.Names.{declared}
use Rattle.st_ast.specs.Tree.{Expr, Exprs, Factors, Terms, truth, number, named, paren, negation, complement, product, sum, order, equal, all_of, odd_of, any_of, absolute, least, greatest, selection, no_exprs, exprs, no_factors, factors, no_terms, terms, Branches, no_branches, branches}
use Rattle.st_ast.specs.declared.tree.StVar.{StVar}

-- ---- sorts

given_holds : (b : Bool) (s : Sort) → is_some (given b s) ≡ true → b ≡ true
given_holds true s h = refl
given_holds false s h = h

chosen_holds : (b : Bool) (o : Option Sort) → is_some (if b then o else None) ≡ true → b ≡ true
chosen_holds true o h = refl
chosen_holds false o h = h

name_known : (o : Option StVar) → is_some (option_map (λ (v : StVar). sort_of_type v.ty) o) ≡ true → is_some o ≡ true
name_known (Some v) h = refl
name_known None h = h

-- where the sorts of parts make their names known, those of the whole are known too
both_known : (p q a b : Bool) → (p ≡ true → a ≡ true) → (q ≡ true → b ≡ true) → (p && q) ≡ true → (a && b) ≡ true
both_known p q a b f g h = ap (λ x. x && b) (f (and_left p q h)) ∙ g (and_right p q h)

integer_known : (o : Option Sort) (a : Bool) → (is_some o ≡ true → a ≡ true) → is_integer o ≡ true → a ≡ true
integer_known (Some s) a f h = f refl
integer_known None a f h = f h

boolean_known : (o : Option Sort) (a : Bool) → (is_some o ≡ true → a ≡ true) → is_boolean o ≡ true → a ≡ true
boolean_known (Some s) a f h = f refl
boolean_known None a f h = f h

integers_known : (o u : Option Sort) (a b : Bool) → (is_some o ≡ true → a ≡ true) → (is_some u ≡ true → b ≡ true)
    → (is_integer o && is_integer u) ≡ true → (a && b) ≡ true
integers_known o u a b f g h = both_known (is_integer o) (is_integer u) a b (integer_known o a f) (integer_known u b g) h

same_known : (o u : Option Sort) (a b : Bool) → (is_some o ≡ true → a ≡ true) → (is_some u ≡ true → b ≡ true)
    → is_same_sort o u ≡ true → (a && b) ≡ true
same_known (Some boolean) u a b f g h = ap (λ x. x && b) (f refl) ∙ boolean_known u b g h
same_known (Some integer) u a b f g h = ap (λ x. x && b) (f refl) ∙ integer_known u b g h
same_known None u a b f g h = absurd cc

-- ---- expressions

module _ (vars : List StVar) where
  mutual
    pub sorted_known : (e : Expr) → is_some (sort_of vars e) ≡ true → knows vars e ≡ true
    sorted_known (truth b) h = refl
    sorted_known (number z) h = refl
    sorted_known (named x) h = name_known (declared vars x) h
    sorted_known (paren e) h = sorted_known e h
    sorted_known (negation e) h = integer_known (sort_of vars e) _ (sorted_known e) (given_holds _ integer h)
    sorted_known (complement e) h = boolean_known (sort_of vars e) _ (sorted_known e) (given_holds _ boolean h)
    sorted_known (product e rest) h =
        both_known (is_integer (sort_of vars e)) (all_integer_factors vars rest) (knows vars e) (knows_factors vars rest)
        (integer_known (sort_of vars e) (knows vars e) (sorted_known e)) (factors_known rest) (given_holds _ integer h)
    sorted_known (sum e rest) h =
        both_known (is_integer (sort_of vars e)) (all_integers vars rest) (knows vars e) (knows_terms vars rest)
        (integer_known (sort_of vars e) (knows vars e) (sorted_known e)) (terms_known rest) (given_holds _ integer h)
    sorted_known (order a op b) h =
        integers_known (sort_of vars a) (sort_of vars b) (knows vars a) (knows vars b) (sorted_known a) (sorted_known b) (given_holds _ boolean h)
    sorted_known (equal a same b) h =
        same_known (sort_of vars a) (sort_of vars b) (knows vars a) (knows vars b) (sorted_known a) (sorted_known b) (given_holds _ boolean h)
    sorted_known (all_of es) h = operands_known es (given_holds _ boolean h)
    sorted_known (odd_of es) h = operands_known es (given_holds _ boolean h)
    sorted_known (any_of es) h = operands_known es (given_holds _ boolean h)
    sorted_known (absolute e) h = integer_known (sort_of vars e) _ (sorted_known e) (given_holds _ integer h)
    sorted_known (least a b) h =
        integers_known (sort_of vars a) (sort_of vars b) (knows vars a) (knows vars b) (sorted_known a) (sorted_known b) (given_holds _ integer h)
    sorted_known (greatest a b) h =
        integers_known (sort_of vars a) (sort_of vars b) (knows vars a) (knows vars b) (sorted_known a) (sorted_known b) (given_holds _ integer h)
    sorted_known (selection g a b) h =
        both_known (is_boolean (sort_of vars g)) (is_same_sort (sort_of vars a) (sort_of vars b)) (knows vars g) (knows vars a && knows vars b)
        (boolean_known (sort_of vars g) (knows vars g) (sorted_known g))
        (same_known (sort_of vars a) (sort_of vars b) (knows vars a) (knows vars b) (sorted_known a) (sorted_known b))
        (chosen_holds _ (sort_of vars a) h)

    factors_known : (fs : Factors) → all_integer_factors vars fs ≡ true → knows_factors vars fs ≡ true
    factors_known no_factors h = refl
    factors_known (factors op e fs) h =
        both_known (is_integer (sort_of vars e)) (all_integer_factors vars fs) (knows vars e) (knows_factors vars fs)
        (integer_known (sort_of vars e) (knows vars e) (sorted_known e)) (factors_known fs) h

    terms_known : (ts : Terms) → all_integers vars ts ≡ true → knows_terms vars ts ≡ true
    terms_known no_terms h = refl
    terms_known (terms minus e ts) h =
        both_known (is_integer (sort_of vars e)) (all_integers vars ts) (knows vars e) (knows_terms vars ts)
        (integer_known (sort_of vars e) (knows vars e) (sorted_known e)) (terms_known ts) h

    operands_known : (es : Exprs) → all_booleans vars es ≡ true → knows_all vars es ≡ true
    operands_known no_exprs h = refl
    operands_known (exprs e es) h =
        both_known (is_boolean (sort_of vars e)) (all_booleans vars es) (knows vars e) (knows_all vars es)
        (boolean_known (sort_of vars e) (knows vars e) (sorted_known e)) (operands_known es) h

  -- ---- what statements ask of their expressions

  -- a condition that is a BOOL
  pub condition_known : (e : Expr) → is_boolean (sort_of vars e) ≡ true → knows vars e ≡ true
  condition_known e h = boolean_known (sort_of vars e) (knows vars e) (sorted_known e) h

  pub conditions_known : (bs : Branches) → boolean_conditions vars bs ≡ true → knows_conditions vars bs ≡ true
  conditions_known no_branches h = refl
  conditions_known (branches c ss bs) h =
      both_known (is_boolean (sort_of vars c)) (boolean_conditions vars bs) (knows vars c) (knows_conditions vars bs)
      (condition_known c) (conditions_known bs) h

  -- a value that is of the sort of its target
  pub value_known : (o : Option Sort) (e : Expr) → is_same_sort o (sort_of vars e) ≡ true → knows vars e ≡ true
  value_known (Some boolean) e h = boolean_known (sort_of vars e) (knows vars e) (sorted_known e) h
  value_known (Some integer) e h = integer_known (sort_of vars e) (knows vars e) (sorted_known e) h
  value_known None e h = absurd cc
