-- An expression that has the kind that it is asked for, as have its operands, has that kind in the net, where the names in it
-- have theirs.
use Rattle.std.proofs.Common.{◌≡◌, ℕ, ◌≤◌, ℤ, pos, Bool, true, false, cond, inl, inr, List, [], ◌∷◌, ◌++◌, Option, refl, ◌∙◌, ap, subst, arith}
use Rattle.std.specs.Prelude.{◌&&◌}
use Rattle.std.specs.List.{list_any}
use Rattle.std.proofs.lemmas.Int.{ints}
use Rattle.cif_base.specs.declared.types.Ty.{Ty}
use Rattle.cif_ast.specs.Tree.{Tree, node, Shape, truth, number, named, received, paren, negative, positive, negation, absolute, least, greatest, sum, product, comparison, all_of, any_of, implication, equivalence, choice, Trees, no_trees, trees, Terms, no_terms, terms, Factors, no_factors, factors, Branches, no_branches, branches}
use Rattle.cif_ast.specs.Throughout.{HoldsInTree, HoldsInShape, HoldsInTrees, HoldsInTerms, HoldsInFactors, HoldsInBranches}
use Rattle.cif_ast.specs.SmallNumbers.{IsSmallNumber, small_parts}
use Rattle.cif_ast.specs.declared.names.Name.{Name}
use Rattle.cif_ast.specs.declared.expressions.CmpOp.{CmpOp}
use Rattle.cif_ast.specs.declared.expressions.CmpOp.TheVariants as cmp
use Rattle.cif_system.proofs.Lists.{false-true}
use Rattle.cif_system.proofs.Picks.{and-left, append-left, append-right}
use Rattle.cif_net_expr.specs.Tree.{NetExpr, net_expr, n_compare, NetExprs, no_net_exprs, net_exprs}
use Rattle.cif_net_model.specs.Exprs.{placed}
use Rattle.cif_net_model.specs.Net.{Net}
use Rattle.cif_net_model.specs.Kinds as net
use Rattle.cif_net_model.specs.Kinds.{in_32_bits, kinds_in, fits, form_fits, terms_fit, factors_fit, all_fit, branches_fit}
use Rattle.cif_source.specs.Components.{Component}
use Rattle.cif_source.specs.Lookup.{found}
use Rattle.cif_source.specs.Kinds.{Kind, bool_kind, int_kind, no_kind, enum_kind, same_kind, kind_at, kind_of, shape_kind, first_kind, Demand, demand, comparison_demands, operands, shape_operands, term_operands, factor_operands, truth_operands, branch_operands, other_demand}
use Rattle.cif_inst_model.specs.Translation.{conjunction, net_comparison, net_with, net_form, net_exprs_of, net_terms_of, net_factors_of, net_branches_of}
use Rattle.cif_inst_model.proofs.PathLaws.{path-told}
use Rattle.cif_inst_laws.specs.Kinds.{net_kind, AreMet, IsReceived}
use Rattle.cif_inst_laws.proofs.KindLaws.{both_fit, one-fits}

-- ---- kinds

abbrev pub is_valued : Kind → Bool
is_valued no_kind = false
is_valued _ = true

-- what is of one kind with something is of that kind
pub kind-told : (j k : Kind) → same_kind j k ≡ true → (is_valued j ≡ true) × (j ≡ k)
kind-told bool_kind bool_kind h = (refl, refl)
kind-told bool_kind int_kind h = absurd (false-true refl h)
kind-told bool_kind no_kind h = absurd (false-true refl h)
kind-told bool_kind (enum_kind ys) h = absurd (false-true refl h)
kind-told int_kind bool_kind h = absurd (false-true refl h)
kind-told int_kind int_kind h = (refl, refl)
kind-told int_kind no_kind h = absurd (false-true refl h)
kind-told int_kind (enum_kind ys) h = absurd (false-true refl h)
kind-told no_kind k h = absurd (false-true refl h)
kind-told (enum_kind xs) bool_kind h = absurd (false-true refl h)
kind-told (enum_kind xs) int_kind h = absurd (false-true refl h)
kind-told (enum_kind xs) no_kind h = absurd (false-true refl h)
kind-told (enum_kind xs) (enum_kind ys) h = (refl, ap enum_kind (path-told xs ys h))

-- ---- parts

number-small : (z : ℤ) → IsSmallNumber z → in_32_bits z ≡ true
number-small z (n, is, le) = ap in_32_bits is ∙ small n le
  where
    small : (n : ℕ) → n ≤ 2147483647 → in_32_bits (pos n) ≡ true
    small n le = grind (arith, ints)

pub all-and : (a b : Bool) → a ≡ true → b ≡ true → (a && b) ≡ true
all-and a b h g = ap (λ x. x && b) h ∙ g

-- the place does not matter
placed-fits : (n : Net) (o : Option Ty) (k : net.Kind) (at : ℕ) (x : NetExpr) → fits n o k x ≡ true → fits n o k (placed at x) ≡ true
placed-fits n o k at (net_expr f j) h = h

pub conjunction-fits : (n : Net) (o : Option Ty) (xs : NetExprs) → all_fit n o xs ≡ true → fits n o net.bool_kind (conjunction xs) ≡ true
conjunction-fits n o no_net_exprs h = refl
conjunction-fits n o (net_exprs x no_net_exprs) h = and-left (fits n o net.bool_kind x) true h
conjunction-fits n o (net_exprs (net_expr f at) (net_exprs y ys)) h = h

-- a `?` has the kind r, and what is received has the type of o
module _ (n : Net) (c : Component) (r : Kind) (o : Option Ty) (received-is : IsReceived n r o) (name : Name → ℕ → NetExpr)
    (name-fits : (nm : Name) (at : ℕ) → is_valued (kind_at (found c nm)) ≡ true → fits n o (net_kind (kind_at (found c nm))) (name nm at) ≡ true) where
  -- ---- demands

  met-left : (xs ys : List Demand) → AreMet c (xs ++ ys) → AreMet c xs
  met-left xs ys h d m = h d (append-left d xs ys m)

  met-right : (xs ys : List Demand) → AreMet c (xs ++ ys) → AreMet c ys
  met-right xs ys h d m = h d (append-right d xs ys m)

  met-first : (d : Demand) (ds : List Demand) → AreMet c (d ∷ ds) → same_kind (kind_of c d.received_kind d.value) d.kind ≡ true
  met-first d ds h = h d (inl refl)

  met-rest : (d : Demand) (ds : List Demand) → AreMet c (d ∷ ds) → AreMet c ds
  met-rest d ds h x m = h x (inr m)

  -- each value of these branches has the kind
  abbrev HaveKind : Kind → Branches → Type 0
  HaveKind k no_branches = Unit {0}
  HaveKind k (branches cs b bs) = (same_kind (kind_of c r b) k ≡ true) × HaveKind k bs

  -- where the first branch of another kind keeps its demand, there is none
  one-kind : (k : Kind) (e : Tree) (bs : Branches) → AreMet c (other_demand c r k e bs) → HaveKind k bs × (same_kind (kind_of c r e) k ≡ true)
  one-kind k e no_branches h = (tt, met-first (demand r k e) [] h)
  one-kind k e (branches cs b bs) h =
      (elim (same_kind (kind_of c r b) k) as (λ x. same_kind (kind_of c r b) k ≡ x
      → AreMet c (cond x (other_demand c r k e bs) (demand r k b ∷ [])) → HaveKind k (branches cs b bs) × (same_kind (kind_of c r e) k ≡ true)) [
        | true ↦ λ i g. let rest = one-kind k e bs g in ((i, rest.0), rest.1)
        | false ↦ λ i g. absurd (false-true i (met-first (demand r k b) [] g))
      ]) refl h

  -- ---- expressions

  abbrev Fits : Tree → Type 0
  Fits e = is_valued (kind_of c r e) ≡ true → fits n o (net_kind (kind_of c r e)) (net_with name e) ≡ true

  -- what is asked of an expression that fits its own kind
  as-asked : (e : Tree) (k : Kind) → Fits e → same_kind (kind_of c r e) k ≡ true → fits n o (net_kind k) (net_with name e) ≡ true
  as-asked e k f h =
      let is = kind-told (kind_of c r e) k h in
      subst (λ j. fits n o (net_kind j) (net_with name e) ≡ true) is.1 (f is.0)

  two-fit : (k : net.Kind) (a b : NetExpr) → fits n o k a ≡ true → fits n o k b ≡ true → (fits n o k a && fits n o k b) ≡ true
  two-fit k a b h g = all-and (fits n o k a) (fits n o k b) h g

  equal : (a b : Tree) → Fits a → Fits b → same_kind (kind_of c r b) (kind_of c r a) ≡ true → list_any (both_fit n o (net_with name a) (net_with name b)) (kinds_in n) ≡ true
  equal a b f g h =
      let is = kind-told (kind_of c r b) (kind_of c r a) h in
      one-fits n o received-is.carried (net_with name a) (net_with name b) (net_kind (kind_of c r a)) (f (subst (λ k. is_valued k ≡ true) is.1 is.0)) (as-asked b (kind_of c r a) g h)

  ordered : (a b : Tree) → Fits a → Fits b → AreMet c (demand r int_kind a ∷ demand r int_kind b ∷ []) → (fits n o net.int_kind (net_with name a) && fits n o net.int_kind (net_with name b)) ≡ true
  ordered a b f g h =
      two-fit net.int_kind (net_with name a) (net_with name b) (as-asked a int_kind f (met-first (demand r int_kind a) (demand r int_kind b ∷ []) h))
      (as-asked b int_kind g (met-first (demand r int_kind b) [] (met-rest (demand r int_kind a) (demand r int_kind b ∷ []) h)))

  compared : (a b : Tree) (op : CmpOp) → Fits a → Fits b → AreMet c (comparison_demands c r op a b) → form_fits n o net.bool_kind (n_compare (net_with name a) (net_comparison op) (net_with name b)) ≡ true
  compared a b cmp.Eq f g h = equal a b f g (met-first (demand r (kind_of c r a) b) [] h)
  compared a b cmp.Ne f g h = equal a b f g (met-first (demand r (kind_of c r a) b) [] h)
  compared a b cmp.Lt f g h = ordered a b f g h
  compared a b cmp.Le f g h = ordered a b f g h
  compared a b cmp.Gt f g h = ordered a b f g h
  compared a b cmp.Ge f g h = ordered a b f g h

  -- an operand with its own
  one-operand : (k : Kind) (e : Tree) → AreMet c (demand r k e ∷ operands c r e) → (AreMet c (operands c r e) → Fits e) → fits n o (net_kind k) (net_with name e) ≡ true
  one-operand k e m f = as-asked e k (f (met-rest (demand r k e) (operands c r e) m)) (met-first (demand r k e) (operands c r e) m)

  two-operands : (k : Kind) (a b : Tree) → AreMet c (demand r k a ∷ demand r k b ∷ (operands c r a ++ operands c r b)) → (AreMet c (operands c r a) → Fits a) → (AreMet c (operands c r b) → Fits b)
      → (fits n o (net_kind k) (net_with name a) && fits n o (net_kind k) (net_with name b)) ≡ true
  two-operands k a b m f g =
      let rest = met-rest (demand r k a) (demand r k b ∷ (operands c r a ++ operands c r b)) m in
      let both = met-rest (demand r k b) (operands c r a ++ operands c r b) rest in
      two-fit (net_kind k) (net_with name a) (net_with name b)
      (as-asked a k (f (met-left (operands c r a) (operands c r b) both)) (met-first (demand r k a) (demand r k b ∷ (operands c r a ++ operands c r b)) m))
      (as-asked b k (g (met-right (operands c r a) (operands c r b) both)) (met-first (demand r k b) (operands c r a ++ operands c r b) rest))

  -- an operand before others
  next-operand : (k : Kind) (e : Tree) (rest : List Demand) → AreMet c (demand r k e ∷ (operands c r e ++ rest)) → (AreMet c (operands c r e) → Fits e)
      → (fits n o (net_kind k) (net_with name e) ≡ true) × AreMet c rest
  next-operand k e rest m f =
      let own = met-rest (demand r k e) (operands c r e ++ rest) m in
      (as-asked e k (f (met-left (operands c r e) rest own)) (met-first (demand r k e) (operands c r e ++ rest) m), met-right (operands c r e) rest own)

  mutual
    tree-fits : (e : Tree) → AreMet c (operands c r e) → HoldsInTree small_parts e → Fits e
    tree-fits (node form at) m s v = shape-fits at form m s v

    shape-fits : (at : ℕ) (form : Shape) → AreMet c (shape_operands c r at form) → HoldsInShape small_parts form → is_valued (shape_kind c r form) ≡ true
        → fits n o (net_kind (shape_kind c r form)) (net_form name at form) ≡ true
    shape-fits at (truth b) m s v = refl
    shape-fits at (number z) m s v = number-small z s
    shape-fits at (named nm) m s v = name-fits nm at v
    shape-fits at received m s v = received-is.takes (λ none. false-true (ap is_valued none) v)
    shape-fits at (paren e) m s v = placed-fits n o (net_kind (kind_of c r e)) at (net_with name e) (tree-fits e m s v)
    shape-fits at (negative e) m s v = one-operand int_kind e m (λ q. tree-fits e q s)
    shape-fits at (positive e) m s v = one-operand int_kind e m (λ q. tree-fits e q s)
    shape-fits at (negation e) m s v = one-operand bool_kind e m (λ q. tree-fits e q s)
    shape-fits at (absolute e) m s v = one-operand int_kind e m (λ q. tree-fits e q s)
    shape-fits at (least a b) m s v = two-operands int_kind a b m (λ q. tree-fits a q s.0) (λ q. tree-fits b q s.1)
    shape-fits at (greatest a b) m s v = two-operands int_kind a b m (λ q. tree-fits a q s.0) (λ q. tree-fits b q s.1)
    shape-fits at (sum e es) m s v =
        let first = next-operand int_kind e (term_operands c r es) m (λ q. tree-fits e q s.0) in
        all-and (fits n o net.int_kind (net_with name e)) (terms_fit n o (net_terms_of name es)) first.0 (terms-fit es first.1 s.1)
    shape-fits at (product e es) m s v =
        let first = next-operand int_kind e (factor_operands c r es) m (λ q. tree-fits e q s.0) in
        all-and (fits n o net.int_kind (net_with name e)) (factors_fit n o (net_factors_of name es)) first.0 (factors-fit es first.1 s.1)
    shape-fits at (comparison a op b) m s v =
        let front = met-left (comparison_demands c r op a b ++ operands c r a) (operands c r b) m in
        compared a b op (tree-fits a (met-right (comparison_demands c r op a b) (operands c r a) front) s.0)
        (tree-fits b (met-right (comparison_demands c r op a b ++ operands c r a) (operands c r b) m) s.1)
        (met-left (comparison_demands c r op a b) (operands c r a) front)
    shape-fits at (all_of es) m s v = trees-fit es m s
    shape-fits at (any_of es) m s v = trees-fit es m s
    shape-fits at (implication a b) m s v = two-operands bool_kind a b m (λ q. tree-fits a q s.0) (λ q. tree-fits b q s.1)
    shape-fits at (equivalence a b) m s v = two-operands bool_kind a b m (λ q. tree-fits a q s.0) (λ q. tree-fits b q s.1)
    shape-fits at (choice bs e) m s v =
        let k : Kind = first_kind c r (kind_of c r e) bs in
        let front = met-left (branch_operands c r bs ++ operands c r e) (other_demand c r k e bs) m in
        let have = one-kind k e bs (met-right (branch_operands c r bs ++ operands c r e) (other_demand c r k e bs) m) in
        all-and (branches_fit n o (net_kind k) (net_branches_of name bs)) (fits n o (net_kind k) (net_with name e))
        (branches-fit bs k (met-left (branch_operands c r bs) (operands c r e) front) s.0 have.0)
        (as-asked e k (tree-fits e (met-right (branch_operands c r bs) (operands c r e) front) s.1) have.1)

    terms-fit : (es : Terms) → AreMet c (term_operands c r es) → HoldsInTerms small_parts es → terms_fit n o (net_terms_of name es) ≡ true
    terms-fit no_terms m s = refl
    terms-fit (terms minus e es) m s =
        let first = next-operand int_kind e (term_operands c r es) m (λ q. tree-fits e q s.0) in
        all-and (fits n o net.int_kind (net_with name e)) (terms_fit n o (net_terms_of name es)) first.0 (terms-fit es first.1 s.1)

    factors-fit : (es : Factors) → AreMet c (factor_operands c r es) → HoldsInFactors small_parts es → factors_fit n o (net_factors_of name es) ≡ true
    factors-fit no_factors m s = refl
    factors-fit (factors op e es) m s =
        let first = next-operand int_kind e (factor_operands c r es) m (λ q. tree-fits e q s.0) in
        all-and (fits n o net.int_kind (net_with name e)) (factors_fit n o (net_factors_of name es)) first.0 (factors-fit es first.1 s.1)

    trees-fit : (es : Trees) → AreMet c (truth_operands c r es) → HoldsInTrees small_parts es → all_fit n o (net_exprs_of name es) ≡ true
    trees-fit no_trees m s = refl
    trees-fit (trees e es) m s =
        let first = next-operand bool_kind e (truth_operands c r es) m (λ q. tree-fits e q s.0) in
        all-and (fits n o net.bool_kind (net_with name e)) (all_fit n o (net_exprs_of name es)) first.0 (trees-fit es first.1 s.1)

    branches-fit : (bs : Branches) (k : Kind) → AreMet c (branch_operands c r bs) → HoldsInBranches small_parts bs → HaveKind k bs → branches_fit n o (net_kind k) (net_branches_of name bs) ≡ true
    branches-fit no_branches k m s have = refl
    branches-fit (branches cs b bs) k m s have =
        let front = met-left (truth_operands c r cs ++ operands c r b) (branch_operands c r bs) m in
        all-and (fits n o net.bool_kind (conjunction (net_exprs_of name cs)) && fits n o (net_kind k) (net_with name b)) (branches_fit n o (net_kind k) (net_branches_of name bs))
        (all-and (fits n o net.bool_kind (conjunction (net_exprs_of name cs))) (fits n o (net_kind k) (net_with name b))
        (conjunction-fits n o (net_exprs_of name cs) (trees-fit cs (met-left (truth_operands c r cs) (operands c r b) front) s.1))
        (as-asked b k (tree-fits b (met-right (truth_operands c r cs) (operands c r b) front) s.2) have.0))
        (branches-fit bs k (met-right (truth_operands c r cs ++ operands c r b) (branch_operands c r bs) m) s.3 have.1)

  -- an expression that has the kind that it is asked for has it in the net
  pub expr-fits : (k : Kind) (e : Tree) → AreMet c (demand r k e ∷ operands c r e) → HoldsInTree small_parts e → fits n o (net_kind k) (net_with name e) ≡ true
  expr-fits k e m s = one-operand k e m (λ q. tree-fits e q s)
