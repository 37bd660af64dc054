-- What is told of an expression answers all that is asked of its operands.
use Rattle.std.proofs.Common.{◌≡◌, ℕ, Bool, true, false, List, [], ◌∷◌, ◌++◌, Option, Some, None, refl, sym, ap, subst, ◌∙◌, append_assoc}
use Rattle.std.specs.Prelude.{unwrap_or, option_map, Result, Ok, Err, IfOk, if◌then◌else◌}
use Rattle.cif_ast.specs.Tree.{Tree, node, Shape, truth, number, named, received, paren, negative, positive, negation, absolute, least, greatest, sum, product, comparison, all_of, any_of, implication, equivalence, choice, Trees, no_trees, trees, Terms, no_terms, terms, Factors, no_factors, factors, Branches, no_branches, branches}
use Rattle.cif_ast.specs.declared.expressions.CmpOp.{CmpOp}
use Rattle.cif_ast.specs.declared.expressions.CmpOp.TheVariants as cmp
use Rattle.cif_source.specs.Source.{tree_at}
use Rattle.cif_source.specs.Components.{Component}
use Rattle.cif_source.specs.Kinds.{Kind, bool_kind, int_kind, same_kind, kind_of, shape_kind, first_kind, Demand, demand, comparison_demands, operands, shape_operands, term_operands, factor_operands, truth_operands, branch_operands, other_demand}
use Rattle.cif_types_kinds.specs.Faults.{unless, or_later, then_asked, right_kind, left_fault, first_of, fault, shape_fault, term_fault, factor_fault, truth_fault, branch_fault}
use Rattle.cif_types_kinds.proofs.MetLaws.{Answers, nothing, one, next, asked, moved, two, stopped, regrouped, later-end, later-assoc}

-- ---- the first branch

pub first-stays : (c : Component) (r k : Kind) (bs : Branches) → first_of c r (Some k) bs ≡ Some k
first-stays c r k no_branches = refl
first-stays c r k (branches cs e bs) = first-stays c r k bs

-- the kind of an `if` is its first branch's
pub first_is : (c : Component) (r k : Kind) (bs : Branches) → first_kind c r k bs ≡ unwrap_or (first_of c r None bs) k
first_is c r k no_branches = refl
first_is c r k (branches cs e bs) = sym (ap (λ o. unwrap_or o k) (first-stays c r (kind_of c r e) bs))

-- the kind of an `if` whose last branch is asked for it
pub if_kind : {K E : Type 0} (c : Component) (r : Kind) (F : K → Kind) (bs : Branches) (e : Tree) (first : Option K) (x : Result K E) → option_map F first ≡ first_of c r None bs
    → IfOk x (λ k. F k ≡ unwrap_or (option_map F first) (kind_of c r e)) → IfOk x (λ k. F k ≡ shape_kind c r (choice bs e))
if_kind c r F bs e first (Ok k) h g = g ∙ ap (λ o. unwrap_or o (kind_of c r e)) h ∙ sym (first_is c r (kind_of c r e) bs)
if_kind c r F bs e first (Err x) h g = tt

module _ (c : Component) (r : Kind) where
  operands-two : (k : Kind) (a b : Tree) → Answers c (fault c r a) (operands c r a) → Answers c (fault c r b) (operands c r b)
      → Answers c (or_later (then_asked c r k a (fault c r a)) (then_asked c r k b (fault c r b))) (demand r k a ∷ demand r k b ∷ operands c r a ++ operands c r b)
  operands-two k a b x y = two c (fault c r a) (fault c r b) (demand r k a) (demand r k b) (operands c r a) (operands c r b) x y

  pub operand-one : (k : Kind) (e : Tree) → Answers c (fault c r e) (operands c r e) → Answers c (then_asked c r k e (fault c r e)) (demand r k e ∷ operands c r e)
  operand-one k e x = asked c (fault c r e) (demand r k e) (operands c r e) x

  equal-operands : (a b : Tree) → Answers c (fault c r a) (operands c r a) → Answers c (fault c r b) (operands c r b)
      → Answers c (or_later (fault c r a) (then_asked c r (kind_of c r a) b (fault c r b))) (demand r (kind_of c r a) b ∷ operands c r a ++ operands c r b)
  equal-operands a b x y =
      moved c (or_later (fault c r a) (then_asked c r (kind_of c r a) b (fault c r b))) (demand r (kind_of c r a) b) (operands c r a) (operands c r b)
      (next c (fault c r a) (then_asked c r (kind_of c r a) b (fault c r b)) (operands c r a) (demand r (kind_of c r a) b ∷ operands c r b) x (operand-one (kind_of c r a) b y))

  comparison-answers : (op : CmpOp) (a b : Tree) → Answers c (fault c r a) (operands c r a) → Answers c (fault c r b) (operands c r b)
      → Answers c (or_later (left_fault c r op a (fault c r a)) (then_asked c r (right_kind c r op a) b (fault c r b))) (comparison_demands c r op a b ++ operands c r a ++ operands c r b)
  comparison-answers cmp.Eq a b x y = equal-operands a b x y
  comparison-answers cmp.Ne a b x y = equal-operands a b x y
  comparison-answers cmp.Lt a b x y = operands-two int_kind a b x y
  comparison-answers cmp.Le a b x y = operands-two int_kind a b x y
  comparison-answers cmp.Gt a b x y = operands-two int_kind a b x y
  comparison-answers cmp.Ge a b x y = operands-two int_kind a b x y

  -- ---- the branches

  -- the last branch alone
  last-answers : (k : Kind) (e : Tree) → Answers c (fault c r e) (operands c r e) → Answers c (then_asked c r k e (fault c r e)) (operands c r e ++ demand r k e ∷ [])
  last-answers k e x = next c (fault c r e) (unless (same_kind (kind_of c r e) k) (tree_at e)) (operands c r e) (demand r k e ∷ []) x (one c (demand r k e))

  along : (xs ys zs ws vs : List Demand) → xs ++ (ys ++ ((zs ++ ws) ++ vs)) ≡ (((xs ++ ys) ++ zs) ++ ws) ++ vs
  along xs ys zs ws vs = simp append_assoc

  -- the first of further branches
  module _ (k : Kind) (cs : Trees) (b e : Tree) (bs : Branches) (rest : Option ℕ) where
    abbrev further : List Demand
    further = (branch_operands c r bs ++ operands c r e) ++ other_demand c r k e bs

    abbrev Told : Bool → Type 0
    Told same =
        Answers c (or_later (or_later (truth_fault c r cs) (or_later (or_later (fault c r b) (unless same (tree_at b))) (branch_fault c r (Some k) bs))) rest)
        ((((truth_operands c r cs ++ operands c r b) ++ branch_operands c r bs) ++ operands c r e) ++ (if same then other_demand c r k e bs else demand r k b ∷ []))

    flat : (o p q s : Option ℕ) → or_later o (or_later p (or_later q s)) ≡ or_later (or_later o (or_later p q)) s
    flat o p q s = sym (later-assoc o (or_later p q) s ∙ ap (or_later o) (later-assoc p q s))

    pub branch-answers : Answers c (truth_fault c r cs) (truth_operands c r cs) → Answers c (fault c r b) (operands c r b) → Answers c (or_later (branch_fault c r (Some k) bs) rest) further
        → Told (same_kind (kind_of c r b) k)
    branch-answers x y z =
        (elim (same_kind (kind_of c r b) k) as (λ s. same_kind (kind_of c r b) k ≡ s → Told s) [
          | true ↦ λ h.
              regrouped c (or_later (truth_fault c r cs) (or_later (fault c r b) (or_later (branch_fault c r (Some k) bs) rest)))
              (or_later (or_later (truth_fault c r cs) (or_later (or_later (fault c r b) None) (branch_fault c r (Some k) bs))) rest)
              (truth_operands c r cs ++ (operands c r b ++ further))
              ((((truth_operands c r cs ++ operands c r b) ++ branch_operands c r bs) ++ operands c r e) ++ other_demand c r k e bs)
              (flat (truth_fault c r cs) (fault c r b) (branch_fault c r (Some k) bs) rest
              ∙ ap (λ o. or_later (or_later (truth_fault c r cs) (or_later o (branch_fault c r (Some k) bs))) rest) (sym (later-end (fault c r b))))
              (along (truth_operands c r cs) (operands c r b) (branch_operands c r bs) (operands c r e) (other_demand c r k e bs))
              (next c (truth_fault c r cs) (or_later (fault c r b) (or_later (branch_fault c r (Some k) bs) rest)) (truth_operands c r cs) (operands c r b ++ further) x
              (next c (fault c r b) (or_later (branch_fault c r (Some k) bs) rest) (operands c r b) further y z))
          | false ↦ λ h.
              subst (λ o. Answers c o ((((truth_operands c r cs ++ operands c r b) ++ branch_operands c r bs) ++ operands c r e) ++ demand r k b ∷ []))
              (flat (truth_fault c r cs) (or_later (fault c r b) (Some (tree_at b))) (branch_fault c r (Some k) bs) rest)
              (stopped c (truth_fault c r cs) (fault c r b) (or_later (branch_fault c r (Some k) bs) rest) (demand r k b) (truth_operands c r cs) (operands c r b) (branch_operands c r bs) (operands c r e) h x y)
        ]) refl

mutual
  pub tree-answers : (c : Component) (r : Kind) (e : Tree) → Answers c (fault c r e) (operands c r e)
  tree-answers c r (node form at) = shape-answers c r at form

  shape-answers : (c : Component) (r : Kind) (at : ℕ) (s : Shape) → Answers c (shape_fault c r at s) (shape_operands c r at s)
  shape-answers c r at (truth b) = nothing c
  shape-answers c r at (number z) = nothing c
  shape-answers c r at (named nm) = nothing c
  shape-answers c r at received = one c (demand r r (node received at))
  shape-answers c r at (paren e) = tree-answers c r e
  shape-answers c r at (negative e) = operand-one c r int_kind e (tree-answers c r e)
  shape-answers c r at (positive e) = operand-one c r int_kind e (tree-answers c r e)
  shape-answers c r at (negation e) = operand-one c r bool_kind e (tree-answers c r e)
  shape-answers c r at (absolute e) = operand-one c r int_kind e (tree-answers c r e)
  shape-answers c r at (least a b) = operands-two c r int_kind a b (tree-answers c r a) (tree-answers c r b)
  shape-answers c r at (greatest a b) = operands-two c r int_kind a b (tree-answers c r a) (tree-answers c r b)
  shape-answers c r at (sum e es) =
      next c (then_asked c r int_kind e (fault c r e)) (term_fault c r es) (demand r int_kind e ∷ operands c r e) (term_operands c r es) (operand-one c r int_kind e (tree-answers c r e)) (term-answers c r es)
  shape-answers c r at (product e es) =
      next c (then_asked c r int_kind e (fault c r e)) (factor_fault c r es) (demand r int_kind e ∷ operands c r e) (factor_operands c r es) (operand-one c r int_kind e (tree-answers c r e)) (factor-answers c r es)
  shape-answers c r at (comparison a op b) = comparison-answers c r op a b (tree-answers c r a) (tree-answers c r b)
  shape-answers c r at (all_of es) = truth-answers c r es
  shape-answers c r at (any_of es) = truth-answers c r es
  shape-answers c r at (implication a b) = operands-two c r bool_kind a b (tree-answers c r a) (tree-answers c r b)
  shape-answers c r at (equivalence a b) = operands-two c r bool_kind a b (tree-answers c r a) (tree-answers c r b)
  shape-answers c r at (choice bs e) = choice-answers c r e (tree-answers c r e) bs

  term-answers : (c : Component) (r : Kind) (es : Terms) → Answers c (term_fault c r es) (term_operands c r es)
  term-answers c r no_terms = nothing c
  term-answers c r (terms minus e es) =
      next c (then_asked c r int_kind e (fault c r e)) (term_fault c r es) (demand r int_kind e ∷ operands c r e) (term_operands c r es) (operand-one c r int_kind e (tree-answers c r e)) (term-answers c r es)

  factor-answers : (c : Component) (r : Kind) (es : Factors) → Answers c (factor_fault c r es) (factor_operands c r es)
  factor-answers c r no_factors = nothing c
  factor-answers c r (factors op e es) =
      next c (then_asked c r int_kind e (fault c r e)) (factor_fault c r es) (demand r int_kind e ∷ operands c r e) (factor_operands c r es) (operand-one c r int_kind e (tree-answers c r e)) (factor-answers c r es)

  truth-answers : (c : Component) (r : Kind) (es : Trees) → Answers c (truth_fault c r es) (truth_operands c r es)
  truth-answers c r no_trees = nothing c
  truth-answers c r (trees e es) =
      next c (then_asked c r bool_kind e (fault c r e)) (truth_fault c r es) (demand r bool_kind e ∷ operands c r e) (truth_operands c r es) (operand-one c r bool_kind e (tree-answers c r e)) (truth-answers c r es)

  choice-answers : (c : Component) (r : Kind) (e : Tree) → Answers c (fault c r e) (operands c r e) → (bs : Branches)
      → Answers c (or_later (branch_fault c r None bs) (then_asked c r (unwrap_or (first_of c r None bs) (kind_of c r e)) e (fault c r e)))
      ((branch_operands c r bs ++ operands c r e) ++ other_demand c r (first_kind c r (kind_of c r e) bs) e bs)
  choice-answers c r e x no_branches = last-answers c r (kind_of c r e) e x
  choice-answers c r e x (branches cs b bs) =
      branch-answers c r (kind_of c r b) cs b e bs (then_asked c r (unwrap_or (first_of c r (Some (kind_of c r b)) bs) (kind_of c r e)) e (fault c r e)) (truth-answers c r cs) (tree-answers c r b)
      (further-answers c r (kind_of c r b) e x bs)

  further-answers : (c : Component) (r k : Kind) (e : Tree) → Answers c (fault c r e) (operands c r e) → (bs : Branches)
      → Answers c (or_later (branch_fault c r (Some k) bs) (then_asked c r (unwrap_or (first_of c r (Some k) bs) (kind_of c r e)) e (fault c r e)))
      ((branch_operands c r bs ++ operands c r e) ++ other_demand c r k e bs)
  further-answers c r k e x no_branches = last-answers c r k e x
  further-answers c r k e x (branches cs b bs) =
      branch-answers c r k cs b e bs (then_asked c r (unwrap_or (first_of c r (Some k) bs) (kind_of c r e)) e (fault c r e)) (truth-answers c r cs) (tree-answers c r b) (further-answers c r k e x bs)
