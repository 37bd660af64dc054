-- In components that are written as one body, types and expressions have the same kinds, and operands are asked for the same.
use Rattle.std.proofs.Common.{◌≡◌, ℕ, zero, suc, [], ◌∷◌, ◌++◌, length, refl, sym, ◌∙◌, ap}
use Rattle.std.specs.Prelude.{flat_map, if◌then◌else◌}
use Rattle.cif_ast.specs.Tree.{Tree, node, Shape, truth, number, named, received, paren, negative, positive, negation, absolute, least, greatest, sum, product, comparison, all_of, any_of, implication, equivalence, choice, Trees, no_trees, trees, Terms, no_terms, terms, Factors, no_factors, factors, Branches, no_branches, branches}
use Rattle.cif_ast.specs.declared.expressions.CmpOp.{CmpOp}
use Rattle.cif_ast.specs.declared.expressions.CmpOp.TheVariants as cmp
use Rattle.cif_source.specs.Source.{TypeTree, named_type, type_decl, const_decl, alg_decl, input_decl, disc_decl, alg_param}
use Rattle.cif_source.specs.Components.{Component, specification_of, as_written, declared, parameter}
use Rattle.cif_source.specs.Lookup.{Reached, reached, found}
use Rattle.cif_source.specs.Objects.{bodies, decls_of}
use Rattle.cif_source.specs.Kinds.{Kind, bool_kind, int_kind, no_kind, same_kind, type_kind_at, type_kind_by, type_kind_within, type_kind, kind_at, kind_of, shape_kind, first_kind, demand, comparison_demands, operands, shape_operands, term_operands, factor_operands, truth_operands, branch_operands, other_demand}
use Rattle.cif_source.specs.Demands.{asked_for}
use Rattle.cif_inst_bodies.specs.Alike.{AreWrittenAlike}
use Rattle.cif_inst_bodies.proofs.Alike.{written, root-written, found-same, found-alike}

-- ---- types

module _ (more : Component → TypeTree → Kind) (same : (c : Component) (ty : TypeTree) → more c ty ≡ more (as_written c) ty) where
  type_at-written : (r : Reached) → type_kind_at more r ≡ type_kind_at more (written r)
  type_at-written (reached (c, declared (type_decl n ty))) = same c ty
  type_at-written _ = refl

  type_by-written : (c : Component) (ty : TypeTree) → type_kind_by more c ty ≡ type_kind_by more (as_written c) ty
  type_by-written c (named_type nm) = type_at-written (found c nm) ∙ ap (type_kind_at more) (found-same c nm) ∙ sym (type_at-written (found (as_written c) nm))
  type_by-written c _ = refl

within-written : (n : ℕ) (c : Component) (ty : TypeTree) → type_kind_within n c ty ≡ type_kind_within n (as_written c) ty
within-written zero c ty = type_by-written (λ d u. no_kind) (λ d u. refl) c ty
within-written (suc n) c ty = type_by-written (type_kind_within n) (within-written n) c ty

pub type-written : (c : Component) (ty : TypeTree) → type_kind c ty ≡ type_kind (as_written c) ty
type-written c ty =
    within-written (length (flat_map decls_of (bodies (specification_of c)))) c ty
    ∙ ap (λ s. type_kind_within (length (flat_map decls_of (bodies s))) (as_written c) ty) (sym (root-written c))

kind_at-written : (r : Reached) → kind_at r ≡ kind_at (written r)
kind_at-written (reached (c, declared (const_decl ty n e))) = type-written c ty
kind_at-written (reached (c, declared (alg_decl ty n e))) = type-written c ty
kind_at-written (reached (c, declared (input_decl ty n))) = type-written c ty
kind_at-written (reached (c, declared (disc_decl ty n e))) = type-written c ty
kind_at-written (reached (c, parameter k (alg_param ty n))) = type-written c ty
kind_at-written _ = refl

pub kind_at-same : (r s : Reached) → written r ≡ written s → kind_at r ≡ kind_at s
kind_at-same r s h = kind_at-written r ∙ ap kind_at h ∙ sym (kind_at-written s)

-- ---- expressions

module _ (c d : Component) (h : AreWrittenAlike c d) where
  pub type-same : (ty : TypeTree) → type_kind c ty ≡ type_kind d ty
  type-same ty = type-written c ty ∙ ap (λ w. type_kind w ty) h ∙ sym (type-written d ty)

  mutual
    pub kind-same : (r : Kind) (e : Tree) → kind_of c r e ≡ kind_of d r e
    kind-same r (node form at) = shape-same r form

    shape-same : (r : Kind) (form : Shape) → shape_kind c r form ≡ shape_kind d r form
    shape-same r (named nm) = kind_at-same (found c nm) (found d nm) (found-alike c d nm h)
    shape-same r (paren e) = kind-same r e
    shape-same r (choice bs e) = first-same r (kind_of c r e) (kind_of d r e) (kind-same r e) bs
    shape-same r _ = refl

    first-same : (r j k : Kind) → j ≡ k → (bs : Branches) → first_kind c r j bs ≡ first_kind d r k bs
    first-same r j k same no_branches = same
    first-same r j k same (branches cs e bs) = kind-same r e

  comparison-same : (r : Kind) (op : CmpOp) (a b : Tree) → comparison_demands c r op a b ≡ comparison_demands d r op a b
  comparison-same r cmp.Eq a b = ap (λ k. demand r k b ∷ []) (kind-same r a)
  comparison-same r cmp.Ne a b = ap (λ k. demand r k b ∷ []) (kind-same r a)
  comparison-same r _ a b = refl

  other-same : (r j k : Kind) → j ≡ k → (e : Tree) (bs : Branches) → other_demand c r j e bs ≡ other_demand d r k e bs
  other-same r j k same e no_branches = ap (λ x. demand r x e ∷ []) same
  other-same r j k same e (branches cs b bs) = λ i. if same_kind (kind-same r b i) (same i) then other-same r j k same e bs i else demand r (same i) b ∷ []

  mutual
    pub operands-same : (r : Kind) (e : Tree) → operands c r e ≡ operands d r e
    operands-same r (node form at) = shape_operands-same r at form

    shape_operands-same : (r : Kind) (at : ℕ) (form : Shape) → shape_operands c r at form ≡ shape_operands d r at form
    shape_operands-same r at (truth b) = refl
    shape_operands-same r at (number z) = refl
    shape_operands-same r at (named nm) = refl
    shape_operands-same r at received = refl
    shape_operands-same r at (paren e) = operands-same r e
    shape_operands-same r at (negative e) = λ i. demand r int_kind e ∷ operands-same r e i
    shape_operands-same r at (positive e) = λ i. demand r int_kind e ∷ operands-same r e i
    shape_operands-same r at (negation e) = λ i. demand r bool_kind e ∷ operands-same r e i
    shape_operands-same r at (absolute e) = λ i. demand r int_kind e ∷ operands-same r e i
    shape_operands-same r at (least a b) = λ i. demand r int_kind a ∷ demand r int_kind b ∷ operands-same r a i ++ operands-same r b i
    shape_operands-same r at (greatest a b) = λ i. demand r int_kind a ∷ demand r int_kind b ∷ operands-same r a i ++ operands-same r b i
    shape_operands-same r at (sum e es) = λ i. demand r int_kind e ∷ operands-same r e i ++ terms-same r es i
    shape_operands-same r at (product e es) = λ i. demand r int_kind e ∷ operands-same r e i ++ factors-same r es i
    shape_operands-same r at (comparison a op b) = λ i. comparison-same r op a b i ++ operands-same r a i ++ operands-same r b i
    shape_operands-same r at (all_of es) = truths-same r es
    shape_operands-same r at (any_of es) = truths-same r es
    shape_operands-same r at (implication a b) = λ i. demand r bool_kind a ∷ demand r bool_kind b ∷ operands-same r a i ++ operands-same r b i
    shape_operands-same r at (equivalence a b) = λ i. demand r bool_kind a ∷ demand r bool_kind b ∷ operands-same r a i ++ operands-same r b i
    shape_operands-same r at (choice bs e) = λ i.
        branches-same r bs i ++ operands-same r e i
        ++ other-same r (first_kind c r (kind_of c r e) bs) (first_kind d r (kind_of d r e) bs) (first-same r (kind_of c r e) (kind_of d r e) (kind-same r e) bs) e bs i

    terms-same : (r : Kind) (es : Terms) → term_operands c r es ≡ term_operands d r es
    terms-same r no_terms = refl
    terms-same r (terms minus e es) = λ i. demand r int_kind e ∷ operands-same r e i ++ terms-same r es i

    factors-same : (r : Kind) (es : Factors) → factor_operands c r es ≡ factor_operands d r es
    factors-same r no_factors = refl
    factors-same r (factors op e es) = λ i. demand r int_kind e ∷ operands-same r e i ++ factors-same r es i

    truths-same : (r : Kind) (es : Trees) → truth_operands c r es ≡ truth_operands d r es
    truths-same r no_trees = refl
    truths-same r (trees e es) = λ i. demand r bool_kind e ∷ operands-same r e i ++ truths-same r es i

    branches-same : (r : Kind) (bs : Branches) → branch_operands c r bs ≡ branch_operands d r bs
    branches-same r no_branches = refl
    branches-same r (branches cs e bs) = λ i. truths-same r cs i ++ operands-same r e i ++ branches-same r bs i

  pub asked-same : (k : Kind) (e : Tree) → asked_for c k e ≡ asked_for d k e
  asked-same k e = ap (λ ds. demand no_kind k e ∷ ds) (operands-same no_kind e)
