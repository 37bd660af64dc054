-- An algebraic variable that an expression of the net names is named where some name of the expression of the source stands.
use Rattle.std.proofs.Common.{◌≡◌, ℕ, List, [], ◌∷◌, ◌++◌, inl, inr, refl, subst}
use Rattle.cif_ast.specs.Tree.{Tree, node, Shape, truth, number, named, received, paren, negative, positive, negation, absolute, least, greatest, sum, product, comparison, all_of, any_of, implication, equivalence, choice, Trees, no_trees, trees, Terms, no_terms, terms, Factors, no_factors, factors, Branches, no_branches, branches}
use Rattle.cif_ast.specs.declared.names.Name.{Name}
use Rattle.cif_system.specs.Words.{Member}
use Rattle.cif_system.proofs.Distinct.{member-append}
use Rattle.cif_system.proofs.Picks.{append-left, append-right}
use Rattle.cif_net_expr.specs.Tree.{NetExpr, net_expr, NetExprs, net_exprs}
use Rattle.cif_net_model.specs.Exprs.{placed}
use Rattle.cif_net_model.specs.Reads as reads
use Rattle.cif_net_model.specs.Reads.{Read, an_alg, the_received}
use Rattle.cif_source.specs.Uses as uses
use Rattle.cif_inst_model.specs.Translation.{conjunction, net_with, net_form, net_exprs_of, net_terms_of, net_factors_of, net_branches_of}

pub placed-names : (at : ℕ) (e : NetExpr) → reads.names_in (placed at e) ≡ reads.names_in e
placed-names at (net_expr f j) = refl

-- several are named as their list
several : (e f : NetExpr) (es : NetExprs) → reads.names_in (conjunction (net_exprs e (net_exprs f es))) ≡ reads.list_names (net_exprs e (net_exprs f es))
several (net_expr x at) f es = refl

module _ (net : Name → ℕ → NetExpr) (k : ℕ) where
  -- one of the names stands for an expression that names it
  abbrev pub NamedBy : List Name → Type 0
  NamedBy nms = (nm : Name) × (at : ℕ) × Member nm nms × Member (an_alg k) (reads.names_in (net nm at))

  left : (xs ys : List Name) → NamedBy xs → NamedBy (xs ++ ys)
  left xs ys w = (w.0, w.1, append-left w.0 xs ys w.2, w.3)

  right : (xs ys : List Name) → NamedBy ys → NamedBy (xs ++ ys)
  right xs ys w = (w.0, w.1, append-right w.0 xs ys w.2, w.3)

  either : (qs rs : List Read) (xs ys : List Name) → (Member (an_alg k) qs → NamedBy xs) → (Member (an_alg k) rs → NamedBy ys) → Member (an_alg k) (qs ++ rs) → NamedBy (xs ++ ys)
  either qs rs xs ys f g m = elim (member-append (an_alg k) qs rs m) [ inl h ↦ left xs ys (f h) | inr h ↦ right xs ys (g h) ]

  received-names : Member (an_alg k) (the_received ∷ []) → NamedBy []
  received-names m = elim m [ inl e ↦ absurd cc | inr w ↦ absurd w ]

  mutual
    pub tree-names : (e : Tree) → Member (an_alg k) (reads.names_in (net_with net e)) → NamedBy (uses.names_in e)
    tree-names (node f at) m = shape-names at f m

    shape-names : (at : ℕ) (f : Shape) → Member (an_alg k) (reads.names_in (net_form net at f)) → NamedBy (uses.shape_names f)
    shape-names at (truth b) m = absurd m
    shape-names at (number z) m = absurd m
    shape-names at (named nm) m = (nm, at, inl refl, m)
    shape-names at received m = received-names m
    shape-names at (paren e) m = tree-names e (subst (Member (an_alg k)) (placed-names at (net_with net e)) m)
    shape-names at (negative e) m = tree-names e m
    shape-names at (positive e) m = tree-names e m
    shape-names at (negation e) m = tree-names e m
    shape-names at (absolute e) m = tree-names e m
    shape-names at (least a b) m = either _ _ _ _ (tree-names a) (tree-names b) m
    shape-names at (greatest a b) m = either _ _ _ _ (tree-names a) (tree-names b) m
    shape-names at (sum e es) m = either _ _ _ _ (tree-names e) (terms-names es) m
    shape-names at (product e es) m = either _ _ _ _ (tree-names e) (factors-names es) m
    shape-names at (comparison a op b) m = either _ _ _ _ (tree-names a) (tree-names b) m
    shape-names at (all_of es) m = trees-names es m
    shape-names at (any_of es) m = trees-names es m
    shape-names at (implication a b) m = either _ _ _ _ (tree-names a) (tree-names b) m
    shape-names at (equivalence a b) m = either _ _ _ _ (tree-names a) (tree-names b) m
    shape-names at (choice bs e) m = either _ _ _ _ (branches-names bs) (tree-names e) m

    trees-names : (es : Trees) → Member (an_alg k) (reads.list_names (net_exprs_of net es)) → NamedBy (uses.names_in_all es)
    trees-names no_trees m = absurd m
    trees-names (trees e es) m = either _ _ _ _ (tree-names e) (trees-names es) m

    terms-names : (es : Terms) → Member (an_alg k) (reads.term_names (net_terms_of net es)) → NamedBy (uses.term_names es)
    terms-names no_terms m = absurd m
    terms-names (terms b e es) m = either _ _ _ _ (tree-names e) (terms-names es) m

    factors-names : (es : Factors) → Member (an_alg k) (reads.factor_names (net_factors_of net es)) → NamedBy (uses.factor_names es)
    factors-names no_factors m = absurd m
    factors-names (factors op e es) m = either _ _ _ _ (tree-names e) (factors-names es) m

    branches-names : (bs : Branches) → Member (an_alg k) (reads.branch_names (net_branches_of net bs)) → NamedBy (uses.branch_names bs)
    branches-names no_branches m = absurd m
    branches-names (branches cs e bs) m =
        elim (member-append (an_alg k) (reads.names_in (conjunction (net_exprs_of net cs))) (reads.names_in (net_with net e) ++ reads.branch_names (net_branches_of net bs)) m) [
          | inl h ↦ left (uses.names_in_all cs ++ uses.names_in e) (uses.branch_names bs) (left (uses.names_in_all cs) (uses.names_in e) (conditions-names cs h))
          | inr h ↦
              elim (member-append (an_alg k) (reads.names_in (net_with net e)) (reads.branch_names (net_branches_of net bs)) h) [
                | inl i ↦ left (uses.names_in_all cs ++ uses.names_in e) (uses.branch_names bs) (right (uses.names_in_all cs) (uses.names_in e) (tree-names e i))
                | inr i ↦ right (uses.names_in_all cs ++ uses.names_in e) (uses.branch_names bs) (branches-names bs i)
              ]
        ]

    conditions-names : (cs : Trees) → Member (an_alg k) (reads.names_in (conjunction (net_exprs_of net cs))) → NamedBy (uses.names_in_all cs)
    conditions-names no_trees m = absurd m
    conditions-names (trees e no_trees) m = left (uses.names_in e) [] (tree-names e m)
    conditions-names (trees e (trees f es)) m =
        either _ _ _ _ (tree-names e) (either _ _ _ _ (tree-names f) (trees-names es))
        (subst (Member (an_alg k)) (several (net_with net e) (net_with net f) (net_exprs_of net es)) m)
