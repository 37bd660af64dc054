-- What an exclusion or a state invariant weighs is the measure of the expression that is written.
use Rattle.std.proofs.Common.{◌≡◌, ℕ, ◌+◌, ◌<◌, Bool, List, [], ◌∷◌, ◌++◌, length, map, drop, get_or, append_assoc, refl, sym, ◌∙◌, ap}
use Rattle.cif_ast.specs.Tree.{Tree}
use Rattle.cif_ast.specs.declared.names.Name.{Name}
use Rattle.cif_net_expr.specs.Tree.{NetExpr, net_expr}
use Rattle.cif_net_model.specs.Counts as counts
use Rattle.cif_net_model.specs.Exprs.{placed}
use Rattle.cif_scope.proofs.Places.{drop-item}
use Rattle.cif_source.specs.Source.{tree_at}
use Rattle.cif_source.specs.Components.{Component}
use Rattle.cif_inst_model.specs.Flat.{predicate_at}
use Rattle.cif_inst_model.specs.Translation.{net_of}
use Rattle.cif_inst_sizes.specs.Weights.{expression_measure}
use Rattle.cif_inst_predicates.specs.Predicates.{exclusion_by}
use Rattle.cif_inst_predicates.specs.declared.weights.Excluded.{Excluded}
use Rattle.cif_inst_predicates.specs.Weights.{weight_of, excluded_of, excluded_by}

module _ (alg : ℕ → counts.Measure) where
  -- at any place it weighs as much
  placed-weight : (at : ℕ) (e : NetExpr) → weight_of alg (placed at e) ≡ weight_of alg e
  placed-weight at (net_expr f k) = refl

  pub predicate-weight : (c : Component) (p : Tree) → weight_of alg (predicate_at c p) ≡ expression_measure alg c p
  predicate-weight c p = placed-weight (tree_at p) (net_of c p)

  pub excluded-weights : (c : Component) (p : Tree) (allows : Bool) (nms : List Name) → map (excluded_by c (expression_measure alg c p)) nms ≡ map (excluded_of alg) (map (exclusion_by c p allows) nms)
  excluded-weights c p allows [] = refl
  excluded-weights c p allows (nm ∷ nms) =
      λ i. record { event = (exclusion_by c p allows nm).event; measure = sym (predicate-weight c p) i } ∷ excluded-weights c p allows nms i

-- one event more
pub excluded_added : (g : Name → Excluded) (nms : List Name) (i : ℕ) (nm : Name) (before after all : List Excluded) → i < length nms → nm ≡ get_or nms i nm → after ≡ before ++ g nm ∷ []
    → before ++ map g (drop i nms) ≡ all → after ++ map g (drop (i + 1) nms) ≡ all
excluded_added g nms i nm before after all within is pushed rest =
    ap (λ (xs : List Excluded). xs ++ map g (drop (i + 1) nms)) pushed
    ∙ append_assoc before (g nm ∷ []) (map g (drop (i + 1) nms))
    ∙ ap (λ (ns : List Name). before ++ map g ns) (sym (drop-item nms i nm within is))
    ∙ rest
