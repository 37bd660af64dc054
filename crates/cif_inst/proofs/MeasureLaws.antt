-- One use more of an edge that is measured.
use Rattle.std.proofs.Common.{◌≡◌, ℕ, ◌+◌, ◌<◌, List, [], ◌∷◌, ◌++◌, length, map, drop, get_or, sym, ◌∙◌, ap, append_assoc}
use Rattle.cif_ast.specs.declared.edges.EventUse.{EventUse}
use Rattle.cif_net_model.specs.Counts as counts
use Rattle.cif_alg_measure.specs.declared.measures.Measure.{Measure}
use Rattle.cif_scope.proofs.Places.{drop-item}
use Rattle.cif_source.specs.Source.{EdgeTree, use_tree}
use Rattle.cif_source.specs.Components.{Component}
use Rattle.cif_inst_sizes.specs.Weights.{use_weight}

pub weight_added : (alg : ℕ → counts.Measure) (c : Component) (e : EdgeTree) (uses : List EventUse) (i : ℕ) (u : EventUse) (before after all : List Measure) (m : Measure) → i < length uses → u ≡ get_or uses i u → after ≡ before ++ m ∷ [] → m ≡ use_weight alg c e (use_tree u)
    → before ++ map (use_weight alg c e) (map use_tree (drop i uses)) ≡ all → after ++ map (use_weight alg c e) (map use_tree (drop (i + 1) uses)) ≡ all
weight_added alg c e uses i u before after all m within is pushed same rest =
    ap (λ (ws : List Measure). ws ++ map (use_weight alg c e) (map use_tree (drop (i + 1) uses))) pushed
    ∙ append_assoc before (m ∷ []) (map (use_weight alg c e) (map use_tree (drop (i + 1) uses)))
    ∙ ap (λ (x : Measure). before ++ x ∷ map (use_weight alg c e) (map use_tree (drop (i + 1) uses))) same
    ∙ ap (λ (us : List EventUse). before ++ map (use_weight alg c e) (map use_tree us)) (sym (drop-item uses i u within is))
    ∙ rest
