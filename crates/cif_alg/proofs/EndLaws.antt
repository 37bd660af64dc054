-- What is left to count at the end of the shorter of two lists.
use Rattle.std.proofs.Common.{◌≡◌, ℕ, List, [], ◌∷◌, drop, length, map, min, refl, ◌∙◌, ap, arith}
use Rattle.std.proofs.lemmas.List.{drop_all}
use native.Mathlib.Decide.{dec_lt}
use Rattle.cif_net_model.specs.Net as n
use Rattle.cif_net.specs.declared.events.Event.{Event}
use Rattle.cif_net.specs.View.{event_tree}
use Rattle.cif_alg.specs.declared.tally.Tally.{Tally}
use Rattle.cif_alg.specs.Tallies.{tallies_nodes}

no-tallies : (m : ℕ) (es : List n.NetEvent) → tallies_nodes m es [] ≡ m
no-tallies m [] = refl
no-tallies m (e ∷ es) = refl

pub tallies-end : (m : ℕ) (es : List Event) (ts : List Tally) (n : ℕ) → n ≡ min (length es) (length ts) → tallies_nodes m (map event_tree (drop n es)) (drop n ts) ≡ m
tallies-end m es ts n e =
    elim (dec_lt n (length es)) [
      | yes l ↦ ap (tallies_nodes m (map event_tree (drop n es))) (drop_all n ts (omega arith)) ∙ no-tallies m (map event_tree (drop n es))
      | no l ↦ ap (λ us. tallies_nodes m (map event_tree us) (drop n ts)) (drop_all n es (omega arith))
    ]
