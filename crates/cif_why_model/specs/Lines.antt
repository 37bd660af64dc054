-- The lines of reasons.
use Rattle.std.specs.Prelude.{ℕ, List, [], ◌∷◌, ◌++◌, flat_map, slice_get, Option, Some, None, codes, decimal, option_and_then}
use Rattle.grammar.specs.Pieces.{Text}
use Rattle.cif_why_model.specs.Told.{ValueTold, EdgeTold, AutomatonTold, Told}
use Rattle.cif_why_model.specs.Reasons.{Reason, no_role, blocks, no_sender, no_receiver, excluded, leaves, breaks}

abbrev pub auto_path : Told → ℕ → Text
auto_path t k = elim (slice_get t.automata k) [ None ↦ [] | Some a ↦ a.path ]

abbrev pub value_at : Told → (auto edge number : ℕ) → Option ValueTold
value_at t k j number =
    option_and_then (λ (a : AutomatonTold). option_and_then (λ (x : EdgeTold). slice_get x.values number) (slice_get a.edges j)) (slice_get t.automata k)

-- where a predicate stands
abbrev pub place_told : List ℕ → ℕ → Text
place_told places k = elim (slice_get places k) [ None ↦ [] | Some at ↦ decimal at ]

abbrev pub leaves_told : Option ValueTold → Text
leaves_told None = []
leaves_told (Some v) = codes "leaves " ++ decimal v.place ++ codes " " ++ v.path

abbrev pub reason_told : Told → Reason → Text
reason_told t no_role = codes "no automaton takes part"
reason_told t (blocks k) = codes "blocks " ++ auto_path t k
reason_told t no_sender = codes "no sender"
reason_told t no_receiver = codes "no receiver"
reason_told t (excluded k) = codes "excluded " ++ place_told t.exclusions k
reason_told t (leaves k j number) = leaves_told (value_at t k j number)
reason_told t (breaks k) = codes "breaks " ++ place_told t.invariants k

-- a line for each, or one that there is none
abbrev pub reasons_text : Told → List Reason → Text
reasons_text t [] = codes "enabled\n"
reasons_text t (r ∷ rs) = flat_map (λ x. reason_told t x ++ codes "\n") (r ∷ rs)
