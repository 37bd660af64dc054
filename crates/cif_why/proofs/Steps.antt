-- Whether an event has a step, by the numbers of choices.
use Rattle.std.proofs.Common.{◌≡◌, ℕ, zero, suc, ◌+◌, ◌<◌, Bool, List, [], ◌∷◌, length, map, drop, Some, refl, ap, ◌∙◌, arith}
use Rattle.std.specs.Prelude.{is_some, slice_get, slice_index_or, ◌||◌}
use Rattle.std.specs.List.{list_any}
use Rattle.std.proofs.lemmas.Option.{get_or_from_slice_get}
use Rattle.cif_system.specs.System.{State}
use Rattle.cif_system.specs.Choices.{first_step}
use Rattle.cif_system.proofs.Lists.{map-length}
use Rattle.cif_net_model.specs.Listing.{full_choice, full_choices}
use Rattle.cif_net.specs.View.{choice_tree, event_tree, net_tree}
use Rattle.cif_net.specs.declared.guarded.Guarded.{Guarded}
use Rattle.cif_net.specs.declared.listing.Choice.{Choice}
use Rattle.cif_net_model.specs.Meaning.{event_in}
use Rattle.cif_net_laws.proofs.Steps.{guarded-steps}
use Rattle.cif_eval.specs.Choices.{choice_at, system_of}
use Rattle.cif_why.specs.Stepping.{makes}
use Rattle.cif_why.proofs.Agreed.{map-get}
use Rattle.cif_why.proofs.Stepped.{step-listed}

pub all-listed : (g : Guarded) (s : State) (e : ℕ) → e < length g.plain.net.events → list_any (makes (system_of g) s e) (full_choices (net_tree g.plain.net) (map choice_tree g.choices)) ≡ is_some (first_step (system_of g) s e)
all-listed g s e h =
    let r = map-length event_tree g.plain.net.events in
    let q = map-length event_in (map event_tree g.plain.net.events) in
    ap (list_any (makes (system_of g) s e)) (guarded-steps g).each ∙ step-listed (system_of g) s e (omega (arith, h, r, q))

pub choice-is : (g : Guarded) (k : ℕ) (c : Choice) → slice_get g.choices k ≡ Some c → choice_at g k ≡ full_choice (net_tree g.plain.net) (choice_tree c)
choice-is g k c h =
    get_or_from_slice_get (full_choices (net_tree g.plain.net) (map choice_tree g.choices)) k (full_choice (net_tree g.plain.net) (choice_tree c)) (0, [])
    (map-get (full_choice (net_tree g.plain.net)) (map choice_tree g.choices) k (choice_tree c) (map-get choice_tree g.choices k c h))

pub any_next : {A : Type 0} (p : A → Bool) (xs : List A) (k : ℕ) (d : A) → k < length xs → list_any p (drop k xs) ≡ (p (slice_index_or xs k d) || list_any p (drop (k + 1) xs))
any_next p [] k d h = absurd (omega (arith, h))
any_next p (x ∷ xs) zero d h = refl
any_next p (x ∷ xs) (suc k) d h =
    let next : suc (k + 1) ≡ suc k + 1 = omega arith in
    any_next p xs k d (omega (arith, h)) ∙ ap (λ j. p (slice_index_or xs k d) || list_any p (drop j (x ∷ xs))) next

pub full_length : (g : Guarded) → length (full_choices (net_tree g.plain.net) (map choice_tree g.choices)) ≡ length g.choices
full_length g = map-length (full_choice (net_tree g.plain.net)) (map choice_tree g.choices) ∙ map-length choice_tree g.choices
