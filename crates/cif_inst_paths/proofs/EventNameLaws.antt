-- A name that asks for an event denotes one, and has its number.
use Rattle.std.proofs.Common.{◌≡◌, ◌<◌, inl, inr, List, [], ◌∷◌, length, map, Some, refl, sym, ◌∙◌, ap, arith}
use Rattle.std.specs.Prelude.{unwrap_or}
use Rattle.std.specs.List.{cons_option}
use Rattle.cif_ast.specs.declared.names.Name.{Name}
use Rattle.cif_system.specs.Words.{Member}
use Rattle.cif_source.specs.Source.{Source}
use Rattle.cif_source.specs.Components.{Component}
use Rattle.cif_source.specs.Lookup.{denotes}
use Rattle.cif_source.specs.Objects.{components_of, events}
use Rattle.cif_source.specs.Step.{event_at}
use Rattle.cif_source.specs.Uses.{Use, uses, event_asked}
use Rattle.cif_inst_model.specs.Flat.{event_number, named_events}
use Rattle.cif_inst_bodies.specs.Denoted.{DenotesEvent}
use Rattle.cif_inst_bodies.proofs.DenotedLaws.{event-names}
use Rattle.cif_inst_paths.proofs.SoundLaws.{IsSound}

abbrev pub event-use : Name → Use
event-use nm = record { name = nm; asks = event_asked }

-- a name of an event, with the number of the event
pub record Numbered (t : Source) (c : Component) (nm : Name) : Type 0 where
  pub number : event_at (denotes c nm) ≡ Some (event_number c nm)
  pub below : event_number c nm < length (events t)

pub used-numbered : (t : Source) → IsSound t → (c : Component) → Member c (components_of t) → (nm : Name) → Member (event-use nm) (uses c) → Numbered t c nm
used-numbered t h c m nm k =
    let d : DenotesEvent t c nm = event-names t h.few h.scoping.known h.scoping.fitting h.matched c m nm k in
    let is : event_number c nm ≡ d.event = ap (λ o. unwrap_or o 0) d.is_event in
    record {
      number = d.is_event ∙ ap Some (sym is);
      below = omega (arith, is, d.is_below);
    }

pub named-are : (c : Component) (nms : List Name) → ((nm : Name) → Member nm nms → event_at (denotes c nm) ≡ Some (event_number c nm)) → named_events c nms ≡ map (event_number c) nms
named-are c [] h = refl
named-are c (nm ∷ nms) h = ap (λ o. cons_option o (named_events c nms)) (h nm (inl refl)) ∙ ap (λ es. event_number c nm ∷ es) (named-are c nms (λ x m. h x (inr m)))
