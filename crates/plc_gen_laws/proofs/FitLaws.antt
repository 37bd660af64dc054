-- The parts of a net meet what the frame asks, so its program makes what a frame makes.
use Rattle.std.proofs.Common.{◌≡◌, ℕ, suc, ◌+◌, ◌<◌, true, inl, inr, List, [], ◌∷◌, length, Option, Some, None, refl, ◌∙◌, ap, arith}
use Rattle.std.specs.Prelude.{slice_get}
use Rattle.std.specs.List.{range_with_len}
use Rattle.cif_system.specs.System.{Event, System, unc, con}
use Rattle.cif_system.specs.Step.{has_class}
use Rattle.cif_system.proofs.Lists.{map-length, slice_get-below}
use Rattle.cif_system.proofs.Picks.{and-left}
use Rattle.cif_net_model.specs.Net.{Net}
use Rattle.cif_net_model.specs.Meaning.{system_of_net, event_in}
use Rattle.cif_net_model.specs.Listing.{NetChoice}
use Rattle.cif_net_model.specs.Facts.{is_net}
use Rattle.cif_net_model.specs.Nesting.{is_shallow}
use Rattle.plc_model.specs.Frame.{HasClass}
use Rattle.plc_frame.specs.Events.{choices_of}
use Rattle.plc_frame.specs.Given.{FrameFits}
use Rattle.plc_frame.specs.Makes.{Makes}
use Rattle.plc_frame.proofs.GivenLaws.{given-makes}
use Rattle.plc_frame.proofs.Making.{range-length}
use Rattle.plc_event_model.specs.Parts.{event_faces}
use Rattle.plc_event_model.specs.ProgramParts.{HasParts, parts_from, net_parts, net_program, shown_first, shown_part}
use Rattle.plc_gen_laws.proofs.Showing.{algs-shown}
use Rattle.plc_gen_laws.proofs.Tried.{all-tried}
use Rattle.plc_gen_laws.proofs.OwnNames.{own-are-own}
use Rattle.plc_gen_laws.proofs.Whole.{program-checked, program-spelled}

-- ---- numbers of events

-- an event of a class has a number of an event
class-below : (sys : System) (e : ℕ) → HasClass sys e → e < length sys.events
class-below sys e (inl h) = go (slice_get sys.events e) refl h
  where
    go : (o : Option Event) → slice_get sys.events e ≡ o → has_class unc o ≡ true → e < length sys.events
    go None is t = absurd cc
    go (Some x) is t = slice_get-below sys.events e x is
class-below sys e (inr h) = go (slice_get sys.events e) refl h
  where
    go : (o : Option Event) → slice_get sys.events e ≡ o → has_class con o ≡ true → e < length sys.events
    go None is t = absurd cc
    go (Some x) is t = slice_get-below sys.events e x is

parts-length : (n : Net) (cs : List NetChoice) (j : ℕ) (es : List ℕ) → length (parts_from n cs j es) ≡ length es
parts-length n cs j [] = refl
parts-length n cs j (e ∷ es) = ap suc (parts-length n cs (j + length (event_faces n (choices_of cs e))) es)

-- ---- the frame

pub fit : (n : Net) (cs : List NetChoice) (U C : ℕ) → HasParts n cs U C → is_shallow n ≡ true → FrameFits n U C (net_parts n cs) (shown_part n (shown_first n cs))
fit n cs U C h shallow = record {
  plain = h.plain;
  one_each = parts-length n cs 2 (range_with_len 0 (length n.events)) ∙ range-length 0 (length n.events);
  own = own-are-own n cs U C h;
  spelled = program-spelled n cs U C h shallow;
  checked = program-checked n cs U C h;
  events = λ e c. let below = class-below (system_of_net n) e c in all-tried n cs U C h (program-checked n cs U C h) e (omega (arith, below, map-length event_in n.events));
  shows = algs-shown n cs U C h;
}

pub fitted-makes : (n : Net) (cs : List NetChoice) (U C : ℕ) → HasParts n cs U C → is_shallow n ≡ true → Makes n U C (net_program n cs U C)
fitted-makes n cs U C h shallow = given-makes n (net_parts n cs) (shown_part n (shown_first n cs)) U C net (fit n cs U C h shallow) h.turns
  where
    net : is_net n ≡ true
    net = and-left _ _ (and-left _ _ (and-left _ _ h.plain))
