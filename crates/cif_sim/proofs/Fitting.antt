-- The types of a guarded net's inputs, and the classes of its events.
use Rattle.std.proofs.Common.{◌≡◌, ℕ, zero, suc, ℤ, Bool, true, false, List, [], ◌∷◌, length, map, Option, Some, None, sym, ap, subst, ◌∙◌}
use Rattle.std.specs.Prelude.{IsTrue, option_map, slice_get, slice_set}
use Rattle.cif_base.specs.declared.types.Ty.{Ty}
use Rattle.cif_system.specs.System.{AllFit, IsState, State, Stored, System, in_range}
use Rattle.cif_system.proofs.Lists.{map-length, none-some, some-same}
use Rattle.cif_system.specs.System as s
use Rattle.cif_system.specs.Step.{has_class, is_of, same_class}
use Rattle.cif_net_model.specs.Meaning.{event_in, stored_in, type_range}
use Rattle.cif_net.specs.Parts.{class_of, event_tree, input_tree}
use Rattle.cif_net.specs.declared.events.Class.{Class}
use Rattle.cif_net.specs.declared.events.Event.{Event}
use Rattle.cif_net.specs.declared.data.Input.{Input}
use Rattle.cif_net.specs.declared.guarded.Guarded.{Guarded}
use Rattle.cif_sim_model.specs.Runs.{input_fits}
use Rattle.cif_eval.specs.Choices.{system_of}
use Rattle.cif_eval.proofs.Lists.{set-fits, zip-length}

abbrev fits_in : List Stored → ℕ → ℤ → Bool
fits_in vs k z = elim (slice_get vs k) [ None ↦ false | Some v ↦ in_range v.range z ]

by-type : (inputs : List Input) (k : ℕ) (ty : Ty) (z : ℤ) → option_map (λ (i : Input). i.ty) (slice_get inputs k) ≡ Some ty → in_range (type_range ty) z ≡ fits_in (map stored_in (map input_tree inputs)) k z
by-type [] k ty z h = absurd (none-some ty h)
by-type (i ∷ inputs) zero ty z h = ap (λ t. in_range (type_range t) z) (sym (some-same i.ty ty h))
by-type (i ∷ inputs) (suc k) ty z h = by-type inputs k ty z h

-- an input takes the values of its type
pub input-takes : (g : Guarded) (k : ℕ) (ty : Ty) (z : ℤ) → option_map (λ (i : Input). i.ty) (slice_get g.plain.net.inputs k) ≡ Some ty → in_range (type_range ty) z ≡ input_fits (system_of g) k z
input-takes g k ty z h = by-type g.plain.net.inputs k ty z h

pub inputs-count : (g : Guarded) (s : State) → IsState (system_of g) s → length g.plain.net.inputs ≡ length s.ins
inputs-count g s h =
    sym (map-length stored_in (map input_tree g.plain.net.inputs) ∙ map-length input_tree g.plain.net.inputs)
    ∙ zip-length (λ (v : Stored) z. in_range v.range z ≡ true) (system_of g).inputs s.ins h.inputs

-- a value that fits is in the range of its input
pub fits-range : (m : System) (k : ℕ) (z : ℤ) → input_fits m k z ≡ true → (v : Stored) → slice_get m.inputs k ≡ Some v → IsTrue (in_range v.range z)
fits-range m k z h v at = subst (λ (o : Option Stored). (elim o [ None ↦ false | Some w ↦ in_range w.range z ]) ≡ true) at h

-- it may be stored there
pub put-state : (g : Guarded) (s : State) (k : ℕ) (z : ℤ) (ins : List ℤ) → IsState (system_of g) s → input_fits (system_of g) k z ≡ true → ins ≡ slice_set s.ins k z
    → IsState (system_of g) (record { locs = s.locs; vals = s.vals; ins = ins })
put-state g s k z ins h fits is = record {
  places = h.places;
  values = h.values;
  inputs = subst (AllFit (system_of g).inputs) (sym is) (set-fits (λ (v : Stored) y. in_range v.range y ≡ true) (system_of g).inputs s.ins k z h.inputs (fits-range (system_of g) k z fits));
}

by-class : (events : List Event) (k : s.Class) (e : ℕ) (c : Class) → option_map (λ (x : Event). x.class) (slice_get events e) ≡ Some c → same_class k (class_of c) ≡ has_class k (slice_get (map event_in (map event_tree events)) e)
by-class [] k e c h = absurd (none-some c h)
by-class (x ∷ events) k zero c h = ap (λ d. same_class k (class_of d)) (sym (some-same x.class c h))
by-class (x ∷ events) k (suc e) c h = by-class events k e c h

-- an event is of its class
pub event-of : (g : Guarded) (k : s.Class) (e : ℕ) (c : Class) → option_map (λ (x : Event). x.class) (slice_get g.plain.net.events e) ≡ Some c → same_class k (class_of c) ≡ is_of (system_of g) k e
event-of g k e c h = by-class g.plain.net.events k e c h
