-- The parts of a net try their events, in the program of all events.
use Rattle.std.proofs.Common.{◌≡◌, ℕ, ◌+◌, ◌-◌, ◌<◌, true, List, [], map, length, Some, flat_map, sym, subst, ◌∙◌, arith}
use Rattle.std.specs.Prelude.{nat_eq, slice_get}
use Rattle.std.specs.List.{AllByRecursion, range_with_len}
use Rattle.cif_net_model.specs.Net.{Net}
use Rattle.cif_net_model.specs.Exprs.{targets}
use Rattle.cif_net_model.specs.Facts.{has, is_net}
use Rattle.cif_net_model.specs.Listing.{NetChoice}
use Rattle.cif_net_model.specs.Meaning.{system_of_net}
use Rattle.cif_net_model.specs.Table.{choice_stands}
use Rattle.cif_net_model.proofs.Passing.{and-left}
use Rattle.st_ast.specs.Checks.{check_faults}
use Rattle.st_ast.specs.Tree.{Program}
use Rattle.st_ast.specs.declared.tree.StTy.{StTy}
use Rattle.plc_model.specs.Frame.{Part, TriesEvent, part_of}
use Rattle.plc_frame.specs.Events.{choices_of}
use Rattle.plc_frame.specs.Faces.{face_of_net}
use Rattle.plc_frame.specs.Given.{asked}
use Rattle.plc_frame.proofs.Choosing.{all-filter, all-of}
use Rattle.plc_expr.proofs.Sorting.{bool-by, types-length}
use Rattle.plc_expr.proofs.There.{there}
use Rattle.cif_net_model.specs.Safe.{Setting}
use Rattle.plc_expr.specs.Texts.{Naming}
use Rattle.plc_event_model.specs.Asked.{Promises}
use Rattle.plc_event_model.specs.Own.{choice_types, event_vars}
use Rattle.plc_event_model.specs.Parts.{AreDeclared, all_temps, event_part, event_faces, event_naming, ifs_from}
use Rattle.plc_event_model.specs.Ready.{IsSafeChoice}
use Rattle.plc_event_model.proofs.Final.{safe-parts-tried}
use Rattle.plc_event_model.proofs.Kept.{Declares}
use Rattle.plc_event_model.proofs.Laying.{declares-ifs}
use Rattle.plc_event_model.proofs.Parts.{types-length as faces-types, vars-there}
use Rattle.plc_event_model.proofs.Promised.{promised}
use Rattle.plc_event_model.proofs.Targets.{once-all}
use Rattle.plc_event_model.specs.ProgramParts.{HasParts, net_parts, net_program}
use Rattle.plc_event_model.proofs.Asked.{invariants-named}
use Rattle.plc_gen_laws.proofs.Safe.{choice-safe}
use Rattle.plc_gen_laws.proofs.Carrying.{sends-carried}
use Rattle.plc_gen_laws.proofs.Free.{choices-free, own-places, same-places}
use Rattle.plc_gen_laws.proofs.OwnTries.{HasPart, has-part, range-at}
use Rattle.plc_gen_laws.proofs.Declared.{are-declared, first_place, mark-declared}

module _ (n : Net) (cs : List NetChoice) (U C : ℕ) (parts : HasParts n cs U C) (e : ℕ) (within : e < length n.events) where
  abbrev here : List NetChoice
  here = choices_of cs e

  net : is_net n ≡ true
  net = and-left _ _ (and-left _ _ (and-left _ _ parts.plain))

  stands : AllByRecursion (λ (c : NetChoice). choice_stands n c ≡ true) (choices_of cs e)
  stands = all-filter (λ (c : NetChoice). choice_stands n c ≡ true) (λ (c : NetChoice). nat_eq c.event e) cs (all-of (λ (c : NetChoice). choice_stands n c ≡ true) cs parts.guarded.stands)

  -- of each choice of the table
  all-safe : AllByRecursion (IsSafeChoice n) cs
  all-safe = all-of (IsSafeChoice n) cs (λ k c at.
      choice-safe n c parts.plain (parts.guarded.stands k c at) (λ s is_state. sends-carried n c s net (parts.guarded.stands k c at) (parts.guarded.written k c at) (parts.guarded.tests k c s at)))

  safe : AllByRecursion (IsSafeChoice n) (choices_of cs e)
  safe = all-filter (IsSafeChoice n) (λ (c : NetChoice). nat_eq c.event e) cs all-safe

  part : HasPart n cs 2 (range_with_len 0 (length n.events)) e e
  part = has-part n cs 2 (range_with_len 0 (length n.events)) e e (let number : 0 + e ≡ e = omega arith in subst (λ k. slice_get (range_with_len 0 (length n.events)) e ≡ Some k) number (range-at 0 (length n.events) e within))

  abbrev p : Program
  p = net_program n cs U C

  declared : AreDeclared (net_program n cs U C) (first_place n) part.number (event_faces n (choices_of cs e))
  declared = are-declared n cs U C parts.few_own e e part

  -- the own variables of the expressions
  abbrev types : List StTy
  types = flat_map (choice_types n) (choices_of cs e)

  count-is : length types ≡ all_temps n (choices_of cs e)
  count-is = faces-types n (types-length n) (choices_of cs e)

  ifs : Declares (net_program n cs U C).vars (event_naming n (choices_of cs e) part.number) (first_place n) (ifs_from n (choices_of cs e) part.number) types
  ifs = declares-ifs n p (first_place n) part.number here declared count-is
      (λ (v : ℕ) (h : has (event_vars here) v ≡ true). vars-there n v here stands (sym (once-all (flat_map (λ (c : NetChoice). targets c.writes) here) v) ∙ h))

  kept : (v : Naming) (x : Setting) → v.own ≡ (event_naming n (choices_of cs e) part.number).own → Promises (net_program n cs U C).vars v x (first_place n) (ifs_from n (choices_of cs e) part.number)
      (ifs_from n (choices_of cs e) part.number + all_temps n (choices_of cs e))
  kept v x same =
      let low : ℕ = ifs_from n (choices_of cs e) part.number in
      let count : ℕ = low + all_temps n here - low in
      promised p.vars v x (first_place n) low (low + all_temps n here) (omega arith)
      (same-places p.vars (event_naming n here part.number) v (first_place n) low count same
      (own-places p.vars (event_naming n here part.number) (first_place n) low types count (omega (arith, count-is)) ifs (choices-free n here)))

  tried : TriesEvent (face_of_net n) (system_of_net n) (net_program n cs U C) (event_part n part.number (choices_of cs e)) e
  tried =
      safe-parts-tried n cs p (first_place n) part.number e net parts.guarded (invariants-named n parts.plain) parts.small_variables parts.small_inputs within safe
      (mark-declared n cs U C parts.few_own) declared (types-length n) (λ r k x fit passes. bool-by n r k x fit passes) (λ r k x fit passes. there n r k x fit passes) kept

  pub event-tried : TriesEvent (face_of_net n) (system_of_net n) (net_program n cs U C) (part_of (map asked (net_parts n cs)) e) e
  event-tried = subst (λ (q : Part). TriesEvent (face_of_net n) (system_of_net n) (net_program n cs U C) q e) (sym part.is) tried

pub all-tried : (n : Net) (cs : List NetChoice) (U C : ℕ) → HasParts n cs U C → check_faults (net_program n cs U C) ≡ [] → (e : ℕ) → e < length n.events
    → TriesEvent (face_of_net n) (system_of_net n) (net_program n cs U C) (part_of (map asked (net_parts n cs)) e) e
all-tried n cs U C parts checked e within = event-tried n cs U C parts e within
