-- The part of an event whose choices have safe expressions tries the event.
use Rattle.std.proofs.Common.{◌≡◌, ℕ, ◌+◌, ◌<◌, true, List, flat_map, length, Option, sym, ◌∙◌}
use Rattle.std.specs.Prelude.{nat_eq}
use Rattle.std.specs.List.{AllByRecursion, list_all}
use Rattle.cif_base.specs.declared.types.Ty.{Ty}
use Rattle.cif_net_expr.specs.Tree.{NetExpr}
use Rattle.cif_net_model.specs.Net.{NetInvariant, Net}
use Rattle.cif_net_model.specs.Exprs.{targets}
use Rattle.cif_net_model.specs.Facts.{has, is_net}
use Rattle.cif_net_model.specs.Kinds.{Kind, fits, is_bool}
use Rattle.cif_net_model.specs.Listing.{NetChoice}
use Rattle.cif_net_model.specs.Meaning.{system_of_net}
use Rattle.cif_net_model.specs.Reads.{names_in, names_no_alg}
use Rattle.cif_net_model.specs.Table.{IsGuarded, choice_stands}
use Rattle.st_ast.specs.Tree.{Program}
use Rattle.st_ast.specs.declared.tree.StTy.TheVariants as ty
use Rattle.plc_model.specs.Face.{IsDeclared}
use Rattle.plc_model.specs.Frame.{TriesEvent, fired}
use Rattle.plc_frame.specs.Events.{choices_of}
use Rattle.plc_frame.specs.Faces.{face_of_net}
use Rattle.plc_frame.specs.Small.{are_small}
use Rattle.plc_frame.proofs.Choosing.{all-filter, all-of}
use Rattle.plc_frame.proofs.Facts.{standing}
use Rattle.plc_expr.specs.Held.{IsThere}
use Rattle.cif_net_model.specs.Safe.{Setting}
use Rattle.plc_expr.specs.Texts.{Naming, temps}
use Rattle.plc_expr.specs.Sorts.{is_boolean, own_types}
use Rattle.plc_event_model.specs.Asked.{Promises}
use Rattle.plc_event_model.specs.Own.{event_vars, new_names, sent_name}
use Rattle.plc_event_model.specs.Parts.{AreDeclared, all_temps, event_first, event_part, event_faces, event_naming, ifs_from}
use Rattle.plc_event_model.specs.Ready.{IsSafeChoice}
use Rattle.plc_event_model.proofs.Targets.{once-all}
use Rattle.plc_event_model.proofs.Laying.{declares-ifs}
use Rattle.plc_event_model.proofs.Parts.{parts-tried, types-length, vars-there}
use Rattle.plc_event_model.proofs.Readying.{all-ready}

module _ (n : Net) (cs : List NetChoice) (p : Program) (base j e : ℕ) where
  abbrev here : List NetChoice
  here = choices_of cs e

  pub safe-parts-tried : is_net n ≡ true → IsGuarded n cs → list_all (λ (i : NetInvariant). names_no_alg i.pred) n.invariants ≡ true → are_small n.vars ≡ true → are_small n.inputs ≡ true → e < length n.events
      → AllByRecursion (IsSafeChoice n) (choices_of cs e) → IsDeclared p.vars fired ty.Bool → AreDeclared p base j (event_faces n (choices_of cs e))
      → ((r : Option Ty) (x : NetExpr) → length (own_types n r x) ≡ temps x)
      → ((r : Option Ty) (k : Kind) (x : NetExpr) → fits n r k x ≡ true → names_no_alg x ≡ true → is_boolean n r x ≡ is_bool k)
      → ((r : Option Ty) (k : Kind) (x : NetExpr) → fits n r k x ≡ true → names_no_alg x ≡ true → AllByRecursion (IsThere n r) (names_in x))
      → ((v : Naming) (x : Setting) → v.own ≡ (event_naming n (choices_of cs e) j).own → Promises p.vars v x base (ifs_from n (choices_of cs e) j) (ifs_from n (choices_of cs e) j + all_temps n (choices_of cs e)))
      → TriesEvent (face_of_net n) (system_of_net n) p (event_part n j (choices_of cs e)) e
  safe-parts-tried is guarded free small_vars small_inputs within safe mark declared own_length told named promised =
      let stands = all-filter (λ (c : NetChoice). choice_stands n c ≡ true) (λ (c : NetChoice). nat_eq c.event e) cs (all-of (λ (c : NetChoice). choice_stands n c ≡ true) cs guarded.stands) in
      let there = λ (v : ℕ) (h : has (event_vars here) v ≡ true). vars-there n v here stands (sym (once-all (flat_map (λ (c : NetChoice). targets c.writes) here) v) ∙ h) in
      parts-tried n cs p base j e is guarded free within mark declared own_length promised
      (all-ready n (standing n is) small_vars small_inputs p (sent_name n here (event_first n here j)) base own_length told named free (new_names n here (event_first n here j)) here (ifs_from n here j) stands safe
      (declares-ifs n p base j here declared (types-length n own_length here) there))
