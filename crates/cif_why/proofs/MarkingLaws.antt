-- A choice that passes is evaluated without a fault.
use Rattle.std.proofs.Common.{◌≡◌, ℕ, pos, true, map, Some, refl, sym, ap, ◌∙◌}
use Rattle.std.specs.Prelude.{option_map, option_to_list, slice_get}
use Rattle.std.specs.List.{AllByRecursion}
use Rattle.cif_system.specs.System.{IsState, State}
use Rattle.cif_net_expr.specs.View.{view}
use Rattle.cif_net_model.specs.Net.{Net}
use Rattle.cif_net.specs.View.{auto_tree, choice_tree, event_tree, net_tree, move_tree}
use Rattle.cif_net.specs.declared.guarded.Guarded.{Guarded}
use Rattle.cif_net.specs.declared.listing.Choice.{Choice}
use Rattle.cif_net_model.specs.Safe.{IsSafe}
use Rattle.cif_net_laws.proofs.Steps.{choices-are, guarded-steps}
use Rattle.cif_eval.specs.Choices.{system_of}
use Rattle.cif_eval.specs.Within.{within}
use Rattle.cif_eval.proofs.Chosen.{Chosen, chosen-of, sent-safe}
use Rattle.cif_why.specs.Agreeing.{is_agreeing}
use Rattle.cif_why.specs.Breaking.{AreSafeAfter}
use Rattle.cif_why.specs.Leaving.{IsSafeMove, sending_of}
use Rattle.cif_why.proofs.BreakLaws.{preds-safe}
use Rattle.cif_why.specs.Openings.{openings_from}
use Rattle.cif_why.proofs.Agreed.{map-get, passes-agrees}
use Rattle.cif_why.proofs.EdgeLaws.{moves-safe}
use Rattle.cif_why.proofs.Guards.{autos-mean}

module _ (g : Guarded) (s : State) (e : ℕ) (state : IsState (system_of g) s) (k : ℕ) (c : Choice) (at : slice_get g.choices k ≡ Some c) where
  abbrev n : Net
  n = net_tree g.plain.net

  chosen : Chosen n (choice_tree c) s
  chosen = chosen-of n (map choice_tree g.choices) g.plain.plain (guarded-steps g) k (choice_tree c) (map-get choice_tree g.choices k c at) s state

  pub sent-ok : AllByRecursion (IsSafe (within s (pos 0))) (option_to_list (option_map view c.sent))
  sent-ok = sent-safe n (choice_tree c) s chosen

  pub moves-ok : is_agreeing (openings_from (within s (pos 0)) e 0 n.autos) e (choice_tree c) ≡ true
      → AllByRecursion (IsSafeMove (map auto_tree g.plain.net.autos) s (sending_of (map event_tree g.plain.net.events) s (choice_tree c))) (map move_tree c.moves)
  moves-ok passes =
      moves-safe n (choice_tree c) s chosen
      (passes-agrees n s (within s (pos 0)) e g.plain.plain refl (autos-mean n s g.plain.plain state) k (choice_tree c) (ap (λ xs. slice_get xs k) (sym (choices-are g)) ∙ map-get choice_tree g.choices k c at) passes)

  pub preds-ok : AreSafeAfter n s (sending_of (map event_tree g.plain.net.events) s (choice_tree c)).received (map move_tree c.moves)
  preds-ok = preds-safe n (choice_tree c) s chosen
