use Rattle.std.proofs.Common.{List, map, sym, ap, ◌∙◌}
use Rattle.cif_net_expr.specs.View.{view_updates}
use Rattle.cif_net_model.specs.Exprs.{targets}
use Rattle.cif_net.specs.View.{choice_tree, move_tree, net_tree}
use Rattle.cif_net.specs.declared.listing.Move.{Move}
use Rattle.plc_event.specs.After.{place_by}
use Rattle.plc_event.proofs.Aftering.{variables-ended}
use Rattle.plc_event.proofs.Updating.{on-ok-map}
use Rattle.plc_event.proofs.writing.Writer.end_after.Goals as goal

pub reset_places-requires : goal.reset_places-requires
reset_places-requires c =
    λ k. c.requires.places k ∙ ap (λ (ms : List Move). place_by (net_tree c.args.self.now.net.now) (map move_tree ms) c.args.self.now.names.now.places k) (sym c.as_slice-moves.ensures)

pub returns : goal.returns
returns c =
    let names = c.args.self.now.names.now in
    on-ok-map c.reset_places.result _ _
    (λ places. record {
      places = places;
      variables =
          variables-ended c.args.self.now.new.now.next names.variables c.args.after.now.variables c.take_names.new.names c.as_slice-2.result.now (targets (choice_tree c.args.choice.now).writes)
          (c.as_slice-2.ensures ∙ c.in_ok-targets.ensures ∙ ap (λ us. targets (view_updates us)) c.as_slice.ensures) c.requires.variables c.in_ok-take_names.ensures;
      inputs = c.requires.inputs;
      own = c.requires.own;
    })
    c.reset_places.ensures
