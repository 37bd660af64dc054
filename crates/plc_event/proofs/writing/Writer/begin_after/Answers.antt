use Rattle.std.proofs.Common.{List, map, ap, ◌∙◌}
use Rattle.cif_net_expr.specs.View.{view_updates}
use Rattle.cif_net_model.specs.Exprs.{targets}
use Rattle.cif_net.specs.View.{choice_tree, move_tree, net_tree}
use Rattle.cif_net.specs.declared.listing.Move.{Move}
use Rattle.plc_event.specs.After.{place_by}
use Rattle.plc_event.proofs.Aftering.{variables-begun}
use Rattle.plc_event.proofs.writing.Writer.begin_after.Goals as goal

pub returns : goal.returns
returns c =
    let n = net_tree c.args.self.now.net.now in
    let names = c.args.self.now.names.now in
    record {
      places = λ k. c.in_ok-move_places.ensures k ∙ ap (λ (ms : List Move). place_by n (map move_tree ms) names.places k) c.as_slice-moves.ensures;
      variables =
          variables-begun c.args.self.now.new.now.next names.variables c.args.after.now.variables c.take_names.new.names c.as_slice-2.result.now (targets (choice_tree c.args.choice.now).writes)
          (c.as_slice-2.ensures ∙ c.in_ok-targets.ensures ∙ ap (λ us. targets (view_updates us)) c.as_slice.ensures) c.requires.variables c.in_ok-take_names.ensures;
      inputs = c.requires.inputs;
      received = c.in_ok-after.ensures;
      own = c.requires.own;
    }
