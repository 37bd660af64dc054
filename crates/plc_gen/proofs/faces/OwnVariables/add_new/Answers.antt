use Rattle.std.proofs.Common.{◌∙◌, arith}
use Rattle.cif_net.specs.View.{net_tree}
use Rattle.plc_event_model.specs.Own.{new_face}
use Rattle.plc_gen.proofs.Facing.{counted-more, declared-more, one-named}
use Rattle.plc_event.proofs.Marking.{same-item}
use Rattle.plc_gen.proofs.faces.OwnVariables.add_new.Goals as goal

pub loop-var-preserved : goal.loop-var-preserved
loop-var-preserved c =
    let n = net_tree c.args.net.now in
    let item = same-item c.args.vars.now c.loop-var.var-index 0 c.loop-var-test.true in
    record {
      variables = declared-more (new_face n) c.args.vars.now c.loop-var.var-index _ c.loop-var-test.true item c.loop-var.self.next c.declare_new.new.self.next c.loop-var.self.variables c.declare_new.new.self.variables
          c.in_ok-declare_new.ensures.variables c.in_ok-declare_new.ensures.next
          ∙ c.loop-var.invariant.variables;
      next = counted-more (new_face n) c.args.vars.now c.loop-var.var-index _ c.loop-var-test.true item c.loop-var.self.next c.declare_new.new.self.next c.in_ok-declare_new.ensures.next ∙ c.loop-var.invariant.next;
      at = let more = c.in_ok-declare_new.ensures.next in let so = c.loop-var.invariant.at in omega (arith, more, so);
      names = one-named n c.args.self.now.next c.args.vars.now c.loop-var.var-index _ c.loop-var.self.next c.loop-var.new c.declare_new.new.new c.loop-var-test.true item c.requires c.loop-var.invariant.names c.loop-var.invariant.at
          c.in_ok-declare_new.ensures.kept;
      in_range = c.in_ok-declare_new.ensures.kept.in_range ∙ c.loop-var.invariant.in_range;
    }
