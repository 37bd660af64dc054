use Rattle.cif_net.specs.View.{net_tree}
use Rattle.plc_gen.proofs.Eventwise.{outlined-all}
use Rattle.plc_gen.proofs.parts.declared.Goals as goal

pub returns-clause-variables : goal.returns-clause-variables
returns-clause-variables c =
    outlined-all (net_tree c.args.net.now) c.args.outline.now c.args.first c.add_done.new.self.next c.add_range.new.self.next c.add_new.new.self.next c.add_sent.new.self.next c.as_slice.result.now c.as_slice-2.result.now c.new.result
    c.add_done.new.self.variables c.add_range.new.self.variables c.add_new.new.self.variables c.add_sent.new.self.variables c.add_ifs.new.self.variables c.new.ensures c.in_ok-add_done.ensures.variables c.in_ok-add_done.ensures.next
    c.in_ok-add_range.ensures.variables c.in_ok-add_range.ensures.next c.as_slice.ensures c.in_ok-add_new.ensures.variables c.in_ok-add_new.ensures.next c.in_ok-add_sent.ensures.variables c.in_ok-add_sent.ensures.next
    c.as_slice-2.ensures c.in_ok-add_ifs.ensures.variables
