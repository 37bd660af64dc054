use Rattle.std.proofs.Common.{◌≡◌, ◌+◌, ◌++◌, length, map, drop}
use Rattle.cif_net.specs.View.{net_tree}
use Rattle.plc_event_model.specs.Own as o
use Rattle.plc_gen.specs.Outlines.{declared_from}
use Rattle.plc_gen.proofs.Facing.{FirstNamed}
use Rattle.plc_gen.proofs.faces.OwnVariables.add_new.Given as goal

abbrev pub invariant-loop-var : goal.invariant-loop-var
invariant-loop-var l = record {
  variables : l.self.variables ++ declared_from l.self.next (map (o.new_face (net_tree l.net)) (drop l.var-index l.vars)) ≡ l.fn.self.variables ++ declared_from l.fn.self.next (map (o.new_face (net_tree l.net)) l.vars);
  next : l.self.next + length (drop l.var-index l.vars) ≡ l.fn.self.next + length l.vars;
  at : l.self.next ≡ l.fn.self.next + l.var-index;
  names : FirstNamed (net_tree l.net) l.fn.self.next l.vars l.var-index l.new;
  in_range : l.new.in_range ≡ l.fn.new.in_range;
}
