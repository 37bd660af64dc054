use Rattle.std.proofs.Common.{◌≡◌, ◌+◌, ◌++◌, length, map, drop}
use Rattle.plc_event_model.specs.Own as o
use Rattle.plc_gen.specs.Outlines.{declared_from}
use Rattle.plc_gen.proofs.faces.OwnVariables.add_ifs.Given as goal

abbrev pub invariant-loop-ty : goal.invariant-loop-ty
invariant-loop-ty l = record {
  variables : l.self.variables ++ declared_from l.self.next (map o.if_face (drop l.ty-index l.types)) ≡ l.fn.self.variables ++ declared_from l.fn.self.next (map o.if_face l.types);
  next : l.self.next + length (drop l.ty-index l.types) ≡ l.fn.self.next + length l.types;
}
