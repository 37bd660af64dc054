use Rattle.std.proofs.Common.{◌≡◌, ◌++◌, map, drop}
use Rattle.cif_inst_names.specs.Looking.{component_at}
use Rattle.cif_inst_predicates.specs.Weights.{excluded_by}
use Rattle.cif_inst_predicates.proofs.weights.add_each.Given as goal

abbrev pub invariant-loop-name : goal.invariant-loop-name
invariant-loop-name l = l.all ++ map (excluded_by (component_at l.looking l.component) l.measure) (drop l.name-index l.events) ≡ l.fn.all ++ map (excluded_by (component_at l.looking l.component) l.measure) l.events
