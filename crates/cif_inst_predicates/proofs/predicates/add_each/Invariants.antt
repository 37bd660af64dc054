use Rattle.std.proofs.Common.{◌≡◌, ◌++◌, map, drop}
use Rattle.cif_ast.specs.View.{view}
use Rattle.cif_net.specs.View.{exclusion_tree}
use Rattle.cif_inst_names.specs.Looking.{component_at}
use Rattle.cif_inst_predicates.specs.Predicates.{exclusion_by}
use Rattle.cif_inst_predicates.proofs.predicates.add_each.Given as goal

abbrev pub invariant-loop-name : goal.invariant-loop-name
invariant-loop-name l = map exclusion_tree l.all ++ map (exclusion_by (component_at l.looking l.component) (view l.p) l.allows) (drop l.name-index l.events) ≡ map exclusion_tree l.fn.all ++ map (exclusion_by (component_at l.looking l.component) (view l.p) l.allows) l.events
