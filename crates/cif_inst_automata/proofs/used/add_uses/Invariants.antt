use Rattle.std.proofs.Common.{◌≡◌, ◌++◌, map, drop}
use Rattle.cif_source.specs.Source.{use_tree}
use Rattle.cif_inst_automata.specs.Alphabets.{use_used}
use Rattle.cif_inst_automata.proofs.used.add_uses.Given as goal

abbrev pub invariant-loop-event_use : goal.invariant-loop-event_use
invariant-loop-event_use l = l.all ++ map (use_used l.looking l.component) (map use_tree (drop l.event_use-index l.uses)) ≡ l.fn.all ++ map (use_used l.looking l.component) (map use_tree l.uses)
