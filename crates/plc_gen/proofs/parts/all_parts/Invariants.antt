use Rattle.std.proofs.Common.{◌≡◌, ◌+◌, ◌-◌, ◌++◌, length, map}
use Rattle.std.specs.List.{AllByRecursion, range_with_len}
use Rattle.cif_net.specs.View.{choice_tree, net_tree}
use Rattle.plc_frame.specs.Given.{own_variables, part_tree}
use Rattle.plc_event_model.specs.ProgramParts.{net_parts, parts_from}
use Rattle.plc_event.specs.After.{AreSame}
use Rattle.plc_event.specs.Names.{AreNames}
use Rattle.plc_gen.specs.Named.{IsNamedChoice}
use Rattle.plc_gen.specs.Order.{Ascending}
use Rattle.plc_gen.proofs.parts.all_parts.Given as goal

-- what is done, and the parts of the events that are left, are all parts
abbrev pub invariant-loop-event : goal.invariant-loop-event
invariant-loop-event l = record {
  parts : map part_tree l.parts ++ parts_from (net_tree l.net) (map choice_tree l.rest) l.next (range_with_len l.event (length (net_tree l.net).events - l.event)) ≡ net_parts (net_tree l.net) (map choice_tree l.choices);
  named : AllByRecursion (IsNamedChoice (net_tree l.net)) (map choice_tree l.rest);
  ascending : Ascending l.event (map choice_tree l.rest);
  names : AreNames (net_tree l.net) l.names;
  same : AreSame l.tables.scratch.after l.names;
  next : l.next ≡ 2 + length (own_variables (map part_tree l.parts));
}
