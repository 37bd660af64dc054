use Rattle.std.proofs.Common.{◌≡◌, ◌++◌, map, drop}
use Rattle.std.specs.List.{enumerate_from}
use Rattle.cif_net.specs.View.{input_tree}
use Rattle.plc_model.specs.declared.letter.Letter.TheVariants as letter
use Rattle.plc_frame.specs.Small.{are_small}
use Rattle.plc_event.specs.Names.{stored_name}
use Rattle.plc_event.proofs.naming.input_texts.Given as goal

-- what is done, and what is left, are all names
abbrev pub invariant-loop-at : goal.invariant-loop-at
invariant-loop-at l = record {
  names : l.all ++ map (stored_name letter.H) (enumerate_from l.at (map input_tree (drop l.at l.inputs))) ≡ map (stored_name letter.H) (enumerate_from 0 (map input_tree l.inputs));
  small : are_small (map input_tree (drop l.at l.inputs)) ≡ are_small (map input_tree l.inputs);
}
