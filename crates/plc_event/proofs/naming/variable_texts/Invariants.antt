use Rattle.std.proofs.Common.{◌≡◌, ◌++◌, map, drop}
use Rattle.std.specs.List.{enumerate_from}
use Rattle.cif_net.specs.View.{var_tree}
use Rattle.plc_model.specs.declared.letter.Letter.TheVariants as letter
use Rattle.plc_frame.specs.Small.{are_small}
use Rattle.plc_event.specs.Names.{stored_name}
use Rattle.plc_event.proofs.naming.variable_texts.Given as goal

-- what is done, and what is left, are all names
abbrev pub invariant-loop-at : goal.invariant-loop-at
invariant-loop-at l = record {
  names : l.all ++ map (stored_name letter.V) (enumerate_from l.at (map var_tree (drop l.at l.vars))) ≡ map (stored_name letter.V) (enumerate_from 0 (map var_tree l.vars));
  small : are_small (map var_tree (drop l.at l.vars)) ≡ are_small (map var_tree l.vars);
}
