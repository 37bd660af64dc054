use Rattle.std.proofs.Common.{◌≡◌, drop}
use Rattle.std.specs.List.{list_all}
use Rattle.cif_parse.specs.Trees.{is_named}
use Rattle.cif_parse.proofs.automata.are_named.Given as goal

abbrev pub invariant-loop-loc : goal.invariant-loop-loc
invariant-loop-loc l = list_all is_named l.locs ≡ list_all is_named (drop l.loc-index l.locs)
