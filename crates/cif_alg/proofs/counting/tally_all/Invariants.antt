use Rattle.std.proofs.Common.{◌≡◌, map, drop}
use Rattle.cif_net.specs.View.{auto_tree}
use Rattle.cif_alg_measure.specs.Meanings.{table_measure}
use Rattle.cif_alg.specs.Tallies.{all_tallied}
use Rattle.cif_alg.proofs.counting.tally_all.Given as goal

abbrev pub invariant-loop-auto : goal.invariant-loop-auto
invariant-loop-auto l = all_tallied (table_measure l.algs) (map auto_tree (drop l.auto-index l.autos)) l.tallies ≡ all_tallied (table_measure l.algs) (map auto_tree l.autos) l.initial.tallies
