use Rattle.std.proofs.Common.{◌≡◌, map, drop}
use Rattle.cif_net.specs.View.{exclusion_tree}
use Rattle.cif_alg_measure.specs.Meanings.{table_measure}
use Rattle.cif_alg.specs.Tallies.{exclusions_noted}
use Rattle.cif_alg.proofs.counting.note_exclusions.Given as goal

abbrev pub invariant-loop-exclusion : goal.invariant-loop-exclusion
invariant-loop-exclusion l = exclusions_noted (table_measure l.algs) (map exclusion_tree (drop l.exclusion-index l.exclusions)) l.tallies ≡ exclusions_noted (table_measure l.algs) (map exclusion_tree l.exclusions) l.initial.tallies
