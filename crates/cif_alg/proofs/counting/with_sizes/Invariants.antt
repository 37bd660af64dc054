use Rattle.std.proofs.Common.{◌≡◌, drop}
use Rattle.cif_alg.specs.Sizes.{sizes_added}
use Rattle.cif_alg.proofs.counting.with_sizes.Given as goal

abbrev pub invariant-loop-alg : goal.invariant-loop-alg
invariant-loop-alg l = sizes_added l.nodes (drop l.alg-index l.algs) ≡ sizes_added l.choices l.algs
