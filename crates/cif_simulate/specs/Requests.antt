-- The request of `simulate` as the code holds it.
use Rattle.cif_simulate.specs.Words as spec
use Rattle.cif_simulate.specs.declared.request.Simulate.{Simulate}
use Rattle.cif_simulate.specs.declared.request.Which.{Which}
use Rattle.cif_simulate.specs.declared.request.Which.TheVariants as which

abbrev pub which_of : Which → spec.Which
which_of (which.Script script) = spec.by_script script.now
which_of (which.First steps) = spec.by_first steps.count

abbrev pub simulate_of : Simulate → spec.Simulate
simulate_of q = record { file = q.file.now; which = which_of q.which }
