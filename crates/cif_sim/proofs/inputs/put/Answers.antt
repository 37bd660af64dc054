use Rattle.std.proofs.Common.{◌∙◌, ap, arith, w64}
use Rattle.std.specs.Prelude.{slice_set}
use Rattle.std.proofs.lemmas.Int.{to_z-of_z}
use Rattle.cif_net.specs.View.{state_tree}
use Rattle.cif_sim.proofs.Fitting.{inputs-count, put-state}
use Rattle.cif_sim.proofs.inputs.put.Goals as goal

pub set-requires : goal.set-requires
set-requires c = omega (arith, c.requires.input, inputs-count c.args.guarded.now (state_tree c.args.state.now) c.requires.state)

pub returns-clause-state : goal.returns-clause-state
returns-clause-state c =
    put-state c.args.guarded.now (state_tree c.args.state.now) c.args.input c.args.value c.set.new.self c.requires.state c.requires.fits
    (c.set.ensures ∙ ap (slice_set c.args.state.now.ins c.args.input) (to_z-of_z w64 c.args.value c.ranges.value))
