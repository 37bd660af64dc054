use Rattle.std.proofs.Common.{arith}
use Rattle.cif_system.proofs.Lists.{slice_get-below}
use Rattle.cif_sim.proofs.Listing.{all-at}
use Rattle.cif_sim.proofs.readers.add_names_of.Goals as goal

pub returns-clause-added : goal.returns-clause-added
returns-clause-added c =
    all-at c.loop-name.readers c.args.event c.args.names.now
    (λ k x at. c.loop-name.invariant.added k x (omega (arith, slice_get-below c.args.names.now k x at, c.loop-name-test.false)) at)
