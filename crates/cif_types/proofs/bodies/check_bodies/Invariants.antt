use Rattle.cif_source.specs.Source.{source_of}
use Rattle.cif_types.specs.Bodies.{AreFine}
use Rattle.cif_types.proofs.bodies.check_bodies.Given as goal

abbrev pub invariant-loop-body : goal.invariant-loop-body
invariant-loop-body l = AreFine (source_of l.spec) l.body
