use Rattle.cif_front.proofs.building.build.Goals as goal

pub guarded_of-requires-clause-plain : goal.guarded_of-requires-clause-plain
guarded_of-requires-clause-plain c = c.in_ok-plain.ensures.plain
