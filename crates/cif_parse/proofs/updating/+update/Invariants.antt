use Rattle.cif_parse.proofs.updating.+update.Given as goal

abbrev pub decreases-update : goal.decreases-update
decreases-update l = l.depth
