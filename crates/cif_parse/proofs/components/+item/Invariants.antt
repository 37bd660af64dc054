use Rattle.cif_parse.proofs.components.+item.Given as goal

abbrev pub decreases-item : goal.decreases-item
decreases-item l = l.depth
