use Rattle.cif_inst_names.proofs.naming.+named.Given as goal

abbrev pub decreases-named : goal.decreases-named
decreases-named l = l.left
