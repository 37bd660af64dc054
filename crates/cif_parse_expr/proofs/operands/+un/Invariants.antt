use Rattle.cif_parse_expr.proofs.operands.+un.Given as goal

abbrev pub decreases-un : goal.decreases-un
decreases-un l = l.fuel
