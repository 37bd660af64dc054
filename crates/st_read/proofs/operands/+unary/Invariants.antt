use Rattle.st_read.proofs.operands.+unary.Given as goal

abbrev pub decreases-unary : goal.decreases-unary
decreases-unary l = l.fuel
