use Rattle.plc_gen_laws.proofs.Showing.{algs-shown}
use Rattle.plc_gen_laws.proofs.trying.algebraic_variables_are_shown.Goals as goal

pub returns : goal.returns
returns c = algs-shown
