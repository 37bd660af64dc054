use Rattle.cif_alg_measure.proofs.SizeLaws as size
use Rattle.cif_alg_measure.proofs.laws.none_measured.Goals as goal

pub returns : goal.returns
returns c n none = size.none-measured n none
