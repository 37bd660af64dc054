use Rattle.std.proofs.Common.{refl}
use Rattle.std.specs.Fmt.{digits}
use Rattle.cif_tool.proofs.laws.this_line_is_told.Goals as goal

pub returns : goal.returns
unfolding digits
returns c = refl
