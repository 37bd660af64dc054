use Rattle.std.proofs.Common.{rules}
use Rattle.cif_script.proofs.Decimals.{is_decimal_read}
use Rattle.cif_script.proofs.values.number_in.Goals as goal

pub returns : goal.returns
returns c = is_decimal_read c.args.word.now c.read_int.result c.read_int.ensures.some (search rules) c.read_int.ensures.read
