use Rattle.cif_inst_numbers.proofs.NumberLaws.{total-are}
use Rattle.cif_inst_numbers.proofs.numbers.Numbers.total.Goals as goal

pub returns : goal.returns
returns c t h = total-are t c.args.self.now h
