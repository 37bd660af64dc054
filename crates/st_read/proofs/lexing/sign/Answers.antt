use Rattle.std.proofs.Common.{ap}
use Rattle.st_read.specs.Lexing.{kind_found}
use Rattle.st_read.proofs.Signs.{sign_found}
use Rattle.st_read.proofs.lexing.sign.Goals as goal

pub returns : goal.returns
returns c = ap kind_found (sign_found _ c.args.text.now c.in-Some._sign.now c.in-Some.kind c.in-Some.rest.now c.signs_for.ensures c.in-Some.ensures)
