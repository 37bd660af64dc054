use Rattle.std.proofs.Common.{◌∙◌}
use Rattle.st_read.proofs.Literals.{identifier_read}
use Rattle.st_read.proofs.names.identifier.Goals as goal

pub returns : goal.returns
returns c = identifier_read c.args.tokens c.in_ok-token.rest c.in_ok-token.token c.in_ok-from_slice.field-0 c.in_ok-token.ensures (λ e. c.in_ok-from_slice.ensures ∙ c.name.ensures e)
