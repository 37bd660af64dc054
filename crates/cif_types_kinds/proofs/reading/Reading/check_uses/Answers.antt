use Rattle.cif_scope.specs.Written.{body_of_written}
use Rattle.cif_types_kinds.proofs.UseLaws.{uses_checked}
use Rattle.cif_types_kinds.proofs.reading.Reading.check_uses.Goals as goal

pub returns : goal.returns
returns c = uses_checked c.args.self.now (body_of_written c.args.written) c.check_inside_uses.result c.requires.written c.check_inside_uses.ensures
