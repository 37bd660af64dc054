use Rattle.cif_scope.specs.Written.{body_of_written}
use Rattle.cif_types_kinds.proofs.BodyLaws.{body_checked}
use Rattle.cif_types_kinds.proofs.reading.Reading.check_values.Goals as goal

pub returns : goal.returns
returns c = body_checked c.args.self.now (body_of_written c.args.written) c.ask_body.result c.requires.reading c.requires.received c.requires.written c.ask_body.ensures
