use Rattle.cif_scope.specs.Written.{body_of_written}
use Rattle.cif_types_arguments.proofs.ArgumentLaws.{arguments_checked}
use Rattle.cif_types_arguments.proofs.checking.check_arguments.Goals as goal

pub returns : goal.returns
returns c = arguments_checked c.args.reading.now c.args.all.now (body_of_written c.args.one) c.check_inside.result c.requires.reading c.requires.all c.requires.written c.check_inside.ensures
