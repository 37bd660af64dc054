-- The request of `why` as the code holds it.
use Rattle.cif_why_command.specs.Words as spec
use Rattle.cif_why_command.specs.declared.request.Why.{Why}

abbrev pub why_of : Why → spec.Why
why_of q = record { file = q.file.now; script = q.script.now; event = q.event.now }
