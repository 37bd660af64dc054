use Rattle.std.proofs.Common.{◌-◌, length}
use Rattle.csv.specs.Records.{fields_of}
use Rattle.plc_rows.proofs.HeaderLaws.{Reading}
use Rattle.plc_rows.proofs.header.read_header.Given as goal

abbrev pub invariant-loop-name : goal.invariant-loop-name
invariant-loop-name l = Reading l.program.vars (fields_of l.header) l.found l.seen

abbrev pub decreases-loop-name : goal.decreases-loop-name
decreases-loop-name l = length (fields_of l.header) - length l.found
