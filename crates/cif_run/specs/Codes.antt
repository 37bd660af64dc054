-- The exit codes.
use Rattle.std.specs.Prelude.{ℕ}
use Rattle.cif_run.specs.declared.status.Status.{Status}
use Rattle.cif_run.specs.declared.status.Status.TheVariants as status

abbrev pub code_of : Status → ℕ
code_of status.Done = 0
code_of status.Usage = 2
code_of (status.ReadFault k) = 3
code_of status.WriteFault = 4
code_of status.Memory = 5
code_of (status.TooBig k) = 6
code_of (status.Refused why) = 7
code_of (status.OutsideProfile why) = 8
code_of (status.StRefused why) = 9
code_of (status.RowRefused why) = 10
code_of (status.ScanFault k e) = 11
code_of (status.Budget k) = 12
code_of (status.Stopped k why) = 13
code_of (status.BadTrace log k) = 14
code_of (status.LogRefused log k) = 15
code_of status.NoEvent = 16
