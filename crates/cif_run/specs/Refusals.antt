-- Helper of the code: which status a file that is not read leads to.
use Rattle.std.specs.Prelude.{ℕ}
use Rattle.cif_io.specs.declared.files.FileErr.{FileErr}
use Rattle.cif_io.specs.declared.files.FileErr.TheVariants as file
use Rattle.cif_run.specs.declared.status.Status.{Status}
use Rattle.cif_run.specs.declared.status.Status.TheVariants as status

-- of the file in a word
abbrev pub read_status_of : ℕ → FileErr → Status
read_status_of k file.Failed = status.ReadFault k
read_status_of k (file.TooBig limit) = status.TooBig k
read_status_of k file.Memory = status.Memory
