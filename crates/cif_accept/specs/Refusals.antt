-- Helper of the code: how a command ends whose source is not loaded.
use Rattle.cif_front.specs.declared.error.LoadErr.{LoadErr}
use Rattle.cif_front.specs.declared.error.LoadErr.TheVariants as load
use Rattle.cif_run.specs.declared.status.Status.{Status}
use Rattle.cif_run.specs.declared.status.Status.TheVariants as status
use Rattle.cif_run.specs.declared.status.ProfileWhy.TheVariants as profile

abbrev pub status_of : LoadErr → Status
status_of (load.Refused why) = status.Refused why
status_of (load.TooManyChoices count) = status.OutsideProfile (profile.TooManyChoices count)
status_of load.Memory = status.Memory
