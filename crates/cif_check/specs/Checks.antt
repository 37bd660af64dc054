-- What `check` does.
use Rattle.std.specs.Prelude.{◌≡◌, codes}
use Rattle.grammar.specs.Pieces.{Text}
use Rattle.cif_run.specs.Works.{Content, Work}
use Rattle.cif_accept.specs.Accepts.{no_ends, source_work}
use Rattle.cif_check.specs.Words.{Check as Asked}
use Rattle.cif_check.specs.declared.words.Check.{Check}

-- the text of a source that is accepted
abbrev pub accepted : Text
accepted = codes "ok\n"

abbrev pub check_work : Asked → Content → Work
check_work k content = source_work content k.file (λ t text. text ≡ accepted) no_ends

-- what is asked for, as the code holds it
abbrev pub check_of : Check → Asked
check_of k = record { file = k.file.now }
