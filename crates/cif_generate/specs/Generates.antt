-- What `generate` does.
use Rattle.std.specs.Prelude.{◌≡◌, Option}
use Rattle.grammar.specs.Pieces.{Text}
use Rattle.cif_io.specs.Written.{grown}
use Rattle.cif_run.specs.declared.status.Status.TheVariants as status
use Rattle.cif_run.specs.declared.status.ProfileWhy.TheVariants as profile
use Rattle.cif_run.specs.Works.{Content, Work}
use Rattle.cif_inst_model.specs.NetRules.{UnclassedDue}
use Rattle.cif_source.specs.Source.{Source}
use Rattle.cif_accept.specs.Accepts.{CommandEnds, SourceIs, source_work}
use Rattle.cif_generate.specs.Words.{Generate as Asked}
use Rattle.cif_generate.specs.Meaning.{IsWrittenFor, event_path}
use Rattle.cif_generate.specs.declared.request.Generate.{Generate}

-- the first event without a class is told by its path
abbrev pub is_unclassed : CommandEnds
is_unclassed t (status.OutsideProfile (profile.Unclassed event)) name = UnclassedDue t event × (name ≡ event_path t event)
is_unclassed t _ name = ⊥

abbrev pub generate_work : Asked → Content → Work
generate_work g content = source_work content g.file (IsWrittenFor g.unc g.con) is_unclassed

-- what is asked for, as the code holds it
abbrev pub generate_of : Generate → Asked
generate_of g = record { file = g.file.now; unc = g.bounds.unc; con = g.bounds.con }

-- the file holds a source, and what was written is as P says of it
abbrev pub Writes : Content → Text → Option Text → Option Text → (Source → Text → Type 0) → Type 0
Writes content file old new P = (t : Source) × SourceIs content file t × ((text : Text) × (new ≡ grown old text) × P t text)
