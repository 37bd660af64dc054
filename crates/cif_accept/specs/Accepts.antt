-- What a command over one source does.
use Rattle.std.specs.Prelude.{◌≡◌, ◌⊎◌, ℕ, ◌≤◌, length}
use Rattle.grammar.specs.Pieces.{Text}
use Rattle.cif_run.specs.declared.status.Status.{Status}
use Rattle.cif_run.specs.declared.status.Status.TheVariants as status
use Rattle.cif_run.specs.declared.status.ProfileWhy.TheVariants as profile
use Rattle.cif_run.specs.Works.{Content, Holds, Input, Work, whole_work}
use Rattle.cif_net.specs.declared.guarded.Guarded.{Guarded}
use Rattle.cif_net.specs.View.{net_tree}
use Rattle.cif_source.specs.Source.{Source}
use Rattle.cif_refusal.specs.declared.refusal.Refusal.{Refusal}
use Rattle.cif_front.specs.declared.error.LoadErr.TheVariants as load
use Rattle.cif_front.specs.Dues.{HasTooMany, IsRefused}
use Rattle.cif_front.specs.Loads.{ReadsAsSource, Stands}
use Rattle.cif_front.specs.Paths.{NamesIn}

-- the most bytes of a source
abbrev pub source_limit : ℕ
source_limit = 4194304

-- the file in the word after the command's name
abbrev pub source_input : Text → Input
source_input file = record { word = 1; name = file; limit = source_limit }

-- the file holds a text that is short enough, and that is so of it
abbrev pub SourceHas : Content → Text → (Text → Type 0) → Type 0
SourceHas content file P = (bytes : Text) × Holds (content file) bytes × (length bytes ≤ source_limit) × P bytes

-- the file holds a source that is refused for this cause
abbrev pub SourceRefused : Content → Text → Refusal → Type 0
SourceRefused content file why = SourceHas content file (λ bytes. IsRefused bytes why)

-- the file holds a source with too many choices
abbrev pub SourceHasTooMany : Content → Text → (count : ℕ) → Type 0
SourceHasTooMany content file count = SourceHas content file (λ bytes. HasTooMany bytes count)

-- the file holds a source that reads as this
abbrev pub SourceIs : Content → Text → Source → Type 0
SourceIs content file t = SourceHas content file (λ bytes. ReadsAsSource bytes t)

-- the file holds a source, and this is so of it
abbrev pub OfSource : Content → (file : Text) → (Source → Type 0) → Type 0
OfSource content file P = (t : Source) × SourceIs content file t × P t

abbrev pub HasSource : Content → (file : Text) → Type 0
HasSource content file = OfSource content file (λ t. Unit {0})

-- the net is that of the source in the file
abbrev pub IsLoaded : Content → Text → Guarded → Type 0
IsLoaded content file g = (t : Source) × SourceIs content file t × Stands (net_tree g.plain.net) t

-- the text is refused for this cause, and if the cause tells of an algebraic variable, its path is this name
abbrev pub IsRefusedAs : Text → Refusal → (name : Text) → Type 0
IsRefusedAs text why name = IsRefused text why × NamesIn text (load.Refused why) name

-- why a source gives nothing, by the status, where that tells of something of this name
abbrev pub SourceEnds : Text → Status → (name : Text) → Type 0
SourceEnds bytes (status.Refused why) name = IsRefusedAs bytes why name
SourceEnds bytes (status.OutsideProfile (profile.TooManyChoices count)) name = HasTooMany bytes count
SourceEnds bytes status.Memory name = Unit {0}
SourceEnds bytes _ name = ⊥

-- how a command over the source in this file may end where that gives nothing
abbrev pub FileRefused : Content → Text → Status → (name : Text) → Type 0
FileRefused content file (status.Refused why) name = SourceHas content file (λ bytes. IsRefusedAs bytes why name)
FileRefused content file (status.OutsideProfile (profile.TooManyChoices count)) name = SourceHasTooMany content file count
FileRefused content file _ name = ⊥

-- how a command may end over a source that breaks no rule, where the status tells of something of this name
abbrev pub CommandEnds : Type 1
CommandEnds = Source → Status → Text → Type 0

abbrev pub no_ends : CommandEnds
no_ends t s name = ⊥

-- a command that may write these texts of the source in this file, and end so
abbrev pub source_work : Content → Text → (Source → Text → Type 0) → CommandEnds → Work
source_work content file P E = whole_work
    (λ i. i ≡ source_input file)
    (λ text. (t : Source) × SourceIs content file t × P t text)
    (λ s name. FileRefused content file s name ⊎ ((t : Source) × SourceIs content file t × E t s name))

-- the same of one that writes none
abbrev pub silent_work : Content → Text → Work
silent_work content file = source_work content file (λ t text. ⊥) no_ends
