-- What the standard error has, by what became of the line.
use Rattle.std.proofs.Common.{◌≡◌, List, length, Option, Some, None, refl, sym, ap, subst, ◌∙◌, arith, append-nil, take_all}
use Rattle.grammar.specs.Pieces.{Text}
use Rattle.cif_io.specs.Written.{grown}
use Rattle.cif_run.specs.Lines.{line_at}
use Rattle.cif_run.specs.Tells.{Tells}
use Rattle.cif_run.specs.Works.{GrewByPart}
use Rattle.cif_run.specs.declared.status.Status.TheVariants as status
use Rattle.cif_run.specs.declared.ended.Ended.{Ended}

-- nothing is a beginning
pub begins-nothing : (text : Text) (o : Option Text) → GrewByPart text o o
begins-nothing text None = (0, omega arith, refl)
begins-nothing text (Some w) = (0, omega arith, ap Some (sym (append-nil w)))

-- and the whole text is one
pub begins-all : (text : Text) (old new : Option Text) → new ≡ grown old text → GrewByPart text old new
begins-all text old new e = (length text, omega arith, e ∙ ap (grown old) (sym (take_all (length text) text (omega arith))))

-- a part of one text is a part of an equal one
pub part_of : (old new : Option Text) (slice text : Text) → slice ≡ text → GrewByPart slice old new → GrewByPart text old new
part_of old new slice text e h = subst (λ t. GrewByPart t old new) e h

pub tells-nothing : (words : List Text) (e : Ended) (o : Option Text) (rose : Type 0) → Tells words e o o rose status.Memory
tells-nothing words e o rose = record { begins = begins-nothing (line_at words e) o; is = λ q. absurd (q refl); whole = λ q r. absurd (q refl) }

pub tells-part : (words : List Text) (e : Ended) (old new : Option Text) (rose : Type 0) → GrewByPart (line_at words e) old new → Tells words e old new rose status.Memory
tells-part words e old new rose part = record { begins = part; is = λ q. absurd (q refl); whole = λ q r. absurd (q refl) }

pub tells-failed : (words : List Text) (e : Ended) (old new : Option Text) (rose : Type 0) → GrewByPart (line_at words e) old new → rose → Tells words e old new rose e.status
tells-failed words e old new rose part failed = record { begins = part; is = λ q. refl; whole = λ q r. absurd (r failed) }

pub tells-all : (words : List Text) (e : Ended) (old new : Option Text) (rose : Type 0) → new ≡ grown old (line_at words e) → Tells words e old new rose e.status
tells-all words e old new rose all = record { begins = begins-all (line_at words e) old new all; is = λ q. refl; whole = λ q r. all }
