-- What is told of a text that is read or refused.
use Rattle.std.proofs.Common.{◌≡◌, ℕ, ◌≤◌, List, None, Result, Ok, Err, refl, ap, ◌∙◌}
use Rattle.std.specs.Prelude.{IfOk, IfErr, MatchResult, length}
use Rattle.grammar.specs.Pieces.{Text}
use Rattle.st_ast.specs.Tokens.{Token}
use Rattle.st_ast.specs.Tree.{Program}
use Rattle.st_ast.specs.ReadsAs.{Derives}
use Rattle.st_read.proofs.CuttingLaws.{token_lists_agree}
use Rattle.st_read.specs.declared.error.StErr.{StErr}
use Rattle.st_read.specs.declared.error.StErr.TheVariants as err
use Rattle.st_read.specs.Told.{Refuses, Tells}
use Rattle.st_read.specs.Lexing.{Lexes}
use Rattle.st_read.specs.Reading.{program_of}
use Rattle.st_read.specs.Refusals.{NotReadDue, RefusalDue}
use Rattle.st_read.proofs.Whole.{read_derives, none_derives, one_derives}
use Rattle.st_read.proofs.RefusalLaws.{no_bad_byte, no_big_number, no_open_comment, refused_derives_none}

-- ---- tokens of which no program is read

none_reads : (text : Text) (ts : List Token) → Lexes text ts → program_of ts ≡ None → (p : Program) → Derives text p → ⊥
none_reads text ts l e p d =
    let same = token_lists_agree text d.tokens ts d.are_tokens l.are_tokens in
    none_derives d.tokens (ap program_of same ∙ e) p d.derived

not_read : (text : Text) (at : ℕ) (ts : List Token) → Lexes text ts → at ≤ length text → program_of ts ≡ None → NotReadDue text at
not_read text at ts l w e = record {
  within = w;
  no_bad_byte = λ n due. no_bad_byte text n due ts l;
  no_big_number = λ n due. no_big_number text n due ts l;
  no_open_comment = λ n due. no_open_comment text n due ts l;
  no_program = none_reads text ts l e;
}

-- ---- what is told of a text

pub told_read : {X : Type 0} (view : X → Program) (text : Text) (ts : List Token) (r : Result X StErr) → Lexes text ts → Tells (length text) view r (program_of ts) → IfOk r (λ p. Derives text (view p))
told_read view text ts (Ok p) l t = record { tokens = ts; are_tokens = l.are_tokens; derived = read_derives ts (view p) t }
told_read view text ts (Err e) l t = tt

due : (text : Text) (ts : List Token) (why : StErr) → Lexes text ts → Refuses (length text) why (program_of ts) → RefusalDue text why
due text ts (err.StBadByte at) l t = absurd t
due text ts (err.StNumberTooBig at) l t = absurd t
due text ts (err.StOpenComment at) l t = absurd t
due text ts (err.StNotRead at) l t = not_read text at ts l t.0 t.1
due text ts err.Memory l t = tt

pub told_refused : {X : Type 0} (view : X → Program) (text : Text) (ts : List Token) (r : Result X StErr) → Lexes text ts → Tells (length text) view r (program_of ts) → IfErr r (RefusalDue text)
told_refused view text ts (Ok p) l t = tt
told_refused view text ts (Err why) l t = due text ts why l t

pub only_memory : (text : Text) (why : StErr) → RefusalDue text why → (p : Program) → Derives text p → why ≡ err.Memory
only_memory text (err.StBadByte at) h p d = absurd (refused_derives_none text (err.StBadByte at) h (λ e. cc) p d)
only_memory text (err.StNumberTooBig at) h p d = absurd (refused_derives_none text (err.StNumberTooBig at) h (λ e. cc) p d)
only_memory text (err.StOpenComment at) h p d = absurd (refused_derives_none text (err.StOpenComment at) h (λ e. cc) p d)
only_memory text (err.StNotRead at) h p d = absurd (refused_derives_none text (err.StNotRead at) h (λ e. cc) p d)
only_memory text err.Memory h p d = refl

-- a text that derives a program is read as that, or memory runs out
pub told_complete : {X : Type 0} (view : X → Program) (text : Text) (r : Result X StErr) → IfOk r (λ p. Derives text (view p)) → IfErr r (RefusalDue text)
    → (p : Program) → Derives text p → MatchResult r (λ q. view q ≡ p) (λ e. e ≡ err.Memory)
told_complete view text (Ok q) h k p d = one_derives text (view q) p h d
told_complete view text (Err why) h k p d = only_memory text why k p d
