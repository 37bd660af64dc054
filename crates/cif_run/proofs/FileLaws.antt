-- Why a file was not read, by the error of its read.
use Rattle.std.proofs.Common.{◌≡◌, ℕ, ◌<◌, ◌≤◌, Option, refl, sym, subst, inl, inr, arith}
use Rattle.std.specs.Prelude.{MatchOption, length}
use Rattle.grammar.specs.Pieces.{Text}
use Rattle.cif_io.specs.declared.files.FileErr.{FileErr}
use Rattle.cif_io.specs.declared.files.FileErr.TheVariants as file
use Rattle.cif_run.specs.declared.status.Status.{Status}
use Rattle.cif_run.specs.declared.ended.Ended.{Ended}
use Rattle.cif_run.specs.Groups.{Group, done, unread, too_long, unwritten, wanting, judged, halted, group_of}
use Rattle.cif_run.specs.Refusals.{read_status_of}
use Rattle.cif_run.specs.Works.{Failed, FileEnds, Input, IsLonger, Reading, StopsIn, Work}

ends_by : (c : Reading) (i : Input) (error : FileErr) → (error ≡ file.Failed → Failed c i) → ((l : ℕ) → error ≡ file.TooBig l → IsLonger c i)
    → FileEnds c i i.limit (group_of (read_status_of i.word error))
ends_by c i file.Failed failed longer = (refl, failed refl)
ends_by c i (file.TooBig l) failed longer = (refl, longer l refl, refl)
ends_by c i file.Memory failed longer = tt

pub file_ends : (c : Reading) (i : Input) (error : FileErr) (s : Status) → s ≡ read_status_of i.word error → (error ≡ file.Failed → Failed c i)
    → ((l : ℕ) → error ≡ file.TooBig l → IsLonger c i) → FileEnds c i i.limit (group_of s)
file_ends c i error s is failed longer = subst (λ t. FileEnds c i i.limit (group_of t)) (sym is) (ends_by c i error failed longer)

-- a command that asks for the file stops for that
pub file_stops : (w : Work) (c : Reading) (i : Input) (e : Ended) (g : Group) → w.asks i → FileEnds c i e.limit g → StopsIn w c e g
file_stops w c i e (unread k) asks h = (i, asks, h.0, h.1)
file_stops w c i e (too_long k) asks h = (i, asks, h.0, h.1, h.2)
file_stops w c i e wanting asks h = tt
file_stops w c i e done asks h = absurd h
file_stops w c i e unwritten asks h = absurd h
file_stops w c i e judged asks h = absurd h
file_stops w c i e (halted s) asks h = absurd h

-- counts from an earlier moment on, and content that was told the same
pub earlier_ends : (c d : Reading) (i : Input) (limit : ℕ) (g : Group) → d.content i.name ≡ c.content i.name → c.faults i.name ≤ d.faults i.name
    → d.faults_after i.name ≡ c.faults_after i.name → d.most_after i.name ≡ c.most_after i.name → FileEnds d i limit g → FileEnds c i limit g
earlier_ends c d i limit (unread k) same more after most h =
    (h.0, elim h.1 [ inl q ↦ inl (omega (arith, q, more, after)) | inr q ↦ inr (omega (arith, q, after)) ])
earlier_ends c d i limit (too_long k) same more after most h = (
  h.0,
  subst (λ (o : Option Text). MatchOption o (i.limit < c.most_after i.name) (λ b. i.limit < length b)) same
      (subst (λ m. MatchOption (d.content i.name) (i.limit < m) (λ b. i.limit < length b)) most h.1),
  h.2,
)
earlier_ends c d i limit wanting same more after most h = tt
earlier_ends c d i limit done same more after most h = absurd h
earlier_ends c d i limit unwritten same more after most h = absurd h
earlier_ends c d i limit judged same more after most h = absurd h
earlier_ends c d i limit (halted s) same more after most h = absurd h
