-- What a command does over files: which of them it asks for, what it may write, and how it may end; and how a call came to
-- its end.
use Rattle.std.specs.Prelude.{◌≡◌, ℕ, ◌<◌, ◌≤◌, ◌⊎◌, length, take, Option, IfSome, MatchOption}
use Rattle.grammar.specs.Pieces.{Text}
use Rattle.cif_io.specs.Faults.{Rose}
use Rattle.cif_io.specs.Written.{grown}
use Rattle.cif_run.specs.Groups.{Group, done, unread, too_long, unwritten, wanting, judged, halted, group_of}
use Rattle.cif_run.specs.declared.status.Status.{Status}
use Rattle.cif_run.specs.declared.ended.Ended.{Ended}

-- what files are told to hold, by their names
abbrev pub Content : Type 0
Content = Text → Option Text

-- these bytes are what a file holds, where that is told
abbrev pub Holds : Option Text → Text → Type 0
Holds told bytes = IfSome told (λ b. bytes ≡ b)

-- a file that is asked for: the word of the command line that names it, its name, and the most bytes that it may have
pub record Input : Type 0 where
  pub word : ℕ
  pub name : Text
  pub limit : ℕ

-- what a command that words ask for does over files that are told to hold something
pub record Work : Type 1 where
  -- the file is asked for
  pub asks : Input → Type 0
  -- the text may be written whole
  pub writes : Text → Type 0
  -- a beginning of the text may be written
  pub parts : Text → Type 0
  -- it may end with this status, of the group `judged`, where a variable that the status tells of has this name
  pub ends : Status → Text → Type 0
  -- it may end with this status, of the group `halted`, after it wrote this text
  pub halts : Status → Text → Type 0
  -- what may be written whole has beginnings that may be written
  pub whole_begins : (text : Text) → writes text → parts text
  pub halted_begins : (s : Status) (text : Text) → halts s text → parts text

-- a command that writes nothing before its whole text is built: only that text has a beginning that may be written, and it never halts
abbrev pub whole_work : (Input → Type 0) → (Text → Type 0) → (Status → Text → Type 0) → Work
whole_work asks writes ends = record {
  asks = asks;
  writes = writes;
  parts = writes;
  ends = ends;
  halts = λ s text. ⊥;
  whole_begins = λ text h. h;
  halted_begins = λ s text h. absurd h;
}

-- the work that writes this text alone, whatever it is
abbrev pub text_work : Text → Work
text_work text = whole_work (λ i. ⊥) (λ t. t ≡ text) (λ s name. ⊥)

-- what the files of a call hold, and their counts before and after it
pub record Reading : Type 0 where
  pub content : Content
  pub faults : Text → ℕ
  pub faults_after : Text → ℕ
  pub most_after : Text → ℕ

abbrev pub reading : Content → (Text → ℕ) → (Text → ℕ) → (Text → ℕ) → Reading
reading content faults faults_after most_after = record { content = content; faults = faults; faults_after = faults_after; most_after = most_after }

-- what the output of a call holds, and its count, before and after it
pub record Writing : Type 0 where
  pub old : Option Text
  pub new : Option Text
  pub faults : ℕ
  pub faults_after : ℕ

abbrev pub writing : Option Text → Option Text → ℕ → ℕ → Writing
writing old new faults faults_after = record { old = old; new = new; faults = faults; faults_after = faults_after }

-- ---- files

-- a read of the file failed
abbrev pub Failed : Reading → Input → Type 0
Failed c i = Rose (c.faults i.name) (c.faults_after i.name)

-- the file is longer than it may be; where its content isn't told, a read of it took more bytes
abbrev pub IsLonger : Reading → Input → Type 0
IsLonger c i = MatchOption (c.content i.name) (i.limit < c.most_after i.name) (λ b. i.limit < length b)

-- the file in this word was asked for, and not read: its count rose
abbrev pub Unread : Work → Reading → ℕ → Type 0
Unread w c k = (i : Input) × w.asks i × (i.word ≡ k) × Failed c i

-- the file in this word was asked for, and is longer than it may be
abbrev pub Overlong : Work → Reading → ℕ → Type 0
Overlong w c k = (i : Input) × w.asks i × (i.word ≡ k) × IsLonger c i

-- why a file was not read, by the group of the status
abbrev pub FileEnds : Reading → Input → ℕ → Group → Type 0
FileEnds c i limit (unread k) = (i.word ≡ k) × Failed c i
FileEnds c i limit (too_long k) = (i.word ≡ k) × IsLonger c i × (limit ≡ i.limit)
FileEnds c i limit wanting = Unit {0}
FileEnds c i limit done = ⊥
FileEnds c i limit unwritten = ⊥
FileEnds c i limit judged = ⊥
FileEnds c i limit (halted s) = ⊥

-- ---- how a call ended

-- there is no text, and why, by the group of the status
abbrev pub StopsIn : Work → Reading → Ended → Group → Type 0
StopsIn w c e (unread k) = Unread w c k
StopsIn w c e (too_long k) = (i : Input) × w.asks i × (i.word ≡ k) × IsLonger c i × (e.limit ≡ i.limit)
StopsIn w c e wanting = Unit {0}
StopsIn w c e judged = w.ends e.status e.variable
StopsIn w c e done = ⊥
StopsIn w c e unwritten = ⊥
StopsIn w c e (halted s) = ⊥

abbrev pub Stops : Work → Reading → Ended → Type 0
Stops w c e = StopsIn w c e (group_of e.status)

-- what was written grew by the beginning of this text
abbrev pub GrewByPart : Text → Option Text → Option Text → Type 0
GrewByPart text old new = (n : ℕ) × (n ≤ length text) × (new ≡ grown old (take n text))

-- what became of the text, by the group of the status
abbrev pub WroteIn : Work → Text → Writing → Group → Type 0
WroteIn w text o done = w.writes text × (o.new ≡ grown o.old text)
WroteIn w text o unwritten = w.parts text × Rose o.faults o.faults_after × GrewByPart text o.old o.new
WroteIn w text o wanting = w.parts text × GrewByPart text o.old o.new
WroteIn w text o (halted s) = w.halts s text × (o.new ≡ grown o.old text)
WroteIn w text o (unread k) = ⊥
WroteIn w text o (too_long k) = ⊥
WroteIn w text o judged = ⊥

-- A call of a command came to its end: there is no text and nothing was written, or a text went to the output that it may write so.
abbrev pub Comes : Work → Reading → Writing → Ended → Type 0
Comes w c o e = (Stops w c e × (o.new ≡ o.old)) ⊎ ((text : Text) × WroteIn w text o (group_of e.status))

-- ---- what the output has

-- what the output has, by the group of the status: the text of the command, the beginning of one, the text up to where it stopped, or
-- nothing more
abbrev pub OutputIn : Work → Option Text → Option Text → Group → Type 0
OutputIn w old new done = (text : Text) × w.writes text × (new ≡ grown old text)
OutputIn w old new unwritten = (text : Text) × w.parts text × GrewByPart text old new
OutputIn w old new wanting = (new ≡ old) ⊎ ((text : Text) × w.parts text × GrewByPart text old new)
OutputIn w old new (halted s) = (text : Text) × w.halts s text × (new ≡ grown old text)
OutputIn w old new (unread k) = new ≡ old
OutputIn w old new (too_long k) = new ≡ old
OutputIn w old new judged = new ≡ old

abbrev pub Output : Work → Option Text → Option Text → Status → Type 0
Output w old new s = OutputIn w old new (group_of s)
