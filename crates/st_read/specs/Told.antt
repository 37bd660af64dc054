-- Helper of the code: what a reader of the tokens of a text tells.
use Rattle.std.specs.Prelude.{◌≡◌, ℕ, ◌≤◌, Option, Some, None, Result, Ok, Err}
use Rattle.st_read.specs.declared.error.StErr.{StErr}
use Rattle.st_read.specs.declared.error.StErr.TheVariants.{StBadByte, StNumberTooBig, StOpenComment, StNotRead, Memory}

-- the cause is want of memory, or that nothing is read
abbrev pub Refuses : {Y : Type 0} → ℕ → StErr → Option Y → Type 0
Refuses end (StBadByte at) read = ⊥
Refuses end (StNumberTooBig at) read = ⊥
Refuses end (StOpenComment at) read = ⊥
Refuses end (StNotRead at) read = (at ≤ end) × (read ≡ None)
Refuses end Memory read = Unit {0}

-- what is read, or a place in a text of so many bytes where nothing is, unless memory runs out
abbrev pub Tells : {X Y : Type 0} → ℕ → (X → Y) → Result X StErr → Option Y → Type 0
Tells end view (Ok x) read = read ≡ Some (view x)
Tells end view (Err e) read = Refuses end e read
