-- Helper of the code: which variables are marked: those that were marked in this round last.
use Rattle.std.specs.Prelude.{ℕ, Bool, false, nat_eq, List, Option, Some, None, slice_get}

abbrev pub is_now : ℕ → Option ℕ → Bool
is_now round None = false
is_now round (Some r) = nat_eq r round

-- by the round, and the last round of each variable
abbrev pub is_marked : ℕ → List ℕ → ℕ → Bool
is_marked round last v = is_now round (slice_get last v)
