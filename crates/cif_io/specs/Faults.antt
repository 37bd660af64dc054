-- Counts of faults, which stand still at the end of their type.
use Rattle.std.specs.Prelude.{◌≡◌, ℕ, ◌+◌, ◌<◌, ◌⊎◌, ◌==◌, List, Bool, min}
use Rattle.std.specs.List.{list_any}

-- the count rose; one that stands at the largest `u64` is said to have risen too
abbrev pub Rose : ℕ → ℕ → Type 0
Rose old new = (old < new) ⊎ (new ≡ 18446744073709551615)

-- one more, but no more than the largest `u64`
abbrev pub raised : ℕ → ℕ
raised count = min (count + 1) 18446744073709551615

-- whether the call of this number is one of those chosen to fail
abbrev pub is_chosen : List ℕ → ℕ → Bool
is_chosen fails call = list_any (λ k. k == call) fails
