-- Helper of the code: each test of a byte as one word, which a proof unfolds only where it asks for the ranges.
use Rattle.std.specs.Prelude.{ℕ, Bool}
use Rattle.grammar.specs.Bytes.{begins_word, is_digit, is_wordy}

-- a letter or `_`
unfoldable pub letter : ℕ → Bool
letter b = begins_word b

unfoldable pub digit : ℕ → Bool
digit b = is_digit b

-- what goes on a word
unfoldable pub wordy : ℕ → Bool
wordy b = is_wordy b
