-- The table of the bytes that go on a word.
use Rattle.std.proofs.Common.{◌≡◌, ℕ, zero, suc, ◌+◌, ◌<◌, Bool, false, List, [], ◌∷◌, get_or, ap, ◌∙◌, arith}
use Rattle.grammar.specs.Bytes.{is_wordy}
use Rattle.grammar.specs.Classes.{wordy}

-- whether each of so many bytes from one on goes on a word
abbrev pub table_from : ℕ → ℕ → List Bool
table_from zero b = []
table_from (suc n) b = is_wordy b ∷ table_from n (suc b)

table_at : (n b i : ℕ) → i < n → get_or (table_from n b) i false ≡ is_wordy (b + i)
table_at zero b i l = absurd (omega arith)
table_at (suc n) b zero l = let same : b ≡ b + 0 = omega arith in ap is_wordy same
table_at (suc n) b (suc i) l = let same : suc b + i ≡ b + suc i = omega arith in table_at n (suc b) i (omega arith) ∙ ap is_wordy same

pub byte_wordy : (b : ℕ) → b < 256 → get_or (table_from 256 0) b false ≡ wordy b
unfolding wordy
byte_wordy b l = let same : 0 + b ≡ b = omega arith in table_at 256 0 b l ∙ ap is_wordy same
