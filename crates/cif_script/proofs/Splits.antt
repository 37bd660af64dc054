-- Texts that are cut at a byte.
use Rattle.std.proofs.Common.{◌≡◌, ◌≢◌, ◌==◌, ℕ, zero, suc, ◌<◌, cond, List, [], ◌∷◌, map, length, get_or, take, drop, ap, refl, ◌∙◌, arith}
use Rattle.std.specs.List.{slice_split, onto_first}
use Rattle.std.specs.Str.Lines.{strip_carriage_return}
use Rattle.std.proofs.lemmas.Bool.{eq-eqb, ne_eqb}
use Rattle.grammar.specs.Pieces.{Text}
use Rattle.cif_sim_model.specs.Script.{script_lines}

module _ (c : ℕ) where
  abbrev pub pieces : Text → List Text
  pieces xs = slice_split (λ b. b == c) xs

  -- the first piece ends at the first such byte
  pub split_at : (xs : Text) (i : ℕ) → i < length xs → get_or xs i 0 ≡ c → ((k : ℕ) → k < i → get_or xs k 0 ≢ c) → pieces xs ≡ take i xs ∷ pieces (drop (suc i) xs)
  split_at [] i inside here before = absurd (omega arith)
  split_at (b ∷ bs) zero inside here before = ap (λ t. cond t ([] ∷ pieces bs) (onto_first b (pieces bs))) (eq-eqb b c here)
  split_at (b ∷ bs) (suc i) inside here before =
      ap (λ t. cond t ([] ∷ pieces bs) (onto_first b (pieces bs))) (ne_eqb b c (before 0 (omega arith)))
      ∙ ap (onto_first b) (split_at bs i (omega arith) here (λ k below. before (suc k) (omega arith)))

  pub split_whole : (xs : Text) → ((k : ℕ) → k < length xs → get_or xs k 0 ≢ c) → pieces xs ≡ xs ∷ []
  split_whole [] none = refl
  split_whole (b ∷ bs) none =
      ap (λ t. cond t ([] ∷ pieces bs) (onto_first b (pieces bs))) (ne_eqb b c (none 0 (omega arith)))
      ∙ ap (onto_first b) (split_whole bs (λ k below. none (suc k) (omega arith)))

pub lines_at : (xs : Text) (i : ℕ) → i < length xs → get_or xs i 0 ≡ 10 → ((k : ℕ) → k < i → get_or xs k 0 ≢ 10) → script_lines xs ≡ strip_carriage_return (take i xs) ∷ script_lines (drop (suc i) xs)
lines_at xs i inside here before = ap (map strip_carriage_return) (split_at 10 xs i inside here before)

pub lines_whole : (xs : Text) → ((k : ℕ) → k < length xs → get_or xs k 0 ≢ 10) → script_lines xs ≡ strip_carriage_return xs ∷ []
lines_whole xs none = ap (map strip_carriage_return) (split_whole 10 xs none)
