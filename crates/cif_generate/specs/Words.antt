-- The words of `generate`.
use Rattle.std.specs.Prelude.{◌≡◌, ◌≤◌, ◌⊎◌, ℕ, List, [], ◌∷◌, codes, decimal}
use Rattle.grammar.specs.Pieces.{Text}

-- what `generate` is asked for: the file, and the most rounds of uncontrollable and of controllable events in a scan
pub record Generate : Type 0 where
  pub file : Text
  pub unc : ℕ
  pub con : ℕ

-- the rounds of a class that no option names
abbrev pub default_rounds : ℕ
default_rounds = 100

-- a number of rounds: canonical decimal, from 1 to 10,000
abbrev pub IsRounds : Text → ℕ → Type 0
IsRounds word n = (word ≡ decimal n) × (1 ≤ n) × (n ≤ 10000)

-- `[--unc N] [--con N]`, in either order
abbrev pub AreOptions : List Text → ℕ → ℕ → Type 0
AreOptions [] unc con = (unc ≡ default_rounds) × (con ≡ default_rounds)
AreOptions (w ∷ []) unc con = ⊥
AreOptions (o ∷ v ∷ []) unc con = ((o ≡ codes "--unc") × IsRounds v unc × (con ≡ default_rounds))
    ⊎ ((o ≡ codes "--con") × (unc ≡ default_rounds) × IsRounds v con)
AreOptions (o ∷ v ∷ p ∷ []) unc con = ⊥
AreOptions (o ∷ v ∷ p ∷ w ∷ []) unc con = ((o ≡ codes "--unc") × IsRounds v unc × (p ≡ codes "--con") × IsRounds w con)
    ⊎ ((o ≡ codes "--con") × IsRounds v con × (p ≡ codes "--unc") × IsRounds w unc)
AreOptions (o ∷ v ∷ p ∷ w ∷ x ∷ ws) unc con = ⊥

-- `generate FILE [--unc N] [--con N]`. FILE is any word that isn't empty.
abbrev pub IsGenerate : List Text → Generate → Type 0
IsGenerate [] g = ⊥
IsGenerate (w ∷ []) g = ⊥
IsGenerate (w ∷ f ∷ ws) g = (w ≡ codes "generate") × (f ≡ [] → ⊥) × (g.file ≡ f) × AreOptions ws g.unc g.con
