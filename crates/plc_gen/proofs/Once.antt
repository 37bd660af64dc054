-- Lists in which each variable stands once.
use Rattle.std.proofs.Common.{◌≡◌, ℕ, zero, suc, Bool, true, false, ◌||◌, List, [], ◌∷◌, nat_eq, Some, slice_get, refl, sym, ap, ◌∙◌, arith, if◌then◌else◌}
use Rattle.std.proofs.lemmas.Bool.Decides.{nat_tests}
use Rattle.cif_net_model.specs.Facts.{has}
use Rattle.plc_event_model.specs.Acts.{once}
use Rattle.plc_event_model.specs.Own.{place_in}
use Rattle.plc_event.proofs.Marking.{same-self, some-is}
use Rattle.plc_gen.specs.Outlines.{StandOnce}

pub once-apart : (seen xs : List ℕ) (v : ℕ) → has seen v ≡ true → has (once seen xs) v ≡ false
once-apart seen [] v h = refl
once-apart seen (x ∷ xs) v h = go (has seen x) refl (once-apart seen xs v h) (once-apart (x ∷ seen) xs v)
  where
    any : (a b : Bool) → b ≡ true → (a || b) ≡ true
    any true b e = refl
    any false b e = e

    go : (b : Bool) → has seen x ≡ b → has (once seen xs) v ≡ false → (has (x ∷ seen) v ≡ true → has (once (x ∷ seen) xs) v ≡ false) → has (if b then once seen xs else x ∷ once (x ∷ seen) xs) v ≡ false
    go true is same_seen more_seen = same_seen
    go false is same_seen more_seen = step (nat_eq v x) refl
      where
        step : (c : Bool) → nat_eq v x ≡ c → (c || has (once (x ∷ seen) xs) v) ≡ false
        step true same = let e : v ≡ x = grind (arith, nat_tests) in absurd (let q : true ≡ false = sym h ∙ ap (has seen) e ∙ is in cc)
        step false same = more_seen (any (nat_eq v x) (has seen v) h)

found-has : (xs : List ℕ) (i v : ℕ) → slice_get xs i ≡ Some v → has xs v ≡ true
found-has [] i v e = absurd cc
found-has (x ∷ xs) zero v e = ap (λ b. b || has xs v) (ap (λ k. nat_eq k x) (sym (some-is x v e)) ∙ same-self x)
found-has (x ∷ xs) (suc i) v e = ap (λ b. nat_eq v x || b) (found-has xs i v e) ∙ any (nat_eq v x)
  where
    any : (a : Bool) → (a || true) ≡ true
    any true = refl
    any false = refl

stand-from : (seen xs : List ℕ) → StandOnce (once seen xs)
stand-from seen [] i v e = absurd cc
stand-from seen (x ∷ xs) i v e = go (has seen x) i (stand-from seen xs) (stand-from (x ∷ seen) xs) e
  where
    go : (b : Bool) (k : ℕ) → StandOnce (once seen xs) → StandOnce (once (x ∷ seen) xs) → slice_get (if b then once seen xs else x ∷ once (x ∷ seen) xs) k ≡ Some v → place_in (if b then once seen xs else x ∷ once (x ∷ seen) xs) v ≡ k
    go true k first more h = first k v h
    go false zero first more h = ap (λ b. if b then 0 else suc (place_in (once (x ∷ seen) xs) v)) (ap (λ k. nat_eq k x) (sym (some-is x v h)) ∙ same-self x)
    go false (suc k) first more h = step (nat_eq v x) refl
      where
        step : (c : Bool) → nat_eq v x ≡ c → (if c then 0 else suc (place_in (once (x ∷ seen) xs) v)) ≡ suc k
        step true same =
            absurd (let q : true ≡ false = sym (found-has (once (x ∷ seen) xs) k v h) ∙ once-apart (x ∷ seen) xs v (ap (λ b. b || has seen v) same) in cc)
        step false same = ap suc (more k v h)

pub stand-once : (xs : List ℕ) → StandOnce (once [] xs)
stand-once xs = stand-from [] xs
