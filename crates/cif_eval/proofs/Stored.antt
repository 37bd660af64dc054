-- Values after one pair more.
use Rattle.std.proofs.Common.{◌≡◌, ℕ, zero, suc, ◌+◌, ◌-◌, ◌<◌, ℤ, true, false, List, [], ◌∷◌, length, Some, find, nat_eq, cond, refl, sym, ap, ◌∙◌, arith, drop, get_or, drop-cons}
use Rattle.std.specs.Prelude.{option_map, unwrap_or, slice_set}
use Rattle.std.proofs.lemmas.Bool.Decides.{nat_tests}
use Rattle.std.proofs.lemmas.List.{drop_all}
use Rattle.cif_system.specs.Step.{new_value, new_values}

-- a first pair that is for another variable
none-here : (v : ℕ) (z : ℤ) (ws : List (ℕ × ℤ)) (i : ℕ) (y : ℤ) → nat_eq v i ≡ false → new_value ((v, z) ∷ ws) i y ≡ new_value ws i y
none-here v z ws i y h = ap (λ b. unwrap_or (option_map (λ (w : ℕ × ℤ). w.1) (cond b (Some (v, z)) (find (λ (w : ℕ × ℤ). nat_eq w.0 i) ws))) y) h

here : (v : ℕ) (z : ℤ) (ws : List (ℕ × ℤ)) (i : ℕ) (y : ℤ) → nat_eq v i ≡ true → new_value ((v, z) ∷ ws) i y ≡ z
here v z ws i y h = ap (λ b. unwrap_or (option_map (λ (w : ℕ × ℤ). w.1) (cond b (Some (v, z)) (find (λ (w : ℕ × ℤ). nat_eq w.0 i) ws))) y) h

-- no number behind is that of the pair
past : (v : ℕ) (z : ℤ) (ws : List (ℕ × ℤ)) (i : ℕ) (zs : List ℤ) → v < i → new_values ((v, z) ∷ ws) i zs ≡ new_values ws i zs
past v z ws i [] h = refl
past v z ws i (y ∷ zs) h =
    let other : nat_eq v i ≡ false = grind (arith, nat_tests) in
    ap (λ q. q ∷ new_values ((v, z) ∷ ws) (suc i) zs) (none-here v z ws i y other)
    ∙ ap (λ qs. new_value ws i y ∷ qs) (past v z ws (suc i) zs (omega (arith, h)))

stored-from : (v : ℕ) (z : ℤ) (ws : List (ℕ × ℤ)) (i : ℕ) (zs : List ℤ) → new_values ((i + v, z) ∷ ws) i zs ≡ slice_set (new_values ws i zs) v z
stored-from v z ws i [] = refl
stored-from zero z ws i (y ∷ zs) =
    let same : nat_eq (i + 0) i ≡ true = grind (arith, nat_tests) in
    ap (λ q. q ∷ new_values ((i + 0, z) ∷ ws) (suc i) zs) (here (i + 0) z ws i y same)
    ∙ ap (λ qs. z ∷ qs) (past (i + 0) z ws (suc i) zs (omega arith))
stored-from (suc v) z ws i (y ∷ zs) =
    let other : nat_eq (i + suc v) i ≡ false = grind (arith, nat_tests) in
    let next : i + suc v ≡ suc i + v = omega arith in
    ap (λ q. q ∷ new_values ((i + suc v, z) ∷ ws) (suc i) zs) (none-here (i + suc v) z ws i y other)
    ∙ ap (λ k. new_value ws i y ∷ new_values ((k, z) ∷ ws) (suc i) zs) next
    ∙ ap (λ qs. new_value ws i y ∷ qs) (stored-from v z ws (suc i) zs)

-- the first pair is stored last
pub stored_first : (w : ℕ × ℤ) (ws : List (ℕ × ℤ)) (zs : List ℤ) → new_values (w ∷ ws) 0 zs ≡ slice_set (new_values ws 0 zs) w.0 w.1
stored_first w ws zs = ap (λ k. new_values ((k, w.1) ∷ ws) 0 zs) (omega arith) ∙ stored-from w.0 w.1 ws 0 zs

pub none_stored : (i : ℕ) (zs : List ℤ) → new_values [] i zs ≡ zs
none_stored i [] = refl
none_stored i (z ∷ zs) = ap (λ qs. z ∷ qs) (none_stored (suc i) zs)

-- the loop stores the pair before those that it stored
pub stored-back : (ws : List (ℕ × ℤ)) (k : ℕ) (d : ℕ × ℤ) (old zs : List ℤ) → 0 < k → k < length ws + 1 → zs ≡ new_values (drop k ws) 0 old
    → slice_set zs (get_or ws (k - 1) d).0 (get_or ws (k - 1) d).1 ≡ new_values (drop (k - 1) ws) 0 old
stored-back ws k d old zs some within done =
    let next : k ≡ suc (k - 1) = omega arith in
    let below : k - 1 < length ws = omega (arith, some, within) in
    ap (λ xs. slice_set xs (get_or ws (k - 1) d).0 (get_or ws (k - 1) d).1) done
    ∙ sym (stored_first (get_or ws (k - 1) d) (drop k ws) old)
    ∙ ap (λ j. new_values (get_or ws (k - 1) d ∷ drop j ws) 0 old) next
    ∙ ap (λ xs. new_values xs 0 old) (sym (drop-cons ws (k - 1) d below))

pub store-starts : (ws : List (ℕ × ℤ)) (old : List ℤ) → old ≡ new_values (drop (length ws) ws) 0 old
store-starts ws old = sym (ap (λ xs. new_values xs 0 old) (drop_all (length ws) ws (omega arith)) ∙ none_stored 0 old)
