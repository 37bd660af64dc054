-- Assigned pairs of a variable and a value: the first pair wins, and whether all values are in range.
use Rattle.std.proofs.Common.{◌≡◌, ℕ, ℤ, Bool, true, false, ◌&&◌, List, [], ◌∷◌, ◌++◌, find, Option, Some, nat_eq, cond, refl, sym, ap, ◌∙◌, unwrap_or}
use Rattle.std.specs.Prelude.{slice_get, option_map}
use Rattle.std.specs.List.{list_all}
use Rattle.std.proofs.lemmas.List.Folds.{list_all-append}
use Rattle.std.proofs.lemmas.Option.{slice_get-map}
use Rattle.cif_system.specs.System.{Stored, in_range}
use Rattle.cif_system.specs.Step.{fits_variable, new_value}
use Rattle.cif_net_model.specs.Net.{NetStored, Net}
use Rattle.cif_net_model.specs.Meaning.{type_range, stored_in, system_of_net}

-- the first pair wins
pub new_value-append : (xs ys : List (ℕ × ℤ)) (k : ℕ) (z : ℤ) → new_value (xs ++ ys) k z ≡ new_value xs k (new_value ys k z)
new_value-append [] ys k z = refl
new_value-append (x ∷ xs) ys k z = go (nat_eq x.0 k) (new_value-append xs ys k z)
  where
    go : (b : Bool) → new_value (xs ++ ys) k z ≡ new_value xs k (new_value ys k z)
        → unwrap_or (option_map (λ (w : ℕ × ℤ). w.1) (cond b (Some x) (find (λ (w : ℕ × ℤ). nat_eq w.0 k) (xs ++ ys)))) z
        ≡ unwrap_or (option_map (λ (w : ℕ × ℤ). w.1) (cond b (Some x) (find (λ (w : ℕ × ℤ). nat_eq w.0 k) xs))) (new_value ys k z)
    go true e = refl
    go false e = e

pub and-true : (b : Bool) → b ≡ (b && true)
and-true true = refl
and-true false = refl

and-swap : (b x y : Bool) → ((b && y) && x) ≡ (b && (x && y))
and-swap true true true = refl
and-swap true true false = refl
and-swap true false true = refl
and-swap true false false = refl
and-swap false x y = refl

module _ (n : Net) where
  abbrev pub fits_pair : ℕ × ℤ → Bool
  fits_pair u = fits_variable (slice_get (system_of_net n).variables u.0) u.1

  abbrev pub all_fit : List (ℕ × ℤ) → Bool
  all_fit us = list_all fits_pair us

  pub fit-append : (b : Bool) (xs ys : List (ℕ × ℤ)) → ((b && all_fit ys) && all_fit xs) ≡ (b && all_fit (xs ++ ys))
  fit-append b xs ys = and-swap b (all_fit xs) (all_fit ys) ∙ ap (λ c. b && c) (sym (list_all-append fits_pair xs ys))

  -- one pair
  pub fit-one : (k : ℕ) (d : NetStored) (z : ℤ) → slice_get n.vars k ≡ Some d → all_fit ((k, z) ∷ []) ≡ in_range (type_range d.type_of) z
  fit-one k d z at =
      ap (λ (o : Option Stored). fits_variable o z && true) (slice_get-map stored_in n.vars k ∙ ap (option_map stored_in) at)
      ∙ sym (and-true (in_range (type_range d.type_of) z))
