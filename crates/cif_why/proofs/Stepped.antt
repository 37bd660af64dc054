-- What holds of some choice of an event, over the choices of all events.
use Rattle.std.proofs.Common.{◌≡◌, ℕ, zero, suc, ◌+◌, ◌<◌, Bool, true, false, cond, List, [], ◌∷◌, length, map, filter, find, Some, refl, ap, ◌∙◌, arith}
use Rattle.std.specs.Prelude.{is_some, option_map, flat_map, ◌||◌, ◌&&◌, nat_eq}
use Rattle.std.specs.List.{list_any, range_with_len}
use Rattle.std.proofs.lemmas.Bool.Decides.{nat_tests}
use Rattle.cif_system.specs.System.{State, System}
use Rattle.cif_system.specs.Step.{Choice, after, makes_step}
use Rattle.cif_system.specs.Choices.{choices, first_step}
use Rattle.cif_net_model.specs.Listing.{listed}
use Rattle.cif_why.specs.Stepping.{makes}
use Rattle.cif_why.proofs.ListLaws.{any-append, any-map}

any-flat : {A B : Type 0} (f : A → List B) (p : B → Bool) (xs : List A) → list_any p (flat_map f xs) ≡ list_any (λ x. list_any p (f x)) xs
any-flat f p [] = refl
any-flat f p (x ∷ xs) = any-append p (f x) (flat_map f xs) ∙ ap (λ b. list_any p (f x) || b) (any-flat f p xs)

any-never : {A : Type 0} (xs : List A) → list_any (λ x. false) xs ≡ false
any-never [] = refl
any-never (x ∷ xs) = any-never xs

found-any : {A B : Type 0} (f : A → B) (p : A → Bool) (xs : List A) → list_any p xs ≡ is_some (option_map f (find p xs))
found-any f p [] = refl
found-any f p (x ∷ xs) = go (p x) (found-any f p xs)
  where
    go : (b : Bool) → list_any p xs ≡ is_some (option_map f (find p xs)) → (b || list_any p xs) ≡ is_some (option_map f (cond b (Some x) (find p xs)))
    go true h = refl
    go false h = h

pub any-filter : {A : Type 0} (p q : A → Bool) (xs : List A) → list_any (λ x. p x && q x) xs ≡ list_any q (filter p xs)
any-filter p q [] = refl
any-filter p q (x ∷ xs) = ap (λ b. (p x && q x) || b) (any-filter p q xs) ∙ go (p x)
  where
    go : (b : Bool) → ((b && q x) || list_any q (filter p xs)) ≡ list_any q (cond b (x ∷ filter p xs) (filter p xs))
    go true = refl
    go false = refl

module _ (m : System) (e : ℕ) (p : ℕ → Choice → Bool) where
  abbrev own : ℕ → List (ℕ × Choice)
  own d = map (λ ch. (d, ch)) (choices m d)

  abbrev passing : ℕ × Choice → Bool
  passing z = nat_eq z.0 e && p z.0 z.1

  abbrev some : ℕ → Bool
  some d = list_any passing (own d)

  own-any : (d : ℕ) → some d ≡ list_any (λ ch. nat_eq d e && p d ch) (choices m d)
  own-any d = any-map (λ ch. (d, ch)) passing (choices m d)

  of-other : (d : ℕ) → nat_eq d e ≡ false → some d ≡ false
  of-other d h = own-any d ∙ ap (λ b. list_any (λ ch. b && p d ch) (choices m d)) h ∙ any-never (choices m d)

  of-own : nat_eq e e ≡ true → some e ≡ list_any (p e) (choices m e)
  of-own h = own-any e ∙ ap (λ b. list_any (λ ch. b && p e ch) (choices m e)) h

  none-from : (i c : ℕ) → e < i → list_any some (range_with_len i c) ≡ false
  none-from i zero h = refl
  none-from i (suc c) h =
      let other : nat_eq i e ≡ false = grind (arith, nat_tests) in
      ap (λ b. b || list_any some (range_with_len (i + 1) c)) (of-other i other) ∙ none-from (i + 1) c (omega (arith, h))

  or-none : (b : Bool) → (b || false) ≡ b
  or-none true = refl
  or-none false = refl

  some-from : (i c k : ℕ) → k < c → i + k ≡ e → list_any some (range_with_len i c) ≡ list_any (p e) (choices m e)
  some-from i zero k h g = absurd (omega (arith, h))
  some-from i (suc c) zero h g =
      let here : i ≡ e = omega (arith, g) in
      let same : nat_eq e e ≡ true = grind (arith, nat_tests) in
      ap (λ d. some d || list_any some (range_with_len (d + 1) c)) here
      ∙ ap (λ b. some e || b) (none-from (e + 1) c (omega arith))
      ∙ or-none (some e)
      ∙ of-own same
  some-from i (suc c) (suc k) h g =
      let other : nat_eq i e ≡ false = grind (arith, nat_tests) in
      ap (λ b. b || list_any some (range_with_len (i + 1) c)) (of-other i other) ∙ some-from (i + 1) c k (omega (arith, h)) (omega (arith, g))

  -- those of the event alone
  pub any-listed : e < length m.events → list_any passing (listed m) ≡ list_any (p e) (choices m e)
  any-listed h = any-flat own passing (range_with_len 0 (length m.events)) ∙ some-from 0 (length m.events) e h (omega arith)

pub step-listed : (m : System) (s : State) (e : ℕ) → e < length m.events → list_any (makes m s e) (listed m) ≡ is_some (first_step m s e)
step-listed m s e h = any-listed m e (makes_step m s) h ∙ found-any (after m s) (makes_step m s e) (choices m e)
