-- A tidied path has ASCII letters, digits and single underscores alone, and ends with none of these.
use Rattle.std.proofs.Common.{◌≡◌, ◌==◌, ℕ, zero, suc, Bool, true, false, ◌&&◌, ◌≤◌, ◌<◌, cond, [], ◌∷◌, take, length, refl, sym, ap, subst, ◌∙◌, arith, inl, inr, ◌⊎◌}
use Rattle.std.proofs.lemmas.Bool.Decides.{nat_tests}
use Rattle.grammar.specs.Pieces.{Text, AllAre}
use Rattle.grammar.specs.Bytes.{is_wordy}
use Rattle.st_ast.specs.Tokens.{is_identifier}
use Rattle.plc_model.specs.Names.{underscore, is_kept, runs_joined, front_trimmed, end_trimmed, or_x, most_bytes, tidied}

-- ---- bytes

kept-wordy : (b : ℕ) → is_kept b ≡ true → is_wordy b ≡ true
kept-wordy b e = grind (arith, nat_tests)

kept-other : (b : ℕ) → is_kept b ≡ true → (b == underscore) ≡ false
kept-other b e = grind (arith, nat_tests)

joined-wordy : (r : Bool) (w : Text) → AllAre is_wordy (runs_joined r w)
joined-wordy r [] = tt
joined-wordy r (b ∷ w) = go (is_kept b) r (kept-wordy b) (joined-wordy false w) (joined-wordy true w)
  where
    go : (k i : Bool) → (k ≡ true → is_wordy b ≡ true) → AllAre is_wordy (runs_joined false w) → AllAre is_wordy (runs_joined true w)
        → AllAre is_wordy (cond k (b ∷ runs_joined false w) (cond i (runs_joined true w) (underscore ∷ runs_joined true w)))
    go true i kept after within = (kept refl, after)
    go false true kept after within = within
    go false false kept after within = (refl, within)

front-wordy : (w : Text) → AllAre is_wordy w → AllAre is_wordy (front_trimmed w)
front-wordy [] a = tt
front-wordy (b ∷ w) a = go (b == underscore)
  where
    go : (t : Bool) → AllAre is_wordy (cond t w (b ∷ w))
    go true = a.1
    go false = a

end-wordy : (w : Text) → AllAre is_wordy w → AllAre is_wordy (end_trimmed w)
end-wordy [] a = tt
end-wordy (b ∷ []) a = go (b == underscore)
  where
    go : (t : Bool) → AllAre is_wordy (cond t [] (b ∷ []))
    go true = tt
    go false = a
end-wordy (b ∷ d ∷ w) a = (a.0, end-wordy (d ∷ w) a.1)

take-wordy : (n : ℕ) (w : Text) → AllAre is_wordy w → AllAre is_wordy (take n w)
take-wordy zero w a = tt
take-wordy (suc n) [] a = tt
take-wordy (suc n) (b ∷ w) a = (a.0, take-wordy n w a.1)

-- ---- underscores

-- no two adjoin
abbrev pub AreSingle : Text → Type 0
AreSingle [] = Unit {0}
AreSingle (b ∷ []) = Unit {0}
AreSingle (a ∷ b ∷ w) = ((a == underscore && b == underscore) ≡ false) × AreSingle (b ∷ w)

-- the last byte is none
abbrev pub EndsWell : Text → Type 0
EndsWell [] = Unit {0}
EndsWell (b ∷ []) = (b == underscore) ≡ false
EndsWell (a ∷ b ∷ w) = EndsWell (b ∷ w)

and-false_right : (a b : Bool) → b ≡ false → (a && b) ≡ false
and-false_right true b e = e
and-false_right false b e = refl

and-false_left : (a b : Bool) → a ≡ false → (a && b) ≡ false
and-false_left a b e = rw e refl

tail-single : (a : ℕ) (w : Text) → AreSingle (a ∷ w) → AreSingle w
tail-single a [] s = tt
tail-single a (b ∷ w) s = s.1

-- after a byte that is no underscore, or in a run
joined-single : (r : Bool) (c : ℕ) (w : Text) → (r ≡ true) ⊎ ((c == underscore) ≡ false) → AreSingle (c ∷ runs_joined r w)
joined-single r c [] h = tt
joined-single r c (b ∷ w) h = go (is_kept b) r (kept-other b) h (λ e. joined-single false b w (inr e)) (λ d. joined-single true d w (inl refl))
  where
    go : (k i : Bool) → (k ≡ true → (b == underscore) ≡ false) → (i ≡ true) ⊎ ((c == underscore) ≡ false)
        → ((b == underscore) ≡ false → AreSingle (b ∷ runs_joined false w)) → ((d : ℕ) → AreSingle (d ∷ runs_joined true w))
        → AreSingle (c ∷ cond k (b ∷ runs_joined false w) (cond i (runs_joined true w) (underscore ∷ runs_joined true w)))
    go true i kept h after within = (and-false_right (c == underscore) (b == underscore) (kept refl), after (kept refl))
    go false true kept h after within = within c
    go false false kept (inl off) after within = cc
    go false false kept (inr other) after within = (and-false_left (c == underscore) true other, within underscore)

front-single : (w : Text) → AreSingle w → AreSingle (underscore ∷ front_trimmed w)
front-single [] s = tt
front-single (b ∷ w) s = go (b == underscore) same refl
  where
    same : (b == underscore) ≡ true → b ≡ underscore
    same e = grind (arith, nat_tests)

    go : (t : Bool) → (t ≡ true → b ≡ underscore) → (b == underscore) ≡ t → AreSingle (underscore ∷ cond t w (b ∷ w))
    go true is e = subst (λ x. AreSingle (x ∷ w)) (is refl) s
    go false is e = (e, s)

end-single : (a : ℕ) (w : Text) → AreSingle (a ∷ w) → AreSingle (a ∷ end_trimmed w)
end-single a [] s = tt
end-single a (b ∷ []) s = go (b == underscore)
  where
    go : (t : Bool) → AreSingle (a ∷ cond t [] (b ∷ []))
    go true = tt
    go false = s
end-single a (b ∷ d ∷ w) s = (s.0, end-single b (d ∷ w) s.1)

take-single : (n : ℕ) (a : ℕ) (w : Text) → AreSingle (a ∷ w) → AreSingle (a ∷ take n w)
take-single zero a w s = tt
take-single (suc n) a [] s = tt
take-single (suc n) a (b ∷ w) s = (s.0, take-single n b w s.1)

end-well : (w : Text) → AreSingle w → EndsWell (end_trimmed w)
end-well [] s = tt
end-well (b ∷ []) s = go (b == underscore) refl
  where
    go : (t : Bool) → (b == underscore) ≡ t → EndsWell (cond t [] (b ∷ []))
    go true e = tt
    go false e = e
end-well (a ∷ b ∷ []) s = go (b == underscore) refl s.0
  where
    go : (t : Bool) → (b == underscore) ≡ t → (a == underscore && t) ≡ false → EndsWell (a ∷ cond t [] (b ∷ []))
    go true e apart = plain (a == underscore) apart
      where
        plain : (t : Bool) → (t && true) ≡ false → t ≡ false
        plain true e = e
        plain false e = refl
    go false e apart = e
end-well (a ∷ b ∷ d ∷ w) s = end-well (b ∷ d ∷ w) s.1

-- ---- identifiers

single-identifier : (w : Text) → AreSingle w → EndsWell w → is_identifier w ≡ true
single-identifier [] s e = refl
single-identifier (b ∷ []) s e = rw e refl
single-identifier (a ∷ b ∷ w) s e = let apart = s.0 in let rest = single-identifier (b ∷ w) s.1 e in rw apart rest

-- ---- tidied texts

pub record IsTidy (w : Text) : Type 0 where
  pub wordy : AllAre is_wordy w
  pub single : AreSingle (underscore ∷ w)
  pub well : EndsWell w
  pub some : 0 < length w
  pub few : length w ≤ most_bytes

or_x-tidy : (w : Text) → AllAre is_wordy w → AreSingle (underscore ∷ w) → EndsWell w → length w ≤ most_bytes → IsTidy (or_x w)
or_x-tidy [] a s e few = record { wordy = (refl, tt); single = (refl, tt); well = refl; some = omega arith; few = omega arith }
or_x-tidy (b ∷ w) a s e few = record { wordy = a; single = s; well = e; some = omega arith; few = few }

length-end : (w : Text) → length (end_trimmed w) ≤ length w
length-end [] = omega arith
length-end (b ∷ []) = go (b == underscore)
  where
    go : (t : Bool) → length (cond t [] (b ∷ [])) ≤ 1
    go true = omega arith
    go false = omega arith
length-end (b ∷ d ∷ w) = let rest = length-end (d ∷ w) in omega (arith, rest)

length-take : (n : ℕ) (w : Text) → length (take n w) ≤ n
length-take zero w = omega arith
length-take (suc n) [] = omega arith
length-take (suc n) (b ∷ w) = let rest = length-take n w in omega (arith, rest)

pub tidied-tidy : (path : Text) → IsTidy (tidied path)
tidied-tidy path =
    let joined : AreSingle (runs_joined false path) = tail-single 0 (runs_joined false path) (joined-single false 0 path (inr refl)) in
    let front : Text = end_trimmed (front_trimmed (runs_joined false path)) in
    let single = take-single most_bytes underscore front (end-single underscore (front_trimmed (runs_joined false path)) (front-single (runs_joined false path) joined)) in
    let short = length-end (take most_bytes front) in
    let cut = length-take most_bytes front in
    or_x-tidy (end_trimmed (take most_bytes front))
    (end-wordy _ (take-wordy most_bytes _ (end-wordy _ (front-wordy _ (joined-wordy false path)))))
    (end-single underscore (take most_bytes front) single) (end-well (take most_bytes front) (tail-single underscore _ single)) (omega (arith, short, cut))

pub tidied-wordy : (path : Text) → AllAre is_wordy (tidied path)
tidied-wordy path = (tidied-tidy path).wordy

tidy-identifier : (w : Text) → IsTidy w → is_identifier (underscore ∷ w) ≡ true
tidy-identifier [] t = let some = t.some in absurd (omega (arith, some))
tidy-identifier (b ∷ w) t = single-identifier (underscore ∷ b ∷ w) t.single t.well

pub tidied-identifier : (path : Text) → is_identifier (underscore ∷ tidied path) ≡ true
tidied-identifier path = tidy-identifier (tidied path) (tidied-tidy path)

-- ---- tidied again

off-on : {A : Type 0} (b : Bool) → b ≡ false → b ≡ true → A
off-on b off on = cc

joined-same : (r : Bool) (c : ℕ) (w : Text) → AllAre is_wordy w → AreSingle (c ∷ w) → (r ≡ true → (c == underscore) ≡ true) → runs_joined r w ≡ w
joined-same r c [] a s h = refl
joined-same r c (b ∷ w) a s h = go (b == underscore) refl r h (joined-same false b w a.1 s.1 (λ x. off-on false refl x)) (λ e. joined-same true b w a.1 s.1 (λ x. e))
  where
    is_byte : (b == underscore) ≡ true → b ≡ underscore
    is_byte e = grind (arith, nat_tests)

    is_other : is_wordy b ≡ true → (b == underscore) ≡ false → is_kept b ≡ true
    is_other x e = rw (x, e) refl

    is_run : (b == underscore) ≡ true → is_kept b ≡ false
    is_run e = subst (λ x. is_kept x ≡ false) (sym (is_byte e)) refl

    both : (x y : Bool) → x ≡ true → y ≡ true → (x && y) ≡ true
    both x y e g = rw e g

    go : (t : Bool) → (b == underscore) ≡ t → (r : Bool) → (r ≡ true → (c == underscore) ≡ true) → runs_joined false w ≡ w → ((b == underscore) ≡ true → runs_joined true w ≡ w)
        → cond (is_kept b) (b ∷ runs_joined false w) (cond r (runs_joined true w) (underscore ∷ runs_joined true w)) ≡ b ∷ w
    go false e r h plain run =
        ap (λ k. cond k (b ∷ runs_joined false w) (cond r (runs_joined true w) (underscore ∷ runs_joined true w))) (is_other a.0 e) ∙ ap (λ x. b ∷ x) plain
    go true e false h plain run =
        ap (λ k. cond k (b ∷ runs_joined false w) (underscore ∷ runs_joined true w)) (is_run e) ∙ ap (λ x. underscore ∷ x) (run e) ∙ ap (λ x. x ∷ w) (sym (is_byte e))
    go true e true h plain run = off-on (c == underscore && b == underscore) s.0 (both (c == underscore) (b == underscore) (h refl) e)

front-same : (w : Text) → AreSingle (underscore ∷ w) → front_trimmed w ≡ w
front-same [] s = refl
front-same (b ∷ w) s = go (b == underscore) s.0
  where
    go : (t : Bool) → (true && t) ≡ false → cond t w (b ∷ w) ≡ b ∷ w
    go true e = off-on true e refl
    go false e = refl

end-same : (w : Text) → EndsWell w → end_trimmed w ≡ w
end-same [] e = refl
end-same (b ∷ []) e = ap (λ t. cond t [] (b ∷ [])) e
end-same (b ∷ d ∷ w) e = ap (λ r. b ∷ r) (end-same (d ∷ w) e)

take-same : (n : ℕ) (w : Text) → length w ≤ n → take n w ≡ w
take-same zero [] h = refl
take-same zero (b ∷ w) h = absurd (omega (arith, h))
take-same (suc n) [] h = refl
take-same (suc n) (b ∷ w) h = ap (λ r. b ∷ r) (take-same n w (omega (arith, h)))

or_x-same : (w : Text) → 0 < length w → or_x w ≡ w
or_x-same [] h = absurd (omega (arith, h))
or_x-same (b ∷ w) h = refl

pub tidy-same : (w : Text) → IsTidy w → tidied w ≡ w
tidy-same w t =
    ap (λ x. or_x (end_trimmed (take most_bytes (end_trimmed (front_trimmed x))))) (joined-same false 0 w t.wordy (zero-single w t.single) (λ x. off-on false refl x))
    ∙ ap (λ x. or_x (end_trimmed (take most_bytes (end_trimmed x)))) (front-same w t.single)
    ∙ ap (λ x. or_x (end_trimmed (take most_bytes x))) (end-same w t.well)
    ∙ ap (λ x. or_x (end_trimmed x)) (take-same most_bytes w t.few)
    ∙ ap or_x (end-same w t.well)
    ∙ or_x-same w t.some
  where
    zero-single : (w : Text) → AreSingle (underscore ∷ w) → AreSingle (0 ∷ w)
    zero-single [] s = tt
    zero-single (b ∷ w) s = (refl, s.1)

pub tidied-tidied : (path : Text) → tidied (tidied path) ≡ tidied path
tidied-tidied path = tidy-same (tidied path) (tidied-tidy path)
