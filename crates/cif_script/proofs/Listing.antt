-- What is told of a state, one place or value after the other.
use Rattle.std.proofs.Common.{◌≡◌, ◌⊎◌, inl, inr, ℕ, zero, suc, ◌+◌, ◌≤◌, ◌<◌, Bool, true, false, cond, not, List, [], ◌∷◌, ◌++◌, length, map, drop, get_or, add-one, min, Bor, Option, Some, None, refl, sym, ap, ◌∙◌, arith, append_assoc}
use Rattle.std.specs.Prelude.{codes, filter, is_some, nat_lt, IfSome, option_map, slice_get, unwrap_or, if◌then◌else◌}
use Rattle.std.specs.List.{zip}
use Rattle.std.specs.Option.{option_copied}
use Rattle.std.proofs.lemmas.List.{append-nil, drop_all}
use Rattle.std.proofs.lemmas.Bool.Decides.{nat_tests}
use Rattle.std.proofs.lemmas.Option.{slice_get_past, slice_get_read}
use native.Mathlib.Decide.{dec_lt}
use Rattle.grammar.specs.Pieces.{Text}
use Rattle.cif_sim_model.specs.Texts.{changed, listed}
use Rattle.cif_script.specs.Changes.{change_at, change_of}
use Rattle.cif_script.proofs.Finding.{drop-item}

pub listed-append : (ts us : List Text) → listed (ts ++ us) ≡ listed ts ++ listed us
listed-append [] us = refl
listed-append (t ∷ ts) us = ap (λ x. codes " " ++ t ++ x) (listed-append ts us) ∙ sym (append_assoc (codes " " ++ t) (listed ts) (listed us))

pub zip-none : {A B : Type 0} (xs : List A) → zip {K = A} {X = B} xs [] ≡ []
zip-none [] = refl
zip-none (x ∷ xs) = refl

-- what stands at a place and behind it
module _ {A : Type 0} where
  abbrev At : List A → ℕ → Type 0
  At ys k = ((slice_get ys k ≡ None) × (drop k ys ≡ []) × (drop (suc k) ys ≡ [])) ⊎ ((y : A) × (slice_get ys k ≡ Some y) × (drop k ys ≡ y ∷ drop (suc k) ys))

  at : (ys : List A) (k : ℕ) → At ys k
  at [] zero = inl (refl, refl, refl)
  at [] (suc k) = inl (refl, refl, refl)
  at (y ∷ ys) zero = inr (y, refl, refl)
  at (y ∷ ys) (suc k) = at ys k

module _ {N A : Type 0} (same : A → A → Bool) (tell : N × A → Text) where
  abbrev pub changes : List N → List A → List A → Text
  changes names olds news = listed (map tell (changed same names olds news))

  no_old : (ns : List N) (news : List A) → changes ns [] news ≡ []
  no_old [] news = refl
  no_old (n ∷ ns) news = refl

  no_new : (ns : List N) (olds : List A) → changes ns olds [] ≡ []
  no_new ns [] = no_old ns []
  no_new [] (a ∷ olds) = refl
  no_new (n ∷ ns) (a ∷ olds) = refl

  both : (n : N) (ns : List N) (a b : A) (olds news : List A) → changes (n ∷ ns) (a ∷ olds) (b ∷ news) ≡ change_of same tell n (Some a) (Some b) ++ changes ns olds news
  both n ns a b olds news = by (same a b)
    where
      by : (t : Bool) → listed (map tell (map (λ x. (x.0, x.1.1)) (cond (not t) ((n, (a, b)) ∷ filter (λ x. not (same x.1.0 x.1.1)) (zip ns (zip olds news))) (filter (λ x. not (same x.1.0 x.1.1)) (zip ns (zip olds news))))))
          ≡ (if t then [] else codes " " ++ tell (n, b)) ++ changes ns olds news
      by true = refl
      by false = refl

  module _ (ns : List N) (olds news : List A) where
    -- what is left from a number on
    abbrev pub changes_from : ℕ → Text
    changes_from k = changes (drop k ns) (drop k olds) (drop k news)

    by_places : (k : ℕ) (n : N) (left : List N) → At olds k → At news k
        → changes (n ∷ left) (drop k olds) (drop k news) ≡ change_of same tell n (slice_get olds k) (slice_get news k) ++ changes left (drop (suc k) olds) (drop (suc k) news)
    by_places k n left (inl o) w = rw (o.0, o.1, o.2) (sym (no_old left (drop (suc k) news)))
    by_places k n left (inr o) (inl w) = rw (o.1, o.2, w.0, w.1, w.2) (no_new (n ∷ left) (o.0 ∷ drop (suc k) olds) ∙ sym (no_new left (drop (suc k) olds)))
    by_places k n left (inr o) (inr w) = rw (o.1, o.2, w.1, w.2) (both n left o.0 w.0 (drop (suc k) olds) (drop (suc k) news))

    by_names : (k : ℕ) → At ns k → changes_from k ≡ change_at same tell ns olds news k ++ changes_from (suc k)
    by_names k (inl e) = rw (e.0, e.1, e.2) refl
    by_names k (inr e) = rw (e.1, e.2) (by_places k e.0 (drop (suc k) ns) (at olds k) (at news k))

    -- the first of it
    pub changes_next : (k : ℕ) → changes_from k ≡ change_at same tell ns olds news k ++ changes_from (suc k)
    changes_next k = by_names k (at ns k)

    pub changes_end : (k : ℕ) → length ns ≤ k → changes_from k ≡ []
    changes_end k l = ap (λ ys. changes ys (drop k olds) (drop k news)) (drop_all k ns l)

-- where one of two lists ends, the pairs end
pub pairs_end : {L M N A : Type 0} (f : L → M) (g : M → N) (xs : List L) (ys : List A) (n : ℕ) → n ≡ min (length xs) (length ys) → zip (map g (map f (drop n xs))) (drop n ys) ≡ []
pairs_end f g xs ys n e =
    elim (dec_lt n (length xs)) [
      | yes l ↦ ap (zip (map g (map f (drop n xs)))) (drop_all n ys (omega arith)) ∙ zip-none (map g (map f (drop n xs)))
      | no l ↦ ap (λ zs. zip (map g (map f zs)) (drop n ys)) (drop_all n xs (omega arith))
    ]

-- ---- a thing by its number

module _ {L M N : Type 0} (f : L → M) (g : M → N) where
  pub named_at : (xs : List L) (k : ℕ) → slice_get (map g (map f xs)) k ≡ option_map (λ x. g (f x)) (slice_get xs k)
  named_at [] k = refl
  named_at (x ∷ xs) zero = refl
  named_at (x ∷ xs) (suc k) = named_at xs k

  pub told_at : (show : N → Text) (xs : List L) (k : ℕ) (x : L) → Some x ≡ slice_get xs k → show (g (f x)) ≡ unwrap_or (option_map show (slice_get (map g (map f xs)) k)) []
  told_at show xs k x h =
      ap (λ o. unwrap_or (option_map show (option_map (λ y. g (f y)) o)) []) h ∙ sym (ap (λ o. unwrap_or (option_map show o) []) (named_at xs k))

  pub nothing_told : (show : N → Text) (xs : List L) (k : ℕ) → None ≡ slice_get xs k → [] ≡ unwrap_or (option_map show (slice_get (map g (map f xs)) k)) []
  nothing_told show xs k h =
      ap (λ o. unwrap_or (option_map show (option_map (λ y. g (f y)) o)) []) h ∙ sym (ap (λ o. unwrap_or (option_map show o) []) (named_at xs k))

module _ {L M : Type 0} (f : L → M) (path : M → Text) where
  pub path_at : (xs : List L) (k : ℕ) (x : L) → Some x ≡ slice_get xs k → path (f x) ≡ unwrap_or (slice_get (map path (map f xs)) k) []
  path_at xs k x h = ap (λ o. unwrap_or (option_map (λ y. path (f y)) o) []) h ∙ sym (ap (λ o. unwrap_or o []) (named_at f path xs k))

  pub no_path : (xs : List L) (k : ℕ) → None ≡ slice_get xs k → [] ≡ unwrap_or (slice_get (map path (map f xs)) k) []
  no_path xs k h = ap (λ o. unwrap_or (option_map (λ y. path (f y)) o) []) h ∙ sym (ap (λ o. unwrap_or o []) (named_at f path xs k))

pub nothing_there : {A : Type 0} (o : Option (Bor A)) (r : Option A) → ((x : Bor A) → o ≡ Some x → ⊥) → option_copied o ≡ r → None ≡ r
nothing_there None r h e = e
nothing_there (Some x) r h e = absurd (h x refl)

-- what `get` of a slice returns
pub got : {A : Type 0} (r : Option (Bor A)) (xs : List A) (k : ℕ) → is_some r ≡ nat_lt k (length xs) → IfSome r (λ x. x.now ≡ get_or xs k x.now) → option_copied r ≡ slice_get xs k
got None xs k there is = let past : length xs ≤ k = grind (arith, nat_tests) in sym (slice_get_past xs k past)
got (Some x) xs k there is = let within : k < length xs = grind (arith, nat_tests) in sym (slice_get_read xs (length xs) k x.now refl within is)

-- ---- a line from its parts

pub start_parts : (old a n : Text) (ts us : List Text) → (((old ++ a) ++ listed ts) ++ listed us) ++ n ≡ old ++ ((a ++ listed (ts ++ us)) ++ n)
start_parts old a n ts us = ap (λ t. t ++ n) (append_assoc (old ++ a) (listed ts) (listed us) ∙ append_assoc old a (listed ts ++ listed us) ∙ ap (λ t. old ++ (a ++ t)) (sym (listed-append ts us)))
    ∙ append_assoc old (a ++ listed (ts ++ us)) n

pub step_parts : (old a k b e n : Text) (ts us : List Text) → ((((((old ++ a) ++ k) ++ b) ++ e) ++ listed ts) ++ listed us) ++ n ≡ old ++ (((((a ++ k) ++ b) ++ e) ++ listed (ts ++ us)) ++ n)
step_parts old a k b e n ts us =
    let front : (((old ++ a) ++ k) ++ b) ++ e ≡ old ++ (((a ++ k) ++ b) ++ e) =
    ap (λ t. (t ++ b) ++ e) (append_assoc old a k) ∙ ap (λ t. t ++ e) (append_assoc old (a ++ k) b) ∙ append_assoc old ((a ++ k) ++ b) e in
    ap (λ t. ((t ++ listed ts) ++ listed us) ++ n) front ∙ start_parts old (((a ++ k) ++ b) ++ e) n ts us

pub set_parts : (old a e n : Text) → ((old ++ a) ++ e) ++ n ≡ old ++ ((a ++ e) ++ n)
set_parts old a e n = ap (λ t. t ++ n) (append_assoc old a e) ∙ append_assoc old (a ++ e) n
