-- Places that are noted for their events, one by one.
use Rattle.std.proofs.Common.{◌≡◌, ℕ, zero, suc, ◌+◌, Bool, true, false, ◌||◌, nat_eq, List, [], ◌∷◌, map, filter, replicate, refl, ◌∙◌, ap, if◌then◌else◌}
use Rattle.std.specs.List.{list_any, enumerate_from, range_with_len}
use Rattle.cif_net_model.specs.Listing.{numbers_of}
use Rattle.cif_sync.specs.Buckets.{each_noted}
use Rattle.cif_sync.specs.Columns.{places_in}
use Rattle.cif_sync.proofs.BucketLaws.{passing, each-noted}

or-false : (b : Bool) → (b || false) ≡ b
or-false true = refl
or-false false = refl

single : (e k : ℕ) (xs : List ℕ) → passing (list_any (nat_eq e)) k (map (λ x. x ∷ []) xs) ≡ map (λ x. x.0) (filter (λ x. nat_eq e x.1) (enumerate_from k xs))
single e k [] = refl
single e k (x ∷ xs) =
    ap (λ t. map (λ y. y.0) (if t then (k, x ∷ []) ∷ filter (λ y. list_any (nat_eq e) y.1) (enumerate_from (k + 1) (map (λ y. y ∷ []) xs)) else filter (λ y. list_any (nat_eq e) y.1) (enumerate_from (k + 1) (map (λ y. y ∷ []) xs)))) (or-false (nat_eq e x))
    ∙ by (nat_eq e x) (single e (k + 1) xs)
  where
    by : (t : Bool) → passing (list_any (nat_eq e)) (k + 1) (map (λ y. y ∷ []) xs) ≡ map (λ y. y.0) (filter (λ y. nat_eq e y.1) (enumerate_from (k + 1) xs))
        → map (λ y. y.0) (if t then (k, x ∷ []) ∷ filter (λ y. list_any (nat_eq e) y.1) (enumerate_from (k + 1) (map (λ y. y ∷ []) xs)) else filter (λ y. list_any (nat_eq e) y.1) (enumerate_from (k + 1) (map (λ y. y ∷ []) xs)))
        ≡ map (λ y. y.0) (if t then (k, x) ∷ filter (λ y. nat_eq e y.1) (enumerate_from (k + 1) xs) else filter (λ y. nat_eq e y.1) (enumerate_from (k + 1) xs))
    by true r = ap (λ ys. k ∷ ys) r
    by false r = r

same-range : (f g : ℕ → List ℕ) → ((j : ℕ) → f j ≡ g j) → (i m : ℕ) → map f (range_with_len i m) ≡ map g (range_with_len i m)
same-range f g h i zero = refl
same-range f g h i (suc m) = ap (λ x. x ∷ map f (range_with_len (i + 1) m)) (h i) ∙ ap (λ xs. g i ∷ xs) (same-range f g h (i + 1) m)

pub places_are : (count : ℕ) (events : List ℕ) → each_noted 0 (map (λ e. e ∷ []) events) (replicate count []) ≡ places_in count events
places_are count events =
    each-noted (map (λ e. e ∷ []) events) count
    ∙ same-range (λ e. passing (list_any (nat_eq e)) 0 (map (λ x. x ∷ []) events)) (λ e. numbers_of (nat_eq e) events) (λ e. single e 0 events) 0 count
