-- What a choice wrote to a copy of a state is taken back by copying what it wrote from the state.
use Rattle.std.proofs.Common.{◌≡◌, ℕ, zero, suc, ◌+◌, ℤ, List, [], ◌∷◌, length, map, Option, Some, None, refl, sym, ap, ◌∙◌, arith, length-set}
use Rattle.std.specs.Prelude.{slice_get, slice_set}
use Rattle.cif_system.specs.System.{State}
use Rattle.cif_system.specs.Step.{new_values}
use Rattle.cif_net_model.proofs.ValueLaws.{ap-two}
use Rattle.cif_net_model.specs.Listing.{NetMove}
use Rattle.cif_net_model.specs.Net.{NetAuto}
use Rattle.cif_eval.specs.Copies.{copied_item, with_item}
use Rattle.cif_eval.specs.Writes.{end_of, moved, moved_to, written}
use Rattle.std.proofs.Common.{◌-◌, ◌<◌, drop, drop-cons, get_or}
use Rattle.std.proofs.lemmas.List.{drop_all}
use Rattle.cif_eval.proofs.Stored.{none_stored, stored_first}
use Rattle.cif_why.specs.Restoring.{movers, restored, restored_state}

set-copied : {A : Type 0} (from to : List A) (k : ℕ) (z : A) → length from ≡ length to → copied_item from (slice_set to k z) k ≡ copied_item from to k
set-copied [] [] k z h = refl
set-copied [] (y ∷ to) k z h = absurd (omega (arith, h))
set-copied (x ∷ from) [] k z h = absurd (omega (arith, h))
set-copied (x ∷ from) (y ∷ to) zero z h = refl
set-copied (x ∷ from) (y ∷ to) (suc k) z h = go (slice_get from k) (set-copied from to k z (omega (arith, h)))
  where
    go : (o : Option _) → with_item (slice_set to k z) k o ≡ with_item to k o → with_item (y ∷ slice_set to k z) (suc k) o ≡ with_item (y ∷ to) (suc k) o
    go None same = ap (λ zs. y ∷ zs) same
    go (Some w) same = ap (λ zs. y ∷ zs) same

nothing-set : {A : Type 0} (j k : ℕ) (o p : Option A) → with_item (with_item [] j o) k p ≡ with_item (with_item [] k p) j o
nothing-set j k None None = refl
nothing-set j k None (Some w) = refl
nothing-set j k (Some v) None = refl
nothing-set j k (Some v) (Some w) = refl

copied-swap : {A : Type 0} (from to : List A) (j k : ℕ) → copied_item from (copied_item from to j) k ≡ copied_item from (copied_item from to k) j
copied-swap [] to j k = refl
copied-swap (x ∷ from) [] j k = nothing-set j k (slice_get (x ∷ from) j) (slice_get (x ∷ from) k)
copied-swap (x ∷ from) (y ∷ to) zero zero = refl
copied-swap (x ∷ from) (y ∷ to) zero (suc k) = go (slice_get from k)
  where
    go : (o : Option _) → with_item (x ∷ to) (suc k) o ≡ slice_set (with_item (y ∷ to) (suc k) o) 0 x
    go None = refl
    go (Some w) = refl
copied-swap (x ∷ from) (y ∷ to) (suc j) zero = go (slice_get from j)
  where
    go : (o : Option _) → slice_set (with_item (y ∷ to) (suc j) o) 0 x ≡ with_item (x ∷ to) (suc j) o
    go None = refl
    go (Some w) = refl
copied-swap (x ∷ from) (y ∷ to) (suc j) (suc k) = go (slice_get from j) (slice_get from k) (copied-swap from to j k)
  where
    go : (o p : Option _) → with_item (with_item to j o) k p ≡ with_item (with_item to k p) j o → with_item (with_item (y ∷ to) (suc j) o) (suc k) p ≡ with_item (with_item (y ∷ to) (suc k) p) (suc j) o
    go None None same = ap (λ zs. y ∷ zs) same
    go None (Some w) same = ap (λ zs. y ∷ zs) same
    go (Some v) None same = ap (λ zs. y ∷ zs) same
    go (Some v) (Some w) same = ap (λ zs. y ∷ zs) same

copied-own : {A : Type 0} (from : List A) (k : ℕ) → copied_item from from k ≡ from
copied-own [] k = refl
copied-own (x ∷ from) zero = refl
copied-own (x ∷ from) (suc k) = go (slice_get from k) (copied-own from k)
  where
    go : (o : Option _) → with_item from k o ≡ from → with_item (x ∷ from) (suc k) o ≡ x ∷ from
    go None same = ap (λ zs. x ∷ zs) same
    go (Some w) same = ap (λ zs. x ∷ zs) same

restored-copied : {A : Type 0} (ks : List ℕ) (from to : List A) (k : ℕ) → restored ks from (copied_item from to k) ≡ copied_item from (restored ks from to) k
restored-copied [] from to k = refl
restored-copied (j ∷ ks) from to k = ap (restored ks from) (copied-swap from to k j) ∙ restored-copied ks from (copied_item from to j) k

restored-own : {A : Type 0} (ks : List ℕ) (from : List A) → restored ks from from ≡ from
restored-own [] from = refl
restored-own (k ∷ ks) from = ap (restored ks from) (copied-own from k) ∙ restored-own ks from

values-length : (ws : List (ℕ × ℤ)) (i : ℕ) (zs : List ℤ) → length (new_values ws i zs) ≡ length zs
values-length ws i [] = refl
values-length ws i (z ∷ zs) = ap suc (values-length ws (suc i) zs)

abbrev pub variables : List (ℕ × ℤ) → List ℕ
variables ws = map (λ (w : ℕ × ℤ). w.0) ws

values-restored : (ws : List (ℕ × ℤ)) (zs : List ℤ) → restored (variables ws) zs (new_values ws 0 zs) ≡ zs
values-restored [] zs = none_stored 0 zs
values-restored (w ∷ ws) zs =
    ap (λ ys. restored (variables ws) zs (copied_item zs ys w.0)) (stored_first w ws zs)
    ∙ ap (restored (variables ws) zs) (set-copied zs (new_values ws 0 zs) w.0 w.1 (sym (values-length ws 0 zs)))
    ∙ restored-copied (variables ws) zs (new_values ws 0 zs) w.0
    ∙ ap (λ ys. copied_item zs ys w.0) (values-restored ws zs)
    ∙ copied-own zs w.0

moved-length : (places : List ℕ) (k : ℕ) (o : Option ℕ) → length (moved_to places k o) ≡ length places
moved-length places k None = refl
moved-length places k (Some p) = length-set places k p

moved-copied : (from to : List ℕ) (k : ℕ) (o : Option ℕ) → length from ≡ length to → copied_item from (moved_to to k o) k ≡ copied_item from to k
moved-copied from to k None h = refl
moved-copied from to k (Some p) h = set-copied from to k p h

places-restored : (autos : List NetAuto) (ms : List NetMove) (from to : List ℕ) → length from ≡ length to → restored (movers ms) from (moved autos ms to) ≡ restored (movers ms) from to
places-restored autos [] from to h = refl
places-restored autos (m ∷ ms) from to h =
    let next : List ℕ = moved_to to m.auto (end_of autos m) in
    let long : length from ≡ length next = h ∙ sym (moved-length to m.auto (end_of autos m)) in
    restored-copied (movers ms) from (moved autos ms next) m.auto
    ∙ ap (λ ys. copied_item from ys m.auto) (places-restored autos ms from next long)
    ∙ sym (restored-copied (movers ms) from next m.auto)
    ∙ ap (restored (movers ms) from) (moved-copied from to m.auto (end_of autos m) h)

pub state-restored : (autos : List NetAuto) (ms : List NetMove) (ws : List (ℕ × ℤ)) (s : State) → restored_state (movers ms) (variables ws) s (written autos ms ws s) ≡ s
state-restored autos ms ws s = ap-two (λ ls zs. record { locs = ls; vals = zs; ins = s.ins }) (places-restored autos ms s.locs s.locs refl ∙ restored-own (movers ms) s.locs) (values-restored ws s.vals)

-- the loop stores the pair before those that it stored
pub stored-more : {A : Type 0} (f : A → ℕ × ℤ) (xs : List A) (k : ℕ) (d : A) (old zs : List ℤ) → 0 < k → k < length xs + 1 → zs ≡ new_values (map f (drop k xs)) 0 old
    → slice_set zs (f (get_or xs (k - 1) d)).0 (f (get_or xs (k - 1) d)).1 ≡ new_values (map f (drop (k - 1) xs)) 0 old
stored-more f xs k d old zs some within done =
    let next : k ≡ suc (k - 1) = omega arith in
    let below : k - 1 < length xs = omega (arith, some, within) in
    ap (λ ys. slice_set ys (f (get_or xs (k - 1) d)).0 (f (get_or xs (k - 1) d)).1) done
    ∙ sym (stored_first (f (get_or xs (k - 1) d)) (map f (drop k xs)) old)
    ∙ ap (λ j. new_values (f (get_or xs (k - 1) d) ∷ map f (drop j xs)) 0 old) next
    ∙ ap (λ ys. new_values (map f ys) 0 old) (sym (drop-cons xs (k - 1) d below))

pub more-starts : {A : Type 0} (f : A → ℕ × ℤ) (xs : List A) (old : List ℤ) → old ≡ new_values (map f (drop (length xs) xs)) 0 old
more-starts f xs old = sym (ap (λ ys. new_values (map f ys) 0 old) (drop_all (length xs) xs (omega arith)) ∙ none_stored 0 old)
