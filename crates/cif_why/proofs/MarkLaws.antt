-- Marks as a table of truths.
use Rattle.std.proofs.Common.{◌≡◌, ℕ, zero, suc, ◌+◌, ◌<◌, ◌≤◌, Bool, true, false, List, [], ◌∷◌, length, map, Some, refl, sym, ap, ◌∙◌, arith}
use Rattle.std.specs.Prelude.{slice_get, slice_set, ◌||◌, ◌&&◌, nat_eq}
use Rattle.std.specs.List.{list_any, range_with_len}
use Rattle.std.proofs.lemmas.Bool.Decides.{nat_tests}
use Rattle.cif_system.proofs.Lists.{some-same}
use Rattle.cif_net_model.proofs.ValueLaws.{ap-two}
use Rattle.cif_net_model.specs.Net.{NetAuto, NetEdge}
use Rattle.cif_why.specs.Marks.{at_place, marked_edge, marked_row}

-- ---- places

pub place-set : {A : Type 0} (f : A → A) (xs : List A) (k : ℕ) (x : A) → slice_get xs k ≡ Some x → slice_set xs k (f x) ≡ at_place f k xs
place-set f [] k x h = refl
place-set f (y ∷ xs) zero x h = ap (λ z. f z ∷ xs) (sym (some-same y x h))
place-set f (y ∷ xs) (suc k) x h = ap (λ zs. y ∷ zs) (place-set f xs k x h)

set-twice : {A : Type 0} (xs : List A) (k : ℕ) (x y : A) → slice_set (slice_set xs k x) k y ≡ slice_set xs k y
set-twice [] k x y = refl
set-twice (z ∷ xs) zero x y = refl
set-twice (z ∷ xs) (suc k) x y = ap (λ zs. z ∷ zs) (set-twice xs k x y)

pub place_past : {A : Type 0} (f : A → A) (xs : List A) (k : ℕ) → length xs ≤ k → at_place f k xs ≡ xs
place_past f [] k h = refl
place_past f (x ∷ xs) zero h = absurd (omega (arith, h))
place_past f (x ∷ xs) (suc k) h = ap (λ zs. x ∷ zs) (place_past f xs k (omega (arith, h)))

-- taken out, changed, and put back
pub replaced-by : {A : Type 0} (f : A → A) (xs ys zs : List A) (k : ℕ) (e x y : A) → slice_get xs k ≡ Some x → ys ≡ slice_set xs k e → y ≡ f x → zs ≡ slice_set ys k y → zs ≡ at_place f k xs
replaced-by f xs ys zs k e x y was is new set =
    set ∙ ap (λ ws. slice_set ws k y) is ∙ set-twice xs k e y ∙ ap (slice_set xs k) new ∙ place-set f xs k x was

set-true : (xs : List Bool) (k : ℕ) → slice_set xs k true ≡ at_place (λ b. true) k xs
set-true [] k = refl
set-true (x ∷ xs) zero = refl
set-true (x ∷ xs) (suc k) = ap (λ zs. x ∷ zs) (set-true xs k)

pub set_true : (xs : List Bool) (k : ℕ) → slice_set xs k true ≡ at_place (λ b. true) k xs
set_true = set-true

-- ---- rows

pub range-same : {A : Type 0} (f g : ℕ → A) (i c : ℕ) → ((l : ℕ) → i ≤ l → l < i + c → f l ≡ g l) → map f (range_with_len i c) ≡ map g (range_with_len i c)
range-same f g i zero h = refl
range-same f g i (suc c) h =
    ap-two (λ x xs. x ∷ xs) (h i (omega arith) (omega arith)) (range-same f g (i + 1) c (λ l p q. h l (omega (arith, p)) (omega (arith, q))))

or-true : (b : Bool) → (b || true) ≡ true
or-true true = refl
or-true false = refl

pub or-false : (b : Bool) → (b || false) ≡ b
or-false true = refl
or-false false = refl

pub one-set : (f : ℕ → Bool) (i c d : ℕ) → at_place (λ b. true) d (map f (range_with_len i c)) ≡ map (λ l. f l || nat_eq l (i + d)) (range_with_len i c)
one-set f i zero d = refl
one-set f i (suc c) zero =
    let here : nat_eq i (i + 0) ≡ true = grind (arith, nat_tests) in
    ap-two (λ x xs. x ∷ xs) (sym (ap (λ b. f i || b) here ∙ or-true (f i))) (range-same f (λ l. f l || nat_eq l (i + 0)) (i + 1) c other)
  where
    other : (l : ℕ) → i + 1 ≤ l → l < i + 1 + c → f l ≡ (f l || nat_eq l (i + 0))
    other l p q = let no : nat_eq l (i + 0) ≡ false = grind (arith, nat_tests) in sym (ap (λ b. f l || b) no ∙ or-false (f l))
one-set f i (suc c) (suc d) =
    let here : nat_eq i (i + suc d) ≡ false = grind (arith, nat_tests) in
    ap-two (λ x xs. x ∷ xs) (sym (ap (λ b. f i || b) here ∙ or-false (f i))) (one-set f (i + 1) c d ∙ range-same _ _ (i + 1) c (λ l p q. ap (λ j. f l || nat_eq l j) (omega arith)))

pub or-assoc : (a b c : Bool) → ((a || b) || c) ≡ (a || (b || c))
or-assoc true b c = refl
or-assoc false b c = refl

row-law : (ls : List ℕ) (f : ℕ → Bool) (c : ℕ) → marked_row ls (map f (range_with_len 0 c)) ≡ map (λ l. f l || list_any (nat_eq l) ls) (range_with_len 0 c)
row-law [] f c = range-same f (λ l. f l || false) 0 c (λ l p q. sym (or-false (f l)))
row-law (d ∷ ls) f c =
    ap (marked_row ls) (one-set f 0 c d)
    ∙ row-law ls (λ l. f l || nat_eq l (0 + d)) c
    ∙ range-same _ _ 0 c (λ l p q. or-assoc (f l) (nat_eq l (0 + d)) (list_any (nat_eq l) ls) ∙ ap (λ j. f l || (nat_eq l j || list_any (nat_eq l) ls)) (omega arith))

-- ---- the edges of an automaton

abbrev pub rows_of : (ℕ → ℕ → Bool) → (j : ℕ) → List NetEdge → List (List Bool)
rows_of f j [] = []
rows_of f j (y ∷ ys) = map (f j) (range_with_len 0 (length y.places)) ∷ rows_of f (j + 1) ys

pub rows-same : (f g : ℕ → ℕ → Bool) (j : ℕ) (ys : List NetEdge) → ((d : ℕ) (y : NetEdge) (l : ℕ) → slice_get ys d ≡ Some y → l < length y.places → f (j + d) l ≡ g (j + d) l) → rows_of f j ys ≡ rows_of g j ys
rows-same f g j [] h = refl
rows-same f g j (y ∷ ys) h =
    ap-two (λ x xs. x ∷ xs) (range-same (f j) (g j) 0 (length y.places) (λ l p q. ap (λ i. f i l) (omega arith) ∙ h 0 y l refl (omega (arith, q)) ∙ ap (λ i. g i l) (omega arith)))
    (rows-same f g (j + 1) ys (λ d z l at p. ap (λ i. f i l) (omega arith) ∙ h (suc d) z l at p ∙ ap (λ i. g i l) (omega arith)))

rows-law : (d : ℕ) (ls : List ℕ) (f : ℕ → ℕ → Bool) (j : ℕ) (ys : List NetEdge)
    → at_place (marked_row ls) d (rows_of f j ys) ≡ rows_of (λ i l. f i l || (nat_eq i (j + d) && list_any (nat_eq l) ls)) j ys
rows-law d ls f j [] = refl
rows-law zero ls f j (y ∷ ys) =
    let here : nat_eq j (j + 0) ≡ true = grind (arith, nat_tests) in
    ap-two (λ x xs. x ∷ xs)
    (row-law ls (f j) (length y.places) ∙ range-same _ _ 0 (length y.places) (λ l p q. sym (ap (λ b. f j l || (b && list_any (nat_eq l) ls)) here)))
    (rows-same f (λ i l. f i l || (nat_eq i (j + 0) && list_any (nat_eq l) ls)) (j + 1) ys other)
  where
    other : (c : ℕ) (z : NetEdge) (l : ℕ) → slice_get ys c ≡ Some z → l < length z.places → f (j + 1 + c) l ≡ (f (j + 1 + c) l || (nat_eq (j + 1 + c) (j + 0) && list_any (nat_eq l) ls))
    other c z l at p = let no : nat_eq (j + 1 + c) (j + 0) ≡ false = grind (arith, nat_tests) in sym (ap (λ b. f (j + 1 + c) l || (b && list_any (nat_eq l) ls)) no ∙ or-false (f (j + 1 + c) l))
rows-law (suc d) ls f j (y ∷ ys) =
    let here : nat_eq j (j + suc d) ≡ false = grind (arith, nat_tests) in
    ap-two (λ x xs. x ∷ xs)
    (range-same _ _ 0 (length y.places) (λ l p q. sym (ap (λ b. f j l || (b && list_any (nat_eq l) ls)) here ∙ or-false (f j l))))
    (rows-law d ls f (j + 1) ys ∙ rows-same _ _ (j + 1) ys (λ c z l at p. ap (λ i. f (j + 1 + c) l || (nat_eq (j + 1 + c) i && list_any (nat_eq l) ls)) (omega arith)))

-- ---- all automata

abbrev pub table_of : (ℕ → ℕ → ℕ → Bool) → (k : ℕ) → List NetAuto → List (List (List Bool))
table_of v k [] = []
table_of v k (a ∷ autos) = rows_of (v k) 0 a.edges ∷ table_of v (k + 1) autos

pub table-same : (v w : ℕ → ℕ → ℕ → Bool) (k : ℕ) (autos : List NetAuto)
    → ((c d : ℕ) (a : NetAuto) (y : NetEdge) (l : ℕ) → slice_get autos c ≡ Some a → slice_get a.edges d ≡ Some y → l < length y.places → v (k + c) d l ≡ w (k + c) d l) → table_of v k autos ≡ table_of w k autos
table-same v w k [] h = refl
table-same v w k (a ∷ autos) h =
    ap-two (λ x xs. x ∷ xs)
    (rows-same (v k) (w k) 0 a.edges (λ d y l at p. ap-two (λ i j. v i j l) (omega arith) (omega arith) ∙ h 0 d a y l refl at p ∙ ap-two (λ i j. w i j l) (omega arith) (omega arith)))
    (table-same v w (k + 1) autos (λ c d b y l here at p. ap (λ i. v i d l) (omega arith) ∙ h (suc c) d b y l here at p ∙ ap (λ i. w i d l) (omega arith)))

table-law : (c d : ℕ) (ls : List ℕ) (v : ℕ → ℕ → ℕ → Bool) (k : ℕ) (autos : List NetAuto)
    → marked_edge c d ls (table_of v k autos) ≡ table_of (λ i j l. v i j l || (nat_eq i (k + c) && (nat_eq j d && list_any (nat_eq l) ls))) k autos
table-law c d ls v k [] = refl
table-law zero d ls v k (a ∷ autos) =
    let here : nat_eq k (k + 0) ≡ true = grind (arith, nat_tests) in
    ap-two (λ x xs. x ∷ xs)
    (rows-law d ls (v k) 0 a.edges
    ∙ rows-same _ _ 0 a.edges (λ e y l at p. ap (λ i. v k (0 + e) l || (nat_eq (0 + e) i && list_any (nat_eq l) ls)) (omega arith) ∙ sym (ap (λ b. v k (0 + e) l || (b && (nat_eq (0 + e) d && list_any (nat_eq l) ls))) here)))
    (table-same v _ (k + 1) autos other)
  where
    other : (e f : ℕ) (b : NetAuto) (y : NetEdge) (l : ℕ) → slice_get autos e ≡ Some b → slice_get b.edges f ≡ Some y → l < length y.places
        → v (k + 1 + e) f l ≡ (v (k + 1 + e) f l || (nat_eq (k + 1 + e) (k + 0) && (nat_eq f d && list_any (nat_eq l) ls)))
    other e f b y l p q r =
        let no : nat_eq (k + 1 + e) (k + 0) ≡ false = grind (arith, nat_tests) in sym (ap (λ t. v (k + 1 + e) f l || (t && (nat_eq f d && list_any (nat_eq l) ls))) no ∙ or-false (v (k + 1 + e) f l))
table-law (suc c) d ls v k (a ∷ autos) =
    let here : nat_eq k (k + suc c) ≡ false = grind (arith, nat_tests) in
    ap-two (λ x xs. x ∷ xs)
    (rows-same _ _ 0 a.edges (λ e y l at p. sym (ap (λ b. v k (0 + e) l || (b && (nat_eq (0 + e) d && list_any (nat_eq l) ls))) here ∙ or-false (v k (0 + e) l))))
    (table-law c d ls v (k + 1) autos
    ∙ table-same _ _ (k + 1) autos (λ e f b y l p q r. ap (λ i. v (k + 1 + e) f l || (nat_eq (k + 1 + e) i && (nat_eq f d && list_any (nat_eq l) ls))) (omega arith)))

-- the values of these numbers are marked
pub edge-marked : (c d : ℕ) (ls : List ℕ) (v : ℕ → ℕ → ℕ → Bool) (autos : List NetAuto)
    → marked_edge c d ls (table_of v 0 autos) ≡ table_of (λ i j l. v i j l || (nat_eq i c && (nat_eq j d && list_any (nat_eq l) ls))) 0 autos
edge-marked c d ls v autos = table-law c d ls v 0 autos ∙ table-same _ _ 0 autos (λ e f b y l p q r. ap (λ i. v (0 + e) f l || (nat_eq (0 + e) i && (nat_eq f d && list_any (nat_eq l) ls))) (omega arith))
