-- Where needs have an order no node reaches itself, and places in the order are ranks.
use Rattle.std.proofs.Common.{◌≡◌, ◌≢◌, ℕ, zero, suc, ◌<◌, ◌≤◌, true, false, cond, eqb, inl, inr, List, [], ◌∷◌, length, replicate, Some, refl, sym, ap, subst, arith}
use Rattle.std.specs.Prelude.{slice_get}
use Rattle.std.specs.List.{IsDistinct, AllByRecursion, list_any}
use Rattle.std.proofs.lemmas.Bool.{eq-eqb, ne_eqb}
use Rattle.std.proofs.lemmas.Map.Steps.{length-le_from_distinct_below}
use Rattle.cif_system.specs.Words.{Member, AreDistinct, Before}
use Rattle.cif_order.specs.Graph.{Needs, IsOrder, IsCyclic, IsRank}
use Rattle.cif_order.specs.Search.{IsSound}
use Rattle.cif_order.specs.declared.search.Mark.{Mark}
use Rattle.cif_order.specs.declared.search.Mark.TheVariants.{New, Open, Done}
use Rattle.cif_order.proofs.Lists.{same-or-other, chain-falls, get-within}

-- ---- the place of a node in an order

place : List ℕ → ℕ → ℕ
place [] x = 0
place (y ∷ ys) x = cond (eqb x y) 0 (suc (place ys x))

place-first : (x y : ℕ) (ys : List ℕ) → x ≡ y → place (y ∷ ys) x ≡ 0
unfolding place
place-first x y ys e = ap (λ b. cond b 0 (suc (place ys x))) (eq-eqb x y e)

place-later : (x y : ℕ) (ys : List ℕ) → x ≢ y → place (y ∷ ys) x ≡ suc (place ys x)
unfolding place
place-later x y ys n = ap (λ b. cond b 0 (suc (place ys x))) (ne_eqb x y n)

before-first : (x y : ℕ) (xs : List ℕ) → Before x y xs → Member x xs
before-first x y [] h = h
before-first x y (z ∷ xs) h = elim h [ inl w ↦ inl w.0 | inr b ↦ inr (before-first x y xs b) ]

before-second : (x y : ℕ) (xs : List ℕ) → Before x y xs → Member y xs
before-second x y [] h = h
before-second x y (z ∷ xs) h = elim h [ inl w ↦ inr w.1 | inr b ↦ inr (before-second x y xs b) ]

-- an element of the rest isn't the first
rest-differs : (x z : ℕ) (xs : List ℕ) → AreDistinct (z ∷ xs) → Member x xs → x ≢ z
rest-differs x z xs d m e = d.0 (subst (λ w. Member w xs) e m)

place-before : (x y : ℕ) (xs : List ℕ) → AreDistinct xs → Before x y xs → place xs x < place xs y
place-before x y [] d h = absurd h
place-before x y (z ∷ xs) d h = elim h [
  | inl w ↦ omega (arith, place-first x z xs w.0, place-later y z xs (rest-differs y z xs d w.1))
  | inr b ↦ omega (arith, place-before x y xs d.1 b, place-later x z xs (rest-differs x z xs d (before-first x y xs b)), place-later y z xs (rest-differs y z xs d (before-second x y xs b)))
]

place-within : (x : ℕ) (xs : List ℕ) → Member x xs → place xs x < length xs
place-within x [] m = absurd m
place-within x (y ∷ xs) m = elim (same-or-other x y) [
  | inl e ↦ omega (arith, place-first x y xs e)
  | inr n ↦ elim m [ inl e ↦ absurd (n e) | inr w ↦ omega (arith, place-later x y xs n, place-within x xs w) ]
]

-- ---- as many nodes as places

any-member : (q : ℕ) (xs : List ℕ) → list_any (eqb q) xs ≡ true → Member q xs
any-member q [] h = absurd cc
any-member q (x ∷ xs) h = elim (same-or-other q x) [
  | inl e ↦ inl e
  | inr n ↦ let f : eqb q x ≡ false = ne_eqb q x n in inr (any-member q xs (rw f at h))
]

all-apart : (x : ℕ) (xs : List ℕ) → (Member x xs → ⊥) → AllByRecursion (λ y. eqb x y ≡ false) xs
all-apart x [] h = tt
all-apart x (y ∷ xs) h = (ne_eqb x y (λ e. h (inl e)), all-apart x xs (λ m. h (inr m)))

distinct : (xs : List ℕ) → AreDistinct xs → IsDistinct eqb xs
unfolding IsDistinct
distinct [] d = tt
distinct (x ∷ xs) d = (all-apart x xs d.0, distinct xs d.1)

order-length : (needs : List (List ℕ)) (order : List ℕ) → IsOrder needs order → length order ≤ length needs
order-length needs order o = length-le_from_distinct_below order (length needs) (distinct order o.once) (λ q h. o.only q (any-member q order h))

-- ---- the laws

falls : (needs : List (List ℕ)) (order : List ℕ) → IsOrder needs order → (x y : ℕ) → Needs needs x y → place order y < place order x
falls needs order o x y n = place-before y x order o.once (o.after x y n)

pub order-acyclic : (needs : List (List ℕ)) (order : List ℕ) → IsOrder needs order → (x : ℕ) → IsCyclic needs x → ⊥
order-acyclic needs order o x c = absurd (omega (arith, chain-falls (Needs needs) (place order) (falls needs order o) x x c))

pub order-rank : (needs : List (List ℕ)) (order : List ℕ) → IsOrder needs order → (rank : ℕ → ℕ) × IsRank needs rank
order-rank needs order o = (
  place order,
  record {
    within = λ x h. let p = place-within x order (o.each x h) in omega (arith, order-length needs order o);
    falls = falls needs order o;
  },
)

-- ---- the end of the search

needs-inside : (needs : List (List ℕ)) (x y : ℕ) → Needs needs x y → x < length needs
needs-inside [] x y h = absurd h
needs-inside (ys ∷ needs) zero y h = omega arith
needs-inside (ys ∷ needs) (suc x) y h = omega (arith, needs-inside needs x y h)

-- where no node is new or open, the order is whole
pub order-whole : (needs : List (List ℕ)) (marks : List Mark) (path order : List ℕ) → IsSound needs marks path order → path ≡ []
    → ((x : ℕ) → x < length needs → slice_get marks x ≡ Some New → ⊥) → IsOrder needs order
order-whole needs marks path order s empty begun = record {
  each = each;
  only = λ x m. let h = get-within marks x Done (s.done x m) in omega (arith, s.sized);
  once = s.order_once;
  after = λ x y n. s.after x y (each x (needs-inside needs x y n)) n;
}
  where
    marked : (ms : List Mark) (x : ℕ) → x < length ms → (m : Mark) × (slice_get ms x ≡ Some m)
    marked [] x h = absurd (omega arith)
    marked (m ∷ ms) zero h = (m, refl)
    marked (m ∷ ms) (suc x) h = marked ms x (omega arith)

    by_mark : (x : ℕ) → x < length needs → (m : Mark) → slice_get marks x ≡ Some m → Member x order
    by_mark x h New e = absurd (begun x h e)
    by_mark x h (Open k) e = absurd (subst (Member x) empty (s.on_path x k e))
    by_mark x h Done e = s.listed x e

    each : (x : ℕ) → x < length needs → Member x order
    each x h = let m = marked marks x (omega (arith, s.sized)) in by_mark x h m.0 m.1

-- the search starts with new nodes alone
all-new : (x n : ℕ) (m : Mark) → slice_get (replicate n New) x ≡ Some m → m ≡ New
all-new x zero m h = absurd cc
all-new zero (suc n) m h = cc
all-new (suc x) (suc n) m h = all-new x n m h

replicate-length : (n : ℕ) (m : Mark) → length (replicate n m) ≡ n
replicate-length zero m = refl
replicate-length (suc n) m = omega (arith, replicate-length n m)

pub start-sound : (needs : List (List ℕ)) (marks : List Mark) (path order : List ℕ) → marks ≡ replicate (length needs) New → path ≡ [] → order ≡ [] → IsSound needs marks path order
start-sound needs marks path order m p o =
    subst (λ v. IsSound needs v path order) (sym m) (subst (λ v. IsSound needs news v order) (sym p) (subst (IsSound needs news []) (sym o) first))
  where
    news : List Mark
    news = replicate (length needs) New

    first : IsSound needs (replicate (length needs) New) [] []
    first = record {
      sized = replicate-length (length needs) New;
      opened = λ x h. absurd h;
      on_path = λ x k h. absurd (let e = all-new x (length needs) (Open k) h in cc);
      done = λ x h. absurd h;
      listed = λ x h. absurd (let e = all-new x (length needs) Done h in cc);
      path_once = tt;
      order_once = tt;
      chained = λ x y h. absurd h;
      partly = λ x k y h m. absurd (let e = all-new x (length needs) (Open k) h in cc);
      after = λ x y h n. absurd h;
    }
