-- The join of intervals, one after the other.
use Rattle.std.proofs.Common.{◌≡◌, ℕ, zero, suc, List, [], ◌∷◌, map, Some, None, length, get_or, inl, inr, refl, sym, ◌∙◌, ap, subst, Result, Ok, Err, IfErr, ◌<◌, arith}
use Rattle.std.specs.Result.{IsErrAnd}
use Rattle.std.proofs.lemmas.Int.{ints, clamps}
use Rattle.cif_base.specs.Bounds.{Bounds}
use Rattle.cif_system.specs.System.{Range}
use Rattle.cif_system.specs.Words.{Member}
use Rattle.cif_net_model.specs.Interval.{joined, as_bounds, as_range, join_all}
use Rattle.cif_alg_order.specs.Ranged.{join_more, joined_all, bounds_or_zero}

joined-assoc : (a b c : Range) → joined (joined a b) c ≡ joined a (joined b c)
joined-assoc a b c = grind (arith, ints, clamps)

join-first : (a b : Range) (rs : List Range) → join_all (joined a b ∷ rs) ≡ joined a (join_all (b ∷ rs))
join-first a b [] = refl
join-first a b (r ∷ rs) = joined-assoc a b (join_all (r ∷ rs))

some-joined : (a : Bounds) (rs : List Range) → bounds_or_zero (joined_all (Some a) rs) ≡ as_bounds (join_all (as_range a ∷ rs))
some-joined a [] = refl
some-joined a (r ∷ rs) = some-joined (join_more (Some a) r) rs ∙ ap as_bounds (join-first (as_range a) r rs)

pub all-joined : (rs : List Range) → bounds_or_zero (joined_all None rs) ≡ as_bounds (join_all rs)
all-joined [] = refl
all-joined (r ∷ rs) = some-joined (as_bounds r) rs

-- what stands in a list is among what is seen of it
pub seen-member : {A B : Type 0} (f : A → B) (xs : List A) (k : ℕ) (x : A) → k < length xs → x ≡ get_or xs k x → Member (f x) (map f xs)
seen-member f [] k x l h = absurd (omega arith)
seen-member f (y ∷ xs) zero x l h = inl (ap f h)
seen-member f (y ∷ xs) (suc k) x l h = inr (seen-member f xs k x (omega arith) h)

-- what is told of a fault
pub fault-told : {A E F : Type 0} (P : F → Type 0) (f : E → F) (r : Result A F) (x : E) → IsErrAnd r (λ e. e ≡ f x) → P (f x) → IfErr r P
fault-told P f (Ok a) x h k = tt
fault-told P f (Err e) x h k = subst P (sym h) k
