-- Places among those of a set.
use Rattle.std.proofs.Common.{◌≡◌, ℕ, suc, ◌+◌, Bool, true, false, cond, not, List, [], ◌∷◌, ◌++◌, length, refl, sym, ap, ◌∙◌, arith, Option, Some, None, inl, nat_eq}
use Rattle.std.specs.Prelude.{nat_lt, position, option_map}
use Rattle.std.specs.List.{list_any, position_or_len}
use Rattle.std.proofs.lemmas.Bool.Decides.{nat_tests}
use Rattle.cif_system.specs.Words.{AreDistinct}
use Rattle.cif_system.proofs.Picks.{and-left, and-right, append-right}
use Rattle.cif_inst_components.specs.declared.components.Place.{Place}
use Rattle.cif_inst_components.specs.Children.{same_place, place_in}
use Rattle.cif_inst_components.specs.Listing.{place}

suc-plus : (m n : ℕ) → nat_lt (1 + m) (suc n) ≡ nat_lt m n
suc-plus m n = grind arith

pub position-is : (p : Place) (qs : List Place) → position (λ q. same_place p q) qs ≡ place_in qs p
position-is p [] = refl
position-is p (q ∷ qs) = go (same_place p q) (position-is p qs)
  where
    far : (m n : ℕ) → cond (nat_lt (1 + m) (suc n)) (Some (1 + m)) None ≡ option_map suc (cond (nat_lt m n) (Some m) None)
    far m n = ap (λ b. cond b (Some (1 + m)) None) (suc-plus m n) ∙ cases (nat_lt m n)
      where
        cases : (b : Bool) → cond b (Some (1 + m)) None ≡ option_map suc (cond b (Some m) None)
        cases true = ap Some (omega arith)
        cases false = refl

    go : (b : Bool) → position (λ r. same_place p r) qs ≡ place_in qs p
        → cond (nat_lt (cond (not b) (1 + position_or_len (λ r. same_place p r) qs) 0) (suc (length qs))) (Some (cond (not b) (1 + position_or_len (λ r. same_place p r) qs) 0)) None
        ≡ cond b (Some 0) (option_map suc (place_in qs p))
    go true ih = let low : nat_lt 0 (suc (length qs)) ≡ true = grind arith in ap (λ b. cond b (Some 0) None) low
    go false ih = far (position_or_len (λ r. same_place p r) qs) (length qs) ∙ ap (option_map suc) ih

none-map : (o : Option ℕ) → option_map suc o ≡ None → o ≡ None
none-map None h = refl
none-map (Some k) h = absurd cc

pub none-any : (p : Place) (qs : List Place) → place_in qs p ≡ None → list_any (λ q. same_place p q) qs ≡ false
none-any p [] h = refl
none-any p (q ∷ qs) h = go (same_place p q) refl h (none-any p qs)
  where
    go : (b : Bool) → same_place p q ≡ b → cond b (Some 0) (option_map suc (place_in qs p)) ≡ None → (place_in qs p ≡ None → list_any (λ r. same_place p r) qs ≡ false)
        → list_any (λ r. same_place p r) (q ∷ qs) ≡ false
    go true e h ih = absurd cc
    go false e h ih = rw e (ih (none-map (place_in qs p) h))

pub added-is : (p : Place) (qs new : List Place) → new ≡ cond (list_any (λ q. same_place p q) qs) qs (qs ++ p ∷ []) → place_in qs p ≡ None → new ≡ qs ++ p ∷ []
added-is p qs new e h = e ∙ ap (λ b. cond b qs (qs ++ p ∷ [])) (none-any p qs h)

-- ---- where a place stands

equal-tested : (p q : Place) → same_place p q ≡ true → p ≡ q
equal-tested p q h =
    let c : p.component ≡ q.component = numbers p.component q.component (and-left (nat_eq p.component q.component) (nat_eq p.slot q.slot) h) in
    let s : p.slot ≡ q.slot = numbers p.slot q.slot (and-right (nat_eq p.component q.component) (nat_eq p.slot q.slot) h) in
    ap (λ a. place a p.slot) c ∙ ap (λ b. place q.component b) s
  where
    numbers : (m n : ℕ) → nat_eq m n ≡ true → m ≡ n
    numbers m n h = grind (arith, nat_tests)

-- a place is not found among those before it
pub found-none : (qs rs : List Place) (p : Place) → AreDistinct (qs ++ p ∷ rs) → place_in qs p ≡ None
found-none [] rs p d = refl
found-none (q ∷ qs) rs p d = go (same_place p q) refl (found-none qs rs p d.1)
  where
    go : (b : Bool) → same_place p q ≡ b → place_in qs p ≡ None → cond b (Some 0) (option_map suc (place_in qs p)) ≡ None
    go true e ih = let same : p ≡ q = equal-tested p q e in absurd (d.0 (append-right q qs (p ∷ rs) (inl (sym same))))
    go false e ih = ap (option_map suc) ih
