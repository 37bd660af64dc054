-- The statements before an expression leave each variable in its type.
use Rattle.std.proofs.Common.{◌≡◌, ℕ, zero, suc, ◌+◌, ◌<◌, ◌≤◌, ℤ, pos, Bool, true, false, List, [], ◌∷◌, ◌++◌, length, Some, refl, sym, ap, subst, ◌∙◌, arith, nat_eq, eqb-true, ◌&&◌}
use Rattle.std.specs.Prelude.{IsTrue, nat_le, nat_lt, slice_get}
use Rattle.std.proofs.lemmas.Bool.{eqb-false}
use Rattle.std.proofs.lemmas.Bool.Decides.{nat_tests}
use Rattle.std.proofs.lemmas.Option.{get_or_from_slice_get}
use Rattle.cif_system.specs.System.{in_range}
use Rattle.cif_system.proofs.Lists.{none-some, some-same}
use Rattle.st_ast.specs.Names.{place_of}
use Rattle.st_ast.specs.Values.{Memory}
use Rattle.st_ast.specs.declared.tree.StVar.{StVar}
use Rattle.st_ast.specs.declared.tree.StTy.{StTy}
use Rattle.plc_model.specs.Face.{IsDeclared, range_of}
use Rattle.plc_model.proofs.FaceLaws.{Typed, declared-of, pairwise-length}
use Rattle.plc_expr.specs.Texts.{Naming}
use Rattle.plc_expr.specs.Held.{held_at, IsBeside}

-- the own variables from the k-th on hold numbers of these types
abbrev pub HoldTypes : List StVar → Naming → Memory → ℕ → List StTy → Type 0
HoldTypes vars w m k [] = Unit {0}
HoldTypes vars w m k (t ∷ ts) = IsTrue (in_range (range_of t) (held_at vars m (w.own k))) × HoldTypes vars w m (k + 1) ts

typed-from : (vars : List StVar) (m : Memory) → length vars ≡ length m → ((j : ℕ) (v : StVar) (z : ℤ) → slice_get vars j ≡ Some v → slice_get m j ≡ Some z → IsTrue (in_range (range_of v.ty) z)) → Typed vars m
typed-from [] [] long each = tt
typed-from [] (z ∷ m) long each = absurd (omega (arith, long))
typed-from (v ∷ vars) [] long each = absurd (omega (arith, long))
typed-from (v ∷ vars) (z ∷ m) long each = (each 0 v z refl refl, typed-from vars m (omega (arith, long)) (λ j. each (suc j)))

typed-at : (vars : List StVar) (m : Memory) → Typed vars m → (j : ℕ) (v : StVar) (z : ℤ) → slice_get vars j ≡ Some v → slice_get m j ≡ Some z → IsTrue (in_range (range_of v.ty) z)
typed-at [] m typed j v z at is = absurd (none-some v at)
typed-at (u ∷ vars) [] typed j v z at is = absurd (none-some z is)
typed-at (u ∷ vars) (q ∷ m) typed zero v z at is =
    subst (λ (a : StVar). IsTrue (in_range (range_of a.ty) z)) (some-same u v at) (subst (λ b. IsTrue (in_range (range_of u.ty) b)) (some-same q z is) typed.0)
typed-at (u ∷ vars) (q ∷ m) typed (suc j) v z at is = typed-at vars m typed.1 j v z at is

module _ (vars : List StVar) (w : Naming) (base : ℕ) where
  -- the own variables from the k-th on are declared with these types, one after another
  abbrev pub Declares : ℕ → List StTy → Type 0
  Declares k [] = Unit {0}
  Declares k (t ∷ ts) = (IsDeclared vars (w.own k) t × (place_of vars (w.own k) ≡ base + k)) × Declares (k + 1) ts

  pub declares-parts : (k : ℕ) (ts us : List StTy) → Declares k (ts ++ us) → Declares k ts × Declares (k + length ts) us
  declares-parts k [] us d = (tt, subst (λ i. Declares i us) (omega arith) d)
  declares-parts k (t ∷ ts) us d = let r = declares-parts (k + 1) ts us d.1 in ((d.0, r.0), subst (λ i. Declares i us) (omega arith) r.1)

  module _ (m : Memory) where
    -- what stands at the place of one of them
    holds-at : (k : ℕ) (ts : List StTy) → Declares k ts → HoldTypes vars w m k ts → (j : ℕ) (v : StVar) (z : ℤ) → base + k ≤ j → j < base + k + length ts → slice_get vars j ≡ Some v → slice_get m j ≡ Some z
        → IsTrue (in_range (range_of v.ty) z)
    holds-at k [] d h j v z low high at is = absurd (omega (arith, low, high))
    holds-at k (t ∷ ts) d h j v z low high at is = go (nat_eq j (base + k)) refl (λ more. holds-at (k + 1) ts d.1 h.1 j v z (omega (arith, more)) (omega (arith, high)) at is)
      where
        go : (b : Bool) → nat_eq j (base + k) ≡ b → (base + k + 1 ≤ j → IsTrue (in_range (range_of v.ty) z)) → IsTrue (in_range (range_of v.ty) z)
        go true e rest =
            let same : j ≡ place_of vars (w.own k) = eqb-true j (base + k) e ∙ sym d.0.1 in
            let q = declared-of vars (w.own k) t d.0.0 in
            let one : q.variable ≡ v = some-same q.variable v (sym q.at ∙ ap (slice_get vars) (sym same) ∙ at) in
            let value : held_at vars m (w.own k) ≡ z = get_or_from_slice_get m (place_of vars (w.own k)) z (pos 0) (ap (slice_get m) (sym same) ∙ is) in
            subst (λ (a : StVar). IsTrue (in_range (range_of a.ty) z)) one (subst (λ u. IsTrue (in_range (range_of u) z)) (sym q.type_is) (subst (λ b. IsTrue (in_range (range_of t) b)) value h.0))
        go false e rest = let apart = eqb-false j (base + k) e in rest (grind (arith, apart, low))

    pub typed-beside : (k c : ℕ) (ts : List StTy) (m0 : Memory) → length ts ≡ c → Typed vars m0 → IsBeside (base + k) c m0 m → Declares k ts → HoldTypes vars w m k ts → Typed vars m
    typed-beside k c ts m0 long typed beside d h =
        typed-from vars m (pairwise-length (λ (v : StVar) z. IsTrue (in_range (range_of v.ty) z)) vars m0 typed ∙ sym beside.same_length)
        (λ j v z at is. go j v z at is (nat_le (base + k) j && nat_lt j (base + k + c)) refl)
      where
        go : (j : ℕ) (v : StVar) (z : ℤ) → slice_get vars j ≡ Some v → slice_get m j ≡ Some z → (b : Bool) → (nat_le (base + k) j && nat_lt j (base + k + c)) ≡ b → IsTrue (in_range (range_of v.ty) z)
        go j v z at is true e = holds-at k ts d h j v z (grind (arith, nat_tests)) (grind (arith, nat_tests)) at is
        go j v z at is false e = typed-at vars m0 typed j v z at (sym (beside.others j (λ low. grind (arith, nat_tests))) ∙ is)
