-- Lists of events by number, to one of which an event is added.
use Rattle.std.proofs.Common.{◌≡◌, ℕ, zero, suc, ◌<◌, ◌≢◌, ◌⊎◌, inl, inr, Bool, true, false, ◌||◌, List, [], ◌∷◌, ◌++◌, length, map, nat_eq, Some, refl, sym, ap, ◌∙◌, arith}
use Rattle.std.specs.Prelude.{slice_get, slice_set, unwrap_or}
use Rattle.std.specs.List.{AllByRecursion, list_any}
use Rattle.std.proofs.lemmas.Bool.Decides.{eqb_tells, nat_tests}
use Rattle.cif_net_model.specs.Reads.{Read, a_var, an_input, an_alg, a_place, the_received}
use Rattle.cif_sim.specs.Names.{name_read}
use Rattle.cif_sim.specs.Readers.{IsReadAt, Keeps, KeepsLists, is_listed, list_at}
use Rattle.cif_sim.specs.declared.names.Name.{Name}
use Rattle.cif_sim.specs.declared.readers.Readers.{Readers}

pub all-change : {A : Type 0} (P Q : A → Type 0) (xs : List A) → ((x : A) → P x → Q x) → AllByRecursion P xs → AllByRecursion Q xs
all-change P Q [] f h = tt
all-change P Q (x ∷ xs) f h = (f x h.0, all-change P Q xs f h.1)

or-left : (a b : Bool) → a ≡ true → (a || b) ≡ true
or-left a b h = cc

or-cases : (a b : Bool) → (a || b) ≡ true → (a ≡ true) ⊎ (b ≡ true)
or-cases true b h = inl refl
or-cases false b h = inr h

or-right : (a b : Bool) → b ≡ true → (a || b) ≡ true
or-right true b h = refl
or-right false b h = h

-- ---- one list

pub any-last : (p : ℕ → Bool) (xs : List ℕ) (y : ℕ) → p y ≡ true → list_any p (xs ++ y ∷ []) ≡ true
any-last p [] y h = or-left (p y) false h
any-last p (x ∷ xs) y h = or-right (p x) (list_any p (xs ++ y ∷ [])) (any-last p xs y h)

pub any-more : (p : ℕ → Bool) (xs ys : List ℕ) → list_any p xs ≡ true → list_any p (xs ++ ys) ≡ true
any-more p [] ys h = absurd cc
any-more p (x ∷ xs) ys h =
    elim (or-cases (p x) (list_any p xs) h) [
      | inl g ↦ or-left (p x) (list_any p (xs ++ ys)) g
      | inr g ↦ or-right (p x) (list_any p (xs ++ ys)) (any-more p xs ys g)
    ]

pub self-eq : (e : ℕ) → nat_eq e e ≡ true
self-eq e = grind (arith, nat_tests)

-- ---- lists by number

pub reach-one : (xs : List (List ℕ)) (k : ℕ) → list_at (xs ++ [] ∷ []) k ≡ list_at xs k
reach-one [] zero = refl
reach-one [] (suc k) = refl
reach-one (x ∷ xs) zero = refl
reach-one (x ∷ xs) (suc k) = reach-one xs k

changed-here : (xs : List (List ℕ)) (at : ℕ) (a b : List ℕ) → at < length xs → list_at (slice_set (slice_set xs at a) at b) at ≡ b
changed-here [] at a b h = absurd (omega (arith, h))
changed-here (x ∷ xs) zero a b h = refl
changed-here (x ∷ xs) (suc at) a b h = changed-here xs at a b (omega (arith, h))

changed-other : (xs : List (List ℕ)) (at k : ℕ) (a b : List ℕ) → (k ≡ at → ⊥) → list_at (slice_set (slice_set xs at a) at b) k ≡ list_at xs k
changed-other [] at k a b h = refl
changed-other (x ∷ xs) zero zero a b h = absurd (h refl)
changed-other (x ∷ xs) zero (suc k) a b h = refl
changed-other (x ∷ xs) (suc at) zero a b h = refl
changed-other (x ∷ xs) (suc at) (suc k) a b h = changed-other xs at k a b (λ e. h (ap suc e))

module _ (old reached new : List (List ℕ)) (at event : ℕ) (was more : List ℕ) (same : (k : ℕ) → list_at reached k ≡ list_at old k) (long : at < length reached) (here : slice_get reached at ≡ Some was)
    (is : new ≡ slice_set (slice_set reached at []) at more) where
  new-here : list_at new at ≡ more
  new-here = ap (λ xs. list_at xs at) is ∙ changed-here reached at [] more long

  pub listed-at : list_any (nat_eq event) more ≡ true → is_listed new at event ≡ true
  listed-at h = ap (list_any (nat_eq event)) new-here ∙ h

  pub lists-kept : ((e : ℕ) → list_any (nat_eq e) was ≡ true → list_any (nat_eq e) more ≡ true) → KeepsLists old new
  lists-kept kept k e h = go (eqb_tells k at)
    where
      go : ((nat_eq k at ≡ true) × (k ≡ at)) ⊎ ((nat_eq k at ≡ false) × (k ≢ at)) → is_listed new k e ≡ true
      go (inl q) =
          let before : list_any (nat_eq e) was ≡ true = ap (λ l. list_any (nat_eq e) l) (ap (λ o. unwrap_or o []) (sym here) ∙ same at ∙ ap (list_at old) (sym q.1)) ∙ h in
          ap (λ j. is_listed new j e) q.1 ∙ ap (list_any (nat_eq e)) new-here ∙ kept e before
      go (inr q) = ap (list_any (nat_eq e)) (ap (λ xs. list_at xs k) is ∙ changed-other reached at k [] more q.1 ∙ same k) ∙ h

-- ---- readers

pub lists-stay : (xs : List (List ℕ)) → KeepsLists xs xs
lists-stay xs k e h = h

pub keep : (old new : Readers) → KeepsLists old.vars new.vars → KeepsLists old.inputs new.inputs → KeepsLists old.places new.places → Keeps old new
keep old new f g h (a_var k) e is = f k e is
keep old new f g h (an_input k) e is = g k e is
keep old new f g h (an_alg k) e is = refl
keep old new f g h (a_place k) e is = h k e is
keep old new f g h the_received e is = refl

pub kept-all : (old new : Readers) (e : ℕ) (names : List Read) → Keeps old new → AllByRecursion (IsReadAt old e) names → AllByRecursion (IsReadAt new e) names
kept-all old new e names kept h = all-change (IsReadAt old e) (IsReadAt new e) names (λ x is. kept x e is) h

pub all-at : (t : Readers) (e : ℕ) (names : List Name) → ((k : ℕ) (x : Name) → slice_get names k ≡ Some x → IsReadAt t e (name_read x)) → AllByRecursion (IsReadAt t e) (map name_read names)
all-at t e [] h = tt
all-at t e (x ∷ names) h = (h 0 x refl, all-at t e names (λ k y at. h (suc k) y at))
