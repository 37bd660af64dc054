-- The place of the first name in a list that a test finds.
use Rattle.std.proofs.Common.{◌≡◌, ℕ, zero, suc, Bool, true, false, cond, ◌⊎◌, inl, inr, List, [], ◌∷◌, ◌++◌, refl, sym, ap, ◌∙◌, Option, Some, None, find}
use Rattle.std.specs.Prelude.{slice_get, option_map, if◌then◌else◌}
use Rattle.std.specs.Option.{option_or}
use Rattle.std.proofs.lemmas.List.Folds.{find-append}
use Rattle.cif_system.proofs.Lists.{some-same, none-some, find-passes, find-none}
use Rattle.cif_system.proofs.Picks.{at-member}
use Rattle.cif_ast.specs.declared.names.Name.{Name}

-- ---- one or the other

pub or-three : {A : Type 0} (o p q : Option A) → option_or (option_or o p) q ≡ option_or o (option_or p q)
or-three None p q = refl
or-three (Some x) p q = refl

pub or-told : {A : Type 0} (o p : Option A) (e : A) → option_or o p ≡ Some e → (o ≡ Some e) ⊎ (p ≡ Some e)
or-told None p e h = inr h
or-told (Some d) p e h = inl h

pub or-none : {A : Type 0} (o p : Option A) → option_or o p ≡ None → (o ≡ None) × (p ≡ None)
or-none None p h = (refl, h)
or-none (Some d) p h = absurd (none-some d (sym h))

-- ---- the first name

abbrev pub place_of : Name → ℕ
place_of nm = nm.at

abbrev pub first_place : (Name → Bool) → List Name → Option ℕ
first_place wrong nms = option_map place_of (find wrong nms)

map-or : (o p : Option Name) → option_map place_of (option_or o p) ≡ option_or (option_map place_of o) (option_map place_of p)
map-or None p = refl
map-or (Some x) p = refl

module _ (wrong : Name → Bool) where
  first-append : (xs ys : List Name) → first_place wrong (xs ++ ys) ≡ option_or (first_place wrong xs) (first_place wrong ys)
  first-append xs ys = ap (option_map place_of) (find-append wrong xs ys) ∙ map-or (find wrong xs) (find wrong ys)

  pub first-both : (o p : Option ℕ) (xs ys : List Name) → o ≡ first_place wrong xs → p ≡ first_place wrong ys → option_or o p ≡ first_place wrong (xs ++ ys)
  first-both o p xs ys h g = ap (λ u. option_or u p) h ∙ ap (option_or (first_place wrong xs)) g ∙ sym (first-append xs ys)

  pub first-one : (nm : Name) → (if wrong nm then Some nm.at else None) ≡ first_place wrong (nm ∷ [])
  first-one nm = go (wrong nm)
    where
      go : (b : Bool) → (if b then Some nm.at else None) ≡ option_map place_of (cond b (Some nm) None)
      go true = refl
      go false = refl

  -- the place of a wrong name in the list
  found-at : (nms : List Name) (nm : Name) → find wrong nms ≡ Some nm → (k : ℕ) × (slice_get nms k ≡ Some nm)
  found-at [] nm h = absurd (none-some nm h)
  found-at (x ∷ xs) nm h = go (wrong x) h (λ g. found-at xs nm g)
    where
      go : (b : Bool) → cond b (Some x) (find wrong xs) ≡ Some nm → (find wrong xs ≡ Some nm → (k : ℕ) × (slice_get xs k ≡ Some nm)) → (k : ℕ) × (slice_get (x ∷ xs) k ≡ Some nm)
      go true g more = (zero, g)
      go false g more = let w = more g in (suc w.0, w.1)

  pub first-told : (nms : List Name) (at : ℕ) → first_place wrong nms ≡ Some at → (k : ℕ) × (nm : Name) × (slice_get nms k ≡ Some nm) × (nm.at ≡ at) × (wrong nm ≡ true)
  first-told nms at h = go (find wrong nms) refl h
    where
      go : (o : Option Name) → find wrong nms ≡ o → option_map place_of o ≡ Some at → (k : ℕ) × (nm : Name) × (slice_get nms k ≡ Some nm) × (nm.at ≡ at) × (wrong nm ≡ true)
      go None e g = absurd (none-some at g)
      go (Some nm) e g = let w = found-at nms nm e in (w.0, nm, w.1, some-same nm.at at g, find-passes wrong nms nm e)

  pub first-none : (nms : List Name) → first_place wrong nms ≡ None → (k : ℕ) (nm : Name) → slice_get nms k ≡ Some nm → wrong nm ≡ true → ⊥
  first-none nms h k nm e g = find-none wrong nms nm (go (find wrong nms) h) (at-member nms k nm e) g
    where
      go : (o : Option Name) → option_map place_of o ≡ None → o ≡ None
      go None g = refl
      go (Some x) g = absurd (none-some x.at (sym g))
