-- The first fault of the names that a list of updates assigns is one, and where there is none each variable has one update.
use Rattle.std.proofs.Common.{◌≡◌, ℕ, ◌<◌, ◌≤◌, Bool, true, false, cond, ◌⊎◌, inl, inr, List, [], ◌∷◌, refl, sym, ap, subst, ◌∙◌, Option, Some, None, arith}
use Rattle.std.specs.Prelude.{nat_eq}
use Rattle.std.specs.Option.{option_or}
use Rattle.std.proofs.lemmas.Bool.Decides.{nat_tests}
use Rattle.indexmap.specs.IndexMap.{insert_entry}
use Rattle.cif_system.specs.Words.{Member}
use Rattle.cif_system.proofs.Lists.{some-same, none-some}
use Rattle.cif_scope.specs.declared.scopes.Scopes.{Scopes}
use Rattle.cif_types_targets.specs.declared.error.TargetErr.{TargetErr}
use Rattle.cif_types_targets.specs.declared.error.TargetErr.TheVariants.{NotOwn, AssignedTwice, Memory}
use Rattle.cif_types_targets.specs.Assigned.{AssignedName}
use Rattle.cif_types_targets.specs.Faults.{own_slot, Marked, mark_of, fault_with, mark_fault, marked_with, marked, slot_fault, assigned_fault}
use Rattle.cif_types_targets.proofs.MarkLaws.{number-same, mark-inserted, grows, takes}

pub or-none : {F : Type 0} (o p : Option F) → option_or o p ≡ None → (o ≡ None) × (p ≡ None)
or-none None p h = (refl, h)
or-none (Some d) p h = absurd (none-some d (sym h))

pub or-told : {F : Type 0} (o p : Option F) (e : F) → option_or o p ≡ Some e → (o ≡ Some e) ⊎ (p ≡ Some e)
or-told None p e h = inr h
or-told (Some d) p e h = inl h

-- the numbers of updates do not fall
abbrev pub Rising : List AssignedName → Type 0
Rising [] = Unit {0}
Rising (a ∷ rest) = ((b : AssignedName) → Member b rest → a.update ≤ b.update) × Rising rest

module _ (sc : Scopes) (k : ℕ) where
  -- ---- no fault

  -- the name leads to a slot, and the mark of that is its update
  pub record Fits (ms : Marked) (a : AssignedName) : Type 0 where
    pub slot : ℕ
    pub is : own_slot sc k a.name ≡ Some slot
    pub same : (i : ℕ) → mark_of ms slot ≡ Some i → i ≡ a.update

  record Passes (ms : Marked) (a : AssignedName) (rest : Marked → Option TargetErr) (o : Option ℕ) : Type 0 where
    slot : ℕ
    is : o ≡ Some slot
    first : mark_fault ms slot a ≡ None
    later : rest (marked ms slot a) ≡ None

  passes : (ms : Marked) (a : AssignedName) (rest : Marked → Option TargetErr) (o : Option ℕ) → slot_fault ms a rest o ≡ None → Passes ms a rest o
  passes ms a rest None h = absurd (none-some (NotOwn a.name.at) (sym h))
  passes ms a rest (Some s) h = let both = or-none (mark_fault ms s a) (rest (marked ms s a)) h in record { slot = s; is = refl; first = both.0; later = both.1 }

  abbrev pub Clear : Marked → List AssignedName → Type 0
  Clear ms rest = assigned_fault sc k ms rest ≡ None

  first-passes : (ms : Marked) (a : AssignedName) (rest : List AssignedName) → Clear ms (a ∷ rest) → Passes ms a (λ n. assigned_fault sc k n rest) (own_slot sc k a.name)
  first-passes ms a rest h = passes ms a (λ n. assigned_fault sc k n rest) (own_slot sc k a.name) h

  first-fits : (ms : Marked) (a : AssignedName) (rest : Marked → Option TargetErr) → Passes ms a rest (own_slot sc k a.name) → Fits ms a
  first-fits ms a rest p = record {
    slot = p.slot;
    is = p.is;
    same = λ i e. some-same i a.update (sym (grows ms p.slot a p.slot i e) ∙ takes ms p.slot a p.first);
  }

  pub all-fit : (rest : List AssignedName) (ms : Marked) (b : AssignedName) → Clear ms rest → Member b rest → Fits ms b
  all-fit [] ms b h m = absurd m
  all-fit (a ∷ rest) ms b h m =
      let p = first-passes ms a rest h in
      elim m [
        | inl w ↦ subst (Fits ms) (sym w) (first-fits ms a (λ n. assigned_fault sc k n rest) p)
        | inr w ↦ let f = all-fit rest (marked ms p.slot a) b p.later w in record { slot = f.slot; is = f.is; same = λ i e. f.same i (grows ms p.slot a f.slot i e) }
      ]

  -- those of one slot are in one update
  across : (rest : List AssignedName) (ms : Marked) (a b : AssignedName) (s : ℕ) → Clear ms (a ∷ rest) → Member b rest → own_slot sc k a.name ≡ Some s → own_slot sc k b.name ≡ Some s → a.update ≡ b.update
  across rest ms a b s h m f g =
      let p = first-passes ms a rest h in
      let q = all-fit rest (marked ms p.slot a) b p.later m in
      let one : p.slot ≡ q.slot = some-same p.slot q.slot (sym p.is ∙ f ∙ sym g ∙ q.is) in
      q.same a.update (subst (λ r. mark_of (marked ms p.slot a) r ≡ Some a.update) one (takes ms p.slot a p.first))

  pub pairs : (rest : List AssignedName) (ms : Marked) (a b : AssignedName) (s : ℕ) → Clear ms rest → Member a rest → Member b rest → own_slot sc k a.name ≡ Some s → own_slot sc k b.name ≡ Some s → a.update ≡ b.update
  pairs [] ms a b s h m n f g = absurd m
  pairs (x ∷ rest) ms a b s h m n f g =
      elim m [
        | inl w ↦ elim n [
          | inl v ↦ ap (λ (y : AssignedName). y.update) (w ∙ sym v)
          | inr v ↦ ap (λ (y : AssignedName). y.update) w ∙ across rest ms x b s h v (ap (λ (y : AssignedName). own_slot sc k y.name) (sym w) ∙ f) g
        ]
        | inr w ↦ elim n [
          | inl v ↦ sym (ap (λ (y : AssignedName). y.update) v ∙ across rest ms x a s h w (ap (λ (y : AssignedName). own_slot sc k y.name) (sym v) ∙ g) f)
          | inr v ↦ let p = first-passes ms x rest h in pairs rest (marked ms p.slot x) a b s p.later w v f g
        ]
      ]

  -- ---- a fault

  -- two names of one slot, in different updates
  pub record Twice (all : List AssignedName) (at : ℕ) : Type 0 where
    pub earlier : AssignedName
    pub later : AssignedName
    pub earlier_in : Member earlier all
    pub later_in : Member later all
    pub less : earlier.update < later.update
    pub slot : ℕ
    pub earlier_is : own_slot sc k earlier.name ≡ Some slot
    pub later_is : own_slot sc k later.name ≡ Some slot
    pub later_at : later.name.at ≡ at

  -- a name that leads to no slot
  pub record Strays (all : List AssignedName) (at : ℕ) : Type 0 where
    pub stray : AssignedName
    pub inside : Member stray all
    pub is : own_slot sc k stray.name ≡ None
    pub here : stray.name.at ≡ at

  abbrev pub Breaks : List AssignedName → TargetErr → Type 0
  Breaks all (NotOwn at) = Strays all at
  Breaks all (AssignedTwice at) = Twice all at
  Breaks all Memory = Unit {0}

  -- the marks are of names that come before these
  pub record Noted (all rest : List AssignedName) (s i : ℕ) : Type 0 where
    pub name : AssignedName
    pub inside : Member name all
    pub is : own_slot sc k name.name ≡ Some s
    pub number : name.update ≡ i
    pub least : (b : AssignedName) → Member b rest → i ≤ b.update

  abbrev pub Sound : List AssignedName → List AssignedName → Marked → Type 0
  Sound all rest ms = (s i : ℕ) → mark_of ms s ≡ Some i → Noted all rest s i

  sound-rest : (all rest : List AssignedName) (a : AssignedName) (ms : Marked) → Sound all (a ∷ rest) ms → Sound all rest ms
  sound-rest all rest a ms h s i e = let n = h s i e in record { name = n.name; inside = n.inside; is = n.is; number = n.number; least = λ b m. n.least b (inr m) }

  sound-more : (all rest : List AssignedName) (a : AssignedName) (ms : Marked) (s : ℕ) → Sound all rest ms → Member a all → own_slot sc k a.name ≡ Some s → ((b : AssignedName) → Member b rest → a.update ≤ b.update)
      → Sound all rest (insert_entry nat_eq ms s a.update)
  sound-more all rest a ms s h m e least r i f = go (nat_eq r s) refl (sym (mark-inserted r s a.update ms) ∙ f)
    where
      go : (b : Bool) → nat_eq r s ≡ b → cond b (Some a.update) (mark_of ms r) ≡ Some i → Noted all rest r i
      go false g t = h r i t
      go true g t =
          let number = some-same a.update i t in
          record { name = a; inside = m; is = e ∙ ap Some (sym (number-same r s g)); number = number; least = λ b n. subst (λ z. z ≤ b.update) number (least b n) }

  abbrev pub Within : List AssignedName → List AssignedName → Type 0
  Within all rest = (b : AssignedName) → Member b rest → Member b all

  differ : (i j : ℕ) → nat_eq i j ≡ false → i ≤ j → i < j
  differ i j h l = grind (arith, nat_tests)

  -- the name at hand is marked with another update
  twice-told : (all rest : List AssignedName) (a : AssignedName) (ms : Marked) (s i : ℕ) (e : TargetErr) → Member a all → own_slot sc k a.name ≡ Some s → Noted all (a ∷ rest) s i → nat_eq i a.update ≡ false
      → AssignedTwice a.name.at ≡ e → Breaks all e
  twice-told all rest a ms s i e m own n other is = subst (Breaks all) is (record {
    earlier = n.name;
    later = a;
    earlier_in = n.inside;
    later_in = m;
    less = subst (λ z. z < a.update) (sym n.number) (differ i a.update other (n.least a (inl refl)));
    slot = s;
    earlier_is = n.is;
    later_is = own;
    later_at = refl;
  })

  pub told : (all rest : List AssignedName) (ms : Marked) (e : TargetErr) → Within all rest → Rising rest → Sound all rest ms → assigned_fault sc k ms rest ≡ Some e → Breaks all e
  told all [] ms e w r h t = absurd (none-some e t)
  told all (a ∷ rest) ms e w r h t = go (own_slot sc k a.name) refl t (λ n sound. told all rest n e (λ b m. w b (inr m)) r.1 sound)
    where
      further : (s : ℕ) → own_slot sc k a.name ≡ Some s → (o : Option ℕ) → mark_of ms s ≡ o → option_or (fault_with a o) (assigned_fault sc k (marked_with ms s a o) rest) ≡ Some e
          → ((n : Marked) → Sound all rest n → assigned_fault sc k n rest ≡ Some e → Breaks all e) → Breaks all e
      further s own None m g ih = ih (insert_entry nat_eq ms s a.update) (sound-more all rest a ms s (sound-rest all rest a ms h) (w a (inl refl)) own r.0) g
      further s own (Some i) m g ih = cases (nat_eq i a.update) refl g
        where
          cases : (b : Bool) → nat_eq i a.update ≡ b → option_or (cond b None (Some (AssignedTwice a.name.at))) (assigned_fault sc k ms rest) ≡ Some e → Breaks all e
          cases true p q = ih ms (sound-rest all rest a ms h) q
          cases false p q = twice-told all rest a ms s i e (w a (inl refl)) own (h s i m) p (some-same (AssignedTwice a.name.at) e q)

      go : (o : Option ℕ) → own_slot sc k a.name ≡ o → slot_fault ms a (λ n. assigned_fault sc k n rest) o ≡ Some e → ((n : Marked) → Sound all rest n → assigned_fault sc k n rest ≡ Some e → Breaks all e) → Breaks all e
      go None own g ih = subst (Breaks all) (some-same (NotOwn a.name.at) e g) (record { stray = a; inside = w a (inl refl); is = own; here = refl })
      go (Some s) own g ih = further s own (mark_of ms s) refl g ih
