-- What the marks say after one more.
use Rattle.std.proofs.Common.{◌≡◌, ℕ, Bool, true, false, cond, [], ◌∷◌, refl, sym, ap, ◌∙◌, Option, Some, None, arith}
use Rattle.std.specs.Prelude.{nat_eq}
use Rattle.std.proofs.lemmas.Bool.Decides.{nat_tests}
use Rattle.indexmap.specs.IndexMap.{insert_entry}
use Rattle.cif_system.proofs.Lists.{none-some}
use Rattle.cif_types_targets.specs.Assigned.{AssignedName}
use Rattle.cif_types_targets.specs.declared.error.TargetErr.{TargetErr}
use Rattle.cif_types_targets.specs.declared.error.TargetErr.TheVariants.{AssignedTwice}
use Rattle.cif_types_targets.specs.Faults.{Marked, mark_of, fault_with, mark_fault, marked_with, marked}

pub number-same : (a b : ℕ) → nat_eq a b ≡ true → a ≡ b
number-same a b h = grind (arith, nat_tests)

pub number-self : (a : ℕ) → nat_eq a a ≡ true
number-self a = grind (arith, nat_tests)

flip : (a b : ℕ) → nat_eq a b ≡ nat_eq b a
flip a b = go (nat_eq a b) refl (nat_eq b a) refl
  where
    go : (p : Bool) → nat_eq a b ≡ p → (q : Bool) → nat_eq b a ≡ q → p ≡ q
    go true e true f = refl
    go true e false f = absurd (grind (arith, nat_tests))
    go false e true f = absurd (grind (arith, nat_tests))
    go false e false f = refl

module _ (r s i : ℕ) where
  taken : (v : ℕ) (o : Option ℕ) (b : Bool) → cond b (Some i) o ≡ cond b (Some i) (cond b (Some v) o)
  taken v o true = refl
  taken v o false = refl

  step : (e : ℕ × ℕ) (es : Marked) (a : Bool) → nat_eq s e.0 ≡ a → (b : Bool) → nat_eq r e.0 ≡ b → mark_of (insert_entry nat_eq es s i) r ≡ cond (nat_eq r s) (Some i) (mark_of es r)
      → mark_of (cond a ((e.0, i) ∷ es) (e ∷ insert_entry nat_eq es s i)) r ≡ cond (nat_eq r s) (Some i) (mark_of (e ∷ es) r)
  step e es true p b q h =
      let same : nat_eq r e.0 ≡ nat_eq r s = ap (nat_eq r) (sym (number-same s e.0 p)) in
      ap (λ c. cond c (Some i) (mark_of es r)) same ∙ taken e.1 (mark_of es r) (nat_eq r s) ∙ ap (λ c. cond (nat_eq r s) (Some i) (cond c (Some e.1) (mark_of es r))) (sym same)
  step e es false p true q h =
      let other : nat_eq r s ≡ false = flip r s ∙ ap (nat_eq s) (number-same r e.0 q) ∙ p in
      ap (λ c. cond c (Some e.1) (mark_of (insert_entry nat_eq es s i) r)) q
      ∙ sym (ap (λ c. cond c (Some i) (mark_of (e ∷ es) r)) other ∙ ap (λ c. cond c (Some e.1) (mark_of es r)) q)
  step e es false p false q h =
      ap (λ c. cond c (Some e.1) (mark_of (insert_entry nat_eq es s i) r)) q ∙ h ∙ sym (ap (λ c. cond (nat_eq r s) (Some i) (cond c (Some e.1) (mark_of es r))) q)

  -- one slot is marked, and another one keeps what it had
  pub mark-inserted : (ms : Marked) → mark_of (insert_entry nat_eq ms s i) r ≡ cond (nat_eq r s) (Some i) (mark_of ms r)
  mark-inserted [] = refl
  mark-inserted (e ∷ es) = step e es (nat_eq s e.0) refl (nat_eq r e.0) refl (mark-inserted es)

module _ (ms : Marked) (s : ℕ) (a : AssignedName) where
  -- a mark stays
  pub grows : (r i : ℕ) → mark_of ms r ≡ Some i → mark_of (marked ms s a) r ≡ Some i
  grows r i h = go (mark_of ms s) refl
    where
      other : (b : Bool) → nat_eq r s ≡ b → mark_of ms s ≡ None → cond b (Some a.update) (mark_of ms r) ≡ Some i
      other true e n = absurd (none-some i (sym n ∙ ap (mark_of ms) (sym (number-same r s e)) ∙ h))
      other false e n = h

      go : (o : Option ℕ) → mark_of ms s ≡ o → mark_of (marked_with ms s a o) r ≡ Some i
      go None e = mark-inserted r s a.update ms ∙ other (nat_eq r s) refl e
      go (Some j) e = h

  -- without a fault the slot has the number of the update
  pub takes : mark_fault ms s a ≡ None → mark_of (marked ms s a) s ≡ Some a.update
  takes h = go (mark_of ms s) refl h
    where
      same : (b : Bool) (i : ℕ) → nat_eq i a.update ≡ b → let r : Option TargetErr = cond b None (Some (AssignedTwice a.name.at)) in r ≡ None → i ≡ a.update
      same true i e g = number-same i a.update e
      same false i e g = absurd (none-some (AssignedTwice a.name.at) (sym g))

      go : (o : Option ℕ) → mark_of ms s ≡ o → fault_with a o ≡ None → mark_of (marked_with ms s a o) s ≡ Some a.update
      go None e g = mark-inserted s s a.update ms ∙ ap (λ b. cond b (Some a.update) (mark_of ms s)) (number-self s)
      go (Some i) e g = e ∙ ap Some (same (nat_eq i a.update) i refl g)
