-- The choices of a guarded net that pass are those that agree with the event.
use Rattle.std.proofs.Common.{◌≡◌, ℕ, zero, suc, ◌<◌, Bool, true, false, List, [], ◌∷◌, length, map, Some, None, refl, sym, ap, subst, ◌∙◌, eqb-true}
use Rattle.std.specs.Prelude.{slice_get, ◌&&◌, nat_eq}
use Rattle.std.specs.List.{list_all, list_any, range_with_len}
use Rattle.cif_system.specs.System.{State}
use Rattle.cif_system.specs.Step.{Choice, agrees}
use Rattle.cif_system.specs.Choices.{choices}
use Rattle.cif_system.specs.Words.{Member}
use Rattle.cif_system.proofs.Distinct.{member-flat_map, member-map}
use Rattle.cif_system.proofs.Lists.{some-same}
use Rattle.cif_system.proofs.Picks.{at-member, map-at}
use Rattle.cif_net_model.specs.Listing.{NetChoice, full_choice, guarded_choice, guarded_of, listed}
use Rattle.cif_net_model.specs.Meaning.{system_of_net}
use Rattle.cif_net_model.specs.Net.{Net}
use Rattle.cif_net_model.specs.Rules.{is_plain}
use Rattle.cif_net_model.specs.Table.{agrees_in}
use Rattle.cif_net_model.proofs.Passing.{and-right}
use Rattle.cif_net_model.specs.Safe.{Setting}
use Rattle.cif_net_laws.proofs.Picked.{picked}
use Rattle.cif_net_laws.proofs.Sound.{net-of}
use Rattle.cif_net_laws.proofs.Stands.{guarded-stands}
use Rattle.cif_why_model.specs.Reasons.{agreeing}
use Rattle.cif_why.specs.Agreeing.{is_agreeing}
use Rattle.cif_why.specs.Openings.{move_ready, openings_from}
use Rattle.cif_why.proofs.ListLaws.{any-map, any-same}
use Rattle.cif_why.proofs.Ready.{agrees-ready}
use Rattle.cif_why.proofs.RoleLaws.{AutosMean}
use Rattle.cif_why.proofs.Stepped.{any-filter, any-listed}

pub map-get : {A B : Type 0} (f : A → B) (xs : List A) (k : ℕ) (x : A) → slice_get xs k ≡ Some x → slice_get (map f xs) k ≡ Some (f x)
map-get f [] k x h = absurd cc
map-get f (y ∷ xs) zero x h = ap (λ o. elim o [ None ↦ None | Some z ↦ Some (f z) ]) h
map-get f (y ∷ xs) (suc k) x h = map-get f xs k x h

listed-choice : (n : Net) (z : ℕ × Choice) → Member z (listed (system_of_net n)) → Member z.1 (choices (system_of_net n) z.0)
listed-choice n z h =
    let w = member-flat_map (λ d. map (λ ch. (d, ch)) (choices (system_of_net n) d)) z (range_with_len 0 (length (system_of_net n).events)) h in
    let v = member-map (λ (ch : Choice). (w.0, ch)) z (choices (system_of_net n) w.0) w.2 in
    subst (λ (q : ℕ × Choice). Member q.1 (choices (system_of_net n) q.0)) (sym v.2) v.1

module _ (n : Net) (s : State) (x : Setting) (e : ℕ) (plain : is_plain n ≡ true) (same : x.state ≡ s) (means : AutosMean n s x) where
  abbrev passes : NetChoice → Bool
  passes = is_agreeing (openings_from x e 0 n.autos) e

  agree-of : (z : ℕ × Choice) → Member z (listed (system_of_net n)) → passes (guarded_choice n z) ≡ (nat_eq z.0 e && agrees (system_of_net n) s z.0 z.1)
  agree-of z h = go (nat_eq z.0 e) refl
    where
      go : (b : Bool) → nat_eq z.0 e ≡ b → (b && list_all (move_ready (openings_from x e 0 n.autos)) (guarded_choice n z).moves) ≡ (b && agrees (system_of_net n) s z.0 z.1)
      go false is = refl
      go true is =
          let own : z.0 ≡ e = eqb-true z.0 e is in
          subst (λ d. list_all (move_ready (openings_from x d 0 n.autos)) (guarded_choice n z).moves ≡ agrees (system_of_net n) s z.0 z.1) own
          (agrees-ready n s x z.0 same means z.1 (picked n z.0 (net-of n plain) z.1 (listed-choice n z h)))

  full-same : (k : ℕ) (z : ℕ × Choice) → slice_get (listed (system_of_net n)) k ≡ Some z → full_choice n (guarded_choice n z) ≡ z
  full-same k z h =
      let each = (guarded-stands n plain).each in
      some-same _ _ (sym (map-get (full_choice n) (guarded_of n) k (guarded_choice n z) (map-get (guarded_choice n) (listed (system_of_net n)) k z h)) ∙ ap (λ zs. slice_get zs k) each ∙ h)

  -- what holds of some choice that passes
  pub any-agreeing : e < length (system_of_net n).events → (p : NetChoice → Bool) (q : Choice → Bool)
      → ((k : ℕ) (c : NetChoice) → slice_get (guarded_of n) k ≡ Some c → c.event ≡ e → agrees (system_of_net n) s c.event (full_choice n c).1 ≡ true → p c ≡ q (full_choice n c).1)
      → list_any (λ c. passes c && p c) (guarded_of n) ≡ list_any q (agreeing (system_of_net n) s e)
  any-agreeing below p q h =
      any-map (guarded_choice n) (λ c. passes c && p c) (listed (system_of_net n))
      ∙ any-same (λ z. passes (guarded_choice n z) && p (guarded_choice n z)) (λ z. nat_eq z.0 e && (agrees (system_of_net n) s z.0 z.1 && q z.1)) (listed (system_of_net n)) each
      ∙ any-listed (system_of_net n) e (λ d ch. agrees (system_of_net n) s d ch && q ch) below
      ∙ any-filter (agrees (system_of_net n) s e) q (choices (system_of_net n) e)
    where
      each : (k : ℕ) (z : ℕ × Choice) → slice_get (listed (system_of_net n)) k ≡ Some z → (passes (guarded_choice n z) && p (guarded_choice n z)) ≡ (nat_eq z.0 e && (agrees (system_of_net n) s z.0 z.1 && q z.1))
      each k z g = ap (λ b. b && p (guarded_choice n z)) (agree-of z (at-member (listed (system_of_net n)) k z g)) ∙ go (nat_eq z.0 e) (agrees (system_of_net n) s z.0 z.1) refl refl
        where
          go : (a b : Bool) → nat_eq z.0 e ≡ a → agrees (system_of_net n) s z.0 z.1 ≡ b → ((a && b) && p (guarded_choice n z)) ≡ (a && (b && q z.1))
          go false b ha hb = refl
          go true false ha hb = refl
          go true true ha hb =
              let full = full-same k z g in
              h k (guarded_choice n z) (map-get (guarded_choice n) (listed (system_of_net n)) k z g) (eqb-true z.0 e ha) (subst (λ (w : ℕ × Choice). agrees (system_of_net n) s z.0 w.1 ≡ true) (sym full) hb)
              ∙ ap (λ (w : ℕ × Choice). q w.1) full

  -- one that passes agrees
  pub passes-agrees : (k : ℕ) (c : NetChoice) → slice_get (guarded_of n) k ≡ Some c → passes c ≡ true → agrees_in n s c ≡ true
  passes-agrees k c at h =
      let w = map-at (guarded_choice n) (listed (system_of_net n)) k c at in
      let full : full_choice n c ≡ w.0 = ap (full_choice n) w.2 ∙ full-same k w.0 w.1 in
      let both : (nat_eq w.0.0 e && agrees (system_of_net n) s w.0.0 w.0.1) ≡ true = sym (agree-of w.0 (at-member (listed (system_of_net n)) k w.0 w.1)) ∙ ap passes (sym w.2) ∙ h in
      subst (λ (z : ℕ × Choice). agrees (system_of_net n) s z.0 z.1 ≡ true) (sym full) (and-right _ _ both)
