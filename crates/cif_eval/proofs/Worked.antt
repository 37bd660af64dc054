-- A state into which what the state invariants name is copied, and to which then the pairs and moves of a choice are written, is
-- one of the net, and the invariants hold there where they hold in the state after the choice.
use Rattle.std.proofs.Common.{◌≡◌, ℕ, zero, suc, ◌≤◌, ℤ, pos, Bool, true, false, ◌&&◌, List, [], ◌∷◌, length, map, flat_map, Option, Some, None, refl, sym, ap, subst, ◌∙◌, arith}
use Rattle.std.specs.Prelude.{option_map, slice_get}
use Rattle.std.specs.List.{AllByRecursion, cons_option, list_all, range_with_len}
use Rattle.cif_system.specs.System.{Automaton, IsState, State, Stored, in_range}
use Rattle.cif_system.specs.Step.{meets_invariants}
use Rattle.cif_net_expr.specs.Tree.{NetExpr}
use Rattle.cif_net_model.specs.Net.{NetInvariant, Net}
use Rattle.cif_net_model.specs.Facts.{invariant_stands}
use Rattle.cif_net_model.specs.Interval.{truths}
use Rattle.cif_net_model.specs.Kinds.{bool_kind}
use Rattle.cif_net_model.specs.Listing.{NetMove}
use Rattle.cif_net_model.specs.Meaning.{alg_values, invariant_in, system_of_net, true_in}
use Rattle.cif_net_model.specs.Reads.{Read, a_var, an_input, an_alg, a_place, the_received, names_in, names_no_alg}
use Rattle.cif_net_model.specs.Rules.{is_plain, is_plain_expr}
use Rattle.cif_net_model.specs.Unfolding.{at_or}
use Rattle.cif_net_model.specs.Value.{is_true}
use Rattle.cif_net_model.proofs.Passing.{and-left, and-right}
use Rattle.cif_net_model.proofs.ValueLaws.{Alike, Setting, all-parts, ap-two, value-alike, value-alone}
use Rattle.cif_net_model.specs.Safe.{IsSafe, value_at}
use Rattle.cif_net_model.proofs.Plain.{net-safe}
use Rattle.cif_eval.specs.Copies.{copied, copied_invariants, copied_one}
use Rattle.cif_eval.specs.Within.{within}
use Rattle.cif_eval.specs.Updates.{AreSafeInvariants, IsSafeInvariant, invariant_holds, invariants_hold}
use Rattle.cif_eval.specs.Writes.{written}
use Rattle.cif_eval.proofs.Copied.{invariants-named, predicates}
use Rattle.cif_eval.proofs.Facts.{invariants-plain, invariants-stand, net-of-plain}
use Rattle.cif_eval.proofs.Lists.{all-numbers, item-copied, item-fits, item-stays, zip-length}
use Rattle.cif_eval.proofs.Moves.{moved-alike, values-alike}

-- the same as a setting of the laws on values
abbrev in_state : State → Setting
in_state s = record { algs = λ k. pos 0; state = s; received = pos 0 }

module _ (n : Net) (s : State) (of_s : IsState (system_of_net n) s) where
  same-locs : (t : State) → IsState (system_of_net n) t → length s.locs ≡ length t.locs
  same-locs t of_t =
      sym (zip-length (λ (a : Automaton) l. suc l ≤ a.places) (system_of_net n).automata s.locs of_s.places) ∙ zip-length (λ (a : Automaton) l. suc l ≤ a.places) (system_of_net n).automata t.locs of_t.places

  same-vals : (t : State) → IsState (system_of_net n) t → length s.vals ≡ length t.vals
  same-vals t of_t =
      sym (zip-length (λ (v : Stored) z. in_range v.range z ≡ true) (system_of_net n).variables s.vals of_s.values) ∙ zip-length (λ (v : Stored) z. in_range v.range z ≡ true) (system_of_net n).variables t.vals of_t.values

  same-ins : (t : State) → IsState (system_of_net n) t → length s.ins ≡ length t.ins
  same-ins t of_t =
      sym (zip-length (λ (v : Stored) z. in_range v.range z ≡ true) (system_of_net n).inputs s.ins of_s.inputs) ∙ zip-length (λ (v : Stored) z. in_range v.range z ≡ true) (system_of_net n).inputs t.ins of_t.inputs

  -- ---- copies

  one-state : (x : Read) (t : State) → IsState (system_of_net n) t → IsState (system_of_net n) (copied_one s t x)
  one-state (a_var k) t h = record { places = h.places; values = item-fits (λ (v : Stored) z. in_range v.range z ≡ true) (system_of_net n).variables s.vals t.vals k of_s.values h.values; inputs = h.inputs }
  one-state (an_input k) t h = record { places = h.places; values = h.values; inputs = item-fits (λ (v : Stored) z. in_range v.range z ≡ true) (system_of_net n).inputs s.ins t.ins k of_s.inputs h.inputs }
  one-state (an_alg k) t h = h
  one-state (a_place k) t h = record { places = item-fits (λ (a : Automaton) l. suc l ≤ a.places) (system_of_net n).automata s.locs t.locs k of_s.places h.places; values = h.values; inputs = h.inputs }
  one-state the_received t h = h

  pub copied-state : (xs : List Read) (t : State) → IsState (system_of_net n) t → IsState (system_of_net n) (copied xs s t)
  copied-state [] t h = h
  copied-state (x ∷ xs) t h = copied-state xs (copied_one s t x) (one-state x t h)

  -- two states are alike at what is copied
  abbrev SameAt : State → Read → Type 0
  SameAt t x = Alike (in_state s) (in_state t) x

  one-same : (x : Read) (t : State) → IsState (system_of_net n) t → SameAt (copied_one s t x) x
  one-same (a_var k) t h = sym (item-copied (pos 0) s.vals t.vals k (same-vals t h))
  one-same (an_input k) t h = sym (item-copied (pos 0) s.ins t.ins k (same-ins t h))
  one-same (an_alg k) t h = refl
  one-same (a_place k) t h = sym (item-copied 0 s.locs t.locs k (same-locs t h))
  one-same the_received t h = refl

  stays-same : (x y : Read) (t : State) → IsState (system_of_net n) t → SameAt t x → SameAt (copied_one s t y) x
  stays-same (a_var k) (a_var j) t h same = sym (item-stays (pos 0) s.vals t.vals j k (same-vals t h) (sym same))
  stays-same (an_input k) (an_input j) t h same = sym (item-stays (pos 0) s.ins t.ins j k (same-ins t h) (sym same))
  stays-same (a_place k) (a_place j) t h same = sym (item-stays 0 s.locs t.locs j k (same-locs t h) (sym same))
  stays-same x y t h same = same

  all-stay : (x : Read) (ys : List Read) (t : State) → IsState (system_of_net n) t → SameAt t x → SameAt (copied ys s t) x
  all-stay x [] t h same = same
  all-stay x (y ∷ ys) t h same = all-stay x ys (copied_one s t y) (one-state y t h) (stays-same x y t h same)

  copied-same : (xs : List Read) (t : State) → IsState (system_of_net n) t → AllByRecursion (SameAt (copied xs s t)) xs
  copied-same [] t h = tt
  copied-same (x ∷ xs) t h = (all-stay x xs (copied_one s t x) (one-state x t h) (one-same x t h), copied-same xs (copied_one s t x) (one-state x t h))

  -- ---- writes

  module _ (ms : List NetMove) (ws : List (ℕ × ℤ)) (t : State) (of_t : IsState (system_of_net n) t) where
    abbrev WrittenSame : Read → Type 0
    WrittenSame x = Alike (in_state (written n.autos ms ws t)) (in_state (written n.autos ms ws s)) x

    one-written : (x : Read) → SameAt t x → WrittenSame x
    one-written (a_var k) same = sym (values-alike ws 0 s.vals t.vals k (same-vals t of_t) same)
    one-written (an_input k) same = sym same
    one-written (an_alg k) same = refl
    one-written (a_place k) same = sym (moved-alike n.autos ms s.locs t.locs k (same-locs t of_t) same)
    one-written the_received same = refl

    written-same : (xs : List Read) → AllByRecursion (SameAt t) xs → AllByRecursion WrittenSame xs
    written-same [] h = tt
    written-same (x ∷ xs) h = (one-written x h.0, written-same xs h.1)

    -- predicates that name no algebraic variable
    holds-same : (es : List NetExpr) → AllByRecursion (SameAt t) (flat_map names_in es) → list_all names_no_alg es ≡ true
        → list_all (λ e. is_true (value_at (within (written n.autos ms ws t) (pos 0)) e)) es ≡ list_all (true_in n (written n.autos ms ws s)) es
    holds-same [] h names = refl
    holds-same (e ∷ es) h names =
        let q = all-parts (SameAt t) (names_in e) (flat_map names_in es) h in
        ap-two (λ z b. is_true z && b)
        (value-alike (in_state (written n.autos ms ws t)) (in_state (written n.autos ms ws s)) e (written-same (names_in e) q.0)
        ∙ value-alone (λ k. pos 0) (at_or (pos 0) (alg_values n (written n.autos ms ws s) (pos 0) (length n.algs))) (written n.autos ms ws s) (pos 0) e (and-left _ _ names))
        (holds-same es q.1 (and-right _ _ names))

-- ---- the state invariants

module _ (n : Net) (plain : is_plain n ≡ true) where
  abbrev pub preds : List NetExpr
  preds = map (λ (i : NetInvariant). i.pred) n.invariants

  pub predicates-are : predicates n.invariants (range_with_len 0 (length n.invariants)) ≡ map (λ (i : NetInvariant). i.pred) n.invariants
  predicates-are =
      all-numbers (λ k. option_map (λ (i : NetInvariant). i.pred) (slice_get n.invariants k)) (λ (i : NetInvariant). i.pred) 0 n.invariants
      (λ k. ap (λ j. option_map (λ (i : NetInvariant). i.pred) (slice_get n.invariants j)) (omega arith))

  pub meets-are : (t : State) → meets_invariants (system_of_net n) t ≡ list_all (true_in n t) (map (λ (i : NetInvariant). i.pred) n.invariants)
  meets-are t = go n.invariants
    where
      go : (is : List NetInvariant) → list_all (λ (f : State → Bool). f t) (map (invariant_in n) is) ≡ list_all (true_in n t) (map (λ (i : NetInvariant). i.pred) is)
      go [] = refl
      go (i ∷ is) = ap (λ b. true_in n t i.pred && b) (go is)

  abbrev PlainExprs : List NetExpr → Type 0
  PlainExprs es = list_all (is_plain_expr n) (map (λ e. record { value = e; received = truths }) es) ≡ true

  no-algs : (es : List NetExpr) → PlainExprs es → list_all names_no_alg es ≡ true
  no-algs [] h = refl
  no-algs (e ∷ es) h = both (names_no_alg e) (list_all names_no_alg es) (and-left _ _ (and-left _ _ (and-left _ _ h))) (no-algs es (and-right _ _ h))
    where
      both : (a b : Bool) → a ≡ true → b ≡ true → (a && b) ≡ true
      both true b g k = k
      both false b g k = absurd cc

  -- each is safe, and they hold as their predicates do
  invariant-safe : (t : State) → IsState (system_of_net n) t → (i : NetInvariant) → is_plain_expr n (record { value = i.pred; received = truths }) ≡ true → invariant_stands n i ≡ true → IsSafe (within t (pos 0)) i.pred
  invariant-safe t of_t i h g = net-safe n (λ k. pos 0) t (record { value = i.pred; received = truths }) (pos 0) None bool_kind (net-of-plain n plain) h of_t refl (λ u e. absurd cc) g

  at-safe : (t : State) → IsState (system_of_net n) t → (is : List NetInvariant) → PlainExprs (map (λ (i : NetInvariant). i.pred) is) → list_all (invariant_stands n) is ≡ true → (k : ℕ) → IsSafeInvariant (within t (pos 0)) (slice_get is k)
  at-safe t of_t [] h g k = tt
  at-safe t of_t (i ∷ is) h g zero = invariant-safe t of_t i (and-left _ _ h) (and-left _ _ g)
  at-safe t of_t (i ∷ is) h g (suc k) = at-safe t of_t is (and-right _ _ h) (and-right _ _ g) k

  pub invariants-safe : (ks : List ℕ) (t : State) → IsState (system_of_net n) t → AreSafeInvariants (within t (pos 0)) n.invariants ks
  invariants-safe [] t of_t = tt
  invariants-safe (k ∷ ks) t of_t = (at-safe t of_t n.invariants (invariants-plain n plain) (invariants-stand n (net-of-plain n plain)) k, invariants-safe ks t of_t)

  hold-are : (t : State) (is : List NetInvariant) (ks : List ℕ) → invariants_hold (within t (pos 0)) is ks ≡ list_all (λ e. is_true (value_at (within t (pos 0)) e)) (predicates is ks)
  hold-are t is [] = refl
  hold-are t is (k ∷ ks) = go (slice_get is k) (hold-are t is ks)
    where
      go : (o : Option NetInvariant) → invariants_hold (within t (pos 0)) is ks ≡ list_all (λ e. is_true (value_at (within t (pos 0)) e)) (predicates is ks)
          → (invariant_holds (within t (pos 0)) o && invariants_hold (within t (pos 0)) is ks) ≡ list_all (λ e. is_true (value_at (within t (pos 0)) e)) (cons_option (option_map (λ (i : NetInvariant). i.pred) o) (predicates is ks))
      go None rest = rest
      go (Some i) rest = ap (λ b. is_true (value_at (within t (pos 0)) i.pred) && b) rest

  pub copied-is_state : (ks : List ℕ) (s t : State) → IsState (system_of_net n) s → IsState (system_of_net n) t → IsState (system_of_net n) (copied_invariants n.invariants ks s t)
  copied-is_state ks s t of_s of_t = subst (IsState (system_of_net n)) (sym (invariants-named s n.invariants ks t)) (copied-state n s of_s (flat_map names_in (predicates n.invariants ks)) t of_t)

  -- over the state that is worked on they hold where they hold after the choice
  pub invariants-same : (ks : List ℕ) → ks ≡ range_with_len 0 (length n.invariants) → (ms : List NetMove) (ws : List (ℕ × ℤ)) (s t : State) → IsState (system_of_net n) s → IsState (system_of_net n) t
      → invariants_hold (within (written n.autos ms ws (copied_invariants n.invariants ks s t)) (pos 0)) n.invariants ks ≡ meets_invariants (system_of_net n) (written n.autos ms ws s)
  invariants-same ks all ms ws s t of_s of_t =
      let es : List NetExpr = predicates n.invariants ks in
      let are : es ≡ preds = ap (predicates n.invariants) all ∙ predicates-are in
      let names : list_all names_no_alg es ≡ true = subst (λ ds. list_all names_no_alg ds ≡ true) (sym are) (no-algs preds (invariants-plain n plain)) in
      ap (λ u. invariants_hold (within (written n.autos ms ws u) (pos 0)) n.invariants ks) (invariants-named s n.invariants ks t)
      ∙ hold-are (written n.autos ms ws (copied (flat_map names_in es) s t)) n.invariants ks
      ∙ holds-same n s of_s ms ws (copied (flat_map names_in es) s t) (copied-state n s of_s (flat_map names_in es) t of_t) es (copied-same n s of_s (flat_map names_in es) t of_t) names
      ∙ ap (list_all (true_in n (written n.autos ms ws s))) are
      ∙ sym (meets-are (written n.autos ms ws s))
