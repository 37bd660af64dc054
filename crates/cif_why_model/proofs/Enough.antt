-- Where the list of reasons is empty, the event has a step.
use Rattle.std.proofs.Common.{◌≡◌, ℕ, zero, suc, ◌<◌, ℤ, Bool, true, false, not, inl, inr, ◌⊎◌, List, [], ◌∷◌, ◌++◌, length, map, filter, Option, Some, None, refl, sym, ◌∙◌, ap, subst, arith}
use Rattle.std.specs.Prelude.{slice_get, ◌&&◌, ◌||◌, nat_eq, IsTrue, is_some, zip, flat_map, filter_map, if◌then◌else◌}
use Rattle.std.specs.List.{cons_option, list_all, list_any, enumerate_from, range_with_len}
use Rattle.std.proofs.lemmas.Bool.{eq-eqb}
use Rattle.cif_system.specs.Words.{Member}
use Rattle.cif_system.specs.System.{Edge, Automaton, Exclusion, State, System, receiving, sending}
use Rattle.cif_system.specs.Step.{Choice, Numbered, after, agrees, assigned, assigned_fits, edge_taken, fits_channel, fits_variable, is_permitted, makes_step, meets_invariants, moves, numbered, sent, sent_fits, taken}
use Rattle.cif_system.specs.Choices.{choices, first_step}
use Rattle.cif_system.proofs.Lists.{some-same, none-some, false-true, filter-member, range_with_len-member}
use Rattle.cif_system.proofs.Picks.{any-at, map-at, at-member, at-enumerate_from, enumerate_from-at, at-zip, zip-at}
use Rattle.cif_system.proofs.ChoiceLaws.{choices-listed}
use Rattle.cif_system.proofs.ScanLaws.{first_step-none}
use Rattle.grammar.specs.Pieces.{Text}
use Rattle.cif_why_model.specs.Told.{AutomatonTold, EdgeTold, Told}
use Rattle.cif_why_model.specs.Reasons.{Reason, no_role, blocks, no_sender, no_receiver, excluded, leaves, breaks, has_role, is_blocking, lacks, forbids, takes_edge, leaves_channel, leaves_variable, received_in, value_leaves, choice_breaks, agreeing, reason_if, each_of, leaves_of_edge, leaves_of, all_reasons, reasons_of}
use Rattle.cif_why_model.specs.Parties.{HasOneRole, AllCan}
use Rattle.cif_why_model.specs.Telling.{pair_of, TellsEdge, TellsOf}
use Rattle.cif_why_model.proofs.Agreeing.{all-where, decided, some-agrees}
use Rattle.cif_why_model.proofs.Telling.{within-values}

-- ---- empty lists

left-empty : {A : Type 0} (xs ys : List A) → xs ++ ys ≡ [] → xs ≡ []
left-empty [] ys h = refl
left-empty (x ∷ xs) ys h = absurd cc

right-empty : {A : Type 0} (xs ys : List A) → xs ++ ys ≡ [] → ys ≡ []
right-empty [] ys h = h
right-empty (x ∷ xs) ys h = absurd cc

map-empty : {A B : Type 0} (f : A → B) (xs : List A) → map f xs ≡ [] → xs ≡ []
map-empty f [] h = refl
map-empty f (x ∷ xs) h = absurd cc

not-member : {A : Type 0} (xs : List A) (x : A) → xs ≡ [] → Member x xs → ⊥
not-member [] x h w = w
not-member (y ∷ ys) x h w = absurd cc

if-empty : (b : Bool) (r : Reason) → reason_if b r ≡ [] → b ≡ false
if-empty true r h = absurd cc
if-empty false r h = refl

-- what passes no filter
none-of : {A : Type 0} (p : A → Bool) (xs : List A) (x : A) → filter p xs ≡ [] → Member x xs → p x ≡ false
none-of p xs x h w = elim (decided (p x)) [
  | inr other ↦ other
  | inl so ↦ absurd (not-member (filter p xs) x h (filter-member p xs x w so))
]

each-empty : {A : Type 0} (reason : ℕ → Reason) (p : ℕ × A → Bool) (xs : List A) → each_of reason p xs ≡ [] → (k : ℕ) (x : A) → slice_get xs k ≡ Some x → p (k, x) ≡ false
each-empty reason p xs h k x g =
    none-of p (enumerate_from 0 xs) (k, x) (map-empty (λ z. reason z.0) (filter p (enumerate_from 0 xs)) h)
    (at-member (enumerate_from 0 xs) k (k, x) (enumerate_from-at xs 0 k k x g (omega arith)))

flat-empty : {A B : Type 0} (f : A → List B) (xs : List A) (k : ℕ) (x : A) → flat_map f xs ≡ [] → slice_get xs k ≡ Some x → f x ≡ []
flat-empty f [] k x h g = absurd (none-some x g)
flat-empty f (y ∷ ys) zero x h g = subst (λ w. f w ≡ []) (some-same y x g) (left-empty (f y) (flat_map f ys) h)
flat-empty f (y ∷ ys) (suc k) x h g = flat-empty f ys k x (right-empty (f y) (flat_map f ys) h) g

any-false : {A : Type 0} (p : A → Bool) (xs : List A) (x : A) → list_any p xs ≡ false → Member x xs → p x ≡ false
any-false p [] x h w = absurd w
any-false p (y ∷ ys) x h w =
    (elim (p y) as (λ b. p y ≡ b → (b || list_any p ys) ≡ false → p x ≡ false) [
      | true ↦ λ e g. absurd (false-true g refl)
      | false ↦ λ e g. elim w [ inl is ↦ subst (λ z. p z ≡ false) (sym is) e | inr more ↦ any-false p ys x g more ]
    ]) refl h

-- ---- where something fails

record FailsAt {A : Type 0} (p : A → Bool) (xs : List A) : Type 0 where
  at : ℕ
  here : A
  is : slice_get xs at ≡ Some here
  fails : p here ≡ false

fails-at : {A : Type 0} (p : A → Bool) (xs : List A) → list_all p xs ≡ false → FailsAt p xs
fails-at p [] h = absurd (false-true h refl)
fails-at {A} p (x ∷ xs) h =
    (elim (p x) as (λ b. p x ≡ b → (b && list_all p xs) ≡ false → FailsAt p (x ∷ xs)) [
      | true ↦ λ e g. let rest = fails-at p xs g in record { at = suc rest.at; here = rest.here; is = rest.is; fails = rest.fails }
      | false ↦ λ e g. record { at = 0; here = x; is = refl; fails = e }
    ]) refl h

-- where an element comes from
record From {A B : Type 0} (f : A → Option B) (xs : List A) (y : B) : Type 0 where
  at : ℕ
  here : A
  is : slice_get xs at ≡ Some here
  gives : f here ≡ Some y

later : {A B : Type 0} (f : A → Option B) (x : A) (xs : List A) (y : B) → From f xs y → From f (x ∷ xs) y
later f x xs y r = record { at = suc r.at; here = r.here; is = r.is; gives = r.gives }

first-or : {A B : Type 0} (f : A → Option B) (x : A) (xs : List A) (y z : B) → f x ≡ Some z → (k : ℕ) → slice_get (z ∷ filter_map f xs) k ≡ Some y
    → ((j : ℕ) → slice_get (filter_map f xs) j ≡ Some y → From f xs y) → From f (x ∷ xs) y
first-or f x xs y z e zero g more = record { at = 0; here = x; is = refl; gives = e ∙ g }
first-or f x xs y z e (suc j) g more = later f x xs y (more j g)

from-filter : {A B : Type 0} (f : A → Option B) (xs : List A) (k : ℕ) (y : B) → slice_get (filter_map f xs) k ≡ Some y → From f xs y
from-filter f [] k y h = absurd (none-some y h)
from-filter {A} {B} f (x ∷ xs) k y h =
    (elim (f x) as (λ o. f x ≡ o → slice_get (cons_option o (filter_map f xs)) k ≡ Some y → From f (x ∷ xs) y) [
      | None ↦ λ e g. later f x xs y (from-filter f xs k y g)
      | Some z ↦ λ e g. first-or f x xs y z e k g (λ i w. from-filter f xs i y w)
    ]) refl h

record FromFlat {A B : Type 0} (f : A → List B) (xs : List A) (y : B) : Type 0 where
  at : ℕ
  here : A
  is : slice_get xs at ≡ Some here
  within : ℕ
  gives : slice_get (f here) within ≡ Some y

split-at : {B : Type 0} (xs ys : List B) (k : ℕ) (y : B) → slice_get (xs ++ ys) k ≡ Some y → ((j : ℕ) × (slice_get xs j ≡ Some y)) ⊎ ((j : ℕ) × (slice_get ys j ≡ Some y))
split-at [] ys k y h = inr (k, h)
split-at (x ∷ xs) ys zero y h = inl (0, h)
split-at (x ∷ xs) ys (suc k) y h = elim (split-at xs ys k y h) [ inl w ↦ inl (suc w.0, w.1) | inr w ↦ inr w ]

from-flat : {A B : Type 0} (f : A → List B) (xs : List A) (k : ℕ) (y : B) → slice_get (flat_map f xs) k ≡ Some y → FromFlat f xs y
from-flat f [] k y h = absurd (none-some y h)
from-flat f (x ∷ xs) k y h = elim (split-at (f x) (flat_map f xs) k y h) [
  | inl w ↦ record { at = 0; here = x; is = refl; within = w.0; gives = w.1 }
  | inr w ↦ let r = from-flat f xs w.0 y w.1 in record { at = suc r.at; here = r.here; is = r.is; within = r.within; gives = r.gives }
]

-- ---- truths

permits : (a b : Bool) → (a && not b) ≡ false → (not a || b) ≡ true
permits true true h = refl
permits true false h = absurd (false-true h refl)
permits false b h = refl

kept : (a b c : Bool) → a ≡ true → b ≡ true → (a && b && not c) ≡ false → c ≡ true
kept a b true g h q = refl
kept true true false g h q = absurd (false-true q refl)
kept false b false g h q = absurd (false-true refl g)
kept true false false g h q = absurd (false-true refl h)

second-false : (a b : Bool) → a ≡ true → (a && b) ≡ false → b ≡ false
second-false true b g h = h
second-false false b g h = absurd (false-true refl g)

-- ---- no reason

module _ (names : ℕ → Text) (m : System) (t : Told) (s : State) (e : ℕ) (told : TellsOf names m t) (none : all_reasons m t s e ≡ []) where
  abbrev parts_breaks : List Reason
  parts_breaks = each_of breaks (λ x. list_any (λ ch. choice_breaks m s e ch x.1) (agreeing m s e)) m.invariants

  abbrev parts_leaves : List Reason
  parts_leaves = flat_map (leaves_of m s e) (enumerate_from 0 (zip m.automata t.automata))

  abbrev parts_excluded : List Reason
  parts_excluded = each_of excluded (λ x. forbids e s x.1) m.exclusions

  abbrev parts_blocks : List Reason
  parts_blocks = each_of blocks (is_blocking e s) m.automata

  abbrev parts_role : List Reason
  parts_role = reason_if (not (has_role m e)) no_role

  abbrev parts_sender : List Reason
  parts_sender = reason_if (lacks m s sending e) no_sender

  abbrev parts_receiver : List Reason
  parts_receiver = reason_if (lacks m s receiving e) no_receiver

  to_leaves : parts_role ++ parts_blocks ++ parts_sender ++ parts_receiver ++ parts_excluded ++ parts_leaves ≡ []
  to_leaves = left-empty (parts_role ++ parts_blocks ++ parts_sender ++ parts_receiver ++ parts_excluded ++ parts_leaves) parts_breaks none

  to_excluded : parts_role ++ parts_blocks ++ parts_sender ++ parts_receiver ++ parts_excluded ≡ []
  to_excluded = left-empty (parts_role ++ parts_blocks ++ parts_sender ++ parts_receiver ++ parts_excluded) parts_leaves to_leaves

  to_receiver : parts_role ++ parts_blocks ++ parts_sender ++ parts_receiver ≡ []
  to_receiver = left-empty (parts_role ++ parts_blocks ++ parts_sender ++ parts_receiver) parts_excluded to_excluded

  to_sender : parts_role ++ parts_blocks ++ parts_sender ≡ []
  to_sender = left-empty (parts_role ++ parts_blocks ++ parts_sender) parts_receiver to_receiver

  to_blocks : parts_role ++ parts_blocks ≡ []
  to_blocks = left-empty (parts_role ++ parts_blocks) parts_sender to_sender

  has-role : has_role m e ≡ true
  has-role = turned (has_role m e) (if-empty (not (has_role m e)) no_role (left-empty parts_role parts_blocks to_blocks))
    where
      turned : (b : Bool) → not b ≡ false → b ≡ true
      turned true h = refl
      turned false h = absurd (false-true h refl)

  all-can : AllCan m s e
  all-can = record {
    role = has-role;
    free = each-empty blocks (is_blocking e s) m.automata (right-empty parts_role parts_blocks to_blocks);
    sender = if-empty (lacks m s sending e) no_sender (right-empty (parts_role ++ parts_blocks) parts_sender to_sender);
    receiver = if-empty (lacks m s receiving e) no_receiver (right-empty (parts_role ++ parts_blocks ++ parts_sender) parts_receiver to_receiver);
  }

  not-forbidden : (k : ℕ) (x : Exclusion) → slice_get m.exclusions k ≡ Some x → forbids e s x ≡ false
  not-forbidden = each-empty excluded (λ x. forbids e s x.1) m.exclusions (right-empty (parts_role ++ parts_blocks ++ parts_sender ++ parts_receiver) parts_excluded to_excluded)

  permitted : is_permitted m e s ≡ true
  permitted = all-where _ m.exclusions (λ k x g. permits (nat_eq x.event e) (x.permits s) (not-forbidden k x g))

  no-leaves : parts_leaves ≡ []
  no-leaves = right-empty (parts_role ++ parts_blocks ++ parts_sender ++ parts_receiver ++ parts_excluded) parts_leaves to_leaves

  module _ (ch : Choice) (agreed : IsTrue (agrees m s e ch)) where
    listed : Member ch (agreeing m s e)
    listed = filter-member (agrees m s e) (choices m e) ch (choices-listed m s e ch agreed) agreed

    -- an edge that the choice takes
    record TakenEdge (x : Edge) : Type 0 where
      auto : ℕ
      edge : ℕ
      who : Automaton
      told_by : AutomatonTold
      values : EdgeTold
      is : slice_get m.automata auto ≡ Some who
      told_is : slice_get t.automata auto ≡ Some told_by
      edge_is : slice_get who.edges edge ≡ Some x
      values_is : slice_get told_by.edges edge ≡ Some values
      tells : TellsEdge names x values
      takes_it : takes_edge ch auto edge ≡ true

    taken-edge : (k : ℕ) (x : Edge) → slice_get (taken m ch) k ≡ Some x → TakenEdge x
    taken-edge k x h = by (from-filter edge_taken (moves m ch) k x h)
      where
        made : (k : ℕ) (a : Numbered) (o : Option ℕ) → slice_get (numbered m) k ≡ Some a → slice_get ch k ≡ Some o → edge_taken (a, o) ≡ Some x → TakenEdge x
        made k a None g c w = absurd (none-some x w)
        made k a (Some j) g c w =
            let here = (at-enumerate_from m.automata 0 k a g).0 in
            let b = told k a.1 here in
            let y = b.2 j x w in
            record {
              auto = k;
              edge = j;
              who = a.1;
              told_by = b.0;
              values = y.0;
              is = here;
              told_is = b.1;
              edge_is = w;
              values_is = y.1;
              tells = y.2;
              takes_it = ap (λ o. elim o [ Some (Some i) ↦ nat_eq i j | _ ↦ false ]) c ∙ eq-eqb j j refl;
            }

        by : From edge_taken (moves m ch) x → TakenEdge x
        by f = let both = at-zip (numbered m) ch f.at f.here f.is in made f.at f.here.0 f.here.1 both.0 both.1 f.gives

    -- none of its values leaves its range
    stays-inside : (x : Edge) (k : TakenEdge x) (number : ℕ) → number < length k.values.values → value_leaves m s e ch x k.values number ≡ false
    stays-inside x k number b =
        let pairs = zip-at m.automata t.automata k.auto k.who k.told_by k.is k.told_is in
        let here = enumerate_from-at (zip m.automata t.automata) 0 k.auto k.auto (k.who, k.told_by) pairs (omega arith) in
        let of_auto = flat-empty (leaves_of m s e) (enumerate_from 0 (zip m.automata t.automata)) k.auto (k.auto, (k.who, k.told_by)) no-leaves here in
        let edges = zip-at k.who.edges k.told_by.edges k.edge x k.values k.edge_is k.values_is in
        let there = enumerate_from-at (zip k.who.edges k.told_by.edges) 0 k.edge k.edge (x, k.values) edges (omega arith) in
        let of_edge = flat-empty (leaves_of_edge m s e k.auto) (enumerate_from 0 (zip k.who.edges k.told_by.edges)) k.edge (k.edge, (x, k.values)) of_auto there in
        let none_left = none-of _ (range_with_len 0 (length k.values.values)) number (map-empty (leaves k.auto k.edge) _ of_edge)
        (subst (λ n. Member n (range_with_len 0 (length k.values.values))) (omega arith) (range_with_len-member 0 (length k.values.values) number b)) in
        second-false _ _ k.takes_it (any-false _ (agreeing m s e) ch none_left listed)

    sent-fits : sent_fits m s e ch ≡ true
    sent-fits = elim (decided (sent_fits m s e ch)) [
      | inl so ↦ so
      | inr other ↦ absurd (out (fails-at (fits_channel (slice_get m.events e)) (sent m s ch) other))
    ]
      where
        leaves-it : (x : Edge) (z : ℤ) → x.sent s ≡ Some z → fits_channel (slice_get m.events e) z ≡ false → leaves_channel m s e x 0 ≡ true
        leaves-it x z g f = ap (λ o. elim o [ None ↦ false | Some w ↦ nat_eq 0 0 && not (fits_channel (slice_get m.events e) w) ]) g ∙ ap not f

        out : FailsAt (fits_channel (slice_get m.events e)) (sent m s ch) → ⊥
        out f =
            let x = from-filter (λ (x : Edge). x.sent s) (taken m ch) f.at f.here f.is in
            let k = taken-edge x.at x.here x.is in
            false-true (stays-inside x.here k 0 (k.tells.sent s f.here x.gives))
            (ap (λ b. b || (list_any (leaves_variable m 0) (k.values.assigned s (received_in m s ch)) && sent_fits m s e ch)) (leaves-it x.here f.here x.gives f.fails))

    assigned-fits : assigned_fits m s ch ≡ true
    assigned-fits = elim (decided (assigned_fits m s ch)) [
      | inl so ↦ so
      | inr other ↦ absurd (out (fails-at (λ w. fits_variable (slice_get m.variables w.0) w.1) (assigned m s ch) other))
    ]
      where
        right : (a b c : Bool) → b ≡ true → c ≡ true → (a || (b && c)) ≡ true
        right true b c g h = refl
        right false b c g h = λ i. g i && h i

        out : FailsAt (λ w. fits_variable (slice_get m.variables w.0) w.1) (assigned m s ch) → ⊥
        out f =
            let r : ℤ = received_in m s ch in
            let x = from-flat (λ (x : Edge). x.assigned s r) (taken m ch) f.at f.here f.is in
            let k = taken-edge x.at x.here x.is in
            let w = map-at pair_of (k.values.assigned s r) x.within f.here (ap (λ ws. slice_get ws x.within) (k.tells.assigned s r) ∙ x.gives) in
            let bad : fits_variable (slice_get m.variables w.0.variable) w.0.value ≡ false = ap (λ y. fits_variable (slice_get m.variables y.0) y.1) (sym w.2) ∙ f.fails in
            let leaves_it : leaves_variable m w.0.number w.0 ≡ true = λ i. eq-eqb w.0.number w.0.number refl i && not (bad i) in
            false-true (stays-inside x.here k w.0.number (within-values names x.here k.values k.tells s r x.within w.0 w.1))
            (right (leaves_channel m s e x.here w.0.number) _ _ (any-at (leaves_variable m w.0.number) (k.values.assigned s r) x.within w.0 w.1 leaves_it) sent-fits)

    keeps-invariants : meets_invariants m (after m s ch) ≡ true
    keeps-invariants = all-where (λ p. p (after m s ch)) m.invariants (λ k p g.
        kept (sent_fits m s e ch) (assigned_fits m s ch) (p (after m s ch)) sent-fits assigned-fits
        (any-false (λ c. choice_breaks m s e c p) (agreeing m s e) ch
        (each-empty breaks (λ x. list_any (λ c. choice_breaks m s e c x.1) (agreeing m s e)) m.invariants (right-empty (parts_role ++ parts_blocks ++ parts_sender ++ parts_receiver ++ parts_excluded ++ parts_leaves) parts_breaks none) k p g) listed))

    makes : IsTrue (makes_step m s e ch)
    makes = λ i. agreed i && sent-fits i && assigned-fits i && permitted i && keeps-invariants i

pub no-reason : (names : ℕ → Text) (m : System) (t : Told) (s : State) (e : ℕ) → HasOneRole m e → TellsOf names m t → reasons_of m t s e ≡ [] → (next : State) × (first_step m s e ≡ Some next)
no-reason names m t s e one told h =
    (elim (first_step m s e) as (λ o. first_step m s e ≡ o → (if is_some o then [] else all_reasons m t s e) ≡ [] → (next : State) × (o ≡ Some next)) [
      | None ↦ λ g none.
          let ch = some-agrees m s e one (all-can names m t s e told none) in
          absurd (first_step-none m s e g (after m s ch.0) (record { choice = ch.0; makes = makes names m t s e told none ch.0 ch.1; is_after = refl }))
      | Some next ↦ λ g none. (next, refl)
    ]) refl h
