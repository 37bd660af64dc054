-- An automaton whose alphabet is mixed has an event with two roles, and one whose alphabet isn't has none.
use Rattle.std.proofs.Common.{◌≡◌, ℕ, ◌≤◌, ◌<◌, ◌⊎◌, Bool, true, false, inl, inr, List, [], ◌∷◌, ◌++◌, length, map, filter, refl, sym, ◌∙◌, ap, subst, arith}
use Rattle.std.specs.Prelude.{◌&&◌, ◌||◌, nat_eq, flat_map, if◌then◌else◌}
use Rattle.std.specs.List.{list_any}
use Rattle.std.proofs.lemmas.Bool.Decides.{nat_tests}
use Rattle.cif_system.specs.Words.{Member}
use Rattle.cif_system.specs.System.{Role, sending, receiving}
use Rattle.cif_system.specs.Step.{same_role, is_number}
use Rattle.cif_system.proofs.Lists.{false-true}
use Rattle.cif_net_model.specs.Facts.{has}
use Rattle.cif_source.specs.Source.{AutomatonTree, automaton_body, Source}
use Rattle.cif_source.specs.Components.{Component, body_of}
use Rattle.cif_source.specs.Objects.{components_of, events, EventEdge, event_edges}
use Rattle.cif_source.specs.Step.{role_of, denotes_event, synchronises, has_role, has_edge}
use Rattle.cif_source.specs.InstanceRules.{role_count}
use Rattle.cif_inst_model.specs.Flat.{event_number, net_edge}
use Rattle.cif_inst_model.proofs.SystemLaws.{alphabet-same}
use Rattle.cif_inst_names.specs.Looking.{source_for, component_at}
use Rattle.cif_inst_names.specs.declared.looking.Looking.{Looking}
use Rattle.cif_inst_paths.specs.Names.{AreMatchedNames}
use Rattle.cif_inst_automata.specs.Edges.{automaton_edges}
use Rattle.cif_inst_automata.specs.Alphabets.{events_as, automaton_alphabet}
use Rattle.cif_inst_automata.specs.Roles.{is_mixed, AreBelow}
use Rattle.cif_inst_automata.specs.declared.alphabets.Alphabet.{Alphabet}
use Rattle.cif_inst_paths.proofs.SoundLaws.{component-listed}
use Rattle.cif_inst_paths.proofs.EventNameLaws.{Numbered}
use Rattle.cif_inst_automata.proofs.AlphabetLaws.{role_name, edge-numbered, alphabet-is, roles-are, role-below}
use Rattle.cif_inst_automata.proofs.AutomatonLaws.{sound, edges}

-- ---- tests of lists

any-told : (p : ℕ → Bool) (xs : List ℕ) → list_any p xs ≡ true → (x : ℕ) × Member x xs × (p x ≡ true)
any-told p [] h = absurd (false-true refl h)
any-told p (y ∷ ys) h =
    (elim (p y) as (λ b. p y ≡ b → (b || list_any p ys) ≡ true → (x : ℕ) × Member x (y ∷ ys) × (p x ≡ true)) [
      | true ↦ λ e g. (y, inl refl, e)
      | false ↦ λ e g. let rest = any-told p ys g in (rest.0, inr rest.1, rest.2)
    ]) refl h

any-holds : (p : ℕ → Bool) (xs : List ℕ) (x : ℕ) → Member x xs → p x ≡ true → list_any p xs ≡ true
any-holds p [] x m h = absurd m
any-holds p (y ∷ ys) x m h =
    elim m [
      | inl w ↦ ap (λ b. b || list_any p ys) (ap p (sym w) ∙ h)
      | inr w ↦ or-later (p y) (list_any p ys) (any-holds p ys x w h)
    ]
  where
    or-later : (a b : Bool) → b ≡ true → (a || b) ≡ true
    or-later true b h = refl
    or-later false b h = h

or-cases : (a b : Bool) → (a || b) ≡ true → (a ≡ true) ⊎ (b ≡ true)
or-cases true b h = inl refl
or-cases false b h = inr h

or-second : (a b : Bool) → b ≡ true → (a || b) ≡ true
or-second true b h = refl
or-second false b h = h

eq-self : (x : ℕ) → nat_eq x x ≡ true
eq-self x =
    (elim (nat_eq x x) as (λ b. nat_eq x x ≡ b → b ≡ true) [
      | true ↦ λ e. refl
      | false ↦ λ e. absurd (let g : x ≡ x → ⊥ = grind (arith, nat_tests) in g refl)
    ]) refl

eq-same : (x y : ℕ) → nat_eq x y ≡ true → y ≡ x
eq-same x y h = grind (arith, nat_tests)

has-member : (xs : List ℕ) (x : ℕ) → has xs x ≡ true → Member x xs
has-member xs x h = let y = any-told (nat_eq x) xs h in subst (λ z. Member z xs) (eq-same x y.0 y.2) y.1

member-has : (xs : List ℕ) (x : ℕ) → Member x xs → has xs x ≡ true
member-has xs x m = any-holds (nat_eq x) xs x m (eq-self x)

has-append : (xs ys : List ℕ) (x : ℕ) → has (xs ++ ys) x ≡ (has xs x || has ys x)
has-append [] ys x = refl
has-append (z ∷ xs) ys x = ap (λ b. nat_eq x z || b) (has-append xs ys x) ∙ grouped (nat_eq x z) (has xs x) (has ys x)
  where
    grouped : (a b c : Bool) → (a || (b || c)) ≡ ((a || b) || c)
    grouped true b c = refl
    grouped false b c = refl

-- ---- three roles

abbrev two_of : (s d r : Bool) → ℕ
two_of s d r = length (filter (λ b. b) (s ∷ d ∷ r ∷ []))

-- two of three are true where one of the first and the last is with the second, or both are
two-received : (s d r : Bool) → s ≡ true → r ≡ true → 2 ≤ two_of s d r
two-received true true true h g = omega arith
two-received true false true h g = omega arith
two-received true true false h g = absurd (false-true refl g)
two-received true false false h g = absurd (false-true refl g)
two-received false true true h g = absurd (false-true refl h)
two-received false true false h g = absurd (false-true refl h)
two-received false false true h g = absurd (false-true refl h)
two-received false false false h g = absurd (false-true refl h)

two-sent : (s d r : Bool) → (s || r) ≡ true → d ≡ true → 2 ≤ two_of s d r
two-sent true true true h g = omega arith
two-sent true true false h g = omega arith
two-sent false true true h g = omega arith
two-sent false true false h g = absurd (false-true refl h)
two-sent true false true h g = absurd (false-true refl g)
two-sent true false false h g = absurd (false-true refl g)
two-sent false false true h g = absurd (false-true refl g)
two-sent false false false h g = absurd (false-true refl g)

two-cases : (s d r : Bool) → 2 ≤ two_of s d r → ((s ≡ true) × (r ≡ true)) ⊎ (((s || r) ≡ true) × (d ≡ true))
two-cases true d true h = inl (refl, refl)
two-cases true true false h = inr (refl, refl)
two-cases false true true h = inr (refl, refl)
two-cases true false false h = absurd (omega (arith, h))
two-cases false true false h = absurd (omega (arith, h))
two-cases false false true h = absurd (omega (arith, h))
two-cases false false false h = absurd (omega (arith, h))

-- ---- one automaton

-- the edges in a role are for the events that its names denote
role-has : (t : Source) (c : Component) (p : Role) (e : ℕ) (ws : List EventEdge) → ((w : EventEdge) → Member w ws → Numbered t c w.event_use.name)
    → has (map (event_number c) (flat_map (role_name p) ws)) e ≡ list_any (has_role p e c) ws
role-has t c p e [] numbered = refl
role-has t c p e (w ∷ ws) numbered =
    (elim (same_role p (role_of w.event_use.role)) as (λ b. has (map (event_number c) ((if b then w.event_use.name ∷ [] else []) ++ flat_map (role_name p) ws)) e
    ≡ ((b && denotes_event e c w.event_use.name) || list_any (has_role p e c) ws)) [
      | true ↦
          ap (λ b. b || has (map (event_number c) (flat_map (role_name p) ws)) e) (turned e (event_number c w.event_use.name) ∙ sym (ap (is_number e) (numbered w (inl refl)).number))
          ∙ ap (λ b. denotes_event e c w.event_use.name || b) (role-has t c p e ws (λ v m. numbered v (inr m)))
      | false ↦ role-has t c p e ws (λ v m. numbered v (inr m))
    ])
  where
    turned : (a b : ℕ) → nat_eq a b ≡ nat_eq b a
    turned a b = grind (arith, nat_tests)

module _ (l : Looking) (h : AreMatchedNames l) (k : ℕ) (below : k < length (components_of (source_for l))) (a : AutomatonTree) (is : body_of (component_at l k) ≡ automaton_body a) where
  abbrev t : Source
  t = source_for l

  abbrev own : Component
  own = component_at l k

  abbrev alphabet : Alphabet
  alphabet = automaton_alphabet l k a

  abbrev received : List ℕ
  received = events_as receiving alphabet.used

  abbrev sent : List ℕ
  sent = events_as sending alphabet.used

  listed : Member own (components_of t)
  listed = component-listed t k below

  its-edges : automaton_edges l k a ≡ map (net_edge own) (event_edges own)
  its-edges = edges l h k below a is

  -- an edge in the role is for the event exactly where the event is among those of the role
  edge-has : (p : Role) (e : ℕ) → has (events_as p alphabet.used) e ≡ has_edge p e own
  edge-has p e = ap (λ es. has es e) (roles-are l k t (sound l h) listed a is its-edges p) ∙ role-has t own p e (event_edges own) (edge-numbered t (sound l h) own listed)

  alphabet-has : (e : ℕ) → has alphabet.events e ≡ synchronises e own
  alphabet-has e = ap (λ es. has es e) (sym (alphabet-is l k t (sound l h) listed a is its-edges)) ∙ alphabet-same own e

  -- a synchronised or received event
  either-has : (e : ℕ) → has (alphabet.events ++ received) e ≡ (synchronises e own || has_edge receiving e own)
  either-has e = has-append alphabet.events received e ∙ (λ i. alphabet-has e i || edge-has receiving e i)

  pub automaton-mixed : is_mixed alphabet ≡ true → (e : ℕ) × (2 ≤ role_count e own)
  automaton-mixed g =
      elim (or-cases (list_any (has alphabet.events) received) (list_any (has (alphabet.events ++ received)) sent) g) [
        | inl w ↦ let e = any-told (has alphabet.events) received w in (
          e.0,
          two-received (synchronises e.0 own) (has_edge sending e.0 own) (has_edge receiving e.0 own) (sym (alphabet-has e.0) ∙ e.2) (sym (edge-has receiving e.0) ∙ member-has received e.0 e.1),
        )
        | inr w ↦ let e = any-told (has (alphabet.events ++ received)) sent w in (
          e.0,
          two-sent (synchronises e.0 own) (has_edge sending e.0 own) (has_edge receiving e.0 own) (sym (either-has e.0) ∙ e.2) (sym (edge-has sending e.0) ∙ member-has sent e.0 e.1),
        )
      ]

  pub automaton-single : is_mixed alphabet ≡ false → (e : ℕ) → 2 ≤ role_count e own → ⊥
  automaton-single g e two =
      elim (two-cases (synchronises e own) (has_edge sending e own) (has_edge receiving e own) two) [
        | inl w ↦
            let found = any-holds (has alphabet.events) received e (has-member received e (edge-has receiving e ∙ w.1)) (alphabet-has e ∙ w.0) in
            false-true g (ap (λ b. b || list_any (has (alphabet.events ++ received)) sent) found)
        | inr w ↦
            let found = any-holds (has (alphabet.events ++ received)) sent e (has-member sent e (edge-has sending e ∙ w.1)) (either-has e ∙ w.0) in
            false-true g (or-second (list_any (has alphabet.events) received) (list_any (has (alphabet.events ++ received)) sent) found)
      ]

  pub automaton-below : AreBelow (length (events t)) alphabet
  automaton-below = record {
    received = role-below l k t (sound l h) listed a is its-edges receiving;
    sent = role-below l k t (sound l h) listed a is its-edges sending;
  }
