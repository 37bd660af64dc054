-- What is found of the roles of events breaks their rule, and where nothing is found the rule is kept.
use Rattle.std.proofs.Common.{◌≡◌, ℕ, suc, zero, ◌+◌, ◌≤◌, ◌<◌, true, false, inl, inr, List, [], ◌∷◌, ◌++◌, length, map, Option, Some, None, refl, sym, ◌∙◌, ap, subst}
use Rattle.std.specs.Prelude.{slice_get, unwrap_or, if◌then◌else◌}
use Rattle.std.proofs.lemmas.List.{map-append}
use Rattle.cif_system.specs.Words.{Member}
use Rattle.cif_system.proofs.Lists.{false-true, some-same, none-some, slice_get-below, filter-member, filter-passes}
use Rattle.cif_system.proofs.Distinct.{member-append}
use Rattle.cif_system.proofs.Picks.{at-member}
use Rattle.cif_source.specs.Source.{SourceItem, decl_item, component_item, definition_item, instance_item, SourceBody, group_body, automaton_body, Source, no_source, source}
use Rattle.cif_source.specs.Components.{Component, whole, part, blank, copy, as_written, body_of}
use Rattle.cif_source.specs.Objects.{components_of, automata, is_automaton, bodies, bodies_in, bodies_at, bodies_under, events}
use Rattle.cif_source.specs.BodyRules.{name_at}
use Rattle.cif_source.specs.InstanceRules.{role_count, RoleMixedDue}
use Rattle.cif_inst_components.specs.Numbers.{IsNumber}
use Rattle.cif_inst_model.proofs.RuleLaws.{member-any}
use Rattle.cif_inst_model.proofs.StandingLaws.{any-member}
use Rattle.cif_inst_names.specs.Looking.{or_whole, source_for, component_at}
use Rattle.cif_inst_names.specs.declared.looking.Looking.{Looking}
use Rattle.cif_inst_paths.specs.Names.{AreMatchedNames}
use Rattle.cif_inst_paths.specs.Rows.{RowTree, body_number, row_for, rows_of}
use Rattle.cif_inst_automata.specs.Alphabets.{automaton_alphabet, body_alphabets, rows_alphabets}
use Rattle.cif_inst_automata.specs.BodyNames.{places_in, places_at, places_under, all_places}
use Rattle.cif_inst_automata.specs.Roles.{is_mixed, first_mixed, mixed_place, tells_mixed, AreBelow, AreAllBelow}
use Rattle.cif_inst_automata.specs.Rules.{due}
use Rattle.cif_inst_automata.specs.declared.alphabets.Alphabet.{Alphabet}
use Rattle.cif_inst_automata.specs.declared.error.AutomataErr.{AutomataErr}
use Rattle.cif_inst_automata.specs.declared.error.AutomataErr.TheVariants.{AlphabetLacks, RoleMixed, Memory}
use Rattle.cif_inst_paths.proofs.SoundLaws.{body-numbered, From, from-here, from-next, all-components}
use Rattle.cif_inst_automata.proofs.UseLaws.{automaton-listed}
use Rattle.cif_inst_automata.proofs.RoleLaws.{automaton-mixed, automaton-single, automaton-below}

-- ---- where names stand

-- the place of its name, and 0 for the specification
abbrev place_of_name : Component → ℕ
place_of_name c = unwrap_or (name_at c) 0

mutual
  places-in : (c : Component) (is : Source) → map place_of_name (bodies_in c is) ≡ places_in is
  places-in c no_source = refl
  places-in c (source i is) = map-append place_of_name (bodies_at c i) (bodies_in c is) ∙ (λ j. places-at c i j ++ places-in c is j)

  places-at : (c : Component) (i : SourceItem) → map place_of_name (bodies_at c i) ≡ places_at i
  places-at c (decl_item d) = refl
  places-at c (component_item n b) = ap (λ xs. n.at ∷ xs) (places-under (part c n b) b)
  places-at c (definition_item n ps b) = ap (λ xs. n.at ∷ xs) (places-under (blank c n ps b) b)
  places-at c (instance_item j) = refl

  places-under : (c : Component) (b : SourceBody) → map place_of_name (bodies_under c b) ≡ places_under b
  places-under c (group_body is) = places-in c is
  places-under c (automaton_body a) = refl

all-places : (t : Source) → map place_of_name (bodies t) ≡ all_places t
all-places t = ap (λ xs. 0 ∷ xs) (places-in (whole t) t)

mapped-at : {A B : Type 0} (f : A → B) (xs : List A) (k : ℕ) (x : A) → slice_get xs k ≡ Some x → slice_get (map f xs) k ≡ Some (f x)
mapped-at f [] k x h = cc
mapped-at f (y ∷ xs) zero x h = cc
mapped-at f (y ∷ xs) (suc k) x h = mapped-at f xs k x h

named-written : (c : Component) → is_automaton (body_of c) ≡ true → name_at c ≡ Some (place_of_name (as_written c))
named-written (whole is) h = absurd (false-true refl h)
named-written (part o n b) h = refl
named-written (blank o n ps b) h = refl
named-written (copy o n ps b g i) h = refl

-- ---- one of the components

-- an event has two roles there
abbrev Mixes : Component → Type 0
Mixes c = (e : ℕ) × (2 ≤ role_count e c)

-- component k is an automaton in which an event has two roles
record IsMixed (t : Source) (k : ℕ) : Type 0 where
  pub component : Component
  pub number : IsNumber t k component
  pub automaton : is_automaton (body_of component) ≡ true
  pub mixes : Mixes component

module _ (l : Looking) (h : AreMatchedNames l) where
  abbrev t : Source
  t = source_for l

  -- with the alphabets of later components
  body-told : (k : ℕ) → k < length (components_of t) → (c : Component) → IsNumber t k c → component_at l k ≡ c → (b : SourceBody) → body_of (component_at l k) ≡ b → (rest : List Alphabet) (j : ℕ)
      → (first_mixed rest ≡ Some j → IsMixed t j) → first_mixed (body_alphabets l k b ++ rest) ≡ Some j → IsMixed t j
  body-told k below c here same (group_body is) e rest j later g = later g
  body-told k below c here same (automaton_body a) e rest j later g =
      (elim (is_mixed (automaton_alphabet l k a)) as (λ b. is_mixed (automaton_alphabet l k a) ≡ b → (if b then Some k else first_mixed rest) ≡ Some j → IsMixed t j) [
        | true ↦ λ mixed at.
            subst (IsMixed t) (some-same k j at)
            (record { component = c; number = here; automaton = ap (λ d. is_automaton (body_of d)) (sym same) ∙ ap is_automaton e; mixes = subst Mixes same (automaton-mixed l h k below a e mixed) })
        | false ↦ λ mixed at. later at
      ]) refl g

  rows-told : (cs : List Component) (k j : ℕ) → From t cs k → first_mixed (rows_alphabets l k (map row_for cs)) ≡ Some j → IsMixed t j
  rows-told [] k j from g = absurd (none-some j g)
  rows-told (c ∷ cs) k j from g =
      let here : IsNumber t k c = from-here t c cs k from in
      let same : component_at l k ≡ c = ap (or_whole t) here in
      body-told k (slice_get-below (components_of t) k c here) c here same (body_of c) (ap body_of same) (rows_alphabets l (k + 1) (map row_for cs)) j (rows-told cs (k + 1) j (from-next t c cs k from)) g

  -- an automaton whose alphabet is not the one that is found
  body-single : (k : ℕ) → k < length (components_of t) → (b : SourceBody) → body_of (component_at l k) ≡ b → (rest : List Alphabet) → first_mixed (body_alphabets l k b ++ rest) ≡ None
      → (first_mixed rest ≡ None) × (is_automaton b ≡ true → Mixes (component_at l k) → ⊥)
  body-single k below (group_body is) e rest g = (g, λ x y. false-true refl x)
  body-single k below (automaton_body a) e rest g =
      (elim (is_mixed (automaton_alphabet l k a)) as (λ b. is_mixed (automaton_alphabet l k a) ≡ b → (if b then Some k else first_mixed rest) ≡ None → (first_mixed rest ≡ None) × (is_automaton (automaton_body a) ≡ true → Mixes (component_at l k) → ⊥)) [
        | true ↦ λ mixed at. absurd (none-some k (sym at))
        | false ↦ λ mixed at. (at, λ x y. automaton-single l h k below a e mixed y.0 y.1)
      ]) refl g

  rows-single : (cs : List Component) (k : ℕ) → From t cs k → first_mixed (rows_alphabets l k (map row_for cs)) ≡ None → (c : Component) → Member c cs → is_automaton (body_of c) ≡ true → Mixes c → ⊥
  rows-single [] k from g x m a = absurd m
  rows-single (c ∷ cs) k from g x m a =
      let here : IsNumber t k c = from-here t c cs k from in
      let same : component_at l k ≡ c = ap (or_whole t) here in
      let both = body-single k (slice_get-below (components_of t) k c here) (body_of c) (ap body_of same) (rows_alphabets l (k + 1) (map row_for cs)) g in
      elim m [
        | inl w ↦ λ y. both.1 (ap (λ d. is_automaton (body_of d)) (sym w) ∙ a) (subst Mixes (w ∙ sym same) y)
        | inr w ↦ rows-single cs (k + 1) (from-next t c cs k from) both.0 x w a
      ]

  -- ---- all

  -- its name stands where that of its body stands
  named-at : (k : ℕ) (c : Component) → IsNumber t k c → is_automaton (body_of c) ≡ true → name_at c ≡ mixed_place l (Some k)
  named-at k c here a =
      named-written c a
      ∙ sym (mapped-at place_of_name (bodies t) (body_number l.components.now.all k) (as_written c) (body-numbered t l.components.now.all h.names.components.all k c here))
      ∙ ap (λ xs. slice_get xs (body_number l.components.now.all k)) (all-places t)

  place-told : (o : Option ℕ) (at : ℕ) → mixed_place l o ≡ Some at → (k : ℕ) × (o ≡ Some k) × (mixed_place l (Some k) ≡ Some at)
  place-told None at g = absurd (none-some at g)
  place-told (Some k) at g = (k, refl, g)

  mixed-due : (at : ℕ) → mixed_place l (first_mixed (rows_alphabets l 0 (rows_of t))) ≡ Some at → RoleMixedDue t at
  mixed-due at g =
      let k = place-told (first_mixed (rows_alphabets l 0 (rows_of t))) at g in
      let c = rows-told (components_of t) 0 k.0 (all-components t) k.1 in
      member-any (λ a. (name_at a ≡ Some at) × Mixes a) c.component (automata t)
      (filter-member (λ c. is_automaton (body_of c)) (components_of t) c.component (at-member (components_of t) k.0 c.component c.number) c.automaton)
      (named-at k.0 c.component c.number c.automaton ∙ k.2, c.mixes)

  pub roles_kept : (all : List Alphabet) (rows : List RowTree) → all ≡ rows_alphabets l 0 rows → rows ≡ rows_of t → first_mixed all ≡ None → (at : ℕ) → RoleMixedDue t at → ⊥
  roles_kept all rows found are none at due =
      let c = any-member (λ a. (name_at a ≡ Some at) × Mixes a) (automata t) due in
      rows-single (components_of t) 0 (all-components t) (sym (ap first_mixed (found ∙ ap (rows_alphabets l 0) are)) ∙ none) c.0 (automaton-listed t c.0 c.1) (filter-passes (λ c. is_automaton (body_of c)) (components_of t) c.0 c.1) c.2.1

  pub mixed_told : (all : List Alphabet) (rows : List RowTree) (e : AutomataErr) → all ≡ rows_alphabets l 0 rows → rows ≡ rows_of t → tells_mixed e (mixed_place l (first_mixed all)) → due t e
  mixed_told all rows (RoleMixed at) found are told = mixed-due at (sym (ap (λ xs. mixed_place l (first_mixed xs)) (found ∙ ap (rows_alphabets l 0) are)) ∙ told)
  mixed_told all rows (AlphabetLacks at) found are told = absurd told
  mixed_told all rows Memory found are told = tt

  -- ---- the numbers of events there

  body-below : (k : ℕ) → k < length (components_of t) → (b : SourceBody) → body_of (component_at l k) ≡ b → AreAllBelow (length (events t)) (body_alphabets l k b)
  body-below k below (group_body is) e a m = absurd m
  body-below k below (automaton_body x) e a m = elim m [ inl w ↦ subst (AreBelow (length (events t))) (sym w) (automaton-below l h k below x e) | inr w ↦ absurd w ]

  rows-below : (cs : List Component) (k : ℕ) → From t cs k → AreAllBelow (length (events t)) (rows_alphabets l k (map row_for cs))
  rows-below [] k from a m = absurd m
  rows-below (c ∷ cs) k from a m =
      let here : IsNumber t k c = from-here t c cs k from in
      elim (member-append a (body_alphabets l k (body_of c)) (rows_alphabets l (k + 1) (map row_for cs)) m) [
        | inl w ↦ body-below k (slice_get-below (components_of t) k c here) (body_of c) (ap (λ o. body_of (or_whole t o)) here) a w
        | inr w ↦ rows-below cs (k + 1) (from-next t c cs k from) a w
      ]

  pub all_below : (all : List Alphabet) (rows : List RowTree) (count : ℕ) → all ≡ rows_alphabets l 0 rows → rows ≡ rows_of t → count ≡ length (events t) → AreAllBelow count all
  all_below all rows count found are as_many =
      subst (λ n. AreAllBelow n all) (sym as_many) (subst (AreAllBelow (length (events t))) (sym (found ∙ ap (rows_alphabets l 0) are)) (rows-below (components_of t) 0 (all-components t)))
