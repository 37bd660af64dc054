-- The first automaton that is found breaks the rule, and where none is found no body breaks it.
use Rattle.std.proofs.Common.{◌≡◌, ◌≢◌, ℕ, zero, suc, ◌<◌, true, false, inl, inr, List, [], ◌∷◌, ◌++◌, length, Option, Some, None, refl, sym, ◌∙◌, ap, arith}
use Rattle.std.specs.Prelude.{filter, nat_eq, slice_index_or, option_map, Err}
use Rattle.std.specs.List.{Any}
use Rattle.std.proofs.lemmas.Bool.Decides.{nat_tests}
use Rattle.cif_ast.specs.declared.names.Ident.{Ident}
use Rattle.cif_system.specs.Words.{Member}
use Rattle.cif_system.proofs.Lists.{some-same, none-some, false-true}
use Rattle.cif_system.proofs.Picks.{append-left, append-right}
use Rattle.cif_source.specs.Source.{LocationTree, AutomatonTree, SourceItem, decl_item, component_item, definition_item, instance_item, SourceBody, group_body, automaton_body, Source, no_source, source}
use Rattle.cif_source.specs.Components.{Component, whole, part, blank, body_of, written_name}
use Rattle.cif_source.specs.Objects.{bodies, bodies_in, bodies_at, bodies_under, is_automaton, locs_in}
use Rattle.cif_source.proofs.ComponentLaws.{append-cases}
use Rattle.cif_source.specs.BodyRules.{HasInitials, InitialsDue, initial_count, name_at}
use Rattle.cif_types.specs.Initials.{Counted, unless, unless_one, or_later, initials_in, item_initials, body_initials}
use Rattle.cif_types.specs.Initials.{Tells}
use Rattle.cif_types.specs.Kinds.{due}
use Rattle.cif_types.specs.declared.error.TypeErr.{TypeErr}
use Rattle.cif_types.specs.declared.error.TypeErr.TheVariants.{Mismatch, NotConstant, Initials, NotOwn, AssignedTwice, Equations, Memory}

-- ---- elements

from-any : {A : Type 0} (P : A → Type 0) (xs : List A) → Any P xs → (x : A) × Member x xs × P x
from-any P xs a = (a.1, at xs a.0 a.1 a.2 a.3, a.4)
  where
    at : {A : Type 0} (xs : List A) (k : ℕ) (x : A) → k < length xs → slice_index_or xs k x ≡ x → Member x xs
    at [] k x lt is = absurd (omega (arith, lt))
    at (y ∷ ys) zero x lt is = inl (sym is)
    at (y ∷ ys) (suc k) x lt is = inr (at ys k x (omega (arith, lt)) is)

to-any : {A : Type 0} (P : A → Type 0) (x : A) (xs : List A) → Member x xs → P x → Any P xs
to-any P x [] m p = absurd m
to-any P x (y ∷ ys) m p =
    elim m [
      | inl w ↦ (0, x, omega arith, sym w, p)
      | inr w ↦ let rest = to-any P x ys w p in (suc rest.0, rest.1, omega (arith, rest.2), rest.3, rest.4)
    ]

-- ---- one automaton

-- it has these initial locations, and not one
one-told : (at k : ℕ) (z : Counted) → unless_one at k ≡ Some z → (at ≡ z.0) × (z.1 ≡ k) × (k ≢ 1)
one-told at k z h =
    (elim (nat_eq k 1) as (λ b. nat_eq k 1 ≡ b → unless b (at, k) ≡ Some z → (at ≡ z.0) × (z.1 ≡ k) × (k ≢ 1)) [
      | true ↦ λ e g. absurd (none-some z g)
      | false ↦ λ e g. let same = some-same (at, k) z g in (ap (λ (y : Counted). y.0) same, sym (ap (λ (y : Counted). y.1) same), λ one. false-true e (ap (λ y. nat_eq y 1) one))
    ]) refl h

one-kept : (at k : ℕ) → unless_one at k ≡ None → k ≡ 1
one-kept at k h =
    (elim (nat_eq k 1) as (λ b. nat_eq k 1 ≡ b → unless b (at, k) ≡ None → k ≡ 1) [
      | true ↦ λ e g. grind (arith, nat_tests)
      | false ↦ λ e g. absurd (none-some (at, k) (sym g))
    ]) refl h

-- ---- all bodies

later-kept : (o r : Option Counted) → or_later o r ≡ None → (o ≡ None) × (r ≡ None)
later-kept None r h = (refl, h)
later-kept (Some x) r h = absurd (none-some x (sym h))

-- a body, and its name
abbrev Breaks : ℕ → ℕ → List Component → Type 0
Breaks at count cs = (a : Component) × Member a cs × HasInitials a at count

counts : (c : Component) (a : AutomatonTree) → body_of c ≡ automaton_body a → initial_count c ≡ length (filter (λ (l : LocationTree). l.initial) a.locs)
counts c a e = ap (λ b. length (filter (λ (l : LocationTree). l.initial) (locs_in b))) e

named : (c : Component) (n : Ident) (at : ℕ) → written_name c ≡ Some n → n.at ≡ at → name_at c ≡ Some at
named c n at f e = ap (λ o. option_map (λ (m : Ident). m.at) o) f ∙ ap Some e

mutual
  items-told : (is : Source) (c : Component) (at count : ℕ) → initials_in is ≡ Some (at, count) → Breaks at count (bodies_in c is)
  items-told no_source c at count h = absurd (none-some (at, count) h)
  items-told (source i is) c at count h =
      (elim (item_initials i) as (λ o. item_initials i ≡ o → or_later o (initials_in is) ≡ Some (at, count) → Breaks at count (bodies_at c i ++ bodies_in c is)) [
        | None ↦ λ e g. let w = items-told is c at count g in (w.0, append-right w.0 (bodies_at c i) (bodies_in c is) w.1, w.2)
        | Some x ↦ λ e g. let w = item-told i c at count (e ∙ g) in (w.0, append-left w.0 (bodies_at c i) (bodies_in c is) w.1, w.2)
      ]) refl h

  item-told : (i : SourceItem) (c : Component) (at count : ℕ) → item_initials i ≡ Some (at, count) → Breaks at count (bodies_at c i)
  item-told (decl_item d) c at count h = absurd (none-some (at, count) h)
  item-told (instance_item j) c at count h = absurd (none-some (at, count) h)
  item-told (component_item n b) c at count h = body-told b (part c n b) n at count refl refl h
  item-told (definition_item n ps b) c at count h = body-told b (blank c n ps b) n at count refl refl h

  body-told : (b : SourceBody) (c : Component) (n : Ident) (at count : ℕ) → body_of c ≡ b → written_name c ≡ Some n → body_initials n b ≡ Some (at, count) → Breaks at count (c ∷ bodies_under c b)
  body-told (group_body is) c n at count e f h = let w = items-told is c at count h in (w.0, inr w.1, w.2)
  body-told (automaton_body a) c n at count e f h =
      let told = one-told n.at (length (filter (λ (l : LocationTree). l.initial) a.locs)) (at, count) h in (
        c,
        inl refl,
        record {
          automaton = ap is_automaton e;
          named = named c n at f told.0;
          counted = told.1 ∙ sym (counts c a e);
          other = λ one. told.2 (sym told.1 ∙ one);
        },
      )

mutual
  items-kept : (is : Source) (c x : Component) (at count : ℕ) → initials_in is ≡ None → Member x (bodies_in c is) → HasInitials x at count → ⊥
  items-kept no_source c x at count h m bad = absurd m
  items-kept (source i is) c x at count h m bad =
      let both = later-kept (item_initials i) (initials_in is) h in
      elim (append-cases x (bodies_at c i) (bodies_in c is) m) [
        | inl w ↦ item-kept i c x at count both.0 w bad
        | inr w ↦ items-kept is c x at count both.1 w bad
      ]

  item-kept : (i : SourceItem) (c x : Component) (at count : ℕ) → item_initials i ≡ None → Member x (bodies_at c i) → HasInitials x at count → ⊥
  item-kept (decl_item d) c x at count h m bad = absurd m
  item-kept (instance_item j) c x at count h m bad = absurd m
  item-kept (component_item n b) c x at count h m bad = body-kept b (part c n b) n x at count refl h m bad
  item-kept (definition_item n ps b) c x at count h m bad = body-kept b (blank c n ps b) n x at count refl h m bad

  body-kept : (b : SourceBody) (c : Component) (n : Ident) (x : Component) (at count : ℕ) → body_of c ≡ b → body_initials n b ≡ None → Member x (c ∷ bodies_under c b) → HasInitials x at count → ⊥
  body-kept (group_body is) c n x at count e h m bad =
      elim m [
        | inl w ↦ false-true (ap is_automaton (ap body_of w ∙ e)) bad.automaton
        | inr w ↦ items-kept is c x at count h w bad
      ]
  body-kept (automaton_body a) c n x at count e h m bad =
      elim m [
        | inl w ↦ bad.other (bad.counted ∙ counts x a (ap body_of w ∙ e) ∙ one-kept n.at (length (filter (λ (l : LocationTree). l.initial) a.locs)) h)
        | inr w ↦ absurd w
      ]

-- where none is found, each automaton has one
pub started : (t : Source) → initials_in t ≡ None → (at count : ℕ) → InitialsDue t at count → ⊥
started t h at count due =
    let a = from-any (λ a. HasInitials a at count) (bodies t) due in
    elim a.1 [
      | inl w ↦ false-true (ap (λ c. is_automaton (body_of c)) w) a.2.automaton
      | inr w ↦ items-kept t (whole t) a.0 at count h w a.2
    ]

-- what is told is due
pub told : (t : Source) (e : TypeErr) → Tells (Err e) (initials_in t) → due t e
told t Memory h = tt
told t (Initials at count) h = let w = items-told t (whole t) at count h in to-any (λ a. HasInitials a at count) w.0 (bodies t) (inr w.1) w.2
told t (Mismatch at) h = absurd h
told t (NotConstant at) h = absurd h
told t (NotOwn at) h = absurd h
told t (AssignedTwice at) h = absurd h
told t (Equations at count) h = absurd h
