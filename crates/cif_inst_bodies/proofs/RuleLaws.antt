-- The other rules on bodies, as facts about components: they have the body of the component as written.
use Rattle.std.proofs.Common.{◌≡◌, Bool, ℕ, true, false, ◌⊎◌, inl, inr, List, Option, Some, refl, sym, ◌∙◌, ap, subst, arith}
use Rattle.std.specs.Prelude.{flat_map, nat_eq}
use Rattle.std.specs.List.{Any, Contains}
use Rattle.std.proofs.lemmas.Bool.Decides.{nat_tests}
use Rattle.cif_ast.specs.Tree.{Tree}
use Rattle.cif_ast.specs.declared.names.Ident.{Ident}
use Rattle.cif_system.specs.Words.{Member}
use Rattle.cif_system.proofs.Lists.{false-true}
use Rattle.cif_source.specs.Source.{Text, UseTree, EdgeTree, SourceBody, Source}
use Rattle.cif_source.specs.Components.{Component, whole, part, blank, copy, as_written, body_of, params_of}
use Rattle.cif_source.specs.Objects.{bodies, is_automaton}
use Rattle.cif_source.specs.Uses.{OwnName, own_ident, own_names, own_sought}
use Rattle.cif_source.specs.Demands.{event_channel, is_unfit}
use Rattle.cif_source.specs.BodyRules.{edges_of, MismatchDue, BadValue, BadUse, BadArgument, initial_count, name_at, HasInitials, InitialsDue, algs_of, definition_counts, EquationsDue}
use Rattle.cif_net_model.proofs.Passing.{all-member}
use Rattle.cif_inst_model.specs.Bodies.{every_body}
use Rattle.cif_inst_model.proofs.RuleLaws.{member-any}
use Rattle.cif_inst_bodies.specs.Alike.{AreWrittenAlike, AreAlike}
use Rattle.cif_inst_bodies.proofs.Alike.{twice, body-written, params-written, in_scope-written, alike-places}
use Rattle.cif_inst_bodies.proofs.DemandLaws.{body-same, channel-same}

pub parts-same : (c d : Component) → AreWrittenAlike c d → (body_of c ≡ body_of d) × (params_of c ≡ params_of d)
parts-same c d h = (body-same c d h, sym (params-written c) ∙ ap params_of h ∙ params-written d)

-- ---- names of the own scope

own-written : (c : Component) → own_names (as_written c) ≡ own_names c
own-written (whole is) = refl
own-written (part o n b) = refl
own-written (blank o n ps b) = refl
own-written (copy o n ps b g i) = refl

pub own-same : (c d : Component) → AreWrittenAlike c d → own_names c ≡ own_names d
own-same c d h = sym (own-written c) ∙ ap own_names h ∙ own-written d

pub own-alike : (c d : Component) → AreWrittenAlike c d → (n : OwnName) → AreAlike (own_sought c n) (own_sought d n)
own-alike c d h n =
    alike-places (own_sought c n) (own_sought d n)
    (in_scope-written c (own_ident n).text ∙ ap (λ w. own_sought w n) h ∙ sym (in_scope-written d (own_ident n).text))

-- ---- uses of events

uses-written : (c : Component) → edges_of (as_written c) ≡ edges_of c
uses-written (whole is) = refl
uses-written (part o n b) = refl
uses-written (blank o n ps b) = refl
uses-written (copy o n ps b g i) = refl

abbrev edge_uses_of : Component → List UseTree
edge_uses_of c = flat_map (λ (e : EdgeTree). e.uses) (edges_of c)

-- a use of an event fits what is sent along it
pub uses-fit : (t : Source) → ((at : ℕ) → MismatchDue t at → ⊥) → (c : Component) → Member (as_written c) (bodies t) → (u : UseTree) → Member u (flat_map (λ (e : EdgeTree). e.uses) (edges_of c)) → is_unfit u.role (event_channel c u.name) ≡ false
uses-fit t matched c w u m =
    (elim (is_unfit u.role (event_channel c u.name)) as (λ b. is_unfit u.role (event_channel c u.name) ≡ b → b ≡ false) [
      | false ↦ λ g. refl
      | true ↦ λ g. absurd (matched u.name.at (member-any (λ d. BadValue d u.name.at ⊎ BadUse d u.name.at ⊎ BadArgument d u.name.at) (as_written c) (bodies t) w
          (inr (inl (member-any (λ (x : UseTree). (x.name.at ≡ u.name.at) × (is_unfit x.role (event_channel (as_written c) x.name) ≡ true)) u (edge_uses_of (as_written c))
          (subst (λ es. Member u (flat_map (λ (e : EdgeTree). e.uses) es)) (sym (uses-written c)) m)
          (refl, ap (is_unfit u.role) (sym (channel-same c (as_written c) (sym (twice c)) u.name)) ∙ g))))))
    ]) refl

-- ---- counts

not-one : (n : ℕ) → nat_eq n 1 ≡ false → n ≡ 1 → ⊥
not-one n h e = false-true h (ap (λ k. nat_eq k 1) e)

-- the place of its name, for an automaton
named-at : (c : Component) → is_automaton (body_of c) ≡ true → (at : ℕ) × (name_at (as_written c) ≡ Some at)
named-at (whole is) h = absurd (false-true refl h)
named-at (part o n b) h = (n.at, refl)
named-at (blank o n ps b) h = (n.at, refl)
named-at (copy o n ps b g i) h = (n.at, refl)

count-written : (c : Component) → initial_count (as_written c) ≡ initial_count c
count-written (whole is) = refl
count-written (part o n b) = refl
count-written (blank o n ps b) = refl
count-written (copy o n ps b g i) = refl

pub initial-one : (t : Source) → ((at count : ℕ) → InitialsDue t at count → ⊥) → (c : Component) → Member (as_written c) (bodies t) → is_automaton (body_of c) ≡ true → initial_count c ≡ 1
initial-one t begun c w h =
    (elim (nat_eq (initial_count c) 1) as (λ b. nat_eq (initial_count c) 1 ≡ b → initial_count c ≡ 1) [
      | true ↦ λ g. grind (arith, nat_tests)
      | false ↦ λ g.
          let at = named-at c h in
          absurd (begun at.0 (initial_count c) (member-any (λ a. HasInitials a at.0 (initial_count c)) (as_written c) (bodies t) w
          (record { automaton = ap is_automaton (body-same (as_written c) c (twice c)) ∙ h; named = at.1; counted = sym (count-written c); other = not-one (initial_count c) g })))
    ]) refl

counts-written : (c : Component) (x : Text) (e : Option Tree) → definition_counts (as_written c) x e ≡ definition_counts c x e
counts-written (whole is) x e = refl
counts-written (part o n b) x e = refl
counts-written (blank o n ps b) x e = refl
counts-written (copy o n ps b g i) x e = refl

algs-written : (c : Component) → algs_of (as_written c) ≡ algs_of c
algs-written (whole is) = refl
algs-written (part o n b) = refl
algs-written (blank o n ps b) = refl
algs-written (copy o n ps b g i) = refl

-- an algebraic variable of a component has one definition, or one in each location
pub defined-once : (t : Source) → ((at count : ℕ) → EquationsDue t at count → ⊥) → (c : Component) → Member (as_written c) (bodies t)
    → (a : Ident × Option Tree) → Member a (algs_of c) → (n : ℕ) → Contains (definition_counts c a.0.text a.1) n → n ≡ 1
defined-once t balanced c w a m n k =
    (elim (nat_eq n 1) as (λ b. nat_eq n 1 ≡ b → n ≡ 1) [
      | true ↦ λ g. grind (arith, nat_tests)
      | false ↦ λ g. absurd (balanced a.0.at n (member-any (λ d. Any (λ (x : Ident × Option Tree). (x.0.at ≡ a.0.at) × Contains (definition_counts d x.0.text x.1) n × (n ≡ 1 → ⊥)) (algs_of d)) (as_written c) (bodies t) w
          (member-any (λ (x : Ident × Option Tree). (x.0.at ≡ a.0.at) × Contains (definition_counts (as_written c) x.0.text x.1) n × (n ≡ 1 → ⊥)) a (algs_of (as_written c))
          (subst (Member a) (sym (algs-written c)) m)
          (refl, subst (λ ns. Contains ns n) (sym (counts-written c a.0.text a.1)) k, not-one n g))))
    ]) refl

-- what the body of each body passes, that of each component does
pub bodies-pass : (t : Source) (test : SourceBody → Bool) → every_body test t ≡ true → (c : Component) → Member (as_written c) (bodies t) → test (body_of c) ≡ true
bodies-pass t test all c w = ap test (sym (body-written c)) ∙ all-member (λ d. test (body_of d)) (bodies t) (as_written c) all w
