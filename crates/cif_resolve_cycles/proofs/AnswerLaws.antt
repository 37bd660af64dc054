-- The answers of the searches in the two graphs.
use Rattle.std.proofs.Common.{◌≡◌, ℕ, ◌⊎◌, List, length, inl, inr, sym, subst, ◌∙◌, Option, Some, None}
use Rattle.std.specs.Prelude.{Result, Ok, Err, IfOk}
use Rattle.std.specs.List.{Any}
use Rattle.cif_base.specs.declared.memory.Memory.{Memory}
use Rattle.cif_system.specs.Words.{Chain}
use Rattle.cif_ast.specs.declared.names.Ident.{Ident}
use Rattle.cif_source.specs.Source.{Source}
use Rattle.cif_source.specs.Components.{Component, Entry, scope_of}
use Rattle.cif_source.specs.Objects.{bodies}
use Rattle.cif_source.specs.Scoping.{ReachesDefinition, ReachesType, ReachesItself, DefinitionCycleDue}
use Rattle.cif_order.specs.Graph.{AreInside}
use Rattle.cif_order.proofs.OrderLaws.{order-rank}
use Rattle.cif_scope.specs.declared.scopes.Scopes.{Scopes}
use Rattle.cif_scope.specs.Scopes.{AreNumbered}
use Rattle.cif_scope.specs.Written.{written_bodies}
use Rattle.cif_scope.proofs.IndexLaws.{any-of, of-any}
use Rattle.cif_resolve_cycles.specs.Bodies.{body_graph, definition_places, nearest}
use Rattle.cif_resolve_cycles.specs.Names.{name_graph, place_of}
use Rattle.cif_resolve_cycles.specs.Answers.{IsOneOf, IsCyclicNode, CycleBy, DefinitionCycle, TypeCycle}
use Rattle.cif_resolve_cycles.proofs.BodyNeeds.{body-needs-inside}
use Rattle.cif_resolve_cycles.proofs.DefinitionLaws as definitions
use Rattle.cif_resolve_cycles.proofs.NameLaws as names

one-of : (P : ℕ → Type 0) (o : Option ℕ) → (at : ℕ) × (o ≡ Some at) × P at → IsOneOf P o
one-of P o h = subst (λ p. IsOneOf P p) (sym h.1) h.2

module _ (t : Source) (s : Scopes) (are : AreNumbered t s) where
  pub bodies-inside : (g : List (List ℕ)) → g ≡ body_graph s → AreInside g
  bodies-inside g e = subst (λ (n : List (List ℕ)). AreInside n) (sym e) (body-needs-inside t s are)

  pub names-inside : (g : List (List ℕ)) → g ≡ name_graph s (written_bodies t) → AreInside g
  names-inside g e = subst (λ (n : List (List ℕ)). AreInside n) (sym e) (names.name-needs-inside t s are)

  pub definition-told : (g : List (List ℕ)) (places : List (Option ℕ)) (k : ℕ) (node o : Option ℕ) → g ≡ body_graph s → places ≡ definition_places t → IsCyclicNode g node → node ≡ Some k
      → o ≡ nearest s.table places (length s.table.scopes) k → IsOneOf (DefinitionCycle t) o
  definition-told g places k node o e f h is n =
      let cyclic : IsCyclicNode (body_graph s) (Some k) = subst (λ (l : List (List ℕ)). IsCyclicNode l (Some k)) e (subst (λ m. IsCyclicNode g m) is h) in
      let w = definitions.cyclic-told t s are k cyclic in
      one-of (DefinitionCycle t) o (w.0, n ∙ subst (λ (l : List (Option ℕ)). nearest s.table l (length s.table.scopes) k ≡ Some w.0) (sym f) w.1, w.2)

  pub no-definition : (g : List (List ℕ)) (node : Option ℕ) → g ≡ body_graph s → IsCyclicNode g node → node ≡ None → (at : ℕ) → DefinitionCycle t at → ⊥
  no-definition g node e h is =
      let order : IsCyclicNode (body_graph s) None = subst (λ (l : List (List ℕ)). IsCyclicNode l None) e (subst (λ m. IsCyclicNode g m) is h) in
      let rank = order-rank (body_graph s) order.0 order.1 in
      definitions.definitions-acyclic t s are rank.0 rank.1

  pub type-told : (g : List (List ℕ)) (m : ℕ) (node o : Option ℕ) → g ≡ name_graph s (written_bodies t) → IsCyclicNode g node → node ≡ Some m → o ≡ place_of s.table.scopes m → IsOneOf (TypeCycle t) o
  type-told g m node o e h is n =
      let cyclic : IsCyclicNode (name_graph s (written_bodies t)) (Some m) = subst (λ (l : List (List ℕ)). IsCyclicNode l (Some m)) e (subst (λ i. IsCyclicNode g i) is h) in
      let w = names.cyclic-told t s are m cyclic in
      one-of (TypeCycle t) o (w.0, n ∙ w.1, w.2)

  pub no-type : (g : List (List ℕ)) (node : Option ℕ) → g ≡ name_graph s (written_bodies t) → IsCyclicNode g node → node ≡ None → (at : ℕ) → TypeCycle t at → ⊥
  no-type g node e h is =
      let order : IsCyclicNode (name_graph s (written_bodies t)) None = subst (λ (l : List (List ℕ)). IsCyclicNode l None) e (subst (λ i. IsCyclicNode g i) is h) in
      let rank = order-rank (name_graph s (written_bodies t)) order.0 order.1 in
      names.types-acyclic t s are rank.0 rank.1

-- ---- both

module _ (t : Source) where
  in-scopes : (R Q : ℕ → Component → Ident × Entry → Type 0) (at : ℕ) → ((c : Component) (e : Ident × Entry) → R at c e → Q at c e)
      → Any (λ c. Any (R at c) (scope_of c)) (bodies t) → Any (λ c. Any (Q at c) (scope_of c)) (bodies t)
  in-scopes R Q at f h =
      let w = of-any (λ c. Any (R at c) (scope_of c)) (bodies t) h in
      let v = of-any (R at w.1) (scope_of w.1) w.3 in
      any-of (λ c. Any (Q at c) (scope_of c)) (bodies t) w.0 w.1 w.2 (any-of (Q at w.1) (scope_of w.1) v.0 v.1 v.2 (f w.1 v.1 v.3))

  definition-due : (at : ℕ) → DefinitionCycle t at → DefinitionCycleDue t at
  definition-due at h = in-scopes (λ n c e. (e.0.at ≡ n) × Chain ReachesDefinition (c, e.1) (c, e.1)) (λ n c e. (e.0.at ≡ n) × ReachesItself (c, e.1)) at (λ c e g. (g.0, inl g.1)) h

  type-due : (at : ℕ) → TypeCycle t at → DefinitionCycleDue t at
  type-due at h = in-scopes (λ n c e. (e.0.at ≡ n) × Chain ReachesType (c, e.1) (c, e.1)) (λ n c e. (e.0.at ≡ n) × ReachesItself (c, e.1)) at (λ c e g. (g.0, inr g.1)) h

  cases-due : (at : ℕ) → DefinitionCycleDue t at → DefinitionCycle t at ⊎ TypeCycle t at
  cases-due at h =
      let w = of-any (λ c. Any (λ (e : Ident × Entry). (e.0.at ≡ at) × ReachesItself (c, e.1)) (scope_of c)) (bodies t) h in
      let v = of-any (λ (e : Ident × Entry). (e.0.at ≡ at) × ReachesItself (w.1, e.1)) (scope_of w.1) w.3 in
      let c = w.1 in
      elim v.3.1 [
        | inl ch ↦ inl (any-of (λ d. Any (λ (e : Ident × Entry). (e.0.at ≡ at) × Chain ReachesDefinition (d, e.1) (d, e.1)) (scope_of d)) (bodies t) w.0 c w.2 (any-of (λ (e : Ident × Entry). (e.0.at ≡ at) × Chain ReachesDefinition (c, e.1) (c, e.1)) (scope_of c) v.0 v.1 v.2 (v.3.0, ch)))
        | inr ch ↦ inr (any-of (λ d. Any (λ (e : Ident × Entry). (e.0.at ≡ at) × Chain ReachesType (d, e.1) (d, e.1)) (scope_of d)) (bodies t) w.0 c w.2 (any-of (λ (e : Ident × Entry). (e.0.at ≡ at) × Chain ReachesType (c, e.1) (c, e.1)) (scope_of c) v.0 v.1 v.2 (v.3.0, ch)))
      ]

  none-due : (o : Option ℕ) → ((at : ℕ) → DefinitionCycle t at → ⊥) → IsOneOf (TypeCycle t) o → IsOneOf (DefinitionCycleDue t) o
  none-due None h g = λ at due. elim (cases-due at due) [ inl d ↦ h at d | inr d ↦ g at d ]
  none-due (Some at) h g = type-due at g

  pub type-answered : (o : Option ℕ) (r : Result (Option ℕ) Memory) → IsOneOf (DefinitionCycle t) o → o ≡ None → IfOk r (λ at. IsOneOf (TypeCycle t) at) → IfOk r (λ at. IsOneOf (DefinitionCycleDue t) at)
  type-answered o (Ok p) h e g = none-due p (subst (λ q. IsOneOf (DefinitionCycle t) q) e h) g
  type-answered o (Err x) h e g = tt

  pub definition-answered : (o : Option ℕ) (at : ℕ) → IsOneOf (DefinitionCycle t) o → o ≡ Some at → DefinitionCycleDue t at
  definition-answered o at h e = definition-due at (subst (λ q. IsOneOf (DefinitionCycle t) q) e h)
