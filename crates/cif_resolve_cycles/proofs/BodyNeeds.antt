-- What a body needs by numbers is what its items need.
use Rattle.std.proofs.Common.{◌≡◌, ◌≢◌, ℕ, zero, suc, ◌<◌, ◌⊎◌, inl, inr, List, [], ◌∷◌, ◌++◌, length, refl, sym, ap, subst, ◌∙◌, arith, Option, Some, None}
use Rattle.std.specs.Prelude.{slice_get, option_map}
use Rattle.std.specs.Option.{option_to_list}
use Rattle.cif_system.specs.Words.{Member}
use Rattle.cif_system.proofs.Lists.{some-same, none-some, slice_get-below}
use Rattle.cif_system.proofs.Distinct.{member-append}
use Rattle.cif_system.proofs.Picks.{append-left, append-right, at-member}
use Rattle.cif_ast.specs.declared.names.Ident.{Ident}
use Rattle.cif_source.specs.Source.{ParamTree, InstanceTree, SourceItem, decl_item, component_item, definition_item, instance_item, SourceBody, Source}
use Rattle.cif_source.specs.Components.{Component, part, blank, scope_of, Entry, declared, literal, location, inner, definition, instance, parameter}
use Rattle.cif_source.specs.Lookup.{Reached, reached, missing, blocked, definition_found}
use Rattle.cif_source.specs.Objects.{bodies}
use Rattle.cif_source.specs.Scoping.{instances_of}
use Rattle.cif_order.specs.Graph.{Needs, AreInside}
use Rattle.cif_order.proofs.Lists.{same-or-other}
use Rattle.cif_scope.specs.declared.scope.What.{What}
use Rattle.cif_scope.specs.declared.scope.What.TheVariants as what
use Rattle.cif_scope.specs.declared.scope.ScopeName.{ScopeName}
use Rattle.cif_scope.specs.declared.scopes.Scopes.{Scopes}
use Rattle.cif_scope.specs.Tables.{IsBody, Beside, IsName, IsWhat, IsScope, param_sort}
use Rattle.cif_scope.specs.Looks.{names_in, names_at, what_at, definition_in, definition_at}
use Rattle.cif_scope.specs.Scopes.{Defines, IsDefinitionOf, AreNumbered}
use Rattle.cif_scope.proofs.Places.{beside-at, beside-back, beside-length}
use Rattle.cif_scope.proofs.BodyLaws.{row-of}
use Rattle.cif_scope.proofs.LookLaws.{what-is}
use Rattle.cif_resolve_cycles.specs.Bodies.{need_of, needs_to, body_needs, graph_to, body_graph}
use Rattle.cif_resolve_cycles.proofs.NumberLaws.{get-front, length-push, get-pushed, below-other}
use Rattle.cif_resolve_cycles.proofs.Graphs.{member-at, at-below, in-option, option-in, needs-row, row-needs}
use Rattle.cif_resolve_cycles.proofs.Items.{HasItem, item-entry, instance-item}

-- ---- rows

needs-from : (s : Scopes) (k n j : ℕ) → Member j (needs_to s k n) → (m : ℕ) × (need_of s k (what_at s.table k m) ≡ Some j)
needs-from s k zero j m = absurd m
needs-from s k (suc n) j m = elim (member-append j (needs_to s k n) (option_to_list (need_of s k (what_at s.table k n))) m) [
  | inl g ↦ needs-from s k n j g
  | inr g ↦ (n, in-option (need_of s k (what_at s.table k n)) j g)
]

needs-with : (s : Scopes) (k n j m : ℕ) → m < n → need_of s k (what_at s.table k m) ≡ Some j → Member j (needs_to s k n)
needs-with s k zero j m l h = absurd (omega arith)
needs-with s k (suc n) j m l h = elim (same-or-other m n) [
  | inl e ↦ append-right j (needs_to s k n) (option_to_list (need_of s k (what_at s.table k n))) (option-in (need_of s k (what_at s.table k n)) j (subst (λ i. need_of s k (what_at s.table k i) ≡ Some j) e h))
  | inr e ↦ append-left j (needs_to s k n) (option_to_list (need_of s k (what_at s.table k n))) (needs-with s k n j m (below-other m n l e) h)
]

graph-length : (s : Scopes) (n : ℕ) → length (graph_to s n) ≡ n
graph-length s zero = refl
graph-length s (suc n) = length-push (graph_to s n) (body_needs s n) ∙ ap suc (graph-length s n)

graph-at : (s : Scopes) (n k : ℕ) → k < n → slice_get (graph_to s n) k ≡ Some (body_needs s k)
graph-at s zero k l = absurd (omega arith)
graph-at s (suc n) k l = elim (same-or-other k n) [
  | inl e ↦ subst (λ j. slice_get (graph_to s n ++ body_needs s n ∷ []) j ≡ Some (body_needs s j)) (sym e) (get-pushed (graph_to s n) (body_needs s n) n (graph-length s n))
  | inr e ↦
      let less : k < n = below-other k n l e in
      let inside : k < length (graph_to s n) = let long = graph-length s n in omega arith in
      get-front (graph_to s n) (body_needs s n ∷ []) k inside ∙ graph-at s n k less
]

-- a slot with something in it is one of the names
slot-below : (s : Scopes) (k m : ℕ) (w : What) → what_at s.table k m ≡ Some w → m < length (names_at s.table k)
slot-below s k m w h = go (slice_get (names_at s.table k) m) refl h
  where
    go : (o : Option ScopeName) → slice_get (names_at s.table k) m ≡ o → option_map (λ (n : ScopeName). n.what) o ≡ Some w → m < length (names_at s.table k)
    go None e g = absurd (none-some w g)
    go (Some n) e g = slice_get-below (names_at s.table k) m n e

-- ---- the graph of a source

module _ (t : Source) (s : Scopes) (are : AreNumbered t s) where
  bodies-count : length s.table.scopes ≡ length (bodies t)
  bodies-count = beside-length (IsScope t) (bodies t) s.table.scopes are.table

  graph-count : length (body_graph s) ≡ length (bodies t)
  graph-count = graph-length s (length s.table.scopes) ∙ bodies-count

  -- the definition of an instance, by numbers
  pub definition-is : (c : Component) (k : ℕ) → IsBody t k c → (r : ℕ) (i : InstanceTree) → slice_get (instances_of c) r ≡ Some i → IsDefinitionOf t c i (definition_at s.definitions k r)
  definition-is c k own r i h =
      let row = beside-at (λ d ds. Beside (IsDefinitionOf t d) (instances_of d) ds) (bodies t) s.definitions k c are.definitions own in
      let one = beside-at (IsDefinitionOf t c) (instances_of c) row.0 r i row.2 h in
      subst (λ d. IsDefinitionOf t c i d) (sym (ap (λ o. elim o [ None ↦ None | Some ds ↦ definition_in ds r ]) row.1 ∙ ap (λ o. elim o [ None ↦ None | Some d ↦ d ]) one.1)) one.2

  -- what is in a slot of a body, the body needs
  slot-need : (k j m : ℕ) (c : Component) (w : What) → IsBody t k c → what_at s.table k m ≡ Some w → need_of s k (Some w) ≡ Some j → Needs (body_graph s) k j
  slot-need k j m c w own h need =
      let l : k < length (bodies t) = slice_get-below (bodies t) k c own in
      let below : k < length s.table.scopes = let e = bodies-count in omega arith in
      row-needs (body_graph s) k j (body_needs s k) (graph-at s (length s.table.scopes) k below) (needs-with s k (length (names_at s.table k)) j m (slot-below s k m w h) (ap (need_of s k) h ∙ need))

  pub component-need : (k : ℕ) (c : Component) (n : Ident) (b : SourceBody) → IsBody t k c → HasItem c (component_item n b) → (j : ℕ) × IsBody t j (part c n b) × Needs (body_graph s) k j
  component-need k c n b own m =
      let at = member-at (scope_of c) (n, inner n b) (item-entry c (component_item n b) (n, inner n b) m (inl refl)) in
      let w = what-is t s.table are.table are.indexed k at.0 c (inner n b) own (n, at.1) in
      (w.2.0, w.2.2, slot-need k w.2.0 at.0 c w.0 own w.1 (ap (λ v. need_of s k (Some v)) w.2.1))

  pub definition-need : (k : ℕ) (c : Component) (i : InstanceTree) (o : Component) (n : Ident) (ps : List ParamTree) (b : SourceBody) → IsBody t k c → HasItem c (instance_item i)
      → definition_found c i ≡ reached (o, definition n ps b) → (j : ℕ) × IsBody t j (blank o n ps b) × Needs (body_graph s) k j
  definition-need k c i o n ps b own m found =
      let at = member-at (scope_of c) (i.name, instance i) (item-entry c (instance_item i) (i.name, instance i) m (inl refl)) in
      let w = what-is t s.table are.table are.indexed k at.0 c (instance i) own (i.name, at.1) in
      let defines : Defines t (reached (o, definition n ps b)) (definition_at s.definitions k w.2.0) = subst (λ r. Defines t r (definition_at s.definitions k w.2.0)) found (definition-is c k own w.2.0 i w.2.2) in
      (defines.0, defines.2, slot-need k defines.0 at.0 c w.0 own w.1 (ap (λ v. need_of s k (Some v)) w.2.1 ∙ defines.1))

  -- ---- a need is a component in the body, or the definition of an instance in it

  abbrev pub IsNeed : Component → ℕ → Type 0
  IsNeed c j = ((n : Ident) × (b : SourceBody) × IsBody t j (part c n b))
      ⊎ ((i : InstanceTree) × (o : Component) × (n : Ident) × (ps : List ParamTree) × (b : SourceBody) × HasItem c (instance_item i) × (definition_found c i ≡ reached (o, definition n ps b)) × IsBody t j (blank o n ps b))

  no-need : (c : Component) (k j : ℕ) (w v : What) → w ≡ v → need_of s k (Some v) ≡ None → need_of s k (Some w) ≡ Some j → IsNeed c j
  no-need c k j w v e n h = absurd (none-some j (sym n ∙ ap (λ u. need_of s k (Some u)) (sym e) ∙ h))

  instance-need : (c : Component) (i : InstanceTree) (j : ℕ) (d : Option ℕ) (r : Reached) → HasItem c (instance_item i) → definition_found c i ≡ r → Defines t r d → d ≡ Some j → IsNeed c j
  instance-need c i j d (reached (o, definition n ps b)) m f h e = inr (i, o, n, ps, b, m, f, subst (λ k. IsBody t k (blank o n ps b)) (some-same h.0 j (sym h.1 ∙ e)) h.2)
  instance-need c i j d (reached (o, declared x)) m f h e = absurd (none-some j (sym h ∙ e))
  instance-need c i j d (reached (o, literal k ls)) m f h e = absurd (none-some j (sym h ∙ e))
  instance-need c i j d (reached (o, location k)) m f h e = absurd (none-some j (sym h ∙ e))
  instance-need c i j d (reached (o, inner n b)) m f h e = absurd (none-some j (sym h ∙ e))
  instance-need c i j d (reached (o, instance g)) m f h e = absurd (none-some j (sym h ∙ e))
  instance-need c i j d (reached (o, parameter k p)) m f h e = absurd (none-some j (sym h ∙ e))
  instance-need c i j d missing m f h e = absurd (none-some j (sym h ∙ e))
  instance-need c i j d blocked m f h e = absurd (none-some j (sym h ∙ e))

  what-need : (c : Component) (k j : ℕ) (e : Entry) (w : What) → IsBody t k c → IsWhat t c e w → need_of s k (Some w) ≡ Some j → IsNeed c j
  what-need c k j (declared d) w own h n = no-need c k j w (what.Declared h.0) h.1 refl n
  what-need c k j (literal i ls) w own h n = no-need c k j w (what.Literal i) h refl n
  what-need c k j (location i) w own h n = no-need c k j w (what.Location i) h refl n
  what-need c k j (definition m ps b) w own h n = no-need c k j w (what.Definition h.0 (length ps)) h.1 refl n
  what-need c k j (parameter i p) w own h n = no-need c k j w (what.Parameter (param_sort p)) h refl n
  what-need c k j (inner m b) w own h n =
      let e : h.0 ≡ j = some-same h.0 j (ap (λ u. need_of s k (Some u)) (sym h.1) ∙ n) in
      inl (m, b, subst (λ i. IsBody t i (part c m b)) e h.2)
  what-need c k j (instance i) w own h n =
      let item : HasItem c (instance_item i) = instance-item c i (at-member (instances_of c) h.0 i h.2) in
      instance-need c i j (definition_at s.definitions k h.0) (definition_found c i) item refl (definition-is c k own h.0 i h.2) (ap (λ u. need_of s k (Some u)) (sym h.1) ∙ n)

  pub need-is : (k j : ℕ) (c : Component) → IsBody t k c → Needs (body_graph s) k j → IsNeed c j
  need-is k j c own m =
      let row = needs-row (body_graph s) k j m in
      let l : k < length (bodies t) = slice_get-below (bodies t) k c own in
      let below : k < length s.table.scopes = let e = bodies-count in omega arith in
      let same : row.0 ≡ body_needs s k = some-same row.0 (body_needs s k) (sym row.1 ∙ graph-at s (length s.table.scopes) k below) in
      let slot = needs-from s k (length (names_at s.table k)) j (subst (λ (ns : List ℕ). Member j ns) same row.2) in
      let scope = row-of t s.table.scopes are.table k c own in
      let names : names_at s.table k ≡ scope.0.names = ap names_in scope.1 in
      go (slice_get scope.0.names slot.0) scope.0.names slot.0 refl scope.2.names (ap (λ ns. need_of s k (option_map (λ (n : ScopeName). n.what) (slice_get ns slot.0))) (sym names) ∙ slot.1)
    where
      go : (o : Option ScopeName) (ns : List ScopeName) (i : ℕ) → slice_get ns i ≡ o → Beside (IsName t c) (scope_of c) ns → need_of s k (option_map (λ (n : ScopeName). n.what) o) ≡ Some j → IsNeed c j
      go None ns i e h n = absurd (none-some j n)
      go (Some x) ns i e h n = let y = beside-back (IsName t c) (scope_of c) ns i x h e in what-need c k j y.0.1 x.what own y.2.1 n

  -- a node that needs something is a body
  pub needs-body : (k j : ℕ) → Needs (body_graph s) k j → (c : Component) × IsBody t k c
  needs-body k j m =
      let row = needs-row (body_graph s) k j m in
      let l : k < length (body_graph s) = slice_get-below (body_graph s) k row.0 row.1 in
      let below : k < length (bodies t) = let e = graph-count in omega arith in
      at-below (bodies t) k below

  body-below : (j : ℕ) (d : Component) → IsBody t j d → j < length (body_graph s)
  body-below j d own = let l : j < length (bodies t) = slice_get-below (bodies t) j d own in let e = graph-count in omega arith

  pub body-needs-inside : AreInside (body_graph s)
  body-needs-inside k j m =
      let c = needs-body k j m in
      elim (need-is k j c.0 c.1 m) [ inl w ↦ body-below j (part c.0 w.0 w.1) w.2 | inr w ↦ body-below j (blank w.1 w.2 w.3 w.4) w.7 ]
