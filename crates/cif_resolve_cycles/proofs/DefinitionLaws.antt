-- A body that reaches itself lies in a definition that does, and where bodies have an order no definition does.
use Rattle.std.proofs.Common.{◌≡◌, ℕ, zero, suc, ◌+◌, ◌<◌, ◌≤◌, ◌⊎◌, inl, inr, List, [], ◌∷◌, ◌++◌, length, refl, sym, ap, subst, ◌∙◌, arith, Option, Some, None}
use Rattle.std.specs.Prelude.{slice_get}
use Rattle.std.specs.List.{Any}
use Rattle.cif_system.specs.Words.{Member, Chain, one, more}
use Rattle.cif_system.proofs.Lists.{some-same, none-some}
use Rattle.cif_system.proofs.Distinct.{member-append}
use Rattle.cif_system.proofs.Picks.{at-member}
use Rattle.cif_ast.specs.declared.names.Ident.{Ident}
use Rattle.cif_source.specs.Source.{ParamTree, InstanceTree, SourceItem, decl_item, component_item, definition_item, instance_item, SourceBody, group_body, automaton_body, Source, no_source, source, list_of_items}
use Rattle.cif_source.specs.Components.{Component, StandingInstance, whole, part, blank, copy, body_of, scope_of, Entry, declared, literal, location, inner, definition, instance, parameter}
use Rattle.cif_source.specs.Lookup.{ScopeEntry, reached, definition_found}
use Rattle.cif_source.specs.Objects.{bodies, bodies_in, bodies_at, bodies_under, items_in}
use Rattle.cif_source.specs.Scoping.{instances_in, instances_at, instances_under, instances_within, ReachesDefinition}
use Rattle.cif_order.specs.Graph.{Needs, IsRank}
use Rattle.cif_scope.specs.declared.scopes.Scopes.{Scopes}
use Rattle.cif_scope.specs.Tables.{IsBody, Beside, IsWhat, IsOuter}
use Rattle.cif_scope.specs.Looks.{outer_in, outer_at}
use Rattle.cif_scope.specs.Scopes.{AreNumbered, IsEntry}
use Rattle.cif_scope.proofs.Places.{beside-at, beside-append}
use Rattle.cif_scope.proofs.BodyLaws.{height, table-height, outer-of, row-of}
use Rattle.cif_scope.proofs.IndexLaws.{any-of, of-any}
use Rattle.cif_scope.proofs.LookLaws.{what-is}
use Rattle.cif_resolve_cycles.specs.Bodies.{body_graph, places_in, places_at, places_under, definition_places, place_at, or_further, from_outer, nearest}
use Rattle.cif_resolve_cycles.specs.Answers.{DefinitionCycle}
use Rattle.cif_resolve_cycles.proofs.Graphs.{member-at}
use Rattle.cif_resolve_cycles.proofs.Chains.{chain-join, no-cycle}
use Rattle.cif_resolve_cycles.proofs.Items.{HasItem, IsItem, body-item, item-entry, instances-of-item}
use Rattle.cif_resolve_cycles.proofs.BodyNeeds.{component-need, definition-need, IsNeed, need-is, needs-body}

-- the nearest definition outward in which a component lies
abbrev pub definition_around : Component → Option ScopeEntry
definition_around (whole is) = None
definition_around (part o n b) = definition_around o
definition_around (blank o n ps b) = Some (o, definition n ps b)
definition_around (copy o n ps b g i) = None

-- ---- where its name stands

abbrev IsPlace : Component → Option ℕ → Type 0
IsPlace (whole is) p = p ≡ None
IsPlace (part o n b) p = p ≡ None
IsPlace (blank o n ps b) p = p ≡ Some n.at
IsPlace (copy o n ps b g i) p = p ≡ None

mutual
  places-in : (c : Component) (is : Source) → Beside IsPlace (bodies_in c is) (places_in is)
  places-in c no_source = tt
  places-in c (source i is) = beside-append IsPlace (bodies_at c i) (bodies_in c is) (places_at i) (places_in is) (places-at c i) (places-in c is)

  places-at : (c : Component) (i : SourceItem) → Beside IsPlace (bodies_at c i) (places_at i)
  places-at c (decl_item d) = tt
  places-at c (component_item n b) = (refl, places-under (part c n b) b)
  places-at c (definition_item n ps b) = (refl, places-under (blank c n ps b) b)
  places-at c (instance_item i) = tt

  places-under : (c : Component) (b : SourceBody) → Beside IsPlace (bodies_under c b) (places_under b)
  places-under c (group_body is) = places-in c is
  places-under c (automaton_body a) = tt

place-is : (t : Source) (k : ℕ) (c : Component) → IsBody t k c → IsPlace c (place_at (definition_places t) k)
place-is t k c own =
    let w = beside-at IsPlace (bodies t) (definition_places t) k c (refl, places-in (whole t) t) own in
    subst (λ o. IsPlace c (elim o [ None ↦ None | Some p ↦ p ])) (sym w.1) w.2

module _ (t : Source) (s : Scopes) (are : AreNumbered t s) where
  abbrev found_at : (fuel k : ℕ) → Option ℕ
  found_at fuel k = nearest s.table (definition_places t) fuel k

  -- the definition, with the place of its name, and the body in which it stands
  abbrev Stands : ScopeEntry → Option ℕ → Type 0
  Stands y p = (o : Component) × (n : Ident) × (ps : List ParamTree) × (b : SourceBody) × (y ≡ (o, definition n ps b)) × (p ≡ Some n.at) × Member (n, definition n ps b) (scope_of o) × ((k : ℕ) × IsBody t k o)

  around-at : (c : Component) (fuel k : ℕ) (y : ScopeEntry) → height c < fuel → IsBody t k c → definition_around c ≡ Some y → Stands y (found_at fuel k)
  around-at c zero k y small own h = absurd (omega arith)
  around-at (whole is) (suc n) k y small own h = absurd (none-some y h)
  around-at (copy o m ps b g i) (suc n) k y small own h = absurd (none-some y h)
  around-at (blank o m ps b) (suc n) k y small own h =
      let outer = outer-of t s.table.scopes are.table k (blank o m ps b) own in
      let item : HasItem o (definition_item m ps b) = body-item t k (blank o m ps b) own in
      (o, m, ps, b, sym (some-same (o, definition m ps b) y h), ap (λ p. or_further p (from_outer (λ j. found_at n j) (outer_at s.table k))) (place-is t k (blank o m ps b) own), item-entry o (definition_item m ps b) (m, definition m ps b) item (inl refl), (outer.1.0, outer.1.2))
  around-at (part o m b) (suc n) k y small own h =
      let row = row-of t s.table.scopes are.table k (part o m b) own in
      let outer = row.2.outer in
      let less : height o < n = omega arith in
      let is : found_at (suc n) k ≡ found_at n outer.0 = ap (λ p. or_further p (from_outer (λ j. found_at n j) (outer_at s.table k))) (place-is t k (part o m b) own) ∙ ap (λ q. from_outer (λ j. found_at n j) (outer_in q)) row.1 ∙ ap (from_outer (λ j. found_at n j)) outer.1 in
      subst (λ p. Stands y p) (sym is) (around-at o n outer.0 y less outer.2 h)

  -- ---- what a body reaches, the definition around it does

  -- the instances in a body are instances within the definition around it
  instances-around : (c : Component) (k : ℕ) (x : ScopeEntry) → IsBody t k c → definition_around c ≡ Some x → (z : StandingInstance) → Member z (instances_under c (body_of c)) → Member z (instances_within x)
  instances-around (whole is) k x own h z m = absurd (none-some x h)
  instances-around (copy o n ps b g i) k x own h z m = absurd (none-some x h)
  instances-around (blank o n ps b) k x own h z m = subst (λ y. Member z (instances_within y)) (some-same (o, definition n ps b) x h) m
  instances-around (part o n b) k x own h z m =
      let outer = outer-of t s.table.scopes are.table k (part o n b) own in
      instances-around o outer.1.0 x outer.1.2 h z (instances-of-item o (body_of o) (component_item n b) z (body-item t k (part o n b) own) m)

  reaches : (c : Component) (k : ℕ) (x y : ScopeEntry) (i : InstanceTree) → IsBody t k c → definition_around c ≡ Some x → HasItem c (instance_item i) → definition_found c i ≡ reached y → ReachesDefinition x y
  reaches c k x y i own h item found =
      let m : Member (c, i) (instances_within x) = instances-around c k x own h (c, i) (instances-of-item c (body_of c) (instance_item i) (c, i) item (inl refl)) in
      let at = member-at (instances_within x) (c, i) m in
      any-of (λ (z : StandingInstance). definition_found z.0 z.1 ≡ reached y) (instances_within x) at.0 (c, i) at.1 found

  -- d lies deeper in c, or the definition around c reaches that around d
  abbrev Leads : Component → Component → Type 0
  Leads c d = ((definition_around d ≡ definition_around c) × (height c < height d))
      ⊎ ((y : ScopeEntry) × (definition_around d ≡ Some y) × ((x : ScopeEntry) → definition_around c ≡ Some x → Chain ReachesDefinition x y))

  leads-join : (c d e : Component) → Leads c d → Leads d e → Leads c e
  leads-join c d e h g = elim h [
    | inl p ↦ elim g [
      | inl q ↦ let first : height c < height d = p.1 in let next : height d < height e = q.1 in inl (q.0 ∙ p.0, omega arith)
      | inr q ↦ inr (q.0, q.1, λ x f. q.2 x (p.0 ∙ f))
    ]
    | inr p ↦ elim g [
      | inl q ↦ inr (p.0, q.0 ∙ p.1, p.2)
      | inr q ↦ inr (q.0, q.1, λ x f. chain-join ReachesDefinition x p.0 q.0 (p.2 x f) (q.2 p.0 p.1))
    ]
  ]

  need-leads : (k j : ℕ) (c : Component) → IsBody t k c → Needs (body_graph s) k j → (d : Component) × IsBody t j d × Leads c d
  need-leads k j c own m = elim (need-is t s are k j c own m) [
    | inl w ↦ let less : height c < suc (height c) = omega arith in (part c w.0 w.1, w.2, inl (refl, less))
    | inr w ↦ (blank w.1 w.2 w.3 w.4, w.7, inr ((w.1, definition w.2 w.3 w.4), refl, λ x h. one (reaches c k x (w.1, definition w.2 w.3 w.4) w.0 own h w.5 w.6)))
  ]

  chain-leads : (k j : ℕ) → Chain (Needs (body_graph s)) k j → (c : Component) → IsBody t k c → (d : Component) × IsBody t j d × Leads c d
  chain-leads k j (one m) c own = need-leads k j c own m
  chain-leads k l (more {y = j} m ch) c own =
      let d = need-leads k j c own m in
      let e = chain-leads j l ch d.0 d.1 in
      (e.0, e.1, leads-join c d.0 e.0 d.2 e.2)

  chain-body : (k j : ℕ) → Chain (Needs (body_graph s)) k j → (c : Component) × IsBody t k c
  chain-body k j (one m) = needs-body t s are k j m
  chain-body k l (more {y = j} m ch) = needs-body t s are k j m

  around-cyclic : (c d : Component) → d ≡ c → Leads c d → (y : ScopeEntry) × (definition_around c ≡ Some y) × Chain ReachesDefinition y y
  around-cyclic c d e h = elim h [
    | inl p ↦ let same : height d ≡ height c = ap height e in let less : height c < height d = p.1 in absurd (omega arith)
    | inr p ↦ let here : definition_around c ≡ Some p.0 = ap definition_around (sym e) ∙ p.1 in (p.0, here, p.2 p.0 here)
  ]

  stands-due : (y : ScopeEntry) (p : Option ℕ) → Stands y p → Chain ReachesDefinition y y → (at : ℕ) × (p ≡ Some at) × DefinitionCycle t at
  stands-due y p h ch =
      let x : ScopeEntry = (h.0, definition h.1 h.2 h.3) in
      let chain : Chain ReachesDefinition x x = subst (λ z. Chain ReachesDefinition z z) h.4 ch in
      let at = member-at (scope_of h.0) (h.1, definition h.1 h.2 h.3) h.6 in (
        h.1.at,
        h.5,
        any-of (λ c. Any (λ (e : Ident × Entry). (e.0.at ≡ h.1.at) × Chain ReachesDefinition (c, e.1) (c, e.1)) (scope_of c)) (bodies t) h.7.0 h.0 h.7.1
            (any-of (λ (e : Ident × Entry). (e.0.at ≡ h.1.at) × Chain ReachesDefinition (h.0, e.1) (h.0, e.1)) (scope_of h.0) at.0 (h.1, definition h.1 h.2 h.3) at.1 (refl, chain)),
      )

  -- of a body that reaches itself the definition around it is told
  pub cyclic-told : (k : ℕ) → Chain (Needs (body_graph s)) k k → (at : ℕ) × (nearest s.table (definition_places t) (length s.table.scopes) k ≡ Some at) × DefinitionCycle t at
  cyclic-told k ch =
      let c = chain-body k k ch in
      let d = chain-leads k k ch c.0 c.1 in
      let y = around-cyclic c.0 d.0 (some-same d.0 c.0 (sym d.1 ∙ c.1)) d.2 in
      stands-due y.0 (found_at (length s.table.scopes) k) (around-at c.0 (length s.table.scopes) k y.0 (table-height t s.table.scopes are.table k c.0 c.1) c.1 y.1) y.2

  -- ---- where bodies have ranks

  module _ (rank : ℕ → ℕ) (is : IsRank (body_graph s) rank) where
    -- the body of an instance under a body, of no higher rank
    abbrev Under : ℕ → StandingInstance → Type 0
    Under k z = (j : ℕ) × IsBody t j z.0 × (rank j ≤ rank k) × HasItem z.0 (instance_item z.1)

    mutual
      under-in : (c : Component) (k : ℕ) (is : Source) → IsBody t k c → ((x : SourceItem) → Member x (list_of_items is) → HasItem c x) → (z : StandingInstance) → Member z (instances_in c is) → Under k z
      under-in c k no_source own h z m = absurd m
      under-in c k (source i is) own h z m = elim (member-append z (instances_at c i) (instances_in c is) m) [ inl g ↦ under-at c k i own (h i (inl refl)) z g | inr g ↦ under-in c k is own (λ x f. h x (inr f)) z g ]

      under-at : (c : Component) (k : ℕ) (i : SourceItem) → IsBody t k c → HasItem c i → (z : StandingInstance) → Member z (instances_at c i) → Under k z
      under-at c k (decl_item d) own h z m = absurd m
      under-at c k (component_item n b) own h z m =
          let need = component-need t s are k c n b own h in
          let w = under-body (part c n b) need.0 b need.1 refl z m in
          let less : rank need.0 < rank k = is.falls k need.0 need.2 in
          let low : rank w.0 ≤ rank need.0 = w.2 in
          (w.0, w.1, omega arith, w.3)
      under-at c k (definition_item n ps b) own h z m = absurd m
      under-at c k (instance_item i) own h z m = elim m [
        | inl e ↦ let low : rank k ≤ rank k = omega arith in subst (λ y. Under k y) (sym e) (k, own, low, h)
        | inr g ↦ absurd g
      ]

      under-body : (c : Component) (k : ℕ) (b : SourceBody) → IsBody t k c → body_of c ≡ b → (z : StandingInstance) → Member z (instances_under c b) → Under k z
      under-body c k (group_body is) own e z m = under-in c k is own (λ x f. subst (λ b. Member x (items_in b)) (sym e) f) z m
      under-body c k (automaton_body a) own e z m = absurd m

    abbrev IsDefinition : ScopeEntry → Type 0
    IsDefinition (o, definition n ps b) = Unit {0}
    IsDefinition _ = ⊥

    -- the body of a definition
    abbrev IsAt : ℕ → ScopeEntry → Type 0
    IsAt k (o, definition n ps b) = IsBody t k (blank o n ps b)
    IsAt k _ = ⊥

    no-instance : (y : ScopeEntry) → Any (λ (i : StandingInstance). definition_found i.0 i.1 ≡ reached y) [] → ⊥
    no-instance y h = let w = of-any (λ (i : StandingInstance). definition_found i.0 i.1 ≡ reached y) [] h in none-some w.1 w.2

    reaching-defines : (x y : ScopeEntry) → ReachesDefinition x y → IsDefinition x
    reaching-defines (o, definition n ps b) y h = tt
    reaching-defines (o, declared d) y h = no-instance y h
    reaching-defines (o, literal k ls) y h = no-instance y h
    reaching-defines (o, location k) y h = no-instance y h
    reaching-defines (o, inner n b) y h = no-instance y h
    reaching-defines (o, instance i) y h = no-instance y h
    reaching-defines (o, parameter k p) y h = no-instance y h

    to-definition : (k j : ℕ) (z : StandingInstance) (y : ScopeEntry) → IsBody t j z.0 → rank j ≤ rank k → HasItem z.0 (instance_item z.1) → definition_found z.0 z.1 ≡ reached y → IsDefinition y → (l : ℕ) × IsAt l y × (rank l < rank k)
    to-definition k j z (o, definition n ps b) own low item found h =
        let need = definition-need t s are j z.0 z.1 o n ps b own item found in
        let less : rank need.0 < rank j = is.falls j need.0 need.2 in
        (need.0, need.1, omega arith)
    to-definition k j z (o, declared d) own low item found h = absurd h
    to-definition k j z (o, literal i ls) own low item found h = absurd h
    to-definition k j z (o, location i) own low item found h = absurd h
    to-definition k j z (o, inner n b) own low item found h = absurd h
    to-definition k j z (o, instance i) own low item found h = absurd h
    to-definition k j z (o, parameter i p) own low item found h = absurd h

    reaching-falls : (k : ℕ) (x y : ScopeEntry) → IsAt k x → ReachesDefinition x y → IsDefinition y → (j : ℕ) × IsAt j y × (rank j < rank k)
    reaching-falls k (o, definition n ps b) y own r h =
        let w = of-any (λ (i : StandingInstance). definition_found i.0 i.1 ≡ reached y) (instances_under (blank o n ps b) b) r in
        let u = under-body (blank o n ps b) k b own refl w.1 (at-member (instances_under (blank o n ps b) b) w.0 w.1 w.2) in
        to-definition k u.0 w.1 y u.1 u.2 u.3 w.3 h
    reaching-falls k (o, declared d) y own r h = absurd own
    reaching-falls k (o, literal i ls) y own r h = absurd own
    reaching-falls k (o, location i) y own r h = absurd own
    reaching-falls k (o, inner n b) y own r h = absurd own
    reaching-falls k (o, instance i) y own r h = absurd own
    reaching-falls k (o, parameter i p) y own r h = absurd own

    reaching-starts : (x y : ScopeEntry) → Chain ReachesDefinition x y → IsDefinition x
    reaching-starts x y (one r) = reaching-defines x y r
    reaching-starts x z (more {y = y} r ch) = reaching-defines x y r

    definition-at : (c : Component) (k j : ℕ) (e : Entry) → IsBody t k c → IsEntry c e j → IsDefinition (c, e) → (l : ℕ) × IsAt l (c, e)
    definition-at c k j (definition n ps b) own at h = let w = what-is t s.table are.table are.indexed k j c (definition n ps b) own at in (w.2.0, w.2.2)
    definition-at c k j (declared d) own at h = absurd h
    definition-at c k j (literal i ls) own at h = absurd h
    definition-at c k j (location i) own at h = absurd h
    definition-at c k j (inner n b) own at h = absurd h
    definition-at c k j (instance i) own at h = absurd h
    definition-at c k j (parameter i p) own at h = absurd h

    pub definitions-acyclic : (at : ℕ) → DefinitionCycle t at → ⊥
    definitions-acyclic at due =
        let w = of-any (λ c. Any (λ (e : Ident × Entry). (e.0.at ≡ at) × Chain ReachesDefinition (c, e.1) (c, e.1)) (scope_of c)) (bodies t) due in
        let v = of-any (λ (e : Ident × Entry). (e.0.at ≡ at) × Chain ReachesDefinition (w.1, e.1) (w.1, e.1)) (scope_of w.1) w.3 in
        let x : ScopeEntry = (w.1, v.1.1) in
        let l = definition-at w.1 w.0 v.0 v.1.1 w.2 (v.1.0, v.2) (reaching-starts x x v.3.1) in
        let small : rank l.0 < suc (rank l.0) = omega arith in
        no-cycle ReachesDefinition (λ y. IsDefinition y) (λ k y. IsAt k y) rank reaching-defines reaching-falls (suc (rank l.0)) l.0 x small l.1 v.3.1
