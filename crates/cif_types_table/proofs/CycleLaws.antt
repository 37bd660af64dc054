-- Where no type reaches itself, none needs itself by numbers.
use Rattle.std.proofs.Common.{◌≡◌, ℕ, List, [], ◌∷◌, inr, refl, sym, ap, subst, ◌∙◌, Some}
use Rattle.std.specs.Prelude.{slice_get, true}
use Rattle.std.specs.List.{Any}
use Rattle.cif_system.specs.Words.{Chain, one, more}
use Rattle.cif_system.proofs.Lists.{some-same, none-some}
use Rattle.cif_ast.specs.declared.names.Ident.{Ident}
use Rattle.cif_ast.specs.declared.names.Name.{Name}
use Rattle.cif_source.specs.Source.{TypeTree, bool_type, int_type, range_type, named_type, type_decl, enum_decl, event_decl, const_decl, alg_decl, input_decl, disc_decl, equation_decl, invariant_decl, marked_decl, event_param, alg_param, location_param, Source}
use Rattle.cif_source.specs.Components.{as_written, scope_of, Entry, declared, literal, location, inner, definition, instance, parameter}
use Rattle.cif_source.specs.Lookup.{ScopeEntry, Reached, reached, missing, blocked, found}
use Rattle.cif_source.specs.Objects.{bodies}
use Rattle.cif_source.specs.Scoping.{names_of, found_written, ReachesType, ReachesItself, DefinitionCycleDue}
use Rattle.cif_order.specs.Graph.{Needs, IsCyclic}
use Rattle.cif_scope.specs.declared.looked.Looked.TheVariants.{At}
use Rattle.cif_scope.specs.declared.scopes.Scopes.{Scopes}
use Rattle.cif_scope.specs.Tables.{IsBody}
use Rattle.cif_scope.specs.Looks.{look}
use Rattle.cif_scope.specs.Scopes.{IsEntry, AreNumbered}
use Rattle.cif_scope.proofs.BodyLaws.{scope-written}
use Rattle.cif_scope.proofs.IndexLaws.{any-of}
use Rattle.cif_scope.proofs.LookLaws.{Agrees}
use Rattle.cif_scope.proofs.FindLaws.{found-is}
use Rattle.cif_resolve_cycles.proofs.Chains.{chain-join}
use Rattle.cif_types_table.specs.declared.layout.Slot.{Slot}
use Rattle.cif_types_table.specs.declared.layout.NamedType.{NamedType}
use Rattle.cif_types_table.specs.Layouts.{NamedTree, synonym, enumeration, type_slot}
use Rattle.cif_types_table.specs.Types.{type_in_type}
use Rattle.cif_types_table.proofs.SlotLaws.{IsSlot, AreRows}
use Rattle.cif_types_table.proofs.NameLaws.{tree_type, all, rows, graph, needs-synonym, StandsAt, type-stands}
use Rattle.cif_types_table.proofs.KindLaws.{synonym-enumeration, same-body, same-type}

-- a synonym stands where its declaration does
slot-synonym : (every : List NamedTree) (k m j : ℕ) (ty : TypeTree) (e : Entry) → IsSlot every k e (type_slot m) → slice_get every m ≡ Some (synonym j ty)
    → (n : Ident) × (e ≡ declared (type_decl n ty)) × (k ≡ j)
slot-synonym every k m j ty e h at = go e h
  where
    go : (e : Entry) → IsSlot every k e (type_slot m) → (n : Ident) × (e ≡ declared (type_decl n ty)) × (k ≡ j)
    go (declared (type_decl n u)) h =
        let number : h.0 ≡ m = some-same h.0 m (sym (ap tree_type h.1)) in
        let one : synonym k u ≡ synonym j ty = some-same (synonym k u) (synonym j ty) (sym (subst (λ i. slice_get every i ≡ Some (synonym k u)) number h.2) ∙ at) in
        (n, ap (λ v. declared (type_decl n v)) (same-type k j u ty one), same-body k j u ty one)
    go (declared (enum_decl n ls)) h =
        let number : h.0 ≡ m = some-same h.0 m (sym (ap tree_type h.1)) in
        absurd (synonym-enumeration j ty ls (some-same (synonym j ty) (enumeration ls) (sym at ∙ subst (λ i. slice_get every i ≡ Some (enumeration ls)) number h.2)))
    go (declared (event_decl c i n)) h = absurd (none-some m (sym (ap tree_type h)))
    go (declared (const_decl u n v)) h = absurd (none-some m (sym (ap tree_type h)))
    go (declared (alg_decl u n v)) h = absurd (none-some m (sym (ap tree_type h)))
    go (declared (input_decl u n)) h = absurd (none-some m (sym (ap tree_type h)))
    go (declared (disc_decl u n v)) h = absurd (none-some m (sym (ap tree_type h)))
    go (declared (equation_decl q)) h = absurd (none-some m (sym (ap tree_type h)))
    go (declared (invariant_decl i)) h = absurd (none-some m (sym (ap tree_type h)))
    go (declared (marked_decl p)) h = absurd (none-some m (sym (ap tree_type h)))
    go (literal i ls) h = absurd (none-some m (sym (ap tree_type h.1)))
    go (location i) h = absurd (none-some m (sym (ap tree_type h)))
    go (inner n b) h = absurd (none-some m (sym (ap tree_type h)))
    go (definition n ps b) h = absurd (none-some m (sym (ap tree_type h)))
    go (instance i) h = absurd (none-some m (sym (ap tree_type h)))
    go (parameter i (event_param c g n)) h = absurd (none-some m (sym (ap tree_type h)))
    go (parameter i (alg_param u n)) h = absurd (none-some m (sym (ap tree_type h)))
    go (parameter i (location_param n)) h = absurd (none-some m (sym (ap tree_type h)))

-- what is found is what stands in the slot
found-same : (t : Source) (r : Reached) (k i : ℕ) (y : ScopeEntry) → Agrees t r (At k i) → IsBody t k y.0 → IsEntry y.0 y.1 i
    → elim r [ reached p ↦ reached (as_written p.0, p.1) | missing ↦ missing | blocked ↦ blocked ] ≡ reached y
found-same t (reached (d, e)) k i y h own entry =
    let body : as_written d ≡ y.0 = some-same (as_written d) y.0 (sym h.0 ∙ own) in
    let here : slice_get (scope_of d) i ≡ Some (entry.0, y.1) = ap (λ es. slice_get es i) (sym (scope-written d)) ∙ ap (λ c. slice_get (scope_of c) i) body ∙ entry.1 in
    let pair : (h.1.0, e) ≡ (entry.0, y.1) = some-same (h.1.0, e) (entry.0, y.1) (sym h.1.1 ∙ here) in
    ap (λ c. reached (c, e)) body ∙ ap (λ (z : Ident × Entry). reached (y.0, z.1)) pair
found-same t missing k i y h own entry = absurd h
found-same t blocked k i y h own entry = absurd h

module _ (t : Source) (s : Scopes) (are : AreNumbered t s) (slots : List (List Slot)) (types : List NamedType) (slotted : AreRows (all t s are slots types) 0 (bodies t) (rows t s are slots types)) where
  abbrev every : List NamedTree
  every = all t s are slots types

  abbrev needs : List (List ℕ)
  needs = graph t s are slots types

  abbrev Stands : ℕ → ℕ → ℕ → ScopeEntry → Type 0
  Stands l k i x = StandsAt t s are slots types slotted l k i x

  -- the name that synonym m writes, and what it finds
  record Target (m l : ℕ) : Type 0 where
    from : ℕ
    name : Name
    to : ℕ
    at : ℕ
    entry : ScopeEntry
    is : slice_get every m ≡ Some (synonym from (named_type name))
    looked : look s.table s.definitions true from name ≡ At to at
    stands : Stands l to at entry

  target : (m l : ℕ) → Needs needs m l → Target m l
  target m l h = let w = needs-synonym t s are slots types m l h in go w.0 w.1 w.2 w.3
    where
      go : (j : ℕ) (ty : TypeTree) → slice_get every m ≡ Some (synonym j ty) → type_in_type s slots j ty ≡ Some l → Target m l
      go j bool_type e f = absurd (none-some l f)
      go j int_type e f = absurd (none-some l f)
      go j (range_type lower upper) e f = absurd (none-some l f)
      go j (named_type nm) e f =
          let w = type-stands t s are slots types slotted (look s.table s.definitions true j nm) l f in
          record { from = j; name = nm; to = w.0; at = w.1; entry = w.2; is = e; looked = w.3; stands = w.4 }

  reaches : (m l k i : ℕ) (x : ScopeEntry) → Stands m k i x → (w : Target m l) → ReachesType x w.entry
  reaches m l k i x h w =
      let v = slot-synonym every k m w.from (named_type w.name) x.1 h.slot w.is in
      let own : IsBody t w.from x.0 = subst (λ j. IsBody t j x.0) v.2 h.body in
      let agrees : Agrees t (found x.0 w.name) (At w.to w.at) =
      subst (λ r. Agrees t (found x.0 w.name) r) w.looked (found-is t s.table are.table are.indexed s.definitions are.definitions x.0 w.from w.name own) in
      let leads : found_written x.0 w.name ≡ reached w.entry = found-same t (found x.0 w.name) w.to w.at w.entry agrees w.stands.body w.stands.entry in
      subst (λ e. Any (λ n. found_written x.0 n ≡ reached w.entry) (names_of e)) (sym v.1) (any-of (λ n. found_written x.0 n ≡ reached w.entry) (w.name ∷ []) 0 w.name refl leads)

  -- what the types of a chain reach
  record Followed (b : ℕ) (x : ScopeEntry) : Type 0 where
    to : ℕ
    at : ℕ
    entry : ScopeEntry
    stands : Stands b to at entry
    chain : Chain ReachesType x entry

  follow : (a b : ℕ) → Chain (Needs needs) a b → (k i : ℕ) (x : ScopeEntry) → Stands a k i x → Followed b x
  follow a b (one h) k i x g = let w = target a b h in record { to = w.to; at = w.at; entry = w.entry; stands = w.stands; chain = one (reaches a b k i x g w) }
  follow a b (more {y = p} h c) k i x g =
      let w = target a p h in
      let v = follow p b c w.to w.at w.entry w.stands in
      record { to = v.to; at = v.at; entry = v.entry; stands = v.stands; chain = more (reaches a p k i x g w) v.chain }

  due : (l k i : ℕ) (x : ScopeEntry) → Stands l k i x → Chain ReachesType x x → (at : ℕ) × DefinitionCycleDue t at
  due l k i x h c =
      let n : Ident = h.entry.0 in (
        n.at,
        any-of (λ d. Any (λ (e : Ident × Entry). (e.0.at ≡ n.at) × ReachesItself (d, e.1)) (scope_of d)) (bodies t) k x.0 h.body
            (any-of (λ (e : Ident × Entry). (e.0.at ≡ n.at) × ReachesItself (x.0, e.1)) (scope_of x.0) i (n, x.1) h.entry.1 (refl, inr c)),
      )

  cyclic : (m : ℕ) → Chain (Needs needs) m m → (at : ℕ) × DefinitionCycleDue t at
  cyclic m (one h) = let w = target m m h in due m w.to w.at w.entry w.stands (one (reaches m m w.to w.at w.entry w.stands w))
  cyclic m (more {y = p} h c) =
      let w = target m p h in
      let v = follow p m c w.to w.at w.entry w.stands in
      due p w.to w.at w.entry w.stands (chain-join ReachesType w.entry v.entry w.entry v.chain (one (reaches m p v.to v.at v.entry v.stands w)))

  pub needs-acyclic : ((at : ℕ) → DefinitionCycleDue t at → ⊥) → (m : ℕ) → IsCyclic needs m → ⊥
  needs-acyclic none m c = let w = cyclic m c in none w.0 w.1
