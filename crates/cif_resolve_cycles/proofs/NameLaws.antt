-- Names that reach themselves by numbers are types and constants that do, and where names have an order none does.
use Rattle.std.proofs.Common.{◌≡◌, ℕ, zero, suc, ◌+◌, ◌-◌, ◌<◌, ◌≤◌, List, [], ◌∷◌, ◌++◌, map, length, replicate, inl, inr, refl, sym, ap, subst, ◌∙◌, arith, Option, Some, None}
use Rattle.std.specs.Prelude.{slice_get, flat_map, filter_map, option_map, true}
use Rattle.std.specs.Option.{option_to_list}
use Rattle.std.specs.List.{Any, enumerate_from, cons_option}
use Rattle.std.proofs.lemmas.List.{map-append}
use Rattle.std.proofs.lemmas.List.Folds.{flat_map-map}
use Rattle.cif_system.specs.Words.{Member, Chain, one, more}
use Rattle.cif_system.proofs.Lists.{some-same, none-some, slice_get-below}
use Rattle.cif_system.proofs.Distinct.{member-map, member-flat_map}
use Rattle.cif_system.proofs.Picks.{at-member, flat_map-member}
use Rattle.cif_ast.specs.declared.names.Ident.{Ident}
use Rattle.cif_ast.specs.declared.names.Name.{Name}
use Rattle.cif_source.specs.Source.{DeclTree, type_decl, enum_decl, event_decl, const_decl, alg_decl, input_decl, disc_decl, equation_decl, invariant_decl, marked_decl, ParamTree, LocationTree, SourceItem, decl_item, component_item, definition_item, instance_item, SourceBody, group_body, automaton_body, Source, no_source, source, list_of_items}
use Rattle.cif_source.specs.Components.{Component, body_of, params_of, as_written, scope_of, Entry, Entries, declared, literal, location, inner, definition, instance, parameter, literal_entries, decl_entries, location_entry, item_entries, body_entries, param_name, param_entries}
use Rattle.cif_source.specs.Lookup.{ScopeEntry, Reached, reached, missing, blocked, found}
use Rattle.cif_source.specs.Objects.{bodies}
use Rattle.cif_source.specs.Uses.{Use, decl_uses}
use Rattle.cif_source.specs.Scoping.{names_of, found_written, ReachesType}
use Rattle.cif_order.specs.Graph.{Needs, AreInside, IsRank}
use Rattle.cif_scope.specs.declared.scope.ScopeName.{ScopeName}
use Rattle.cif_scope.specs.declared.scope.Scope.{Scope}
use Rattle.cif_scope.specs.declared.looked.Looked.{Looked}
use Rattle.cif_scope.specs.declared.looked.Looked.TheVariants.{At, Missing, Blocked}
use Rattle.cif_scope.specs.declared.scopes.Scopes.{Scopes}
use Rattle.cif_scope.specs.Tables.{IsBody, Beside, IsName, IsScope}
use Rattle.cif_scope.specs.Looks.{look}
use Rattle.cif_scope.specs.Scopes.{AreNumbered}
use Rattle.cif_scope.specs.Written.{WrittenBody, written_bodies}
use Rattle.cif_scope.proofs.Places.{beside-at, beside-back, beside-append, beside-length, Sits, sits-head, sits-tail, sits-whole}
use Rattle.cif_scope.proofs.BodyLaws.{scope-written}
use Rattle.cif_scope.proofs.IndexLaws.{any-of, of-any}
use Rattle.cif_scope.proofs.LookLaws.{Agrees, get-map}
use Rattle.cif_scope.proofs.DefinitionLaws.{IsWritten, bodies-written}
use Rattle.cif_scope.proofs.FindLaws.{found-is}
use Rattle.cif_resolve_cycles.specs.Names.{names_before, firsts_of, number_of, all_names, place_of, denoted, use_needs, no_needs, decl_needs, location_needs, automaton_needs, item_needs, needs_in, needs_under, written_needs, needs_from, name_graph}
use Rattle.cif_resolve_cycles.specs.Answers.{TypeCycle}
use Rattle.cif_resolve_cycles.proofs.NumberLaws.{get-front, get-rest, names-first, first-at}
use Rattle.cif_resolve_cycles.proofs.Graphs.{member-at, in-option, option-in, needs-row, row-needs}
use Rattle.cif_resolve_cycles.proofs.Chains.{no-cycle}

-- ---- all entries, numbered through

abbrev OwnEntry : Type 0
OwnEntry = Component × (Ident × Entry)

abbrev entries_of : Component → List OwnEntry
entries_of c = map (λ (e : Ident × Entry). (c, e)) (scope_of c)

abbrev all_entries : Source → List OwnEntry
all_entries t = flat_map entries_of (bodies t)

module _ (t : Source) where
  -- the entry in a slot of a body, by its number
  numbered-in : (cs : List Component) (ss : List Scope) (k j : ℕ) (c : Component) (e : Ident × Entry) → Beside (IsScope t) cs ss → slice_get cs k ≡ Some c → slice_get (scope_of c) j ≡ Some e
      → slice_get (flat_map entries_of cs) (names_before ss k + j) ≡ Some (c, e)
  numbered-in [] ss k j c e h g f = absurd (none-some c g)
  numbered-in (d ∷ cs) [] k j c e h g f = absurd h
  numbered-in (d ∷ cs) (s ∷ ss) zero j c e h g f =
      let same : d ≡ c = some-same d c g in
      let here : slice_get (entries_of d) j ≡ Some (c, e) = subst (λ b. slice_get (entries_of b) j ≡ Some (c, e)) (sym same) (get-map (λ (x : Ident × Entry). (c, x)) (scope_of c) j e f) in
      let zero_first : 0 + j ≡ j = omega arith in
      ap (slice_get (flat_map entries_of (d ∷ cs))) zero_first ∙ get-front (entries_of d) (flat_map entries_of cs) j (slice_get-below (entries_of d) j (c, e) here) ∙ here
  numbered-in (d ∷ cs) (s ∷ ss) (suc k) j c e h g f =
      let long : length s.names ≡ length (scope_of d) = beside-length (IsName t d) (scope_of d) s.names h.0.names in
      let mapped : length (entries_of d) ≡ length (scope_of d) = length-map (λ (x : Ident × Entry). (d, x)) (scope_of d) in
      let n : ℕ = names_before ss k in
      let least : length (entries_of d) ≤ (length s.names + n) + j = omega arith in
      let rest : (length s.names + n) + j - length (entries_of d) ≡ n + j = omega arith in
      get-rest (entries_of d) (flat_map entries_of cs) ((length s.names + n) + j) least ∙ ap (slice_get (flat_map entries_of cs)) rest ∙ numbered-in cs ss k j c e h.1 g f
    where
      length-map : {A B : Type 0} (f : A → B) (xs : List A) → length (map f xs) ≡ length xs
      length-map f [] = refl
      length-map f (x ∷ xs) = ap suc (length-map f xs)

  -- an entry stands in a slot of a body
  entry-body : (m : ℕ) (c : Component) (e : Ident × Entry) → slice_get (all_entries t) m ≡ Some (c, e) → ((k : ℕ) × IsBody t k c) × Member e (scope_of c)
  entry-body m c e h =
      let w = member-flat_map entries_of (c, e) (bodies t) (at-member (all_entries t) m (c, e) h) in
      let v = member-map (λ (x : Ident × Entry). (w.0, x)) (c, e) (scope_of w.0) w.2 in
      let b = member-at (bodies t) w.0 w.1 in
      let same : w.0 ≡ c = sym (ap (λ (z : OwnEntry). z.0) v.2) in
      let entry : v.0 ≡ e = sym (ap (λ (z : OwnEntry). z.1) v.2) in
      ((b.0, b.1 ∙ ap Some same), subst (λ x. Member x (scope_of c)) entry (subst (λ d. Member v.0 (scope_of d)) same v.1))

  -- ---- the places of names

  abbrev IsNamed : OwnEntry → ScopeName → Type 0
  IsNamed z n = n.name ≡ z.1.0

  entries-named : (c : Component) (es : Entries) (ns : List ScopeName) → Beside (IsName t c) es ns → Beside IsNamed (map (λ (e : Ident × Entry). (c, e)) es) ns
  entries-named c [] [] h = tt
  entries-named c [] (n ∷ ns) h = absurd h
  entries-named c (e ∷ es) [] h = absurd h
  entries-named c (e ∷ es) (n ∷ ns) h = (h.0.0, entries-named c es ns h.1)

  all-named : (cs : List Component) (ss : List Scope) → Beside (IsScope t) cs ss → Beside IsNamed (flat_map entries_of cs) (all_names ss)
  all-named [] [] h = tt
  all-named [] (s ∷ ss) h = absurd h
  all-named (c ∷ cs) [] h = absurd h
  all-named (c ∷ cs) (s ∷ ss) h = beside-append IsNamed (entries_of c) (flat_map entries_of cs) s.names (all_names ss) (entries-named c (scope_of c) s.names h.0.names) (all-named cs ss h.1)

  pub place-at : (ss : List Scope) → Beside (IsScope t) (bodies t) ss → (m : ℕ) (z : OwnEntry) → slice_get (all_entries t) m ≡ Some z → place_of ss m ≡ Some z.1.0.at
  place-at ss table m z h =
      let n = beside-at IsNamed (all_entries t) (all_names ss) m z (all-named (bodies t) ss table) h in
      ap (option_map (λ (x : ScopeName). x.name.at)) n.1 ∙ ap (λ (i : Ident). Some i.at) n.2

-- ---- the needs of entries

module _ (t : Source) (s : Scopes) where
  abbrev firsts : List ℕ
  firsts = firsts_of s.table.scopes

  abbrev entry_needs : ℕ → Ident × Entry → List ℕ
  entry_needs k e = flat_map (denoted s firsts k) (names_of e.1)

  abbrev rows : ℕ → Entries → List (List ℕ)
  rows k es = map (entry_needs k) es

  use-needs : (k : ℕ) (us : List Use) → use_needs s firsts k us ≡ flat_map (denoted s firsts k) (map (λ (u : Use). u.name) us)
  use-needs k us = sym (flat_map-map (denoted s firsts k) (λ (u : Use). u.name) us)

  literal-rows : (k i : ℕ) (all ls : List Ident) → no_needs (length ls) ≡ rows k (map (λ (x : ℕ × Ident). (x.1, literal x.0 all)) (enumerate_from i ls))
  literal-rows k i all [] = refl
  literal-rows k i all (l ∷ ls) = ap (λ (ns : List (List ℕ)). [] ∷ ns) (literal-rows k (i + 1) all ls)

  decl-rows : (k : ℕ) (d : DeclTree) → decl_needs s firsts k d ≡ rows k (decl_entries d)
  decl-rows k (type_decl n ty) = ap (λ (ns : List ℕ). ns ∷ []) (use-needs k (decl_uses (type_decl n ty)))
  decl-rows k (const_decl ty n e) = ap (λ (ns : List ℕ). ns ∷ []) (use-needs k (decl_uses (const_decl ty n e)))
  decl-rows k (enum_decl n ls) = ap (λ (ns : List (List ℕ)). [] ∷ ns) (literal-rows k 0 ls ls)
  decl-rows k (event_decl c h n) = refl
  decl-rows k (alg_decl ty n e) = refl
  decl-rows k (input_decl ty n) = refl
  decl-rows k (disc_decl ty n e) = refl
  decl-rows k (equation_decl q) = refl
  decl-rows k (invariant_decl i) = refl
  decl-rows k (marked_decl p) = refl

  decls-rows : (k : ℕ) (ds : List DeclTree) → flat_map (decl_needs s firsts k) ds ≡ rows k (flat_map decl_entries ds)
  decls-rows k [] = refl
  decls-rows k (d ∷ ds) = ap (λ (l : List (List ℕ)). l ++ flat_map (decl_needs s firsts k) ds) (decl-rows k d) ∙ ap (λ (l : List (List ℕ)). rows k (decl_entries d) ++ l) (decls-rows k ds) ∙ sym (map-append (entry_needs k) (decl_entries d) (flat_map decl_entries ds))

  locations-rows : (k i : ℕ) (ls : List LocationTree) → flat_map location_needs ls ≡ rows k (filter_map location_entry (enumerate_from i ls))
  locations-rows k i [] = refl
  locations-rows k i (l ∷ ls) = go l.name (locations-rows k (i + 1) ls)
    where
      go : (o : Option Ident) → flat_map location_needs ls ≡ rows k (filter_map location_entry (enumerate_from (i + 1) ls)) → elim o [ None ↦ [] | Some n ↦ [] ∷ [] ] ++ flat_map location_needs ls ≡ rows k (cons_option (option_map (λ n. (n, location i)) o) (filter_map location_entry (enumerate_from (i + 1) ls)))
      go None h = h
      go (Some n) h = ap (λ (ns : List (List ℕ)). [] ∷ ns) h

  item-rows : (k : ℕ) (i : SourceItem) → item_needs s firsts k i ≡ rows k (item_entries i)
  item-rows k (decl_item d) = decl-rows k d
  item-rows k (component_item n b) = refl
  item-rows k (definition_item n ps b) = refl
  item-rows k (instance_item i) = refl

  items-rows : (k : ℕ) (is : Source) → needs_in s firsts k is ≡ rows k (flat_map item_entries (list_of_items is))
  items-rows k no_source = refl
  items-rows k (source i is) =
      ap (λ (l : List (List ℕ)). l ++ needs_in s firsts k is) (item-rows k i) ∙ ap (λ (l : List (List ℕ)). rows k (item_entries i) ++ l) (items-rows k is)
      ∙ sym (map-append (entry_needs k) (item_entries i) (flat_map item_entries (list_of_items is)))

  under-rows : (k : ℕ) (b : SourceBody) → needs_under s firsts k b ≡ rows k (body_entries b)
  under-rows k (group_body is) = items-rows k is
  under-rows k (automaton_body a) =
      ap (λ (l : List (List ℕ)). l ++ flat_map location_needs a.locs) (decls-rows k a.decls) ∙ ap (λ (l : List (List ℕ)). rows k (flat_map decl_entries a.decls) ++ l) (locations-rows k 0 a.locs)
      ∙ sym (map-append (entry_needs k) (flat_map decl_entries a.decls) (filter_map location_entry (enumerate_from 0 a.locs)))

  params-rows : (k i : ℕ) (ps : List ParamTree) → no_needs (length ps) ≡ rows k (map (λ (x : ℕ × ParamTree). (param_name x.1, parameter x.0 x.1)) (enumerate_from i ps))
  params-rows k i [] = refl
  params-rows k i (p ∷ ps) = ap (λ (ns : List (List ℕ)). [] ∷ ns) (params-rows k (i + 1) ps)

  written-rows : (k : ℕ) (c : Component) (w : WrittenBody) → IsWritten c w → written_needs s firsts k w ≡ rows k (scope_of c)
  written-rows k c w h =
      ap (λ (l : List (List ℕ)). l ++ needs_under s firsts k w.body) (params-rows k 0 w.params) ∙ ap (λ (l : List (List ℕ)). rows k (param_entries w.params) ++ l) (under-rows k w.body)
      ∙ sym (map-append (entry_needs k) (param_entries w.params) (body_entries w.body))
      ∙ ap (λ ps. rows k (param_entries ps ++ body_entries w.body)) (sym h.0) ∙ ap (λ b. rows k (param_entries (params_of c) ++ body_entries b)) (sym h.1)

  -- an entry and its needs
  abbrev IsRow : OwnEntry → List ℕ → Type 0
  IsRow z row = (k : ℕ) × IsBody t k z.0 × (row ≡ entry_needs k z.1)

  rows-beside : (k : ℕ) (c : Component) (es : Entries) → IsBody t k c → Beside IsRow (map (λ (e : Ident × Entry). (c, e)) es) (rows k es)
  rows-beside k c [] own = tt
  rows-beside k c (e ∷ es) own = ((k, own, refl), rows-beside k c es own)

  body-rows : (k : ℕ) (c : Component) (w : WrittenBody) → IsBody t k c → IsWritten c w → Beside IsRow (entries_of c) (written_needs s firsts k w)
  body-rows k c w own h = subst (λ (l : List (List ℕ)). Beside IsRow (entries_of c) l) (sym (written-rows k c w h)) (rows-beside k c (scope_of c) own)

  bodies-rows : (k : ℕ) (cs : List Component) (ws : List WrittenBody) → Beside IsWritten cs ws → Sits (bodies t) k cs → Beside IsRow (flat_map entries_of cs) (needs_from s firsts k ws)
  bodies-rows k [] [] h g = tt
  bodies-rows k [] (w ∷ ws) h g = absurd h
  bodies-rows k (c ∷ cs) [] h g = absurd h
  bodies-rows k (c ∷ cs) (w ∷ ws) h g =
      beside-append IsRow (entries_of c) (flat_map entries_of cs) (written_needs s firsts k w) (needs_from s firsts (k + 1) ws) (body-rows k c w (sits-head (bodies t) k c cs g) h.0) (bodies-rows (k + 1) cs ws h.1 (sits-tail (bodies t) k c cs g))

  abbrev graph : List (List ℕ)
  graph = name_graph s (written_bodies t)

  graph-rows : Beside IsRow (all_entries t) graph
  graph-rows = bodies-rows 0 (bodies t) (written_bodies t) (bodies-written t) (sits-whole (bodies t))

  -- ---- needs are what names reach

  module _ (are : AreNumbered t s) where
    -- the entry of a number
    abbrev IsAt : ℕ → ScopeEntry → Type 0
    IsAt m x = (n : Ident) × (slice_get (all_entries t) m ≡ Some (x.0, (n, x.1)))

    is-one : (m : ℕ) (x y : ScopeEntry) → IsAt m x → IsAt m y → x ≡ y
    is-one m x y h g = ap (λ (z : OwnEntry). (z.0, z.1.1)) (some-same (x.0, (h.0, x.1)) (y.0, (g.0, y.1)) (sym h.1 ∙ g.1))

    abbrev as_reached : Reached → Reached
    as_reached r = elim r [ reached p ↦ reached (as_written p.0, p.1) | missing ↦ missing | blocked ↦ blocked ]

    slot-number : (k j : ℕ) (d : Component) (e : Ident × Entry) → IsBody t k (as_written d) → slice_get (scope_of d) j ≡ Some e
        → (number_of firsts (At k j) ≡ Some (names_before s.table.scopes k + j)) × (slice_get (all_entries t) (names_before s.table.scopes k + j) ≡ Some (as_written d, e))
    slot-number k j d e own at =
        let l : k < length (bodies t) = slice_get-below (bodies t) k (as_written d) own in
        let count : length s.table.scopes ≡ length (bodies t) = beside-length (IsScope t) (bodies t) s.table.scopes are.table in
        let below : k < length s.table.scopes = omega arith in (
          ap (option_map (λ f. f + j)) (first-at s.table.scopes (length s.table.scopes) k below),
          numbered-in t (bodies t) s.table.scopes k j (as_written d) e are.table own (ap (λ (es : Entries). slice_get es j) (scope-written d) ∙ at),
        )

    number-reached : (r : Reached) (l : Looked) (m : ℕ) → Agrees t r l → number_of firsts l ≡ Some m → (y : ScopeEntry) × IsAt m y × (as_reached r ≡ reached y)
    number-reached (reached (d, e)) (At k j) m h g =
        let w = slot-number k j d (h.1.0, e) h.0 h.1.1 in
        let same : names_before s.table.scopes k + j ≡ m = some-same (names_before s.table.scopes k + j) m (sym w.0 ∙ g) in
        ((as_written d, e), (h.1.0, subst (λ i. slice_get (all_entries t) i ≡ Some (as_written d, (h.1.0, e))) same w.1), refl)
    number-reached (reached (d, e)) Missing m h g = absurd h
    number-reached (reached (d, e)) Blocked m h g = absurd h
    number-reached missing (At k j) m h g = absurd h
    number-reached missing Missing m h g = absurd (none-some m g)
    number-reached missing Blocked m h g = absurd h
    number-reached blocked (At k j) m h g = absurd h
    number-reached blocked Missing m h g = absurd h
    number-reached blocked Blocked m h g = absurd (none-some m g)

    reached-same : (x y : ScopeEntry) → reached x ≡ reached y → x ≡ y
    reached-same x y h = cc

    missing-reached : (y : ScopeEntry) → missing ≡ reached y → ⊥
    missing-reached y h = cc

    blocked-reached : (y : ScopeEntry) → blocked ≡ reached y → ⊥
    blocked-reached y h = cc

    reached-number : (r : Reached) (l : Looked) (y : ScopeEntry) → Agrees t r l → as_reached r ≡ reached y → (m : ℕ) × (number_of firsts l ≡ Some m) × IsAt m y
    reached-number (reached (d, e)) (At k j) y h g =
        let w = slot-number k j d (h.1.0, e) h.0 h.1.1 in
        (names_before s.table.scopes k + j, w.0, subst (λ z. IsAt (names_before s.table.scopes k + j) z) (reached-same (as_written d, e) y g) (h.1.0, w.1))
    reached-number (reached (d, e)) Missing y h g = absurd h
    reached-number (reached (d, e)) Blocked y h g = absurd h
    reached-number missing l y h g = absurd (missing-reached y g)
    reached-number blocked l y h g = absurd (blocked-reached y g)

    name-agrees : (k : ℕ) (c : Component) (nm : Name) → IsBody t k c → Agrees t (found c nm) (look s.table s.definitions true k nm)
    name-agrees k c nm own = found-is t s.table are.table are.indexed s.definitions are.definitions c k nm own

    need-reached : (m l : ℕ) → Needs graph m l → (x : ScopeEntry) × (y : ScopeEntry) × IsAt m x × IsAt l y × ReachesType x y
    need-reached m l h =
        let row = needs-row graph m l h in
        let z = beside-back IsRow (all_entries t) graph m row.0 graph-rows row.1 in
        let k : ℕ = z.2.0 in
        let c : Component = z.0.0 in
        let nm = member-flat_map (denoted s firsts k) l (names_of z.0.1.1) (subst (λ (ns : List ℕ). Member l ns) z.2.2 row.2) in
        let at = member-at (names_of z.0.1.1) nm.0 nm.1 in
        let y = number-reached (found c nm.0) (look s.table s.definitions true k nm.0) l (name-agrees k c nm.0 z.2.1) (in-option (number_of firsts (look s.table s.definitions true k nm.0)) l nm.2) in
        ((c, z.0.1.1), y.0, (z.0.1.0, z.1), y.1, any-of (λ (n : Name). found_written c n ≡ reached y.0) (names_of z.0.1.1) at.0 nm.0 at.1 y.2)

    chain-reached : (m l : ℕ) → Chain (Needs graph) m l → (x : ScopeEntry) × (y : ScopeEntry) × IsAt m x × IsAt l y × Chain ReachesType x y
    chain-reached m l (one h) = let w = need-reached m l h in (w.0, w.1, w.2, w.3, one w.4)
    chain-reached m l (more {y = i} h ch) =
        let w = need-reached m i h in
        let v = chain-reached i l ch in
        let same : v.0 ≡ w.1 = is-one i v.0 w.1 v.2 w.3 in
        (w.0, v.1, w.2, v.3, more w.4 (subst (λ x. Chain ReachesType x v.1) same v.4))

    pub cyclic-told : (m : ℕ) → Chain (Needs graph) m m → (at : ℕ) × (place_of s.table.scopes m ≡ Some at) × TypeCycle t at
    cyclic-told m ch =
        let w = chain-reached m m ch in
        let chain : Chain ReachesType w.0 w.0 = subst (λ y. Chain ReachesType w.0 y) (is-one m w.1 w.0 w.3 w.2) w.4 in
        let n : Ident = w.2.0 in
        let c : Component = w.0.0 in
        let e : Ident × Entry = (n, w.0.1) in
        let b = entry-body t m c e w.2.1 in
        let at = member-at (scope_of c) e b.1 in (
          n.at,
          place-at t s.table.scopes are.table m (c, e) w.2.1,
          any-of (λ d. Any (λ (x : Ident × Entry). (x.0.at ≡ n.at) × Chain ReachesType (d, x.1) (d, x.1)) (scope_of d)) (bodies t) b.0.0 c b.0.1
              (any-of (λ (x : Ident × Entry). (x.0.at ≡ n.at) × Chain ReachesType (c, x.1) (c, x.1)) (scope_of c) at.0 e at.1 (refl, chain)),
        )

    pub name-needs-inside : AreInside graph
    name-needs-inside m l h =
        let w = need-reached m l h in
        let below : l < length (all_entries t) = slice_get-below (all_entries t) l (w.1.0, (w.3.0, w.1.1)) w.3.1 in
        let long : length graph ≡ length (all_entries t) = beside-length IsRow (all_entries t) graph graph-rows in
        omega arith

    -- ---- where names have ranks

    module _ (rank : ℕ → ℕ) (is : IsRank graph rank) where
      reaching-falls : (m : ℕ) (x y : ScopeEntry) → IsAt m x → ReachesType x y → Unit {0} → (l : ℕ) × IsAt l y × (rank l < rank m)
      reaching-falls m x y at r h =
          let row = beside-at IsRow (all_entries t) graph m (x.0, (at.0, x.1)) graph-rows at.1 in
          let k : ℕ = row.2.0 in
          let w = of-any (λ (n : Name). found_written x.0 n ≡ reached y) (names_of x.1) r in
          let l = reached-number (found x.0 w.1) (look s.table s.definitions true k w.1) y (name-agrees k x.0 w.1 row.2.1) w.3 in
          let m' : Member l.0 (entry_needs k (at.0, x.1)) = flat_map-member (denoted s firsts k) w.1 (names_of x.1) l.0 (at-member (names_of x.1) w.0 w.1 w.2) (option-in (number_of firsts (look s.table s.definitions true k w.1)) l.0 l.1) in
          let need : Needs graph m l.0 = row-needs graph m l.0 row.0 row.1 (subst (λ (ns : List ℕ). Member l.0 ns) (sym row.2.2) m') in
          (l.0, l.2, is.falls m l.0 need)

      pub types-acyclic : (at : ℕ) → TypeCycle t at → ⊥
      types-acyclic at due =
          let w = of-any (λ c. Any (λ (e : Ident × Entry). (e.0.at ≡ at) × Chain ReachesType (c, e.1) (c, e.1)) (scope_of c)) (bodies t) due in
          let v = of-any (λ (e : Ident × Entry). (e.0.at ≡ at) × Chain ReachesType (w.1, e.1) (w.1, e.1)) (scope_of w.1) w.3 in
          let m : ℕ = names_before s.table.scopes w.0 + v.0 in
          let here : slice_get (all_entries t) m ≡ Some (w.1, v.1) = numbered-in t (bodies t) s.table.scopes w.0 v.0 w.1 v.1 are.table w.2 v.2 in
          let small : rank m < suc (rank m) = omega arith in
          no-cycle ReachesType (λ y. Unit {0}) (λ i y. IsAt i y) rank (λ x y r. tt) reaching-falls (suc (rank m)) m (w.1, v.1.1) small (v.1.0, here) v.3.1
