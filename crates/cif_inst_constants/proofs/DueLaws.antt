-- What the values of constants, or their lack, say of a source.
use Rattle.std.proofs.Common.{◌≡◌, ℕ, ◌<◌, ℤ, Bool, List, [], length, map, refl, sym, ap, subst, ◌∙◌, arith, Some, inl, ◌⊎◌}
use Rattle.std.specs.Prelude.{slice_get, IsTrue, Result, Ok, Err}
use Rattle.std.proofs.lemmas.Option.{slice_get-map}
use Rattle.cif_system.specs.Words.{Member}
use Rattle.cif_system.proofs.Lists.{some-same, none-some, slice_get-below, map-length}
use Rattle.cif_system.proofs.Picks.{at-member, append-right, map-member, flat_map-member, map-at}
use Rattle.cif_system.proofs.Distinct.{member-flat_map}
use Rattle.cif_ast.specs.Tree.{Tree}
use Rattle.cif_source.specs.Source.{TypeTree, DeclTree, type_decl, enum_decl, event_decl, const_decl, alg_decl, input_decl, disc_decl, equation_decl, invariant_decl, marked_decl, Source, tree_at}
use Rattle.cif_source.specs.Components.{Component, as_written, Entry, declared, literal, location, inner, definition, instance, parameter}
use Rattle.cif_source.specs.Lookup.{ScopeEntry, Reached, reached, missing, blocked, found}
use Rattle.cif_source.specs.Objects.{components_of, decls_of}
use Rattle.cif_source.specs.Uses.{decl_uses}
use Rattle.cif_source.specs.Value.{constant}
use Rattle.cif_source.specs.Constants.{bound_values, decl_constants, typed_constants, constants_of}
use Rattle.cif_source.specs.InstanceRules.{is_faulty, FaultyConstant, LeavesRange, LongBound, EmptyRange, ConstantRangeDue}
use Rattle.cif_order.specs.Graph.{AreInside, IsOrder}
use Rattle.cif_order.proofs.OrderLaws.{order-rank}
use Rattle.cif_scope.specs.declared.looked.Looked.{Looked}
use Rattle.cif_scope.specs.declared.looked.Looked.TheVariants.{At, Missing, Blocked}
use Rattle.cif_scope.specs.declared.scopes.Scopes.{Scopes}
use Rattle.cif_scope.specs.Looks.{what_at}
use Rattle.cif_scope.specs.Tables.{IsBody}
use Rattle.cif_scope.specs.Scopes.{IsEntry}
use Rattle.cif_scope.specs.Written.{written_bodies}
use Rattle.cif_inst_model.proofs.RuleLaws.{member-any}
use Rattle.cif_scope.proofs.LookLaws.{Agrees}
use Rattle.cif_scope.proofs.FindLaws.{what-of}
use Rattle.cif_resolve_cycles.proofs.Graphs.{in-option, needs-row}
use Rattle.cif_inst_constants.specs.Numbers.{unit_of, numbers_of, number_at, number_if, number_found}
use Rattle.cif_inst_constants.specs.Nodes.{node_of, node_in, nodes_in, use_need, node_needs, filled}
use Rattle.cif_inst_constants.specs.declared.nodes.Constant.{Constant}
use Rattle.cif_inst_constants.specs.Used.{used_from}
use Rattle.cif_inst_constants.specs.Constants.{HasValues}
use Rattle.cif_inst_constants.proofs.UsedLaws.{IsMarked}
use Rattle.cif_inst_constants.proofs.FoundLaws.{Stands, found-stands, agrees, looks}
use Rattle.cif_inst_constants.proofs.NodeLaws.{nodes, entry_nodes, what-unit}
use Rattle.cif_inst_constants.proofs.ReachedLaws.{numbers, found-node}
use Rattle.cif_inst_constants.proofs.RankLaws.{graph}
use Rattle.cif_inst_constants.proofs.FillLaws.{IsFaultyAt, nodes-sound, Answer, fill-is, has-values}

-- ---- a faulty value

faulty-due : (t : Source) (at : ℕ) → IsFaultyAt t at → ConstantRangeDue t at
faulty-due t at h =
    let c : Component = h.component in
    let typed : Member (h.ty, h.value) (typed_constants c) = flat_map-member decl_constants (const_decl h.ty h.name h.value) (decls_of c) (h.ty, h.value) h.declares (inl refl) in
    let inside : Member h.value (constants_of c) = append-right h.value (bound_values c) (map (λ (v : TypeTree × Tree). v.1) (typed_constants c)) (map-member (λ (v : TypeTree × Tree). v.1) (h.ty, h.value) (typed_constants c) typed) in
    let fault : FaultyConstant c at = member-any (λ e. (tree_at e ≡ at) × IsTrue (is_faulty (constant c) e)) h.value (constants_of c) inside (h.stands, h.faulty) in
    member-any (λ d. FaultyConstant d at ⊎ LeavesRange d at ⊎ LongBound d at ⊎ EmptyRange d at) c (components_of t) h.listed (inl fault)

module _ (t : Source) (s : Scopes) (used : List Bool) (are : IsMarked t s used) where
  -- ---- needs are constants

  none-found : (k j : ℕ) (d : Component) (m : ℕ) (x : Entry) → IsBody t k (as_written d) → (at : IsEntry d x j) → length (entry_nodes 0 (at.0, x)) ≡ 0 → number_found s (numbers t s used are) (At k j) ≡ Some m → m < length (nodes t s used are)
  none-found k j d m x own at none h =
      let w = what-of t s.table are.numbers.table are.numbers.indexed k j d x own at in
      let unit : unit_of (what_at s.table k j) ≡ 0 = ap unit_of w.1 ∙ what-unit t (as_written d) at.0 x w.0 w.2 ∙ none in
      absurd (none-some m (ap (λ u. number_if u (number_at (numbers t s used are) k j)) (sym unit) ∙ h))

  found-const : (k j : ℕ) (d : Component) (m : ℕ) (x : DeclTree) → Stands t (d, declared x) → IsBody t k (as_written d) → IsEntry d (declared x) j → number_found s (numbers t s used are) (At k j) ≡ Some m → m < length (nodes t s used are)
  found-const k j d m (const_decl ty n e) stands own at h =
      let f = found-node t s used are k j d ty n e stands own at in
      let same : number_at (numbers t s used are) k j ≡ m = some-same (number_at (numbers t s used are) k j) m (sym f.1 ∙ h) in
      slice_get-below (nodes t s used are) m (record { body = f.0; decl = const_decl ty n e; value = e }) (ap (slice_get (nodes t s used are)) (sym same) ∙ f.2.at)
  found-const k j d m (type_decl n ty) stands own at h = none-found k j d m (declared (type_decl n ty)) own at refl h
  found-const k j d m (enum_decl n ls) stands own at h = none-found k j d m (declared (enum_decl n ls)) own at refl h
  found-const k j d m (event_decl c x n) stands own at h = none-found k j d m (declared (event_decl c x n)) own at refl h
  found-const k j d m (alg_decl ty n e) stands own at h = none-found k j d m (declared (alg_decl ty n e)) own at refl h
  found-const k j d m (input_decl ty n) stands own at h = none-found k j d m (declared (input_decl ty n)) own at refl h
  found-const k j d m (disc_decl ty n e) stands own at h = none-found k j d m (declared (disc_decl ty n e)) own at refl h
  found-const k j d m (equation_decl q) stands own at h = none-found k j d m (declared (equation_decl q)) own at refl h
  found-const k j d m (invariant_decl i) stands own at h = none-found k j d m (declared (invariant_decl i)) own at refl h
  found-const k j d m (marked_decl p) stands own at h = none-found k j d m (declared (marked_decl p)) own at refl h

  found-below : (r : Reached) (l : Looked) (m : ℕ) → ((x : ScopeEntry) → r ≡ reached x → Stands t x) → Agrees t r l → number_found s (numbers t s used are) l ≡ Some m → m < length (nodes t s used are)
  found-below (reached (d, declared x)) (At k j) m stands a h = found-const k j d m x (stands (d, declared x) refl) a.0 a.1 h
  found-below (reached (d, literal i ls)) (At k j) m stands a h = none-found k j d m (literal i ls) a.0 a.1 refl h
  found-below (reached (d, location i)) (At k j) m stands a h = none-found k j d m (location i) a.0 a.1 refl h
  found-below (reached (d, inner n b)) (At k j) m stands a h = none-found k j d m (inner n b) a.0 a.1 refl h
  found-below (reached (d, definition n ps b)) (At k j) m stands a h = none-found k j d m (definition n ps b) a.0 a.1 refl h
  found-below (reached (d, instance i)) (At k j) m stands a h = none-found k j d m (instance i) a.0 a.1 refl h
  found-below (reached (d, parameter i p)) (At k j) m stands a h = none-found k j d m (parameter i p) a.0 a.1 refl h
  found-below (reached x) Missing m stands a h = absurd a
  found-below (reached x) Blocked m stands a h = absurd a
  found-below missing (At k j) m stands a h = absurd a
  found-below missing Missing m stands a h = absurd (none-some m h)
  found-below missing Blocked m stands a h = absurd a
  found-below blocked (At k j) m stands a h = absurd a
  found-below blocked Missing m stands a h = absurd a
  found-below blocked Blocked m stands a h = absurd (none-some m h)

  pub needs-inside : AreInside (graph t s used are)
  needs-inside m l need =
      let row = needs-row (graph t s used are) m l need in
      let x = map-at (node_needs s (numbers t s used are)) (nodes t s used are) m row.0 row.1 in
      let c = nodes-sound t s used are x.0 (at-member (nodes t s used are) m x.0 x.1) in
      let u = member-flat_map (use_need s (numbers t s used are) x.0.body) l (decl_uses x.0.decl) (subst (λ (ns : List ℕ). Member l ns) x.2 row.2) in
      let below : l < length (nodes t s used are) =
      found-below (found c.component u.0.name) (looks t s are.numbers x.0.body u.0.name) l (found-stands t are.few c.component c.listed u.0.name) (agrees t s are.numbers x.0.body c.component c.own u.0.name)
      (in-option (number_found s (numbers t s used are) (looks t s are.numbers x.0.body u.0.name)) l u.2) in
      omega (arith, below, map-length (node_needs s (numbers t s used are)) (nodes t s used are))

  -- ---- all values

  pub answer-is : (order : List ℕ) (zs : List ℤ) → IsOrder (graph t s used are) order → length zs ≡ length (nodes t s used are)
      → ((out : List ℤ) → filled s (numbers t s used are) (λ m. slice_get (nodes t s used are) m) zs order ≡ Ok out → HasValues t s (numbers t s used are) out)
      × ((at : ℕ) → filled s (numbers t s used are) (λ m. slice_get (nodes t s used are) m) zs order ≡ Err at → ConstantRangeDue t at)
  answer-is order zs is long =
      let rank = order-rank (graph t s used are) order is in
      let answer = fill-is t s used are order is rank.0 rank.1 order [] zs refl long (λ m g. absurd g) in (
        λ out e. has-values t s used are order is rank.0 rank.1 out (subst (λ (r : Result (List ℤ) ℕ). Answer t s used are order is rank.0 rank.1 r) e answer),
        λ at e. faulty-due t at (subst (λ (r : Result (List ℤ) ℕ). Answer t s used are order is rank.0 rank.1 r) e answer),
      )

-- ---- the answers of the code

node-map : (cs : List Constant) (m : ℕ) → node_in cs m ≡ slice_get (map node_of cs) m
node-map cs m = sym (slice_get-map node_of cs m)

-- what the code has: the numbers of constants, the constants, their needs, an order of these, and values to begin with
pub record IsReady (t : Source) (s : Scopes) (used : List Bool) (ns needs : List (List ℕ)) (cs : List Constant) (order : List ℕ) (zs : List ℤ) : Type 0 where
  pub numbered : ns ≡ numbers_of s used
  pub listed : map node_of cs ≡ nodes_in (used_from used 0 (written_bodies t))
  pub needed : needs ≡ map (node_needs s ns) (map node_of cs)
  pub ordered : IsOrder needs order
  pub long : length zs ≡ length needs

pub inside-is : (t : Source) (s : Scopes) (used : List Bool) (ns needs : List (List ℕ)) (cs : List Constant) → IsMarked t s used → ns ≡ numbers_of s used → map node_of cs ≡ nodes_in (used_from used 0 (written_bodies t)) → needs ≡ map (node_needs s ns) (map node_of cs) → AreInside needs
inside-is t s used ns needs cs are e f g = subst (λ (l : List (List ℕ)). AreInside l) (sym (g ∙ (λ i. map (node_needs s (e i)) (f i)))) (needs-inside t s used are)

module _ (t : Source) (s : Scopes) (used : List Bool) (ns needs : List (List ℕ)) (cs : List Constant) (order : List ℕ) (zs : List ℤ) (are : IsMarked t s used) (h : IsReady t s used ns needs cs order zs) where
  its-order : IsOrder (graph t s used are) order
  its-order = subst (λ (l : List (List ℕ)). IsOrder l order) (h.needed ∙ (λ i. map (node_needs s (h.numbered i)) (h.listed i))) h.ordered

  its-length : length zs ≡ length (nodes t s used are)
  its-length = h.long ∙ ap length h.needed ∙ map-length (node_needs s ns) (map node_of cs) ∙ ap length h.listed

  same-filled : filled s ns (node_in cs) zs order ≡ filled s (numbers_of s used) (λ m. slice_get (nodes_in (used_from used 0 (written_bodies t))) m) zs order
  same-filled = (λ i. filled s ns (λ m. node-map cs m i) zs order) ∙ (λ i. filled s (h.numbered i) (λ m. slice_get (h.listed i) m) zs order)

  pub values-are : (out : List ℤ) (r : Result (List ℤ) ℕ) → r ≡ filled s ns (node_in cs) zs order → r ≡ Ok out → HasValues t s ns out
  values-are out r e ok = subst (λ (l : List (List ℕ)). HasValues t s l out) (sym h.numbered) ((answer-is t s used are order zs its-order its-length).0 out (sym same-filled ∙ sym e ∙ ok))

  pub refused-at : (at : ℕ) (r : Result (List ℤ) ℕ) → r ≡ filled s ns (node_in cs) zs order → r ≡ Err at → ConstantRangeDue t at
  refused-at at r e err = (answer-is t s used are order zs its-order its-length).1 at (sym same-filled ∙ sym e ∙ err)
