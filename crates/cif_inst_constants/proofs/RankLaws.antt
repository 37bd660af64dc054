-- The value of a constant rests on those of lower rank, so more unfoldings than its rank change nothing.
use Rattle.std.proofs.Common.{◌≡◌, Bool, false, ℕ, zero, suc, ◌<◌, ◌≤◌, ℤ, pos, List, map, inl, refl, sym, ◌∙◌, arith, Some}
use Rattle.cif_system.specs.Words.{Member}
use Rattle.cif_system.proofs.Picks.{append-right, map-member, flat_map-member}
use Rattle.cif_ast.specs.declared.names.Ident.{Ident}
use Rattle.cif_ast.specs.declared.names.Name.{Name}
use Rattle.cif_ast.specs.Tree.{Tree}
use Rattle.cif_source.specs.Source.{const_decl, TypeTree, Source}
use Rattle.cif_source.specs.Components.{Component, declared}
use Rattle.cif_source.specs.Lookup.{ScopeEntry, Reached, reached, missing, blocked, found, follow, ended}
use Rattle.cif_source.specs.Objects.{decls_of}
use Rattle.cif_source.specs.Scoping.{is_wrong}
use Rattle.cif_source.specs.Uses.{Use, value_asked, names_in, type_uses, value_uses, decl_uses}
use Rattle.cif_source.specs.Value.{constant_object, constant_within}
use Rattle.cif_source.specs.BodyRules.{is_constant}
use Rattle.cif_source.specs.Constants.{bound_values, decl_constants, typed_constants}
use Rattle.cif_order.specs.Graph.{Needs, IsRank}
use Rattle.cif_scope.specs.declared.looked.Looked.{Looked}
use Rattle.cif_scope.specs.declared.looked.Looked.TheVariants.{At, Missing, Blocked}
use Rattle.cif_scope.specs.declared.scopes.Scopes.{Scopes}
use Rattle.cif_scope.proofs.LookLaws.{Agrees, get-map}
use Rattle.cif_resolve_cycles.proofs.Graphs.{option-in, row-needs}
use Rattle.cif_inst_bodies.specs.Constancy.{HasConstantNames}
use Rattle.cif_inst_bodies.proofs.Bodies.{components-written}
use Rattle.cif_inst_bodies.proofs.Constants.{constants-kept}
use Rattle.cif_inst_constants.specs.Numbers.{number_at, number_found}
use Rattle.cif_inst_constants.specs.Nodes.{Node, use_need, node_needs}
use Rattle.cif_inst_constants.proofs.Meanings.{defined_within, name_within}
use Rattle.cif_source.proofs.Values.{value-agrees}
use Rattle.cif_inst_constants.proofs.ValueLaws.{within-value}
use Rattle.cif_inst_constants.proofs.UsedLaws.{IsMarked}
use Rattle.cif_inst_constants.proofs.FoundLaws.{Stands, found-stands, agrees, looks}
use Rattle.cif_inst_constants.proofs.NodeLaws.{nodes}
use Rattle.cif_inst_constants.proofs.ReachedLaws.{numbers, followed, IsNode, IsFoundNode, found-node, constant_argument}

module _ (t : Source) (s : Scopes) (used : List Bool) (are : IsMarked t s used) where
  abbrev pub graph : List (List ℕ)
  graph = map (node_needs s (numbers t s used are)) (nodes t s used are)

  -- a constant that the value of another names is one of its needs
  pub value-need : (m k l : ℕ) (c : Component) (ty : TypeTree) (n : Ident) (e : Tree) (nm : Name) → IsNode t s used are m k c ty n e → Member nm (names_in e)
      → number_found s (numbers t s used are) (looks t s are.numbers k nm) ≡ Some l → Needs graph m l
  value-need m k l c ty n e nm h g found =
      let x : Node = record { body = k; decl = const_decl ty n e; value = e } in
      let u : Use = record { name = nm; asks = value_asked } in
      let asked : Member u (decl_uses (const_decl ty n e)) = append-right u (type_uses ty) (value_uses e) (map-member (λ (i : Name). record { name = i; asks = value_asked }) nm (names_in e) g) in
      row-needs graph m l (node_needs s (numbers t s used are) x) (get-map (node_needs s (numbers t s used are)) (nodes t s used are) m x h.at)
      (flat_map-member (use_need s (numbers t s used are) k) u (decl_uses (const_decl ty n e)) l asked (option-in (number_found s (numbers t s used are) (looks t s are.numbers k nm)) l found))

  -- the names in its value are constant
  pub node-constant : (m k : ℕ) (d : Component) (ty : TypeTree) (n : Ident) (e : Tree) → IsNode t s used are m k d ty n e → HasConstantNames d e
  node-constant m k d ty n e h =
      constants-kept t are.constancy d (components-written t d h.listed) e
      (append-right e (bound_values d) (map (λ (v : TypeTree × Tree). v.1) (typed_constants d))
      (map-member (λ (v : TypeTree × Tree). v.1) (ty, e) (typed_constants d) (flat_map-member decl_constants (const_decl ty n e) (decls_of d) (ty, e) h.declares (inl refl))))

  module _ (rank : ℕ → ℕ) (is : IsRank graph rank) where
    -- two ways to give constants of lower rank values agree on the names of a value
    abbrev SameBelow : ℕ → (Component → Tree → ℤ) → (Component → Tree → ℤ) → Type 0
    SameBelow m f g = (l k : ℕ) (d : Component) (ty : TypeTree) (n : Ident) (e : Tree) → IsNode t s used are l k d ty n e → rank l < rank m → f d e ≡ g d e

    ended-same : (f g : Component → Tree → ℤ) (r : Reached) (l : Looked) → ((x : ScopeEntry) → r ≡ reached x → Stands t x) → Agrees t r l
        → ((m : ℕ) (d : Component) (ty : TypeTree) (n : Ident) (e : Tree) → r ≡ reached (d, declared (const_decl ty n e)) → IsFoundNode t s used are l m d ty n e → f d e ≡ g d e)
        → ended (constant_object f) (pos 0) r ≡ ended (constant_object g) (pos 0) r
    ended-same f g (reached (d, declared (const_decl ty n e))) (At k j) stands h same = same (number_at (numbers t s used are) k j) d ty n e refl (found-node t s used are k j d ty n e (stands (d, declared (const_decl ty n e)) refl) h.0 h.1)
    ended-same f g (reached (d, declared (const_decl ty n e))) Missing stands h same = absurd h
    ended-same f g (reached (d, declared (const_decl ty n e))) Blocked stands h same = absurd h
    ended-same f g (reached (d, x)) l stands h same = refl
    ended-same f g missing l stands h same = refl
    ended-same f g blocked l stands h same = refl

    names-same : (m k : ℕ) (d : Component) (ty : TypeTree) (n : Ident) (e : Tree) (f g : Component → Tree → ℤ) → IsNode t s used are m k d ty n e → SameBelow m f g
        → (nm : Name) → Member nm (names_in e) → follow (constant_object f) (pos 0) constant_argument d nm ≡ follow (constant_object g) (pos 0) constant_argument d nm
    names-same m k d ty n e f g h same nm member =
        let right : is_wrong is_constant (found d nm) ≡ false = node-constant m k d ty n e h nm member in
        followed f d nm right
        ∙ ended-same f g (found d nm) (looks t s are.numbers k nm) (found-stands t are.few d h.listed nm) (agrees t s are.numbers k d h.own nm)
        (λ l x xty xn xe at node. same l node.0 x xty xn xe node.2 (is.falls m l (value-need m k l d ty n e nm h member node.1)))
        ∙ sym (followed g d nm right)

    step : (n p m k : ℕ) (d : Component) (ty : TypeTree) (x : Ident) (e : Tree) → IsNode t s used are m k d ty x e → SameBelow m (defined_within n) (defined_within p) → constant_within n d e ≡ constant_within p d e
    step n p m k d ty x e h same =
        within-value n d e ∙ value-agrees (name_within n d) (name_within p d) (pos 0) e (names-same m k d ty x e (defined_within n) (defined_within p) h same) ∙ sym (within-value p d e)

    pub stable : (n p m k : ℕ) (d : Component) (ty : TypeTree) (x : Ident) (e : Tree) → IsNode t s used are m k d ty x e → rank m ≤ n → rank m ≤ p → constant_within n d e ≡ constant_within p d e
    stable zero p m k d ty x e h a b = step zero p m k d ty x e h (λ l i c y z w g lower. absurd (omega (arith, lower, a)))
    stable (suc n) zero m k d ty x e h a b = step (suc n) zero m k d ty x e h (λ l i c y z w g lower. absurd (omega (arith, lower, b)))
    stable (suc n) (suc p) m k d ty x e h a b = step (suc n) (suc p) m k d ty x e h (λ l i c y z w g lower. stable n p l i c y z w g (omega (arith, lower, a)) (omega (arith, lower, b)))

    pub stable-below : (n m k : ℕ) (d : Component) (ty : TypeTree) (x : Ident) (e : Tree) → IsNode t s used are m k d ty x e → rank m < n → constant_within n d e ≡ defined_within n d e
    stable-below zero m k d ty x e h a = absurd (omega (arith, a))
    stable-below (suc n) m k d ty x e h a = stable (suc n) n m k d ty x e h (omega (arith, a)) (omega (arith, a))
