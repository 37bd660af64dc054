-- Where definitions need what their names stand for, the needs lead down to all algebraic variables that they name in the net.
use Rattle.std.proofs.Common.{◌≡◌, ℕ, zero, suc, ◌<◌, inl, inr, false, List, [], ◌∷◌, Option, Some, None, refl, sym, ◌∙◌, ap, subst, arith}
use Rattle.std.specs.Prelude.{flat_map, slice_get, slice_index_or}
use Rattle.cif_ast.specs.Tree.{Tree}
use Rattle.cif_ast.specs.declared.names.Name.{Name}
use Rattle.cif_system.specs.Words.{Member}
use Rattle.cif_system.proofs.Lists.{some-same, none-some, false-true}
use Rattle.cif_system.proofs.Distinct.{member-map, member-flat_map}
use Rattle.cif_system.proofs.Picks.{append-left, flat_map-member}
use Rattle.cif_order.specs.Graph as graph
use Rattle.cif_net_expr.specs.Tree.{NetExpr, net_expr}
use Rattle.cif_net_model.specs.Reads as reads
use Rattle.cif_net_model.specs.Reads.{an_alg}
use Rattle.cif_source.specs.Source.{Source}
use Rattle.cif_source.specs.Components.{Component}
use Rattle.cif_scope.proofs.Places.{beside-at}
use Rattle.cif_inst_model.specs.Translation.{net_name, net_of}
use Rattle.cif_inst_parameters.specs.Given.{placed_at}
use Rattle.cif_inst_names.specs.Looking.{component_of}
use Rattle.cif_inst_names.specs.Objects.{object_form}
use Rattle.cif_inst_names.specs.declared.objects.Object.{Object}
use Rattle.cif_inst_names.specs.declared.objects.Object.TheVariants as object
use Rattle.cif_inst_names.specs.declared.objects.Value.TheVariants as value
use Rattle.cif_inst_sizes.specs.Definitions.{DefinitionTree, value_names, value_expr, definition_exprs}
use Rattle.cif_inst_sizes.specs.Naming.{is_algebraic, Resolves, AreNeedsOf, AreNeeds}
use Rattle.cif_inst_sizes.proofs.NameLaws.{placed-names, tree-names}

-- what has no definition names none
other-names : (k at : ℕ) (o : Object) → is_algebraic o ≡ false → Member (an_alg k) (reads.names_in (net_expr (object_form o) at)) → ⊥
other-names k at (object.Alg j) h m = false-true h refl
other-names k at (object.Known (value.Truth b)) h m = m
other-names k at (object.Known (value.Number z)) h m = m
other-names k at (object.Event j) h m = m
other-names k at (object.Var j) h m = elim m [ inl e ↦ cc | inr w ↦ w ]
other-names k at (object.Input j) h m = elim m [ inl e ↦ cc | inr w ↦ w ]
other-names k at (object.Location a p) h m = elim m [ inl e ↦ cc | inr w ↦ w ]
other-names k at object.Nothing h m = m

same-number : (k n : ℕ) → Member (an_alg k) (an_alg n ∷ []) → k ≡ n
same-number k n m = elim m [ inl e ↦ cc | inr w ↦ absurd w ]

round-names : (round : Option ℕ) (e : NetExpr) → reads.names_in (placed_at round e) ≡ reads.names_in e
round-names None e = refl
round-names (Some at) e = placed-names at e

row-is : (needs : List (List ℕ)) (j : ℕ) (xs : List ℕ) → slice_get needs j ≡ Some xs → slice_index_or needs j [] ≡ xs
row-is [] j xs h = absurd (none-some xs h)
row-is (ys ∷ needs) zero xs h = some-same ys xs h
row-is (ys ∷ needs) (suc j) xs h = row-is needs j xs h

module _ (t : Source) (count : ℕ) (all : List DefinitionTree) (needs : List (List ℕ)) (are : AreNeeds t count all all needs)
    (rank : ℕ → ℕ) (falls : (x y : ℕ) → graph.Needs needs x y → rank y < rank x) (k : ℕ) where
  abbrev Lower : ℕ → Type 0
  Lower j = (k < count) × (rank k < rank j)

  -- the expressions of a definition name k
  abbrev NamesIt : DefinitionTree → Type 0
  NamesIt d = Member (an_alg k) (flat_map reads.names_in (definition_exprs t d))

  -- of all with a lower rank than r
  abbrev Below : ℕ → Type 0
  Below r = (j : ℕ) (d : DefinitionTree) → rank j < r → slice_get all j ≡ Some d → NamesIt d → Lower j

  resolved : (c : Component) (nm : Name) (at j : ℕ) → Below (rank j) → (o : Option ℕ) → Resolves t count all c nm o → ((n : ℕ) → o ≡ Some n → rank n < rank j) → Member (an_alg k) (reads.names_in (net_name c nm at)) → Lower j
  resolved c nm at j below None w low m = absurd (other-names k at w.meant w.is_other (subst (λ e. Member (an_alg k) (reads.names_in e)) (w.in_net at) m))
  resolved c nm at j below (Some n) w low m =
      elim w [
        | inl v ↦
            let e : k ≡ n = same-number k n (subst (λ x. Member (an_alg k) (reads.names_in x)) (v.in_net at) m) in (
              subst (λ i. i < count) (sym e) v.below,
              subst (λ i. rank i < rank j) (sym e) (low n refl),
            )
        | inr v ↦
            let body : NetExpr = net_of (component_of t v.giver) v.value in
            let m' : Member (an_alg k) (reads.names_in body) = subst (Member (an_alg k)) (ap reads.names_in (v.in_net at) ∙ round-names v.round body) m in
            let next = below n (record { component = v.giver; values = Some v.value ∷ [] }) (low n refl) v.is_there (append-left (an_alg k) (reads.names_in body) [] m') in
            let less = low n refl in (next.0, omega (arith, next.1, less))
      ]

  valued : (j : ℕ) (d : DefinitionTree) (row : (x : List ℕ) × (slice_get needs j ≡ Some x) × AreNeedsOf t count all d x) → Below (rank j) → (v : Option Tree) → Member v d.values → Member (an_alg k) (reads.names_in (value_expr (component_of t d.component) v)) → Lower j
  valued j d row below None i m = absurd m
  valued j d row below (Some e) i m =
      let c : Component = component_of t d.component in
      let w = tree-names (net_name c) k e m in
      let needed = row.2 w.0 (flat_map-member value_names (Some e) d.values w.0 i w.2) in
      resolved c w.0 w.1 j below needed.number needed.resolves
      (λ n is. falls j n (subst (Member n) (sym (row-is needs j row.0 row.1)) (needed.listed n is))) w.3

  names-lower : (r : ℕ) → Below r
  names-lower zero j d less at m = absurd (omega (arith, less))
  names-lower (suc r) j d less at m =
      let row = beside-at (AreNeedsOf t count all) all needs j d are at in
      let f = member-flat_map reads.names_in (an_alg k) (definition_exprs t d) m in
      let v = member-map (value_expr (component_of t d.component)) f.0 d.values f.1 in
      valued j d row (λ i x l. names-lower r i x (omega (arith, l, less))) v.0 v.1 (subst (λ e. Member (an_alg k) (reads.names_in e)) v.2 f.2)

  -- the algebraic variables that a definition names in the net have a lower rank
  pub named-lower : (j : ℕ) (d : DefinitionTree) → slice_get all j ≡ Some d → NamesIt d → Lower j
  named-lower j d at m = names-lower (suc (rank j)) j d (omega arith) at m
