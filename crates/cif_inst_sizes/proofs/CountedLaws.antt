-- An expression of a source is counted as the expression of the net that it becomes.
use Rattle.std.proofs.Common.{◌≡◌, ℕ, ◌+◌, ◌≤◌, max, arith, length, List, [], ◌∷◌, ◌++◌, map, pos, Option, Some, None, refl, sym, ◌∙◌, ap}
use Rattle.std.specs.Prelude.{option_map, option_to_list}
use Rattle.cif_ast.specs.Tree.{Tree, node, Shape, truth, number, named, received, paren, negative, positive, negation, absolute, least, greatest, sum, product, comparison, all_of, any_of, implication, equivalence, choice, Trees, no_trees, trees, Terms, no_terms, terms, Factors, no_factors, factors, Branches, no_branches, branches, UpdateTree, assignment, selection, UpdateTrees, no_updates, updates, UpdateBranches, no_update_branches, update_branches}
use Rattle.cif_ast.specs.declared.names.Name.{Name}
use Rattle.cif_ast.specs.declared.edges.Edge.{Edge}
use Rattle.cif_ast.specs.declared.expressions.Expr.{Expr}
use Rattle.cif_ast.specs.View.{view, trees_of, view_exprs, view_updates}
use Rattle.cif_net_expr.specs.Tree.{NetExpr, net_expr, n_number, NetExprs, net_exprs}
use Rattle.cif_net_model.specs.Net.{NetEdge}
use Rattle.cif_net_model.specs.Exprs.{placed, updates_exprs, edge_exprs}
use Rattle.cif_net_model.specs.Counts.{no_form, beside, all_beside, measure_by}
use Rattle.cif_net_model.specs.Counts as counts
use Rattle.cif_net_model.proofs.ValueLaws.{ap-two}
use Rattle.cif_alg_measure.specs.declared.measures.Measure.{Measure}
use Rattle.cif_alg_measure.specs.Meanings.{stopped_measure}
use Rattle.cif_alg_measure.specs.Counted.{beside_stopped, above_stopped, counted}
use Rattle.cif_alg_measure.specs.Counted as measured
use Rattle.cif_alg_measure.specs.Sizes as sized
use Rattle.cif_alg_measure.proofs.CountedLaws.{beside-stopped, beside-none, none-beside, beside-assoc, counted-is}
use Rattle.cif_alg_measure.proofs.SizeLaws.{edge-is}
use Rattle.cif_source.specs.Source.{list_of_trees, UseTree, EdgeTree, edge_tree, syncs}
use Rattle.cif_source.specs.Components.{Component}
use Rattle.cif_inst_model.specs.Translation.{conjunction, net_with, net_form, net_exprs_of, net_terms_of, net_factors_of, net_branches_of, net_object, net_name, net_of, net_list, net_guard}
use Rattle.cif_inst_model.specs.Flat.{net_updates_of, net_update_of, net_update_branches_of, sent_tree, net_edge}
use Rattle.cif_inst_sizes.proofs.FollowLaws.{follow-all}
use Rattle.cif_inst_sizes.specs.Counted.{none, tree_counted, shape_counted, trees_counted, terms_counted, factors_counted, branches_counted, conditions_counted, updates_counted, update_counted, update_branches_counted}
use Rattle.cif_inst_sizes.specs.Weights.{expression_measure, use_weight}

placed-counted : (alg : ℕ → Measure) (at : ℕ) (e : NetExpr) → counted alg (placed at e) ≡ counted alg e
placed-counted alg at (net_expr f k) = refl

-- several are one form above their list
several : (alg : ℕ → Measure) (e f : NetExpr) (es : NetExprs) → counted alg (conjunction (net_exprs e (net_exprs f es))) ≡ above_stopped (measured.list_counted alg none (net_exprs e (net_exprs f es)))
several alg (net_expr x at) f es = refl

module _ (alg : ℕ → Measure) (net : Name → ℕ → NetExpr) (name : Name → Measure) (same : (nm : Name) (at : ℕ) → name nm ≡ counted alg (net nm at)) where
  two-are : (a b : Tree) → tree_counted name a ≡ counted alg (net_with net a) → tree_counted name b ≡ counted alg (net_with net b)
      → above_stopped (beside_stopped (tree_counted name a) (tree_counted name b)) ≡ above_stopped (beside_stopped (counted alg (net_with net a)) (counted alg (net_with net b)))
  two-are a b h k = ap above_stopped (ap-two beside_stopped h k)

  mutual
    pub tree-is : (e : Tree) → tree_counted name e ≡ counted alg (net_with net e)
    tree-is (node f at) = shape-is at f

    shape-is : (at : ℕ) (f : Shape) → shape_counted name f ≡ counted alg (net_form net at f)
    shape-is at (truth b) = refl
    shape-is at (number z) = refl
    shape-is at (named nm) = same nm at
    shape-is at received = refl
    shape-is at (paren e) = tree-is e ∙ sym (placed-counted alg at (net_with net e))
    shape-is at (negative e) = ap above_stopped (tree-is e)
    shape-is at (positive e) = ap above_stopped (tree-is e)
    shape-is at (negation e) = ap above_stopped (tree-is e)
    shape-is at (absolute e) = ap above_stopped (tree-is e)
    shape-is at (least a b) = two-are a b (tree-is a) (tree-is b)
    shape-is at (greatest a b) = two-are a b (tree-is a) (tree-is b)
    shape-is at (sum e es) = ap above_stopped (ap (λ a. terms_counted name a es) (tree-is e) ∙ terms-are es (counted alg (net_with net e)))
    shape-is at (product e es) = ap above_stopped (ap (λ a. factors_counted name a es) (tree-is e) ∙ factors-are es (counted alg (net_with net e)))
    shape-is at (comparison a op b) = two-are a b (tree-is a) (tree-is b)
    shape-is at (all_of es) = ap above_stopped (trees-are es none)
    shape-is at (any_of es) = ap above_stopped (trees-are es none)
    shape-is at (implication a b) = two-are a b (tree-is a) (tree-is b)
    shape-is at (equivalence a b) = two-are a b (tree-is a) (tree-is b)
    shape-is at (choice bs e) = ap above_stopped (ap (λ a. branches_counted name a bs) (tree-is e) ∙ branches-are bs (counted alg (net_with net e)))

    trees-are : (es : Trees) (a : Measure) → trees_counted name a es ≡ measured.list_counted alg a (net_exprs_of net es)
    trees-are no_trees a = refl
    trees-are (trees e es) a = ap (λ m. trees_counted name (beside_stopped a m) es) (tree-is e) ∙ trees-are es (beside_stopped a (counted alg (net_with net e)))

    terms-are : (es : Terms) (a : Measure) → terms_counted name a es ≡ measured.terms_counted alg a (net_terms_of net es)
    terms-are no_terms a = refl
    terms-are (terms m e es) a = ap (λ x. terms_counted name (beside_stopped a x) es) (tree-is e) ∙ terms-are es (beside_stopped a (counted alg (net_with net e)))

    factors-are : (es : Factors) (a : Measure) → factors_counted name a es ≡ measured.factors_counted alg a (net_factors_of net es)
    factors-are no_factors a = refl
    factors-are (factors op e es) a = ap (λ x. factors_counted name (beside_stopped a x) es) (tree-is e) ∙ factors-are es (beside_stopped a (counted alg (net_with net e)))

    branches-are : (bs : Branches) (a : Measure) → branches_counted name a bs ≡ measured.branches_counted alg a (net_branches_of net bs)
    branches-are no_branches a = refl
    branches-are (branches cs e bs) a =
        ap (λ m. branches_counted name m bs) (ap-two (λ c x. beside_stopped (beside_stopped a c) x) (conditions-are cs) (tree-is e))
        ∙ branches-are bs (beside_stopped (beside_stopped a (counted alg (conjunction (net_exprs_of net cs)))) (counted alg (net_with net e)))

    pub conditions-are : (cs : Trees) → conditions_counted name cs ≡ counted alg (conjunction (net_exprs_of net cs))
    conditions-are no_trees = refl
    conditions-are (trees e no_trees) = tree-is e
    conditions-are (trees e (trees f es)) =
        ap above_stopped
        (ap-two (λ a b. trees_counted name (beside_stopped (beside_stopped none a) b) es) (tree-is e) (tree-is f)
        ∙ trees-are es (beside_stopped (beside_stopped none (counted alg (net_with net e))) (counted alg (net_with net f))))
        ∙ sym (several alg (net_with net e) (net_with net f) (net_exprs_of net es))

-- ---- in a component

list-is : (c : Component) (cs : Trees) → net_list c (list_of_trees cs) ≡ net_exprs_of (net_name c) cs
list-is c no_trees = refl
list-is c (trees e es) = ap (net_exprs (net_of c e)) (list-is c es)

list-of : (es : List Tree) → list_of_trees (trees_of es) ≡ es
list-of [] = refl
list-of (e ∷ es) = ap (λ xs. e ∷ xs) (list-of es)

module _ (alg : ℕ → Measure) (c : Component) (name : Name → Measure) (same : (nm : Name) (at : ℕ) → name nm ≡ counted alg (net_name c nm at)) where
  guard-is : (at : ℕ) (es : List Tree) → conditions_counted name (trees_of es) ≡ counted alg (net_guard c at es)
  guard-is at [] = refl
  guard-is at (e ∷ es) =
      conditions-are alg (net_name c) name same (trees_of (e ∷ es))
      ∙ ap (λ xs. counted alg (conjunction xs)) (sym (list-is c (trees_of (e ∷ es))) ∙ ap (net_list c) (list-of (e ∷ es)))

  condition-is : (cs : Trees) → conditions_counted name cs ≡ counted alg (conjunction (net_list c (list_of_trees cs)))
  condition-is cs = conditions-are alg (net_name c) name same cs ∙ ap (λ xs. counted alg (conjunction xs)) (sym (list-is c cs))

  mutual
    updates-are : (us : UpdateTrees) (a : Measure) → updates_counted name a us ≡ sized.updates_counted alg a (net_updates_of c us)
    updates-are no_updates a = refl
    updates-are (updates u us) a = ap (λ b. updates_counted name b us) (update-is u a) ∙ updates-are us (sized.update_counted alg a (net_update_of c u))

    update-is : (u : UpdateTree) (a : Measure) → update_counted name a u ≡ sized.update_counted alg a (net_update_of c u)
    update-is (assignment nm e) a = ap (beside_stopped a) (tree-is alg (net_name c) name same e)
    update-is (selection bs us) a = ap (λ b. updates_counted name b us) (update_branches-are bs a) ∙ updates-are us (sized.branches_counted alg a (net_update_branches_of c bs))

    update_branches-are : (bs : UpdateBranches) (a : Measure) → update_branches_counted name a bs ≡ sized.branches_counted alg a (net_update_branches_of c bs)
    update_branches-are no_update_branches a = refl
    update_branches-are (update_branches cs us bs) a =
        let d : Measure = beside_stopped a (counted alg (conjunction (net_list c (list_of_trees cs)))) in
        ap (λ m. update_branches_counted name (updates_counted name (beside_stopped a m) us) bs) (condition-is cs)
        ∙ ap (λ m. update_branches_counted name m bs) (updates-are us d)
        ∙ update_branches-are bs (sized.updates_counted alg d (net_updates_of c us))

-- ---- counts that stop, where f tells what an algebraic variable weighs

module _ (f : ℕ → counts.Measure) where
  abbrev pub alg : ℕ → Measure
  alg k = stopped_measure (f k)

  abbrev pub whole_measure : NetExpr → counts.Measure
  whole_measure = measure_by f

  none-first : (e : NetExpr) → beside_stopped none (counted alg e) ≡ counted alg e
  none-first e =
      ap (beside_stopped none) (counted-is f e)
      ∙ beside-stopped no_form (whole_measure e)
      ∙ ap stopped_measure (none-beside (whole_measure e))
      ∙ sym (counted-is f e)

  exprs-stop : (es : List NetExpr) (a : counts.Measure) → sized.exprs_counted alg (stopped_measure a) es ≡ stopped_measure (beside a (all_beside (map whole_measure es)))
  exprs-stop [] a = ap stopped_measure (sym (beside-none a))
  exprs-stop (e ∷ es) a =
      ap (λ b. sized.exprs_counted alg b es) (ap (beside_stopped (stopped_measure a)) (counted-is f e) ∙ beside-stopped a (whole_measure e))
      ∙ exprs-stop es (beside a (whole_measure e))
      ∙ ap stopped_measure (beside-assoc a (whole_measure e) (all_beside (map whole_measure es)))

  all-stop : (es : List NetExpr) → sized.exprs_counted alg none es ≡ stopped_measure (all_beside (map whole_measure es))
  all-stop es = exprs-stop es no_form ∙ ap stopped_measure (none-beside (all_beside (map whole_measure es)))

  -- ---- what the code counts

  -- the measures of what the names of a component stand for
  abbrev pub AreNameMeasures : Component → (Name → Measure) → Type 0
  AreNameMeasures c name = (nm : Name) (at : ℕ) → name nm ≡ counted alg (net_name c nm at)

  -- what a name stands for weighs the same at each place
  pub names-are : (c : Component) → AreNameMeasures c (λ nm. stopped_measure (measure_by f (net_name c nm 0)))
  names-are c nm at =
      sym (counted-is f (net_name c nm 0))
      ∙ follow-all (λ (r : ℕ → NetExpr). (k : ℕ) → counted alg (r 0) ≡ counted alg (r k)) (λ x k. net_expr (net_object x) k) (λ k. net_expr (n_number (pos 0)) k) (λ name g a k. net_with name a)
      (λ x k. refl) (λ k. refl) (λ name g a k. refl) c nm at

  pub expression-is : (c : Component) (name : Name → Measure) → AreNameMeasures c name → (e : Tree) → tree_counted name e ≡ stopped_measure (whole_measure (net_of c e))
  expression-is c name same e = tree-is alg (net_name c) name same e ∙ counted-is f (net_of c e)

  -- for a use that sends no value
  pub edge-measured : (c : Component) (name : Name → Measure) → AreNameMeasures c name → (edge : Edge) (u : UseTree) → sent_tree u.role ≡ None
      → updates_counted name (conditions_counted name (view_exprs edge.guards)) (view_updates edge.updates) ≡ use_weight f c (edge_tree edge) u
  edge-measured c name same edge u nothing =
      let x : NetEdge = net_edge c (record { from = 0; event_use = u; edge = edge_tree edge }) in
      ap (λ a. updates_counted name a (view_updates edge.updates)) (guard-is alg c name same u.name.at (map view edge.guards))
      ∙ updates-are alg c name same (view_updates edge.updates) (counted alg x.guard)
      ∙ ap (λ a. sized.updates_counted alg a x.updates)
      (sym (none-first x.guard) ∙ sym (ap (λ o. sized.sent_counted alg (beside_stopped none (counted alg x.guard)) (option_map (net_of c) o)) nothing))
      ∙ edge-is alg none x
      ∙ all-stop (edge_exprs x)

  -- one more stands behind the first
  beside-second : (a b d : counts.Measure) → beside (beside a d) b ≡ beside a (beside b d)
  beside-second a b d = let size : a.size + d.size + b.size ≡ a.size + (b.size + d.size) = omega arith in
      let depth : max (max a.depth d.depth) b.depth ≡ max a.depth (max b.depth d.depth) = omega arith in
      λ i. record { size = size i; depth = depth i }

  -- and for a use by what is measured where no value is sent
  pub use-measured : (c : Component) (e : EdgeTree) (u : UseTree) (shared : Measure) → ((v : UseTree) → sent_tree v.role ≡ None → shared ≡ use_weight f c e v) → (o : Option Tree) → sent_tree u.role ≡ o
      → (elim o [ None ↦ shared | Some v ↦ beside_stopped shared (expression_measure f c v) ]) ≡ use_weight f c e u
  use-measured c e u shared without None is = without u is
  use-measured c e u shared without (Some v) is =
      let plain : UseTree = record { name = u.name; role = syncs } in
      let guard : NetExpr = (net_edge c (record { from = 0; event_use = u; edge = e })).guard in
      let written : List NetExpr = updates_exprs (net_updates_of c e.updates) in
      ap (λ m. beside_stopped m (expression_measure f c v)) (without plain refl)
      ∙ beside-stopped (all_beside (map whole_measure (guard ∷ written))) (whole_measure (net_of c v))
      ∙ ap stopped_measure (beside-second (whole_measure guard) (whole_measure (net_of c v)) (all_beside (map whole_measure written)))
      ∙ sym (ap (λ o. stopped_measure (all_beside (map whole_measure (guard ∷ (option_to_list (option_map (net_of c) o) ++ written))))) is)

pub several-counted : (name : Name → Measure) (es : List Expr) → 2 ≤ length es → above_stopped (trees_counted name none (view_exprs es)) ≡ conditions_counted name (view_exprs es)
several-counted name [] h = absurd (omega (arith, h))
several-counted name (e ∷ []) h = absurd (omega (arith, h))
several-counted name (e ∷ f ∷ es) h = refl
