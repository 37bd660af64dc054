-- What a name stands for weighs what its definition does; and the measures while they are filled in.
use Rattle.std.proofs.Common.{◌≡◌, ℕ, zero, suc, ◌+◌, ◌<◌, ◌⊎◌, inl, inr, true, false, List, [], ◌∷◌, ◌++◌, length, length-append, map, Option, Some, None, Result, Ok, Err, IfOk, subst, refl, sym, ◌∙◌, ap, arith}
use Rattle.std.specs.Prelude.{slice_get}
use Rattle.std.proofs.lemmas.Option.{slice_get_cases}
use Rattle.std.proofs.lemmas.List.{length-map}
use Rattle.cif_ast.specs.Tree.{Tree}
use Rattle.cif_ast.specs.View.{view_exprs, view_updates}
use Rattle.cif_ast.specs.declared.edges.Edge.{Edge}
use Rattle.cif_ast.specs.declared.edges.Update.{Update}
use Rattle.cif_ast.specs.declared.expressions.Expr.{Expr}
use Rattle.cif_ast.specs.declared.names.Name.{Name}
use Rattle.cif_base.specs.declared.memory.Memory.{Memory}
use Rattle.cif_system.proofs.Lists.{some-same, none-some, false-true}
use Rattle.cif_net_expr.specs.Tree.{NetExpr, net_expr}
use Rattle.cif_net_model.specs.Net.{NetAlg, Net}
use Rattle.cif_net_model.proofs.ValueLaws.{ap-two}
use Rattle.cif_net_model.specs.Unfolding.{at_or, unfolded}
use Rattle.cif_net_model.specs.Counts as counts
use Rattle.cif_net_model.specs.Counts.{one_form, no_form, measure_by, form_measure, alg_measure, alg_measures}
use Rattle.cif_alg_measure.specs.declared.measures.Measure.{Measure}
use Rattle.cif_alg_measure.specs.Meanings.{as_measure, stopped_measure}
use Rattle.cif_alg_measure.specs.Sizes.{AreMeasured}
use Rattle.cif_alg_measure.proofs.CountedLaws.{beside-none}
use Rattle.cif_alg_order.proofs.CountLaws.{twice}
use Rattle.cif_alg_order.proofs.FillLaws.{same-tables}
use Rattle.cif_source.specs.Source.{UseTree, edge_tree, Source}
use Rattle.cif_inst_model.specs.Flat.{net_of_source, sent_tree}
use Rattle.cif_inst_model.specs.Translation.{net_name, net_of}
use Rattle.cif_inst_parameters.specs.Given.{given_items, placed_at}
use Rattle.cif_inst_names.specs.Looking.{source_for, component_of, component_at}
use Rattle.cif_inst_names.specs.Objects.{object_form}
use Rattle.cif_inst_names.specs.declared.looking.Looking.{Looking}
use Rattle.cif_inst_names.specs.declared.objects.Object.{Object}
use Rattle.cif_inst_names.specs.declared.objects.Object.TheVariants as object
use Rattle.cif_inst_names.specs.declared.objects.Value.TheVariants as value
use Rattle.cif_inst_sizes.specs.Counted.{one, none, tree_counted, values_counted, chosen_counted, conditions_counted, updates_counted}
use Rattle.cif_inst_sizes.specs.Definitions.{DefinitionTree, definition_measure}
use Rattle.cif_inst_sizes.specs.Naming.{is_algebraic, AreArguments, Resolves}
use Rattle.cif_inst_sizes.specs.Weights.{alg_by, expression_measure, name_measure, use_weight, IsWeighed, AreWeights, IsReady, Knows, names_by, source_by, home}
use Rattle.cif_inst_sizes.proofs.CountedLaws.{AreNameMeasures, names-are, expression-is, edge-measured}
use Rattle.cif_inst_sizes.proofs.DefinitionLaws.{chosen-measured, exact-alg}
use Rattle.cif_inst_sizes.specs.declared.measuring.Measurer.{Measurer}
use Rattle.cif_inst_sizes.specs.declared.weights.Weights.{Weights}

-- ---- opened

pub ready : (m : Measurer) → Knows m → IsReady m
unfolding Knows
ready m h = h

pub knows : (m : Measurer) → IsReady m → Knows m
unfolding Knows
knows m h = h

pub names-open : (m : Measurer) → names_by m ≡ name_measure (alg_by m.looking.now m.weights.now) (home m)
unfolding names_by
names-open m = refl

pub weighed : (l : Looking) (w : Weights) → AreWeights l w → (all : List DefinitionTree) × IsWeighed l all w
unfolding AreWeights
weighed l w h = h

pub weights : (l : Looking) (w : Weights) (all : List DefinitionTree) → IsWeighed l all w → AreWeights l w
unfolding AreWeights
weights l w all h = (all, h)

-- ---- names

-- what has no definition is one form
other-one : (f : ℕ → counts.Measure) (o : Object) → is_algebraic o ≡ false → form_measure f (object_form o) ≡ one_form
other-one f (object.Alg j) h = absurd (false-true h refl)
other-one f (object.Known (value.Truth b)) h = refl
other-one f (object.Known (value.Number z)) h = refl
other-one f (object.Event j) h = refl
other-one f (object.Var j) h = refl
other-one f (object.Input j) h = refl
other-one f (object.Location a p) h = refl
other-one f object.Nothing h = refl

round-measure : (f : ℕ → counts.Measure) (round : Option ℕ) (e : NetExpr) → measure_by f (placed_at round e) ≡ measure_by f e
round-measure f None e = refl
round-measure f (Some at) (net_expr x k) = refl

module _ (l : Looking) (w : Weights) (all : List DefinitionTree) (is : IsWeighed l all w) (k : ℕ) (nm : Name) where
  abbrev t : Source
  t = source_for l

  abbrev weight : ℕ → counts.Measure
  weight = alg_by l w

  abbrev here : NetExpr
  here = net_name (component_at l k) nm 0

  -- without a definition
  pub other-named : Resolves t w.count all (component_at l k) nm None → one ≡ name_measure weight (component_at l k) nm
  other-named r = sym (ap (λ e. stopped_measure (measure_by weight e)) (r.in_net 0) ∙ ap stopped_measure (other-one weight r.meant r.is_other))

  -- with one that is measured
  pub defined-named : (n : ℕ) (m : Measure) → Resolves t w.count all (component_at l k) nm (Some n) → slice_get w.table n ≡ Some (Some m) → m ≡ name_measure weight (component_at l k) nm
  defined-named n m r there =
      elim r [
        | inl v ↦
            let d = is.numbered.variables n v.below in
            is.weighed n d.0 m d.1 there ∙ d.2 ∙ sym (ap (λ e. stopped_measure (measure_by weight e)) (v.in_net 0))
        | inr v ↦
            let body : NetExpr = net_of (component_of t v.giver) v.value in
            is.weighed n _ m v.is_there there
            ∙ ap stopped_measure (beside-none (measure_by weight body) ∙ sym (round-measure weight v.round body))
            ∙ sym (ap (λ e. stopped_measure (measure_by weight e)) (v.in_net 0))
      ]

-- what the code finds for a name of a measurer's component
abbrev pub Resolved : Measurer → Name → Option ℕ → Type 0
Resolved m nm o =
    (all : List DefinitionTree) → AreArguments (map given_items m.looking.now.given.now) m.weights.now.firsts all → Resolves (source_by m) m.weights.now.count all (home m) nm o

name-open : (m : Measurer) (nm : Name) → name_measure (alg_by m.looking.now m.weights.now) (home m) nm ≡ names_by m nm
name-open m nm = sym (ap (λ (f : Name → Measure). f nm) (names-open m))

pub one-told : (m : Measurer) → Knows m → (nm : Name) (o : Option ℕ) → o ≡ None → Resolved m nm o → (r : Measure) → r ≡ one → r ≡ names_by m nm
one-told m is nm o none found r h =
    let w = weighed m.looking.now m.weights.now (ready m is).weights in
    h
    ∙ other-named m.looking.now m.weights.now w.0 w.1 m.component nm
    (subst (Resolves (source_by m) m.weights.now.count w.0 (home m) nm) none (found w.0 w.1.numbered.arguments))
    ∙ name-open m nm

pub measure-told : (m : Measurer) → Knows m → (nm : Name) (o : Option ℕ) (n : ℕ) → o ≡ Some n → Resolved m nm o → (r : Result Measure Memory) → IfOk r (λ x. slice_get m.weights.now.table n ≡ Some (Some x))
    → IfOk r (λ x. x ≡ names_by m nm)
measure-told m is nm o n some found (Ok x) there =
    let w = weighed m.looking.now m.weights.now (ready m is).weights in
    defined-named m.looking.now m.weights.now w.0 w.1 m.component nm n x
    (subst (Resolves (source_by m) m.weights.now.count w.0 (home m) nm) some (found w.0 w.1.numbered.arguments)) there
    ∙ name-open m nm
measure-told m is nm o n some found (Err e) there = tt

-- ---- the algebraic variables

-- one after the other they are those of the table
abbrev pub AreTaken : List (Option Measure) → ℕ → List Measure → Type 0
AreTaken table k ms = (length ms ≡ k) × ((j : ℕ) (m : Measure) → slice_get ms j ≡ Some m → slice_get table j ≡ Some (Some m))

pub none-taken : (table : List (Option Measure)) (ms : List Measure) → ms ≡ [] → AreTaken table 0 ms
none-taken table ms e = (ap length e, λ j m h. absurd (none-some m (ap (λ xs. slice_get xs j) (sym e) ∙ h)))

append-at : {A : Type 0} (xs : List A) (x : A) (j : ℕ) (y : A) → slice_get (xs ++ x ∷ []) j ≡ Some y → (slice_get xs j ≡ Some y) ⊎ ((length xs ≡ j) × (x ≡ y))
append-at [] x zero y h = inr (refl, some-same x y h)
append-at [] x (suc j) y h = absurd (none-some y h)
append-at (z ∷ xs) x zero y h = inl h
append-at (z ∷ xs) x (suc j) y h = elim (append-at xs x j y h) [ inl a ↦ inl a | inr b ↦ inr (ap suc b.0, b.1) ]

pub more-taken : (table : List (Option Measure)) (k : ℕ) (ms after : List Measure) (m : Measure) → AreTaken table k ms → slice_get table k ≡ Some (Some m) → after ≡ ms ++ m ∷ [] → AreTaken table (k + 1) after
more-taken table k ms after m taken there is = (
  ap length is ∙ length-append ms (m ∷ []) ∙ ap (λ n. n + 1) taken.0,
  λ j x h.
      elim (append-at ms m j x (ap (λ xs. slice_get xs j) (sym is) ∙ h)) [
        | inl a ↦ taken.1 j x a
        | inr b ↦ ap (slice_get table) (sym b.0 ∙ taken.0) ∙ there ∙ ap (λ y. Some (Some y)) b.1
      ],
)

at-some : {A : Type 0} (d : A) (xs : List A) (k : ℕ) (x : A) → slice_get xs k ≡ Some x → at_or d xs k ≡ x
at-some d [] k x h = absurd (none-some x h)
at-some d (y ∷ xs) zero x h = some-same y x h
at-some d (y ∷ xs) (suc k) x h = at-some d xs k x h

at-stopped : (ms : List counts.Measure) (k : ℕ) → at_or (stopped_measure no_form) (map stopped_measure ms) k ≡ stopped_measure (at_or no_form ms k)
at-stopped [] k = refl
at-stopped (m ∷ ms) zero = refl
at-stopped (m ∷ ms) (suc k) = at-stopped ms k

stop-all : (ms : List counts.Measure) → map stopped_measure (map as_measure (map stopped_measure ms)) ≡ map stopped_measure ms
stop-all [] = refl
stop-all (m ∷ ms) = ap-two (λ x xs. x ∷ xs) (twice m) (stop-all ms)

get-there : {A : Type 0} (xs : List A) (k : ℕ) → k < length xs → (x : A) × (slice_get xs k ≡ Some x)
get-there xs k l = elim (slice_get_cases xs k).1 [ inl h ↦ (h.0, h.2) | inr h ↦ absurd (omega (arith, h.0)) ]

as-long : (ds : List NetAlg) → length (unfolded no_form alg_measure ds (length ds)) ≡ length ds
as-long [] = refl
as-long (d ∷ ds) = length-map (d ∷ ds) (alg_measure (at_or no_form (unfolded no_form alg_measure (d ∷ ds) (length ds))))

module _ (l : Looking) (w : Weights) (all : List DefinitionTree) (is : IsWeighed l all w) (exact : w.exact ≡ true) (ms : List Measure) (taken : AreTaken w.table w.count ms) where
  abbrev net : Net
  net = net_of_source (source_for l)

  as-many : length ms ≡ length (map stopped_measure (alg_measures net))
  as-many = taken.0 ∙ (is.exact exact).whole ∙ sym (as-long net.algs) ∙ sym (length-map (alg_measures net) stopped_measure)

  same-at : (k : ℕ) → k < length ms → at_or (stopped_measure no_form) ms k ≡ at_or (stopped_measure no_form) (map stopped_measure (alg_measures net)) k
  same-at k less =
      let m = get-there ms k less in
      let below : k < w.count = omega (arith, less, taken.0) in
      let d = is.numbered.variables k below in
      at-some (stopped_measure no_form) ms k m.0 m.1
      ∙ is.weighed k d.0 m.0 d.1 (taken.1 k m.0 m.1)
      ∙ d.2
      ∙ ap (λ (f : ℕ → counts.Measure). stopped_measure (f k)) (exact-alg l w exact)
      ∙ sym (at-stopped (alg_measures net) k)

  pub all-measured : AreMeasured ms net
  all-measured =
      ap (λ xs. map stopped_measure (map as_measure xs)) (same-tables (stopped_measure no_form) ms (map stopped_measure (alg_measures net)) as-many same-at)
      ∙ stop-all (alg_measures net)

-- ---- what is told of expressions

-- the measures of what the names of a measurer's component stand for
pub names-of : (m : Measurer) → AreNameMeasures (alg_by m.looking.now m.weights.now) (home m) (names_by m)
names-of m = subst (AreNameMeasures (alg_by m.looking.now m.weights.now) (home m)) (sym (names-open m)) (names-are (alg_by m.looking.now m.weights.now) (home m))

pub value-told : (m : Measurer) (e : Tree) (r : Result Measure Memory) → IfOk r (λ x. x ≡ tree_counted (names_by m) e) → IfOk r (λ x. x ≡ expression_measure (alg_by m.looking.now m.weights.now) (home m) e)
value-told m e (Ok x) h = h ∙ expression-is (alg_by m.looking.now m.weights.now) (home m) (names_by m) (names-of m) e
value-told m e (Err x) h = tt

pub edge-told : (m : Measurer) (edge : Edge) (gs : List Expr) (us : List Update) (g : Measure) (r : Result Measure Memory) → gs ≡ edge.guards → us ≡ edge.updates → g ≡ conditions_counted (names_by m) (view_exprs gs)
    → IfOk r (λ x. x ≡ updates_counted (names_by m) g (view_updates us))
    → IfOk r (λ x. (u : UseTree) → sent_tree u.role ≡ None → x ≡ use_weight (alg_by m.looking.now m.weights.now) (home m) (edge_tree edge) u)
edge-told m edge gs us g (Ok x) p q k h = λ u nothing.
    h
    ∙ ap-two (λ a xs. updates_counted (names_by m) a (view_updates xs)) (k ∙ ap (λ es. conditions_counted (names_by m) (view_exprs es)) p) q
    ∙ edge-measured (alg_by m.looking.now m.weights.now) (home m) (names_by m) (names-of m) edge u nothing
edge-told m edge gs us g (Err x) p q k h = tt

pub definition-told : (m : Measurer) (vs : List (Option Tree)) (n : ℕ) (all r : Measure) → n ≡ length vs → all ≡ values_counted (names_by m) none vs → r ≡ chosen_counted n all
    → r ≡ definition_measure (alg_by m.looking.now m.weights.now) (source_by m) (record { component = m.component; values = vs })
definition-told m vs n all r p q h = chosen-measured (alg_by m.looking.now m.weights.now) (home m) (names_by m) (names-of m) vs n all r p q h
