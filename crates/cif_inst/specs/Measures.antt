-- Helper of the code: the sizes and depths of exclusions, state invariants and edges in the net, by what names are looked up in, and by
-- those of algebraic variables, alg.
use Rattle.std.specs.Prelude.{ℕ, ◌+◌, List, [], ◌∷◌, ◌++◌, map, flat_map}
use Rattle.cif_net_model.specs.Counts as counts
use Rattle.cif_alg_measure.specs.declared.measures.Measure.{Measure}
use Rattle.cif_source.specs.Source.{EdgeTree, LocationTree, AutomatonTree, SourceBody, group_body, automaton_body}
use Rattle.cif_inst_names.specs.Looking.{component_at}
use Rattle.cif_inst_names.specs.declared.looking.Looking.{Looking}
use Rattle.cif_inst_sizes.specs.Weights.{use_weight}
use Rattle.cif_inst_paths.specs.Rows.{RowTree}
use Rattle.cif_inst_predicates.specs.declared.weights.Excluded.{Excluded}
use Rattle.cif_inst_predicates.specs.declared.weights.PredicateWeights.{PredicateWeights}

-- an edge for each use of an event
abbrev pub edge_weights : (alg : ℕ → counts.Measure) → Looking → (component : ℕ) → EdgeTree → List Measure
edge_weights alg l k e = map (use_weight alg (component_at l k) e) e.uses

abbrev pub location_weights : (alg : ℕ → counts.Measure) → Looking → (component : ℕ) → LocationTree → List Measure
location_weights alg l k x = flat_map (edge_weights alg l k) x.edges

abbrev pub automaton_weights : (alg : ℕ → counts.Measure) → Looking → (component : ℕ) → AutomatonTree → List Measure
automaton_weights alg l k a = flat_map (location_weights alg l k) a.locs

abbrev pub body_weights : (alg : ℕ → counts.Measure) → Looking → (component : ℕ) → SourceBody → List Measure
body_weights alg l k (group_body is) = []
body_weights alg l k (automaton_body a) = automaton_weights alg l k a

-- those of the components from number k on
abbrev pub rows_weights : (alg : ℕ → counts.Measure) → Looking → ℕ → List RowTree → List Measure
rows_weights alg l k [] = []
rows_weights alg l k (r ∷ rs) = body_weights alg l k r.1 ++ rows_weights alg l (k + 1) rs

abbrev pub measure_of : Excluded → Measure
measure_of x = x.measure

-- the exclusions, and then the state invariants
abbrev pub predicate_weights : PredicateWeights → List Measure
predicate_weights w = map measure_of w.exclusions ++ w.invariants
