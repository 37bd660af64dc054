-- Helper of the code: automata, exclusions and state invariants of a net with numbers of measures in the place of expressions, and the
-- sizes that are found by them.
use Rattle.std.specs.Prelude.{◌≡◌, ℕ, suc, ◌+◌, ◌≤◌, max, nat_lt, true, ◌||◌, List, [], ◌∷◌, length, sum_by, None, if◌then◌else◌}
use Rattle.cif_net_expr.specs.Tree.{NetExpr, net_expr, n_alg, no_net_updates}
use Rattle.cif_net_model.specs.Net.{NetEdge, NetAuto, NetEvent, NetExclusion, NetInvariant}
use Rattle.cif_net_model.specs.Counts.{no_form, most_nodes, most_depth}
use Rattle.cif_alg_measure.specs.Meanings.{stopped_measure, table_measure}
use Rattle.cif_alg_measure.specs.Sizes.{table_counted}
use Rattle.cif_alg_measure.specs.declared.measures.Measure.{Measure}
use Rattle.cif_net.specs.View.{role_of as net_role}
use Rattle.cif_alg.specs.Sizes.{sizes_added}
use Rattle.cif_alg.specs.Tallies.{counted}
use Rattle.cif_inst_predicates.specs.declared.weights.Excluded.{Excluded}
use Rattle.cif_inst_predicates.specs.declared.weights.PredicateWeights.{PredicateWeights}
use Rattle.cif_inst_automata.specs.declared.alphabets.Alphabet.{Alphabet}
use Rattle.cif_inst_automata.specs.declared.used.Used.{Used}
use Rattle.cif_inst.specs.declared.error.InstErr.{InstErr}
use Rattle.cif_inst.specs.declared.error.InstErr.TheVariants.{AlphabetLacks, RoleMixed, TooManyObjects, ConstantRange, TooLarge, Memory}

-- ---- outlines

-- the algebraic variable j
abbrev pub outline_expr : ℕ → NetExpr
outline_expr j = net_expr (n_alg j) 0

-- an edge for a use of an event, whose guard is the algebraic variable j
abbrev pub outline_edge : (j : ℕ) → Used → NetEdge
outline_edge j u = record {
  event = u.event;
  role = net_role u.role;
  from = 0;
  to = 0;
  guard = outline_expr j;
  sent = None;
  updates = no_net_updates;
  places = [];
}

-- an edge for each of these uses, with the numbers from j on
abbrev pub outline_edges : (j : ℕ) → List Used → List NetEdge
outline_edges j [] = []
outline_edges j (u ∷ us) = outline_edge j u ∷ outline_edges (j + 1) us

abbrev pub outline : (j : ℕ) → Alphabet → NetAuto
outline j a = record { path = []; locs = []; first = 0; alphabet = a.events; monitors = a.monitors; edges = outline_edges j a.used }

abbrev pub outlines : (j : ℕ) → List Alphabet → List NetAuto
outlines j [] = []
outlines j (a ∷ rest) = outline j a ∷ outlines (j + length a.used) rest

-- with the numbers from j on
abbrev pub outline_exclusions : (j : ℕ) → List Excluded → List NetExclusion
outline_exclusions j [] = []
outline_exclusions j (x ∷ xs) = record { event = x.event; pred = outline_expr j; allows = true } ∷ outline_exclusions (j + 1) xs

abbrev pub outline_invariants : (j : ℕ) → List Measure → List NetInvariant
outline_invariants j [] = []
outline_invariants j (m ∷ ms) = record { pred = outline_expr j; at = 0 } ∷ outline_invariants (j + 1) ms

-- ---- sizes

-- the nodes of a net with these alphabets and predicates, whose measures are those of the exclusions, the state invariants and the edges,
-- and with algebraic variables of these measures
abbrev pub outlined_nodes : List Alphabet → List NetEvent → PredicateWeights → (measures own : List Measure) → ℕ
outlined_nodes all events w ms own = sizes_added (counted (table_measure ms) (outlines (length w.exclusions + length w.invariants) all) (outline_exclusions 0 w.exclusions)
    (outline_invariants (length w.exclusions) w.invariants) events) own

abbrev pub together : List Measure → Measure
together ms = table_counted (stopped_measure no_form) ms

-- the greatest depth, of these or of algebraic variables
abbrev pub greatest_depth : (measures own : List Measure) → ℕ
greatest_depth ms own = max (together ms).depth (together own).depth

abbrev pub most_forms : ℕ
most_forms = 4000000

-- the forms that a measure counts; a count that stopped past its limit may be of any size, so it is more than are made
abbrev pub weight : Measure → ℕ
weight m = if nat_lt most_nodes m.size then suc most_forms else m.size

-- few enough forms to be made, of these and of algebraic variables
pub record AreMade (measures own : List Measure) : Type 0 where
  pub deep : greatest_depth measures own ≤ most_depth
  pub few : sum_by weight measures ≤ most_forms
  pub defined : sum_by weight own ≤ most_forms

-- the nodes of the outlines and the greatest depth, of which one is past its limit; or that memory ran out
abbrev pub tells_size : List Alphabet → List NetEvent → PredicateWeights → (measures own : List Measure) → InstErr → Type 0
tells_size all events w ms own (TooLarge nodes depth) = (nodes ≡ outlined_nodes all events w ms own) × (depth ≡ greatest_depth ms own)
    × ((nat_lt most_nodes nodes || nat_lt most_depth depth) ≡ true)
tells_size all events w ms own (AlphabetLacks at) = ⊥
tells_size all events w ms own (RoleMixed at) = ⊥
tells_size all events w ms own (TooManyObjects count) = ⊥
tells_size all events w ms own (ConstantRange at) = ⊥
tells_size all events w ms own Memory = Unit {0}
