-- What the exclusions and the state invariants of a net weigh, where alg tells what an algebraic variable weighs.
use Rattle.std.specs.Prelude.{◌≡◌, ℕ, map}
use Rattle.cif_ast.specs.declared.names.Name.{Name}
use Rattle.cif_net_expr.specs.Tree.{NetExpr}
use Rattle.cif_net_model.specs.Net.{NetExclusion, NetInvariant, Net}
use Rattle.cif_net_model.specs.Counts as counts
use Rattle.cif_net_model.specs.Counts.{measure_by}
use Rattle.cif_alg_measure.specs.declared.measures.Measure.{Measure}
use Rattle.cif_alg_measure.specs.Meanings.{stopped_measure}
use Rattle.cif_source.specs.Components.{Component}
use Rattle.cif_inst_model.specs.Flat.{event_number}
use Rattle.cif_inst_predicates.specs.declared.weights.Excluded.{Excluded}
use Rattle.cif_inst_predicates.specs.declared.weights.PredicateWeights.{PredicateWeights}

abbrev pub weight_of : (alg : ℕ → counts.Measure) → NetExpr → Measure
weight_of alg e = stopped_measure (measure_by alg e)

abbrev pub excluded_of : (alg : ℕ → counts.Measure) → NetExclusion → Excluded
excluded_of alg x = record { event = x.event; measure = weight_of alg x.pred }

abbrev pub invariant_weight : (alg : ℕ → counts.Measure) → NetInvariant → Measure
invariant_weight alg i = weight_of alg i.pred

-- that of an event which is named
abbrev pub excluded_by : Component → Measure → Name → Excluded
excluded_by c m nm = record { event = event_number c nm; measure = m }

pub record AreWeightsOf (alg : ℕ → counts.Measure) (n : Net) (w : PredicateWeights) : Type 0 where
  pub exclusions : w.exclusions ≡ map (excluded_of alg) n.exclusions
  pub invariants : w.invariants ≡ map (invariant_weight alg) n.invariants
