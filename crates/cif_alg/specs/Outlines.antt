-- Helper of the code: automata, exclusions and state invariants that may be counted in the place of others.
use Rattle.std.specs.Prelude.{◌≡◌, ℕ, List, [], ◌∷◌, map}
use Rattle.cif_system.specs.System.{Role}
use Rattle.cif_net_model.specs.Net.{NetEdge, NetAuto, NetExclusion, NetInvariant, Net}
use Rattle.cif_net_model.specs.Exprs.{edge_exprs}
use Rattle.cif_net_model.specs.Unfolding.{at_or}
use Rattle.cif_net_model.specs.Counts as counts
use Rattle.cif_net_model.specs.Counts.{no_form, alg_measures}
use Rattle.cif_alg_measure.specs.declared.measures.Measure.{Measure}
use Rattle.cif_alg_measure.specs.Meanings.{table_measure}
use Rattle.cif_alg.specs.Tallies.{cut_size}

-- what is counted of an edge: `size` is that of its expressions, stopped one past the limit
pub record CountedEdge : Type 0 where
  pub event : ℕ
  pub role : Role
  pub size : ℕ

pub record CountedAuto : Type 0 where
  pub alphabet : List ℕ
  pub monitors : List ℕ
  pub edges : List CountedEdge

pub record CountedExclusion : Type 0 where
  pub event : ℕ
  pub size : ℕ

-- where alg tells what an algebraic variable weighs
abbrev pub counted_edge : (alg : ℕ → counts.Measure) → NetEdge → CountedEdge
counted_edge alg x = record { event = x.event; role = x.role; size = cut_size alg (edge_exprs x) }

abbrev pub counted_auto : (alg : ℕ → counts.Measure) → NetAuto → CountedAuto
counted_auto alg a = record { alphabet = a.alphabet; monitors = a.monitors; edges = map (counted_edge alg) a.edges }

abbrev pub counted_exclusion : (alg : ℕ → counts.Measure) → NetExclusion → CountedExclusion
counted_exclusion alg x = record { event = x.event; size = cut_size alg (x.pred ∷ []) }

-- its size alone
abbrev pub counted_invariant : (alg : ℕ → counts.Measure) → NetInvariant → ℕ
counted_invariant alg i = cut_size alg (i.pred ∷ [])

-- the same is counted of these, where an algebraic variable counts as the measure with its number, as of those of a net
pub record AreAsLarge (algs : List Measure) (autos : List NetAuto) (exclusions : List NetExclusion) (invariants : List NetInvariant) (n : Net) : Type 0 where
  pub autos_as : map (counted_auto (table_measure algs)) autos ≡ map (counted_auto (at_or no_form (alg_measures n))) n.autos
  pub exclusions_as : map (counted_exclusion (table_measure algs)) exclusions ≡ map (counted_exclusion (at_or no_form (alg_measures n))) n.exclusions
  pub invariants_as : map (counted_invariant (table_measure algs)) invariants ≡ map (counted_invariant (at_or no_form (alg_measures n))) n.invariants
