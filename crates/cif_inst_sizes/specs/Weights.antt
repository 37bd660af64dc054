-- What algebraic variables and arguments weigh in the net of a source, and so what names stand for.
use Rattle.std.specs.Prelude.{◌≡◌, ◌<◌, ℕ, true, List, length, map, Option, Some, slice_get, if◌then◌else◌}
use Rattle.cif_ast.specs.Tree.{Tree}
use Rattle.cif_ast.specs.declared.names.Name.{Name}
use Rattle.cif_net_model.specs.Counts as counts
use Rattle.cif_net_model.specs.Counts.{one_form, measure_by, all_beside}
use Rattle.cif_net_model.specs.Exprs.{edge_exprs}
use Rattle.cif_net_model.specs.Net.{NetEdge}
use Rattle.cif_alg_measure.specs.declared.measures.Measure.{Measure}
use Rattle.cif_alg_measure.specs.Meanings.{stopped_measure}
use Rattle.cif_alg_order.specs.Orders.{IsRankOf}
use Rattle.cif_source.specs.Source.{Source, UseTree, EdgeTree}
use Rattle.cif_source.specs.Components.{Component}
use Rattle.cif_inst_model.specs.Flat.{net_edge, net_of_source}
use Rattle.cif_inst_model.specs.Translation.{net_name, net_of}
use Rattle.cif_inst_parameters.specs.Given.{given_items}
use Rattle.cif_inst_names.specs.declared.looking.Looking.{Looking}
use Rattle.cif_inst_names.specs.Looking.{AreNamesOf, source_for, component_at}
use Rattle.cif_inst_sizes.specs.declared.measuring.Measurer.{Measurer}
use Rattle.cif_inst_sizes.specs.declared.weights.Weights.{Weights}
use Rattle.cif_inst_sizes.specs.Definitions.{DefinitionTree, alg_weight, definition_measure}
use Rattle.cif_inst_sizes.specs.Naming.{AreArguments}

-- the one form that a name is
abbrev pub one_each : ℕ → counts.Measure
one_each k = one_form

-- what an algebraic variable weighs: what it does in the net, or else one form
abbrev pub alg_by : Looking → Weights → ℕ → counts.Measure
alg_by l w = if w.exact then alg_weight (net_of_source (source_for l)) else one_each

-- ---- by what an algebraic variable weighs; counts stop one past their limits

-- the measure that an expression of a component has in the net
abbrev pub expression_measure : (alg : ℕ → counts.Measure) → Component → Tree → Measure
expression_measure alg c e = stopped_measure (measure_by alg (net_of c e))

-- that of what a name of a component stands for
abbrev pub name_measure : (alg : ℕ → counts.Measure) → Component → Name → Measure
name_measure alg c nm = stopped_measure (measure_by alg (net_name c nm 0))

-- that of all expressions of an edge of the net together
abbrev pub edge_weight : (alg : ℕ → counts.Measure) → NetEdge → Measure
edge_weight alg x = stopped_measure (all_beside (map (measure_by alg) (edge_exprs x)))

-- those of an edge of a component for a use of an event: where it stands is not asked
abbrev pub use_weight : (alg : ℕ → counts.Measure) → Component → EdgeTree → UseTree → Measure
use_weight alg c e u = edge_weight alg (net_edge c (record { from = 0; event_use = u; edge = e }))

-- Definitions by number, of which so many are those of algebraic variables, and the others the arguments of a source.
pub record AreNumbered (l : Looking) (alg : ℕ → counts.Measure) (count : ℕ) (firsts : List ℕ) (all : List DefinitionTree) : Type 0 where
  pub arguments : AreArguments (map given_items l.given.now) firsts all
  pub variables : (k : ℕ) → k < count → (d : DefinitionTree) × (slice_get all k ≡ Some d) × (definition_measure alg (source_for l) d ≡ stopped_measure (alg k))

-- those that are measured have their measures
abbrev pub AreWeighed : Source → (alg : ℕ → counts.Measure) → List DefinitionTree → List (Option Measure) → Type 0
AreWeighed t alg all table = (n : ℕ) (d : DefinitionTree) (m : Measure) → slice_get all n ≡ Some d → slice_get table n ≡ Some (Some m) → m ≡ definition_measure alg t d

-- these are all algebraic variables of the net, and none depends on itself
pub record IsExact (l : Looking) (count : ℕ) : Type 0 where
  pub whole : count ≡ length (net_of_source (source_for l)).algs
  pub rank : ℕ → ℕ
  pub is_rank : IsRankOf (net_of_source (source_for l)) rank

-- the weights are those of these definitions
pub record IsWeighed (l : Looking) (all : List DefinitionTree) (w : Weights) : Type 0 where
  pub numbered : AreNumbered l (alg_by l w) w.count w.firsts all
  pub weighed : AreWeighed (source_for l) (alg_by l w) all w.table
  pub exact : w.exact ≡ true → IsExact l w.count

-- the weights are those of the algebraic variables and arguments of the source whose names these are
unfoldable pub AreWeights : Looking → Weights → Type 0
AreWeights l w = (all : List DefinitionTree) × IsWeighed l all w

-- ---- what expressions of a component are measured by

abbrev pub source_by : Measurer → Source
source_by m = source_for m.looking.now

abbrev pub home : Measurer → Component
home m = component_at m.looking.now m.component

pub record IsReady (m : Measurer) : Type 0 where
  pub names : AreNamesOf m.looking.now
  pub weights : AreWeights m.looking.now m.weights.now

unfoldable pub Knows : Measurer → Type 0
Knows m = IsReady m

-- the measures of what the names of its component stand for
unfoldable pub names_by : Measurer → Name → Measure
names_by m = name_measure (alg_by m.looking.now m.weights.now) (home m)
