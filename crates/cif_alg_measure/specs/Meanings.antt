-- What the types of `src/` stand for.
use Rattle.std.specs.Prelude.{ℕ, pos, List}
use Rattle.cif_base.specs.Bounds.{Bounds}
use Rattle.cif_base.specs.Bounds as bounds
use Rattle.cif_system.specs.System.{Range}
use Rattle.cif_net_model.specs.Interval as model
use Rattle.cif_net_model.specs.Interval.{as_range}
use Rattle.cif_net_model.specs.Unfolding.{at_or}
use Rattle.cif_net_model.specs.Counts as counts
use Rattle.cif_net_model.specs.Counts.{stopped, most_nodes, most_depth}
use Rattle.cif_alg_measure.specs.declared.measures.Measure.{Measure}
use Rattle.cif_alg_measure.specs.declared.ranges.Ranges.{Ranges}

-- by number, and past the end the range of 0 alone
abbrev pub table_range : List Bounds → ℕ → Range
table_range bs k = as_range (at_or (bounds.between (pos 0) (pos 0)) bs k)

abbrev pub ranges_of : Ranges → model.Ranges
ranges_of r = record {
  vars = table_range r.vars.now;
  inputs = table_range r.inputs.now;
  algs = table_range r.algs.now;
  received = as_range r.received;
}

abbrev pub as_measure : Measure → counts.Measure
as_measure m = record { size = m.size; depth = m.depth }

-- a measure whose counts stop one past the limits
abbrev pub stopped_measure : counts.Measure → Measure
stopped_measure m = record { size = stopped most_nodes m.size; depth = stopped most_depth m.depth }

-- by number, and past the end nothing
abbrev pub table_measure : List Measure → ℕ → counts.Measure
table_measure ms k = as_measure (at_or (record { size = 0; depth = 0 }) ms k)

abbrev pub stopped_table : List Measure → ℕ → Measure
stopped_table ms k = stopped_measure (table_measure ms k)
