use Rattle.std.proofs.Common.{sym, ◌∙◌, ap, map}
use Rattle.cif_system.proofs.Lists.{map-length}
use Rattle.cif_net.specs.View.{value_of}
use Rattle.cif_net_expr.specs.View.{view}
use Rattle.cif_net_model.specs.Counts.{no_form}
use Rattle.cif_alg_measure.specs.Meanings.{stopped_measure, table_measure}
use Rattle.cif_alg_order.specs.Measured.{exprs_measured}
use Rattle.cif_alg_order.proofs.CountLaws.{value_measure, by_location-told}
use Rattle.cif_alg_order.proofs.measuring.measure_of.Goals as goal

pub returns-in-ByLoc : goal.returns-in-ByLoc
returns-in-ByLoc c =
    by_location-told (table_measure c.args.algs.now) (map view c.in-ByLoc.values) c.len.result c.measure_of_all.result c.chosen.result
    (c.len.ensures ∙ sym (map-length view c.in-ByLoc.values))
    (c.measure_of_all.ensures ∙ ap (λ xs. exprs_measured (table_measure c.args.algs.now) (stopped_measure no_form) (map view xs)) c.as_slice.ensures)
    c.chosen.ensures
    ∙ sym (ap (λ v. stopped_measure (value_measure (table_measure c.args.algs.now) (value_of v))) c.in-ByLoc.is)
