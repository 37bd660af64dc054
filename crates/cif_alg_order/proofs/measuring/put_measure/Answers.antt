use Rattle.std.proofs.Common.{length, refl, ◌∙◌, ap, map}
use Rattle.std.specs.Prelude.{slice_set}
use Rattle.std.proofs.lemmas.Option.{slice_get_read, slice_get_past}
use Rattle.cif_net.specs.View.{alg_tree}
use Rattle.cif_net_model.specs.Counts.{alg_measure}
use Rattle.cif_alg_measure.specs.Meanings.{stopped_measure, table_measure}
use Rattle.cif_alg_order.specs.Measured.{unmeasured, alg_measured}
use Rattle.cif_alg_order.proofs.FillLaws.{put-some, put-none, map-some, map-none}
use Rattle.cif_alg_order.proofs.measuring.put_measure.Goals as goal

pub returns-then-at-len : goal.returns-then-at-len
returns-then-at-len c =
    c.set.ensures
    ∙ ap (slice_set c.args.table.now c.args.number) (c.measure_of-measure.ensures ∙ ap (λ t. stopped_measure (alg_measure (table_measure t) (alg_tree c.in-Some.alg.now))) c.as_slice.ensures)
    ∙ put-some unmeasured alg_measured (map alg_tree c.args.algs.now) c.args.table.now c.args.number (alg_tree c.in-Some.alg.now)
    (map-some alg_tree c.args.algs.now c.args.number c.in-Some.alg.now (slice_get_read c.args.algs.now (length c.args.algs.now) c.args.number c.in-Some.alg.now refl c.in-Some.ensures.lookup.3.0 c.in-Some.ensures.lookup.1))

pub returns-in_default : goal.returns-in_default
returns-in_default c =
    put-none unmeasured alg_measured (map alg_tree c.args.algs.now) c.args.table.now c.args.number
    (map-none alg_tree c.args.algs.now c.args.number (slice_get_past c.args.algs.now c.args.number c.in_default.ensures.lookup.3))
