use Rattle.std.proofs.Common.{length, refl, ◌≡◌, ◌∙◌, ap, subst, map, Some, slice_get}
use Rattle.std.specs.Prelude.{slice_set}
use Rattle.std.proofs.lemmas.Option.{slice_get_read, slice_get_past}
use Rattle.cif_net.specs.View.{alg_tree}
use Rattle.cif_net_model.specs.Net.{NetAlg}
use Rattle.cif_net_model.specs.Interval.{as_bounds, range_of, alg_range}
use Rattle.cif_net_model.specs.Unfolding.{at_or}
use Rattle.cif_alg_order.specs.Ranged.{zero_bounds, with_table, stored_ranges, alg_bounds, DefinitionFault}
use Rattle.cif_alg_order.proofs.FillLaws.{put-some, put-none, map-some, map-none}
use Rattle.cif_alg_order.proofs.RangeLaws.{fault-told}
use Rattle.cif_alg_order.proofs.ranging.put_range.Goals as goal

pub returns-in_err-range-clause-fault : goal.returns-in_err-range-clause-fault
returns-in_err-range-clause-fault c =
    fault-told
    (λ e. (a : NetAlg) × (slice_get (map alg_tree c.args.algs.now) c.args.number ≡ Some a) × DefinitionFault (with_table (stored_ranges c.args.declared.now) (at_or zero_bounds c.args.table.now)) a e)
    (λ e. e) c.from_residual.result c.in_err-range.field-0.0 c.from_residual.ensures.1 (
      alg_tree c.in-Some.alg.now,
      map-some alg_tree c.args.algs.now c.args.number c.in-Some.alg.now (slice_get_read c.args.algs.now (length c.args.algs.now) c.args.number c.in-Some.alg.now refl c.in-Some.ensures.lookup.3.0 c.in-Some.ensures.lookup.1),
      subst (λ g. DefinitionFault g (alg_tree c.in-Some.alg.now) c.in_err-range.field-0.0) (c.ranges_with.ensures ∙ ap (λ t. with_table (stored_ranges c.args.declared.now) (at_or zero_bounds t)) c.as_slice.ensures) c.in_err-range.ensures.fault,
    )

pub returns-then-at-len-clause-table : goal.returns-then-at-len-clause-table
returns-then-at-len-clause-table c =
    c.set.ensures
    ∙ ap (slice_set c.args.table.now c.args.number)
    (c.in_ok-range.ensures.range
    ∙ ap (λ g. as_bounds (alg_range (range_of g) (alg_tree c.in-Some.alg.now))) (c.ranges_with.ensures ∙ ap (λ t. with_table (stored_ranges c.args.declared.now) (at_or zero_bounds t)) c.as_slice.ensures))
    ∙ put-some zero_bounds (alg_bounds (stored_ranges c.args.declared.now)) (map alg_tree c.args.algs.now) c.args.table.now c.args.number (alg_tree c.in-Some.alg.now)
    (map-some alg_tree c.args.algs.now c.args.number c.in-Some.alg.now (slice_get_read c.args.algs.now (length c.args.algs.now) c.args.number c.in-Some.alg.now refl c.in-Some.ensures.lookup.3.0 c.in-Some.ensures.lookup.1))

pub returns-in_default-clause-table : goal.returns-in_default-clause-table
returns-in_default-clause-table c =
    put-none zero_bounds (alg_bounds (stored_ranges c.args.declared.now)) (map alg_tree c.args.algs.now) c.args.table.now c.args.number
    (map-none alg_tree c.args.algs.now c.args.number (slice_get_past c.args.algs.now c.args.number c.in_default.ensures.lookup.3))
