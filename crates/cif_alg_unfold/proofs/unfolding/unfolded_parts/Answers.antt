use Rattle.std.proofs.Common.{◌≡◌}
use Rattle.cif_alg_unfold.proofs.TableLaws.{parts_unfold}
use Rattle.cif_alg_unfold.proofs.unfolding.unfolded_parts.Goals as goal

pub returns : goal.returns
returns c =
    let n = c.args.net in
    let x : c.as_slice-2.result.now ≡ c.args.net.exclusions = cc in
    let i : c.as_slice-3.result.now ≡ c.args.net.invariants = cc in
    parts_unfold n.autos n.events n.inputs n.vars n.algs n.exclusions n.invariants c.args.order.now c.requires c.in_ok-by.by c.in_ok-by.ensures
    c.as_slice.result.now c.events.inside.items.items c.inputs.inside.items.items c.vars.inside.items.items c.as_slice-2.result.now c.as_slice-3.result.now
    c.in_ok-autos.field-0 c.in_ok-algs.field-0 c.in_ok-exclusions.field-0 c.in_ok-invariants.field-0
    c.as_slice.ensures c.events.view_is c.inputs.view_is c.vars.view_is x i
    c.in_ok-autos.ensures c.in_ok-algs.ensures c.in_ok-exclusions.ensures c.in_ok-invariants.ensures
