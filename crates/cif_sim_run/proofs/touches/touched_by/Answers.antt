use Rattle.std.proofs.Common.{◌++◌, ℕ, List, map, subst, ◌∙◌}
use Rattle.cif_net_expr.specs.View.{view_updates}
use Rattle.cif_net.specs.View.{move_tree}
use Rattle.cif_sim.specs.Stays.{movers, targets_all}
use Rattle.cif_sim_run.specs.Made.{AreInOrder}
use Rattle.cif_sim_run.proofs.touches.touched_by.Goals as goal

pub returns : goal.returns
returns c = record {
  autos = subst (λ (ks : List ℕ). AreInOrder ks c.in_order-autos.result)
      (c.in_ok-add_movers.ensures ∙ (λ i. c.new-movers.ensures i ++ movers (map move_tree (c.as_slice.ensures i)))) c.in_order-autos.ensures;
  vars = subst (λ (ks : List ℕ). AreInOrder ks c.in_order-vars.result)
      (c.in_ok-add_targets.ensures ∙ (λ i. c.new-targets.ensures i ++ targets_all (view_updates (c.as_slice-2.ensures i)))) c.in_order-vars.ensures;
}
