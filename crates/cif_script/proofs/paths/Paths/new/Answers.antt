use Rattle.std.proofs.Common.{List, map, subst}
use Rattle.cif_net.specs.declared.data.Input.{Input}
use Rattle.cif_net.specs.declared.events.Event.{Event}
use Rattle.cif_script.specs.Numbers.{Finds}
use Rattle.cif_script.proofs.Naming.{finds_names}
use Rattle.cif_script.proofs.paths.Paths.new.Goals as goal

pub invariant_of-result : goal.invariant_of-result
invariant_of-result c =
    finds_names c.args.net.now c.in_ok-events.events c.in_ok-inputs.inputs
    (subst (λ (es : List Event). Finds (map (λ (e : Event). e.path) es) c.in_ok-events.events) c.as_slice.ensures c.in_ok-events.ensures)
    (subst (λ (is : List Input). Finds (map (λ (i : Input). i.path) is) c.in_ok-inputs.inputs) c.as_slice-2.ensures c.in_ok-inputs.ensures)
