use Rattle.std.proofs.Common.{◌∙◌, map, ap}
use Rattle.cif_net.specs.declared.data.Input.{Input}
use Rattle.cif_net.specs.declared.data.Var.{Var}
use Rattle.cif_net.specs.View.{net_tree}
use Rattle.cif_alg_measure.specs.Meanings.{table_range}
use Rattle.cif_alg_measure.specs.TypeBounds.{type_bounds}
use Rattle.cif_alg_measure.proofs.TypeLaws.{vars-stand, inputs-stand, vars-are, inputs-are}
use Rattle.cif_alg_measure.proofs.declared.declared_ranges.Goals as goal

pub returns-clause-vars : goal.returns-clause-vars
returns-clause-vars c k =
    ap (λ bs. table_range bs k) c.in_ok-var_ranges.ensures
    ∙ ap (λ vs. table_range (map (λ (v : Var). type_bounds v.ty) vs) k) c.as_slice.ensures
    ∙ vars-are c.args.net.now.vars (vars-stand (net_tree c.args.net.now) (c.nets_are_nets.ensures c.args.net.now)) k

pub returns-clause-inputs : goal.returns-clause-inputs
returns-clause-inputs c k =
    ap (λ bs. table_range bs k) c.in_ok-input_ranges.ensures
    ∙ ap (λ vs. table_range (map (λ (v : Input). type_bounds v.ty) vs) k) c.as_slice-2.ensures
    ∙ inputs-are c.args.net.now.inputs (inputs-stand (net_tree c.args.net.now) (c.nets_are_nets.ensures c.args.net.now)) k
