use Rattle.std.proofs.Common.{◌∙◌, ap, sym, w64}
use Rattle.std.proofs.lemmas.Int.{to_z-of_z}
use Rattle.cif_system.specs.System.{in_range}
use Rattle.cif_net_model.specs.Meaning.{type_range}
use Rattle.std.specs.Prelude.{option_map, slice_get}
use Rattle.cif_net.specs.declared.data.Input.{Input}
use Rattle.cif_sim.proofs.Fitting.{input-takes}
use Rattle.cif_sim.proofs.inputs.takes.Goals as goal

pub returns : goal.returns
returns c =
    c.is_of_type.ensures
    ∙ ap (in_range (type_range c.type_of.result)) (to_z-of_z w64 c.args.value c.ranges.value)
    ∙ input-takes c.args.guarded.now c.args.input c.type_of.result c.args.value
    (ap (λ xs. option_map (λ (i : Input). i.ty) (slice_get xs c.args.input)) (sym c.as_slice.ensures) ∙ c.type_of.ensures)
