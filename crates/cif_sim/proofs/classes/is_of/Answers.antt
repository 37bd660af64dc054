use Rattle.std.proofs.Common.{◌∙◌, ap, sym}
use Rattle.std.specs.Prelude.{option_map, slice_get}
use Rattle.cif_net.specs.Parts.{class_of}
use Rattle.cif_net.specs.declared.events.Event.{Event}
use Rattle.cif_sim.proofs.Fitting.{event-of}
use Rattle.cif_sim.proofs.classes.is_of.Goals as goal

pub returns : goal.returns
returns c =
    c.is_same.ensures
    ∙ event-of c.args.guarded.now (class_of c.args.class) c.args.event c.class_at.result
    (ap (λ xs. option_map (λ (x : Event). x.class) (slice_get xs c.args.event)) (sym c.as_slice.ensures) ∙ c.class_at.ensures)
