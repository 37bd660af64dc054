use Rattle.std.proofs.Common.{◌∙◌, ap, w64}
use Rattle.std.proofs.lemmas.Int.{to_z-of_z}
use Rattle.cif_eval.specs.Ranges.{in_channel}
use Rattle.cif_eval.proofs.Ranged.{event-carries}
use Rattle.cif_eval.proofs.ranges.fits_event.Goals as goal

pub returns : goal.returns
returns c =
    c.fits_chan.ensures
    ∙ ap (in_channel c.chan_at.result) (to_z-of_z w64 c.args.value c.ranges.value)
    ∙ ap (λ o. in_channel o c.args.value) c.chan_at.ensures
    ∙ event-carries c.args.events.now c.args.event c.args.value
