use Rattle.std.proofs.Common.{◌∙◌, ap}
use Rattle.cif_why.specs.Channels.{is_chan}
use Rattle.cif_why.proofs.Plain.{channel-is}
use Rattle.cif_why.proofs.roles.is_channel.Goals as goal

pub returns : goal.returns
returns c = c.is_chan.ensures ∙ ap is_chan c.chan_at.ensures ∙ channel-is c.args.events.now c.args.event
