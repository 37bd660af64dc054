use Rattle.std.proofs.Common.{◌∙◌}
use Rattle.cif_net.specs.View.{state_tree}
use Rattle.cif_why.proofs.Steps.{all-listed}
use Rattle.cif_why.proofs.stepping.has_enabled.Goals as goal

pub returns : goal.returns
returns c = c.some_enabled.ensures ∙ all-listed c.args.guarded.now (state_tree c.args.state.now) c.args.event c.requires.event
