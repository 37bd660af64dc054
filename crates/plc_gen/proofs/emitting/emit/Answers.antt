use Rattle.std.proofs.Common.{map}
use Rattle.cif_net.specs.View.{choice_tree, net_tree}
use Rattle.plc_gen_laws.proofs.FitLaws.{fit}
use Rattle.plc_gen.proofs.emitting.emit.Goals as goal

pub emit_fitting-requires-clause-fits : goal.emit_fitting-requires-clause-fits
emit_fitting-requires-clause-fits c parts = fit (net_tree c.args.guarded.now.plain.net) (map choice_tree c.args.guarded.now.choices) c.args.bounds.unc c.args.bounds.con parts c.requires.shallow
