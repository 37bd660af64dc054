use Rattle.cif_inst_names.specs.ReadsNames.{ReadsNames}
use Rattle.cif_inst_names.proofs.expressions.Maker.named.Goals as goal

pub names-requires : goal.names-requires
unfolding ReadsNames
names-requires g c = c.requires.callable c.args.self.now.alloc c.args.name c.args.at

pub returns : goal.returns
unfolding ReadsNames
returns g c = c.requires.reads c.args.self.now.alloc c.args.name c.args.at c.names.result c.names.ensures
