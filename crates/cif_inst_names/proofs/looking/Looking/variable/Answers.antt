use Rattle.std.proofs.Common.{◌∙◌}
use Rattle.cif_inst_names.specs.Looking.{source_for, component_at}
use Rattle.cif_inst_names.proofs.NameLaws.{variable-meant}
use Rattle.cif_inst_names.proofs.looking.Looking.variable.Goals as goal

pub returns : goal.returns
returns c = c.variable_of.ensures ∙ variable-meant (source_for c.args.self.now) (component_at c.args.self.now c.args.component) c.args.name.now c.meaning.result c.meaning.ensures
