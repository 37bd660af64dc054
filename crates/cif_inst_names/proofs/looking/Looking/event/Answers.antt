use Rattle.std.proofs.Common.{◌∙◌}
use Rattle.cif_inst_names.specs.Looking.{source_for, component_at}
use Rattle.cif_inst_names.proofs.NameLaws.{event-meant}
use Rattle.cif_inst_names.proofs.looking.Looking.event.Goals as goal

pub returns : goal.returns
returns c = c.event_of.ensures ∙ event-meant (source_for c.args.self.now) (component_at c.args.self.now c.args.component) c.args.name.now c.meaning.result c.meaning.ensures
