use Rattle.cif_inst_components.proofs.FindLaws.{result-finds}
use Rattle.cif_inst_components.proofs.components.Components.find.Goals as goal

pub returns : goal.returns
returns c t d are is own = result-finds t c.args.scopes.now c.args.self.now c.args.component d c.args.name.now c.as_slice.result.now c.as_slice-2.result.now c.find.result c.as_slice.ensures c.as_slice-2.ensures c.find.ensures are is own
