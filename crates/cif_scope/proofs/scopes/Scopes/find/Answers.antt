use Rattle.cif_scope.proofs.FindLaws.{result-finds}
use Rattle.cif_scope.proofs.scopes.Scopes.find.Goals as goal

pub returns : goal.returns
returns c = result-finds c.args.self.now c.args.scope c.args.name.now c.as_slice.result.now c.find.result c.as_slice.ensures c.find.ensures
