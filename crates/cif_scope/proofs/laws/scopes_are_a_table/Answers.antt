use Rattle.cif_scope.proofs.TableLaws.{scopes-table}
use Rattle.cif_scope.proofs.laws.scopes_are_a_table.Goals as goal

pub returns : goal.returns
returns c = scopes-table
