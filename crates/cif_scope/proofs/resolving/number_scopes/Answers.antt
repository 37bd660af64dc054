use Rattle.std.proofs.Common.{subst, sym}
use Rattle.cif_source.specs.Source.{source_of}
use Rattle.cif_scope.specs.Looks.{Definitions}
use Rattle.cif_scope.specs.Scopes.{AreDefinitions}
use Rattle.cif_scope.proofs.DefinitionLaws.{definitions-are}
use Rattle.cif_scope.proofs.resolving.number_scopes.Goals as goal

pub returns-in_ok-definitions-in-Ok-clause-scopes : goal.returns-in_ok-definitions-in-Ok-clause-scopes
returns-in_ok-definitions-in-Ok-clause-scopes c = record {
  table = c.in-Ok.ensures.table.table;
  indexed = c.in-Ok.ensures.table.indexed;
  definitions = subst (λ (ds : Definitions). AreDefinitions (source_of c.args.spec.now) ds) (sym c.in_ok-definitions-in-Ok.ensures)
      (definitions-are (source_of c.args.spec.now) c.in-Ok.table c.in-Ok.ensures.table.table c.in-Ok.ensures.table.indexed);
}
