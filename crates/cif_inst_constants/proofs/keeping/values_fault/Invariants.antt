use Rattle.std.proofs.Common.{◌≡◌, map, drop}
use Rattle.cif_types_constancy.specs.Collected.{typed_of}
use Rattle.cif_inst_constants.specs.Named.{table_value}
use Rattle.cif_inst_constants.specs.Outcomes.{evaluated}
use Rattle.cif_inst_constants.specs.Slots.{row_of}
use Rattle.cif_inst_constants.specs.Walked.{walked, values_fault}
use Rattle.cif_inst_constants.proofs.keeping.values_fault.Given as goal

abbrev pub invariant-loop-typed : goal.invariant-loop-typed
invariant-loop-typed l = values_fault (evaluated (table_value l.types.scopes.now l.types.constants.now.numbers l.types.constants.now.values l.body)) (walked l.types.scopes.now l.types.constants.now.numbers l.types.constants.now.values (map row_of l.types.rows.now) l.turns l.body) (map typed_of (drop l.typed-index l.values)) ≡ values_fault (evaluated (table_value l.types.scopes.now l.types.constants.now.numbers l.types.constants.now.values l.body)) (walked l.types.scopes.now l.types.constants.now.numbers l.types.constants.now.values (map row_of l.types.rows.now) l.turns l.body) (map typed_of l.values)
