use Rattle.std.proofs.Common.{◌≡◌, map, drop}
use Rattle.cif_types_constancy.specs.Collected.{typed_of}
use Rattle.cif_types_constancy.specs.Constancy.{is_wrong_name, values_unfit}
use Rattle.cif_types_constancy.proofs.constancy.values_unfit.Given as goal

abbrev pub invariant-loop-typed : goal.invariant-loop-typed
invariant-loop-typed l = values_unfit (is_wrong_name l.scopes l.body) (map typed_of (drop l.typed-index l.values)) ≡ values_unfit (is_wrong_name l.scopes l.body) (map typed_of l.values)
