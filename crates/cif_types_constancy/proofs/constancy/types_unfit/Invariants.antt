use Rattle.std.proofs.Common.{◌≡◌, map, drop}
use Rattle.cif_types_constancy.specs.Collected.{type_of}
use Rattle.cif_types_constancy.specs.Constancy.{is_wrong_name, types_unfit}
use Rattle.cif_types_constancy.proofs.constancy.types_unfit.Given as goal

abbrev pub invariant-loop-ty : goal.invariant-loop-ty
invariant-loop-ty l = types_unfit (is_wrong_name l.scopes l.body) (map type_of (drop l.ty-index l.types)) ≡ types_unfit (is_wrong_name l.scopes l.body) (map type_of l.types)
