use Rattle.std.proofs.Common.{◌≡◌, take}
use Rattle.cif_ast.proofs.copying.copy_idents.Given as goal

abbrev pub invariant-loop-ident : goal.invariant-loop-ident
invariant-loop-ident l = l.copies ≡ take l.ident-index l.all
