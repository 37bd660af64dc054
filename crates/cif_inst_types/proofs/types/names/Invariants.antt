use Rattle.std.proofs.Common.{◌≡◌, ◌++◌, map, drop}
use Rattle.cif_ast.specs.declared.names.Ident.{Ident}
use Rattle.cif_inst_types.proofs.types.names.Given as goal

abbrev pub invariant-loop-literal : goal.invariant-loop-literal
invariant-loop-literal l = l.all ++ map (λ (n : Ident). n.text) (drop l.literal-index l.literals) ≡ map (λ (n : Ident). n.text) l.literals
