use Rattle.std.proofs.Common.{◌≡◌, map}
use Rattle.cif_ast.specs.declared.components.Item.TheVariants as item
use Rattle.cif_parse.proofs.components.declared.Given as goal

abbrev pub invariant-loop-decl : goal.invariant-loop-decl
invariant-loop-decl l = l.all ≡ map item.Decl l.yielded
