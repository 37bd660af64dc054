-- What types and expressions of the code are in a source and in a net.
use Rattle.std.specs.Prelude.{Option, option_map}
use Rattle.std.specs.Borrow.{Bor}
use Rattle.cif_ast.specs.Tree.{Tree}
use Rattle.cif_ast.specs.View.{view}
use Rattle.cif_ast.specs.declared.expressions.Expr.{Expr}
use Rattle.cif_source.specs.Source.{TypeTree}
use Rattle.cif_inst_model.specs.Types.{NetType}
use Rattle.cif_inst_types.specs.declared.types.NetTy.{NetTy}

-- its numbers, and the names of its literals
abbrev pub net_type_of : NetTy → NetType
net_type_of x = record { type_of = x.ty; literals = x.literals }

-- a value that may be given
abbrev pub given_tree : Option (Bor Expr) → Option Tree
given_tree o = option_map (λ (e : Bor Expr). view e.now) o

-- a value with its type
abbrev pub typed_value : TypeTree → Tree → TypeTree × Tree
typed_value ty e = (ty, e)
