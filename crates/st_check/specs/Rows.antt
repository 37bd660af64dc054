-- Helper of the code: the variables that make a row, which are the inputs, or the outputs.
use Rattle.std.specs.Prelude.{Bool}
use Rattle.st_ast.specs.Interface.{is_output, is_input}
use Rattle.st_ast.specs.declared.tree.StClass.{StClass}
use Rattle.st_check.specs.declared.rows.Row.{Row}
use Rattle.st_check.specs.declared.rows.Row.TheVariants as row

abbrev pub is_in : Row → StClass → Bool
is_in row.Inputs = is_input
is_in row.Outputs = is_output
