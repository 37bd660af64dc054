-- What a machine is, as a value: its program, and the numbers of the variables.
use Rattle.st_ast.specs.Values.{Memory}
use Rattle.st_ast.specs.declared.tree.Program.{Program}

pub record Standing : Type 0 where
  pub program : Program
  pub memory : Memory
