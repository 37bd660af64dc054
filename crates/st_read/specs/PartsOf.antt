-- Helper of the code: the program that the parts of one stand for, before it is known that they have a spelling.
use Rattle.st_ast.specs.Parts.{program_of_parts}
use Rattle.st_ast.specs.Tree.{Program}
use Rattle.st_read.specs.declared.program.Parts.{Parts}

abbrev pub view_parts : Parts → Program
view_parts p = program_of_parts p.name p.vars p.body
