-- Helper of the code: what a sort of the code stands for.
use Rattle.std.specs.Prelude.{Option, option_map}
use Rattle.st_ast.specs.Checks as checks
use Rattle.st_check.specs.declared.sorts.Sort.{Sort}
use Rattle.st_check.specs.declared.sorts.Sort.TheVariants as sort

abbrev pub told : Sort → checks.Sort
told sort.Boolean = checks.boolean
told sort.Integer = checks.integer

-- a sort, where there is one
abbrev pub sort_told : Option Sort → Option checks.Sort
sort_told s = option_map told s
