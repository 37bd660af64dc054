-- Helper of the code: the sort of an operation, from those of its operands.
use Rattle.std.specs.Prelude.{Option, ◌&&◌}
use Rattle.st_ast.specs.Checks.{Sort, boolean, integer, is_boolean, is_integer, is_same_sort, given}
use Rattle.st_check.specs.declared.placed.Pairing.{Pairing}
use Rattle.st_check.specs.declared.placed.Pairing.TheVariants as between
use Rattle.st_check.specs.declared.placed.Single.{Single}
use Rattle.st_check.specs.declared.placed.Single.TheVariants as one

abbrev pub single_sort : Single → Option Sort → Option Sort
single_sort one.Minus s = given (is_integer s) integer
single_sort one.Not s = given (is_boolean s) boolean
single_sort one.Absolute s = given (is_integer s) integer

abbrev pub pair_sort : Pairing → Option Sort → Option Sort → Option Sort
pair_sort (between.Order f) s t = given (is_integer s && is_integer t) boolean
pair_sort (between.Equality same) s t = given (is_same_sort s t) boolean
pair_sort between.Smaller s t = given (is_integer s && is_integer t) integer
pair_sort between.Larger s t = given (is_integer s && is_integer t) integer
