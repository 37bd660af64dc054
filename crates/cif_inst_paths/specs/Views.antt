-- What a row stands for.
use Rattle.cif_scope.specs.Written.{inside_of}
use Rattle.cif_inst_paths.specs.Rows.{RowTree}
use Rattle.cif_inst_paths.specs.declared.rows.Row.{Row}

abbrev pub row_tree : Row → RowTree
row_tree r = (r.prefix, inside_of r.inside)
