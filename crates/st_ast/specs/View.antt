-- What tree of plain data a value of the types of `src/` stands for.
use Rattle.st_ast.specs.Tree as tree
use Rattle.st_ast.specs.declared.tree.Program.{Program}
pub use Rattle.st_ast.specs.Parts.{terms_of, factors_of, expr_step, factor_step, term_step, view_expr, view_factor, view_factors, view_term, view_terms, view_exprs, branches_of, other_of, stmt_step, branch_step, view_stmt, view_branch, view_stmts, view_branches, program_of_parts}

-- the program that a value stands for
abbrev pub view : Program → tree.Program
view p = program_of_parts p.name p.vars p.body
