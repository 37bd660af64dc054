-- Helper of the code: what a printer has written, and what it still prints.
use Rattle.std.specs.Prelude.{ℕ, ◌+◌, List, ◌∷◌, ◌++◌, codes}
use Rattle.grammar.specs.Pieces.{Text}
use Rattle.st_ast.specs.Tree.{Expr, Stms}
use Rattle.st_print.specs.Layout.{Mark, line, word, text_of, expr_marks, stms_marks}
use Rattle.st_print.specs.declared.printer.Printer.{Printer}

-- the text once these marks are printed too
unfoldable pub so_far : Printer → List Mark → Text
so_far p ms = p.bytes.items ++ text_of p.fresh ms

-- one branch, with its first word
abbrev pub branch_marks : Text → ℕ → Expr × Stms → List Mark → List Mark
branch_marks w k b ms = line k ∷ word w ∷ expr_marks b.0 (word (codes "THEN") ∷ stms_marks (k + 1) b.1 ms)
