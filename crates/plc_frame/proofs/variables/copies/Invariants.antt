use Rattle.std.proofs.Common.{◌≡◌, ◌++◌, map, drop}
use Rattle.std.specs.List.{enumerate_from}
use Rattle.st_ast.specs.View.{view_stmt}
use Rattle.plc_frame.specs.Variables.{all_shown_by, shown_by}
use Rattle.plc_frame.specs.Shown.{face_tree}
use Rattle.plc_frame.proofs.variables.copies.Given as goal

-- what is done, and what is left, are all statements
abbrev pub invariant-loop-number : goal.invariant-loop-number
invariant-loop-number l =
    map view_stmt l.all ++ map (shown_by l.to l.from) (enumerate_from l.number (map face_tree (drop l.number l.shown))) ≡ all_shown_by l.to l.from (map face_tree l.shown)
