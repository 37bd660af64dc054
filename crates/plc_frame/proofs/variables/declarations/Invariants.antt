use Rattle.std.proofs.Common.{◌≡◌, ◌++◌, map, drop}
use Rattle.std.specs.List.{enumerate_from}
use Rattle.plc_model.specs.Face as f
use Rattle.plc_frame.specs.Shown.{face_tree}
use Rattle.plc_frame.proofs.variables.declarations.Given as goal

-- what is done, and what is left, are all declarations
abbrev pub invariant-loop-number : goal.invariant-loop-number
invariant-loop-number l =
    l.all ++ map (f.declaration l.letter l.class) (enumerate_from l.number (map face_tree (drop l.number l.shown))) ≡ f.declarations l.letter l.class (map face_tree l.shown)
