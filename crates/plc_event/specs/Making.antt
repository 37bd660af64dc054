-- Helper of the code: what is set where a choice is made, and the statements of a choice.
use Rattle.std.specs.Prelude.{Bool, true, List, [], ◌∷◌, if◌then◌else◌}
use Rattle.grammar.specs.Pieces.{Text}
use Rattle.st_ast.specs.Tree.{Stms, truth, named, assign, append, no_stms, stms, no_branches, branches}
use Rattle.plc_frame.specs.Events.{Written, tested}
use Rattle.plc_event_model.specs.Writes.{chosen}

abbrev pub all_set : List Text → Stms
all_set [] = no_stms
all_set (x ∷ xs) = stms (assign x (truth true)) (all_set xs)

-- those before its test, and then what it does round these marks where the test holds
abbrev pub tried_with : Written → Stms → Stms
tried_with w marks = append w.before (tested w.test (w.act marks))

-- Statements, and others after them: where new values are tested, with this mark, only if all are in range.
abbrev pub acted : (tests : Bool) → (mark : Text) → (computed body : Stms) → Stms
acted tests mark computed body =
    if tests then stms (assign mark (truth true)) (append computed (chosen (branches (named mark) body no_branches) no_stms)) else append computed body
