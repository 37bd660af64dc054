use Rattle.std.proofs.Common.{◌≡◌, ◌-◌, ◌+◌, ◌*◌, map, Some}
use Rattle.grammar.specs.Reader.{deep_from}
use Rattle.grammar.specs.Loops.{deep_after}
use Rattle.st_ast.specs.Grammar.{sort}
use Rattle.st_ast.specs.View.{view_expr}
use Rattle.st_read.specs.Operands.{operand_view}
use Rattle.st_read.specs.Reading.{codes_of, operators, other_at, others_at, level_at, unary_at}
use Rattle.st_read.proofs.levels.Levels.+levels.Given as goal

abbrev pub decreases-other : goal.decreases-other
decreases-other g l = 5 * l.level + 1

abbrev pub decreases-others : goal.decreases-others
decreases-others g l = 5 * l.level + 2

abbrev pub decreases-chained : goal.decreases-chained
decreases-chained g l = 5 * l.level + 3

abbrev pub decreases-paired : goal.decreases-paired
decreases-paired g l = 5 * l.level + 3

abbrev pub decreases-after : goal.decreases-after
decreases-after g l = 5 * l.level + 4

abbrev pub decreases-at : goal.decreases-at
decreases-at g l = 5 * l.levels

abbrev pub invariant-others-loop-turn : goal.invariant-others-loop-turn
invariant-others-loop-turn g l = others_at l.fn.level (level_at l.fn.level (unary_at l.self.fuel)) l.fn.tokens
    ≡ deep_after (map operand_view l.found) l.deep (deep_from sort (codes_of (operators l.fn.level)) (other_at l.fn.level (level_at l.fn.level (unary_at l.self.fuel))) (l.most - l._turn) l.rest)

abbrev pub invariant-at-loop-level : goal.invariant-at-loop-level
invariant-at-loop-level g l = level_at l.level (unary_at l.self.fuel) l.fn.tokens ≡ Some ((view_expr l.operand.0, l.operand.1), l.rest)
