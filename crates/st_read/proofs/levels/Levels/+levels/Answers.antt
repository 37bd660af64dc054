use Rattle.std.proofs.Common.{rules, ◌≡◌, false}
use Rattle.grammar.specs.Reader.{starts}
use Rattle.st_ast.specs.Grammar.{sort}
use Rattle.st_ast.specs.View.{view_expr}
use Rattle.st_read.specs.Reading.{codes_of, operators, unary_at}
use Rattle.st_read.proofs.Others.{level_alone, level_joined}
use Rattle.st_read.proofs.levels.Levels.+levels.Goals as goal
use Rattle.st_read.proofs.levels.Levels.+levels.Goals.{at-then-comes+in_ok-joined, at-else-comes}

pub at-loop-level-preserved : goal.at-loop-level-preserved
at-loop-level-preserved g t c = elim c.if-comes.branch [
  | at-then-comes+in_ok-joined w ↦ rw (w.operand-is, w.rest-is) (level_joined (unary_at c.args.self.now.fuel) c.args.tokens c.loop-level.level c.loop-level.rest w.in_ok-joined.left
      (view_expr c.loop-level.operand.0, c.loop-level.operand.1) (view_expr w.in_ok-joined.joined.0, w.in_ok-joined.joined.1) c.loop-level.invariant w.in_ok-joined.ensures)
  | at-else-comes w ↦
      let none : starts sort (codes_of (operators c.loop-level.level)) c.loop-level.rest ≡ false = search rules in
      rw (w.operand-is, w.rest-is) (level_alone (unary_at c.args.self.now.fuel) c.args.tokens c.loop-level.level c.loop-level.rest (view_expr c.loop-level.operand.0, c.loop-level.operand.1) c.loop-level.invariant none)
]
