use Rattle.std.proofs.Common.{rules, ◌<◌, length, sym, arith}
use Rattle.st_read.specs.Reading.{codes_of}
use Rattle.st_read.proofs.Marked.{taken_at, not_taken_at, none_taken_at}
use Rattle.st_read.proofs.tokens.one_of.Goals as goal
use Rattle.st_read.proofs.tokens.one_of.Goals.{in_default-via-then-marks-lt1, in_default-via-in-len1-up+else-has}

pub returns-in-len1-up : goal.returns-in-len1-up
returns-in-len1-up c =
    let some = c.in-len1-up.len_at_least in
    taken_at c.tokens.inside.text.now (codes_of c.args.among.now) c.tokens.inside.marks.now _ c.tokens.invariant c.args.tokens c.tokens.view_is
    c.of.result c.of-in-len1-up.result (omega (arith, some)) (sym c.if-has.ensures) c.of.ensures c.of-in-len1-up.ensures

pub returns-in_default : goal.returns-in_default
returns-in_default c = elim c.in_default.branch [
  | in_default-via-then-marks-lt1 w ↦
      let none : length c.tokens.inside.marks.now < 1 = search rules in
      none_taken_at c.tokens.inside.text.now (codes_of c.args.among.now) c.tokens.inside.marks.now c.args.tokens c.tokens.view_is none
  | in_default-via-in-len1-up+else-has w ↦
      let some = w.in-len1-up.len_at_least in
      not_taken_at c.tokens.inside.text.now (codes_of c.args.among.now) c.tokens.inside.marks.now _ c.tokens.invariant c.args.tokens c.tokens.view_is (omega (arith, some)) (sym w.if-has.ensures)
]
