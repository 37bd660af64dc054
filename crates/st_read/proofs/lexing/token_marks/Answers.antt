use Rattle.std.proofs.Common.{◌≡◌, ◌==◌, ◌≤◌, true, false, length, rules, ap, ◌∙◌, arith}
use Rattle.grammar.specs.Pieces.{Text}
use Rattle.st_read.specs.Marks.{after_blanks, tokens_of}
use Rattle.st_read.proofs.Marked.{marked_all, marked_as, marked_token, marked_skip, marked_short, later_shorter}
use Rattle.st_read.proofs.LexSteps.{refused}
use Rattle.st_read.proofs.lexing.token_marks.Goals as goal
use Rattle.st_read.proofs.lexing.token_marks.Goals.{in-Some+in_ok-push, in_default}

pub returns-in-Err-clause-refused : goal.returns-in-Err-clause-refused
returns-in-Err-clause-refused c =
    let some_left : (length c.loop-rest.rest.now == 0) ≡ false = search rules in
    refused c.args.text.now c.loop-rest.rest.now (tokens_of c.args.text.now c.loop-rest.marks) c.in-Err.fault c.refusal.result c.loop-rest.invariant.found.taken some_left c.in-Err.ensures c.refusal.ensures

pub returns-clause-tokens : goal.returns-clause-tokens
returns-clause-tokens c =
    let none_left : (length c.loop-rest.rest.now == 0) ≡ true = search rules in
    marked_all c.args.text.now c.loop-rest.rest.now c.loop-rest.marks c.loop-rest.invariant.found none_left

pub loop-rest-preserved : goal.loop-rest-preserved
loop-rest-preserved c =
    let blanks = c.without_blanks-rest-in-loop-rest.ensures in
    let so_far = c.loop-rest.invariant.found in
    let less = later_shorter c.loop-rest.rest.now c.in-Ok.found.1.now c.in-Ok.found.0 c.in-Ok.ensures in
    let before = c.loop-rest.invariant.shorter in
    let len : length c.without_blanks-rest-in-loop-rest.result.now ≡ length (after_blanks c.in-Ok.found.1.now) = ap (λ (u : Text). length u) blanks in
    let shorter : length c.without_blanks-rest-in-loop-rest.result.now ≤ length c.args.text.now = omega (arith, less, before, len) in
    elim c.match-token.branch [
      | in-Some+in_ok-push w ↦ record {
        found = marked_as c.args.text.now (after_blanks c.in-Ok.found.1.now) c.without_blanks-rest-in-loop-rest.result.now _ c.match-token.marks blanks (w.marks-is ∙ w.in_ok-push.ensures.ok)
            (marked_token c.args.text.now c.loop-rest.rest.now c.in-Ok.found.1.now c.loop-rest.marks c.in-Ok.found.0 w.in-Some.kind _ so_far c.in-Ok.ensures w.in-Some.is (λ short. marked_short _ _ w.marked_length-length.ensures short ∙ w.saturating_sub.ensures));
        shorter = shorter;
      }
      | in_default w ↦ record {
        found = marked_as c.args.text.now (after_blanks c.in-Ok.found.1.now) c.without_blanks-rest-in-loop-rest.result.now c.loop-rest.marks c.match-token.marks blanks w.marks-is
            (marked_skip c.args.text.now c.loop-rest.rest.now c.in-Ok.found.1.now c.loop-rest.marks c.in-Ok.found.0 so_far c.in-Ok.ensures (search rules));
        shorter = shorter;
      }
    ]
