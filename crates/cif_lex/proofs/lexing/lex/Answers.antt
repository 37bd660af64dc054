use Rattle.std.proofs.Common.{◌≡◌, ◌==◌, true, false, length, rules}
use Rattle.cif_lex.proofs.StepLaws.{taken_all, taken_only, refused, refused_only}
use Rattle.cif_lex.proofs.lexing.lex.Goals as goal

pub returns-in-Err-clause-refused : goal.returns-in-Err-clause-refused
returns-in-Err-clause-refused c =
    let some_left : (length c.loop-rest.rest.now == 0) ≡ false = search rules in
    refused c.args.text.now c.loop-rest.rest.now c.loop-rest.tokens.items c.in-Err.fault c.refusal.result c.loop-rest.invariant.found some_left c.in-Err.ensures c.refusal.ensures

pub returns-in-Err-clause-complete : goal.returns-in-Err-clause-complete
returns-in-Err-clause-complete c = λ all t.
    let some_left : (length c.loop-rest.rest.now == 0) ≡ false = search rules in
    absurd (refused_only c.args.text.now c.loop-rest.rest.now c.loop-rest.tokens.items all c.in-Err.fault c.refusal.result c.loop-rest.invariant.found some_left c.in-Err.ensures c.refusal.ensures t)

pub returns-clause-tokens : goal.returns-clause-tokens
returns-clause-tokens c =
    let none_left : (length c.loop-rest.rest.now == 0) ≡ true = search rules in
    taken_all c.args.text.now c.loop-rest.rest.now c.loop-rest.tokens.items c.loop-rest.invariant.found none_left

pub returns-clause-complete : goal.returns-clause-complete
returns-clause-complete c = λ all t.
    let none_left : (length c.loop-rest.rest.now == 0) ≡ true = search rules in
    taken_only c.args.text.now c.loop-rest.rest.now c.loop-rest.tokens.items all c.loop-rest.invariant.found none_left t
