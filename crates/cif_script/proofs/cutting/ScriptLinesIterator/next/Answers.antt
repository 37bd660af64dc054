use Rattle.std.proofs.Common.{◌≡◌, ◌+◌, ◌-◌, [], ◌∷◌, length, take, drop, rules, arith, sym, ap, ◌∙◌, add-one}
use Rattle.std.proofs.lemmas.List.{take_rest}
use Rattle.cif_sim_model.specs.Script.{script_lines}
use Rattle.cif_script.specs.Views.{lines_of_rest}
use Rattle.cif_script.proofs.Splits.{lines_at, lines_whole}
use Rattle.cif_script.proofs.cutting.ScriptLinesIterator.next.Goals.{After-without_return, After-without_return-in-None}
use Rattle.cif_script.proofs.cutting.ScriptLinesIterator.next.Goals as goal

-- the line ends at the first line feed
at_feed : (c : After-without_return) → c.args.self.now
    ≡ c.without_return.result.now ∷ script_lines (take (length c.in_ok-rest.rest.now - (c.in-Some.feed + 1)) (drop (c.in-Some.feed + 1) c.in_ok-rest.rest.now))
at_feed c =
    let rest = c.in_ok-rest.rest.now in
    let cut = lines_at rest c.in-Some.feed (search rules) (search rules) (search rules) in
    let line = c.without_return.ensures in
    sym c.self.view_is ∙ ap lines_of_rest c.in_ok-rest.was ∙ cut ∙ simp (take_rest, add-one, line)

at_end : (c : After-without_return-in-None) → c.args.self.now ≡ c.without_return-in-None.result.now ∷ []
at_end c =
    sym c.self.view_is ∙ ap lines_of_rest c.in_ok-rest.was ∙ lines_whole c.in_ok-rest.rest.now (search rules)
    ∙ ap (λ x. x ∷ []) (sym c.without_return-in-None.ensures)

pub returns-in-Some-clause-steps : goal.returns-in-Some-clause-steps
returns-in-Some-clause-steps c = at_feed c

pub returns-in-Some-clause-goes : goal.returns-in-Some-clause-goes
returns-in-Some-clause-goes c =
    record { on = λ _. (tt, tt, omega (arith, ap length (at_feed c))); keeps = tt; rests = λ _. tt }

pub returns-in-None-clause-steps : goal.returns-in-None-clause-steps
returns-in-None-clause-steps c = at_end c

pub returns-in-None-clause-goes : goal.returns-in-None-clause-goes
returns-in-None-clause-goes c =
    record { on = λ _. (tt, tt, omega (arith, ap length (at_end c))); keeps = tt; rests = λ _. tt }
