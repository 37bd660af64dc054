use Rattle.std.proofs.Common.{◌≡◌, List, ℕ, filter, length, ap, ◌∙◌}
use Rattle.std.proofs.lemmas.Result.{IfOk-weaker}
use Rattle.cif_net.specs.View.{choice_tree, net_tree}
use Rattle.plc_event_model.specs.Keeps.{asked, invariants_at}
use Rattle.plc_event.specs.Changed.{is_dependent}
use Rattle.plc_event.proofs.Changing.{dependent-are, dependent-count}
use Rattle.plc_event.proofs.changes.invariants_after.Goals as goal

pub returns-clause-invariants : goal.returns-clause-invariants
returns-clause-invariants c =
    let n = net_tree c.args.net.now in
    let choice = choice_tree c.args.choice.now in
    let marks = c.start.new.self in
    IfOk-weaker c.among.result (λ all. all ≡ filter (is_dependent n marks) c.as_slice.result.now) (λ all. invariants_at n all ≡ asked n choice)
    (λ all is. dependent-are n choice marks c.in_ok-start.ensures all (is ∙ ap (filter (is_dependent n marks)) c.as_slice.ensures)) c.among.ensures

pub returns-clause-count : goal.returns-clause-count
returns-clause-count c =
    let n = net_tree c.args.net.now in
    let choice = choice_tree c.args.choice.now in
    let marks = c.start.new.self in
    IfOk-weaker c.among.result (λ all. all ≡ filter (is_dependent n marks) c.as_slice.result.now) (λ (all : List ℕ). length all ≡ length (asked n choice))
    (λ all is. dependent-count n choice marks c.in_ok-start.ensures all (is ∙ ap (filter (is_dependent n marks)) c.as_slice.ensures)) c.among.ensures
