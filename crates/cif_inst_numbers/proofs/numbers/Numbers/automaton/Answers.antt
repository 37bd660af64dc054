use Rattle.std.proofs.Common.{◌∙◌, ap}
use Rattle.cif_system.proofs.Lists.{some-same, none-some}
use Rattle.cif_inst_numbers.specs.declared.counts.Counts.{Counts}
use Rattle.cif_inst_numbers.proofs.NumberLaws.{automaton-is}
use Rattle.cif_inst_numbers.proofs.numbers.Numbers.automaton.Goals as goal

pub returns-in-Some : goal.returns-in-Some
returns-in-Some c t d h own is =
    let a = automaton-is t c.args.self.now h c.args.component d own is in
    ap (λ (x : Counts). x.automata) (some-same c.in-Some.first.now a.0 (c.in-Some.ensures.value ∙ a.1)) ∙ a.2

pub returns-in-None : goal.returns-in-None
returns-in-None c t d h own is =
    let a = automaton-is t c.args.self.now h c.args.component d own is in
    absurd (none-some a.0 (c.in-None.ensures.value ∙ a.1))
