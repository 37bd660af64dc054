use Rattle.std.proofs.Common.{◌≡◌, ◌++◌, map, subst, sym}
use Rattle.std.specs.Prelude.{OnOk}
use Rattle.cif_source.specs.Source.{no_source}
use Rattle.cif_source.specs.Components.{whole}
use Rattle.cif_scope_uses.specs.Views.{use_of}
use Rattle.cif_scope.specs.declared.written.Inside.{Inside}
use Rattle.cif_scope.specs.Written.{body_of_written, inside_of}
use Rattle.cif_resolve.specs.Bodies.{uses_under}
use Rattle.cif_resolve.proofs.AnswerLaws.{for-one}
use Rattle.cif_resolve.proofs.collecting.add_inside.Goals as goal

pub returns-in-Automaton : goal.returns-in-Automaton
returns-in-Automaton c =
    subst
    (λ (i : Inside). OnOk c.add_automaton_uses.result (map use_of c.add_automaton_uses.new.found.items ≡ map use_of c.args.found.now.items ++ uses_under c.args.scopes.now (map body_of_written c.args.written.now) c.args.body (inside_of i)))
    (sym c.in-Automaton.is)
    (for-one _ _ (whole no_source) c.add_automaton_uses.ensures)
