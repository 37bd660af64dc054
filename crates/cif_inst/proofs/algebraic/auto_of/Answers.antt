use Rattle.std.proofs.Common.{sym, ◌∙◌, ap}
use Rattle.cif_source.specs.Objects.{is_automaton}
use Rattle.cif_scope.specs.Written.{inside_of}
use Rattle.cif_inst.specs.Algebraic.{home_number}
use Rattle.cif_inst.specs.Typing.{typed_source, typed_component}
use Rattle.cif_inst_paths.proofs.SoundLaws.{component-is}
use Rattle.cif_inst.proofs.algebraic.auto_of.Goals as goal

pub returns-in-Automaton : goal.returns-in-Automaton
returns-in-Automaton c =
    c.automaton.ensures (typed_source c.args.typing.now) (typed_component c.args.typing.now c.args.component) c.requires.home.types.names.numbers
    (component-is (typed_source c.args.typing.now) c.args.component c.requires.home.below) (ap is_automaton (c.requires.body ∙ ap inside_of c.in-Automaton.is))
    ∙ sym (ap (home_number (typed_source c.args.typing.now) c.args.component) (ap inside_of c.in-Automaton.is))
