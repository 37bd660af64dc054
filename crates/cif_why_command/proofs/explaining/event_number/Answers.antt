use Rattle.std.proofs.Common.{List, map, ap, ◌∙◌}
use Rattle.grammar.specs.Pieces.{Text}
use Rattle.cif_net.specs.declared.events.Event.{Event}
use Rattle.cif_script.specs.Numbers.{first_number}
use Rattle.cif_why_command.proofs.ReasonLaws.{event_paths}
use Rattle.cif_why_command.proofs.explaining.event_number.Goals as goal

pub returns-clause-is : goal.returns-clause-is
returns-clause-is c =
    c.number_of_path.ensures.first
    ∙ ap (λ (w : Text). first_number (map (λ (e : Event). e.path) c.as_slice.result.now) w) c.as_bytes.ensures.value
    ∙ ap (λ (es : List Event). first_number (map (λ (e : Event). e.path) es) c.args.path.now) c.as_slice.ensures
    ∙ ap (λ (ps : List Text). first_number ps c.args.path.now) (event_paths c.args.net.now.plain.net.events)
