use Rattle.std.proofs.Common.{List, map, sym, ap, subst, ◌∙◌}
use Rattle.cif_net.specs.View.{event_tree, net_tree}
use Rattle.cif_net.specs.declared.events.Event.{Event}
use Rattle.cif_net_laws.proofs.Steps.{choices-are}
use Rattle.st_print.specs.Layout.{printed}
use Rattle.plc_event_model.specs.ProgramParts.{HasParts, net_program}
use Rattle.plc_back.specs.Written.{IsFirstUnclassed, first_unclassed}
use Rattle.plc_back.proofs.ClassLaws.{first-unclassed, none-unclassed, told_event}
use Rattle.plc_back.proofs.TextLaws.{makes}
use Rattle.plc_back.proofs.generating.generate_text.Goals as goal

pub returns-in-Some-clause-unclassed : goal.returns-in-Some-clause-unclassed
returns-in-Some-clause-unclassed c event same =
    subst (IsFirstUnclassed (net_tree c.args.guarded.now.plain.net)) (told_event c.in-Some.event event same)
    (first-unclassed (net_tree c.args.guarded.now.plain.net) c.in-Some.event
    (ap (λ (xs : List Event). first_unclassed 0 (map event_tree xs)) (sym c.as_slice.ensures) ∙ sym c.in-Some.ensures))

pub returns-clause-text : goal.returns-clause-text
returns-clause-text c = record {
  has = record {
    parts = subst (λ cs. HasParts (net_tree c.args.guarded.now.plain.net) cs c.args.bounds.unc c.args.bounds.con) (choices-are c.args.guarded.now) c.in_ok-text.ensures.parts;
    shallow = c.requires.shallow;
  };
  classed = none-unclassed (net_tree c.args.guarded.now.plain.net) (ap (λ (xs : List Event). first_unclassed 0 (map event_tree xs)) (sym c.as_slice.ensures) ∙ sym c.in_default.ensures);
  is = c.in_ok-text.ensures.text ∙ ap (λ cs. printed (net_program (net_tree c.args.guarded.now.plain.net) cs c.args.bounds.unc c.args.bounds.con)) (choices-are c.args.guarded.now);
}

pub returns-clause-makes : goal.returns-clause-makes
returns-clause-makes c = makes (net_tree c.args.guarded.now.plain.net) c.args.bounds.unc c.args.bounds.con c.in_ok-text.text.items (returns-clause-text c)
