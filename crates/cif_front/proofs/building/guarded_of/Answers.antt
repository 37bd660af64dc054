use Rattle.std.proofs.Common.{Err, sym, ap, subst, ◌∙◌}
use Rattle.cif_source.specs.Source.{source_of}
use Rattle.cif_net.specs.View.{net_tree}
use Rattle.cif_net.specs.declared.plain.Plain.{Plain}
use Rattle.cif_front.specs.Dues.{IsDueOf}
use Rattle.cif_front.specs.Loads.{Stands}
use Rattle.cif_front.specs.Paths.{NamesNothing}
use Rattle.cif_front.proofs.PhaseLaws.{all_kept, lin_due}
use Rattle.cif_front.proofs.PathLaws.{lin_silent}
use Rattle.cif_front.proofs.building.guarded_of.Goals as goal

pub returns-in_ok-guard-in-Ok-clause-loaded : goal.returns-in_ok-guard-in-Ok-clause-loaded
returns-in_ok-guard-in-Ok-clause-loaded c = record {
  keeps = all_kept (source_of c.args._spec.now) (net_tree c.args.plain.net) c.requires.stands c.requires.kept c.requires.plain c.in-Ok.ensures.few;
  stands = subst (λ (p : Plain). Stands (net_tree p.net) (source_of c.args._spec.now)) (sym c.in_ok-guard-in-Ok.ensures.plain) c.requires.stands;
}

pub returns-in-Err-clause-refused : goal.returns-in-Err-clause-refused
returns-in-Err-clause-refused c =
    subst (IsDueOf (source_of c.args._spec.now)) (sym c.from.ensures)
    (lin_due (source_of c.args._spec.now) (net_tree c.args.plain.net) c.requires.stands c.requires.kept c.requires.plain c.in-Err.error (λ count e. c.linearise.ensures.refused count (c.in-Err.is ∙ ap Err e)))

pub returns-in-Err-clause-silent : goal.returns-in-Err-clause-silent
returns-in-Err-clause-silent c = subst NamesNothing (sym c.from.ensures) (lin_silent c.in-Err.error)
