use Rattle.std.proofs.Common.{inl, inr, sym, subst}
use Rattle.cif_source.specs.Source.{source_of}
use Rattle.cif_net.specs.View.{net_tree}
use Rattle.cif_front.specs.Dues.{IsDueOf}
use Rattle.cif_front.specs.Paths.{NamesOf}
use Rattle.cif_front.proofs.PhaseLaws.{alg_due}
use Rattle.cif_front.proofs.PathLaws.{error_named}
use Rattle.cif_front.proofs.building.plain_of.Goals as goal

pub returns-clause-refused : goal.returns-clause-refused
returns-clause-refused c =
    elim c.refused_net.ensures [
      | inl h ↦ subst (IsDueOf (source_of c.args.spec.now)) (sym h.0) (alg_due (source_of c.args.spec.now) (net_tree c.args.net) c.requires.represents c.requires.kept c.in-Err.error c.in-Err.ensures.refused)
      | inr h ↦ subst (IsDueOf (source_of c.args.spec.now)) (sym h) tt
    ]

pub returns-clause-named : goal.returns-clause-named
returns-clause-named c =
    elim c.refused_net.ensures [
      | inl h ↦ subst (λ why. NamesOf (source_of c.args.spec.now) why c.refused_net.result.path) (sym h.0) (error_named (source_of c.args.spec.now) (net_tree c.args.net) c.requires.represents.translated c.in-Err.error c.refused_net.result.path h.1)
      | inr h ↦ subst (λ why. NamesOf (source_of c.args.spec.now) why c.refused_net.result.path) (sym h) tt
    ]
