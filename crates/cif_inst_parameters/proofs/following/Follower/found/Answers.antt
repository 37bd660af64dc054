use Rattle.std.proofs.Common.{subst}
use Rattle.cif_source.specs.Lookup.{found}
use Rattle.cif_inst_components.specs.Numbers.{Finds}
use Rattle.cif_inst_parameters.proofs.TargetLaws.{found-target}
use Rattle.cif_inst_parameters.proofs.following.Follower.found.Goals as goal

pub returns : goal.returns
returns c = λ t d looks own.
    found-target t c.args.self.now looks (found d c.args.name.now) c.in_ok-place.place
    (subst (Finds t (found d c.args.name.now)) c.in_ok-place.was (c.find.ensures t d looks.scopes looks.components own)) c.target_at.result c.target_at.ensures
