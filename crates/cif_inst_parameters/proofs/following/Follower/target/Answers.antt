use Rattle.std.proofs.Common.{sym, ap, ◌∙◌, subst}
use Rattle.std.specs.Option.{option_copied}
use Rattle.cif_inst_parameters.specs.Following.{FindsBare}
use Rattle.cif_inst_parameters.proofs.following.Follower.target.Goals as goal

pub returns : goal.returns
returns c = λ t d looks own.
    subst (λ o. FindsBare t d o c.found.result) (ap option_copied (sym c.in_ok-name.was) ∙ c.bare_name.ensures) (c.found.ensures t d looks own)
