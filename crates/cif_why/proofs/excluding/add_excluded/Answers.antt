use Rattle.std.proofs.Common.{◌≡◌, ◌∙◌, ◌++◌, pos, map, ap, sym, subst, refl}
use Rattle.std.specs.Prelude.{OnOk}
use Rattle.cif_why_model.specs.Reasons.{excluded}
use Rattle.cif_value.specs.Settings.{told}
use Rattle.cif_net.specs.View.{exclusion_tree, net_tree, state_tree}
use Rattle.cif_why.specs.Lists.{each_from}
use Rattle.cif_why.specs.Parties.{AreSafeExclusions, is_forbidden}
use Rattle.cif_why.specs.View.{reason_tree}
use Rattle.cif_why.proofs.Guards.{exclusions-mean, exclusions-safe}
use Rattle.cif_why.proofs.RoleLaws.{excluded-same}
use Rattle.cif_why.proofs.excluding.add_excluded.Goals as goal

pub add_excluding-requires-clause-safe : goal.add_excluding-requires-clause-safe
add_excluding-requires-clause-safe c =
    subst (λ xs. AreSafeExclusions (told c.args.state.now (pos 0)) (map exclusion_tree xs)) (sym c.as_slice.ensures) (exclusions-safe (net_tree c.args.plain.now.net) (state_tree c.args.state.now) c.args.plain.now.plain c.requires)

pub returns : goal.returns
returns c =
    subst (λ rs. OnOk c.add_excluding.result (map reason_tree c.add_excluding.new.all ≡ map reason_tree c.args.all.now ++ rs))
    (ap (λ xs. each_from excluded (λ k. is_forbidden (told c.args.state.now (pos 0)) c.args.event) 0 (map exclusion_tree xs)) c.as_slice.ensures
    ∙ excluded-same (net_tree c.args.plain.now.net) (state_tree c.args.state.now) (told c.args.state.now (pos 0)) c.args.event refl
    (exclusions-mean (net_tree c.args.plain.now.net) (state_tree c.args.state.now) c.args.plain.now.plain c.requires))
    c.add_excluding.ensures
