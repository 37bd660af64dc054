use Rattle.std.proofs.Common.{◌≡◌, ◌∙◌, ◌++◌, pos, map, ap, sym, subst, refl}
use Rattle.std.specs.Prelude.{OnOk}
use Rattle.cif_why_model.specs.Reasons.{blocks}
use Rattle.cif_value.specs.Settings.{told}
use Rattle.cif_net.specs.View.{auto_tree, net_tree, state_tree}
use Rattle.cif_why.specs.Lists.{each_from}
use Rattle.cif_why.specs.Parties.{AreSafeAutos, is_blocked}
use Rattle.cif_why.specs.View.{reason_tree}
use Rattle.cif_why.proofs.Guards.{autos-mean, autos-safe}
use Rattle.cif_why.proofs.RoleLaws.{blocks-same}
use Rattle.cif_why.proofs.roles.add_blocked.Goals as goal

pub add_blocking-requires-clause-safe : goal.add_blocking-requires-clause-safe
add_blocking-requires-clause-safe c =
    subst (λ xs. AreSafeAutos (told c.args.state.now (pos 0)) (map auto_tree xs)) (sym c.as_slice.ensures) (autos-safe (net_tree c.args.plain.now.net) (state_tree c.args.state.now) c.args.plain.now.plain c.requires)

pub returns : goal.returns
returns c =
    subst (λ rs. OnOk c.add_blocking.result (map reason_tree c.add_blocking.new.all ≡ map reason_tree c.args.all.now ++ rs))
    (ap (λ xs. each_from blocks (is_blocked (told c.args.state.now (pos 0)) c.args.event) 0 (map auto_tree xs)) c.as_slice.ensures
    ∙ blocks-same (net_tree c.args.plain.now.net) (state_tree c.args.state.now) (told c.args.state.now (pos 0)) c.args.event refl
    (autos-mean (net_tree c.args.plain.now.net) (state_tree c.args.state.now) c.args.plain.now.plain c.requires))
    c.add_blocking.ensures
