use Rattle.std.proofs.Common.{◌∙◌, pos, map, ap, sym, subst, refl}
use Rattle.cif_value.specs.Settings.{told}
use Rattle.cif_net.specs.View.{auto_tree, net_tree, role_of, state_tree}
use Rattle.cif_why.specs.Parties.{AreSafeAutos, some_can}
use Rattle.cif_why.proofs.Guards.{autos-mean, autos-safe}
use Rattle.cif_why.proofs.RoleLaws.{some-same}
use Rattle.cif_why.proofs.roles.can_take.Goals as goal

pub some_can-requires-clause-safe : goal.some_can-requires-clause-safe
some_can-requires-clause-safe c =
    subst (λ xs. AreSafeAutos (told c.args.state.now (pos 0)) (map auto_tree xs)) (sym c.as_slice.ensures) (autos-safe (net_tree c.args.plain.now.net) (state_tree c.args.state.now) c.args.plain.now.plain c.requires)

pub returns : goal.returns
returns c =
    c.some_can.ensures
    ∙ ap (λ xs. some_can (told c.args.state.now (pos 0)) (role_of c.args.role) c.args.event 0 (map auto_tree xs)) c.as_slice.ensures
    ∙ some-same (net_tree c.args.plain.now.net) (state_tree c.args.state.now) (told c.args.state.now (pos 0)) c.args.event refl (role_of c.args.role)
    (autos-mean (net_tree c.args.plain.now.net) (state_tree c.args.state.now) c.args.plain.now.plain c.requires)
