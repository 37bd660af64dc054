use Rattle.std.proofs.Common.{◌≡◌, pos, map, sym, subst}
use Rattle.std.specs.Prelude.{IfOk}
use Rattle.cif_value.specs.Settings.{told}
use Rattle.cif_net.specs.View.{auto_tree, net_tree, state_tree}
use Rattle.cif_why.specs.Openings.{openings_from}
use Rattle.cif_why.specs.Parties.{AreSafeAutos}
use Rattle.cif_why.proofs.Guards.{autos-safe}
use Rattle.cif_why.proofs.openings.openings_of.Goals as goal

pub openings-requires-clause-safe : goal.openings-requires-clause-safe
openings-requires-clause-safe c =
    subst (λ xs. AreSafeAutos (told c.args.state.now (pos 0)) (map auto_tree xs)) (sym c.as_slice.ensures) (autos-safe (net_tree c.args.plain.now.net) (state_tree c.args.state.now) c.args.plain.now.plain c.requires)

pub returns : goal.returns
returns c = subst (λ xs. IfOk c.openings.result (λ all. all ≡ openings_from (told c.args.state.now (pos 0)) c.args.event 0 (map auto_tree xs))) c.as_slice.ensures c.openings.ensures
