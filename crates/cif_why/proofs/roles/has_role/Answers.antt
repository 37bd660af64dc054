use Rattle.std.proofs.Common.{◌∙◌, map, ap}
use Rattle.std.specs.List.{list_any}
use Rattle.cif_net.specs.View.{auto_tree, net_tree}
use Rattle.cif_why.specs.Parties.{takes_part}
use Rattle.cif_why.proofs.RoleLaws.{role-same}
use Rattle.cif_why.proofs.roles.has_role.Goals as goal

pub returns : goal.returns
returns c = c.some_party.ensures ∙ ap (λ xs. list_any (takes_part c.args.event) (map auto_tree xs)) c.as_slice.ensures ∙ role-same (net_tree c.args.plain.now.net) c.args.event
