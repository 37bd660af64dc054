use Rattle.std.proofs.Common.{◌≡◌, ap, ◌∙◌}
use Rattle.cif_net.specs.View.{net_tree}
use Rattle.cif_sim_model.specs.Names.{Names}
use Rattle.cif_sim_names.specs.Nets.{names_of_net}
use Rattle.cif_script.specs.Numbers.{first_number}
use Rattle.cif_script.proofs.paths.Paths.event.Goals as goal

pub returns : goal.returns
returns c =
    let view : names_of_net (net_tree c.self.inside.net.now) ≡ c.args.self.now = c.self.view_is in
    c.number.ensures ∙ c.self.invariant.of_events c.args.path.now ∙ ap (λ (n : Names). first_number n.events c.args.path.now) view
