use Rattle.std.proofs.Common.{◌≡◌, IfOk, map, subst, ap, ◌∙◌}
use Rattle.cif_net_expr.specs.View.{view}
use Rattle.cif_net.specs.Places.{first_at}
use Rattle.cif_net.proofs.PlaceLaws.{places-several}
use Rattle.cif_net.proofs.defining.by_places.Goals as goal

pub returns : goal.returns
returns c =
    subst (λ t. IfOk c.choice.result (λ x. view x ≡ t))
    (places-several c.args.auto c.first_place-at.result c.args.values c.pop.new.self c.in-Some.last c.in_ok-other.other c.in_ok-branches.branches c.is_empty.result
    c.in-Some.ensures c.is_empty.ensures c.if-is_empty.false (c.first_place-at.ensures ∙ ap (λ es. first_at (map view es)) c.as_slice.ensures) c.in_ok-other.ensures c.in_ok-branches.ensures)
    c.choice.ensures
