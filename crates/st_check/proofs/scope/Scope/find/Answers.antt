use Rattle.std.proofs.Common.{◌∙◌, ap, sym, Some, None}
use Rattle.st_check.specs.Keys.{key, keys_of, found_at}
use Rattle.st_check.proofs.Places.{is_place}
use Rattle.st_check.proofs.scope.Scope.find.Goals as goal

pub returns-in-Some : goal.returns-in-Some
returns-in-Some c =
    is_place c.args.self.now c.args.name.now (Some c.in-Some.place)
    (sym c.in-Some.is ∙ c.in_ok-place.ensures ∙ ap (λ ks. found_at ks (key c.args.name.now)) (c.self.invariant.1 ∙ ap keys_of c.self.view_is))

pub returns-in-None : goal.returns-in-None
returns-in-None c =
    is_place c.args.self.now c.args.name.now None
    (sym c.in-None.is ∙ c.in_ok-place.ensures ∙ ap (λ ks. found_at ks (key c.args.name.now)) (c.self.invariant.1 ∙ ap keys_of c.self.view_is))
