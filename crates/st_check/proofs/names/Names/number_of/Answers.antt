use Rattle.std.proofs.Common.{◌≡◌, ◌∙◌, ap, ℕ, List}
use Rattle.std.specs.Prelude.{map}
use Rattle.st_check.specs.Keys.{found_at}
use Rattle.grammar.proofs.Keys.{found_is}
use Rattle.st_check.proofs.names.Names.number_of.Goals as goal

pub returns : goal.returns
returns c =
    let view : map (λ k. k.items) c.self.inside.keys.keys ≡ c.args.self.now = c.self.view_is in
    c.get_index_of.ensures.index ∙ found_is (λ k. k.items) c.args.key.now c.self.inside.keys.keys
    ∙ ap (λ (names : List (List ℕ)). found_at names c.args.key.now) view
