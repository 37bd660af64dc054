use Rattle.std.proofs.Common.{◌≡◌, ◌∙◌, ap, [], ◌∷◌, ◌++◌, not, if◌then◌else◌, ℕ, List}
use Rattle.std.specs.Prelude.{map}
use Rattle.st_check.specs.Keys.{is_among}
use Rattle.grammar.proofs.Keys.{among_is, keys_after}
use Rattle.st_check.proofs.names.Names.add.Goals as goal

pub returns-clause-new : goal.returns-clause-new
returns-clause-new c =
    let view : map (λ k. k.items) c.self.inside.keys.keys ≡ c.args.self.now = c.self.view_is in
    c.in_ok-insert.ensures.added ∙ ap not (among_is (λ k. k.items) c.in_ok-key.field-0.items c.self.inside.keys.keys
    ∙ ap (λ (names : List (List ℕ)). is_among names c.in_ok-key.field-0.items) view ∙ ap (λ (x : List ℕ). is_among c.args.self.now x) c.in_ok-key.ensures)

pub returns-clause-names : goal.returns-clause-names
returns-clause-names c =
    let view : map (λ k. k.items) c.self.inside.keys.keys ≡ c.args.self.now = c.self.view_is in
    keys_after (λ k. k.items) c.self.inside.keys.keys c.in_ok-key.field-0 c.insert.new.self.keys c.in_ok-insert.ensures.keys
    ∙ ap (λ (names : List (List ℕ)). if is_among names c.in_ok-key.field-0.items then names else names ++ c.in_ok-key.field-0.items ∷ []) view
    ∙ ap (λ (x : List ℕ). if is_among c.args.self.now x then c.args.self.now else c.args.self.now ++ x ∷ []) c.in_ok-key.ensures
