use Rattle.std.proofs.Common.{◌≡◌, ◌∙◌, ap, ℕ, List}
use Rattle.std.specs.Prelude.{map}
use Rattle.cif_scope.specs.Places.{slot_in}
use Rattle.cif_scope.proofs.KeyLaws.{slot-is}
use Rattle.cif_types_table.proofs.keys.Keys.place.Goals as goal

pub returns-clause-place : goal.returns-clause-place
returns-clause-place c =
    let view : map (λ k. k.items) c.self.inside.keys.keys ≡ c.args.self.now = c.self.view_is in
    c.get_index_of.ensures.index ∙ slot-is (λ k. k.items) c.as_slice.result.now c.self.inside.keys.keys
    ∙ ap (λ (names : List (List ℕ)). slot_in names c.as_slice.result.now) view ∙ ap (λ (x : List ℕ). slot_in c.args.self.now x) c.as_slice.ensures
