use Rattle.std.proofs.Common.{◌≡◌, ◌∙◌, ap, [], ◌∷◌, ◌++◌, None, ℕ, List}
use Rattle.std.specs.Prelude.{map}
use Rattle.cif_scope.specs.Places.{slot_in}
use Rattle.cif_scope.proofs.KeyLaws.{added-is}
use Rattle.cif_types_table.proofs.keys.Keys.add.Goals as goal

pub returns : goal.returns
returns c =
    let key : c.into_vec.result.items ≡ c.args.key = c.into_vec.ensures in
    let view : map (λ k. k.items) c.self.inside.keys.keys ≡ c.args.self.now = c.self.view_is in
    let new : slot_in (map (λ k. k.items) c.self.inside.keys.keys) c.into_vec.result.items ≡ None =
    ap (λ (ns : List (List ℕ)). slot_in ns c.into_vec.result.items) view ∙ ap (λ (x : List ℕ). slot_in c.args.self.now x) key ∙ c.requires in
    added-is (λ k. k.items) c.self.inside.keys.keys c.into_vec.result c.insert.new.self.keys c.in_ok-insert.ensures.keys new
    ∙ ap (λ (ns : List (List ℕ)). ns ++ c.into_vec.result.items ∷ []) view ∙ ap (λ (x : List ℕ). c.args.self.now ++ x ∷ []) key
