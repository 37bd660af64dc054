use Rattle.std.proofs.Common.{◌≡◌, map, true, false, sym, ◌∙◌}
use Rattle.std.specs.Prelude.{is_some, nat_eq}
use Rattle.std.specs.Map.{lookup}
use Rattle.std.specs.Cmp.Lexicographic.{pointwise}
use Rattle.indexmap.proofs.CallerLemmas.{insert_entry-new}
use Rattle.cif_script.proofs.Finding.{row_inserted, row_kept, none_there}
use Rattle.cif_script.proofs.numbers.Numbers.add.Goals as goal

pub returns-in_ok-insert : goal.returns-in_ok-insert
returns-in_ok-insert c =
    let key = c.as_slice-key.result in
    let es = c.self.inside.by_path.entries in
    let view : map (λ e. (e.0.now, e.1)) es ≡ c.args.self.now = c.self.view_is in
    let new : is_some (lookup (λ k. pointwise nat_eq key.now k.now) es) ≡ false = sym c.if-not-contains_key.ensures in
    row_inserted es c.insert.new.self.entries c.args.self.now key c.args.path.now c.args.number view c.as_slice-key.ensures new
    (c.in_ok-insert.ensures.entries ∙ insert_entry-new _ c.self.inside.by_path key c.args.number (none_there _ new))

pub returns-else-not-contains_key : goal.returns-else-not-contains_key
returns-else-not-contains_key c =
    let key = c.as_slice-key.result in
    let es = c.self.inside.by_path.entries in
    let view : map (λ e. (e.0.now, e.1)) es ≡ c.args.self.now = c.self.view_is in
    let old : is_some (lookup (λ k. pointwise nat_eq key.now k.now) es) ≡ true = sym c.if-not-contains_key.ensures in
    row_kept es c.args.self.now key c.args.path.now c.args.number view c.as_slice-key.ensures old
