use Rattle.std.proofs.Common.{◌≡◌, List, map, ◌∙◌, ap}
use Rattle.cif_script.specs.Numbers.{Numbered, number_at}
use Rattle.cif_script.proofs.Finding.{table_finds}
use Rattle.cif_script.proofs.numbers.Numbers.number.Goals as goal

pub returns : goal.returns
returns c =
    let view : map (λ e. (e.0.now, e.1)) c.self.inside.by_path.entries ≡ c.args.self.now = c.self.view_is in
    c.copied.ensures ∙ c.get.ensures.value ∙ table_finds c.self.inside.by_path.entries c.args.path.now ∙ ap (λ (es : List Numbered). number_at es c.args.path.now) view
