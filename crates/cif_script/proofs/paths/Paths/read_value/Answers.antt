use Rattle.std.proofs.Common.{false, List, ◌∷◌, sym, ap, ◌∙◌}
use Rattle.std.specs.Prelude.{codes}
use Rattle.grammar.specs.Pieces.{Text}
use Rattle.cif_sim_model.specs.Script.{said}
use Rattle.cif_script.proofs.Saying.{literal_is, three_parts, more_parts}
use Rattle.cif_script.proofs.paths.Paths.read_value.Goals.{else-is_none-via-then-is_none+else-eq, else-is_none-via-else-is_none}
use Rattle.cif_script.proofs.paths.Paths.read_value.Goals as goal

pub returns-else-is_none : goal.returns-else-is_none
returns-else-is_none c =
    (elim c.else-is_none.branch [
      | else-is_none-via-then-is_none+else-eq w ↦ three_parts c.args.self.now c.args.word.now c.args.name.now c.first_part.result.0.now c.first_part.result.1 w.if-is_none.ensures
          (literal_is c.args.word.now (codes "set") w.as_slice.result.now false w.as_slice.ensures w.if-eq.ensures)
      | else-is_none-via-else-is_none w ↦ more_parts c.args.self.now c.args.word.now c.args.name.now c.first_part.result.0.now c.first_part.result.1 w.if-is_none.ensures
    ])
    ∙ ap (λ (ps : List Text). said c.args.self.now (c.args.word.now ∷ c.args.name.now ∷ ps)) (sym c.first_part.ensures)
