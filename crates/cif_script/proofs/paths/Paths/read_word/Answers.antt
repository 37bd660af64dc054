use Rattle.std.proofs.Common.{false, List, ◌∷◌, sym, ap, ◌∙◌}
use Rattle.std.specs.Prelude.{codes}
use Rattle.grammar.specs.Pieces.{Text}
use Rattle.cif_sim_model.specs.Script.{said}
use Rattle.cif_script.proofs.Saying.{literal_is, two_parts}
use Rattle.cif_script.proofs.paths.Paths.read_word.Goals as goal

pub returns-else-eq : goal.returns-else-eq
returns-else-eq c =
    two_parts c.args.self.now c.args.word.now c.first_part.result.0.now c.first_part.result.1 c.in_default.not-Some
    (literal_is c.args.word.now (codes "fire") c.as_slice.result.now false c.as_slice.ensures c.if-eq.ensures)
    ∙ ap (λ (ps : List Text). said c.args.self.now (c.args.word.now ∷ ps)) (sym c.first_part.ensures)
