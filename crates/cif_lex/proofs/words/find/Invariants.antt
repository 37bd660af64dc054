use Rattle.std.proofs.Common.{◌≡◌, drop, map}
use Rattle.cif_lex.specs.Tokens.{find_text}
use Rattle.cif_lex.proofs.words.find.Given as goal

abbrev pub invariant-loop-letters : goal.invariant-loop-letters
invariant-loop-letters l = find_text (map (λ e. (e.0.now, e.1)) l.table) l.text ≡ find_text (map (λ e. (e.0.now, e.1)) (drop l.letters-index l.table)) l.text
