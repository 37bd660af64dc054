-- The words of `check`: that they ask for at most one thing.
use Rattle.std.proofs.Common.{◌≡◌, List, [], ◌∷◌, codes, sym, ap, ◌∙◌}
use Rattle.grammar.specs.Pieces.{Text}
use Rattle.cif_run.specs.Words.{command_word}
use Rattle.cif_check.specs.Words.{Check, IsCheck}

pub one_check : (ws : List Text) (a b : Check) → IsCheck ws a → IsCheck ws b → a ≡ b
one_check [] a b h g = absurd h
one_check (w ∷ []) a b h g = absurd h
one_check (w ∷ f ∷ []) a b h g = ap (λ x. record { file = x }) (h.2 ∙ sym g.2)
one_check (w ∷ f ∷ x ∷ ws) a b h g = absurd h

pub check_named : (ws : List Text) (k : Check) → IsCheck ws k → command_word ws ≡ codes "check"
check_named [] k h = absurd h
check_named (w ∷ []) k h = absurd h
check_named (w ∷ f ∷ []) k h = h.0
check_named (w ∷ f ∷ x ∷ ws) k h = absurd h
