-- The words of `batch`: that they ask for at most one thing.
use Rattle.std.proofs.Common.{◌≡◌, List, [], ◌∷◌, codes, sym, ap, ◌∙◌}
use Rattle.grammar.specs.Pieces.{Text}
use Rattle.cif_run.specs.Words.{command_word}
use Rattle.cif_batch_command.specs.Words.{Batch, IsBatch}

pub one_batch : (ws : List Text) (a b : Batch) → IsBatch ws a → IsBatch ws b → a ≡ b
one_batch [] a b h g = absurd h
one_batch (w ∷ []) a b h g = absurd h
one_batch (w ∷ s ∷ []) a b h g = absurd h
one_batch (w ∷ s ∷ t ∷ []) a b h g =
    ap (λ x. record { st = x; cases = a.cases }) (h.3 ∙ sym g.3) ∙ ap (λ x. record { st = b.st; cases = x }) (h.4 ∙ sym g.4)
one_batch (w ∷ s ∷ t ∷ x ∷ ws) a b h g = absurd h

pub batch_named : (ws : List Text) (r : Batch) → IsBatch ws r → command_word ws ≡ codes "batch"
batch_named [] r h = absurd h
batch_named (w ∷ []) r h = absurd h
batch_named (w ∷ s ∷ []) r h = absurd h
batch_named (w ∷ s ∷ t ∷ []) r h = h.0
batch_named (w ∷ s ∷ t ∷ x ∷ ws) r h = absurd h
