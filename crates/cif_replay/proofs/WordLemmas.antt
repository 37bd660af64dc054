-- The words of `replay`: that they ask for at most one thing.
use Rattle.std.proofs.Common.{◌≡◌, List, [], ◌∷◌, codes, sym, ap, ◌∙◌}
use Rattle.grammar.specs.Pieces.{Text}
use Rattle.cif_run.specs.Words.{command_word}
use Rattle.cif_replay.specs.Words.{Replay, IsReplay}

pub one_replay : (ws : List Text) (a b : Replay) → IsReplay ws a → IsReplay ws b → a ≡ b
one_replay [] a b h g = absurd h
one_replay (w ∷ []) a b h g = absurd h
one_replay (w ∷ s ∷ []) a b h g = absurd h
one_replay (w ∷ s ∷ t ∷ []) a b h g =
    ap (λ x. record { st = x; rows = a.rows }) (h.3 ∙ sym g.3) ∙ ap (λ x. record { st = b.st; rows = x }) (h.4 ∙ sym g.4)
one_replay (w ∷ s ∷ t ∷ x ∷ ws) a b h g = absurd h

pub replay_named : (ws : List Text) (r : Replay) → IsReplay ws r → command_word ws ≡ codes "replay"
replay_named [] r h = absurd h
replay_named (w ∷ []) r h = absurd h
replay_named (w ∷ s ∷ []) r h = absurd h
replay_named (w ∷ s ∷ t ∷ []) r h = h.0
replay_named (w ∷ s ∷ t ∷ x ∷ ws) r h = absurd h
