-- The words of `why`: that they ask for at most one thing.
use Rattle.std.proofs.Common.{◌≡◌, List, [], ◌∷◌, codes, sym, ap, ◌∙◌}
use Rattle.grammar.specs.Pieces.{Text}
use Rattle.cif_run.specs.Words.{command_word}
use Rattle.cif_why_command.specs.Words.{Why, IsWhy}

pub one_why : (ws : List Text) (a b : Why) → IsWhy ws a → IsWhy ws b → a ≡ b
one_why [] a b h g = absurd h
one_why (w ∷ []) a b h g = absurd h
one_why (w ∷ f ∷ []) a b h g = absurd h
one_why (w ∷ f ∷ s ∷ []) a b h g = absurd h
one_why (w ∷ f ∷ s ∷ e ∷ []) a b h g =
    ap (λ x. record { file = x; script = a.script; event = a.event }) (h.3 ∙ sym g.3)
    ∙ ap (λ x. record { file = b.file; script = x; event = a.event }) (h.4 ∙ sym g.4)
    ∙ ap (λ x. record { file = b.file; script = b.script; event = x }) (h.5 ∙ sym g.5)
one_why (w ∷ f ∷ s ∷ e ∷ x ∷ ws) a b h g = absurd h

pub why_named : (ws : List Text) (q : Why) → IsWhy ws q → command_word ws ≡ codes "why"
why_named [] q h = absurd h
why_named (w ∷ []) q h = absurd h
why_named (w ∷ f ∷ []) q h = absurd h
why_named (w ∷ f ∷ s ∷ []) q h = absurd h
why_named (w ∷ f ∷ s ∷ e ∷ []) q h = h.0
why_named (w ∷ f ∷ s ∷ e ∷ x ∷ ws) q h = absurd h
