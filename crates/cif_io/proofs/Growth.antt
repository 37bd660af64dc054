-- What is told after two pieces.
use Rattle.std.proofs.Common.{◌≡◌, ℕ, ◌+◌, List, ◌++◌, Option, None, Some, length, length-drop, ◌-◌, take, drop, refl, sym, ◌∙◌, ap, append_assoc, arith}
use Rattle.std.proofs.lemmas.List.{take_all}
use Rattle.std.proofs.Math.Seq.{take-add}
use Rattle.cif_io.specs.Written.{grown}

-- two pieces, one after the other, are one longer piece
pub grown-grown : (told : Option (List ℕ)) (a b : List ℕ) → grown (grown told a) b ≡ grown told (a ++ b)
grown-grown None a b = refl
grown-grown (Some w) a b = ap Some (append_assoc w a b)

-- after the first i bytes of a text, and then n more of the rest of it
pub grown-next : (before now after : Option (List ℕ)) (text : List ℕ) (i n : ℕ)
    → now ≡ grown before (take i text) → after ≡ grown now (take n (take (length text - i) (drop i text)))
    → after ≡ grown before (take (i + n) text)
grown-next before now after text i n so_far step =
    let rest : take (length text - i) (drop i text) ≡ drop i text = take_all (length text - i) (drop i text) (grind (arith, length-drop)) in
    step ∙ ap (λ told. grown told (take n (take (length text - i) (drop i text)))) so_far
    ∙ ap (λ piece. grown (grown before (take i text)) (take n piece)) rest
    ∙ grown-grown before (take i text) (take n (drop i text))
    ∙ ap (λ piece. grown before piece) (sym (take-add i n text))
