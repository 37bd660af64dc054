use Rattle.std.proofs.Common.{◌≡◌, ◌++◌, map, drop}
use Rattle.cif_refusal.specs.Texts as texts
use Rattle.cif_refusal.proofs.texts.joined.Given as goal

abbrev pub invariant-loop-part : goal.invariant-loop-part
invariant-loop-part l = l.text ++ texts.joined (map (λ p. p.now) (drop l.part-index l.parts)) ≡ texts.joined (map (λ p. p.now) l.parts)
