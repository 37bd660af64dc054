use Rattle.std.proofs.Common.{◌≡◌, drop, map}
use Rattle.st_read.specs.Lexing.{entry_in}
use Rattle.st_read.proofs.lexing.first_sign.Given as goal

abbrev pub invariant-loop-sign : goal.invariant-loop-sign
invariant-loop-sign l = entry_in (map (λ s. (s.0.now, s.1)) l.signs) l.text ≡ entry_in (map (λ s. (s.0.now, s.1)) (drop l.sign-index l.signs)) l.text
