use Rattle.std.proofs.Common.{◌≡◌, drop}
use Rattle.grammar.specs.Lang.{has}
use Rattle.cif_parse_expr.specs.TokenKinds.{code, codes_of}
use Rattle.cif_parse_expr.proofs.tokens.has.Given as goal

abbrev pub invariant-loop-one : goal.invariant-loop-one
invariant-loop-one l = has (codes_of l.among) (code l.kind) ≡ has (codes_of (drop l.one-index l.among)) (code l.kind)
