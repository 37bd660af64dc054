use Rattle.std.proofs.Common.{◌≡◌, drop}
use Rattle.grammar.specs.Lang.{has}
use Rattle.st_ast.specs.Grammar.{code}
use Rattle.st_read.specs.Reading.{codes_of}
use Rattle.st_read.proofs.tokens.has.Given as goal

abbrev pub invariant-loop-one : goal.invariant-loop-one
invariant-loop-one l = has (codes_of l.among) (code l.kind) ≡ has (codes_of (drop l.one-index l.among)) (code l.kind)
