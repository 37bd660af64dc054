use Rattle.std.proofs.Common.{◌≡◌, drop, map}
use Rattle.st_ast.specs.Tokens.{in_table}
use Rattle.st_read.specs.Lexing.{name_kind}
use Rattle.st_read.proofs.words.in_table.Given as goal

abbrev pub invariant-loop-name : goal.invariant-loop-name
invariant-loop-name l =
    in_table (map (λ p. (p.0.now, p.1)) l.table) l.word (name_kind l.word) ≡ in_table (map (λ p. (p.0.now, p.1)) (drop l.name-index l.table)) l.word (name_kind l.word)
