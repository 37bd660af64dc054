-- An expression at the front, at most so deep, is what the grammar derives there.
use Rattle.std.proofs.Common.{◌+◌, ◌≤◌, ◌<◌, false, arith}
use Rattle.grammar.specs.Pieces.{Text}
use Rattle.grammar.proofs.Laws.{Takes}
use Rattle.grammar.proofs.Depth.{Nests, whole_takes}
use Rattle.cif_parse_expr.specs.TokenKinds.{sort}
use Rattle.cif_parse_expr.specs.Grammar.{expr, below, max_depth, IsExpr}
use Rattle.cif_parse_expr.specs.Reading.{un_at, expr_from, expr_at}
use Rattle.cif_parse_expr.proofs.Agrees.{un_first, expr_goes, un_at_nests, expr_nests}

expr_law : (text : Text) → Nests sort max_depth 101 false un_first expr_goes (λ n. expr text (below text n)) (expr_from (un_at text 101))
expr_law text = let c : 101 ≤ max_depth + 1 = omega arith in expr_nests text 101 c (un_at text 101) (un_at_nests text 101 c)

pub expr_takes : (text : Text) → Takes sort false un_first expr_goes (IsExpr text) (expr_at text)
unfolding IsExpr expr_at
expr_takes text = let c : max_depth < 101 = omega arith in whole_takes c (expr_law text)
