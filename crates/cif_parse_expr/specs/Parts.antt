-- Helper of the code: readers of parts that stand one after the other.
use Rattle.std.specs.Prelude.{List}
use Rattle.grammar.specs.Lang.{flat}
use Rattle.grammar.specs.Reader.{Reader, map_at, many_at}
use Rattle.grammar.specs.Pieces.{Text}
use Rattle.cif_lex.specs.declared.token.Token.{Token}
use Rattle.cif_lex.specs.declared.token.TokenKind.{TokenKind}
use Rattle.cif_lex.specs.declared.token.Mark.{Mark}
use Rattle.cif_lex.specs.declared.token.Mark.TheVariants as m
use Rattle.cif_ast.specs.declared.names.Ident.{Ident}
use Rattle.cif_ast.specs.declared.names.Name.{Name}
use Rattle.cif_ast.specs.declared.expressions.Expr.{Expr}
use Rattle.cif_parse_expr.specs.TokenKinds.{sort, codes_of}
use Rattle.cif_parse_expr.specs.Reading.{separated_at, ident_at, name_at, expr_at}

-- lists that begin with these kinds of token, as one list
unfoldable pub joined_at : {A : Type 0} → List TokenKind → Reader Token (List A) → Reader Token (List A)
joined_at kinds r = map_at flat (many_at sort (codes_of kinds) r)

-- lists with a sign between them, as one list
unfoldable pub joined_list_at : {A : Type 0} → Mark → Reader Token (List A) → Reader Token (List A)
joined_list_at mark r = map_at flat (separated_at mark r)

unfoldable pub ids_at : Text → Reader Token (List Ident)
ids_at text = separated_at m.Comma (ident_at text)

unfoldable pub names_at : Text → Reader Token (List Name)
names_at text = separated_at m.Comma (name_at text)

unfoldable pub expr_list_at : Text → Reader Token (List Expr)
expr_list_at text = separated_at m.Comma (expr_at text)
