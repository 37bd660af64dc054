-- The laws of parts with a sign between them.
use Rattle.std.proofs.Common.{◌≡◌, ℕ, true, false, List, [], ◌∷◌, ◌++◌, refl}
use Rattle.grammar.specs.Pieces.{Text}
use Rattle.grammar.specs.Lang.{Lang}
use Rattle.grammar.specs.Reader.{Reader}
use Rattle.grammar.specs.Sets.{apart, covers}
use Rattle.grammar.proofs.Laws.{Takes}
use Rattle.grammar.proofs.Plain.{one_takes, map_takes, both_takes, list_takes, wider}
use Rattle.cif_lex.specs.declared.token.Token.{Token}
use Rattle.cif_lex.specs.declared.token.TokenKind.TheVariants.{Id, Sign}
use Rattle.cif_lex.specs.declared.token.Mark.{Mark}
use Rattle.cif_lex.specs.declared.token.Mark.TheVariants as m
use Rattle.cif_parse_expr.specs.TokenKinds.{sort, codes_of}
use Rattle.cif_parse_expr.specs.Trees as tree
use Rattle.cif_parse_expr.specs.Grammar.{separated, ids, names, expr_list}
use Rattle.cif_parse_expr.specs.Reading.{first, first_sign, after_sign_at, separated_at}
use Rattle.cif_parse_expr.specs.Parts.{ids_at, names_at, expr_list_at}
use Rattle.cif_parse_expr.proofs.Agrees.{un_first, un_goes, expr_goes, ident_takes, name_takes}
use Rattle.cif_parse_expr.proofs.Whole.{expr_takes}

-- The conditions are on sets alone, and hold by computation where these are given.
pub separated_takes : {A : Type 0} {first goes_on : List ℕ} {p : Lang Token A} {r : Reader Token A} (mark : Mark) (first_2 goes_2 : List ℕ)
    → apart first [] ≡ true → apart (first_sign mark) goes_on ≡ true → apart (first_sign mark) (goes_on ++ []) ≡ true
    → covers first_2 (first ++ []) ≡ true → covers goes_2 ((first_sign mark ++ (goes_on ++ [])) ++ goes_on) ≡ true
    → Takes sort false first goes_on p r → Takes sort false first_2 goes_2 (separated mark p) (separated_at mark r)
unfolding separated_at after_sign_at
separated_takes mark first_2 goes_2 a b c d e h =
    wider first_2 goes_2 d e (list_takes h b c (map_takes tree.second (both_takes (one_takes sort (first_sign mark)) a h)))

pub ids_takes : (text : Text) → Takes sort false (first Id) (first_sign m.Comma) (ids text) (ids_at text)
unfolding ids_at
ids_takes text = separated_takes m.Comma (first Id) (first_sign m.Comma) refl refl refl refl refl (ident_takes text)

pub names_takes : (text : Text) → Takes sort false (codes_of (Sign m.Dot ∷ Id ∷ [])) (first_sign m.Comma ++ un_goes) (names text) (names_at text)
unfolding names_at
names_takes text = separated_takes m.Comma (codes_of (Sign m.Dot ∷ Id ∷ [])) (first_sign m.Comma ++ un_goes) refl refl refl refl refl (name_takes text)

pub expr_list_takes : (text : Text) → Takes sort false un_first (first_sign m.Comma ++ expr_goes) (expr_list text) (expr_list_at text)
unfolding expr_list_at
expr_list_takes text = separated_takes m.Comma un_first (first_sign m.Comma ++ expr_goes) refl refl refl refl refl (expr_takes text)
