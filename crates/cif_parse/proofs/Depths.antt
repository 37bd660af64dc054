-- Readers that don't ask how deep they are where nothing nests.
use Rattle.std.proofs.Common.{◌≡◌, ℕ, zero, suc, List, true, false, map, None, refl}
use Rattle.grammar.specs.Pieces.{Text}
use Rattle.grammar.specs.Reader.{map_at, starts}
use Rattle.cif_lex.specs.declared.token.Token.{Token}
use Rattle.cif_lex.specs.declared.token.TokenKind.TheVariants.{Id}
use Rattle.cif_ast.specs.declared.components.Item.TheVariants as item
use Rattle.cif_parse_expr.specs.TokenKinds.{sort}
use Rattle.cif_parse_expr.specs.Reading.{first}
use Rattle.cif_parse_decl.specs.Trees.{single}
use Rattle.cif_parse_decl.specs.Reading.{plain_first, is_component, plain_declaration_at, kind_invariants_at}
use Rattle.cif_parse.specs.Reading.{name_first, set_at, choice_at, update_at, one_update_at, updates_at, instance_at, item_over, item_at}

pub set_read : (text : Text) (n : ℕ) (ts : List Token) → starts sort name_first ts ≡ true → one_update_at text n ts ≡ set_at text ts
unfolding one_update_at update_at
set_read text zero ts e = rw e refl
set_read text (suc n) ts e = rw e refl

pub choice_read : (text : Text) (n k : ℕ) (ts : List Token) → n ≡ suc k → starts sort name_first ts ≡ false → one_update_at text n ts ≡ choice_at text (updates_at text k) ts
unfolding one_update_at update_at updates_at
choice_read text n k ts is e = rw (is, e) refl

pub no_choice_read : (text : Text) (n : ℕ) (ts : List Token) → n ≡ 0 → starts sort name_first ts ≡ false → one_update_at text n ts ≡ None
unfolding one_update_at update_at
no_choice_read text n ts is e = rw (is, e) refl

pub plain_read : (text : Text) (n : ℕ) (ts : List Token) → starts sort plain_first ts ≡ true → item_at text n ts ≡ map_at (map item.Decl) (plain_declaration_at text) ts
unfolding item_at item_over
plain_read text zero ts e = rw e refl
plain_read text (suc n) ts e = rw e refl

pub instance_read : (text : Text) (n : ℕ) (ts : List Token) → starts sort plain_first ts ≡ false → starts sort (first Id) ts ≡ true → item_at text n ts ≡ map_at single (instance_at text) ts
unfolding item_at item_over
instance_read text zero ts d e = rw (d, e) refl
instance_read text (suc n) ts d e = rw (d, e) refl

pub kind_read : (text : Text) (n : ℕ) (ts : List Token) → starts sort plain_first ts ≡ false → starts sort (first Id) ts ≡ false → is_component ts ≡ false
    → item_at text n ts ≡ map_at (map item.Decl) (kind_invariants_at text) ts
unfolding item_at item_over
kind_read text zero ts d e f = rw (d, e, f) refl
kind_read text (suc n) ts d e f = rw (d, e, f) refl

pub no_nested_read : (text : Text) (n : ℕ) (ts : List Token) → n ≡ 0 → starts sort plain_first ts ≡ false → starts sort (first Id) ts ≡ false
    → is_component ts ≡ true → item_at text n ts ≡ None
unfolding item_at item_over
no_nested_read text n ts is d e f = rw (is, d, e, f) refl
