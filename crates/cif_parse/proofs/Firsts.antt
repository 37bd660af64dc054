-- What begins an item or stands before the locations of an automaton, declarations apart.
use Rattle.std.proofs.Common.{◌≡◌, ◌==◌, ℕ, List, [], ◌∷◌, ◌++◌, Bool, true, false, ◌||◌, refl}
use Rattle.grammar.specs.Lang.{has}
use Rattle.grammar.specs.Reader.{starts}
use Rattle.cif_lex.specs.declared.token.Token.{Token}
use Rattle.cif_lex.specs.declared.token.TokenKind.TheVariants.{Id, Reserved}
use Rattle.cif_lex.specs.declared.token.Word.TheVariants as w
use Rattle.cif_parse_expr.specs.TokenKinds.{sort, codes_of}
use Rattle.cif_parse_decl.specs.Reading.{plain_first}
use Rattle.cif_parse.specs.Reading.{item_first, body_element_first}

has-append : (ks js : List ℕ) (k : ℕ) → has (ks ++ js) k ≡ (has ks k || has js k)
has-append [] js k = refl
has-append (j ∷ ks) js k = go (j == k) (has-append ks js k)
  where
    go : (b : Bool) → has (ks ++ js) k ≡ (has ks k || has js k) → (b || has (ks ++ js) k) ≡ ((b || has ks k) || has js k)
    go true e = refl
    go false e = e

starts-append : (ks js : List ℕ) (ts : List Token) → starts sort (ks ++ js) ts ≡ (starts sort ks ts || starts sort js ts)
starts-append ks js [] = refl
starts-append ks js (t ∷ ts) = has-append ks js (sort t)

pub item_begins : (ts : List Token) → starts sort item_first ts
    ≡ (starts sort plain_first ts || starts sort (codes_of (Id ∷ Reserved w.Group ∷ Reserved w.Automaton ∷ Reserved w.Plant ∷ Reserved w.Requirement ∷ Reserved w.Supervisor ∷ [])) ts)
item_begins ts = starts-append plain_first (codes_of (Id ∷ Reserved w.Group ∷ Reserved w.Automaton ∷ Reserved w.Plant ∷ Reserved w.Requirement ∷ Reserved w.Supervisor ∷ [])) ts

pub body_element_begins : (ts : List Token) → starts sort body_element_first ts
    ≡ (starts sort plain_first ts || starts sort (codes_of (Reserved w.Plant ∷ Reserved w.Requirement ∷ Reserved w.Supervisor ∷ Reserved w.Disc ∷ Reserved w.Alphabet ∷ Reserved w.Monitor ∷ [])) ts)
body_element_begins ts = starts-append plain_first (codes_of (Reserved w.Plant ∷ Reserved w.Requirement ∷ Reserved w.Supervisor ∷ Reserved w.Disc ∷ Reserved w.Alphabet ∷ Reserved w.Monitor ∷ [])) ts
