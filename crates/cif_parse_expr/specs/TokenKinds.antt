-- The kinds of token by their numbers, and the languages of one token.
use Rattle.std.specs.Prelude.{ℕ, ◌+◌, List, [], ◌∷◌}
use Rattle.grammar.specs.Lang.{Lang, one}
use Rattle.cif_lex.specs.declared.token.Token.{Token}
use Rattle.cif_lex.specs.declared.token.TokenKind.{TokenKind}
use Rattle.cif_lex.specs.declared.token.TokenKind.TheVariants.{Id, Reserved, Number, Sign}
use Rattle.cif_lex.specs.declared.token.Word.{Word}
use Rattle.cif_lex.specs.declared.token.Word.TheVariants as w
use Rattle.cif_lex.specs.declared.token.Mark.{Mark}
use Rattle.cif_lex.specs.declared.token.Mark.TheVariants as m

abbrev pub mark_code : Mark → ℕ
mark_code m.Dot = 0
mark_code m.Range = 1
mark_code m.Comma = 2
mark_code m.Semicolon = 3
mark_code m.Colon = 4
mark_code m.Assign = 5
mark_code m.OpenParen = 6
mark_code m.CloseParen = 7
mark_code m.OpenBracket = 8
mark_code m.CloseBracket = 9
mark_code m.OpenBrace = 10
mark_code m.CloseBrace = 11
mark_code m.Plus = 12
mark_code m.Minus = 13
mark_code m.Star = 14
mark_code m.Equal = 15
mark_code m.NotEqual = 16
mark_code m.Less = 17
mark_code m.LessEqual = 18
mark_code m.Greater = 19
mark_code m.GreaterEqual = 20
mark_code m.Implies = 21
mark_code m.Iff = 22
mark_code m.Exclamation = 23
mark_code m.Question = 24

abbrev pub word_code : Word → ℕ
word_code w.Abs = 0
word_code w.Alg = 1
word_code w.Alphabet = 2
word_code w.And = 3
word_code w.Automaton = 4
word_code w.Bool = 5
word_code w.Const = 6
word_code w.Controllable = 7
word_code w.Def = 8
word_code w.Disables = 9
word_code w.Disc = 10
word_code w.Div = 11
word_code w.«Do» = 12
word_code w.Edge = 13
word_code w.Elif = 14
word_code w.Else = 15
word_code w.End = 16
word_code w.Enum = 17
word_code w.Equation = 18
word_code w.Event = 19
word_code w.False = 20
word_code w.Goto = 21
word_code w.Group = 22
word_code w.If = 23
word_code w.Initial = 24
word_code w.Input = 25
word_code w.Int = 26
word_code w.Invariant = 27
word_code w.Location = 28
word_code w.Marked = 29
word_code w.Max = 30
word_code w.Min = 31
word_code w.Mod = 32
word_code w.Monitor = 33
word_code w.Needs = 34
word_code w.Not = 35
word_code w.Or = 36
word_code w.Plant = 37
word_code w.Requirement = 38
word_code w.Supervisor = 39
word_code w.True = 40
word_code w.«Type» = 41
word_code w.Uncontrollable = 42
word_code w.Void = 43
word_code w.When = 44
word_code w.Unused = 45

abbrev pub code : TokenKind → ℕ
code Id = 0
code Number = 1
code (Sign mark) = 2 + mark_code mark
code (Reserved name) = 27 + word_code name

abbrev pub sort : Token → ℕ
sort t = code t.kind

abbrev pub codes_of : List TokenKind → List ℕ
codes_of [] = []
codes_of (kind ∷ kinds) = code kind ∷ codes_of kinds

-- a token of one of these kinds
abbrev pub any_of : List TokenKind → Lang Token Token
any_of kinds = one sort (codes_of kinds)

-- a token of this kind
abbrev pub kind : TokenKind → Lang Token Token
kind k = any_of (k ∷ [])

-- this reserved word
abbrev pub word : Word → Lang Token Token
word name = kind (Reserved name)

-- this sign
abbrev pub sign : Mark → Lang Token Token
sign mark = kind (Sign mark)
