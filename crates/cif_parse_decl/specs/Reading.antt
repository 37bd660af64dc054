-- Helper of the code: reading types, declarations and parameters.
use Rattle.std.specs.Prelude.{ℕ, Bool, false, not, ◌&&◌, ◌||◌, List, [], ◌∷◌, Option, Some, None}
use Rattle.grammar.specs.Pieces.{Text}
use Rattle.grammar.specs.Lang.{flat}
use Rattle.grammar.specs.Reader.{Read, Reader, both_at, map_at, either_at, when_at, optional_at, bind_at, starts}
use Rattle.cif_lex.specs.declared.token.Token.{Token}
use Rattle.cif_lex.specs.declared.token.TokenKind.TheVariants.{Id, Reserved, Sign}
use Rattle.cif_lex.specs.declared.token.Word.TheVariants as w
use Rattle.cif_lex.specs.declared.token.Mark.TheVariants as m
use Rattle.cif_ast.specs.declared.names.Ident.{Ident}
use Rattle.cif_ast.specs.declared.names.Name.{Name}
use Rattle.cif_ast.specs.declared.expressions.Expr.{Expr}
use Rattle.cif_ast.specs.declared.declarations.Class.{Class}
use Rattle.cif_ast.specs.declared.declarations.Chan.{Chan}
use Rattle.cif_ast.specs.declared.declarations.Chan.TheVariants as chan
use Rattle.cif_ast.specs.declared.declarations.TypeUse.{TypeUse}
use Rattle.cif_ast.specs.declared.declarations.TypeUse.TheVariants as type
use Rattle.cif_ast.specs.declared.declarations.Decl.{Decl}
use Rattle.cif_ast.specs.declared.declarations.Decl.TheVariants as decl
use Rattle.cif_ast.specs.declared.declarations.Inv.{Inv}
use Rattle.cif_ast.specs.declared.declarations.Param.{Param}
use Rattle.cif_parse_expr.specs.TokenKinds.{sort, codes_of}
use Rattle.cif_parse_expr.specs.Trees.{second, middle}
use Rattle.cif_parse_expr.specs.Reading.{any_at, word_at, sign_at, first, first_word, first_sign, ident_at, name_at, expr_at, separated_at}
use Rattle.cif_parse_expr.specs.Parts.{ids_at, names_at}
use Rattle.cif_parse_decl.specs.Trees as tree

unfoldable pub event_word_at : Reader Token Class
event_word_at = map_at tree.class_of (any_at (Reserved w.Event ∷ Reserved w.Controllable ∷ Reserved w.Uncontrollable ∷ []))

unfoldable pub kind_at : Reader Token Token
kind_at = any_at (Reserved w.Plant ∷ Reserved w.Requirement ∷ Reserved w.Supervisor ∷ [])

-- ---- tests of what comes next

-- an identifier, and then no identifier and no dot
unfoldable pub is_bare : List Token → Bool
is_bare [] = false
is_bare (t ∷ ts) = starts sort (first Id) (t ∷ []) && not (starts sort (codes_of (Id ∷ Sign m.Dot ∷ [])) ts)

-- an identifier and a colon
unfoldable pub is_labelled : List Token → Bool
is_labelled [] = false
is_labelled (t ∷ ts) = starts sort (first Id) (t ∷ []) && starts sort (first_sign m.Colon) ts

-- Whether what begins with a word of a component is one, where a kind may also begin invariants: `automaton`, or that
-- word before `automaton`, before `def`, or before an identifier and a colon.
unfoldable pub is_component : List Token → Bool
is_component [] = false
is_component (t ∷ ts) = starts sort (first_word w.Automaton) (t ∷ []) || (starts sort (codes_of (Reserved w.Automaton ∷ Reserved w.Def ∷ [])) ts || is_labelled ts)

-- whether what is read leaves a token of these kinds
abbrev pub leaves : {A : Type 0} → List ℕ → Read Token A → Bool
leaves ks None = false
leaves ks (Some p) = starts sort ks p.1

-- ---- what declarations and parameters begin with

abbrev pub type_first : List ℕ
type_first = codes_of (Reserved w.Bool ∷ Reserved w.Int ∷ Sign m.Dot ∷ Id ∷ [])

abbrev pub class_first : List ℕ
class_first = codes_of (Reserved w.Event ∷ Reserved w.Controllable ∷ Reserved w.Uncontrollable ∷ [])

abbrev pub kind_first : List ℕ
kind_first = codes_of (Reserved w.Plant ∷ Reserved w.Requirement ∷ Reserved w.Supervisor ∷ [])

abbrev pub plain_first : List ℕ
plain_first = codes_of (Reserved w.«Type» ∷ Reserved w.Enum ∷ Reserved w.Event ∷ Reserved w.Controllable ∷ Reserved w.Uncontrollable ∷ Reserved w.Const
    ∷ Reserved w.Alg ∷ Reserved w.Input ∷ Reserved w.Equation ∷ Reserved w.Invariant ∷ Reserved w.Marked ∷ [])

abbrev pub parameter_first : List ℕ
parameter_first = codes_of (Reserved w.Event ∷ Reserved w.Controllable ∷ Reserved w.Uncontrollable ∷ Reserved w.Alg ∷ Reserved w.Location ∷ [])

module _ (text : Text) where
  -- ---- types

  unfoldable pub bounds_at : Reader Token (Expr × Expr)
  bounds_at = map_at tree.bounds (both_at (sign_at m.OpenBracket) (both_at (expr_at text) (both_at (sign_at m.Range) (both_at (expr_at text) (sign_at m.CloseBracket)))))

  unfoldable pub integer_at : Reader Token TypeUse
  integer_at = map_at (λ v. tree.integer v.1) (both_at (word_at w.Int) (optional_at sort (first_sign m.OpenBracket) bounds_at))

  unfoldable pub type_at : Reader Token TypeUse
  type_at = either_at sort (first_word w.Bool) (map_at (λ t. type.Bool) (word_at w.Bool)) (either_at sort (first_word w.Int) integer_at (map_at type.Named (name_at text)))

  unfoldable pub channel_at : Reader Token Chan
  channel_at = either_at sort type_first (map_at chan.Of type_at) (map_at (λ t. chan.Void) (word_at w.Void))

  unfoldable pub typed_at : {A : Type 0} → (TypeUse → Reader Token A) → Reader Token (List A)
  typed_at r = bind_at type_at (λ ty. separated_at m.Comma (r ty))

  -- names that are made into something
  unfoldable pub made_at : {A : Type 0} → (Ident → A) → Reader Token A
  made_at make = map_at make (ident_at text)

  unfoldable pub channelled_at : {A : Type 0} → (Chan → Ident → A) → Reader Token (List A)
  channelled_at make = when_at (λ ts. not (is_bare ts)) (bind_at channel_at (λ c. separated_at m.Comma (made_at (make c)))) (separated_at m.Comma (made_at (make chan.No)))

  unfoldable pub classed_at : {A : Type 0} → (Class → Chan → Ident → A) → Reader Token (List A)
  classed_at make = bind_at event_word_at (λ k. channelled_at (make k))

  -- ---- declarations

  unfoldable pub valued_at : Reader Token (Ident × (Token × Expr))
  valued_at = both_at (ident_at text) (both_at (sign_at m.Equal) (expr_at text))

  -- after a name
  unfoldable pub value_at : Reader Token Expr
  value_at = map_at second (both_at (sign_at m.Equal) (expr_at text))

  unfoldable pub perhaps_valued_at : Reader Token (Ident × Option Expr)
  perhaps_valued_at = both_at (ident_at text) (optional_at sort (first_sign m.Equal) value_at)

  unfoldable pub named_type_at : Reader Token Decl
  named_type_at = map_at tree.named_type (both_at (ident_at text) (both_at (sign_at m.Equal) type_at))

  unfoldable pub constant_at : TypeUse → Reader Token Decl
  constant_at ty = map_at (tree.constant ty) valued_at

  unfoldable pub algebraic_at : TypeUse → Reader Token Decl
  algebraic_at ty = map_at (tree.algebraic ty) perhaps_valued_at

  unfoldable pub discrete_at : TypeUse → Reader Token Decl
  discrete_at ty = map_at (tree.discrete ty) perhaps_valued_at

  unfoldable pub marking_at : Reader Token Decl
  marking_at = map_at decl.Marked (expr_at text)

  unfoldable pub type_declaration_at : Reader Token (List Decl)
  type_declaration_at = map_at middle (both_at (word_at w.«Type») (both_at (separated_at m.Comma named_type_at) (sign_at m.Semicolon)))

  unfoldable pub enum_declaration_at : Reader Token (List Decl)
  enum_declaration_at = map_at (λ v. tree.single (tree.enumeration v)) (both_at (word_at w.Enum) (both_at (ident_at text) (both_at (sign_at m.Equal) (both_at (ids_at text) (sign_at m.Semicolon)))))

  unfoldable pub event_declaration_at : Reader Token (List Decl)
  event_declaration_at = map_at (λ v. v.0) (both_at (classed_at tree.event) (sign_at m.Semicolon))

  unfoldable pub const_declaration_at : Reader Token (List Decl)
  const_declaration_at = map_at middle (both_at (word_at w.Const) (both_at (typed_at constant_at) (sign_at m.Semicolon)))

  unfoldable pub alg_declaration_at : Reader Token (List Decl)
  alg_declaration_at = map_at middle (both_at (word_at w.Alg) (both_at (typed_at algebraic_at) (sign_at m.Semicolon)))

  unfoldable pub input_declaration_at : Reader Token (List Decl)
  input_declaration_at = map_at middle (both_at (word_at w.Input) (both_at (typed_at (λ ty. made_at (tree.input ty))) (sign_at m.Semicolon)))

  unfoldable pub disc_declaration_at : Reader Token (List Decl)
  disc_declaration_at = map_at middle (both_at (word_at w.Disc) (both_at (typed_at discrete_at) (sign_at m.Semicolon)))

  unfoldable pub equation_at : Reader Token (List Decl)
  equation_at = map_at (λ v. tree.single (tree.equation v)) (both_at (word_at w.Equation) (both_at (ident_at text) (both_at (sign_at m.Equal) (both_at (expr_at text) (sign_at m.Semicolon)))))

  unfoldable pub marked_declaration_at : Reader Token (List Decl)
  marked_declaration_at = map_at middle (both_at (word_at w.Marked) (both_at (separated_at m.Comma marking_at) (sign_at m.Semicolon)))

  -- ---- invariants

  unfoldable pub braced_at : Reader Token (List Name)
  braced_at = map_at middle (both_at (sign_at m.OpenBrace) (both_at (names_at text) (sign_at m.CloseBrace)))

  unfoldable pub single_at : Reader Token (List Name)
  single_at = map_at tree.single (name_at text)

  unfoldable pub events_at : Reader Token (List Name)
  events_at = either_at sort (first_sign m.OpenBrace) braced_at single_at

  -- events before `needs`
  unfoldable pub needs_at : Reader Token (List Name) → Reader Token Inv
  needs_at r = map_at tree.needs (both_at r (both_at (word_at w.Needs) (expr_at text)))

  -- after an expression
  unfoldable pub disabled_at : Reader Token (List Name)
  disabled_at = map_at second (both_at (word_at w.Disables) events_at)

  unfoldable pub predicate_at : Reader Token Inv
  predicate_at = map_at (λ v. tree.state_or v.0 v.1) (both_at (expr_at text) (optional_at sort (first_word w.Disables) disabled_at))

  unfoldable pub invariant_at : Reader Token Inv
  invariant_at = when_at (λ ts. leaves (first_word w.Needs) (name_at text ts)) (needs_at single_at) (either_at sort (first_sign m.OpenBrace) (needs_at braced_at) predicate_at)

  -- an identifier and a colon before an invariant
  unfoldable pub labelled_at : Reader Token Inv
  labelled_at = map_at (λ (name, (colon, i)). i) (both_at (ident_at text) (both_at (sign_at m.Colon) invariant_at))

  unfoldable pub named_invariant_at : Reader Token Inv
  named_invariant_at = when_at is_labelled labelled_at invariant_at

  unfoldable pub named_declared_at : Reader Token Decl
  named_declared_at = map_at decl.Inv named_invariant_at

  unfoldable pub declared_at : Reader Token Decl
  declared_at = map_at decl.Inv invariant_at

  unfoldable pub invariants_at : Reader Token (List Decl)
  invariants_at = map_at middle (both_at (word_at w.Invariant) (both_at (separated_at m.Comma named_declared_at) (sign_at m.Semicolon)))

  -- after a kind, invariants without names
  unfoldable pub unnamed_invariants_at : Reader Token (List Decl)
  unnamed_invariants_at = map_at (λ v. v.0) (both_at (separated_at m.Comma declared_at) (sign_at m.Semicolon))

  unfoldable pub kind_invariants_at : Reader Token (List Decl)
  kind_invariants_at = map_at second (both_at kind_at (either_at sort (first_word w.Invariant) invariants_at unnamed_invariants_at))

  -- ---- all

  unfoldable pub plain_declaration_at : Reader Token (List Decl)
  plain_declaration_at = either_at sort (first_word w.«Type») type_declaration_at
      (either_at sort (first_word w.Enum) enum_declaration_at
      (either_at sort class_first event_declaration_at
      (either_at sort (first_word w.Const) const_declaration_at
      (either_at sort (first_word w.Alg) alg_declaration_at
      (either_at sort (first_word w.Input) input_declaration_at
      (either_at sort (first_word w.Equation) equation_at
      (either_at sort (first_word w.Invariant) invariants_at
      marked_declaration_at)))))))

  unfoldable pub declaration_at : Reader Token (List Decl)
  declaration_at = either_at sort plain_first plain_declaration_at kind_invariants_at

  -- ---- parameters

  unfoldable pub alg_parameter_at : Reader Token (List Param)
  alg_parameter_at = map_at second (both_at (word_at w.Alg) (typed_at (λ ty. made_at (tree.algebraic_parameter ty))))

  unfoldable pub location_parameter_at : Reader Token (List Param)
  location_parameter_at = map_at second (both_at (word_at w.Location) (separated_at m.Comma (made_at tree.location_parameter)))

  unfoldable pub parameter_at : Reader Token (List Param)
  parameter_at = either_at sort class_first (classed_at tree.event_parameter) (either_at sort (first_word w.Alg) alg_parameter_at location_parameter_at)

  unfoldable pub parameter_list_at : Reader Token (List Param)
  parameter_list_at = map_at flat (separated_at m.Semicolon parameter_at)

  unfoldable pub parameters_at : Reader Token (List Param)
  parameters_at = map_at (λ v. tree.given v.1.0) (both_at (sign_at m.OpenParen) (both_at (optional_at sort parameter_first parameter_list_at) (sign_at m.CloseParen)))
