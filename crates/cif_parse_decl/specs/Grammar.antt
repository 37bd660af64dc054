-- The grammar of types, declarations and parameters, a line for each production (CIF 3 language reference,
-- "Declarations", "Types", "Invariants").
use Rattle.std.specs.Prelude.{List, [], ◌∷◌, Option}
use Rattle.grammar.specs.Pieces.{Text}
use Rattle.grammar.specs.Lang.{Lang, ◌&◌, ◌∣◌, ◌<$>◌, ◌▹◌, optional, flat}
use Rattle.cif_lex.specs.declared.token.Token.{Token}
use Rattle.cif_lex.specs.declared.token.TokenKind.TheVariants.{Reserved}
use Rattle.cif_lex.specs.declared.token.Word.TheVariants as w
use Rattle.cif_lex.specs.declared.token.Mark.TheVariants as m
use Rattle.cif_ast.specs.declared.names.Ident.{Ident}
use Rattle.cif_ast.specs.declared.names.Name.{Name}
use Rattle.cif_ast.specs.declared.expressions.Expr.{Expr}
use Rattle.cif_ast.specs.declared.declarations.Class.{Class}
use Rattle.cif_ast.specs.declared.declarations.Chan.{Chan}
use Rattle.cif_ast.specs.declared.declarations.Chan.TheVariants as chan
use Rattle.cif_ast.specs.declared.declarations.TypeUse.{TypeUse}
use Rattle.cif_ast.specs.declared.declarations.TypeUse.TheVariants as type
use Rattle.cif_ast.specs.declared.declarations.Decl.{Decl}
use Rattle.cif_ast.specs.declared.declarations.Decl.TheVariants as decl
use Rattle.cif_ast.specs.declared.declarations.Inv.{Inv}
use Rattle.cif_ast.specs.declared.declarations.Inv.TheVariants as inv
use Rattle.cif_ast.specs.declared.declarations.Param.{Param}
use Rattle.cif_parse_expr.specs.TokenKinds.{word, sign, any_of}
use Rattle.cif_parse_expr.specs.Trees.{second, middle}
use Rattle.cif_parse_expr.specs.Grammar.{ident, name, ids, names, separated, IsExpr}
use Rattle.cif_parse_decl.specs.Trees as tree

-- "event" | "controllable" | "uncontrollable"
abbrev pub event_word : Lang Token Class
event_word = tree.class_of <$> any_of (Reserved w.Event ∷ Reserved w.Controllable ∷ Reserved w.Uncontrollable ∷ [])

-- "plant" | "requirement" | "supervisor"
abbrev pub kind : Lang Token Token
kind = any_of (Reserved w.Plant ∷ Reserved w.Requirement ∷ Reserved w.Supervisor ∷ [])

module _ (text : Text) where
  -- "[" expr ".." expr "]"
  abbrev pub bounds : Lang Token (Expr × Expr)
  bounds = tree.bounds <$> sign m.OpenBracket & IsExpr text & sign m.Range & IsExpr text & sign m.CloseBracket

  -- "bool" | "int" | "int" "[" expr ".." expr "]" | name
  abbrev pub type_use : Lang Token TypeUse
  type_use = (λ t. type.Bool) <$> word w.Bool
      ∣ (λ v. tree.integer v.1) <$> word w.Int & optional bounds
      ∣ type.Named <$> name text

  -- type | "void"
  abbrev pub channel : Lang Token Chan
  channel = chan.Of <$> type_use ∣ (λ t. chan.Void) <$> word w.Void

  -- type p {"," p}: each p has the type
  abbrev pub typed : {A : Type 0} → (TypeUse → Lang Token A) → Lang Token (List A)
  typed p = type_use ▹ λ ty. separated m.Comma (p ty)

  -- [chan] ids: each name has the channel
  abbrev pub channelled : {A : Type 0} → (Chan → Ident → A) → Lang Token (List A)
  channelled make = optional channel ▹ λ c. separated m.Comma (make (tree.channel_or c) <$> ident text)

  -- evword [chan] ids: each name has the class and the channel
  abbrev pub classed : {A : Type 0} → (Class → Chan → Ident → A) → Lang Token (List A)
  classed make = event_word ▹ λ k. channelled (make k)

  -- ID "=" expr
  abbrev pub valued : Lang Token (Ident × (Token × Expr))
  valued = ident text & sign m.Equal & IsExpr text

  -- ID ["=" expr]
  abbrev pub perhaps_valued : Lang Token (Ident × Option Expr)
  perhaps_valued = ident text & optional (second <$> sign m.Equal & IsExpr text)

  -- "type" ID "=" type {"," ID "=" type} ";"
  abbrev pub type_declaration : Lang Token (List Decl)
  type_declaration = middle <$> word w.«Type» & separated m.Comma (tree.named_type <$> ident text & sign m.Equal & type_use) & sign m.Semicolon

  -- "enum" ID "=" ids ";"
  abbrev pub enum_declaration : Lang Token (List Decl)
  enum_declaration = (λ v. tree.single (tree.enumeration v)) <$> word w.Enum & ident text & sign m.Equal & ids text & sign m.Semicolon

  -- evword [chan] ids ";"
  abbrev pub event_declaration : Lang Token (List Decl)
  event_declaration = (λ v. v.0) <$> classed tree.event & sign m.Semicolon

  -- "const" type ID "=" expr {"," ID "=" expr} ";"
  abbrev pub const_declaration : Lang Token (List Decl)
  const_declaration = middle <$> word w.Const & typed (λ ty. tree.constant ty <$> valued) & sign m.Semicolon

  -- "alg" type ID ["=" expr] {"," ID ["=" expr]} ";"
  abbrev pub alg_declaration : Lang Token (List Decl)
  alg_declaration = middle <$> word w.Alg & typed (λ ty. tree.algebraic ty <$> perhaps_valued) & sign m.Semicolon

  -- "input" type ids ";"
  abbrev pub input_declaration : Lang Token (List Decl)
  input_declaration = middle <$> word w.Input & typed (λ ty. tree.input ty <$> ident text) & sign m.Semicolon

  -- "disc" type ID ["=" expr] {"," ID ["=" expr]} ";"
  abbrev pub disc_declaration : Lang Token (List Decl)
  disc_declaration = middle <$> word w.Disc & typed (λ ty. tree.discrete ty <$> perhaps_valued) & sign m.Semicolon

  -- "equation" ID "=" expr ";"
  abbrev pub equation : Lang Token (List Decl)
  equation = (λ v. tree.single (tree.equation v)) <$> word w.Equation & ident text & sign m.Equal & IsExpr text & sign m.Semicolon

  -- "marked" exprs ";"
  abbrev pub marked_declaration : Lang Token (List Decl)
  marked_declaration = middle <$> word w.Marked & separated m.Comma (decl.Marked <$> IsExpr text) & sign m.Semicolon

  -- name | "{" names "}"
  abbrev pub events : Lang Token (List Name)
  events = tree.single <$> name text ∣ middle <$> sign m.OpenBrace & names text & sign m.CloseBrace

  -- expr | events "needs" expr | expr "disables" events
  abbrev pub invariant : Lang Token Inv
  invariant = inv.State <$> IsExpr text
      ∣ tree.needs <$> events & word w.Needs & IsExpr text
      ∣ tree.disables <$> IsExpr text & word w.Disables & events

  -- [ID ":"] inv
  abbrev pub named_invariant : Lang Token Inv
  named_invariant = second <$> optional (ident text & sign m.Colon) & invariant

  -- "invariant" ninv {"," ninv} ";"
  abbrev pub invariants : Lang Token (List Decl)
  invariants = middle <$> word w.Invariant & separated m.Comma (decl.Inv <$> named_invariant) & sign m.Semicolon

  -- kind "invariant" ninv {"," ninv} ";" | kind inv {"," inv} ";"
  abbrev pub kind_invariants : Lang Token (List Decl)
  kind_invariants = second <$> kind & invariants
      ∣ middle <$> kind & separated m.Comma (decl.Inv <$> invariant) & sign m.Semicolon

  -- a declaration that may stand in every component, but for those that begin with a kind
  abbrev pub plain_declaration : Lang Token (List Decl)
  plain_declaration = type_declaration ∣ enum_declaration ∣ event_declaration ∣ const_declaration ∣ alg_declaration
      ∣ input_declaration ∣ equation ∣ invariants ∣ marked_declaration

  abbrev pub declaration : Lang Token (List Decl)
  declaration = plain_declaration ∣ kind_invariants

  -- evword [chan] ids | "alg" type ids | "location" ids
  abbrev pub parameter : Lang Token (List Param)
  parameter = classed tree.event_parameter
      ∣ second <$> word w.Alg & typed (λ ty. tree.algebraic_parameter ty <$> ident text)
      ∣ second <$> word w.Location & separated m.Comma (tree.location_parameter <$> ident text)

  -- "(" [param {";" param}] ")"
  abbrev pub parameters : Lang Token (List Param)
  parameters = (λ v. tree.given v.1.0) <$> sign m.OpenParen & optional (flat <$> separated m.Semicolon parameter) & sign m.CloseParen
