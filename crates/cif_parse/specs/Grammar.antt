-- The grammar of a source, a line for each production (CIF 3 language reference), over that of expressions and that of
-- declarations.
use Rattle.std.specs.Prelude.{◌≤◌, ℕ, zero, suc, length, List, [], map, Option}
use Rattle.grammar.specs.Pieces.{Text}
use Rattle.grammar.specs.Lang.{Lang, ◌&◌, ◌∣◌, ◌<$>◌, many, list, optional, such_that, flat}
use Rattle.cif_lex.specs.Tokens.{Tokens}
use Rattle.cif_lex.specs.declared.token.Token.{Token}
use Rattle.cif_lex.specs.declared.token.Word.TheVariants as w
use Rattle.cif_lex.specs.declared.token.Mark.TheVariants as m
use Rattle.cif_ast.specs.declared.names.Ident.{Ident}
use Rattle.cif_ast.specs.declared.expressions.Expr.{Expr}
use Rattle.cif_ast.specs.declared.edges.Update.{Update}
use Rattle.cif_ast.specs.declared.edges.UpdateBranch.{UpdateBranch}
use Rattle.cif_ast.specs.declared.edges.EventUse.{EventUse}
use Rattle.cif_ast.specs.declared.edges.Role.{Role}
use Rattle.cif_ast.specs.declared.edges.Role.TheVariants as roles
use Rattle.cif_ast.specs.declared.edges.Edge.{Edge}
use Rattle.cif_ast.specs.declared.edges.Loc.{Loc}
use Rattle.cif_ast.specs.declared.components.AutoBody.{AutoBody}
use Rattle.cif_ast.specs.declared.components.Body.{Body}
use Rattle.cif_ast.specs.declared.components.Item.{Item}
use Rattle.cif_ast.specs.declared.components.Item.TheVariants as items
use Rattle.cif_ast.specs.declared.components.Spec.{Spec}
use Rattle.cif_parse_expr.specs.TokenKinds.{word, sign}
use Rattle.cif_parse_expr.specs.Trees.{second}
use Rattle.cif_parse_expr.specs.Grammar.{max_depth, ident, name, names, separated, IsExpr, expr_list}
use Rattle.cif_parse_decl.specs.Trees.{single, given}
use Rattle.cif_parse_decl.specs.Grammar.{kind, declaration, disc_declaration, parameters}
use Rattle.cif_parse.specs.declared.elements.Element.{Element}
use Rattle.cif_parse.specs.declared.elements.Element.TheVariants as elements
use Rattle.cif_parse.specs.declared.bodies.BodyElement.{BodyElement}
use Rattle.cif_parse.specs.declared.bodies.BodyElement.TheVariants as body_elements
use Rattle.cif_parse.specs.declared.error.ParseErr.{ParseErr}
use Rattle.cif_parse.specs.declared.error.ParseErr.TheVariants as err
use Rattle.cif_parse.specs.Trees as tree

-- "automaton" | kind ["automaton"]
abbrev pub automaton : Lang Token Token
automaton = word w.Automaton ∣ (λ v. v.0) <$> kind & optional (word w.Automaton)

module _ (text : Text) where
  -- ---- updates, over the language of those inside an `if`

  -- name ":=" expr
  abbrev pub set : Lang Token Update
  set = tree.set <$> name text & sign m.Assign & IsExpr text

  -- exprs ":" upds
  abbrev pub update_branch : Lang Token (List Update) → Lang Token UpdateBranch
  update_branch inner = tree.update_branch <$> expr_list text & sign m.Colon & inner

  -- "if" exprs ":" upds {"elif" exprs ":" upds} ["else" upds] "end"
  abbrev pub choice : Lang Token (List Update) → Lang Token Update
  choice inner = tree.choice <$> word w.If & list (update_branch inner) (second <$> word w.Elif & update_branch inner)
      & (given <$> optional (second <$> word w.Else & inner)) & word w.End

-- upd = name ":=" expr | "if" .. "end": an update whose depth is at most the number. What stands inside an `if` is one
-- less deep.
unfoldable pub update : Text → ℕ → Lang Token Update
update text zero u ts = set text u ts
update text (suc n) u ts = (set text ∣ choice text (separated m.Comma (update text n))) u ts

-- upd {"," upd}
abbrev pub updates : Text → ℕ → Lang Token (List Update)
updates text n = separated m.Comma (update text n)

module _ (text : Text) where
  -- ---- edges

  -- "!" [expr] | "?"
  abbrev pub role : Lang Token Role
  role = (λ v. roles.Send v.1) <$> sign m.Exclamation & optional (IsExpr text) ∣ (λ t. roles.Recv) <$> sign m.Question

  -- name | name "!" [expr] | name "?"
  abbrev pub event_use : Lang Token EventUse
  event_use = tree.event_use <$> name text & optional role

  -- ["do" upds] ["goto" ID] ";"
  abbrev pub edge_end : Lang Token (List Update × Option Ident)
  edge_end = (λ v. (v.0, v.1.0)) <$> (given <$> optional (second <$> word w.Do & updates text max_depth)) & optional (second <$> word w.Goto & ident text) & sign m.Semicolon

  -- "edge" evuse {"," evuse} ["when" exprs] ["do" upds] ["goto" ID] ";"
  abbrev pub edge : Lang Token Edge
  edge = tree.edge <$> word w.Edge & separated m.Comma event_use & (given <$> optional (second <$> word w.When & expr_list text)) & edge_end

  -- ---- locations

  -- "initial" ["true"] ";" | "marked" [exprs] ";" | "equation" ID "=" expr ";" | edge
  abbrev pub element : Lang Token Element
  element = (λ v. elements.Initial) <$> word w.Initial & optional (word w.True) & sign m.Semicolon
      ∣ (λ v. elements.Marked v.1.0) <$> word w.Marked & (given <$> optional (expr_list text)) & sign m.Semicolon
      ∣ tree.equation <$> word w.Equation & ident text & sign m.Equal & IsExpr text & sign m.Semicolon
      ∣ elements.Edge <$> edge

  -- "location" [ID] (";" | ":" {elem})
  abbrev pub location : Lang Token Loc
  location = tree.location <$> word w.Location & optional (ident text) & ((λ t. []) <$> sign m.Semicolon ∣ second <$> sign m.Colon & many element)

  -- ---- automata

  -- decl | disc | "alphabet" [names] ";" | "monitor" [names] ";"
  abbrev pub body_element : Lang Token BodyElement
  body_element = body_elements.Decls <$> declaration text
      ∣ body_elements.Decls <$> disc_declaration text
      ∣ (λ v. body_elements.Alphabet v.1.0) <$> word w.Alphabet & (given <$> optional (names text)) & sign m.Semicolon
      ∣ (λ v. body_elements.Monitor v.1.0) <$> word w.Monitor & (given <$> optional (names text)) & sign m.Semicolon

  -- {decl | disc | "alphabet" [names] ";" | "monitor" [names] ";"} loc {loc}
  abbrev pub automaton_body : Lang Token AutoBody
  automaton_body = tree.automaton_body <$> such_that tree.is_automaton (many body_element & list location location)

  -- ":" abody "end"
  abbrev pub automaton_end : Lang Token Body
  automaton_end = tree.body_of_automaton <$> sign m.Colon & automaton_body & word w.End

  -- ---- components, over the language of the items inside them

  -- ":" {item} "end"
  abbrev pub group_end : Lang Token (List Item) → Lang Token Body
  group_end inner = tree.group_body <$> sign m.Colon & inner & word w.End

  -- "group" ID ":" {item} "end" | auto ID ":" abody "end"
  abbrev pub component : Lang Token (List Item) → Lang Token Item
  component inner = tree.component <$> word w.Group & ident text & group_end inner
      ∣ tree.component <$> automaton & ident text & automaton_end

  -- "group" "def" ID params ":" {item} "end" | auto "def" ID params ":" abody "end"
  abbrev pub definition : Lang Token (List Item) → Lang Token Item
  definition inner = tree.definition <$> word w.Group & word w.Def & ident text & parameters text & group_end inner
      ∣ tree.definition <$> automaton & word w.Def & ident text & parameters text & automaton_end

  -- [exprs] ")" ";"
  abbrev pub arguments : Lang Token (List Expr)
  arguments = (λ v. v.0) <$> (given <$> optional (expr_list text)) & sign m.CloseParen & sign m.Semicolon

  -- ID ":" name "(" [exprs] ")" ";"
  abbrev pub instance : Lang Token Item
  instance = tree.instance <$> ident text & sign m.Colon & name text & sign m.OpenParen & arguments

-- item = decl | comp | def | inst, where components and definitions nest so often at most: what stands in one nests once
-- less.
unfoldable pub item : Text → ℕ → Lang Token (List Item)
item text zero is ts = (map items.Decl <$> declaration text ∣ single <$> instance text) is ts
item text (suc n) is ts = (map items.Decl <$> declaration text
    ∣ single <$> component text (flat <$> many (item text n))
    ∣ single <$> definition text (flat <$> many (item text n))
    ∣ single <$> instance text) is ts

-- A component at the specification has the depth 0, so they nest once more than their depth says.
unfoldable pub specification : Text → Lang Token Spec
specification text spec ts = ((λ is. tree.specification (flat is)) <$> many (item text 101)) spec ts

-- The text's tokens derive the tree.
pub record Reads (text : Text) (tree : Spec) : Type 0 where
  pub tokens : List Token
  pub are_tokens : Tokens text tokens
  pub derived : specification text tree tokens

-- ---- refusals

-- the text has tokens, and no tree; the place lies in it
pub record NotReadDue (text : Text) (at : ℕ) : Type 0 where
  pub tokens : List Token
  pub are_tokens : Tokens text tokens
  pub no_tree : (tree : Spec) → Reads text tree → ⊥
  pub within : at ≤ length text

-- why a text is refused
abbrev pub ParseRefusalDue : Text → ParseErr → Type 0
ParseRefusalDue text (err.NotRead at) = NotReadDue text at
ParseRefusalDue text err.Memory = Unit {0}
