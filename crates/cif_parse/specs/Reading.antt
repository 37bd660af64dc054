-- Helper of the code: reading updates, edges, locations, automata and components.
use Rattle.std.specs.Prelude.{ℕ, zero, suc, List, [], ◌∷◌, ◌++◌, map, Option, Some, None}
use Rattle.grammar.specs.Pieces.{Text}
use Rattle.grammar.specs.Lang.{flat}
use Rattle.grammar.specs.Reader.{Read, Reader, none_at, both_at, map_at, such_at, either_at, when_at, optional_at, many_at, list_at}
use Rattle.cif_lex.specs.declared.token.Token.{Token}
use Rattle.cif_lex.specs.declared.token.TokenKind.TheVariants.{Id, Reserved, Number, Sign}
use Rattle.cif_lex.specs.declared.token.Word.TheVariants as w
use Rattle.cif_lex.specs.declared.token.Mark.TheVariants as m
use Rattle.cif_ast.specs.declared.names.Ident.{Ident}
use Rattle.cif_ast.specs.declared.expressions.Expr.{Expr}
use Rattle.cif_ast.specs.declared.edges.Update.{Update}
use Rattle.cif_ast.specs.declared.edges.UpdateBranch.{UpdateBranch}
use Rattle.cif_ast.specs.declared.edges.EventUse.{EventUse}
use Rattle.cif_ast.specs.declared.edges.Role.{Role}
use Rattle.cif_ast.specs.declared.edges.Role.TheVariants as roles
use Rattle.cif_ast.specs.declared.edges.Edge.{Edge}
use Rattle.cif_ast.specs.declared.edges.Loc.{Loc}
use Rattle.cif_ast.specs.declared.components.AutoBody.{AutoBody}
use Rattle.cif_ast.specs.declared.components.Body.{Body}
use Rattle.cif_ast.specs.declared.components.Item.{Item}
use Rattle.cif_ast.specs.declared.components.Item.TheVariants as item
use Rattle.cif_ast.specs.declared.components.Spec.{Spec}
use Rattle.cif_parse_expr.specs.TokenKinds.{sort, codes_of}
use Rattle.cif_parse_expr.specs.Trees.{second}
use Rattle.cif_parse_expr.specs.Reading.{word_at, sign_at, first, first_word, first_sign, ident_at, name_at, expr_at, separated_at}
use Rattle.cif_parse_expr.specs.Parts.{names_at, expr_list_at}
use Rattle.cif_parse_decl.specs.Trees.{single, given}
use Rattle.cif_parse_decl.specs.Reading.{kind_at, kind_first, plain_first, is_component, plain_declaration_at, kind_invariants_at, declaration_at, disc_declaration_at, parameters_at}
use Rattle.cif_parse.specs.declared.elements.Element.{Element}
use Rattle.cif_parse.specs.declared.elements.Element.TheVariants as elements
use Rattle.cif_parse.specs.declared.bodies.BodyElement.{BodyElement}
use Rattle.cif_parse.specs.declared.bodies.BodyElement.TheVariants as body_elements
use Rattle.cif_parse.specs.Trees as tree

-- what an expression begins with
abbrev pub expr_first : List ℕ
expr_first = codes_of (Sign m.Minus ∷ Sign m.Plus ∷ Reserved w.Not ∷ Reserved w.True ∷ Reserved w.False ∷ Number ∷ Sign m.Dot ∷ Id
    ∷ Sign m.Question ∷ Sign m.OpenParen ∷ Reserved w.Abs ∷ Reserved w.Min ∷ Reserved w.Max ∷ Reserved w.If ∷ [])

abbrev pub name_first : List ℕ
name_first = codes_of (Sign m.Dot ∷ Id ∷ [])

-- what elements of a location, what stands before locations, components, and items begin with
abbrev pub element_first : List ℕ
element_first = codes_of (Reserved w.Initial ∷ Reserved w.Marked ∷ Reserved w.Equation ∷ Reserved w.Edge ∷ [])

abbrev pub body_element_first : List ℕ
body_element_first = plain_first ++ kind_first ++ codes_of (Reserved w.Disc ∷ Reserved w.Alphabet ∷ Reserved w.Monitor ∷ [])

abbrev pub nested_first : List ℕ
nested_first = codes_of (Reserved w.Group ∷ Reserved w.Automaton ∷ []) ++ kind_first

abbrev pub item_first : List ℕ
item_first = plain_first ++ first Id ++ nested_first

-- ---- updates

module _ (text : Text) where
  unfoldable pub set_at : Reader Token Update
  set_at = map_at tree.set (both_at (name_at text) (both_at (sign_at m.Assign) (expr_at text)))

  -- The reader of updates, as they stand inside an `if`.
  module _ (inner : Reader Token (List Update)) where
    unfoldable pub update_branch_at : Reader Token UpdateBranch
    update_branch_at = map_at tree.update_branch (both_at (expr_list_at text) (both_at (sign_at m.Colon) inner))

    -- after `elif`
    unfoldable pub other_branch_at : Reader Token UpdateBranch
    other_branch_at = map_at second (both_at (word_at w.Elif) update_branch_at)

    unfoldable pub update_branches_at : Reader Token (List UpdateBranch)
    update_branches_at = list_at sort (first_word w.Elif) update_branch_at other_branch_at

    -- after `else`
    unfoldable pub other_updates_at : Reader Token (List Update)
    other_updates_at = map_at second (both_at (word_at w.Else) inner)

    unfoldable pub choice_at : Reader Token Update
    choice_at = map_at tree.choice (both_at (word_at w.If) (both_at update_branches_at (both_at (map_at given (optional_at sort (first_word w.Else) other_updates_at)) (word_at w.End))))

  unfoldable pub update_at : Reader Token Update → Reader Token Update
  update_at form = either_at sort name_first set_at form

-- one update, in which an `if` may nest so often: the number bounds how deep the calls go
unfoldable pub one_update_at : Text → ℕ → Reader Token Update
one_update_at text zero = update_at text none_at
one_update_at text (suc n) = update_at text (choice_at text (separated_at m.Comma (one_update_at text n)))

unfoldable pub updates_at : Text → ℕ → Reader Token (List Update)
updates_at text n = separated_at m.Comma (one_update_at text n)

unfoldable pub initial_at : Reader Token Element
initial_at = map_at (λ v. elements.Initial) (both_at (word_at w.Initial) (both_at (optional_at sort (first_word w.True) (word_at w.True)) (sign_at m.Semicolon)))

module _ (text : Text) where
  -- ---- edges

  unfoldable pub send_at : Reader Token Role
  send_at = map_at (λ v. roles.Send v.1) (both_at (sign_at m.Exclamation) (optional_at sort expr_first (expr_at text)))

  unfoldable pub role_at : Reader Token Role
  role_at = either_at sort (first_sign m.Exclamation) send_at (map_at (λ t. roles.Recv) (sign_at m.Question))

  unfoldable pub event_use_at : Reader Token EventUse
  event_use_at = map_at tree.event_use (both_at (name_at text) (optional_at sort (codes_of (Sign m.Exclamation ∷ Sign m.Question ∷ [])) role_at))

  -- after `when`
  unfoldable pub guards_at : Reader Token (List Expr)
  guards_at = map_at second (both_at (word_at w.When) (expr_list_at text))

  -- after `do`
  unfoldable pub actions_at : Reader Token (List Update)
  actions_at = map_at second (both_at (word_at w.Do) (updates_at text 100))

  -- after `goto`
  unfoldable pub target_at : Reader Token Ident
  target_at = map_at second (both_at (word_at w.Goto) (ident_at text))

  unfoldable pub edge_end_at : Reader Token (List Update × Option Ident)
  edge_end_at = map_at (λ v. (v.0, v.1.0)) (both_at (map_at given (optional_at sort (first_word w.Do) actions_at)) (both_at (optional_at sort (first_word w.Goto) target_at) (sign_at m.Semicolon)))

  unfoldable pub edge_at : Reader Token Edge
  edge_at = map_at tree.edge (both_at (word_at w.Edge) (both_at (separated_at m.Comma event_use_at) (both_at (map_at given (optional_at sort (first_word w.When) guards_at)) edge_end_at)))

  -- ---- locations

  unfoldable pub marked_at : Reader Token Element
  marked_at = map_at (λ v. elements.Marked v.1.0) (both_at (word_at w.Marked) (both_at (map_at given (optional_at sort expr_first (expr_list_at text))) (sign_at m.Semicolon)))

  unfoldable pub equation_at : Reader Token Element
  equation_at = map_at tree.equation (both_at (word_at w.Equation) (both_at (ident_at text) (both_at (sign_at m.Equal) (both_at (expr_at text) (sign_at m.Semicolon)))))

  unfoldable pub element_at : Reader Token Element
  element_at = either_at sort (first_word w.Initial) initial_at (either_at sort (first_word w.Marked) marked_at (either_at sort (first_word w.Equation) equation_at (map_at elements.Edge edge_at)))

  unfoldable pub elements_at : Reader Token (List Element)
  elements_at = either_at sort (first_sign m.Semicolon) (map_at (λ t. []) (sign_at m.Semicolon)) (map_at second (both_at (sign_at m.Colon) (many_at sort element_first element_at)))

  unfoldable pub location_at : Reader Token Loc
  location_at = map_at tree.location (both_at (word_at w.Location) (both_at (optional_at sort (first Id) (ident_at text)) elements_at))

  -- ---- automata

  unfoldable pub alphabet_at : Reader Token BodyElement
  alphabet_at = map_at (λ v. body_elements.Alphabet v.1.0) (both_at (word_at w.Alphabet) (both_at (map_at given (optional_at sort name_first (names_at text))) (sign_at m.Semicolon)))

  unfoldable pub monitor_at : Reader Token BodyElement
  monitor_at = map_at (λ v. body_elements.Monitor v.1.0) (both_at (word_at w.Monitor) (both_at (map_at given (optional_at sort name_first (names_at text))) (sign_at m.Semicolon)))

  unfoldable pub body_element_at : Reader Token BodyElement
  body_element_at = either_at sort (first_word w.Disc) (map_at body_elements.Decls (disc_declaration_at text))
      (either_at sort (first_word w.Alphabet) alphabet_at
      (either_at sort (first_word w.Monitor) monitor_at
      (map_at body_elements.Decls (declaration_at text))))

  unfoldable pub locations_at : Reader Token (List Loc)
  locations_at = such_at tree.has_one (many_at sort (first_word w.Location) location_at)

  unfoldable pub body_parts_at : Reader Token (List BodyElement × List Loc)
  body_parts_at = such_at tree.is_automaton (both_at (many_at sort body_element_first body_element_at) locations_at)

  unfoldable pub automaton_body_at : Reader Token AutoBody
  automaton_body_at = map_at tree.automaton_body body_parts_at

  unfoldable pub automaton_end_at : Reader Token Body
  automaton_end_at = map_at tree.body_of_automaton (both_at (sign_at m.Colon) (both_at automaton_body_at (word_at w.End)))

unfoldable pub automaton_at : Reader Token Token
automaton_at = either_at sort (first_word w.Automaton) (word_at w.Automaton) (map_at (λ v. v.0) (both_at kind_at (optional_at sort (first_word w.Automaton) (word_at w.Automaton))))

module _ (text : Text) where
  -- ---- components, over the reader of what follows their heads

  -- after `group` or the words of an automaton
  unfoldable pub named_end_at : Reader Token Body → Reader Token Item
  named_end_at ending = map_at tree.component_end (both_at (ident_at text) ending)

  unfoldable pub defined_end_at : Reader Token Body → Reader Token Item
  defined_end_at ending = map_at tree.definition_end (both_at (word_at w.Def) (both_at (ident_at text) (both_at (parameters_at text) ending)))

  unfoldable pub component_end_at : Reader Token Body → Reader Token Item
  component_end_at ending = either_at sort (first_word w.Def) (defined_end_at ending) (named_end_at ending)

  unfoldable pub group_end_at : Reader Token (List Item) → Reader Token Body
  group_end_at inner = map_at tree.group_body (both_at (sign_at m.Colon) (both_at inner (word_at w.End)))

  unfoldable pub group_at : Reader Token (List Item) → Reader Token Item
  group_at inner = map_at second (both_at (word_at w.Group) (component_end_at (group_end_at inner)))

  unfoldable pub automaton_item_at : Reader Token Item
  automaton_item_at = map_at second (both_at automaton_at (component_end_at (automaton_end_at text)))

  -- after the name of an instance
  unfoldable pub arguments_at : Reader Token (List Expr)
  arguments_at = map_at (λ v. v.0) (both_at (map_at given (optional_at sort expr_first (expr_list_at text))) (both_at (sign_at m.CloseParen) (sign_at m.Semicolon)))

  unfoldable pub instance_at : Reader Token Item
  instance_at = map_at tree.instance (both_at (ident_at text) (both_at (sign_at m.Colon) (both_at (name_at text) (both_at (sign_at m.OpenParen) arguments_at))))

  -- a group, or what begins with a kind or `automaton`
  unfoldable pub nested_at : Reader Token (List Item) → Reader Token Item
  nested_at inner = either_at sort (first_word w.Group) (group_at inner) automaton_item_at

  unfoldable pub item_over : Reader Token Item → Reader Token (List Item)
  item_over nested = either_at sort plain_first (map_at (map item.Decl) (plain_declaration_at text))
      (either_at sort (first Id) (map_at single instance_at)
      (when_at is_component (map_at single nested) (map_at (map item.Decl) (kind_invariants_at text))))

unfoldable pub all_items_at : Reader Token (List Item) → Reader Token (List Item)
all_items_at one = map_at flat (many_at sort item_first one)

-- one item, in which components may nest so often: the number bounds how deep the calls go
unfoldable pub item_at : Text → ℕ → Reader Token (List Item)
item_at text zero = item_over text none_at
item_at text (suc n) = item_over text (nested_at text (all_items_at (item_at text n)))

unfoldable pub items_at : Text → ℕ → Reader Token (List Item)
items_at text n = all_items_at (item_at text n)

-- a list of tokens as one specification, where nothing is left
abbrev pub ended : List Item → List Token → Option Spec
ended is [] = Some (tree.specification is)
ended is (t ∷ ts) = None

abbrev pub finished : Read Token (List Item) → Option Spec
finished None = None
finished (Some p) = ended p.0 p.1

unfoldable pub specification_at : Text → List Token → Option Spec
specification_at text ts = finished (items_at text 101 ts)
