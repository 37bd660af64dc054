-- The tree that each form of an update, an edge, a location, an automaton or a component stands for.
use Rattle.std.specs.Prelude.{Bool, true, false, ◌&&◌, ◌||◌, nat_le, List, [], ◌∷◌, ◌++◌, length, Option, Some, None}
use Rattle.std.specs.List.{list_all, list_any, last_or}
use Rattle.std.specs.Option.{is_some}
use Rattle.cif_lex.specs.declared.token.Token.{Token}
use Rattle.cif_ast.specs.declared.names.Ident.{Ident}
use Rattle.cif_ast.specs.declared.names.Name.{Name}
use Rattle.cif_ast.specs.declared.expressions.Expr.{Expr}
use Rattle.cif_ast.specs.declared.declarations.Decl.{Decl}
use Rattle.cif_ast.specs.declared.declarations.Param.{Param}
use Rattle.cif_ast.specs.declared.edges.Update.{Update}
use Rattle.cif_ast.specs.declared.edges.Update.TheVariants as update
use Rattle.cif_ast.specs.declared.edges.UpdateBranch.{UpdateBranch, roll-UpdateBranch}
use Rattle.cif_ast.specs.declared.edges.EventUse.{EventUse}
use Rattle.cif_ast.specs.declared.edges.Role.{Role}
use Rattle.cif_ast.specs.declared.edges.Role.TheVariants as role
use Rattle.cif_ast.specs.declared.edges.Edge.{Edge}
use Rattle.cif_ast.specs.declared.edges.Loc.{Loc}
use Rattle.cif_ast.specs.declared.edges.LocEquation.{LocEquation}
use Rattle.cif_ast.specs.declared.components.AutoBody.{AutoBody}
use Rattle.cif_ast.specs.declared.components.Body.{Body}
use Rattle.cif_ast.specs.declared.components.Body.TheVariants as body
use Rattle.cif_ast.specs.declared.components.Comp.{roll-Comp}
use Rattle.cif_ast.specs.declared.components.Def.{roll-Def}
use Rattle.cif_ast.specs.declared.components.Item.{Item}
use Rattle.cif_ast.specs.declared.components.Item.TheVariants as item
use Rattle.cif_ast.specs.declared.components.Spec.{Spec}
use Rattle.cif_parse.specs.declared.elements.Element.{Element}
use Rattle.cif_parse.specs.declared.elements.Element.TheVariants as element
use Rattle.cif_parse.specs.declared.bodies.BodyElement.{BodyElement}
use Rattle.cif_parse.specs.declared.bodies.BodyElement.TheVariants as body_element

-- ---- updates

abbrev pub set : Name × (Token × Expr) → Update
set (name, (assign, value)) = update.Set name value

abbrev pub update_branch : List Expr × (Token × List Update) → UpdateBranch
update_branch (conditions, (colon, updates)) = roll-UpdateBranch (record { conds = conditions; updates = updates })

abbrev pub choice : Token × (List UpdateBranch × (List Update × Token)) → Update
choice (word, (branches, (other, end))) = update.If branches other

-- ---- edges

abbrev pub role_or : Option Role → Role
role_or None = role.Sync
role_or (Some r) = r

abbrev pub event_use : Name × Option Role → EventUse
event_use (name, role) = record { name = name; role = role_or role }

abbrev pub edge : Token × (List EventUse × (List Expr × (List Update × Option Ident))) → Edge
edge (word, (uses, (guards, (updates, target)))) = record { uses = uses; guards = guards; updates = updates; target = target }

-- ---- locations

abbrev pub equation : Token × (Ident × (Token × (Expr × Token))) → Element
equation (word, (name, (is, (value, end)))) = element.Equation (record { name = name; value = value })

abbrev pub is_initial : Element → Bool
is_initial element.Initial = true
is_initial (element.Marked ps) = false
is_initial (element.Equation e) = false
is_initial (element.Edge e) = false

abbrev pub markings_of : List Element → List Expr
markings_of [] = []
markings_of (element.Initial ∷ es) = markings_of es
markings_of (element.Marked ps ∷ es) = ps ++ markings_of es
markings_of (element.Equation e ∷ es) = markings_of es
markings_of (element.Edge e ∷ es) = markings_of es

abbrev pub equations_of : List Element → List LocEquation
equations_of [] = []
equations_of (element.Initial ∷ es) = equations_of es
equations_of (element.Marked ps ∷ es) = equations_of es
equations_of (element.Equation e ∷ es) = e ∷ equations_of es
equations_of (element.Edge e ∷ es) = equations_of es

abbrev pub edges_of : List Element → List Edge
edges_of [] = []
edges_of (element.Initial ∷ es) = edges_of es
edges_of (element.Marked ps ∷ es) = edges_of es
edges_of (element.Equation e ∷ es) = edges_of es
edges_of (element.Edge e ∷ es) = e ∷ edges_of es

-- a location is initial where one of its elements is `initial`
unfoldable pub location_of : Option Ident → List Element → Loc
location_of name es = record { name = name; initial = list_any is_initial es; marked = markings_of es; equations = equations_of es; edges = edges_of es }

abbrev pub location : Token × (Option Ident × List Element) → Loc
location (word, (name, elements)) = location_of name elements

-- ---- automata

abbrev pub declarations_of : List BodyElement → List Decl
declarations_of [] = []
declarations_of (body_element.Decls ds ∷ ps) = ds ++ declarations_of ps
declarations_of (body_element.Alphabet ns ∷ ps) = declarations_of ps
declarations_of (body_element.Monitor ns ∷ ps) = declarations_of ps

abbrev pub alphabets_of : List BodyElement → List (List Name)
alphabets_of [] = []
alphabets_of (body_element.Decls ds ∷ ps) = alphabets_of ps
alphabets_of (body_element.Alphabet ns ∷ ps) = ns ∷ alphabets_of ps
alphabets_of (body_element.Monitor ns ∷ ps) = alphabets_of ps

abbrev pub monitors_of : List BodyElement → List (List Name)
monitors_of [] = []
monitors_of (body_element.Decls ds ∷ ps) = monitors_of ps
monitors_of (body_element.Alphabet ns ∷ ps) = monitors_of ps
monitors_of (body_element.Monitor ns ∷ ps) = ns ∷ monitors_of ps

abbrev pub is_named : Loc → Bool
is_named l = is_some l.name

abbrev pub has_one : {A : Type 0} → List A → Bool
has_one [] = false
has_one (a ∷ more) = true

-- At most one `alphabet` and one `monitor`; a location without a name is the only one.
unfoldable pub is_automaton : List BodyElement × List Loc → Bool
is_automaton (parts, locs) = nat_le (length (alphabets_of parts)) 1 && (nat_le (length (monitors_of parts)) 1 && (nat_le (length locs) 1 || list_all is_named locs))

-- there is at most one `alphabet` and one `monitor`
unfoldable pub automaton_of : List BodyElement → List Loc → AutoBody
automaton_of ps ls = record { decls = declarations_of ps; alphabet = last_or None (alphabets_of ps); monitor = last_or None (monitors_of ps); locs = ls }

abbrev pub automaton_body : List BodyElement × List Loc → AutoBody
automaton_body (parts, locs) = automaton_of parts locs

-- ---- components

abbrev pub group_body : Token × (List Item × Token) → Body
group_body (colon, (is, end)) = body.Group is

abbrev pub body_of_automaton : Token × (AutoBody × Token) → Body
body_of_automaton (colon, (a, end)) = body.Auto a

abbrev pub component_item : Ident → Body → Item
component_item name inner = item.Comp (roll-Comp (record { name = name; body = inner }))

abbrev pub definition_item : Ident → List Param → Body → Item
definition_item name params inner = item.Def (roll-Def (record { name = name; params = params; body = inner }))

-- what follows the words that begin a component
abbrev pub component_end : Ident × Body → Item
component_end (name, inner) = component_item name inner

abbrev pub definition_end : Token × (Ident × (List Param × Body)) → Item
definition_end (def, (name, (params, inner))) = definition_item name params inner

abbrev pub component : Token × (Ident × Body) → Item
component (words, after) = component_end after

abbrev pub definition : Token × (Token × (Ident × (List Param × Body))) → Item
definition (words, after) = definition_end after

abbrev pub instance : Ident × (Token × (Name × (Token × List Expr))) → Item
instance (name, (colon, (def, (left, args)))) = item.Inst (record { name = name; def = def; args = args })

abbrev pub specification : List Item → Spec
specification is = record { items = is }
