-- What holds throughout a specification: of each name, number, enumeration, expression and update that is written in it.
-- Countable, SmallNumbers and Shallow say which it is to be.
use Rattle.std.specs.Prelude.{ℤ, List, IfSome}
use Rattle.std.specs.List.{AllByRecursion}
use Rattle.cif_ast.specs.Tree.{Tree, node, Shape, truth, number, named, received, paren, negative, positive, negation, absolute, least, greatest, sum, product, comparison, all_of, any_of, implication, equivalence, choice, Trees, no_trees, trees, Terms, no_terms, terms, Factors, no_factors, factors, Branches, no_branches, branches, UpdateTree, assignment, selection, UpdateTrees, no_updates, updates, UpdateBranches, no_update_branches, update_branches, ItemTree, declaration, component, definition, instance, ItemTrees, no_items, items, BodyTree, group, automaton}
use Rattle.cif_ast.specs.View.{view, view_update, view_body, view_item, view_items}
use Rattle.cif_ast.specs.declared.names.Ident.{Ident}
use Rattle.cif_ast.specs.declared.names.Name.{Name}
use Rattle.cif_ast.specs.declared.expressions.Expr.{Expr}
use Rattle.cif_ast.specs.declared.declarations.TypeUse.{TypeUse}
use Rattle.cif_ast.specs.declared.declarations.TypeUse.TheVariants as type_use
use Rattle.cif_ast.specs.declared.declarations.Chan.{Chan}
use Rattle.cif_ast.specs.declared.declarations.Chan.TheVariants as chan
use Rattle.cif_ast.specs.declared.declarations.Decl.{Decl}
use Rattle.cif_ast.specs.declared.declarations.Decl.TheVariants as decl
use Rattle.cif_ast.specs.declared.declarations.Inv.{Inv}
use Rattle.cif_ast.specs.declared.declarations.Inv.TheVariants as inv
use Rattle.cif_ast.specs.declared.declarations.Param.{Param}
use Rattle.cif_ast.specs.declared.declarations.Param.TheVariants as param
use Rattle.cif_ast.specs.declared.edges.Role.{Role}
use Rattle.cif_ast.specs.declared.edges.Role.TheVariants as role
use Rattle.cif_ast.specs.declared.edges.EventUse.{EventUse}
use Rattle.cif_ast.specs.declared.edges.Update.{Update}
use Rattle.cif_ast.specs.declared.edges.Edge.{Edge}
use Rattle.cif_ast.specs.declared.edges.LocEquation.{LocEquation}
use Rattle.cif_ast.specs.declared.edges.Loc.{Loc}
use Rattle.cif_ast.specs.declared.components.AutoBody.{AutoBody}
use Rattle.cif_ast.specs.declared.components.Inst.{Inst}
use Rattle.cif_ast.specs.declared.components.Body.{Body}
use Rattle.cif_ast.specs.declared.components.Item.{Item}
use Rattle.cif_ast.specs.declared.components.Spec.{Spec}

-- What is to hold: of each name, of each number, of the conditions of each branch, of the literals of each enumeration, of
-- each expression that is no part of another, and of each update that is no part of another.
pub record Rule : Type 1 where
  pub of_name : Name → Type 0
  pub of_number : ℤ → Type 0
  pub of_conditions : Trees → Type 0
  pub of_literals : List Ident → Type 0
  pub of_expression : Tree → Type 0
  pub of_update : UpdateTree → Type 0

module _ (rule : Rule) where
  -- ---- expressions

  abbrev mutual
    pub HoldsInTree : Tree → Type 0
    HoldsInTree (node form at) = HoldsInShape form

    pub HoldsInShape : Shape → Type 0
    HoldsInShape (truth b) = Unit {0}
    HoldsInShape (number z) = rule.of_number z
    HoldsInShape (named n) = rule.of_name n
    HoldsInShape received = Unit {0}
    HoldsInShape (paren e) = HoldsInTree e
    HoldsInShape (negative e) = HoldsInTree e
    HoldsInShape (positive e) = HoldsInTree e
    HoldsInShape (negation e) = HoldsInTree e
    HoldsInShape (absolute e) = HoldsInTree e
    HoldsInShape (least a b) = HoldsInTree a × HoldsInTree b
    HoldsInShape (greatest a b) = HoldsInTree a × HoldsInTree b
    HoldsInShape (sum e rest) = HoldsInTree e × HoldsInTerms rest
    HoldsInShape (product e rest) = HoldsInTree e × HoldsInFactors rest
    HoldsInShape (comparison a op b) = HoldsInTree a × HoldsInTree b
    HoldsInShape (all_of es) = HoldsInTrees es
    HoldsInShape (any_of es) = HoldsInTrees es
    HoldsInShape (implication a b) = HoldsInTree a × HoldsInTree b
    HoldsInShape (equivalence a b) = HoldsInTree a × HoldsInTree b
    HoldsInShape (choice bs e) = HoldsInBranches bs × HoldsInTree e

    pub HoldsInTrees : Trees → Type 0
    HoldsInTrees no_trees = Unit {0}
    HoldsInTrees (trees e es) = HoldsInTree e × HoldsInTrees es

    pub HoldsInTerms : Terms → Type 0
    HoldsInTerms no_terms = Unit {0}
    HoldsInTerms (terms minus e ts) = HoldsInTree e × HoldsInTerms ts

    pub HoldsInFactors : Factors → Type 0
    HoldsInFactors no_factors = Unit {0}
    HoldsInFactors (factors op e fs) = HoldsInTree e × HoldsInFactors fs

    pub HoldsInBranches : Branches → Type 0
    HoldsInBranches no_branches = Unit {0}
    HoldsInBranches (branches cs e bs) = rule.of_conditions cs × HoldsInTrees cs × HoldsInTree e × HoldsInBranches bs

  abbrev pub HoldsInExpr : Expr → Type 0
  HoldsInExpr e = HoldsInTree (view e) × rule.of_expression (view e)

  -- ---- updates

  -- each of the expressions is no part of another
  abbrev pub HoldsInWholes : Trees → Type 0
  HoldsInWholes no_trees = Unit {0}
  HoldsInWholes (trees e es) = HoldsInTree e × rule.of_expression e × HoldsInWholes es

  abbrev mutual
    pub HoldsInUpdateTree : UpdateTree → Type 0
    HoldsInUpdateTree (assignment x e) = rule.of_name x × HoldsInTree e × rule.of_expression e
    HoldsInUpdateTree (selection bs us) = HoldsInUpdateBranches bs × HoldsInUpdateTrees us

    pub HoldsInUpdateTrees : UpdateTrees → Type 0
    HoldsInUpdateTrees no_updates = Unit {0}
    HoldsInUpdateTrees (updates u us) = HoldsInUpdateTree u × HoldsInUpdateTrees us

    pub HoldsInUpdateBranches : UpdateBranches → Type 0
    HoldsInUpdateBranches no_update_branches = Unit {0}
    HoldsInUpdateBranches (update_branches cs us bs) = rule.of_conditions cs × HoldsInWholes cs × HoldsInUpdateTrees us × HoldsInUpdateBranches bs

  abbrev pub HoldsInUpdate : Update → Type 0
  HoldsInUpdate u = HoldsInUpdateTree (view_update u) × rule.of_update (view_update u)

  -- ---- declarations

  abbrev pub HoldsInTypeUse : TypeUse → Type 0
  HoldsInTypeUse type_use.Bool = Unit {0}
  HoldsInTypeUse type_use.Int = Unit {0}
  HoldsInTypeUse (type_use.Range lower upper) = HoldsInExpr lower × HoldsInExpr upper
  HoldsInTypeUse (type_use.Named name) = rule.of_name name

  abbrev pub HoldsInChan : Chan → Type 0
  HoldsInChan chan.No = Unit {0}
  HoldsInChan chan.Void = Unit {0}
  HoldsInChan (chan.Of ty) = HoldsInTypeUse ty

  abbrev pub HoldsInInv : Inv → Type 0
  HoldsInInv (inv.State p) = HoldsInExpr p
  HoldsInInv (inv.Needs events p) = AllByRecursion rule.of_name events × HoldsInExpr p
  HoldsInInv (inv.Disables p events) = HoldsInExpr p × AllByRecursion rule.of_name events

  abbrev pub HoldsInDecl : Decl → Type 0
  HoldsInDecl (decl.TypeName name ty) = HoldsInTypeUse ty
  HoldsInDecl (decl.Enum name literals) = rule.of_literals literals
  HoldsInDecl (decl.Event class c name) = HoldsInChan c
  HoldsInDecl (decl.Const ty name value) = HoldsInTypeUse ty × HoldsInExpr value
  HoldsInDecl (decl.Alg ty name value) = HoldsInTypeUse ty × IfSome value HoldsInExpr
  HoldsInDecl (decl.Input ty name) = HoldsInTypeUse ty
  HoldsInDecl (decl.Disc ty name value) = HoldsInTypeUse ty × IfSome value HoldsInExpr
  HoldsInDecl (decl.Equation name value) = HoldsInExpr value
  HoldsInDecl (decl.Inv i) = HoldsInInv i
  HoldsInDecl (decl.Marked p) = HoldsInExpr p

  abbrev pub HoldsInParam : Param → Type 0
  HoldsInParam (param.Event class c name) = HoldsInChan c
  HoldsInParam (param.Alg ty name) = HoldsInTypeUse ty
  HoldsInParam (param.Location name) = Unit {0}

  -- ---- automata

  abbrev pub HoldsInRole : Role → Type 0
  HoldsInRole role.Sync = Unit {0}
  HoldsInRole (role.Send value) = IfSome value HoldsInExpr
  HoldsInRole role.Recv = Unit {0}

  abbrev pub HoldsInEventUse : EventUse → Type 0
  HoldsInEventUse u = rule.of_name u.name × HoldsInRole u.role

  abbrev pub HoldsInEdge : Edge → Type 0
  HoldsInEdge e = AllByRecursion HoldsInEventUse e.uses × AllByRecursion HoldsInExpr e.guards × AllByRecursion HoldsInUpdate e.updates

  abbrev pub HoldsInLocEquation : LocEquation → Type 0
  HoldsInLocEquation e = HoldsInExpr e.value

  abbrev pub HoldsInLoc : Loc → Type 0
  HoldsInLoc l = AllByRecursion HoldsInExpr l.marked × AllByRecursion HoldsInLocEquation l.equations × AllByRecursion HoldsInEdge l.edges

  abbrev pub HoldsInAutoBody : AutoBody → Type 0
  HoldsInAutoBody b = AllByRecursion HoldsInDecl b.decls × IfSome b.alphabet (AllByRecursion rule.of_name)
      × IfSome b.monitor (AllByRecursion rule.of_name) × AllByRecursion HoldsInLoc b.locs

  -- ---- components

  abbrev pub HoldsInInst : Inst → Type 0
  HoldsInInst i = rule.of_name i.def × AllByRecursion HoldsInExpr i.args

  abbrev mutual
    pub HoldsInItemTree : ItemTree → Type 0
    HoldsInItemTree (declaration d) = HoldsInDecl d
    HoldsInItemTree (component name body) = HoldsInBodyTree body
    HoldsInItemTree (definition name params body) = AllByRecursion HoldsInParam params × HoldsInBodyTree body
    HoldsInItemTree (instance i) = HoldsInInst i

    pub HoldsInItemTrees : ItemTrees → Type 0
    HoldsInItemTrees no_items = Unit {0}
    HoldsInItemTrees (items i more) = HoldsInItemTree i × HoldsInItemTrees more

    pub HoldsInBodyTree : BodyTree → Type 0
    HoldsInBodyTree (group is) = HoldsInItemTrees is
    HoldsInBodyTree (automaton a) = HoldsInAutoBody a

  abbrev pub HoldsInBody : Body → Type 0
  HoldsInBody b = HoldsInBodyTree (view_body b)

  abbrev pub HoldsInItem : Item → Type 0
  HoldsInItem i = HoldsInItemTree (view_item i)

  abbrev pub HoldsInSpec : Spec → Type 0
  HoldsInSpec s = HoldsInItemTrees (view_items s.items)
