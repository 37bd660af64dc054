-- What holds in updates, edges, locations and the bodies of automata, each of which counts at most as many parts as it has
-- tokens, and how deep the updates are.
use Rattle.std.proofs.Common.{◌≡◌, ℕ, zero, suc, ◌+◌, ◌≤◌, List, [], ◌∷◌, length, Option, Some, None, IfSome, refl, sym, ap, subst, ◌∙◌, arith}
use Rattle.std.specs.List.{AllByRecursion, sum_by, last_or}
use Rattle.std.proofs.lemmas.List.Sums.{sum_by-append, sum_by-cons}
use Rattle.grammar.specs.Pieces.{Text}
use Rattle.grammar.specs.Lang.{Lang}
use Rattle.cif_lex.specs.declared.token.Token.{Token}
use Rattle.cif_lex.specs.declared.token.Word.TheVariants as w
use Rattle.cif_lex.specs.declared.token.Mark.TheVariants as m
use Rattle.cif_ast.specs.Tree.{Trees, UpdateTree, UpdateTrees}
use Rattle.cif_ast.specs.View.{view_exprs, view_update, view_updates, view_update_branch, view_update_branches}
use Rattle.cif_ast.specs.Depth.{update_depth, updates_depth, update_branches_depth}
use Rattle.cif_ast.specs.Countable.{count_of_decl, count_of_update, count_of_update_tree, count_of_update_trees, count_of_update_branches, count_of_edge, count_of_loc_name, count_of_loc, count_of_auto_body}
use Rattle.cif_ast.specs.Throughout.{Rule, HoldsInExpr, HoldsInWholes, HoldsInUpdateTree, HoldsInUpdateTrees, HoldsInUpdateBranches, HoldsInUpdate, HoldsInDecl, HoldsInRole, HoldsInEventUse, HoldsInEdge, HoldsInLocEquation, HoldsInLoc, HoldsInAutoBody}
use Rattle.cif_ast.proofs.ThroughoutLemmas.{all-append, holds_in_wholes}
use Rattle.cif_ast.proofs.ViewLemmas as views
use Rattle.cif_ast.specs.declared.names.Ident.{Ident}
use Rattle.cif_ast.specs.declared.names.Name.{Name}
use Rattle.cif_ast.specs.declared.expressions.Expr.{Expr}
use Rattle.cif_ast.specs.declared.edges.Update.{Update}
use Rattle.cif_ast.specs.declared.edges.Update.TheVariants as update
use Rattle.cif_ast.specs.declared.edges.UpdateBranch.{UpdateBranch, roll-UpdateBranch}
use Rattle.cif_ast.specs.declared.edges.EventUse.{EventUse}
use Rattle.cif_ast.specs.declared.edges.Role.{Role}
use Rattle.cif_ast.specs.declared.edges.Role.TheVariants as role
use Rattle.cif_parse_expr.specs.Grammar.{max_depth, separated, expr_list}
use Rattle.cif_parse.specs.declared.elements.Element.{Element}
use Rattle.cif_parse.specs.declared.elements.Element.TheVariants as element
use Rattle.cif_parse.specs.declared.bodies.BodyElement.{BodyElement}
use Rattle.cif_parse.specs.declared.bodies.BodyElement.TheVariants as body_element
use Rattle.cif_parse.specs.Trees as tree
use Rattle.cif_parse.specs.Grammar as g
use Rattle.cif_parse.proofs.Counted.{Counted, SomeAll, all-of_some, of_some, both_counted, map_counted, plain_map, either_counted, many_counted, list_counted, optional_counted, such_counted, weaker}
use Rattle.cif_parse.proofs.CountedExpressions.{Suits, some_trees, word_counted, sign_counted, second_counted, separated_all, ident_counted, name_counted, expr_counted, names_counted, expr_list_counted}
use Rattle.cif_parse.proofs.CountedDeclarations.{given_counted, given_plain, declaration_counted, disc_declaration_counted}

-- ---- updates

abbrev count_of_branch : UpdateBranch → ℕ
count_of_branch b = count_of_update_trees (view_update_branch b).1

count_of_updates : (us : List Update) → count_of_update_trees (view_updates us) ≡ sum_by count_of_update us
count_of_updates [] = refl
count_of_updates (u ∷ us) = let c = sum_by-cons count_of_update u us in let e = count_of_updates us in omega (arith, c, e)

count_of_branches : (bs : List UpdateBranch) → count_of_update_branches (view_update_branches bs) ≡ sum_by count_of_branch bs
count_of_branches [] = refl
count_of_branches (b ∷ bs) = let c = sum_by-cons count_of_branch b bs in let e = count_of_branches bs in omega (arith, c, e)

one_branch : (es : List Expr) (us : List Update) → count_of_branch (roll-UpdateBranch (record { conds = es; updates = us })) ≡ sum_by count_of_update us
one_branch es us = ap (λ (b : Trees × UpdateTrees). count_of_update_trees b.1) (views.view-update_branch es us) ∙ count_of_updates us

one_set : (x : Name) (e : Expr) → count_of_update (update.Set x e) ≡ 1
one_set x e = ap count_of_update_tree (views.view_update-Set x e)

one_choice : (bs : List UpdateBranch) (us : List Update) → count_of_update (update.If bs us) ≡ sum_by count_of_branch bs + sum_by count_of_update us
one_choice bs us =
    let e : count_of_update (update.If bs us) ≡ count_of_update_branches (view_update_branches bs) + count_of_update_trees (view_updates us) = ap count_of_update_tree (views.view_update-If bs us) in
    let f = count_of_branches bs in let k = count_of_updates us in omega (arith, e, f, k)

module _ (rule : Rule) (n : ℕ) where
  -- at most so deep
  abbrev UpdateTo : UpdateTree → Type 0
  UpdateTo u = HoldsInUpdateTree rule u × (update_depth u ≤ n)

  abbrev UpTo : Update → Type 0
  UpTo u = UpdateTo (view_update u)

  abbrev BranchUpTo : UpdateBranch → Type 0
  BranchUpTo b = rule.of_conditions (view_update_branch b).0 × HoldsInWholes rule (view_update_branch b).0 × HoldsInUpdateTrees rule (view_update_branch b).1
      × (updates_depth (view_update_branch b).1 ≤ n)

  updates_hold : (us : List Update) → AllByRecursion UpTo us → HoldsInUpdateTrees rule (view_updates us)
  updates_hold [] h = tt
  updates_hold (u ∷ us) h = (h.0.0, updates_hold us h.1)

  updates_up_to : (us : List Update) → AllByRecursion UpTo us → updates_depth (view_updates us) ≤ n
  updates_up_to [] h = omega arith
  updates_up_to (u ∷ us) h = let first = h.0.1 in let rest = updates_up_to us h.1 in omega (arith, first, rest)

  branches_hold : (bs : List UpdateBranch) → AllByRecursion BranchUpTo bs → HoldsInUpdateBranches rule (view_update_branches bs)
  branches_hold [] h = tt
  branches_hold (b ∷ bs) h = (h.0.0, h.0.1, h.0.2, branches_hold bs h.1)

  branches_up_to : (bs : List UpdateBranch) → AllByRecursion BranchUpTo bs → update_branches_depth (view_update_branches bs) ≤ n
  branches_up_to [] h = omega arith
  branches_up_to (b ∷ bs) h = let first = h.0.3 in let rest = branches_up_to bs h.1 in omega (arith, first, rest)

module _ {limit : ℕ} {rule : Rule} (suits : Suits limit rule) (text : Text) where
  set_counted : (n : ℕ) → Counted limit count_of_update (UpTo rule n) (g.set text)
  set_counted n = map_counted tree.set count_of_update (UpTo rule n)
      (λ v w. let e = one_set v.0 v.1.1 in omega (arith, e))
      (λ v w. subst (UpdateTo rule n) (sym (views.view_update-Set v.0 v.1.1)) ((w.0, w.1.1.0, w.1.1.1), omega arith))
      (both_counted (name_counted suits text) (both_counted (sign_counted m.Assign) (expr_counted suits text)))

  module _ (n : ℕ) (inner : Lang Token (List Update)) (h : Counted limit (sum_by count_of_update) (AllByRecursion (UpTo rule n)) inner) where
    branch_up_to : (es : List Expr) (us : List Update) → SomeAll (HoldsInExpr rule) es → AllByRecursion (UpTo rule n) us
        → BranchUpTo rule n (roll-UpdateBranch (record { conds = es; updates = us }))
    branch_up_to es us k l = subst (λ (b : Trees × UpdateTrees). rule.of_conditions b.0 × HoldsInWholes rule b.0 × HoldsInUpdateTrees rule b.1 × (updates_depth b.1 ≤ n))
        (sym (views.view-update_branch es us))
        (suits.of_conditions (view_exprs es) (some_trees (HoldsInExpr rule) es k), holds_in_wholes rule es (all-of_some (HoldsInExpr rule) es k), updates_hold rule n us l, updates_up_to rule n us l)

    branch_counted : Counted limit count_of_branch (BranchUpTo rule n) (g.update_branch text inner)
    branch_counted = map_counted tree.update_branch count_of_branch (BranchUpTo rule n)
        (λ v w. let e = one_branch v.0 v.1.1 in omega (arith, e))
        (λ v w. branch_up_to v.0 v.1.1 w.0 w.1.1)
        (both_counted (expr_list_counted suits text) (both_counted (sign_counted m.Colon) h))

    choice_up_to : (bs : List UpdateBranch) (us : List Update) → AllByRecursion (BranchUpTo rule n) bs → AllByRecursion (UpTo rule n) us → UpTo rule (suc n) (update.If bs us)
    choice_up_to bs us k l =
        let first = branches_up_to rule n bs k in
        let other = updates_up_to rule n us l in
        subst (UpdateTo rule (suc n)) (sym (views.view_update-If bs us)) ((branches_hold rule n bs k, updates_hold rule n us l), omega (arith, first, other))

    choice_counted : Counted limit count_of_update (UpTo rule (suc n)) (g.choice text inner)
    choice_counted = map_counted tree.choice count_of_update (UpTo rule (suc n))
        (λ v w. let e = one_choice v.1.0 v.1.1.0 in omega (arith, e))
        (λ v w. choice_up_to v.1.0 v.1.1.0 (all-of_some (BranchUpTo rule n) v.1.0 w.1.0) w.1.1.0)
        (both_counted (word_counted w.If)
        (both_counted (list_counted branch_counted (second_counted (word_counted w.Elif) branch_counted))
        (both_counted (given_counted count_of_update (UpTo rule n) (second_counted (word_counted w.Else) h)) (word_counted w.End))))

  update_up_to : (n : ℕ) → Counted limit count_of_update (UpTo rule n) (g.update text n)
  unfolding g.update
  update_up_to zero = set_counted zero
  update_up_to (suc n) = either_counted (set_counted (suc n)) (choice_counted n (separated m.Comma (g.update text n)) (separated_all m.Comma (update_up_to n)))

  update_counted : Counted limit count_of_update (HoldsInUpdate rule) (g.update text max_depth)
  update_counted = weaker count_of_update (HoldsInUpdate rule) (λ u w. omega arith) (λ u w. (w.0, suits.of_update (view_update u) w.1)) (update_up_to max_depth)

  -- ---- edges

  role_holds : (o : Option Role) → IfSome o (HoldsInRole rule) → HoldsInRole rule (tree.role_or o)
  role_holds None h = tt
  role_holds (Some r) h = h

  role_counted : Counted limit (λ (r : Role). 0) (HoldsInRole rule) (g.role text)
  role_counted = either_counted (plain_map (λ v. role.Send v.1) (HoldsInRole rule) (λ v w. w.1) (both_counted (sign_counted m.Exclamation) (optional_counted (expr_counted suits text))))
      (plain_map (λ t. role.Recv) (HoldsInRole rule) (λ t w. tt) (sign_counted m.Question))

  event_use_counted : Counted limit (λ (u : EventUse). 0) (HoldsInEventUse rule) (g.event_use text)
  event_use_counted = plain_map tree.event_use (HoldsInEventUse rule) (λ v w. (w.0, role_holds v.1 w.1)) (both_counted (name_counted suits text) (optional_counted role_counted))

  pub guards_counted : Counted limit (λ (es : List Expr). 0) (AllByRecursion (HoldsInExpr rule)) (expr_list text)
  guards_counted = weaker (λ es. 0) (AllByRecursion (HoldsInExpr rule)) (λ es w. omega arith) (all-of_some (HoldsInExpr rule)) (expr_list_counted suits text)

  edge_end_counted : Counted limit (λ (v : List Update × Option Ident). sum_by count_of_update v.0) (λ (v : List Update × Option Ident). AllByRecursion (HoldsInUpdate rule) v.0) (g.edge_end text)
  edge_end_counted = map_counted (λ v. (v.0, v.1.0)) (λ v. sum_by count_of_update v.0) (λ v. AllByRecursion (HoldsInUpdate rule) v.0) (λ v w. omega arith) (λ v w. w.0)
      (both_counted (given_counted count_of_update (HoldsInUpdate rule) (second_counted (word_counted w.«Do») (separated_all m.Comma update_counted)))
      (both_counted (optional_counted (second_counted (word_counted w.Goto) (ident_counted suits text))) (sign_counted m.Semicolon)))

  edge_counted : Counted limit count_of_edge (HoldsInEdge rule) (g.edge text)
  edge_counted = map_counted tree.edge count_of_edge (HoldsInEdge rule) (λ v w. omega arith) (λ v w. (w.1.0, w.1.1.0, w.1.1.1))
      (both_counted (word_counted w.Edge) (both_counted (separated_all m.Comma event_use_counted)
      (both_counted (given_plain (HoldsInExpr rule) (second_counted (word_counted w.When) guards_counted)) edge_end_counted)))

-- ---- locations

abbrev count_of_element : Element → ℕ
count_of_element element.Initial = 0
count_of_element (element.Marked ps) = 0
count_of_element (element.Equation e) = 1
count_of_element (element.Edge e) = count_of_edge e

count_of_elements : (es : List Element) → length (tree.equations_of es) + sum_by count_of_edge (tree.edges_of es) ≡ sum_by count_of_element es
count_of_elements [] = refl
count_of_elements (element.Initial ∷ es) = let c = sum_by-cons count_of_element element.Initial es in let e = count_of_elements es in omega (arith, c, e)
count_of_elements (element.Marked ps ∷ es) = let c = sum_by-cons count_of_element (element.Marked ps) es in let e = count_of_elements es in omega (arith, c, e)
count_of_elements (element.Equation q ∷ es) = let c = sum_by-cons count_of_element (element.Equation q) es in let e = count_of_elements es in omega (arith, c, e)
count_of_elements (element.Edge q ∷ es) =
    let c = sum_by-cons count_of_element (element.Edge q) es in
    let k = sum_by-cons count_of_edge q (tree.edges_of es) in
    let e = count_of_elements es in
    omega (arith, c, k, e)

named_once : (name : Option Ident) → count_of_loc_name name ≤ of_some (λ (i : Ident). 1) name
named_once None = omega arith
named_once (Some i) = omega arith

module _ (rule : Rule) where
  abbrev HoldsInElement : Element → Type 0
  HoldsInElement element.Initial = Unit {0}
  HoldsInElement (element.Marked ps) = AllByRecursion (HoldsInExpr rule) ps
  HoldsInElement (element.Equation e) = HoldsInLocEquation rule e
  HoldsInElement (element.Edge e) = HoldsInEdge rule e

  markings_hold : (es : List Element) → AllByRecursion HoldsInElement es → AllByRecursion (HoldsInExpr rule) (tree.markings_of es)
  markings_hold [] h = tt
  markings_hold (element.Initial ∷ es) h = markings_hold es h.1
  markings_hold (element.Marked ps ∷ es) h = all-append (HoldsInExpr rule) ps (tree.markings_of es) h.0 (markings_hold es h.1)
  markings_hold (element.Equation q ∷ es) h = markings_hold es h.1
  markings_hold (element.Edge q ∷ es) h = markings_hold es h.1

  equations_hold : (es : List Element) → AllByRecursion HoldsInElement es → AllByRecursion (HoldsInLocEquation rule) (tree.equations_of es)
  equations_hold [] h = tt
  equations_hold (element.Initial ∷ es) h = equations_hold es h.1
  equations_hold (element.Marked ps ∷ es) h = equations_hold es h.1
  equations_hold (element.Equation q ∷ es) h = (h.0, equations_hold es h.1)
  equations_hold (element.Edge q ∷ es) h = equations_hold es h.1

  edges_hold : (es : List Element) → AllByRecursion HoldsInElement es → AllByRecursion (HoldsInEdge rule) (tree.edges_of es)
  edges_hold [] h = tt
  edges_hold (element.Initial ∷ es) h = edges_hold es h.1
  edges_hold (element.Marked ps ∷ es) h = edges_hold es h.1
  edges_hold (element.Equation q ∷ es) h = edges_hold es h.1
  edges_hold (element.Edge q ∷ es) h = (h.0, edges_hold es h.1)

module _ {limit : ℕ} {rule : Rule} (suits : Suits limit rule) (text : Text) where
  element_counted : Counted limit count_of_element (HoldsInElement rule) (g.element text)
  element_counted =
      either_counted (map_counted (λ v. element.Initial) count_of_element (HoldsInElement rule) (λ v w. omega arith) (λ v w. tt)
      (both_counted (word_counted w.Initial) (both_counted (optional_counted (word_counted w.True)) (sign_counted m.Semicolon))))
      (either_counted (map_counted (λ v. element.Marked v.1.0) count_of_element (HoldsInElement rule) (λ v w. omega arith) (λ v w. w.1.0)
      (both_counted (word_counted w.Marked) (both_counted (given_plain (HoldsInExpr rule) (guards_counted suits text)) (sign_counted m.Semicolon))))
      (either_counted (map_counted tree.equation count_of_element (HoldsInElement rule) (λ v w. omega arith) (λ v w. w.1.1.1.0)
      (both_counted (word_counted w.Equation) (both_counted (ident_counted suits text) (both_counted (sign_counted m.Equal) (both_counted (expr_counted suits text) (sign_counted m.Semicolon))))))
      (map_counted element.Edge count_of_element (HoldsInElement rule) (λ e w. omega arith) (λ e w. w) (edge_counted suits text))))

  location_counted : Counted limit count_of_loc (HoldsInLoc rule) (g.location text)
  unfolding tree.location_of
  location_counted = map_counted tree.location count_of_loc (HoldsInLoc rule)
      (λ v w. let e = count_of_elements v.1.1 in let k = named_once v.1.0 in omega (arith, e, k))
      (λ v w. (markings_hold rule v.1.1 w.1.1, equations_hold rule v.1.1 w.1.1, edges_hold rule v.1.1 w.1.1))
      (both_counted (word_counted w.Location) (both_counted (optional_counted (ident_counted suits text))
      (either_counted (map_counted (λ t. []) (sum_by count_of_element) (AllByRecursion (HoldsInElement rule)) (λ t w. omega arith) (λ t w. tt) (sign_counted m.Semicolon))
      (second_counted (sign_counted m.Colon) (many_counted element_counted)))))

-- ---- bodies of automata

abbrev count_of_body_element : BodyElement → ℕ
count_of_body_element (body_element.Decls ds) = sum_by count_of_decl ds
count_of_body_element (body_element.Alphabet ns) = 0
count_of_body_element (body_element.Monitor ns) = 0

count_of_body_elements : (ps : List BodyElement) → sum_by count_of_decl (tree.declarations_of ps) ≡ sum_by count_of_body_element ps
count_of_body_elements [] = refl
count_of_body_elements (body_element.Decls ds ∷ ps) =
    let c = sum_by-cons count_of_body_element (body_element.Decls ds) ps in
    let e = count_of_body_elements ps in
    let k = sum_by-append count_of_decl ds (tree.declarations_of ps) in
    omega (arith, c, e, k)
count_of_body_elements (body_element.Alphabet ns ∷ ps) = let c = sum_by-cons count_of_body_element (body_element.Alphabet ns) ps in let e = count_of_body_elements ps in omega (arith, c, e)
count_of_body_elements (body_element.Monitor ns ∷ ps) = let c = sum_by-cons count_of_body_element (body_element.Monitor ns) ps in let e = count_of_body_elements ps in omega (arith, c, e)

module _ (rule : Rule) where
  abbrev HoldsInBodyElement : BodyElement → Type 0
  HoldsInBodyElement (body_element.Decls ds) = AllByRecursion (HoldsInDecl rule) ds
  HoldsInBodyElement (body_element.Alphabet ns) = AllByRecursion rule.of_name ns
  HoldsInBodyElement (body_element.Monitor ns) = AllByRecursion rule.of_name ns

  declarations_hold : (ps : List BodyElement) → AllByRecursion HoldsInBodyElement ps → AllByRecursion (HoldsInDecl rule) (tree.declarations_of ps)
  declarations_hold [] h = tt
  declarations_hold (body_element.Decls ds ∷ ps) h = all-append (HoldsInDecl rule) ds (tree.declarations_of ps) h.0 (declarations_hold ps h.1)
  declarations_hold (body_element.Alphabet ns ∷ ps) h = declarations_hold ps h.1
  declarations_hold (body_element.Monitor ns ∷ ps) h = declarations_hold ps h.1

  alphabets_hold : (ps : List BodyElement) → AllByRecursion HoldsInBodyElement ps → AllByRecursion (AllByRecursion rule.of_name) (tree.alphabets_of ps)
  alphabets_hold [] h = tt
  alphabets_hold (body_element.Decls ds ∷ ps) h = alphabets_hold ps h.1
  alphabets_hold (body_element.Alphabet ns ∷ ps) h = (h.0, alphabets_hold ps h.1)
  alphabets_hold (body_element.Monitor ns ∷ ps) h = alphabets_hold ps h.1

  monitors_hold : (ps : List BodyElement) → AllByRecursion HoldsInBodyElement ps → AllByRecursion (AllByRecursion rule.of_name) (tree.monitors_of ps)
  monitors_hold [] h = tt
  monitors_hold (body_element.Decls ds ∷ ps) h = monitors_hold ps h.1
  monitors_hold (body_element.Alphabet ns ∷ ps) h = monitors_hold ps h.1
  monitors_hold (body_element.Monitor ns ∷ ps) h = (h.0, monitors_hold ps h.1)

last_holds : {A : Type 0} (P : A → Type 0) (o : Option A) (all : List A) → IfSome o P → AllByRecursion P all → IfSome (last_or o all) P
last_holds P o [] k h = k
last_holds P o (a ∷ more) k h = last_holds P (Some a) more h.0 h.1

module _ {limit : ℕ} {rule : Rule} (suits : Suits limit rule) (text : Text) where
  body_element_counted : Counted limit count_of_body_element (HoldsInBodyElement rule) (g.body_element text)
  body_element_counted =
      either_counted (map_counted body_element.Decls count_of_body_element (HoldsInBodyElement rule) (λ ds w. omega arith) (λ ds w. w) (declaration_counted suits text))
      (either_counted (map_counted body_element.Decls count_of_body_element (HoldsInBodyElement rule) (λ ds w. omega arith) (λ ds w. w) (disc_declaration_counted suits text))
      (either_counted (map_counted (λ v. body_element.Alphabet v.1.0) count_of_body_element (HoldsInBodyElement rule) (λ v w. omega arith) (λ v w. w.1.0)
      (both_counted (word_counted w.Alphabet) (both_counted (given_plain rule.of_name (names_counted suits text)) (sign_counted m.Semicolon))))
      (map_counted (λ v. body_element.Monitor v.1.0) count_of_body_element (HoldsInBodyElement rule) (λ v w. omega arith) (λ v w. w.1.0)
      (both_counted (word_counted w.Monitor) (both_counted (given_plain rule.of_name (names_counted suits text)) (sign_counted m.Semicolon))))))

  names_hold : (nss : List (List Name)) → AllByRecursion (AllByRecursion rule.of_name) nss → IfSome (last_or None nss) (AllByRecursion rule.of_name)
  names_hold nss h = last_holds (AllByRecursion rule.of_name) None nss tt h

  pub automaton_body_counted : Counted limit count_of_auto_body (HoldsInAutoBody rule) (g.automaton_body text)
  unfolding tree.automaton_of
  automaton_body_counted = map_counted tree.automaton_body count_of_auto_body (HoldsInAutoBody rule)
      (λ v w. let e = count_of_body_elements v.0 in omega (arith, e))
      (λ v w. (declarations_hold rule v.0 w.1.0, names_hold (tree.alphabets_of v.0) (alphabets_hold rule v.0 w.1.0), names_hold (tree.monitors_of v.0) (monitors_hold rule v.0 w.1.0), all-of_some (HoldsInLoc rule) v.1 w.1.1))
      (such_counted tree.is_automaton (both_counted (many_counted body_element_counted) (list_counted (location_counted suits text) (location_counted suits text))))
