-- What holds in the tree of a text: it can be counted, since each counted part has a token of its own and each token a byte;
-- its numbers are small; and it is no deeper than the grammar allows.
use Rattle.std.proofs.Common.{◌≡◌, ℕ, zero, suc, ◌+◌, ◌<◌, ◌≤◌, ◌^◌, List, [], ◌∷◌, map, length, refl, sym, ap, subst, ◌∙◌, arith}
use Rattle.std.specs.List.{AllByRecursion, sum_by}
use Rattle.std.proofs.lemmas.List.Sums.{sum_by-cons}
use Rattle.grammar.specs.Pieces.{Text}
use Rattle.grammar.specs.Lang.{Lang, ◌&◌, ◌<$>◌, many, flat}
use Rattle.cif_lex.specs.declared.token.Token.{Token}
use Rattle.cif_lex.specs.declared.token.Word.TheVariants as w
use Rattle.cif_lex.specs.declared.token.Mark.TheVariants as m
use Rattle.cif_lex.specs.Tokens.{SpansRise}
use Rattle.cif_lex.proofs.TokenLaws.{spans_rise_in}
use Rattle.cif_ast.specs.Tree.{ItemTree, BodyTree}
use Rattle.cif_ast.specs.View.{view_body, view_item, view_items}
use Rattle.cif_ast.specs.Depth.{levels_of_item, levels_of_items, levels_of_body}
use Rattle.cif_ast.specs.Countable.{count_of_decl, count_of_param, count_of_auto_body, count_of_item_tree, count_of_item_trees, count_of_body_tree, count_of_body, count_of_item, whole_parts, IsCountable}
use Rattle.cif_ast.specs.Throughout.{Rule, HoldsInExpr, HoldsInDecl, HoldsInItemTree, HoldsInItemTrees, HoldsInBodyTree, HoldsInSpec}
use Rattle.cif_ast.specs.SmallNumbers.{small_parts, HasSmallNumbers}
use Rattle.cif_ast.specs.Shallow.{shallow_parts, IsShallow}
use Rattle.cif_ast.proofs.ViewLemmas as views
use Rattle.cif_ast.specs.declared.names.Ident.{Ident}
use Rattle.cif_ast.specs.declared.expressions.Expr.{Expr}
use Rattle.cif_ast.specs.declared.declarations.Decl.{Decl}
use Rattle.cif_ast.specs.declared.declarations.Param.{Param}
use Rattle.cif_ast.specs.declared.components.AutoBody.{AutoBody}
use Rattle.cif_ast.specs.declared.components.Inst.{Inst}
use Rattle.cif_ast.specs.declared.components.Body.{Body}
use Rattle.cif_ast.specs.declared.components.Body.TheVariants as body
use Rattle.cif_ast.specs.declared.components.Item.{Item}
use Rattle.cif_ast.specs.declared.components.Item.TheVariants as item
use Rattle.cif_ast.specs.declared.components.Spec.{Spec}
use Rattle.cif_parse_decl.specs.Reading.{kind_first}
use Rattle.cif_parse_decl.specs.Trees.{single}
use Rattle.cif_parse_decl.specs.Grammar.{declaration, parameters}
use Rattle.cif_parse_expr.specs.TokenKinds.{word}
use Rattle.cif_parse_expr.specs.Grammar.{ident}
use Rattle.cif_parse.specs.Trees as tree
use Rattle.cif_parse.specs.Grammar as g
use Rattle.cif_parse.specs.Grammar.{Reads}
use Rattle.cif_parse.proofs.Counted.{Counted, both_counted, map_counted, plain_map, either_counted, many_counted, optional_counted, flat_counted, sum_by-flat, all-flat}
use Rattle.cif_parse.proofs.CountedExpressions.{Suits, word_counted, sign_counted, one_of_counted, ident_counted, name_counted}
use Rattle.cif_parse.proofs.CountedDeclarations.{given_plain, single_counted, declaration_counted, parameters_counted}
use Rattle.cif_parse.proofs.CountedAutomata.{guards_counted, automaton_body_counted}

-- ---- counts of components

count_of_all : (is : List Item) → count_of_item_trees (view_items is) ≡ sum_by count_of_item is
count_of_all [] = refl
count_of_all (i ∷ is) = let c = sum_by-cons count_of_item i is in let e = count_of_all is in omega (arith, c, e)

one_group : (is : List Item) → count_of_body (body.Group is) ≡ sum_by count_of_item is
one_group is = ap count_of_body_tree (views.view_body-Group is) ∙ count_of_all is

one_automaton : (a : AutoBody) → count_of_body (body.Auto a) ≡ count_of_auto_body a
one_automaton a = ap count_of_body_tree (views.view_body-Auto a)

one_component : (name : Ident) (b : Body) → count_of_item (tree.component_item name b) ≡ 2 + count_of_body b
one_component name b = ap count_of_item_tree (views.view_item-Comp name b)

one_definition : (name : Ident) (params : List Param) (b : Body) → count_of_item (tree.definition_item name params b) ≡ 2 + sum_by count_of_param params + count_of_body b
one_definition name params b = ap count_of_item_tree (views.view_item-Def name params b)

one_instance : (i : Inst) → count_of_item (item.Inst i) ≡ 1
one_instance i = ap count_of_item_tree (views.view_item-Inst i)

one_declaration : (d : Decl) → count_of_item (item.Decl d) ≡ count_of_decl d
one_declaration d = ap count_of_item_tree (views.view_item-Decl d)

count_of_declared : (ds : List Decl) → sum_by count_of_item (map item.Decl ds) ≡ sum_by count_of_decl ds
count_of_declared [] = refl
count_of_declared (d ∷ ds) =
    let b = sum_by-cons count_of_item (item.Decl d) (map item.Decl ds) in
    let c = sum_by-cons count_of_decl d ds in
    let e = count_of_declared ds in
    let k = one_declaration d in
    omega (arith, b, c, e, k)

automaton_counted : {limit : ℕ} → Counted limit (λ (t : Token). 1) (λ (t : Token). Unit {0}) g.automaton
automaton_counted = either_counted (word_counted w.Automaton)
    (map_counted (λ v. v.0) (λ t. 1) (λ t. Unit {0}) (λ v w. omega arith) (λ v w. tt) (both_counted (one_of_counted kind_first) (optional_counted (word_counted w.Automaton))))

-- ---- what holds in components with at most so many levels

module _ (rule : Rule) (n : ℕ) where
  abbrev BodyTo : BodyTree → Type 0
  BodyTo b = HoldsInBodyTree rule b × (levels_of_body b ≤ n)

  abbrev ItemTo : ItemTree → Type 0
  ItemTo i = HoldsInItemTree rule i × (levels_of_item i ≤ n)

  abbrev BodyUpTo : Body → Type 0
  BodyUpTo b = BodyTo (view_body b)

  abbrev UpTo : Item → Type 0
  UpTo i = ItemTo (view_item i)

  items_hold : (is : List Item) → AllByRecursion UpTo is → HoldsInItemTrees rule (view_items is)
  items_hold [] h = tt
  items_hold (i ∷ is) h = (h.0.0, items_hold is h.1)

  items_up_to : (is : List Item) → AllByRecursion UpTo is → levels_of_items (view_items is) ≤ n
  items_up_to [] h = omega arith
  items_up_to (i ∷ is) h = let first = h.0.1 in let rest = items_up_to is h.1 in omega (arith, first, rest)

  declared_up_to : (ds : List Decl) → AllByRecursion (HoldsInDecl rule) ds → AllByRecursion UpTo (map item.Decl ds)
  declared_up_to [] h = tt
  declared_up_to (d ∷ ds) h = (subst ItemTo (sym (views.view_item-Decl d)) (h.0, omega arith), declared_up_to ds h.1)

module _ {limit : ℕ} {rule : Rule} (suits : Suits limit rule) (text : Text) where
  automaton_end_counted : (n : ℕ) → Counted limit count_of_body (BodyUpTo rule n) (g.automaton_end text)
  automaton_end_counted n = map_counted tree.body_of_automaton count_of_body (BodyUpTo rule n)
      (λ v w. let e = one_automaton v.1.0 in omega (arith, e)) (λ v w. subst (BodyTo rule n) (sym (views.view_body-Auto v.1.0)) (w.1.0, omega arith))
      (both_counted (sign_counted m.Colon) (both_counted (automaton_body_counted suits text) (word_counted w.End)))

  arguments_counted : Counted limit (λ (es : List Expr). 0) (AllByRecursion (HoldsInExpr rule)) (g.arguments text)
  arguments_counted = plain_map (λ v. v.0) (AllByRecursion (HoldsInExpr rule)) (λ v w. w.0)
      (both_counted (given_plain (HoldsInExpr rule) (guards_counted suits text)) (both_counted (sign_counted m.CloseParen) (sign_counted m.Semicolon)))

  instance_counted : (n : ℕ) → Counted limit count_of_item (UpTo rule n) (g.instance text)
  instance_counted n = map_counted tree.instance count_of_item (UpTo rule n)
      (λ v w. let e = one_instance (record { name = v.0; def = v.1.1.0; args = v.1.1.1.1 }) in omega (arith, e))
      (λ v w. subst (ItemTo rule n) (sym (views.view_item-Inst (record { name = v.0; def = v.1.1.0; args = v.1.1.1.1 }))) ((w.1.1.0, w.1.1.1.1), omega arith))
      (both_counted (ident_counted suits text) (both_counted (sign_counted m.Colon) (both_counted (name_counted suits text) (both_counted (sign_counted m.OpenParen) arguments_counted))))

  module _ (n : ℕ) (inner : Lang Token (List Item)) (h : Counted limit (sum_by count_of_item) (AllByRecursion (UpTo rule n)) inner) where
    group_end_counted : Counted limit count_of_body (BodyUpTo rule n) (g.group_end text inner)
    group_end_counted = map_counted tree.group_body count_of_body (BodyUpTo rule n)
        (λ v w. let e = one_group v.1.0 in omega (arith, e))
        (λ v w. subst (BodyTo rule n) (sym (views.view_body-Group v.1.0)) (items_hold rule n v.1.0 w.1.0, items_up_to rule n v.1.0 w.1.0))
        (both_counted (sign_counted m.Colon) (both_counted h (word_counted w.End)))

    named_counted : {t : Lang Token Token} {p : Lang Token Body} → Counted limit (λ (t : Token). 1) (λ (t : Token). Unit {0}) t → Counted limit count_of_body (BodyUpTo rule n) p
        → Counted limit count_of_item (UpTo rule (suc n)) (tree.component <$> t & ident text & p)
    named_counted h k = map_counted tree.component count_of_item (UpTo rule (suc n))
        (λ v w. let e = one_component v.1.0 v.1.1 in omega (arith, e))
        (λ v w. let l = w.1.1.1 in subst (ItemTo rule (suc n)) (sym (views.view_item-Comp v.1.0 v.1.1)) (w.1.1.0, omega (arith, l)))
        (both_counted h (both_counted (ident_counted suits text) k))

    defined_counted : {t : Lang Token Token} {p : Lang Token Body} → Counted limit (λ (t : Token). 1) (λ (t : Token). Unit {0}) t → Counted limit count_of_body (BodyUpTo rule n) p
        → Counted limit count_of_item (UpTo rule (suc n)) (tree.definition <$> t & word w.Def & ident text & parameters text & p)
    defined_counted h k = map_counted tree.definition count_of_item (UpTo rule (suc n))
        (λ v w. let e = one_definition v.1.1.0 v.1.1.1.0 v.1.1.1.1 in omega (arith, e))
        (λ v w. let l = w.1.1.1.1.1 in subst (ItemTo rule (suc n)) (sym (views.view_item-Def v.1.1.0 v.1.1.1.0 v.1.1.1.1)) ((w.1.1.1.0, w.1.1.1.1.0), omega (arith, l)))
        (both_counted h (both_counted (word_counted w.Def) (both_counted (ident_counted suits text) (both_counted (parameters_counted suits text) k))))

    component_counted : Counted limit count_of_item (UpTo rule (suc n)) (g.component text inner)
    component_counted = either_counted (named_counted (word_counted w.Group) group_end_counted) (named_counted automaton_counted (automaton_end_counted n))

    definition_counted : Counted limit count_of_item (UpTo rule (suc n)) (g.definition text inner)
    definition_counted = either_counted (defined_counted (word_counted w.Group) group_end_counted) (defined_counted automaton_counted (automaton_end_counted n))

  -- ---- items and sources

  alone : (n : ℕ) {p : Lang Token Item} → Counted limit count_of_item (UpTo rule n) p → Counted limit (sum_by count_of_item) (AllByRecursion (UpTo rule n)) (single <$> p)
  alone n h = single_counted (λ i. i) count_of_item (UpTo rule n) (λ i w. omega arith) (λ i w. w) h

  declarations_counted : (n : ℕ) → Counted limit (sum_by count_of_item) (AllByRecursion (UpTo rule n)) (map item.Decl <$> declaration text)
  declarations_counted n = map_counted (map item.Decl) (sum_by count_of_item) (AllByRecursion (UpTo rule n))
      (λ ds w. let e = count_of_declared ds in omega (arith, e)) (declared_up_to rule n) (declaration_counted suits text)

  item_counted : (n : ℕ) → Counted limit (sum_by count_of_item) (AllByRecursion (UpTo rule n)) (g.item text n)
  unfolding g.item
  item_counted zero = either_counted (declarations_counted zero) (alone zero (instance_counted zero))
  item_counted (suc n) =
      let inside : Counted limit (sum_by count_of_item) (AllByRecursion (UpTo rule n)) (flat <$> many (g.item text n)) = flat_counted count_of_item (UpTo rule n) (many_counted (item_counted n)) in
      either_counted (declarations_counted (suc n))
      (either_counted (alone (suc n) (component_counted n (flat <$> many (g.item text n)) inside))
      (either_counted (alone (suc n) (definition_counted n (flat <$> many (g.item text n)) inside))
      (alone (suc n) (instance_counted (suc n)))))

  abbrev SpecUpTo : ℕ → Spec → Type 0
  SpecUpTo n s = HoldsInSpec rule s × (levels_of_items (view_items s.items) ≤ n)

  specification_counted : Counted limit (λ (s : Spec). sum_by count_of_item s.items) (SpecUpTo 101) (g.specification text)
  unfolding g.specification
  specification_counted = map_counted (λ is. tree.specification (flat is)) (λ s. sum_by count_of_item s.items) (SpecUpTo 101)
      (λ is w. let e = sum_by-flat count_of_item is in omega (arith, e))
      (λ is w. let all = all-flat (UpTo rule 101) is w in (items_hold rule 101 (flat is) all, items_up_to rule 101 (flat is) all))
      (many_counted (item_counted 101))

-- ---- the three promises

token_bytes : (ts : List Token) (at end : ℕ) → SpansRise at ts end → at + length ts ≤ end
token_bytes [] at end h = omega (arith, h)
token_bytes (t ∷ ts) at end h = let k = token_bytes ts t.span.to end h.2 in let a = h.0 in let b = h.1 in omega (arith, a, b, k)

whole_suits : (limit : ℕ) → Suits limit whole_parts
whole_suits limit = record {
  of_name = λ n h. h;
  of_number = λ n l. tt;
  of_conditions = λ cs h. h;
  of_literals = λ is l h. tt;
  of_expression = λ e l. tt;
  of_update = λ u l. tt;
}

small_suits : (limit : ℕ) → limit ≤ 2147483647 → Suits limit small_parts
small_suits limit most = record {
  of_name = λ n h. tt;
  of_number = λ n l. (n, refl, l);
  of_conditions = λ cs h. tt;
  of_literals = λ is l h. (l, omega (arith, h, most));
  of_expression = λ e l. tt;
  of_update = λ u l. tt;
}

shallow_suits : (limit : ℕ) → Suits limit shallow_parts
shallow_suits limit = record {
  of_name = λ n h. tt;
  of_number = λ n l. tt;
  of_conditions = λ cs h. tt;
  of_literals = λ is l h. tt;
  of_expression = λ e l. l;
  of_update = λ u l. l;
}

module _ (text : Text) (tree : Spec) (r : Reads text tree) where
  tokens_within : length r.tokens ≤ length text
  tokens_within = let bytes = token_bytes r.tokens 0 (length text) (spans_rise_in text r.tokens r.are_tokens) in omega (arith, bytes)

  pub tree_countable : length text + 1 < 2 ^ 31 → IsCountable tree
  tree_countable short =
      let counted = specification_counted (whole_suits (length text)) text in
      let few = counted.few tree r.tokens tokens_within r.derived in
      let within = tokens_within in
      let all = count_of_all tree.items in
      record { few = omega (arith, short, few, within, all); whole = (counted.holds tree r.tokens tokens_within r.derived).0 }

  pub tree_small : length text + 1 < 2 ^ 31 → HasSmallNumbers tree
  tree_small short = ((specification_counted (small_suits (length text) (omega (arith, short))) text).holds tree r.tokens tokens_within r.derived).0

  pub tree_shallow : IsShallow tree
  tree_shallow =
      let deep = (specification_counted (shallow_suits (length text)) text).holds tree r.tokens tokens_within r.derived in
      let most = deep.1 in
      record { forms = deep.0; components = omega (arith, most) }
