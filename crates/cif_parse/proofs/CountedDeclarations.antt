-- What holds in declarations and parameters, each of which declares at most as many names as it has tokens.
use Rattle.std.proofs.Common.{ℕ, ◌≤◌, List, [], Option, Some, None, IfSome, arith}
use Rattle.std.specs.List.{AllByRecursion, sum_by}
use Rattle.std.proofs.lemmas.List.Sums.{sum_by-cons}
use Rattle.grammar.specs.Pieces.{Text}
use Rattle.grammar.specs.Lang.{Lang, ◌<$>◌, optional}
use Rattle.cif_lex.specs.declared.token.Token.{Token}
use Rattle.cif_lex.specs.declared.token.Word.TheVariants as w
use Rattle.cif_lex.specs.declared.token.Mark.TheVariants as m
use Rattle.cif_ast.specs.Countable.{count_of_decl, count_of_param}
use Rattle.cif_ast.specs.Throughout.{Rule, HoldsInExpr, HoldsInTypeUse, HoldsInChan, HoldsInInv, HoldsInDecl, HoldsInParam}
use Rattle.cif_ast.specs.declared.names.Ident.{Ident}
use Rattle.cif_ast.specs.declared.names.Name.{Name}
use Rattle.cif_ast.specs.declared.expressions.Expr.{Expr}
use Rattle.cif_ast.specs.declared.declarations.Class.{Class}
use Rattle.cif_ast.specs.declared.declarations.Chan.{Chan}
use Rattle.cif_ast.specs.declared.declarations.Chan.TheVariants as chan
use Rattle.cif_ast.specs.declared.declarations.TypeUse.{TypeUse}
use Rattle.cif_ast.specs.declared.declarations.TypeUse.TheVariants as type
use Rattle.cif_ast.specs.declared.declarations.Decl.{Decl}
use Rattle.cif_ast.specs.declared.declarations.Decl.TheVariants as decl
use Rattle.cif_ast.specs.declared.declarations.Inv.{Inv}
use Rattle.cif_ast.specs.declared.declarations.Inv.TheVariants as inv
use Rattle.cif_parse_expr.specs.Grammar.{separated}
use Rattle.cif_parse_decl.specs.Reading.{class_first, kind_first}
use Rattle.cif_parse_decl.specs.Trees as tree
use Rattle.cif_parse_decl.specs.Grammar as g
use Rattle.cif_parse.proofs.Counted.{Counted, sum_of_ones, of_some, both_counted, map_counted, plain_map, either_counted, optional_counted, weaker, then_counted, flat_counted}
use Rattle.cif_parse.proofs.CountedExpressions.{Suits, word_counted, sign_counted, one_of_counted, second_counted, middle_counted, separated_all, ident_counted, name_counted, expr_counted, ids_counted, names_counted}

-- ---- lists that may be left out, and lists of one

pub few_given : {A : Type 0} (count : A → ℕ) (o : Option (List A)) → sum_by count (tree.given o) ≤ of_some (sum_by count) o
few_given count None = omega arith
few_given count (Some xs) = omega arith

pub all_given : {A : Type 0} (P : A → Type 0) (o : Option (List A)) → IfSome o (AllByRecursion P) → AllByRecursion P (tree.given o)
all_given P None h = tt
all_given P (Some xs) h = h

pub given_counted : {limit : ℕ} {A : Type 0} (count : A → ℕ) (P : A → Type 0) {p : Lang Token (List A)}
    → Counted limit (sum_by count) (AllByRecursion P) p → Counted limit (sum_by count) (AllByRecursion P) (tree.given <$> optional p)
given_counted count P h = map_counted tree.given (sum_by count) (AllByRecursion P) (λ o w. few_given count o) (λ o w. all_given P o w) (optional_counted h)

-- where parts aren't counted
pub given_plain : {limit : ℕ} {A : Type 0} (P : A → Type 0) {p : Lang Token (List A)}
    → Counted limit (λ (xs : List A). 0) (AllByRecursion P) p → Counted limit (λ (xs : List A). 0) (AllByRecursion P) (tree.given <$> optional p)
given_plain P h = plain_map tree.given (AllByRecursion P) (λ o w. all_given P o w) (optional_counted h)

pub single_counted : {limit : ℕ} {X A : Type 0} {count_x : X → ℕ} {R : X → Type 0} {p : Lang Token X} (make : X → A) (count : A → ℕ) (P : A → Type 0)
    → ((x : X) → R x → count (make x) ≤ count_x x) → ((x : X) → R x → P (make x)) → Counted limit count_x R p
    → Counted limit (sum_by count) (AllByRecursion P) ((λ x. tree.single (make x)) <$> p)
single_counted make count P less makes h = map_counted (λ x. tree.single (make x)) (sum_by count) (AllByRecursion P)
    (λ x w. let c = sum_by-cons count (make x) [] in let l = less x w in omega (arith, c, l)) (λ x w. (makes x w, tt)) h

module _ {limit : ℕ} {rule : Rule} (suits : Suits limit rule) (text : Text) where
  abbrev Decls : Lang Token (List Decl) → Type 0
  Decls p = Counted limit (sum_by count_of_decl) (AllByRecursion (HoldsInDecl rule)) p

  -- ---- types and channels

  integer_holds : (o : Option (Expr × Expr)) → IfSome o (λ b. HoldsInExpr rule b.0 × HoldsInExpr rule b.1) → HoldsInTypeUse rule (tree.integer o)
  integer_holds None h = tt
  integer_holds (Some b) h = h

  channel_holds : (o : Option Chan) → IfSome o (HoldsInChan rule) → HoldsInChan rule (tree.channel_or o)
  channel_holds None h = tt
  channel_holds (Some c) h = h

  bounds_counted : Counted limit (λ (b : Expr × Expr). 0) (λ (b : Expr × Expr). HoldsInExpr rule b.0 × HoldsInExpr rule b.1) (g.bounds text)
  bounds_counted = plain_map tree.bounds (λ b. HoldsInExpr rule b.0 × HoldsInExpr rule b.1) (λ v w. (w.1.0, w.1.1.1.0))
      (both_counted (sign_counted m.OpenBracket) (both_counted (expr_counted suits text) (both_counted (sign_counted m.Range) (both_counted (expr_counted suits text) (sign_counted m.CloseBracket)))))

  type_use_counted : Counted limit (λ (ty : TypeUse). 0) (HoldsInTypeUse rule) (g.type_use text)
  type_use_counted =
      either_counted (plain_map (λ t. type.Bool) (HoldsInTypeUse rule) (λ t w. tt) (word_counted w.Bool))
      (either_counted (plain_map (λ v. tree.integer v.1) (HoldsInTypeUse rule) (λ v w. integer_holds v.1 w.1) (both_counted (word_counted w.Int) (optional_counted bounds_counted)))
      (plain_map type.Named (HoldsInTypeUse rule) (λ n w. w) (name_counted suits text)))

  channel_counted : Counted limit (λ (c : Chan). 0) (HoldsInChan rule) (g.channel text)
  channel_counted = either_counted (plain_map chan.Of (HoldsInChan rule) (λ ty w. w) type_use_counted) (plain_map (λ t. chan.Void) (HoldsInChan rule) (λ t w. tt) (word_counted w.Void))

  typed_counted : {A : Type 0} {count : A → ℕ} {P : A → Type 0} {p : TypeUse → Lang Token A}
      → ((ty : TypeUse) → HoldsInTypeUse rule ty → Counted limit count P (p ty)) → Counted limit (sum_by count) (AllByRecursion P) (g.typed text p)
  typed_counted h = then_counted type_use_counted (λ ty w. separated_all m.Comma (h ty w))

  channelled_counted : {A : Type 0} (make : Chan → Ident → A) (count : A → ℕ) (P : A → Type 0)
      → ((c : Chan) (i : Ident) → count (make c i) ≤ 1) → ((c : Chan) (i : Ident) → HoldsInChan rule c → P (make c i)) → Counted limit (sum_by count) (AllByRecursion P) (g.channelled text make)
  channelled_counted make count P less makes = then_counted (optional_counted channel_counted) (λ o w.
      separated_all m.Comma (map_counted (make (tree.channel_or o)) count P
      (λ i u. less (tree.channel_or o) i) (λ i u. makes (tree.channel_or o) i (channel_holds o w)) (ident_counted suits text)))

  classed_counted : {A : Type 0} (make : Class → Chan → Ident → A) (count : A → ℕ) (P : A → Type 0)
      → ((k : Class) (c : Chan) (i : Ident) → count (make k c i) ≤ 1) → ((k : Class) (c : Chan) (i : Ident) → HoldsInChan rule c → P (make k c i)) → Counted limit (sum_by count) (AllByRecursion P) (g.classed text make)
  classed_counted make count P less makes = then_counted (plain_map tree.class_of (λ k. Unit {0}) (λ t w. tt) (one_of_counted class_first)) (λ k w.
      channelled_counted (make k) count P (less k) (makes k))

  -- ---- declarations

  valued_counted : Counted limit (λ (v : Ident × (Token × Expr)). 1) (λ (v : Ident × (Token × Expr)). HoldsInExpr rule v.1.1) (g.valued text)
  valued_counted = weaker (λ v. 1) (λ v. HoldsInExpr rule v.1.1) (λ v w. omega arith) (λ v w. w.1.1) (both_counted (ident_counted suits text) (both_counted (sign_counted m.Equal) (expr_counted suits text)))

  perhaps_valued_counted : Counted limit (λ (v : Ident × Option Expr). 1) (λ (v : Ident × Option Expr). IfSome v.1 (HoldsInExpr rule)) (g.perhaps_valued text)
  perhaps_valued_counted = weaker (λ v. 1) (λ v. IfSome v.1 (HoldsInExpr rule)) (λ v w. omega arith) (λ v w. w.1)
      (both_counted (ident_counted suits text) (optional_counted (second_counted (sign_counted m.Equal) (expr_counted suits text))))

  type_declaration_counted : Decls (g.type_declaration text)
  type_declaration_counted = middle_counted (word_counted w.«Type»)
      (separated_all m.Comma (map_counted tree.named_type count_of_decl (HoldsInDecl rule) (λ v w. omega arith) (λ v w. w.1.1)
      (both_counted (ident_counted suits text) (both_counted (sign_counted m.Equal) type_use_counted))))
      (sign_counted m.Semicolon)

  enum_declaration_counted : Decls (g.enum_declaration text)
  enum_declaration_counted = single_counted tree.enumeration count_of_decl (HoldsInDecl rule)
      (λ v w. let e = sum_of_ones v.1.1.1.0 in omega (arith, e)) (λ v w. w.1.1.1.0)
      (both_counted (word_counted w.Enum) (both_counted (ident_counted suits text) (both_counted (sign_counted m.Equal) (both_counted (ids_counted suits text) (sign_counted m.Semicolon)))))

  event_declaration_counted : Decls (g.event_declaration text)
  event_declaration_counted = map_counted (λ v. v.0) (sum_by count_of_decl) (AllByRecursion (HoldsInDecl rule)) (λ v w. omega arith) (λ v w. w.0)
      (both_counted (classed_counted tree.event count_of_decl (HoldsInDecl rule) (λ k c i. omega arith) (λ k c i w. w)) (sign_counted m.Semicolon))

  const_declaration_counted : Decls (g.const_declaration text)
  const_declaration_counted = middle_counted (word_counted w.Const)
      (typed_counted (λ ty u. map_counted (tree.constant ty) count_of_decl (HoldsInDecl rule) (λ v w. omega arith) (λ v w. (u, w)) valued_counted)) (sign_counted m.Semicolon)

  alg_declaration_counted : Decls (g.alg_declaration text)
  alg_declaration_counted = middle_counted (word_counted w.Alg)
      (typed_counted (λ ty u. map_counted (tree.algebraic ty) count_of_decl (HoldsInDecl rule) (λ v w. omega arith) (λ v w. (u, w)) perhaps_valued_counted)) (sign_counted m.Semicolon)

  input_declaration_counted : Decls (g.input_declaration text)
  input_declaration_counted = middle_counted (word_counted w.Input)
      (typed_counted (λ ty u. map_counted (tree.input ty) count_of_decl (HoldsInDecl rule) (λ v w. omega arith) (λ v w. u) (ident_counted suits text))) (sign_counted m.Semicolon)

  pub disc_declaration_counted : Decls (g.disc_declaration text)
  disc_declaration_counted = middle_counted (word_counted w.Disc)
      (typed_counted (λ ty u. map_counted (tree.discrete ty) count_of_decl (HoldsInDecl rule) (λ v w. omega arith) (λ v w. (u, w)) perhaps_valued_counted)) (sign_counted m.Semicolon)

  equation_counted : Decls (g.equation text)
  equation_counted = single_counted tree.equation count_of_decl (HoldsInDecl rule) (λ v w. omega arith) (λ v w. w.1.1.1.0)
      (both_counted (word_counted w.Equation) (both_counted (ident_counted suits text) (both_counted (sign_counted m.Equal) (both_counted (expr_counted suits text) (sign_counted m.Semicolon)))))

  marked_declaration_counted : Decls (g.marked_declaration text)
  marked_declaration_counted = middle_counted (word_counted w.Marked)
      (separated_all m.Comma (map_counted decl.Marked count_of_decl (HoldsInDecl rule) (λ e w. omega arith) (λ e w. w) (expr_counted suits text))) (sign_counted m.Semicolon)

  -- ---- invariants

  events_counted : Counted limit (λ (ns : List Name). 0) (AllByRecursion rule.of_name) (g.events text)
  events_counted = either_counted (plain_map tree.single (AllByRecursion rule.of_name) (λ n w. (w, tt)) (name_counted suits text))
      (middle_counted (sign_counted m.OpenBrace) (names_counted suits text) (sign_counted m.CloseBrace))

  invariant_counted : Counted limit (λ (i : Inv). 0) (HoldsInInv rule) (g.invariant text)
  invariant_counted =
      either_counted (plain_map inv.State (HoldsInInv rule) (λ e w. w) (expr_counted suits text))
      (either_counted (plain_map tree.needs (HoldsInInv rule) (λ v w. (w.0, w.1.1)) (both_counted events_counted (both_counted (word_counted w.Needs) (expr_counted suits text))))
      (plain_map tree.disables (HoldsInInv rule) (λ v w. (w.0, w.1.1)) (both_counted (expr_counted suits text) (both_counted (word_counted w.Disables) events_counted))))

  named_invariant_counted : Counted limit (λ (i : Inv). 0) (HoldsInInv rule) (g.named_invariant text)
  named_invariant_counted = second_counted (optional_counted (both_counted (ident_counted suits text) (sign_counted m.Colon))) invariant_counted

  invariant_list_counted : {p : Lang Token Inv} → Counted limit (λ (i : Inv). 0) (HoldsInInv rule) p → Counted limit (sum_by count_of_decl) (AllByRecursion (HoldsInDecl rule)) (separated m.Comma (decl.Inv <$> p))
  invariant_list_counted h = separated_all m.Comma (map_counted decl.Inv count_of_decl (HoldsInDecl rule) (λ i w. omega arith) (λ i w. w) h)

  invariants_counted : Decls (g.invariants text)
  invariants_counted = middle_counted (word_counted w.Invariant) (invariant_list_counted named_invariant_counted) (sign_counted m.Semicolon)

  kind_invariants_counted : Decls (g.kind_invariants text)
  kind_invariants_counted = either_counted (second_counted (one_of_counted kind_first) invariants_counted)
      (middle_counted (one_of_counted kind_first) (invariant_list_counted invariant_counted) (sign_counted m.Semicolon))

  pub declaration_counted : Decls (g.declaration text)
  declaration_counted = either_counted
      (either_counted type_declaration_counted (either_counted enum_declaration_counted (either_counted event_declaration_counted
      (either_counted const_declaration_counted (either_counted alg_declaration_counted (either_counted input_declaration_counted
      (either_counted equation_counted (either_counted invariants_counted marked_declaration_counted))))))))
      kind_invariants_counted

  -- ---- parameters

  parameter_counted : Counted limit (sum_by count_of_param) (AllByRecursion (HoldsInParam rule)) (g.parameter text)
  parameter_counted =
      either_counted (classed_counted tree.event_parameter count_of_param (HoldsInParam rule) (λ k c i. omega arith) (λ k c i w. w))
      (either_counted (second_counted (word_counted w.Alg) (typed_counted (λ ty u. map_counted (tree.algebraic_parameter ty) count_of_param (HoldsInParam rule) (λ i w. omega arith) (λ i w. u) (ident_counted suits text))))
      (second_counted (word_counted w.Location) (separated_all m.Comma (map_counted tree.location_parameter count_of_param (HoldsInParam rule) (λ i w. omega arith) (λ i w. tt) (ident_counted suits text)))))

  pub parameters_counted : Counted limit (sum_by count_of_param) (AllByRecursion (HoldsInParam rule)) (g.parameters text)
  parameters_counted = map_counted (λ v. tree.given v.1.0) (sum_by count_of_param) (AllByRecursion (HoldsInParam rule))
      (λ v w. let e = few_given count_of_param v.1.0 in omega (arith, e)) (λ v w. all_given (HoldsInParam rule) v.1.0 w.1.0)
      (both_counted (sign_counted m.OpenParen) (both_counted
      (optional_counted (flat_counted count_of_param (HoldsInParam rule) (separated_all m.Semicolon parameter_counted)))
      (sign_counted m.CloseParen)))
