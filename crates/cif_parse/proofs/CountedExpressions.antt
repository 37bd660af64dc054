-- What holds in names, expressions and lists of them, and how deep the expressions are.
use Rattle.std.proofs.Common.{◌≡◌, ◌≢◌, ℕ, zero, suc, ◌+◌, ◌≤◌, ◌<◌, max, ◌==◌, List, [], ◌∷◌, length, Bool, true, false, if◌then◌else◌, sym, ap, subst, ◌∙◌, pos, arith, leb-true}
use Rattle.std.specs.List.{AllByRecursion, sum_by}
use Rattle.grammar.specs.Pieces.{Text}
use Rattle.grammar.specs.Lang.{Lang, one, ◌&◌, ◌<$>◌, list}
use Rattle.cif_lex.specs.Tokens.{number_of, greatest_number}
use Rattle.cif_lex.specs.declared.token.Token.{Token}
use Rattle.cif_lex.specs.declared.token.TokenKind.{TokenKind}
use Rattle.cif_lex.specs.declared.token.TokenKind.TheVariants.{Id, Reserved, Number, Sign}
use Rattle.cif_lex.specs.declared.token.Word.{Word}
use Rattle.cif_lex.specs.declared.token.Word.TheVariants as w
use Rattle.cif_lex.specs.declared.token.Mark.{Mark}
use Rattle.cif_lex.specs.declared.token.Mark.TheVariants as m
use Rattle.cif_ast.specs.Tree.{Tree, Shape, Trees, UpdateTree, node, no_trees, truth, number, named, received, paren, negative, positive, negation, absolute, least, greatest, sum, product, comparison, all_of, any_of, implication, equivalence, choice}
use Rattle.cif_ast.specs.View.{view, view_form, view_exprs, view_branch, view_branches, view_term, view_terms, view_factor, view_factors}
use Rattle.cif_ast.specs.Depth.{depth, shape_depth, trees_depth, terms_depth, factors_depth, branches_depth, update_depth}
use Rattle.cif_ast.specs.Throughout.{Rule, HoldsInTree, HoldsInShape, HoldsInTrees, HoldsInTerms, HoldsInFactors, HoldsInBranches, HoldsInExpr}
use Rattle.cif_ast.proofs.ViewLemmas as views
use Rattle.cif_ast.specs.declared.names.Ident.{Ident}
use Rattle.cif_ast.specs.declared.names.Name.{Name}
use Rattle.cif_ast.specs.declared.expressions.MulOp.{MulOp}
use Rattle.cif_ast.specs.declared.expressions.Expr.{Expr}
use Rattle.cif_ast.specs.declared.expressions.Form.{Form}
use Rattle.cif_ast.specs.declared.expressions.Form.TheVariants as f
use Rattle.cif_ast.specs.declared.expressions.Branch.{Branch, roll-Branch}
use Rattle.cif_ast.specs.declared.expressions.Term.{Term, roll-Term}
use Rattle.cif_ast.specs.declared.expressions.Factor.{Factor, roll-Factor}
use Rattle.cif_parse_expr.specs.TokenKinds.{sort, codes_of, kind, word, sign, code, any_of as one_of}
use Rattle.cif_parse_expr.specs.Spelling.{value, is_small, bytes_of}
use Rattle.cif_parse_expr.specs.Reading.{mul_signs, sum_signs, cmp_signs, arrows}
use Rattle.cif_parse_expr.specs.Trees as tree
use Rattle.cif_parse_expr.specs.Grammar as g
use Rattle.cif_parse_expr.specs.Grammar.{Level, at_expr, at_or, at_and, at_cmp, at_sum, at_prod, at_un}
use Rattle.cif_parse.proofs.Counted.{Counted, SomeAll, all-of_some, not_empty, some_ones, sum_of_ones, one_counted, both_counted, map_counted, plain_map, either_counted, some_counted, list_counted, optional_counted, such_counted, weaker, limited}

-- ---- tokens

pub token_counted : {limit : ℕ} (k : TokenKind) → Counted limit (λ (t : Token). 1) (λ (t : Token). Unit {0}) (kind k)
token_counted k = one_counted sort (codes_of (k ∷ []))

pub word_counted : {limit : ℕ} (name : Word) → Counted limit (λ (t : Token). 1) (λ (t : Token). Unit {0}) (word name)
word_counted name = token_counted (Reserved name)

pub sign_counted : {limit : ℕ} (mark : Mark) → Counted limit (λ (t : Token). 1) (λ (t : Token). Unit {0}) (sign mark)
sign_counted mark = token_counted (Sign mark)

pub one_of_counted : {limit : ℕ} (ks : List ℕ) → Counted limit (λ (t : Token). 1) (λ (t : Token). Unit {0}) (one sort ks)
one_of_counted ks = one_counted sort ks

-- what follows
pub second_counted : {limit : ℕ} {A B : Type 0} {other : B → ℕ} {count : A → ℕ} {O : B → Type 0} {P : A → Type 0} {q : Lang Token B} {p : Lang Token A}
    → Counted limit other O q → Counted limit count P p → Counted limit count P (tree.second <$> q & p)
second_counted {count = count} {P = P} h k = map_counted tree.second count P (λ v w. omega arith) (λ v w. w.1) (both_counted h k)

pub middle_counted : {limit : ℕ} {A : Type 0} {count : A → ℕ} {P : A → Type 0} {before after : Lang Token Token} {p : Lang Token A}
    → Counted limit (λ (t : Token). 1) (λ (t : Token). Unit {0}) before → Counted limit count P p → Counted limit (λ (t : Token). 1) (λ (t : Token). Unit {0}) after
    → Counted limit count P (tree.middle <$> before & p & after)
middle_counted {count = count} {P = P} h k l = map_counted tree.middle count P (λ v w. omega arith) (λ v w. w.1.0) (both_counted h (both_counted k l))

-- p {mark p}
pub separated_counted : {limit : ℕ} {A : Type 0} {count : A → ℕ} {P : A → Type 0} {p : Lang Token A} (mark : Mark)
    → Counted limit count P p → Counted limit (sum_by count) (SomeAll P) (g.separated mark p)
separated_counted mark h = list_counted h (second_counted (sign_counted mark) h)

-- where it doesn't matter that there is one
pub separated_all : {limit : ℕ} {A : Type 0} {count : A → ℕ} {P : A → Type 0} {p : Lang Token A} (mark : Mark)
    → Counted limit count P p → Counted limit (sum_by count) (AllByRecursion P) (g.separated mark p)
separated_all {count = count} {P = P} mark h = weaker (sum_by count) (AllByRecursion P) (λ xs w. omega arith) (all-of_some P) (separated_counted mark h)

-- ---- what a rule asks, where the limits of the grammar and so many tokens give it

pub record Suits (limit : ℕ) (rule : Rule) : Type 0 where
  pub of_name : (n : Name) → n.parts ≢ [] → rule.of_name n
  pub of_number : (n : ℕ) → n ≤ greatest_number → rule.of_number (pos n)
  pub of_conditions : (cs : Trees) → cs ≢ no_trees → rule.of_conditions cs
  pub of_literals : (is : List Ident) → 1 ≤ length is → length is ≤ limit → rule.of_literals is
  pub of_expression : (e : Tree) → depth e ≤ g.max_depth → rule.of_expression e
  pub of_update : (u : UpdateTree) → update_depth u ≤ g.max_depth → rule.of_update u

module _ {limit : ℕ} {rule : Rule} (suits : Suits limit rule) (text : Text) where
  pub ident_counted : Counted limit (λ (i : Ident). 1) (λ (i : Ident). Unit {0}) (g.ident text)
  ident_counted = map_counted (tree.ident text) (λ i. 1) (λ i. Unit {0}) (λ t w. omega arith) (λ t w. tt) (token_counted Id)

  pub name_counted : Counted limit (λ (n : Name). 1) rule.of_name (g.name text)
  name_counted = map_counted tree.name (λ n. 1) rule.of_name
      (λ v w. let some = some_ones (λ i. Unit {0}) v.1 w.1 in omega (arith, some))
      (λ v w. suits.of_name (tree.name v) (not_empty (λ i. Unit {0}) v.1 w.1))
      (both_counted (optional_counted (sign_counted m.Dot)) (list_counted ident_counted (second_counted (sign_counted m.Dot) ident_counted)))

  pub ids_counted : Counted limit (sum_by (λ (i : Ident). 1)) rule.of_literals (g.ids text)
  ids_counted = weaker (sum_by (λ i. 1)) rule.of_literals (λ is w. omega arith)
      (λ is w.
      let some = some_ones (λ i. Unit {0}) is w.0 in
      let most = w.1 in
      let e = sum_of_ones is in
      suits.of_literals is (omega (arith, some, e)) (omega (arith, most, e)))
      (limited (separated_counted m.Comma ident_counted))

  pub names_counted : Counted limit (λ (ns : List Name). 0) (AllByRecursion rule.of_name) (g.names text)
  names_counted = weaker (λ ns. 0) (AllByRecursion rule.of_name) (λ ns w. omega arith) (λ ns w. w) (separated_all m.Comma name_counted)

-- ---- one form over its parts

module _ (rule : Rule) (n : ℕ) where
  -- at most so deep, and less deep
  abbrev pub UpTo : Expr → Type 0
  UpTo e = HoldsInTree rule (view e) × (depth (view e) ≤ n)

  abbrev pub Below : Expr → Type 0
  Below e = HoldsInTree rule (view e) × (depth (view e) < n)

  shown : (at : ℕ) (form : Form) (shape : Shape) → view_form form ≡ shape → HoldsInShape rule shape → shape_depth shape ≤ n → UpTo (tree.node at form)
  shown at form shape is h l = subst (λ (t : Tree). HoldsInTree rule t × (depth t ≤ n)) (sym (views.view-expr form at ∙ ap (λ s. node s at) is)) (h, l)

  trees_hold : (es : List Expr) → AllByRecursion Below es → HoldsInTrees rule (view_exprs es)
  trees_hold [] h = tt
  trees_hold (e ∷ es) h = (h.0.0, trees_hold es h.1)

  trees_below : (es : List Expr) → AllByRecursion Below es → 1 ≤ n → trees_depth (view_exprs es) < n
  trees_below [] h l = omega (arith, l)
  trees_below (e ∷ es) h l = let first = h.0.1 in let rest = trees_below es h.1 l in omega (arith, first, rest)

  abbrev BelowBranch : Branch → Type 0
  BelowBranch b = rule.of_conditions (view_branch b).0 × HoldsInTrees rule (view_branch b).0 × HoldsInTree rule (view_branch b).1
      × (max (trees_depth (view_branch b).0) (depth (view_branch b).1) < n)

  branches_hold : (bs : List Branch) → AllByRecursion BelowBranch bs → HoldsInBranches rule (view_branches bs)
  branches_hold [] h = tt
  branches_hold (b ∷ bs) h = (h.0.0, h.0.1, h.0.2, branches_hold bs h.1)

  branches_below : (bs : List Branch) → AllByRecursion BelowBranch bs → 1 ≤ n → branches_depth (view_branches bs) < n
  branches_below [] h l = omega (arith, l)
  branches_below (b ∷ bs) h l = let first = h.0.3 in let rest = branches_below bs h.1 l in omega (arith, first, rest)

  abbrev BelowFactor : Factor → Type 0
  BelowFactor f = HoldsInTree rule (view_factor f).1 × (depth (view_factor f).1 < n)

  one_factor : (op : MulOp) (e : Expr) → Below e → BelowFactor (roll-Factor (record { op = op; value = e }))
  one_factor op e h = subst (λ (f : MulOp × Tree). HoldsInTree rule f.1 × (depth f.1 < n)) (sym (views.view-factor op e)) h

  factors_hold : (fs : List Factor) → AllByRecursion BelowFactor fs → HoldsInFactors rule (view_factors fs)
  factors_hold [] h = tt
  factors_hold (f ∷ fs) h = (h.0.0, factors_hold fs h.1)

  factors_below : (fs : List Factor) → AllByRecursion BelowFactor fs → 1 ≤ n → factors_depth (view_factors fs) < n
  factors_below [] h l = omega (arith, l)
  factors_below (f ∷ fs) h l = let first = h.0.1 in let rest = factors_below fs h.1 l in omega (arith, first, rest)

  abbrev BelowTerm : Term → Type 0
  BelowTerm t = HoldsInTree rule (view_term t).1 × (depth (view_term t).1 < n)

  one_term : (minus : Bool) (e : Expr) → Below e → BelowTerm (roll-Term (record { minus = minus; value = e }))
  one_term minus e h = subst (λ (t : Bool × Tree). HoldsInTree rule t.1 × (depth t.1 < n)) (sym (views.view-term minus e)) h

  terms_hold : (ts : List Term) → AllByRecursion BelowTerm ts → HoldsInTerms rule (view_terms ts)
  terms_hold [] h = tt
  terms_hold (t ∷ ts) h = (h.0.0, terms_hold ts h.1)

  terms_below : (ts : List Term) → AllByRecursion BelowTerm ts → 1 ≤ n → terms_depth (view_terms ts) < n
  terms_below [] h l = omega (arith, l)
  terms_below (t ∷ ts) h l = let first = h.0.1 in let rest = terms_below ts h.1 l in omega (arith, first, rest)

  -- what has one part, and what has two
  deeper : (a : Expr) → Below a → depth (view a) + 1 ≤ n
  deeper a h = let l = h.1 in omega (arith, l)

  both_deeper : (a b : Expr) → Below a → Below b → max (depth (view a)) (depth (view b)) + 1 ≤ n
  both_deeper a b h k = let l = h.1 in let m = k.1 in omega (arith, l, m)

  implied : (k : TokenKind) (at : ℕ) (a b : Expr) → Below a → Below b → UpTo (tree.node at (tree.implied k a b))
  implied k at a b h l = either_form (code k == code (Sign m.Implies)) (λ form. UpTo (tree.node at form)) (f.Implies a b) (f.Iff a b)
      (shown at (f.Implies a b) (implication (view a) (view b)) (views.view_form-Implies a b) (h.0, l.0) (both_deeper a b h l))
      (shown at (f.Iff a b) (equivalence (view a) (view b)) (views.view_form-Iff a b) (h.0, l.0) (both_deeper a b h l))
    where
      either_form : (b : Bool) (P : Form → Type 0) (x y : Form) → P x → P y → P (if b then x else y)
      either_form true P x y h k = h
      either_form false P x y h k = k

pub some_trees : (P : Expr → Type 0) (es : List Expr) → SomeAll P es → view_exprs es ≢ no_trees
some_trees P [] h e = h
some_trees P (x ∷ es) h e = cc

small_value : (text : Text) (t : Token) → is_small text t ≡ true → value text t ≤ greatest_number
unfolding is_small value
small_value text t e = leb-true (number_of (bytes_of text t)) greatest_number e

-- ---- each level, where what stands inside is less deep

abbrev pub Plain : ℕ → (Expr → Type 0) → Lang Token Expr → Type 0
Plain limit P p = Counted limit (λ (e : Expr). 0) P p

module _ {limit : ℕ} {rule : Rule} (suits : Suits limit rule) (text : Text) (n : ℕ) (inner : Level → Lang Token Expr) (h : (l : Level) → Plain limit (Below rule n) (inner l)) where
  abbrev Deep : Lang Token Expr → Type 0
  Deep p = Plain limit (UpTo rule n) p

  exprs_below : Counted limit (sum_by (λ (e : Expr). 0)) (SomeAll (Below rule n)) (g.exprs text inner)
  exprs_below = list_counted (h at_expr) (second_counted (sign_counted m.Comma) (h at_expr))

  one_branch : (es : List Expr) (e : Expr) → SomeAll (Below rule n) es → Below rule n e → BelowBranch rule n (roll-Branch (record { conds = es; value = e }))
  one_branch es e k l =
      let all = all-of_some (Below rule n) es k in
      let last = l.1 in
      let most = trees_below rule n es all (omega (arith, last)) in
      subst (λ (b : Trees × Tree). rule.of_conditions b.0 × HoldsInTrees rule b.0 × HoldsInTree rule b.1 × (max (trees_depth b.0) (depth b.1) < n))
      (sym (views.view-branch es e))
      (suits.of_conditions (view_exprs es) (some_trees (Below rule n) es k), trees_hold rule n es all, l.0, omega (arith, last, most))

  branch_below : Counted limit (λ (b : Branch). 0) (BelowBranch rule n) (g.branch text inner)
  branch_below = plain_map tree.branch (BelowBranch rule n) (λ v w. one_branch v.0 v.1.1 w.0 w.1.1) (both_counted exprs_below (both_counted (sign_counted m.Colon) (h at_expr)))

  otherwise_below : Plain limit (Below rule n) (g.otherwise text inner)
  otherwise_below = plain_map tree.middle (Below rule n) (λ v w. w.1.0) (both_counted (word_counted w.Else) (both_counted (h at_expr) (word_counted w.End)))

  two_deep : (name : Word) (make : Token × (Token × (Expr × (Token × (Expr × Token)))) → Expr)
      → ((v : Token × (Token × (Expr × (Token × (Expr × Token))))) → Below rule n v.1.1.0 → Below rule n v.1.1.1.1.0 → UpTo rule n (make v))
      → Deep (make <$> word name & sign m.OpenParen & inner at_expr & sign m.Comma & inner at_expr & sign m.CloseParen)
  two_deep name make makes = plain_map make (UpTo rule n) (λ v w. makes v w.1.1.0 w.1.1.1.1.0)
      (both_counted (word_counted name) (both_counted (sign_counted m.OpenParen) (both_counted (h at_expr) (both_counted (sign_counted m.Comma) (both_counted (h at_expr) (sign_counted m.CloseParen))))))

  choice_shown : (at : ℕ) (bs : List Branch) (e : Expr) → SomeAll (BelowBranch rule n) bs → Below rule n e → UpTo rule n (tree.node at (f.If bs e))
  choice_shown at bs e k l =
      let all = all-of_some (BelowBranch rule n) bs k in
      let last = l.1 in
      let most = branches_below rule n bs all (omega (arith, last)) in
      shown rule n at (f.If bs e) (choice (view_branches bs) (view e)) (views.view_form-If bs e) (branches_hold rule n bs all, l.0) (omega (arith, last, most))

  choice_deep : Deep (tree.choice <$> word w.If & list (g.branch text inner) (tree.second <$> word w.Elif & g.branch text inner) & g.otherwise text inner)
  choice_deep = plain_map tree.choice (UpTo rule n) (λ v w. choice_shown v.0.span.from v.1.0 v.1.1 w.1.0 w.1.1)
      (both_counted (word_counted w.If) (both_counted (list_counted branch_below (second_counted (word_counted w.Elif) branch_below)) otherwise_below))

  paren_deep : Deep (tree.paren <$> sign m.OpenParen & inner at_expr & sign m.CloseParen)
  paren_deep = plain_map tree.paren (UpTo rule n) (λ v w. shown rule n v.0.span.from (f.Paren v.1.0) (paren (view v.1.0)) (views.view_form-Paren v.1.0) w.1.0.0 (deeper rule n v.1.0 w.1.0))
      (both_counted (sign_counted m.OpenParen) (both_counted (h at_expr) (sign_counted m.CloseParen)))

  abs_deep : Deep (tree.abs <$> word w.Abs & sign m.OpenParen & inner at_expr & sign m.CloseParen)
  abs_deep = plain_map tree.abs (UpTo rule n) (λ v w. shown rule n v.0.span.from (f.Abs v.1.1.0) (absolute (view v.1.1.0)) (views.view_form-Abs v.1.1.0) w.1.1.0.0 (deeper rule n v.1.1.0 w.1.1.0))
      (both_counted (word_counted w.Abs) (both_counted (sign_counted m.OpenParen) (both_counted (h at_expr) (sign_counted m.CloseParen))))

  least_deep : Deep (tree.least <$> word w.Min & sign m.OpenParen & inner at_expr & sign m.Comma & inner at_expr & sign m.CloseParen)
  least_deep = two_deep w.Min tree.least (λ v a b. shown rule n v.0.span.from (f.Min v.1.1.0 v.1.1.1.1.0) (least (view v.1.1.0) (view v.1.1.1.1.0)) (views.view_form-Min v.1.1.0 v.1.1.1.1.0) (a.0, b.0) (both_deeper rule n v.1.1.0 v.1.1.1.1.0 a b))

  greatest_deep : Deep (tree.greatest <$> word w.Max & sign m.OpenParen & inner at_expr & sign m.Comma & inner at_expr & sign m.CloseParen)
  greatest_deep = two_deep w.Max tree.greatest (λ v a b. shown rule n v.0.span.from (f.Max v.1.1.0 v.1.1.1.1.0) (greatest (view v.1.1.0) (view v.1.1.1.1.0)) (views.view_form-Max v.1.1.0 v.1.1.1.1.0) (a.0, b.0) (both_deeper rule n v.1.1.0 v.1.1.1.1.0 a b))

  boolean_deep : (b : Bool) (name : Word) → Deep (tree.boolean b <$> word name)
  boolean_deep b name = plain_map (tree.boolean b) (UpTo rule n) (λ t w. shown rule n t.span.from (f.Bool b) (truth b) (views.view_form-Bool b) tt (omega arith)) (word_counted name)

  number_deep : Deep (g.number text)
  number_deep = plain_map (tree.number text) (UpTo rule n)
      (λ t w. shown rule n t.span.from (f.Int (pos (value text t))) (number (pos (value text t))) (views.view_form-Int (pos (value text t))) (suits.of_number (value text t) (small_value text t w.0)) (omega arith))
      (such_counted (is_small text) (token_counted Number))

  named_deep : Deep (tree.named <$> g.name text)
  named_deep = plain_map tree.named (UpTo rule n) (λ i w. shown rule n i.at (f.Named i) (named i) (views.view_form-Named i) w (omega arith)) (name_counted suits text)

  received_deep : Deep (tree.received <$> sign m.Question)
  received_deep = plain_map tree.received (UpTo rule n) (λ t w. shown rule n t.span.from f.Received received views.view_form-Received tt (omega arith)) (sign_counted m.Question)

  prim_deep : Deep (g.prim text inner)
  prim_deep = either_counted (boolean_deep true w.True) (either_counted (boolean_deep false w.False) (either_counted number_deep (either_counted named_deep
      (either_counted received_deep (either_counted paren_deep (either_counted abs_deep (either_counted least_deep (either_counted greatest_deep choice_deep))))))))

  signed_deep : (k : TokenKind) (make : Token × Expr → Expr) → ((v : Token × Expr) → Below rule n v.1 → UpTo rule n (make v)) → Deep (make <$> kind k & inner at_un)
  signed_deep k make makes = plain_map make (UpTo rule n) (λ v w. makes v w.1) (both_counted (token_counted k) (h at_un))

  un_deep : Deep (g.un text inner)
  un_deep =
      either_counted (signed_deep (Sign m.Minus) tree.negative (λ v w. shown rule n v.0.span.from (f.Neg v.1) (negative (view v.1)) (views.view_form-Neg v.1) w.0 (deeper rule n v.1 w)))
      (either_counted (signed_deep (Sign m.Plus) tree.positive (λ v w. shown rule n v.0.span.from (f.Plus v.1) (positive (view v.1)) (views.view_form-Plus v.1) w.0 (deeper rule n v.1 w)))
      (either_counted (signed_deep (Reserved w.Not) tree.negation (λ v w. shown rule n v.0.span.from (f.Not v.1) (negation (view v.1)) (views.view_form-Not v.1) w.0 (deeper rule n v.1 w)))
      prim_deep))

  factor_below : Counted limit (λ (f : Factor). 0) (BelowFactor rule n) (tree.factor <$> one_of (Sign m.Star ∷ Reserved w.Div ∷ Reserved w.Mod ∷ []) & inner at_un)
  factor_below = plain_map tree.factor (BelowFactor rule n) (λ v w. one_factor rule n (tree.mul_op v.0.kind) v.1 w.1) (both_counted (one_of_counted mul_signs) (h at_un))

  term_below : Counted limit (λ (t : Term). 0) (BelowTerm rule n) (tree.term <$> one_of (Sign m.Plus ∷ Sign m.Minus ∷ []) & inner at_prod)
  term_below = plain_map tree.term (BelowTerm rule n) (λ v w. one_term rule n (tree.is_minus v.0.kind) v.1 w.1) (both_counted (one_of_counted sum_signs) (h at_prod))

  product_shown : (e : Expr) (fs : List Factor) → Below rule n e → AllByRecursion (BelowFactor rule n) fs → UpTo rule n (tree.product e fs)
  product_shown e fs k l =
      let first = k.1 in
      let most = factors_below rule n fs l (omega (arith, first)) in
      shown rule n (tree.place e) (f.Product e fs) (product (view e) (view_factors fs)) (views.view_form-Product e fs) (k.0, factors_hold rule n fs l) (omega (arith, first, most))

  prod_deep : Deep (g.prod text inner)
  prod_deep = either_counted un_deep (plain_map (λ v. tree.product v.0 v.1) (UpTo rule n) (λ v w. product_shown v.0 v.1 w.0 w.1) (both_counted (h at_un) (some_counted factor_below)))

  sum_shown : (e : Expr) (ts : List Term) → Below rule n e → AllByRecursion (BelowTerm rule n) ts → UpTo rule n (tree.sum e ts)
  sum_shown e ts k l =
      let first = k.1 in
      let most = terms_below rule n ts l (omega (arith, first)) in
      shown rule n (tree.place e) (f.Sum e ts) (sum (view e) (view_terms ts)) (views.view_form-Sum e ts) (k.0, terms_hold rule n ts l) (omega (arith, first, most))

  sum_deep : Deep (g.sum text inner)
  sum_deep = either_counted prod_deep (plain_map (λ v. tree.sum v.0 v.1) (UpTo rule n) (λ v w. sum_shown v.0 v.1 w.0 w.1) (both_counted (h at_prod) (some_counted term_below)))

  cmp_deep : Deep (g.cmp text inner)
  cmp_deep = either_counted sum_deep (plain_map (λ v. tree.comparison v.0 v.1) (UpTo rule n)
      (λ v w. shown rule n (tree.place v.0) (f.Compare v.0 (tree.cmp_op v.1.0.kind) v.1.1) (comparison (view v.0) (tree.cmp_op v.1.0.kind) (view v.1.1)) (views.view_form-Compare v.0 (tree.cmp_op v.1.0.kind) v.1.1) (w.0.0, w.1.1.0) (both_deeper rule n v.0 v.1.1 w.0 w.1.1))
      (both_counted (h at_sum) (both_counted (one_of_counted cmp_signs) (h at_sum))))

  -- the depth of operands of one level
  operands : (e : Expr) (es : List Expr) → Below rule n e → AllByRecursion (Below rule n) es → trees_depth (view_exprs (e ∷ es)) + 1 ≤ n
  operands e es k l =
      let first = k.1 in
      let most = trees_below rule n es l (omega (arith, first)) in
      omega (arith, first, most)

  and_deep : Deep (g.and text inner)
  and_deep = either_counted cmp_deep (plain_map (λ v. tree.conjunction v.0 v.1) (UpTo rule n)
      (λ v w. shown rule n (tree.place v.0) (f.And (v.0 ∷ v.1)) (all_of (view_exprs (v.0 ∷ v.1))) (views.view_form-And (v.0 ∷ v.1)) (w.0.0, trees_hold rule n v.1 w.1) (operands v.0 v.1 w.0 w.1))
      (both_counted (h at_cmp) (some_counted (second_counted (word_counted w.And) (h at_cmp)))))

  or_deep : Deep (g.or text inner)
  or_deep = either_counted and_deep (plain_map (λ v. tree.disjunction v.0 v.1) (UpTo rule n)
      (λ v w. shown rule n (tree.place v.0) (f.Or (v.0 ∷ v.1)) (any_of (view_exprs (v.0 ∷ v.1))) (views.view_form-Or (v.0 ∷ v.1)) (w.0.0, trees_hold rule n v.1 w.1) (operands v.0 v.1 w.0 w.1))
      (both_counted (h at_and) (some_counted (second_counted (word_counted w.Or) (h at_and)))))

  expr_deep : Deep (g.expr text inner)
  expr_deep = either_counted or_deep (plain_map (λ v. tree.implication v.0 v.1) (UpTo rule n)
      (λ v w. implied rule n v.1.0.kind (tree.place v.0) v.0 v.1.1 w.0 w.1.1)
      (both_counted (h at_or) (both_counted (one_of_counted arrows) (h at_or))))

  level_deep : (l : Level) → Deep (g.level text inner l)
  level_deep at_expr = expr_deep
  level_deep at_or = or_deep
  level_deep at_and = and_deep
  level_deep at_cmp = cmp_deep
  level_deep at_sum = sum_deep
  level_deep at_prod = prod_deep
  level_deep at_un = un_deep

module _ {limit : ℕ} {rule : Rule} (suits : Suits limit rule) (text : Text) where
  below_counted : (n : ℕ) (l : Level) → Plain limit (Below rule n) (g.below text n l)
  unfolding g.below
  below_counted zero l = record { few = λ e x s d. absurd d; holds = λ e x s d. absurd d }
  below_counted (suc n) l = weaker (λ e. 0) (Below rule (suc n)) (λ e w. omega arith) (λ e w. let k = w.1 in (w.0, omega (arith, k)))
      (level_deep suits text n (g.below text n) (below_counted n) l)

  pub expr_counted : Plain limit (HoldsInExpr rule) (g.IsExpr text)
  unfolding g.IsExpr
  expr_counted = weaker (λ e. 0) (HoldsInExpr rule) (λ e w. omega arith) (λ e w. (w.0, suits.of_expression (view e) w.1))
      (expr_deep suits text g.max_depth (g.below text g.max_depth) (below_counted g.max_depth))

  pub expr_list_counted : Counted limit (λ (es : List Expr). 0) (SomeAll (HoldsInExpr rule)) (g.expr_list text)
  expr_list_counted = weaker (λ es. 0) (SomeAll (HoldsInExpr rule)) (λ es w. omega arith) (λ es w. w) (separated_counted m.Comma expr_counted)
