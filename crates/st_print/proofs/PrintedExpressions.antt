-- The printed marks of an expression that has a spelling derive it.
use Rattle.std.proofs.Common.{◌≡◌, ◌==◌, ◌&&◌, ◌≤◌, ◌+◌, ◌-◌, ℕ, zero, suc, pos, negsuc, Bool, true, false, List, [], ◌∷◌, map, refl, sym, ap, subst, ◌∙◌, eq-eqb, leb-true, arith}
use Rattle.std.specs.Prelude.{codes, decimal, nat_le}
use Rattle.grammar.specs.Lang.{Lang, has, ◌&◌, ◌<$>◌, many}
use Rattle.grammar.specs.Pieces.{Text}
use Rattle.grammar.proofs.Texts.{and_left, and_right}
use Rattle.st_ast.specs.Tokens.{Token, kind_of_word, kind_of_number, kind_of_sign, number_of, greatest}
use Rattle.st_ast.specs.declared.kinds.TokenKind.{TokenKind}
use Rattle.st_ast.specs.declared.kinds.TokenKind.TheVariants as kinds
use Rattle.st_ast.specs.declared.tree.StMul.{StMul}
use Rattle.st_ast.specs.declared.tree.StMul.TheVariants as mul
use Rattle.st_ast.specs.declared.tree.StOrder.{StOrder}
use Rattle.st_ast.specs.declared.tree.StOrder.TheVariants as cmp
use Rattle.st_ast.specs.Grammar.{sort, code, word, word_of, natural, identifier, text_of, middle, second, products, sums, orders, equalities, mul_of, is_minus, order_of, is_equality, product_of, sum_of, after_kind, Level, at_or, at_xor, at_and, at_equal, at_order, at_sum, at_product, at_unary, one_argument, two_arguments, three_arguments, prim, unary, operands, made, level, below, expression, max_depth}
use Rattle.st_ast.specs.Parts.{factors_of, terms_of}
use Rattle.st_ast.specs.Spelled.{is_word_text, is_name, place_of_level, holds_level, has_factors, has_terms, has_two, is_expr, are_factors, are_terms, are_exprs, is_whole_expr}
use Rattle.st_ast.specs.Tree.{Expr, Exprs, Factors, Terms, truth, number, named, paren, negation, complement, product, sum, order, equal, all_of, odd_of, any_of, absolute, least, greatest as larger, selection, exprs, no_exprs, factors, no_factors, terms, no_terms, exprs_of}
use Rattle.st_print.specs.Layout.{Mark, truth_marks, order_text, equal_text, plus_text, mul_mark, expr_marks, factors_marks, terms_marks, operands_marks, more_marks}
use Rattle.st_print.specs.Layout as mark
use Rattle.st_print.specs.Marks.{is_mark}
use Rattle.st_read.proofs.Decimals.{number_of-decimal, kind_of_number-decimal}
use Rattle.st_print.proofs.Derived.{Derives, both_derive, map_derives, left_derives, right_derives, more_derive, none_derives, some_derive}

-- ---- tests

pub parts : (a b : Bool) → (a && b) ≡ true → (a ≡ true) × (b ≡ true)
parts a b e = (and_left a b e, and_right a b e)

-- ---- tokens

has-self : (n : ℕ) → has (n ∷ []) n ≡ true
has-self n = let e : (n == n) ≡ true = search (eq-eqb) in rw e refl

is-kind : (k : TokenKind) (t : Token) → t.kind ≡ k → has (code k ∷ []) (sort t) ≡ true
is-kind k t e = subst (λ j. has (code k ∷ []) (code j) ≡ true) (sym e) (has-self (code k))

abbrev pub word_token : Text → Token
word_token w = record { kind = kind_of_word w; text = w }

abbrev pub sign_token : Text → Token
sign_token s = record { kind = kind_of_sign s; text = s }

pub word_derives : (k : TokenKind) (w : Text) → kind_of_word w ≡ k → is_word_text w ≡ true → Derives (word k) (word_token w) (λ ms. mark.word w ∷ ms)
word_derives k w e good = record {
  text = word_token w ∷ [];
  derived = (is-kind k (word_token w) e, refl);
  is = λ ms. refl;
  good = λ ms m. (good, m);
}

-- a sign that is of one of some kinds
one_sign_derives : (ks : List TokenKind) (s : Text) → has (map code ks) (code (kind_of_sign s)) ≡ true → is_mark (mark.sign s) ≡ true
    → Derives (word_of ks) (sign_token s) (λ ms. mark.sign s ∷ ms)
one_sign_derives ks s e good = record { text = sign_token s ∷ []; derived = (e, refl); is = λ ms. refl; good = λ ms m. (good, m) }

pub sign_derives : (k : TokenKind) (s : Text) → kind_of_sign s ≡ k → is_mark (mark.sign s) ≡ true → Derives (word k) (sign_token s) (λ ms. mark.sign s ∷ ms)
sign_derives k s e good = record {
  text = sign_token s ∷ [];
  derived = (is-kind k (sign_token s) e, refl);
  is = λ ms. refl;
  good = λ ms m. (good, m);
}

-- a minus joined to its operand, and a parenthesis joined to a function's name
pub dash_derives : Derives (word kinds.Dash) (sign_token (codes "-")) (λ ms. mark.dash ∷ ms)
dash_derives = record { text = sign_token (codes "-") ∷ []; derived = (refl, refl); is = λ ms. refl; good = λ ms m. (refl, m) }

call_derives : Derives (word kinds.Open) (sign_token (codes "(")) (λ ms. mark.call ∷ ms)
call_derives = record { text = sign_token (codes "(") ∷ []; derived = (refl, refl); is = λ ms. refl; good = λ ms m. (refl, m) }

pub identifier_derives : (w : Text) → is_name w ≡ true → Derives identifier w (λ ms. mark.word w ∷ ms)
identifier_derives w e =
    let good = and_left (is_word_text w) (code kinds.Name == code (kind_of_word w)) e in
    let is = and_right (is_word_text w) (code kinds.Name == code (kind_of_word w)) e in
    let one : Derives (word kinds.Name) (word_token w) (λ ms. mark.word w ∷ ms) = record {
      text = word_token w ∷ [];
      derived = (rw is refl, refl);
      is = λ ms. refl;
      good = λ ms m. (good, m);
    } in
    map_derives text_of one

digits_derive : (n : ℕ) → n ≤ greatest → Derives (word kinds.Literal) (record { kind = kind_of_number (decimal n); text = decimal n }) (λ ms. mark.digits n ∷ ms)
digits_derive n le = record {
  text = record { kind = kind_of_number (decimal n); text = decimal n } ∷ [];
  derived = (is-kind kinds.Literal (record { kind = kind_of_number (decimal n); text = decimal n }) (kind_of_number-decimal n le), refl);
  is = λ ms. refl;
  good = λ ms m. (refl, m);
}

pub natural_derives : (n : ℕ) → nat_le n greatest ≡ true → Derives natural (pos n) (λ ms. mark.digits n ∷ ms)
natural_derives n e =
    let le : n ≤ greatest = leb-true n greatest e in
    subst (λ z. Derives natural z (λ ms. mark.digits n ∷ ms)) (ap pos (number_of-decimal n (omega arith)))
    (map_derives (λ (t : Token). pos (number_of t.text)) (digits_derive n le))

-- ---- operators

abbrev mul_token : StMul → Token
mul_token mul.Times = sign_token (codes "*")
mul_token mul.Div = sign_token (codes "/")
mul_token mul.Mod = word_token (codes "MOD")

mul_derives : (op : StMul) → Derives (word_of products) (mul_token op) (λ ms. mul_mark op ∷ ms)
mul_derives mul.Times = record { text = mul_token mul.Times ∷ []; derived = (refl, refl); is = λ ms. refl; good = λ ms m. (refl, m) }
mul_derives mul.Div = record { text = mul_token mul.Div ∷ []; derived = (refl, refl); is = λ ms. refl; good = λ ms m. (refl, m) }
mul_derives mul.Mod = record { text = mul_token mul.Mod ∷ []; derived = (refl, refl); is = λ ms. refl; good = λ ms m. (refl, m) }

mul_same : (op : StMul) → mul_of (mul_token op).kind ≡ op
mul_same mul.Times = refl
mul_same mul.Div = refl
mul_same mul.Mod = refl

plus_derives : (minus : Bool) → Derives (word_of sums) (sign_token (plus_text minus)) (λ ms. mark.sign (plus_text minus) ∷ ms)
plus_derives false = one_sign_derives sums (codes "+") refl refl
plus_derives true = one_sign_derives sums (codes "-") refl refl

plus_same : (minus : Bool) → is_minus (sign_token (plus_text minus)).kind ≡ minus
plus_same false = refl
plus_same true = refl

order_derives : (op : StOrder) → Derives (word_of orders) (sign_token (order_text op)) (λ ms. mark.sign (order_text op) ∷ ms)
order_derives cmp.Lt = one_sign_derives orders (codes "<") refl refl
order_derives cmp.Gt = one_sign_derives orders (codes ">") refl refl
order_derives cmp.Le = one_sign_derives orders (codes "<=") refl refl
order_derives cmp.Ge = one_sign_derives orders (codes ">=") refl refl

order_same : (op : StOrder) → order_of (sign_token (order_text op)).kind ≡ op
order_same cmp.Lt = refl
order_same cmp.Gt = refl
order_same cmp.Le = refl
order_same cmp.Ge = refl

equal_derives : (same : Bool) → Derives (word_of equalities) (sign_token (equal_text same)) (λ ms. mark.sign (equal_text same) ∷ ms)
equal_derives true = one_sign_derives equalities (codes "=") refl refl
equal_derives false = one_sign_derives equalities (codes "<>") refl refl

equal_same : (same : Bool) → is_equality (sign_token (equal_text same)).kind ≡ same
equal_same true = refl
equal_same false = refl

-- further operands, each with the token before it
abbrev factor_pairs : Factors → List (Token × Expr)
factor_pairs no_factors = []
factor_pairs (factors op e fs) = (mul_token op, e) ∷ factor_pairs fs

abbrev term_pairs : Terms → List (Token × Expr)
term_pairs no_terms = []
term_pairs (terms minus e ts) = (sign_token (plus_text minus), e) ∷ term_pairs ts

abbrev expr_pairs : Text → Exprs → List (Token × Expr)
expr_pairs w no_exprs = []
expr_pairs w (exprs e es) = (word_token w, e) ∷ expr_pairs w es

factors_same : (fs : Factors) → factors_of (map (λ (o : TokenKind × Expr). (mul_of o.0, o.1)) (map after_kind (factor_pairs fs))) ≡ fs
factors_same no_factors = refl
factors_same (factors op e fs) = ap (λ o. factors o e (factors_of (map (λ (o : TokenKind × Expr). (mul_of o.0, o.1)) (map after_kind (factor_pairs fs))))) (mul_same op) ∙ ap (λ r. factors op e r) (factors_same fs)

terms_same : (ts : Terms) → terms_of (map (λ (o : TokenKind × Expr). (is_minus o.0, o.1)) (map after_kind (term_pairs ts))) ≡ ts
terms_same no_terms = refl
terms_same (terms minus e ts) = ap (λ b. terms b e (terms_of (map (λ (o : TokenKind × Expr). (is_minus o.0, o.1)) (map after_kind (term_pairs ts))))) (plus_same minus) ∙ ap (λ r. terms minus e r) (terms_same ts)

exprs_same : (w : Text) (es : Exprs) → exprs_of (map second (map after_kind (expr_pairs w es))) ≡ es
exprs_same w no_exprs = refl
exprs_same w (exprs e es) = ap (λ r. exprs e r) (exprs_same w es)

-- ---- levels

-- the levels by number, which end with the last
abbrev level_at : ℕ → Level
level_at zero = at_or
level_at (suc zero) = at_xor
level_at (suc (suc zero)) = at_and
level_at (suc (suc (suc zero))) = at_equal
level_at (suc (suc (suc (suc zero)))) = at_order
level_at (suc (suc (suc (suc (suc zero))))) = at_sum
level_at (suc (suc (suc (suc (suc (suc zero)))))) = at_product
level_at (suc (suc (suc (suc (suc (suc (suc n))))))) = at_unary

at_place : (l : Level) → level_at (place_of_level l) ≡ l
at_place at_or = refl
at_place at_xor = refl
at_place at_and = refl
at_place at_equal = refl
at_place at_order = refl
at_place at_sum = refl
at_place at_product = refl
at_place at_unary = refl

holds_unary : (l : Level) → holds_level l at_unary ≡ true
holds_unary at_or = refl
holds_unary at_xor = refl
holds_unary at_and = refl
holds_unary at_equal = refl
holds_unary at_order = refl
holds_unary at_sum = refl
holds_unary at_product = refl
holds_unary at_unary = refl

module _ (inner : Level → Lang Token Expr) (e : Expr) (marks : List Mark → List Mark) where
  -- what is of a level is of the one before it
  one_wider : (k : ℕ) → Derives (level inner (level_at (suc k))) e marks → Derives (level inner (level_at k)) e marks
  one_wider zero h = left_derives h
  one_wider (suc zero) h = left_derives h
  one_wider (suc (suc zero)) h = left_derives h
  one_wider (suc (suc (suc zero))) h = left_derives h
  one_wider (suc (suc (suc (suc zero)))) h = left_derives h
  one_wider (suc (suc (suc (suc (suc zero))))) h = left_derives h
  one_wider (suc (suc (suc (suc (suc (suc zero)))))) h = left_derives h
  one_wider (suc (suc (suc (suc (suc (suc (suc k))))))) h = h

  wider : (d j k : ℕ) → j ≡ d + k → Derives (level inner (level_at j)) e marks → Derives (level inner (level_at k)) e marks
  wider zero j k is h = let same : j ≡ k = omega (arith, is) in subst (λ i. Derives (level inner (level_at i)) e marks) same h
  wider (suc d) j k is h =
      let same : j ≡ suc (d + k) = omega (arith, is) in
      wider d (d + k) k refl (one_wider (d + k) (subst (λ i. Derives (level inner (level_at i)) e marks) same h))

  pub of_level : (l own : Level) → holds_level l own ≡ true → Derives (level inner own) e marks → Derives (level inner l) e marks
  of_level l own r h =
      let le : place_of_level l ≤ place_of_level own = leb-true (place_of_level l) (place_of_level own) r in
      let d : ℕ = place_of_level own - place_of_level l in
      let there : place_of_level own ≡ d + place_of_level l = omega (arith, le) in
      let at_own : Derives (level inner (level_at (place_of_level own))) e marks = subst (λ j. Derives (level inner j) e marks) (sym (at_place own)) h in
      subst (λ j. Derives (level inner j) e marks) (at_place l)
      (wider d (place_of_level own) (place_of_level l) there at_own)

  unary_of_level : (l : Level) → Derives (unary inner) e marks → Derives (level inner l) e marks
  unary_of_level l h = of_level l at_unary (holds_unary l) h

  prim_of_level : (l : Level) → Derives (prim inner) e marks → Derives (level inner l) e marks
  prim_of_level l h = unary_of_level l (right_derives (right_derives h))

-- ---- forms

-- one level further inside
inner_derives : (n : ℕ) (l : Level) (e : Expr) → Derives (level (below n) l) e (λ ms. expr_marks e ms) → Derives (below (suc n) l) e (λ ms. expr_marks e ms)
unfolding below
inner_derives n l e h = record { text = h.text; derived = h.derived; is = h.is; good = h.good }

module _ (inner : Level → Lang Token Expr) where
  -- the arguments of a function, and what stands in parentheses
  argument_derives : {e : Expr} {opening f : List Mark → List Mark} → Derives (word kinds.Open) (sign_token (codes "(")) opening → Derives (inner at_or) e f
      → Derives (one_argument inner) e (λ ms. opening (f (mark.sign (codes ")") ∷ ms)))
  argument_derives opens h = map_derives (λ (v : Token × (Expr × Token)). middle v) (both_derive opens (both_derive h (sign_derives kinds.Close (codes ")") refl refl)))

  arguments_derive : {a b : Expr} {f g : List Mark → List Mark} → Derives (inner at_or) a f → Derives (inner at_or) b g
      → Derives (two_arguments inner) (a, b) (λ ms. mark.call ∷ f (mark.sign (codes ",") ∷ g (mark.sign (codes ")") ∷ ms)))
  arguments_derive h k = map_derives (λ ((opening, (a, (s, (b, closing)))) : Token × (Expr × (Token × (Expr × Token)))). (a, b))
      (both_derive call_derives (both_derive h (both_derive (sign_derives kinds.Comma (codes ",") refl refl) (both_derive k (sign_derives kinds.Close (codes ")") refl refl)))))

  three_arguments_derive : {a b c : Expr} {f g h : List Mark → List Mark} → Derives (inner at_or) a f → Derives (inner at_or) b g → Derives (inner at_or) c h
      → Derives (three_arguments inner) (a, (b, c)) (λ ms. mark.call ∷ f (mark.sign (codes ",") ∷ g (mark.sign (codes ",") ∷ h (mark.sign (codes ")") ∷ ms))))
  three_arguments_derive x y z = map_derives (λ ((opening, (a, (s, (b, (t, (c, closing)))))) : Token × (Expr × (Token × (Expr × (Token × (Expr × Token)))))). (a, (b, c)))
      (both_derive call_derives (both_derive x (both_derive (sign_derives kinds.Comma (codes ",") refl refl)
      (both_derive y (both_derive (sign_derives kinds.Comma (codes ",") refl refl) (both_derive z (sign_derives kinds.Close (codes ")") refl refl)))))))

  truth_derives : (b : Bool) → Derives (prim inner) (truth b) (λ ms. truth_marks b ms)
  truth_derives true = left_derives (map_derives (λ (t : Token). truth true) (word_derives kinds.True (codes "TRUE") refl refl))
  truth_derives false = right_derives (left_derives (map_derives (λ (t : Token). truth false) (word_derives kinds.False (codes "FALSE") refl refl)))

  number_derives : (n : ℕ) → nat_le n greatest ≡ true → Derives (prim inner) (number (pos n)) (λ ms. mark.digits n ∷ ms)
  number_derives n le = right_derives (right_derives (left_derives (map_derives number (natural_derives n le))))

  name_derives : (w : Text) → is_name w ≡ true → Derives (prim inner) (named w) (λ ms. mark.word w ∷ ms)
  name_derives w e = right_derives (right_derives (right_derives (left_derives (map_derives named (identifier_derives w e)))))

  paren_derives : {e : Expr} → Derives (inner at_or) e (λ ms. expr_marks e ms) → Derives (prim inner) (paren e) (λ ms. expr_marks (paren e) ms)
  paren_derives h = right_derives (right_derives (right_derives (right_derives (left_derives
      (map_derives paren (argument_derives (sign_derives kinds.Open (codes "(") refl refl) h))))))

  absolute_derives : {e : Expr} → Derives (inner at_or) e (λ ms. expr_marks e ms) → Derives (prim inner) (absolute e) (λ ms. expr_marks (absolute e) ms)
  absolute_derives h = right_derives (right_derives (right_derives (right_derives (right_derives (left_derives
      (map_derives (λ ((w, e) : Token × Expr). absolute e) (both_derive (word_derives kinds.Abs (codes "ABS") refl refl) (argument_derives call_derives h))))))))

  least_derives : {a b : Expr} → Derives (inner at_or) a (λ ms. expr_marks a ms) → Derives (inner at_or) b (λ ms. expr_marks b ms) → Derives (prim inner) (least a b) (λ ms. expr_marks (least a b) ms)
  least_derives h k = right_derives (right_derives (right_derives (right_derives (right_derives (right_derives (left_derives
      (map_derives (λ ((w, (a, b)) : Token × (Expr × Expr)). least a b) (both_derive (word_derives kinds.Min (codes "MIN") refl refl) (arguments_derive h k)))))))))

  greatest_derives : {a b : Expr} → Derives (inner at_or) a (λ ms. expr_marks a ms) → Derives (inner at_or) b (λ ms. expr_marks b ms) → Derives (prim inner) (larger a b) (λ ms. expr_marks (larger a b) ms)
  greatest_derives h k = right_derives (right_derives (right_derives (right_derives (right_derives (right_derives (right_derives (left_derives
      (map_derives (λ ((w, (a, b)) : Token × (Expr × Expr)). larger a b) (both_derive (word_derives kinds.Max (codes "MAX") refl refl) (arguments_derive h k))))))))))

  selection_derives : {g a b : Expr} → Derives (inner at_or) g (λ ms. expr_marks g ms) → Derives (inner at_or) a (λ ms. expr_marks a ms) → Derives (inner at_or) b (λ ms. expr_marks b ms)
      → Derives (prim inner) (selection g a b) (λ ms. expr_marks (selection g a b) ms)
  selection_derives x y z = right_derives (right_derives (right_derives (right_derives (right_derives (right_derives (right_derives (right_derives
      (map_derives (λ ((w, (g, (a, b))) : Token × (Expr × (Expr × Expr))). selection g a b) (both_derive (word_derives kinds.Sel (codes "SEL") refl refl) (three_arguments_derive x y z))))))))))

  negation_derives : {e : Expr} → Derives (inner at_unary) e (λ ms. expr_marks e ms) → Derives (unary inner) (negation e) (λ ms. expr_marks (negation e) ms)
  negation_derives h = left_derives (map_derives (λ ((w, e) : Token × Expr). negation e) (both_derive dash_derives h))

  complement_derives : {e : Expr} → Derives (inner at_unary) e (λ ms. expr_marks e ms) → Derives (unary inner) (complement e) (λ ms. expr_marks (complement e) ms)
  complement_derives h = right_derives (left_derives (map_derives (λ ((w, e) : Token × Expr). complement e) (both_derive (word_derives kinds.Not (codes "NOT") refl refl) h)))

  product_derives : (e : Expr) (fs : Factors) → has_factors fs ≡ true → Derives (inner at_unary) e (λ ms. expr_marks e ms)
      → Derives (many (word_of products & inner at_unary)) (factor_pairs fs) (λ ms. factors_marks fs ms) → Derives (level inner at_product) (product e fs) (λ ms. expr_marks (product e fs) ms)
  product_derives e no_factors some h k = absurd cc
  product_derives e (factors op d fs) some h k =
      subst (λ r. Derives (level inner at_product) (product e r) (λ ms. expr_marks (product e (factors op d fs)) ms)) (factors_same (factors op d fs))
      (right_derives (map_derives (made inner product_of) (both_derive h (some_derive k))))

  sum_derives : (e : Expr) (ts : Terms) → has_terms ts ≡ true → Derives (inner at_product) e (λ ms. expr_marks e ms)
      → Derives (many (word_of sums & inner at_product)) (term_pairs ts) (λ ms. terms_marks ts ms) → Derives (level inner at_sum) (sum e ts) (λ ms. expr_marks (sum e ts) ms)
  sum_derives e no_terms some h k = absurd cc
  sum_derives e (terms minus d ts) some h k =
      subst (λ r. Derives (level inner at_sum) (sum e r) (λ ms. expr_marks (sum e (terms minus d ts)) ms)) (terms_same (terms minus d ts))
      (right_derives (map_derives (made inner sum_of) (both_derive h (some_derive k))))

  ordered_derives : (a : Expr) (op : StOrder) (b : Expr) → Derives (inner at_sum) a (λ ms. expr_marks a ms) → Derives (inner at_sum) b (λ ms. expr_marks b ms)
      → Derives (level inner at_order) (order a op b) (λ ms. expr_marks (order a op b) ms)
  ordered_derives a op b h k =
      subst (λ o. Derives (level inner at_order) (order a o b) (λ ms. expr_marks (order a op b) ms)) (order_same op)
      (right_derives (map_derives (λ ((a, (s, b)) : Expr × (Token × Expr)). order a (order_of s.kind) b) (both_derive h (both_derive (order_derives op) k))))

  equated_derives : (a : Expr) (same : Bool) (b : Expr) → Derives (inner at_order) a (λ ms. expr_marks a ms) → Derives (inner at_order) b (λ ms. expr_marks b ms)
      → Derives (level inner at_equal) (equal a same b) (λ ms. expr_marks (equal a same b) ms)
  equated_derives a same b h k =
      subst (λ o. Derives (level inner at_equal) (equal a o b) (λ ms. expr_marks (equal a same b) ms)) (equal_same same)
      (right_derives (map_derives (λ ((a, (s, b)) : Expr × (Token × Expr)). equal a (is_equality s.kind) b) (both_derive h (both_derive (equal_derives same) k))))

  -- operands with a word between them
  joined_derive : (l : Level) (k : TokenKind) (w : Text) (form : Exprs → Expr) (d : Expr) (ds : Exprs) → has_two (exprs d ds) ≡ true → Derives (inner l) d (λ ms. expr_marks d ms)
      → Derives (many (word_of (k ∷ []) & inner l)) (expr_pairs w ds) (λ ms. more_marks w ds ms)
      → Derives (made inner (λ e more. form (exprs_of (e ∷ map second more))) <$> operands inner l (k ∷ [])) (form (exprs d ds)) (λ ms. operands_marks w (exprs d ds) ms)
  joined_derive l k w form d no_exprs two h more = absurd cc
  joined_derive l k w form d (exprs e es) two h more =
      subst (λ r. Derives (made inner (λ e more. form (exprs_of (e ∷ map second more))) <$> operands inner l (k ∷ [])) (form (exprs d r)) (λ ms. operands_marks w (exprs d (exprs e es)) ms)) (exprs_same w (exprs e es))
      (map_derives (made inner (λ e more. form (exprs_of (e ∷ map second more)))) (both_derive h (some_derive more)))

-- ---- every expression that has a spelling

mutual
  pub expr_derives : (n : ℕ) (l : Level) (e : Expr) → is_expr n l e ≡ true → Derives (level (below n) l) e (λ ms. expr_marks e ms)
  expr_derives n l (truth b) r = prim_of_level (below n) _ _ l (truth_derives (below n) b)
  expr_derives n l (number (pos k)) r = prim_of_level (below n) _ _ l (number_derives (below n) k r)
  expr_derives n l (number (negsuc k)) r = absurd cc
  expr_derives n l (named x) r = prim_of_level (below n) _ _ l (name_derives (below n) x r)
  expr_derives zero l (paren e) r = absurd cc
  expr_derives (suc n) l (paren e) r = prim_of_level (below (suc n)) _ _ l (paren_derives (below (suc n)) (inner_derives n at_or e (expr_derives n at_or e r)))
  expr_derives zero l (negation e) r = absurd cc
  expr_derives (suc n) l (negation e) r = unary_of_level (below (suc n)) _ _ l (negation_derives (below (suc n)) (inner_derives n at_unary e (expr_derives n at_unary e r)))
  expr_derives zero l (complement e) r = absurd cc
  expr_derives (suc n) l (complement e) r = unary_of_level (below (suc n)) _ _ l (complement_derives (below (suc n)) (inner_derives n at_unary e (expr_derives n at_unary e r)))
  expr_derives zero l (absolute e) r = absurd cc
  expr_derives (suc n) l (absolute e) r = prim_of_level (below (suc n)) _ _ l (absolute_derives (below (suc n)) (inner_derives n at_or e (expr_derives n at_or e r)))
  expr_derives zero l (least a b) r = absurd cc
  expr_derives (suc n) l (least a b) r =
      let s = parts (is_expr n at_or a) (is_expr n at_or b) r in
      prim_of_level (below (suc n)) _ _ l (least_derives (below (suc n)) (inner_derives n at_or a (expr_derives n at_or a s.0)) (inner_derives n at_or b (expr_derives n at_or b s.1)))
  expr_derives zero l (larger a b) r = absurd cc
  expr_derives (suc n) l (larger a b) r =
      let s = parts (is_expr n at_or a) (is_expr n at_or b) r in
      prim_of_level (below (suc n)) _ _ l (greatest_derives (below (suc n)) (inner_derives n at_or a (expr_derives n at_or a s.0)) (inner_derives n at_or b (expr_derives n at_or b s.1)))
  expr_derives zero l (selection g a b) r = absurd cc
  expr_derives (suc n) l (selection g a b) r =
      let s = parts (is_expr n at_or g) (is_expr n at_or a && is_expr n at_or b) r in
      let t = parts (is_expr n at_or a) (is_expr n at_or b) s.1 in
      prim_of_level (below (suc n)) _ _ l (selection_derives (below (suc n)) (inner_derives n at_or g (expr_derives n at_or g s.0)) (inner_derives n at_or a (expr_derives n at_or a t.0)) (inner_derives n at_or b (expr_derives n at_or b t.1)))
  expr_derives zero l (product e fs) r = let wrong = parts (holds_level l at_product) false r in let is : false ≡ true = wrong.1 in absurd cc
  expr_derives (suc n) l (product e fs) r =
      let s = parts (holds_level l at_product) (has_factors fs && (is_expr n at_unary e && are_factors n fs)) r in
      let t = parts (has_factors fs) (is_expr n at_unary e && are_factors n fs) s.1 in
      let u = parts (is_expr n at_unary e) (are_factors n fs) t.1 in
      of_level (below (suc n)) _ _ l at_product s.0 (product_derives (below (suc n)) e fs t.0 (inner_derives n at_unary e (expr_derives n at_unary e u.0)) (factors_derive n fs u.1))
  expr_derives zero l (sum e ts) r = let wrong = parts (holds_level l at_sum) false r in let is : false ≡ true = wrong.1 in absurd cc
  expr_derives (suc n) l (sum e ts) r =
      let s = parts (holds_level l at_sum) (has_terms ts && (is_expr n at_product e && are_terms n ts)) r in
      let t = parts (has_terms ts) (is_expr n at_product e && are_terms n ts) s.1 in
      let u = parts (is_expr n at_product e) (are_terms n ts) t.1 in
      of_level (below (suc n)) _ _ l at_sum s.0 (sum_derives (below (suc n)) e ts t.0 (inner_derives n at_product e (expr_derives n at_product e u.0)) (terms_derive n ts u.1))
  expr_derives zero l (order a op b) r = let wrong = parts (holds_level l at_order) false r in let is : false ≡ true = wrong.1 in absurd cc
  expr_derives (suc n) l (order a op b) r =
      let s = parts (holds_level l at_order) (is_expr n at_sum a && is_expr n at_sum b) r in
      let t = parts (is_expr n at_sum a) (is_expr n at_sum b) s.1 in
      of_level (below (suc n)) _ _ l at_order s.0 (ordered_derives (below (suc n)) a op b (inner_derives n at_sum a (expr_derives n at_sum a t.0)) (inner_derives n at_sum b (expr_derives n at_sum b t.1)))
  expr_derives zero l (equal a same b) r = let wrong = parts (holds_level l at_equal) false r in let is : false ≡ true = wrong.1 in absurd cc
  expr_derives (suc n) l (equal a same b) r =
      let s = parts (holds_level l at_equal) (is_expr n at_order a && is_expr n at_order b) r in
      let t = parts (is_expr n at_order a) (is_expr n at_order b) s.1 in
      of_level (below (suc n)) _ _ l at_equal s.0 (equated_derives (below (suc n)) a same b (inner_derives n at_order a (expr_derives n at_order a t.0)) (inner_derives n at_order b (expr_derives n at_order b t.1)))
  expr_derives zero l (all_of es) r = let wrong = parts (holds_level l at_and) false r in let is : false ≡ true = wrong.1 in absurd cc
  expr_derives (suc n) l (all_of no_exprs) r = let wrong = parts (holds_level l at_and) false r in let is : false ≡ true = wrong.1 in absurd cc
  expr_derives (suc n) l (all_of (exprs d ds)) r =
      let s = parts (holds_level l at_and) (has_two (exprs d ds) && (is_expr n at_equal d && are_exprs n at_equal ds)) r in
      let t = parts (has_two (exprs d ds)) (is_expr n at_equal d && are_exprs n at_equal ds) s.1 in
      let u = parts (is_expr n at_equal d) (are_exprs n at_equal ds) t.1 in
      of_level (below (suc n)) _ _ l at_and s.0 (right_derives
      (joined_derive (below (suc n)) at_equal kinds.And (codes "AND") all_of d ds t.0 (inner_derives n at_equal d (expr_derives n at_equal d u.0)) (exprs_derive n at_equal kinds.And (codes "AND") ds refl refl u.1)))
  expr_derives zero l (odd_of es) r = let wrong = parts (holds_level l at_xor) false r in let is : false ≡ true = wrong.1 in absurd cc
  expr_derives (suc n) l (odd_of no_exprs) r = let wrong = parts (holds_level l at_xor) false r in let is : false ≡ true = wrong.1 in absurd cc
  expr_derives (suc n) l (odd_of (exprs d ds)) r =
      let s = parts (holds_level l at_xor) (has_two (exprs d ds) && (is_expr n at_and d && are_exprs n at_and ds)) r in
      let t = parts (has_two (exprs d ds)) (is_expr n at_and d && are_exprs n at_and ds) s.1 in
      let u = parts (is_expr n at_and d) (are_exprs n at_and ds) t.1 in
      of_level (below (suc n)) _ _ l at_xor s.0 (right_derives
      (joined_derive (below (suc n)) at_and kinds.Xor (codes "XOR") odd_of d ds t.0 (inner_derives n at_and d (expr_derives n at_and d u.0)) (exprs_derive n at_and kinds.Xor (codes "XOR") ds refl refl u.1)))
  expr_derives zero l (any_of es) r = let wrong = parts (holds_level l at_or) false r in let is : false ≡ true = wrong.1 in absurd cc
  expr_derives (suc n) l (any_of no_exprs) r = let wrong = parts (holds_level l at_or) false r in let is : false ≡ true = wrong.1 in absurd cc
  expr_derives (suc n) l (any_of (exprs d ds)) r =
      let s = parts (holds_level l at_or) (has_two (exprs d ds) && (is_expr n at_xor d && are_exprs n at_xor ds)) r in
      let t = parts (has_two (exprs d ds)) (is_expr n at_xor d && are_exprs n at_xor ds) s.1 in
      let u = parts (is_expr n at_xor d) (are_exprs n at_xor ds) t.1 in
      of_level (below (suc n)) _ _ l at_or s.0 (right_derives
      (joined_derive (below (suc n)) at_xor kinds.Or (codes "OR") any_of d ds t.0 (inner_derives n at_xor d (expr_derives n at_xor d u.0)) (exprs_derive n at_xor kinds.Or (codes "OR") ds refl refl u.1)))

  factors_derive : (n : ℕ) (fs : Factors) → are_factors n fs ≡ true → Derives (many (word_of products & below (suc n) at_unary)) (factor_pairs fs) (λ ms. factors_marks fs ms)
  factors_derive n no_factors r = none_derives
  factors_derive n (factors op e fs) r =
      let s = parts (is_expr n at_unary e) (are_factors n fs) r in
      more_derive (both_derive (mul_derives op) (inner_derives n at_unary e (expr_derives n at_unary e s.0))) (factors_derive n fs s.1)

  terms_derive : (n : ℕ) (ts : Terms) → are_terms n ts ≡ true → Derives (many (word_of sums & below (suc n) at_product)) (term_pairs ts) (λ ms. terms_marks ts ms)
  terms_derive n no_terms r = none_derives
  terms_derive n (terms minus e ts) r =
      let s = parts (is_expr n at_product e) (are_terms n ts) r in
      more_derive (both_derive (plus_derives minus) (inner_derives n at_product e (expr_derives n at_product e s.0))) (terms_derive n ts s.1)

  exprs_derive : (n : ℕ) (l : Level) (k : TokenKind) (w : Text) (es : Exprs) → kind_of_word w ≡ k → is_word_text w ≡ true → are_exprs n l es ≡ true
      → Derives (many (word_of (k ∷ []) & below (suc n) l)) (expr_pairs w es) (λ ms. more_marks w es ms)
  exprs_derive n l k w no_exprs is good r = none_derives
  exprs_derive n l k w (exprs e es) is good r =
      let s = parts (is_expr n l e) (are_exprs n l es) r in
      more_derive (both_derive (word_derives k w is good) (inner_derives n l e (expr_derives n l e s.0))) (exprs_derive n l k w es is good s.1)

-- an expression as it stands in a statement
pub whole_derives : (e : Expr) → is_whole_expr e ≡ true → Derives expression e (λ ms. expr_marks e ms)
unfolding expression
whole_derives e r =
    let h = expr_derives max_depth at_or e r in
    record { text = h.text; derived = h.derived; is = h.is; good = h.good }
