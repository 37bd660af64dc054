-- The value of the text of an expression is that of the expression, in each memory from which its names are read and in
-- which its own variables hold what they are to hold.
use Rattle.std.proofs.Common.{◌≡◌, ℕ, ◌+◌, ℤ, pos, negsuc, neg_ℤ, nat_abs, Bool, true, false, not, ◌&&◌, ◌||◌, List, [], ◌∷◌, map, Result, Ok, Err, refl, sym, ap, subst, ◌∙◌, if◌then◌else◌}
use Rattle.std.specs.List.{AllByRecursion}
use Rattle.cif_net_expr.specs.Tree.{CmpOp, eq, ne, lt, le, gt, ge, NetExpr, net_expr, NetForm, n_truth, n_number, n_loc, n_var, n_input, n_alg, n_received, n_minus, n_plus, n_not, n_abs, n_min, n_max, n_sum, n_product, n_compare, n_and, n_or, n_implies, n_iff, n_if, NetExprs, no_net_exprs, net_exprs, NetTerms, no_net_terms, net_terms, NetFactors, no_net_factors, net_factors}
use Rattle.cif_net_model.specs.Value as v
use Rattle.cif_net_model.specs.Reads.{names_in, form_names, term_names, factor_names, list_names}
use Rattle.cif_net_model.proofs.ValueLaws.{all-parts}
use Rattle.cif_net_expr.specs.Tree.{MulOp}
use Rattle.cif_net_model.specs.Kinds.{in_32_bits}
use Rattle.st_ast.specs.declared.tree.StOrder.TheVariants as cmp
use Rattle.cif_net_model.specs.Safe.{HasBits, CanDivide}
use Rattle.st_ast.specs.Tree.{Expr, Factors, Terms, truth, negation, complement, absolute, equal, order, no_factors, factors, no_terms, terms, exprs_of}
use Rattle.st_ast.specs.Values.{Fault, Memory, of_bool, is_true, value_of, joined, with_value, both, checked, added, are_equal, holds, sum_on, product_on, multiplied, smaller, larger}
use Rattle.st_ast.specs.declared.tree.StVar.{StVar}
use Rattle.st_ast.specs.declared.tree.StOrder.{StOrder}
use Rattle.plc_expr.specs.Texts.{Naming, is_leaf, wrapped, is_joined, is_test, is_factor, is_term, operand, side, factor, term, number_text, negated, says, said, all_said, conjunction, says_or, said_or, all_said_or, disjunction, implication, comparison, mul_of, sum_text, product_text, temps, text, form_text, terms_text, factors_text, texts}
use Rattle.cif_net_model.specs.Safe.{Setting, value_at, IsTruth, IsSafe, IsSafeForm, AreSafeTerms, AreSafeFactors, AreSafeTruths}
use Rattle.plc_expr.specs.Held.{IsRead, Reads, Held, HeldForm, HeldTerms, HeldFactors, HeldList}
use Rattle.plc_expr.proofs.Numbers.{same-truth, same-equal, same-least, same-greatest, bits-more, checked-is, same-added, same-product}

truth-of : (b : Bool) → is_true (of_bool b) ≡ b
truth-of true = refl
truth-of false = refl

both-value : (f : ℤ → ℤ → Result ℤ Fault) (a b : Result ℤ Fault) (x y : ℤ) → a ≡ Ok x → b ≡ Ok y → both f a b ≡ f x y
both-value f a b x y h g = ap (λ r. both f r b) h ∙ ap (λ r. both f (Ok x) r) g

module _ (vars : List StVar) (m : Memory) where
  abbrev pub Is : Expr → ℤ → Type 0
  Is e z = value_of vars e m ≡ Ok z

  -- the expression has this truth value
  abbrev pub Holds : Expr → Bool → Type 0
  Holds e b = Is e (of_bool b)

  wrapped-value : (t : Bool) (e : Expr) → value_of vars (wrapped t e) m ≡ value_of vars e m
  wrapped-value true e = refl
  wrapped-value false e = refl

  -- ---- truth

  complement-value : (t : Bool) (e : Expr) (b : Bool) → Holds e b → Holds (complement (wrapped t e)) (not b)
  complement-value t e b h =
      ap (λ r. with_value r (λ f. Err f) (λ x. Ok (of_bool (not (is_true x))))) (wrapped-value t e ∙ h)
      ∙ ap (λ c. Ok (of_bool (not c))) (truth-of b)

  truth-same : (b c : Bool) → Holds (truth c) b → c ≡ b
  truth-same true true h = refl
  truth-same false false h = refl
  truth-same true false h = absurd cc
  truth-same false true h = absurd cc

  negated-value : (e : Expr) (b : Bool) → Holds e b → Holds (negated e) (not b)
  negated-value (truth c) b h = ap (λ d. Ok (of_bool (not d))) (truth-same b c h)
  negated-value e b h = complement-value (not (is_leaf e)) e b h

  -- what says nothing holds
  silent : (e : Expr) (b : Bool) → says e ≡ false → Holds e b → b ≡ true
  silent (truth true) b q h = sym (truth-same b true h)
  silent e b q h = absurd cc

  -- ---- conjunctions

  -- the conjunction of these has this truth value
  abbrev pub Joint : List Expr → Bool → Type 0
  Joint [] b = b ≡ true
  Joint (e ∷ es) b = (x : Bool) × (y : Bool) × Holds e x × Joint es y × (b ≡ (x && y))

  and-true : (x y b : Bool) → y ≡ true → b ≡ (x && y) → b ≡ x
  and-true true y b h e = e ∙ h
  and-true false y b h e = e

  regroup : (acc x y b : Bool) → b ≡ (x && y) → ((acc && x) && y) ≡ (acc && b)
  regroup true x y b e = sym e
  regroup false x y b e = refl

  also-true : (acc b : Bool) → b ≡ true → acc ≡ (acc && b)
  also-true true b h = sym h
  also-true false b h = refl

  joined-value : (es : List Expr) (acc b : Bool) → Joint es b → joined vars (λ x y. x && y) acc (exprs_of (map operand es)) m ≡ Ok (of_bool (acc && b))
  joined-value [] acc b h = ap (λ c. Ok (of_bool c)) (also-true acc b h)
  joined-value (e ∷ es) acc b h =
      ap (λ r. with_value r (λ f. Err f) (λ z. joined vars (λ x y. x && y) (acc && is_true z) (exprs_of (map operand es)) m)) (wrapped-value (is_joined e) e ∙ h.2)
      ∙ ap (λ c. joined vars (λ x y. x && y) (acc && c) (exprs_of (map operand es)) m) (truth-of h.0)
      ∙ joined-value es (acc && h.0) h.1 h.3
      ∙ ap (λ c. Ok (of_bool c)) (regroup acc h.0 h.1 b h.4)

  conjunction-value : (es : List Expr) (b : Bool) → Joint es b → Holds (conjunction es) b
  conjunction-value [] b h = ap (λ c. Ok (of_bool c)) (sym h)
  conjunction-value (e ∷ []) b h = h.2 ∙ ap (λ c. Ok (of_bool c)) (sym (and-true h.0 h.1 b h.3 h.4))
  conjunction-value (e ∷ d ∷ es) b h = joined-value (e ∷ d ∷ es) true b h

  said-joint : (e : Expr) (es : List Expr) (x y : Bool) → Holds e x → Joint es y → Joint (said e es) (x && y)
  said-joint e es x y h t = go (says e) refl
    where
      go : (b : Bool) → says e ≡ b → Joint (if b then e ∷ es else es) (x && y)
      go true q = (x, y, h, t, refl)
      go false q = subst (λ c. Joint es (c && y)) (sym (silent e x q h)) t

  -- ---- disjunctions

  -- the disjunction of these has this truth value
  abbrev pub Either : List Expr → Bool → Type 0
  Either [] b = b ≡ false
  Either (e ∷ es) b = (x : Bool) × (y : Bool) × Holds e x × Either es y × (b ≡ (x || y))

  or-false : (x y b : Bool) → y ≡ false → b ≡ (x || y) → b ≡ x
  or-false true y b h e = e
  or-false false y b h e = e ∙ h

  regroup-or : (acc x y b : Bool) → b ≡ (x || y) → ((acc || x) || y) ≡ (acc || b)
  regroup-or true x y b e = refl
  regroup-or false x y b e = sym e

  also-false : (acc b : Bool) → b ≡ false → acc ≡ (acc || b)
  also-false true b h = refl
  also-false false b h = sym h

  either-value : (es : List Expr) (acc b : Bool) → Either es b → joined vars (λ x y. x || y) acc (exprs_of (map operand es)) m ≡ Ok (of_bool (acc || b))
  either-value [] acc b h = ap (λ c. Ok (of_bool c)) (also-false acc b h)
  either-value (e ∷ es) acc b h =
      ap (λ r. with_value r (λ f. Err f) (λ z. joined vars (λ x y. x || y) (acc || is_true z) (exprs_of (map operand es)) m)) (wrapped-value (is_joined e) e ∙ h.2)
      ∙ ap (λ c. joined vars (λ x y. x || y) (acc || c) (exprs_of (map operand es)) m) (truth-of h.0)
      ∙ either-value es (acc || h.0) h.1 h.3
      ∙ ap (λ c. Ok (of_bool c)) (regroup-or acc h.0 h.1 b h.4)

  disjunction-value : (es : List Expr) (b : Bool) → Either es b → Holds (disjunction es) b
  disjunction-value [] b h = ap (λ c. Ok (of_bool c)) (sym h)
  disjunction-value (e ∷ []) b h = h.2 ∙ ap (λ c. Ok (of_bool c)) (sym (or-false h.0 h.1 b h.3 h.4))
  disjunction-value (e ∷ d ∷ es) b h = either-value (e ∷ d ∷ es) false b h

  -- what says nothing doesn't hold
  silent-or : (e : Expr) (b : Bool) → says_or e ≡ false → Holds e b → b ≡ false
  silent-or (truth false) b q h = sym (truth-same b false h)
  silent-or e b q h = absurd cc

  said-either : (e : Expr) (es : List Expr) (x y : Bool) → Holds e x → Either es y → Either (said_or e es) (x || y)
  said-either e es x y h t = go (says_or e) refl
    where
      go : (b : Bool) → says_or e ≡ b → Either (if b then e ∷ es else es) (x || y)
      go true q = (x, y, h, t, refl)
      go false q = subst (λ c. Either es (c || y)) (sym (silent-or e x q h)) t

  implication-value : (a b : Expr) (x y : Bool) → Holds a x → Holds b y → Holds (implication a b) (not x || y)
  implication-value (truth false) b x y h g = ap (λ c. Ok (of_bool (not c || y))) (truth-same x false h)
  implication-value a b x y h g =
      disjunction-value (all_said_or (negated a ∷ b ∷ [])) (not x || y)
      (subst (λ c. Either (all_said_or (negated a ∷ b ∷ [])) (not x || c)) (or-false y false (y || false) refl refl)
      (said-either (negated a) (said_or b []) (not x) (y || false) (negated-value a x h) (said-either b [] y false g refl)))

  -- ---- comparisons

  equal-value : (a b : Expr) (same : Bool) (x y : ℤ) → Is a x → Is b y → Is (equal (side a) same (side b)) (of_bool (are_equal same x y))
  equal-value a b same x y h g =
      both-value (λ p q. Ok (of_bool (are_equal same p q))) (value_of vars (side a) m) (value_of vars (side b) m) x y (wrapped-value (is_test a) a ∙ h) (wrapped-value (is_test b) b ∙ g)

  order-value : (a b : Expr) (op : StOrder) (x y : ℤ) → Is a x → Is b y → Is (order (side a) op (side b)) (of_bool (holds op x y))
  order-value a b op x y h g =
      both-value (λ p q. Ok (of_bool (holds op p q))) (value_of vars (side a) m) (value_of vars (side b) m) x y (wrapped-value (is_test a) a ∙ h) (wrapped-value (is_test b) b ∙ g)

  comparison-value : (op : CmpOp) (a b : Expr) (x y : ℤ) → Is a x → Is b y → Is (comparison op a b) (v.of_bool (v.compared op x y))
  comparison-value eq a b x y h g = equal-value a b true x y h g ∙ ap (λ c. Ok (of_bool c)) (same-equal x y) ∙ ap Ok (same-truth _)
  comparison-value ne a b x y h g = equal-value a b false x y h g ∙ ap (λ c. Ok (of_bool (not c))) (same-equal x y) ∙ ap Ok (same-truth _)
  comparison-value lt a b x y h g = order-value a b cmp.Lt x y h g ∙ ap Ok (same-truth _)
  comparison-value le a b x y h g = order-value a b cmp.Le x y h g ∙ ap Ok (same-truth _)
  comparison-value gt a b x y h g = order-value a b cmp.Gt x y h g ∙ ap Ok (same-truth _)
  comparison-value ge a b x y h g = order-value a b cmp.Ge x y h g ∙ ap Ok (same-truth _)

  -- ---- numbers

  number-value : (z : ℤ) → in_32_bits z ≡ true → Is (number_text z) z
  number-value (pos n) h = refl
  number-value (negsuc n) h = checked-is (negsuc n) (bits-more (negsuc n) h)

  minus-value : (e : Expr) (z : ℤ) → HasBits (neg_ℤ z) → Is e z → Is (negation (factor e)) (neg_ℤ z)
  minus-value e z b h =
      ap (λ r. with_value r (λ f. Err f) (λ x. checked 64 (neg_ℤ x))) (wrapped-value (not (is_factor e)) e ∙ h) ∙ checked-is (neg_ℤ z) b

  absolute-value : (e : Expr) (z : ℤ) → HasBits (pos (nat_abs z)) → Is e z → Is (absolute e) (pos (nat_abs z))
  absolute-value e z b h = ap (λ r. with_value r (λ f. Err f) (λ x. checked 64 (pos (nat_abs x)))) h ∙ checked-is (pos (nat_abs z)) b

  -- a sum, given what its first term comes to, and what that and the other terms do
  sum-value : (e : Expr) (ts : Terms) (z y : ℤ) → Is e z → sum_on vars z ts m ≡ Ok y → Is (sum_text e ts) y
  sum-value e no_terms z y h g = h ∙ g
  sum-value e (terms s d ts) z y h g = ap (λ r. with_value r (λ f. Err f) (λ x. sum_on vars x (terms s d ts) m)) (wrapped-value (not (is_term e)) e ∙ h) ∙ g

  product-value : (e : Expr) (fs : Factors) (z y : ℤ) → Is e z → product_on vars z fs m ≡ Ok y → Is (product_text e fs) y
  product-value e no_factors z y h g = h ∙ g
  product-value e (factors op d fs) z y h g = ap (λ r. with_value r (λ f. Err f) (λ x. product_on vars x (factors op d fs) m)) (wrapped-value (not (is_factor e)) e ∙ h) ∙ g

  term-value : (s : Bool) (e : Expr) (ts : Terms) (z x y : ℤ) → Is e x → HasBits (v.added s z x) → sum_on vars (v.added s z x) ts m ≡ Ok y → sum_on vars z (terms s (term e) ts) m ≡ Ok y
  term-value s e ts z x y h b g =
      ap (λ r. with_value r (λ f. Err f) (λ p. with_value (checked 64 (added s z p)) (λ f. Err f) (λ q. sum_on vars q ts m))) (wrapped-value (not (is_term e)) e ∙ h)
      ∙ ap (λ r. with_value r (λ f. Err f) (λ q. sum_on vars q ts m)) (ap (checked 64) (same-added s z x) ∙ checked-is (v.added s z x) b)
      ∙ g

  factor-value : (op : MulOp) (e : Expr) (fs : Factors) (z x y : ℤ) → Is e x → CanDivide op x → HasBits (v.multiplied op z x) → product_on vars (v.multiplied op z x) fs m ≡ Ok y
      → product_on vars z (factors (mul_of op) (factor e) fs) m ≡ Ok y
  factor-value op e fs z x y h d b g =
      ap (λ r. with_value r (λ f. Err f) (λ p. with_value (multiplied 64 (mul_of op) z p) (λ f. Err f) (λ q. product_on vars q fs m))) (wrapped-value (not (is_factor e)) e ∙ h)
      ∙ ap (λ r. with_value r (λ f. Err f) (λ q. product_on vars q fs m)) (same-product op z x d b)
      ∙ g

  -- ---- expressions

  module _ (w : Naming) (x : Setting) where
    -- a truth value as Structured Text has it
    as-truth : (e : Expr) (z : ℤ) → IsTruth z → Is e z → Holds e (v.is_true z)
    as-truth e z t h = h ∙ ap Ok (t ∙ sym (same-truth (v.is_true z)))

    mutual
      pub text-value : (k : ℕ) (e : NetExpr) → Reads vars w x m e → IsSafe x e → Held vars w x m k e → Is (text w k e) (value_at x e)
      text-value k (net_expr f at) r s h = form-value k f r s h

      form-value : (k : ℕ) (f : NetForm) → AllByRecursion (IsRead vars w x m) (form_names f) → IsSafeForm x f → HeldForm vars w x m k f → Is (form_text w k f) (v.net_form_value x.algs x.state x.received f)
      form-value k (n_truth b) r s h = ap Ok (same-truth b)
      form-value k (n_number z) r s h = number-value z s
      form-value k (n_loc a p) r s h = r.0 p ∙ ap Ok (same-truth _)
      form-value k (n_var i) r s h = ap Ok r.0
      form-value k (n_input i) r s h = ap Ok r.0
      form-value k (n_alg i) r s h = absurd r.0
      form-value k n_received r s h = ap Ok r.0
      form-value k (n_minus e) r s h = minus-value (text w k e) (value_at x e) s.1 (text-value k e r s.0 h)
      form-value k (n_plus e) r s h = text-value k e r s h
      form-value k (n_not e) r s h =
          negated-value (text w k e) (v.is_true (value_at x e)) (as-truth (text w k e) (value_at x e) s.1 (text-value k e r s.0 h)) ∙ ap Ok (same-truth _)
      form-value k (n_abs e) r s h = absolute-value (text w k e) (value_at x e) s.1 (text-value k e r s.0 h)
      form-value k (n_min a b) r s h =
          let q = all-parts (IsRead vars w x m) (names_in a) (names_in b) r in
          both-value (λ p q. Ok (smaller p q)) (value_of vars (text w k a) m) (value_of vars (text w (k + temps a) b) m) (value_at x a) (value_at x b)
          (text-value k a q.0 s.0 h.0) (text-value (k + temps a) b q.1 s.1 h.1) ∙ ap Ok (same-least (value_at x a) (value_at x b))
      form-value k (n_max a b) r s h =
          let q = all-parts (IsRead vars w x m) (names_in a) (names_in b) r in
          both-value (λ p q. Ok (larger p q)) (value_of vars (text w k a) m) (value_of vars (text w (k + temps a) b) m) (value_at x a) (value_at x b)
          (text-value k a q.0 s.0 h.0) (text-value (k + temps a) b q.1 s.1 h.1) ∙ ap Ok (same-greatest (value_at x a) (value_at x b))
      form-value k (n_sum e es) r s h =
          let q = all-parts (IsRead vars w x m) (names_in e) (term_names es) r in
          sum-value (text w k e) (terms_text w (k + temps e) es) (value_at x e) _ (text-value k e q.0 s.0 h.0) (terms-value (k + temps e) es (value_at x e) q.1 s.1 h.1)
      form-value k (n_product e es) r s h =
          let q = all-parts (IsRead vars w x m) (names_in e) (factor_names es) r in
          product-value (text w k e) (factors_text w (k + temps e) es) (value_at x e) _ (text-value k e q.0 s.0 h.0) (factors-value (k + temps e) es (value_at x e) q.1 s.1 h.1)
      form-value k (n_compare a op b) r s h =
          let q = all-parts (IsRead vars w x m) (names_in a) (names_in b) r in
          comparison-value op (text w k a) (text w (k + temps a) b) (value_at x a) (value_at x b) (text-value k a q.0 s.0 h.0) (text-value (k + temps a) b q.1 s.1 h.1)
      form-value k (n_and es) r s h = conjunction-value (all_said (texts w k es)) (v.net_all x.algs x.state x.received es) (all-value k es r s h) ∙ ap Ok (same-truth _)
      form-value k (n_or es) r s h = disjunction-value (all_said_or (texts w k es)) (v.net_any x.algs x.state x.received es) (any-value k es r s h) ∙ ap Ok (same-truth _)
      form-value k (n_implies a b) r s h =
          let q = all-parts (IsRead vars w x m) (names_in a) (names_in b) r in
          implication-value (text w k a) (text w (k + temps a) b) (v.is_true (value_at x a)) (v.is_true (value_at x b))
          (as-truth (text w k a) (value_at x a) s.0.1 (text-value k a q.0 s.0.0 h.0)) (as-truth (text w (k + temps a) b) (value_at x b) s.1.1 (text-value (k + temps a) b q.1 s.1.0 h.1))
          ∙ ap Ok (same-truth _)
      form-value k (n_iff a b) r s h =
          let q = all-parts (IsRead vars w x m) (names_in a) (names_in b) r in
          comparison-value eq (text w k a) (text w (k + temps a) b) (value_at x a) (value_at x b) (text-value k a q.0 s.0 h.0) (text-value (k + temps a) b q.1 s.1 h.1)
      form-value k (n_if bs e) r s h = ap Ok h.2

      terms-value : (k : ℕ) (es : NetTerms) (z : ℤ) → AllByRecursion (IsRead vars w x m) (term_names es) → AreSafeTerms x z es → HeldTerms vars w x m k es
          → sum_on vars z (terms_text w k es) m ≡ Ok (v.net_sum x.algs x.state x.received z es)
      terms-value k no_net_terms z r s h = refl
      terms-value k (net_terms t e es) z r s h =
          let q = all-parts (IsRead vars w x m) (names_in e) (term_names es) r in
          term-value t (text w k e) (terms_text w (k + temps e) es) z (value_at x e) _ (text-value k e q.0 s.0 h.0) s.1
          (terms-value (k + temps e) es (v.added t z (value_at x e)) q.1 s.2 h.1)

      factors-value : (k : ℕ) (es : NetFactors) (z : ℤ) → AllByRecursion (IsRead vars w x m) (factor_names es) → AreSafeFactors x z es → HeldFactors vars w x m k es
          → product_on vars z (factors_text w k es) m ≡ Ok (v.net_product x.algs x.state x.received z es)
      factors-value k no_net_factors z r s h = refl
      factors-value k (net_factors op e es) z r s h =
          let q = all-parts (IsRead vars w x m) (names_in e) (factor_names es) r in
          factor-value op (text w k e) (factors_text w (k + temps e) es) z (value_at x e) _ (text-value k e q.0 s.0 h.0) s.1 s.2
          (factors-value (k + temps e) es (v.multiplied op z (value_at x e)) q.1 s.3 h.1)

      all-value : (k : ℕ) (es : NetExprs) → AllByRecursion (IsRead vars w x m) (list_names es) → AreSafeTruths x es → HeldList vars w x m k es → Joint (all_said (texts w k es)) (v.net_all x.algs x.state x.received es)
      all-value k no_net_exprs r s h = refl
      all-value k (net_exprs e es) r s h =
          let q = all-parts (IsRead vars w x m) (names_in e) (list_names es) r in
          said-joint (text w k e) (all_said (texts w (k + temps e) es)) (v.is_true (value_at x e)) (v.net_all x.algs x.state x.received es)
          (as-truth (text w k e) (value_at x e) s.1 (text-value k e q.0 s.0 h.0)) (all-value (k + temps e) es q.1 s.2 h.1)

      any-value : (k : ℕ) (es : NetExprs) → AllByRecursion (IsRead vars w x m) (list_names es) → AreSafeTruths x es → HeldList vars w x m k es → Either (all_said_or (texts w k es)) (v.net_any x.algs x.state x.received es)
      any-value k no_net_exprs r s h = refl
      any-value k (net_exprs e es) r s h =
          let q = all-parts (IsRead vars w x m) (names_in e) (list_names es) r in
          said-either (text w k e) (all_said_or (texts w (k + temps e) es)) (v.is_true (value_at x e)) (v.net_any x.algs x.state x.received es)
          (as-truth (text w k e) (value_at x e) s.1 (text-value k e q.0 s.0 h.0)) (any-value (k + temps e) es q.1 s.2 h.1)
