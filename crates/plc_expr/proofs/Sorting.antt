-- The text of an expression with a kind is BOOL or an integer by that kind, and the statements before it break no check, where
-- the names are declared so.
use Rattle.std.proofs.Common.{◌≡◌, ℕ, ◌+◌, ℤ, pos, negsuc, Bool, true, false, not, List, [], ◌∷◌, ◌++◌, map, length, Option, Some, None, refl, sym, ap, subst, ◌∙◌, slice_get, arith}
use Rattle.std.specs.Prelude.{option_map}
use Rattle.std.specs.List.{list_all, AllByRecursion}
use Rattle.std.proofs.lemmas.Bool.Decides.{nat_tests}
use Rattle.std.proofs.lemmas.List.{length-append}
use Rattle.grammar.specs.Pieces.{Text}
use Rattle.cif_base.specs.declared.types.Ty.{Ty}
use Rattle.cif_base.specs.declared.types.Ty.TheVariants as cif_ty
use Rattle.cif_net_expr.specs.Tree.{CmpOp, eq, ne, lt, le, gt, ge, NetExpr, net_expr, NetForm, n_truth, n_number, n_loc, n_var, n_input, n_alg, n_received, n_minus, n_plus, n_not, n_abs, n_min, n_max, n_sum, n_product, n_compare, n_and, n_or, n_implies, n_iff, n_if, NetExprs, no_net_exprs, net_exprs, NetTerms, no_net_terms, net_terms, NetFactors, no_net_factors, net_factors, NetBranches, no_net_branches, net_branches}
use Rattle.cif_net_model.specs.Net.{NetStored, Net}
use Rattle.cif_net_model.specs.Kinds.{Kind, bool_kind, int_kind, enum_kind, is_bool, is_int, is_equality, same_kind, kind_of, has_type, number_fits, stored_fits, received_fits, fits, form_fits, terms_fit, factors_fit, all_fit}
use Rattle.cif_net_model.specs.Reads.{Read, alg_passes, names_in, form_names, term_names, factor_names, list_names, branch_names}
use Rattle.cif_net_model.proofs.Passing.{and-left, and-right, both-pass}
use Rattle.cif_net_model.proofs.PlainLaws.{never}
use Rattle.st_ast.specs.Tree.{Expr, Factors, Terms, truth, named, negation, complement, order, equal, absolute, least, greatest, exprs_of, no_factors, factors, no_terms, terms}
use Rattle.st_ast.specs.Checks.{sort_of_type, is_same_sort, all_integers, all_integer_factors, all_booleans, knows_all, knows_terms, knows_factors}
use Rattle.st_ast.specs.declared.tree.StVar.{StVar}
use Rattle.st_ast.specs.declared.tree.StMul.{StMul}
use Rattle.st_ast.specs.declared.tree.StOrder.{StOrder}
use Rattle.st_ast.specs.declared.tree.StOrder.TheVariants as cmp
use Rattle.st_ast.specs.declared.tree.StTy.{StTy}
use Rattle.plc_expr.specs.Texts.{Naming, is_leaf, is_joined, is_test, is_factor, is_term, wrapped, operand, side, factor, term, number_text, negated, all_said, conjunction, said_or, all_said_or, disjunction, implication, comparison, mul_of, sum_text, product_text, temps, form_temps, terms_temps, factors_temps, list_temps, branches_temps, text, form_text, terms_text, factors_text, texts}
use Rattle.plc_expr.specs.Sorts.{is_bool_type, stored_boolean, received_boolean, is_boolean, form_boolean, sort_by, type_by, own_types, form_types, terms_types, factors_types, list_types, branches_types, HasSort, NamesHaveSorts, OwnIs, AreOwn}
use Rattle.cif_net_model.proofs.Sides.{sides-fit}
use Rattle.plc_expr.proofs.Spelling.{said-all, said_or-all}

-- ---- kinds

same-bool : (k : Kind) (t : Ty) (ls : List Text) → same_kind k (kind_of t ls) ≡ true → is_bool_type t ≡ is_bool k
same-bool bool_kind cif_ty.Bool ls h = refl
same-bool bool_kind (cif_ty.Int lo hi) ls h = never h
same-bool bool_kind (cif_ty.Enum size) ls h = never h
same-bool int_kind cif_ty.Bool ls h = never h
same-bool int_kind (cif_ty.Int lo hi) ls h = refl
same-bool int_kind (cif_ty.Enum size) ls h = never h
same-bool (enum_kind xs) cif_ty.Bool ls h = never h
same-bool (enum_kind xs) (cif_ty.Int lo hi) ls h = never h
same-bool (enum_kind xs) (cif_ty.Enum size) ls h = refl

type-bool : (k : Kind) (t : Ty) → has_type t k ≡ true → is_bool_type t ≡ is_bool k
type-bool bool_kind cif_ty.Bool h = refl
type-bool bool_kind (cif_ty.Int lo hi) h = never h
type-bool bool_kind (cif_ty.Enum size) h = never h
type-bool int_kind cif_ty.Bool h = never h
type-bool int_kind (cif_ty.Int lo hi) h = refl
type-bool int_kind (cif_ty.Enum size) h = never h
type-bool (enum_kind xs) cif_ty.Bool h = never h
type-bool (enum_kind xs) (cif_ty.Int lo hi) h = never h
type-bool (enum_kind xs) (cif_ty.Enum size) h = refl

int-bool : (k : Kind) → is_int k ≡ true → false ≡ is_bool k
int-bool bool_kind h = never h
int-bool int_kind h = refl
int-bool (enum_kind ls) h = never h

number-bool : (k : Kind) (z : ℤ) → number_fits k z ≡ true → false ≡ is_bool k
number-bool bool_kind z h = never h
number-bool int_kind z h = refl
number-bool (enum_kind ls) z h = refl

stored-bool : (k : Kind) (o : Option NetStored) → stored_fits k o ≡ true → stored_boolean o ≡ is_bool k
stored-bool k None h = never h
stored-bool k (Some v) h = same-bool k v.type_of v.literals h

received-bool : (k : Kind) (o : Option Ty) → received_fits k o ≡ true → received_boolean o ≡ is_bool k
received-bool k None h = never h
received-bool k (Some t) h = type-bool k t h

abbrev pub NoAlg : List Read → Type 0
NoAlg qs = list_all (alg_passes (λ k. false)) qs ≡ true

pub no-algs : (ps qs : List Read) → NoAlg (ps ++ qs) → NoAlg ps × NoAlg qs
no-algs = both-pass (alg_passes (λ k. false))

module _ (n : Net) (r : Option Ty) where
  mutual
    -- an expression is true or false by its kind
    pub bool-by : (k : Kind) (e : NetExpr) → fits n r k e ≡ true → NoAlg (names_in e) → is_boolean n r e ≡ is_bool k
    bool-by k (net_expr f at) h a = form-bool k f h a

    form-bool : (k : Kind) (f : NetForm) → form_fits n r k f ≡ true → NoAlg (form_names f) → form_boolean n r f ≡ is_bool k
    form-bool k (n_truth b) h a = sym h
    form-bool k (n_number z) h a = number-bool k z h
    form-bool k (n_loc i p) h a = sym (and-left _ _ h)
    form-bool k (n_var i) h a = stored-bool k (slice_get n.vars i) h
    form-bool k (n_input i) h a = stored-bool k (slice_get n.inputs i) h
    form-bool k (n_alg i) h a = never a
    form-bool k n_received h a = received-bool k r h
    form-bool k (n_minus e) h a = int-bool k (and-left _ _ h)
    form-bool k (n_plus e) h a = int-bool k (and-left _ _ h)
    form-bool k (n_not e) h a = sym (and-left _ _ h)
    form-bool k (n_abs e) h a = int-bool k (and-left _ _ h)
    form-bool k (n_min p q) h a = int-bool k (and-left _ _ (and-left _ _ h))
    form-bool k (n_max p q) h a = int-bool k (and-left _ _ (and-left _ _ h))
    form-bool k (n_sum e es) h a = int-bool k (and-left _ _ (and-left _ _ h))
    form-bool k (n_product e es) h a = int-bool k (and-left _ _ (and-left _ _ h))
    form-bool k (n_compare p op q) h a = sym (and-left _ _ h)
    form-bool k (n_and es) h a = sym (and-left _ _ h)
    form-bool k (n_or es) h a = sym (and-left _ _ h)
    form-bool k (n_implies p q) h a = sym (and-left _ _ (and-left _ _ h))
    form-bool k (n_iff p q) h a = sym (and-left _ _ (and-left _ _ h))
    form-bool k (n_if bs e) h a = bool-by k e (and-right _ _ h) (no-algs (branch_names bs) (names_in e) a).1

  -- ---- own variables

  both-length : {A : Type 0} (xs ys : List A) (c d : ℕ) → length xs ≡ c → length ys ≡ d → length (xs ++ ys) ≡ c + d
  both-length xs ys c d h g = omega (arith, length-append xs ys)

  mutual
    -- there are as many types as own variables
    pub types-length : (e : NetExpr) → length (own_types n r e) ≡ temps e
    types-length (net_expr f at) = form-length f

    form-length : (f : NetForm) → length (form_types n r f) ≡ form_temps f
    form-length (n_truth b) = refl
    form-length (n_number z) = refl
    form-length (n_loc i p) = refl
    form-length (n_var i) = refl
    form-length (n_input i) = refl
    form-length (n_alg i) = refl
    form-length n_received = refl
    form-length (n_minus e) = types-length e
    form-length (n_plus e) = types-length e
    form-length (n_not e) = types-length e
    form-length (n_abs e) = types-length e
    form-length (n_min p q) = both-length (own_types n r p) (own_types n r q) (temps p) (temps q) (types-length p) (types-length q)
    form-length (n_max p q) = both-length (own_types n r p) (own_types n r q) (temps p) (temps q) (types-length p) (types-length q)
    form-length (n_sum e es) = both-length (own_types n r e) (terms_types n r es) (temps e) (terms_temps es) (types-length e) (terms-length es)
    form-length (n_product e es) = both-length (own_types n r e) (factors_types n r es) (temps e) (factors_temps es) (types-length e) (factors-length es)
    form-length (n_compare p op q) = both-length (own_types n r p) (own_types n r q) (temps p) (temps q) (types-length p) (types-length q)
    form-length (n_and es) = list-length es
    form-length (n_or es) = list-length es
    form-length (n_implies p q) = both-length (own_types n r p) (own_types n r q) (temps p) (temps q) (types-length p) (types-length q)
    form-length (n_iff p q) = both-length (own_types n r p) (own_types n r q) (temps p) (temps q) (types-length p) (types-length q)
    form-length (n_if bs e) =
        let l : length (branches_types n r bs ++ own_types n r e) ≡ branches_temps bs + temps e = both-length (branches_types n r bs) (own_types n r e) (branches_temps bs) (temps e) (branches-length bs) (types-length e) in
        omega (arith, l)

    terms-length : (es : NetTerms) → length (terms_types n r es) ≡ terms_temps es
    terms-length no_net_terms = refl
    terms-length (net_terms m e es) = both-length (own_types n r e) (terms_types n r es) (temps e) (terms_temps es) (types-length e) (terms-length es)

    factors-length : (es : NetFactors) → length (factors_types n r es) ≡ factors_temps es
    factors-length no_net_factors = refl
    factors-length (net_factors op e es) = both-length (own_types n r e) (factors_types n r es) (temps e) (factors_temps es) (types-length e) (factors-length es)

    list-length : (es : NetExprs) → length (list_types n r es) ≡ list_temps es
    list-length no_net_exprs = refl
    list-length (net_exprs e es) = both-length (own_types n r e) (list_types n r es) (temps e) (list_temps es) (types-length e) (list-length es)

    pub branches-length : (bs : NetBranches) → length (branches_types n r bs) ≡ branches_temps bs
    branches-length no_net_branches = refl
    branches-length (net_branches c e bs) =
        let l = both-length (own_types n r e) (branches_types n r bs) (temps e) (branches_temps bs) (types-length e) (branches-length bs) in
        let m = both-length (own_types n r c) (own_types n r e ++ branches_types n r bs) (temps c) (temps e + branches_temps bs) (types-length c) l in
        omega (arith, m)

-- ---- sorts of forms

module _ (vars : List StVar) where
  wrapped-sort : (t : Bool) (e : Expr) (b : Bool) → HasSort vars e b → HasSort vars (wrapped t e) b
  wrapped-sort true e b h = h
  wrapped-sort false e b h = h

  complement-sort : (e : Expr) → HasSort vars e true → HasSort vars (complement e) true
  complement-sort e h = (h.0, rw h.1 refl)

  negated-sort : (e : Expr) → HasSort vars e true → HasSort vars (negated e) true
  negated-sort (truth b) h = (refl, refl)
  negated-sort e h = complement-sort (wrapped (not (is_leaf e)) e) (wrapped-sort (not (is_leaf e)) e true h)

  abbrev AllTrue : List Expr → Type 0
  AllTrue es = AllByRecursion (λ e. HasSort vars e true) es

  operands-sort : (es : List Expr) → AllTrue es → (knows_all vars (exprs_of (map operand es)) ≡ true) × (all_booleans vars (exprs_of (map operand es)) ≡ true)
  operands-sort [] h = (refl, refl)
  operands-sort (e ∷ es) h =
      let one = wrapped-sort (is_joined e) e true h.0 in
      let rest = operands-sort es h.1 in
      (rw (one.0, rest.0) refl, rw (one.1, rest.1) refl)

  conjunction-sort : (es : List Expr) → AllTrue es → HasSort vars (conjunction es) true
  conjunction-sort [] h = (refl, refl)
  conjunction-sort (e ∷ []) h = h.0
  conjunction-sort (e ∷ d ∷ es) h = let all = operands-sort (e ∷ d ∷ es) h in (all.0, rw all.1 refl)

  disjunction-sort : (es : List Expr) → AllTrue es → HasSort vars (disjunction es) true
  disjunction-sort [] h = (refl, refl)
  disjunction-sort (e ∷ []) h = h.0
  disjunction-sort (e ∷ d ∷ es) h = let all = operands-sort (e ∷ d ∷ es) h in (all.0, rw all.1 refl)

  implication-sort : (p q : Expr) → HasSort vars p true → HasSort vars q true → HasSort vars (implication p q) true
  implication-sort (truth false) q h g = (refl, refl)
  implication-sort p q h g =
      disjunction-sort (all_said_or (negated p ∷ q ∷ []))
      (said_or-all (λ e. HasSort vars e true) (negated p) (said_or q []) (negated-sort p h) (said_or-all (λ e. HasSort vars e true) q [] g tt))

  same-sort : (b : Bool) → is_same_sort (Some (sort_by b)) (Some (sort_by b)) ≡ true
  same-sort true = refl
  same-sort false = refl

  equal-sort : (p q : Expr) (same b : Bool) → HasSort vars p b → HasSort vars q b → HasSort vars (equal p same q) true
  equal-sort p q same b h g = let s = same-sort b in (rw (h.0, g.0) refl, rw (h.1, g.1, s) refl)

  order-sort : (p q : Expr) (op : StOrder) → HasSort vars p false → HasSort vars q false → HasSort vars (order p op q) true
  order-sort p q op h g = (rw (h.0, g.0) refl, rw (h.1, g.1) refl)

  sides-equal : (p q : Expr) (same b : Bool) → HasSort vars p b → HasSort vars q b → HasSort vars (equal (side p) same (side q)) true
  sides-equal p q same b h g = equal-sort (side p) (side q) same b (wrapped-sort (is_test p) p b h) (wrapped-sort (is_test q) q b g)

  sides-order : (p q : Expr) (op : StOrder) → HasSort vars p false → HasSort vars q false → HasSort vars (order (side p) op (side q)) true
  sides-order p q op h g = order-sort (side p) (side q) op (wrapped-sort (is_test p) p false h) (wrapped-sort (is_test q) q false g)

  as-integer : (e : Expr) (b : Bool) → b ≡ false → HasSort vars e b → HasSort vars e false
  as-integer e b h g = subst (HasSort vars e) h g

  comparison-sort : (op : CmpOp) (p q : Expr) (b : Bool) → (is_equality op ≡ false → b ≡ false) → HasSort vars p b → HasSort vars q b → HasSort vars (comparison op p q) true
  comparison-sort eq p q b o h g = sides-equal p q true b h g
  comparison-sort ne p q b o h g = sides-equal p q false b h g
  comparison-sort lt p q b o h g = sides-order p q cmp.Lt (as-integer p b (o refl) h) (as-integer q b (o refl) g)
  comparison-sort le p q b o h g = sides-order p q cmp.Le (as-integer p b (o refl) h) (as-integer q b (o refl) g)
  comparison-sort gt p q b o h g = sides-order p q cmp.Gt (as-integer p b (o refl) h) (as-integer q b (o refl) g)
  comparison-sort ge p q b o h g = sides-order p q cmp.Ge (as-integer p b (o refl) h) (as-integer q b (o refl) g)

  number-sort : (z : ℤ) → HasSort vars (number_text z) false
  number-sort (pos n) = (refl, refl)
  number-sort (negsuc n) = (refl, refl)

  minus-sort : (e : Expr) → HasSort vars e false → HasSort vars (negation (factor e)) false
  minus-sort e h = let g = wrapped-sort (not (is_factor e)) e false h in (g.0, rw g.1 refl)

  absolute-sort : (e : Expr) → HasSort vars e false → HasSort vars (absolute e) false
  absolute-sort e h = (h.0, rw h.1 refl)

  least-sort : (p q : Expr) → HasSort vars p false → HasSort vars q false → HasSort vars (least p q) false
  least-sort p q h g = (rw (h.0, g.0) refl, rw (h.1, g.1) refl)

  greatest-sort : (p q : Expr) → HasSort vars p false → HasSort vars q false → HasSort vars (greatest p q) false
  greatest-sort p q h g = (rw (h.0, g.0) refl, rw (h.1, g.1) refl)

  abbrev TermsSort : Terms → Type 0
  TermsSort ts = (knows_terms vars ts ≡ true) × (all_integers vars ts ≡ true)

  abbrev FactorsSort : Factors → Type 0
  FactorsSort fs = (knows_factors vars fs ≡ true) × (all_integer_factors vars fs ≡ true)

  more-terms : (m : Bool) (e : Expr) (ts : Terms) → HasSort vars e false → TermsSort ts → TermsSort (terms m (term e) ts)
  more-terms m e ts h g = let k = wrapped-sort (not (is_term e)) e false h in (rw (k.0, g.0) refl, rw (k.1, g.1) refl)

  more-factors : (op : StMul) (e : Expr) (fs : Factors) → HasSort vars e false → FactorsSort fs → FactorsSort (factors op (factor e) fs)
  more-factors op e fs h g = let k = wrapped-sort (not (is_factor e)) e false h in (rw (k.0, g.0) refl, rw (k.1, g.1) refl)

  sum-sort : (e : Expr) (ts : Terms) → HasSort vars e false → TermsSort ts → HasSort vars (sum_text e ts) false
  sum-sort e no_terms h g = h
  sum-sort e (terms m d ts) h g = let k = wrapped-sort (not (is_term e)) e false h in (rw (k.0, g.0) refl, rw (k.1, g.1) refl)

  product-sort : (e : Expr) (fs : Factors) → HasSort vars e false → FactorsSort fs → HasSort vars (product_text e fs) false
  product-sort e no_factors h g = h
  product-sort e (factors op d fs) h g = let k = wrapped-sort (not (is_factor e)) e false h in (rw (k.0, g.0) refl, rw (k.1, g.1) refl)

  -- ---- own variables

  pub sort-of_type : (b : Bool) → sort_of_type (type_by b) ≡ sort_by b
  sort-of_type true = refl
  sort-of_type false = refl

  own-sort : (x : Text) (b : Bool) → OwnIs vars x (type_by b) → HasSort vars (named x) b
  own-sort x b o =
      let d = o.is_declared in
      (rw d refl, ap (option_map (λ (v : StVar). sort_of_type v.ty)) d ∙ ap (λ t. Some (sort_of_type t)) o.type_is ∙ ap Some (sort-of_type b))

  module _ (w : Naming) where
    pub own-both : (k c : ℕ) (xs ys : List StTy) → length xs ≡ c → AreOwn vars w k (xs ++ ys) → AreOwn vars w k xs × AreOwn vars w (k + c) ys
    own-both k c [] ys l h = (tt, subst (λ j. AreOwn vars w j ys) (omega (arith, l)) h)
    own-both k c (x ∷ xs) ys l h =
        let q = own-both (k + 1) (length xs) xs ys refl h.1 in
        ((h.0, q.0), subst (λ j. AreOwn vars w j ys) (omega (arith, l)) q.1)

    -- ---- expressions

    module _ (n : Net) (r : Option Ty) (names : NamesHaveSorts vars w n r) where
      abbrev Own : ℕ → List StTy → Type 0
      Own k ts = AreOwn vars w k ts

      stored-sort : (x : Text) (o : Option NetStored) (kind : Kind) → ((v : NetStored) → o ≡ Some v → HasSort vars (named x) (is_bool_type v.type_of)) → stored_fits kind o ≡ true → HasSort vars (named x) (is_bool kind)
      stored-sort x None kind f h = never h
      stored-sort x (Some v) kind f h = subst (HasSort vars (named x)) (same-bool kind v.type_of v.literals h) (f v refl)

      received-sort : (o : Option Ty) (kind : Kind) → ((t : Ty) → o ≡ Some t → HasSort vars (named w.received) (is_bool_type t)) → received_fits kind o ≡ true → HasSort vars (named w.received) (is_bool kind)
      received-sort None kind f h = never h
      received-sort (Some t) kind f h = subst (HasSort vars (named w.received)) (type-bool kind t h) (f t refl)

      -- of a kind that is boolean, and of one that is the integers
      as-bool : (kind : Kind) (e : Expr) → is_bool kind ≡ true → HasSort vars e true → HasSort vars e (is_bool kind)
      as-bool kind e h g = subst (HasSort vars e) (sym h) g

      as-int : (kind : Kind) (e : Expr) → is_int kind ≡ true → HasSort vars e false → HasSort vars e (is_bool kind)
      as-int kind e h g = subst (HasSort vars e) (int-bool kind h) g

      own-two : (k : ℕ) (a b : NetExpr) → Own k (own_types n r a ++ own_types n r b) → Own k (own_types n r a) × Own (k + temps a) (own_types n r b)
      own-two k a b h = own-both k (temps a) (own_types n r a) (own_types n r b) (types-length n r a) h

      mutual
        pub expr-sort : (kind : Kind) (k : ℕ) (e : NetExpr) → fits n r kind e ≡ true → NoAlg (names_in e) → Own k (own_types n r e) → HasSort vars (text w k e) (is_bool kind)
        expr-sort kind k (net_expr f at) h a o = form-sort kind k f h a o

        form-sort : (kind : Kind) (k : ℕ) (f : NetForm) → form_fits n r kind f ≡ true → NoAlg (form_names f) → Own k (form_types n r f) → HasSort vars (form_text w k f) (is_bool kind)
        form-sort kind k (n_truth b) h a o = as-bool kind (truth b) h (refl, refl)
        form-sort kind k (n_number z) h a o = subst (HasSort vars (number_text z)) (number-bool kind z h) (number-sort z)
        form-sort kind k (n_loc i p) h a o = as-bool kind (w.located i p) (and-left _ _ h) (names.located i p (grind (arith, nat_tests)))
        form-sort kind k (n_var i) h a o = stored-sort (w.variable i) (slice_get n.vars i) kind (names.variable i) h
        form-sort kind k (n_input i) h a o = stored-sort (w.input i) (slice_get n.inputs i) kind (names.input i) h
        form-sort kind k (n_alg i) h a o = never a
        form-sort kind k n_received h a o = received-sort r kind names.received h
        form-sort kind k (n_minus e) h a o = as-int kind (negation (factor (text w k e))) (and-left _ _ h) (minus-sort (text w k e) (expr-sort int_kind k e (and-right _ _ h) a o))
        form-sort kind k (n_plus e) h a o = as-int kind (text w k e) (and-left _ _ h) (expr-sort int_kind k e (and-right _ _ h) a o)
        form-sort kind k (n_not e) h a o = as-bool kind (negated (text w k e)) (and-left _ _ h) (negated-sort (text w k e) (expr-sort bool_kind k e (and-right _ _ h) a o))
        form-sort kind k (n_abs e) h a o = as-int kind (absolute (text w k e)) (and-left _ _ h) (absolute-sort (text w k e) (expr-sort int_kind k e (and-right _ _ h) a o))
        form-sort kind k (n_min p q) h a o =
            let aa = no-algs (names_in p) (names_in q) a in let oo = own-two k p q o in
            as-int kind (least (text w k p) (text w (k + temps p) q)) (and-left _ _ (and-left _ _ h))
            (least-sort (text w k p) (text w (k + temps p) q) (expr-sort int_kind k p (and-right _ _ (and-left _ _ h)) aa.0 oo.0) (expr-sort int_kind (k + temps p) q (and-right _ _ h) aa.1 oo.1))
        form-sort kind k (n_max p q) h a o =
            let aa = no-algs (names_in p) (names_in q) a in let oo = own-two k p q o in
            as-int kind (greatest (text w k p) (text w (k + temps p) q)) (and-left _ _ (and-left _ _ h))
            (greatest-sort (text w k p) (text w (k + temps p) q) (expr-sort int_kind k p (and-right _ _ (and-left _ _ h)) aa.0 oo.0) (expr-sort int_kind (k + temps p) q (and-right _ _ h) aa.1 oo.1))
        form-sort kind k (n_sum e es) h a o =
            let aa = no-algs (names_in e) (term_names es) a in let oo = own-both k (temps e) (own_types n r e) (terms_types n r es) (types-length n r e) o in
            as-int kind (sum_text (text w k e) (terms_text w (k + temps e) es)) (and-left _ _ (and-left _ _ h))
            (sum-sort (text w k e) (terms_text w (k + temps e) es) (expr-sort int_kind k e (and-right _ _ (and-left _ _ h)) aa.0 oo.0) (terms-sort (k + temps e) es (and-right _ _ h) aa.1 oo.1))
        form-sort kind k (n_product e es) h a o =
            let aa = no-algs (names_in e) (factor_names es) a in let oo = own-both k (temps e) (own_types n r e) (factors_types n r es) (types-length n r e) o in
            as-int kind (product_text (text w k e) (factors_text w (k + temps e) es)) (and-left _ _ (and-left _ _ h))
            (product-sort (text w k e) (factors_text w (k + temps e) es) (expr-sort int_kind k e (and-right _ _ (and-left _ _ h)) aa.0 oo.0) (factors-sort (k + temps e) es (and-right _ _ h) aa.1 oo.1))
        form-sort kind k (n_compare p op q) h a o =
            let aa = no-algs (names_in p) (names_in q) a in let oo = own-two k p q o in let hh = sides-fit n r kind op p q h in
            as-bool kind (comparison op (text w k p) (text w (k + temps p) q)) (and-left _ _ h)
            (comparison-sort op (text w k p) (text w (k + temps p) q) (is_bool hh.kind) hh.ordered (expr-sort hh.kind k p hh.left aa.0 oo.0) (expr-sort hh.kind (k + temps p) q hh.right aa.1 oo.1))
        form-sort kind k (n_and es) h a o = as-bool kind (conjunction (all_said (texts w k es))) (and-left _ _ h) (conjunction-sort (all_said (texts w k es)) (all-sort k es (and-right _ _ h) a o))
        form-sort kind k (n_or es) h a o = as-bool kind (disjunction (all_said_or (texts w k es))) (and-left _ _ h) (disjunction-sort (all_said_or (texts w k es)) (any-sort k es (and-right _ _ h) a o))
        form-sort kind k (n_implies p q) h a o =
            let aa = no-algs (names_in p) (names_in q) a in let oo = own-two k p q o in
            as-bool kind (implication (text w k p) (text w (k + temps p) q)) (and-left _ _ (and-left _ _ h))
            (implication-sort (text w k p) (text w (k + temps p) q) (expr-sort bool_kind k p (and-right _ _ (and-left _ _ h)) aa.0 oo.0) (expr-sort bool_kind (k + temps p) q (and-right _ _ h) aa.1 oo.1))
        form-sort kind k (n_iff p q) h a o =
            let aa = no-algs (names_in p) (names_in q) a in let oo = own-two k p q o in
            as-bool kind (equal (side (text w k p)) true (side (text w (k + temps p) q))) (and-left _ _ (and-left _ _ h))
            (sides-equal (text w k p) (text w (k + temps p) q) true true (expr-sort bool_kind k p (and-right _ _ (and-left _ _ h)) aa.0 oo.0) (expr-sort bool_kind (k + temps p) q (and-right _ _ h) aa.1 oo.1))
        form-sort kind k (n_if bs e) h a o = subst (HasSort vars (named (w.own k))) (form-bool n r kind (n_if bs e) h a) (own-sort (w.own k) (is_boolean n r e) o.0)

        terms-sort : (k : ℕ) (es : NetTerms) → terms_fit n r es ≡ true → NoAlg (term_names es) → Own k (terms_types n r es) → TermsSort (terms_text w k es)
        terms-sort k no_net_terms h a o = (refl, refl)
        terms-sort k (net_terms m e es) h a o =
            let aa = no-algs (names_in e) (term_names es) a in let oo = own-both k (temps e) (own_types n r e) (terms_types n r es) (types-length n r e) o in
            more-terms m (text w k e) (terms_text w (k + temps e) es) (expr-sort int_kind k e (and-left _ _ h) aa.0 oo.0) (terms-sort (k + temps e) es (and-right _ _ h) aa.1 oo.1)

        factors-sort : (k : ℕ) (es : NetFactors) → factors_fit n r es ≡ true → NoAlg (factor_names es) → Own k (factors_types n r es) → FactorsSort (factors_text w k es)
        factors-sort k no_net_factors h a o = (refl, refl)
        factors-sort k (net_factors op e es) h a o =
            let aa = no-algs (names_in e) (factor_names es) a in let oo = own-both k (temps e) (own_types n r e) (factors_types n r es) (types-length n r e) o in
            more-factors (mul_of op) (text w k e) (factors_text w (k + temps e) es) (expr-sort int_kind k e (and-left _ _ h) aa.0 oo.0) (factors-sort (k + temps e) es (and-right _ _ h) aa.1 oo.1)

        all-sort : (k : ℕ) (es : NetExprs) → all_fit n r es ≡ true → NoAlg (list_names es) → Own k (list_types n r es) → AllTrue (all_said (texts w k es))
        all-sort k no_net_exprs h a o = tt
        all-sort k (net_exprs e es) h a o =
            let aa = no-algs (names_in e) (list_names es) a in let oo = own-both k (temps e) (own_types n r e) (list_types n r es) (types-length n r e) o in
            said-all (λ d. HasSort vars d true) (text w k e) (all_said (texts w (k + temps e) es)) (expr-sort bool_kind k e (and-left _ _ h) aa.0 oo.0) (all-sort (k + temps e) es (and-right _ _ h) aa.1 oo.1)

        any-sort : (k : ℕ) (es : NetExprs) → all_fit n r es ≡ true → NoAlg (list_names es) → Own k (list_types n r es) → AllTrue (all_said_or (texts w k es))
        any-sort k no_net_exprs h a o = tt
        any-sort k (net_exprs e es) h a o =
            let aa = no-algs (names_in e) (list_names es) a in let oo = own-both k (temps e) (own_types n r e) (list_types n r es) (types-length n r e) o in
            said_or-all (λ d. HasSort vars d true) (text w k e) (all_said_or (texts w (k + temps e) es)) (expr-sort bool_kind k e (and-left _ _ h) aa.0 oo.0) (any-sort (k + temps e) es (and-right _ _ h) aa.1 oo.1)
