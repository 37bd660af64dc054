-- The own variables of an expression keep their types: a boolean `if` is 0 or 1, and another one has 64 bits.
use Rattle.std.proofs.Common.{◌≡◌, ℕ, ◌+◌, ℤ, pos, Bool, true, false, ◌&&◌, ◌||◌, List, [], ◌∷◌, ◌++◌, length, Option, refl, sym, ap, subst, ◌∙◌, arith, if◌then◌else◌}
use Rattle.std.specs.Prelude.{IsTrue, slice_index_or}
use Rattle.std.specs.Int.{int_min, int_max}
use Rattle.std.specs.List.{list_all, list_any}
use Rattle.std.proofs.lemmas.Int.{ints, clamps}
use Rattle.std.proofs.lemmas.List.{length-append}
use Rattle.cif_base.specs.declared.types.Ty.{Ty}
use Rattle.cif_system.specs.System.{in_range}
use Rattle.cif_net_expr.specs.Tree.{CmpOp, NetExpr, net_expr, NetForm, n_truth, n_number, n_loc, n_var, n_input, n_alg, n_received, n_minus, n_plus, n_not, n_abs, n_min, n_max, n_sum, n_product, n_compare, n_and, n_or, n_implies, n_iff, n_if, NetExprs, no_net_exprs, net_exprs, NetTerms, no_net_terms, net_terms, NetFactors, no_net_factors, net_factors, NetBranches, no_net_branches, net_branches}
use Rattle.cif_net_model.specs.Value as v
use Rattle.cif_net_model.specs.Net.{Net}
use Rattle.cif_net_model.specs.Kinds.{Kind, bool_kind, int_kind, enum_kind, is_bool, is_equality, kinds_in, fits, form_fits, all_fit, terms_fit, factors_fit, branches_fit, in_32_bits}
use Rattle.cif_net_model.specs.Reads.{Read, alg_passes, names_in, form_names, term_names, factor_names, list_names, branch_names}
use Rattle.cif_net_model.proofs.Passing.{and-left, and-right, both-pass}
use Rattle.cif_net_model.proofs.PlainLaws.{never}
use Rattle.st_ast.specs.Values.{Memory}
use Rattle.st_ast.specs.declared.tree.StVar.{StVar}
use Rattle.st_ast.specs.declared.tree.StTy.{StTy}
use Rattle.st_ast.specs.declared.tree.StTy.TheVariants as ty
use Rattle.plc_model.specs.Face.{range_of}
use Rattle.plc_expr.specs.Texts.{Naming, temps, branches_temps}
use Rattle.plc_expr.specs.Sorts.{is_boolean, type_by, own_types, form_types, terms_types, factors_types, list_types, branches_types}
use Rattle.cif_net_model.specs.Safe.{Setting, HasBits, IsSafe, IsSafeForm, AreSafeTerms, AreSafeFactors, AreSafeTruths, AreSafeBranches, value_at}
use Rattle.plc_event_model.proofs.Kept.{HoldTypes}
use Rattle.plc_expr.specs.Held.{Held, HeldForm, HeldTerms, HeldFactors, HeldList, HeldBranches}

bool-bits : (b : Bool) → HasBits (v.of_bool b)
bool-bits true = refl
bool-bits false = refl

number-bits : (z : ℤ) → in_32_bits z ≡ true → HasBits z
number-bits z h = grind (arith, ints)

min-bits : (a b : ℤ) → HasBits a → HasBits b → HasBits (int_min a b)
min-bits a b h g = grind (arith, ints, clamps)

max-bits : (a b : ℤ) → HasBits a → HasBits b → HasBits (int_max a b)
max-bits a b h g = grind (arith, ints, clamps)

pick-bits : (b : Bool) (y z : ℤ) → HasBits y → HasBits z → HasBits (if b then y else z)
pick-bits true y z h g = h
pick-bits false y z h g = g

-- no algebraic variable is named
abbrev pub Passes : List Read → Type 0
Passes names = list_all (alg_passes (λ j. false)) names ≡ true

module _ (x : Setting) (var_bits : (k : ℕ) → HasBits (slice_index_or x.state.vals k (pos 0))) (input_bits : (k : ℕ) → HasBits (slice_index_or x.state.ins k (pos 0))) (received_bits : HasBits x.received) where
  sum-bits : (es : NetTerms) (z : ℤ) → HasBits z → AreSafeTerms x z es → HasBits (v.net_sum x.algs x.state x.received z es)
  sum-bits no_net_terms z h s = h
  sum-bits (net_terms m e es) z h s = sum-bits es (v.added m z (value_at x e)) s.1 s.2

  product-bits : (es : NetFactors) (z : ℤ) → HasBits z → AreSafeFactors x z es → HasBits (v.net_product x.algs x.state x.received z es)
  product-bits no_net_factors z h s = h
  product-bits (net_factors op e es) z h s = product-bits es (v.multiplied op z (value_at x e)) s.2 s.3

  mutual
    pub value-bits : (e : NetExpr) → Passes (names_in e) → IsSafe x e → HasBits (value_at x e)
    value-bits (net_expr f at) p s = form-bits f p s

    form-bits : (f : NetForm) → Passes (form_names f) → IsSafeForm x f → HasBits (v.net_form_value x.algs x.state x.received f)
    form-bits (n_truth b) p s = bool-bits b
    form-bits (n_number z) p s = number-bits z s
    form-bits (n_loc a k) p s = bool-bits _
    form-bits (n_var k) p s = var_bits k
    form-bits (n_input k) p s = input_bits k
    form-bits (n_alg k) p s = never p
    form-bits n_received p s = received_bits
    form-bits (n_minus e) p s = s.1
    form-bits (n_plus e) p s = value-bits e p s
    form-bits (n_not e) p s = bool-bits _
    form-bits (n_abs e) p s = s.1
    form-bits (n_min a b) p s = let q = both-pass (alg_passes (λ j. false)) (names_in a) (names_in b) p in min-bits (value_at x a) (value_at x b) (value-bits a q.0 s.0) (value-bits b q.1 s.1)
    form-bits (n_max a b) p s = let q = both-pass (alg_passes (λ j. false)) (names_in a) (names_in b) p in max-bits (value_at x a) (value_at x b) (value-bits a q.0 s.0) (value-bits b q.1 s.1)
    form-bits (n_sum e es) p s = let q = both-pass (alg_passes (λ j. false)) (names_in e) (term_names es) p in sum-bits es (value_at x e) (value-bits e q.0 s.0) s.1
    form-bits (n_product e es) p s = let q = both-pass (alg_passes (λ j. false)) (names_in e) (factor_names es) p in product-bits es (value_at x e) (value-bits e q.0 s.0) s.1
    form-bits (n_compare a op b) p s = bool-bits _
    form-bits (n_and es) p s = bool-bits _
    form-bits (n_or es) p s = bool-bits _
    form-bits (n_implies a b) p s = bool-bits _
    form-bits (n_iff a b) p s = bool-bits _
    form-bits (n_if bs e) p s = let q = both-pass (alg_passes (λ j. false)) (branch_names bs) (names_in e) p in cases-bits bs (value_at x e) q.0 (value-bits e q.1 s.1) s.0

    cases-bits : (bs : NetBranches) (y : ℤ) → Passes (branch_names bs) → HasBits y → AreSafeBranches x bs → HasBits (v.net_cases x.algs x.state x.received y bs)
    cases-bits no_net_branches y p h s = h
    cases-bits (net_branches c e bs) y p h s =
        let q = both-pass (alg_passes (λ j. false)) (names_in c) (names_in e ++ branch_names bs) p in
        let r = both-pass (alg_passes (λ j. false)) (names_in e) (branch_names bs) q.1 in
        pick-bits (v.is_true (value_at x c)) (value_at x e) (v.net_cases x.algs x.state x.received y bs) (value-bits e r.0 s.2) (cases-bits bs y r.1 h s.3)

-- ---- own variables

pub some-kind : {A : Type 0} (f : A → Bool) (xs : List A) → list_any f xs ≡ true → (a : A) × (f a ≡ true)
some-kind f [] h = never h
some-kind f (a ∷ xs) h = go (f a) refl h (λ q. some-kind f xs q)
  where
    go : (b : Bool) → f a ≡ b → (b || list_any f xs) ≡ true → (list_any f xs ≡ true → (c : _) × (f c ≡ true)) → (c : _) × (f c ≡ true)
    go true e h rest = (a, e)
    go false e h rest = rest h

-- the operands of a comparison have one kind
compared-kinds : (n : Net) (r : Option Ty) (op : CmpOp) (a b : NetExpr)
    → (if is_equality op then list_any (λ q. fits n r q a && fits n r q b) (kinds_in n) else fits n r int_kind a && fits n r int_kind b) ≡ true
    → (q : Kind) × (fits n r q a ≡ true) × (fits n r q b ≡ true)
compared-kinds n r op a b h = go (is_equality op) h
  where
    go : (t : Bool) → (if t then list_any (λ q. fits n r q a && fits n r q b) (kinds_in n) else fits n r int_kind a && fits n r int_kind b) ≡ true
        → (q : Kind) × (fits n r q a ≡ true) × (fits n r q b ≡ true)
    go true h = let k = some-kind (λ q. fits n r q a && fits n r q b) (kinds_in n) h in (k.0, and-left _ _ k.1, and-right _ _ k.1)
    go false h = (int_kind, and-left _ _ h, and-right _ _ h)

module _ (n : Net) (r : Option Ty) (vars : List StVar) (w : Naming) (x : Setting) (m : Memory)
    (own_length : (e : NetExpr) → length (own_types n r e) ≡ temps e)
    (bits : (e : NetExpr) → Passes (names_in e) → IsSafe x e → HasBits (value_at x e))
    (truths : (e : NetExpr) → Passes (names_in e) → fits n r bool_kind e ≡ true → IsTrue (in_range (range_of ty.Bool) (value_at x e)))
    (told : (k : Kind) (e : NetExpr) → fits n r k e ≡ true → Passes (names_in e) → is_boolean n r e ≡ is_bool k) where
  abbrev Holds : ℕ → List StTy → Type 0
  Holds k ts = HoldTypes vars w m k ts

  both-hold : (k : ℕ) (ts us : List StTy) → Holds k ts → (j : ℕ) → j ≡ k + length ts → Holds j us → Holds k (ts ++ us)
  both-hold k [] us h j e g = subst (λ i. Holds i us) (let q : k + 0 ≡ k = omega arith in e ∙ q) g
  both-hold k (t ∷ ts) us h j e g = (h.0, both-hold (k + 1) ts us h.1 j (omega (arith, e)) g)

  after-own : (k : ℕ) (e : NetExpr) (us : List StTy) → Holds k (own_types n r e) → Holds (k + temps e) us → Holds k (own_types n r e ++ us)
  after-own k e us h g = both-hold k (own_types n r e) us h (k + temps e) (ap (λ l. k + l) (sym (own_length e))) g

  branches-length : (bs : NetBranches) (e : NetExpr) → length (branches_types n r bs) ≡ branches_temps bs
  branches-length bs e =
      let a = own_length (net_expr (n_if bs e) 0) in
      let b = length-append (branches_types n r bs) (own_types n r e) in
      let c = own_length e in
      omega (arith, a, b, c)

  only-bool : (k : Kind) → is_bool k ≡ true → k ≡ bool_kind
  only-bool bool_kind h = refl
  only-bool int_kind h = never h
  only-bool (enum_kind ls) h = never h

  -- the value of an `if`
  if-typed : (kind : Kind) (bs : NetBranches) (e : NetExpr) → form_fits n r kind (n_if bs e) ≡ true → Passes (form_names (n_if bs e)) → IsSafeForm x (n_if bs e)
      → IsTrue (in_range (range_of (type_by (is_boolean n r e))) (v.net_form_value x.algs x.state x.received (n_if bs e)))
  if-typed kind bs e h p s = go (is_boolean n r e) refl
    where
      go : (b : Bool) → is_boolean n r e ≡ b → IsTrue (in_range (range_of (type_by b)) (v.net_form_value x.algs x.state x.received (n_if bs e)))
      go true is =
          let q = both-pass (alg_passes (λ j. false)) (branch_names bs) (names_in e) p in
          truths (net_expr (n_if bs e) 0) p (subst (λ k. form_fits n r k (n_if bs e) ≡ true) (only-bool kind (sym (told kind e (and-right _ _ h) q.1) ∙ is)) h)
      go false is = bits (net_expr (n_if bs e) 0) p s

  mutual
    pub own-typed : (kind : Kind) (e : NetExpr) (k : ℕ) → fits n r kind e ≡ true → Passes (names_in e) → IsSafe x e → Held vars w x m k e → Holds k (own_types n r e)
    own-typed kind (net_expr f at) k h p s d = form-typed kind f k h p s d

    form-typed : (kind : Kind) (f : NetForm) (k : ℕ) → form_fits n r kind f ≡ true → Passes (form_names f) → IsSafeForm x f → HeldForm vars w x m k f → Holds k (form_types n r f)
    form-typed kind (n_truth b) k h p s d = tt
    form-typed kind (n_number z) k h p s d = tt
    form-typed kind (n_loc a q) k h p s d = tt
    form-typed kind (n_var i) k h p s d = tt
    form-typed kind (n_input i) k h p s d = tt
    form-typed kind (n_alg i) k h p s d = tt
    form-typed kind n_received k h p s d = tt
    form-typed kind (n_minus e) k h p s d = own-typed int_kind e k (and-right _ _ h) p s.0 d
    form-typed kind (n_plus e) k h p s d = own-typed int_kind e k (and-right _ _ h) p s d
    form-typed kind (n_not e) k h p s d = own-typed bool_kind e k (and-right _ _ h) p s.0 d
    form-typed kind (n_abs e) k h p s d = own-typed int_kind e k (and-right _ _ h) p s.0 d
    form-typed kind (n_min a b) k h p s d =
        let q = both-pass (alg_passes (λ j. false)) (names_in a) (names_in b) p in
        after-own k a (own_types n r b) (own-typed int_kind a k (and-right _ _ (and-left _ _ h)) q.0 s.0 d.0) (own-typed int_kind b (k + temps a) (and-right _ _ h) q.1 s.1 d.1)
    form-typed kind (n_max a b) k h p s d =
        let q = both-pass (alg_passes (λ j. false)) (names_in a) (names_in b) p in
        after-own k a (own_types n r b) (own-typed int_kind a k (and-right _ _ (and-left _ _ h)) q.0 s.0 d.0) (own-typed int_kind b (k + temps a) (and-right _ _ h) q.1 s.1 d.1)
    form-typed kind (n_sum e es) k h p s d =
        let q = both-pass (alg_passes (λ j. false)) (names_in e) (term_names es) p in
        after-own k e (terms_types n r es) (own-typed int_kind e k (and-right _ _ (and-left _ _ h)) q.0 s.0 d.0) (terms-typed es (value_at x e) (k + temps e) (and-right _ _ h) q.1 s.1 d.1)
    form-typed kind (n_product e es) k h p s d =
        let q = both-pass (alg_passes (λ j. false)) (names_in e) (factor_names es) p in
        after-own k e (factors_types n r es) (own-typed int_kind e k (and-right _ _ (and-left _ _ h)) q.0 s.0 d.0) (factors-typed es (value_at x e) (k + temps e) (and-right _ _ h) q.1 s.1 d.1)
    form-typed kind (n_compare a op b) k h p s d =
        let q = both-pass (alg_passes (λ j. false)) (names_in a) (names_in b) p in
        let c = compared-kinds n r op a b (and-right _ _ h) in
        after-own k a (own_types n r b) (own-typed c.0 a k c.1 q.0 s.0 d.0) (own-typed c.0 b (k + temps a) c.2 q.1 s.1 d.1)
    form-typed kind (n_and es) k h p s d = list-typed es k (and-right _ _ h) p s d
    form-typed kind (n_or es) k h p s d = list-typed es k (and-right _ _ h) p s d
    form-typed kind (n_implies a b) k h p s d =
        let q = both-pass (alg_passes (λ j. false)) (names_in a) (names_in b) p in
        after-own k a (own_types n r b) (own-typed bool_kind a k (and-right _ _ (and-left _ _ h)) q.0 s.0.0 d.0) (own-typed bool_kind b (k + temps a) (and-right _ _ h) q.1 s.1.0 d.1)
    form-typed kind (n_iff a b) k h p s d =
        let q = both-pass (alg_passes (λ j. false)) (names_in a) (names_in b) p in
        after-own k a (own_types n r b) (own-typed bool_kind a k (and-right _ _ (and-left _ _ h)) q.0 s.0 d.0) (own-typed bool_kind b (k + temps a) (and-right _ _ h) q.1 s.1 d.1)
    form-typed kind (n_if bs e) k h p s d =
        let q = both-pass (alg_passes (λ j. false)) (branch_names bs) (names_in e) p in (
          subst (λ z. IsTrue (in_range (range_of (type_by (is_boolean n r e))) z)) (sym d.2) (if-typed kind bs e h p s),
          both-hold (k + 1) (branches_types n r bs) (own_types n r e) (branches-typed kind bs (k + 1) (and-left _ _ h) q.0 s.0 d.0) (k + 1 + branches_temps bs)
              (ap (λ l. k + 1 + l) (sym (branches-length bs e))) (own-typed kind e (k + 1 + branches_temps bs) (and-right _ _ h) q.1 s.1 d.1),
        )

    terms-typed : (es : NetTerms) (z : ℤ) (k : ℕ) → terms_fit n r es ≡ true → Passes (term_names es) → AreSafeTerms x z es → HeldTerms vars w x m k es → Holds k (terms_types n r es)
    terms-typed no_net_terms z k h p s d = tt
    terms-typed (net_terms t e es) z k h p s d =
        let q = both-pass (alg_passes (λ j. false)) (names_in e) (term_names es) p in
        after-own k e (terms_types n r es) (own-typed int_kind e k (and-left _ _ h) q.0 s.0 d.0) (terms-typed es (v.added t z (value_at x e)) (k + temps e) (and-right _ _ h) q.1 s.2 d.1)

    factors-typed : (es : NetFactors) (z : ℤ) (k : ℕ) → factors_fit n r es ≡ true → Passes (factor_names es) → AreSafeFactors x z es → HeldFactors vars w x m k es → Holds k (factors_types n r es)
    factors-typed no_net_factors z k h p s d = tt
    factors-typed (net_factors op e es) z k h p s d =
        let q = both-pass (alg_passes (λ j. false)) (names_in e) (factor_names es) p in
        after-own k e (factors_types n r es) (own-typed int_kind e k (and-left _ _ h) q.0 s.0 d.0) (factors-typed es (v.multiplied op z (value_at x e)) (k + temps e) (and-right _ _ h) q.1 s.3 d.1)

    list-typed : (es : NetExprs) (k : ℕ) → all_fit n r es ≡ true → Passes (list_names es) → AreSafeTruths x es → HeldList vars w x m k es → Holds k (list_types n r es)
    list-typed no_net_exprs k h p s d = tt
    list-typed (net_exprs e es) k h p s d =
        let q = both-pass (alg_passes (λ j. false)) (names_in e) (list_names es) p in
        after-own k e (list_types n r es) (own-typed bool_kind e k (and-left _ _ h) q.0 s.0 d.0) (list-typed es (k + temps e) (and-right _ _ h) q.1 s.2 d.1)

    branches-typed : (kind : Kind) (bs : NetBranches) (k : ℕ) → branches_fit n r kind bs ≡ true → Passes (branch_names bs) → AreSafeBranches x bs → HeldBranches vars w x m k bs → Holds k (branches_types n r bs)
    branches-typed kind no_net_branches k h p s d = tt
    branches-typed kind (net_branches c e bs) k h p s d =
        let q = both-pass (alg_passes (λ j. false)) (names_in c) (names_in e ++ branch_names bs) p in
        let t = both-pass (alg_passes (λ j. false)) (names_in e) (branch_names bs) q.1 in
        after-own k c (own_types n r e ++ branches_types n r bs) (own-typed bool_kind c k (and-left _ _ (and-left _ _ h)) q.0 s.0 d.0)
        (after-own (k + temps c) e (branches_types n r bs) (own-typed kind e (k + temps c) (and-right _ _ (and-left _ _ h)) t.0 s.2 d.1)
        (branches-typed kind bs (k + temps c + temps e) (and-right _ _ h) t.1 s.3 d.2))
