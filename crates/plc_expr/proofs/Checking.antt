-- The statements before the text of an expression break no check, where the names are declared with their sorts.
use Rattle.std.proofs.Common.{◌≡◌, ℕ, ◌+◌, Bool, true, List, [], ◌++◌, Option, Some, refl, sym, ap, subst, ◌∙◌}
use Rattle.grammar.specs.Pieces.{Text}
use Rattle.cif_base.specs.declared.types.Ty.{Ty}
use Rattle.cif_net_expr.specs.Tree.{NetExpr, net_expr, NetForm, n_truth, n_number, n_loc, n_var, n_input, n_alg, n_received, n_minus, n_plus, n_not, n_abs, n_min, n_max, n_sum, n_product, n_compare, n_and, n_or, n_implies, n_iff, n_if, NetExprs, no_net_exprs, net_exprs, NetTerms, no_net_terms, net_terms, NetFactors, no_net_factors, net_factors, NetBranches, no_net_branches, net_branches}
use Rattle.cif_net_model.specs.Net.{Net}
use Rattle.cif_net_model.specs.Kinds.{Kind, bool_kind, int_kind, is_bool, fits, form_fits, terms_fit, factors_fit, all_fit, branches_fit}
use Rattle.cif_net_model.specs.Reads.{names_in, form_names, term_names, factor_names, list_names, branch_names}
use Rattle.cif_net_model.proofs.Passing.{and-left, and-right}
use Rattle.st_ast.specs.Tree.{Expr, Stms, Branches, assign, no_stms, stms, no_branches, branches, append}
use Rattle.st_ast.specs.Checks.{Sort, boolean, integer, sort_of_type, is_same_sort, sort_of, knows_conditions, boolean_conditions, stm_count, stm_faults, stms_faults, branches_faults}
use Rattle.st_ast.specs.declared.tree.StVar.{StVar}
use Rattle.st_ast.specs.declared.tree.StTy.{StTy}
use Rattle.plc_expr.specs.Texts.{Naming, temps, branches_temps, text, branches_text, case_text, before, form_before, terms_before, factors_before, list_before, branches_before}
use Rattle.plc_expr.specs.Sorts.{type_by, own_types, form_types, terms_types, factors_types, list_types, branches_types, HasSort, NamesHaveSorts, OwnIs, AreOwn}
use Rattle.cif_net_model.proofs.Sides.{sides-fit}
use Rattle.plc_expr.proofs.Sorting.{NoAlg, no-algs, bool-by, types-length, branches-length, sort-of_type, own-both, expr-sort}

module _ (vars : List StVar) where
  -- none of the statements breaks a check, whatever its number
  abbrev pub AllChecked : Stms → Type 0
  AllChecked no_stms = Unit {0}
  AllChecked (stms s ss) = ((k : ℕ) → stm_faults vars k s ≡ []) × AllChecked ss

  checked-append : (a b : Stms) → AllChecked a → AllChecked b → AllChecked (append a b)
  checked-append no_stms b p q = q
  checked-append (stms s ss) b p q = (p.0, checked-append ss b p.1 q)

  pub all-checked : (k : ℕ) (ss : Stms) → AllChecked ss → stms_faults vars k ss ≡ []
  all-checked k no_stms all = refl
  all-checked k (stms s ss) all = rw (all.0 k) (all-checked (k + stm_count s) ss all.1)

  same : (s : Sort) → is_same_sort (Some s) (Some s) ≡ true
  same boolean = refl
  same integer = refl

  assign-checked : (x : Text) (e : Expr) (b : Bool) → OwnIs vars x (type_by b) → HasSort vars e b → (k : ℕ) → stm_faults vars k (assign x e) ≡ []
  assign-checked x e b o h k =
      let at = o.is_declared in
      let kn = h.0 in
      let so : sort_of vars e ≡ Some (sort_of_type o.variable.ty) = h.1 ∙ ap Some (sym (ap sort_of_type o.type_is ∙ sort-of_type vars b)) in
      let s = same (sort_of_type o.variable.ty) in
      let can = o.can in
      rw (at, kn, so, s, can) refl

  module _ (w : Naming) (n : Net) (r : Option Ty) (names : NamesHaveSorts vars w n r) where
    abbrev Own : ℕ → List StTy → Type 0
    Own k ts = AreOwn vars w k ts

    sorted : (kind : Kind) (k : ℕ) (e : NetExpr) → fits n r kind e ≡ true → NoAlg (names_in e) → Own k (own_types n r e) → HasSort vars (text w k e) (is_bool kind)
    sorted = expr-sort vars w n r names

    -- ---- one `if`

    -- the conditions and values of branches, which set the variable x of this type
    record BranchesFine (x : Text) (b : Bool) (bs : Branches) : Type 0 where
      known : knows_conditions vars bs ≡ true
      are_boolean : boolean_conditions vars bs ≡ true
      no_faults : (j : ℕ) → branches_faults vars j bs ≡ []

    branches-fine : (x : Text) (kind : Kind) (k : ℕ) (bs : NetBranches) → OwnIs vars x (type_by (is_bool kind)) → branches_fit n r kind bs ≡ true → NoAlg (branch_names bs) → Own k (branches_types n r bs)
        → BranchesFine x (is_bool kind) (branches_text w x k bs)
    branches-fine x kind k no_net_branches own h a o = record { known = refl; are_boolean = refl; no_faults = λ j. refl }
    branches-fine x kind k (net_branches c e bs) own h a o =
        let aa = no-algs (names_in c) (names_in e ++ branch_names bs) a in let a2 = no-algs (names_in e) (branch_names bs) aa.1 in
        let oo = own-both vars w k (temps c) (own_types n r c) (own_types n r e ++ branches_types n r bs) (types-length n r c) o in
        let o2 = own-both vars w (k + temps c) (temps e) (own_types n r e) (branches_types n r bs) (types-length n r e) oo.1 in
        let cond = sorted bool_kind k c (and-left _ _ (and-left _ _ h)) aa.0 oo.0 in
        let value = sorted kind (k + temps c) e (and-right _ _ (and-left _ _ h)) a2.0 o2.0 in
        let rest = branches-fine x kind (k + temps c + temps e) bs own (and-right _ _ h) a2.1 o2.1 in
        let one = assign-checked x (text w (k + temps c) e) (is_bool kind) own value in
        let known = rest.known in let bools = rest.are_boolean in
        record {
          known = rw (cond.0, known) refl;
          are_boolean = rw (cond.1, bools) refl;
          no_faults = λ j. (let f = one j in let g = rest.no_faults in rw f (g _));
        }

    case-checked : (x : Text) (b : Bool) (bs : Branches) (e : Expr) → OwnIs vars x (type_by b) → BranchesFine x b bs → HasSort vars e b → AllChecked (stms (case_text x bs e) no_stms)
    case-checked x b no_branches e own h g = (assign-checked x e b own g, tt)
    case-checked x b (branches c ss bs) e own h g =
        ((λ j. (let p = h.known in let q = h.are_boolean in let f = h.no_faults (j + 1) in let l = assign-checked x e b own g in rw (p, q, f) (rw (l _) refl))), tt)

    -- ---- expressions

    two : (a b : Stms) → AllChecked a → AllChecked b → AllChecked (append a b)
    two = checked-append

    own-next : (k : ℕ) (e : NetExpr) (ts : List StTy) → Own k (own_types n r e ++ ts) → Own k (own_types n r e) × Own (k + temps e) ts
    own-next k e ts o = own-both vars w k (temps e) (own_types n r e) ts (types-length n r e) o

    if-checked : (kind : Kind) (k : ℕ) (bs : NetBranches) (e : NetExpr) → form_fits n r kind (n_if bs e) ≡ true → NoAlg (form_names (n_if bs e)) → Own k (form_types n r (n_if bs e))
        → AllChecked (branches_before w (k + 1) bs) → AllChecked (before w (k + 1 + branches_temps bs) e) → AllChecked (form_before w k (n_if bs e))
    if-checked kind k bs e h a o p q =
        let aa = no-algs (branch_names bs) (names_in e) a in
        let oo = own-both vars w (k + 1) (branches_temps bs) (branches_types n r bs) (own_types n r e) (branches-length n r bs) o.1 in
        let own = subst (λ b. OwnIs vars (w.own k) (type_by b)) (bool-by n r kind e (and-right _ _ h) aa.1) o.0 in
        let last = stms (case_text (w.own k) (branches_text w (w.own k) (k + 1) bs) (text w (k + 1 + branches_temps bs) e)) no_stms in
        two (branches_before w (k + 1) bs) (append (before w (k + 1 + branches_temps bs) e) last) p
        (two (before w (k + 1 + branches_temps bs) e) last q
        (case-checked (w.own k) (is_bool kind) (branches_text w (w.own k) (k + 1) bs) (text w (k + 1 + branches_temps bs) e) own
        (branches-fine (w.own k) kind (k + 1) bs own (and-left _ _ h) aa.0 oo.0) (sorted kind (k + 1 + branches_temps bs) e (and-right _ _ h) aa.1 oo.1)))

    mutual
      pub expr-checked : (kind : Kind) (k : ℕ) (e : NetExpr) → fits n r kind e ≡ true → NoAlg (names_in e) → Own k (own_types n r e) → AllChecked (before w k e)
      expr-checked kind k (net_expr f at) h a o = form-checked kind k f h a o

      form-checked : (kind : Kind) (k : ℕ) (f : NetForm) → form_fits n r kind f ≡ true → NoAlg (form_names f) → Own k (form_types n r f) → AllChecked (form_before w k f)
      form-checked kind k (n_truth b) h a o = tt
      form-checked kind k (n_number z) h a o = tt
      form-checked kind k (n_loc i p) h a o = tt
      form-checked kind k (n_var i) h a o = tt
      form-checked kind k (n_input i) h a o = tt
      form-checked kind k (n_alg i) h a o = tt
      form-checked kind k n_received h a o = tt
      form-checked kind k (n_minus e) h a o = expr-checked int_kind k e (and-right _ _ h) a o
      form-checked kind k (n_plus e) h a o = expr-checked int_kind k e (and-right _ _ h) a o
      form-checked kind k (n_not e) h a o = expr-checked bool_kind k e (and-right _ _ h) a o
      form-checked kind k (n_abs e) h a o = expr-checked int_kind k e (and-right _ _ h) a o
      form-checked kind k (n_min p q) h a o =
          let aa = no-algs (names_in p) (names_in q) a in let oo = own-next k p (own_types n r q) o in
          two (before w k p) (before w (k + temps p) q) (expr-checked int_kind k p (and-right _ _ (and-left _ _ h)) aa.0 oo.0) (expr-checked int_kind (k + temps p) q (and-right _ _ h) aa.1 oo.1)
      form-checked kind k (n_max p q) h a o =
          let aa = no-algs (names_in p) (names_in q) a in let oo = own-next k p (own_types n r q) o in
          two (before w k p) (before w (k + temps p) q) (expr-checked int_kind k p (and-right _ _ (and-left _ _ h)) aa.0 oo.0) (expr-checked int_kind (k + temps p) q (and-right _ _ h) aa.1 oo.1)
      form-checked kind k (n_sum e es) h a o =
          let aa = no-algs (names_in e) (term_names es) a in let oo = own-next k e (terms_types n r es) o in
          two (before w k e) (terms_before w (k + temps e) es) (expr-checked int_kind k e (and-right _ _ (and-left _ _ h)) aa.0 oo.0) (terms-checked (k + temps e) es (and-right _ _ h) aa.1 oo.1)
      form-checked kind k (n_product e es) h a o =
          let aa = no-algs (names_in e) (factor_names es) a in let oo = own-next k e (factors_types n r es) o in
          two (before w k e) (factors_before w (k + temps e) es) (expr-checked int_kind k e (and-right _ _ (and-left _ _ h)) aa.0 oo.0) (factors-checked (k + temps e) es (and-right _ _ h) aa.1 oo.1)
      form-checked kind k (n_compare p op q) h a o =
          let aa = no-algs (names_in p) (names_in q) a in let oo = own-next k p (own_types n r q) o in let hh = sides-fit n r kind op p q h in
          two (before w k p) (before w (k + temps p) q) (expr-checked hh.kind k p hh.left aa.0 oo.0) (expr-checked hh.kind (k + temps p) q hh.right aa.1 oo.1)
      form-checked kind k (n_and es) h a o = list-checked k es (and-right _ _ h) a o
      form-checked kind k (n_or es) h a o = list-checked k es (and-right _ _ h) a o
      form-checked kind k (n_implies p q) h a o =
          let aa = no-algs (names_in p) (names_in q) a in let oo = own-next k p (own_types n r q) o in
          two (before w k p) (before w (k + temps p) q) (expr-checked bool_kind k p (and-right _ _ (and-left _ _ h)) aa.0 oo.0) (expr-checked bool_kind (k + temps p) q (and-right _ _ h) aa.1 oo.1)
      form-checked kind k (n_iff p q) h a o =
          let aa = no-algs (names_in p) (names_in q) a in let oo = own-next k p (own_types n r q) o in
          two (before w k p) (before w (k + temps p) q) (expr-checked bool_kind k p (and-right _ _ (and-left _ _ h)) aa.0 oo.0) (expr-checked bool_kind (k + temps p) q (and-right _ _ h) aa.1 oo.1)
      form-checked kind k (n_if bs e) h a o =
          let aa = no-algs (branch_names bs) (names_in e) a in
          let oo = own-both vars w (k + 1) (branches_temps bs) (branches_types n r bs) (own_types n r e) (branches-length n r bs) o.1 in
          if-checked kind k bs e h a o (branches-checked kind (k + 1) bs (and-left _ _ h) aa.0 oo.0) (expr-checked kind (k + 1 + branches_temps bs) e (and-right _ _ h) aa.1 oo.1)

      terms-checked : (k : ℕ) (es : NetTerms) → terms_fit n r es ≡ true → NoAlg (term_names es) → Own k (terms_types n r es) → AllChecked (terms_before w k es)
      terms-checked k no_net_terms h a o = tt
      terms-checked k (net_terms m e es) h a o =
          let aa = no-algs (names_in e) (term_names es) a in let oo = own-next k e (terms_types n r es) o in
          two (before w k e) (terms_before w (k + temps e) es) (expr-checked int_kind k e (and-left _ _ h) aa.0 oo.0) (terms-checked (k + temps e) es (and-right _ _ h) aa.1 oo.1)

      factors-checked : (k : ℕ) (es : NetFactors) → factors_fit n r es ≡ true → NoAlg (factor_names es) → Own k (factors_types n r es) → AllChecked (factors_before w k es)
      factors-checked k no_net_factors h a o = tt
      factors-checked k (net_factors op e es) h a o =
          let aa = no-algs (names_in e) (factor_names es) a in let oo = own-next k e (factors_types n r es) o in
          two (before w k e) (factors_before w (k + temps e) es) (expr-checked int_kind k e (and-left _ _ h) aa.0 oo.0) (factors-checked (k + temps e) es (and-right _ _ h) aa.1 oo.1)

      list-checked : (k : ℕ) (es : NetExprs) → all_fit n r es ≡ true → NoAlg (list_names es) → Own k (list_types n r es) → AllChecked (list_before w k es)
      list-checked k no_net_exprs h a o = tt
      list-checked k (net_exprs e es) h a o =
          let aa = no-algs (names_in e) (list_names es) a in let oo = own-next k e (list_types n r es) o in
          two (before w k e) (list_before w (k + temps e) es) (expr-checked bool_kind k e (and-left _ _ h) aa.0 oo.0) (list-checked (k + temps e) es (and-right _ _ h) aa.1 oo.1)

      branches-checked : (kind : Kind) (k : ℕ) (bs : NetBranches) → branches_fit n r kind bs ≡ true → NoAlg (branch_names bs) → Own k (branches_types n r bs) → AllChecked (branches_before w k bs)
      branches-checked kind k no_net_branches h a o = tt
      branches-checked kind k (net_branches c e bs) h a o =
          let aa = no-algs (names_in c) (names_in e ++ branch_names bs) a in let a2 = no-algs (names_in e) (branch_names bs) aa.1 in
          let oo = own-next k c (own_types n r e ++ branches_types n r bs) o in let o2 = own-next (k + temps c) e (branches_types n r bs) oo.1 in
          two (before w k c) (append (before w (k + temps c) e) (branches_before w (k + temps c + temps e) bs)) (expr-checked bool_kind k c (and-left _ _ (and-left _ _ h)) aa.0 oo.0)
          (two (before w (k + temps c) e) (branches_before w (k + temps c + temps e) bs) (expr-checked kind (k + temps c) e (and-right _ _ (and-left _ _ h)) a2.0 o2.0)
          (branches-checked kind (k + temps c + temps e) bs (and-right _ _ h) a2.1 o2.1))

pub text-sorted : (vars : List StVar) (w : Naming) (n : Net) (r : Option Ty) (kind : Kind) (k : ℕ) (e : NetExpr) → NamesHaveSorts vars w n r → fits n r kind e ≡ true → NoAlg (names_in e) → AreOwn vars w k (own_types n r e)
    → HasSort vars (text w k e) (is_bool kind)
text-sorted vars w n r kind k e names h a o = expr-sort vars w n r names kind k e h a o

pub before-checked : (vars : List StVar) (w : Naming) (n : Net) (r : Option Ty) (kind : Kind) (k j : ℕ) (e : NetExpr) → NamesHaveSorts vars w n r → fits n r kind e ≡ true → NoAlg (names_in e) → AreOwn vars w k (own_types n r e)
    → stms_faults vars j (before w k e) ≡ []
before-checked vars w n r kind k j e names h a o = all-checked vars j (before w k e) (expr-checked vars w n r names kind k e h a o)
