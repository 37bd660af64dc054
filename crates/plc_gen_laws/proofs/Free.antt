-- The own variables of expressions hold any number: each is BOOL or LINT. So they stand as what is promised of expressions asks.
use Rattle.std.proofs.Common.{◌≡◌, ℕ, ◌+◌, ◌<◌, ◌≤◌, ℤ, Bool, true, false, List, [], ◌∷◌, ◌++◌, length, flat_map, Option, Some, None, nat_eq, refl, sym, ap, subst, ◌∙◌, arith, eqb-true}
use Rattle.std.specs.List.{AllByRecursion}
use Rattle.std.proofs.lemmas.Bool.{eqb-false}
use Rattle.cif_net_expr.specs.Tree.{NetExpr, net_expr, NetForm, n_truth, n_number, n_loc, n_var, n_input, n_alg, n_received, n_minus, n_plus, n_not, n_abs, n_min, n_max, n_sum, n_product, n_compare, n_and, n_or, n_implies, n_iff, n_if, NetExprs, no_net_exprs, net_exprs, NetTerms, no_net_terms, net_terms, NetFactors, no_net_factors, net_factors, NetBranches, no_net_branches, net_branches, NetUpdate, net_set, net_choose, NetUpdates, no_net_updates, net_updates, NetUpdateBranches, no_net_update_branches, net_update_branches}
use Rattle.grammar.specs.Pieces.{Text}
use Rattle.cif_base.specs.declared.types.Ty.{Ty}
use Rattle.cif_net_model.specs.Net.{NetAlg, Net}
use Rattle.cif_net_model.specs.Inline.{defined_by}
use Rattle.cif_net_model.specs.Listing.{NetChoice, all_hold}
use Rattle.cif_net_model.specs.Table.{carried_type}
use Rattle.cif_net_model.proofs.PartLaws.{all-append}
use Rattle.st_ast.specs.Exec.{is_within, type_at}
use Rattle.st_ast.specs.Names.{place_of}
use Rattle.st_ast.specs.declared.tree.StTy.{StTy}
use Rattle.st_ast.specs.declared.tree.StVar.{StVar}
use Rattle.plc_model.proofs.FaceLaws.{declared-type}
use Rattle.plc_expr.specs.Held.{OwnPlaces}
use Rattle.plc_expr.specs.Sorts.{is_boolean, type_by, own_types, form_types, terms_types, factors_types, list_types, branches_types}
use Rattle.plc_expr.specs.Texts.{Naming}
use Rattle.plc_event_model.specs.Keeps.{asked}
use Rattle.plc_event_model.specs.Own.{bodies_types, choice_types, conditions_types, sent_types, update_types, updates_types}
use Rattle.plc_event_model.proofs.Kept.{Declares}
use Rattle.plc_event_model.specs.ProgramParts.{defined_types}

-- each number is of the type
abbrev pub IsFree : StTy → Type 0
IsFree t = (z : ℤ) → is_within t z ≡ true

type-free : (b : Bool) → IsFree (type_by b)
type-free true z = refl
type-free false z = refl

module _ (n : Net) (r : Option Ty) where
  abbrev AllFree : List StTy → Type 0
  AllFree ts = AllByRecursion IsFree ts

  two : (ts us : List StTy) → AllFree ts → AllFree us → AllFree (ts ++ us)
  two = all-append IsFree

  mutual
    expr-free : (e : NetExpr) → AllFree (own_types n r e)
    expr-free (net_expr f at) = form-free f

    form-free : (f : NetForm) → AllFree (form_types n r f)
    form-free (n_truth b) = tt
    form-free (n_number z) = tt
    form-free (n_loc a p) = tt
    form-free (n_var k) = tt
    form-free (n_input k) = tt
    form-free (n_alg k) = tt
    form-free n_received = tt
    form-free (n_minus e) = expr-free e
    form-free (n_plus e) = expr-free e
    form-free (n_not e) = expr-free e
    form-free (n_abs e) = expr-free e
    form-free (n_min a b) = two (own_types n r a) (own_types n r b) (expr-free a) (expr-free b)
    form-free (n_max a b) = two (own_types n r a) (own_types n r b) (expr-free a) (expr-free b)
    form-free (n_sum e es) = two (own_types n r e) (terms_types n r es) (expr-free e) (terms-free es)
    form-free (n_product e es) = two (own_types n r e) (factors_types n r es) (expr-free e) (factors-free es)
    form-free (n_compare a op b) = two (own_types n r a) (own_types n r b) (expr-free a) (expr-free b)
    form-free (n_and es) = list-free es
    form-free (n_or es) = list-free es
    form-free (n_implies a b) = two (own_types n r a) (own_types n r b) (expr-free a) (expr-free b)
    form-free (n_iff a b) = two (own_types n r a) (own_types n r b) (expr-free a) (expr-free b)
    form-free (n_if bs e) = (type-free (is_boolean n r e), two (branches_types n r bs) (own_types n r e) (branches-free bs) (expr-free e))

    terms-free : (es : NetTerms) → AllFree (terms_types n r es)
    terms-free no_net_terms = tt
    terms-free (net_terms m e es) = two (own_types n r e) (terms_types n r es) (expr-free e) (terms-free es)

    factors-free : (es : NetFactors) → AllFree (factors_types n r es)
    factors-free no_net_factors = tt
    factors-free (net_factors op e es) = two (own_types n r e) (factors_types n r es) (expr-free e) (factors-free es)

    list-free : (es : NetExprs) → AllFree (list_types n r es)
    list-free no_net_exprs = tt
    list-free (net_exprs e es) = two (own_types n r e) (list_types n r es) (expr-free e) (list-free es)

    branches-free : (bs : NetBranches) → AllFree (branches_types n r bs)
    branches-free no_net_branches = tt
    branches-free (net_branches c e bs) =
        two (own_types n r c) (own_types n r e ++ branches_types n r bs) (expr-free c) (two (own_types n r e) (branches_types n r bs) (expr-free e) (branches-free bs))

  conditions-free : (bs : NetUpdateBranches) → AllFree (conditions_types n r bs)
  conditions-free no_net_update_branches = tt
  conditions-free (net_update_branches c us bs) = two (own_types n r c) (conditions_types n r bs) (expr-free c) (conditions-free bs)

  mutual
    updates-free : (us : NetUpdates) → AllFree (updates_types n r us)
    updates-free no_net_updates = tt
    updates-free (net_updates u us) = two (updates_types n r us) (update_types n r u) (updates-free us) (update-free u)

    update-free : (u : NetUpdate) → AllFree (update_types n r u)
    update-free (net_set v e) = expr-free e
    update-free (net_choose bs us) =
        two (conditions_types n r bs) (bodies_types n r bs ++ updates_types n r us) (conditions-free bs) (two (bodies_types n r bs) (updates_types n r us) (bodies-free bs) (updates-free us))

    bodies-free : (bs : NetUpdateBranches) → AllFree (bodies_types n r bs)
    bodies-free no_net_update_branches = tt
    bodies-free (net_update_branches c us bs) = two (updates_types n r us) (bodies_types n r bs) (updates-free us) (bodies-free bs)

sent-free : (n : Net) (e : Option NetExpr) → AllByRecursion IsFree (sent_types n e)
sent-free n None = tt
sent-free n (Some e) = expr-free n None e

pub choices-free : (n : Net) (cs : List NetChoice) → AllByRecursion IsFree (flat_map (choice_types n) cs)
choices-free n [] = tt
choices-free n (c ∷ cs) =
    let kept : List StTy = own_types n None (all_hold (asked n c)) in
    all-append IsFree (choice_types n c) (flat_map (choice_types n) cs)
    (all-append IsFree (own_types n None c.test) (sent_types n c.sent ++ (updates_types n (carried_type n c) c.writes ++ kept)) (expr-free n None c.test)
    (all-append IsFree (sent_types n c.sent) (updates_types n (carried_type n c) c.writes ++ kept) (sent-free n c.sent)
    (all-append IsFree (updates_types n (carried_type n c) c.writes) kept (updates-free n (carried_type n c) c.writes) (expr-free n None (all_hold (asked n c)))))) (choices-free n cs)

-- those of definitions
pub algs-free : (n : Net) (as' : List NetAlg) → AllByRecursion IsFree (defined_types n as')
algs-free n [] = tt
algs-free n (a ∷ as') = all-append IsFree (own_types n None (defined_by a)) (defined_types n as') (expr-free n None (defined_by a)) (algs-free n as')

-- ---- places

module _ (vars : List StVar) (w : Naming) (base : ℕ) where
  -- it stands at its place, and holds any number
  abbrev StandsFree : ℕ → Type 0
  StandsFree i = (place_of vars (w.own i) ≡ base + i) × IsFree (type_at vars (base + i))

  one-free : (k : ℕ) (ts : List StTy) → Declares vars w base k ts → AllByRecursion IsFree ts → (i : ℕ) → k ≤ i → i < k + length ts → StandsFree i
  one-free k [] d free i from below = absurd (omega (arith, from, below))
  one-free k (t ∷ ts) d free i from below = go (nat_eq i k) refl (λ later. one-free (k + 1) ts d.1 free.1 i later (omega (arith, below)))
    where
      here : IsFree (type_at vars (base + k))
      here = subst IsFree (sym (declared-type vars (w.own k) t d.0.0) ∙ ap (type_at vars) d.0.1) free.0

      go : (b : Bool) → nat_eq i k ≡ b → (k + 1 ≤ i → StandsFree i) → StandsFree i
      go true e rest = subst StandsFree (sym (eqb-true i k e)) (d.0.1, here)
      go false e rest = let apart = eqb-false i k e in rest (grind (arith, apart, from))

  pub own-places : (low : ℕ) (ts : List StTy) (count : ℕ) → length ts ≡ count → Declares vars w base low ts → AllByRecursion IsFree ts → OwnPlaces vars w base low count
  own-places low ts count long d free = record {
    place = λ k from below. (one-free low ts d free k from (omega (arith, below, long))).0;
    holds_any = λ k from below. (one-free low ts d free k from (omega (arith, below, long))).1;
  }

-- by whatever naming they have these names
pub same-places : (vars : List StVar) (w v : Naming) (base low count : ℕ) → v.own ≡ w.own → OwnPlaces vars w base low count → OwnPlaces vars v base low count
same-places vars w v base low count same own = record {
  place = λ k from below. subst (λ (f : ℕ → Text). place_of vars (f k) ≡ base + k) (sym same) (own.place k from below);
  holds_any = own.holds_any;
}
