-- Two choices of a table are equal in one way at most, since expressions and updates are told from trees of numbers.
use Rattle.std.proofs.Common.{◌≡◌, ℕ, ℤ, zero, suc, pos, nat_abs, Bool, true, false, List, [], ◌∷◌, refl, sym, ◌∙◌, ap, slice_index_or}
use Rattle.std.proofs.Props.{props}
use mathlib.Core.HLevel.{collapsible→set}
use Rattle.cif_net_expr.specs.Tree.{CmpOp, eq, ne, lt, le, gt, ge, MulOp, times, divided, modulo, NetExpr, net_expr, NetForm, n_truth, n_number, n_loc, n_var, n_input, n_alg, n_received, n_minus, n_plus, n_not, n_abs, n_min, n_max, n_sum, n_product, n_compare, n_and, n_or, n_implies, n_iff, n_if, NetExprs, no_net_exprs, net_exprs, NetTerms, no_net_terms, net_terms, NetFactors, no_net_factors, net_factors, NetBranches, no_net_branches, net_branches, NetUpdate, net_set, net_choose, NetUpdates, no_net_updates, net_updates, NetUpdateBranches, no_net_update_branches, net_update_branches}
use Rattle.cif_net_model.specs.Listing.{NetChoice}
use Rattle.cif_net_model.proofs.ValueLaws.{ap-two}

data Shape : Type 0 where
  leaf : ℤ → Shape
  node : ℕ → Shape → Shape → Shape
  deriving IsSet as Shape-from_sets

Shape-set : IsSet Shape
Shape-set = Shape-from_sets (hlevel props) (hlevel props)

-- what can be told back from such a tree
retract-set : {A : Type 0} (to : A → Shape) (from : Shape → A) → ((a : A) → from (to a) ≡ a) → IsSet A
retract-set to from back =
    collapsible→set (λ x y p. sym (back x) ∙ ap from (ap to p) ∙ back y)
    (λ x y p q. ap (λ t. sym (back x) ∙ ap from t ∙ back y) (Shape-set (to x) (to y) (ap to p) (ap to q)))

-- ---- to trees

abbrev none : Shape
none = leaf (pos 0)

abbrev number : ℕ → Shape
number k = leaf (pos k)

abbrev bit : Bool → ℕ
bit true = 1
bit false = 0

abbrev cmp_number : CmpOp → ℕ
cmp_number eq = 0
cmp_number ne = 1
cmp_number lt = 2
cmp_number le = 3
cmp_number gt = 4
cmp_number ge = 5

abbrev mul_number : MulOp → ℕ
mul_number times = 0
mul_number divided = 1
mul_number modulo = 2

abbrev mutual
  to_expr : NetExpr → Shape
  to_expr (net_expr f at) = node at (to_form f) none

  to_form : NetForm → Shape
  to_form (n_truth b) = node 0 (number (bit b)) none
  to_form (n_number z) = node 1 (leaf z) none
  to_form (n_loc a k) = node 2 (number a) (number k)
  to_form (n_var k) = node 3 (number k) none
  to_form (n_input k) = node 4 (number k) none
  to_form (n_alg k) = node 5 (number k) none
  to_form n_received = node 6 none none
  to_form (n_minus e) = node 7 (to_expr e) none
  to_form (n_plus e) = node 8 (to_expr e) none
  to_form (n_not e) = node 9 (to_expr e) none
  to_form (n_abs e) = node 10 (to_expr e) none
  to_form (n_min a b) = node 11 (to_expr a) (to_expr b)
  to_form (n_max a b) = node 12 (to_expr a) (to_expr b)
  to_form (n_sum e es) = node 13 (to_expr e) (to_terms es)
  to_form (n_product e es) = node 14 (to_expr e) (to_factors es)
  to_form (n_compare a op b) = node 15 (to_expr a) (node (cmp_number op) (to_expr b) none)
  to_form (n_and es) = node 16 (to_list es) none
  to_form (n_or es) = node 17 (to_list es) none
  to_form (n_implies a b) = node 18 (to_expr a) (to_expr b)
  to_form (n_iff a b) = node 19 (to_expr a) (to_expr b)
  to_form (n_if bs e) = node 20 (to_branches bs) (to_expr e)

  to_list : NetExprs → Shape
  to_list no_net_exprs = none
  to_list (net_exprs e es) = node 0 (to_expr e) (to_list es)

  to_terms : NetTerms → Shape
  to_terms no_net_terms = none
  to_terms (net_terms m e es) = node (bit m) (to_expr e) (to_terms es)

  to_factors : NetFactors → Shape
  to_factors no_net_factors = none
  to_factors (net_factors op e es) = node (mul_number op) (to_expr e) (to_factors es)

  to_branches : NetBranches → Shape
  to_branches no_net_branches = none
  to_branches (net_branches c e bs) = node 0 (to_expr c) (node 0 (to_expr e) (to_branches bs))

-- ---- and back

abbrev int_of : Shape → ℤ
int_of (leaf z) = z
int_of (node t a b) = pos 0

abbrev nat_of : Shape → ℕ
nat_of s = nat_abs (int_of s)

abbrev tag_of : Shape → ℕ
tag_of (leaf z) = 0
tag_of (node t a b) = t

abbrev is_one : ℕ → Bool
is_one zero = false
is_one (suc k) = true

abbrev from_cmp : ℕ → CmpOp
from_cmp k = slice_index_or (eq ∷ ne ∷ lt ∷ le ∷ gt ∷ ge ∷ []) k eq

abbrev from_mul : ℕ → MulOp
from_mul k = slice_index_or (times ∷ divided ∷ modulo ∷ []) k times

abbrev mutual
  from_expr : Shape → NetExpr
  from_expr (leaf z) = net_expr (n_truth false) 0
  from_expr (node t a b) = net_expr (from_form a) t

  -- the second part of the tree
  from_second : Shape → NetExpr
  from_second (leaf z) = net_expr (n_truth false) 0
  from_second (node t a b) = from_expr a

  from_form : Shape → NetForm
  from_form (leaf z) = n_truth false
  from_form (node t a b) =
      slice_index_or (
      n_truth (is_one (nat_of a))
      ∷ n_number (int_of a)
      ∷ n_loc (nat_of a) (nat_of b)
      ∷ n_var (nat_of a)
      ∷ n_input (nat_of a)
      ∷ n_alg (nat_of a)
      ∷ n_received
      ∷ n_minus (from_expr a)
      ∷ n_plus (from_expr a)
      ∷ n_not (from_expr a)
      ∷ n_abs (from_expr a)
      ∷ n_min (from_expr a) (from_expr b)
      ∷ n_max (from_expr a) (from_expr b)
      ∷ n_sum (from_expr a) (from_terms b)
      ∷ n_product (from_expr a) (from_factors b)
      ∷ n_compare (from_expr a) (from_cmp (tag_of b)) (from_second b)
      ∷ n_and (from_list a)
      ∷ n_or (from_list a)
      ∷ n_implies (from_expr a) (from_expr b)
      ∷ n_iff (from_expr a) (from_expr b)
      ∷ n_if (from_branches a) (from_expr b)
      ∷ []
      ) t (n_truth false)

  from_list : Shape → NetExprs
  from_list (leaf z) = no_net_exprs
  from_list (node t a b) = net_exprs (from_expr a) (from_list b)

  from_terms : Shape → NetTerms
  from_terms (leaf z) = no_net_terms
  from_terms (node t a b) = net_terms (is_one t) (from_expr a) (from_terms b)

  from_factors : Shape → NetFactors
  from_factors (leaf z) = no_net_factors
  from_factors (node t a b) = net_factors (from_mul t) (from_expr a) (from_factors b)

  from_branches : Shape → NetBranches
  from_branches (leaf z) = no_net_branches
  from_branches (node t a b) = net_branches (from_expr a) (from_second b) (from_rest b)

  from_rest : Shape → NetBranches
  from_rest (leaf z) = no_net_branches
  from_rest (node t a b) = from_branches b

bit-back : (b : Bool) → is_one (bit b) ≡ b
bit-back true = refl
bit-back false = refl

cmp-back : (op : CmpOp) → from_cmp (cmp_number op) ≡ op
cmp-back eq = refl
cmp-back ne = refl
cmp-back lt = refl
cmp-back le = refl
cmp-back gt = refl
cmp-back ge = refl

mul-back : (op : MulOp) → from_mul (mul_number op) ≡ op
mul-back times = refl
mul-back divided = refl
mul-back modulo = refl

ap-three : {A B C D : Type 0} (f : A → B → C → D) {a b : A} {c d : B} {e g : C} → a ≡ b → c ≡ d → e ≡ g → f a c e ≡ f b d g
ap-three f {a} {b} {c} {d} {e} {g} p q r = ap (λ x. f x c e) p ∙ ap (λ x. f b x e) q ∙ ap (f b d) r

mutual
  expr-back : (e : NetExpr) → from_expr (to_expr e) ≡ e
  expr-back (net_expr f at) = ap (λ g. net_expr g at) (form-back f)

  form-back : (f : NetForm) → from_form (to_form f) ≡ f
  form-back (n_truth b) = ap n_truth (bit-back b)
  form-back (n_number z) = refl
  form-back (n_loc a k) = refl
  form-back (n_var k) = refl
  form-back (n_input k) = refl
  form-back (n_alg k) = refl
  form-back n_received = refl
  form-back (n_minus e) = ap n_minus (expr-back e)
  form-back (n_plus e) = ap n_plus (expr-back e)
  form-back (n_not e) = ap n_not (expr-back e)
  form-back (n_abs e) = ap n_abs (expr-back e)
  form-back (n_min a b) = ap-two n_min (expr-back a) (expr-back b)
  form-back (n_max a b) = ap-two n_max (expr-back a) (expr-back b)
  form-back (n_sum e es) = ap-two n_sum (expr-back e) (terms-back es)
  form-back (n_product e es) = ap-two n_product (expr-back e) (factors-back es)
  form-back (n_compare a op b) = ap-three n_compare (expr-back a) (cmp-back op) (expr-back b)
  form-back (n_and es) = ap n_and (list-back es)
  form-back (n_or es) = ap n_or (list-back es)
  form-back (n_implies a b) = ap-two n_implies (expr-back a) (expr-back b)
  form-back (n_iff a b) = ap-two n_iff (expr-back a) (expr-back b)
  form-back (n_if bs e) = ap-two n_if (branches-back bs) (expr-back e)

  list-back : (es : NetExprs) → from_list (to_list es) ≡ es
  list-back no_net_exprs = refl
  list-back (net_exprs e es) = ap-two net_exprs (expr-back e) (list-back es)

  terms-back : (es : NetTerms) → from_terms (to_terms es) ≡ es
  terms-back no_net_terms = refl
  terms-back (net_terms m e es) = ap-three net_terms (bit-back m) (expr-back e) (terms-back es)

  factors-back : (es : NetFactors) → from_factors (to_factors es) ≡ es
  factors-back no_net_factors = refl
  factors-back (net_factors op e es) = ap-three net_factors (mul-back op) (expr-back e) (factors-back es)

  branches-back : (bs : NetBranches) → from_branches (to_branches bs) ≡ bs
  branches-back no_net_branches = refl
  branches-back (net_branches c e bs) = ap-three net_branches (expr-back c) (expr-back e) (branches-back bs)

pub expr-set : IsSet NetExpr
expr-set = retract-set to_expr from_expr expr-back

-- ---- updates

abbrev mutual
  to_updates : NetUpdates → Shape
  to_updates no_net_updates = none
  to_updates (net_updates u us) = node 0 (to_update u) (to_updates us)

  to_update : NetUpdate → Shape
  to_update (net_set v e) = node 0 (number v) (to_expr e)
  to_update (net_choose bs us) = node 1 (to_update_branches bs) (to_updates us)

  to_update_branches : NetUpdateBranches → Shape
  to_update_branches no_net_update_branches = none
  to_update_branches (net_update_branches c us bs) = node 0 (to_expr c) (node 0 (to_updates us) (to_update_branches bs))

abbrev mutual
  from_updates : Shape → NetUpdates
  from_updates (leaf z) = no_net_updates
  from_updates (node t a b) = net_updates (from_update a) (from_updates b)

  from_update : Shape → NetUpdate
  from_update (leaf z) = net_choose no_net_update_branches no_net_updates
  from_update (node t a b) = slice_index_or (net_set (nat_of a) (from_expr b) ∷ net_choose (from_update_branches a) (from_updates b) ∷ []) t (net_choose no_net_update_branches no_net_updates)

  from_update_branches : Shape → NetUpdateBranches
  from_update_branches (leaf z) = no_net_update_branches
  from_update_branches (node t a b) = net_update_branches (from_expr a) (second_updates b) (rest_branches b)

  second_updates : Shape → NetUpdates
  second_updates (leaf z) = no_net_updates
  second_updates (node t a b) = from_updates a

  rest_branches : Shape → NetUpdateBranches
  rest_branches (leaf z) = no_net_update_branches
  rest_branches (node t a b) = from_update_branches b

mutual
  updates-back : (us : NetUpdates) → from_updates (to_updates us) ≡ us
  updates-back no_net_updates = refl
  updates-back (net_updates u us) = ap-two net_updates (update-back u) (updates-back us)

  update-back : (u : NetUpdate) → from_update (to_update u) ≡ u
  update-back (net_set v e) = ap (net_set v) (expr-back e)
  update-back (net_choose bs us) = ap-two net_choose (update_branches-back bs) (updates-back us)

  update_branches-back : (bs : NetUpdateBranches) → from_update_branches (to_update_branches bs) ≡ bs
  update_branches-back no_net_update_branches = refl
  update_branches-back (net_update_branches c us bs) = ap-three net_update_branches (expr-back c) (updates-back us) (update_branches-back bs)

pub updates-set : IsSet NetUpdates
updates-set = retract-set to_updates from_updates updates-back

pub choices-set : IsSet (List NetChoice)
choices-set = hlevel (props, expr-set, updates-set)
