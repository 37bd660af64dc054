-- One argument after the other.
use Rattle.std.proofs.Common.{◌≡◌, ℕ, zero, suc, ◌+◌, ◌<◌, inl, inr, List, [], ◌∷◌, ◌++◌, length, length-append, map, get_or, Some, sym, ◌∙◌, ap, subst, arith}
use Rattle.std.specs.Prelude.{slice_get}
use Rattle.cif_ast.specs.View.{view}
use Rattle.cif_ast.specs.Tree.{Tree}
use Rattle.cif_ast.specs.declared.declarations.Param.{Param}
use Rattle.cif_ast.specs.declared.expressions.Expr.{Expr}
use Rattle.cif_system.proofs.Lists.{some-same}
use Rattle.cif_source.specs.Source.{ParamTree, param_tree, Source}
use Rattle.cif_source.specs.Components.{Component}
use Rattle.cif_scope.proofs.LookLaws.{get-map}
use Rattle.cif_inst_components.proofs.FindLaws.{below-or}
use Rattle.cif_inst_bodies.specs.Arguments.{IsArgumentFor}
use Rattle.cif_inst_parameters.specs.declared.following.Follower.{Follower}
use Rattle.cif_inst_parameters.specs.declared.given.Given.{Given}
use Rattle.cif_inst_parameters.specs.Given.{IsGiven}
use Rattle.cif_inst_parameters.specs.Following.{FollowsFrom, AreFollowed}
use Rattle.cif_inst_parameters.proofs.ListLaws.{get-left, get-last}

get-at : {A : Type 0} (xs : List A) (k : ℕ) (x : A) → k < length xs → ((d : A) → x ≡ get_or xs k d) → slice_get xs k ≡ Some x
get-at [] k x h g = absurd (omega arith)
get-at (y ∷ xs) zero x h g = ap Some (sym (g y))
get-at (y ∷ xs) (suc k) x h g = let less : k < length xs = omega arith in get-at xs k x less g

-- the next argument is followed
pub followed-more : (f : Follower) (giver : ℕ) (params : List Param) (values : List Expr) (n : ℕ) (xs : List Given) → AreFollowed f giver (map param_tree params) (map view values) n xs
    → (p : Param) (e : Expr) (x : Given) → n < length params → n < length values → ((d : Param) → p ≡ get_or params n d) → ((d : Expr) → e ≡ get_or values n d)
    → ((t : Source) (g : Component) → FollowsFrom t f giver g → (d : Component) → IsArgumentFor d (param_tree p) g (view e) → IsGiven t (param_tree p) g (view e) x)
    → (m : ℕ) → m ≡ n + 1 → (ys : List Given) → ys ≡ xs ++ x ∷ [] → AreFollowed f giver (map param_tree params) (map view values) m ys
followed-more f giver params values n xs done p e x lp le ip ie next m count ys is =
    let size : length ys ≡ m = ap length is ∙ length-append xs (x ∷ []) ∙ ap (λ k. k + 1) done.0 ∙ sym count in
    (size, at)
  where
    ps : List ParamTree
    ps = map param_tree params

    es : List Tree
    es = map view values

    here : (t : Source) (g : Component) → FollowsFrom t f giver g → (d : Component) (q : ParamTree) (a : Tree) → slice_get ps n ≡ Some q → slice_get es n ≡ Some a → IsArgumentFor d q g a → (y : Given) × (slice_get ys n ≡ Some y) × IsGiven t q g a y
    here t g from d q a hq ha fits =
        let param : param_tree p ≡ q = some-same (param_tree p) q (sym (get-map param_tree params n p (get-at params n p lp ip)) ∙ hq) in
        let value : view e ≡ a = some-same (view e) a (sym (get-map view values n e (get-at values n e le ie)) ∙ ha) in
        let fit : IsArgumentFor d (param_tree p) g (view e) = subst (λ z. IsArgumentFor d z g (view e)) (sym param) (subst (λ z. IsArgumentFor d q g z) (sym value) fits) in
        let given : IsGiven t q g a x = subst (λ z. IsGiven t z g a x) param (subst (λ z. IsGiven t (param_tree p) g z x) value (next t g from d fit)) in
        (x, ap (λ l. slice_get l n) is ∙ subst (λ j. slice_get (xs ++ x ∷ []) j ≡ Some x) done.0 (get-last xs x), given)

    at : (t : Source) (g : Component) → FollowsFrom t f giver g → (d : Component) (k : ℕ) (q : ParamTree) (a : Tree) → k < m → slice_get ps k ≡ Some q → slice_get es k ≡ Some a → IsArgumentFor d q g a
        → (y : Given) × (slice_get ys k ≡ Some y) × IsGiven t q g a y
    at t g from d k q a less hq ha fits =
        elim (below-or k n) [
          | inl h ↦ let y = done.1 t g from d k q a h hq ha fits in (y.0, ap (λ l. slice_get l k) is ∙ get-left xs (x ∷ []) k y.0 y.1, y.2)
          | inr h ↦
              let same : k ≡ n = omega (arith, less, count, h) in
              let y = here t g from d q a (subst (λ j. slice_get ps j ≡ Some q) same hq) (subst (λ j. slice_get es j ≡ Some a) same ha) fits in
              (y.0, subst (λ j. slice_get ys j ≡ Some y.0) (sym same) y.1, y.2)
        ]
