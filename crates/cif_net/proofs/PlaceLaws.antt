-- A definition by location as one expression: its branches, one after another.
use Rattle.std.proofs.Common.{◌≡◌, ℕ, suc, ◌+◌, Bool, false, IsTrue, ◌↔◌, List, [], ◌∷◌, ◌++◌, length, map, refl, sym, ap, ◌∙◌, arith}
use Rattle.std.proofs.lemmas.List.{map-append, length-map}
use Rattle.cif_net_expr.specs.Tree.{NetExpr, net_expr, n_if, n_loc, net_branches}
use Rattle.cif_net_expr.specs.View.{view, view_branch, branches_of}
use Rattle.cif_net_expr.specs.declared.expressions.NetExpr as declared
use Rattle.cif_net_expr.specs.declared.expressions.NetBranch.{NetBranch}
use Rattle.cif_net_model.specs.Exprs.{expr_at}
use Rattle.cif_net_model.specs.Inline.{place_branches, last_of, by_places}
use Rattle.cif_net.specs.Places.{first_at, branch_by_place, branches_by_place}

-- one more at the end
branches-more : (a k : ℕ) (es : List NetExpr) (e : NetExpr) → branches_by_place a k (es ++ e ∷ []) ≡ branches_by_place a k es ++ branch_by_place a (k + length es) e ∷ []
branches-more a k [] e = let n : k + 0 ≡ k = omega arith in ap (λ j. branch_by_place a j e ∷ []) (sym n)
branches-more a k (f ∷ fs) e =
    let n : suc k + length fs ≡ k + suc (length fs) = omega arith in
    ap (λ bs. branch_by_place a k f ∷ bs) (branches-more a (suc k) fs e ∙ ap (λ j. branches_by_place a (suc k) fs ++ branch_by_place a j e ∷ []) n)

-- all but the last are branches
branches-split : (a k : ℕ) (e : NetExpr) (es : List NetExpr) (last : NetExpr) → place_branches a k e (es ++ last ∷ []) ≡ branches_of (branches_by_place a k (e ∷ es))
branches-split a k e [] last = refl
branches-split a k e (f ∷ fs) last = ap (net_branches (net_expr (n_loc a k) (expr_at e)) e) (branches-split a (suc k) f fs last)

last-split : (e : NetExpr) (es : List NetExpr) (last : NetExpr) → last_of e (es ++ last ∷ []) ≡ last
last-split e [] last = refl
last-split e (f ∷ fs) last = last-split f fs last

places-split : (a : ℕ) (e : NetExpr) (es : List NetExpr) (last : NetExpr) → by_places a ((e ∷ es) ++ last ∷ []) ≡ net_expr (n_if (branches_of (branches_by_place a 0 (e ∷ es))) last) (expr_at e)
places-split a e [] last = refl
places-split a e (f ∷ fs) last =
    λ i. net_expr (n_if (branches-split a 0 e (f ∷ fs) last i) (last-split f fs last i)) (expr_at e)

-- ---- the same of the trees

pub place-added : (a k : ℕ) (made made_now : List NetBranch) (done : List declared.NetExpr) (value : declared.NetExpr) (b : NetBranch)
    → k ≡ length done → map view_branch made ≡ branches_by_place a 0 (map view done) → view_branch b ≡ branch_by_place a k (view value) → made_now ≡ made ++ b ∷ []
    → map view_branch made_now ≡ branches_by_place a 0 (map view (done ++ value ∷ []))
place-added a k made made_now done value b count before is now =
    let n : k ≡ 0 + length (map view done) = omega (arith, length-map done view) in
    ap (map view_branch) now
    ∙ map-append view_branch made (b ∷ [])
    ∙ ap (λ bs. bs ++ view_branch b ∷ []) before
    ∙ ap (λ x. branches_by_place a 0 (map view done) ++ x ∷ []) (is ∙ ap (λ j. branch_by_place a j (view value)) n)
    ∙ sym (branches-more a 0 (map view done) (view value))
    ∙ ap (branches_by_place a 0) (sym (map-append view done (value ∷ [])))

-- of several
pub places-several : (a at : ℕ) (all front : List declared.NetExpr) (last other : declared.NetExpr) (branches : List NetBranch) (is_empty : Bool)
    → all ≡ front ++ last ∷ [] → IsTrue is_empty ↔ (front ≡ []) → is_empty ≡ false → at ≡ first_at (map view all) → other ≡ last → map view_branch branches ≡ branches_by_place a 0 (map view front)
    → net_expr (n_if (branches_of (map view_branch branches)) (view other)) at ≡ by_places a (map view all)
places-several a at all [] last other branches is_empty is tests some first same made = absurd (grind (arith, tests, some))
places-several a at all (e ∷ es) last other branches is_empty is tests some first same made =
    let whole : map view all ≡ (view e ∷ map view es) ++ view last ∷ [] = ap (map view) is ∙ map-append view (e ∷ es) (last ∷ []) in
    (λ i. net_expr (n_if (branches_of (made i)) (view (same i))) ((first ∙ ap first_at whole) i))
    ∙ sym (ap (by_places a) whole ∙ places-split a (view e) (map view es) (view last))
