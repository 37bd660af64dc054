-- A list of made parts, one after another.
use Rattle.std.proofs.Common.{◌≡◌, ℕ, ◌≤◌, List, [], ◌∷◌, ◌++◌, map, length, drop, append-nil, refl, ap, sym, ◌∙◌}
use Rattle.std.proofs.lemmas.List.{drop_all}
use Rattle.st_check.specs.PlacedTree as to
use Rattle.st_check.specs.PlacedTests.{expr_of, exprs_of}
use Rattle.st_check.specs.PlacedView.{test_view, tests_view}
use Rattle.st_check.specs.declared.placed.PlacedTest.{PlacedTest}

-- at the end of a list nothing is left to make
pub finished : {A B C : Type 0} (f : A → B) (g : C → B) (found : List A) (all : List C) (i : ℕ) → length all ≤ i → map f found ++ map g (drop i all) ≡ map g all → map f found ≡ map g all
finished f g found all i h is =
    sym (append-nil (map f found)) ∙ sym (ap (λ r. map f found ++ map g r) (drop_all i all h)) ∙ is

abbrev pub test_expr : PlacedTest → to.Expr
test_expr t = expr_of (test_view t)

pub each-test : (ts : List PlacedTest) → exprs_of (tests_view ts) ≡ map test_expr ts
each-test [] = refl
each-test (t ∷ ts) = ap (λ es. test_expr t ∷ es) (each-test ts)
