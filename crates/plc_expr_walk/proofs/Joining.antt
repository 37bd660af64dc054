-- Lists that are built at their ends, as the plain data of trees.
use Rattle.std.proofs.Common.{◌≡◌, ℕ, ◌+◌, ◌<◌, ◌↔◌, IsTrue, Bool, false, List, [], ◌∷◌, ◌++◌, length, get_or, drop, Some, refl, sym, ap, ◌∙◌}
use Rattle.std.proofs.lemmas.List.{drop_more}
use Rattle.grammar.specs.Pieces.{Text}
use Rattle.plc_expr.specs.Texts.{case_text}
use Rattle.st_ast.specs.Tree.{Expr, Terms, no_terms, terms, Factors, no_factors, factors, Stms, no_stms, stms, append, Branches, no_branches, branches, assign, choice, other}
use Rattle.st_ast.specs.View.{terms_of, factors_of, branches_of, view_branches, view_stmt, view_stmts}
use Rattle.st_ast.specs.declared.tree.StBranch.{StBranch}
use Rattle.st_ast.specs.declared.tree.StMul.{StMul}
use Rattle.st_ast.specs.declared.tree.Stmt.{Stmt}
use Rattle.st_ast.specs.declared.tree.Stmt.TheFolds as folds
use Rattle.st_ast.specs.declared.tree.Stmt.TheVariants as statement

pub drop-item : {A : Type 0} (xs : List A) (i : ℕ) (x : A) → i < length xs → x ≡ get_or xs i x → drop i xs ≡ x ∷ drop (i + 1) xs
drop-item xs i x within item = drop_more xs i x within ∙ ap (λ y. y ∷ drop (i + 1) xs) (sym item)

-- ---- statements

-- two lists of statements one after the other are so as plain data
pub view_append : (a b : List Stmt) → view_stmts (a ++ b) ≡ append (view_stmts a) (view_stmts b)
view_append [] b = refl
view_append (s ∷ a) b = ap (stms (view_stmt s)) (view_append a b)

-- in whatever order three lists are put together
pub append-assoc : (a b c : Stms) → append (append a b) c ≡ append a (append b c)
append-assoc no_stms b c = refl
append-assoc (stms s a) b c = ap (stms s) (append-assoc a b c)

-- no statement adds nothing
pub append-none : (a : Stms) → append a no_stms ≡ a
append-none no_stms = refl
append-none (stms s a) = ap (stms s) (append-none a)

pub ruleset statements = (view_append, append-assoc, append-none)

-- the first statements of what is left go to what is done
pub moved : (old new some rest whole : Stms) → new ≡ append old some → whole ≡ append some rest → append new rest ≡ append old whole
moved old new some rest whole is all = ap (λ ss. append ss rest) is ∙ append-assoc old some rest ∙ ap (append old) (sym all)

-- ---- operands and branches

-- these, and then others
abbrev pub terms_then : List (Bool × Expr) → Terms → Terms
terms_then [] rest = rest
terms_then (t ∷ ts) rest = terms t.0 t.1 (terms_then ts rest)

abbrev pub factors_then : List (StMul × Expr) → Factors → Factors
factors_then [] rest = rest
factors_then (f ∷ fs) rest = factors f.0 f.1 (factors_then fs rest)

abbrev pub branches_then : List (Expr × Stms) → Branches → Branches
branches_then [] rest = rest
branches_then (b ∷ bs) rest = branches b.0 b.1 (branches_then bs rest)

pub terms-more : (ts : List (Bool × Expr)) (t : Bool × Expr) (rest : Terms) → terms_then (ts ++ t ∷ []) rest ≡ terms_then ts (terms t.0 t.1 rest)
terms-more [] t rest = refl
terms-more (u ∷ ts) t rest = ap (terms u.0 u.1) (terms-more ts t rest)

pub factors-more : (fs : List (StMul × Expr)) (f : StMul × Expr) (rest : Factors) → factors_then (fs ++ f ∷ []) rest ≡ factors_then fs (factors f.0 f.1 rest)
factors-more [] f rest = refl
factors-more (g ∷ fs) f rest = ap (factors g.0 g.1) (factors-more fs f rest)

pub branches-more : (bs : List (Expr × Stms)) (b : Expr × Stms) (rest : Branches) → branches_then (bs ++ b ∷ []) rest ≡ branches_then bs (branches b.0 b.1 rest)
branches-more [] b rest = refl
branches-more (c ∷ bs) b rest = ap (branches c.0 c.1) (branches-more bs b rest)

pub terms-end : (ts : List (Bool × Expr)) → terms_then ts no_terms ≡ terms_of ts
terms-end [] = refl
terms-end (t ∷ ts) = ap (terms t.0 t.1) (terms-end ts)

pub factors-end : (fs : List (StMul × Expr)) → factors_then fs no_factors ≡ factors_of fs
factors-end [] = refl
factors-end (f ∷ fs) = ap (factors f.0 f.1) (factors-end fs)

pub branches-end : (bs : List (Expr × Stms)) → branches_then bs no_branches ≡ branches_of bs
branches-end [] = refl
branches-end (b ∷ bs) = ap (branches b.0 b.1) (branches-end bs)

-- ---- IF statements

pub view_if : (bs : List StBranch) (ss : List Stmt) → view_stmt (statement.If bs (Some ss)) ≡ choice (view_branches bs) (other (view_stmts ss))
view_if bs ss = search (folds.the_lemmas)

pub case-made : (bs : List StBranch) (b : Bool) (x : Text) (e : Expr) (ss : Stms) → (IsTrue b ↔ (bs ≡ [])) → b ≡ false → ss ≡ stms (assign x e) no_stms
    → choice (view_branches bs) (other ss) ≡ case_text x (view_branches bs) e
case-made [] b x e ss h off is = let t : IsTrue b = h.1 refl in absurd cc
case-made (c ∷ bs) b x e ss h off is = ap (λ ts. choice (view_branches (c ∷ bs)) (other ts)) is
