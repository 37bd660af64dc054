-- What a replay comes to is one thing: its answers exclude one another.
use Rattle.std.proofs.Common.{◌≡◌, ℕ, ◌<◌, ◌≤◌, ◌^◌, ℤ, List, [], length, Option, Some, None, Result, Ok, Err, IfOk, IfErr, refl, sym, ap, subst, ◌∙◌, arith}
use Rattle.grammar.specs.Pieces.{Text}
use Rattle.st_ast.specs.Tree.{Program}
use Rattle.st_ast.specs.Checks.{CheckFault, check_faults, stms_count}
use Rattle.st_ast.specs.View.{view, view_stmts}
use Rattle.st_ast.specs.declared.tree.Program as rust
use Rattle.st_read.proofs.Programs.{program_small}
use Rattle.cif_replay.specs.Told.{variable_of_check}
use Rattle.st_ast.specs.ReadsAs.{ReadsAsProgram, Derives}
use Rattle.st_read.proofs.RefusalLaws.{refused_derives_none}
use Rattle.st_read.proofs.Whole.{one_derives}
use Rattle.st_check.specs.Told.{first, IsFirst}
use Rattle.st_check.specs.declared.error.StCheckErr.{StCheckErr}
use Rattle.st_check.specs.declared.error.StCheckErr.TheVariants as check
use Rattle.plc_rows.specs.Rows.{RowFault, header, cell, row_length, too_many_rows, case_boundary, first_row_fault, RowsOf}
use Rattle.plc_rows.specs.Told.{Tells}
use Rattle.plc_rows.specs.declared.error.RowErr.{RowErr}
use Rattle.plc_rows.specs.declared.error.RowErr.TheVariants as row
use Rattle.cif_run.specs.declared.status.StRefusal.{StRefusal}
use Rattle.cif_run.specs.declared.status.StRefusal.TheVariants as refusal
use Rattle.cif_replay.specs.Replaying.{IsStRefused, IsRowRefused, name_at}

-- ---- programs

some_first : (faults : List CheckFault) (f : CheckFault) → faults ≡ [] → first faults ≡ Some f → ⊥
some_first faults f e g = let h : first faults ≡ None = ap first e in absurd cc

broken : (p : Program) (e : StCheckErr) → (e ≡ check.Memory → ⊥) → IsFirst e (check_faults p) → check_faults p ≡ [] → ⊥
broken p (check.StUnknown k) other f none = some_first (check_faults p) _ none f
broken p (check.StDuplicate k) other f none = some_first (check_faults p) _ none f
broken p (check.StMismatch k) other f none = some_first (check_faults p) _ none f
broken p (check.StNotAssignable k) other f none = some_first (check_faults p) _ none f
broken p (check.StInitRange k) other f none = some_first (check_faults p) _ none f
broken p check.Memory other f none = other refl

-- a text that is refused reads as no program
pub refused_reads_none : (text : Text) (why : StRefusal) → IsStRefused text why → (p : Program) → ReadsAsProgram text p → ⊥
refused_reads_none text (refusal.Text e) h p reads = refused_derives_none text e h.1 h.0 p reads.derives
refused_reads_none text (refusal.Check e) h p reads =
    let same = one_derives text h.1.0 p h.1.1 reads.derives in
    broken p e h.0 (subst (λ (q : Program). IsFirst e (check_faults q)) same h.1.2) reads.checked

-- what is known of a program that is read and checked
pub few_variables : (text : Text) (q : rust.Program) → Derives text (view q) → length text ≤ 16777216 → length q.vars < 2 ^ 32
few_variables text q d h = let k = (program_small text (view q) d).0 in omega (arith, h, k)

pub few_statements : (text : Text) (q : rust.Program) → Derives text (view q) → length text ≤ 16777216 → stms_count (view_stmts q.body) < 2 ^ 32
few_statements text q d h = let k = (program_small text (view q) d).1 in omega (arith, h, k)

pub reads_checked : (text : Text) (q c : rust.Program) → Derives text (view q) → c ≡ q → check_faults (view q) ≡ [] → ReadsAsProgram text (view c)
reads_checked text q c d e f = subst (λ (x : rust.Program). ReadsAsProgram text (view x)) (sym e) (record { derives = d; checked = f })

-- the name of a variable in the program of a text
pub named_in : (text : Text) (q : rust.Program) (e : StCheckErr) (number : ℕ) (name : Text) → variable_of_check e ≡ Some number → Derives text (view q) → name ≡ name_at q.vars number
    → (p : Program) (k : ℕ) → Derives text p → variable_of_check e ≡ Some k → name ≡ name_at p.vars k
named_in text q e number name is d n p k dp there =
    let one = one_derives text (view q) p d dp in
    let same : number ≡ k = cc in
    n ∙ ap (λ j. name_at q.vars j) same ∙ ap (λ (x : Program). name_at x.vars k) one

pub on_ok : {A E : Type 0} (P Q : A → Type 0) (r : Result A E) → ((x : A) → P x → Q x) → IfOk r P → IfOk r Q
on_ok P Q (Ok x) f h = f x h
on_ok P Q (Err e) f h = tt

pub on_err : {A E : Type 0} (P Q : E → Type 0) (r : Result A E) → ((e : E) → P e → Q e) → IfErr r P → IfErr r Q
on_err P Q (Ok x) f h = tt
on_err P Q (Err e) f h = f e h

-- ---- rows

abbrev error_of : RowFault → RowErr
error_of (header c) = row.Header c
error_of (cell r c) = row.Cell r c
error_of (row_length r) = row.RowLength r
error_of (too_many_rows n) = row.TooManyRows n
error_of (case_boundary r) = row.CaseBoundary r

-- what an error tells that is no want of memory
pub fault_told : (fault : Option RowFault) (e : RowErr) → (e ≡ row.Memory → ⊥) × Tells fault e → (f : RowFault) × (fault ≡ Some f) × (e ≡ error_of f)
fault_told fault (row.Header c) h = (header c, h.1, refl)
fault_told fault (row.Cell r c) h = (cell r c, h.1, refl)
fault_told fault (row.RowLength r) h = (row_length r, h.1, refl)
fault_told fault (row.TooManyRows n) h = (too_many_rows n, h.1, refl)
fault_told fault (row.CaseBoundary r) h = (case_boundary r, h.1, refl)
fault_told fault row.Memory h = absurd (h.0 refl)

-- one rule is the first that is broken
pub one_error : (fault : Option RowFault) (a b : RowErr) → (a ≡ row.Memory → ⊥) × Tells fault a → (b ≡ row.Memory → ⊥) × Tells fault b → a ≡ b
one_error fault a b h g =
    let x = fault_told fault a h in
    let y = fault_told fault b g in
    let same : x.0 ≡ y.0 = cc in
    x.2 ∙ ap error_of same ∙ sym y.2

pub one_row_error : (p : Program) (text : Text) (a b : RowErr) → IsRowRefused p text a → IsRowRefused p text b → a ≡ b
one_row_error p text a b h g = one_error (first_row_fault p.vars text) a b h g

-- rows break no rule
pub rows_not_refused : (p : Program) (text : Text) (rs : List (List ℤ)) (e : RowErr) → RowsOf p.vars text rs → IsRowRefused p text e → ⊥
unfolding RowsOf
rows_not_refused p text rs e of h = let x = fault_told (first_row_fault p.vars text) e h in let none = of.0 in absurd cc

pub one_rows : (p : Program) (text : Text) (a b : List (List ℤ)) → RowsOf p.vars text a → RowsOf p.vars text b → a ≡ b
unfolding RowsOf
one_rows p text a b h g = h.1 ∙ sym g.1
