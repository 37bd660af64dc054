-- The row of the file of a row of a case, and its bounds.
use Rattle.std.proofs.Common.{◌≡◌, ℕ, zero, suc, ◌+◌, ◌<◌, ◌≤◌, List, [], ◌∷◌, length, get_or, add-one, refl, ap, ◌∙◌, arith}
use Rattle.std.specs.Prelude.{All, flat_map, take}
use Rattle.std.proofs.lemmas.Grind.{flat_map-append}
use Rattle.std.proofs.lemmas.List.{length-append, length-map}
use Rattle.st_ast.specs.Tree.{Program}
use Rattle.st_ast.specs.Values.{Memory}
use Rattle.st_ast.specs.Exec.{Outcome}
use Rattle.plc_rows.specs.Told.{cases_of, cells_of}
use Rattle.plc_rows.specs.declared.row.Row.{Row}
use Rattle.plc_rows.specs.declared.row.Rows.{Rows}
use Rattle.plc_tables.specs.Scans.{ComesTo}
use Rattle.cif_batch.specs.CaseTexts.{Case, FirstStopped}

-- all rows of cases
abbrev pub flat : List Case → Case
flat = flat_map (λ (c : Case). c)

case_length : (c : Rows) → length (cells_of c.rows) ≡ length c.rows
case_length c = length-map c.rows (λ (r : Row). r.cells)

-- ---- the rows of the first cases

rows_more : (cases : List Rows) (k : ℕ) (d : Rows) → k < length cases → length (flat (cases_of (take (suc k) cases))) ≡ length (flat (cases_of (take k cases))) + length (get_or cases k d).rows
rows_more [] k d h = absurd (omega (arith, h))
rows_more (x ∷ cases) zero d h = let e = case_length x in let l = length-append (cells_of x.rows) [] in omega (arith, e, l)
rows_more (x ∷ cases) (suc k) d h =
    let rest = rows_more cases k d (omega (arith, h)) in
    let a = length-append (cells_of x.rows) (flat (cases_of (take (suc k) cases))) in
    let b = length-append (cells_of x.rows) (flat (cases_of (take k cases))) in
    omega (arith, rest, a, b)

-- those of one more case
pub rows_next : (cases : List Rows) (k : ℕ) (d : Rows) → k < length cases → length (flat (cases_of (take (k + 1) cases))) ≡ length (flat (cases_of (take k cases))) + length (get_or cases k d).rows
rows_next cases k d h = ap (λ n. length (flat (cases_of (take n cases)))) (add-one k) ∙ rows_more cases k d h

-- no more than all
pub rows_within : (cases : List Rows) (k : ℕ) → length (flat (cases_of (take k cases))) ≤ length (flat (cases_of cases))
rows_within [] zero = omega arith
rows_within [] (suc k) = omega arith
rows_within (x ∷ cases) zero = omega arith
rows_within (x ∷ cases) (suc k) =
    let rest = rows_within cases k in
    let a = length-append (cells_of x.rows) (flat (cases_of (take k cases))) in
    let b = length-append (cells_of x.rows) (flat (cases_of cases)) in
    omega (arith, rest, a, b)

-- of each case alone
pub each_within : (most : ℕ) (cases : List Rows) → length (flat (cases_of cases)) < most → All (λ (c : Rows). length c.rows < most) cases
each_within most [] h k d w = absurd (omega (arith, w))
each_within most (x ∷ cases) h zero d w = let e = case_length x in let a = length-append (cells_of x.rows) (flat (cases_of cases)) in omega (arith, h, e, a)
each_within most (x ∷ cases) h (suc k) d w = let a = length-append (cells_of x.rows) (flat (cases_of cases)) in each_within most cases (omega (arith, h, a)) k d (omega (arith, w))

pub values_of_first : (cases : List Rows) (n : ℕ) → cases_of (take n cases) ≡ take n (cases_of cases)
values_of_first [] zero = refl
values_of_first [] (suc n) = refl
values_of_first (x ∷ cases) zero = refl
values_of_first (x ∷ cases) (suc n) = ap (λ l. cells_of x.rows ∷ l) (values_of_first cases n)

-- ---- a case that stops

comes_within : (p : Program) (m : Memory) (rows : Case) (k : ℕ) (o : Outcome) → ComesTo p m rows k o → k ≤ length rows
comes_within p m [] k o h = absurd h
comes_within p m (r ∷ rows) zero o h = absurd h
comes_within p m (r ∷ rows) (suc zero) o h = omega arith
comes_within p m (r ∷ rows) (suc (suc k)) o h = let rest = comes_within p h.1 rows (suc k) o h.3 in omega (arith, rest)

pub stopped_within : (p : Program) (cases : List Rows) (number row : ℕ) (o : Outcome) → FirstStopped p (cases_of cases) number row o
    → (0 < number) × (number ≤ length cases) × (row ≤ length (flat (cases_of cases)))
stopped_within p cases number row o f =
    let n = f.number_is in
    let all = length-map cases (λ (r : Rows). cells_of r.rows) in
    let some = ap length f.split ∙ length-append f.before (f.case ∷ f.after) in
    let rows = ap (λ cs. length (flat cs)) f.split ∙ ap length (flat_map-append (λ (c : Case). c) f.before (f.case ∷ f.after)) ∙ length-append (flat f.before) (flat (f.case ∷ f.after)) in
    let own = length-append f.case (flat f.after) in
    let within = comes_within p _ f.case row o f.comes in
    (omega (arith, n), omega (arith, n, all, some), omega (arith, rows, own, within))
