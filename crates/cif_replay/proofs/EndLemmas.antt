-- How the parts of a replay end it.
use Rattle.std.proofs.Common.{◌≡◌, ◌≤◌, ℤ, List, length, Result, Ok, Err, IfOk, IfErr, sym, subst, arith}
use Rattle.std.proofs.lemmas.List.{length-map}
use Rattle.grammar.specs.Pieces.{Text}
use Rattle.st_ast.specs.Tree.{Program}
use Rattle.st_ast.specs.declared.tree.StVar.{StVar}
use Rattle.plc_rows.specs.Rows.{RowsOf}
use Rattle.plc_rows.proofs.InRange.{rows_few}
use Rattle.plc_rows.specs.Told as told
use Rattle.plc_rows.specs.declared.row.Row.{Row}
use Rattle.plc_rows.specs.declared.error.RowErr.{RowErr}
use Rattle.plc_rows.specs.declared.error.RowErr.TheVariants as row
use Rattle.cif_run.specs.declared.status.Status.{Status}
use Rattle.cif_run.specs.declared.status.Status.TheVariants as status
use Rattle.cif_run.specs.declared.ended.Ended.{Ended}
use Rattle.cif_replay.specs.Refusals.{row_status_of}
use Rattle.cif_replay.specs.Replaying.{AllEnd, IsTableOf, table_of}
use Rattle.cif_replay.specs.Ends.{ScanEnds}
use Rattle.cif_replay.specs.Replays.{RowsEnds}

-- ---- rows

-- rows that break no rule are few
pub few_rows : (vars : List StVar) (text : Text) (rows slice : List Row) → RowsOf vars text (told.cells_of rows) → slice ≡ rows → length slice ≤ 100000
few_rows vars text rows slice of is =
    let few = rows_few vars text (told.cells_of rows) of in
    let same = length-map rows (λ (r : Row). r.cells) in
    rw is (omega (arith, few, same))

pub row_ends : (p : Program) (text : Text) (e : RowErr) (s : Status) → told.IsFirst p.vars text e → s ≡ row_status_of e → RowsEnds p text s
row_ends p text (row.Header c) s h e = subst (RowsEnds p text) (sym e) (λ q. cc, h)
row_ends p text (row.Cell r c) s h e = subst (RowsEnds p text) (sym e) (λ q. cc, h)
row_ends p text (row.RowLength r) s h e = subst (RowsEnds p text) (sym e) (λ q. cc, h)
row_ends p text (row.TooManyRows n) s h e = subst (RowsEnds p text) (sym e) (λ q. cc, h)
row_ends p text (row.CaseBoundary r) s h e = subst (RowsEnds p text) (sym e) (λ q. cc, h)
row_ends p text row.Memory s h e = subst (RowsEnds p text) (sym e) tt

ends_of : (p : Program) (text : Text) (rs : List (List ℤ)) → RowsOf p.vars text rs → (s : Status) → ScanEnds p rs s → RowsEnds p text s
ends_of p text rs of (status.ScanFault k e) h = (h.0, (rs, of, h.1))
ends_of p text rs of (status.Budget k) h = (rs, of, h)
ends_of p text rs of status.Memory h = tt
ends_of p text rs of _ h = absurd h

pub scan_ends : {A : Type 0} (p : Program) (text : Text) (rows slice : List Row) (r : Result A Ended) → RowsOf p.vars text (told.cells_of rows) → slice ≡ rows
    → IfErr r (λ e. ScanEnds p (told.cells_of slice) e.status) → IfErr r (λ e. RowsEnds p text e.status)
scan_ends p text rows slice (Ok x) of is h = tt
scan_ends p text rows slice (Err e) of is h = ends_of p text (told.cells_of rows) of e.status (subst (λ (l : List Row). ScanEnds p (told.cells_of l) e.status) is h)

pub is_table : {A E : Type 0} (bytes : A → Text) (p : Program) (text : Text) (rows slice : List Row) (r : Result A E) → RowsOf p.vars text (told.cells_of rows) → slice ≡ rows
    → IfOk r (λ t. AllEnd p (told.cells_of slice)) → IfOk r (λ t. bytes t ≡ table_of p (told.cells_of slice)) → IfOk r (λ t. IsTableOf p text (bytes t))
is_table bytes p text rows slice (Ok t) of is all eq =
    (told.cells_of rows, of, subst (λ (l : List Row). AllEnd p (told.cells_of l)) is all, subst (λ (l : List Row). bytes t ≡ table_of p (told.cells_of l)) is eq)
is_table bytes p text rows slice (Err e) of is all eq = tt
