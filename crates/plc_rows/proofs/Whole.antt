-- The fault of a whole file is that of what is left from a row on.
use Rattle.std.proofs.Common.{◌≡◌, ◌<◌, ◌≤◌, ◌^◌, ℕ, suc, map, length, true, false, ℤ, List, [], ◌∷◌, ◌++◌, Option, Some, None, Result, Ok, Err, IfOk, IfErr, refl, sym, ap, subst, ◌∙◌, append_assoc}
use Rattle.std.specs.Prelude.{pos, replicate, if◌then◌else◌}
use Rattle.std.specs.Option.{option_or}
use Rattle.std.proofs.lemmas.Bool.{lt-ltb, le-ltb}
use Rattle.grammar.specs.Pieces.{Text}
use Rattle.plc_rows.specs.Rows.{RowFault, header, too_many_rows, case_boundary, most_rows, header_fault, ScanRule, row_number, case_number, boundary_fault, row_fault, rows_fault, file_fault, first_row_fault, first_case_fault, records_of, number_of_row, numbers_after, row_values, rows_after, RowsOf, CasesOf}
use Rattle.st_ast.specs.Interface.{inputs_of}
use Rattle.st_ast.specs.declared.tree.StVar.{StVar}
use Rattle.csv.specs.declared.reader.Reader.{Reader}
use Rattle.plc_rows.specs.Columns.{HeaderOf, line_fault, with_cells, scan_place, HasNumber}
use Rattle.plc_rows.specs.declared.header.Column.{Column}
use Rattle.plc_rows.proofs.RowLaws.{row_line, values_of_row, no_fault_long}
use Rattle.plc_rows.proofs.ScanColumn.{number_same}
use Rattle.plc_rows.proofs.Sizes.{header_few}
use Rattle.plc_rows.proofs.Remaining.{Source}
use Rattle.plc_rows.specs.Left.{Left, Next}
use Rattle.plc_rows.specs.Standing.{AreCut, AreWhole, Stands}
use Rattle.plc_rows.specs.Told.{IsFirst, IsFirstCase, Tells, cases_of, cells_of}
use Rattle.plc_rows.specs.declared.casing.Casing.{Casing}
use Rattle.plc_rows.specs.declared.row.Row.{Row}
use Rattle.plc_rows.specs.declared.row.Cases.{Cases}
use Rattle.plc_rows.specs.declared.error.RowErr.{RowErr}
use Rattle.plc_rows.specs.declared.error.RowErr.TheVariants as err

tells_first : (a b : Option RowFault) (e : RowErr) → Tells a e → Tells (option_or a b) e
tells_first a b (err.Header c) h = rw h refl
tells_first a b (err.Cell r c) h = rw h refl
tells_first a b (err.RowLength r) h = rw h refl
tells_first a b (err.TooManyRows n) h = rw h refl
tells_first a b (err.CaseBoundary r) h = rw h refl
tells_first a b err.Memory h = tt

nothing : (rs : List (List Text)) (fields : List Text) (after : Reader Source) → Next false fields after rs → rs ≡ []
unfolding Next
nothing [] fields after n = refl
nothing (r ∷ rs) fields after n = absurd n

something : (rs : List (List Text)) (fields : List Text) (after : Reader Source) → Next true fields after rs → (ss : List (List Text)) × (rs ≡ fields ∷ ss) × Left after ss
unfolding Next
something [] fields after n = absurd n
something (r ∷ rs) fields after n = (rs, ap (λ (f : List Text). f ∷ rs) (sym n.0), n.1)

pub on_ok : {A E : Type 0} (P Q : A → Type 0) (r : Result A E) → ((x : A) → P x → Q x) → IfOk r P → IfOk r Q
on_ok P Q (Ok x) f h = f x h
on_ok P Q (Err e) f h = tt

pub on_err : {A E : Type 0} (P Q : E → Type 0) (r : Result A E) → ((e : E) → P e → Q e) → IfErr r P → IfErr r Q
on_err P Q (Ok x) f h = tt
on_err P Q (Err e) f h = f e h

-- ---- the header

pub header_fits : (text : Text) (fields : List Text) (after : Reader Source) → length text ≤ 67108864 → Next true fields after (records_of text) → length fields < 2 ^ 31
header_fits text fields after l n = let s = something (records_of text) fields after n in header_few text fields s.0 s.1 l

module _ (scan : ScanRule) (vars : List StVar) (text : Text) (fields : List Text) (after : Reader Source) where
  pub no_record : Next false fields after (records_of text) → file_fault scan vars (records_of text) ≡ Some (header 1)
  no_record n = ap (file_fault scan vars) (nothing (records_of text) fields after n)

  pub wrong_header : Next true fields after (records_of text) → (e : RowErr) → Tells (header_fault vars fields) e → Tells (file_fault scan vars (records_of text)) e
  wrong_header n e h =
      let s = something (records_of text) fields after n in
      subst (λ rs. Tells (file_fault scan vars rs) e) (sym s.1) (tells_first (header_fault vars fields) (rows_fault scan vars fields 0 1 s.0) e h)

  pub right_header : Next true fields after (records_of text) → (cols : List Column) → HeaderOf vars fields cols → Stands scan vars cols text after 0 1 [] []
  unfolding Stands
  right_header n cols h =
      let s = something (records_of text) fields after n in
      (fields, s.0, h, s.2, ap (file_fault scan vars) s.1 ∙ ap (λ f. option_or f (rows_fault scan vars fields 0 1 s.0)) h.right, ap (rows_after vars) s.1, ap numbers_after s.1)

-- ---- a row

cells_more : (rows : List Row) (r : Row) → cells_of (rows ++ r ∷ []) ≡ cells_of rows ++ r.cells ∷ []
cells_more [] r = refl
cells_more (x ∷ rows) r = ap (λ l. x.cells ∷ l) (cells_more rows r)

all_nil : {A : Type 0} (done : List A) → done ++ [] ≡ done
all_nil [] = refl
all_nil (d ∷ done) = ap (λ l. d ∷ l) (all_nil done)

-- what a record is found to leave
record Opened (scan : ScanRule) (vars : List StVar) (cols : List Column) (text : Text) (after : Reader Source) (before k : ℕ) (done : List (List ℤ)) (numbers : List ℕ) (fields : List Text) : Type 0 where
  names : List Text
  rest : List (List Text)
  head : HeaderOf vars names cols
  left : Left after rest
  fault : file_fault scan vars (records_of text) ≡ rows_fault scan vars names before k (fields ∷ rest)
  rows : rows_after vars (records_of text) ≡ done ++ (row_values vars names fields ∷ map (row_values vars names) rest)
  numbered : numbers_after (records_of text) ≡ numbers ++ (number_of_row names fields ∷ map (number_of_row names) rest)

module _ (scan : ScanRule) (vars : List StVar) (cols : List Column) (text : Text) (reader after : Reader Source) (before k : ℕ) (done : List (List ℤ)) (numbers : List ℕ) (fields : List Text)
    (s : Stands scan vars cols text reader before k done numbers) where
  opened : ((rs : List (List Text)) → Left reader rs → Next true fields after rs) → Opened scan vars cols text after before k done numbers fields
  unfolding Stands
  opened n =
      let q = something s.1 fields after (n s.1 s.3) in
      record {
        names = s.0;
        rest = q.0;
        head = s.2;
        left = q.2;
        fault = s.4 ∙ ap (rows_fault scan vars s.0 before k) q.1;
        rows = s.5 ∙ ap (λ rs. done ++ map (row_values vars s.0) rs) q.1;
        numbered = s.6 ∙ ap (λ rs. numbers ++ map (number_of_row s.0) rs) q.1;
      }

  -- no record is left
  pub no_more : ((rs : List (List Text)) → Left reader rs → Next false fields after rs)
      → (file_fault scan vars (records_of text) ≡ None) × (done ≡ rows_after vars (records_of text)) × (numbers ≡ numbers_after (records_of text))
  unfolding Stands
  no_more n =
      let e = nothing s.1 fields after (n s.1 s.3) in (
        s.4 ∙ ap (rows_fault scan vars s.0 before k) e,
        sym (s.5 ∙ ap (λ rs. done ++ map (row_values vars s.0) rs) e ∙ all_nil done),
        sym (s.6 ∙ ap (λ rs. numbers ++ map (number_of_row s.0) rs) e ∙ all_nil numbers),
      )

  pub too_many : ((rs : List (List Text)) → Left reader rs → Next true fields after rs) → most_rows < k → file_fault scan vars (records_of text) ≡ Some (too_many_rows 100001)
  too_many n l =
      let q = opened n in
      q.fault ∙ ap (λ b. if b then Some (too_many_rows 100001) else option_or (row_fault scan vars q.names before k fields) (rows_fault scan vars q.names (number_of_row q.names fields) (suc k) q.rest)) (lt-ltb most_rows k l)

  looked_at : k ≤ most_rows → (names : List Text) (ss : List (List Text))
      → rows_fault scan vars names before k (fields ∷ ss) ≡ option_or (row_fault scan vars names before k fields) (rows_fault scan vars names (number_of_row names fields) (suc k) ss)
  looked_at l names ss =
      ap (λ b. if b then Some (too_many_rows 100001) else option_or (row_fault scan vars names before k fields) (rows_fault scan vars names (number_of_row names fields) (suc k) ss)) (le-ltb most_rows k l)

  told : (n : (rs : List (List Text)) → Left reader rs → Next true fields after rs) → k ≤ most_rows → (e : RowErr) → Tells (row_fault scan vars (opened n).names before k fields) e
      → Tells (file_fault scan vars (records_of text)) e
  told n l e h =
      let q = opened n in
      subst (λ f. Tells f e) (sym (q.fault ∙ looked_at l q.names q.rest))
      (tells_first (row_fault scan vars q.names before k fields) (rows_fault scan vars q.names (number_of_row q.names fields) (suc k) q.rest) e h)

  pub wrong_row : ((rs : List (List Text)) → Left reader rs → Next true fields after rs) → k ≤ most_rows → (e : RowErr) → Tells (line_fault scan cols k fields) e
      → Tells (file_fault scan vars (records_of text)) e
  wrong_row n l e h =
      let q = opened n in
      told n l e (subst (λ f. Tells f e) (sym (row_line scan vars q.names cols q.head.columns before k fields)) (tells_first (line_fault scan cols k fields) (boundary_fault scan before k q.names fields) e h))

  -- the number of the row may not come next
  pub wrong_number : ((rs : List (List Text)) → Left reader rs → Next true fields after rs) → k ≤ most_rows → line_fault scan cols k fields ≡ None
      → (number : ℕ) → HasNumber fields (scan_place cols) number → scan.follows before number ≡ false → file_fault scan vars (records_of text) ≡ Some (case_boundary k)
  wrong_number n l h number has fails =
      let q = opened n in
      let is : number_of_row q.names fields ≡ number = number_same vars q.names cols fields number q.head has in
      told n l (err.CaseBoundary k)
      (row_line scan vars q.names cols q.head.columns before k fields ∙ ap (λ f. option_or f (boundary_fault scan before k q.names fields)) h
      ∙ ap (λ b. if b then None else Some (case_boundary k)) (ap (scan.follows before) is ∙ fails))

  module _ (n : (rs : List (List Text)) → Left reader rs → Next true fields after rs) (l : k ≤ most_rows) (h : line_fault scan cols k fields ≡ None)
      (values : List ℤ) (many : ℕ) (few : many ≡ length (inputs_of vars)) (are : values ≡ with_cells cols fields (replicate many (pos 0))) where
    -- a row whose number may come next
    goes_on : (number : ℕ) → number_of_row (opened n).names fields ≡ number → scan.follows before number ≡ true
        → Stands scan vars cols text after number (suc k) (done ++ values ∷ []) (numbers ++ number ∷ [])
    unfolding Stands
    goes_on number is holds =
        let q = opened n in
        let bound : boundary_fault scan before k q.names fields ≡ None = ap (λ b. if b then None else Some (case_boundary k)) (ap (scan.follows before) is ∙ holds) in
        let none : row_fault scan vars q.names before k fields ≡ None =
        row_line scan vars q.names cols q.head.columns before k fields ∙ ap (λ f. option_or f (boundary_fault scan before k q.names fields)) h ∙ bound in
        let worth : values ≡ row_values vars q.names fields = are ∙ values_of_row vars q.names cols fields many q.head (no_fault_long scan cols k fields h) few in (
          q.names,
          q.rest,
          q.head,
          q.left,
          q.fault ∙ looked_at l q.names q.rest ∙ ap (λ f. option_or f (rows_fault scan vars q.names (number_of_row q.names fields) (suc k) q.rest)) none
              ∙ ap (λ m. rows_fault scan vars q.names m (suc k) q.rest) is,
          q.rows ∙ sym (ap (λ c. (done ++ c ∷ []) ++ map (row_values vars q.names) q.rest) worth ∙ append_assoc done (row_values vars q.names fields ∷ []) (map (row_values vars q.names) q.rest)),
          q.numbered ∙ sym (ap (λ c. (numbers ++ c ∷ []) ++ map (number_of_row q.names) q.rest) (sym is) ∙ append_assoc numbers (number_of_row q.names fields ∷ []) (map (number_of_row q.names) q.rest)),
        )

    pub next_row : (number : ℕ) → HasNumber fields (scan_place cols) number → scan.follows before number ≡ true
        → Stands scan vars cols text after number (suc k) (done ++ values ∷ []) (numbers ++ number ∷ [])
    next_row number has holds = goes_on number (number_same vars (opened n).names cols fields number (opened n).head has) holds

-- ---- rows files, whose rows may have any number in turn

abbrev pub RowsStand : List StVar → List Column → Text → Reader Source → ℕ → List Row → Type 0
RowsStand vars cols text reader k rows = (before : ℕ) × (numbers : List ℕ) × Stands row_number vars cols text reader before k (cells_of rows) numbers

module _ (vars : List StVar) (cols : List Column) (text : Text) (reader after : Reader Source) (k : ℕ) (rows : List Row) (fields : List Text) (s : RowsStand vars cols text reader k rows) where
  pub all_rows : ((rs : List (List Text)) → Left reader rs → Next false fields after rs) → RowsOf vars text (cells_of rows)
  unfolding RowsOf first_row_fault
  all_rows n = let q = no_more row_number vars cols text reader after s.0 k (cells_of rows) s.1 fields s.2 n in (q.0, q.1)

  pub too_many_in_file : ((rs : List (List Text)) → Left reader rs → Next true fields after rs) → most_rows < k → first_row_fault vars text ≡ Some (too_many_rows 100001)
  unfolding first_row_fault
  too_many_in_file n l = too_many row_number vars cols text reader after s.0 k (cells_of rows) s.1 fields s.2 n l

  pub wrong_row_in_file : ((rs : List (List Text)) → Left reader rs → Next true fields after rs) → k ≤ most_rows → (e : RowErr) → Tells (line_fault row_number cols k fields) e → IsFirst vars text e
  unfolding first_row_fault
  wrong_row_in_file n l e h = wrong_row row_number vars cols text reader after s.0 k (cells_of rows) s.1 fields s.2 n l e h

  pub right_row : ((rs : List (List Text)) → Left reader rs → Next true fields after rs) → k ≤ most_rows → line_fault row_number cols k fields ≡ None
      → (r : Row) (n : ℕ) → n ≡ length (inputs_of vars) → r.cells ≡ with_cells cols fields (replicate n (pos 0)) → RowsStand vars cols text after (suc k) (rows ++ r ∷ [])
  right_row n l h r m few e =
      let head = opened row_number vars cols text reader after s.0 k (cells_of rows) s.1 fields s.2 n in
      let number = number_of_row head.names fields in (
        number,
        s.1 ++ number ∷ [],
        subst (λ done. Stands row_number vars cols text after number (suc k) done (s.1 ++ number ∷ [])) (sym (cells_more rows r))
            (goes_on row_number vars cols text reader after s.0 k (cells_of rows) s.1 fields s.2 n l h r.cells m few e number refl refl),
      )

-- ---- cases files

abbrev pub CasesStand : List StVar → List Column → Text → Reader Source → ℕ → Casing → Type 0
CasesStand vars cols text reader k cases = (rows : List (List ℤ)) × (numbers : List ℕ) × AreCut rows numbers cases
    × Stands case_number vars cols text reader (length cases.last) k rows numbers

module _ (vars : List StVar) (cols : List Column) (text : Text) (reader after : Reader Source) (k : ℕ) (cases : Casing) (fields : List Text)
    (s : CasesStand vars cols text reader k cases) where
  -- no row is left
  pub cases_read : ((rs : List (List Text)) → Left reader rs → Next false fields after rs) → (whole : Cases)
      → ((rows : List (List ℤ)) (numbers : List ℕ) → AreCut rows numbers cases → AreWhole rows numbers whole) → CasesOf vars text (cases_of whole.cases)
  unfolding first_case_fault
  cases_read n whole cut =
      let q = no_more case_number vars cols text reader after (length cases.last) k s.0 s.1 fields s.3 n in
      let w = cut s.0 s.1 s.2 in
      record { right = q.0; rows = w.rows_are ∙ q.1; numbers = w.numbers_are ∙ q.2; full = w.full }

  pub too_many_in_cases : ((rs : List (List Text)) → Left reader rs → Next true fields after rs) → most_rows < k → first_case_fault vars text ≡ Some (too_many_rows 100001)
  unfolding first_case_fault
  too_many_in_cases n l = too_many case_number vars cols text reader after (length cases.last) k s.0 s.1 fields s.3 n l

  pub wrong_row_in_cases : ((rs : List (List Text)) → Left reader rs → Next true fields after rs) → k ≤ most_rows → (e : RowErr) → Tells (line_fault case_number cols k fields) e
      → IsFirstCase vars text e
  unfolding first_case_fault
  wrong_row_in_cases n l e h = wrong_row case_number vars cols text reader after (length cases.last) k s.0 s.1 fields s.3 n l e h

  pub wrong_number_in_cases : ((rs : List (List Text)) → Left reader rs → Next true fields after rs) → k ≤ most_rows → line_fault case_number cols k fields ≡ None
      → (number : ℕ) → HasNumber fields (scan_place cols) number → case_number.follows (length cases.last) number ≡ false → first_case_fault vars text ≡ Some (case_boundary k)
  unfolding first_case_fault
  wrong_number_in_cases n l h number has fails = wrong_number case_number vars cols text reader after (length cases.last) k s.0 s.1 fields s.3 n l h number has fails

  pub next_in_cases : ((rs : List (List Text)) → Left reader rs → Next true fields after rs) → k ≤ most_rows → line_fault case_number cols k fields ≡ None
      → (r : Row) (many : ℕ) → many ≡ length (inputs_of vars) → r.cells ≡ with_cells cols fields (replicate many (pos 0))
      → (number : ℕ) → HasNumber fields (scan_place cols) number → case_number.follows (length cases.last) number ≡ true
      → (next : Casing) → ((rows : List (List ℤ)) (numbers : List ℕ) → AreCut rows numbers cases → AreCut (rows ++ r.cells ∷ []) (numbers ++ number ∷ []) next) → length next.last ≡ number
      → CasesStand vars cols text after (suc k) next
  next_in_cases n l h r many few are number has holds next cut last = (
    s.0 ++ r.cells ∷ [],
    s.1 ++ number ∷ [],
    cut s.0 s.1 s.2,
    subst (λ before. Stands case_number vars cols text after before (suc k) (s.0 ++ r.cells ∷ []) (s.1 ++ number ∷ [])) (sym last)
        (next_row case_number vars cols text reader after (length cases.last) k s.0 s.1 fields s.3 n l h r.cells many few are number has holds),
  )

pub first_case : (vars : List StVar) (text : Text) (e : RowErr) → Tells (file_fault case_number vars (records_of text)) e → IsFirstCase vars text e
unfolding first_case_fault
first_case vars text e h = h

pub first_row : (vars : List StVar) (text : Text) (e : RowErr) → Tells (file_fault row_number vars (records_of text)) e → IsFirst vars text e
unfolding first_row_fault
first_row vars text e h = h
