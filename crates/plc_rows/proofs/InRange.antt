-- Rows that break no rule of a program are rows in range for it, and few.
use Rattle.std.proofs.Common.{◌≡◌, ◌≤◌, ◌<◌, ℕ, zero, suc, ◌+◌, ℤ, pos, Bool, true, false, ◌||◌, ◌&&◌, List, [], ◌∷◌, ◌++◌, map, length, Option, Some, None, refl, sym, ap, subst, ◌∙◌, arith}
use Rattle.std.specs.Prelude.{IsTrue, slice_get, slice_set, nat_eq, nat_lt, replicate, is_some, unwrap_or, if◌then◌else◌}
use Rattle.std.specs.List.{AllZip}
use Rattle.std.specs.Option.{option_or}
use Rattle.std.proofs.lemmas.Bool.{false≢true}
use Rattle.std.proofs.lemmas.Bool.Decides.{nat_tests}
use Rattle.std.proofs.lemmas.List.{length-append, length-map}
use Rattle.std.proofs.lemmas.Option.{slice_get_within}
use Rattle.grammar.specs.Pieces.{Text, same}
use Rattle.grammar.proofs.Texts.{same_equal, same_flip}
use Rattle.csv.specs.Records.{field_at}
use Rattle.st_ast.specs.declared.tree.StVar.{StVar}
use Rattle.st_ast.specs.declared.tree.StTy.{StTy}
use Rattle.st_ast.specs.declared.tree.StTy.TheVariants as ty
use Rattle.plc_rows.specs.Rows.{RowFault, cell, row_length, too_many_rows, most_rows, has_text, header_fault, truth_cell, number_in, number_cell, cell_value, ScanRule, row_number, number_of_row, cell_stands, cells_fault, boundary_fault, row_fault, rows_fault, file_fault, records_of, first_row_fault, cell_under, row_values, rows_after, RowsOf, IsRowFor, AreRowsFor}
use Rattle.st_ast.specs.Interface.{inputs_of, is_of_type}
use Rattle.plc_rows.specs.Columns.{place, column_of, HeaderOf}
use Rattle.plc_rows.specs.declared.header.Column.{Column}
use Rattle.plc_rows.specs.declared.header.Column.TheVariants as column
use Rattle.plc_rows.proofs.ColumnLaws.{covered}
use Rattle.plc_rows.proofs.HeaderLaws.{Reading, starts, unwanted, within, repeated, goes_on, missing, whole}
use Rattle.plc_rows.proofs.Remaining.{none_some}
use Rattle.plc_rows.proofs.RowLaws.{stands_same, kept, worth, past, field_within}

-- ---- a header that breaks no rule has columns

module _ (vars : List StVar) (names : List Text) (right : header_fault vars names ≡ None) where
  abbrev Found : Type 0
  Found = (cols : List Column) × HeaderOf vars names cols

  -- the header is read up to here: it ends, or goes on with one more column
  one_more : (n : ℕ) (cols : List Column) (seen : List Bool) → Reading vars names cols seen → length names ≤ n + length cols
      → ((m : ℕ) → suc m ≡ n → (c : Column) (marks : List Bool) → Reading vars names (cols ++ c ∷ []) marks → length names ≤ m + length (cols ++ c ∷ []) → Found) → Found
  one_more n cols seen r more again = go (field_at names (length cols)) refl
    where
      ended : field_at names (length cols) ≡ None → Found
      ended e = at_end (nat_lt (length cols) (suc (length (inputs_of vars)))) refl
        where
          at_end : (b : Bool) → nat_lt (length cols) (suc (length (inputs_of vars))) ≡ b → Found
          at_end true l = none_some (sym (sym (missing vars names cols seen r e (grind (arith, nat_tests))) ∙ right))
          at_end false l = (cols, whole vars names cols seen r e (grind (arith, nat_tests)))

      with_field : (f : Text) → field_at names (length cols) ≡ Some f → (m : ℕ) → m ≡ n → Found
      with_field f e zero z = absurd (let l = field_within names (length cols) f e in omega (arith, l))
      with_field f e (suc m) z = with_column (column_of vars f) refl
        where
          with_column : (c : Option Column) → column_of vars f ≡ c → Found
          with_column None h = none_some (sym (sym (unwanted vars names cols seen r f e h) ∙ right))
          with_column (Some c) h = marked (slice_get seen (place c)) refl
            where
              marked : (b : Option Bool) → slice_get seen (place c) ≡ b → Found
              marked None g = absurd (let l = within vars names cols seen r f e c h in let m = past seen (place c) g in omega (arith, l, m))
              marked (Some true) g = none_some (sym (sym (repeated vars names cols seen r f e c h g) ∙ right))
              marked (Some false) g = again m z c (slice_set seen (place c) true) (goes_on vars names cols seen r f e c h (slice_set seen (place c) true) g refl)
                  (omega (arith, more, z, length-append cols (c ∷ [])))

      go : (f : Option Text) → field_at names (length cols) ≡ f → Found
      go None e = ended e
      go (Some f) e = with_field f e n refl

  of_header : (n : ℕ) (cols : List Column) (seen : List Bool) → Reading vars names cols seen → length names ≤ n + length cols → Found
  of_header zero cols seen r more = one_more zero cols seen r more (λ m z c marks next rest. absurd (omega (arith, z)))
  of_header (suc n) cols seen r more =
      one_more (suc n) cols seen r more (λ m z c marks next rest. of_header n (cols ++ c ∷ []) marks next (omega (arith, z, rest)))

  pub columns_of_header : Found
  columns_of_header =
      of_header (length names) [] (replicate (suc (length (inputs_of vars))) false)
      (starts vars names (replicate (suc (length (inputs_of vars))) false) (suc (length (inputs_of vars))) refl refl) (omega arith)

-- ---- a cell that keeps the rule of its column has a value of its type

truth_typed : (t : Text) → is_some (truth_cell t) ≡ true → is_of_type ty.Bool (unwrap_or (truth_cell t) (pos 0)) ≡ true
truth_typed t e = go _ _ e
  where
    go : (a b : Bool) → is_some (if a then Some (pos 1) else (if b then Some (pos 0) else None)) ≡ true
        → is_of_type ty.Bool (unwrap_or (if a then Some (pos 1) else (if b then Some (pos 0) else None)) (pos 0)) ≡ true
    go true b e = refl
    go false true e = refl
    go false false e = absurd (false≢true e)

number_typed : (test : ℤ → Bool) (t : Text) → is_some (number_cell test t) ≡ true → test (unwrap_or (number_cell test t) (pos 0)) ≡ true
number_typed test t e = go _ (test (number_in t)) refl e
  where
    go : (a b : Bool) → test (number_in t) ≡ b → is_some (if a && b then Some (number_in t) else None) ≡ true
        → test (unwrap_or (if a && b then Some (number_in t) else None) (pos 0)) ≡ true
    go true true is e = is
    go true false is e = absurd (false≢true e)
    go false b is e = absurd (false≢true e)

cell_typed : (t : StTy) (c : Text) → is_some (cell_value t c) ≡ true → is_of_type t (unwrap_or (cell_value t c) (pos 0)) ≡ true
cell_typed ty.Bool c e = truth_typed c e
cell_typed ty.Lint c e = number_typed (is_of_type ty.Lint) c e
cell_typed (ty.Range lo hi) c e = number_typed (is_of_type (ty.Range lo hi)) c e

-- ---- the cell under the name of an input keeps the rule of its column

module _ (scan : ScanRule) (vars : List StVar) (i : ℕ) (v : StVar) (is : column_of vars v.name ≡ Some (column.Input i v.ty)) (k : ℕ) where
  cell_right : (names ts : List Text) (j : ℕ) → length ts ≡ length names → cells_fault scan vars k j names ts ≡ None → has_text names v.name ≡ true → is_some (cell_value v.ty (cell_under v.name names ts)) ≡ true
  cell_right [] ts j n e h = absurd (false≢true h)
  cell_right (f ∷ names) [] j n e h = absurd (omega (arith, n))
  cell_right (f ∷ names) (t ∷ ts) j n e h =
      let p = kept (cell_stands scan vars k f t) (cells_fault scan vars k (suc j) names ts) (cell k j) e in
      go (same v.name f) refl (same_flip f v.name) h p.0 (λ there. cell_right names ts (suc j) (omega (arith, n)) p.1 there)
    where
      go : (b : Bool) → same v.name f ≡ b → same f v.name ≡ same v.name f → (b || has_text names v.name) ≡ true → cell_stands scan vars k f t ≡ true
          → (has_text names v.name ≡ true → is_some (cell_value v.ty (cell_under v.name names ts)) ≡ true)
          → is_some (cell_value v.ty (if same f v.name then t else cell_under v.name names ts)) ≡ true
      go true s flip h st more =
          ap (λ b. is_some (cell_value v.ty (if b then t else cell_under v.name names ts))) (flip ∙ s)
          ∙ sym (stands_same scan vars f (column.Input i v.ty) (ap (column_of vars) (sym (same_equal v.name f s)) ∙ is) k t) ∙ st
      go false s flip h st more = ap (λ b. is_some (cell_value v.ty (if b then t else cell_under v.name names ts))) (flip ∙ s) ∙ more h

zip_map : {A B : Type 0} (R : A → B → Type 0) (g : A → B) (xs : List A) → ((i : ℕ) (x : A) → slice_get xs i ≡ Some x → R x (g x)) → AllZip R xs (map g xs)
zip_map R g [] each = tt
zip_map R g (x ∷ xs) each = (each zero x refl, zip_map R g xs (λ i y e. each (suc i) y e))

neither : (a b : Option RowFault) → option_or a b ≡ None → (a ≡ None) × (b ≡ None)
neither None b e = (refl, e)
neither (Some f) b e = none_some (sym e)

row_typed : (scan : ScanRule) (vars : List StVar) (names : List Text) (cols : List Column) (before k : ℕ) (ts : List Text) → HeaderOf vars names cols → row_fault scan vars names before k ts ≡ None → IsRowFor vars (row_values vars names ts)
row_typed scan vars names cols before k ts h e = zip_map (λ (v : StVar) z. IsTrue (is_of_type v.ty z)) (λ (v : StVar). worth v names ts) (inputs_of vars) each
  where
    p : (nat_eq (length ts) (length names) ≡ true) × (cells_fault scan vars k 1 names ts ≡ None)
    p =
        let q = kept (nat_eq (length ts) (length names)) (option_or (cells_fault scan vars k 1 names ts) (boundary_fault scan before k names ts)) (row_length k) e in
        (q.0, (neither (cells_fault scan vars k 1 names ts) (boundary_fault scan before k names ts) q.1).0)

    each : (i : ℕ) (v : StVar) → slice_get (inputs_of vars) i ≡ Some v → IsTrue (is_of_type v.ty (worth v names ts))
    each i v at =
        let few : i < length (inputs_of vars) = slice_get_within (inputs_of vars) i v at in
        let c = covered vars names cols i v h.columns at (h.each (suc i) (omega (arith, few))) in
        let q = p.0 in
        let long : length ts ≡ length names = grind (arith, nat_tests) in
        cell_typed v.ty (cell_under v.name names ts) (cell_right scan vars i v c.column k names ts 1 long p.1 c.there)

-- ---- all rows

left : (b : Bool) (f : RowFault) (x : Option RowFault) → (if b then Some f else x) ≡ None → x ≡ None
left true f x e = none_some (sym e)
left false f x e = e

rows_typed : (scan : ScanRule) (vars : List StVar) (names : List Text) (cols : List Column) → HeaderOf vars names cols → (before k : ℕ) (rs : List (List Text)) → rows_fault scan vars names before k rs ≡ None
    → AreRowsFor vars (map (row_values vars names) rs)
rows_typed scan vars names cols h before k [] e = tt
rows_typed scan vars names cols h before k (r ∷ rs) e =
    let p = neither (row_fault scan vars names before k r) (rows_fault scan vars names (number_of_row names r) (suc k) rs) (left (nat_lt most_rows k) (too_many_rows (most_rows + 1)) _ e) in
    (row_typed scan vars names cols before k r h p.0, rows_typed scan vars names cols h (number_of_row names r) (suc k) rs p.1)

pub file_typed : (scan : ScanRule) (vars : List StVar) (rs : List (List Text)) → file_fault scan vars rs ≡ None → AreRowsFor vars (rows_after vars rs)
file_typed scan vars [] e = none_some (sym e)
file_typed scan vars (names ∷ rs) e =
    let p = neither (header_fault vars names) (rows_fault scan vars names 0 1 rs) e in
    let h = columns_of_header vars names p.0 in
    rows_typed scan vars names h.0 h.1 0 1 rs p.1

pub in_range : (vars : List StVar) (text : Text) (rows : List (List ℤ)) → RowsOf vars text rows → AreRowsFor vars rows
unfolding RowsOf first_row_fault
in_range vars text rows h = subst (λ (rs : List (List ℤ)). AreRowsFor vars rs) (sym h.1) (file_typed row_number vars (records_of text) h.0)

-- ---- few rows

-- the rows from the row k on end with the most
abbrev Few : ℕ → List (List Text) → Type 0
Few k rs = k ≤ most_rows + 1 → k + length rs ≤ most_rows + 1

few_from : (scan : ScanRule) (vars : List StVar) (names : List Text) (before k : ℕ) (rs : List (List Text)) → rows_fault scan vars names before k rs ≡ None → Few k rs
few_from scan vars names before k [] e under = omega (arith, under)
few_from scan vars names before k (r ∷ rs) e under = go (nat_lt most_rows k) refl e (few_from scan vars names (number_of_row names r) (suc k) rs)
  where
    go : (b : Bool) → nat_lt most_rows k ≡ b
        → (if b then Some (too_many_rows (most_rows + 1)) else option_or (row_fault scan vars names before k r) (rows_fault scan vars names (number_of_row names r) (suc k) rs)) ≡ None
        → (rows_fault scan vars names (number_of_row names r) (suc k) rs ≡ None → Few (suc k) rs) → k + suc (length rs) ≤ most_rows + 1
    go true is h more = none_some (sym h)
    go false is h more =
        let short : k ≤ most_rows = grind (arith, nat_tests) in
        let rest = more (neither (row_fault scan vars names before k r) (rows_fault scan vars names (number_of_row names r) (suc k) rs) h).1 (omega (arith, short)) in
        omega (arith, rest)

pub few_in_file : (scan : ScanRule) (vars : List StVar) (rs : List (List Text)) → file_fault scan vars rs ≡ None → length (rows_after vars rs) ≤ most_rows
few_in_file scan vars [] e = none_some (sym e)
few_in_file scan vars (names ∷ rs) e =
    let p = neither (header_fault vars names) (rows_fault scan vars names 0 1 rs) e in
    let few = few_from scan vars names 0 1 rs p.1 (omega arith) in
    omega (arith, few, length-map rs (row_values vars names))

pub rows_few : (vars : List StVar) (text : Text) (rows : List (List ℤ)) → RowsOf vars text rows → length rows ≤ most_rows
unfolding RowsOf first_row_fault
rows_few vars text rows h = let few = few_in_file row_number vars (records_of text) h.0 in let same = ap length h.1 in omega (arith, few, same)

pub ruleset ranges = (in_range)
