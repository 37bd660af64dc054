-- The column `scan`: its place, and the number in it.
use Rattle.std.proofs.Common.{◌≡◌, ◌<◌, ℕ, zero, suc, ◌+◌, ℤ, pos, neg_ℤ, Bool, true, false, ◌||◌, ◌&&◌, ◌==◌, List, [], ◌∷◌, length, Option, Some, None, refl, sym, ap, ◌∙◌, arith}
use Rattle.std.specs.Prelude.{codes, int_le, is_some, nat_eq, if◌then◌else◌}
use Rattle.std.specs.Fmt.{signed_decimal}
use Rattle.std.proofs.lemmas.Bool.{false≢true}
use Rattle.std.proofs.lemmas.Bool.Decides.{nat_tests}
use Rattle.grammar.specs.Bytes.{digits_from}
use Rattle.grammar.specs.Pieces.{Text, same}
use Rattle.grammar.proofs.Texts.{and_left, and_right}
use Rattle.csv.specs.Records.{field_at}
use Rattle.st_ast.specs.declared.tree.StVar.{StVar}
use Rattle.plc_rows.specs.Rows.{cell, row_length, number_in, case_number, case_numbers, cell_value, cell_under, number_of_row}
use Rattle.plc_rows.specs.Columns.{ColumnsOf, HeaderOf, columns_fault, line_fault, is_taken, scan_place, HasNumber}
use Rattle.plc_rows.specs.Standing.{IsHeader}
use Rattle.plc_rows.specs.declared.header.Column.{Column}
use Rattle.plc_rows.specs.declared.header.Column.TheVariants as column
use Rattle.plc_rows.proofs.Checking.{same_text}
use Rattle.plc_rows.proofs.ColumnLaws.{OfName, the_scan, an_input, of_name}
use Rattle.plc_rows.proofs.Remaining.{one_some, none_some}
use Rattle.plc_rows.proofs.RowLaws.{kept, no_fault_long}

-- ---- a number of a row in its case

abbrev fits : ℤ → Bool
fits z = int_le (pos 1) z && int_le z (pos 100000)

-- what it is, and its bounds
pub in_case : (t : Text) (z : ℤ) → cell_value case_numbers t ≡ Some z → (n : ℕ) × (z ≡ pos n) × (0 < n) × (n < 100001) × (digits_from 0 t ≡ n)
in_case t z e = go (same t (signed_decimal (number_in t))) (fits (number_in t)) refl e
  where
    read : (u : Text) (z : ℤ) → number_in u ≡ z → fits z ≡ true → (n : ℕ) × (z ≡ pos n) × (0 < n) × (n < 100001) × (digits_from 0 u ≡ n)
    read [] z is f = absurd (let other : fits (pos 0) ≡ true = ap fits is ∙ f in cc)
    read (b ∷ u) z is f = by (b == 45) refl is
      where
        bounds : (n : ℕ) → fits (pos n) ≡ true → (0 < n) × (n < 100001)
        bounds n g =
            let more : int_le (pos 1) (pos n) ≡ true = and_left (int_le (pos 1) (pos n)) (int_le (pos n) (pos 100000)) g in
            let less : int_le (pos n) (pos 100000) ≡ true = and_right (int_le (pos 1) (pos n)) (int_le (pos n) (pos 100000)) g in
            (grind (arith, nat_tests), grind (arith, nat_tests))

        negative : (n : ℕ) → fits (neg_ℤ (pos n)) ≡ true → ⊥
        negative zero g = cc
        negative (suc n) g = cc

        by : (x : Bool) → (b == 45) ≡ x → (if x then neg_ℤ (pos (digits_from 0 u)) else pos (digits_from 0 (b ∷ u))) ≡ z → (n : ℕ) × (z ≡ pos n) × (0 < n) × (n < 100001) × (digits_from 0 (b ∷ u) ≡ n)
        by true q i = absurd (negative (digits_from 0 u) (ap fits i ∙ f))
        by false q i =
            let n = digits_from 0 (b ∷ u) in
            let few = bounds n (ap fits i ∙ f) in
            (n, sym i, few.0, few.1, refl)

    go : (a b : Bool) → fits (number_in t) ≡ b → (if a && b then Some (number_in t) else None) ≡ Some z → (n : ℕ) × (z ≡ pos n) × (0 < n) × (n < 100001) × (digits_from 0 t ≡ n)
    go true true is h = let same : number_in t ≡ z = one_some h in read t z same (ap fits (sym same) ∙ is)
    go true false is h = none_some h
    go false b is h = none_some h

-- ---- the cell in the column

-- an input does not stand in its place
later : (r : ℕ) (cols : List Column) → (nat_eq (r + 1) 0 || is_taken cols 0) ≡ true → is_taken cols 0 ≡ true
later r cols q = let other : nat_eq (r + 1) 0 ≡ false = grind (arith, nat_tests) in ap (λ b. b || is_taken cols 0) (sym other) ∙ q

module _ (vars : List StVar) where
  -- it is the one under the name
  under : (names : List Text) (cols : List Column) (ts : List Text) (t : Text) → ColumnsOf vars names cols → field_at ts (scan_place cols) ≡ Some t → is_taken cols 0 ≡ true
      → cell_under (codes "scan") names ts ≡ t
  unfolding field_at
  under [] [] ts t h e k = absurd (false≢true k)
  under [] (c ∷ cols) ts t h e k = absurd h
  under (f ∷ names) [] ts t h e k = absurd h
  under (f ∷ names) (c ∷ cols) [] t h e k = none_some e
  under (f ∷ names) (c ∷ cols) (x ∷ ts) t h e k = go (of_name vars f c h.0) e k (λ there taken. under names cols ts t h.1 there taken)
    where
      go : OfName vars f c → field_at (x ∷ ts) (scan_place (c ∷ cols)) ≡ Some t → is_taken (c ∷ cols) 0 ≡ true
          → (field_at ts (scan_place cols) ≡ Some t → is_taken cols 0 ≡ true → cell_under (codes "scan") names ts ≡ t)
          → (if same f (codes "scan") then x else cell_under (codes "scan") names ts) ≡ t
      go (the_scan n s) e k more =
          let is = same_text f (codes "scan") n in
          let there : field_at (x ∷ ts) (scan_place (column.Scan ∷ cols)) ≡ Some t = ap (λ d. field_at (x ∷ ts) (scan_place (d ∷ cols))) (sym s) ∙ e in
          rw is (one_some there)
      go (an_input n a) e k more =
          let there : field_at (x ∷ ts) (scan_place (column.Input (0 + a.at) a.var.ty ∷ cols)) ≡ Some t = ap (λ d. field_at (x ∷ ts) (scan_place (d ∷ cols))) (sym a.is) ∙ e in
          let taken : is_taken (column.Input (0 + a.at) a.var.ty ∷ cols) 0 ≡ true = ap (λ d. is_taken (d ∷ cols) 0) (sym a.is) ∙ k in
          rw n (more there (later (0 + a.at) cols taken))

  pub number_same : (names : List Text) (cols : List Column) (ts : List Text) (n : ℕ) → HeaderOf vars names cols → HasNumber ts (scan_place cols) n → number_of_row names ts ≡ n
  number_same names cols ts n h has =
      let cell = under names cols ts has.0 h.columns has.1 (h.each 0 (omega arith)) in
      let is = in_case has.0 (pos n) has.2 in
      let same : n ≡ is.0 = cc in
      ap (digits_from 0) cell ∙ is.4 ∙ sym same

-- a row of cases that breaks no rule of its cells has a number
module _ (k : ℕ) where
  numbered : (cols : List Column) (ts : List Text) (j : ℕ) → length ts ≡ length cols → columns_fault case_number k j cols ts ≡ None → is_taken cols 0 ≡ true
      → (n : ℕ) × HasNumber ts (scan_place cols) n
  unfolding field_at
  numbered [] ts j l e h = absurd (false≢true h)
  numbered (c ∷ cols) [] j l e h = absurd (omega (arith, l))
  numbered (column.Scan ∷ cols) (t ∷ ts) j l e h =
      let p = kept (is_some (cell_value case_numbers t)) (columns_fault case_number k (suc j) cols ts) (cell k j) e in
      there (cell_value case_numbers t) refl p.0
    where
      there : (o : Option ℤ) → cell_value case_numbers t ≡ o → is_some o ≡ true → (n : ℕ) × HasNumber (t ∷ ts) 0 n
      there None is s = absurd (false≢true s)
      there (Some z) is s = let q = in_case t z is in (q.0, (t, refl, is ∙ ap Some q.1))
  numbered (column.Input r ty ∷ cols) (t ∷ ts) j l e h =
      let p = kept (is_some (cell_value ty t)) (columns_fault case_number k (suc j) cols ts) (cell k j) e in
      let q = numbered cols ts (suc j) (omega (arith, l)) p.1 (later r cols h) in
      (q.0, (q.1.0, q.1.1, q.1.2))

  pub has_number : (vars : List StVar) (cols : List Column) (ts : List Text) → IsHeader vars cols → line_fault case_number cols k ts ≡ None → (n : ℕ) × HasNumber ts (scan_place cols) n
  has_number vars cols ts h e =
      let p = kept (nat_eq (length ts) (length cols)) (columns_fault case_number k 1 cols ts) (row_length k) e in
      numbered cols ts 1 (no_fault_long case_number cols k ts e) p.1 (h.1.each 0 (omega arith))
