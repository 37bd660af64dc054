-- Rows are put into cases one after the other.
use Rattle.std.proofs.Common.{◌≡◌, ℕ, zero, suc, ◌+◌, ◌<◌, ℤ, Bool, true, false, ◌&&◌, List, [], ◌∷◌, ◌++◌, length, refl, sym, ap, ◌∙◌, arith, append_assoc}
use Rattle.std.specs.Prelude.{flat_map, nat_lt, Result, Ok, Err, OnOk}
use Rattle.cif_base.specs.declared.memory.Memory.{Memory}
use Rattle.std.specs.List.{list_all, range_with_len}
use Rattle.std.proofs.lemmas.Bool.Decides.{nat_tests}
use Rattle.std.proofs.lemmas.Grind.{flat_map-append}
use Rattle.std.proofs.lemmas.List.{length-append, length-map, map-append}
use Rattle.std.proofs.lemmas.List.Folds.{list_all-append}
use Rattle.plc_rows.specs.Rows.{case_number}
use Rattle.plc_rows.specs.Standing.{AreCut}
use Rattle.plc_rows.specs.Told.{cases_of, cells_of}
use Rattle.plc_rows.specs.declared.casing.Casing.{Casing}
use Rattle.plc_rows.specs.declared.row.Row.{Row}
use Rattle.plc_rows.specs.declared.row.Rows.{Rows}

abbrev Case : Type 0
Case = List (List ℤ)

abbrev numbers_of_case : Case → List ℕ
numbers_of_case c = range_with_len 1 (length c)

abbrev is_full : Case → Bool
is_full c = nat_lt 0 (length c)

nil_behind : {A : Type 0} (xs : List A) → xs ++ [] ≡ xs
nil_behind [] = refl
nil_behind (x ∷ xs) = ap (λ l. x ∷ l) (nil_behind xs)

one_behind : {A B : Type 0} (f : A → List B) (xs : List A) (x : A) → flat_map f (xs ++ x ∷ []) ≡ flat_map f xs ++ f x
one_behind f xs x = flat_map-append f xs (x ∷ []) ∙ ap (λ l. flat_map f xs ++ l) (nil_behind (f x))

range_more : (a n : ℕ) → range_with_len a (suc n) ≡ range_with_len a n ++ (a + n) ∷ []
range_more a zero = ap (λ k. k ∷ []) (omega arith)
range_more a (suc n) = ap (λ l. a ∷ l) (range_more (a + 1) n ∙ ap (λ k. range_with_len (a + 1) n ++ k ∷ []) (omega arith))

module _ (rows : List (List ℤ)) (ns : List ℕ) (whole : List Rows) (last : List Row) (cut : AreCut rows ns record { whole = whole; last = last }) (row : Row) where
  -- the case goes on
  pub goes_on : (number : ℕ) → number ≡ suc (length last) → AreCut (rows ++ row.cells ∷ []) (ns ++ number ∷ []) record { whole = whole; last = last ++ row ∷ [] }
  goes_on number e = record {
    rows_are = ap (λ l. flat_map (λ c. c) (cases_of whole) ++ l) (map-append (λ (r : Row). r.cells) last (row ∷ []))
        ∙ sym (append_assoc (flat_map (λ c. c) (cases_of whole)) (cells_of last) (row.cells ∷ [])) ∙ ap (λ l. l ++ row.cells ∷ []) cut.rows_are;
    numbers_are =
        (let long : length (last ++ row ∷ []) ≡ suc (length last) = omega (arith, length-append last (row ∷ [])) in
        let next : 1 + length last ≡ number = omega (arith, e) in
        ap (λ n. flat_map numbers_of_case (cases_of whole) ++ range_with_len 1 n) long
        ∙ ap (λ l. flat_map numbers_of_case (cases_of whole) ++ l) (range_more 1 (length last) ∙ ap (λ n. range_with_len 1 (length last) ++ n ∷ []) next)
        ∙ sym (append_assoc (flat_map numbers_of_case (cases_of whole)) (range_with_len 1 (length last)) (number ∷ [])) ∙ ap (λ l. l ++ number ∷ []) cut.numbers_are);
    full = cut.full;
  }

  -- the case has ended, and the next one begins
  pub begins : 0 < length last → AreCut (rows ++ row.cells ∷ []) (ns ++ 1 ∷ []) record { whole = whole ++ record { rows = last } ∷ []; last = row ∷ [] }
  begins some =
      let ended : cases_of (whole ++ record { rows = last } ∷ []) ≡ cases_of whole ++ cells_of last ∷ [] = map-append (λ (r : Rows). cells_of r.rows) whole (record { rows = last } ∷ []) in
      let long : length (cells_of last) ≡ length last = length-map last (λ (r : Row). r.cells) in record {
        rows_are = ap (λ cs. flat_map (λ c. c) cs ++ row.cells ∷ []) ended ∙ ap (λ l. l ++ row.cells ∷ []) (one_behind (λ c. c) (cases_of whole) (cells_of last) ∙ cut.rows_are);
        numbers_are = ap (λ cs. flat_map numbers_of_case cs ++ 1 ∷ []) ended
            ∙ ap (λ l. l ++ 1 ∷ []) (one_behind numbers_of_case (cases_of whole) (cells_of last) ∙ ap (λ n. flat_map numbers_of_case (cases_of whole) ++ range_with_len 1 n) long ∙ cut.numbers_are);
        full = ap (list_all is_full) ended ∙ list_all-append is_full (cases_of whole) (cells_of last ∷ []) ∙ both (list_all is_full (cases_of whole)) (is_full (cells_of last)) cut.full (grind (arith, nat_tests));
      }
    where
      both : (a b : Bool) → a ≡ true → b ≡ true → (a && (b && true)) ≡ true
      both true true p q = refl
      both true false p q = q
      both false b p q = p

-- ---- a row is put

on_written : {A E : Type 0} (P Q : Type 0) (r : Result A E) → (P → Q) → OnOk r P → OnOk r Q
on_written P Q (Ok x) f h = f h
on_written P Q (Err e) f h = tt

abbrev Cuts : Casing → Casing → Row → ℕ → Type 0
Cuts old new row number = (rows : List (List ℤ)) (ns : List ℕ) → AreCut rows ns old → AreCut (rows ++ row.cells ∷ []) (ns ++ number ∷ []) new

module _ (old between : Casing) (row : Row) (number : ℕ) (last : List Row) (r : Result (Unit {0}) Memory) (put : OnOk r (last ≡ between.last ++ row ∷ [])) where
  abbrev after : Casing
  after = record { whole = between.whole; last = last }

  pub put_on : number ≡ suc (length old.last) → between ≡ old → OnOk r (Cuts old after row number)
  put_on e same = on_written (last ≡ between.last ++ row ∷ []) (Cuts old after row number) r
      (λ is rows ns cut. rw (is, same) (goes_on rows ns old.whole old.last cut row number e)) put

  pub put_first : number ≡ 1 → 0 < length old.last → between ≡ record { whole = old.whole ++ record { rows = old.last } ∷ []; last = [] } → OnOk r (Cuts old after row number)
  put_first e some same = on_written (last ≡ between.last ++ row ∷ []) (Cuts old after row number) r
      (λ is rows ns cut. rw (is, same, e) (begins rows ns old.whole old.last cut row some)) put

pub cut_nothing : AreCut [] [] record { whole = []; last = [] }
cut_nothing = record { rows_are = refl; numbers_are = refl; full = refl }

-- which row may come next
pub may_come : (before number : ℕ) → case_number.follows before number ≡ true → (number ≡ 1 → ⊥) → number ≡ suc before
may_come before number h other = grind (arith, nat_tests)

pub some_length : {A : Type 0} (xs : List A) → (xs ≡ [] → ⊥) → 0 < length xs
some_length [] h = absurd (h refl)
some_length (x ∷ xs) h = omega arith

pub no_length : {A : Type 0} (xs : List A) → xs ≡ [] → length xs ≡ 0
no_length [] h = refl
no_length (x ∷ xs) h = absurd cc
