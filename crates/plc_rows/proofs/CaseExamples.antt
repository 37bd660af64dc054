-- Worked examples of the rules of cases files, by computation.
use Rattle.std.proofs.Common.{◌≡◌, pos, List, [], ◌∷◌, Some, None, codes, refl}
use Rattle.std.specs.Prelude.{ℤ}
use Rattle.std.specs.Fmt.{digits}
use Rattle.csv.specs.Machine.{next_record}
use Rattle.csv.specs.Reading.{records_from, strip_bom}
use Rattle.grammar.specs.Pieces.{Text}
use Rattle.st_ast.specs.declared.tree.StVar.{StVar}
use Rattle.st_ast.specs.declared.tree.StTy.{StTy}
use Rattle.st_ast.specs.declared.tree.StTy.TheVariants as ty
use Rattle.st_ast.specs.declared.tree.StClass.{StClass}
use Rattle.st_ast.specs.declared.tree.StClass.TheVariants as class
use Rattle.plc_rows.specs.Rows.{header, cell, row_length, case_boundary, case_number, file_fault, first_case_fault, CasesOf}

abbrev variable : Text → StClass → StTy → StVar
variable x k t = record { name = x; class = k; ty = t; init = None; at = None }

-- an input a from 0 to 9
abbrev vars : List StVar
vars = variable (codes "a") class.Input (ty.Range (pos 0) (pos 9)) ∷ variable (codes "y") class.Output (ty.Range (pos 0) (pos 3)) ∷ []

abbrev names : List Text
names = codes "scan" ∷ codes "a" ∷ []

abbrev row : Text → Text → List Text
row k a = k ∷ a ∷ []

abbrev values : ℤ → List ℤ
values z = z ∷ []

three_cases : CasesOf vars (codes "scan,a\n1,1\n2,2\n1,3\n2,3\n1,0\n")
    ((values (pos 1) ∷ values (pos 2) ∷ []) ∷ (values (pos 3) ∷ values (pos 3) ∷ []) ∷ (values (pos 0) ∷ []) ∷ [])
unfolding digits first_case_fault records_from next_record strip_bom
three_cases = record { right = refl; rows = refl; numbers = refl; full = refl }

-- a file of the header alone has no case
no_case : CasesOf vars (codes "scan,a\n") []
unfolding digits first_case_fault records_from next_record strip_bom
no_case = record { right = refl; rows = refl; numbers = refl; full = refl }

an_empty_file : first_case_fault vars [] ≡ Some (header 1)
unfolding first_case_fault records_from next_record strip_bom
an_empty_file = refl

the_first_row_begins_a_case : file_fault case_number vars (names ∷ row (codes "2") (codes "1") ∷ []) ≡ Some (case_boundary 1)
unfolding digits
the_first_row_begins_a_case = refl

a_number_is_skipped : file_fault case_number vars (names ∷ row (codes "1") (codes "1") ∷ row (codes "3") (codes "1") ∷ []) ≡ Some (case_boundary 2)
unfolding digits
a_number_is_skipped = refl

the_same_number_again : file_fault case_number vars (names ∷ row (codes "1") (codes "1") ∷ row (codes "2") (codes "1") ∷ row (codes "2") (codes "1") ∷ []) ≡ Some (case_boundary 3)
unfolding digits
the_same_number_again = refl

-- the number of the row in its file is none of its case
the_number_of_the_file : file_fault case_number vars (names ∷ row (codes "1") (codes "1") ∷ row (codes "1") (codes "1") ∷ row (codes "3") (codes "1") ∷ []) ≡ Some (case_boundary 3)
unfolding digits
the_number_of_the_file = refl

scan_may_stand_last : file_fault case_number vars ((codes "a" ∷ codes "scan" ∷ []) ∷ row (codes "5") (codes "1") ∷ row (codes "5") (codes "3") ∷ []) ≡ Some (case_boundary 2)
unfolding digits
scan_may_stand_last = refl

-- ---- what is told first

cells_before_the_boundary : file_fault case_number vars (names ∷ row (codes "2") (codes "10") ∷ []) ≡ Some (cell 1 2)
unfolding digits
cells_before_the_boundary = refl

the_length_before_the_boundary : file_fault case_number vars (names ∷ (codes "2" ∷ []) ∷ []) ≡ Some (row_length 1)
unfolding digits
the_length_before_the_boundary = refl

an_earlier_row_first : file_fault case_number vars (names ∷ row (codes "3") (codes "1") ∷ (codes "2" ∷ []) ∷ []) ≡ Some (case_boundary 1)
unfolding digits
an_earlier_row_first = refl

-- ---- numbers of rows

zero_begins_no_case : file_fault case_number vars (names ∷ row (codes "0") (codes "1") ∷ []) ≡ Some (cell 1 1)
unfolding digits
zero_begins_no_case = refl

a_leading_zero : file_fault case_number vars (names ∷ row (codes "01") (codes "1") ∷ []) ≡ Some (cell 1 1)
unfolding digits
a_leading_zero = refl

the_greatest : file_fault case_number vars (names ∷ row (codes "100000") (codes "1") ∷ []) ≡ Some (case_boundary 1)
unfolding digits
the_greatest = refl

past_the_greatest : file_fault case_number vars (names ∷ row (codes "100001") (codes "1") ∷ []) ≡ Some (cell 1 1)
unfolding digits
past_the_greatest = refl

a_negative_number : file_fault case_number vars (names ∷ row (codes "-1") (codes "1") ∷ []) ≡ Some (cell 1 1)
unfolding digits
a_negative_number = refl

no_number : file_fault case_number vars (names ∷ row [] (codes "1") ∷ []) ≡ Some (cell 1 1)
unfolding digits
no_number = refl
