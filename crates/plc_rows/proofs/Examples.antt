-- Worked examples of the rules of rows files, by computation.
use Rattle.std.proofs.Common.{◌≡◌, pos, negsuc, List, [], ◌∷◌, Some, None, codes, refl}
use Rattle.std.specs.Fmt.{digits}
use Rattle.csv.specs.Machine.{next_record}
use Rattle.csv.specs.Reading.{records_from, strip_bom}
use Rattle.grammar.specs.Pieces.{Text}
use Rattle.st_ast.specs.declared.tree.StVar.{StVar}
use Rattle.st_ast.specs.declared.tree.StTy.{StTy}
use Rattle.st_ast.specs.declared.tree.StTy.TheVariants as ty
use Rattle.st_ast.specs.declared.tree.StClass.{StClass}
use Rattle.st_ast.specs.declared.tree.StClass.TheVariants as class
use Rattle.plc_rows.specs.Rows.{header, cell, row_length, header_fault, cell_value, row_number, row_fault, file_fault, first_row_fault, row_values, rows_after, records_of}

abbrev variable : Text → StClass → StTy → StVar
variable x k t = record { name = x; class = k; ty = t; init = None; at = None }

-- a BOOL input a
abbrev one : List StVar
one = variable (codes "y") class.Output ty.Lint ∷ variable (codes "a") class.Input ty.Bool ∷ []

-- a BOOL input a, a LINT input n and an input s from 2 to 9, with other variables between
abbrev three : List StVar
three =
    variable (codes "a") class.Input ty.Bool ∷ variable (codes "k") class.Plain ty.Lint ∷ variable (codes "n") class.Input ty.Lint
    ∷ variable (codes "y") class.Output ty.Lint ∷ variable (codes "s") class.Input (ty.Range (pos 2) (pos 9)) ∷ []

-- ---- headers

scan_and_the_input : header_fault one (codes "scan" ∷ codes "a" ∷ []) ≡ None
scan_and_the_input = refl

the_input_and_scan : header_fault one (codes "a" ∷ codes "scan" ∷ []) ≡ None
the_input_and_scan = refl

any_order : header_fault three (codes "n" ∷ codes "scan" ∷ codes "s" ∷ codes "a" ∷ []) ≡ None
any_order = refl

a_repeated_field : header_fault three (codes "a" ∷ codes "n" ∷ codes "a" ∷ codes "s" ∷ []) ≡ Some (header 3)
a_repeated_field = refl

scan_twice : header_fault one (codes "scan" ∷ codes "scan" ∷ []) ≡ Some (header 2)
scan_twice = refl

another_case : header_fault one (codes "scan" ∷ codes "A" ∷ []) ≡ Some (header 2)
another_case = refl

scan_in_another_case : header_fault one (codes "SCAN" ∷ codes "a" ∷ []) ≡ Some (header 1)
scan_in_another_case = refl

no_input : header_fault one (codes "scan" ∷ codes "y" ∷ codes "a" ∷ []) ≡ Some (header 2)
no_input = refl

a_missing_name : header_fault three (codes "scan" ∷ codes "s" ∷ codes "a" ∷ []) ≡ Some (header 4)
a_missing_name = refl

scan_missing : header_fault one (codes "a" ∷ []) ≡ Some (header 2)
scan_missing = refl

one_too_many : header_fault one (codes "scan" ∷ codes "a" ∷ codes "b" ∷ []) ≡ Some (header 3)
one_too_many = refl

-- an input that is spelled `scan` has no column, and one that is spelled in another way has
abbrev spelled_scan : List StVar
spelled_scan = variable (codes "scan") class.Input ty.Lint ∷ []

no_column_for_scan : header_fault spelled_scan (codes "scan" ∷ []) ≡ Some (header 2)
no_column_for_scan = refl

no_second_scan : header_fault spelled_scan (codes "scan" ∷ codes "scan" ∷ []) ≡ Some (header 2)
no_second_scan = refl

a_column_for_Scan : header_fault (variable (codes "Scan") class.Input ty.Lint ∷ []) (codes "scan" ∷ codes "Scan" ∷ []) ≡ None
a_column_for_Scan = refl

no_inputs : header_fault [] (codes "scan" ∷ []) ≡ None
no_inputs = refl

-- ---- cells

true_in_capitals : cell_value ty.Bool (codes "TRUE") ≡ Some (pos 1)
true_in_capitals = refl

true_in_small_letters : cell_value ty.Bool (codes "true") ≡ Some (pos 1)
true_in_small_letters = refl

one_is_true : cell_value ty.Bool (codes "1") ≡ Some (pos 1)
one_is_true = refl

false_in_capitals : cell_value ty.Bool (codes "FALSE") ≡ Some (pos 0)
false_in_capitals = refl

false_in_small_letters : cell_value ty.Bool (codes "false") ≡ Some (pos 0)
false_in_small_letters = refl

zero_is_false : cell_value ty.Bool (codes "0") ≡ Some (pos 0)
zero_is_false = refl

mixed_case : cell_value ty.Bool (codes "True") ≡ None
mixed_case = refl

another_number : cell_value ty.Bool (codes "2") ≡ None
another_number = refl

no_truth : cell_value ty.Bool [] ≡ None
no_truth = refl

a_negative_number : cell_value ty.Lint (codes "-3") ≡ Some (negsuc 2)
unfolding digits
a_negative_number = refl

zero_itself : cell_value ty.Lint (codes "0") ≡ Some (pos 0)
unfolding digits
zero_itself = refl

minus_zero : cell_value ty.Lint (codes "-0") ≡ None
unfolding digits
minus_zero = refl

a_plus : cell_value ty.Lint (codes "+1") ≡ None
unfolding digits
a_plus = refl

a_leading_zero : cell_value ty.Lint (codes "01") ≡ None
unfolding digits
a_leading_zero = refl

a_blank : cell_value ty.Lint (codes " 1") ≡ None
unfolding digits
a_blank = refl

no_digit : cell_value ty.Lint (codes "-") ≡ None
unfolding digits
no_digit = refl

no_number : cell_value ty.Lint [] ≡ None
unfolding digits
no_number = refl

the_greatest : cell_value ty.Lint (codes "9223372036854775807") ≡ Some (pos 9223372036854775807)
unfolding digits
the_greatest = refl

past_the_greatest : cell_value ty.Lint (codes "9223372036854775808") ≡ None
unfolding digits
past_the_greatest = refl

the_least : cell_value ty.Lint (codes "-9223372036854775808") ≡ Some (negsuc 9223372036854775807)
unfolding digits
the_least = refl

past_the_least : cell_value ty.Lint (codes "-9223372036854775809") ≡ None
unfolding digits
past_the_least = refl

the_upper_limit : cell_value (ty.Range (negsuc 1) (pos 9)) (codes "9") ≡ Some (pos 9)
unfolding digits
the_upper_limit = refl

past_the_upper_limit : cell_value (ty.Range (negsuc 1) (pos 9)) (codes "10") ≡ None
unfolding digits
past_the_upper_limit = refl

the_lower_limit : cell_value (ty.Range (negsuc 1) (pos 9)) (codes "-2") ≡ Some (negsuc 1)
unfolding digits
the_lower_limit = refl

past_the_lower_limit : cell_value (ty.Range (negsuc 1) (pos 9)) (codes "-3") ≡ None
unfolding digits
past_the_lower_limit = refl

-- ---- rows

abbrev names : List Text
names = codes "n" ∷ codes "scan" ∷ codes "s" ∷ codes "a" ∷ []

a_row : row_fault row_number three names 0 7 (codes "-3" ∷ codes "7" ∷ codes "4" ∷ codes "TRUE" ∷ []) ≡ None
unfolding digits
a_row = refl

-- in the order of the inputs, and not of the columns
values_of_the_row : row_values three names (codes "-3" ∷ codes "7" ∷ codes "4" ∷ codes "TRUE" ∷ []) ≡ pos 1 ∷ negsuc 2 ∷ pos 4 ∷ []
unfolding digits
values_of_the_row = refl

another_row_number : row_fault row_number three names 0 8 (codes "-3" ∷ codes "7" ∷ codes "4" ∷ codes "TRUE" ∷ []) ≡ Some (cell 8 2)
unfolding digits
another_row_number = refl

the_first_wrong_cell : row_fault row_number three names 0 7 (codes "-3" ∷ codes "7" ∷ codes "1" ∷ codes "yes" ∷ []) ≡ Some (cell 7 3)
unfolding digits
the_first_wrong_cell = refl

too_short : row_fault row_number three names 0 7 (codes "x" ∷ codes "7" ∷ codes "4" ∷ []) ≡ Some (row_length 7)
unfolding digits
too_short = refl

too_long : row_fault row_number three names 0 7 (codes "-3" ∷ codes "7" ∷ codes "4" ∷ codes "TRUE" ∷ [] ∷ []) ≡ Some (row_length 7)
unfolding digits
too_long = refl

-- ---- files

an_empty_file : first_row_fault one [] ≡ Some (header 1)
unfolding first_row_fault records_from next_record strip_bom
an_empty_file = refl

a_header_alone : file_fault row_number one ((codes "scan" ∷ codes "a" ∷ []) ∷ []) ≡ None
a_header_alone = refl

the_second_row_is_numbered_wrong : file_fault row_number one ((codes "a" ∷ codes "scan" ∷ []) ∷ (codes "0" ∷ codes "1" ∷ []) ∷ (codes "1" ∷ codes "1" ∷ []) ∷ []) ≡ Some (cell 2 2)
unfolding digits
the_second_row_is_numbered_wrong = refl

the_header_first : file_fault row_number one ((codes "scan" ∷ []) ∷ (codes "0" ∷ []) ∷ []) ≡ Some (header 2)
unfolding digits
the_header_first = refl

a_file : first_row_fault one (codes "a,scan\n0,1\ntrue,2\n") ≡ None
unfolding digits first_row_fault records_from next_record strip_bom
a_file = refl

rows_of_the_file : rows_after one (records_of (codes "a,scan\n0,1\ntrue,2\n")) ≡ (pos 0 ∷ []) ∷ (pos 1 ∷ []) ∷ []
unfolding digits records_from next_record strip_bom
rows_of_the_file = refl
