-- The line that is told of each status, on the standard error. A line of a refusal has its number, its name, and each field's
-- name and value.
use Rattle.std.specs.Prelude.{ℕ, ℤ, ◌+◌, Bool, false, ◌==◌, ◌&&◌, List, [], ◌∷◌, codes, decimal, slice_get, unwrap_or, if◌then◌else◌}
use Rattle.std.specs.Fmt.{signed_decimal}
use Rattle.grammar.specs.Pieces.{Text}
use Rattle.cif_refusal.specs.Texts.{joined, refusal_text, with_number, with_numbers}
use Rattle.st_read.specs.declared.error.StErr.{StErr}
use Rattle.st_read.specs.declared.error.StErr.TheVariants as st
use Rattle.st_check.specs.declared.error.StCheckErr.{StCheckErr}
use Rattle.st_check.specs.declared.error.StCheckErr.TheVariants as check
use Rattle.st_scan.specs.declared.error.ScanErr.{ScanErr}
use Rattle.st_scan.specs.declared.error.ScanErr.TheVariants as scan
use Rattle.plc_rows.specs.declared.error.RowErr.{RowErr}
use Rattle.plc_rows.specs.declared.error.RowErr.TheVariants as row
use Rattle.cif_run.specs.declared.status.Status.{Status}
use Rattle.cif_run.specs.declared.status.Status.TheVariants as status
use Rattle.cif_run.specs.declared.status.ProfileWhy.{ProfileWhy}
use Rattle.cif_run.specs.declared.status.ProfileWhy.TheVariants as profile
use Rattle.cif_run.specs.declared.status.StRefusal.{StRefusal}
use Rattle.cif_run.specs.declared.status.StRefusal.TheVariants as refusal
use Rattle.cif_run.specs.declared.status.StopWhy.{StopWhy}
use Rattle.cif_run.specs.declared.status.StopWhy.TheVariants as stop
use Rattle.cif_run.specs.declared.ended.Ended.{Ended}

-- a word of the command line, counted from 0
abbrev pub word : List Text → ℕ → Text
word words k = unwrap_or (slice_get words k) []

-- the word begins with `--`
abbrev pub begins_option : Text → Bool
begins_option [] = false
begins_option (a ∷ []) = false
begins_option (a ∷ b ∷ t) = a == 45 && b == 45

-- the place of the word before the first log, of `trace FILE [--unc N] [--con N] LOG {LOG}`
abbrev pub before_logs : List Text → ℕ
before_logs words = if begins_option (word words 2) then (if begins_option (word words 4) then 5 else 3) else 1

-- the word of a log, counted from 1
abbrev pub log_word : List Text → ℕ → Text
log_word words k = word words (before_logs words + k)

-- an event is told by its path
abbrev pub profile_text : Text → ProfileWhy → Text
profile_text path (profile.TooManyChoices count) = with_number (codes "25 TooManyChoices count ") count
profile_text path (profile.Unclassed event) = joined (codes "28 Unclassed event " ∷ path ∷ [])

abbrev pub st_text : StErr → Text
st_text (st.StBadByte at) = with_number (codes "31 StBadByte at ") at
st_text (st.StNumberTooBig at) = with_number (codes "32 StNumberTooBig at ") at
st_text (st.StOpenComment at) = with_number (codes "33 StOpenComment at ") at
st_text (st.StNotRead at) = with_number (codes "34 StNotRead at ") at
st_text st.Memory = []

-- a variable is told by its name
abbrev pub check_text : Text → StCheckErr → Text
check_text variable (check.StUnknown k) = with_number (codes "35 StUnknown statement ") k
check_text variable (check.StDuplicate k) = joined (codes "36 StDuplicate variable " ∷ variable ∷ [])
check_text variable (check.StMismatch k) = with_number (codes "37 StMismatch statement ") k
check_text variable (check.StNotAssignable k) = with_number (codes "38 StNotAssignable statement ") k
check_text variable (check.StInitRange k) = joined (codes "39 StInitRange variable " ∷ variable ∷ [])
check_text variable check.Memory = []

abbrev pub st_refusal_text : Text → StRefusal → Text
st_refusal_text variable (refusal.Text e) = st_text e
st_refusal_text variable (refusal.Check e) = check_text variable e

abbrev pub row_text : RowErr → Text
row_text (row.Header c) = with_number (codes "44 Header column ") c
row_text (row.Cell r c) = with_numbers (codes "45 Cell row ") r (codes " column ") c
row_text (row.RowLength r) = with_number (codes "46 RowLength row ") r
row_text (row.TooManyRows n) = with_number (codes "47 TooManyRows count ") n
row_text (row.CaseBoundary r) = with_number (codes "48 CaseBoundary row ") r
row_text row.Memory = []

-- a value outside the subrange of this variable
abbrev pub subrange_text : Text → ℤ → Text
subrange_text variable z = joined (codes "42 SubrangeLeft variable " ∷ variable ∷ codes " value " ∷ signed_decimal z ∷ [])

abbrev pub scan_text : Text → ScanErr → Text
scan_text variable scan.Overflow = codes "40 Overflow"
scan_text variable scan.ZeroDivide = codes "41 ZeroDivide"
scan_text variable (scan.SubrangeLeft k z) = subrange_text variable z
scan_text variable scan.Budget = codes "43 Budget"

-- why a script stops at a line
abbrev pub stop_text : StopWhy → Text
stop_text (stop.OutOfRange z) = joined (codes "26 OutOfRange value " ∷ signed_decimal z ∷ [])
stop_text stop.NotEnabled = codes "27 NotEnabled"
stop_text stop.BadLine = codes "29 BadLine"

-- what is told of a file
abbrev pub file_line : Text → Text → Text
file_line name what = joined (codes "cif: " ∷ name ∷ codes ": " ∷ what ∷ codes "\n" ∷ [])

-- what is told of a row, a line or a scan of a file, counted from 1
abbrev pub place_line : Text → Text → ℕ → Text → Text
place_line name place k what = joined (codes "cif: " ∷ name ∷ place ∷ decimal k ∷ codes ": " ∷ what ∷ codes "\n" ∷ [])

abbrev pub scan_line : Text → ℕ → Text → Text
scan_line name k what = place_line name (codes ": row ") k what

-- a file that may have so many bytes
abbrev pub too_big_line : Text → ℕ → Text
too_big_line name most = joined (codes "cif: " ∷ name ∷ codes " is longer than " ∷ decimal most ∷ codes " bytes\n" ∷ [])

-- the line of a status that tells of the variable or event of this name, or of a file that may have so many bytes
abbrev pub line_of : List Text → Text → ℕ → Status → Text
line_of words variable limit status.Done = []
line_of words variable limit status.Usage = codes "cif: not a command line\n"
line_of words variable limit (status.ReadFault k) = joined (codes "cif: cannot read " ∷ word words k ∷ codes "\n" ∷ [])
line_of words variable limit status.WriteFault = codes "cif: cannot write\n"
line_of words variable limit status.Memory = codes "cif: out of memory\n"
line_of words variable limit (status.TooBig k) = too_big_line (word words k) limit
line_of words variable limit (status.Refused why) = file_line (word words 1) (refusal_text variable why)
line_of words variable limit (status.OutsideProfile why) = file_line (word words 1) (profile_text variable why)
line_of words variable limit (status.StRefused why) = file_line (word words 1) (st_refusal_text variable why)
line_of words variable limit (status.RowRefused why) = file_line (word words 2) (row_text why)
line_of words variable limit (status.ScanFault k e) = scan_line (word words 1) k (scan_text variable e)
line_of words variable limit (status.Budget k) = scan_line (word words 1) k (scan_text variable scan.Budget)
line_of words variable limit (status.Stopped k why) = place_line (word words 2) (codes ": line ") k (stop_text why)
line_of words variable limit (status.BadTrace log k) = place_line (log_word words log) (codes ": scan ") k (codes "not legal")
line_of words variable limit (status.LogRefused log k) = place_line (log_word words log) (codes ": line ") k (codes "53 LogLine")
line_of words variable limit status.NoEvent = codes "cif: 54 NoEvent\n"

-- the line of a command that ended so
abbrev pub line_at : List Text → Ended → Text
line_at words e = line_of words e.variable e.limit e.status
