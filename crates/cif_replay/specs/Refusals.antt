-- Helper of the code: which status an error of a program or of rows leads to.
use Rattle.st_read.specs.declared.error.StErr.{StErr}
use Rattle.st_read.specs.declared.error.StErr.TheVariants as st
use Rattle.st_check.specs.declared.error.StCheckErr.{StCheckErr}
use Rattle.st_check.specs.declared.error.StCheckErr.TheVariants as check
use Rattle.plc_rows.specs.declared.error.RowErr.{RowErr}
use Rattle.plc_rows.specs.declared.error.RowErr.TheVariants as row
use Rattle.cif_run.specs.declared.status.Status.{Status}
use Rattle.cif_run.specs.declared.status.Status.TheVariants as status
use Rattle.cif_run.specs.declared.status.StRefusal.TheVariants as why

abbrev pub st_status_of : StErr → Status
st_status_of (st.StBadByte at) = status.StRefused (why.Text (st.StBadByte at))
st_status_of (st.StNumberTooBig at) = status.StRefused (why.Text (st.StNumberTooBig at))
st_status_of (st.StOpenComment at) = status.StRefused (why.Text (st.StOpenComment at))
st_status_of (st.StNotRead at) = status.StRefused (why.Text (st.StNotRead at))
st_status_of st.Memory = status.Memory

abbrev pub check_status_of : StCheckErr → Status
check_status_of (check.StUnknown k) = status.StRefused (why.Check (check.StUnknown k))
check_status_of (check.StDuplicate k) = status.StRefused (why.Check (check.StDuplicate k))
check_status_of (check.StMismatch k) = status.StRefused (why.Check (check.StMismatch k))
check_status_of (check.StNotAssignable k) = status.StRefused (why.Check (check.StNotAssignable k))
check_status_of (check.StInitRange k) = status.StRefused (why.Check (check.StInitRange k))
check_status_of check.Memory = status.Memory

abbrev pub row_status_of : RowErr → Status
row_status_of (row.Header c) = status.RowRefused (row.Header c)
row_status_of (row.Cell r c) = status.RowRefused (row.Cell r c)
row_status_of (row.RowLength r) = status.RowRefused (row.RowLength r)
row_status_of (row.TooManyRows n) = status.RowRefused (row.TooManyRows n)
row_status_of (row.CaseBoundary r) = status.RowRefused (row.CaseBoundary r)
row_status_of row.Memory = status.Memory
