-- Helper of the code: what a reader ensures, what reading the list gives, unless memory runs out.
use Rattle.std.specs.Prelude.{◌≡◌, Option, Some, None, Result, Ok, Err}
use Rattle.cif_parse_expr.specs.declared.error.ReadError.{ReadError}
use Rattle.cif_parse_expr.specs.declared.error.ReadError.TheVariants.{Memory, NotRead, TooDeep}

abbrev pub Fails : {Y : Type 0} → ReadError → Option Y → Type 0
Fails Memory read = Unit {0}
Fails (NotRead left) read = read ≡ None
Fails TooDeep read = read ≡ None

abbrev pub Gives : {X Y : Type 0} → (X → Y) → Result X ReadError → Option Y → Type 0
Gives view (Ok x) read = read ≡ Some (view x)
Gives view (Err e) read = Fails e read
