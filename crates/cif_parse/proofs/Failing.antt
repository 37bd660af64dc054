-- An error that is told at another place.
use Rattle.std.proofs.Common.{◌≡◌, Option, None, refl}
use Rattle.cif_parse_expr.specs.Gives.{Fails}
use Rattle.cif_parse_expr.specs.declared.error.ReadError.{ReadError}
use Rattle.cif_parse_expr.specs.declared.error.ReadError.TheVariants.{Memory, NotRead, TooDeep}

none_fails : {Y : Type 0} (told : ReadError) (read : Option Y) → read ≡ None → Fails told read
none_fails Memory read e = tt
none_fails (NotRead left) read e = e
none_fails TooDeep read e = e

pub still_fails : {Y : Type 0} (error told : ReadError) (read : Option Y) → (error ≡ Memory → told ≡ Memory) → Fails error read → Fails told read
still_fails Memory told read same h = let is : told ≡ Memory = same refl in rw is tt
still_fails (NotRead left) told read same h = none_fails told read h
still_fails TooDeep told read same h = none_fails told read h
