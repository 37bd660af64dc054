-- Helper of the code: a memory in which places take over the numbers of a row, one after the other, as far as both go.
use Rattle.std.specs.Prelude.{ℕ, ℤ, List, [], ◌∷◌, slice_set}
use Rattle.st_ast.specs.Values.{Memory}

abbrev pub stored : List ℤ → List ℕ → Memory → Memory
stored [] ks m = m
stored (z ∷ row) [] m = m
stored (z ∷ row) (k ∷ ks) m = stored row ks (slice_set m k z)
