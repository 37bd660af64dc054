-- Helper of the code: how many declarations components have, by their bodies.
use Rattle.std.specs.Prelude.{ℕ, zero, suc, ◌+◌, List, length, Option, Some, None, slice_get}
use Rattle.cif_source.specs.Objects.{decls_in}
use Rattle.cif_scope.specs.Written.{WrittenBody}
use Rattle.cif_inst_components.specs.declared.components.Component.{Component}
use Rattle.cif_inst_constants.specs.Numbers.{or_zero}

abbrev pub declaration_count : WrittenBody → ℕ
declaration_count w = length (decls_in w.body)

-- of a component, by those of the bodies
abbrev pub count_of : List ℕ → Option Component → ℕ
count_of counts None = 0
count_of counts (Some c) = or_zero (slice_get counts c.body)

-- of the first n components
abbrev pub counted_to : List ℕ → List Component → ℕ → ℕ
counted_to counts all zero = 0
counted_to counts all (suc n) = counted_to counts all n + count_of counts (slice_get all n)
