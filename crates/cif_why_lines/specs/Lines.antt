-- The lines of reasons.
use Rattle.std.specs.Prelude.{ℕ, List, [], ◌++◌, codes, decimal, flat_map, Option, None, Some}
use Rattle.grammar.specs.Pieces.{Text}
use Rattle.cif_why_model.specs.Told.{Told}
use Rattle.cif_why_model.specs.Reasons.{Reason}
use Rattle.cif_why_model.specs.Lines.{reason_told}

abbrev pub lines_of : Told → List Reason → Text
lines_of t rs = flat_map (λ r. reason_told t r ++ codes "\n") rs

abbrev pub place_shown : Option ℕ → Text
place_shown None = []
place_shown (Some at) = decimal at
