-- Sources that are accepted.
use Rattle.std.specs.Prelude.{◌≡◌}
use Rattle.cif_ast.specs.Countable.{IsCountable}
use Rattle.cif_ast.specs.SmallNumbers.{HasSmallNumbers}
use Rattle.cif_ast.specs.declared.components.Spec.{Spec}
use Rattle.cif_source.specs.Source.{Source, source_of}
use Rattle.cif_inst_model.specs.WellFormed.{Broken, Refusal}

-- It is that of a tree that is countable and has small numbers, as each that is read of a text does, and it breaks no rule.
pub record IsAcceptable (t : Source) : Type 0 where
  pub tree : Spec
  pub is : t ≡ source_of tree
  pub countable : IsCountable tree
  pub small : HasSmallNumbers tree
  pub keeps : (r : Refusal) → Broken t r → ⊥
