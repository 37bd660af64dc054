-- The names of a source of which nets are made.
use Rattle.std.specs.Prelude.{ℕ}
use Rattle.cif_source.specs.BodyRules.{MismatchDue}
use Rattle.cif_inst_names.specs.Looking.{AreNamesOf, source_for}
use Rattle.cif_inst_names.specs.declared.looking.Looking.{Looking}

-- the names of a source whose kinds match
pub record AreMatchedNames (l : Looking) : Type 0 where
  pub names : AreNamesOf l
  pub matched : (at : ℕ) → MismatchDue (source_for l) at → ⊥
