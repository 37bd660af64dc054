-- Of what an expression that is not constant tells.
use Rattle.std.specs.Prelude.{ℕ}
use Rattle.cif_source.specs.Source.{Source}
use Rattle.cif_source.specs.BodyRules.{NotConstantDue}
use Rattle.cif_types_constancy.specs.declared.error.ConstancyErr.{ConstancyErr}
use Rattle.cif_types_constancy.specs.declared.error.ConstancyErr.TheVariants.{NotConstant, Memory}

-- the rule is broken at the place that is told; of want of memory nothing is said
abbrev pub ConstancyDue : Source → ConstancyErr → Type 0
ConstancyDue t (NotConstant at) = NotConstantDue t at
ConstancyDue t Memory = Unit {0}
