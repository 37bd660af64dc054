-- What the kinds of a source say of it, and why a source has none.
use Rattle.std.specs.Prelude.{ℕ}
use Rattle.cif_source.specs.Source.{Source}
use Rattle.cif_source.specs.BodyRules.{MismatchDue, NotConstantDue, InitialsDue, NotOwnDue, AssignedTwiceDue, EquationsDue}
use Rattle.cif_types_kinds.specs.Tables.{AreKindsIn}
use Rattle.cif_types.specs.declared.error.TypeErr.{TypeErr}
use Rattle.cif_types.specs.declared.error.TypeErr.TheVariants.{Mismatch, NotConstant, Initials, NotOwn, AssignedTwice, Equations, Memory}
use Rattle.cif_types.specs.declared.kinds.Kinds.{Kinds}

-- none of the rules on kinds is broken
pub record KeepsKinds (t : Source) : Type 0 where
  pub mismatch : (at : ℕ) → MismatchDue t at → ⊥
  pub constant : (at : ℕ) → NotConstantDue t at → ⊥
  pub started : (at count : ℕ) → InitialsDue t at count → ⊥
  pub own : (at : ℕ) → NotOwnDue t at → ⊥
  pub once : (at : ℕ) → AssignedTwiceDue t at → ⊥
  pub single : (at count : ℕ) → EquationsDue t at count → ⊥

-- its rules on kinds are kept, and the table has the kinds of all that it declares
pub record AreKindsOf (t : Source) (k : Kinds) : Type 0 where
  pub rules : KeepsKinds t
  pub table : AreKindsIn t k.table

-- the rule of the refusal is broken, with its fields
abbrev pub due : Source → TypeErr → Type 0
due t (Mismatch at) = MismatchDue t at
due t (NotConstant at) = NotConstantDue t at
due t (Initials at count) = InitialsDue t at count
due t (NotOwn at) = NotOwnDue t at
due t (AssignedTwice at) = AssignedTwiceDue t at
due t (Equations at count) = EquationsDue t at count
due t Memory = Unit {0}
