-- Which refusal of a source is due, and which sources are well-formed and which are in the profile.
use Rattle.std.specs.Prelude.{ℕ, ◌<◌}
use Rattle.cif_source.specs.Source.{Source}
use Rattle.cif_source.specs.Scoping.{UnknownDue, DuplicateDue, WrongKindDue, DefinitionCycleDue}
use Rattle.cif_source.specs.BodyRules.{MismatchDue, NotConstantDue, InitialsDue, NotOwnDue, AssignedTwiceDue, EquationsDue}
use Rattle.cif_source.specs.InstanceRules.{AlphabetLacksDue, RoleMixedDue, TooManyObjectsDue, ConstantRangeDue}
use Rattle.cif_inst_model.specs.NetRules.{AlgCycleDue, ZeroDivisorDue, TooWideDue, InvariantReadsInputDue, InvariantFalseDue, TooLargeDue, TooManyChoicesDue, UnclassedDue}

-- a refusal of a source that has a tree, with its fields
pub data Refusal : Type 0 where
  unknown : (at : ℕ) → Refusal
  duplicate : (at first : ℕ) → Refusal
  wrong_kind : (at : ℕ) → Refusal
  definition_cycle : (at : ℕ) → Refusal
  mismatch : (at : ℕ) → Refusal
  not_constant : (at : ℕ) → Refusal
  initials : (at count : ℕ) → Refusal
  not_own : (at : ℕ) → Refusal
  assigned_twice : (at : ℕ) → Refusal
  equations : (at count : ℕ) → Refusal
  alphabet_lacks : (at : ℕ) → Refusal
  role_mixed : (at : ℕ) → Refusal
  too_many_objects : (count : ℕ) → Refusal
  constant_range : (at : ℕ) → Refusal
  alg_cycle : (alg : ℕ) → Refusal
  zero_divisor : (at : ℕ) → Refusal
  too_wide : (at : ℕ) → Refusal
  invariant_reads_input : (at : ℕ) → Refusal
  invariant_false : (at : ℕ) → Refusal
  too_large : (nodes depth : ℕ) → Refusal
  too_many_choices : (count : ℕ) → Refusal

-- its rule is broken, with these fields
abbrev pub Broken : Source → Refusal → Type 0
Broken t (unknown at) = UnknownDue t at
Broken t (duplicate at first) = DuplicateDue t at first
Broken t (wrong_kind at) = WrongKindDue t at
Broken t (definition_cycle at) = DefinitionCycleDue t at
Broken t (mismatch at) = MismatchDue t at
Broken t (not_constant at) = NotConstantDue t at
Broken t (initials at count) = InitialsDue t at count
Broken t (not_own at) = NotOwnDue t at
Broken t (assigned_twice at) = AssignedTwiceDue t at
Broken t (equations at count) = EquationsDue t at count
Broken t (alphabet_lacks at) = AlphabetLacksDue t at
Broken t (role_mixed at) = RoleMixedDue t at
Broken t (too_many_objects count) = TooManyObjectsDue t count
Broken t (constant_range at) = ConstantRangeDue t at
Broken t (alg_cycle alg) = AlgCycleDue t alg
Broken t (zero_divisor at) = ZeroDivisorDue t at
Broken t (too_wide at) = TooWideDue t at
Broken t (invariant_reads_input at) = InvariantReadsInputDue t at
Broken t (invariant_false at) = InvariantFalseDue t at
Broken t (too_large nodes depth) = TooLargeDue t nodes depth
Broken t (too_many_choices count) = TooManyChoicesDue t count

-- ---- phases

pub data Phase : Type 0 where
  scope kinds instances algebraic choices : Phase

-- they run in this order
abbrev pub order : Phase → ℕ
order scope = 0
order kinds = 1
order instances = 2
order algebraic = 3
order choices = 4

abbrev pub phase : Refusal → Phase
phase (unknown at) = scope
phase (duplicate at first) = scope
phase (wrong_kind at) = scope
phase (definition_cycle at) = scope
phase (mismatch at) = kinds
phase (not_constant at) = kinds
phase (initials at count) = kinds
phase (not_own at) = kinds
phase (assigned_twice at) = kinds
phase (equations at count) = kinds
phase (alphabet_lacks at) = instances
phase (role_mixed at) = instances
phase (too_many_objects count) = instances
phase (constant_range at) = instances
phase (alg_cycle alg) = algebraic
phase (zero_divisor at) = algebraic
phase (too_wide at) = algebraic
phase (invariant_reads_input at) = algebraic
phase (invariant_false at) = algebraic
phase (too_large nodes depth) = algebraic
phase (too_many_choices count) = choices

-- no rule of an earlier phase is broken
abbrev pub KeepsBefore : Source → Phase → Type 0
KeepsBefore t p = (q : Refusal) → order (phase q) < order p → Broken t q → ⊥

-- the refusal belongs to the first phase in which a rule is broken
pub record Due (t : Source) (r : Refusal) : Type 0 where
  pub broken : Broken t r
  pub first_phase : KeepsBefore t (phase r)

-- none of the rules but that on the number of choices is broken
abbrev pub IsWellFormed : Source → Type 0
IsWellFormed t = KeepsBefore t choices

-- no rule is broken, and each event has a class
pub record IsInProfile (t : Source) : Type 0 where
  pub keeps : (r : Refusal) → Broken t r → ⊥
  pub classed : (event : ℕ) → UnclassedDue t event → ⊥
