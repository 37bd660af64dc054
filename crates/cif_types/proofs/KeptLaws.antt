-- A source that the checks let pass keeps the rules on kinds, and what they tell is due.
use Rattle.std.proofs.Common.{◌≡◌, ℕ, inl, inr, length, None}
use Rattle.std.specs.Prelude.{◌⊎◌}
use Rattle.cif_system.proofs.Lists.{slice_get-below}
use Rattle.cif_source.specs.Source.{Source}
use Rattle.cif_source.specs.Objects.{bodies}
use Rattle.cif_source.specs.BodyRules.{BadValue, BadUse, BadArgument, MismatchDue, NotConstantDue, NotOwnDue, AssignedTwiceDue, EquationsDue}
use Rattle.cif_scope.proofs.IndexLaws.{of-any}
use Rattle.cif_types_constancy.specs.Due.{ConstancyDue}
use Rattle.cif_types_constancy.specs.declared.error.ConstancyErr.{ConstancyErr}
use Rattle.cif_types_constancy.specs.declared.error.ConstancyErr.TheVariants as constancy
use Rattle.cif_types_targets.specs.Faults as targets
use Rattle.cif_types_targets.specs.declared.error.TargetErr.{TargetErr}
use Rattle.cif_types_targets.specs.declared.error.TargetErr.TheVariants as target
use Rattle.cif_types_equations.specs.Faults as equations
use Rattle.cif_types_equations.specs.declared.error.EquationErr.{EquationErr}
use Rattle.cif_types_equations.specs.declared.error.EquationErr.TheVariants as equation
use Rattle.cif_types_kinds.specs.declared.error.KindErr.{KindErr}
use Rattle.cif_types_kinds.specs.declared.error.KindErr.TheVariants as kind
use Rattle.cif_types.specs.Bodies.{AreFine, MismatchTold}
use Rattle.cif_types.specs.Errors.{kind_error, constancy_error, target_error, equation_error}
use Rattle.cif_types.specs.Initials.{initials_in}
use Rattle.cif_types.specs.Kinds.{KeepsKinds, due}
use Rattle.cif_types.proofs.InitialLaws.{started}

-- where all bodies are fine, the rule on kinds is kept
pub fine : (t : Source) → AreFine t (length (bodies t)) → (at : ℕ) → MismatchDue t at → ⊥
fine t all at bad =
    let b = of-any (λ c. BadValue c at ⊎ BadUse c at ⊎ BadArgument c at) (bodies t) bad in
    let body = all b.0 (slice_get-below (bodies t) b.0 b.1 b.2) in
    elim b.3 [
      | inl w ↦ body.values b.1 b.2 at w
      | inr v ↦ elim v [
        | inl w ↦ body.events b.1 b.2 at w
        | inr w ↦ body.arguments b.1 b.2 at w
      ]
    ]

pub kept : (t : Source) → initials_in t ≡ None → ((at : ℕ) → NotConstantDue t at → ⊥) → ((at : ℕ) → NotOwnDue t at → ⊥) → ((at : ℕ) → AssignedTwiceDue t at → ⊥)
    → ((at count : ℕ) → EquationsDue t at count → ⊥) → AreFine t (length (bodies t)) → KeepsKinds t
kept t initials constant own once single all = record {
  mismatch = fine t all;
  constant = constant;
  started = started t initials;
  own = own;
  once = once;
  single = single;
}

-- ---- what is told

pub kind_due : (t : Source) (e : KindErr) → MismatchTold t e → due t (kind_error e)
kind_due t (kind.Mismatch at) h = h
kind_due t kind.Memory h = tt

pub constancy_due : (t : Source) (e : ConstancyErr) → ConstancyDue t e → due t (constancy_error e)
constancy_due t (constancy.NotConstant at) h = h
constancy_due t constancy.Memory h = tt

pub target_due : (t : Source) (e : TargetErr) → targets.due t e → due t (target_error e)
target_due t (target.NotOwn at) h = h
target_due t (target.AssignedTwice at) h = h
target_due t target.Memory h = tt

pub equation_due : (t : Source) (e : EquationErr) → equations.due t e → due t (equation_error e)
equation_due t (equation.Equations at count) h = h
equation_due t equation.Memory h = tt
