-- Why no rule up to those on instances is broken.
use Rattle.std.proofs.Common.{ℕ, ◌⊎◌, inl, inr, arith}
use Rattle.cif_source.specs.Source.{Source}
use Rattle.cif_source.specs.Objects.{components_of}
use Rattle.cif_source.specs.InstanceRules.{ConstantRangeDue, FaultyConstant, LeavesRange, LongBound, EmptyRange}
use Rattle.cif_inst_constants.specs.Constants.{BoundsDue}
use Rattle.cif_scope.specs.Scopes.{KeepsScoping}
use Rattle.cif_types.specs.Kinds.{KeepsKinds}
use Rattle.cif_inst_model.specs.WellFormed.{unknown, duplicate, wrong_kind, definition_cycle, mismatch, not_constant, initials, not_own, assigned_twice, equations, alphabet_lacks, role_mixed, too_many_objects, constant_range, alg_cycle, zero_divisor, too_wide, invariant_reads_input, invariant_false, too_large, too_many_choices, algebraic, KeepsBefore}
use Rattle.cif_inst_model.proofs.StandingLaws.{any-member}
use Rattle.cif_inst_model.proofs.RuleLaws.{member-any}
use Rattle.cif_inst.specs.Net.{KeepsInstances}

-- ---- constants

-- what is due of bounds is due of constant expressions
pub bounds_kept : (t : Source) → ((at : ℕ) → ConstantRangeDue t at → ⊥) → (at : ℕ) → BoundsDue t at → ⊥
bounds_kept t h at due =
    let c = any-member _ (components_of t) due in
    h at (member-any (λ c. FaultyConstant c at ⊎ LeavesRange c at ⊎ LongBound c at ⊎ EmptyRange c at) c.0 (components_of t) c.1
    (elim c.2 [
      | inl w ↦ inl w
      | inr v ↦ inr (inr v)
    ]))

-- ---- all

pub kept_before : (t : Source) → KeepsScoping t → KeepsKinds t → KeepsInstances t → KeepsBefore t algebraic
kept_before t s k i (unknown at) h b = s.known at b
kept_before t s k i (duplicate at first) h b = s.single at first b
kept_before t s k i (wrong_kind at) h b = s.fitting at b
kept_before t s k i (definition_cycle at) h b = s.acyclic at b
kept_before t s k i (mismatch at) h b = k.mismatch at b
kept_before t s k i (not_constant at) h b = k.constant at b
kept_before t s k i (initials at count) h b = k.started at count b
kept_before t s k i (not_own at) h b = k.own at b
kept_before t s k i (assigned_twice at) h b = k.once at b
kept_before t s k i (equations at count) h b = k.single at count b
kept_before t s k i (alphabet_lacks at) h b = i.alphabets at b
kept_before t s k i (role_mixed at) h b = i.roles at b
kept_before t s k i (too_many_objects count) h b = i.few count b
kept_before t s k i (constant_range at) h b = i.ranges at b
kept_before t s k i (alg_cycle alg) h b = absurd (omega (arith, h))
kept_before t s k i (zero_divisor at) h b = absurd (omega (arith, h))
kept_before t s k i (too_wide at) h b = absurd (omega (arith, h))
kept_before t s k i (invariant_reads_input at) h b = absurd (omega (arith, h))
kept_before t s k i (invariant_false at) h b = absurd (omega (arith, h))
kept_before t s k i (too_large nodes depth) h b = absurd (omega (arith, h))
kept_before t s k i (too_many_choices count) h b = absurd (omega (arith, h))
