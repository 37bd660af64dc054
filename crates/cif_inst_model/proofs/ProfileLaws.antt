-- Tests that tell of a source that it is in the profile.
use Rattle.std.proofs.Common.{◌≡◌, ℕ, ◌≤◌, pos, Bool, true, false, not, Some, None, refl, arith}
use Rattle.std.specs.Prelude.{slice_get}
use Rattle.std.specs.List.{list_all}
use Rattle.cif_system.specs.System.{Event, in_range, plain}
use Rattle.cif_system.specs.Step.{same_class, has_class}
use Rattle.cif_system.specs.Choices.{all_choices}
use Rattle.cif_system.proofs.Lists.{false-true}
use Rattle.cif_system.proofs.Picks.{all-at}
use Rattle.cif_net_model.specs.Net.{Net}
use Rattle.cif_net_model.specs.Interval.{interval}
use Rattle.cif_net_model.specs.Reads.{reads_input}
use Rattle.cif_net_model.specs.Parts.{parts, divisors, is_narrow}
use Rattle.cif_net_model.specs.Counts.{most_choices, is_too_large}
use Rattle.cif_net_model.specs.Rules.{Evaluated, evaluated, invariant_keeps}
use Rattle.cif_net_model.proofs.CycleLaws.{names_below, acyclic-by_number}
use Rattle.cif_net_model.proofs.Passing.{and-left, and-right, not-true, all-member}
use Rattle.cif_source.specs.Source.{Source}
use Rattle.cif_source.specs.Step.{system_of}
use Rattle.cif_inst_model.specs.Flat.{net_of_source}
use Rattle.cif_inst_model.specs.NetRules.{UnclassedDue}
use Rattle.cif_inst_model.specs.WellFormed.{Refusal, unknown, duplicate, wrong_kind, definition_cycle, mismatch, not_constant, initials, not_own, assigned_twice, equations, alphabet_lacks, role_mixed, too_many_objects, constant_range, alg_cycle, zero_divisor, too_wide, invariant_reads_input, invariant_false, too_large, too_many_choices, Broken, IsInProfile}
use Rattle.cif_inst_model.proofs.KeptLaws.{Kept, kept-before}

abbrev pub divides_in : Net → Evaluated → Bool
divides_in n x = list_all (λ d. not (in_range (interval n x.received d) (pos 0))) (divisors x.value)

abbrev pub is_narrow_in : Net → Evaluated → Bool
is_narrow_in n x = list_all (λ p. is_narrow (interval n x.received p)) (parts x.value)

abbrev pub has_a_class : Event → Bool
has_a_class e = not (same_class plain e.class)

pub record Clean (t : Source) : Type 0 where
  pub kept : Kept t
  pub acyclic : names_below 0 (net_of_source t).algs ≡ true
  pub divides : list_all (divides_in (net_of_source t)) (evaluated (net_of_source t)) ≡ true
  pub narrow : list_all (is_narrow_in (net_of_source t)) (evaluated (net_of_source t)) ≡ true
  pub invariants : list_all (invariant_keeps (net_of_source t)) (net_of_source t).invariants ≡ true
  pub small : is_too_large (net_of_source t) ≡ false
  pub choices : all_choices (system_of t) ≤ most_choices
  pub classes : list_all has_a_class (system_of t).events ≡ true

module _ (t : Source) (h : Clean t) where
  keeps-all : (r : Refusal) → Broken t r → ⊥
  keeps-all (unknown at) b = kept-before t h.kept (unknown at) (omega arith) b
  keeps-all (duplicate at first) b = kept-before t h.kept (duplicate at first) (omega arith) b
  keeps-all (wrong_kind at) b = kept-before t h.kept (wrong_kind at) (omega arith) b
  keeps-all (definition_cycle at) b = kept-before t h.kept (definition_cycle at) (omega arith) b
  keeps-all (mismatch at) b = kept-before t h.kept (mismatch at) (omega arith) b
  keeps-all (not_constant at) b = kept-before t h.kept (not_constant at) (omega arith) b
  keeps-all (initials at count) b = kept-before t h.kept (initials at count) (omega arith) b
  keeps-all (not_own at) b = kept-before t h.kept (not_own at) (omega arith) b
  keeps-all (assigned_twice at) b = kept-before t h.kept (assigned_twice at) (omega arith) b
  keeps-all (equations at count) b = kept-before t h.kept (equations at count) (omega arith) b
  keeps-all (alphabet_lacks at) b = kept-before t h.kept (alphabet_lacks at) (omega arith) b
  keeps-all (role_mixed at) b = kept-before t h.kept (role_mixed at) (omega arith) b
  keeps-all (too_many_objects count) b = kept-before t h.kept (too_many_objects count) (omega arith) b
  keeps-all (constant_range at) b = kept-before t h.kept (constant_range at) (omega arith) b
  keeps-all (alg_cycle alg) b = acyclic-by_number (net_of_source t) h.acyclic alg b.0
  keeps-all (zero_divisor at) b =
      let d = all-member (λ d. not (in_range (interval (net_of_source t) b.1.received d) (pos 0))) (divisors b.1.value) b.2 (all-member (divides_in (net_of_source t)) (evaluated (net_of_source t)) b.1 h.divides b.3) b.4 in
      false-true (not-true _ d) b.6
  keeps-all (too_wide at) b =
      let d = all-member (λ p. is_narrow (interval (net_of_source t) b.1.received p)) (parts b.1.value) b.2 (all-member (is_narrow_in (net_of_source t)) (evaluated (net_of_source t)) b.1 h.narrow b.3) b.4 in
      false-true b.6 d
  keeps-all (invariant_reads_input at) b =
      let d = all-member (invariant_keeps (net_of_source t)) (net_of_source t).invariants b.1 h.invariants b.2 in
      false-true (not-true (reads_input (net_of_source t) b.1.pred) (and-left _ _ d)) b.4
  keeps-all (invariant_false at) b =
      let d = all-member (invariant_keeps (net_of_source t)) (net_of_source t).invariants b.1 h.invariants b.2 in
      false-true b.5 (and-right _ _ d)
  keeps-all (too_large nodes depth) b = false-true h.small b.1
  keeps-all (too_many_choices count) b = absurd (omega (arith, h.choices, b.0))

  classed : (event : ℕ) → UnclassedDue t event → ⊥
  classed event u =
      (elim (slice_get (system_of t).events event) as (λ o. slice_get (system_of t).events event ≡ o → has_class plain o ≡ true → ⊥) [
        | None ↦ λ i g. false-true refl g
        | Some e ↦ λ i g. false-true (not-true (same_class plain e.class) (all-at has_a_class (system_of t).events event e h.classes i)) g
      ]) refl u.0

  pub in-profile : IsInProfile t
  in-profile = record { keeps = keeps-all; classed = classed }
