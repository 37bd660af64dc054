-- A made source breaks no rule, and each of its events has a class.
use Rattle.std.proofs.Common.{ℕ, ◌≤◌, ◌<◌, ◌^◌, arith}
use Rattle.cif_inst_model.specs.WellFormed.{Refusal, unknown, duplicate, wrong_kind, definition_cycle, mismatch, not_constant, initials, not_own, assigned_twice, equations, alphabet_lacks, role_mixed, too_many_objects, constant_range, alg_cycle, zero_divisor, too_wide, invariant_reads_input, invariant_false, too_large, too_many_choices, Broken, IsInProfile}
use Rattle.cif_maker_laws.proofs.Bodies.{made}
use Rattle.cif_maker_laws.proofs.Lookups.{IsShort}
use Rattle.cif_maker_laws.proofs.Names.{all_known, all_of_their_sort}
use Rattle.cif_maker_laws.proofs.NoSubject.{no_cycle, constant_parts, one_initial, own_targets, assigned_once, no_equations}
use Rattle.cif_maker_laws.proofs.ValueKinds.{all_fit}
use Rattle.cif_maker_laws.proofs.DeclaredOnce.{no_duplicate}
use Rattle.cif_maker_laws.proofs.Alphabets.{no_lacking, no_mixed_role}
use Rattle.cif_maker_laws.proofs.MadeObjects.{not_too_many}
use Rattle.cif_maker_laws.proofs.ConstantRanges.{constants_fit}
use Rattle.cif_maker_laws.proofs.MadeNet.{no_alg_cycle, reads_no_input, none_false}
use Rattle.cif_maker_laws.proofs.MadeIntervals.{no_zero_divisor, not_too_wide}
use Rattle.cif_maker_laws.proofs.MadeNodes.{not_too_large}
use Rattle.cif_maker_laws.proofs.MadeChoices.{not_too_many_choices, all_classed}

pub short : (size : ℕ) → size ≤ 2 ^ 13 → IsShort size
short size l = omega arith

few : (size : ℕ) → size ≤ 2 ^ 13 → size < 10 ^ 4
few size l = omega arith

module _ (seed size : ℕ) (l : size ≤ 2 ^ 13) where
  keeps : (r : Refusal) → Broken (made seed size) r → ⊥
  keeps (unknown at) = all_known seed size (short size l) at
  keeps (duplicate at first) = no_duplicate seed size (short size l) at first
  keeps (wrong_kind at) = all_of_their_sort seed size (short size l) at
  keeps (definition_cycle at) = no_cycle seed size at
  keeps (mismatch at) = all_fit seed size (short size l) at
  keeps (not_constant at) = constant_parts seed size at
  keeps (initials at count) = one_initial seed size at count
  keeps (not_own at) = own_targets seed size at
  keeps (assigned_twice at) = assigned_once seed size at
  keeps (equations at count) = no_equations seed size at count
  keeps (alphabet_lacks at) = no_lacking seed size at
  keeps (role_mixed at) = no_mixed_role seed size at
  keeps (too_many_objects count) = not_too_many seed size count (few size l)
  keeps (constant_range at) = constants_fit seed size at
  keeps (alg_cycle alg) = no_alg_cycle seed size alg
  keeps (zero_divisor at) = no_zero_divisor seed size (short size l) at
  keeps (too_wide at) = not_too_wide seed size (short size l) at
  keeps (invariant_reads_input at) = reads_no_input seed size at
  keeps (invariant_false at) = none_false seed size at
  keeps (too_large nodes depth) = not_too_large seed size (short size l) nodes depth (few size l)
  keeps (too_many_choices count) = not_too_many_choices seed size (short size l) count l

  pub in_profile : IsInProfile (made seed size)
  in_profile = record { keeps = keeps; classed = all_classed seed size }
