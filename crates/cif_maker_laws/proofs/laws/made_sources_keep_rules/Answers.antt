use Rattle.std.proofs.Common.{ℕ, ◌<◌, ◌^◌, arith}
use Rattle.cif_maker_laws.proofs.Names.{all_known, all_of_their_sort}
use Rattle.cif_maker_laws.proofs.NoSubject.{no_cycle, constant_parts, one_initial, own_targets, assigned_once, no_equations}
use Rattle.cif_maker_laws.proofs.ValueKinds.{all_fit}
use Rattle.cif_maker_laws.proofs.DeclaredOnce.{no_duplicate}
use Rattle.cif_maker_laws.proofs.Alphabets.{no_lacking, no_mixed_role}
use Rattle.cif_maker_laws.proofs.MadeObjects.{not_too_many}
use Rattle.cif_maker_laws.proofs.ConstantRanges.{constants_fit}
use Rattle.cif_maker_laws.proofs.MadeNet.{no_alg_cycle, reads_no_input, none_false}
use Rattle.cif_maker_laws.proofs.MadeIntervals.{no_zero_divisor, not_too_wide}
use Rattle.cif_maker_laws.proofs.MadeChoices.{not_too_many_choices, all_classed}
use Rattle.cif_maker_laws.proofs.MadeNodes.{not_too_large}
use Rattle.cif_maker_laws.proofs.MadeProfile.{short}
use Rattle.cif_maker_laws.proofs.laws.made_sources_keep_rules.Goals as goal

pub returns-clause-unknown : goal.returns-clause-unknown
returns-clause-unknown c = λ seed size at short. all_known seed size short at

pub returns-clause-duplicate : goal.returns-clause-duplicate
returns-clause-duplicate c = λ seed size at first short. no_duplicate seed size short at first

pub returns-clause-wrong_kind : goal.returns-clause-wrong_kind
returns-clause-wrong_kind c = λ seed size at short. all_of_their_sort seed size short at

pub returns-clause-definition_cycle : goal.returns-clause-definition_cycle
returns-clause-definition_cycle c = no_cycle

pub returns-clause-mismatch : goal.returns-clause-mismatch
returns-clause-mismatch c = λ seed size at short. all_fit seed size short at

pub returns-clause-not_constant : goal.returns-clause-not_constant
returns-clause-not_constant c = constant_parts

pub returns-clause-initials : goal.returns-clause-initials
returns-clause-initials c = one_initial

pub returns-clause-not_own : goal.returns-clause-not_own
returns-clause-not_own c = own_targets

pub returns-clause-assigned_twice : goal.returns-clause-assigned_twice
returns-clause-assigned_twice c = assigned_once

pub returns-clause-alphabet_lacks : goal.returns-clause-alphabet_lacks
returns-clause-alphabet_lacks c = no_lacking

pub returns-clause-role_mixed : goal.returns-clause-role_mixed
returns-clause-role_mixed c = no_mixed_role

pub returns-clause-equations : goal.returns-clause-equations
returns-clause-equations c = no_equations

pub returns-clause-too_many_objects : goal.returns-clause-too_many_objects
returns-clause-too_many_objects c = not_too_many

pub returns-clause-constant_range : goal.returns-clause-constant_range
returns-clause-constant_range c = constants_fit

pub returns-clause-alg_cycle : goal.returns-clause-alg_cycle
returns-clause-alg_cycle c = no_alg_cycle

pub returns-clause-zero_divisor : goal.returns-clause-zero_divisor
returns-clause-zero_divisor c = λ seed size at short. no_zero_divisor seed size short at

pub returns-clause-too_wide : goal.returns-clause-too_wide
returns-clause-too_wide c = λ seed size at short. not_too_wide seed size short at

pub returns-clause-invariant_reads_input : goal.returns-clause-invariant_reads_input
returns-clause-invariant_reads_input c = reads_no_input

pub returns-clause-invariant_false : goal.returns-clause-invariant_false
returns-clause-invariant_false c = none_false

pub returns-clause-too_large : goal.returns-clause-too_large
returns-clause-too_large c = λ seed size nodes depth few. not_too_large seed size (short_of few) nodes depth few
  where
    short_of : {n : ℕ} → n < 10 ^ 4 → n < 10 ^ 64
    short_of l = omega arith

pub returns-clause-too_many_choices : goal.returns-clause-too_many_choices
returns-clause-too_many_choices c = λ seed size count few. not_too_many_choices seed size (short size few) count few

pub returns-clause-unclassed : goal.returns-clause-unclassed
returns-clause-unclassed c = all_classed
