use Rattle.std.proofs.Common.{subst, sym}
use Rattle.cif_simulate.specs.Words.{IsSteps}
use Rattle.cif_simulate.proofs.WordLemmas.{no_number, number_is, not_low, not_high}
use Rattle.cif_simulate.proofs.words.steps_of.Goals as goal

pub returns-in_err-steps-clause-none : goal.returns-in_err-steps-clause-none
returns-in_err-steps-clause-none c e n h =
    no_number c.as_bytes.result.now c.read_int.result c.in_err-steps.was c.read_int.ensures.read n (subst (λ w. IsSteps w n) (sym c.as_bytes.ensures.value) h)

pub returns-then-steps-lt0-clause-none : goal.returns-then-steps-lt0-clause-none
returns-then-steps-lt0-clause-none c e n h =
    not_low n c.in_ok-steps.steps
    (number_is c.as_bytes.result.now c.read_int.result c.in_ok-steps.steps c.in_ok-steps.was c.read_int.ensures.read n (subst (λ w. IsSteps w n) (sym c.as_bytes.ensures.value) h))
    h.1 c.if-steps-lt0.true

pub returns-then-steps-gt-MOST_STEPS-clause-none : goal.returns-then-steps-gt-MOST_STEPS-clause-none
returns-then-steps-gt-MOST_STEPS-clause-none c e n h =
    not_high n c.in_ok-steps.steps
    (number_is c.as_bytes.result.now c.read_int.result c.in_ok-steps.steps c.in_ok-steps.was c.read_int.ensures.read n (subst (λ w. IsSteps w n) (sym c.as_bytes.ensures.value) h))
    h.1 c.if-steps-gt-MOST_STEPS.true
