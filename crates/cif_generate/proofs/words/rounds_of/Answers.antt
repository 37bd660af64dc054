use Rattle.std.proofs.Common.{subst, sym}
use Rattle.cif_generate.specs.Words.{IsRounds}
use Rattle.cif_generate.proofs.WordLemmas.{no_number, number_is, not_low, not_high}
use Rattle.cif_generate.proofs.words.rounds_of.Goals as goal

pub returns-in_err-rounds-clause-none : goal.returns-in_err-rounds-clause-none
returns-in_err-rounds-clause-none c e n h =
    no_number c.as_bytes.result.now c.read_int.result c.in_err-rounds.was c.read_int.ensures.read n (subst (λ w. IsRounds w n) (sym c.as_bytes.ensures.value) h)

pub returns-then-rounds-lt1-clause-none : goal.returns-then-rounds-lt1-clause-none
returns-then-rounds-lt1-clause-none c e n h =
    not_low n c.in_ok-rounds.rounds
    (number_is c.as_bytes.result.now c.read_int.result c.in_ok-rounds.rounds c.in_ok-rounds.was c.read_int.ensures.read n (subst (λ w. IsRounds w n) (sym c.as_bytes.ensures.value) h))
    h.1 h.2 c.if-rounds-lt1.true

pub returns-then-rounds-gt-MOST_ROUNDS-clause-none : goal.returns-then-rounds-gt-MOST_ROUNDS-clause-none
returns-then-rounds-gt-MOST_ROUNDS-clause-none c e n h =
    not_high n c.in_ok-rounds.rounds
    (number_is c.as_bytes.result.now c.read_int.result c.in_ok-rounds.rounds c.in_ok-rounds.was c.read_int.ensures.read n (subst (λ w. IsRounds w n) (sym c.as_bytes.ensures.value) h))
    h.2 c.if-rounds-gt-MOST_ROUNDS.true
