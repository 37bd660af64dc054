-- A net that passes the tests of its intervals and its size breaks no rule.
use Rattle.std.proofs.Common.{◌≡◌, true, false, sym, ◌∙◌}
use Rattle.std.specs.List.{list_all}
use Rattle.cif_net_model.specs.Net.{Net}
use Rattle.cif_net_model.specs.Counts.{is_too_large}
use Rattle.cif_net_model.specs.Rules.{IsAcyclic, evaluated}
use Rattle.cif_net_model.proofs.PlainLaws.{never}
use Rattle.cif_alg_measure.specs.Rules.{declared_divides, declared_is_narrow}
use Rattle.cif_alg_measure.proofs.IntervalLaws.{none-divides, none-wide}
use Rattle.cif_alg.specs.Keeps.{KeepsExpressions}

pub keeps : (n : Net) → IsAcyclic n → list_all (declared_divides n) (evaluated n) ≡ true → list_all (declared_is_narrow n) (evaluated n) ≡ true → is_too_large n ≡ false → KeepsExpressions n
keeps n acyclic divides narrow small = record {
  acyclic = λ alg c. acyclic alg c.0;
  divides = none-divides n divides;
  narrow = none-wide n narrow;
  small = λ nodes depth w. never (sym small ∙ w.1);
}
