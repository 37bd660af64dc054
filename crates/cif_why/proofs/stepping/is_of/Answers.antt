use Rattle.std.proofs.Common.{ℕ, nat_eq, ap, sym}
use Rattle.cif_system.specs.Step.{Choice}
use Rattle.cif_why.proofs.Steps.{choice-is}
use Rattle.cif_why.proofs.stepping.is_of.Goals as goal

pub returns : goal.returns
returns c = ap (λ (z : ℕ × Choice). nat_eq z.0 c.args.event) (sym (choice-is c.args.guarded.now c.args.choice c.chosen.result.now c.chosen.ensures))
