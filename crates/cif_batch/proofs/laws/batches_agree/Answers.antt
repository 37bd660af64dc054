use Rattle.cif_batch.proofs.CaseLaws.{not_both, one_stop}
use Rattle.cif_batch.proofs.laws.batches_agree.Goals as goal

pub returns-clause-stopped : goal.returns-clause-stopped
returns-clause-stopped c = one_stop

pub returns-clause-either : goal.returns-clause-either
returns-clause-either c = λ p cases texts n r o h f. not_both p cases h.all n r o f
