use Rattle.cif_sim.proofs.Staying.{choice-stays}
use Rattle.cif_sim.proofs.laws.choices_leave_others.Goals as goal

pub returns : goal.returns
returns c = λ g k choice s at valid. choice-stays g k choice at s valid
