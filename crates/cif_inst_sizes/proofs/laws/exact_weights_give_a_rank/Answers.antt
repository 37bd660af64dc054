use Rattle.cif_inst_sizes.proofs.WeightLaws.{weighed}
use Rattle.cif_inst_sizes.proofs.laws.exact_weights_give_a_rank.Goals as goal

pub returns : goal.returns
returns c l w are exact =
    let is = (weighed l w are).1.exact exact in
    (is.rank, is.is_rank)
