use Rattle.cif_alg.proofs.OutlineLaws.{outlined}
use Rattle.cif_alg.proofs.laws.outlines_have_the_nodes_of_their_net.Goals as goal

pub returns : goal.returns
returns c n own algs autos exclusions invariants stands measured large = outlined n own algs autos exclusions invariants stands measured large
