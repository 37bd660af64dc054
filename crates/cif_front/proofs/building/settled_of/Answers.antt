use Rattle.std.proofs.Common.{rules}
use Rattle.cif_source.specs.Source.{source_of}
use Rattle.cif_net.specs.View.{net_tree}
use Rattle.cif_front.specs.Dues.{IsDueOf, alg_refusal}
use Rattle.cif_front.proofs.PhaseLaws.{alg_due}
use Rattle.cif_front.proofs.building.settled_of.Goals as goal

pub returns-in_err-settle-clause-refused : goal.returns-in_err-settle-clause-refused
returns-in_err-settle-clause-refused c =
    let told : IsDueOf (source_of c.args._spec.now) (alg_refusal c.in_err-settle.field-0.0) =
    alg_due (source_of c.args._spec.now) (net_tree c.args.net) c.requires.represents c.requires.kept c.in_err-settle.field-0.0 c.in_err-settle.ensures.refused in
    search rules
