use Rattle.cif_net.specs.View.{net_tree}
use Rattle.cif_alg_measure.specs.Meanings.{ranges_of}
use Rattle.cif_alg_measure.proofs.WidthLaws.{all-divide, all-narrow, some-fault}
use Rattle.cif_alg_measure.proofs.widths.check_widths.Goals as goal

pub returns-clause-divides : goal.returns-clause-divides
returns-clause-divides c = all-divide (ranges_of c.args.ranges.now) (net_tree c.args.net.now) (c.nets_are_nets.ensures c.args.net.now) c.check_net.result c.check_net.ensures

pub returns-clause-narrow : goal.returns-clause-narrow
returns-clause-narrow c = all-narrow (ranges_of c.args.ranges.now) (net_tree c.args.net.now) (c.nets_are_nets.ensures c.args.net.now) c.check_net.result c.check_net.ensures

pub returns-clause-fault : goal.returns-clause-fault
returns-clause-fault c = some-fault (ranges_of c.args.ranges.now) (net_tree c.args.net.now) (c.nets_are_nets.ensures c.args.net.now) c.check_net.result c.check_net.ensures
