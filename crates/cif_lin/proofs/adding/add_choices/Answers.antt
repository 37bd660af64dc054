use Rattle.std.proofs.Common.{map, arith}
use Rattle.std.proofs.lemmas.Grind.{common_steps}
use Rattle.cif_net.specs.View.{auto_tree}
use Rattle.cif_lin.specs.Parties.{cell_tree}
use Rattle.cif_lin.proofs.AddLaws.{too_many, few_enough}
use Rattle.cif_lin.proofs.adding.add_choices.Goals as goal

pub returns-then-count-gt-MOST_CHOICES : goal.returns-then-count-gt-MOST_CHOICES
returns-then-count-gt-MOST_CHOICES c =
    let e = too_many (map auto_tree c.args.net.now.autos) c.args.event (map cell_tree c.args.parties.now) c.args.all.now c.counted-count.result c.counted-count.ensures in
    grind (arith, common_steps, e)

pub returns : goal.returns
returns c =
    let e = few_enough (map auto_tree c.args.net.now.autos) c.args.event (map cell_tree c.args.parties.now) c.args.all.now c.add_numbers.new.all c.counted-count.result c.counted-count.ensures in
    grind (arith, common_steps, e)
