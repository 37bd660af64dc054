use Rattle.std.proofs.Common.{map, arith}
use Rattle.std.proofs.lemmas.Grind.{common_steps}
use Rattle.std.proofs.lemmas.List.FromFn.{map-range_with_len_more}
use Rattle.cif_net.specs.View.{auto_tree}
use Rattle.cif_lin.specs.Cells.{choice_at}
use Rattle.cif_lin.specs.Parties.{cell_tree}
use Rattle.cif_lin.proofs.adding.add_numbers.Goals as goal

pub loop-number-preserved : goal.loop-number-preserved
loop-number-preserved c =
    let e = map-range_with_len_more (choice_at (map auto_tree c.args.net.now.autos) c.args.event (map cell_tree c.args.parties.now)) 0 c.loop-number.number c.loop-number.number (omega arith) in
    grind (arith, common_steps, e)
