use Rattle.std.proofs.Common.{map, arith}
use Rattle.std.proofs.lemmas.Grind.{common_steps}
use Rattle.cif_net.specs.View.{auto_tree}
use Rattle.cif_lin.proofs.DraftLaws.{staying-added, missing-added}
use Rattle.cif_lin.proofs.draft.Draft.add.Goals as goal

pub returns-in_ok-closed-in-None : goal.returns-in_ok-closed-in-None
returns-in_ok-closed-in-None c =
    let e = staying-added (map auto_tree c.args.net.now.autos) c.args.self.now c.args.party.now c.push.new.self c.append.new.self c.in_ok-closed-in-None.field-0 in
    grind (arith, common_steps, e)

pub returns-in-None-found_edge : goal.returns-in-None-found_edge
returns-in-None-found_edge c =
    let e = missing-added (map auto_tree c.args.net.now.autos) c.args.self.now c.args.party.now c.in-Some.edge c.push.new.self in
    grind (arith, common_steps, e)
