use Rattle.std.proofs.Common.{map, ◌∙◌, ap, arith}
use Rattle.std.proofs.lemmas.Grind.{common_steps}
use Rattle.cif_net.specs.View.{auto_tree}
use Rattle.cif_lin.specs.Parties.{cell_tree}
use Rattle.cif_lin.specs.Drafts.{draft_tree}
use Rattle.cif_lin.proofs.DraftLaws.{choice-numbered}
use Rattle.cif_lin.proofs.choosing.choice_at.Goals as goal

pub returns : goal.returns
returns c =
    let d = ap draft_tree c.into_inner.ensures ∙ c.in_ok-drafted.ensures in
    let e = choice-numbered (map auto_tree c.args.net.now.autos) c.args.event (map cell_tree c.args.parties.now) c.args.count c.args.number (draft_tree c.into_inner.result) c.requires.counted c.requires.below d in
    grind (arith, common_steps, e)
