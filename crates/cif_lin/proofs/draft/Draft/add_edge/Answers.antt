use Rattle.std.proofs.Common.{arith}
use Rattle.std.proofs.lemmas.Grind.{common_steps}
use Rattle.cif_lin.specs.Drafts.{draft_tree}
use Rattle.cif_lin.proofs.DraftLaws.{edge-added}
use Rattle.cif_lin.proofs.draft.Draft.add_edge.Goals as goal

pub returns : goal.returns
returns c =
    let e = edge-added (draft_tree c.args.self.now) c.add_sent.new.self c.args.edge.now c.append.new.self c.in_ok-copy_updates.field-0 in
    grind (arith, common_steps, e)
