use Rattle.std.proofs.Common.{◌∙◌}
use Rattle.cif_script.proofs.Listing.{got}
use Rattle.cif_script.proofs.writing.item_at.Goals as goal

pub returns : goal.returns
returns g c = c.copied.ensures ∙ got c.get.result c.args.items.now c.args.at c.get.ensures.lookup.0 c.get.ensures.lookup.1
