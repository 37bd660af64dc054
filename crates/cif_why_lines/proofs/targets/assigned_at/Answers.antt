use Rattle.cif_net_expr.specs.View.{view_updates}
use Rattle.cif_why_lines.specs.declared.targets.Search.TheVariants.{Found, Left}
use Rattle.cif_why_lines.proofs.SearchLaws.{search_finds}
use Rattle.cif_why_lines.proofs.targets.assigned_at.Goals as goal

pub returns-in-Found : goal.returns-in-Found
returns-in-Found c = search_finds (view_updates c.args.updates.now) c.args.number (Found c.in-Found.variable) c.in-Found.ensures

pub returns-in-Left : goal.returns-in-Left
returns-in-Left c = search_finds (view_updates c.args.updates.now) c.args.number (Left c.in-Left.field-0) c.in-Left.ensures
