use Rattle.std.proofs.Common.{map, sym, ◌∙◌, ap}
use Rattle.cif_net_expr.specs.View.{view}
use Rattle.cif_guard.proofs.GuardLaws.{test-none}
use Rattle.cif_guard.proofs.exclusions.tests_there.Goals as goal

pub returns-in-None : goal.returns-in-None
returns-in-None c = ap (map view) c.new.ensures ∙ sym (test-none c.args.exclusions.now c.args.place (sym c.in-None.ensures.value))
