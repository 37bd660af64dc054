use Rattle.std.proofs.Common.{◌++◌, List, None, ap, ◌∙◌}
use Rattle.cif_net_expr.specs.View.{view}
use Rattle.cif_net.specs.View.{net_tree}
use Rattle.st_ast.specs.declared.tree.StTy.{StTy}
use Rattle.plc_expr.specs.Sorts.{own_types}
use Rattle.plc_gen.proofs.BareLaws.{no_types}
use Rattle.plc_gen.proofs.bare.has_no_if.Goals as goal

pub returns : goal.returns
returns c =
    no_types (net_tree c.args.net.now) (view c.args.expr.now) c.own_types_of.new.types c.is_empty.result
    (c.in_ok-own_types_of.ensures ∙ ap (λ (ts : List StTy). ts ++ own_types (net_tree c.args.net.now) None (view c.args.expr.now)) c.new-types.ensures) c.is_empty.ensures
