use Rattle.std.proofs.Common.{rules}
use Rattle.st_ast.specs.View.{view_expr}
use Rattle.st_read.proofs.Made.{made_product, made_sum, made_all, made_odd, made_any}
use Rattle.st_read.proofs.making.made.Goals as goal

pub returns-in_ok-factors-in-0 : goal.returns-in_ok-factors-in-0
returns-in_ok-factors-in-0 c = made_product c.product.result c.args.level (view_expr c.args.first) c.args.others _ c.in-0.is c.in_ok-factors-in-0.ensures c.product.ensures

pub returns-in_ok-terms-in-1 : goal.returns-in_ok-terms-in-1
returns-in_ok-terms-in-1 c = made_sum c.sum.result c.args.level (view_expr c.args.first) c.args.others _ c.in-1.is c.in_ok-terms-in-1.ensures c.sum.ensures

pub returns-in_ok-joined-in-4 : goal.returns-in_ok-joined-in-4
returns-in_ok-joined-in-4 c = made_all c.all_of.result c.args.level (view_expr c.args.first) c.args.others _ c.in_ok-joined-in-4.ensures c.in-4.is c.all_of.ensures

pub returns-in_ok-joined-in-5 : goal.returns-in_ok-joined-in-5
returns-in_ok-joined-in-5 c = made_odd c.odd_of.result c.args.level (view_expr c.args.first) c.args.others _ c.in_ok-joined-in-5.ensures c.in-5.is c.odd_of.ensures

pub returns-in_ok-joined-in_default : goal.returns-in_ok-joined-in_default
returns-in_ok-joined-in_default c =
    let go = made_any c.any_of.result c.args.level (view_expr c.args.first) c.args.others _ c.in_ok-joined-in_default.ensures in
    go (search rules) (search rules) (search rules) (search rules) (search rules) c.any_of.ensures
