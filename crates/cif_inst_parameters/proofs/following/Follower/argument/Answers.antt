use Rattle.cif_ast.specs.View.{view}
use Rattle.cif_source.specs.Source.{param_tree}
use Rattle.cif_inst_parameters.proofs.FollowLaws.{argument-given}
use Rattle.cif_inst_parameters.proofs.following.Follower.argument.Goals as goal

pub returns : goal.returns
returns c = λ t g from d fits.
    argument-given t c.args.self.now c.args.giver g from d (param_tree c.args.param.now) (view c.args.value.now) fits c.without_parentheses-inner.result c.without_parentheses-inner.ensures c.parentheses_at-at.result
    c.parentheses_at-at.ensures c.target-target.result (c.target-target.ensures t g from.looks from.is_number) c.followed.result c.followed.ensures c.unwrap_or.result c.unwrap_or.ensures
