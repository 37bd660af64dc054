use Rattle.std.proofs.Common.{◌∙◌, map, ap}
use Rattle.cif_ast.specs.View.{view}
use Rattle.cif_source.specs.Source.{Text}
use Rattle.cif_inst.specs.Equations.{values_in, with_value}
use Rattle.cif_inst.proofs.EquationLaws.{put-is}
use Rattle.cif_inst.proofs.equations.Equations.put.Goals as goal

pub returns : goal.returns
returns c =
    ap (λ es. map (λ e. (e.0.items, view e.1.now)) es) c.in_ok-insert.ensures.entries
    ∙ put-is (λ k. k.items) (λ v. view v.now) c.in_ok-key.key c.args.value c.args.self.now.firsts.entries
    ∙ ap (λ (x : Text). with_value (values_in c.args.self.now) x (view c.args.value.now)) (c.in_ok-key.ensures.items ∙ c.as_slice.ensures)
