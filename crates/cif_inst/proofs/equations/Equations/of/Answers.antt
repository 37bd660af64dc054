use Rattle.std.proofs.Common.{◌∙◌, sym, ap}
use Rattle.std.specs.Option.{option_copied}
use Rattle.cif_ast.specs.View.{view}
use Rattle.cif_source.specs.Source.{Text}
use Rattle.cif_inst_types.specs.Types.{given_tree}
use Rattle.cif_inst.specs.Equations.{values_in, value_for}
use Rattle.cif_inst.proofs.EquationLaws.{found-is}
use Rattle.cif_inst.proofs.equations.Equations.of.Goals as goal

pub returns-in-Some : goal.returns-in-Some
returns-in-Some c =
    ap given_tree (ap option_copied (sym c.in-Some.is) ∙ c.get.ensures.value)
    ∙ found-is (λ k. k.items) (λ v. view v.now) c.as_slice.result.now c.args.self.now.firsts.entries
    ∙ ap (λ (x : Text). value_for x (values_in c.args.self.now)) c.as_slice.ensures

pub returns-in-None : goal.returns-in-None
returns-in-None c =
    ap given_tree (ap option_copied (sym c.in-None.is) ∙ c.get.ensures.value)
    ∙ found-is (λ k. k.items) (λ v. view v.now) c.as_slice.result.now c.args.self.now.firsts.entries
    ∙ ap (λ (x : Text). value_for x (values_in c.args.self.now)) c.as_slice.ensures
