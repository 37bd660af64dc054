use Rattle.std.proofs.Common.{sym, ap, ◌∙◌}
use Rattle.cif_net.specs.View.{alg_tree}
use Rattle.cif_net_expr.specs.View.{view}
use Rattle.cif_alg_unfold.specs.Defined.{definition_by}
use Rattle.cif_alg_unfold.specs.Tables.{by_table}
use Rattle.cif_alg_unfold.proofs.TableLaws.{set_made}
use Rattle.cif_alg_unfold.proofs.defining.define.Goals as goal

pub returns-clause-made : goal.returns-clause-made
returns-clause-made c =
    set_made c.args.algs.now c.args.by.now c.set.new.self c.args.number c.in-Some.alg.now c.into_inner.result (sym c.in-Some.ensures.value)
    (ap view c.into_inner.ensures ∙ c.in_ok-made.ensures ∙ ap (λ es. definition_by (by_table es) (alg_tree c.in-Some.alg.now)) c.as_slice.ensures) c.set.ensures
