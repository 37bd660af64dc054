use Rattle.std.proofs.Common.{◌++◌, Some, sym, ap, ◌∙◌}
use Rattle.std.specs.Ordering.{int_eq}
use Rattle.std.proofs.lemmas.List.{append-nil}
use Rattle.cif_net.specs.Parts.{var_tree}
use Rattle.grammar.specs.Pieces.{Text}
use Rattle.cif_sim_model.specs.Texts.{value_told}
use Rattle.cif_sim_names.specs.Nets.{stored_names}
use Rattle.cif_script.proofs.Listing.{got, nothing_there}
use Rattle.cif_script.proofs.Within.{told_none, told_one}
use Rattle.cif_script.proofs.writing.put_value_at.Goals as goal

pub returns-in_ok-put_new_value : goal.returns-in_ok-put_new_value
returns-in_ok-put_new_value c =
    c.in_ok-put_new_value.ensures
    ∙ ap (λ (t : Text). c.args.into.now.items ++ t)
    (told_one var_tree stored_names int_eq value_told c.args.vars.now c.args.before.now c.args.after.now c.args.at c.in-Some.var.now c.item_at-old.result c.item_at-new.result
    (got (Some c.in-Some.var) c.args.vars.now c.args.at c.in-Some.ensures.lookup.0 c.in-Some.ensures.lookup.1) c.item_at-old.ensures c.item_at-new.ensures)

pub returns-in_default : goal.returns-in_default
returns-in_default c =
    sym (append-nil c.args.into.now.items)
    ∙ ap (λ (t : Text). c.args.into.now.items ++ t)
    (told_none var_tree stored_names int_eq value_told c.args.vars.now c.args.before.now c.args.after.now c.args.at
    (nothing_there c.get.result _ c.in_default.not-Some (got c.get.result c.args.vars.now c.args.at c.get.ensures.lookup.0 c.get.ensures.lookup.1)))
