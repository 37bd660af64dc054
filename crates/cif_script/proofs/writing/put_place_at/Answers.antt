use Rattle.std.proofs.Common.{◌++◌, Some, sym, ap, ◌∙◌}
use Rattle.std.specs.Prelude.{nat_eq}
use Rattle.std.proofs.lemmas.List.{append-nil}
use Rattle.cif_net.specs.Parts.{auto_tree}
use Rattle.grammar.specs.Pieces.{Text}
use Rattle.cif_sim_model.specs.Texts.{place_told}
use Rattle.cif_sim_names.specs.Nets.{auto_names}
use Rattle.cif_script.proofs.Listing.{got, nothing_there}
use Rattle.cif_script.proofs.Within.{told_none, told_one}
use Rattle.cif_script.proofs.writing.put_place_at.Goals as goal

pub returns-in_ok-put_new_place : goal.returns-in_ok-put_new_place
returns-in_ok-put_new_place c =
    c.in_ok-put_new_place.ensures
    ∙ ap (λ (t : Text). c.args.into.now.items ++ t)
    (told_one auto_tree auto_names nat_eq place_told c.args.autos.now c.args.before.now c.args.after.now c.args.at c.in-Some.auto.now c.item_at-old.result c.item_at-new.result
    (got (Some c.in-Some.auto) c.args.autos.now c.args.at c.in-Some.ensures.lookup.0 c.in-Some.ensures.lookup.1) c.item_at-old.ensures c.item_at-new.ensures)

pub returns-in_default : goal.returns-in_default
returns-in_default c =
    sym (append-nil c.args.into.now.items)
    ∙ ap (λ (t : Text). c.args.into.now.items ++ t)
    (told_none auto_tree auto_names nat_eq place_told c.args.autos.now c.args.before.now c.args.after.now c.args.at
    (nothing_there c.get.result _ c.in_default.not-Some (got c.get.result c.args.autos.now c.args.at c.get.ensures.lookup.0 c.get.ensures.lookup.1)))
