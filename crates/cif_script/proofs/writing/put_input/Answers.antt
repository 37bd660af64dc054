use Rattle.std.proofs.Common.{◌≡◌, ◌++◌, sym, ap, subst, ◌∙◌, to_z, of_z, w64}
use Rattle.std.specs.Prelude.{OnOk}
use Rattle.std.proofs.lemmas.Int.{to_z-of_z}
use Rattle.std.proofs.lemmas.List.{append-nil}
use Rattle.cif_net.specs.Parts.{input_tree}
use Rattle.cif_net.specs.View.{net_tree}
use Rattle.grammar.specs.Pieces.{Text}
use Rattle.cif_sim_model.specs.Texts.{input_told, value_told}
use Rattle.cif_sim_names.specs.Nets.{names_of_net, stored_names}
use Rattle.cif_script.specs.Views.{stored_of}
use Rattle.cif_script.proofs.Listing.{nothing_there, nothing_told, told_at}
use Rattle.cif_script.proofs.writing.put_input.Goals as goal

pub returns-in-Some : goal.returns-in-Some
returns-in-Some c =
    let x = c.in-Some.input.now in
    let z = c.args.value in
    let same : value_told (stored_of x.path x.ty c.as_slice-literals.result.now, to_z w64 (of_z w64 z)) ≡ input_told (names_of_net (net_tree c.args.net.now)) c.args.input z =
    (λ i. value_told (stored_of x.path x.ty (c.as_slice-literals.ensures i), to_z-of_z w64 z c.ranges.value i))
    ∙ told_at input_tree stored_names (λ v. value_told (v, z)) c.args.net.now.inputs c.args.input x c.in-Some.ensures.value in
    subst (λ (t : Text). OnOk c.put_value.result (c.put_value.new.into.items ≡ c.args.into.now.items ++ t)) same c.put_value.ensures

pub returns : goal.returns
returns c =
    sym (append-nil c.args.into.now.items)
    ∙ ap (λ (t : Text). c.args.into.now.items ++ t)
    (nothing_told input_tree stored_names (λ v. value_told (v, c.args.value)) c.args.net.now.inputs c.args.input (nothing_there c.get.result _ c.in_default.not-Some c.get.ensures.value))
