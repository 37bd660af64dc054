use Rattle.std.proofs.Common.{◌++◌, map, ap, ◌∙◌, arith, w64}
use Rattle.std.specs.Prelude.{codes, decimal, nat_eq}
use Rattle.std.specs.Fmt.{signed_decimal}
use Rattle.std.specs.Ordering.{int_eq}
use Rattle.std.proofs.lemmas.Int.{to_z_pos}
use Rattle.cif_net.specs.View.{net_tree}
use Rattle.grammar.specs.Pieces.{Text}
use Rattle.cif_sim_model.specs.Texts.{changed, event_path, listed, place_told, value_told}
use Rattle.cif_sim_names.specs.Nets.{names_of_net}
use Rattle.cif_script.specs.Views.{autos_named, vars_named}
use Rattle.cif_script.proofs.Listing.{step_parts}
use Rattle.cif_script.proofs.writing.put_step.Goals as goal

pub returns : goal.returns
returns c =
    let event = event_path (names_of_net (net_tree c.args.net.now)) c.args.event in
    let places = map place_told (changed nat_eq (autos_named c.args.net.now.autos) c.args.before.now.locs c.args.after.now.locs) in
    let values = map value_told (changed int_eq (vars_named c.args.net.now.vars) c.args.before.now.vals c.args.after.now.vals) in
    c.in_ok-push-2.ensures.items
    ∙ ap (λ (t : Text). t ++ codes "\n")
    (c.in_ok-put_new_values.ensures
    ∙ (λ i. c.put_new_places.new.into.items ++ listed (map value_told (changed int_eq (vars_named (c.as_slice-5.ensures i)) (c.as_slice-7.ensures i) (c.as_slice-8.ensures i))))
    ∙ ap (λ (t : Text). t ++ listed values)
    (c.in_ok-put_new_places.ensures
    ∙ (λ i. c.put_event.new.into.items ++ listed (map place_told (changed nat_eq (autos_named (c.as_slice.ensures i)) (c.as_slice-3.ensures i) (c.as_slice-4.ensures i))))
    ∙ ap (λ (t : Text). t ++ listed places)
    (c.in_ok-put_event.ensures
    ∙ ap (λ (t : Text). t ++ event)
    (c.in_ok-push.ensures.items
    ∙ ap (λ (t : Text). t ++ codes " ")
    (c.in_ok-put_int.ensures.ok ∙ (λ i. c.in_ok-extend_from_slice.ensures.items i ++ signed_decimal (to_z_pos w64 c.args.number (omega arith) i)))))))
    ∙ step_parts c.args.into.now.items (codes "step ") (decimal c.args.number) (codes " ") event (codes "\n") places values
