use Rattle.std.proofs.Common.{◌++◌, map, ap, ◌∙◌}
use Rattle.std.specs.Prelude.{codes}
use Rattle.std.specs.List.{zip}
use Rattle.grammar.specs.Pieces.{Text}
use Rattle.cif_sim_model.specs.Texts.{listed, place_told, value_told}
use Rattle.cif_script.specs.Views.{autos_named, vars_named}
use Rattle.cif_script.proofs.Listing.{start_parts}
use Rattle.cif_script.proofs.writing.put_start.Goals as goal

pub returns : goal.returns
returns c =
    c.in_ok-push.ensures.items
    ∙ ap (λ (t : Text). t ++ codes "\n")
    (c.in_ok-put_values.ensures
    ∙ (λ i. c.put_places.new.into.items ++ listed (map value_told (zip (vars_named (c.as_slice-3.ensures i)) (c.as_slice-4.ensures i))))
    ∙ ap (λ (t : Text). t ++ listed (map value_told (zip (vars_named c.args.net.now.vars) c.args.state.now.vals)))
    (c.in_ok-put_places.ensures
    ∙ (λ i. c.in_ok-extend_from_slice.ensures.items i ++ listed (map place_told (zip (autos_named (c.as_slice.ensures i)) (c.as_slice-2.ensures i))))))
    ∙ start_parts c.args.into.now.items (codes "start") (codes "\n")
    (map place_told (zip (autos_named c.args.net.now.autos) c.args.state.now.locs)) (map value_told (zip (vars_named c.args.net.now.vars) c.args.state.now.vals))
