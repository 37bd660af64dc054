use Rattle.std.proofs.Common.{◌≡◌, ◌<◌, List, length, get_or, Some, sym, ap, subst, ◌∙◌, rules, FitsSigned, w64}
use Rattle.std.specs.Prelude.{option_and_then, option_map}
use Rattle.std.proofs.lemmas.Int.{to_z-of_z}
use Rattle.cif_net.specs.View.{net_tree}
use Rattle.cif_net.specs.declared.data.Input.{Input}
use Rattle.grammar.specs.Pieces.{Text}
use Rattle.cif_sim_model.specs.Script.{set_of, sets, value_read}
use Rattle.cif_sim_names.specs.Nets.{names_of_net, values_of}
use Rattle.cif_script.specs.Views.{action_of}
use Rattle.cif_script.proofs.Naming.{input_below, input_found, no_input}
use Rattle.cif_script.proofs.paths.Paths.set.Goals as goal

pub returns-in_err-input : goal.returns-in_err-input
returns-in_err-input c =
    let view : names_of_net (net_tree c.self.inside.net.now) ≡ c.args.self.now = c.self.view_is in
    ap (option_map action_of) c.from_residual.ensures
    ∙ ap (option_and_then (set_of c.args.value.now))
    (sym (no_input c.self.inside.net.now c.args.self.now c.self.inside.inputs c.args.name.now view c.self.invariant.of_inputs (sym c.number.ensures ∙ c.in_err-input.was)))

pub bounds-as_slice-input : goal.bounds-as_slice-input
bounds-as_slice-input c =
    let view : names_of_net (net_tree c.self.inside.net.now) ≡ c.args.self.now = c.self.view_is in
    let below = input_below c.self.inside.net.now c.args.self.now c.self.inside.inputs c.args.name.now view c.self.invariant.of_inputs c.in_ok-input.input (sym c.number.ensures ∙ c.in_ok-input.was) in
    subst (λ (is : List Input). c.in_ok-input.input < length is) (sym c.as_slice.ensures) below

pub returns-in_err-value : goal.returns-in_err-value
returns-in_err-value c =
    let view : names_of_net (net_tree c.self.inside.net.now) ≡ c.args.self.now = c.self.view_is in
    let n = c.in_ok-input.input in
    let x = c.index-as_slice-input.result in
    let is : x ≡ get_or c.self.inside.net.now.inputs n x = c.index-as_slice-input.is ∙ ap (λ (is : List Input). get_or is n x) c.as_slice.ensures in
    ap (option_map action_of) c.from_residual-in_err-value.ensures
    ∙ ap (option_map (sets n)) (sym c.in_err-value.was ∙ c.value_of.ensures ∙ ap (λ (ls : List Text). value_read (values_of x.ty ls) c.args.value.now) c.as_slice-2.ensures)
    ∙ ap (option_and_then (set_of c.args.value.now))
    (sym (input_found c.self.inside.net.now c.args.self.now c.self.inside.inputs c.args.name.now view c.self.invariant.of_inputs n x (sym c.number.ensures ∙ c.in_ok-input.was) is))

pub returns : goal.returns
returns c =
    let view : names_of_net (net_tree c.self.inside.net.now) ≡ c.args.self.now = c.self.view_is in
    let n = c.in_ok-input.input in
    let x = c.index-as_slice-input.result in
    let is : x ≡ get_or c.self.inside.net.now.inputs n x = c.index-as_slice-input.is ∙ ap (λ (is : List Input). get_or is n x) c.as_slice.ensures in
    let fits : FitsSigned w64 c.in_ok-value.value = search rules in
    ap (λ z. Some (sets n z)) (to_z-of_z w64 c.in_ok-value.value fits)
    ∙ ap (option_map (sets n)) (sym c.in_ok-value.was ∙ c.value_of.ensures ∙ ap (λ (ls : List Text). value_read (values_of x.ty ls) c.args.value.now) c.as_slice-2.ensures)
    ∙ ap (option_and_then (set_of c.args.value.now))
    (sym (input_found c.self.inside.net.now c.args.self.now c.self.inside.inputs c.args.name.now view c.self.invariant.of_inputs n x (sym c.number.ensures ∙ c.in_ok-input.was) is))
