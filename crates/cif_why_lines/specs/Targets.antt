-- What the values of an edge go to, in the order of their numbers.
use Rattle.std.specs.Prelude.{ℕ, List, ◌++◌, map, option_to_list, Option, None, Some, option_and_then, slice_get}
use Rattle.std.specs.List.{zip}
use Rattle.grammar.specs.Pieces.{Text}
use Rattle.cif_net_expr.specs.Tree.{NetExpr, NetUpdates}
use Rattle.cif_net_model.specs.Net.{Net, NetAuto, NetEdge}
use Rattle.cif_net_model.specs.Exprs.{targets}
use Rattle.cif_why_model.specs.Told.{ValueTold}
use Rattle.cif_sim_names.specs.Nets.{event_path_in, paths_of_edge, value_told, variable_path_in}
use Rattle.cif_why_lines.specs.declared.targets.Target.{Target}
use Rattle.cif_why_lines.specs.declared.targets.Target.TheVariants.{Event, Variable}

abbrev pub assigned_targets : NetUpdates → List Target
assigned_targets us = map (λ v. Variable v) (targets us)

abbrev pub targets_of : NetEdge → List Target
targets_of x = map (λ (e : NetExpr). Event x.event) (option_to_list x.sent) ++ assigned_targets x.updates

abbrev pub target_path : Net → Target → Text
target_path n (Event e) = event_path_in n e
target_path n (Variable v) = variable_path_in n v

-- ---- a value by its number

-- where it has a place and a target
abbrev pub value_with : Net → Option ℕ → Option Target → Option ValueTold
value_with n None t = None
value_with n (Some p) None = None
value_with n (Some p) (Some t) = Some (value_told (p, target_path n t))

abbrev pub value_of_edge : Net → NetEdge → (number : ℕ) → Option ValueTold
value_of_edge n x number = slice_get (map value_told (zip x.places (paths_of_edge n x))) number

abbrev pub value_of_auto : Net → NetAuto → (edge number : ℕ) → Option ValueTold
value_of_auto n a j number = option_and_then (λ (x : NetEdge). value_of_edge n x number) (slice_get a.edges j)
