-- What the types of the code stand for.
use Rattle.std.specs.Prelude.{List, [], map, Option, Some, None}
use Rattle.std.specs.Borrow.{Bor}
use Rattle.grammar.specs.Pieces.{Text}
use Rattle.cif_sim_model.specs.Script as script
use Rattle.cif_base.specs.declared.types.Ty.{Ty}
use Rattle.cif_net.specs.Parts.{auto_tree, var_tree}
use Rattle.cif_net.specs.declared.automata.Auto.{Auto}
use Rattle.cif_net.specs.declared.data.Var.{Var}
use Rattle.cif_sim_model.specs.Names.{AutomatonNames, ValueNames}
use Rattle.cif_sim_names.specs.Nets.{auto_names, stored_names, values_of}
use Rattle.cif_script.specs.declared.action.Action.{Action}
use Rattle.cif_script.specs.declared.action.Action.TheVariants.{Idle, Set, Fire}

abbrev pub action_of : Action → script.Action
action_of Idle = script.idle
action_of (Set input value) = script.sets input value
action_of (Fire event) = script.fires event

-- the lines of a text, or none where there is no text
abbrev pub lines_of_rest : Option (Bor Text) → List Text
lines_of_rest None = []
lines_of_rest (Some text) = script.script_lines text.now

-- the parts of what stands behind a blank, if there is one
abbrev pub parts_of_rest : Option (Bor Text) → List Text
parts_of_rest None = []
parts_of_rest (Some text) = script.parts_of text.now

-- ---- names

abbrev pub stored_of : Text → Ty → List Text → ValueNames
stored_of path type_of literals = record { path = path; values = values_of type_of literals }

abbrev pub autos_named : List Auto → List AutomatonNames
autos_named autos = map auto_names (map auto_tree autos)

abbrev pub vars_named : List Var → List ValueNames
vars_named vars = map stored_names (map var_tree vars)
