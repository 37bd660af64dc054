-- Helper of the code: the names of a net as a generator has them.
use Rattle.std.specs.Prelude.{◌≡◌, ℕ, List, map, codes}
use Rattle.std.specs.List.{enumerate_from}
use Rattle.grammar.specs.Pieces.{Text}
use Rattle.cif_net_model.specs.Net.{NetAuto, NetStored, Net}
use Rattle.plc_model.specs.declared.letter.Letter.{Letter}
use Rattle.plc_model.specs.declared.letter.Letter.TheVariants as letter
use Rattle.plc_model.specs.Names.{name_for}
use Rattle.plc_expr.specs.declared.names.Names.{Names}
use Rattle.plc_expr.specs.declared.names.PlaceText.{PlaceText}
use Rattle.plc_expr.specs.declared.names.PlaceText.TheVariants as place

abbrev pub place_text : ℕ × NetAuto → PlaceText
place_text (k, a) = place.Held (name_for letter.L k a.path)

abbrev pub stored_name : Letter → ℕ × NetStored → Text
stored_name l (k, v) = name_for l k v.path

abbrev pub place_texts : Net → List PlaceText
place_texts n = map place_text (enumerate_from 0 n.autos)

abbrev pub variable_names : Net → List Text
variable_names n = map (stored_name letter.V) (enumerate_from 0 n.vars)

abbrev pub input_names : Net → List Text
input_names n = map (stored_name letter.H) (enumerate_from 0 n.inputs)

-- of what is there; the own variables hold the values of `if`s, and what is received has the name of each event
pub record AreNames (n : Net) (names : Names) : Type 0 where
  pub places : names.places ≡ place_texts n
  pub variables : names.variables ≡ variable_names n
  pub inputs : names.inputs ≡ input_names n
  pub own : names.own ≡ codes "if"
