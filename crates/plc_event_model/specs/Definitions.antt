-- What is told of the definition of an algebraic variable, as one expression.
use Rattle.std.specs.Prelude.{◌≡◌, ◌≤◌, true, pos, None}
use Rattle.cif_system.specs.System.{IsState, State}
use Rattle.cif_net_model.specs.Net.{NetAlg, Net}
use Rattle.cif_net_model.specs.Counts.{measure}
use Rattle.cif_net_model.specs.Inline.{defined_by}
use Rattle.cif_net_model.specs.Kinds.{fits, kind_of}
use Rattle.cif_net_model.specs.Meaning.{defined_value, system_of_net}
use Rattle.cif_net_model.specs.Reads.{names_no_alg}
use Rattle.cif_net_model.specs.Safe.{IsSafe, value_at}
use Rattle.plc_event_model.specs.Asked.{setting_of}

-- It has the kind of the variable, names no algebraic variable, and is no deeper than a test may be. In each state it is safe,
-- and its value is that of the variable.
pub record IsDefinition (n : Net) (a : NetAlg) : Type 0 where
  pub fit : fits n None (kind_of a.type_of a.literals) (defined_by a) ≡ true
  pub names : names_no_alg (defined_by a) ≡ true
  pub low : (measure n (defined_by a)).depth ≤ 103
  pub safe : (s : State) → IsState (system_of_net n) s → IsSafe (setting_of n s (pos 0)) (defined_by a)
  pub value : (s : State) → value_at (setting_of n s (pos 0)) (defined_by a) ≡ defined_value n s a
