-- The text that is written for a net: which nets have a program, and which text is that of one.
use Rattle.std.specs.Prelude.{◌≡◌, ℕ, ◌+◌, ◌<◌, true, IsTrue, List, [], ◌∷◌, Option, Some, None, if◌then◌else◌}
use Rattle.grammar.specs.Pieces.{Text}
use Rattle.cif_system.specs.System.{plain}
use Rattle.cif_system.specs.Step.{is_of, same_class}
use Rattle.cif_net_model.specs.Net.{Net, NetEvent}
use Rattle.cif_net_model.specs.Meaning.{system_of_net}
use Rattle.cif_net_model.specs.Listing.{guarded_of}
use Rattle.st_print.specs.Layout.{printed}
use Rattle.cif_net_model.specs.Nesting.{is_shallow}
use Rattle.plc_event_model.specs.ProgramParts.{HasParts, net_program}

-- A plain net whose conditional updates nest no deeper than statements can, and these bounds. The literals of an enumeration
-- are numbered in 32 bits, and the program's own variables in 31.
pub record HasProgram (n : Net) (U C : ℕ) : Type 0 where
  pub parts : HasParts n (guarded_of n) U C
  pub shallow : is_shallow n ≡ true

-- the number of an event that is neither controllable nor uncontrollable
abbrev pub IsUnclassed : Net → ℕ → Type 0
IsUnclassed n e = IsTrue (is_of (system_of_net n) plain e)

-- each event has a class
abbrev pub AreClassed : Net → Type 0
AreClassed n = (e : ℕ) → IsUnclassed n e → ⊥

-- the event is the lowest-numbered one without a class
abbrev pub IsFirstUnclassed : Net → ℕ → Type 0
IsFirstUnclassed n e = IsUnclassed n e × ((k : ℕ) → k < e → IsUnclassed n k → ⊥)

-- the text is the printed program of the net, with these most rounds of each class in a scan
pub record IsTextOf (n : Net) (U C : ℕ) (text : Text) : Type 0 where
  pub has : HasProgram n U C
  pub classed : AreClassed n
  pub is : text ≡ printed (net_program n (guarded_of n) U C)

-- the first of the events without a class, where they have numbers from k on
abbrev pub first_unclassed : ℕ → List NetEvent → Option ℕ
first_unclassed k [] = None
first_unclassed k (e ∷ es) = if same_class plain e.class then Some k else first_unclassed (k + 1) es
