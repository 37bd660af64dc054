-- The rules of a source on algebraic variables, intervals, state invariants and sizes, each with the fields of its refusal:
-- they are those of the net that it is translated to, in which parameters are their arguments. And the rules on the number
-- of choices and on the classes of events.
use Rattle.std.specs.Prelude.{ℕ, ◌<◌, IsTrue}
use Rattle.cif_system.specs.System.{plain}
use Rattle.cif_system.specs.Step.{is_of}
use Rattle.cif_system.specs.Choices.{all_choices}
use Rattle.cif_net_model.specs.Counts.{most_choices}
use Rattle.cif_net_model.specs.Rules.{AlgCycle, ZeroDivisor, TooWide, InvariantReadsInput, InvariantFalse, TooLarge}
use Rattle.cif_source.specs.Source.{Source}
use Rattle.cif_source.specs.Step.{system_of}
use Rattle.cif_system.specs.Words.{Exceeds}
use Rattle.cif_inst_model.specs.Flat.{net_of_source}

-- alg is the lowest-numbered algebraic variable that depends on itself
abbrev pub AlgCycleDue : Source → (alg : ℕ) → Type 0
AlgCycleDue t alg = AlgCycle (net_of_source t) alg

-- The rules up to that of sizes are asked only where no algebraic variable depends on itself.

-- the interval of the divisor there contains 0
abbrev pub ZeroDivisorDue : Source → (at : ℕ) → Type 0
ZeroDivisorDue t at = ZeroDivisor (net_of_source t) at

-- the interval of the expression there leaves 64 bits
abbrev pub TooWideDue : Source → (at : ℕ) → Type 0
TooWideDue t at = TooWide (net_of_source t) at

-- the state invariant there depends on an input
abbrev pub InvariantReadsInputDue : Source → (at : ℕ) → Type 0
InvariantReadsInputDue t at = InvariantReadsInput (net_of_source t) at

-- the state invariant there depends on no input, and is false in the initial state
abbrev pub InvariantFalseDue : Source → (at : ℕ) → Type 0
InvariantFalseDue t at = InvariantFalse (net_of_source t) at

-- the forms of all choices are too many, or an expression is too deep; each count stops one past its limit
abbrev pub TooLargeDue : Source → (nodes depth : ℕ) → Type 0
TooLargeDue t nodes depth = TooLarge (net_of_source t) nodes depth

-- the choices of all events are too many, and the count stops one past the limit
abbrev pub TooManyChoicesDue : Source → (count : ℕ) → Type 0
TooManyChoicesDue t count = Exceeds most_choices (all_choices (system_of t)) count

-- the event is the lowest-numbered one without a class
abbrev pub UnclassedDue : Source → (event : ℕ) → Type 0
UnclassedDue t event = IsTrue (is_of (system_of t) plain event) × ((k : ℕ) → k < event → IsTrue (is_of (system_of t) plain k) → ⊥)
