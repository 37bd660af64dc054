-- Counting what bodies and components declare.
use Rattle.std.specs.Prelude.{ℕ, zero, suc, ◌+◌, ◌<◌, ◌^◌, Bool, true, false, List, [], ◌∷◌, ◌++◌, length, Option, None, Some, slice_get, unwrap_or}
use Rattle.cif_source.specs.Objects.{is_automaton}
use Rattle.cif_scope.specs.declared.scope.Sort.TheVariants as sort
use Rattle.cif_scope.specs.declared.scope.What.{What}
use Rattle.cif_scope.specs.declared.scope.What.TheVariants as what
use Rattle.cif_scope.specs.declared.scopes.Scopes.{Scopes}
use Rattle.cif_scope.specs.Looks.{what_at, names_at}
use Rattle.cif_scope.specs.Written.{WrittenBody}
use Rattle.cif_inst_components.specs.declared.components.Component.{Component}
use Rattle.cif_inst_numbers.specs.declared.counts.Counted.{Counted}
use Rattle.cif_inst_numbers.specs.declared.counts.Counted.TheVariants.{Event, Input, Variable, Algebraic}
use Rattle.cif_inst_numbers.specs.declared.counts.Counts.{Counts}

abbrev pub counted_what : Option What → Option Counted
counted_what None = None
counted_what (Some (what.Declared (sort.Event k))) = Some Event
counted_what (Some (what.Declared sort.Input)) = Some Input
counted_what (Some (what.Declared sort.Discrete)) = Some Variable
counted_what (Some (what.Declared sort.Algebraic)) = Some Algebraic
counted_what (Some (what.Declared sort.Type)) = None
counted_what (Some (what.Declared sort.Enum)) = None
counted_what (Some (what.Declared sort.Constant)) = None
counted_what (Some (what.Literal j)) = None
counted_what (Some (what.Location j)) = None
counted_what (Some (what.Component j)) = None
counted_what (Some (what.Definition j n)) = None
counted_what (Some (what.Instance j)) = None
counted_what (Some (what.Parameter p)) = None

-- ---- counts

abbrev pub none : Counts
none = record { events = 0; inputs = 0; variables = 0; algs = 0; automata = 0 }

abbrev pub one : Option Counted → Counts
one None = none
one (Some Event) = record none { events = 1 }
one (Some Input) = record none { inputs = 1 }
one (Some Variable) = record none { variables = 1 }
one (Some Algebraic) = record none { algs = 1 }

abbrev pub of : Counted → Counts → ℕ
of Event c = c.events
of Input c = c.inputs
of Variable c = c.variables
of Algebraic c = c.algs

abbrev pub plus : Counts → Counts → Counts
plus c d = record {
  events = c.events + d.events;
  inputs = c.inputs + d.inputs;
  variables = c.variables + d.variables;
  algs = c.algs + d.algs;
  automata = c.automata + d.automata;
}

-- each is below 2^32
abbrev pub AreFew : Counts → Type 0
AreFew c = (q : Counted) → of q c < 2 ^ 32

-- ---- a body

abbrev pub rank : Counts → Option Counted → ℕ
rank c None = 0
rank c (Some q) = of q c

abbrev pub counted_at : Scopes → (k slot : ℕ) → Option Counted
counted_at s k slot = counted_what (what_at s.table k slot)

-- what the first n names of body k declare
abbrev pub counts_to : Scopes → (k n : ℕ) → Counts
counts_to s k zero = none
counts_to s k (suc n) = plus (counts_to s k n) (one (counted_at s k n))

-- the ranks of these names, each among those of its sort
abbrev pub ranks_to : Scopes → (k n : ℕ) → List ℕ
ranks_to s k zero = []
ranks_to s k (suc n) = ranks_to s k n ++ rank (counts_to s k n) (counted_at s k n) ∷ []

abbrev pub name_count : Scopes → ℕ → ℕ
name_count s k = length (names_at s.table k)

abbrev pub counts_of : Scopes → ℕ → Counts
counts_of s k = counts_to s k (name_count s k)

abbrev pub ranks_of : Scopes → ℕ → List ℕ
ranks_of s k = ranks_to s k (name_count s k)

abbrev pub automaton_count : Bool → Counts
automaton_count true = record none { automata = 1 }
automaton_count false = none

-- one automaton where the body is that of one
abbrev pub automaton_at : Option WrittenBody → Counts
automaton_at None = none
automaton_at (Some w) = automaton_count (is_automaton w.body)

-- ---- all bodies

abbrev pub all_ranks_to : Scopes → ℕ → List (List ℕ)
all_ranks_to s zero = []
all_ranks_to s (suc n) = all_ranks_to s n ++ ranks_of s n ∷ []

abbrev pub all_ranks : Scopes → List (List ℕ)
all_ranks s = all_ranks_to s (length s.table.scopes)

-- with the automaton that it is
abbrev pub body_counts : Scopes → List WrittenBody → ℕ → Counts
body_counts s ws k = plus (counts_of s k) (automaton_at (slice_get ws k))

abbrev pub all_counts_to : Scopes → List WrittenBody → ℕ → List Counts
all_counts_to s ws zero = []
all_counts_to s ws (suc n) = all_counts_to s ws n ++ body_counts s ws n ∷ []

abbrev pub all_counts : Scopes → List WrittenBody → List Counts
all_counts s ws = all_counts_to s ws (length s.table.scopes)

-- the rank of a name of body k
abbrev pub rank_in : Option (List ℕ) → ℕ → Option ℕ
rank_in None slot = None
rank_in (Some ranks) slot = slice_get ranks slot

abbrev pub rank_at : List (List ℕ) → (k slot : ℕ) → Option ℕ
rank_at ranks k slot = rank_in (slice_get ranks k) slot

-- ---- components

-- by what their bodies declare
abbrev pub counts_at : List Counts → Option Component → Counts
counts_at bodies None = none
counts_at bodies (Some c) = unwrap_or (slice_get bodies c.body) none

-- what the first n components declare
abbrev pub before : List Counts → List Component → ℕ → Counts
before bodies all zero = none
before bodies all (suc n) = plus (before bodies all n) (counts_at bodies (slice_get all n))

-- for each of the first n what those before it declare
abbrev pub firsts_to : List Counts → List Component → ℕ → List Counts
firsts_to bodies all zero = []
firsts_to bodies all (suc n) = firsts_to bodies all n ++ before bodies all n ∷ []
