-- What the numbers of declarations say of a source.
use Rattle.std.specs.Prelude.{◌≡◌, ℕ, Bool, true, List, length, take, filter, filter_map, flat_map, Option, Some, None, slice_get}
use Rattle.cif_ast.specs.declared.names.Ident.{Ident}
use Rattle.cif_source.specs.Source.{DeclTree, type_decl, enum_decl, event_decl, const_decl, alg_decl, input_decl, disc_decl, equation_decl, invariant_decl, marked_decl, Source}
use Rattle.cif_source.specs.Components.{Component, as_written, body_of, path_of, scope_of, Entry, Entries, declared, literal, location, inner, definition, instance, parameter}
use Rattle.cif_source.specs.Objects.{components_of, decls_of, is_event, is_input, is_variable, is_alg, is_automaton, events, inputs, variables, algs, automata, number_in}
use Rattle.cif_scope.specs.Tables.{IsBody}
use Rattle.cif_inst_components.specs.Numbers.{IsNumber}
use Rattle.cif_inst_numbers.specs.declared.counts.Counted.{Counted}
use Rattle.cif_inst_numbers.specs.declared.counts.Counted.TheVariants.{Event, Input, Variable, Algebraic}
use Rattle.cif_inst_numbers.specs.declared.counts.Counts.{Counts}
use Rattle.cif_inst_numbers.specs.declared.numbers.Numbered.{Numbered}
use Rattle.cif_inst_numbers.specs.declared.numbers.Numbers.{Numbers}
use Rattle.cif_inst_numbers.specs.Counting.{of, AreFew}

abbrev pub is_counted : Counted → DeclTree → Bool
is_counted Event = is_event
is_counted Input = is_input
is_counted Variable = is_variable
is_counted Algebraic = is_alg

-- ---- a body

-- the declaration under a name
abbrev pub declaration : Ident × Entry → Option DeclTree
declaration (n, declared d) = Some d
declaration (n, _) = None

-- how many of a sort these names declare
abbrev pub declared_by : Counted → Entries → ℕ
declared_by q es = length (filter (is_counted q) (filter_map declaration es))

-- the rank of each name is how many of its sort are declared before it
abbrev pub AreRanks : Component → List ℕ → Type 0
AreRanks c ranks =
    (q : Counted) (slot : ℕ) (n : Ident) (d : DeclTree) → slice_get (scope_of c) slot ≡ Some (n, declared d) → is_counted q d ≡ true →
    slice_get ranks slot ≡ Some (declared_by q (take slot (scope_of c)))

-- ---- components

-- what components declare, and how many of them are automata
pub record AreCountsOf (cs : List Component) (counts : Counts) : Type 0 where
  pub declared : (q : Counted) → of q counts ≡ length (filter (is_counted q) (flat_map decls_of cs))
  pub automata : counts.automata ≡ length (filter (λ c. is_automaton (body_of c)) cs)

pub record AreNumbersOf (t : Source) (s : Numbers) : Type 0 where
  -- components of one path are one
  pub apart : (j k : ℕ) (c d : Component) → IsNumber t j c → IsNumber t k d → path_of c ≡ path_of d → j ≡ k
  pub ranks : (k : ℕ) (c : Component) → IsBody t k (as_written c) → (ranks : List ℕ) × (slice_get s.ranks k ≡ Some ranks) × AreRanks c ranks
  pub firsts : (k : ℕ) (c : Component) → IsNumber t k c → (first : Counts) × (slice_get s.firsts k ≡ Some first) × AreCountsOf (take k (components_of t)) first
  pub total : AreCountsOf (components_of t) s.total
  pub few : AreFew s.total

-- how many there are in the flat net
pub record AreCounts (t : Source) (counts : Counts) : Type 0 where
  pub events : counts.events ≡ length (events t)
  pub inputs : counts.inputs ≡ length (inputs t)
  pub variables : counts.variables ≡ length (variables t)
  pub algs : counts.algs ≡ length (algs t)
  pub automata : counts.automata ≡ length (automata t)

-- the number of what c declares as an entry of its scope
abbrev pub IsNumbered : Source → Component → Entry → Option Numbered → Type 0
IsNumbered t c (declared (event_decl k h n)) r = r ≡ Some (record { among = Event; number = number_in (events t) c n.text })
IsNumbered t c (declared (input_decl ty n)) r = r ≡ Some (record { among = Input; number = number_in (inputs t) c n.text })
IsNumbered t c (declared (disc_decl ty n e)) r = r ≡ Some (record { among = Variable; number = number_in (variables t) c n.text })
IsNumbered t c (declared (alg_decl ty n e)) r = r ≡ Some (record { among = Algebraic; number = number_in (algs t) c n.text })
IsNumbered t c (declared (type_decl n ty)) r = r ≡ None
IsNumbered t c (declared (enum_decl n ls)) r = r ≡ None
IsNumbered t c (declared (const_decl ty n e)) r = r ≡ None
IsNumbered t c (declared (equation_decl q)) r = r ≡ None
IsNumbered t c (declared (invariant_decl i)) r = r ≡ None
IsNumbered t c (declared (marked_decl p)) r = r ≡ None
IsNumbered t c (literal k ls) r = r ≡ None
IsNumbered t c (location k) r = r ≡ None
IsNumbered t c (inner n b) r = r ≡ None
IsNumbered t c (definition n ps b) r = r ≡ None
IsNumbered t c (instance i) r = r ≡ None
IsNumbered t c (parameter k p) r = r ≡ None
