-- Helper of the code: the first automaton with another number of initial locations than one, in text order.
use Rattle.std.specs.Prelude.{◌≡◌, ℕ, Bool, true, false, nat_eq, filter, length, Option, Some, None, Result, Ok, Err}
use Rattle.cif_ast.specs.declared.names.Ident.{Ident}
use Rattle.cif_source.specs.Source.{LocationTree, AutomatonTree, SourceItem, decl_item, component_item, definition_item, instance_item, SourceBody, group_body, automaton_body, Source, no_source, source}
use Rattle.cif_types.specs.declared.error.TypeErr.{TypeErr}
use Rattle.cif_types.specs.declared.error.TypeErr.TheVariants.{Initials, Memory}

-- where the name of an automaton stands, and its initial locations
abbrev pub Counted : Type 0
Counted = ℕ × ℕ

abbrev pub unless : Bool → Counted → Option Counted
unless true x = None
unless false x = Some x

abbrev pub unless_one : ℕ → ℕ → Option Counted
unless_one at k = unless (nat_eq k 1) (at, k)

abbrev pub automaton_initials : Ident → AutomatonTree → Option Counted
automaton_initials n a = unless_one n.at (length (filter (λ (l : LocationTree). l.initial) a.locs))

abbrev pub or_later : Option Counted → Option Counted → Option Counted
or_later None o = o
or_later (Some x) o = Some x

abbrev mutual
  pub initials_in : Source → Option Counted
  initials_in no_source = None
  initials_in (source i is) = or_later (item_initials i) (initials_in is)

  pub item_initials : SourceItem → Option Counted
  item_initials (decl_item d) = None
  item_initials (component_item n b) = body_initials n b
  item_initials (definition_item n ps b) = body_initials n b
  item_initials (instance_item i) = None

  pub body_initials : Ident → SourceBody → Option Counted
  body_initials n (group_body is) = initials_in is
  body_initials n (automaton_body a) = automaton_initials n a

-- the answer tells what was found
abbrev pub Tells : Result (Unit {0}) TypeErr → Option Counted → Type 0
Tells (Ok u) o = o ≡ None
Tells (Err Memory) o = Unit {0}
Tells (Err (Initials at count)) o = o ≡ Some (at, count)
Tells (Err _) o = ⊥
