-- The rules on scopes, each with the fields of its refusal. They are about each body as written, that of a definition which
-- nobody instantiates too (CIF 3 language reference, "Scoping").
use Rattle.std.specs.Prelude.{◌≡◌, ℕ, ◌⊎◌, Bool, true, false, not, IsTrue, nat_eq, List, [], ◌∷◌, ◌++◌, map, filter_map, length, Option, Some, None}
use Rattle.std.specs.List.{Any}
use Rattle.cif_ast.specs.declared.names.Ident.{Ident}
use Rattle.cif_ast.specs.declared.names.Name.{Name}
use Rattle.cif_source.specs.Source.{type_decl, const_decl, InstanceTree, SourceItem, decl_item, component_item, definition_item, instance_item, SourceBody, group_body, automaton_body, Source, no_source, source}
use Rattle.cif_system.specs.Words.{Before, Chain}
use Rattle.cif_source.specs.Components.{Component, StandingInstance, part, blank, body_of, scope_of, as_written, Entry, declared, definition}
use Rattle.cif_source.specs.Lookup.{ScopeEntry, Reached, reached, missing, blocked, found, definition_found}
use Rattle.cif_source.specs.Objects.{bodies, items_in}
use Rattle.cif_source.specs.Uses.{Use, uses, sought, is_asked, decl_uses, own_names, own_ident, own_sought, is_own_asked}

-- ---- names that are declared nowhere

abbrev pub is_missing : Reached → Bool
is_missing (reached p) = false
is_missing missing = true
is_missing blocked = false

-- a part of the name that begins there is declared nowhere where it is looked up
abbrev pub UnknownName : Component → ℕ → Type 0
UnknownName c at = Any (λ (u : Use). (u.name.at ≡ at) × IsTrue (is_missing (sought c u))) (uses c)

abbrev pub UnknownOwn : Component → ℕ → Type 0
UnknownOwn c at = Any (λ n. ((own_ident n).at ≡ at) × IsTrue (is_missing (own_sought c n))) (own_names c)

abbrev pub UnknownDue : Source → ℕ → Type 0
UnknownDue t at = Any (λ c. UnknownName c at ⊎ UnknownOwn c at) (bodies t)

-- ---- names that are declared twice

-- a scope declares one name at both places
pub record DeclaresTwice (c : Component) (at first : ℕ) : Type 0 where
  pub earlier : Ident
  pub later : Ident
  pub order : Before earlier later (map (λ (e : Ident × Entry). e.0) (scope_of c))
  pub same : earlier.text ≡ later.text
  pub first_at : earlier.at ≡ first
  pub later_at : later.at ≡ at

abbrev pub DuplicateDue : Source → ℕ → ℕ → Type 0
DuplicateDue t at first = Any (λ c. DeclaresTwice c at first) (bodies t)

-- ---- names of another sort

-- a part before a dot is no component, or what is found is not what is asked
abbrev pub is_wrong : (Entry → Bool) → Reached → Bool
is_wrong asked (reached p) = not (asked p.1)
is_wrong asked missing = false
is_wrong asked blocked = true

-- what the name that begins there denotes is of another sort than its position asks
abbrev pub WrongName : Component → ℕ → Type 0
WrongName c at = Any (λ (u : Use). (u.name.at ≡ at) × IsTrue (is_wrong (is_asked u.asks) (sought c u))) (uses c)

abbrev pub WrongOwn : Component → ℕ → Type 0
WrongOwn c at = Any (λ n. ((own_ident n).at ≡ at) × IsTrue (is_wrong (is_own_asked n) (own_sought c n))) (own_names c)

abbrev pub as_instance : SourceItem → Option InstanceTree
as_instance (instance_item i) = Some i
as_instance _ = None

-- the instances that stand in a body
abbrev pub instances_of : Component → List InstanceTree
instances_of c = filter_map as_instance (items_in (body_of c))

abbrev pub has_wrong_count : InstanceTree → Reached → Bool
has_wrong_count i (reached (o, definition n ps b)) = not (nat_eq (length i.args) (length ps))
has_wrong_count i _ = false

-- the instance whose name stands there has another number of arguments than its definition has parameters
abbrev pub WrongCount : Component → ℕ → Type 0
WrongCount c at = Any (λ (i : InstanceTree). (i.name.at ≡ at) × IsTrue (has_wrong_count i (definition_found c i))) (instances_of c)

abbrev pub WrongKindDue : Source → ℕ → Type 0
WrongKindDue t at = Any (λ c. WrongName c at ⊎ WrongOwn c at ⊎ WrongCount c at) (bodies t)

-- ---- definitions that reach themselves

-- the instances in a body and in the components nested in it; those in nested definitions are left out
abbrev mutual
  pub instances_in : Component → Source → List StandingInstance
  instances_in c no_source = []
  instances_in c (source i is) = instances_at c i ++ instances_in c is

  pub instances_at : Component → SourceItem → List StandingInstance
  instances_at c (decl_item d) = []
  instances_at c (component_item n b) = instances_under (part c n b) b
  instances_at c (definition_item n ps b) = []
  instances_at c (instance_item i) = (c, i) ∷ []

  pub instances_under : Component → SourceBody → List StandingInstance
  instances_under c (group_body is) = instances_in c is
  instances_under c (automaton_body a) = []

abbrev pub instances_within : ScopeEntry → List StandingInstance
instances_within (o, definition n ps b) = instances_under (blank o n ps b) b
instances_within _ = []

-- a definition reaches those of the instances within it
abbrev pub ReachesDefinition : ScopeEntry → ScopeEntry → Type 0
ReachesDefinition x y = Any (λ i. definition_found i.0 i.1 ≡ reached y) (instances_within x)

abbrev pub names_of : Entry → List Name
names_of (declared (type_decl n ty)) = map (λ (u : Use). u.name) (decl_uses (type_decl n ty))
names_of (declared (const_decl ty n e)) = map (λ (u : Use). u.name) (decl_uses (const_decl ty n e))
names_of _ = []

-- what is found, in a body as written
abbrev pub found_written : Component → Name → Reached
found_written c nm = elim (found c nm) [ reached p ↦ reached (as_written p.0, p.1) | missing ↦ missing | blocked ↦ blocked ]

-- a type or a constant reaches what the names in its type and value denote
abbrev pub ReachesType : ScopeEntry → ScopeEntry → Type 0
ReachesType x y = Any (λ nm. found_written x.0 nm ≡ reached y) (names_of x.1)

abbrev pub ReachesItself : ScopeEntry → Type 0
ReachesItself x = Chain ReachesDefinition x x ⊎ Chain ReachesType x x

-- the definition, type or constant whose declared name stands there reaches itself
abbrev pub DefinitionCycleDue : Source → ℕ → Type 0
DefinitionCycleDue t at = Any (λ c. Any (λ (e : Ident × Entry). (e.0.at ≡ at) × ReachesItself (c, e.1)) (scope_of c)) (bodies t)
