-- Helper of the code: the names that a body writes and its instances, with the definitions of these by numbers.
use Rattle.std.specs.Prelude.{ℕ, ◌+◌, not, false, nat_eq, List, [], ◌∷◌, ◌++◌, flat_map, length, slice_get, Option, Some, None}
use Rattle.cif_source.specs.Source.{ParamTree, InstanceTree, SourceItem, decl_item, component_item, definition_item, instance_item, SourceBody, group_body, automaton_body, Source, no_source, source}
use Rattle.cif_source.specs.Components.{whole}
use Rattle.cif_source.specs.Objects.{decls_in, locs_in}
use Rattle.cif_source.specs.Uses.{Use, asking, definition_asked, decl_uses, param_uses, args_uses, body_uses, OwnName, decl_own_names, location_own_names}
use Rattle.cif_scope.specs.declared.scopes.Scopes.{Scopes}
use Rattle.cif_scope.specs.declared.error.ScopeErr.{ScopeErr}
use Rattle.cif_scope.specs.Drafts.{next_instance}
use Rattle.cif_scope.specs.Looks.{definition_at}
use Rattle.cif_scope.specs.Written.{WrittenBody}
use Rattle.cif_resolve.specs.Tests.{fault_of, or_later, first_some, used_fault, own_fault}

abbrev pub body_numbered : List WrittenBody → Option ℕ → Option WrittenBody
body_numbered ws None = None
body_numbered ws (Some d) = slice_get ws d

-- the definition of instance r of body k
abbrev pub definition_of : Scopes → List WrittenBody → (k r : ℕ) → Option WrittenBody
definition_of s ws k r = body_numbered ws (definition_at s.definitions k r)

-- ---- uses

abbrev pub params_in : Option WrittenBody → List ParamTree
params_in None = []
params_in (Some w) = w.params

abbrev pub instance_uses : InstanceTree → Option WrittenBody → List Use
instance_uses i w = asking definition_asked (i.def ∷ []) ++ args_uses i.args (params_in w)

abbrev pub uses_at : Scopes → List WrittenBody → (k r : ℕ) → SourceItem → List Use
uses_at s ws k r (decl_item d) = decl_uses d
uses_at s ws k r (component_item n b) = []
uses_at s ws k r (definition_item n ps b) = []
uses_at s ws k r (instance_item i) = instance_uses i (definition_of s ws k r)

-- those of items of body k, of whose instances the first has number r
abbrev pub uses_in : Scopes → List WrittenBody → (k r : ℕ) → Source → List Use
uses_in s ws k r no_source = []
uses_in s ws k r (source i is) = uses_at s ws k r i ++ uses_in s ws k (next_instance r i) is

abbrev pub uses_under : Scopes → List WrittenBody → ℕ → SourceBody → List Use
uses_under s ws k (group_body is) = uses_in s ws k 0 is
uses_under s ws k (automaton_body a) = body_uses (whole no_source) (automaton_body a)

abbrev pub uses_of : Scopes → List WrittenBody → ℕ → WrittenBody → List Use
uses_of s ws k w = flat_map param_uses w.params ++ uses_under s ws k w.body

-- ---- names of the own scope

abbrev pub own_at : SourceItem → List OwnName
own_at (decl_item d) = decl_own_names d
own_at (component_item n b) = []
own_at (definition_item n ps b) = []
own_at (instance_item i) = []

abbrev pub own_in : Source → List OwnName
own_in no_source = []
own_in (source i is) = own_at i ++ own_in is

abbrev pub own_under : SourceBody → List OwnName
own_under (group_body is) = own_in is
own_under (automaton_body a) = flat_map decl_own_names (decls_in (automaton_body a)) ++ flat_map location_own_names (locs_in (automaton_body a))

-- ---- counts of arguments

abbrev pub count_fault : InstanceTree → Option WrittenBody → Option ScopeErr
count_fault i None = None
count_fault i (Some w) = fault_of i.name.at false (not (nat_eq (length i.args) (length w.params)))

abbrev pub count_at : Scopes → List WrittenBody → (k r : ℕ) → SourceItem → Option ScopeErr
count_at s ws k r (decl_item d) = None
count_at s ws k r (component_item n b) = None
count_at s ws k r (definition_item n ps b) = None
count_at s ws k r (instance_item i) = count_fault i (definition_of s ws k r)

abbrev pub counts_in : Scopes → List WrittenBody → (k r : ℕ) → Source → Option ScopeErr
counts_in s ws k r no_source = None
counts_in s ws k r (source i is) = or_later (count_at s ws k r i) (counts_in s ws k (next_instance r i) is)

abbrev pub counts_under : Scopes → List WrittenBody → ℕ → SourceBody → Option ScopeErr
counts_under s ws k (group_body is) = counts_in s ws k 0 is
counts_under s ws k (automaton_body a) = None

-- ---- all of a body, and of the bodies from body k on

abbrev pub body_fault : Scopes → List WrittenBody → ℕ → WrittenBody → Option ScopeErr
body_fault s ws k w = or_later (first_some (used_fault s k) (uses_of s ws k w)) (or_later (first_some (own_fault s k) (own_under w.body)) (counts_under s ws k w.body))

abbrev pub faults_from : Scopes → List WrittenBody → ℕ → List WrittenBody → Option ScopeErr
faults_from s ws k [] = None
faults_from s ws k (v ∷ vs) = or_later (body_fault s ws k v) (faults_from s ws (k + 1) vs)
