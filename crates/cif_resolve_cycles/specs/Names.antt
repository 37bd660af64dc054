-- Helper of the code: the graph of names by numbers: all names of all bodies, numbered through. A type or constant needs what the names in
-- its type and value denote, and other names need nothing.
use Rattle.std.specs.Prelude.{ℕ, zero, suc, ◌+◌, true, List, [], ◌∷◌, ◌++◌, flat_map, length, replicate, slice_get, Option, None, Some, option_map}
use Rattle.std.specs.Option.{option_to_list}
use Rattle.cif_ast.specs.declared.names.Ident.{Ident}
use Rattle.cif_ast.specs.declared.names.Name.{Name}
use Rattle.cif_source.specs.Source.{DeclTree, type_decl, enum_decl, event_decl, const_decl, alg_decl, input_decl, disc_decl, equation_decl, invariant_decl, marked_decl, LocationTree, AutomatonTree, SourceItem, decl_item, component_item, definition_item, instance_item, SourceBody, group_body, automaton_body, Source, no_source, source}
use Rattle.cif_source.specs.Uses.{Use, decl_uses}
use Rattle.cif_scope.specs.declared.scope.ScopeName.{ScopeName}
use Rattle.cif_scope.specs.declared.scope.Scope.{Scope}
use Rattle.cif_scope.specs.declared.looked.Looked.{Looked}
use Rattle.cif_scope.specs.declared.looked.Looked.TheVariants.{At, Missing, Blocked}
use Rattle.cif_scope.specs.declared.scopes.Scopes.{Scopes}
use Rattle.cif_scope.specs.Looks.{look}
use Rattle.cif_scope.specs.Written.{WrittenBody}

-- ---- numbers

-- how many names the scopes before scope k have
abbrev pub names_before : List Scope → ℕ → ℕ
names_before [] k = 0
names_before (s ∷ ss) zero = 0
names_before (s ∷ ss) (suc k) = length s.names + names_before ss k

-- the numbers of the first names of the first n scopes
abbrev pub firsts_to : List Scope → ℕ → List ℕ
firsts_to ss zero = []
firsts_to ss (suc n) = firsts_to ss n ++ names_before ss n ∷ []

abbrev pub firsts_of : List Scope → List ℕ
firsts_of ss = firsts_to ss (length ss)

-- the number of a slot
abbrev pub number_of : List ℕ → Looked → Option ℕ
number_of firsts (At k j) = option_map (λ f. f + j) (slice_get firsts k)
number_of firsts Missing = None
number_of firsts Blocked = None

abbrev pub name_of : ScopeName → Ident
name_of n = n.name

abbrev pub all_names : List Scope → List ScopeName
all_names ss = flat_map (λ (s : Scope). s.names) ss

-- where name m stands
abbrev pub place_of : List Scope → ℕ → Option ℕ
place_of ss m = option_map (λ (n : ScopeName). n.name.at) (slice_get (all_names ss) m)

-- ---- needs

-- what a name in body k denotes, by numbers
abbrev pub denoted : Scopes → List ℕ → ℕ → Name → List ℕ
denoted s firsts k nm = option_to_list (number_of firsts (look s.table s.definitions true k nm))

abbrev pub use_needs : Scopes → List ℕ → ℕ → List Use → List ℕ
use_needs s firsts k us = flat_map (λ (u : Use). denoted s firsts k u.name) us

abbrev pub no_needs : ℕ → List (List ℕ)
no_needs n = replicate n []

-- the needs of the names of a declaration
abbrev pub decl_needs : Scopes → List ℕ → ℕ → DeclTree → List (List ℕ)
decl_needs s firsts k (type_decl n ty) = use_needs s firsts k (decl_uses (type_decl n ty)) ∷ []
decl_needs s firsts k (const_decl ty n e) = use_needs s firsts k (decl_uses (const_decl ty n e)) ∷ []
decl_needs s firsts k (enum_decl n ls) = [] ∷ no_needs (length ls)
decl_needs s firsts k (event_decl c h n) = [] ∷ []
decl_needs s firsts k (alg_decl ty n e) = [] ∷ []
decl_needs s firsts k (input_decl ty n) = [] ∷ []
decl_needs s firsts k (disc_decl ty n e) = [] ∷ []
decl_needs s firsts k (equation_decl q) = []
decl_needs s firsts k (invariant_decl i) = []
decl_needs s firsts k (marked_decl p) = []

abbrev pub location_needs : LocationTree → List (List ℕ)
location_needs l = elim l.name [ None ↦ [] | Some n ↦ [] ∷ [] ]

abbrev pub automaton_needs : Scopes → List ℕ → ℕ → AutomatonTree → List (List ℕ)
automaton_needs s firsts k a = flat_map (decl_needs s firsts k) a.decls ++ flat_map location_needs a.locs

abbrev pub item_needs : Scopes → List ℕ → ℕ → SourceItem → List (List ℕ)
item_needs s firsts k (decl_item d) = decl_needs s firsts k d
item_needs s firsts k (component_item n b) = [] ∷ []
item_needs s firsts k (definition_item n ps b) = [] ∷ []
item_needs s firsts k (instance_item i) = [] ∷ []

abbrev pub needs_in : Scopes → List ℕ → ℕ → Source → List (List ℕ)
needs_in s firsts k no_source = []
needs_in s firsts k (source i is) = item_needs s firsts k i ++ needs_in s firsts k is

abbrev pub needs_under : Scopes → List ℕ → ℕ → SourceBody → List (List ℕ)
needs_under s firsts k (group_body is) = needs_in s firsts k is
needs_under s firsts k (automaton_body a) = automaton_needs s firsts k a

-- of the names of a body
abbrev pub written_needs : Scopes → List ℕ → ℕ → WrittenBody → List (List ℕ)
written_needs s firsts k w = no_needs (length w.params) ++ needs_under s firsts k w.body

-- of the names of the bodies from body k on
abbrev pub needs_from : Scopes → List ℕ → ℕ → List WrittenBody → List (List ℕ)
needs_from s firsts k [] = []
needs_from s firsts k (w ∷ ws) = written_needs s firsts k w ++ needs_from s firsts (k + 1) ws

abbrev pub name_graph : Scopes → List WrittenBody → List (List ℕ)
name_graph s ws = needs_from s (firsts_of s.table.scopes) 0 ws
