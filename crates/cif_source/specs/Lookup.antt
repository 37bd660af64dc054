-- What a name finds in the scopes where it stands, and what it denotes, parameters followed to their arguments (CIF 3
-- language reference, "Scoping").
use Rattle.std.specs.Prelude.{ℕ, Bool, true, false, List, [], ◌∷◌, Option, Some, None, slice_get}
use Rattle.cif_ast.specs.Tree.{Tree, node, named}
use Rattle.cif_ast.specs.declared.names.Ident.{Ident}
use Rattle.cif_ast.specs.declared.names.Name.{Name}
use Rattle.cif_source.specs.Source.{Text, ParamTree, alg_param, InstanceTree}
use Rattle.cif_source.specs.Components.{Component, whole, part, blank, copy, specification_of, body_of, body_entries, scope_of, Entry, inner, definition, instance, parameter, entry_named}

-- a component, and what its scope declares
abbrev pub ScopeEntry : Type 0
ScopeEntry = Component × Entry

-- Where a name leads: to a place; to nothing, where a part of it is declared nowhere; or a part with further parts behind it
-- is no component and no instance.
pub data Reached : Type 0 where
  reached : ScopeEntry → Reached
  missing : Reached
  blocked : Reached

abbrev pub at_entry : Component → Option Entry → Reached
at_entry c None = missing
at_entry c (Some e) = reached (c, e)

abbrev pub in_scope : Component → Text → Reached
in_scope c x = at_entry c (entry_named x (scope_of c))

-- parameters excluded
abbrev pub in_body : Component → Text → Reached
in_body c x = at_entry c (entry_named x (body_entries (body_of c)))

abbrev pub go_on : (ScopeEntry → Reached) → Reached → Reached
go_on further (reached p) = further p
go_on further missing = missing
go_on further blocked = blocked

abbrev pub or_outward : Reached → Reached → Reached
or_outward (reached p) r = reached p
or_outward missing r = r
or_outward blocked r = blocked

-- the first scope outward that declares the name decides
abbrev pub outward : Component → Text → Reached
outward (whole is) x = in_scope (whole is) x
outward (part o n b) x = or_outward (in_scope (part o n b) x) (outward o x)
outward (blank o n ps b) x = or_outward (in_scope (blank o n ps b) x) (outward o x)
outward (copy o n ps b g i) x = or_outward (in_scope (copy o n ps b g i) x) (outward o x)

-- a name from its first part on, which is looked up at the specification alone where a dot stands before it
abbrev pub looked_up : (ScopeEntry → List Ident → Reached) → Component → Name → Reached
looked_up further c nm = elim nm.parts [
  | [] ↦ missing
  | p ∷ ps ↦ go_on (λ x. further x ps) (elim nm.from_root [ true ↦ in_scope (whole (specification_of c)) p.text | false ↦ outward c p.text ])
]

-- further parts of a name, through components as written
abbrev pub inside_written : ScopeEntry → List Ident → Reached
inside_written x [] = reached x
inside_written (c, inner n b) (p ∷ ps) = go_on (λ y. inside_written y ps) (in_body (part c n b) p.text)
inside_written x (p ∷ ps) = blocked

-- a definition is not found through an instance
abbrev pub definition_found : Component → InstanceTree → Reached
definition_found c i = looked_up inside_written c i.def

-- the instance as a component: its outer component is the one in which its definition stands
abbrev pub opened_at : Component → InstanceTree → Reached → Option Component
opened_at c i (reached (o, definition n ps b)) = Some (copy o n ps b c i)
opened_at c i _ = None

abbrev pub opened : Component → InstanceTree → Option Component
opened c i = opened_at c i (definition_found c i)

abbrev pub in_opened : Option Component → Text → Reached
in_opened None x = missing
in_opened (Some c) x = in_body c x

-- one further part of a name
abbrev pub passed : ScopeEntry → Text → Reached
passed (c, inner n b) x = in_body (part c n b) x
passed (c, instance i) x = in_opened (opened c i) x
passed _ x = blocked

-- further parts of a name, through instances too
abbrev pub inside : ScopeEntry → List Ident → Reached
inside x [] = reached x
inside x (p ∷ ps) = go_on (λ y. inside y ps) (passed x p.text)

-- what the scopes declare under the name
abbrev pub found : Component → Name → Reached
found c nm = looked_up inside c nm

-- A name is followed from the component where it stands, and a parameter of an instance to its argument, which is read where
-- the instance stands. The answer is said of what is found in the end, of nothing, and of the argument of an `alg`
-- parameter, where the names in that argument are followed too.
abbrev pub ended : {R : Type 0} → (ScopeEntry → R) → R → Reached → R
ended thing nothing (reached x) = thing x
ended thing nothing _ = nothing

abbrev pub by_name : {R : Type 0} → (ScopeEntry → R) → R → (Ident → List Ident → R) → Component → Name → R
by_name thing nothing go c nm = elim nm.parts [ [] ↦ nothing | p ∷ ps ↦ elim nm.from_root [ true ↦ ended thing nothing (found c nm) | false ↦ go p ps ] ]

abbrev pub by_argument : {R : Type 0} → R → (Tree → R) → (Name → R) → ParamTree → Option Tree → R
by_argument nothing value name p None = nothing
by_argument nothing value name (alg_param ty n) (Some e) = value e
by_argument nothing value name _ (Some (node (named nm) at)) = name nm
by_argument nothing value name _ (Some _) = nothing

abbrev pub by_entry : {R : Type 0} → (ScopeEntry → R) → R → (ℕ → ParamTree → R) → Component → Entry → List Ident → R
by_entry thing nothing argument c (parameter k p) [] = argument k p
by_entry thing nothing argument c (parameter k p) (q ∷ qs) = nothing
by_entry thing nothing argument c e ps = ended thing nothing (inside (c, e) ps)

abbrev pub follow_from : {R : Type 0} → (ScopeEntry → R) → R → ((Name → R) → Component → Tree → R) → Component → Ident → List Ident → R
follow_from thing nothing argument (whole is) p ps = ended thing nothing (go_on (λ x. inside x ps) (in_scope (whole is) p.text))
follow_from thing nothing argument (part o n b) p ps =
    elim (entry_named p.text (scope_of (part o n b))) [
      | None ↦ follow_from thing nothing argument o p ps
      | Some e ↦ ended thing nothing (inside (part o n b, e) ps)
    ]
follow_from thing nothing argument (blank o n qs b) p ps =
    elim (entry_named p.text (scope_of (blank o n qs b))) [
      | None ↦ follow_from thing nothing argument o p ps
      | Some e ↦ ended thing nothing (inside (blank o n qs b, e) ps)
    ]
follow_from thing nothing argument (copy o n qs b g i) p ps =
    let name = by_name thing nothing (follow_from thing nothing argument g) g in
    elim (entry_named p.text (scope_of (copy o n qs b g i))) [
      | None ↦ follow_from thing nothing argument o p ps
      | Some e ↦ by_entry thing nothing (λ k q. by_argument nothing (argument name g) name q (slice_get i.args k)) (copy o n qs b g i) e ps
    ]

abbrev pub follow : {R : Type 0} → (ScopeEntry → R) → R → ((Name → R) → Component → Tree → R) → Component → Name → R
follow thing nothing argument c nm = by_name thing nothing (follow_from thing nothing argument c) c nm

-- a parameter of an instance, which stands for its argument
abbrev pub stands_for_argument : ScopeEntry → Bool
stands_for_argument (copy o n ps b g i, parameter k p) = true
stands_for_argument _ = false

-- What is declared in a component, or an expression that a component gave: an argument of an `alg` parameter, also where it
-- is a bare name.
pub data Object : Type 0 where
  thing : Component → Entry → Object
  given : Component → Tree → Object

-- what a name in a component denotes
abbrev pub denotes : Component → Name → Option Object
denotes c nm = follow (λ x. Some (thing x.0 x.1)) None (λ name g e. Some (given g e)) c nm
