-- What a name finds through components as written is found in the component as written too.
use Rattle.std.proofs.Common.{◌≡◌, ℕ, Bool, true, false, List, [], ◌∷◌, refl, sym, ap, ◌∙◌, Option, Some, None}
use Rattle.cif_ast.specs.declared.names.Ident.{Ident}
use Rattle.cif_ast.specs.declared.names.Name.{Name}
use Rattle.cif_source.specs.Source.{Text, InstanceTree}
use Rattle.cif_source.specs.Components.{Component, whole, part, blank, copy, body_entries, as_written, specification_of, scope_of, Entry, declared, literal, location, inner, definition, instance, parameter, entry_named}
use Rattle.cif_source.specs.Lookup.{ScopeEntry, Reached, reached, missing, blocked, at_entry, in_scope, in_body, go_on, or_outward, outward, looked_up, inside_written, definition_found}
use Rattle.cif_scope.proofs.BodyLaws.{root-written}

-- where it leads, in components as written
abbrev pub written : Reached → Reached
written (reached (c, e)) = reached (as_written c, e)
written missing = missing
written blocked = blocked

at-written : (c : Component) (o : Option Entry) → written (at_entry c o) ≡ at_entry (as_written c) o
at-written c None = refl
at-written c (Some e) = refl

pub in_scope-written : (c : Component) (x : Text) → written (in_scope c x) ≡ in_scope (as_written c) x
in_scope-written (whole is) x = at-written (whole is) (entry_named x (scope_of (whole is)))
in_scope-written (part o n b) x = at-written (part o n b) (entry_named x (scope_of (part o n b)))
in_scope-written (blank o n ps b) x = at-written (blank o n ps b) (entry_named x (scope_of (blank o n ps b)))
in_scope-written (copy o n ps b g i) x = at-written (copy o n ps b g i) (entry_named x (scope_of (copy o n ps b g i)))

or-written : (r s : Reached) → written (or_outward r s) ≡ or_outward (written r) (written s)
or-written (reached x) s = refl
or-written missing s = refl
or-written blocked s = refl

pub outward-written : (c : Component) (x : Text) → written (outward c x) ≡ outward (as_written c) x
outward-written (whole is) x = in_scope-written (whole is) x
outward-written (part o n b) x = or-written (in_scope (part o n b) x) (outward o x) ∙ ap (λ r. or_outward r (written (outward o x))) (in_scope-written (part o n b) x) ∙ ap (or_outward (in_scope (as_written (part o n b)) x)) (outward-written o x)
outward-written (blank o n ps b) x =
    or-written (in_scope (blank o n ps b) x) (outward o x) ∙ ap (λ r. or_outward r (written (outward o x))) (in_scope-written (blank o n ps b) x) ∙ ap (or_outward (in_scope (as_written (blank o n ps b)) x)) (outward-written o x)
outward-written (copy o n ps b g i) x =
    or-written (in_scope (copy o n ps b g i) x) (outward o x) ∙ ap (λ r. or_outward r (written (outward o x))) (in_scope-written (copy o n ps b g i) x) ∙ ap (or_outward (in_scope (as_written (copy o n ps b g i)) x)) (outward-written o x)

go-written : (f : ScopeEntry → Reached) (r : Reached) → ((c : Component) (e : Entry) → written (f (c, e)) ≡ f (as_written c, e)) → written (go_on f r) ≡ go_on f (written r)
go-written f (reached (c, e)) h = h c e
go-written f missing h = refl
go-written f blocked h = refl

pub inside-written : (ps : List Ident) (c : Component) (e : Entry) → written (inside_written (c, e) ps) ≡ inside_written (as_written c, e) ps
inside-written [] c e = refl
inside-written (p ∷ ps) c (inner n b) =
    go-written (λ y. inside_written y ps) (in_body (part c n b) p.text) (λ d f. inside-written ps d f)
    ∙ ap (go_on (λ y. inside_written y ps)) (at-written (part c n b) (entry_named p.text (body_entries b)))
inside-written (p ∷ ps) c (declared d) = refl
inside-written (p ∷ ps) c (literal k ls) = refl
inside-written (p ∷ ps) c (location k) = refl
inside-written (p ∷ ps) c (definition n qs b) = refl
inside-written (p ∷ ps) c (instance i) = refl
inside-written (p ∷ ps) c (parameter k q) = refl

parts-written : (ps : List Ident) (root : Bool) (at : ℕ) (c : Component) → written (looked_up inside_written c (record { from_root = root; parts = ps; at = at })) ≡ looked_up inside_written (as_written c) (record { from_root = root; parts = ps; at = at })
parts-written [] root at c = refl
parts-written (p ∷ ps) true at c =
    go-written (λ x. inside_written x ps) (in_scope (whole (specification_of c)) p.text) (λ d f. inside-written ps d f)
    ∙ ap (go_on (λ x. inside_written x ps)) (in_scope-written (whole (specification_of c)) p.text ∙ ap (λ s. in_scope (whole s) p.text) (sym (root-written c)))
parts-written (p ∷ ps) false at c =
    go-written (λ x. inside_written x ps) (outward c p.text) (λ d f. inside-written ps d f) ∙ ap (go_on (λ x. inside_written x ps)) (outward-written c p.text)

pub looked-written : (c : Component) (nm : Name) → written (looked_up inside_written c nm) ≡ looked_up inside_written (as_written c) nm
looked-written c nm = parts-written nm.parts nm.from_root nm.at c

pub definition-written : (c : Component) (i : InstanceTree) → written (definition_found c i) ≡ definition_found (as_written c) i
definition-written c i = looked-written c i.def
