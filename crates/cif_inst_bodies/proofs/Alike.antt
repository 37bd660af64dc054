-- What a name finds in a component is what it finds in the component as written.
use Rattle.std.proofs.Common.{◌≡◌, Bool, true, false, ℕ, List, [], ◌∷◌, Option, Some, None, refl, sym, ◌∙◌, ap}
use Rattle.cif_ast.specs.declared.names.Ident.{Ident}
use Rattle.cif_ast.specs.declared.names.Name.{Name}
use Rattle.cif_source.specs.Source.{Text, InstanceTree}
use Rattle.cif_source.specs.Components.{Component, whole, part, blank, copy, specification_of, body_of, params_of, scope_of, body_entries, as_written, Entry, declared, literal, location, inner, definition, instance, parameter, entry_named}
use Rattle.cif_source.specs.Lookup.{ScopeEntry, Reached, reached, missing, blocked, at_entry, in_scope, in_body, go_on, or_outward, outward, looked_up, inside_written, definition_found, opened_at, in_opened, passed, inside, found}
use Rattle.cif_source.specs.Scoping.{found_written}
use Rattle.cif_inst_bodies.specs.Alike.{AreWrittenAlike, AreAlike}

-- ---- components as written

pub twice : (c : Component) → as_written (as_written c) ≡ as_written c
twice (whole is) = refl
twice (part o n b) = ap (λ w. part w n b) (twice o)
twice (blank o n ps b) = ap (λ w. blank w n ps b) (twice o)
twice (copy o n ps b g i) = ap (λ w. blank w n ps b) (twice o)

pub root-written : (c : Component) → specification_of (as_written c) ≡ specification_of c
root-written (whole is) = refl
root-written (part o n b) = root-written o
root-written (blank o n ps b) = root-written o
root-written (copy o n ps b g i) = root-written o

pub body-written : (c : Component) → body_of (as_written c) ≡ body_of c
body-written (whole is) = refl
body-written (part o n b) = refl
body-written (blank o n ps b) = refl
body-written (copy o n ps b g i) = refl

pub params-written : (c : Component) → params_of (as_written c) ≡ params_of c
params-written (whole is) = refl
params-written (part o n b) = refl
params-written (blank o n ps b) = refl
params-written (copy o n ps b g i) = refl

-- where it leads, in components as written
abbrev pub written : Reached → Reached
written (reached x) = reached (as_written x.0, x.1)
written missing = missing
written blocked = blocked

-- ---- in scopes

at-written : (c : Component) (o : Option Entry) → written (at_entry c o) ≡ at_entry (as_written c) o
at-written c None = refl
at-written c (Some e) = refl

pub in_body-written : (c : Component) (s : Text) → written (in_body c s) ≡ in_body (as_written c) s
in_body-written c s = at-written c (entry_named s (body_entries (body_of c))) ∙ ap (λ b. at_entry (as_written c) (entry_named s (body_entries b))) (sym (body-written c))

pub in_scope-written : (c : Component) (s : Text) → written (in_scope c s) ≡ in_scope (as_written c) s
in_scope-written (whole is) s = at-written (whole is) (entry_named s (scope_of (whole is)))
in_scope-written (part o n b) s = at-written (part o n b) (entry_named s (scope_of (part o n b)))
in_scope-written (blank o n ps b) s = at-written (blank o n ps b) (entry_named s (scope_of (blank o n ps b)))
in_scope-written (copy o n ps b g i) s = at-written (copy o n ps b g i) (entry_named s (scope_of (copy o n ps b g i)))

or-written : (r s : Reached) → written (or_outward r s) ≡ or_outward (written r) (written s)
or-written (reached x) s = refl
or-written missing s = refl
or-written blocked s = refl

frame-written : (c o : Component) (s : Text) → written (outward o s) ≡ outward (as_written o) s
    → written (or_outward (in_scope c s) (outward o s)) ≡ or_outward (in_scope (as_written c) s) (outward (as_written o) s)
frame-written c o s h = or-written (in_scope c s) (outward o s) ∙ λ i. or_outward (in_scope-written c s i) (h i)

pub outward-written : (c : Component) (s : Text) → written (outward c s) ≡ outward (as_written c) s
outward-written (whole is) s = in_scope-written (whole is) s
outward-written (part o n b) s = frame-written (part o n b) o s (outward-written o s)
outward-written (blank o n ps b) s = frame-written (blank o n ps b) o s (outward-written o s)
outward-written (copy o n ps b g i) s = frame-written (copy o n ps b g i) o s (outward-written o s)

-- ---- through components as written

go-written : (f : ScopeEntry → Reached) → ((x : ScopeEntry) → written (f x) ≡ f (as_written x.0, x.1)) → (r : Reached) → written (go_on f r) ≡ go_on f (written r)
go-written f h (reached x) = h x
go-written f h missing = refl
go-written f h blocked = refl

inside_written-written : (ps : List Ident) (c : Component) (e : Entry) → written (inside_written (c, e) ps) ≡ inside_written (as_written c, e) ps
inside_written-written [] c e = refl
inside_written-written (p ∷ ps) c (inner n b) =
    go-written (λ y. inside_written y ps) (λ x. inside_written-written ps x.0 x.1) (in_body (part c n b) p.text)
    ∙ ap (go_on (λ y. inside_written y ps)) (in_body-written (part c n b) p.text)
inside_written-written (p ∷ ps) c (declared d) = refl
inside_written-written (p ∷ ps) c (literal k ls) = refl
inside_written-written (p ∷ ps) c (location k) = refl
inside_written-written (p ∷ ps) c (definition n qs b) = refl
inside_written-written (p ∷ ps) c (instance i) = refl
inside_written-written (p ∷ ps) c (parameter k q) = refl

abbrev name_of : Bool → List Ident → ℕ → Name
name_of r ps at = record { from_root = r; parts = ps; at = at }

written-parts : (c : Component) (r : Bool) (ps : List Ident) (at : ℕ) → written (looked_up inside_written c (name_of r ps at)) ≡ looked_up inside_written (as_written c) (name_of r ps at)
written-parts c true [] at = refl
written-parts c false [] at = refl
written-parts c true (p ∷ ps) at =
    go-written (λ y. inside_written y ps) (λ x. inside_written-written ps x.0 x.1) (in_scope (whole (specification_of c)) p.text)
    ∙ ap (go_on (λ y. inside_written y ps)) (in_scope-written (whole (specification_of c)) p.text ∙ ap (λ is. in_scope (whole is) p.text) (sym (root-written c)))
written-parts c false (p ∷ ps) at =
    go-written (λ y. inside_written y ps) (λ x. inside_written-written ps x.0 x.1) (outward c p.text) ∙ ap (go_on (λ y. inside_written y ps)) (outward-written c p.text)

pub looked-written : (c : Component) (nm : Name) → written (looked_up inside_written c nm) ≡ looked_up inside_written (as_written c) nm
looked-written c nm = written-parts c nm.from_root nm.parts nm.at

-- a definition is found in components as written
pub definition-written : (c : Component) (i : InstanceTree) → written (definition_found c i) ≡ definition_found (as_written c) i
definition-written c i = looked-written c i.def

-- ---- through instances

in_body-same : (c d : Component) (s : Text) → as_written c ≡ as_written d → written (in_body c s) ≡ written (in_body d s)
in_body-same c d s h = in_body-written c s ∙ ap (λ w. in_body w s) h ∙ sym (in_body-written d s)

opened-same : (c : Component) (i : InstanceTree) (s : Text) (r : Reached) → written (in_opened (opened_at c i r) s) ≡ written (in_opened (opened_at (as_written c) i (written r)) s)
opened-same c i s (reached (o, definition n ps b)) = in_body-same (copy o n ps b c i) (copy (as_written o) n ps b (as_written c) i) s (ap (λ w. blank w n ps b) (sym (twice o)))
opened-same c i s (reached (o, declared d)) = refl
opened-same c i s (reached (o, literal k ls)) = refl
opened-same c i s (reached (o, location k)) = refl
opened-same c i s (reached (o, inner n b)) = refl
opened-same c i s (reached (o, instance j)) = refl
opened-same c i s (reached (o, parameter k p)) = refl
opened-same c i s missing = refl
opened-same c i s blocked = refl

pub passed-same : (c : Component) (e : Entry) (s : Text) → written (passed (c, e) s) ≡ written (passed (as_written c, e) s)
passed-same c (inner n b) s = in_body-same (part c n b) (part (as_written c) n b) s (ap (λ w. part w n b) (sym (twice c)))
passed-same c (instance i) s = opened-same c i s (definition_found c i) ∙ ap (λ r. written (in_opened (opened_at (as_written c) i r) s)) (definition-written c i)
passed-same c (declared d) s = refl
passed-same c (literal k ls) s = refl
passed-same c (location k) s = refl
passed-same c (definition n qs b) s = refl
passed-same c (parameter k q) s = refl

go-once : (f : ScopeEntry → Reached) → ((x : ScopeEntry) → written (f x) ≡ written (f (as_written x.0, x.1))) → (r : Reached) → written (go_on f r) ≡ written (go_on f (written r))
go-once f h (reached x) = h x
go-once f h missing = refl
go-once f h blocked = refl

go-same : (f : ScopeEntry → Reached) → ((x : ScopeEntry) → written (f x) ≡ written (f (as_written x.0, x.1))) → (r s : Reached) → written r ≡ written s → written (go_on f r) ≡ written (go_on f s)
go-same f h r s same = go-once f h r ∙ ap (λ q. written (go_on f q)) same ∙ sym (go-once f h s)

inside-same : (ps : List Ident) (c : Component) (e : Entry) → written (inside (c, e) ps) ≡ written (inside (as_written c, e) ps)
inside-same [] c e = ap (λ w. reached (w, e)) (sym (twice c))
inside-same (p ∷ ps) c e = go-same (λ y. inside y ps) (λ x. inside-same ps x.0 x.1) (passed (c, e) p.text) (passed (as_written c, e) p.text) (passed-same c e p.text)

parts-same : (c : Component) (r : Bool) (ps : List Ident) (at : ℕ) → written (found c (name_of r ps at)) ≡ written (found (as_written c) (name_of r ps at))
parts-same c true [] at = refl
parts-same c false [] at = refl
parts-same c true (p ∷ ps) at = ap (λ is. written (go_on (λ x. inside x ps) (in_scope (whole is) p.text))) (sym (root-written c))
parts-same c false (p ∷ ps) at =
    go-same (λ y. inside y ps) (λ x. inside-same ps x.0 x.1) (outward c p.text) (outward (as_written c) p.text)
    (outward-written c p.text ∙ ap (λ w. outward w p.text) (sym (twice c)) ∙ sym (outward-written (as_written c) p.text))

pub found-same : (c : Component) (nm : Name) → written (found c nm) ≡ written (found (as_written c) nm)
found-same c nm = parts-same c nm.from_root nm.parts nm.at

pub found-alike : (c d : Component) (nm : Name) → AreWrittenAlike c d → written (found c nm) ≡ written (found d nm)
found-alike c d nm h = found-same c nm ∙ ap (λ w. written (found w nm)) h ∙ sym (found-same d nm)

-- ---- places

abbrev component_at : Component → Reached → Component
component_at c (reached x) = x.0
component_at c _ = c

abbrev entry_at : Entry → Reached → Entry
entry_at e (reached x) = x.1
entry_at e _ = e

abbrev place_in : ScopeEntry → Reached → ScopeEntry
place_in z (reached x) = x
place_in z _ = z

-- places that are one as written are alike
pub alike-places : (r s : Reached) → written r ≡ written s → AreAlike r s
alike-places (reached x) (reached y) h = (ap (component_at (as_written x.0)) h, ap (entry_at x.1) h)
alike-places (reached x) missing h = cc
alike-places (reached x) blocked h = cc
alike-places missing (reached y) h = cc
alike-places missing missing h = tt
alike-places missing blocked h = cc
alike-places blocked (reached y) h = cc
alike-places blocked missing h = cc
alike-places blocked blocked h = tt

pub names-alike : (c d : Component) (nm : Name) → AreWrittenAlike c d → AreAlike (found c nm) (found d nm)
names-alike c d nm h = alike-places (found c nm) (found d nm) (found-alike c d nm h)

pub definitions-alike : (c d : Component) (i : InstanceTree) → AreWrittenAlike c d → AreAlike (definition_found c i) (definition_found d i)
definitions-alike c d i h =
    alike-places (definition_found c i) (definition_found d i) (definition-written c i ∙ ap (λ w. definition_found w i) h ∙ sym (definition-written d i))

pub found_written-same : (c d : Component) (nm : Name) → AreWrittenAlike c d → found_written c nm ≡ found_written d nm
found_written-same c d nm h = found-alike c d nm h

-- what is found in one of them is found in the other
both-found : (r s : Reached) → AreAlike r s → (x : ScopeEntry) → r ≡ reached x → (y : Component) × (s ≡ reached (y, x.1)) × AreWrittenAlike x.0 y
both-found (reached z) (reached y) a x h =
    let same : z ≡ x = ap (place_in z) h in
    (y.0, ap (λ e. reached (y.0, e)) (sym a.1 ∙ ap (λ (q : ScopeEntry). q.1) same), ap (λ (q : ScopeEntry). as_written q.0) (sym same) ∙ a.0)
both-found (reached z) missing a x h = absurd a
both-found (reached z) blocked a x h = absurd a
both-found missing s a x h = cc
both-found blocked s a x h = cc

pub found-both : (c d : Component) → AreWrittenAlike c d → (nm : Name) (x : ScopeEntry) → found c nm ≡ reached x → (y : Component) × (found d nm ≡ reached (y, x.1)) × AreWrittenAlike x.0 y
found-both c d h nm x e = both-found (found c nm) (found d nm) (names-alike c d nm h) x e
