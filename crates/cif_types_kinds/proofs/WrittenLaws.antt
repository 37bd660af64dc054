-- The kinds of what a component declares are those of what its body as written declares.
use Rattle.std.proofs.Common.{◌≡◌, ℕ, zero, suc, Bool, true, false, List, [], ◌∷◌, length, Option, Some, None, refl, sym, ap, ◌∙◌}
use Rattle.std.specs.Prelude.{option_map, flat_map}
use Rattle.cif_system.proofs.Lists.{some-same, none-some}
use Rattle.cif_ast.specs.declared.names.Ident.{Ident}
use Rattle.cif_ast.specs.declared.names.Name.{Name}
use Rattle.cif_source.specs.Source.{Text, ChannelTree, no_type, void_type, value_type, TypeTree, bool_type, int_type, range_type, named_type, type_decl, enum_decl, event_decl, const_decl, alg_decl, input_decl, disc_decl, equation_decl, invariant_decl, marked_decl, ParamTree, event_param, alg_param, location_param, InstanceTree, SourceBody}
use Rattle.cif_source.specs.Components.{Component, whole, part, blank, copy, as_written, specification_of, body_entries, Entry, declared, literal, location, inner, definition, instance, parameter, entry_named}
use Rattle.cif_source.specs.Lookup.{ScopeEntry, Reached, reached, missing, blocked, at_entry, in_scope, in_body, go_on, outward, inside, opened_at, opened, in_opened, definition_found, found}
use Rattle.cif_source.specs.Objects.{bodies, decls_of}
use Rattle.cif_source.specs.Kinds.{Kind, no_kind, type_kind_at, type_kind_by, type_kind_within, type_kind, kind_at}
use Rattle.cif_source.specs.Demands.{channel_for, channel_kind, channel_at}
use Rattle.cif_scope.proofs.BodyLaws.{root-written}
use Rattle.cif_scope.proofs.WrittenLaws.{written, outward-written, definition-written}

-- they are written as one body
abbrev pub Alike : Component → Component → Type 0
Alike c d = as_written c ≡ as_written d

abbrev component_at : Component → Reached → Component
component_at c (reached x) = x.0
component_at c missing = c
component_at c blocked = c

abbrev entry_at : Entry → Reached → Entry
entry_at e (reached x) = x.1
entry_at e missing = e
entry_at e blocked = e

-- from two places that are written alike a name leads to two places that are
go-alike : (f : ScopeEntry → Reached) (r s : Reached) → written r ≡ written s
    → ((c d : Component) (e : Entry) → Alike c d → written (f (c, e)) ≡ written (f (d, e))) → written (go_on f r) ≡ written (go_on f s)
go-alike f (reached (c, e)) (reached (d, g)) h go = pair c d e g (first c d e g h) (second c d e g h)
  where
    first : (c d : Component) (e g : Entry) → written (reached (c, e)) ≡ written (reached (d, g)) → Alike c d
    first c d e g h = ap (component_at c) h

    second : (c d : Component) (e g : Entry) → written (reached (c, e)) ≡ written (reached (d, g)) → e ≡ g
    second c d e g h = ap (entry_at e) h

    pair : (c d : Component) (e g : Entry) → Alike c d → e ≡ g → written (f (c, e)) ≡ written (f (d, g))
    pair c d e g a same = go c d e a ∙ ap (λ x. written (f (d, x))) same
go-alike f (reached (c, e)) missing h go = cc
go-alike f (reached (c, e)) blocked h go = cc
go-alike f missing (reached (d, g)) h go = cc
go-alike f missing missing h go = refl
go-alike f missing blocked h go = cc
go-alike f blocked (reached (d, g)) h go = cc
go-alike f blocked missing h go = cc
go-alike f blocked blocked h go = refl

at-alike : (c d : Component) (o : Option Entry) → Alike c d → written (at_entry c o) ≡ written (at_entry d o)
at-alike c d None h = refl
at-alike c d (Some e) h = ap (λ w. reached (w, e)) h

-- ---- instances

pub record Defined : Type 0 where
  pub outer : Component
  pub name : Ident
  pub params : List ParamTree
  pub body : SourceBody

defined : Reached → Option Defined
defined (reached (o, definition n ps b)) = Some (record { outer = o; name = n; params = ps; body = b })
defined (reached (o, declared d)) = None
defined (reached (o, literal k ls)) = None
defined (reached (o, location k)) = None
defined (reached (o, inner n b)) = None
defined (reached (o, instance i)) = None
defined (reached (o, parameter k p)) = None
defined missing = None
defined blocked = None

opens : Component → InstanceTree → Option Defined → Option Component
opens c i None = None
opens c i (Some d) = Some (copy d.outer d.name d.params d.body c i)

opened-defined : (c : Component) (i : InstanceTree) (r : Reached) → opened_at c i r ≡ opens c i (defined r)
unfolding defined opens
opened-defined c i (reached (o, definition n ps b)) = refl
opened-defined c i (reached (o, declared d)) = refl
opened-defined c i (reached (o, literal k ls)) = refl
opened-defined c i (reached (o, location k)) = refl
opened-defined c i (reached (o, inner n b)) = refl
opened-defined c i (reached (o, instance j)) = refl
opened-defined c i (reached (o, parameter k p)) = refl
opened-defined c i missing = refl
opened-defined c i blocked = refl

as_defined : Defined → Defined
as_defined d = record { outer = as_written d.outer; name = d.name; params = d.params; body = d.body }

defined-written : (r : Reached) → defined (written r) ≡ option_map as_defined (defined r)
unfolding defined as_defined
defined-written (reached (o, definition n ps b)) = refl
defined-written (reached (o, declared d)) = refl
defined-written (reached (o, literal k ls)) = refl
defined-written (reached (o, location k)) = refl
defined-written (reached (o, inner n b)) = refl
defined-written (reached (o, instance j)) = refl
defined-written (reached (o, parameter k p)) = refl
defined-written missing = refl
defined-written blocked = refl

copies-alike : (c d : Component) (i : InstanceTree) (x : Text) (o p : Option Defined) → option_map as_defined o ≡ option_map as_defined p → written (in_opened (opens c i o) x) ≡ written (in_opened (opens d i p) x)
unfolding opens as_defined
copies-alike c d i x None None h = refl
copies-alike c d i x None (Some q) h = absurd (none-some (as_defined q) h)
copies-alike c d i x (Some q) None h = absurd (none-some (as_defined q) (sym h))
copies-alike c d i x (Some q) (Some u) h =
    let same : as_defined q ≡ as_defined u = some-same (as_defined q) (as_defined u) h in
    let wrote : blank (as_written q.outer) q.name q.params q.body ≡ blank (as_written u.outer) u.name u.params u.body = ap (λ (v : Defined). blank v.outer v.name v.params v.body) same in
    ap (λ (v : Defined). written (at_entry (copy q.outer q.name q.params q.body c i) (entry_named x (body_entries v.body)))) same
    ∙ at-alike (copy q.outer q.name q.params q.body c i) (copy u.outer u.name u.params u.body d i) (entry_named x (body_entries u.body)) wrote

opened-alike : (c d : Component) (i : InstanceTree) (x : Text) → Alike c d → written (in_opened (opened c i) x) ≡ written (in_opened (opened d i) x)
opened-alike c d i x h =
    ap (λ o. written (in_opened o x)) (opened-defined c i (definition_found c i))
    ∙ copies-alike c d i x (defined (definition_found c i)) (defined (definition_found d i))
    (sym (defined-written (definition_found c i)) ∙ ap defined (definition-written c i ∙ ap (λ w. definition_found w i) h ∙ sym (definition-written d i)) ∙ defined-written (definition_found d i))
    ∙ sym (ap (λ o. written (in_opened o x)) (opened-defined d i (definition_found d i)))

-- ---- names

inside-alike : (ps : List Ident) (c d : Component) (e : Entry) → Alike c d → written (inside (c, e) ps) ≡ written (inside (d, e) ps)
inside-alike [] c d e h = ap (λ w. reached (w, e)) h
inside-alike (p ∷ ps) c d (inner n b) h =
    go-alike (λ y. inside y ps) (in_body (part c n b) p.text) (in_body (part d n b) p.text)
    (at-alike (part c n b) (part d n b) (entry_named p.text (body_entries b)) (ap (λ w. part w n b) h)) (λ f g e a. inside-alike ps f g e a)
inside-alike (p ∷ ps) c d (instance i) h =
    go-alike (λ y. inside y ps) (in_opened (opened c i) p.text) (in_opened (opened d i) p.text) (opened-alike c d i p.text h) (λ f g e a. inside-alike ps f g e a)
inside-alike (p ∷ ps) c d (declared x) h = refl
inside-alike (p ∷ ps) c d (literal k ls) h = refl
inside-alike (p ∷ ps) c d (location k) h = refl
inside-alike (p ∷ ps) c d (definition n qs b) h = refl
inside-alike (p ∷ ps) c d (parameter k q) h = refl

roots-alike : (c d : Component) → Alike c d → specification_of c ≡ specification_of d
roots-alike c d h = sym (root-written c) ∙ ap specification_of h ∙ root-written d

parts-alike : (ps : List Ident) (root : Bool) (at : ℕ) (c d : Component) → Alike c d → written (found c (record { from_root = root; parts = ps; at = at })) ≡ written (found d (record { from_root = root; parts = ps; at = at }))
parts-alike [] root at c d h = refl
parts-alike (p ∷ ps) true at c d h = ap (λ s. written (go_on (λ x. inside x ps) (in_scope (whole s) p.text))) (roots-alike c d h)
parts-alike (p ∷ ps) false at c d h =
    go-alike (λ x. inside x ps) (outward c p.text) (outward d p.text) (outward-written c p.text ∙ ap (λ w. outward w p.text) h ∙ sym (outward-written d p.text)) (λ f g e a. inside-alike ps f g e a)

pub found-alike : (c d : Component) (nm : Name) → Alike c d → written (found c nm) ≡ written (found d nm)
found-alike c d nm h = parts-alike nm.parts nm.from_root nm.at c d h

written-twice : (c : Component) → Alike c (as_written c)
written-twice (whole is) = refl
written-twice (part o n b) = ap (λ w. part w n b) (written-twice o)
written-twice (blank o n ps b) = ap (λ w. blank w n ps b) (written-twice o)
written-twice (copy o n ps b g i) = ap (λ w. blank w n ps b) (written-twice o)

-- ---- types

module _ (more : Component → TypeTree → Kind) (alike : (c : Component) (ty : TypeTree) → more c ty ≡ more (as_written c) ty) where
  type_at-written : (r : Reached) → type_kind_at more r ≡ type_kind_at more (written r)
  type_at-written (reached (c, declared (type_decl n ty))) = alike c ty
  type_at-written (reached (c, declared (enum_decl n ls))) = refl
  type_at-written (reached (c, declared (event_decl k h n))) = refl
  type_at-written (reached (c, declared (const_decl ty n e))) = refl
  type_at-written (reached (c, declared (alg_decl ty n e))) = refl
  type_at-written (reached (c, declared (input_decl ty n))) = refl
  type_at-written (reached (c, declared (disc_decl ty n e))) = refl
  type_at-written (reached (c, declared (equation_decl q))) = refl
  type_at-written (reached (c, declared (invariant_decl i))) = refl
  type_at-written (reached (c, declared (marked_decl p))) = refl
  type_at-written (reached (c, literal k ls)) = refl
  type_at-written (reached (c, location k)) = refl
  type_at-written (reached (c, inner n b)) = refl
  type_at-written (reached (c, definition n ps b)) = refl
  type_at-written (reached (c, instance i)) = refl
  type_at-written (reached (c, parameter k p)) = refl
  type_at-written missing = refl
  type_at-written blocked = refl

  type_by-written : (c : Component) (ty : TypeTree) → type_kind_by more c ty ≡ type_kind_by more (as_written c) ty
  type_by-written c bool_type = refl
  type_by-written c int_type = refl
  type_by-written c (range_type lower upper) = refl
  type_by-written c (named_type nm) =
      type_at-written (found c nm)
      ∙ ap (type_kind_at more) (found-alike c (as_written c) nm (written-twice c))
      ∙ sym (type_at-written (found (as_written c) nm))

within-written : (n : ℕ) (c : Component) (ty : TypeTree) → type_kind_within n c ty ≡ type_kind_within n (as_written c) ty
within-written zero c ty = type_by-written (λ d u. no_kind) (λ d u. refl) c ty
within-written (suc n) c ty = type_by-written (type_kind_within n) (within-written n) c ty

pub type-written : (c : Component) (ty : TypeTree) → type_kind c ty ≡ type_kind (as_written c) ty
type-written c ty =
    within-written (length (flat_map decls_of (bodies (specification_of c)))) c ty
    ∙ ap (λ s. type_kind_within (length (flat_map decls_of (bodies s))) (as_written c) ty) (sym (root-written c))

pub kind-written : (c : Component) (e : Entry) → kind_at (reached (c, e)) ≡ kind_at (reached (as_written c, e))
kind-written c (declared (const_decl ty n e)) = type-written c ty
kind-written c (declared (alg_decl ty n e)) = type-written c ty
kind-written c (declared (input_decl ty n)) = type-written c ty
kind-written c (declared (disc_decl ty n e)) = type-written c ty
kind-written c (declared (type_decl n ty)) = refl
kind-written c (declared (enum_decl n ls)) = refl
kind-written c (declared (event_decl k h n)) = refl
kind-written c (declared (equation_decl q)) = refl
kind-written c (declared (invariant_decl i)) = refl
kind-written c (declared (marked_decl p)) = refl
kind-written c (parameter k (alg_param ty n)) = type-written c ty
kind-written c (parameter k (event_param j h n)) = refl
kind-written c (parameter k (location_param n)) = refl
kind-written c (literal k ls) = refl
kind-written c (location k) = refl
kind-written c (inner n b) = refl
kind-written c (definition n ps b) = refl
kind-written c (instance i) = refl

channels-written : (c : Component) (h : ChannelTree) → channel_kind c h ≡ channel_kind (as_written c) h
channels-written c no_type = refl
channels-written c void_type = refl
channels-written c (value_type ty) = ap channel_for (type-written c ty)

pub channel-written : (c : Component) (e : Entry) → channel_at (reached (c, e)) ≡ channel_at (reached (as_written c, e))
channel-written c (declared (event_decl k h n)) = channels-written c h
channel-written c (declared (const_decl ty n e)) = refl
channel-written c (declared (alg_decl ty n e)) = refl
channel-written c (declared (input_decl ty n)) = refl
channel-written c (declared (disc_decl ty n e)) = refl
channel-written c (declared (type_decl n ty)) = refl
channel-written c (declared (enum_decl n ls)) = refl
channel-written c (declared (equation_decl q)) = refl
channel-written c (declared (invariant_decl i)) = refl
channel-written c (declared (marked_decl p)) = refl
channel-written c (parameter k (event_param j h n)) = channels-written c h
channel-written c (parameter k (alg_param ty n)) = refl
channel-written c (parameter k (location_param n)) = refl
channel-written c (literal k ls) = refl
channel-written c (location k) = refl
channel-written c (inner n b) = refl
channel-written c (definition n ps b) = refl
channel-written c (instance i) = refl
