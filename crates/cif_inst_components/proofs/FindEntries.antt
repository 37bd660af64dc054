-- The entries for components and instances in a scope, and what stands in a component under their names.
use Rattle.std.proofs.Common.{◌≡◌, ℕ, zero, suc, ◌+◌, Bool, true, false, cond, inl, inr, List, [], ◌∷◌, find, refl, sym, ◌∙◌, ap, subst, Some, None}
use Rattle.std.specs.Prelude.{slice_get, flat_map, filter_map, option_map}
use Rattle.std.specs.List.{enumerate_from}
use Rattle.std.proofs.lemmas.Cmp.{nat_list_eq_equiv}
use Rattle.cif_ast.specs.declared.names.Ident.{Ident}
use Rattle.cif_system.specs.Words.{Member, AreDistinct}
use Rattle.cif_system.proofs.Lists.{some-same, none-some, false-true}
use Rattle.cif_system.proofs.Distinct.{member-append, member-map}
use Rattle.cif_system.proofs.Picks.{at-member, map-member}
use Rattle.cif_source.specs.Source.{Text, DeclTree, type_decl, enum_decl, event_decl, const_decl, alg_decl, input_decl, disc_decl, equation_decl, invariant_decl, marked_decl, ParamTree, LocationTree, SourceItem, decl_item, component_item, definition_item, instance_item, SourceBody, group_body, automaton_body, list_of_items}
use Rattle.cif_source.specs.Components.{Component, body_of, params_of, scope_of, param_name, param_entries, body_entries, decl_entries, location_entry, item_entries, Entry, Entries, declared, literal, location, inner, definition, instance, parameter, entry_named, same_text}
use Rattle.cif_source.specs.Lookup.{at_entry}
use Rattle.cif_source.proofs.ReachLaws.{Stands, in_scope-in}
use Rattle.cif_scope.specs.Scopes.{IsEntry}
use Rattle.cif_scope.proofs.LookLaws.{get-map, same-text}
use Rattle.cif_inst_components.proofs.FindSingle.{texts, place-single}

-- ---- the names of entries

abbrev pub is_standing : Entry → Bool
is_standing (inner n b) = true
is_standing (instance i) = true
is_standing _ = false

-- the entry of a component or an instance stands under its name
abbrev IsCalled : Ident → Entry → Type 0
IsCalled x (inner n b) = x ≡ n
IsCalled x (instance i) = x ≡ i.name
IsCalled x _ = Unit {0}

abbrev IsCalledAt : Ident × Entry → Type 0
IsCalledAt x = IsCalled x.0 x.1

-- entries of declarations and locations have no name of their own
decl-called : (d : DeclTree) (x : Ident × Entry) → Member x (decl_entries d) → IsCalledAt x
decl-called (type_decl n ty) x m = elim m [ inl w ↦ subst IsCalledAt (sym w) tt | inr w ↦ absurd w ]
decl-called (enum_decl n ls) x m =
    elim m [
      | inl w ↦ subst IsCalledAt (sym w) tt
      | inr w ↦ let y = member-map (λ (z : ℕ × Ident). (z.1, literal z.0 ls)) x (enumerate_from 0 ls) w in subst IsCalledAt (sym y.2) tt
    ]
decl-called (event_decl k h n) x m = elim m [ inl w ↦ subst IsCalledAt (sym w) tt | inr w ↦ absurd w ]
decl-called (const_decl ty n e) x m = elim m [ inl w ↦ subst IsCalledAt (sym w) tt | inr w ↦ absurd w ]
decl-called (alg_decl ty n e) x m = elim m [ inl w ↦ subst IsCalledAt (sym w) tt | inr w ↦ absurd w ]
decl-called (input_decl ty n) x m = elim m [ inl w ↦ subst IsCalledAt (sym w) tt | inr w ↦ absurd w ]
decl-called (disc_decl ty n e) x m = elim m [ inl w ↦ subst IsCalledAt (sym w) tt | inr w ↦ absurd w ]
decl-called (equation_decl q) x m = absurd m
decl-called (invariant_decl i) x m = absurd m
decl-called (marked_decl p) x m = absurd m

location-called : (k : ℕ) (ls : List LocationTree) (x : Ident × Entry) → Member x (filter_map location_entry (enumerate_from k ls)) → IsCalledAt x
location-called k [] x m = absurd m
location-called k (l ∷ ls) x m =
    (elim l.name as (λ o. Member x (filter_map location_entry ((k, record l { name = o }) ∷ enumerate_from (k + 1) ls)) → IsCalledAt x) [
      | None ↦ λ g. location-called (k + 1) ls x g
      | Some n ↦ λ g. elim g [ inl w ↦ subst IsCalledAt (sym w) tt | inr w ↦ location-called (k + 1) ls x w ]
    ]) m

decls-called : (ds : List DeclTree) (x : Ident × Entry) → Member x (flat_map decl_entries ds) → IsCalledAt x
decls-called [] x m = absurd m
decls-called (d ∷ ds) x m = elim (member-append x (decl_entries d) (flat_map decl_entries ds) m) [ inl w ↦ decl-called d x w | inr w ↦ decls-called ds x w ]

param-called : (ps : List ParamTree) (x : Ident × Entry) → Member x (param_entries ps) → IsCalledAt x
param-called ps x m = let y = member-map (λ (z : ℕ × ParamTree). (param_name z.1, parameter z.0 z.1)) x (enumerate_from 0 ps) m in subst IsCalledAt (sym y.2) tt

item-called : (i : SourceItem) (x : Ident × Entry) → Member x (item_entries i) → IsCalledAt x
item-called (decl_item d) x m = decl-called d x m
item-called (component_item n b) x m = elim m [ inl w ↦ subst IsCalledAt (sym w) refl | inr w ↦ absurd w ]
item-called (definition_item n ps b) x m = elim m [ inl w ↦ subst IsCalledAt (sym w) tt | inr w ↦ absurd w ]
item-called (instance_item i) x m = elim m [ inl w ↦ subst IsCalledAt (sym w) refl | inr w ↦ absurd w ]

items-called : (is : List SourceItem) (x : Ident × Entry) → Member x (flat_map item_entries is) → IsCalledAt x
items-called [] x m = absurd m
items-called (i ∷ is) x m = elim (member-append x (item_entries i) (flat_map item_entries is) m) [ inl w ↦ item-called i x w | inr w ↦ items-called is x w ]

body-called : (b : SourceBody) (x : Ident × Entry) → Member x (body_entries b) → IsCalledAt x
body-called (group_body is) x m = items-called (list_of_items is) x m
body-called (automaton_body a) x m =
    elim (member-append x (flat_map decl_entries a.decls) (filter_map location_entry (enumerate_from 0 a.locs)) m) [ inl w ↦ decls-called a.decls x w | inr w ↦ location-called 0 a.locs x w ]

scope-called : (c : Component) (x : Ident × Entry) → Member x (scope_of c) → IsCalledAt x
scope-called c x m =
    elim (member-append x (param_entries (params_of c)) (body_entries (body_of c)) m) [ inl w ↦ param-called (params_of c) x w | inr w ↦ body-called (body_of c) x w ]

called-same : (x y : Ident) (e : Entry) → is_standing e ≡ true → IsCalled x e → IsCalled y e → x ≡ y
called-same x y (inner n b) s h g = h ∙ sym g
called-same x y (instance i) s h g = h ∙ sym g
called-same x y (declared d) s h g = absurd (false-true refl s)
called-same x y (literal k ls) s h g = absurd (false-true refl s)
called-same x y (location k) s h g = absurd (false-true refl s)
called-same x y (definition n ps b) s h g = absurd (false-true refl s)
called-same x y (parameter k p) s h g = absurd (false-true refl s)

-- the entry of a component or an instance stands in one slot
pub slot-single : (c : Component) (e : Entry) (j k : ℕ) → AreDistinct (texts (scope_of c)) → is_standing e ≡ true → IsEntry c e j → IsEntry c e k → j ≡ k
slot-single c e j k d s h g =
    let same : h.0 ≡ g.0 = called-same h.0 g.0 e s (scope-called c (h.0, e) (at-member (scope_of c) j (h.0, e) h.1)) (scope-called c (g.0, e) (at-member (scope_of c) k (g.0, e) g.1)) in
    place-single h.0.text (texts (scope_of c)) j k d (get-map (λ (x : Ident × Entry). x.0.text) (scope_of c) j (h.0, e) h.1)
    (subst (λ (n : Ident). slice_get (texts (scope_of c)) k ≡ Some n.text) (sym same) (get-map (λ (x : Ident × Entry). x.0.text) (scope_of c) k (g.0, e) g.1))

-- a slot has one entry
pub entry-same : (c : Component) (e f : Entry) (s : ℕ) → IsEntry c e s → IsEntry c f s → e ≡ f
entry-same c e f s h g = ap (λ (x : Ident × Entry). x.1) (some-same (h.0, e) (g.0, f) (sym h.1 ∙ g.1))

-- ---- what is found under the name

named-found : (es : Entries) (n : Ident) (e : Entry) (s : ℕ) → AreDistinct (texts es) → slice_get es s ≡ Some (n, e) → entry_named n.text es ≡ Some e
named-found [] n e s d h = absurd (none-some (n, e) h)
named-found (y ∷ es) n e zero d h =
    let same : y ≡ (n, e) = some-same y (n, e) h in
    let equal : same_text y.0.text n.text ≡ true = ap (λ (x : Ident × Entry). same_text x.0.text n.text) same ∙ nat_list_eq_equiv.refl n.text in
    ap (λ b. option_map (λ (x : Ident × Entry). x.1) (cond b (Some y) (find (λ (x : Ident × Entry). same_text x.0.text n.text) es))) equal ∙ ap (λ (x : Ident × Entry). Some x.1) same
named-found (y ∷ es) n e (suc s) d h =
    (elim (same_text y.0.text n.text) as (λ b. same_text y.0.text n.text ≡ b → option_map (λ (x : Ident × Entry). x.1) (cond b (Some y) (find (λ (x : Ident × Entry). same_text x.0.text n.text) es)) ≡ Some e) [
      | true ↦ λ g.
          let other : Member n.text (texts es) = map-member (λ (x : Ident × Entry). x.0.text) (n, e) es (at-member es s (n, e) h) in
          absurd (d.0 (subst (λ (x : Text). Member x (texts es)) (sym (same-text y.0.text n.text g)) other))
      | false ↦ λ g. named-found es n e s d.1 h
    ]) refl

-- what an entry says stands in the component does
pub entry-stands : (c : Component) (e : Entry) (s : ℕ) → AreDistinct (texts (scope_of c)) → IsEntry c e s → Stands (c, e)
entry-stands c e s d h = (in_scope-in c h.0.text (c, e) (ap (at_entry c) (named-found (scope_of c) h.0 e s d h.1))).1
