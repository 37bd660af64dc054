-- A component or an instance stands under its name in the scope of the component in which it stands.
use Rattle.std.proofs.Common.{◌≡◌, ℕ, ◌+◌, inl, inr, List, [], ◌∷◌, ◌++◌, Some, None, refl, sym, subst}
use Rattle.std.specs.Prelude.{flat_map, filter_map, slice_get}
use Rattle.std.specs.List.{enumerate_from}
use Rattle.cif_ast.specs.declared.names.Ident.{Ident}
use Rattle.cif_system.specs.Words.{Member}
use Rattle.cif_system.proofs.Distinct.{member-append, member-map}
use Rattle.cif_system.proofs.Lists.{some-same, none-some}
use Rattle.cif_system.proofs.Picks.{at-member}
use Rattle.cif_source.specs.Source.{DeclTree, type_decl, enum_decl, event_decl, const_decl, alg_decl, input_decl, disc_decl, equation_decl, invariant_decl, marked_decl, ParamTree, LocationTree, SourceItem, decl_item, component_item, definition_item, instance_item, SourceBody, group_body, automaton_body, list_of_items}
use Rattle.cif_source.specs.Components.{Component, whole, part, blank, copy, body_of, params_of, path_of, scope_of, param_name, param_entries, body_entries, decl_entries, location_entry, item_entries, Entry, literal, inner, instance, parameter}
use Rattle.cif_inst_components.proofs.FindChildren.{standing_of}
use Rattle.cif_inst_model.proofs.FoundLaws.{flat-cases}

-- the entry of a component or an instance has its name
abbrev IsCalled : Ident × Entry → Type 0
IsCalled (x, inner n b) = x ≡ n
IsCalled (x, instance i) = x ≡ i.name
IsCalled (x, _) = Unit {0}

decl-called : (d : DeclTree) (x : Ident × Entry) → Member x (decl_entries d) → IsCalled x
decl-called (type_decl n ty) x m = elim m [ inl w ↦ subst IsCalled (sym w) tt | inr w ↦ absurd w ]
decl-called (enum_decl n ls) x m =
    elim m [
      | inl w ↦ subst IsCalled (sym w) tt
      | inr w ↦ let y = member-map (λ (z : ℕ × Ident). (z.1, literal z.0 ls)) x (enumerate_from 0 ls) w in subst IsCalled (sym y.2) tt
    ]
decl-called (event_decl k h n) x m = elim m [ inl w ↦ subst IsCalled (sym w) tt | inr w ↦ absurd w ]
decl-called (const_decl ty n e) x m = elim m [ inl w ↦ subst IsCalled (sym w) tt | inr w ↦ absurd w ]
decl-called (alg_decl ty n e) x m = elim m [ inl w ↦ subst IsCalled (sym w) tt | inr w ↦ absurd w ]
decl-called (input_decl ty n) x m = elim m [ inl w ↦ subst IsCalled (sym w) tt | inr w ↦ absurd w ]
decl-called (disc_decl ty n e) x m = elim m [ inl w ↦ subst IsCalled (sym w) tt | inr w ↦ absurd w ]
decl-called (equation_decl q) x m = absurd m
decl-called (invariant_decl i) x m = absurd m
decl-called (marked_decl p) x m = absurd m

location-called : (k : ℕ) (ls : List LocationTree) (x : Ident × Entry) → Member x (filter_map location_entry (enumerate_from k ls)) → IsCalled x
location-called k [] x m = absurd m
location-called k (l ∷ ls) x m =
    (elim l.name as (λ o. Member x (filter_map location_entry ((k, record l { name = o }) ∷ enumerate_from (k + 1) ls)) → IsCalled x) [
      | None ↦ λ g. location-called (k + 1) ls x g
      | Some n ↦ λ g. elim g [ inl w ↦ subst IsCalled (sym w) tt | inr w ↦ location-called (k + 1) ls x w ]
    ]) m

item-called : (i : SourceItem) (x : Ident × Entry) → Member x (item_entries i) → IsCalled x
item-called (decl_item d) x m = decl-called d x m
item-called (component_item n b) x m = elim m [ inl w ↦ subst IsCalled (sym w) refl | inr w ↦ absurd w ]
item-called (definition_item n ps b) x m = elim m [ inl w ↦ subst IsCalled (sym w) tt | inr w ↦ absurd w ]
item-called (instance_item i) x m = elim m [ inl w ↦ subst IsCalled (sym w) refl | inr w ↦ absurd w ]

body-called : (b : SourceBody) (x : Ident × Entry) → Member x (body_entries b) → IsCalled x
body-called (group_body is) x m = let i = flat-cases item_entries x (list_of_items is) m in item-called i.0 x i.2
body-called (automaton_body a) x m =
    elim (member-append x (flat_map decl_entries a.decls) (filter_map location_entry (enumerate_from 0 a.locs)) m) [
      | inl w ↦ let d = flat-cases decl_entries x a.decls w in decl-called d.0 x d.2
      | inr w ↦ location-called 0 a.locs x w
    ]

scope-called : (c : Component) (x : Ident × Entry) → Member x (scope_of c) → IsCalled x
scope-called c x m =
    elim (member-append x (param_entries (params_of c)) (body_entries (body_of c)) m) [
      | inl w ↦ let y = member-map (λ (z : ℕ × ParamTree). (param_name z.1, parameter z.0 z.1)) x (enumerate_from 0 (params_of c)) w in subst IsCalled (sym y.2) tt
      | inr w ↦ body-called (body_of c) x w
    ]

-- its path has that name behind the path of the component in which it stands
last-named : (d g : Component) (e : Entry) (n : Ident) → standing_of d ≡ Some (g, e) → IsCalled (n, e) → path_of d ≡ path_of g ++ n.text ∷ []
last-named (whole is) g e n h k = absurd (none-some (g, e) h)
last-named (part p m b) g e n h k =
    let same : (p, inner m b) ≡ (g, e) = some-same (p, inner m b) (g, e) h in
    let named : n ≡ m = subst (λ (x : Component × Entry). IsCalled (n, x.1)) (sym same) k in
    λ i. path_of (same i).0 ++ (sym named i).text ∷ []
last-named (blank p m ps b) g e n h k = absurd (none-some (g, e) h)
last-named (copy o m ps b q j) g e n h k =
    let same : (q, instance j) ≡ (g, e) = some-same (q, instance j) (g, e) h in
    let named : n ≡ j.name = subst (λ (x : Component × Entry). IsCalled (n, x.1)) (sym same) k in
    λ i. path_of (same i).0 ++ (sym named i).text ∷ []

pub path-standing : (d g : Component) (e : Entry) (n : Ident) (s : ℕ) → standing_of d ≡ Some (g, e) → slice_get (scope_of g) s ≡ Some (n, e) → path_of d ≡ path_of g ++ n.text ∷ []
path-standing d g e n s h at = last-named d g e n h (scope-called g (n, e) (at-member (scope_of g) s (n, e) at))
