-- What a name finds is an entry of a scope: a declaration, component, definition or instance of that body, or a parameter at its
-- place.
use Rattle.std.proofs.Common.{◌≡◌, ℕ, suc, ◌+◌, ◌<◌, length, inl, inr, List, [], ◌∷◌, map, Some, None, refl, sym, ◌∙◌, ap, subst, arith}
use Rattle.std.specs.Prelude.{option_map, flat_map, filter_map, slice_get}
use Rattle.std.specs.List.{cons_option, enumerate_from}
use Rattle.cif_ast.specs.declared.names.Ident.{Ident}
use Rattle.cif_system.specs.Words.{Member}
use Rattle.cif_system.proofs.Picks.{flat_map-member}
use Rattle.cif_source.specs.Source.{Text, ParamTree, DeclTree, type_decl, enum_decl, event_decl, const_decl, alg_decl, input_decl, disc_decl, equation_decl, invariant_decl, marked_decl, LocationTree, SourceBody, SourceItem, decl_item, component_item, definition_item, instance_item, group_body, automaton_body, list_of_items}
use Rattle.cif_source.specs.Components.{Component, body_of, params_of, scope_of, Entry, Entries, declared, literal, location, inner, definition, instance, parameter, item_entries, body_entries, decl_entries, location_entry, param_name, param_entries, entry_named, same_text}
use Rattle.cif_source.specs.Lookup.{ScopeEntry, reached, at_entry, in_scope, in_body}
use Rattle.cif_source.specs.Objects.{decls_in, item_decls, items_in, locs_in}
use Rattle.cif_source.proofs.ComponentLaws.{append-cases}
use Rattle.cif_source.proofs.ReachLaws.{find-entry, reached-same}
use Rattle.cif_inst_model.proofs.FoundLaws.{flat-cases}
use Rattle.cif_inst_model.proofs.StandingLaws.{enumerated}
use Rattle.cif_inst_bodies.specs.Entries.{IsIn, IsOf}

-- ---- entries of a scope

module _ (ps : List ParamTree) (b : SourceBody) where
  here : (m n : Ident) (e f : Entry) → ◌≡◌ {A = Ident × Entry} (n, e) (m, f) → IsIn ps b f → IsIn ps b e
  here m n e f same h = subst (IsIn ps b) (sym (ap (λ (y : Ident × Entry). y.1) same)) h

  one-in : (m n : Ident) (e f : Entry) → IsIn ps b f → Member {A = Ident × Entry} (n, e) ((m, f) ∷ []) → IsIn ps b e
  one-in m n e f h k = elim k [ inl w ↦ here m n e f w h | inr w ↦ absurd w ]

  literals-in : (m : Ident) (ls : List Ident) → Member (enum_decl m ls) (decls_in b) → (xs : List (ℕ × Ident)) → ((x : ℕ × Ident) → Member x xs → x.0 < length ls) → (n : Ident) (e : Entry)
      → Member {A = Ident × Entry} (n, e) (map (λ x. (x.1, literal x.0 ls)) xs) → IsIn ps b e
  literals-in m ls h [] below n e k = absurd k
  literals-in m ls h (x ∷ xs) below n e k =
      elim k [
        | inl w ↦ here x.1 n e (literal x.0 ls) w (m, h, below x (inl refl))
        | inr w ↦ literals-in m ls h xs (λ y j. below y (inr j)) n e w
      ]

  decl-in : (d : DeclTree) → Member d (decls_in b) → (n : Ident) (e : Entry) → Member (n, e) (decl_entries d) → IsIn ps b e
  decl-in (type_decl k t) h n e m = one-in k n e (declared (type_decl k t)) h m
  decl-in (enum_decl k ls) h n e m = elim m [ inl w ↦ here k n e (declared (enum_decl k ls)) w h | inr w ↦ literals-in k ls h (enumerate_from 0 ls) (λ x j. let at = enumerated 0 x ls j in omega (arith, at.1)) n e w ]
  decl-in (event_decl c x k) h n e m = one-in k n e (declared (event_decl c x k)) h m
  decl-in (const_decl t k v) h n e m = one-in k n e (declared (const_decl t k v)) h m
  decl-in (alg_decl t k v) h n e m = one-in k n e (declared (alg_decl t k v)) h m
  decl-in (input_decl t k) h n e m = one-in k n e (declared (input_decl t k)) h m
  decl-in (disc_decl t k v) h n e m = one-in k n e (declared (disc_decl t k v)) h m
  decl-in (equation_decl q) h n e m = absurd m
  decl-in (invariant_decl i) h n e m = absurd m
  decl-in (marked_decl p) h n e m = absurd m

  locations-in : (ls : List (ℕ × LocationTree)) → ((x : ℕ × LocationTree) → Member x ls → x.0 < length (locs_in b)) → (n : Ident) (e : Entry) → Member (n, e) (filter_map location_entry ls) → IsIn ps b e
  locations-in [] below n e m = absurd m
  locations-in ((k, l) ∷ ls) below n e m =
      (elim l.name as (λ o. Member (n, e) (cons_option (option_map (λ x. (x, location k)) o) (filter_map location_entry ls)) → IsIn ps b e) [
        | None ↦ λ w. locations-in ls (λ y j. below y (inr j)) n e w
        | Some x ↦ λ w. elim w [ inl v ↦ here x n e (location k) v (below (k, l) (inl refl)) | inr v ↦ locations-in ls (λ y j. below y (inr j)) n e v ]
      ]) m

  params-in : (k : ℕ) (qs : List ParamTree) → ((j : ℕ) (q : ParamTree) → slice_get qs j ≡ Some q → slice_get ps (k + j) ≡ Some q)
      → (n : Ident) (e : Entry) → Member {A = Ident × Entry} (n, e) (map (λ x. (param_name x.1, parameter x.0 x.1)) (enumerate_from k qs)) → IsIn ps b e
  params-in k [] at n e m = absurd m
  params-in k (q ∷ qs) at n e m =
      elim m [
        | inl w ↦ here (param_name q) n e (parameter k q) w (let same : k ≡ k + 0 = omega arith in ap (slice_get ps) same ∙ at 0 q refl)
        | inr w ↦ params-in (k + 1) qs (λ j p g. let same : k + 1 + j ≡ k + suc j = omega arith in ap (slice_get ps) same ∙ at (suc j) p g) n e w
      ]

item-in : (ps : List ParamTree) (b : SourceBody) (i : SourceItem) → Member i (items_in b) → ((d : DeclTree) → Member d (item_decls i) → Member d (decls_in b))
    → (n : Ident) (e : Entry) → Member (n, e) (item_entries i) → IsIn ps b e
item-in ps b (decl_item d) h decls n e m = decl-in ps b d (decls d (inl refl)) n e m
item-in ps b (component_item k c) h decls n e m = one-in ps b k n e (inner k c) h m
item-in ps b (definition_item k qs c) h decls n e m = one-in ps b k n e (definition k qs c) h m
item-in ps b (instance_item j) h decls n e m = one-in ps b j.name n e (instance j) h m

entries-in : (ps : List ParamTree) (b : SourceBody) (n : Ident) (e : Entry) → Member (n, e) (body_entries b) → IsIn ps b e
entries-in ps (group_body is) n e m =
    let i = flat-cases item_entries (n, e) (list_of_items is) m in
    item-in ps (group_body is) i.0 i.1 (λ d k. flat_map-member item_decls i.0 (list_of_items is) d i.1 k) n e i.2
entries-in ps (automaton_body a) n e m =
    elim (append-cases (n, e) (flat_map decl_entries a.decls) (filter_map location_entry (enumerate_from 0 a.locs)) m) [
      | inl w ↦ let d = flat-cases decl_entries (n, e) a.decls w in decl-in ps (automaton_body a) d.0 d.1 n e d.2
      | inr w ↦ locations-in ps (automaton_body a) (enumerate_from 0 a.locs) (λ x j. let at = enumerated 0 x a.locs j in omega (arith, at.1)) n e w
    ]

-- ---- what is found in a scope

-- the place lies in the component, whose scope declares it
abbrev pub In : Component → ScopeEntry → Type 0
In c x = (x.0 ≡ c) × IsOf x.0 x.1

at-in : (c : Component) (xs : Entries) → ((n : Ident) (e : Entry) → Member (n, e) xs → IsOf c e) → (s : Text) (x : ScopeEntry) → at_entry c (entry_named s xs) ≡ reached x → In c x
at-in c xs all s x h =
    (elim (entry_named s xs) as (λ o. entry_named s xs ≡ o → at_entry c o ≡ reached x → In c x) [
      | None ↦ λ i g. cc
      | Some e ↦ λ i g. let f = find-entry (λ y. same_text y.0.text s) xs e i in subst (In c) (reached-same (c, e) x g) (refl, all f.0 e f.1)
    ]) refl h

pub in_body-is : (c : Component) (s : Text) (x : ScopeEntry) → in_body c s ≡ reached x → In c x
in_body-is c s x h = at-in c (body_entries (body_of c)) (entries-in (params_of c) (body_of c)) s x h

pub in_scope-is : (c : Component) (s : Text) (x : ScopeEntry) → in_scope c s ≡ reached x → In c x
in_scope-is c s x h =
    at-in c (scope_of c)
    (λ n e m. elim (append-cases (n, e) (param_entries (params_of c)) (body_entries (body_of c)) m) [
      | inl w ↦ params-in (params_of c) (body_of c) 0 (params_of c) (λ j q g. let same : 0 + j ≡ j = omega arith in ap (slice_get (params_of c)) same ∙ g) n e w
      | inr w ↦ entries-in (params_of c) (body_of c) n e w
    ]) s x h
