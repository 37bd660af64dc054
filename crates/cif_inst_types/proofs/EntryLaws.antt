-- What the scope of a component declares as a declaration, is one of its declarations.
use Rattle.std.proofs.Common.{ℕ, inl, inr, List, [], ◌∷◌, map, refl, sym, subst, Option, Some, None}
use Rattle.std.specs.Prelude.{flat_map, filter_map, option_map}
use Rattle.std.specs.List.{enumerate_from, cons_option}
use Rattle.cif_ast.specs.declared.names.Ident.{Ident}
use Rattle.cif_system.specs.Words.{Member}
use Rattle.cif_system.proofs.Picks.{at-member, flat_map-member}
use Rattle.cif_system.proofs.Distinct.{member-append, member-flat_map}
use Rattle.cif_source.specs.Source.{DeclTree, type_decl, enum_decl, event_decl, const_decl, alg_decl, input_decl, disc_decl, equation_decl, invariant_decl, marked_decl, ParamTree, LocationTree, SourceItem, decl_item, component_item, definition_item, instance_item, SourceBody, group_body, automaton_body, list_of_items}
use Rattle.cif_source.specs.Components.{Component, body_of, params_of, scope_of, Entry, declared, literal, location, inner, definition, instance, parameter, decl_entries, item_entries, body_entries, location_entry, param_name, param_entries}
use Rattle.cif_source.specs.Objects.{item_decls, decls_in, decls_of}
use Rattle.cif_scope.specs.Scopes.{IsEntry}

-- a name for a declaration is for one of these
abbrev IsAmong : List DeclTree → Ident × Entry → Type 0
IsAmong ds (n, declared d) = Member d ds
IsAmong ds (n, literal k ls) = Unit {0}
IsAmong ds (n, location k) = Unit {0}
IsAmong ds (n, inner m b) = Unit {0}
IsAmong ds (n, definition m ps b) = Unit {0}
IsAmong ds (n, instance i) = Unit {0}
IsAmong ds (n, parameter k p) = Unit {0}

module _ (ds : List DeclTree) where
  only : (x y : Ident × Entry) → IsAmong ds y → Member x (y ∷ []) → IsAmong ds x
  only x y h m = elim m [ inl w ↦ subst (IsAmong ds) (sym w) h | inr w ↦ absurd w ]

  mapped : {A : Type 0} (f : A → Ident × Entry) → ((a : A) → IsAmong ds (f a)) → (xs : List A) (x : Ident × Entry) → Member x (map f xs) → IsAmong ds x
  mapped f all [] x m = absurd m
  mapped f all (a ∷ xs) x m = elim m [ inl w ↦ subst (IsAmong ds) (sym w) (all a) | inr w ↦ mapped f all xs x w ]

  decl-among : (d : DeclTree) → Member d ds → (x : Ident × Entry) → Member x (decl_entries d) → IsAmong ds x
  decl-among (type_decl n ty) h x m = only x (n, declared (type_decl n ty)) h m
  decl-among (enum_decl n ls) h x m =
      elim m [ inl w ↦ subst (IsAmong ds) (sym w) h | inr w ↦ mapped (λ (y : ℕ × Ident). (y.1, literal y.0 ls)) (λ y. tt) (enumerate_from 0 ls) x w ]
  decl-among (event_decl k c n) h x m = only x (n, declared (event_decl k c n)) h m
  decl-among (const_decl ty n e) h x m = only x (n, declared (const_decl ty n e)) h m
  decl-among (alg_decl ty n e) h x m = only x (n, declared (alg_decl ty n e)) h m
  decl-among (input_decl ty n) h x m = only x (n, declared (input_decl ty n)) h m
  decl-among (disc_decl ty n e) h x m = only x (n, declared (disc_decl ty n e)) h m
  decl-among (equation_decl q) h x m = absurd m
  decl-among (invariant_decl i) h x m = absurd m
  decl-among (marked_decl p) h x m = absurd m

  item-among : (i : SourceItem) → ((d : DeclTree) → Member d (item_decls i) → Member d ds) → (x : Ident × Entry) → Member x (item_entries i) → IsAmong ds x
  item-among (decl_item d) h x m = decl-among d (h d (inl refl)) x m
  item-among (component_item n b) h x m = only x (n, inner n b) tt m
  item-among (definition_item n ps b) h x m = only x (n, definition n ps b) tt m
  item-among (instance_item i) h x m = only x (i.name, instance i) tt m

  locations-among : (ls : List (ℕ × LocationTree)) (x : Ident × Entry) → Member x (filter_map location_entry ls) → IsAmong ds x
  locations-among [] x m = absurd m
  locations-among ((k, l) ∷ ls) x m = go l.name m (locations-among ls x)
    where
      go : (o : Option Ident) → Member x (cons_option (option_map (λ n. (n, location k)) o) (filter_map location_entry ls)) → (Member x (filter_map location_entry ls) → IsAmong ds x) → IsAmong ds x
      go None w rest = rest w
      go (Some n) w rest = elim w [ inl v ↦ subst (IsAmong ds) (sym v) tt | inr v ↦ rest v ]

body-among : (b : SourceBody) (x : Ident × Entry) → Member x (body_entries b) → IsAmong (decls_in b) x
body-among (group_body is) x m =
    let i = member-flat_map item_entries x (list_of_items is) m in
    item-among (decls_in (group_body is)) i.0 (λ d k. flat_map-member item_decls i.0 (list_of_items is) d i.1 k) x i.2
body-among (automaton_body a) x m = elim (member-append x (flat_map decl_entries a.decls) (filter_map location_entry (enumerate_from 0 a.locs)) m) [
  | inl w ↦ let d = member-flat_map decl_entries x a.decls w in decl-among a.decls d.0 d.1 x d.2
  | inr w ↦ locations-among a.decls (enumerate_from 0 a.locs) x w
]

pub entry-declared : (c : Component) (d : DeclTree) (j : ℕ) → IsEntry c (declared d) j → Member d (decls_of c)
entry-declared c d j at = elim (member-append (at.0, declared d) (param_entries (params_of c)) (body_entries (body_of c)) (at-member (scope_of c) j (at.0, declared d) at.1)) [
  | inl w ↦ mapped (decls_of c) (λ (y : ℕ × ParamTree). (param_name y.1, parameter y.0 y.1)) (λ y. tt) (enumerate_from 0 (params_of c)) (at.0, declared d) w
  | inr w ↦ body-among (body_of c) (at.0, declared d) w
]
