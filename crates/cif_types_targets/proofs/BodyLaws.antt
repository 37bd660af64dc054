-- What is assigned is a discrete variable, and of one variable there is one slot.
use Rattle.std.proofs.Common.{◌≡◌, ℕ, Bool, true, false, ◌⊎◌, inl, inr, List, [], ◌∷◌, flat_map, refl, sym, ap, ◌∙◌, Option, Some, None}
use Rattle.std.specs.Prelude.{IsTrue, not, filter_map, option_map}
use Rattle.std.specs.List.{cons_option, enumerate_from}
use Rattle.cif_ast.specs.declared.names.Ident.{Ident}
use Rattle.cif_ast.specs.declared.names.Name.{Name}
use Rattle.cif_system.specs.Words.{Member}
use Rattle.cif_system.proofs.Lists.{false-true}
use Rattle.cif_system.proofs.Distinct.{member-map, member-flat_map}
use Rattle.cif_system.proofs.Picks.{at-member}
use Rattle.cif_source.specs.Source.{Text, DeclTree, type_decl, enum_decl, event_decl, const_decl, alg_decl, input_decl, disc_decl, equation_decl, invariant_decl, marked_decl, LocationTree, ParamTree, SourceItem, decl_item, component_item, definition_item, instance_item, SourceBody, group_body, automaton_body, Source, list_of_items}
use Rattle.cif_source.specs.Components.{Component, body_of, params_of, Entry, declared, literal, location, parameter, param_entries, param_name, decl_entries, location_entry, item_entries, body_entries, scope_of}
use Rattle.cif_source.specs.Lookup.{ScopeEntry, Reached, reached, missing, blocked, found}
use Rattle.cif_source.specs.Objects.{bodies}
use Rattle.cif_source.specs.Uses.{Use, uses, sought, variable_asked, is_asked}
use Rattle.cif_source.specs.Scoping.{is_missing, is_wrong, UnknownName, UnknownOwn, WrongName, WrongOwn, WrongCount}
use Rattle.cif_source.proofs.ComponentLaws.{append-cases}
use Rattle.cif_scope.specs.declared.scopes.Scopes.{Scopes}
use Rattle.cif_scope.specs.Tables.{IsBody}
use Rattle.cif_scope.specs.Scopes.{IsEntry, AreScopesOf}
use Rattle.cif_scope.proofs.LookLaws.{get-map}
use Rattle.cif_source.proofs.Elements.{to-any}
use Rattle.cif_types_targets.proofs.Elements.{place-single}
use Rattle.cif_types_targets.proofs.UseLaws.{assigned_use, body_targets, target-used}
use Rattle.cif_types_targets.proofs.PathLaws.{texts}
use Rattle.cif_types_targets.proofs.NameLaws.{scope-single}

-- ---- the name of a variable

abbrev is_variable_entry : Entry → Bool
is_variable_entry e = is_asked variable_asked e

abbrev variable_text : Entry → Text
variable_text (declared (disc_decl ty n e)) = n.text
variable_text _ = []

-- it stands under the name that it declares
abbrev IsNamed : Ident × Entry → Type 0
IsNamed x = is_variable_entry x.1 ≡ true → x.0.text ≡ variable_text x.1

decl-named : (d : DeclTree) (x : Ident × Entry) → Member x (decl_entries d) → IsNamed x
decl-named (type_decl n ty) x m h = elim m [ inl w ↦ absurd (false-true (ap (λ (z : Ident × Entry). is_variable_entry z.1) w) h) | inr w ↦ absurd w ]
decl-named (event_decl k ch n) x m h = elim m [ inl w ↦ absurd (false-true (ap (λ (z : Ident × Entry). is_variable_entry z.1) w) h) | inr w ↦ absurd w ]
decl-named (const_decl ty n e) x m h = elim m [ inl w ↦ absurd (false-true (ap (λ (z : Ident × Entry). is_variable_entry z.1) w) h) | inr w ↦ absurd w ]
decl-named (alg_decl ty n e) x m h = elim m [ inl w ↦ absurd (false-true (ap (λ (z : Ident × Entry). is_variable_entry z.1) w) h) | inr w ↦ absurd w ]
decl-named (input_decl ty n) x m h = elim m [ inl w ↦ absurd (false-true (ap (λ (z : Ident × Entry). is_variable_entry z.1) w) h) | inr w ↦ absurd w ]
decl-named (disc_decl ty n e) x m h = elim m [ inl w ↦ ap (λ (z : Ident × Entry). z.0.text) w ∙ sym (ap (λ (z : Ident × Entry). variable_text z.1) w) | inr w ↦ absurd w ]
decl-named (equation_decl q) x m h = absurd m
decl-named (invariant_decl i) x m h = absurd m
decl-named (marked_decl p) x m h = absurd m
decl-named (enum_decl n ls) x m h =
    elim m [
      | inl w ↦ absurd (false-true (ap (λ (z : Ident × Entry). is_variable_entry z.1) w) h)
      | inr w ↦
          let y = member-map (λ (z : ℕ × Ident). let e : Ident × Entry = (z.1, literal z.0 ls) in e) x (enumerate_from 0 ls) w in
          absurd (false-true (ap (λ (z : Ident × Entry). is_variable_entry z.1) y.2) h)
    ]

item-named : (i : SourceItem) (x : Ident × Entry) → Member x (item_entries i) → IsNamed x
item-named (decl_item d) x m h = decl-named d x m h
item-named (component_item n b) x m h = elim m [ inl w ↦ absurd (false-true (ap (λ (z : Ident × Entry). is_variable_entry z.1) w) h) | inr w ↦ absurd w ]
item-named (definition_item n ps b) x m h = elim m [ inl w ↦ absurd (false-true (ap (λ (z : Ident × Entry). is_variable_entry z.1) w) h) | inr w ↦ absurd w ]
item-named (instance_item i) x m h = elim m [ inl w ↦ absurd (false-true (ap (λ (z : Ident × Entry). is_variable_entry z.1) w) h) | inr w ↦ absurd w ]

-- a location is no variable
locations-named : (ls : List (ℕ × LocationTree)) (x : Ident × Entry) → Member x (filter_map location_entry ls) → IsNamed x
locations-named [] x m h = absurd m
locations-named (l ∷ ls) x m h = go l.1.name m (locations-named ls x)
  where
    go : (o : Option Ident) → Member x (cons_option (option_map (λ n. let e : Ident × Entry = (n, location l.0) in e) o) (filter_map location_entry ls)) → (Member x (filter_map location_entry ls) → IsNamed x) → x.0.text ≡ variable_text x.1
    go None n ih = ih n h
    go (Some y) n ih = elim n [ inl w ↦ absurd (false-true (ap (λ (z : Ident × Entry). is_variable_entry z.1) w) h) | inr w ↦ ih w h ]

body-named : (b : SourceBody) (x : Ident × Entry) → Member x (body_entries b) → IsNamed x
body-named (group_body is) x m = let i = member-flat_map item_entries x (list_of_items is) m in item-named i.0 x i.2
body-named (automaton_body a) x m =
    elim (append-cases x (flat_map decl_entries a.decls) (filter_map location_entry (enumerate_from 0 a.locs)) m) [
      | inl w ↦ let d = member-flat_map decl_entries x a.decls w in decl-named d.0 x d.2
      | inr w ↦ locations-named (enumerate_from 0 a.locs) x w
    ]

scope-named : (c : Component) (x : Ident × Entry) → Member x (scope_of c) → IsNamed x
scope-named c x m h =
    elim (append-cases x (param_entries (params_of c)) (body_entries (body_of c)) m) [
      | inl w ↦
          let y = member-map (λ (z : ℕ × ParamTree). let e : Ident × Entry = (param_name z.1, parameter z.0 z.1) in e) x (enumerate_from 0 (params_of c)) w in
          absurd (false-true (ap (λ (z : Ident × Entry). is_variable_entry z.1) y.2) h)
      | inr w ↦ body-named (body_of c) x w h
    ]

module _ (t : Source) (s : Scopes) (are : AreScopesOf t s) (c : Component) (k : ℕ) (own : IsBody t k c) where
  -- a variable stands in one slot
  pub slot-single : (e : Entry) (i j : ℕ) → is_asked variable_asked e ≡ true → IsEntry c e i → IsEntry c e j → i ≡ j
  slot-single e i j h f g =
      let one : f.0.text ≡ variable_text e = scope-named c (f.0, e) (at-member (scope_of c) i (f.0, e) f.1) h in
      let two : g.0.text ≡ variable_text e = scope-named c (g.0, e) (at-member (scope_of c) j (g.0, e) g.1) h in
      place-single (variable_text e) (texts (scope_of c)) i j (scope-single t s are.numbers k c own) (get-map (λ (x : Ident × Entry). x.0.text) (scope_of c) i (f.0, e) f.1 ∙ ap Some one)
      (get-map (λ (x : Ident × Entry). x.0.text) (scope_of c) j (g.0, e) g.1 ∙ ap Some two)

  -- what an assigned name leads to
  pub record Assigns (nm : Name) : Type 0 where
    pub variable : ScopeEntry
    pub is : found c nm ≡ reached variable
    pub asked : is_asked variable_asked variable.1 ≡ true

  here : Member c (bodies t)
  here = at-member (bodies t) k c own

  known : (nm : Name) → Member nm (body_targets c) → is_missing (found c nm) ≡ true → ⊥
  known nm m h =
      are.rules.known nm.at (to-any (λ d. UnknownName d nm.at ⊎ UnknownOwn d nm.at) c (bodies t) here (inl (
      to-any (λ (u : Use). (u.name.at ≡ nm.at) × IsTrue (is_missing (sought c u))) (assigned_use nm) (uses c) (target-used c nm m) (refl, h)
      )))

  fitting : (nm : Name) → Member nm (body_targets c) → is_wrong (is_asked variable_asked) (found c nm) ≡ true → ⊥
  fitting nm m h =
      are.rules.fitting nm.at (to-any (λ d. WrongName d nm.at ⊎ WrongOwn d nm.at ⊎ WrongCount d nm.at) c (bodies t) here (inl (
      to-any (λ (u : Use). (u.name.at ≡ nm.at) × IsTrue (is_wrong (is_asked u.asks) (sought c u))) (assigned_use nm) (uses c) (target-used c nm m) (refl, h)
      )))

  pub target-assigns : (nm : Name) → Member nm (body_targets c) → Assigns nm
  target-assigns nm m = go (found c nm) refl
    where
      asked : (p : ScopeEntry) (b : Bool) → is_asked variable_asked p.1 ≡ b → (is_wrong (is_asked variable_asked) (reached p) ≡ true → ⊥) → is_asked variable_asked p.1 ≡ true
      asked p true e h = e
      asked p false e h = absurd (h (ap not e))

      go : (r : Reached) → found c nm ≡ r → Assigns nm
      go missing e = absurd (known nm m (ap is_missing e))
      go blocked e = absurd (fitting nm m (ap (is_wrong (is_asked variable_asked)) e))
      go (reached p) e = record { variable = p; is = e; asked = asked p (is_asked variable_asked p.1) refl (λ h. fitting nm m (ap (is_wrong (is_asked variable_asked)) e ∙ h)) }
