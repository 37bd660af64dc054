-- An edge leaves a location of its automaton and leads to one, and each automaton begins in one.
use Rattle.std.proofs.Common.{◌≡◌, ℕ, ◌+◌, ◌<◌, ◌⊎◌, Bool, true, false, cond, inl, inr, List, [], ◌∷◌, ◌++◌, length, map, Option, Some, None, find, refl, sym, ◌∙◌, ap, subst, arith}
use Rattle.std.specs.Prelude.{◌||◌, not, flat_map, filter_map, option_map}
use Rattle.std.specs.List.{list_all, list_any, cons_option, enumerate_from, position_or_len}
use Rattle.std.specs.Cmp.Lexicographic as words
use Rattle.std.proofs.lemmas.Cmp.{nat_list_eq_equiv}
use Rattle.cif_ast.specs.declared.names.Ident.{Ident}
use Rattle.cif_system.specs.Words.{Member}
use Rattle.cif_system.proofs.Lists.{some-same, none-some, false-true}
use Rattle.cif_system.proofs.Picks.{append-right, flat_map-member}
use Rattle.cif_net_model.proofs.Passing.{all-member}
use Rattle.cif_source.specs.Source.{Text, ParamTree, EquationTree, LocationTree, DeclTree, type_decl, enum_decl, event_decl, const_decl, alg_decl, input_decl, disc_decl, equation_decl, invariant_decl, marked_decl, AutomatonTree, automaton_body, Source}
use Rattle.cif_source.specs.Components.{Component, as_written, body_of, params_of, Entry, Entries, declared, literal, location, inner, definition, instance, parameter, same_text, entry_named, scope_of, param_name, param_entries, body_entries, decl_entries, location_entry}
use Rattle.cif_source.specs.Lookup.{at_entry}
use Rattle.cif_source.specs.Objects.{components_of, bodies, is_automaton, decls_of, locs_of, locs_in, EventEdge, event_edges}
use Rattle.cif_source.specs.Uses.{OwnName, target, left_side, own_ident, own_sought, own_names, is_own_asked, decl_own_names, location_own_names, edge_target}
use Rattle.cif_source.specs.Step.{is_named, end_of, first_place}
use Rattle.cif_source.specs.Scoping.{is_missing, is_wrong, UnknownName, UnknownOwn, WrongName, WrongOwn, WrongCount}
use Rattle.cif_source.proofs.ComponentLaws.{append-cases}
use Rattle.cif_source.specs.BodyRules.{initial_count}
use Rattle.cif_inst_model.proofs.KeptLaws.{or-right}
use Rattle.cif_inst_model.proofs.NumberLaws.{all-joined}
use Rattle.cif_inst_model.proofs.RuleLaws.{member-any}
use Rattle.cif_inst_model.proofs.StandingLaws.{edge-stands, enumerated}
use Rattle.cif_inst_bodies.proofs.Alike.{twice, body-written, params-written}
use Rattle.cif_inst_bodies.proofs.RuleLaws.{own-same, initial-one}
use Rattle.cif_inst_laws.proofs.NameLaws.{mapped-member}
use Rattle.cif_inst_model.proofs.PositionLaws.{position-below}
use Rattle.cif_inst_laws.proofs.Sound.{IsSound, known, sorts, begun, as-body}
use Rattle.cif_inst_laws.proofs.Tests.{one-any, true-else}

-- ---- entries of locations

entry-found : (x : Text) (es : Entries) (e : Entry) → entry_named x es ≡ Some e → (n : Ident) × Member (n, e) es × (n.text ≡ x)
entry-found x [] e h = absurd (none-some e h)
entry-found x (y ∷ es) e h =
    (elim (same_text y.0.text x) as (λ b. same_text y.0.text x ≡ b → option_map (λ (z : Ident × Entry). z.1) (cond b (Some y) (find (λ z. same_text z.0.text x) es)) ≡ Some e → (n : Ident) × Member (n, e) (y ∷ es) × (n.text ≡ x)) [
      | true ↦ λ g k. (y.0, inl (ap (λ f. (y.0, f)) (sym (some-same y.1 e k))), words.same_text y.0.text x (sym g))
      | false ↦ λ g k. let rest = entry-found x es e k in (rest.0, inr rest.1, rest.2)
    ]) refl h

location-listed : (x : Text) (ls : List LocationTree) (j : ℕ) (n : Ident) (k : ℕ) → Member {A = Ident × Entry} (n, location k) (filter_map location_entry (enumerate_from j ls)) → n.text ≡ x → list_any (is_named x) ls ≡ true
location-listed x [] j n k m same = absurd m
location-listed x (l ∷ ls) j n k m same = one l.name m (location-listed x ls (j + 1) n k)
  where
    one : (o : Option Ident) → Member {A = Ident × Entry} (n, location k) (cons_option (option_map (λ i. (i, location j)) o) (filter_map location_entry (enumerate_from (j + 1) ls)))
        → (Member {A = Ident × Entry} (n, location k) (filter_map location_entry (enumerate_from (j + 1) ls)) → n.text ≡ x → list_any (is_named x) ls ≡ true)
        → ((elim o [ None ↦ false | Some i ↦ same_text i.text x ]) || list_any (is_named x) ls) ≡ true
    one None v rest = rest v same
    one (Some i) v rest =
        elim v [
          | inl u ↦ ap (λ b. b || list_any (is_named x) ls) (ap (λ y. same_text y x) (sym (ap (λ (y : Ident × Entry). y.0.text) u) ∙ same) ∙ nat_list_eq_equiv.refl x)
          | inr u ↦ or-right (same_text i.text x) (list_any (is_named x) ls) (rest u same)
        ]

abbrev is_no_location : Ident × Entry → Bool
is_no_location (n, location k) = false
is_no_location (n, _) = true

literals-other : (ls : List Ident) (xs : List (ℕ × Ident)) → list_all is_no_location (map (λ x. (x.1, literal x.0 ls)) xs) ≡ true
literals-other ls [] = refl
literals-other ls (x ∷ xs) = literals-other ls xs

decl-other : (d : DeclTree) → list_all is_no_location (decl_entries d) ≡ true
decl-other (enum_decl n ls) = literals-other ls (enumerate_from 0 ls)
decl-other (type_decl n ty) = refl
decl-other (event_decl k h n) = refl
decl-other (const_decl ty n e) = refl
decl-other (alg_decl ty n e) = refl
decl-other (input_decl ty n) = refl
decl-other (disc_decl ty n e) = refl
decl-other (equation_decl q) = refl
decl-other (invariant_decl i) = refl
decl-other (marked_decl p) = refl

decls-other : (ds : List DeclTree) → list_all is_no_location (flat_map decl_entries ds) ≡ true
decls-other [] = refl
decls-other (d ∷ ds) = all-joined is_no_location (decl_entries d) (flat_map decl_entries ds) (decl-other d) (decls-other ds)

-- what an automaton declares as a location is one of its locations
location-there : (a : AutomatonTree) (n : Ident) (k : ℕ) → Member {A = Ident × Entry} (n, location k) (body_entries (automaton_body a)) → list_any (is_named n.text) a.locs ≡ true
location-there a n k m =
    elim (append-cases {A = Ident × Entry} (n, location k) (flat_map decl_entries a.decls) (filter_map location_entry (enumerate_from 0 a.locs)) m) [
      | inl w ↦ absurd (false-true refl (all-member is_no_location (flat_map decl_entries a.decls) (n, location k) (decls-other a.decls) w))
      | inr w ↦ location-listed n.text a.locs 0 n k w refl
    ]

params-other : (ps : List (ℕ × ParamTree)) → list_all is_no_location (map (λ x. (param_name x.1, parameter x.0 x.1)) ps) ≡ true
params-other [] = refl
params-other (p ∷ ps) = params-other ps

scope-written : (c : Component) → scope_of (as_written c) ≡ scope_of c
scope-written c = λ i. param_entries (params-written c i) ++ body_entries (body-written c i)

-- where an edge leaves
pub from-small : (c : Component) (w : EventEdge) → Member w (event_edges c) → w.from < length (locs_of c)
from-small c w k = let e = edge-stands c w k in omega (arith, e.from, (enumerated 0 e.place (locs_of c) e.location).1)

module _ (t : Source) (h : IsSound t) where
  -- ---- first places

  pub first-small : (c : Component) → Member c (components_of t) → is_automaton (body_of c) ≡ true → first_place c < length (locs_of c)
  first-small c m a = position-below (λ (l : LocationTree). l.initial) (locs_of c) (one-any (λ (l : LocationTree). l.initial) (locs_of c) one)
    where
      one : initial_count c ≡ 1
      one = initial-one t (begun t h) c (as-body t h c m) a

  -- ---- targets

  target-sought : (c : Component) (w : EventEdge) → Member w (event_edges c) → (n : Ident) → w.edge.target ≡ Some n → Member (target n) (own_names c)
  target-sought c w k n e =
      let s = edge-stands c w k in
      let l = (enumerated 0 s.place (locs_of c) s.location).0 in
      append-right (target n) (flat_map decl_own_names (decls_of c)) (flat_map location_own_names (locs_of c))
      (flat_map-member location_own_names s.place.1 (locs_of c) (target n) l
      (append-right (target n) (map (λ (q : EquationTree). left_side q.name) s.place.1.equations) (filter_map edge_target s.place.1.edges)
      (mapped-member edge_target w.edge s.place.1.edges (target n) s.edge (ap (option_map target) e))))

  target-location : (c : Component) → Member c (components_of t) → (n : Ident) → Member (target n) (own_names c) → (k : ℕ) × (entry_named n.text (scope_of c) ≡ Some (location k))
  target-location c m n k =
      (elim (entry_named n.text (scope_of c)) as (λ o. entry_named n.text (scope_of c) ≡ o → (k : ℕ) × (o ≡ Some (location k))) [
        | None ↦ λ e. absurd (known t h n.at (member-any (λ c. UnknownName c n.at ⊎ UnknownOwn c n.at) (as_written c) (bodies t) (as-body t h c m)
            (inr (member-any (λ (x : OwnName). ((own_ident x).at ≡ n.at) × (is_missing (own_sought (as_written c) x) ≡ true)) (target n) (own_names (as_written c)) used (refl, ap (λ o. is_missing (at_entry (as_written c) o)) (written None e))))))
        | Some x ↦ λ e. its-place x (asked x e)
      ]) refl
    where
      used : Member (target n) (own_names (as_written c))
      used = subst (Member (target n)) (own-same c (as_written c) (sym (twice c))) k

      written : (o : Option Entry) → entry_named n.text (scope_of c) ≡ o → entry_named n.text (scope_of (as_written c)) ≡ o
      written o e = ap (entry_named n.text) (scope-written c) ∙ e

      asked : (x : Entry) → entry_named n.text (scope_of c) ≡ Some x → is_own_asked (target n) x ≡ true
      asked x e =
          true-else (is_own_asked (target n) x) (λ g.
          sorts t h n.at (member-any (λ c. WrongName c n.at ⊎ WrongOwn c n.at ⊎ WrongCount c n.at) (as_written c) (bodies t) (as-body t h c m)
          (inr (inl (member-any (λ (x : OwnName). ((own_ident x).at ≡ n.at) × (is_wrong (is_own_asked x) (own_sought (as_written c) x) ≡ true)) (target n) (own_names (as_written c)) used
          (refl, ap (λ o. is_wrong (is_own_asked (target n)) (at_entry (as_written c) o)) (written (Some x) e) ∙ ap not g))))))

      its-place : (x : Entry) → is_own_asked (target n) x ≡ true → (k : ℕ) × (Some x ≡ Some (location k))
      its-place (location k) a = (k, refl)
      its-place (declared d) a = absurd (false-true refl a)
      its-place (literal k ls) a = absurd (false-true refl a)
      its-place (inner y b) a = absurd (false-true refl a)
      its-place (definition y ps b) a = absurd (false-true refl a)
      its-place (instance i) a = absurd (false-true refl a)
      its-place (parameter k p) a = absurd (false-true refl a)

  module _ (c : Component) (m : Member c (components_of t)) (a : AutomatonTree) (e : body_of c ≡ automaton_body a) where
    -- the target of an edge is a location of its automaton
    target-there : (w : EventEdge) → Member w (event_edges c) → (n : Ident) → w.edge.target ≡ Some n → list_any (is_named n.text) (locs_of c) ≡ true
    target-there w k n g =
        let at = target-location c m n (target-sought c w k n g) in
        let y = entry-found n.text (scope_of c) (location at.0) at.1 in
        let own : Member {A = Ident × Entry} (y.0, location at.0) (body_entries (body_of c)) =
        elim (append-cases {A = Ident × Entry} (y.0, location at.0) (param_entries (params_of c)) (body_entries (body_of c)) y.1) [
          | inl v ↦ absurd (false-true refl (all-member is_no_location (param_entries (params_of c)) (y.0, location at.0) (params-other (enumerate_from 0 (params_of c))) v))
          | inr v ↦ v
        ] in
        ap (λ b. list_any (is_named n.text) (locs_in b)) e
        ∙ ap (λ x. list_any (is_named x) a.locs) (sym y.2)
        ∙ location-there a y.0 at.0 (subst (λ b. Member {A = Ident × Entry} (y.0, location at.0) (body_entries b)) e own)

    pub end-small : (w : EventEdge) → Member w (event_edges c) → end_of c w < length (locs_of c)
    end-small w k = to w.edge.target refl
      where
        to : (o : Option Ident) → w.edge.target ≡ o → (elim o [ None ↦ w.from | Some n ↦ position_or_len (is_named n.text) (locs_of c) ]) < length (locs_of c)
        to None g = from-small c w k
        to (Some n) g = position-below (is_named n.text) (locs_of c) (target-there w k n g)
