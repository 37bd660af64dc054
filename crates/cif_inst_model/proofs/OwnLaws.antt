-- The name of an algebraic variable is found in the scope that declares it, where that scope declares no name twice, and so it
-- has the value of its definition.
use Rattle.std.proofs.Common.{◌≡◌, ℕ, suc, ℤ, pos, Bool, true, false, cond, inl, inr, [], ◌∷◌, Option, Some, None, find, refl, sym, ◌∙◌, ap, subst}
use Rattle.std.specs.Prelude.{◌||◌, option_map, flat_map, filter_map, slice_get}
use Rattle.std.specs.List.{enumerate_from}
use Rattle.std.proofs.lemmas.Cmp.{nat_list_eq_equiv}
use Rattle.cif_ast.specs.Tree.{Tree}
use Rattle.cif_ast.specs.declared.names.Ident.{Ident}
use Rattle.cif_ast.specs.declared.names.Name.{Name}
use Rattle.cif_system.specs.Words.{Member}
use Rattle.cif_system.specs.System.{State}
use Rattle.cif_system.proofs.Lists.{false-true}
use Rattle.cif_system.proofs.Picks.{append-left, append-right, flat_map-member}
use Rattle.cif_source.specs.Source.{TypeTree, DeclTree, alg_decl, SourceItem, decl_item, component_item, definition_item, instance_item, SourceBody, group_body, automaton_body, list_of_items}
use Rattle.cif_source.specs.Components.{Component, whole, part, blank, copy, body_of, params_of, same_text, Entry, Entries, declared, item_entries, decl_entries, location_entry, body_entries, param_entries, scope_of, entry_named}
use Rattle.cif_source.specs.Lookup.{ScopeEntry, at_entry, ended, go_on, inside, by_argument, by_entry, follow_from, follow}
use Rattle.cif_source.specs.Objects.{item_decls, decls_in, decls_of}
use Rattle.cif_source.specs.Value.{value_with, object_value, value_within, first_value, definitions, place_in}
use Rattle.cif_source.specs.Step.{alone}
use Rattle.cif_inst_model.proofs.FoundLaws.{flat-cases}
use Rattle.cif_inst_model.proofs.KeptLaws.{has_twice, or-left, or-right, member-passes}
use Rattle.cif_inst_model.proofs.PathLaws.{names}

-- ---- names of the own scope

module _ {R : Type 0} (thing : ScopeEntry → R) (nothing : R) (argument : (Name → R) → Component → Tree → R) where
  own-followed : (c : Component) (n : Ident) (d : DeclTree) → entry_named n.text (scope_of c) ≡ Some (declared d) → follow_from thing nothing argument c n [] ≡ thing (c, declared d)
  own-followed (whole is) n d h = ap (λ o. ended thing nothing (go_on (λ x. inside x []) (at_entry (whole is) o))) h
  own-followed (part o m b) n d h =
      ap (λ r. elim r [ None ↦ follow_from thing nothing argument o n [] | Some e ↦ ended thing nothing (inside (part o m b, e) []) ]) h
  own-followed (blank o m qs b) n d h =
      ap (λ r. elim r [ None ↦ follow_from thing nothing argument o n [] | Some e ↦ ended thing nothing (inside (blank o m qs b, e) []) ]) h
  own-followed (copy o m qs b g i) n d h =
      ap (λ r. elim r [
        | None ↦ follow_from thing nothing argument o n []
        | Some e ↦ by_entry thing nothing (λ k q. by_argument nothing (argument (follow thing nothing argument g) g) (follow thing nothing argument g) q (slice_get i.args k)) (copy o m qs b g i) e []
      ]) h

-- the name alone has the value of the definition, with one unfolding less
pub own-value : (m : ℕ) (s : State) (r : ℤ) (c : Component) (x : TypeTree) (n : Ident) (e : Option Tree) → entry_named n.text (scope_of c) ≡ Some (declared (alg_decl x n e))
    → value_within (suc m) s r c (alone n) ≡ first_value (value_within m s r c) (definitions c n.text e (place_in s c))
own-value m s r c x n e h = own-followed (object_value s (value_within m s r)) (pos 0) (λ name g a. value_with name r a) c n (alg_decl x n e) h

-- ---- what a scope declares once

entry-found : (n : Ident) (e : Entry) (es : Entries) → Member (n, e) es → has_twice (names es) ≡ false → entry_named n.text es ≡ Some e
entry-found n e [] m h = absurd m
entry-found n e (x ∷ es) m h =
    elim m [
      | inl w ↦
          ap (λ b. option_map (λ (y : Ident × Entry). y.1) (cond b (Some x) (find (λ (y : Ident × Entry). same_text y.0.text n.text) es)))
          (ap (λ (y : Ident × Entry). same_text y.0.text n.text) (sym w) ∙ nat_list_eq_equiv.refl n.text)
          ∙ ap (λ (y : Ident × Entry). Some y.1) (sym w)
      | inr w ↦
          (elim (same_text x.0.text n.text) as (λ b. same_text x.0.text n.text ≡ b → option_map (λ (y : Ident × Entry). y.1) (cond b (Some x) (find (λ (y : Ident × Entry). same_text y.0.text n.text) es)) ≡ Some e) [
            | true ↦ λ g. absurd (false-true h (or-left _ _ (member-passes (λ (y : Ident). same_text x.0.text y.text) (names es) n (name-in n e es w) g)))
            | false ↦ λ g. entry-found n e es w (rest-single _ _ h)
          ]) refl
    ]
  where
    name-in : (n : Ident) (e : Entry) (es : Entries) → Member (n, e) es → Member n (names es)
    name-in n e [] m = absurd m
    name-in n e (y ∷ es) m = elim m [ inl w ↦ inl (ap (λ (z : Ident × Entry). z.0) w) | inr w ↦ inr (name-in n e es w) ]

    rest-single : (a b : Bool) → (a || b) ≡ false → b ≡ false
    rest-single a b h =
        (elim b as (λ z. b ≡ z → z ≡ false) [
          | true ↦ λ i. absurd (false-true h (or-right a b i))
          | false ↦ λ i. refl
        ]) refl

-- the entry of a declaration that stands in a body
alg-in-item : (x : TypeTree) (n : Ident) (e : Option Tree) (i : SourceItem) → Member (alg_decl x n e) (item_decls i) → Member (n, declared (alg_decl x n e)) (item_entries i)
alg-in-item x n e (decl_item d) m = elim m [ inl w ↦ subst (λ y. Member (n, declared (alg_decl x n e)) (decl_entries y)) w (inl refl) | inr w ↦ absurd w ]
alg-in-item x n e (component_item k b) m = absurd m
alg-in-item x n e (definition_item k ps b) m = absurd m
alg-in-item x n e (instance_item j) m = absurd m

alg-in-body : (x : TypeTree) (n : Ident) (e : Option Tree) (b : SourceBody) → Member (alg_decl x n e) (decls_in b) → Member (n, declared (alg_decl x n e)) (body_entries b)
alg-in-body x n e (group_body is) m =
    let i = flat-cases item_decls (alg_decl x n e) (list_of_items is) m in
    flat_map-member item_entries i.0 (list_of_items is) (n, declared (alg_decl x n e)) i.1 (alg-in-item x n e i.0 i.2)
alg-in-body x n e (automaton_body a) m =
    append-left (n, declared (alg_decl x n e)) (flat_map decl_entries a.decls) (filter_map location_entry (enumerate_from 0 a.locs))
    (flat_map-member decl_entries (alg_decl x n e) a.decls (n, declared (alg_decl x n e)) m (inl refl))

-- the scope that declares an algebraic variable finds it
pub alg-found : (c : Component) (x : TypeTree) (n : Ident) (e : Option Tree) → has_twice (names (scope_of c)) ≡ false → Member (alg_decl x n e) (decls_of c) → entry_named n.text (scope_of c) ≡ Some (declared (alg_decl x n e))
alg-found c x n e h m =
    entry-found n (declared (alg_decl x n e)) (scope_of c)
    (append-right (n, declared (alg_decl x n e)) (param_entries (params_of c)) (body_entries (body_of c)) (alg-in-body x n e (body_of c) m)) h
