-- What a body declares is found under its name in the body's own scope.
use Rattle.std.proofs.Common.{◌≡◌, ℕ, true, false, cond, inl, inr, List, [], ◌∷◌, map, find, Some, refl, sym, ap, subst, ◌∙◌}
use Rattle.std.specs.Prelude.{flat_map, filter_map, option_map}
use Rattle.std.specs.List.{enumerate_from}
use Rattle.std.specs.Cmp.Lexicographic.{nat_list_eq_equiv}
use Rattle.cif_ast.specs.declared.names.Ident.{Ident}
use Rattle.cif_system.specs.Words.{Member, AreDistinct}
use Rattle.cif_system.proofs.Lists.{false-true}
use Rattle.cif_system.proofs.Picks.{append-left, append-right, map-member, flat_map-member}
use Rattle.cif_source.specs.Source.{Text, DeclTree, SourceItem, decl_item, component_item, definition_item, instance_item, SourceBody, group_body, automaton_body, list_of_items, Source}
use Rattle.cif_source.specs.Components.{Component, body_of, params_of, scope_of, body_entries, param_entries, item_entries, decl_entries, location_entry, Entry, Entries, entry_named, same_text}
use Rattle.cif_source.specs.Objects.{item_decls, decls_in, decls_of}
use Rattle.cif_scope.specs.Tables.{IsBody, IsTable}
use Rattle.cif_scope.specs.Scopes.{IsIndexed}
use Rattle.cif_scope.specs.declared.table.Table.{Table}
use Rattle.cif_scope.proofs.BodyLaws.{row-of}
use Rattle.cif_scope.proofs.LookLaws.{beside-texts, same-text}

-- ---- entries of declarations

abbrev pub text_named : Ident × Entry → Text
text_named e = e.0.text

items-member : (is : List SourceItem) (d : DeclTree) (x : Ident × Entry) → Member d (flat_map item_decls is) → Member x (decl_entries d) → Member x (flat_map item_entries is)
items-member [] d x m e = absurd m
items-member (decl_item y ∷ is) d x m e =
    elim m [
      | inl w ↦ append-left x (decl_entries y) (flat_map item_entries is) (subst (λ z. Member x (decl_entries z)) w e)
      | inr w ↦ append-right x (decl_entries y) (flat_map item_entries is) (items-member is d x w e)
    ]
items-member (component_item n b ∷ is) d x m e = inr (items-member is d x m e)
items-member (definition_item n ps b ∷ is) d x m e = inr (items-member is d x m e)
items-member (instance_item i ∷ is) d x m e = inr (items-member is d x m e)

body-member : (b : SourceBody) (d : DeclTree) (x : Ident × Entry) → Member d (decls_in b) → Member x (decl_entries d) → Member x (body_entries b)
body-member (group_body is) d x m e = items-member (list_of_items is) d x m e
body-member (automaton_body a) d x m e = append-left x (flat_map decl_entries a.decls) (filter_map location_entry (enumerate_from 0 a.locs)) (flat_map-member decl_entries d a.decls x m e)

pub scope-member : (c : Component) (d : DeclTree) (x : Ident × Entry) → Member d (decls_of c) → Member x (decl_entries d) → Member x (scope_of c)
scope-member c d x m e = append-right x (param_entries (params_of c)) (body_entries (body_of c)) (body-member (body_of c) d x m e)

-- ---- distinct names

pub named-member : (es : Entries) (n : Ident) (e : Entry) → AreDistinct (map text_named es) → Member (n, e) es → entry_named n.text es ≡ Some e
named-member [] n e d m = absurd m
named-member (y ∷ es) n e d m =
    (elim (same_text y.0.text n.text) as (λ b. same_text y.0.text n.text ≡ b → option_map (λ (z : Ident × Entry). z.1) (cond b (Some y) (find (λ z. same_text z.0.text n.text) es)) ≡ Some e) [
      | true ↦ λ h.
          elim m [
            | inl w ↦ ap (λ (z : Ident × Entry). Some z.1) (sym w)
            | inr w ↦ absurd (d.0 (subst (λ x. Member x (map text_named es)) (sym (same-text y.0.text n.text h)) (map-member text_named (n, e) es w)))
          ]
      | false ↦ λ h.
          elim m [
            | inl w ↦ absurd (false-true h (ap (λ (z : Ident × Entry). same_text z.0.text n.text) (sym w) ∙ nat_list_eq_equiv.refl n.text))
            | inr w ↦ named-member es n e d.1 w
          ]
    ]) refl

pub scope-distinct : (t : Source) (tb : Table) (k : ℕ) (c : Component) → IsTable t tb.scopes → IsIndexed tb → IsBody t k c → AreDistinct (map text_named (scope_of c))
scope-distinct t tb k c table ix own =
    let r = row-of t tb.scopes table k c own in
    subst (λ (xs : List Text). AreDistinct xs) (beside-texts t c (scope_of c) r.0.names r.2.names) (ix.distinct k r.0 r.1)

-- what is found under the name of a declaration is the declaration
pub declared-found : (t : Source) (tb : Table) (k : ℕ) (c : Component) → IsTable t tb.scopes → IsIndexed tb → IsBody t k c
    → (d : DeclTree) (n : Ident) (e : Entry) → Member d (decls_of c) → Member (n, e) (decl_entries d) → entry_named n.text (scope_of c) ≡ Some e
declared-found t tb k c table ix own d n e m w = named-member (scope_of c) n e (scope-distinct t tb k c table ix own) (scope-member c d (n, e) m w)
