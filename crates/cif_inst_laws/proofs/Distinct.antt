-- Where no scope declares a name twice, each component of a source stands once in its list.
use Rattle.std.proofs.Common.{◌≡◌, ℕ, zero, suc, false, inl, inr, List, [], ◌∷◌, ◌++◌, length, Some, None, refl, sym, ◌∙◌, ap, subst, arith}
use Rattle.std.specs.Prelude.{flat_map, filter_map}
use Rattle.std.specs.List.{cons_option}
use Rattle.std.proofs.lemmas.List.{length-append, append_cancel_left}
use Rattle.cif_ast.specs.declared.names.Ident.{Ident}
use Rattle.cif_system.specs.Words.{Member, AreDistinct}
use Rattle.cif_system.proofs.Picks.{append-right, flat_map-member}
use Rattle.cif_system.proofs.Distinct.{flat_map-distinct}
use Rattle.cif_source.specs.Source.{Text, InstanceTree, SourceItem, decl_item, component_item, definition_item, instance_item, SourceBody, group_body, automaton_body, Source, list_of_items}
use Rattle.cif_source.specs.Components.{Component, whole, part, body_of, params_of, Path, path_of, item_entries, decl_entries, body_entries, param_entries}
use Rattle.cif_source.specs.Lookup.{opened, definition_found}
use Rattle.cif_source.specs.Objects.{components_of, components_below, most_objects, children, child_of, items_in}
use Rattle.cif_source.proofs.ComponentLaws.{flat-cases, head-below, children-parent}
use Rattle.cif_inst_model.proofs.KeptLaws.{has_twice}
use Rattle.cif_inst_model.proofs.PathLaws.{names, names-append, not-twice-right, last_name, path-below}
use Rattle.cif_inst_model.proofs.BodyLaws.{other-name}
use Rattle.cif_inst_model.proofs.DistinctLaws.{ScopesAreSingle, paths-differ}
use Rattle.cif_inst_bodies.proofs.ArgumentLaws.{opened_at-is}

-- ---- children

opened-named : (p : Component) (j : InstanceTree) (x : Component) → opened p j ≡ Some x → j.name.text ≡ last_name x
opened-named p j x e = let c = opened_at-is p j (definition_found p j) x e in sym (ap last_name c.is_copy)

-- a child is declared where it stands
child-named : (p : Component) (is : List SourceItem) (x : Component) → Member x (filter_map (child_of p) is) → (m : Ident) × Member m (names (flat_map item_entries is)) × (m.text ≡ last_name x)
child-named p [] x k = absurd k
child-named p (decl_item d ∷ is) x k =
    let m = child-named p is x k in
    (m.0, subst (Member m.0) (sym (names-append (decl_entries d) (flat_map item_entries is))) (append-right m.0 (names (decl_entries d)) (names (flat_map item_entries is)) m.1), m.2)
child-named p (definition_item n ps b ∷ is) x k = let m = child-named p is x k in (m.0, inr m.1, m.2)
child-named p (component_item n b ∷ is) x k =
    elim k [
      | inl w ↦ (n, inl refl, ap last_name (sym w))
      | inr w ↦ let m = child-named p is x w in (m.0, inr m.1, m.2)
    ]
child-named p (instance_item j ∷ is) x k =
    (elim (opened p j) as (λ o. opened p j ≡ o → Member x (cons_option o (filter_map (child_of p) is)) → (m : Ident) × Member m (names (flat_map item_entries (instance_item j ∷ is))) × (m.text ≡ last_name x)) [
      | None ↦ λ e h. let m = child-named p is x h in (m.0, inr m.1, m.2)
      | Some y ↦ λ e h. elim h [
        | inl w ↦ (j.name, inl refl, opened-named p j x (e ∙ ap Some (sym w)))
        | inr w ↦ let m = child-named p is x w in (m.0, inr m.1, m.2)
      ]
    ]) refl k

-- so no child stands twice
apart-from : (p : Component) (is : List SourceItem) (n : Ident) (x : Component) → has_twice (n ∷ names (flat_map item_entries is)) ≡ false → n.text ≡ last_name x → Member x (filter_map (child_of p) is) → ⊥
apart-from p is n x h same k = let m = child-named p is x k in other-name n m.0 (names (flat_map item_entries is)) h m.1 (same ∙ sym m.2)

items-distinct : (p : Component) (is : List SourceItem) → has_twice (names (flat_map item_entries is)) ≡ false → AreDistinct (filter_map (child_of p) is)
items-distinct p [] h = tt
items-distinct p (decl_item d ∷ is) h =
    items-distinct p is (not-twice-right (names (decl_entries d)) (names (flat_map item_entries is)) (ap has_twice (sym (names-append (decl_entries d) (flat_map item_entries is))) ∙ h))
items-distinct p (definition_item n ps b ∷ is) h = items-distinct p is (not-twice-right (n ∷ []) (names (flat_map item_entries is)) h)
items-distinct p (component_item n b ∷ is) h = (apart-from p is n (part p n b) h refl, items-distinct p is (not-twice-right (n ∷ []) (names (flat_map item_entries is)) h))
items-distinct p (instance_item j ∷ is) h =
    let rest : AreDistinct (filter_map (child_of p) is) = items-distinct p is (not-twice-right (j.name ∷ []) (names (flat_map item_entries is)) h) in
    (elim (opened p j) as (λ o. opened p j ≡ o → AreDistinct (cons_option o (filter_map (child_of p) is))) [
      | None ↦ λ e. rest
      | Some x ↦ λ e. (apart-from p is j.name x h (opened-named p j x e), rest)
    ]) refl

body-distinct : (p : Component) (b : SourceBody) → has_twice (names (body_entries b)) ≡ false → AreDistinct (filter_map (child_of p) (items_in b))
body-distinct p (group_body is) h = items-distinct p (list_of_items is) h
body-distinct p (automaton_body a) h = tt

-- ---- paths

one-after : (p : Path) (x : Text) (r : Path) → (p ++ x ∷ []) ++ r ≡ p ++ x ∷ r
one-after [] x r = refl
one-after (y ∷ p) x r = ap (λ q. y ∷ q) (one-after p x r)

same-head : (p : Path) (x y : Text) (r s : Path) → p ++ x ∷ r ≡ p ++ y ∷ s → x ≡ y
same-head p x y r s h = let k : x ∷ r ≡ y ∷ s = append_cancel_left p (x ∷ r) (y ∷ s) h in cc

-- what is below a child has a path through that child
below-child : (n : ℕ) (c y z : Component) → Member y (children c) → Member z (components_below n y) → (rest : Path) × (path_of z ≡ path_of c ++ last_name y ∷ rest)
below-child zero c y z m k = elim k [ inl w ↦ ([], ap path_of w ∙ path-below y c (children-parent c y m)) | inr w ↦ absurd w ]
below-child (suc n) c y z m k =
    elim k [
      | inl w ↦ ([], ap path_of w ∙ path-below y c (children-parent c y m))
      | inr w ↦
          let x = flat-cases n z (children y) w in
          let under = below-child n y x.0 z x.1 x.2 in
          let here : path_of y ≡ path_of c ++ last_name y ∷ [] = path-below y c (children-parent c y m) in
          (last_name x.0 ∷ under.0, under.1 ∙ ap (λ p. p ++ last_name x.0 ∷ under.0) here ∙ one-after (path_of c) (last_name y) (last_name x.0 ∷ under.0))
    ]

-- ---- components

module _ (t : Source) (single : ScopesAreSingle t) where
  children-distinct : (c : Component) → Member c (components_of t) → AreDistinct (children c)
  children-distinct c m =
      body-distinct c (body_of c)
      (not-twice-right (names (param_entries (params_of c))) (names (body_entries (body_of c))) (ap has_twice (sym (names-append (param_entries (params_of c)) (body_entries (body_of c)))) ∙ single c m))

  below-distinct : (n : ℕ) (c : Component) → ((d : Component) → Member d (components_below n c) → Member d (components_of t)) → AreDistinct (components_below n c)
  below-distinct zero c listed = (λ m. m, tt)
  below-distinct (suc n) c listed = (
    λ m.
        let y = flat-cases n c (children c) m in
        let under = below-child n c y.0 c y.1 y.2 in
        omega (arith, ap length under.1, length-append (path_of c) (last_name y.0 ∷ under.0)),
    flat_map-distinct (components_below n) (children c) (children-distinct c (listed c (inl refl)))
        (λ y k. below-distinct n y (λ d m. listed d (inr (flat_map-member (components_below n) y (children c) d k m))))
        (λ x y z k l u v.
        let first = below-child n c x z k u in
        let second = below-child n c y z l v in
        let same : last_name x ≡ last_name y = same-head (path_of c) (last_name x) (last_name y) first.0 second.0 (sym first.1 ∙ second.1) in
        paths-differ t single x y (listed x (inr (flat_map-member (components_below n) x (children c) x k (head-below n x)))) (listed y (inr (flat_map-member (components_below n) y (children c) y l (head-below n y))))
        (path-below x c (children-parent c x k) ∙ ap (λ e. path_of c ++ e ∷ []) same ∙ sym (path-below y c (children-parent c y l)))),
  )

  pub components-distinct : AreDistinct (components_of t)
  components-distinct = below-distinct most_objects (whole t) (λ d m. m)
