-- The order of components.
use Rattle.std.proofs.Common.{◌≡◌, ℕ, zero, suc, ◌⊎◌, inl, inr, List, [], ◌∷◌, ◌++◌, Some, None, refl, sym, ◌∙◌, ap, subst, arith, ◌<◌, ◌≤◌, length, length-append}
use Rattle.std.specs.Prelude.{flat_map, filter_map}
use Rattle.std.specs.List.{cons_option}
use Rattle.cif_system.specs.Words.{Member}
use Rattle.cif_system.proofs.Lists.{some-same, none-some}
use Rattle.cif_system.proofs.Picks.{flat_map-member}
use Rattle.cif_source.specs.Source.{InstanceTree, SourceItem, decl_item, component_item, definition_item, instance_item, Source}
use Rattle.cif_system.specs.Words.{Before}
use Rattle.cif_source.specs.Components.{Component, stands_in, whole, part, copy, body_of, declared, literal, location, inner, definition, instance, parameter}
use Rattle.cif_source.specs.Lookup.{Reached, reached, missing, blocked, opened_at, definition_found}
use Rattle.cif_source.specs.Objects.{components_below, components_of, children, child_of, items_in, most_objects}

opened_at-parent : (c : Component) (i : InstanceTree) (r : Reached) (d : Component) → opened_at c i r ≡ Some d → stands_in d ≡ Some c
opened_at-parent c i missing d h = absurd (none-some d h)
opened_at-parent c i blocked d h = absurd (none-some d h)
opened_at-parent c i (reached (o, declared x)) d h = absurd (none-some d h)
opened_at-parent c i (reached (o, literal k ls)) d h = absurd (none-some d h)
opened_at-parent c i (reached (o, location k)) d h = absurd (none-some d h)
opened_at-parent c i (reached (o, inner n b)) d h = absurd (none-some d h)
opened_at-parent c i (reached (o, instance j)) d h = absurd (none-some d h)
opened_at-parent c i (reached (o, parameter k p)) d h = absurd (none-some d h)
opened_at-parent c i (reached (o, definition n ps b)) d h = ap stands_in (sym (some-same (copy o n ps b c i) d h))

child_of-parent : (c : Component) (i : SourceItem) (d : Component) → child_of c i ≡ Some d → stands_in d ≡ Some c
child_of-parent c (decl_item x) d h = absurd (none-some d h)
child_of-parent c (component_item n b) d h = ap stands_in (sym (some-same (part c n b) d h))
child_of-parent c (definition_item n ps b) d h = absurd (none-some d h)
child_of-parent c (instance_item i) d h = opened_at-parent c i (definition_found c i) d h

filter_map-parent : (c : Component) (is : List SourceItem) (d : Component) → Member d (filter_map (child_of c) is) → stands_in d ≡ Some c
filter_map-parent c [] d m = absurd m
filter_map-parent c (i ∷ is) d m =
    (elim (child_of c i) as (λ o. child_of c i ≡ o → Member d (cons_option o (filter_map (child_of c) is)) → stands_in d ≡ Some c) [
      | None ↦ λ h g. filter_map-parent c is d g
      | Some x ↦ λ h g. elim g [ inl w ↦ child_of-parent c i d (h ∙ ap Some (sym w)) | inr w ↦ filter_map-parent c is d w ]
    ]) refl m

-- a child's parent is the component in which it stands
pub children-parent : (c d : Component) → Member d (children c) → stands_in d ≡ Some c
children-parent c d m = filter_map-parent c (items_in (body_of c)) d m

before-left : {A : Type 0} → (x y : A) → (xs ys : List A) → Before x y xs → Before x y (xs ++ ys)
before-left x y [] ys b = absurd b
before-left x y (z ∷ xs) ys b = elim b [ inl w ↦ inl (w.0, member-left y xs ys w.1) | inr w ↦ inr (before-left x y xs ys w) ]
  where
    member-left : {A : Type 0} → (x : A) → (xs ys : List A) → Member x xs → Member x (xs ++ ys)
    member-left x [] ys m = absurd m
    member-left x (y ∷ xs) ys m = elim m [ inl w ↦ inl w | inr w ↦ inr (member-left x xs ys w) ]

before-right : {A : Type 0} → (x y : A) → (xs ys : List A) → Before x y ys → Before x y (xs ++ ys)
before-right x y [] ys b = b
before-right x y (z ∷ xs) ys b = inr (before-right x y xs ys b)

pub append-cases : {A : Type 0} → (x : A) → (xs ys : List A) → Member x (xs ++ ys) → Member x xs ⊎ Member x ys
append-cases x [] ys m = inr m
append-cases x (z ∷ xs) ys m = elim m [ inl w ↦ inl (inl w) | inr w ↦ elim (append-cases x xs ys w) [ inl v ↦ inl (inr v) | inr v ↦ inr v ] ]

-- a component is the first of those below c, or its parent is one of them and stands before it
abbrev pub Follows : Component → List Component → Component → Type 0
Follows c cs d = (d ≡ c) ⊎ ((p : Component) × (stands_in d ≡ Some p) × Before p d cs)

flat-follows : (n : ℕ) (c : Component) (xs : List Component) → ((x : Component) → Member x xs → stands_in x ≡ Some c)
    → ((x d : Component) → Member d (components_below n x) → Follows x (components_below n x) d)
    → (d : Component) → Member d (flat_map (components_below n) xs)
    → (stands_in d ≡ Some c) ⊎ ((p : Component) × (stands_in d ≡ Some p) × Before p d (flat_map (components_below n) xs))
flat-follows n c [] all below d m = absurd m
flat-follows n c (x ∷ xs) all below d m =
    elim (append-cases d (components_below n x) (flat_map (components_below n) xs) m) [
      | inl w ↦ elim (below x d w) [
        | inl v ↦ inl (ap stands_in v ∙ all x (inl refl))
        | inr v ↦ inr (v.0, v.1, before-left v.0 d (components_below n x) (flat_map (components_below n) xs) v.2)
      ]
      | inr w ↦ elim (flat-follows n c xs (λ y k. all y (inr k)) below d w) [
        | inl v ↦ inl v
        | inr v ↦ inr (v.0, v.1, before-right v.0 d (components_below n x) (flat_map (components_below n) xs) v.2)
      ]
    ]

pub components_below-follows : (n : ℕ) (c d : Component) → Member d (components_below n c) → Follows c (components_below n c) d
components_below-follows zero c d m = elim m [ inl w ↦ inl w | inr w ↦ absurd w ]
components_below-follows (suc n) c d m =
    elim m [
      | inl w ↦ inl w
      | inr w ↦ elim (flat-follows n c (children c) (children-parent c) (components_below-follows n) d w) [
        | inl v ↦ inr (c, v, inl (refl, w))
        | inr v ↦ inr (v.0, v.1, inr v.2)
      ]
    ]

-- each component but the specification stands after the one in which it stands
pub components-follow : (t : Source) (d : Component) → Member d (components_of t) → Follows (whole t) (components_of t) d
components-follow t d m = components_below-follows most_objects (whole t) d m

flat-length : (n : ℕ) (y : Component) (xs : List Component) → Member y xs → length (components_below n y) ≤ length (flat_map (components_below n) xs)
flat-length n y [] m = absurd m
flat-length n y (x ∷ xs) m =
    elim m [
      | inl w ↦ omega (arith, length-append (components_below n x) (flat_map (components_below n) xs), ap (λ z. length (components_below n z)) w)
      | inr w ↦ omega (arith, length-append (components_below n x) (flat_map (components_below n) xs), flat-length n y xs w)
    ]

pub flat-cases : (n : ℕ) (d : Component) (xs : List Component) → Member d (flat_map (components_below n) xs) → (y : Component) × Member y xs × Member d (components_below n y)
flat-cases n d [] m = absurd m
flat-cases n d (x ∷ xs) m =
    elim (append-cases d (components_below n x) (flat_map (components_below n) xs) m) [
      | inl w ↦ (x, inl refl, w)
      | inr w ↦ let rest = flat-cases n d xs w in (rest.0, inr rest.1, rest.2)
    ]

pub head-below : (n : ℕ) (c : Component) → Member c (components_below n c)
head-below zero c = inl refl
head-below (suc n) c = inl refl

-- what stands in a component is in the list with it, or the list is longer than its depth
pub components_below-closed : (n : ℕ) (c d x : Component) → Member d (components_below n c) → Member x (children d)
    → Member x (components_below n c) ⊎ (n < length (components_below n c))
components_below-closed zero c d x m k = inr (omega arith)
components_below-closed (suc n) c d x m k =
    elim m [
      | inl w ↦ let k' : Member x (children c) = subst (λ y. Member x (children y)) w k in inl (inr (flat_map-member (components_below n) x (children c) x k' (head-below n x)))
      | inr w ↦
          let y = flat-cases n d (children c) w in
          elim (components_below-closed n y.0 d x y.2 k) [
            | inl v ↦ inl (inr (flat_map-member (components_below n) y.0 (children c) x y.1 v))
            | inr v ↦ inr (omega (arith, flat-length n y.0 (children c) y.1, v))
          ]
    ]

-- with no more components than the limit, whatever stands in a component of the list is in it
pub components-closed : (t : Source) (d x : Component) → length (components_of t) ≤ most_objects → Member d (components_of t) → Member x (children d) → Member x (components_of t)
components-closed t d x few m k =
    elim (components_below-closed most_objects (whole t) d x m k) [ inl v ↦ v | inr v ↦ absurd (omega (arith, few, v)) ]
