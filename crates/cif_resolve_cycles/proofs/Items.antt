-- Bodies are written as items of the bodies in which they stand, and items declare what they do.
use Rattle.std.proofs.Common.{◌≡◌, ℕ, ◌⊎◌, inl, inr, List, [], ◌∷◌, ◌++◌, refl, sym, subst}
use Rattle.std.specs.Prelude.{slice_get, filter_map}
use Rattle.cif_system.specs.Words.{Member}
use Rattle.cif_system.proofs.Distinct.{member-append}
use Rattle.cif_system.proofs.Picks.{append-left, append-right, flat_map-member, at-member}
use Rattle.cif_ast.specs.declared.names.Ident.{Ident}
use Rattle.cif_source.specs.Source.{InstanceTree, SourceItem, decl_item, component_item, definition_item, instance_item, SourceBody, group_body, automaton_body, Source, no_source, source, list_of_items}
use Rattle.cif_source.specs.Components.{Component, StandingInstance, whole, part, blank, copy, body_of, params_of, Entry, item_entries, body_entries, param_entries, scope_of}
use Rattle.cif_source.specs.Objects.{bodies, bodies_in, bodies_at, bodies_under, items_in}
use Rattle.cif_source.specs.Scoping.{as_instance, instances_in, instances_at, instances_under}
use Rattle.cif_scope.specs.Tables.{IsBody}

abbrev pub HasItem : Component → SourceItem → Type 0
HasItem c i = Member i (items_in (body_of c))

-- ---- bodies

-- it is written in its outer component
abbrev pub IsItem : Component → Type 0
IsItem (whole is) = Unit {0}
IsItem (part o n b) = HasItem o (component_item n b)
IsItem (blank o n ps b) = HasItem o (definition_item n ps b)
IsItem (copy o n ps b g i) = Unit {0}

mutual
  items-in : (c : Component) (is : Source) → ((x : SourceItem) → Member x (list_of_items is) → HasItem c x) → (d : Component) → Member d (bodies_in c is) → IsItem d
  items-in c no_source h d m = absurd m
  items-in c (source i is) h d m = elim (member-append d (bodies_at c i) (bodies_in c is) m) [ inl g ↦ items-at c i (h i (inl refl)) d g | inr g ↦ items-in c is (λ x f. h x (inr f)) d g ]

  items-at : (c : Component) (i : SourceItem) → HasItem c i → (d : Component) → Member d (bodies_at c i) → IsItem d
  items-at c (decl_item e) h d m = absurd m
  items-at c (component_item n b) h d m = elim m [ inl e ↦ subst (λ x. IsItem x) (sym e) h | inr g ↦ items-under (part c n b) b refl d g ]
  items-at c (definition_item n ps b) h d m = elim m [ inl e ↦ subst (λ x. IsItem x) (sym e) h | inr g ↦ items-under (blank c n ps b) b refl d g ]
  items-at c (instance_item i) h d m = absurd m

  items-under : (c : Component) (b : SourceBody) → body_of c ≡ b → (d : Component) → Member d (bodies_under c b) → IsItem d
  items-under c (group_body is) e d m = items-in c is (λ x f. subst (λ b. Member x (items_in b)) (sym e) f) d m
  items-under c (automaton_body a) e d m = absurd m

pub body-item : (t : Source) (k : ℕ) (c : Component) → IsBody t k c → IsItem c
body-item t k c own = elim (at-member (bodies t) k c own) [ inl e ↦ subst (λ x. IsItem x) (sym e) tt | inr m ↦ items-in (whole t) t (λ x f. f) c m ]

-- ---- entries

entry-in : (b : SourceBody) (i : SourceItem) (e : Ident × Entry) → Member i (items_in b) → Member e (item_entries i) → Member e (body_entries b)
entry-in (group_body is) i e m h = flat_map-member item_entries i (list_of_items is) e m h
entry-in (automaton_body a) i e m h = absurd m

pub item-entry : (c : Component) (i : SourceItem) (e : Ident × Entry) → HasItem c i → Member e (item_entries i) → Member e (scope_of c)
item-entry c i e m h = append-right e (param_entries (params_of c)) (body_entries (body_of c)) (entry-in (body_of c) i e m h)

-- ---- instances

instance-among : (is : List SourceItem) (i : InstanceTree) → Member i (filter_map as_instance is) → Member (instance_item i) is
instance-among [] i m = absurd m
instance-among (decl_item d ∷ is) i m = inr (instance-among is i m)
instance-among (component_item n b ∷ is) i m = inr (instance-among is i m)
instance-among (definition_item n ps b ∷ is) i m = inr (instance-among is i m)
instance-among (instance_item j ∷ is) i m = elim m [ inl e ↦ inl (subst (λ k. instance_item i ≡ instance_item k) e refl) | inr g ↦ inr (instance-among is i g) ]

pub instance-item : (c : Component) (i : InstanceTree) → Member i (filter_map as_instance (items_in (body_of c))) → HasItem c (instance_item i)
instance-item c i m = instance-among (items_in (body_of c)) i m

instance-of-items : (c : Component) (is : Source) (i : SourceItem) (z : StandingInstance) → Member i (list_of_items is) → Member z (instances_at c i) → Member z (instances_in c is)
instance-of-items c no_source i z m h = absurd m
instance-of-items c (source j is) i z m h =
    elim m [
      | inl e ↦ append-left z (instances_at c j) (instances_in c is) (subst (λ k. Member z (instances_at c k)) e h)
      | inr g ↦ append-right z (instances_at c j) (instances_in c is) (instance-of-items c is i z g h)
    ]

-- the instances in an item of a body are instances in the body
pub instances-of-item : (c : Component) (b : SourceBody) (i : SourceItem) (z : StandingInstance) → Member i (items_in b) → Member z (instances_at c i) → Member z (instances_under c b)
instances-of-item c (group_body is) i z m h = instance-of-items c is i z m h
instances-of-item c (automaton_body a) i z m h = absurd m
