-- What names reach from a listed component lies in listed components.
use Rattle.std.proofs.Common.{◌≡◌, ℕ, zero, suc, ◌≤◌, Bool, true, false, cond, ◌⊎◌, inl, inr, List, [], ◌∷◌, length, Option, Some, None, find, refl, sym, ◌∙◌, ap, subst}
use Rattle.std.specs.Prelude.{option_map, flat_map, filter_map, not}
use Rattle.std.specs.List.{cons_option, list_all}
use Rattle.cif_ast.specs.declared.names.Ident.{Ident}
use Rattle.cif_ast.specs.declared.names.Name.{Name}
use Rattle.cif_system.specs.Words.{Member}
use Rattle.cif_system.proofs.Lists.{some-same, none-some, false-true}
use Rattle.cif_system.proofs.Picks.{flat_map-member, and-left, and-right}
use Rattle.cif_source.specs.Source.{Text, ParamTree, SourceBody, InstanceTree, SourceItem, decl_item, component_item, definition_item, instance_item, group_body, automaton_body, Source, list_of_items}
use Rattle.cif_source.specs.Components.{Component, stands_in, whole, part, blank, copy, specification_of, body_of, Entry, Entries, declared, literal, location, inner, definition, instance, parameter, item_entries, body_entries, decl_entries, param_entries, params_of, scope_of, entry_named, same_text}
use Rattle.cif_source.specs.Lookup.{ScopeEntry, Reached, reached, missing, blocked, at_entry, in_scope, in_body, go_on, or_outward, outward, looked_up, inside_written, definition_found, opened, opened_at, in_opened, passed, inside, found}
use Rattle.cif_source.specs.Objects.{components_below, components_of, children, child_of, items_in, most_objects}
use Rattle.cif_source.proofs.EntryLaws.{entry_passes, all-params, all-decl, all-automaton}
use Rattle.cif_source.proofs.ComponentLaws.{append-cases, flat-cases, components-closed, head-below, children-parent}

-- a component below c is c, or a child of one below c
pub below-parent : (n : ℕ) (c d : Component) → Member d (components_below n c) → (d ≡ c) ⊎ ((p : Component) × Member p (components_below n c) × Member d (children p))
below-parent zero c d m = elim m [ inl w ↦ inl w | inr w ↦ absurd w ]
below-parent (suc n) c d m =
    elim m [
      | inl w ↦ inl w
      | inr w ↦
          let y = flat-cases n d (children c) w in
          elim (below-parent n y.0 d y.2) [
            | inl v ↦ inr (c, inl refl, subst (λ z. Member z (children c)) (sym v) y.1)
            | inr v ↦ inr (v.0, inr (flat_map-member (components_below n) y.0 (children c) v.0 y.1 v.1), v.2)
          ]
    ]

-- a child is written in its parent, or is an instance that stands there
child-cases : (c : Component) (is : List SourceItem) (d : Component) → Member d (filter_map (child_of c) is) → ((n : Ident) × (b : SourceBody) × (d ≡ part c n b)) ⊎ ((i : InstanceTree) × (opened c i ≡ Some d))
child-cases c [] d m = absurd m
child-cases c (decl_item x ∷ is) d m = child-cases c is d m
child-cases c (definition_item n ps b ∷ is) d m = child-cases c is d m
child-cases c (component_item n b ∷ is) d m = elim m [ inl w ↦ inl (n, b, w) | inr w ↦ child-cases c is d w ]
child-cases c (instance_item i ∷ is) d m =
    (elim (opened c i) as (λ o. opened c i ≡ o → Member d (cons_option o (filter_map (child_of c) is)) → ((n : Ident) × (b : SourceBody) × (d ≡ part c n b)) ⊎ ((j : InstanceTree) × (opened c j ≡ Some d))) [
      | None ↦ λ h g. child-cases c is d g
      | Some x ↦ λ h g. elim g [ inl w ↦ inr (i, h ∙ ap Some (sym w)) | inr w ↦ child-cases c is d w ]
    ]) refl m

pub children-cases : (c d : Component) → Member d (children c) → ((n : Ident) × (b : SourceBody) × (d ≡ part c n b)) ⊎ ((i : InstanceTree) × (opened c i ≡ Some d))
children-cases c d m = child-cases c (items_in (body_of c)) d m

-- an instance that opens was found at its outer component
pub opened-found : (c : Component) (i : InstanceTree) (r : Reached) (o g : Component) (n : Ident) (ps : List ParamTree) (b : SourceBody) (j : InstanceTree) → opened_at c i r ≡ Some (copy o n ps b g j) → r ≡ reached (o, definition n ps b)
opened-found c i missing o g n ps b j h = absurd (none-some _ h)
opened-found c i blocked o g n ps b j h = absurd (none-some _ h)
opened-found c i (reached (d, declared x)) o g n ps b j h = absurd (none-some _ h)
opened-found c i (reached (d, literal k ls)) o g n ps b j h = absurd (none-some _ h)
opened-found c i (reached (d, location k)) o g n ps b j h = absurd (none-some _ h)
opened-found c i (reached (d, inner m e)) o g n ps b j h = absurd (none-some _ h)
opened-found c i (reached (d, instance k)) o g n ps b j h = absurd (none-some _ h)
opened-found c i (reached (d, parameter k p)) o g n ps b j h = absurd (none-some _ h)
opened-found c i (reached (d, definition m qs e)) o g n ps b j h = ap (back m qs e) (some-same (copy d m qs e c i) (copy o n ps b g j) h)
  where
    back : Ident → List ParamTree → SourceBody → Component → Reached
    back m qs e (copy o n ps b g i) = reached (o, definition n ps b)
    back m qs e _ = missing

-- entries of components and instances stand for source

pub find-entry : (p : Ident × Entry → Bool) (xs : Entries) (e : Entry) → option_map (λ x. x.1) (find p xs) ≡ Some e → (n : Ident) × Member (n, e) xs
find-entry p [] e h = absurd (none-some e h)
find-entry p (x ∷ xs) e h =
    (elim (p x) as (λ b. option_map (λ (y : Ident × Entry). y.1) (cond b (Some x) (find p xs)) ≡ Some e → (n : Ident) × Member (n, e) (x ∷ xs)) [
      | true ↦ λ g. (x.0, inl (ap (λ f. (x.0, f)) (sym (some-same x.1 e g))))
      | false ↦ λ g. let rest = find-entry p xs e g in (rest.0, inr rest.1)
    ]) h

abbrev is_standing : Entry → Bool
is_standing (inner n b) = true
is_standing (instance i) = true
is_standing _ = false

abbrev is_still : Entry → Bool
is_still e = not (is_standing e)

-- an entry for a component is a child, and one for an instance that opens is one too
abbrev pub Stands : ScopeEntry → Type 0
Stands (c, inner n b) = Member (part c n b) (children c)
Stands (c, instance i) = (d : Component) → opened c i ≡ Some d → Member d (children c)
Stands (c, _) = Unit {0}

still-stands : (c : Component) (e : Entry) → is_standing e ≡ false → Stands (c, e)
still-stands c (declared d) h = tt
still-stands c (literal k ls) h = tt
still-stands c (location k) h = tt
still-stands c (definition n ps b) h = tt
still-stands c (parameter k p) h = tt
still-stands c (inner n b) h = absurd (false-true h refl)
still-stands c (instance i) h = absurd (false-true h refl)

not-true : (b : Bool) → not b ≡ true → b ≡ false
not-true true h = absurd (false-true refl h)
not-true false h = refl

member-still : (c : Component) (xs : Entries) (n : Ident) (e : Entry) → list_all (entry_passes is_still) xs ≡ true → Member (n, e) xs → Stands (c, e)
member-still c [] n e h m = absurd m
member-still c (x ∷ xs) n e h m =
    elim m [
      | inl w ↦ still-stands c e (not-true (is_standing e) (subst (λ y. entry_passes is_still y ≡ true) (sym w) (and-left (is_still x.1) (list_all (entry_passes is_still) xs) h)))
      | inr w ↦ member-still c xs n e (and-right (is_still x.1) (list_all (entry_passes is_still) xs) h) w
    ]

-- what an item declares stands, where the item's children are children
item-stands : (c : Component) (i : SourceItem) → ((d : Component) → child_of c i ≡ Some d → Member d (children c)) → (n : Ident) (e : Entry) → Member (n, e) (item_entries i) → Stands (c, e)
item-stands c (decl_item d) h n e m = member-still c (decl_entries d) n e (all-decl is_still (λ x. refl) (λ k ls. refl) (λ k. refl) d) m
item-stands c (component_item k b) h n e m = elim m [ inl w ↦ subst (λ y. Stands (c, y)) (sym (ap (λ y. y.1) w)) (h (part c k b) refl) | inr w ↦ absurd w ]
item-stands c (definition_item k ps b) h n e m = elim m [ inl w ↦ subst (λ y. Stands (c, y)) (sym (ap (λ y. y.1) w)) tt | inr w ↦ absurd w ]
item-stands c (instance_item j) h n e m = elim m [ inl w ↦ subst (λ y. Stands (c, y)) (sym (ap (λ y. y.1) w)) h | inr w ↦ absurd w ]

cons-here : (o : Option Component) (xs : List Component) (d : Component) → o ≡ Some d → Member d (cons_option o xs)
cons-here None xs d h = absurd (none-some d h)
cons-here (Some x) xs d h = inl (sym (some-same x d h))

cons-there : (o : Option Component) (xs : List Component) (d : Component) → Member d xs → Member d (cons_option o xs)
cons-there None xs d m = m
cons-there (Some x) xs d m = inr m

items-stand : (c : Component) (is : List SourceItem) → ((d : Component) → Member d (filter_map (child_of c) is) → Member d (children c)) → (n : Ident) (e : Entry) → Member (n, e) (flat_map item_entries is) → Stands (c, e)
items-stand c [] h n e m = absurd m
items-stand c (i ∷ is) h n e m =
    elim (append-cases (n, e) (item_entries i) (flat_map item_entries is) m) [
      | inl w ↦ item-stands c i (λ d g. h d (cons-here (child_of c i) (filter_map (child_of c) is) d g)) n e w
      | inr w ↦ items-stand c is (λ d g. h d (cons-there (child_of c i) (filter_map (child_of c) is) d g)) n e w
    ]

body-stands : (c : Component) (b : SourceBody) → ((d : Component) → Member d (filter_map (child_of c) (items_in b)) → Member d (children c)) → (n : Ident) (e : Entry) → Member (n, e) (body_entries b) → Stands (c, e)
body-stands c (group_body is) h n e m = items-stand c (list_of_items is) h n e m
body-stands c (automaton_body a) h n e m = member-still c (body_entries (automaton_body a)) n e (all-automaton is_still (λ x. refl) (λ k ls. refl) (λ k. refl) a.decls a.locs) m

-- the place lies in the component, and stands
abbrev pub In : Component → ScopeEntry → Type 0
In c x = (x.0 ≡ c) × Stands x

pub reached-same : (x y : ScopeEntry) → reached x ≡ reached y → x ≡ y
reached-same x y h = ap (back x) h
  where
    back : ScopeEntry → Reached → ScopeEntry
    back d (reached z) = z
    back d _ = d

in_component-in : (c : Component) (xs : Entries) (t : Text) (x : ScopeEntry) → ((n : Ident) (e : Entry) → Member (n, e) xs → Stands (c, e)) → at_entry c (entry_named t xs) ≡ reached x → In c x
in_component-in c xs t x all h =
    (elim (entry_named t xs) as (λ o. entry_named t xs ≡ o → at_entry c o ≡ reached x → In c x) [
      | None ↦ λ i g. cc
      | Some e ↦ λ i g.
          let f = find-entry (λ y. same_text y.0.text t) xs e i in
          subst (λ y. In c y) (reached-same (c, e) x g) (refl, all f.0 e f.1)
    ]) refl h

pub in_body-in : (c : Component) (t : Text) (x : ScopeEntry) → in_body c t ≡ reached x → In c x
in_body-in c t x h = in_component-in c (body_entries (body_of c)) t x (body-stands c (body_of c) (λ d m. m)) h

pub in_scope-in : (c : Component) (t : Text) (x : ScopeEntry) → in_scope c t ≡ reached x → In c x
in_scope-in c t x h =
    in_component-in c (scope_of c) t x
    (λ n e m. elim (append-cases (n, e) (param_entries (params_of c)) (body_entries (body_of c)) m) [
      | inl w ↦ member-still c (param_entries (params_of c)) n e (all-params is_still (λ k p. refl) (params_of c)) w
      | inr w ↦ body-stands c (body_of c) (λ d k. k) n e w
    ]) h

module _ (t : Source) (few : length (components_of t) ≤ most_objects) where
  -- the component is in the list
  abbrev pub Listed : Component → Type 0
  Listed d = Member d (components_of t)

  -- the place lies in a listed component, and stands
  abbrev pub Good : ScopeEntry → Type 0
  Good x = Listed x.0 × Stands x

  in-good : (c : Component) (x : ScopeEntry) → Listed c → In c x → Good x
  in-good c x l h = (subst (λ d. Listed d) (sym h.0) l, h.1)

  inside_written-good : (x : ScopeEntry) (ps : List Ident) (y : ScopeEntry) → Good x → inside_written x ps ≡ reached y → Good y
  inside_written-good x [] y g h = subst (λ z. Good z) (reached-same x y h) g
  inside_written-good (c, inner n b) (p ∷ ps) y g h =
      (elim (in_body (part c n b) p.text) as (λ r. in_body (part c n b) p.text ≡ r → go_on (λ z. inside_written z ps) r ≡ reached y → Good y) [
        | reached z ↦ λ i k. inside_written-good z ps y (in-good (part c n b) z (components-closed t c (part c n b) few g.0 g.1) (in_body-in (part c n b) p.text z i)) k
        | missing ↦ λ i k. cc
        | blocked ↦ λ i k. cc
      ]) refl h
  inside_written-good (c, declared d) (p ∷ ps) y g h = cc
  inside_written-good (c, literal k ls) (p ∷ ps) y g h = cc
  inside_written-good (c, location k) (p ∷ ps) y g h = cc
  inside_written-good (c, definition n qs b) (p ∷ ps) y g h = cc
  inside_written-good (c, instance i) (p ∷ ps) y g h = cc
  inside_written-good (c, parameter k q) (p ∷ ps) y g h = cc

  passed-good : (x : ScopeEntry) (s : Text) (y : ScopeEntry) → Good x → passed x s ≡ reached y → Good y
  passed-good (c, inner n b) s y g h = in-good (part c n b) y (components-closed t c (part c n b) few g.0 g.1) (in_body-in (part c n b) s y h)
  passed-good (c, instance i) s y g h =
      (elim (opened c i) as (λ o. opened c i ≡ o → in_opened o s ≡ reached y → Good y) [
        | None ↦ λ j k. cc
        | Some d ↦ λ j k. in-good d y (components-closed t c d few g.0 (g.1 d j)) (in_body-in d s y k)
      ]) refl h
  passed-good (c, declared d) s y g h = cc
  passed-good (c, literal k ls) s y g h = cc
  passed-good (c, location k) s y g h = cc
  passed-good (c, definition n qs b) s y g h = cc
  passed-good (c, parameter k q) s y g h = cc

  pub inside-good : (x : ScopeEntry) (ps : List Ident) (y : ScopeEntry) → Good x → inside x ps ≡ reached y → Good y
  inside-good x [] y g h = subst (λ z. Good z) (reached-same x y h) g
  inside-good x (p ∷ ps) y g h =
      (elim (passed x p.text) as (λ r. passed x p.text ≡ r → go_on (λ z. inside z ps) r ≡ reached y → Good y) [
        | reached z ↦ λ i k. inside-good z ps y (passed-good x p.text z g i) k
        | missing ↦ λ i k. cc
        | blocked ↦ λ i k. cc
      ]) refl h

  abbrev pub Looks : Component → Type 0
  Looks c = (s : Text) (x : ScopeEntry) → outward c s ≡ reached x → Good x

  abbrev named_of : Bool → List Ident → ℕ → Name
  named_of r ps at = record { from_root = r; parts = ps; at = at }

  going : (further : ScopeEntry → List Ident → Reached) → ((x : ScopeEntry) (ps : List Ident) (y : ScopeEntry) → Good x → further x ps ≡ reached y → Good y)
      → (r : Reached) → ((z : ScopeEntry) → r ≡ reached z → Good z) → (ps : List Ident) (y : ScopeEntry) → go_on (λ x. further x ps) r ≡ reached y → Good y
  going further f (reached z) good ps y h = f z ps y (good z refl) h
  going further f missing good ps y h = cc
  going further f blocked good ps y h = cc

  looked_up-parts : (further : ScopeEntry → List Ident → Reached) → ((x : ScopeEntry) (ps : List Ident) (y : ScopeEntry) → Good x → further x ps ≡ reached y → Good y)
      → (c : Component) → specification_of c ≡ t → Looks c → (r : Bool) (ps : List Ident) (at : ℕ) (y : ScopeEntry) → looked_up further c (named_of r ps at) ≡ reached y → Good y
  looked_up-parts further f c root looks true [] at y h = cc
  looked_up-parts further f c root looks false [] at y h = cc
  looked_up-parts further f c root looks true (p ∷ ps) at y h =
      going further f (in_scope (whole (specification_of c)) p.text)
      (λ z i. in-good (whole (specification_of c)) z (subst (λ is. Listed (whole is)) (sym root) (head-below most_objects (whole t))) (in_scope-in (whole (specification_of c)) p.text z i)) ps y h
  looked_up-parts further f c root looks false (p ∷ ps) at y h = going further f (outward c p.text) (looks p.text) ps y h

  looked_up-good : (further : ScopeEntry → List Ident → Reached) → ((x : ScopeEntry) (ps : List Ident) (y : ScopeEntry) → Good x → further x ps ≡ reached y → Good y)
      → (c : Component) → specification_of c ≡ t → Looks c → (nm : Name) (y : ScopeEntry) → looked_up further c nm ≡ reached y → Good y
  looked_up-good further f c root looks nm y h = looked_up-parts further f c root looks nm.from_root nm.parts nm.at y h

  outward-good : (c o : Component) → Listed c → Looks o → (s : Text) (x : ScopeEntry) → or_outward (in_scope c s) (outward o s) ≡ reached x → Good x
  outward-good c o l looks s x h =
      (elim (in_scope c s) as (λ r. in_scope c s ≡ r → or_outward r (outward o s) ≡ reached x → Good x) [
        | reached z ↦ λ i k. in-good c x l (in_scope-in c s x (i ∙ k))
        | missing ↦ λ i k. looks s x k
        | blocked ↦ λ i k. cc
      ]) refl h

  -- a listed component's parent is listed
  parent-listed : (c o : Component) → stands_in c ≡ Some o → Listed c → Listed o
  parent-listed c o h l =
      elim (below-parent most_objects (whole t) c l) [
        | inl w ↦ absurd (none-some o (sym (ap stands_in w) ∙ h))
        | inr w ↦ subst (λ d. Listed d) (some-same w.0 o (sym (children-parent w.0 c w.2) ∙ h)) w.1
      ]

  -- where the list is within its limit: a listed component belongs to the specification, and its scopes outward are listed
  pub frames-listed : (c : Component) → Listed c → (specification_of c ≡ t) × Looks c
  frames-listed (whole is) l =
      elim (below-parent most_objects (whole t) (whole is) l) [
        | inl w ↦ (ap specification_of w, λ s x h. in-good (whole is) x l (in_scope-in (whole is) s x h))
        | inr w ↦ absurd (none-some w.0 (children-parent w.0 (whole is) w.2))
      ]
  frames-listed (part o n b) l =
      let up = frames-listed o (parent-listed (part o n b) o refl l) in
      (up.0, outward-good (part o n b) o l up.1)
  frames-listed (blank o n ps b) l =
      let up = frames-listed o (parent-listed (blank o n ps b) o refl l) in
      (up.0, outward-good (blank o n ps b) o l up.1)
  frames-listed (copy o n ps b g i) l =
      let giver = frames-listed g (parent-listed (copy o n ps b g i) g refl l) in
      let outer : Listed o = outer-listed o n ps b g i l giver in
      let up = frames-listed o outer in
      (up.0, outward-good (copy o n ps b g i) o l up.1)
    where
      outer-listed : (o : Component) (n : Ident) (ps : List ParamTree) (b : SourceBody) (g : Component) (i : InstanceTree) → Listed (copy o n ps b g i) → (specification_of g ≡ t) × Looks g → Listed o
      outer-listed o n ps b g i l giver =
          elim (below-parent most_objects (whole t) (copy o n ps b g i) l) [
            | inl w ↦ absurd (none-some g (sym (ap stands_in w)))
            | inr w ↦
                let same : w.0 ≡ g = some-same w.0 g (sym (children-parent w.0 (copy o n ps b g i) w.2)) in
                elim (children-cases w.0 (copy o n ps b g i) w.2) [
                  | inl v ↦ absurd (not-part o n ps b g i w.0 v.0 v.1 v.2)
                  | inr v ↦
                      let found : definition_found w.0 v.0 ≡ reached (o, definition n ps b) = opened-found w.0 v.0 (definition_found w.0 v.0) o g n ps b i v.1 in
                      (looked_up-good inside_written inside_written-good g giver.0 giver.1 v.0.def (o, definition n ps b) (subst (λ d. definition_found d v.0 ≡ reached (o, definition n ps b)) same found)).0
                ]
          ]
        where
          not-part : (o : Component) (n : Ident) (ps : List ParamTree) (b : SourceBody) (g : Component) (i : InstanceTree) (p : Component) (m : Ident) (e : SourceBody) → copy o n ps b g i ≡ part p m e → ⊥
          not-part o n ps b g i p m e h = cc

  -- what a name reaches from a listed component lies in a listed component
  pub found-listed : (c : Component) → Listed c → (nm : Name) (x : ScopeEntry) → found c nm ≡ reached x → Listed x.0
  found-listed c l nm x h =
      let up = frames-listed c l in (looked_up-good inside inside-good c up.0 up.1 nm x h).0
