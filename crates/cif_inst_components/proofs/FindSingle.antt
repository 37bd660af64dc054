-- Where no scope declares a name twice, components have different paths, so a component stands at one place in the list.
use Rattle.std.proofs.Common.{◌≡◌, ℕ, zero, suc, inl, inr, List, [], ◌∷◌, ◌++◌, map, append-nil, refl, sym, ◌∙◌, ap, subst, Some, None}
use Rattle.std.specs.Prelude.{slice_get, flat_map, filter_map}
use Rattle.std.specs.List.{cons_option}
use Rattle.std.proofs.lemmas.List.{append_cancel_left, map-append}
use Rattle.cif_ast.specs.declared.names.Ident.{Ident}
use Rattle.cif_system.specs.Words.{Member, AreDistinct}
use Rattle.cif_system.proofs.Lists.{some-same, none-some}
use Rattle.cif_system.proofs.Distinct.{member-map, append-distinct}
use Rattle.cif_system.proofs.Picks.{append-right, at-member, flat_map-member}
use Rattle.cif_source.specs.Source.{Text, InstanceTree, SourceItem, decl_item, component_item, definition_item, instance_item, SourceBody, group_body, automaton_body, Source}
use Rattle.cif_source.specs.Components.{Component, whole, part, copy, body_of, params_of, as_written, scope_of, param_entries, body_entries, item_entries, Path, path_of, Entry, Entries, declared, literal, location, inner, definition, instance, parameter}
use Rattle.cif_source.specs.Lookup.{Reached, reached, missing, blocked, opened_at, definition_found}
use Rattle.cif_source.specs.Objects.{components_below, components_of, children, child_of, items_in, most_objects}
use Rattle.cif_source.proofs.ComponentLaws.{flat-cases}
use Rattle.cif_scope.specs.declared.table.Table.{Table}
use Rattle.cif_scope.specs.Tables.{IsBody, IsTable}
use Rattle.cif_scope.specs.Scopes.{IsIndexed}
use Rattle.cif_scope.proofs.BodyLaws.{row-of, scope-written}
use Rattle.cif_scope.proofs.LookLaws.{get-map, beside-texts}

abbrev pub texts : Entries → List Text
texts es = map (λ (e : Ident × Entry). e.0.text) es

distinct-right : {A : Type 0} (xs ys : List A) → AreDistinct (xs ++ ys) → AreDistinct ys
distinct-right [] ys h = h
distinct-right (x ∷ xs) ys h = distinct-right xs ys h.1

pub place-single : {A : Type 0} (x : A) (xs : List A) (j k : ℕ) → AreDistinct xs → slice_get xs j ≡ Some x → slice_get xs k ≡ Some x → j ≡ k
place-single x [] j k d h g = absurd (none-some x h)
place-single x (y ∷ xs) zero zero d h g = refl
place-single x (y ∷ xs) zero (suc k) d h g = absurd (d.0 (subst (λ z. Member z xs) (sym (some-same y x h)) (at-member xs k x g)))
place-single x (y ∷ xs) (suc j) zero d h g = absurd (d.0 (subst (λ z. Member z xs) (sym (some-same y x g)) (at-member xs j x h)))
place-single x (y ∷ xs) (suc j) (suc k) d h g = ap suc (place-single x xs j k d.1 h g)

-- what stands in the items declares these names
abbrev declared_in : List SourceItem → List Text
declared_in is = texts (flat_map item_entries is)

declared-append : (i : SourceItem) (is : List SourceItem) → declared_in (i ∷ is) ≡ texts (item_entries i) ++ declared_in is
declared-append i is = map-append (λ (e : Ident × Entry). e.0.text) (item_entries i) (flat_map item_entries is)

right : (i : SourceItem) (is : List SourceItem) (x : Text) → Member x (declared_in is) → Member x (declared_in (i ∷ is))
right i is x k = subst (Member x) (sym (declared-append i is)) (append-right x (texts (item_entries i)) (declared_in is) k)

left : (i : SourceItem) (is : List SourceItem) (x : Text) → texts (item_entries i) ≡ x ∷ [] → Member x (declared_in (i ∷ is))
left i is x e = subst (Member x) (sym (declared-append i is ∙ ap (λ (l : List Text). l ++ declared_in is) e)) (inl refl)

rest-distinct : (i : SourceItem) (is : List SourceItem) → AreDistinct (declared_in (i ∷ is)) → AreDistinct (declared_in is)
rest-distinct i is h = distinct-right (texts (item_entries i)) (declared_in is) (subst (λ (l : List Text). AreDistinct l) (declared-append i is) h)

-- ---- paths

longer : (p : Path) (x : Text) (rest : Path) → (p ++ x ∷ []) ++ rest ≡ p ++ x ∷ rest
longer [] x rest = refl
longer (z ∷ p) x rest = ap (λ q. z ∷ q) (longer p x rest)

same-head : (p : Path) (x y : Text) (r s : Path) → p ++ x ∷ r ≡ p ++ y ∷ s → x ≡ y
same-head p x y r s h = let k : x ∷ r ≡ y ∷ s = append_cancel_left p (x ∷ r) (y ∷ s) h in cc

not-longer : (p : Path) (x : Text) (r : Path) → p ≡ p ++ x ∷ r → ⊥
not-longer p x r h = let k : [] ≡ x ∷ r = append_cancel_left p [] (x ∷ r) (append-nil p ∙ h) in cc

-- the path goes on from p, with one of these names
abbrev GoesOn : Path → List Text → Path → Type 0
GoesOn p xs q = (x : Text) × Member x xs × ((rest : Path) × (q ≡ p ++ x ∷ rest))

opened-path : (c : Component) (i : InstanceTree) (r : Reached) (d : Component) → opened_at c i r ≡ Some d → path_of d ≡ path_of c ++ i.name.text ∷ []
opened-path c i missing d h = absurd (none-some d h)
opened-path c i blocked d h = absurd (none-some d h)
opened-path c i (reached (o, declared x)) d h = absurd (none-some d h)
opened-path c i (reached (o, literal k ls)) d h = absurd (none-some d h)
opened-path c i (reached (o, location k)) d h = absurd (none-some d h)
opened-path c i (reached (o, inner n b)) d h = absurd (none-some d h)
opened-path c i (reached (o, instance j)) d h = absurd (none-some d h)
opened-path c i (reached (o, parameter k p)) d h = absurd (none-some d h)
opened-path c i (reached (o, definition n ps b)) d h = ap path_of (sym (some-same (copy o n ps b c i) d h))

-- the path of what stands in a component has one name more
child-path : (c : Component) (i : SourceItem) (d : Component) → child_of c i ≡ Some d → (x : Text) × (texts (item_entries i) ≡ x ∷ []) × (path_of d ≡ path_of c ++ x ∷ [])
child-path c (decl_item x) d h = absurd (none-some d h)
child-path c (component_item n b) d h = (n.text, refl, ap path_of (sym (some-same (part c n b) d h)))
child-path c (definition_item n ps b) d h = absurd (none-some d h)
child-path c (instance_item i) d h = (i.name.text, refl, opened-path c i (definition_found c i) d h)

items-path : (c : Component) (is : List SourceItem) (y : Component) → Member y (filter_map (child_of c) is) → (x : Text) × Member x (declared_in is) × (path_of y ≡ path_of c ++ x ∷ [])
items-path c [] y m = absurd m
items-path c (i ∷ is) y m =
    (elim (child_of c i) as (λ o. child_of c i ≡ o → Member y (cons_option o (filter_map (child_of c) is)) → (x : Text) × Member x (declared_in (i ∷ is)) × (path_of y ≡ path_of c ++ x ∷ [])) [
      | None ↦ λ e g. let rest = items-path c is y g in (rest.0, right i is rest.0 rest.1, rest.2)
      | Some d ↦ λ e g. elim g [
        | inl w ↦ let own = child-path c i d e in (own.0, left i is own.0 own.1, ap path_of w ∙ own.2)
        | inr w ↦ let rest = items-path c is y w in (rest.0, right i is rest.0 rest.1, rest.2)
      ]
    ]) refl m

below-path : (n : ℕ) (c d : Component) → Member d (components_below n c) → (rest : Path) × (path_of d ≡ path_of c ++ rest)
below-path zero c d m = elim m [ inl w ↦ ([], ap path_of w ∙ sym (append-nil (path_of c))) | inr w ↦ absurd w ]
below-path (suc n) c d m =
    elim m [
      | inl w ↦ ([], ap path_of w ∙ sym (append-nil (path_of c)))
      | inr w ↦
          let y = flat-cases n d (children c) w in
          let here = items-path c (items_in (body_of c)) y.0 y.1 in
          let rest = below-path n y.0 d y.2 in
          (here.0 ∷ rest.0, rest.1 ∙ ap (λ p. p ++ rest.0) here.2 ∙ longer (path_of c) here.0 rest.0)
    ]

goes-on : (n : ℕ) (c : Component) (is : List SourceItem) (d : Component) → Member d (flat_map (components_below n) (filter_map (child_of c) is)) → GoesOn (path_of c) (declared_in is) (path_of d)
goes-on n c is d m =
    let y = flat-cases n d (filter_map (child_of c) is) m in
    let here = items-path c is y.0 y.1 in
    let rest = below-path n y.0 d y.2 in
    (here.0, here.1, (rest.0, rest.1 ∙ ap (λ p. p ++ rest.0) here.2 ∙ longer (path_of c) here.0 rest.0))

-- ---- components differ

-- one that stands in c with those in it, before the others
apart : (n : ℕ) (c d : Component) (i : SourceItem) (is : List SourceItem) → child_of c i ≡ Some d → AreDistinct (declared_in (i ∷ is)) → AreDistinct (map path_of (components_below n d))
    → AreDistinct (map path_of (flat_map (components_below n) (filter_map (child_of c) is)))
    → AreDistinct (map path_of (components_below n d ++ flat_map (components_below n) (filter_map (child_of c) is)))
apart n c d i is child single own rest =
    let others : List Component = flat_map (components_below n) (filter_map (child_of c) is) in
    let name = child-path c i d child in
    let apart-names : AreDistinct (name.0 ∷ declared_in is) = subst (λ (l : List Text). AreDistinct l) (declared-append i is ∙ ap (λ (l : List Text). l ++ declared_in is) name.1) single in
    subst (λ (l : List Path). AreDistinct l) (sym (map-append path_of (components_below n d) others))
    (append-distinct (map path_of (components_below n d)) (map path_of others) own rest (λ p k l.
    let e = member-map path_of p (components_below n d) k in
    let g = below-path n d e.0 e.1 in
    let f = member-map path_of p others l in
    let h = goes-on n c is f.0 f.1 in
    let same : name.0 ≡ h.0 = same-head (path_of c) name.0 h.0 g.0 h.2.0 (sym (longer (path_of c) name.0 g.0) ∙ ap (λ q. q ++ g.0) (sym name.2) ∙ sym g.1 ∙ sym e.2 ∙ f.2 ∙ h.2.1) in
    apart-names.0 (subst (λ (y : Text). Member y (declared_in is)) (sym same) h.1)))

items-distinct : (n : ℕ) (c : Component) (is : List SourceItem) → AreDistinct (declared_in is) → ((y : Component) → Member y (filter_map (child_of c) is) → AreDistinct (map path_of (components_below n y)))
    → AreDistinct (map path_of (flat_map (components_below n) (filter_map (child_of c) is)))
items-distinct n c [] h own = tt
items-distinct n c (i ∷ is) h own =
    (elim (child_of c i) as (λ o. child_of c i ≡ o → ((y : Component) → Member y (cons_option o (filter_map (child_of c) is)) → AreDistinct (map path_of (components_below n y)))
    → AreDistinct (map path_of (flat_map (components_below n) (cons_option o (filter_map (child_of c) is))))) [
      | None ↦ λ e g. items-distinct n c is (rest-distinct i is h) g
      | Some d ↦ λ e g. apart n c d i is e h (g d (inl refl)) (items-distinct n c is (rest-distinct i is h) (λ y m. g y (inr m)))
    ]) refl own

-- the body declares no name twice, parameters aside
abbrev IsSingle : Component → Type 0
IsSingle c = AreDistinct (texts (body_entries (body_of c)))

body-items : (b : SourceBody) → AreDistinct (texts (body_entries b)) → AreDistinct (declared_in (items_in b))
body-items (group_body is) h = h
body-items (automaton_body a) h = tt

below-distinct : (n : ℕ) (c : Component) → ((d : Component) → Member d (components_below n c) → IsSingle d) → AreDistinct (map path_of (components_below n c))
below-distinct zero c single = (λ m. m, tt)
below-distinct (suc n) c single = (
  λ m.
      let e = member-map path_of (path_of c) (flat_map (components_below n) (children c)) m in
      let g = goes-on n c (items_in (body_of c)) e.0 e.1 in
      not-longer (path_of c) g.0 g.2.0 (e.2 ∙ g.2.1),
  items-distinct n c (items_in (body_of c)) (body-items (body_of c) (single c (inl refl)))
      (λ y m. below-distinct n y (λ d k. single d (inr (flat_map-member (components_below n) y (children c) d m k)))),
)

-- no name stands twice in the scope of a component whose body is written
pub scope-distinct : (t : Source) (tb : Table) (c : Component) (k : ℕ) → IsTable t tb.scopes → IsIndexed tb → IsBody t k (as_written c) → AreDistinct (texts (scope_of c))
scope-distinct t tb c k table ix own =
    let r = row-of t tb.scopes table k (as_written c) own in
    subst (λ (l : List Text). AreDistinct l) (beside-texts t (as_written c) (scope_of (as_written c)) r.0.names r.2.names ∙ ap texts (scope-written c)) (ix.distinct k r.0 r.1)

body-distinct : (c : Component) → AreDistinct (texts (scope_of c)) → IsSingle c
body-distinct c h =
    distinct-right (texts (param_entries (params_of c))) (texts (body_entries (body_of c)))
    (subst (λ (l : List Text). AreDistinct l) (map-append (λ (e : Ident × Entry). e.0.text) (param_entries (params_of c)) (body_entries (body_of c))) h)

-- a component has one number
pub number-single : (t : Source) → ((d : Component) → Member d (components_of t) → AreDistinct (texts (scope_of d))) → (j k : ℕ) (c : Component)
    → slice_get (components_of t) j ≡ Some c → slice_get (components_of t) k ≡ Some c → j ≡ k
number-single t single j k c h g =
    place-single (path_of c) (map path_of (components_of t)) j k (below-distinct most_objects (whole t) (λ d m. body-distinct d (single d m))) (get-map path_of (components_of t) j c h) (get-map path_of (components_of t) k c g)
