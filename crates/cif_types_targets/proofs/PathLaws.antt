-- Where no scope declares a name twice, bodies have different paths, so a body stands at one place in the list.
use Rattle.std.proofs.Common.{◌≡◌, inl, inr, List, [], ◌∷◌, ◌++◌, map, flat_map, refl, sym, ◌∙◌, ap, subst}
use Rattle.std.proofs.lemmas.List.{append_cancel_left, map-append}
use Rattle.cif_ast.specs.declared.names.Ident.{Ident}
use Rattle.cif_system.specs.Words.{Member, AreDistinct}
use Rattle.cif_system.proofs.Distinct.{member-map, append-distinct}
use Rattle.cif_system.proofs.Picks.{append-left, append-right}
use Rattle.cif_source.specs.Source.{Text, SourceItem, decl_item, component_item, definition_item, instance_item, SourceBody, group_body, automaton_body, Source, no_source, source, list_of_items}
use Rattle.cif_source.specs.Components.{Component, whole, part, blank, body_of, Path, path_of, Entry, Entries, item_entries, body_entries}
use Rattle.cif_source.specs.Objects.{bodies, bodies_in, bodies_under}
use Rattle.cif_source.proofs.ComponentLaws.{append-cases}

abbrev pub texts : Entries → List Text
texts es = map (λ (e : Ident × Entry). e.0.text) es

pub distinct-right : {A : Type 0} (xs ys : List A) → AreDistinct (xs ++ ys) → AreDistinct ys
distinct-right [] ys h = h
distinct-right (x ∷ xs) ys h = distinct-right xs ys h.1

-- what stands in the items declares these names
abbrev declared_in : Source → List Text
declared_in is = texts (flat_map item_entries (list_of_items is))

declared-append : (i : SourceItem) (is : Source) → declared_in (source i is) ≡ texts (item_entries i) ++ declared_in is
declared-append i is = map-append (λ (e : Ident × Entry). e.0.text) (item_entries i) (flat_map item_entries (list_of_items is))

right : (i : SourceItem) (is : Source) (x : Text) → Member x (declared_in is) → Member x (declared_in (source i is))
right i is x k = subst (Member x) (sym (declared-append i is)) (append-right x (texts (item_entries i)) (declared_in is) k)

rest-distinct : (i : SourceItem) (is : Source) → AreDistinct (declared_in (source i is)) → AreDistinct (declared_in is)
rest-distinct i is h = distinct-right (texts (item_entries i)) (declared_in is) (subst (λ (l : List Text). AreDistinct l) (declared-append i is) h)

-- the path goes on from p, with one of these names
abbrev GoesOn : Path → List Text → Path → Type 0
GoesOn p xs q = (x : Text) × Member x xs × ((rest : Path) × (q ≡ p ++ x ∷ rest))

wider : (p q : Path) (xs ys : List Text) → ((x : Text) → Member x xs → Member x ys) → GoesOn p xs q → GoesOn p ys q
wider p q xs ys h g = (g.0, h g.0 g.1, g.2)

longer : (p : Path) (x y : Text) (rest : Path) → (p ++ x ∷ []) ++ y ∷ rest ≡ p ++ x ∷ y ∷ rest
longer [] x y rest = refl
longer (z ∷ p) x y rest = ap (λ q. z ∷ q) (longer p x y rest)

mutual
  goes-on : (is : Source) (c d : Component) → Member d (bodies_in c is) → GoesOn (path_of c) (declared_in is) (path_of d)
  goes-on no_source c d m = absurd m
  goes-on (source (decl_item x) is) c d m = wider (path_of c) (path_of d) (declared_in is) (declared_in (source (decl_item x) is)) (right (decl_item x) is) (goes-on is c d m)
  goes-on (source (instance_item j) is) c d m = wider (path_of c) (path_of d) (declared_in is) (declared_in (source (instance_item j) is)) (right (instance_item j) is) (goes-on is c d m)
  goes-on (source (component_item n b) is) c d m =
      elim m [
        | inl w ↦ (n.text, inl refl, ([], ap path_of w))
        | inr w ↦ elim (append-cases d (bodies_under (part c n b) b) (bodies_in c is) w) [
          | inl v ↦ let g = under b (part c n b) d v in (n.text, inl refl, (g.0 ∷ g.1, g.2 ∙ longer (path_of c) n.text g.0 g.1))
          | inr v ↦ wider (path_of c) (path_of d) (declared_in is) (declared_in (source (component_item n b) is)) (right (component_item n b) is) (goes-on is c d v)
        ]
      ]
  goes-on (source (definition_item n ps b) is) c d m =
      elim m [
        | inl w ↦ (n.text, inl refl, ([], ap path_of w))
        | inr w ↦ elim (append-cases d (bodies_under (blank c n ps b) b) (bodies_in c is) w) [
          | inl v ↦ let g = under b (blank c n ps b) d v in (n.text, inl refl, (g.0 ∷ g.1, g.2 ∙ longer (path_of c) n.text g.0 g.1))
          | inr v ↦ wider (path_of c) (path_of d) (declared_in is) (declared_in (source (definition_item n ps b) is)) (right (definition_item n ps b) is) (goes-on is c d v)
        ]
      ]

  under : (b : SourceBody) (c d : Component) → Member d (bodies_under c b) → (x : Text) × (rest : Path) × (path_of d ≡ path_of c ++ x ∷ rest)
  under (group_body is) c d m = let g = goes-on is c d m in (g.0, g.2.0, g.2.1)
  under (automaton_body a) c d m = absurd m

-- ---- bodies differ

same-head : (p : Path) (x y : Text) (r s : Path) → p ++ x ∷ r ≡ p ++ y ∷ s → x ≡ y
same-head p x y r s h = let k : x ∷ r ≡ y ∷ s = append_cancel_left p (x ∷ r) (y ∷ s) h in cc

not-longer : (p : Path) (x y : Text) (r : Path) → p ++ x ∷ [] ≡ p ++ x ∷ y ∷ r → ⊥
not-longer p x y r h = let k : x ∷ [] ≡ x ∷ y ∷ r = append_cancel_left p (x ∷ []) (x ∷ y ∷ r) h in cc

not-root : (p : Path) (x : Text) (r : Path) → [] ≡ p ++ x ∷ r → ⊥
not-root [] x r h = cc
not-root (y ∷ p) x r h = cc

-- a component with what stands in it, before the rest of the items
apart : (c d : Component) (x : Text) (b : SourceBody) (is : Source) → path_of d ≡ path_of c ++ x ∷ [] → (Member x (declared_in is) → ⊥)
    → AreDistinct (map path_of (bodies_under d b)) → AreDistinct (map path_of (bodies_in c is)) → AreDistinct (map path_of (d ∷ bodies_under d b ++ bodies_in c is))
apart c d x b is here single own rest = (
  λ m. elim (append-cases (path_of d) (map path_of (bodies_under d b)) (map path_of (bodies_in c is)) (subst (Member (path_of d)) (map-append path_of (bodies_under d b) (bodies_in c is)) m)) [
    | inl w ↦
        let e = member-map path_of (path_of d) (bodies_under d b) w in
        let g = under b d e.0 e.1 in
        not-longer (path_of c) x g.0 g.1 (sym here ∙ e.2 ∙ g.2 ∙ ap (λ p. p ++ g.0 ∷ g.1) here ∙ longer (path_of c) x g.0 g.1)
    | inr w ↦
        let e = member-map path_of (path_of d) (bodies_in c is) w in
        let g = goes-on is c e.0 e.1 in
        single (subst (λ (y : Text). Member y (declared_in is)) (sym (same-head (path_of c) x g.0 [] g.2.0 (sym here ∙ e.2 ∙ g.2.1))) g.1)
  ],
  subst AreDistinct (sym (map-append path_of (bodies_under d b) (bodies_in c is))) (append-distinct (map path_of (bodies_under d b)) (map path_of (bodies_in c is)) own rest (λ p k l.
      let e = member-map path_of p (bodies_under d b) k in
      let g = under b d e.0 e.1 in
      let f = member-map path_of p (bodies_in c is) l in
      let i = goes-on is c f.0 f.1 in
      let same = same-head (path_of c) x i.0 (g.0 ∷ g.1) i.2.0 (sym (longer (path_of c) x g.0 g.1) ∙ ap (λ q. q ++ g.0 ∷ g.1) (sym here) ∙ sym g.2 ∙ sym e.2 ∙ f.2 ∙ i.2.1) in
      single (subst (λ (y : Text). Member y (declared_in is)) (sym same) i.1))),
)

-- the body declares no name twice, parameters aside
abbrev pub IsSingle : Component → Type 0
IsSingle c = AreDistinct (texts (body_entries (body_of c)))

mutual
  items-distinct : (is : Source) (c : Component) → AreDistinct (declared_in is) → ((d : Component) → Member d (bodies_in c is) → IsSingle d) → AreDistinct (map path_of (bodies_in c is))
  items-distinct no_source c h g = tt
  items-distinct (source (decl_item x) is) c h g = items-distinct is c (rest-distinct (decl_item x) is h) g
  items-distinct (source (instance_item j) is) c h g = items-distinct is c (rest-distinct (instance_item j) is h) g
  items-distinct (source (component_item n b) is) c h g =
      apart c (part c n b) n.text b is refl h.0 (body-distinct b (part c n b) (g (part c n b) (inl refl)) (λ d m. g d (inr (append-left d (bodies_under (part c n b) b) (bodies_in c is) m))))
      (items-distinct is c h.1 (λ d m. g d (inr (append-right d (bodies_under (part c n b) b) (bodies_in c is) m))))
  items-distinct (source (definition_item n ps b) is) c h g =
      apart c (blank c n ps b) n.text b is refl h.0 (body-distinct b (blank c n ps b) (g (blank c n ps b) (inl refl)) (λ d m. g d (inr (append-left d (bodies_under (blank c n ps b) b) (bodies_in c is) m))))
      (items-distinct is c h.1 (λ d m. g d (inr (append-right d (bodies_under (blank c n ps b) b) (bodies_in c is) m))))

  body-distinct : (b : SourceBody) (c : Component) → AreDistinct (texts (body_entries b)) → ((d : Component) → Member d (bodies_under c b) → IsSingle d) → AreDistinct (map path_of (bodies_under c b))
  body-distinct (group_body is) c h g = items-distinct is c h g
  body-distinct (automaton_body a) c h g = tt

-- no two bodies have one path
pub paths-distinct : (t : Source) → ((d : Component) → Member d (bodies t) → IsSingle d) → AreDistinct (map path_of (bodies t))
paths-distinct t g = (
  λ m.
      let e = member-map path_of [] (bodies_in (whole t) t) m in
      let i = goes-on t (whole t) e.0 e.1 in
      not-root [] i.0 i.2.0 (e.2 ∙ i.2.1),
  items-distinct t (whole t) (g (whole t) (inl refl)) (λ d m. g d (inr m)),
)
