-- Where no scope declares a name twice, bodies have different paths, so a body stands at one place in the list.
use Rattle.std.proofs.Common.{◌≡◌, Bool, true, false, inl, inr, List, [], ◌∷◌, ◌++◌, map, refl, sym, ◌∙◌, ap, subst}
use Rattle.std.specs.Prelude.{not, flat_map}
use Rattle.std.specs.List.{list_all}
use Rattle.std.proofs.lemmas.List.{append_cancel_left, map-append}
use Rattle.std.proofs.lemmas.Cmp.{nat_list_eq_equiv}
use Rattle.cif_ast.specs.declared.names.Ident.{Ident}
use Rattle.cif_system.specs.Words.{Member, AreDistinct}
use Rattle.cif_system.proofs.Lists.{false-true}
use Rattle.cif_system.proofs.Distinct.{member-map, append-distinct}
use Rattle.cif_system.proofs.Picks.{and-left, and-right, append-right}
use Rattle.cif_net_model.proofs.Passing.{both-pass, not-true}
use Rattle.cif_source.specs.Source.{Text, SourceItem, decl_item, component_item, definition_item, instance_item, SourceBody, group_body, automaton_body, Source, no_source, source, list_of_items}
use Rattle.cif_source.specs.Components.{Component, whole, part, blank, body_of, Path, path_of, same_text, item_entries, body_entries}
use Rattle.cif_source.specs.Objects.{bodies, bodies_in, bodies_under}
use Rattle.cif_source.proofs.ComponentLaws.{append-cases}
use Rattle.cif_inst_model.proofs.KeptLaws.{has_twice, or-left, member-passes}
use Rattle.cif_inst_model.proofs.PathLaws.{names, names-append, not-twice-right}

-- the path goes on from that of the component, with one of these names
abbrev pub GoesOn : Component → List Ident → Component → Type 0
GoesOn c ns d = (m : Ident) × Member m ns × ((rest : Path) × (path_of d ≡ path_of c ++ m.text ∷ rest))

wider : (c d : Component) (ns ms : List Ident) → ((m : Ident) → Member m ns → Member m ms) → GoesOn c ns d → GoesOn c ms d
wider c d ns ms h g = (g.0, h g.0 g.1, g.2)

longer : (p : Path) (x y : Text) (rest : Path) → (p ++ x ∷ []) ++ y ∷ rest ≡ p ++ x ∷ y ∷ rest
longer [] x y rest = refl
longer (z ∷ p) x y rest = ap (λ q. z ∷ q) (longer p x y rest)

-- what stands in the items declares these names
abbrev pub declared_in : Source → List Ident
declared_in is = names (flat_map item_entries (list_of_items is))

right : (i : SourceItem) (is : Source) (m : Ident) → Member m (declared_in is) → Member m (declared_in (source i is))
right i is m k =
    subst (Member m) (sym (names-append (item_entries i) (flat_map item_entries (list_of_items is)))) (append-right m (names (item_entries i)) (declared_in is) k)

mutual
  goes-on : (is : Source) (c d : Component) → Member d (bodies_in c is) → GoesOn c (declared_in is) d
  goes-on no_source c d m = absurd m
  goes-on (source (decl_item x) is) c d m = wider c d (declared_in is) (declared_in (source (decl_item x) is)) (right (decl_item x) is) (goes-on is c d m)
  goes-on (source (instance_item j) is) c d m = wider c d (declared_in is) (declared_in (source (instance_item j) is)) (right (instance_item j) is) (goes-on is c d m)
  goes-on (source (component_item n b) is) c d m =
      elim m [
        | inl w ↦ (n, inl refl, ([], ap path_of w))
        | inr w ↦ elim (append-cases d (bodies_under (part c n b) b) (bodies_in c is) w) [
          | inl v ↦ let g = under b (part c n b) d v in (n, inl refl, (g.0 ∷ g.1, g.2 ∙ longer (path_of c) n.text g.0 g.1))
          | inr v ↦ wider c d (declared_in is) (declared_in (source (component_item n b) is)) (right (component_item n b) is) (goes-on is c d v)
        ]
      ]
  goes-on (source (definition_item n ps b) is) c d m =
      elim m [
        | inl w ↦ (n, inl refl, ([], ap path_of w))
        | inr w ↦ elim (append-cases d (bodies_under (blank c n ps b) b) (bodies_in c is) w) [
          | inl v ↦ let g = under b (blank c n ps b) d v in (n, inl refl, (g.0 ∷ g.1, g.2 ∙ longer (path_of c) n.text g.0 g.1))
          | inr v ↦ wider c d (declared_in is) (declared_in (source (definition_item n ps b) is)) (right (definition_item n ps b) is) (goes-on is c d v)
        ]
      ]

  under : (b : SourceBody) (c d : Component) → Member d (bodies_under c b) → (x : Text) × (rest : Path) × (path_of d ≡ path_of c ++ x ∷ rest)
  under (group_body is) c d m = let g = goes-on is c d m in (g.0.text, g.2.0, g.2.1)
  under (automaton_body a) c d m = absurd m

-- ---- bodies differ

-- the scope of the body, parameters excluded, declares no name twice
abbrev pub is_single : Component → Bool
is_single c = not (has_twice (names (body_entries (body_of c))))

same-head : (p : Path) (x y : Text) (r s : Path) → p ++ x ∷ r ≡ p ++ y ∷ s → x ≡ y
same-head p x y r s h = let k : x ∷ r ≡ y ∷ s = append_cancel_left p (x ∷ r) (y ∷ s) h in cc

not-longer : (p : Path) (x y : Text) (r : Path) → p ++ x ∷ [] ≡ p ++ x ∷ y ∷ r → ⊥
not-longer p x y r h = let k : x ∷ [] ≡ x ∷ y ∷ r = append_cancel_left p (x ∷ []) (x ∷ y ∷ r) h in cc

not-root : (p : Path) (x : Text) (r : Path) → [] ≡ p ++ x ∷ r → ⊥
not-root [] x r h = cc
not-root (y ∷ p) x r h = cc

-- the name does not stand among the others
pub other-name : (n m : Ident) (ns : List Ident) → has_twice (n ∷ ns) ≡ false → Member m ns → n.text ≡ m.text → ⊥
other-name n m ns h k same =
    false-true h (or-left _ _ (member-passes (λ (y : Ident). same_text n.text y.text) ns m k (ap (same_text n.text) (sym same) ∙ nat_list_eq_equiv.refl n.text)))

-- a component with what stands in it, before the rest of the items
apart : (c d : Component) (n : Ident) (b : SourceBody) (is : Source) → path_of d ≡ path_of c ++ n.text ∷ [] → has_twice (n ∷ declared_in is) ≡ false
    → AreDistinct (map path_of (bodies_under d b)) → AreDistinct (map path_of (bodies_in c is)) → AreDistinct (map path_of (d ∷ bodies_under d b ++ bodies_in c is))
apart c d n b is here single own rest = (
  λ m. elim (append-cases (path_of d) (map path_of (bodies_under d b)) (map path_of (bodies_in c is)) (subst (Member (path_of d)) (map-append path_of (bodies_under d b) (bodies_in c is)) m)) [
    | inl w ↦
        let e = member-map path_of (path_of d) (bodies_under d b) w in
        let g = under b d e.0 e.1 in
        not-longer (path_of c) n.text g.0 g.1 (sym here ∙ e.2 ∙ g.2 ∙ ap (λ p. p ++ g.0 ∷ g.1) here ∙ longer (path_of c) n.text g.0 g.1)
    | inr w ↦
        let e = member-map path_of (path_of d) (bodies_in c is) w in
        let g = goes-on is c e.0 e.1 in
        other-name n g.0 (declared_in is) single g.1 (same-head (path_of c) n.text g.0.text [] g.2.0 (sym here ∙ e.2 ∙ g.2.1))
  ],
  subst AreDistinct (sym (map-append path_of (bodies_under d b) (bodies_in c is))) (append-distinct (map path_of (bodies_under d b)) (map path_of (bodies_in c is)) own rest (λ p k l.
      let e = member-map path_of p (bodies_under d b) k in
      let g = under b d e.0 e.1 in
      let f = member-map path_of p (bodies_in c is) l in
      let i = goes-on is c f.0 f.1 in
      other-name n i.0 (declared_in is) single i.1 (same-head (path_of c) n.text i.0.text (g.0 ∷ g.1) i.2.0 (sym (longer (path_of c) n.text g.0 g.1) ∙ ap (λ q. q ++ g.0 ∷ g.1) (sym here) ∙ sym g.2 ∙ sym e.2 ∙ f.2 ∙ i.2.1)))),
)

not-twice-tail : (i : SourceItem) (is : Source) → has_twice (declared_in (source i is)) ≡ false → has_twice (declared_in is) ≡ false
not-twice-tail i is h = not-twice-right (names (item_entries i)) (declared_in is) (ap has_twice (sym (names-append (item_entries i) (flat_map item_entries (list_of_items is)))) ∙ h)

mutual
  items-distinct : (is : Source) (c : Component) → has_twice (declared_in is) ≡ false → list_all is_single (bodies_in c is) ≡ true → AreDistinct (map path_of (bodies_in c is))
  items-distinct no_source c h g = tt
  items-distinct (source (decl_item x) is) c h g = items-distinct is c (not-twice-tail (decl_item x) is h) g
  items-distinct (source (instance_item j) is) c h g = items-distinct is c (not-twice-tail (instance_item j) is h) g
  items-distinct (source (component_item n b) is) c h g =
      let both = both-pass is_single (bodies_under (part c n b) b) (bodies_in c is) (and-right (is_single (part c n b)) (list_all is_single (bodies_under (part c n b) b ++ bodies_in c is)) g) in
      apart c (part c n b) n b is refl h
      (body-distinct b (part c n b) (not-true _ (and-left (is_single (part c n b)) (list_all is_single (bodies_under (part c n b) b ++ bodies_in c is)) g)) both.0)
      (items-distinct is c (not-twice-tail (component_item n b) is h) both.1)
  items-distinct (source (definition_item n ps b) is) c h g =
      let both = both-pass is_single (bodies_under (blank c n ps b) b) (bodies_in c is) (and-right (is_single (blank c n ps b)) (list_all is_single (bodies_under (blank c n ps b) b ++ bodies_in c is)) g) in
      apart c (blank c n ps b) n b is refl h
      (body-distinct b (blank c n ps b) (not-true _ (and-left (is_single (blank c n ps b)) (list_all is_single (bodies_under (blank c n ps b) b ++ bodies_in c is)) g)) both.0)
      (items-distinct is c (not-twice-tail (definition_item n ps b) is h) both.1)

  body-distinct : (b : SourceBody) (c : Component) → has_twice (names (body_entries b)) ≡ false → list_all is_single (bodies_under c b) ≡ true → AreDistinct (map path_of (bodies_under c b))
  body-distinct (group_body is) c h g = items-distinct is c h g
  body-distinct (automaton_body a) c h g = tt

-- no two bodies have one path
pub paths-distinct : (t : Source) → list_all is_single (bodies t) ≡ true → AreDistinct (map path_of (bodies t))
paths-distinct t h = (
  λ m.
      let e = member-map path_of [] (bodies_in (whole t) t) m in
      let g = goes-on t (whole t) e.0 e.1 in
      not-root [] g.0.text g.2.0 (e.2 ∙ g.2.1),
  items-distinct t (whole t) (not-true _ (and-left (is_single (whole t)) (list_all is_single (bodies_in (whole t) t)) h)) (and-right (is_single (whole t)) (list_all is_single (bodies_in (whole t) t)) h),
)
