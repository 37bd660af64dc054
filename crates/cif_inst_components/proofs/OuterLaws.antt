-- Outer components are found one after the other: the definition of an instance is found through components before it alone.
use Rattle.std.proofs.Common.{◌≡◌, ℕ, zero, suc, ◌+◌, ◌<◌, ◌≤◌, inl, inr, List, [], ◌∷◌, ◌++◌, length, length-append, map, refl, sym, ◌∙◌, ap, subst, arith, Option, Some, None, false}
use Rattle.std.specs.Prelude.{slice_get, flat_map, filter_map}
use Rattle.cif_ast.specs.declared.names.Ident.{Ident}
use Rattle.cif_ast.specs.declared.names.Name.{Name}
use Rattle.cif_system.proofs.Lists.{some-same, none-some, slice_get-below}
use Rattle.cif_source.specs.Source.{ParamTree, InstanceTree, SourceBody, SourceItem, decl_item, component_item, definition_item, instance_item, Source}
use Rattle.cif_source.specs.Components.{Component, whole, part, blank, copy, as_written, body_of, Entry, inner, definition, instance}
use Rattle.cif_source.specs.Lookup.{reached, definition_found}
use Rattle.cif_source.specs.Objects.{components_of, bodies, items_in, most_objects}
use Rattle.cif_source.specs.Scoping.{as_instance, instances_of}
use Rattle.cif_source.proofs.ReachLaws.{opened-found}
use Rattle.cif_scope.specs.declared.scope.What.{What}
use Rattle.cif_scope.specs.declared.scopes.Scopes.{Scopes}
use Rattle.cif_scope.specs.Looks as looks
use Rattle.cif_scope.specs.Tables.{IsBody, Beside, IsWhat}
use Rattle.cif_scope.specs.Scopes.{AreScopesOf, IsEntry}
use Rattle.cif_scope.specs.Written.{written_bodies}
use Rattle.cif_scope.proofs.Places.{beside-at, beside-length}
use Rattle.cif_scope.proofs.LookLaws.{get-map}
use Rattle.cif_scope.proofs.FindLaws.{what-of}
use Rattle.cif_scope.proofs.DefinitionLaws.{IsWritten, bodies-written}
use Rattle.cif_inst_components.specs.declared.components.Component.{Component as Row}
use Rattle.cif_inst_components.specs.declared.components.Place.{Place}
use Rattle.cif_inst_components.specs.Finding.{and_then, look}
use Rattle.cif_inst_components.specs.Numbers.{IsNumber, StandsAt, IsComponent, IsOuter, stands_of}
use Rattle.cif_inst_components.specs.Outers.{item_names, names_inside, definition_names, definition_name, component_of, outer_for, outer_at_place, outer_of, outers_from, all_outers}
use Rattle.cif_inst_components.proofs.FindChildren.{row-for, single, listed, stands-before, listed-opened}
use Rattle.cif_inst_components.proofs.FindLaws.{past-end, below-or, Early, early-more, Leads, finder_of, written-is}

-- ---- lists

get-left : {A : Type 0} (xs ys : List A) (k : ℕ) (x : A) → slice_get xs k ≡ Some x → slice_get (xs ++ ys) k ≡ Some x
get-left [] ys k x h = absurd (none-some x h)
get-left (z ∷ xs) ys zero x h = h
get-left (z ∷ xs) ys (suc k) x h = get-left xs ys k x h

get-last : {A : Type 0} (xs : List A) (x : A) → slice_get (xs ++ x ∷ []) (length xs) ≡ Some x
get-last [] x = refl
get-last (z ∷ xs) x = get-last xs x

beside-points : {A B : Type 0} (R : A → B → Type 0) (xs : List A) (ys : List B) → length ys ≡ length xs → ((k : ℕ) (x : A) → slice_get xs k ≡ Some x → (y : B) × (slice_get ys k ≡ Some y) × R x y) → Beside R xs ys
beside-points R [] [] l h = tt
beside-points R [] (y ∷ ys) l h = absurd (omega (arith, l))
beside-points R (x ∷ xs) [] l h = absurd (omega (arith, l))
beside-points R (x ∷ xs) (y ∷ ys) l h =
    let first = h 0 x refl in
    let rest : length ys ≡ length xs = omega (arith, l) in
    (subst (λ z. R x z) (sym (some-same y first.0 first.1)) first.2, beside-points R xs ys rest (λ k z e. h (suc k) z e))

-- ---- the names of definitions

names-at : (is : List SourceItem) (r : ℕ) (i : InstanceTree) → slice_get (filter_map as_instance is) r ≡ Some i → slice_get (flat_map item_names is) r ≡ Some i.def
names-at [] r i h = absurd (none-some i h)
names-at (decl_item d ∷ is) r i h = names-at is r i h
names-at (component_item n b ∷ is) r i h = names-at is r i h
names-at (definition_item n ps b ∷ is) r i h = names-at is r i h
names-at (instance_item j ∷ is) zero i h = ap (λ (x : InstanceTree). Some x.def) (some-same j i h)
names-at (instance_item j ∷ is) (suc r) i h = names-at is r i h

definition-name : (t : Source) (k r : ℕ) (c : Component) (i : InstanceTree) → IsBody t k c → slice_get (instances_of c) r ≡ Some i → definition_name (map definition_names (written_bodies t)) k r ≡ Some i.def
definition-name t k r c i own h =
    let w = beside-at IsWritten (bodies t) (written_bodies t) k c (bodies-written t) own in
    ap (λ o. and_then o (λ (of_body : List Name). slice_get of_body r)) (get-map definition_names (written_bodies t) k w.0 w.1)
    ∙ subst (λ b. slice_get (names_inside b) r ≡ Some i.def) w.2.1 (names-at (items_in (body_of c)) r i h)

module _ (t : Source) (s : Scopes) (are : AreScopesOf t s) (few : length (components_of t) ≤ most_objects) (all : List Row) (rows : Beside (IsComponent t) (components_of t) all) where
  abbrev names : List (List Name)
  names = map definition_names (written_bodies t)

  abbrev children : List Place
  children = filter_map stands_of all

  -- the outer components of the first m components
  record Known (done : List (Option ℕ)) (m : ℕ) : Type 0 where
    size : length done ≡ m
    right : (k : ℕ) (c : Component) → k < m → IsNumber t k c → (o : Option ℕ) × (slice_get done k ≡ Some o) × IsOuter t c o
    early : (k : ℕ) (c : Component) → k < m → IsNumber t k c → Early t m c

  module _ (done : List (Option ℕ)) (m : ℕ) (before : Known done m) where
    -- what is said of a place of a component
    place-outer : (q : Place) (g : Component) (e : Entry) → IsNumber t q.component g → IsEntry g e q.slot
        → (b : ℕ) × (w : What) × IsBody t b (as_written g) × IsWhat t (as_written g) e w × (outer_at_place (finder_of t s are few all rows done) names q ≡ outer_for (finder_of t s are few all rows done) names b q (Some w))
    place-outer q g e num entry =
        let r = row-for t s are few all rows q.component g num in
        let w = what-of t s.table are.numbers.table are.numbers.indexed r.0.body q.slot g e r.2.body entry in (
          r.0.body,
          w.0,
          r.2.body,
          w.2,
          ap (λ o. and_then o (λ (c : Row). outer_for (finder_of t s are few all rows done) names c.body q (looks.what_at s.table c.body q.slot))) r.1
              ∙ ap (outer_for (finder_of t s are few all rows done) names r.0.body q) w.1,
        )

    -- the definition of an instance is found from its giver
    giver-leads : (j : ℕ) (o g : Component) (n : Ident) (ps : List ParamTree) (b : SourceBody) (i : InstanceTree) → IsNumber t m (copy o n ps b g i) → j < m → IsNumber t j g
        → Leads t m (reached (o, definition n ps b)) (look (finder_of t s are few all rows done) false j i.def)
    giver-leads j o g n ps b i own less num =
        let found : definition_found g i ≡ reached (o, definition n ps b) =
        opened-found g i (definition_found g i) o g n ps b i (listed-opened t (copy o n ps b g i) g i (listed t s are few all rows m (copy o n ps b g i) own) refl) in
        subst (λ r. Leads t m r (look (finder_of t s are few all rows done) false j i.def)) found
        (written-is t s are few all rows done m before.right (λ k l. let e : length done ≡ m = before.size in past-end done k (omega arith)) g j i.def num (before.early j g less num))

    leads-outer : (o g : Component) (n : Ident) (ps : List ParamTree) (b : SourceBody) (i : InstanceTree) (l : Option Place) (q : Option ℕ) → Leads t m (reached (o, definition n ps b)) l → q ≡ and_then l (λ p. Some (component_of p))
        → IsOuter t (copy o n ps b g i) q × Early t m o
    leads-outer o g n ps b i (Some p) q h e = ((p.component, e, h.0), h.2)
    leads-outer o g n ps b i None q h e = absurd h

    here-is : (c : Component) (r : Row) → IsNumber t m c → IsComponent t c r → IsOuter t c (outer_of (finder_of t s are few all rows done) names r) × Early t (suc m) c
    here-is c r own is = go c own r.stands is.stands
      where
        go : (c : Component) → IsNumber t m c → (o : Option Place) → StandsAt t c o → IsOuter t c (and_then o (λ p. outer_at_place (finder_of t s are few all rows done) names p)) × Early t (suc m) c
        go (whole is) own o st = (ap (λ q. and_then q (λ p. outer_at_place (finder_of t s are few all rows done) names p)) st, tt)
        go (part p n b) own o st =
            let less : st.0.component < m = stands-before t s are few all rows st.0.component m p (part p n b) st.2 own refl in
            let at = place-outer st.0 p (inner n b) st.2 st.3 in
            let e = ap (λ q. and_then q (λ p. outer_at_place (finder_of t s are few all rows done) names p)) st.1 ∙ at.4 ∙ ap (λ w. outer_for (finder_of t s are few all rows done) names at.0 st.0 (Some w)) at.3.1 in
            ((st.0.component, e, st.2), early-more t m (suc m) p (omega arith) (before.early st.0.component p less st.2))
        go (blank p n ps b) own o st = absurd st
        go (copy p n ps b g i) own o st =
            let less : st.0.component < m = stands-before t s are few all rows st.0.component m g (copy p n ps b g i) st.2 own refl in
            let at = place-outer st.0 g (instance i) st.2 st.3 in
            let e = ap (λ q. and_then q (λ p. outer_at_place (finder_of t s are few all rows done) names p)) st.1 ∙ at.4
            ∙ ap (λ w. outer_for (finder_of t s are few all rows done) names at.0 st.0 (Some w)) at.3.1
            ∙ ap (λ w. and_then w (λ (nm : Name). and_then (look (finder_of t s are few all rows done) false st.0.component nm) (λ p. Some (component_of p)))) (definition-name t at.0 at.3.0 (as_written g) i at.2 at.3.2) in
            let out = leads-outer p g n ps b i (look (finder_of t s are few all rows done) false st.0.component i.def) (and_then o (λ q. outer_at_place (finder_of t s are few all rows done) names q)) (giver-leads st.0.component p g n ps b i own less st.2) e in
            (out.0, (λ k f. let same : k ≡ m = single t s are few all rows k m (copy p n ps b g i) f own in omega arith, early-more t m (suc m) p (omega arith) out.1))

    one-more : (r : Row) → slice_get all m ≡ Some r → Known (done ++ outer_of (finder_of t s are few all rows done) names r ∷ []) (suc m)
    one-more r h = record {
      size = omega (arith, length-append done (outer_of (finder_of t s are few all rows done) names r ∷ []), before.size);
      right = λ k c l own. elim (below-or k m) [
        | inl less ↦ let o = before.right k c less own in (o.0, get-left done (outer_of (finder_of t s are few all rows done) names r ∷ []) k o.0 o.1, o.2)
        | inr more ↦
            let same : m ≡ k = omega arith in
            let size : length done ≡ k = before.size ∙ same in (
              outer_of (finder_of t s are few all rows done) names r,
              subst (λ j. slice_get (done ++ outer_of (finder_of t s are few all rows done) names r ∷ []) j ≡ Some (outer_of (finder_of t s are few all rows done) names r)) size (get-last done (outer_of (finder_of t s are few all rows done) names r)),
              (last c (subst (λ j. IsNumber t j c) (sym same) own)).0,
            )
      ];
      early = λ k c l own. elim (below-or k m) [
        | inl less ↦ early-more t m (suc m) c (omega arith) (before.early k c less own)
        | inr more ↦ let same : m ≡ k = omega arith in (last c (subst (λ j. IsNumber t j c) (sym same) own)).1
      ];
    }
      where
        last : (c : Component) → IsNumber t m c → IsOuter t c (outer_of (finder_of t s are few all rows done) names r) × Early t (suc m) c
        last c own =
            let x = row-for t s are few all rows m c own in
            here-is c r own (subst (IsComponent t c) (some-same x.0 r (sym x.1 ∙ h)) x.2)

  all-known : (cs : List Row) (done : List (Option ℕ)) (m : ℕ) → Known done m → ((j : ℕ) (r : Row) → slice_get cs j ≡ Some r → slice_get all (m + j) ≡ Some r) → length all ≡ m + length cs
      → Known (outers_from s names all children done cs) (length all)
  all-known [] done m before sits size = let e : m ≡ length all = omega (arith, size) in subst (λ k. Known done k) e before
  all-known (c ∷ cs) done m before sits size =
      let first : m + 0 ≡ m = omega arith in
      all-known cs (done ++ outer_of (finder_of t s are few all rows done) names c ∷ []) (suc m)
      (one-more done m before c (subst (λ k. slice_get all k ≡ Some c) first (sits 0 c refl)))
      (λ j r h. let e : m + suc j ≡ suc m + j = omega arith in subst (λ k. slice_get all k ≡ Some r) e (sits (suc j) r h))
      (omega (arith, size))

  -- the outer components, one after the other
  pub outers-are : Beside (IsOuter t) (components_of t) (all_outers s names all children)
  outers-are =
      let size : length all ≡ length (components_of t) = beside-length (IsComponent t) (components_of t) all rows in
      let none : Known [] 0 = record { size = refl; right = λ k c l own. absurd (omega arith); early = λ k c l own. absurd (omega arith) } in
      let known : Known (all_outers s names all children) (length all) = all-known all [] 0 none (λ j r h. let e : j ≡ 0 + j = omega arith in subst (λ k. slice_get all k ≡ Some r) e h) (omega arith) in
      beside-points (IsOuter t) (components_of t) (all_outers s names all children) (known.size ∙ size)
      (λ k c h. let r = row-for t s are few all rows k c h in let less : k < length all = slice_get-below all k r.0 r.1 in known.right k c less h)

  -- what the code gives
  pub found-outers : (given : List (List Name)) (slice : List Row) (places : List Place) (found : List (Option ℕ)) → found ≡ all_outers s given slice places → given ≡ names → slice ≡ all → places ≡ children
      → Beside (IsOuter t) (components_of t) found
  found-outers given slice places found h n a p =
      subst (Beside (IsOuter t) (components_of t)) (sym (h ∙ ap (λ x. all_outers s x slice places) n ∙ ap (λ x. all_outers s names x places) a ∙ ap (all_outers s names all) p)) outers-are
