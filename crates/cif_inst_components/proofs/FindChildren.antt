-- Components stand after those in which they stand, and are found by their places.
use Rattle.std.proofs.Common.{◌≡◌, ℕ, zero, suc, ◌<◌, ◌≤◌, true, false, cond, inl, inr, List, [], ◌∷◌, length, refl, sym, ◌∙◌, ap, subst, arith, nat_eq, Option, Some, None}
use Rattle.std.specs.Prelude.{slice_get, filter_map, option_map, ◌&&◌, nat_le}
use Rattle.std.specs.List.{cons_option}
use Rattle.cif_ast.specs.declared.names.Ident.{Ident}
use Rattle.cif_system.specs.Words.{Member, Before, AreDistinct}
use Rattle.cif_system.proofs.Lists.{some-same, none-some, false-true, slice_get-below}
use Rattle.cif_system.proofs.Picks.{at-member, and-left, and-right}
use Rattle.cif_source.specs.Source.{InstanceTree, SourceBody, Source}
use Rattle.cif_source.specs.Components.{Component, whole, part, blank, copy, stands_in, scope_of, Entry, declared, literal, location, inner, definition, instance, parameter}
use Rattle.cif_source.specs.Lookup.{Reached, reached, missing, blocked, opened_at, opened, definition_found}
use Rattle.cif_source.specs.Objects.{components_below, components_of, children, most_objects}
use Rattle.cif_source.proofs.ComponentLaws.{components-follow, components-closed, children-parent}
use Rattle.cif_source.proofs.ReachLaws.{children-cases, below-parent}
use Rattle.cif_source.proofs.Elements.{member-at}
use Rattle.cif_scope.specs.declared.scopes.Scopes.{Scopes}
use Rattle.cif_scope.specs.Tables.{Beside}
use Rattle.cif_scope.specs.Scopes.{AreScopesOf, IsEntry}
use Rattle.cif_scope.proofs.Places.{beside-at, beside-back}
use Rattle.cif_inst_components.specs.declared.components.Component.{Component as Row}
use Rattle.cif_inst_components.specs.declared.components.Place.{Place}
use Rattle.cif_inst_components.specs.Children.{place_in, same_place}
use Rattle.cif_inst_components.specs.Finding.{child_at, child_of, numbered, and_then}
use Rattle.cif_inst_components.specs.Listing.{place}
use Rattle.cif_inst_components.specs.Numbers.{IsNumber, StandsAt, IsComponent, stands_of}
use Rattle.cif_inst_components.proofs.FindSingle.{texts, scope-distinct, number-single}
use Rattle.cif_inst_components.proofs.FindEntries.{is_standing, slot-single, entry-same, entry-stands}

-- ---- lists

before-at : {A : Type 0} (x y : A) (xs : List A) → Before x y xs → (j : ℕ) × (k : ℕ) × (j < k) × (slice_get xs j ≡ Some x) × (slice_get xs k ≡ Some y)
before-at x y [] b = absurd b
before-at x y (z ∷ xs) b =
    elim b [
      | inl w ↦ let rest = member-at y xs w.1 in let less : 0 < suc rest.0 = omega arith in (0, suc rest.0, less, ap Some (sym w.0), rest.1)
      | inr w ↦ let rest = before-at x y xs w in let less : suc rest.0 < suc rest.1 = omega arith in (suc rest.0, suc rest.1, less, rest.3, rest.4)
    ]

-- ---- what a component stands in, and its entry there

abbrev pub standing_of : Component → Option (Component × Entry)
standing_of (whole is) = None
standing_of (part p n b) = Some (p, inner n b)
standing_of (blank p n ps b) = None
standing_of (copy o n ps b g i) = Some (g, instance i)

pub standing-back : (t : Source) (d : Component) (q : Place) → StandsAt t d (Some q) → (g : Component) × (e : Entry) × (standing_of d ≡ Some (g, e)) × IsNumber t q.component g × IsEntry g e q.slot
standing-back t (whole is) q h = absurd (none-some q (sym h))
standing-back t (part p n b) q h =
    let same : h.0 ≡ q = sym (some-same q h.0 h.1) in
    (p, inner n b, refl, subst (λ (r : Place). IsNumber t r.component p) same h.2, subst (λ (r : Place). IsEntry p (inner n b) r.slot) same h.3)
standing-back t (blank p n ps b) q h = absurd h
standing-back t (copy o n ps b g i) q h =
    let same : h.0 ≡ q = sym (some-same q h.0 h.1) in
    (g, instance i, refl, subst (λ (r : Place). IsNumber t r.component g) same h.2, subst (λ (r : Place). IsEntry g (instance i) r.slot) same h.3)

stands-whole : (t : Source) (d : Component) → StandsAt t d None → stands_in d ≡ None
stands-whole t (whole is) h = refl
stands-whole t (part p n b) h = absurd (none-some h.0 h.1)
stands-whole t (blank p n ps b) h = absurd h
stands-whole t (copy o n ps b g i) h = absurd (none-some h.0 h.1)

standing-parent : (d g : Component) (e : Entry) → standing_of d ≡ Some (g, e) → stands_in d ≡ Some g
standing-parent (whole is) g e h = absurd (none-some (g, e) h)
standing-parent (part p n b) g e h = ap (λ (x : Component × Entry). Some x.0) (some-same (p, inner n b) (g, e) h)
standing-parent (blank p n ps b) g e h = absurd (none-some (g, e) h)
standing-parent (copy o n ps b c i) g e h = ap (λ (x : Component × Entry). Some x.0) (some-same (c, instance i) (g, e) h)

standing-sort : (d g : Component) (e : Entry) → standing_of d ≡ Some (g, e) → is_standing e ≡ true
standing-sort (whole is) g e h = absurd (none-some (g, e) h)
standing-sort (part p n b) g e h = ap (λ (x : Component × Entry). is_standing x.1) (sym (some-same (p, inner n b) (g, e) h))
standing-sort (blank p n ps b) g e h = absurd (none-some (g, e) h)
standing-sort (copy o n ps b c i) g e h = ap (λ (x : Component × Entry). is_standing x.1) (sym (some-same (c, instance i) (g, e) h))

opened-at-standing : (c : Component) (i : InstanceTree) (r : Reached) (d : Component) → opened_at c i r ≡ Some d → standing_of d ≡ Some (c, instance i)
opened-at-standing c i missing d h = absurd (none-some d h)
opened-at-standing c i blocked d h = absurd (none-some d h)
opened-at-standing c i (reached (o, declared x)) d h = absurd (none-some d h)
opened-at-standing c i (reached (o, literal k ls)) d h = absurd (none-some d h)
opened-at-standing c i (reached (o, location k)) d h = absurd (none-some d h)
opened-at-standing c i (reached (o, inner n b)) d h = absurd (none-some d h)
opened-at-standing c i (reached (o, instance j)) d h = absurd (none-some d h)
opened-at-standing c i (reached (o, parameter k p)) d h = absurd (none-some d h)
opened-at-standing c i (reached (o, definition n ps b)) d h = ap standing_of (sym (some-same (copy o n ps b c i) d h))

pub opened-standing : (c : Component) (i : InstanceTree) (d : Component) → opened c i ≡ Some d → standing_of d ≡ Some (c, instance i)
opened-standing c i d h = opened-at-standing c i (definition_found c i) d h

inner-standing : (d c : Component) (n : Ident) (b : SourceBody) → standing_of d ≡ Some (c, inner n b) → d ≡ part c n b
inner-standing (whole is) c n b h = absurd (none-some (c, inner n b) h)
inner-standing (part p m e) c n b h =
    let outer : p ≡ c = ap (λ (x : Component × Entry). x.0) (some-same (p, inner m e) (c, inner n b) h) in
    let own : inner m e ≡ inner n b = ap (λ (x : Component × Entry). x.1) (some-same (p, inner m e) (c, inner n b) h) in
    cc
inner-standing (blank p m ps e) c n b h = absurd (none-some (c, inner n b) h)
inner-standing (copy o m ps e g i) c n b h = let same : instance i ≡ inner n b = ap (λ (x : Component × Entry). x.1) (some-same (g, instance i) (c, inner n b) h) in cc

child-opened : (p d c : Component) (i : InstanceTree) → Member d (children p) → standing_of d ≡ Some (c, instance i) → opened c i ≡ Some d
child-opened p d c i m h =
    let same : p ≡ c = some-same p c (sym (children-parent p d m) ∙ standing-parent d c (instance i) h) in
    elim (children-cases p d m) [
      | inl v ↦ let other : inner v.0 v.1 ≡ instance i = ap (λ (x : Component × Entry). x.1) (some-same (p, inner v.0 v.1) (c, instance i) (ap standing_of (sym v.2) ∙ h)) in cc
      | inr v ↦
          let own : instance v.0 ≡ instance i = ap (λ (x : Component × Entry). x.1) (some-same (p, instance v.0) (c, instance i) (sym (opened-standing p v.0 d v.1) ∙ h)) in
          let tree : v.0 ≡ i = cc in
          ap (λ x. opened x i) (sym same) ∙ ap (opened p) (sym tree) ∙ v.1
    ]

pub listed-opened : (t : Source) (d c : Component) (i : InstanceTree) → Member d (components_of t) → standing_of d ≡ Some (c, instance i) → opened c i ≡ Some d
listed-opened t d c i m h =
    elim (below-parent most_objects (whole t) d m) [
      | inl w ↦ absurd (none-some (c, instance i) (ap standing_of (sym w) ∙ h))
      | inr w ↦ child-opened w.0 d c i w.2 h
    ]

-- ---- places in a list of rows that all stand somewhere

nat-same : (m n : ℕ) → nat_eq m n ≡ true → m ≡ n
nat-same m n h = grind (arith, h)

place-same : (p q : Place) → same_place p q ≡ true → p ≡ q
place-same p q h =
    let a : p.component ≡ q.component = nat-same p.component q.component (and-left (nat_eq p.component q.component) (nat_eq p.slot q.slot) h) in
    let b : p.slot ≡ q.slot = nat-same p.slot q.slot (and-right (nat_eq p.component q.component) (nat_eq p.slot q.slot) h) in
    ap (λ k. place k p.slot) a ∙ ap (place q.component) b

nat-own : (n : ℕ) → nat_eq n n ≡ true
nat-own n = grind arith

place-own : (p : Place) → same_place p p ≡ true
place-own p = ap (λ b. b && nat_eq p.slot p.slot) (nat-own p.component) ∙ nat-own p.slot

abbrev AllStand : List Row → Type 0
AllStand rows = (k : ℕ) (r : Row) → slice_get rows k ≡ Some r → (q : Place) × (stands_of r ≡ Some q)

map-back : (o : Option ℕ) (i : ℕ) → option_map suc o ≡ Some i → (j : ℕ) × (o ≡ Some j) × (i ≡ suc j)
map-back None i h = absurd (none-some i h)
map-back (Some j) i h = (j, refl, sym (some-same (suc j) i h))

-- what is found at a place stands there
placed-first : (r : Row) (rows : List Row) (q p : Place) (i : ℕ) → ((j : ℕ) → place_in (filter_map stands_of rows) q ≡ Some j → (x : Row) × (slice_get rows j ≡ Some x) × (stands_of x ≡ Some q))
    → stands_of r ≡ Some p → place_in (p ∷ filter_map stands_of rows) q ≡ Some i → (x : Row) × (slice_get (r ∷ rows) i ≡ Some x) × (stands_of x ≡ Some q)
placed-first r rows q p i later e g =
    (elim (same_place q p) as (λ b. same_place q p ≡ b → cond b (Some 0) (option_map suc (place_in (filter_map stands_of rows) q)) ≡ Some i → (x : Row) × (slice_get (r ∷ rows) i ≡ Some x) × (stands_of x ≡ Some q)) [
      | true ↦ λ b f. (r, ap (slice_get (r ∷ rows)) (sym (some-same 0 i f)), e ∙ ap Some (sym (place-same q p b)))
      | false ↦ λ b f.
          let j = map-back (place_in (filter_map stands_of rows) q) i f in
          let rest = later j.0 j.1 in
          (rest.0, ap (slice_get (r ∷ rows)) j.2 ∙ rest.1, rest.2)
    ]) refl g

placed : (rows : List Row) → AllStand rows → (q : Place) (i : ℕ) → place_in (filter_map stands_of rows) q ≡ Some i → (r : Row) × (slice_get rows i ≡ Some r) × (stands_of r ≡ Some q)
placed [] all q i h = absurd (none-some i h)
placed (r ∷ rows) all q i h =
    let first = all 0 r refl in
    placed-first r rows q first.0 i (λ j g. placed rows (λ k x m. all (suc k) x m) q j g) first.1
    (subst (λ (o : Option Place). place_in (cons_option o (filter_map stands_of rows)) q ≡ Some i) first.1 h)

-- what stands at a place is found there
placing-first : (x : Row) (rows : List Row) (q p : Place) (r : Row) → ((k : ℕ) → slice_get rows k ≡ Some r → (j : ℕ) × (place_in (filter_map stands_of rows) q ≡ Some j))
    → stands_of x ≡ Some p → stands_of r ≡ Some q → (i : ℕ) → slice_get (x ∷ rows) i ≡ Some r → (j : ℕ) × (place_in (p ∷ filter_map stands_of rows) q ≡ Some j)
placing-first x rows q p r later f e zero g =
    let same : p ≡ q = some-same p q (sym f ∙ ap stands_of (some-same x r g) ∙ e) in
    (0, ap (λ b. cond b (Some 0) (option_map suc (place_in (filter_map stands_of rows) q))) (ap (same_place q) same ∙ place-own q))
placing-first x rows q p r later f e (suc k) g =
    let rest = later k g in
    elim (same_place q p) as (λ b. (j : ℕ) × (cond b (Some 0) (option_map suc (place_in (filter_map stands_of rows) q)) ≡ Some j)) [
      | true ↦ (0, refl)
      | false ↦ (suc rest.0, ap (option_map suc) rest.1)
    ]

placing : (rows : List Row) → AllStand rows → (q : Place) (i : ℕ) (r : Row) → slice_get rows i ≡ Some r → stands_of r ≡ Some q → (j : ℕ) × (place_in (filter_map stands_of rows) q ≡ Some j)
placing [] all q i r h e = absurd (none-some r h)
placing (x ∷ rows) all q i r h e =
    let first = all 0 x refl in
    let found = placing-first x rows q first.0 r (λ k g. placing rows (λ l y m. all (suc l) y m) q k r g e) first.1 e i h in
    (found.0, ap (λ (o : Option Place). place_in (cons_option o (filter_map stands_of rows)) q) first.1 ∙ found.1)

stands-member : (rows : List Row) → AllStand rows → (q : Place) → Member q (filter_map stands_of rows) → (k : ℕ) × (r : Row) × (slice_get rows k ≡ Some r) × (stands_of r ≡ Some q)
stands-member [] all q m = absurd m
stands-member (r ∷ rows) all q m =
    let first = all 0 r refl in
    elim (subst (λ (o : Option Place). Member q (cons_option o (filter_map stands_of rows))) first.1 m) [
      | inl w ↦ (0, r, refl, first.1 ∙ ap Some (sym w))
      | inr w ↦ let rest = stands-member rows (λ k x h. all (suc k) x h) q w in (suc rest.0, rest.1, rest.2, rest.3)
    ]

stands-distinct : (rows : List Row) → AllStand rows → ((j k : ℕ) (x y : Row) (q : Place) → slice_get rows j ≡ Some x → slice_get rows k ≡ Some y → stands_of x ≡ Some q → stands_of y ≡ Some q → j ≡ k)
    → AreDistinct (filter_map stands_of rows)
stands-distinct [] all one = tt
stands-distinct (r ∷ rows) all one =
    let first = all 0 r refl in
    subst (λ (o : Option Place). AreDistinct (cons_option o (filter_map stands_of rows))) (sym first.1) (
      λ m. let other = stands-member rows (λ k x h. all (suc k) x h) first.0 m in let no : 0 ≡ suc other.0 = one 0 (suc other.0) r other.1 first.0 refl other.2 first.1 other.3 in absurd (omega arith),
      stands-distinct rows (λ k x h. all (suc k) x h) (λ j k x y q h g a b. let same : suc j ≡ suc k = one (suc j) (suc k) x y q h g a b in omega arith),
    )

-- ---- the rows of a source

-- the first row stands nowhere, and all others somewhere
abbrev AreRows : List Row → Type 0
AreRows [] = ⊥
AreRows (r ∷ rows) = (stands_of r ≡ None) × AllStand rows

rows-placed : (all : List Row) → AreRows all → (q : Place) (j : ℕ) → child_at (filter_map stands_of all) q ≡ Some j → (r : Row) × (slice_get all j ≡ Some r) × (stands_of r ≡ Some q)
rows-placed [] h q j e = absurd h
rows-placed (r ∷ rows) h q j e =
    let i = map-back (place_in (filter_map stands_of (r ∷ rows)) q) j e in
    let found = placed rows h.1 q i.0 (ap (λ (o : Option Place). place_in (cons_option o (filter_map stands_of rows)) q) (sym h.0) ∙ i.1) in
    (found.0, ap (slice_get (r ∷ rows)) i.2 ∙ found.1, found.2)

rows-placing : (all : List Row) → AreRows all → (q : Place) (i : ℕ) (r : Row) → slice_get all i ≡ Some r → stands_of r ≡ Some q → (j : ℕ) × (child_at (filter_map stands_of all) q ≡ Some j)
rows-placing [] h q i r g e = absurd h
rows-placing (x ∷ rows) h q zero r g e = absurd (none-some q (sym h.0 ∙ ap stands_of (some-same x r g) ∙ e))
rows-placing (x ∷ rows) h q (suc i) r g e =
    let found = placing rows h.1 q i r g e in
    (suc found.0, ap (λ (o : Option Place). option_map suc (place_in (cons_option o (filter_map stands_of rows)) q)) h.0 ∙ ap (option_map suc) found.1)

whole-first : (n : ℕ) (c : Component) → slice_get (components_below n c) 0 ≡ Some c
whole-first zero c = refl
whole-first (suc n) c = refl

at-most : (k m n : ℕ) → k < m → m ≤ n → nat_le k n ≡ true
at-most k m n h g = grind arith

module _ (t : Source) (s : Scopes) (are : AreScopesOf t s) (few : length (components_of t) ≤ most_objects) (all : List Row) (rows : Beside (IsComponent t) (components_of t) all) where
  pub row-for : (k : ℕ) (c : Component) → IsNumber t k c → (r : Row) × (slice_get all k ≡ Some r) × IsComponent t c r
  row-for k c h = beside-at (IsComponent t) (components_of t) all k c rows h

  pub row-back : (k : ℕ) (r : Row) → slice_get all k ≡ Some r → (c : Component) × IsNumber t k c × IsComponent t c r
  row-back k r h = beside-back (IsComponent t) (components_of t) all k r rows h

  scope-single : (c : Component) → Member c (components_of t) → AreDistinct (texts (scope_of c))
  scope-single c m =
      let k = member-at c (components_of t) m in
      let r = row-for k.0 c k.1 in
      scope-distinct t s.table c r.0.body are.numbers.table are.numbers.indexed r.2.body

  pub single : (j k : ℕ) (c : Component) → IsNumber t j c → IsNumber t k c → j ≡ k
  single j k c h g = number-single t scope-single j k c h g

  pub listed : (k : ℕ) (c : Component) → IsNumber t k c → Member c (components_of t)
  listed k c h = at-member (components_of t) k c h

  pub whole-number : IsNumber t 0 (whole t)
  whole-number = whole-first most_objects (whole t)

  -- a component stands after that in which it stands
  pub stands-before : (j k : ℕ) (g d : Component) → IsNumber t j g → IsNumber t k d → stands_in d ≡ Some g → j < k
  stands-before j k g d h f e =
      elim (components-follow t d (listed k d f)) [
        | inl w ↦ absurd (none-some g (ap stands_in (sym w) ∙ e))
        | inr w ↦
            let at = before-at w.0 d (components_of t) w.2 in
            let same : w.0 ≡ g = some-same w.0 g (sym w.1 ∙ e) in
            let low : j ≡ at.0 = single j at.0 g h (at.3 ∙ ap Some same) in
            let high : k ≡ at.1 = single k at.1 d f at.4 in
            let less : at.0 < at.1 = at.2 in
            omega arith
      ]

  later-stands : (k : ℕ) (r : Row) → slice_get all (suc k) ≡ Some r → (o : Option Place) → stands_of r ≡ o → (q : Place) × (stands_of r ≡ Some q)
  later-stands k r h (Some q) e = (q, e)
  later-stands k r h None e =
      let c = row-back (suc k) r h in
      let free : stands_in c.0 ≡ None = stands-whole t c.0 (subst (StandsAt t c.0) e c.2.stands) in
      elim (components-follow t c.0 (listed (suc k) c.0 c.1)) [
        | inl w ↦ let no : suc k ≡ 0 = single (suc k) 0 c.0 c.1 (whole-number ∙ ap Some (sym w)) in absurd (omega arith)
        | inr w ↦ absurd (none-some w.0 (sym free ∙ w.1))
      ]

  are-rows : AreRows all
  are-rows = go all (row-for 0 (whole t) whole-number) (λ k r h. later-stands k r h (stands_of r) refl)
    where
      go : (rs : List Row) → ((r : Row) × (slice_get rs 0 ≡ Some r) × IsComponent t (whole t) r) → ((k : ℕ) (r : Row) → slice_get rs (suc k) ≡ Some r → (q : Place) × (stands_of r ≡ Some q)) → AreRows rs
      go [] first later = none-some first.0 first.1
      go (r ∷ rs) first later = (ap stands_of (some-same r first.0 first.1) ∙ first.2.stands, later)

  number-few : (k : ℕ) (c : Component) → IsNumber t k c → numbered k ≡ Some k
  number-few k c h =
      let less : k < length (components_of t) = slice_get-below (components_of t) k c h in
      ap (λ b. cond b (Some k) None) (at-most k (length (components_of t)) most_objects less few)

  -- what is found at a place stands there
  child-back : (k slot j : ℕ) (c : Component) (e : Entry) → IsNumber t k c → IsEntry c e slot → child_at (filter_map stands_of all) (place k slot) ≡ Some j → (d : Component) × IsNumber t j d × (standing_of d ≡ Some (c, e))
  child-back k slot j c e own entry h =
      let r = rows-placed all are-rows (place k slot) j h in
      let d = row-back j r.0 r.1 in
      let back = standing-back t d.0 (place k slot) (subst (StandsAt t d.0) r.2 d.2.stands) in
      let giver : back.0 ≡ c = some-same back.0 c (sym back.3 ∙ own) in
      let same : back.1 ≡ e = entry-same c back.1 e slot (subst (λ g. IsEntry g back.1 slot) giver back.4) entry in
      let first : standing_of d.0 ≡ Some (c, back.1) = back.2 ∙ ap (λ g. Some (g, back.1)) giver in
      (d.0, d.1, first ∙ ap (λ f. Some (c, f)) same)

  -- what stands under an entry is found there
  child-found : (k slot : ℕ) (c d : Component) (e : Entry) → IsNumber t k c → IsEntry c e slot → Member d (components_of t) → standing_of d ≡ Some (c, e)
      → (j : ℕ) × (child_at (filter_map stands_of all) (place k slot) ≡ Some j)
  child-found k slot c d e own entry m h =
      let i = member-at d (components_of t) m in
      let r = row-for i.0 d i.1 in
      at-row r.0 r.1 (stands_of r.0) refl r.2.stands
    where
      at-place : (q : Place) (i : ℕ) (r : Row) → slice_get all i ≡ Some r → stands_of r ≡ Some q → (q ≡ place k slot) → (j : ℕ) × (child_at (filter_map stands_of all) (place k slot) ≡ Some j)
      at-place q i r g f same = rows-placing all are-rows (place k slot) i r g (f ∙ ap Some same)

      the-place : (q : Place) → StandsAt t d (Some q) → q ≡ place k slot
      the-place q st =
          let back = standing-back t d q st in
          let pair : ◌≡◌ {A = Component × Entry} (back.0, back.1) (c, e) = some-same (back.0, back.1) (c, e) (sym back.2 ∙ h) in
          let giver : back.0 ≡ c = ap (λ (x : Component × Entry). x.0) pair in
          let same : back.1 ≡ e = ap (λ (x : Component × Entry). x.1) pair in
          let component : q.component ≡ k = single q.component k c (back.3 ∙ ap Some giver) own in
          let at : IsEntry c e q.slot = subst (λ f. IsEntry c f q.slot) same (subst (λ g. IsEntry g back.1 q.slot) giver back.4) in
          let sort : is_standing e ≡ true = standing-sort d c e h in
          let slots : q.slot ≡ slot = slot-single c e q.slot slot (scope-single c (listed k c own)) sort at entry in
          ap (λ x. place x q.slot) component ∙ ap (place k) slots

      at-row : (r : Row) → slice_get all (member-at d (components_of t) m).0 ≡ Some r → (o : Option Place) → stands_of r ≡ o → StandsAt t d (stands_of r) → (j : ℕ) × (child_at (filter_map stands_of all) (place k slot) ≡ Some j)
      at-row r g (Some q) f st = at-place q (member-at d (components_of t) m).0 r g f (the-place q (subst (StandsAt t d) f st))
      at-row r g None f st = absurd (none-some c (sym (stands-whole t d (subst (StandsAt t d) f st)) ∙ standing-parent d c e h))

  -- the component that is written under a name
  pub child-inner : (k slot : ℕ) (c : Component) (n : Ident) (b : SourceBody) → IsNumber t k c → IsEntry c (inner n b) slot
      → (j : ℕ) × (child_of (filter_map stands_of all) (place k slot) ≡ Some j) × IsNumber t j (part c n b)
  child-inner k slot c n b own entry =
      let in-list : Member (part c n b) (components_of t) = components-closed t c (part c n b) few (listed k c own) (entry-stands c (inner n b) slot (scope-single c (listed k c own)) entry) in
      let j = child-found k slot c (part c n b) (inner n b) own entry in-list refl in
      let d = child-back k slot j.0 c (inner n b) own entry j.1 in
      let is : IsNumber t j.0 (part c n b) = d.1 ∙ ap Some (inner-standing d.0 c n b d.2) in
      (j.0, ap (λ o. and_then o numbered) j.1 ∙ number-few j.0 (part c n b) is, is)

  -- the instance that stands under a name
  pub child-instance : (k slot : ℕ) (c d : Component) (i : InstanceTree) → IsNumber t k c → IsEntry c (instance i) slot → opened c i ≡ Some d
      → (j : ℕ) × (child_of (filter_map stands_of all) (place k slot) ≡ Some j) × IsNumber t j d
  child-instance k slot c d i own entry h =
      let in-list : Member d (components_of t) = components-closed t c d few (listed k c own) (entry-stands c (instance i) slot (scope-single c (listed k c own)) entry d h) in
      let j = child-found k slot c d (instance i) own entry in-list (opened-standing c i d h) in
      let e = child-back k slot j.0 c (instance i) own entry j.1 in
      let same : e.0 ≡ d = some-same e.0 d (sym (listed-opened t e.0 c i (listed j.0 e.0 e.1) e.2) ∙ h) in
      let is : IsNumber t j.0 d = e.1 ∙ ap Some same in
      (j.0, ap (λ o. and_then o numbered) j.1 ∙ number-few j.0 d is, is)

  -- an instance that doesn't open stands nowhere
  pub child-none : (k slot : ℕ) (c : Component) (i : InstanceTree) → IsNumber t k c → IsEntry c (instance i) slot → opened c i ≡ None → child_of (filter_map stands_of all) (place k slot) ≡ None
  child-none k slot c i own entry h = go (child_at (filter_map stands_of all) (place k slot)) refl
    where
      go : (o : Option ℕ) → child_at (filter_map stands_of all) (place k slot) ≡ o → child_of (filter_map stands_of all) (place k slot) ≡ None
      go None e = ap (λ o. and_then o numbered) e
      go (Some j) e =
          let d = child-back k slot j c (instance i) own entry e in
          absurd (none-some d.0 (sym h ∙ listed-opened t d.0 c i (listed j d.0 d.1) d.2))

  -- ---- no two components stand at one place

  same-standing : (d e c : Component) (f : Entry) → Member d (components_of t) → Member e (components_of t) → standing_of d ≡ Some (c, f) → standing_of e ≡ Some (c, f) → d ≡ e
  same-standing d e c (inner n b) m k h g = inner-standing d c n b h ∙ sym (inner-standing e c n b g)
  same-standing d e c (instance i) m k h g = some-same d e (sym (listed-opened t d c i m h) ∙ listed-opened t e c i k g)
  same-standing d e c (declared x) m k h g = absurd (false-true refl (standing-sort d c (declared x) h))
  same-standing d e c (literal x ls) m k h g = absurd (false-true refl (standing-sort d c (literal x ls) h))
  same-standing d e c (location x) m k h g = absurd (false-true refl (standing-sort d c (location x) h))
  same-standing d e c (definition n ps b) m k h g = absurd (false-true refl (standing-sort d c (definition n ps b) h))
  same-standing d e c (parameter x p) m k h g = absurd (false-true refl (standing-sort d c (parameter x p) h))

  one-place : (j k : ℕ) (x y : Row) (q : Place) → slice_get all j ≡ Some x → slice_get all k ≡ Some y → stands_of x ≡ Some q → stands_of y ≡ Some q → j ≡ k
  one-place j k x y q h g a b =
      let d = row-back j x h in
      let e = row-back k y g in
      let first = standing-back t d.0 q (subst (StandsAt t d.0) a d.2.stands) in
      let second = standing-back t e.0 q (subst (StandsAt t e.0) b e.2.stands) in
      let giver : second.0 ≡ first.0 = some-same second.0 first.0 (sym second.3 ∙ first.3) in
      let entry : second.1 ≡ first.1 = entry-same first.0 second.1 first.1 q.slot (subst (λ c. IsEntry c second.1 q.slot) giver second.4) first.4 in
      let other : standing_of e.0 ≡ Some (first.0, second.1) = second.2 ∙ ap (λ c. Some (c, second.1)) giver in
      let same : d.0 ≡ e.0 = same-standing d.0 e.0 first.0 first.1 (listed j d.0 d.1) (listed k e.0 e.1) first.2 (other ∙ ap (λ f. Some (first.0, f)) entry) in
      single j k e.0 (d.1 ∙ ap Some same) e.1

  pub places-distinct : AreDistinct (filter_map stands_of all)
  places-distinct = go all are-rows one-place
    where
      go : (rs : List Row) → AreRows rs → ((j k : ℕ) (x y : Row) (q : Place) → slice_get rs j ≡ Some x → slice_get rs k ≡ Some y → stands_of x ≡ Some q → stands_of y ≡ Some q → j ≡ k) → AreDistinct (filter_map stands_of rs)
      go [] h one = absurd h
      go (r ∷ rs) h one =
          subst (λ (o : Option Place). AreDistinct (cons_option o (filter_map stands_of rs))) (sym h.0)
          (stands-distinct rs h.1 (λ j k x y q f g a b. let same : suc j ≡ suc k = one (suc j) (suc k) x y q f g a b in omega arith))
