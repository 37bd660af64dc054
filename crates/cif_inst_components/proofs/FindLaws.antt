-- What a name finds from a component, by numbers.
use Rattle.std.proofs.Common.{◌≡◌, ℕ, zero, suc, ◌<◌, ◌≤◌, Bool, true, false, ◌⊎◌, inl, inr, List, [], ◌∷◌, length, refl, sym, ◌∙◌, ap, subst, arith, Option, Some, None}
use Rattle.std.specs.Prelude.{slice_get, filter_map, option_map}
use Rattle.cif_ast.specs.declared.names.Ident.{Ident}
use Rattle.cif_ast.specs.declared.names.Name.{Name}
use Rattle.cif_system.proofs.Lists.{slice_get-below}
use Rattle.cif_source.specs.Source.{Text, InstanceTree, SourceBody, Source}
use Rattle.cif_source.specs.Components.{Component, whole, part, blank, copy, as_written, body_of, body_entries, scope_of, specification_of, Entry, declared, literal, location, inner, definition, instance, parameter, entry_named}
use Rattle.cif_source.specs.Lookup.{Reached, reached, missing, blocked, at_entry, in_scope, in_body, go_on, or_outward, outward, looked_up, inside_written, inside, opened, in_opened, found}
use Rattle.cif_source.specs.Objects.{components_of, most_objects}
use Rattle.cif_source.proofs.ReachLaws.{frames-listed}
use Rattle.cif_scope.specs.declared.scope.What.{What}
use Rattle.cif_scope.specs.declared.scope.What.TheVariants as what
use Rattle.cif_scope.specs.declared.looked.Looked.{Looked}
use Rattle.cif_scope.specs.declared.looked.Looked.TheVariants.{At, Missing, Blocked}
use Rattle.cif_scope.specs.declared.scopes.Scopes.{Scopes}
use Rattle.cif_scope.specs.Looks as looks
use Rattle.cif_scope.specs.Tables.{IsBody, Beside, IsWhat}
use Rattle.cif_scope.specs.Scopes.{AreScopesOf, IsEntry}
use Rattle.cif_scope.proofs.Places.{beside-at, beside-length}
use Rattle.cif_scope.proofs.BodyLaws.{height, table-height, scope-written}
use Rattle.cif_scope.proofs.LookLaws.{Slotted, slot-is, Owned, own-is}
use Rattle.cif_scope.proofs.FindLaws.{what-of}
use Rattle.cif_inst_components.specs.declared.components.Component.{Component as Row}
use Rattle.cif_inst_components.specs.declared.components.Components.{Components}
use Rattle.cif_inst_components.specs.declared.components.Place.{Place}
use Rattle.cif_inst_components.specs.Finding.{Finder, and_then, body_at, stands_at, known_or, outer_at, child_of, slot_at, what_at, here_or, look_out, unless_parameter, look_inside, step_from, step, steps, first_part, look}
use Rattle.cif_inst_components.specs.Listing.{place}
use Rattle.cif_inst_components.specs.Numbers.{IsNumber, StandsAt, IsComponent, IsOuter, Finds, AreComponentsOf, stands_of}
use Rattle.cif_inst_components.proofs.FindChildren.{row-for, listed, whole-number, child-inner, child-instance, child-none}

pub below-or : (k m : ℕ) → (k < m) ⊎ (m ≤ k)
below-or k zero = inr (omega arith)
below-or zero (suc m) = inl (omega arith)
below-or (suc k) (suc m) = elim (below-or k m) [ inl h ↦ inl (omega arith) | inr h ↦ inr (omega arith) ]

or-missing : (r : Reached) → or_outward r missing ≡ r
or-missing (reached x) = refl
or-missing missing = refl
or-missing blocked = refl

pub past-end : {A : Type 0} (xs : List A) (k : ℕ) → length xs ≤ k → slice_get xs k ≡ None
past-end [] k h = refl
past-end (x ∷ xs) zero h = absurd (omega arith)
past-end (x ∷ xs) (suc k) h = let rest : length xs ≤ k = omega arith in past-end xs k rest

height-written : (c : Component) → height (as_written c) ≡ height c
height-written (whole is) = refl
height-written (part c n b) = ap suc (height-written c)
height-written (blank c n ps b) = ap suc (height-written c)
height-written (copy c n ps b g i) = ap suc (height-written c)

-- the slot of a body as a place of a component
abbrev at_place : ℕ → Looked → Option Place
at_place k (At b s) = Some (place k s)
at_place k Missing = None
at_place k Blocked = None

-- an instance outward of the component is one of the first m
abbrev pub Early : Source → ℕ → Component → Type 0
Early t m (whole is) = Unit {0}
Early t m (part p n b) = Early t m p
Early t m (blank p n ps b) = Early t m p
Early t m (copy p n ps b g i) = ((k : ℕ) → IsNumber t k (copy p n ps b g i) → k < m) × Early t m p

pub early-more : (t : Source) (m n : ℕ) (c : Component) → m ≤ n → Early t m c → Early t n c
early-more t m n (whole is) l h = tt
early-more t m n (part p k b) l h = early-more t m n p l h
early-more t m n (blank p k ps b) l h = early-more t m n p l h
early-more t m n (copy p k ps b g i) l h = (λ j e. let less : j < m = h.0 j e in omega arith, early-more t m n p l h.1)

pub early-all : (t : Source) (c : Component) → Early t (length (components_of t)) c
early-all t (whole is) = tt
early-all t (part p n b) = early-all t p
early-all t (blank p n ps b) = early-all t p
early-all t (copy p n ps b g i) = (λ k e. slice_get-below (components_of t) k (copy p n ps b g i) e, early-all t p)

-- where a name leads, in a component of which the instances outward are among the first m
abbrev pub Leads : Source → ℕ → Reached → Option Place → Type 0
Leads t m (reached (d, e)) (Some q) = IsNumber t q.component d × IsEntry d e q.slot × Early t m d
Leads t m (reached (d, e)) None = ⊥
Leads t m missing (Some q) = ⊥
Leads t m missing None = Unit {0}
Leads t m blocked (Some q) = ⊥
Leads t m blocked None = Unit {0}

leads-finds : (t : Source) (m : ℕ) (r : Reached) (o : Option Place) → Leads t m r o → Finds t r o
leads-finds t m (reached (d, e)) (Some q) h = (h.0, h.1)
leads-finds t m (reached (d, e)) None h = absurd h
leads-finds t m missing (Some q) h = absurd h
leads-finds t m missing None h = tt
leads-finds t m blocked (Some q) h = absurd h
leads-finds t m blocked None h = tt

finds-leads : (t : Source) (m : ℕ) (d : Component) (o : Option Entry) (l : Option Place) → Early t m d → Finds t (at_entry d o) l → Leads t m (at_entry d o) l
finds-leads t m d (Some e) (Some q) early h = (h.0, h.1, early)
finds-leads t m d (Some e) None early h = absurd h
finds-leads t m d None (Some q) early h = absurd h
finds-leads t m d None None early h = tt

module _ (t : Source) (s : Scopes) (are : AreScopesOf t s) (few : length (components_of t) ≤ most_objects) (all : List Row) (rows : Beside (IsComponent t) (components_of t) all) (outers : List (Option ℕ)) where
  -- what names are looked up in
  abbrev pub finder_of : Finder
  finder_of = record { scopes = s; all = all; outers = outers; children = filter_map stands_of all }

  body-for : (k : ℕ) (c : Component) → IsNumber t k c → (b : ℕ) × (body_at all k ≡ Some b) × IsBody t b (as_written c)
  body-for k c h = let r = row-for t s are few all rows k c h in (r.0.body, ap (option_map (λ (x : Row). x.body)) r.1, r.2.body)

  slot-for : (k : ℕ) (c : Component) (x : Text) → IsNumber t k c → Slotted (scope_of c) (entry_named x (scope_of c)) (slot_at s all k x)
  slot-for k c x h =
      let b = body-for k c h in
      subst (λ o. Slotted (scope_of c) (entry_named x (scope_of c)) (and_then o (λ j. looks.slot_at s.table j x))) (sym b.1)
      (subst (λ es. Slotted es (entry_named x es) (looks.slot_at s.table b.0 x)) (scope-written c) (slot-is t s.table are.numbers.table are.numbers.indexed b.0 (as_written c) x b.2))

  pub what-for : (k slot : ℕ) (c : Component) (e : Entry) → IsNumber t k c → IsEntry c e slot → (w : What) × (what_at s all (place k slot) ≡ Some w) × IsWhat t (as_written c) e w
  what-for k slot c e h g =
      let b = body-for k c h in
      let w = what-of t s.table are.numbers.table are.numbers.indexed b.0 slot c e b.2 g in
      (w.0, ap (λ o. and_then o (λ j. looks.what_at s.table j slot)) b.1 ∙ w.1, w.2)

  -- ---- in a component, parameters excluded

  unless-same : (k b slot : ℕ) (o : Option What) → unless_parameter finder_of (place k slot) o ≡ at_place k (looks.unless_parameter b slot o)
  unless-same k b slot None = refl
  unless-same k b slot (Some (what.Parameter q)) = refl
  unless-same k b slot (Some (what.Declared d)) = refl
  unless-same k b slot (Some (what.Literal j)) = refl
  unless-same k b slot (Some (what.Location j)) = refl
  unless-same k b slot (Some (what.Component j)) = refl
  unless-same k b slot (Some (what.Definition j n)) = refl
  unless-same k b slot (Some (what.Instance j)) = refl

  inside-same : (k b : ℕ) (x : Text) → body_at all k ≡ Some b → look_inside finder_of k x ≡ at_place k (looks.look_inside s.table b x)
  inside-same k b x h = ap (λ o. and_then (and_then o (λ j. looks.slot_at s.table j x)) (λ n. unless_parameter finder_of (place k n) (what_at s all (place k n)))) h ∙ go (looks.slot_at s.table b x)
    where
      go : (o : Option ℕ) → and_then o (λ n. unless_parameter finder_of (place k n) (what_at s all (place k n))) ≡ at_place k (looks.at_own s.table b o)
      go None = refl
      go (Some n) = ap (λ o. unless_parameter finder_of (place k n) (and_then o (λ j. looks.what_at s.table j n))) h ∙ unless-same k b n (looks.what_at s.table b n)

  owned-finds : (d : Component) (k b : ℕ) (o : Option Entry) (l : Looked) → IsNumber t k d → Owned d b o l → Finds t (at_entry d o) (at_place k l)
  owned-finds d k b None l own h = subst (λ q. Finds t missing (at_place k q)) (sym h) tt
  owned-finds d k b (Some e) l own h = subst (λ q. Finds t (reached (d, e)) (at_place k q)) (sym h.1) (own, h.2)

  inside-finds : (d : Component) (k : ℕ) (x : Text) → IsNumber t k d → Finds t (in_body d x) (look_inside finder_of k x)
  inside-finds d k x own =
      let b = body-for k d own in
      subst (λ o. Finds t (in_body d x) o) (sym (inside-same k b.0 x b.1))
      (owned-finds d k b.0 (entry_named x (body_entries (body_of d))) (looks.look_inside s.table b.0 x) own (own-is t s.table are.numbers.table are.numbers.indexed d b.0 b.2 x))

  inside-leads : (m : ℕ) (d : Component) (k : ℕ) (x : Text) → IsNumber t k d → Early t m d → Leads t m (in_body d x) (look_inside finder_of k x)
  inside-leads m d k x own early = finds-leads t m d (entry_named x (body_entries (body_of d))) (look_inside finder_of k x) early (inside-finds d k x own)

  -- ---- one further part

  inner-step : (pass : Bool) (c : Component) (n : Ident) (b : SourceBody) (k slot : ℕ) (x : Text) → IsNumber t k c → IsEntry c (inner n b) slot
      → (j : ℕ) × IsNumber t j (part c n b) × (step finder_of pass (place k slot) x ≡ look_inside finder_of j x)
  inner-step pass c n b k slot x own entry =
      let w = what-for k slot c (inner n b) own entry in
      let j = child-inner t s are few all rows k slot c n b own entry in
      (j.0, j.2, ap (λ o. step_from finder_of pass (place k slot) o x) (w.1 ∙ ap Some w.2.1) ∙ ap (λ o. and_then o (λ i. look_inside finder_of i x)) j.1)

  stuck : (pass : Bool) (c : Component) (e : Entry) (k slot : ℕ) (p : Ident) (ps : List Ident) → ((w : What) → IsWhat t (as_written c) e w → step_from finder_of pass (place k slot) (Some w) p.text ≡ None)
      → IsNumber t k c → IsEntry c e slot → steps finder_of pass (place k slot) (p ∷ ps) ≡ None
  stuck pass c e k slot p ps h own entry =
      let w = what-for k slot c e own entry in
      ap (λ o. and_then o (λ y. steps finder_of pass y ps)) (ap (λ o. step_from finder_of pass (place k slot) o p.text) w.1 ∙ h w.0 w.2)

  abbrev by_what : Bool → ℕ → ℕ → Ident → What → Option Place
  by_what pass k slot p w = step_from finder_of pass (place k slot) (Some w) p.text

  -- ---- further parts, through components as written

  module _ (m : ℕ) where
    written-from : (ps : List Ident) (r : Reached) (l : Option Place) → Leads t m r l
        → ((c : Component) (e : Entry) (k slot : ℕ) → IsNumber t k c → IsEntry c e slot → Early t m c → Leads t m (inside_written (c, e) ps) (steps finder_of false (place k slot) ps))
        → Leads t m (go_on (λ y. inside_written y ps) r) (and_then l (λ y. steps finder_of false y ps))
    written-from ps (reached (c, e)) (Some q) a go = go c e q.component q.slot a.0 a.1 a.2
    written-from ps (reached (c, e)) None a go = absurd a
    written-from ps missing (Some q) a go = absurd a
    written-from ps missing None a go = tt
    written-from ps blocked (Some q) a go = absurd a
    written-from ps blocked None a go = tt

    written-leads : (ps : List Ident) (c : Component) (e : Entry) (k slot : ℕ) → IsNumber t k c → IsEntry c e slot → Early t m c → Leads t m (inside_written (c, e) ps) (steps finder_of false (place k slot) ps)
    written-leads [] c e k slot own entry early = (own, entry, early)
    written-leads (p ∷ ps) c (inner n b) k slot own entry early =
        let j = inner-step false c n b k slot p.text own entry in
        subst (λ l. Leads t m (go_on (λ y. inside_written y ps) (in_body (part c n b) p.text)) (and_then l (λ y. steps finder_of false y ps))) (sym j.2)
        (written-from ps (in_body (part c n b) p.text) (look_inside finder_of j.0 p.text) (inside-leads m (part c n b) j.0 p.text j.1 early) (λ d f i r own2 g u. written-leads ps d f i r own2 g u))
    written-leads (p ∷ ps) c (declared d) k slot own entry early = subst (λ l. Leads t m blocked l) (sym (stuck false c (declared d) k slot p ps (λ w h. ap (by_what false k slot p) h.1) own entry)) tt
    written-leads (p ∷ ps) c (literal i ls) k slot own entry early = subst (λ l. Leads t m blocked l) (sym (stuck false c (literal i ls) k slot p ps (λ w h. ap (by_what false k slot p) h) own entry)) tt
    written-leads (p ∷ ps) c (location i) k slot own entry early = subst (λ l. Leads t m blocked l) (sym (stuck false c (location i) k slot p ps (λ w h. ap (by_what false k slot p) h) own entry)) tt
    written-leads (p ∷ ps) c (definition n qs b) k slot own entry early = subst (λ l. Leads t m blocked l) (sym (stuck false c (definition n qs b) k slot p ps (λ w h. ap (by_what false k slot p) h.1) own entry)) tt
    written-leads (p ∷ ps) c (instance i) k slot own entry early = subst (λ l. Leads t m blocked l) (sym (stuck false c (instance i) k slot p ps (λ w h. ap (by_what false k slot p) h.1) own entry)) tt
    written-leads (p ∷ ps) c (parameter i q) k slot own entry early = subst (λ l. Leads t m blocked l) (sym (stuck false c (parameter i q) k slot p ps (λ w h. ap (by_what false k slot p) h) own entry)) tt

  -- ---- further parts, through instances too

  inside-from : (ps : List Ident) (r : Reached) (l : Option Place) → Finds t r l
      → ((c : Component) (e : Entry) (k slot : ℕ) → IsNumber t k c → IsEntry c e slot → Finds t (inside (c, e) ps) (steps finder_of true (place k slot) ps))
      → Finds t (go_on (λ y. inside y ps) r) (and_then l (λ y. steps finder_of true y ps))
  inside-from ps (reached (c, e)) (Some q) a go = go c e q.component q.slot a.0 a.1
  inside-from ps (reached (c, e)) None a go = absurd a
  inside-from ps missing (Some q) a go = absurd a
  inside-from ps missing None a go = tt
  inside-from ps blocked (Some q) a go = absurd a
  inside-from ps blocked None a go = tt

  -- in an instance, where it opens
  opened-finds : (c : Component) (i : InstanceTree) (k slot : ℕ) (x : Text) (o : Option Component) → IsNumber t k c → IsEntry c (instance i) slot → opened c i ≡ o
      → Finds t (in_opened o x) (and_then (child_of (filter_map stands_of all) (place k slot)) (λ j. look_inside finder_of j x))
  opened-finds c i k slot x None own entry h =
      subst (λ o. Finds t missing (and_then o (λ j. look_inside finder_of j x))) (sym (child-none t s are few all rows k slot c i own entry h)) tt
  opened-finds c i k slot x (Some d) own entry h =
      let j = child-instance t s are few all rows k slot c d i own entry h in
      subst (λ o. Finds t (in_body d x) (and_then o (λ l. look_inside finder_of l x))) (sym j.1) (inside-finds d j.0 x j.2)

  instance-step : (c : Component) (i : InstanceTree) (k slot : ℕ) (x : Text) → IsNumber t k c → IsEntry c (instance i) slot → Finds t (in_opened (opened c i) x) (step finder_of true (place k slot) x)
  instance-step c i k slot x own entry =
      let w = what-for k slot c (instance i) own entry in
      subst (λ l. Finds t (in_opened (opened c i) x) l) (sym (ap (λ o. step_from finder_of true (place k slot) o x) (w.1 ∙ ap Some w.2.1)))
      (opened-finds c i k slot x (opened c i) own entry refl)

  parts-find : (ps : List Ident) (c : Component) (e : Entry) (k slot : ℕ) → IsNumber t k c → IsEntry c e slot → Finds t (inside (c, e) ps) (steps finder_of true (place k slot) ps)
  parts-find [] c e k slot own entry = (own, entry)
  parts-find (p ∷ ps) c (inner n b) k slot own entry =
      let j = inner-step true c n b k slot p.text own entry in
      subst (λ l. Finds t (go_on (λ y. inside y ps) (in_body (part c n b) p.text)) (and_then l (λ y. steps finder_of true y ps))) (sym j.2)
      (inside-from ps (in_body (part c n b) p.text) (look_inside finder_of j.0 p.text) (inside-finds (part c n b) j.0 p.text j.1) (λ d f i r own2 g. parts-find ps d f i r own2 g))
  parts-find (p ∷ ps) c (instance i) k slot own entry =
      inside-from ps (in_opened (opened c i) p.text) (step finder_of true (place k slot) p.text) (instance-step c i k slot p.text own entry) (λ d f j r own2 g. parts-find ps d f j r own2 g)
  parts-find (p ∷ ps) c (declared d) k slot own entry = subst (λ l. Finds t blocked l) (sym (stuck true c (declared d) k slot p ps (λ w h. ap (by_what true k slot p) h.1) own entry)) tt
  parts-find (p ∷ ps) c (literal i ls) k slot own entry = subst (λ l. Finds t blocked l) (sym (stuck true c (literal i ls) k slot p ps (λ w h. ap (by_what true k slot p) h) own entry)) tt
  parts-find (p ∷ ps) c (location i) k slot own entry = subst (λ l. Finds t blocked l) (sym (stuck true c (location i) k slot p ps (λ w h. ap (by_what true k slot p) h) own entry)) tt
  parts-find (p ∷ ps) c (definition n qs b) k slot own entry = subst (λ l. Finds t blocked l) (sym (stuck true c (definition n qs b) k slot p ps (λ w h. ap (by_what true k slot p) h.1) own entry)) tt
  parts-find (p ∷ ps) c (parameter i q) k slot own entry = subst (λ l. Finds t blocked l) (sym (stuck true c (parameter i q) k slot p ps (λ w h. ap (by_what true k slot p) h) own entry)) tt

  -- ---- the first part, where outer components are known of the first m

  module _ (m : ℕ) (known : (k : ℕ) (c : Component) → k < m → IsNumber t k c → (o : Option ℕ) × (slice_get outers k ≡ Some o) × IsOuter t c o) (unknown : (k : ℕ) → m ≤ k → slice_get outers k ≡ None) where
    stands-outer : (k : ℕ) (c : Component) (o : Option Place) → m ≤ k → IsNumber t k c → Early t m c → StandsAt t c o → IsOuter t c (option_map (λ (p : Place). p.component) o)
    stands-outer k (whole is) o l own early h = ap (option_map (λ (p : Place). p.component)) h
    stands-outer k (part p n b) o l own early h = (h.0.component, ap (option_map (λ (q : Place). q.component)) h.1, h.2)
    stands-outer k (blank p n ps b) o l own early h = absurd h
    stands-outer k (copy p n ps b g i) o l own early h = let less : k < m = early.0 k own in absurd (omega arith)

    outer-for : (k : ℕ) (c : Component) → IsNumber t k c → Early t m c → IsOuter t c (outer_at all outers k)
    outer-for k c own early =
        elim (below-or k m) [
          | inl l ↦ let o = known k c l own in subst (λ q. IsOuter t c (known_or q (stands_at all k))) (sym o.1) o.2
          | inr l ↦
              let r = row-for t s are few all rows k c own in
              subst (λ q. IsOuter t c (known_or q (stands_at all k))) (sym (unknown k l))
              (subst (λ q. IsOuter t c (and_then q (λ (x : Row). option_map (λ (p : Place). p.component) x.stands))) (sym r.1) (stands-outer k c r.0.stands l own early r.2.stands))
        ]

    here-leads : (k : ℕ) (c : Component) (o : Option Entry) (slot : Option ℕ) (r : Reached) (rest : Option Place) → IsNumber t k c → Early t m c → Slotted (scope_of c) o slot → Leads t m r rest
        → Leads t m (or_outward (at_entry c o) r) (here_or finder_of k slot rest)
    here-leads k c None None r rest own early h a = a
    here-leads k c (Some e) (Some slot) r rest own early h a = (own, h, early)
    here-leads k c None (Some slot) r rest own early h a = absurd h
    here-leads k c (Some e) None r rest own early h a = absurd h

    outward-leads : (k n : ℕ) (c : Component) (x : Text) (r : Reached) → IsNumber t k c → Early t m c → Leads t m r (and_then (outer_at all outers k) (λ j. look_out finder_of n j x))
        → Leads t m (or_outward (in_scope c x) r) (look_out finder_of (suc n) k x)
    outward-leads k n c x r own early rest =
        here-leads k c (entry_named x (scope_of c)) (slot_at s all k x) r (and_then (outer_at all outers k) (λ j. look_out finder_of n j x)) own early (slot-for k c x own) rest

    go-out : (n : ℕ) (p : Component) (x : Text) → ((j : ℕ) → IsNumber t j p → Leads t m (outward p x) (look_out finder_of n j x)) → (o : Option ℕ) → ((k : ℕ) × (o ≡ Some k) × IsNumber t k p)
        → Leads t m (outward p x) (and_then o (λ j. look_out finder_of n j x))
    go-out n p x go o h = subst (λ q. Leads t m (outward p x) (and_then q (λ j. look_out finder_of n j x))) (sym h.1) (go h.0 h.2)

    out-leads : (c : Component) (n k : ℕ) (x : Text) → height c < n → IsNumber t k c → Early t m c → Leads t m (outward c x) (look_out finder_of n k x)
    out-leads c zero k x small own early = absurd (omega arith)
    out-leads (whole is) (suc n) k x small own early =
        subst (λ r. Leads t m r (look_out finder_of (suc n) k x)) (or-missing (in_scope (whole is) x))
        (outward-leads k n (whole is) x missing own early (subst (λ q. Leads t m missing (and_then q (λ j. look_out finder_of n j x))) (sym (outer-for k (whole is) own early)) tt))
    out-leads (part p i b) (suc n) k x small own early =
        let less : height p < n = omega arith in
        outward-leads k n (part p i b) x (outward p x) own early (go-out n p x (λ j g. out-leads p n j x less g early) (outer_at all outers k) (outer-for k (part p i b) own early))
    out-leads (blank p i ps b) (suc n) k x small own early =
        let less : height p < n = omega arith in
        outward-leads k n (blank p i ps b) x (outward p x) own early (go-out n p x (λ j g. out-leads p n j x less g early) (outer_at all outers k) (outer-for k (blank p i ps b) own early))
    out-leads (copy p i ps b g e) (suc n) k x small own early =
        let less : height p < n = omega arith in
        outward-leads k n (copy p i ps b g e) x (outward p x) own early (go-out n p x (λ j h. out-leads p n j x less h early.1) (outer_at all outers k) (outer-for k (copy p i ps b g e) own early))

    abbrev first_reached : Component → Bool → Text → Reached
    first_reached c root x = elim root [ true ↦ in_scope (whole (specification_of c)) x | false ↦ outward c x ]

    root-leads : (x : Text) → Leads t m (in_scope (whole t) x) (option_map (place 0) (slot_at s all 0 x))
    root-leads x =
        let own : IsNumber t 0 (whole t) = whole-number t s are few all rows in
        go own (entry_named x (scope_of (whole t))) (slot_at s all 0 x) (slot-for 0 (whole t) x own)
      where
        go : IsNumber t 0 (whole t) → (o : Option Entry) (slot : Option ℕ) → Slotted (scope_of (whole t)) o slot → Leads t m (at_entry (whole t) o) (option_map (place 0) slot)
        go own None None h = tt
        go own (Some e) (Some slot) h = (own, h, tt)
        go own None (Some slot) h = absurd h
        go own (Some e) None h = absurd h

    first-leads : (c : Component) (k : ℕ) (root : Bool) (x : Text) → IsNumber t k c → Early t m c → Leads t m (first_reached c root x) (first_part finder_of root k x)
    first-leads c k true x own early =
        let up = frames-listed t few c (listed t s are few all rows k c own) in
        subst (λ u. Leads t m (in_scope (whole u) x) (option_map (place 0) (slot_at s all 0 x))) (sym up.0) (root-leads x)
    first-leads c k false x own early =
        let b = body-for k c own in
        let deep : height (as_written c) < length s.table.scopes = table-height t s.table.scopes are.numbers.table b.0 (as_written c) b.2 in
        let same : height (as_written c) ≡ height c = height-written c in
        let less : height c < length s.table.scopes = omega arith in
        out-leads c (length s.table.scopes) k x less own early

    abbrev name_of : Bool → List Ident → ℕ → Name
    name_of root ps at = record { from_root = root; parts = ps; at = at }

    written-parts : (c : Component) (k : ℕ) → IsNumber t k c → Early t m c → (ps : List Ident) (root : Bool) (at : ℕ) → Leads t m (looked_up inside_written c (name_of root ps at)) (look finder_of false k (name_of root ps at))
    written-parts c k own early [] root at = tt
    written-parts c k own early (p ∷ ps) root at =
        written-from m ps (first_reached c root p.text) (first_part finder_of root k p.text) (first-leads c k root p.text own early) (λ d e i r own2 g u. written-leads m ps d e i r own2 g u)

    -- a name through components as written, as that of a definition is looked up
    pub written-is : (c : Component) (k : ℕ) (nm : Name) → IsNumber t k c → Early t m c → Leads t m (looked_up inside_written c nm) (look finder_of false k nm)
    written-is c k nm own early = written-parts c k own early nm.parts nm.from_root nm.at

    found-parts : (c : Component) (k : ℕ) → IsNumber t k c → Early t m c → (ps : List Ident) (root : Bool) (at : ℕ) → Finds t (found c (name_of root ps at)) (look finder_of true k (name_of root ps at))
    found-parts c k own early [] root at = tt
    found-parts c k own early (p ∷ ps) root at =
        inside-from ps (first_reached c root p.text) (first_part finder_of root k p.text)
        (leads-finds t m (first_reached c root p.text) (first_part finder_of root k p.text) (first-leads c k root p.text own early)) (λ d e i r own2 g. parts-find ps d e i r own2 g)

    pub found-is : (c : Component) (k : ℕ) (nm : Name) → IsNumber t k c → Early t m c → Finds t (found c nm) (look finder_of true k nm)
    found-is c k nm own early = found-parts c k own early nm.parts nm.from_root nm.at

-- what the search gives in the components of a source is what is found
pub result-finds : (t : Source) (s : Scopes) (cs : Components) (k : ℕ) (c : Component) (nm : Name) (all : List Row) (outers : List (Option ℕ)) (r : Option Place) → all ≡ cs.all → outers ≡ cs.outers
    → r ≡ look (record { scopes = s; all = all; outers = outers; children = cs.children }) true k nm → AreScopesOf t s → AreComponentsOf t cs → IsNumber t k c → Finds t (found c nm) r
result-finds t s cs k c nm all outers r a o h are is own =
    let same : r ≡ look (finder_of t s are is.few cs.all is.all cs.outers) true k nm =
    h ∙ ap (λ l. look (record { scopes = s; all = l; outers = outers; children = cs.children }) true k nm) a
    ∙ ap (λ l. look (record { scopes = s; all = cs.all; outers = l; children = cs.children }) true k nm) o
    ∙ ap (λ l. look (record { scopes = s; all = cs.all; outers = cs.outers; children = l }) true k nm) is.children in
    let size : length cs.outers ≡ length (components_of t) = beside-length (IsOuter t) (components_of t) cs.outers is.outers in
    subst (λ q. Finds t (found c nm) q) (sym same)
    (found-is t s are is.few cs.all is.all cs.outers (length (components_of t))
    (λ j d l e. beside-at (IsOuter t) (components_of t) cs.outers j d is.outers e) (λ j l. past-end cs.outers j (omega arith)) c k nm own (early-all t c))
