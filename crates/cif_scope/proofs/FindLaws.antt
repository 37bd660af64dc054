-- What a name finds, by numbers.
use Rattle.std.proofs.Common.{◌≡◌, ℕ, Bool, true, false, List, [], ◌∷◌, ◌++◌, length, append_assoc, append-nil, ◌⊎◌, inl, inr, refl, sym, ap, subst, ◌∙◌, Option, Some, None}
use Rattle.std.specs.Prelude.{slice_get, Result, Ok, Err, IfOk}
use Rattle.cif_base.specs.declared.memory.Memory.{Memory}
use Rattle.cif_ast.specs.declared.names.Ident.{Ident}
use Rattle.cif_ast.specs.declared.names.Name.{Name}
use Rattle.cif_source.specs.Source.{Text, SourceBody, ParamTree, InstanceTree, Source}
use Rattle.cif_source.specs.Components.{Component, StandingInstance, whole, part, blank, copy, as_written, specification_of, scope_of, body_entries, Entry, declared, literal, location, inner, definition, instance, parameter, entry_named}
use Rattle.cif_source.specs.Lookup.{Reached, reached, missing, blocked, at_entry, in_scope, in_body, go_on, or_outward, outward, looked_up, inside_written, inside, opened, opened_at, in_opened, definition_found, found}
use Rattle.cif_source.specs.Objects.{bodies}
use Rattle.cif_source.specs.Scoping.{instances_of}
use Rattle.cif_source.specs.Slots.{passed_through}
use Rattle.cif_scope.specs.declared.scope.What.{What}
use Rattle.cif_scope.specs.declared.scope.What.TheVariants as what
use Rattle.cif_scope.specs.declared.looked.Slot.{Slot}
use Rattle.cif_scope.specs.declared.looked.Looked.{Looked}
use Rattle.cif_scope.specs.declared.looked.Looked.TheVariants.{At, Missing, Blocked}
use Rattle.cif_scope.specs.declared.table.Table.{Table}
use Rattle.cif_scope.specs.declared.scopes.Found.{Found}
use Rattle.cif_scope.specs.declared.scopes.Scopes.{Scopes}
use Rattle.cif_scope.specs.Tables.{IsBody, Beside, IsWhat, IsTable}
use Rattle.cif_scope.specs.Looks.{slot_at, what_at, here_or, look_inside, definition_at, inside_instance, step_from, Definitions, definition_in, step, steps, first_part, look, passed_at, passed_slot, passed, as_found, find}
use Rattle.cif_scope.specs.Scopes.{IsIndexed, Defines, IsDefinitionOf, AreDefinitions, AreNumbered, IsEntry, IsPassed, Finds}
use Rattle.cif_scope.proofs.Places.{beside-at, beside-append}
use Rattle.cif_scope.proofs.BodyLaws.{body-root, body-passes, table-height, scope-written, outer-of}
use Rattle.cif_scope.proofs.LookLaws.{Agrees, Slotted, slot-is, what-is, look-is, Owned, own-is}
use Rattle.cif_scope.proofs.WrittenLaws.{written, definition-written}

-- where it leads, by numbers, with the instances passed on the way
abbrev pub Leads : Source → Reached → Looked → List Slot → Type 0
Leads t (reached (d, e)) (At k s) th = IsBody t k (as_written d) × IsEntry d e s × Beside (IsPassed t) (passed_through d) th
Leads t (reached (d, e)) Missing th = ⊥
Leads t (reached (d, e)) Blocked th = ⊥
Leads t missing (At k s) th = ⊥
Leads t missing Missing th = Unit {0}
Leads t missing Blocked th = ⊥
Leads t blocked (At k s) th = ⊥
Leads t blocked Missing th = ⊥
Leads t blocked Blocked th = Unit {0}

pub leads-agrees : (t : Source) (r : Reached) (l : Looked) (th : List Slot) → Leads t r l th → Agrees t r l
leads-agrees t (reached (d, e)) (At k s) th h = (h.0, h.1)
leads-agrees t (reached (d, e)) Missing th h = absurd h
leads-agrees t (reached (d, e)) Blocked th h = absurd h
leads-agrees t missing (At k s) th h = absurd h
leads-agrees t missing Missing th h = tt
leads-agrees t missing Blocked th h = absurd h
leads-agrees t blocked (At k s) th h = absurd h
leads-agrees t blocked Missing th h = absurd h
leads-agrees t blocked Blocked th h = tt

missing-stays : (tb : Table) (defs : Definitions) (pass : Bool) (ps : List Ident) → steps tb defs pass Missing ps ≡ Missing
missing-stays tb defs pass [] = refl
missing-stays tb defs pass (p ∷ ps) = missing-stays tb defs pass ps

blocked-stays : (tb : Table) (defs : Definitions) (pass : Bool) (ps : List Ident) → steps tb defs pass Blocked ps ≡ Blocked
blocked-stays tb defs pass [] = refl
blocked-stays tb defs pass (p ∷ ps) = blocked-stays tb defs pass ps

module _ (t : Source) (tb : Table) (table : IsTable t tb.scopes) (ix : IsIndexed tb) where
  pub what-of : (k s : ℕ) (c : Component) (e : Entry) → IsBody t k (as_written c) → IsEntry c e s → (w : What) × (what_at tb k s ≡ Some w) × IsWhat t (as_written c) e w
  what-of k s c e h g = what-is t tb table ix k s (as_written c) e h (g.0, ap (λ es. slice_get es s) (scope-written c) ∙ g.1)

  -- ---- the first part

  root-is : (x : Text) (k : ℕ) → IsBody t 0 (whole t) → Agrees t (in_scope (whole t) x) (here_or 0 (slot_at tb 0 x) Missing)
  root-is x k own = go (entry_named x (scope_of (whole t))) (slot_at tb 0 x) (slot-is t tb table ix 0 (whole t) x own)
    where
      go : (o : Option Entry) (s : Option ℕ) → Slotted (scope_of (whole t)) o s → Agrees t (at_entry (whole t) o) (here_or 0 s Missing)
      go None None h = tt
      go (Some e) (Some s) h = (own, h)
      go None (Some s) h = absurd h
      go (Some e) None h = absurd h

  abbrev first_reached : Component → Bool → Text → Reached
  first_reached c root x = elim root [ true ↦ in_scope (whole (specification_of c)) x | false ↦ outward c x ]

  first-is : (c : Component) (k : ℕ) (root : Bool) (x : Text) → IsBody t k c → Agrees t (first_reached c root x) (first_part tb root k x)
  first-is c k true x own = subst (λ u. Agrees t (in_scope (whole u) x) (here_or 0 (slot_at tb 0 x) Missing)) (sym (body-root t tb.scopes table c k own)) (root-is x k refl)
  first-is c k false x own = look-is t tb table ix c (length tb.scopes) k x (table-height t tb.scopes table k c own) own

  -- ---- further parts, through components as written

  module _ (defs : Definitions) where
    written-from : (ps : List Ident) (r : Reached) (l : Looked) → Agrees t r l
        → ((c : Component) (e : Entry) (k s : ℕ) → IsBody t k (as_written c) → IsEntry c e s → Agrees t (inside_written (c, e) ps) (steps tb defs false (At k s) ps))
        → Agrees t (go_on (λ y. inside_written y ps) r) (steps tb defs false l ps)
    written-from ps (reached (c, e)) (At k s) a go = go c e k s a.0 a.1
    written-from ps (reached (c, e)) Missing a go = absurd a
    written-from ps (reached (c, e)) Blocked a go = absurd a
    written-from ps missing (At k s) a go = absurd a
    written-from ps missing Missing a go = subst (λ l. Agrees t missing l) (sym (missing-stays tb defs false ps)) tt
    written-from ps missing Blocked a go = absurd a
    written-from ps blocked (At k s) a go = absurd a
    written-from ps blocked Missing a go = absurd a
    written-from ps blocked Blocked a go = subst (λ l. Agrees t blocked l) (sym (blocked-stays tb defs false ps)) tt

    owned-agrees : (d : Component) (k : ℕ) (o : Option Entry) (l : Looked) → IsBody t k (as_written d) → Owned d k o l → Agrees t (at_entry d o) l
    owned-agrees d k None l own h = subst (λ m. Agrees t missing m) (sym h) tt
    owned-agrees d k (Some e) l own h = subst (λ m. Agrees t (reached (d, e)) m) (sym h.1) (own, h.2)

    inner-step : (pass : Bool) (c : Component) (n : Ident) (b : SourceBody) (k s : ℕ) (x : Text) → IsBody t k (as_written c) → IsEntry c (inner n b) s
        → (j : ℕ) × IsBody t j (part (as_written c) n b) × (step tb defs pass (At k s) x ≡ look_inside tb j x)
    inner-step pass c n b k s x own e =
        let w = what-of k s c (inner n b) own e in
        (w.2.0, w.2.2, ap (λ o. step_from tb defs pass k o x) (w.1 ∙ ap Some w.2.1))

    blocked-step : (c : Component) (e : Entry) (k s : ℕ) (ps : List Ident) (p : Ident) (pass : Bool) → ((w : What) → IsWhat t (as_written c) e w → step_from tb defs pass k (Some w) p.text ≡ Blocked)
        → IsBody t k (as_written c) → IsEntry c e s → steps tb defs pass (At k s) (p ∷ ps) ≡ Blocked
    blocked-step c e k s ps p pass h own g =
        let w = what-of k s c e own g in
        ap (λ l. steps tb defs pass l ps) (ap (λ o. step_from tb defs pass k o p.text) w.1 ∙ h w.0 w.2) ∙ blocked-stays tb defs pass ps

    abbrev stuck : Bool → ℕ → Ident → What → Looked
    stuck pass k p w = step_from tb defs pass k (Some w) p.text

    pub inside_written-is : (ps : List Ident) (c : Component) (e : Entry) (k s : ℕ) → IsBody t k (as_written c) → IsEntry c e s → Agrees t (inside_written (c, e) ps) (steps tb defs false (At k s) ps)
    inside_written-is [] c e k s own g = (own, g)
    inside_written-is (p ∷ ps) c (inner n b) k s own g =
        let j = inner-step false c n b k s p.text own g in
        subst (λ l. Agrees t (go_on (λ y. inside_written y ps) (in_body (part c n b) p.text)) (steps tb defs false l ps)) (sym j.2)
        (written-from ps (in_body (part c n b) p.text) (look_inside tb j.0 p.text)
        (owned-agrees (part c n b) j.0 (entry_named p.text (body_entries b)) (look_inside tb j.0 p.text) j.1 (own-is t tb table ix (part c n b) j.0 j.1 p.text))
        (λ d e i r o h. inside_written-is ps d e i r o h))
    inside_written-is (p ∷ ps) c (declared d) k s own g = subst (λ l. Agrees t blocked l) (sym (blocked-step c (declared d) k s ps p false (λ w h. ap (stuck false k p) h.1) own g)) tt
    inside_written-is (p ∷ ps) c (literal i ls) k s own g = subst (λ l. Agrees t blocked l) (sym (blocked-step c (literal i ls) k s ps p false (λ w h. ap (stuck false k p) h) own g)) tt
    inside_written-is (p ∷ ps) c (location i) k s own g = subst (λ l. Agrees t blocked l) (sym (blocked-step c (location i) k s ps p false (λ w h. ap (stuck false k p) h) own g)) tt
    inside_written-is (p ∷ ps) c (definition n qs b) k s own g = subst (λ l. Agrees t blocked l) (sym (blocked-step c (definition n qs b) k s ps p false (λ w h. ap (stuck false k p) h.1) own g)) tt
    inside_written-is (p ∷ ps) c (instance i) k s own g = subst (λ l. Agrees t blocked l) (sym (blocked-step c (instance i) k s ps p false (λ w h. ap (stuck false k p) h.1) own g)) tt
    inside_written-is (p ∷ ps) c (parameter i q) k s own g = subst (λ l. Agrees t blocked l) (sym (blocked-step c (parameter i q) k s ps p false (λ w h. ap (stuck false k p) h) own g)) tt

    -- a name through components as written, as that of a definition is looked up
    pub written-is : (c : Component) (k : ℕ) (nm : Name) → IsBody t k c → Agrees t (looked_up inside_written c nm) (look tb defs false k nm)
    written-is c k nm own = parts nm.parts nm.from_root nm.at
      where
        parts : (ps : List Ident) (root : Bool) (at : ℕ) → Agrees t (looked_up inside_written c (record { from_root = root; parts = ps; at = at })) (look tb defs false k (record { from_root = root; parts = ps; at = at }))
        parts [] root at = tt
        parts (p ∷ ps) root at = written-from ps (first_reached c root p.text) (first_part tb root k p.text) (first-is c k root p.text own) (λ d e i r o h. inside_written-is ps d e i r o h)

    -- ---- further parts, through instances too

    module _ (are : AreDefinitions t defs) where
      defined : (c : Component) (i : InstanceTree) (k r : ℕ) → IsBody t k (as_written c) → slice_get (instances_of (as_written c)) r ≡ Some i
          → (d : Option ℕ) × (definition_at defs k r ≡ d) × Defines t (written (definition_found c i)) d
      defined c i k r own h =
          let row = beside-at (λ d ds. Beside (IsDefinitionOf t d) (instances_of d) ds) (bodies t) defs k (as_written c) are own in
          let one = beside-at (IsDefinitionOf t (as_written c)) (instances_of (as_written c)) row.0 r i row.2 h in
          (one.0, ap (λ o. elim o [ None ↦ None | Some ds ↦ definition_in ds r ]) row.1 ∙ ap (λ o. elim o [ None ↦ None | Some d ↦ d ]) one.1, subst (λ q. Defines t q one.0) (sym (definition-written c i)) one.2)

      -- the definition as a body, and the instance as a component
      abbrev pub Opens : Component → InstanceTree → ℕ → Type 0
      Opens c i j = (o : Component) × (n : Ident) × (ps : List ParamTree) × (b : SourceBody) × (opened c i ≡ Some (copy o n ps b c i)) × IsBody t j (blank (as_written o) n ps b)

      abbrev pub MayOpen : Component → InstanceTree → Option ℕ → Type 0
      MayOpen c i d = ((d ≡ None) × (opened c i ≡ None)) ⊎ ((j : ℕ) × (d ≡ Some j) × Opens c i j)

      pub opens : (c : Component) (i : InstanceTree) (d : Option ℕ) (r : Reached) → definition_found c i ≡ r → Defines t (written r) d → MayOpen c i d
      opens c i d (reached (o, definition n ps b)) e h = inr (h.0, h.1, (o, n, ps, b, ap (opened_at c i) e, h.2))
      opens c i d (reached (o, declared x)) e h = inl (h, ap (opened_at c i) e)
      opens c i d (reached (o, literal k ls)) e h = inl (h, ap (opened_at c i) e)
      opens c i d (reached (o, location k)) e h = inl (h, ap (opened_at c i) e)
      opens c i d (reached (o, inner n b)) e h = inl (h, ap (opened_at c i) e)
      opens c i d (reached (o, instance g)) e h = inl (h, ap (opened_at c i) e)
      opens c i d (reached (o, parameter k p)) e h = inl (h, ap (opened_at c i) e)
      opens c i d missing e h = inl (h, ap (opened_at c i) e)
      opens c i d blocked e h = inl (h, ap (opened_at c i) e)

      leads-owned : (d : Component) (k : ℕ) (o : Option Entry) (l : Looked) (th : List Slot) → IsBody t k (as_written d) → Beside (IsPassed t) (passed_through d) th → Owned d k o l → Leads t (at_entry d o) l th
      leads-owned d k None l th own h g = subst (λ m. Leads t missing m th) (sym g) tt
      leads-owned d k (Some e) l th own h g = subst (λ m. Leads t (reached (d, e)) m th) (sym g.1) (own, g.2, h)

      inside-from : (ps : List Ident) (r : Reached) (l : Looked) (th : List Slot) → Leads t r l th
          → ((c : Component) (e : Entry) (k s : ℕ) → Leads t (reached (c, e)) (At k s) th → Leads t (inside (c, e) ps) (steps tb defs true (At k s) ps) (th ++ passed tb defs (At k s) ps))
          → Leads t (go_on (λ y. inside y ps) r) (steps tb defs true l ps) (th ++ passed tb defs l ps)
      inside-from ps (reached (c, e)) (At k s) th a go = go c e k s a
      inside-from ps (reached (c, e)) Missing th a go = absurd a
      inside-from ps (reached (c, e)) Blocked th a go = absurd a
      inside-from ps missing (At k s) th a go = absurd a
      inside-from ps missing Missing th a go = subst (λ l. Leads t missing l (th ++ passed tb defs Missing ps)) (sym (missing-stays tb defs true ps)) tt
      inside-from ps missing Blocked th a go = absurd a
      inside-from ps blocked (At k s) th a go = absurd a
      inside-from ps blocked Missing th a go = absurd a
      inside-from ps blocked Blocked th a go = subst (λ l. Leads t blocked l (th ++ passed tb defs Blocked ps)) (sym (blocked-stays tb defs true ps)) tt

      -- after one step
      stepped : (ps : List Ident) (r : Reached) (l m : Looked) (q u th : List Slot) → l ≡ m → q ≡ u → Leads t r (steps tb defs true m ps) ((th ++ u) ++ passed tb defs m ps)
          → Leads t r (steps tb defs true l ps) (th ++ (q ++ passed tb defs l ps))
      stepped ps r l m q u th e f h =
          subst (λ v. Leads t r (steps tb defs true v ps) (th ++ (q ++ passed tb defs v ps))) (sym e)
          (subst (λ (w : List Slot). Leads t r (steps tb defs true m ps) (th ++ (w ++ passed tb defs m ps))) (sym f)
          (subst (λ (w : List Slot). Leads t r (steps tb defs true m ps) w) (append_assoc th u (passed tb defs m ps)) h))

      stays-blocked : (c : Component) (e : Entry) (k s : ℕ) (ps : List Ident) (p : Ident) (th : List Slot) → ((w : What) → IsWhat t (as_written c) e w → step_from tb defs true k (Some w) p.text ≡ Blocked)
          → IsBody t k (as_written c) → IsEntry c e s → Leads t blocked (steps tb defs true (At k s) (p ∷ ps)) th
      stays-blocked c e k s ps p th h own g = subst (λ l. Leads t blocked l th) (sym (blocked-step c e k s ps p true h own g)) tt

      through-instance : (ps : List Ident) (p : Ident) (c : Component) (i : InstanceTree) (k s j : ℕ) (th : List Slot) → Opens c i j → step tb defs true (At k s) p.text ≡ look_inside tb j p.text
          → passed_slot tb (At k s) ≡ record { body = k; slot = s } ∷ [] → Leads t (reached (c, instance i)) (At k s) th
          → ((d : Component) (e : Entry) (m r : ℕ) → Leads t (reached (d, e)) (At m r) (th ++ record { body = k; slot = s } ∷ [])
          → Leads t (inside (d, e) ps) (steps tb defs true (At m r) ps) ((th ++ record { body = k; slot = s } ∷ []) ++ passed tb defs (At m r) ps))
          → Leads t (go_on (λ y. inside y ps) (in_opened (opened c i) p.text)) (steps tb defs true (At k s) (p ∷ ps)) (th ++ passed tb defs (At k s) (p ∷ ps))
      through-instance ps p c i k s j th o first pass h go =
          let d : Component = copy o.0 o.1 o.2 o.3 c i in
          let own : IsBody t j (as_written d) = o.5 in
          let here : Slot = record { body = k; slot = s } in
          subst (λ q. Leads t (go_on (λ y. inside y ps) (in_opened q p.text)) (steps tb defs true (At k s) (p ∷ ps)) (th ++ passed tb defs (At k s) (p ∷ ps))) (sym o.4)
          (stepped ps (go_on (λ y. inside y ps) (in_body d p.text)) (step tb defs true (At k s) p.text) (look_inside tb j p.text) (passed_slot tb (At k s)) (here ∷ []) th first pass
          (inside-from ps (in_body d p.text) (look_inside tb j p.text) (th ++ here ∷ [])
          (leads-owned d j (entry_named p.text (body_entries o.3)) (look_inside tb j p.text) (th ++ here ∷ []) own
          (beside-append (IsPassed t) (passed_through c) ((c, i) ∷ []) th (here ∷ []) h.2 ((h.0, h.1), tt)) (own-is t tb table ix d j own p.text)) go))

      pub inside-is : (ps : List Ident) (c : Component) (e : Entry) (k s : ℕ) (th : List Slot) → Leads t (reached (c, e)) (At k s) th
          → Leads t (inside (c, e) ps) (steps tb defs true (At k s) ps) (th ++ passed tb defs (At k s) ps)
      inside-is [] c e k s th h = subst (λ (l : List Slot). Leads t (reached (c, e)) (At k s) l) (sym (append-nil th)) h
      inside-is (p ∷ ps) c (inner n b) k s th h =
          let w = what-of k s c (inner n b) h.0 h.1 in
          let j : ℕ = w.2.0 in
          let is : what_at tb k s ≡ Some (what.Component j) = w.1 ∙ ap Some w.2.1 in
          stepped ps (go_on (λ y. inside y ps) (in_body (part c n b) p.text)) (step tb defs true (At k s) p.text) (look_inside tb j p.text) (passed_slot tb (At k s)) [] th
          (ap (λ o. step_from tb defs true k o p.text) is) (ap (passed_at k s) is)
          (inside-from ps (in_body (part c n b) p.text) (look_inside tb j p.text) (th ++ [])
          (leads-owned (part c n b) j (entry_named p.text (body_entries b)) (look_inside tb j p.text) (th ++ []) w.2.2
          (subst (λ (l : List Slot). Beside (IsPassed t) (passed_through c) l) (sym (append-nil th)) h.2) (own-is t tb table ix (part c n b) j w.2.2 p.text))
          (λ d e i r g. inside-is ps d e i r (th ++ []) g))
      inside-is (p ∷ ps) c (instance i) k s th h =
          let w = what-of k s c (instance i) h.0 h.1 in
          let r : ℕ = w.2.0 in
          let is : what_at tb k s ≡ Some (what.Instance r) = w.1 ∙ ap Some w.2.1 in
          let def = defined c i k r h.0 w.2.2 in
          let first : step tb defs true (At k s) p.text ≡ inside_instance tb def.0 p.text = ap (λ o. step_from tb defs true k o p.text) is ∙ ap (λ o. inside_instance tb o p.text) def.1 in
          let here : Slot = record { body = k; slot = s } in
          elim (opens c i def.0 (definition_found c i) refl def.2) [
            | inl none ↦
                subst (λ q. Leads t (go_on (λ y. inside y ps) (in_opened q p.text)) (steps tb defs true (At k s) (p ∷ ps)) (th ++ passed tb defs (At k s) (p ∷ ps))) (sym none.1)
                (subst (λ l. Leads t missing l (th ++ passed tb defs (At k s) (p ∷ ps)))
                (sym (ap (λ l. steps tb defs true l ps) (first ∙ ap (λ o. inside_instance tb o p.text) none.0) ∙ missing-stays tb defs true ps)) tt)
            | inr some ↦ through-instance ps p c i k s some.0 th some.2 (first ∙ ap (λ o. inside_instance tb o p.text) some.1) (ap (passed_at k s) is) h (λ d e i r g. inside-is ps d e i r (th ++ here ∷ []) g)
          ]
      inside-is (p ∷ ps) c (declared d) k s th h = stays-blocked c (declared d) k s ps p (th ++ passed tb defs (At k s) (p ∷ ps)) (λ w g. ap (stuck true k p) g.1) h.0 h.1
      inside-is (p ∷ ps) c (literal i ls) k s th h = stays-blocked c (literal i ls) k s ps p (th ++ passed tb defs (At k s) (p ∷ ps)) (λ w g. ap (stuck true k p) g) h.0 h.1
      inside-is (p ∷ ps) c (location i) k s th h = stays-blocked c (location i) k s ps p (th ++ passed tb defs (At k s) (p ∷ ps)) (λ w g. ap (stuck true k p) g) h.0 h.1
      inside-is (p ∷ ps) c (definition n qs b) k s th h = stays-blocked c (definition n qs b) k s ps p (th ++ passed tb defs (At k s) (p ∷ ps)) (λ w g. ap (stuck true k p) g.1) h.0 h.1
      inside-is (p ∷ ps) c (parameter i q) k s th h = stays-blocked c (parameter i q) k s ps p (th ++ passed tb defs (At k s) (p ∷ ps)) (λ w g. ap (stuck true k p) g) h.0 h.1

      -- ---- whole names

      abbrev IsPlain : Reached → Type 0
      IsPlain (reached (d, e)) = passed_through d ≡ []
      IsPlain missing = Unit {0}
      IsPlain blocked = Unit {0}

      at-plain : (c : Component) (o : Option Entry) → passed_through c ≡ [] → IsPlain (at_entry c o)
      at-plain c None h = tt
      at-plain c (Some e) h = h

      or-plain : (r s : Reached) → IsPlain r → IsPlain s → IsPlain (or_outward r s)
      or-plain (reached x) s h g = h
      or-plain missing s h g = g
      or-plain blocked s h g = tt

      outward-plain : (c : Component) (k : ℕ) (x : Text) → IsBody t k c → IsPlain (outward c x)
      outward-plain (whole is) k x own = at-plain (whole is) (entry_named x (scope_of (whole is))) refl
      outward-plain (part o n b) k x own =
          let w = outer-of t tb.scopes table k (part o n b) own in
          or-plain (in_scope (part o n b) x) (outward o x) (at-plain (part o n b) (entry_named x (scope_of (part o n b))) (body-passes t tb.scopes table (part o n b) k own)) (outward-plain o w.1.0 x w.1.2)
      outward-plain (blank o n ps b) k x own =
          let w = outer-of t tb.scopes table k (blank o n ps b) own in
          or-plain (in_scope (blank o n ps b) x) (outward o x) (at-plain (blank o n ps b) (entry_named x (scope_of (blank o n ps b))) refl) (outward-plain o w.1.0 x w.1.2)
      outward-plain (copy o n ps b g i) k x own = absurd (outer-of t tb.scopes table k (copy o n ps b g i) own).1

      first-plain : (c : Component) (k : ℕ) (root : Bool) (x : Text) → IsBody t k c → IsPlain (first_reached c root x)
      first-plain c k true x own = at-plain (whole (specification_of c)) (entry_named x (scope_of (whole (specification_of c)))) refl
      first-plain c k false x own = outward-plain c k x own

      agrees-leads : (r : Reached) (l : Looked) → Agrees t r l → IsPlain r → Leads t r l []
      agrees-leads (reached (d, e)) (At k s) h g = (h.0, h.1, subst (λ (gs : List StandingInstance). Beside (IsPassed t) gs []) (sym g) tt)
      agrees-leads (reached (d, e)) Missing h g = absurd h
      agrees-leads (reached (d, e)) Blocked h g = absurd h
      agrees-leads missing (At k s) h g = absurd h
      agrees-leads missing Missing h g = tt
      agrees-leads missing Blocked h g = absurd h
      agrees-leads blocked (At k s) h g = absurd h
      agrees-leads blocked Missing h g = absurd h
      agrees-leads blocked Blocked h g = tt

      leads-finds : (r : Reached) (l : Looked) (th : List Slot) → Leads t r l th → Finds t r (as_found l th)
      leads-finds (reached (d, e)) (At k s) th h = record { body = h.0; slot = h.1; through = h.2 }
      leads-finds (reached (d, e)) Missing th h = absurd h
      leads-finds (reached (d, e)) Blocked th h = absurd h
      leads-finds missing (At k s) th h = absurd h
      leads-finds missing Missing th h = tt
      leads-finds missing Blocked th h = absurd h
      leads-finds blocked (At k s) th h = absurd h
      leads-finds blocked Missing th h = absurd h
      leads-finds blocked Blocked th h = tt

      parts-lead : (c : Component) (k : ℕ) → IsBody t k c → (p : Ident) (ps : List Ident) (root : Bool)
          → Leads t (go_on (λ x. inside x ps) (first_reached c root p.text)) (steps tb defs true (first_part tb root k p.text) ps) (passed tb defs (first_part tb root k p.text) ps)
      parts-lead c k own p ps root =
          inside-from ps (first_reached c root p.text) (first_part tb root k p.text) [] (agrees-leads (first_reached c root p.text) (first_part tb root k p.text) (first-is c k root p.text own) (first-plain c k root p.text own))
          (λ d e i r g. inside-is ps d e i r [] g)

      -- the sort of what is found, as the rules ask for it
      agrees-parts : (c : Component) (k : ℕ) → IsBody t k c → (ps : List Ident) (root : Bool) (at : ℕ) → Agrees t (found c (record { from_root = root; parts = ps; at = at })) (look tb defs true k (record { from_root = root; parts = ps; at = at }))
      agrees-parts c k own [] root at = tt
      agrees-parts c k own (p ∷ ps) root at =
          leads-agrees t (go_on (λ x. inside x ps) (first_reached c root p.text)) (steps tb defs true (first_part tb root k p.text) ps) (passed tb defs (first_part tb root k p.text) ps) (parts-lead c k own p ps root)

      pub found-is : (c : Component) (k : ℕ) (nm : Name) → IsBody t k c → Agrees t (found c nm) (look tb defs true k nm)
      found-is c k nm own = agrees-parts c k own nm.parts nm.from_root nm.at

      find-parts : (c : Component) (k : ℕ) → IsBody t k c → (ps : List Ident) (root : Bool) (at : ℕ) → Finds t (found c (record { from_root = root; parts = ps; at = at })) (find tb defs k (record { from_root = root; parts = ps; at = at }))
      find-parts c k own [] root at = tt
      find-parts c k own (p ∷ ps) root at =
          leads-finds (go_on (λ x. inside x ps) (first_reached c root p.text)) (steps tb defs true (first_part tb root k p.text) ps) (passed tb defs (first_part tb root k p.text) ps) (parts-lead c k own p ps root)

      pub finds-is : (c : Component) (k : ℕ) (nm : Name) → IsBody t k c → Finds t (found c nm) (find tb defs k nm)
      finds-is c k nm own = find-parts c k own nm.parts nm.from_root nm.at

-- what the search gives is what is found
pub result-finds : (s : Scopes) (k : ℕ) (nm : Name) (defs : Definitions) (r : Result (Option Found) Memory) → defs ≡ s.definitions → IfOk r (λ f. f ≡ find s.table defs k nm)
    → (t : Source) (c : Component) → AreNumbered t s → IsBody t k c → IfOk r (λ f. Finds t (found c nm) f)
result-finds s k nm defs (Ok f) e h t c are own =
    subst (λ g. Finds t (found c nm) g) (sym (h ∙ ap (λ ds. find s.table ds k nm) e)) (finds-is t s.table are.table are.indexed s.definitions are.definitions c k nm own)
result-finds s k nm defs (Err x) e h t c are own = tt
