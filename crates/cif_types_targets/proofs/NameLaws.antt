-- Where a name leads without passing an instance, and that one which passes an instance leads elsewhere.
use Rattle.std.proofs.Common.{◌≡◌, ℕ, Bool, true, false, cond, List, [], ◌∷◌, ◌++◌, map, refl, sym, ap, subst, ◌∙◌, Option, Some, None}
use Rattle.std.specs.Prelude.{nat_eq}
use Rattle.std.proofs.lemmas.List.{map-append}
use Rattle.cif_system.specs.Words.{Member, AreDistinct}
use Rattle.cif_system.proofs.Lists.{some-same, none-some}
use Rattle.cif_ast.specs.declared.names.Ident.{Ident}
use Rattle.cif_ast.specs.declared.names.Name.{Name}
use Rattle.cif_source.specs.Source.{Text, InstanceTree, Source}
use Rattle.cif_source.specs.Components.{Component, whole, part, copy, as_written, body_of, params_of, body_entries, param_entries, scope_of, specification_of, Entry, declared, literal, location, inner, definition, instance, parameter, entry_named, path_of}
use Rattle.cif_source.specs.Lookup.{ScopeEntry, Reached, reached, missing, blocked, at_entry, in_scope, in_body, go_on, outward, looked_up, inside_written, inside, opened, opened_at, in_opened, definition_found, found}
use Rattle.cif_source.specs.Objects.{bodies}
use Rattle.cif_source.specs.Slots.{passed_through}
use Rattle.cif_scope.specs.declared.looked.Looked.{Looked}
use Rattle.cif_scope.specs.declared.looked.Looked.TheVariants.{At, Missing, Blocked}
use Rattle.cif_scope.specs.declared.scopes.Scopes.{Scopes}
use Rattle.cif_scope.specs.Tables.{IsBody}
use Rattle.cif_scope.specs.Looks.{look}
use Rattle.cif_scope.specs.Scopes.{IsEntry, AreNumbered}
use Rattle.cif_scope.proofs.BodyLaws.{row-of, body-written, body-passes}
use Rattle.cif_scope.proofs.LookLaws.{Agrees, beside-texts, get-map}
use Rattle.cif_scope.proofs.WrittenLaws.{written, looked-written}
use Rattle.cif_scope.proofs.FindLaws.{written-is}
use Rattle.cif_types_targets.specs.Faults.{own_at, own_slot}
use Rattle.cif_source.proofs.Elements.{member-at}
use Rattle.cif_types_targets.proofs.Elements.{place-single}
use Rattle.cif_types_targets.proofs.MarkLaws.{number-same, number-self}
use Rattle.cif_types_targets.proofs.PathLaws.{texts, distinct-right, IsSingle, paths-distinct}

-- ---- through components as written, and through instances

pub reached-same : (p q : ScopeEntry) → reached p ≡ reached q → p ≡ q
reached-same p q h = cc

missing-not : (p : ScopeEntry) → missing ≡ reached p → ⊥
missing-not p h = cc

blocked-not : (p : ScopeEntry) → blocked ≡ reached p → ⊥
blocked-not p h = cc

-- further parts lead there through instances too
further-found : (ps : List Ident) (x p : ScopeEntry) → inside_written x ps ≡ reached p → inside x ps ≡ reached p
further-found [] x p h = h
further-found (q ∷ ps) (c, inner n b) p h = go (in_body (part c n b) q.text) h (λ y. further-found ps y p)
  where
    go : (r : Reached) → go_on (λ y. inside_written y ps) r ≡ reached p → ((y : ScopeEntry) → inside_written y ps ≡ reached p → inside y ps ≡ reached p) → go_on (λ y. inside y ps) r ≡ reached p
    go (reached y) g ih = ih y g
    go missing g ih = absurd (missing-not p g)
    go blocked g ih = absurd (blocked-not p g)
further-found (q ∷ ps) (c, declared d) p h = absurd (blocked-not p h)
further-found (q ∷ ps) (c, literal k ls) p h = absurd (blocked-not p h)
further-found (q ∷ ps) (c, location k) p h = absurd (blocked-not p h)
further-found (q ∷ ps) (c, definition n rs b) p h = absurd (blocked-not p h)
further-found (q ∷ ps) (c, instance i) p h = absurd (blocked-not p h)
further-found (q ∷ ps) (c, parameter k r) p h = absurd (blocked-not p h)

abbrev NotEmpty : {A : Type 0} → List A → Type 0
NotEmpty xs = xs ≡ [] → ⊥

push-not : {A : Type 0} (xs : List A) (x : A) → NotEmpty (xs ++ x ∷ [])
push-not [] x h = cc
push-not (y ∷ xs) x h = cc

-- an instance that is opened was passed
opened-passes : (c d : Component) (i : InstanceTree) (r : Reached) → opened_at c i r ≡ Some d → NotEmpty (passed_through d)
opened-passes c d i (reached (o, definition n ps b)) h g = push-not (passed_through c) (c, i) (ap passed_through (some-same (copy o n ps b c i) d h) ∙ g)
opened-passes c d i (reached (o, declared x)) h g = none-some d h
opened-passes c d i (reached (o, literal k ls)) h g = none-some d h
opened-passes c d i (reached (o, location k)) h g = none-some d h
opened-passes c d i (reached (o, inner n b)) h g = none-some d h
opened-passes c d i (reached (o, instance j)) h g = none-some d h
opened-passes c d i (reached (o, parameter k p)) h g = none-some d h
opened-passes c d i missing h g = none-some d h
opened-passes c d i blocked h g = none-some d h

-- what an entry of d leads to
abbrev StillPasses : List Ident → ScopeEntry → Component → Type 0
StillPasses ps p d = (e : Entry) → inside (d, e) ps ≡ reached p → NotEmpty (passed_through p.0)

through-body : (ps : List Ident) (p : ScopeEntry) (d : Component) (o : Option Entry) → StillPasses ps p d → go_on (λ y. inside y ps) (at_entry d o) ≡ reached p → NotEmpty (passed_through p.0)
through-body ps p d None ih g = absurd (missing-not p g)
through-body ps p d (Some e) ih g = ih e g

through-opened : (ps : List Ident) (p : ScopeEntry) (c : Component) (i : InstanceTree) (x : Text) (o : Option Component) → opened c i ≡ o → ((d : Component) → NotEmpty (passed_through d) → StillPasses ps p d)
    → go_on (λ y. inside y ps) (in_opened o x) ≡ reached p → NotEmpty (passed_through p.0)
through-opened ps p c i x None f ih g = absurd (missing-not p g)
through-opened ps p c i x (Some d) f ih g = through-body ps p d (entry_named x (body_entries (body_of d))) (ih d (opened-passes c d i (definition_found c i) f)) g

-- once an instance is passed, it stays passed
still-passes : (ps : List Ident) (p : ScopeEntry) (d : Component) → NotEmpty (passed_through d) → StillPasses ps p d
still-passes [] p d n e h = subst (λ (z : ScopeEntry). NotEmpty (passed_through z.0)) (reached-same (d, e) p h) n
still-passes (q ∷ ps) p d n (inner m b) h = through-body ps p (part d m b) (entry_named q.text (body_entries b)) (still-passes ps p (part d m b) n) h
still-passes (q ∷ ps) p d n (instance i) h = through-opened ps p d i q.text (opened d i) refl (still-passes ps p) h
still-passes (q ∷ ps) p d n (declared x) h = absurd (blocked-not p h)
still-passes (q ∷ ps) p d n (literal k ls) h = absurd (blocked-not p h)
still-passes (q ∷ ps) p d n (location k) h = absurd (blocked-not p h)
still-passes (q ∷ ps) p d n (definition m rs b) h = absurd (blocked-not p h)
still-passes (q ∷ ps) p d n (parameter k r) h = absurd (blocked-not p h)

-- where none was passed, they lead there through components as written
further-written : (ps : List Ident) (x p : ScopeEntry) → passed_through p.0 ≡ [] → inside x ps ≡ reached p → inside_written x ps ≡ reached p
further-written [] x p n h = h
further-written (q ∷ ps) (c, inner m b) p n h = go (in_body (part c m b) q.text) h (λ y. further-written ps y p n)
  where
    go : (r : Reached) → go_on (λ y. inside y ps) r ≡ reached p → ((y : ScopeEntry) → inside y ps ≡ reached p → inside_written y ps ≡ reached p) → go_on (λ y. inside_written y ps) r ≡ reached p
    go (reached y) g ih = ih y g
    go missing g ih = absurd (missing-not p g)
    go blocked g ih = absurd (blocked-not p g)
further-written (q ∷ ps) (c, instance i) p n h = absurd (through-opened ps p c i q.text (opened c i) refl (still-passes ps p) h n)
further-written (q ∷ ps) (c, declared d) p n h = absurd (blocked-not p h)
further-written (q ∷ ps) (c, literal k ls) p n h = absurd (blocked-not p h)
further-written (q ∷ ps) (c, location k) p n h = absurd (blocked-not p h)
further-written (q ∷ ps) (c, definition m rs b) p n h = absurd (blocked-not p h)
further-written (q ∷ ps) (c, parameter k r) p n h = absurd (blocked-not p h)

-- ---- whole names

from-first : (f g : ScopeEntry → Reached) (r : Reached) (p : ScopeEntry) → ((y : ScopeEntry) → f y ≡ reached p → g y ≡ reached p) → go_on f r ≡ reached p → go_on g r ≡ reached p
from-first f g (reached y) p ih h = ih y h
from-first f g missing p ih h = absurd (missing-not p h)
from-first f g blocked p ih h = absurd (blocked-not p h)

written-found : (c : Component) (nm : Name) (p : ScopeEntry) → looked_up inside_written c nm ≡ reached p → found c nm ≡ reached p
written-found c nm p h = go nm.parts nm.from_root nm.at h
  where
    go : (ps : List Ident) (root : Bool) (at : ℕ) → looked_up inside_written c (record { from_root = root; parts = ps; at = at }) ≡ reached p → found c (record { from_root = root; parts = ps; at = at }) ≡ reached p
    go [] root at g = absurd (missing-not p g)
    go (q ∷ ps) root at g = from-first (λ y. inside_written y ps) (λ y. inside y ps) (elim root [ true ↦ in_scope (whole (specification_of c)) q.text | false ↦ outward c q.text ]) p (λ y. further-found ps y p) g

found-written : (c : Component) (nm : Name) (p : ScopeEntry) → passed_through p.0 ≡ [] → found c nm ≡ reached p → looked_up inside_written c nm ≡ reached p
found-written c nm p n h = go nm.parts nm.from_root nm.at h
  where
    go : (ps : List Ident) (root : Bool) (at : ℕ) → found c (record { from_root = root; parts = ps; at = at }) ≡ reached p → looked_up inside_written c (record { from_root = root; parts = ps; at = at }) ≡ reached p
    go [] root at g = absurd (missing-not p g)
    go (q ∷ ps) root at g = from-first (λ y. inside y ps) (λ y. inside_written y ps) (elim root [ true ↦ in_scope (whole (specification_of c)) q.text | false ↦ outward c q.text ]) p (λ y. further-written ps y p n) g

module _ (t : Source) (s : Scopes) (are : AreNumbered t s) where
  -- ---- bodies stand once

  pub scope-single : (k : ℕ) (c : Component) → IsBody t k c → AreDistinct (texts (scope_of c))
  scope-single k c own =
      let r = row-of t s.table.scopes are.table k c own in
      subst (λ (l : List Text). AreDistinct l) (beside-texts t c (scope_of c) r.0.names r.2.names) (are.indexed.distinct k r.0 r.1)

  all-single : (d : Component) → Member d (bodies t) → IsSingle d
  all-single d m =
      let k = member-at d (bodies t) m in
      distinct-right (texts (param_entries (params_of d))) (texts (body_entries (body_of d)))
      (subst (λ (l : List Text). AreDistinct l) (map-append (λ (e : Ident × Entry). e.0.text) (param_entries (params_of d)) (body_entries (body_of d))) (scope-single k.0 d k.1))

  pub number-is : (c : Component) (j k : ℕ) → IsBody t j c → IsBody t k c → j ≡ k
  number-is c j k f g = place-single (path_of c) (map path_of (bodies t)) j k (paths-distinct t all-single) (get-map path_of (bodies t) j c f) (get-map path_of (bodies t) k c g)

  -- ---- the own slot

  module _ (c : Component) (k : ℕ) (own : IsBody t k c) where
    looked : (nm : Name) → Agrees t (looked_up inside_written c nm) (look s.table s.definitions false k nm)
    looked nm = written-is t s.table are.table are.indexed s.definitions c k nm own

    is-written : as_written c ≡ c
    is-written = body-written t s.table.scopes are.table c k own

    -- what a name leads to is as written
    stays-written : (nm : Name) (d : Component) (e : Entry) → looked_up inside_written c nm ≡ reached (d, e) → as_written d ≡ d
    stays-written nm d e h =
        let same : reached (as_written d, e) ≡ reached (d, e) = sym (ap written h) ∙ looked-written c nm ∙ ap (λ z. looked_up inside_written z nm) is-written ∙ h in
        ap (λ (z : ScopeEntry). z.0) (reached-same (as_written d, e) (d, e) same)

    -- the name leads to an entry of the body itself, in that slot
    pub record LeadsTo (nm : Name) (r : ℕ) : Type 0 where
      pub entry : Entry
      pub is : found c nm ≡ reached (c, entry)
      pub stands : IsEntry c entry r

    own-parts : (l : Looked) (r : ℕ) → own_at k l ≡ Some r → l ≡ At k r
    own-parts Missing r h = absurd (none-some r h)
    own-parts Blocked r h = absurd (none-some r h)
    own-parts (At j m) r h = go (nat_eq j k) refl h
      where
        go : (b : Bool) → nat_eq j k ≡ b → cond b (Some m) None ≡ Some r → At j m ≡ At k r
        go true e g = ap (λ z. At z m) (number-same j k e) ∙ ap (At k) (some-same m r g)
        go false e g = absurd (none-some r g)

    pub own-leads : (nm : Name) (r : ℕ) → own_slot s k nm ≡ Some r → LeadsTo nm r
    own-leads nm r h = go (looked_up inside_written c nm) refl (subst (Agrees t (looked_up inside_written c nm)) (own-parts (look s.table s.definitions false k nm) r h) (looked nm))
      where
        go : (q : Reached) → looked_up inside_written c nm ≡ q → Agrees t q (At k r) → LeadsTo nm r
        go missing e a = absurd a
        go blocked e a = absurd a
        go (reached (d, x)) e a =
            let same : d ≡ c = sym (stays-written nm d x e) ∙ some-same (as_written d) c (sym a.0 ∙ own) in
            record { entry = x; is = written-found c nm (d, x) e ∙ ap (λ z. reached (z, x)) same; stands = subst (λ z. IsEntry z x r) same a.1 }

    -- a name that leads to an entry of the body itself has a slot
    pub leads-own : (nm : Name) (e : Entry) → found c nm ≡ reached (c, e) → (r : ℕ) × (own_slot s k nm ≡ Some r)
    leads-own nm e h = go (look s.table s.definitions false k nm) refl (subst (λ q. Agrees t q (look s.table s.definitions false k nm)) (found-written c nm (c, e) (body-passes t s.table.scopes are.table c k own) h) (looked nm))
      where
        go : (l : Looked) → look s.table s.definitions false k nm ≡ l → Agrees t (reached (c, e)) l → (r : ℕ) × (own_at k l ≡ Some r)
        go Missing f a = absurd a
        go Blocked f a = absurd a
        go (At j r) f a =
            let same : j ≡ k = number-is c j k (subst (λ z. IsBody t j z) is-written a.0) own in
            (r, ap (λ z. cond (nat_eq z k) (Some r) None) same ∙ ap (λ b. cond b (Some r) None) (number-self k))
