-- The marked bodies are those of the components of a source.
use Rattle.std.proofs.Common.{◌≡◌, ℕ, zero, suc, ◌<◌, ◌≤◌, Bool, true, false, not, ◌||◌, ◌⊎◌, inl, inr, List, [], ◌∷◌, length, map, refl, sym, ap, subst, ◌∙◌, arith, Option, Some, None}
use Rattle.std.specs.Prelude.{slice_get, slice_set, replicate}
use Rattle.std.specs.List.{list_all, list_any}
use Rattle.std.proofs.lemmas.List.{length-replicate}
use Rattle.cif_ast.specs.declared.names.Ident.{Ident}
use Rattle.cif_system.specs.Words.{Member, AreDistinct}
use Rattle.cif_system.proofs.Lists.{false-true, slice_get-below}
use Rattle.cif_system.proofs.Picks.{at-member}
use Rattle.cif_order.proofs.Lists.{same-or-other, written-same, written-other}
use Rattle.cif_source.specs.Source.{Text, Source}
use Rattle.cif_source.specs.Components.{Component, as_written, path_of, scope_of, body_of, params_of, body_entries, param_entries, Entries, same_text}
use Rattle.cif_source.specs.Objects.{components_of, most_objects, bodies}
use Rattle.cif_source.specs.BodyRules.{NotConstantDue}
use Rattle.cif_scope.specs.declared.scopes.Scopes.{Scopes}
use Rattle.cif_scope.specs.Tables.{IsBody, Beside, IsScope}
use Rattle.cif_scope.specs.Scopes.{AreNumbered}
use Rattle.cif_scope.proofs.Places.{beside-at, beside-back, beside-length}
use Rattle.cif_scope.proofs.BodyLaws.{body-written}
use Rattle.cif_scope.proofs.LookLaws.{get-map, same-text}
use Rattle.cif_inst_model.proofs.KeptLaws.{has_twice}
use Rattle.cif_inst_model.proofs.PathLaws.{names, names-append, not-twice-right}
use Rattle.cif_inst_model.proofs.BodyLaws.{is_single, paths-distinct}
use Rattle.cif_inst_model.proofs.RuleLaws.{all-from}
use Rattle.cif_inst_components.specs.declared.components.Component.{Component as Row}
use Rattle.cif_inst_components.specs.declared.components.Components.{Components}
use Rattle.cif_inst_components.specs.Numbers.{IsComponent, AreComponentsOf}
use Rattle.cif_inst_components.proofs.FindSingle.{texts, scope-distinct, place-single}
use Rattle.cif_resolve_cycles.proofs.Graphs.{member-at}
use Rattle.cif_inst_constants.specs.Used.{or_false, is_used, mark_at, marked_to, used_bodies}

-- ---- bodies stand once

text-member : (x : Text) (es : Entries) → list_any (λ (n : Ident). same_text x n.text) (names es) ≡ true → Member x (texts es)
text-member x [] h = absurd (false-true refl h)
text-member x (e ∷ es) h =
    (elim (same_text x e.0.text) as (λ b. same_text x e.0.text ≡ b → (b || list_any (λ (n : Ident). same_text x n.text) (names es)) ≡ true → Member x (texts (e ∷ es))) [
      | true ↦ λ same g. inl (same-text x e.0.text same)
      | false ↦ λ same g. inr (text-member x es g)
    ]) refl h

not-twice : (es : Entries) → AreDistinct (texts es) → has_twice (names es) ≡ false
not-twice [] h = refl
not-twice (e ∷ es) h =
    (elim (list_any (λ (n : Ident). same_text e.0.text n.text) (names es)) as (λ b. list_any (λ (n : Ident). same_text e.0.text n.text) (names es) ≡ b → (b || has_twice (names es)) ≡ false) [
      | true ↦ λ again. absurd (h.0 (text-member e.0.text es again))
      | false ↦ λ once. not-twice es h.1
    ]) refl

module _ (t : Source) (s : Scopes) (are : AreNumbered t s) where
  single : (k : ℕ) (c : Component) → IsBody t k c → has_twice (names (body_entries (body_of c))) ≡ false
  single k c own =
      not-twice-right (names (param_entries (params_of c))) (names (body_entries (body_of c)))
      (ap has_twice (sym (names-append (param_entries (params_of c)) (body_entries (body_of c))))
      ∙ not-twice (scope_of c) (scope-distinct t s.table c k are.table are.indexed (own ∙ ap Some (sym (body-written t s.table.scopes are.table c k own)))))

  all-single : list_all is_single (bodies t) ≡ true
  all-single = all-from is_single (bodies t) (λ c m. let at = member-at (bodies t) c m in ap not (single at.0 c at.1))

  number-single : (c : Component) (j k : ℕ) → IsBody t j c → IsBody t k c → j ≡ k
  number-single c j k h g = place-single (path_of c) (map path_of (bodies t)) j k (paths-distinct t all-single) (get-map path_of (bodies t) j c h) (get-map path_of (bodies t) k c g)

-- ---- marks

mark-long : (used : List Bool) (k : ℕ) → length (slice_set used k true) ≡ length used
mark-long [] k = refl
mark-long (b ∷ used) zero = refl
mark-long (b ∷ used) (suc k) = ap suc (mark-long used k)

set-kept : (used : List Bool) (k j : ℕ) → is_used used j ≡ true → is_used (slice_set used k true) j ≡ true
set-kept [] k j h = h
set-kept (b ∷ used) zero zero h = refl
set-kept (b ∷ used) zero (suc j) h = h
set-kept (b ∷ used) (suc k) zero h = h
set-kept (b ∷ used) (suc k) (suc j) h = set-kept used k j h

set-here : (used : List Bool) (k : ℕ) → k < length used → is_used (slice_set used k true) k ≡ true
set-here used k l = ap or_false (written-same used k true l)

set-only : (used : List Bool) (k j : ℕ) → is_used (slice_set used k true) j ≡ true → (is_used used j ≡ true) ⊎ (k ≡ j)
set-only used k j h =
    elim (same-or-other j k) [
      | inl e ↦ inr (sym e)
      | inr e ↦ inl (ap or_false (sym (written-other used k j true e)) ∙ h)
    ]

none-marked : (n k : ℕ) → is_used (replicate n false) k ≡ false
none-marked zero k = refl
none-marked (suc n) zero = refl
none-marked (suc n) (suc k) = none-marked n k

module _ (all : List Row) (marks : List Bool) where
  mark-kept : (used : List Bool) (o : Option Row) (k : ℕ) → is_used used k ≡ true → is_used (mark_at used o) k ≡ true
  mark-kept used None k h = h
  mark-kept used (Some r) k h = set-kept used r.body k h

  mark_at-long : (used : List Bool) (o : Option Row) → length (mark_at used o) ≡ length used
  mark_at-long used None = refl
  mark_at-long used (Some r) = mark-long used r.body

  marked-long : (n : ℕ) → length (marked_to all marks n) ≡ length marks
  marked-long zero = refl
  marked-long (suc n) = mark_at-long (marked_to all marks n) (slice_get all n) ∙ marked-long n

  marked-here : (n i : ℕ) (r : Row) → i < n → slice_get all i ≡ Some r → r.body < length marks → is_used (marked_to all marks n) r.body ≡ true
  marked-here zero i r l h g = absurd (omega arith)
  marked-here (suc n) i r l h g =
      elim (same-or-other i n) [
        | inl e ↦
            let inside : r.body < length (marked_to all marks n) = let long = marked-long n in omega (arith, g, long) in
            ap (λ o. is_used (mark_at (marked_to all marks n) o) r.body) (ap (slice_get all) (sym e) ∙ h) ∙ set-here (marked_to all marks n) r.body inside
        | inr e ↦ mark-kept (marked_to all marks n) (slice_get all n) r.body (marked-here n i r (omega (arith, l, e)) h g)
      ]

  marked-only : (n k : ℕ) → is_used (marked_to all marks n) k ≡ true → (is_used marks k ≡ true) ⊎ ((r : Row) × Member r all × (r.body ≡ k))
  marked-only zero k h = inl h
  marked-only (suc n) k h =
      (elim (slice_get all n) as (λ o. slice_get all n ≡ o → is_used (mark_at (marked_to all marks n) o) k ≡ true → (is_used marks k ≡ true) ⊎ ((r : Row) × Member r all × (r.body ≡ k))) [
        | None ↦ λ at g. marked-only n k g
        | Some r ↦ λ at g. elim (set-only (marked_to all marks n) r.body k g) [
          | inl i ↦ marked-only n k i
          | inr e ↦ inr (r, at-member all n r at, e)
        ]
      ]) refl h

-- ---- the bodies of components

-- a source that keeps the rule on constants, its scopes, and the bodies of its components, which are marked
pub record IsMarked (t : Source) (s : Scopes) (used : List Bool) : Type 0 where
  pub numbers : AreNumbered t s
  pub few : length (components_of t) ≤ most_objects
  pub constancy : (at : ℕ) → NotConstantDue t at → ⊥
  pub own : List ℕ
  pub beside : Beside (λ (c : Component) (k : ℕ). IsBody t k (as_written c)) (components_of t) own
  pub each : (k : ℕ) (c : Component) → Member c (components_of t) → IsBody t k (as_written c) → is_used used k ≡ true
  pub only : (k : ℕ) → is_used used k ≡ true → Member k own

-- a marked body is that of a component
pub marked-component : (t : Source) (s : Scopes) (used : List Bool) → IsMarked t s used → (k : ℕ) → is_used used k ≡ true → (c : Component) × Member c (components_of t) × IsBody t k (as_written c)
marked-component t s used are k h =
    let at = member-at are.own k (are.only k h) in
    let c = beside-back (λ (c : Component) (k : ℕ). IsBody t k (as_written c)) (components_of t) are.own at.0 k are.beside at.1 in
    (c.0, at-member (components_of t) at.0 c.0 c.1, c.2)

abbrev own_body : Row → ℕ
own_body r = r.body

beside-bodies : (t : Source) (cs : List Component) (rs : List Row) → Beside (IsComponent t) cs rs → Beside (λ (c : Component) (k : ℕ). IsBody t k (as_written c)) cs (map own_body rs)
beside-bodies t [] [] h = tt
beside-bodies t [] (r ∷ rs) h = absurd h
beside-bodies t (c ∷ cs) [] h = absurd h
beside-bodies t (c ∷ cs) (r ∷ rs) h = (h.0.body, beside-bodies t cs rs h.1)

body-member : (r : Row) (rs : List Row) (k : ℕ) → Member r rs → r.body ≡ k → Member k (map own_body rs)
body-member r [] k m e = absurd m
body-member r (q ∷ rs) k m e = elim m [ inl w ↦ inl (sym e ∙ ap own_body w) | inr w ↦ inr (body-member r rs k w e) ]

pub bodies-marked : (t : Source) (s : Scopes) (cs : Components) → AreNumbered t s → AreComponentsOf t cs → ((at : ℕ) → NotConstantDue t at → ⊥) → IsMarked t s (used_bodies s cs)
bodies-marked t s cs are all constancy =
    let marks : List Bool = replicate (length s.table.scopes) false in
    record {
      numbers = are;
      few = all.few;
      constancy = constancy;
      own = map own_body cs.all;
      beside = beside-bodies t (components_of t) cs.all all.all;
      each = λ k c listed own.
          let i = member-at (components_of t) c listed in
          let r = beside-at (IsComponent t) (components_of t) cs.all i.0 c all.all i.1 in
          let same : r.0.body ≡ k = number-single t s are (as_written c) r.0.body k r.2.body own in
          let inside : r.0.body < length marks =
          let below = slice_get-below (bodies t) r.0.body (as_written c) r.2.body in
          let long = beside-length (IsScope t) (bodies t) s.table.scopes are.table in
          let whole : length marks ≡ length s.table.scopes = length-replicate (length s.table.scopes) false in
          omega (arith, below, long, whole) in
          subst (λ j. is_used (used_bodies s cs) j ≡ true) same (marked-here cs.all marks (length cs.all) i.0 r.0 (slice_get-below cs.all i.0 r.0 r.1) r.1 inside);
      only = λ k h. elim (marked-only cs.all marks (length cs.all) k h) [
        | inl g ↦ absurd (false-true (none-marked (length s.table.scopes) k) g)
        | inr r ↦ body-member r.0 cs.all k r.1 r.2
      ];
    }
