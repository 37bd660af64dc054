-- Bodies are written, belong to the specification, and are no deeper than there are bodies before them.
use Rattle.std.proofs.Common.{◌≡◌, ℕ, zero, suc, ◌+◌, ◌<◌, ◌≤◌, List, [], ◌∷◌, ◌++◌, length, refl, ap, subst, arith, Option, Some}
use Rattle.std.specs.Prelude.{slice_get}
use Rattle.cif_system.proofs.Lists.{some-same, none-some}
use Rattle.cif_source.specs.Source.{SourceItem, decl_item, component_item, definition_item, instance_item, SourceBody, group_body, automaton_body, Source, no_source, source}
use Rattle.cif_source.specs.Components.{Component, whole, part, blank, copy, as_written, specification_of, scope_of}
use Rattle.cif_source.specs.Objects.{bodies, bodies_in, bodies_at, bodies_under}
use Rattle.cif_source.specs.Slots.{passed_through}
use Rattle.cif_scope.specs.declared.scope.Scope.{Scope}
use Rattle.cif_scope.specs.Tables.{IsBody, IsScope, IsOuter, IsTable}
use Rattle.cif_scope.proofs.Places.{beside-at, beside-length}

-- ---- depth

abbrev pub height : Component → ℕ
height (whole is) = 0
height (part c n b) = suc (height c)
height (blank c n ps b) = suc (height c)
height (copy c n ps b g i) = suc (height c)

-- components from place m on, of which each is no deeper than its place
abbrev Low : ℕ → List Component → Type 0
Low m [] = Unit {0}
Low m (c ∷ cs) = (height c ≤ m) × Low (m + 1) cs

low-append : (m : ℕ) (cs ds : List Component) → Low m cs → Low (m + length cs) ds → Low m (cs ++ ds)
low-append m [] ds h g = let e : m + 0 ≡ m = omega arith in subst (λ k. Low k ds) e g
low-append m (c ∷ cs) ds h g = let e : m + suc (length cs) ≡ (m + 1) + length cs = omega arith in (h.0, low-append (m + 1) cs ds h.1 (subst (λ k. Low k ds) e g))

mutual
  low-in : (m : ℕ) (c : Component) (is : Source) → height c < m → Low m (bodies_in c is)
  low-in m c no_source h = tt
  low-in m c (source i is) h =
      let less : height c < m + length (bodies_at c i) = omega arith in
      low-append m (bodies_at c i) (bodies_in c is) (low-at m c i h) (low-in (m + length (bodies_at c i)) c is less)

  low-at : (m : ℕ) (c : Component) (i : SourceItem) → height c < m → Low m (bodies_at c i)
  low-at m c (decl_item d) h = tt
  low-at m c (component_item n b) h = let here : suc (height c) ≤ m = omega arith in let less : suc (height c) < m + 1 = omega arith in (here, low-under (m + 1) (part c n b) b less)
  low-at m c (definition_item n ps b) h = let here : suc (height c) ≤ m = omega arith in let less : suc (height c) < m + 1 = omega arith in (here, low-under (m + 1) (blank c n ps b) b less)
  low-at m c (instance_item i) h = tt

  low-under : (m : ℕ) (c : Component) (b : SourceBody) → height c < m → Low m (bodies_under c b)
  low-under m c (group_body is) h = low-in m c is h
  low-under m c (automaton_body a) h = tt

low-get : (m k : ℕ) (cs : List Component) (c : Component) → Low m cs → slice_get cs k ≡ Some c → height c < m + length cs
low-get m k [] c h g = absurd (none-some c g)
low-get m zero (d ∷ cs) c h g = let e : height d ≡ height c = ap height (some-same d c g) in let l : height d ≤ m = h.0 in omega arith
low-get m (suc k) (d ∷ cs) c h g = let l : height c < (m + 1) + length cs = low-get (m + 1) k cs c h.1 g in omega arith

pub body-height : (t : Source) (k : ℕ) (c : Component) → IsBody t k c → height c < length (bodies t)
body-height t k c h =
    let one : 0 < 1 = omega arith in
    let none : 0 ≤ 0 = omega arith in
    let less : height c < 0 + length (bodies t) = low-get 0 k (bodies t) c (none, low-in 1 (whole t) t one) h in
    omega arith

-- ---- as written

pub scope-written : (c : Component) → scope_of (as_written c) ≡ scope_of c
scope-written (whole is) = refl
scope-written (part o n b) = refl
scope-written (blank o n ps b) = refl
scope-written (copy o n ps b g i) = refl

pub root-written : (c : Component) → specification_of (as_written c) ≡ specification_of c
root-written (whole is) = refl
root-written (part o n b) = root-written o
root-written (blank o n ps b) = root-written o
root-written (copy o n ps b g i) = root-written o

module _ (t : Source) (scopes : List Scope) (table : IsTable t scopes) where
  pub row-of : (k : ℕ) (c : Component) → IsBody t k c → (s : Scope) × (slice_get scopes k ≡ Some s) × IsScope t c s
  row-of k c h = beside-at (IsScope t) (bodies t) scopes k c table h

  pub outer-of : (k : ℕ) (c : Component) → IsBody t k c → (o : Option ℕ) × IsOuter t c o
  outer-of k c h = let r = row-of k c h in (r.0.outer, r.2.outer)

  pub body-written : (c : Component) (k : ℕ) → IsBody t k c → as_written c ≡ c
  body-written (whole is) k h = refl
  body-written (part o n b) k h = let w = outer-of k (part o n b) h in ap (λ d. part d n b) (body-written o w.1.0 w.1.2)
  body-written (blank o n ps b) k h = let w = outer-of k (blank o n ps b) h in ap (λ d. blank d n ps b) (body-written o w.1.0 w.1.2)
  body-written (copy o n ps b g i) k h = absurd (outer-of k (copy o n ps b g i) h).1

  pub body-root : (c : Component) (k : ℕ) → IsBody t k c → specification_of c ≡ t
  body-root (whole is) k h = (outer-of k (whole is) h).1.1
  body-root (part o n b) k h = let w = outer-of k (part o n b) h in body-root o w.1.0 w.1.2
  body-root (blank o n ps b) k h = let w = outer-of k (blank o n ps b) h in body-root o w.1.0 w.1.2
  body-root (copy o n ps b g i) k h = absurd (outer-of k (copy o n ps b g i) h).1

  -- no instance is passed on the way to a body
  pub body-passes : (c : Component) (k : ℕ) → IsBody t k c → passed_through c ≡ []
  body-passes (whole is) k h = refl
  body-passes (part o n b) k h = let w = outer-of k (part o n b) h in body-passes o w.1.0 w.1.2
  body-passes (blank o n ps b) k h = refl
  body-passes (copy o n ps b g i) k h = absurd (outer-of k (copy o n ps b g i) h).1

  pub table-height : (k : ℕ) (c : Component) → IsBody t k c → height c < length scopes
  table-height k c h = let l : length scopes ≡ length (bodies t) = beside-length (IsScope t) (bodies t) scopes table in let less : height c < length (bodies t) = body-height t k c h in omega arith
