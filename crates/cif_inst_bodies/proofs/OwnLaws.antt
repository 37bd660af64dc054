-- A name that leads from a body as written to that body leads from the component to that component: no name leads from one
-- instance to another without passing it. So assigned variables are those of the component, and are assigned once.
use Rattle.std.proofs.Common.{◌≡◌, ℕ, suc, ◌≤◌, Bool, true, false, ◌⊎◌, inl, inr, List, [], ◌∷◌, Some, None, refl, sym, ◌∙◌, ap, subst, arith}
use Rattle.std.specs.Prelude.{flat_map}
use Rattle.std.specs.List.{Any}
use Rattle.cif_ast.specs.Tree.{UpdateTrees}
use Rattle.cif_ast.specs.declared.names.Ident.{Ident}
use Rattle.cif_ast.specs.declared.names.Name.{Name}
use Rattle.cif_system.specs.Words.{Member}
use Rattle.cif_system.proofs.Lists.{false-true}
use Rattle.cif_system.proofs.Picks.{flat_map-member}
use Rattle.cif_source.specs.Source.{Text, EdgeTree, SourceBody, InstanceTree, Source}
use Rattle.cif_source.specs.Components.{Component, whole, part, blank, copy, specification_of, as_written, Entry, declared, literal, location, inner, definition, instance, parameter}
use Rattle.cif_source.specs.Lookup.{ScopeEntry, Reached, reached, missing, blocked, in_scope, go_on, or_outward, outward, definition_found, opened, in_opened, passed, inside, found}
use Rattle.cif_source.specs.Objects.{bodies}
use Rattle.cif_source.specs.BodyRules.{edges_of, targets_of_all, LeadsElsewhere, NotOwnDue, lists_of, AssignsTwice, AssignedTwiceDue}
use Rattle.cif_source.proofs.ReachLaws.{reached-same}
use Rattle.cif_inst_model.proofs.RuleLaws.{member-any}
use Rattle.cif_inst_bodies.specs.Alike.{AreWrittenAlike, AreAlike}
use Rattle.cif_inst_bodies.proofs.Alike.{written, twice, root-written, outward-written, passed-same, alike-places, names-alike}
use Rattle.cif_inst_bodies.proofs.Entries.{in_body-is, in_scope-is}
use Rattle.cif_inst_bodies.proofs.ArgumentLaws.{opened_at-is}

-- ---- frames

-- how many components it is written in
abbrev depth : Component → ℕ
depth (whole is) = 0
depth (part o n b) = suc (depth o)
depth (blank o n ps b) = suc (depth o)
depth (copy o n ps b g i) = suc (depth o)

depth-written : (c : Component) → depth (as_written c) ≡ depth c
depth-written (whole is) = refl
depth-written (part o n b) = ap suc (depth-written o)
depth-written (blank o n ps b) = ap suc (depth-written o)
depth-written (copy o n ps b g i) = ap suc (depth-written o)

depth-same : (c d : Component) → AreWrittenAlike c d → depth c ≡ depth d
depth-same c d h = sym (depth-written c) ∙ ap depth h ∙ depth-written d

-- f is c, or a component in which c is written
abbrev IsFrame : Component → Component → Type 0
IsFrame f (whole is) = whole is ≡ f
IsFrame f (part o n b) = (part o n b ≡ f) ⊎ IsFrame f o
IsFrame f (blank o n ps b) = (blank o n ps b ≡ f) ⊎ IsFrame f o
IsFrame f (copy o n ps b g i) = (copy o n ps b g i ≡ f) ⊎ IsFrame f o

frame-step : (c o f : Component) → depth c ≡ suc (depth o) → depth f ≤ depth o → depth f ≡ depth c → ⊥
frame-step c o f h k g = omega (arith, h, k, g)

frame-depth : (f c : Component) → IsFrame f c → depth f ≤ depth c
frame-depth f (whole is) h = omega (arith, ap depth h)
frame-depth f (part o n b) h = elim h [ inl w ↦ omega (arith, ap depth w) | inr v ↦ omega (arith, frame-depth f o v) ]
frame-depth f (blank o n ps b) h = elim h [ inl w ↦ omega (arith, ap depth w) | inr v ↦ omega (arith, frame-depth f o v) ]
frame-depth f (copy o n ps b g i) h = elim h [ inl w ↦ omega (arith, ap depth w) | inr v ↦ omega (arith, frame-depth f o v) ]

-- a frame of the same depth is the component
same-frame : (f c : Component) → IsFrame f c → depth f ≡ depth c → c ≡ f
same-frame f (whole is) h e = h
same-frame f (part o n b) h e = elim h [ inl w ↦ w | inr v ↦ absurd (frame-step (part o n b) o f refl (frame-depth f o v) e) ]
same-frame f (blank o n ps b) h e = elim h [ inl w ↦ w | inr v ↦ absurd (frame-step (blank o n ps b) o f refl (frame-depth f o v) e) ]
same-frame f (copy o n ps b g i) h e = elim h [ inl w ↦ w | inr v ↦ absurd (frame-step (copy o n ps b g i) o f refl (frame-depth f o v) e) ]

-- x is f, or written in it through components that are written where they stand
abbrev IsOver : Component → Component → Type 0
IsOver f (whole is) = whole is ≡ f
IsOver f (part o n b) = (part o n b ≡ f) ⊎ IsOver f o
IsOver f (blank o n ps b) = blank o n ps b ≡ f
IsOver f (copy o n ps b g i) = copy o n ps b g i ≡ f

over-depth : (f x : Component) → IsOver f x → depth f ≤ depth x
over-depth f (whole is) h = omega (arith, ap depth h)
over-depth f (part o n b) h = elim h [ inl w ↦ omega (arith, ap depth w) | inr v ↦ omega (arith, over-depth f o v) ]
over-depth f (blank o n ps b) h = omega (arith, ap depth h)
over-depth f (copy o n ps b g i) h = omega (arith, ap depth h)

over-self : (f : Component) → IsOver f f
over-self (whole is) = refl
over-self (part o n b) = inl refl
over-self (blank o n ps b) = refl
over-self (copy o n ps b g i) = refl

abbrev outer_part : Component → Component → Component
outer_part c (part o n b) = o
outer_part c _ = c

abbrev name_part : Ident → Component → Ident
name_part m (part o n b) = n
name_part m _ = m

abbrev body_part : SourceBody → Component → SourceBody
body_part d (part o n b) = b
body_part d _ = d

frame-one : (x c f : Component) → x ≡ f → IsFrame f c → AreWrittenAlike x c → x ≡ c
frame-one x c f e frame same = e ∙ sym (same-frame f c frame (sym (ap depth e) ∙ depth-same x c same))

part-one : (o : Component) (n : Ident) (b : SourceBody) (c f : Component) → IsOver f o → IsFrame f c → AreWrittenAlike (part o n b) c
    → ((p : Component) → IsFrame f p → AreWrittenAlike o p → o ≡ p) → part o n b ≡ c
part-one o n b (whole is) f over frame same more = cc
part-one o n b (blank p m qs d) f over frame same more = cc
part-one o n b (copy p m qs d g i) f over frame same more = cc
part-one o n b (part p m d) f over frame same more =
    elim frame [
      | inl u ↦
          let deep : suc (depth o) ≡ suc (depth p) = depth-same (part o n b) (part p m d) same in
          absurd (omega (arith, deep, ap depth u, over-depth f o over))
      | inr u ↦ λ i. part (more p u (ap (outer_part (as_written o)) same) i) (ap (name_part n) same i) (ap (body_part b) same i)
    ]

-- over a frame of c there is one component that is written as c
over-one : (x c f : Component) → IsOver f x → IsFrame f c → AreWrittenAlike x c → x ≡ c
over-one (whole is) c f over frame same = frame-one (whole is) c f over frame same
over-one (blank o n ps b) c f over frame same = frame-one (blank o n ps b) c f over frame same
over-one (copy o n ps b g i) c f over frame same = frame-one (copy o n ps b g i) c f over frame same
over-one (part o n b) c f over frame same =
    elim over [
      | inl w ↦ frame-one (part o n b) c f w frame same
      | inr v ↦ part-one o n b c f v frame same (λ p u s. over-one o p f v u s)
    ]

-- ---- names that pass no instance

-- it stands in no instance that a name has passed
abbrev is_straight : Component → Bool
is_straight (whole is) = true
is_straight (part o n b) = is_straight o
is_straight (blank o n ps b) = is_straight o
is_straight (copy o n ps b g i) = false

straight-written : (c : Component) → is_straight (as_written c) ≡ true
straight-written (whole is) = refl
straight-written (part o n b) = straight-written o
straight-written (blank o n ps b) = straight-written o
straight-written (copy o n ps b g i) = straight-written o

passed-alike : (c d : Component) (e : Entry) (s : Text) → AreWrittenAlike c d → AreAlike (passed (c, e) s) (passed (d, e) s)
passed-alike c d e s h = alike-places (passed (c, e) s) (passed (d, e) s) (passed-same c e s ∙ ap (λ w. written (passed (w, e) s)) h ∙ sym (passed-same d e s))

module _ (c : Component) where
  -- where the name as written leads to y, and passes no instance, it leads from c to a component over a frame of c
  abbrev Follows : Component → Component → Type 0
  Follows x y = is_straight y ≡ true → (f : Component) × IsOver f x × IsFrame f c

  opened-bent : (y : Component) (i : InstanceTree) (s : Text) (v : ScopeEntry) → in_opened (opened y i) s ≡ reached v → is_straight v.0 ≡ false
  opened-bent y i s v h =
      (elim (opened y i) as (λ o. opened y i ≡ o → in_opened o s ≡ reached v → is_straight v.0 ≡ false) [
        | None ↦ λ j k. cc
        | Some q ↦ λ j k. ap is_straight ((in_body-is q s v k).0 ∙ (opened_at-is y i (definition_found y i) q j).is_copy)
      ]) refl h

  step-follows : (e : Entry) (x y : Component) (s : Text) (z v : ScopeEntry) → Follows x y → passed (x, e) s ≡ reached z → passed (y, e) s ≡ reached v → Follows z.0 v.0
  step-follows (inner n b) x y s z v follows h k = λ straight.
      let to = (in_body-is (part x n b) s z h).0 in
      let f = follows (sym (ap is_straight (in_body-is (part y n b) s v k).0) ∙ straight) in
      (f.0, subst (IsOver f.0) (sym to) (inr f.1), f.2)
  step-follows (instance i) x y s z v follows h k = λ straight. absurd (false-true (opened-bent y i s v k) straight)
  step-follows (declared d) x y s z v follows h k = cc
  step-follows (literal j ls) x y s z v follows h k = cc
  step-follows (location j) x y s z v follows h k = cc
  step-follows (definition n ps b) x y s z v follows h k = cc
  step-follows (parameter j p) x y s z v follows h k = cc

  -- further parts of a name keep it so
  abbrev Keeps : List Ident → Type 0
  Keeps ps = (z v : ScopeEntry) → AreWrittenAlike z.0 v.0 → z.1 ≡ v.1 → Follows z.0 v.0 → (x y : ScopeEntry) → inside z ps ≡ reached x → inside v ps ≡ reached y → Follows x.0 y.0

  go-follows : (ps : List Ident) → Keeps ps → (r s : Reached) → AreAlike r s → ((z v : ScopeEntry) → r ≡ reached z → s ≡ reached v → Follows z.0 v.0)
      → (x y : ScopeEntry) → go_on (λ q. inside q ps) r ≡ reached x → go_on (λ q. inside q ps) s ≡ reached y → Follows x.0 y.0
  go-follows ps keeps (reached z) (reached v) a first x y h k = keeps z v a.0 a.1 (first z v refl refl) x y h k
  go-follows ps keeps (reached z) missing a first x y h k = absurd a
  go-follows ps keeps (reached z) blocked a first x y h k = absurd a
  go-follows ps keeps missing s a first x y h k = cc
  go-follows ps keeps blocked s a first x y h k = cc

  inside-follows : (ps : List Ident) → Keeps ps
  inside-follows [] z v a e follows x y h k = λ straight.
      let f = follows (ap (λ (q : ScopeEntry). is_straight q.0) (reached-same v y k) ∙ straight) in
      (f.0, subst (λ (q : ScopeEntry). IsOver f.0 q.0) (reached-same z x h) f.1, f.2)
  inside-follows (p ∷ ps) z v a e follows x y h k =
      go-follows ps (inside-follows ps) (passed (z.0, z.1) p.text) (passed (v.0, z.1) p.text) (passed-alike z.0 v.0 z.1 p.text a)
      (λ q u i j. step-follows z.1 z.0 v.0 p.text q u follows i j) x y h
      (ap (λ f. go_on (λ q. inside q ps) (passed (v.0, f) p.text)) e ∙ k)

  or-frame : (d o : Component) → ((s : Text) (x : ScopeEntry) → outward o s ≡ reached x → IsFrame x.0 o) → (s : Text) (x : ScopeEntry) → or_outward (in_scope d s) (outward o s) ≡ reached x → (d ≡ x.0) ⊎ IsFrame x.0 o
  or-frame d o up s x h =
      (elim (in_scope d s) as (λ r. in_scope d s ≡ r → or_outward r (outward o s) ≡ reached x → (d ≡ x.0) ⊎ IsFrame x.0 o) [
        | reached z ↦ λ i k. inl (sym (in_scope-is d s x (i ∙ k)).0)
        | missing ↦ λ i k. inr (up s x k)
        | blocked ↦ λ i k. cc
      ]) refl h

  outward-frame : (d : Component) (s : Text) (x : ScopeEntry) → outward d s ≡ reached x → IsFrame x.0 d
  outward-frame (whole is) s x h = sym (in_scope-is (whole is) s x h).0
  outward-frame (part o n b) s x h = or-frame (part o n b) o (outward-frame o) s x h
  outward-frame (blank o n ps b) s x h = or-frame (blank o n ps b) o (outward-frame o) s x h
  outward-frame (copy o n ps b g i) s x h = or-frame (copy o n ps b g i) o (outward-frame o) s x h

  root-frame : (d : Component) → IsFrame (whole (specification_of d)) d
  root-frame (whole is) = refl
  root-frame (part o n b) = inr (root-frame o)
  root-frame (blank o n ps b) = inr (root-frame o)
  root-frame (copy o n ps b g i) = inr (root-frame o)

  abbrev name_of : Bool → List Ident → ℕ → Name
  name_of r ps at = record { from_root = r; parts = ps; at = at }

  parts-follow : (r : Bool) (ps : List Ident) (at : ℕ) (x y : ScopeEntry) → found c (name_of r ps at) ≡ reached x → found (as_written c) (name_of r ps at) ≡ reached y → Follows x.0 y.0
  parts-follow true [] at x y h k = cc
  parts-follow false [] at x y h k = cc
  parts-follow true (p ∷ ps) at x y h k =
      go-follows ps (inside-follows ps) (in_scope (whole (specification_of c)) p.text) (in_scope (whole (specification_of (as_written c))) p.text)
      (alike-places (in_scope (whole (specification_of c)) p.text) (in_scope (whole (specification_of (as_written c))) p.text) (ap (λ s. written (in_scope (whole s) p.text)) (sym (root-written c))))
      (λ z v i j straight. (z.0, over-self z.0, subst (λ d. IsFrame d c) (sym (in_scope-is (whole (specification_of c)) p.text z i).0) (root-frame c))) x y h k
  parts-follow false (p ∷ ps) at x y h k =
      go-follows ps (inside-follows ps) (outward c p.text) (outward (as_written c) p.text)
      (alike-places (outward c p.text) (outward (as_written c) p.text) (outward-written c p.text ∙ ap (λ w. outward w p.text) (sym (twice c)) ∙ sym (outward-written (as_written c) p.text)))
      (λ z v i j straight. (z.0, over-self z.0, outward-frame c p.text z i)) x y h k

-- a name that leads elsewhere from a component does so in the component as written
elsewhere-by : (c : Component) (nm : Name) (r s : Reached) → found c nm ≡ r → found (as_written c) nm ≡ s → AreAlike r s → LeadsElsewhere c r → LeadsElsewhere (as_written c) s
elsewhere-by c nm (reached x) (reached y) h k a away = λ home.
    let f = parts-follow c nm.from_root nm.parts nm.at x y h k (ap is_straight home ∙ straight-written c) in
    away (over-one x.0 c f.0 f.1 f.2 (a.0 ∙ ap as_written home ∙ twice c))
elsewhere-by c nm (reached x) missing h k a away = absurd a
elsewhere-by c nm (reached x) blocked h k a away = absurd a
elsewhere-by c nm missing s h k a away = absurd away
elsewhere-by c nm blocked s h k a away = absurd away

pub elsewhere-written : (c : Component) (nm : Name) → LeadsElsewhere c (found c nm) → LeadsElsewhere (as_written c) (found (as_written c) nm)
elsewhere-written c nm away = elsewhere-by c nm (found c nm) (found (as_written c) nm) refl refl (names-alike c (as_written c) nm (sym (twice c))) away

-- ---- assigned variables

edges-written : (c : Component) → edges_of (as_written c) ≡ edges_of c
edges-written (whole is) = refl
edges-written (part o n b) = refl
edges-written (blank o n ps b) = refl
edges-written (copy o n ps b g i) = refl

module _ (t : Source) (own : (at : ℕ) → NotOwnDue t at → ⊥) (c : Component) (w : Member (as_written c) (bodies t)) (e : EdgeTree) (m : Member e (edges_of c)) where
  edge-written : Member e (edges_of (as_written c))
  edge-written = subst (Member e) (sym (edges-written c)) m

  stays : (nm : Name) → Member nm (targets_of_all e.updates) → LeadsElsewhere (as_written c) (found (as_written c) nm) → ⊥
  stays nm k away =
      own nm.at (member-any (λ d. Any (λ (x : Name). (x.at ≡ nm.at) × LeadsElsewhere d (found d x)) (flat_map (λ (f : EdgeTree). targets_of_all f.updates) (edges_of d))) (as_written c) (bodies t) w
      (member-any (λ (x : Name). (x.at ≡ nm.at) × LeadsElsewhere (as_written c) (found (as_written c) x)) nm (flat_map (λ (f : EdgeTree). targets_of_all f.updates) (edges_of (as_written c)))
      (flat_map-member (λ (f : EdgeTree). targets_of_all f.updates) e (edges_of (as_written c)) nm edge-written k) (refl, away)))

  -- a variable that an edge assigns is declared in its component
  pub assigned-own : (nm : Name) → Member nm (targets_of_all e.updates) → LeadsElsewhere c (found c nm) → ⊥
  assigned-own nm k away = stays nm k (elsewhere-written c nm away)

  module _ (once : (at : ℕ) → AssignedTwiceDue t at → ⊥) (us : UpdateTrees) (k : Member us (lists_of e)) (at : ℕ) (a : AssignsTwice c us at) where
    twice-written : (x y : ScopeEntry) → found (as_written c) a.earlier_name ≡ reached x → found (as_written c) a.later_name ≡ reached y → x ≡ y → ⊥
    twice-written x y f g same =
        once at (member-any (λ d. Any (λ vs. AssignsTwice d vs at) (flat_map lists_of (edges_of d))) (as_written c) (bodies t) w
        (member-any (λ vs. AssignsTwice (as_written c) vs at) us (flat_map lists_of (edges_of (as_written c))) (flat_map-member lists_of e (edges_of (as_written c)) us edge-written k)
        (record {
          earlier = a.earlier;
          later = a.later;
          order = a.order;
          earlier_name = a.earlier_name;
          later_name = a.later_name;
          earlier_assigns = a.earlier_assigns;
          later_assigns = a.later_assigns;
          later_at = a.later_at;
          variable = y;
          earlier_found = f ∙ ap reached same;
          later_found = g;
        })))

    -- two names that lead to one variable from c lead to one from c as written, or one of them leads elsewhere
    both : (r s : Reached) → found (as_written c) a.earlier_name ≡ r → found (as_written c) a.later_name ≡ s → AreAlike (reached a.variable) r → AreAlike (reached a.variable) s
        → (LeadsElsewhere (as_written c) r → ⊥) → (LeadsElsewhere (as_written c) s → ⊥) → ⊥
    both (reached x) (reached y) f g p q here there =
        here (λ i. there (λ j. twice-written x y f g (let place : x.0 ≡ y.0 = i ∙ sym j in let entry : x.1 ≡ y.1 = sym p.1 ∙ q.1 in λ l. (place l, entry l))))
    both (reached x) missing f g p q here there = absurd q
    both (reached x) blocked f g p q here there = absurd q
    both missing s f g p q here there = absurd p
    both blocked s f g p q here there = absurd p

    alike-to : (nm : Name) → found c nm ≡ reached a.variable → AreAlike (reached a.variable) (found (as_written c) nm)
    alike-to nm h = subst (λ r. AreAlike r (found (as_written c) nm)) h (names-alike c (as_written c) nm (sym (twice c)))

    -- no two updates of one list assign one variable
    pub assigned-once : Member a.earlier_name (targets_of_all e.updates) → Member a.later_name (targets_of_all e.updates) → ⊥
    assigned-once x y =
        both (found (as_written c) a.earlier_name) (found (as_written c) a.later_name) refl refl (alike-to a.earlier_name a.earlier_found) (alike-to a.later_name a.later_found)
        (stays a.earlier_name x) (stays a.later_name y)
