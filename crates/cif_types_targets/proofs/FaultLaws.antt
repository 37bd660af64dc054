-- The first fault that is found is due, and where none is found no rule on assigned variables is broken.
use Rattle.std.proofs.Common.{◌≡◌, ℕ, ◌+◌, ◌<◌, true, inl, inr, List, [], ◌∷◌, ◌++◌, flat_map, refl, sym, ap, subst, ◌∙◌, Option, Some, None, arith}
use Rattle.std.specs.List.{Any}
use Rattle.std.proofs.lemmas.Grind.{flat_map-append}
use Rattle.cif_ast.specs.Tree.{UpdateTrees}
use Rattle.cif_ast.specs.declared.names.Name.{Name}
use Rattle.cif_system.specs.Words.{Member}
use Rattle.cif_system.proofs.Lists.{some-same, none-some}
use Rattle.cif_system.proofs.Distinct.{member-flat_map}
use Rattle.cif_system.proofs.Picks.{flat_map-member}
use Rattle.cif_source.specs.Source.{EdgeTree, LocationTree, SourceBody, group_body, automaton_body, Source, list_of_updates}
use Rattle.cif_source.specs.Components.{Component, body_of, Entry}
use Rattle.cif_source.specs.Lookup.{ScopeEntry, Reached, reached, missing, blocked, found}
use Rattle.cif_source.specs.Objects.{bodies, locs_in}
use Rattle.cif_source.specs.Uses.{variable_asked, is_asked}
use Rattle.cif_source.specs.BodyRules.{edges_of, targets_of, targets_of_all, lists_of, LeadsElsewhere, NotOwnDue, AssignsTwice, AssignedTwiceDue}
use Rattle.cif_scope.specs.declared.scopes.Scopes.{Scopes}
use Rattle.cif_scope.specs.Tables.{IsBody, Beside}
use Rattle.cif_scope.specs.Scopes.{IsEntry, AreScopesOf}
use Rattle.cif_scope.specs.Written.{WrittenBody, written_bodies}
use Rattle.cif_scope.proofs.Places.{Sits, sits-head, sits-tail, sits-whole}
use Rattle.cif_scope.proofs.DefinitionLaws.{IsWritten, bodies-written}
use Rattle.cif_types_targets.specs.declared.error.TargetErr.{TargetErr}
use Rattle.cif_types_targets.specs.declared.error.TargetErr.TheVariants.{NotOwn, AssignedTwice, Memory}
use Rattle.cif_types_targets.specs.Assigned.{AssignedName, numbered, assigned_by, location_lists, body_lists}
use Rattle.cif_types_targets.specs.Faults.{own_slot, list_fault, lists_fault, body_fault, faults_from, due}
use Rattle.cif_source.proofs.Elements.{from-any, to-any, from-contains, to-contains}
use Rattle.cif_types_targets.proofs.Elements.{places-before, before-places}
use Rattle.cif_types_targets.proofs.ListLaws.{or-none, or-told, Fits, all-fit, pairs, Twice, Strays, Breaks, told}
use Rattle.cif_types_targets.proofs.NumberLaws.{assigned-in, in-assigned, assigned-rising, assigned-among, among-assigned}
use Rattle.cif_types_targets.proofs.UseLaws.{body_targets, list-targets}
use Rattle.cif_types_targets.proofs.NameLaws.{reached-same, own-leads, leads-own}
use Rattle.cif_types_targets.proofs.BodyLaws.{slot-single, target-assigns}

-- ---- lists

edges-lists : (ls : List LocationTree) → flat_map lists_of (flat_map (λ (l : LocationTree). l.edges) ls) ≡ flat_map location_lists ls
edges-lists [] = refl
edges-lists (l ∷ ls) = flat_map-append lists_of l.edges (flat_map (λ (m : LocationTree). m.edges) ls) ∙ ap (λ us. location_lists l ++ us) (edges-lists ls)

in-lists : (b : SourceBody) → flat_map lists_of (flat_map (λ (l : LocationTree). l.edges) (locs_in b)) ≡ body_lists b
in-lists (group_body is) = refl
in-lists (automaton_body a) = edges-lists a.locs

lists-are : (c : Component) → flat_map lists_of (edges_of c) ≡ body_lists (body_of c)
lists-are c = in-lists (body_of c)

module _ (sc : Scopes) (k : ℕ) where
  lists-none : (ls : List UpdateTrees) (us : UpdateTrees) → lists_fault sc k ls ≡ None → Member us ls → list_fault sc k us ≡ None
  lists-none [] us h m = absurd m
  lists-none (vs ∷ ls) us h m =
      let both = or-none (list_fault sc k vs) (lists_fault sc k ls) h in
      elim m [
        | inl w ↦ ap (list_fault sc k) w ∙ both.0
        | inr w ↦ lists-none ls us both.1 w
      ]

  lists-told : (ls : List UpdateTrees) (e : TargetErr) → lists_fault sc k ls ≡ Some e → (us : UpdateTrees) × Member us ls × (list_fault sc k us ≡ Some e)
  lists-told [] e h = absurd (none-some e h)
  lists-told (vs ∷ ls) e h =
      elim (or-told (list_fault sc k vs) (lists_fault sc k ls) e h) [
        | inl w ↦ (vs, inl refl, w)
        | inr w ↦ let r = lists-told ls e w in (r.0, inr r.1, r.2)
      ]

  list-told : (us : UpdateTrees) (e : TargetErr) → list_fault sc k us ≡ Some e → Breaks sc k (assigned_by 0 us) e
  list-told us e h = told sc k (assigned_by 0 us) (assigned_by 0 us) [] e (λ b m. m) (assigned-rising us 0) (λ s i g. absurd (none-some i g)) h

-- ---- a body

-- a name that leads to an entry of the component does not lead elsewhere
stays-home : (c : Component) (r : Reached) (e : Entry) → r ≡ reached (c, e) → LeadsElsewhere c r → ⊥
stays-home c (reached p) e h n = n (ap (λ (z : ScopeEntry). z.0) (reached-same p (c, e) h))
stays-home c missing e h n = n
stays-home c blocked e h n = n

abbrev NotOwnIn : Component → ℕ → Type 0
NotOwnIn c at = Any (λ (nm : Name). (nm.at ≡ at) × LeadsElsewhere c (found c nm)) (body_targets c)

abbrev TwiceIn : Component → ℕ → Type 0
TwiceIn c at = Any (λ us. AssignsTwice c us at) (flat_map lists_of (edges_of c))

abbrev InBody : Component → TargetErr → Type 0
InBody c (NotOwn at) = NotOwnIn c at
InBody c (AssignedTwice at) = TwiceIn c at
InBody c Memory = Unit {0}

module _ (t : Source) (s : Scopes) (are : AreScopesOf t s) (c : Component) (k : ℕ) (own : IsBody t k c) where
  -- a name that is assigned in one of the lists is a target of the body
  list-target : (us : UpdateTrees) (a : AssignedName) → Member us (flat_map lists_of (edges_of c)) → Member a (assigned_by 0 us) → Member a.name (body_targets c)
  list-target us a l m = list-targets c us a.name l (assigned-among us 0 a m)

  elsewhere : (nm : Name) → Member nm (body_targets c) → own_slot s k nm ≡ None → LeadsElsewhere c (found c nm)
  elsewhere nm m h =
      let a = target-assigns t s are c k own nm m in
      subst (LeadsElsewhere c) (sym a.is) (λ same.
      let o = leads-own t s are.numbers c k own nm a.variable.1 (a.is ∙ ap (λ z. reached (z, a.variable.1)) same) in
      none-some o.0 (sym h ∙ o.1))

  stray-due : (us : UpdateTrees) (at : ℕ) → Member us (flat_map lists_of (edges_of c)) → Strays s k (assigned_by 0 us) at → NotOwnIn c at
  stray-due us at l w =
      let m = list-target us w.stray l w.inside in
      to-any (λ (nm : Name). (nm.at ≡ at) × LeadsElsewhere c (found c nm)) w.stray.name (body_targets c) m (w.here, elsewhere w.stray.name m w.is)

  -- two entries of one slot are one
  entry-single : (e f : Entry) (i : ℕ) → IsEntry c e i → IsEntry c f i → e ≡ f
  entry-single e f i g h = ap (λ x. x.1) (some-same (g.0, e) (h.0, f) (sym g.1 ∙ h.1))

  twice-due : (us : UpdateTrees) (at : ℕ) → Member us (flat_map lists_of (edges_of c)) → Twice s k (assigned_by 0 us) at → TwiceIn c at
  twice-due us at l w =
      let p = assigned-in us 0 w.earlier w.earlier_in in
      let q = assigned-in us 0 w.later w.later_in in
      let f = own-leads t s are.numbers c k own w.earlier.name w.slot w.earlier_is in
      let g = own-leads t s are.numbers c k own w.later.name w.slot w.later_is in
      let less : p.place < q.place = omega (arith, p.number, q.number, w.less) in
      to-any (λ vs. AssignsTwice c vs at) us (flat_map lists_of (edges_of c)) l (record {
        earlier = p.update;
        later = q.update;
        order = before-places p.update q.update (list_of_updates us) p.place q.place p.stands q.stands less;
        earlier_name = w.earlier.name;
        later_name = w.later.name;
        earlier_assigns = to-contains (targets_of p.update) w.earlier.name p.assigns;
        later_assigns = to-contains (targets_of q.update) w.later.name q.assigns;
        later_at = w.later_at;
        variable = (c, f.entry);
        earlier_found = f.is;
        later_found = g.is ∙ ap (λ e. reached (c, e)) (entry-single g.entry f.entry w.slot g.stands f.stands);
      })

  list-due : (us : UpdateTrees) (e : TargetErr) → Member us (flat_map lists_of (edges_of c)) → Breaks s k (assigned_by 0 us) e → InBody c e
  list-due us (NotOwn at) l w = stray-due us at l w
  list-due us (AssignedTwice at) l w = twice-due us at l w
  list-due us Memory l w = tt

  pub body-told : (e : TargetErr) → body_fault s k (body_of c) ≡ Some e → InBody c e
  body-told e h =
      let w = lists-told s k (body_lists (body_of c)) e h in
      list-due w.0 e (subst (Member w.0) (sym (lists-are c)) w.1) (list-told s k w.0 e w.2)

  -- ---- no fault

  abbrev Clear : Type 0
  Clear = body_fault s k (body_of c) ≡ None

  clear-list : Clear → (us : UpdateTrees) → Member us (flat_map lists_of (edges_of c)) → list_fault s k us ≡ None
  clear-list h us m = lists-none s k (body_lists (body_of c)) us h (subst (Member us) (lists-are c) m)

  -- the slot of a name that a list assigns
  fits-in : Clear → (us : UpdateTrees) (a : AssignedName) → Member us (flat_map lists_of (edges_of c)) → Member a (assigned_by 0 us) → Fits s k [] a
  fits-in h us a l m = all-fit s k (assigned_by 0 us) [] a (clear-list h us l) m

  own-list : (e : EdgeTree) → Member e (edges_of c) → Member e.updates (flat_map lists_of (edges_of c))
  own-list e m = flat_map-member lists_of e (edges_of c) e.updates m (inl refl)

  pub no-stray : Clear → (at : ℕ) → NotOwnIn c at → ⊥
  no-stray h at w =
      let nm = from-any (λ (n : Name). (n.at ≡ at) × LeadsElsewhere c (found c n)) (body_targets c) w in
      let e = member-flat_map (λ (d : EdgeTree). targets_of_all d.updates) nm.0 (edges_of c) nm.1 in
      let a = among-assigned e.0.updates 0 nm.0 e.2 in
      let f = fits-in h e.0.updates (numbered a.0 nm.0) (own-list e.0 e.1) a.1 in
      let o = own-leads t s are.numbers c k own nm.0 f.slot f.is in
      stays-home c (found c nm.0) o.entry o.is nm.2.1

  -- the slot of a name that leads to the variable
  variable-slot : (nm : Name) (v : ScopeEntry) (r : ℕ) → own_slot s k nm ≡ Some r → found c nm ≡ reached v → (v.0 ≡ c) × IsEntry c v.1 r
  variable-slot nm v r h f =
      let o = own-leads t s are.numbers c k own nm r h in
      let same : v ≡ (c, o.entry) = reached-same v (c, o.entry) (sym f ∙ o.is) in
      (ap (λ (z : ScopeEntry). z.0) same, subst (λ e. IsEntry c e r) (sym (ap (λ (z : ScopeEntry). z.1) same)) o.stands)

  pub no-twice : Clear → (at : ℕ) → TwiceIn c at → ⊥
  no-twice h at w =
      let us = from-any (λ vs. AssignsTwice c vs at) (flat_map lists_of (edges_of c)) w in
      let b = us.2 in
      let p = places-before b.earlier b.later (list_of_updates us.0) b.order in
      let first = in-assigned us.0 0 p.first b.earlier b.earlier_name p.first_is (from-contains (targets_of b.earlier) b.earlier_name b.earlier_assigns) in
      let second = in-assigned us.0 0 p.second b.later b.later_name p.second_is (from-contains (targets_of b.later) b.later_name b.later_assigns) in
      let f = fits-in h us.0 (numbered (0 + p.first) b.earlier_name) us.1 first in
      let g = fits-in h us.0 (numbered (0 + p.second) b.later_name) us.1 second in
      let x = variable-slot b.earlier_name b.variable f.slot f.is b.earlier_found in
      let y = variable-slot b.later_name b.variable g.slot g.is b.later_found in
      let a = target-assigns t s are c k own b.later_name (list-target us.0 (numbered (0 + p.second) b.later_name) us.1 second) in
      let asked : is_asked variable_asked b.variable.1 ≡ true = ap (λ (z : ScopeEntry). is_asked variable_asked z.1) (reached-same b.variable a.variable (sym b.later_found ∙ a.is)) ∙ a.asked in
      let one : f.slot ≡ g.slot = slot-single t s are c k own b.variable.1 f.slot g.slot asked x.1 y.1 in
      let same : 0 + p.first ≡ 0 + p.second = pairs s k (assigned_by 0 us.0) [] (numbered (0 + p.first) b.earlier_name) (numbered (0 + p.second) b.later_name) f.slot (clear-list h us.0 us.1) first second f.is (g.is ∙ ap Some (sym one)) in
      omega (arith, same, p.less)

-- ---- all bodies

module _ (t : Source) (s : Scopes) (are : AreScopesOf t s) where
  abbrev Told : List Component → TargetErr → Type 0
  Told cs e = (c : Component) × Member c cs × InBody c e

  bodies-told : (cs : List Component) (ws : List WrittenBody) (k : ℕ) (e : TargetErr) → Beside IsWritten cs ws → Sits (bodies t) k cs → faults_from s k ws ≡ Some e → Told cs e
  bodies-told [] [] k e h g f = absurd (none-some e f)
  bodies-told [] (w ∷ ws) k e h g f = absurd h
  bodies-told (c ∷ cs) [] k e h g f = absurd h
  bodies-told (c ∷ cs) (w ∷ ws) k e h g f =
      elim (or-told (body_fault s k w.body) (faults_from s (k + 1) ws) e f) [
        | inl n ↦ (c, inl refl, body-told t s are c k (sits-head (bodies t) k c cs g) e (ap (body_fault s k) h.0.1 ∙ n))
        | inr n ↦ let r = bodies-told cs ws (k + 1) e h.1 (sits-tail (bodies t) k c cs g) n in (r.0, inr r.1, r.2)
      ]

  abbrev IsClear : Component → Type 0
  IsClear c = (k : ℕ) × IsBody t k c × (body_fault s k (body_of c) ≡ None)

  bodies-none : (cs : List Component) (ws : List WrittenBody) (k : ℕ) → Beside IsWritten cs ws → Sits (bodies t) k cs → faults_from s k ws ≡ None → (c : Component) → Member c cs → IsClear c
  bodies-none [] ws k h g f c m = absurd m
  bodies-none (d ∷ cs) [] k h g f c m = absurd h
  bodies-none (d ∷ cs) (w ∷ ws) k h g f c m =
      let both = or-none (body_fault s k w.body) (faults_from s (k + 1) ws) f in
      elim m [
        | inl n ↦ subst IsClear (sym n) (k, sits-head (bodies t) k d cs g, ap (body_fault s k) h.0.1 ∙ both.0)
        | inr n ↦ bodies-none cs ws (k + 1) h.1 (sits-tail (bodies t) k d cs g) both.1 c n
      ]

  told-due : (e : TargetErr) → Told (bodies t) e → due t e
  told-due (NotOwn at) w = to-any (λ c. NotOwnIn c at) w.0 (bodies t) w.1 w.2
  told-due (AssignedTwice at) w = to-any (λ c. TwiceIn c at) w.0 (bodies t) w.1 w.2
  told-due Memory w = tt

  pub fault-due : (f : Option TargetErr) (e : TargetErr) → f ≡ faults_from s 0 (written_bodies t) → f ≡ Some e → due t e
  fault-due f e h g = told-due e (bodies-told (bodies t) (written_bodies t) 0 e (bodies-written t) (sits-whole (bodies t)) (sym h ∙ g))

  clear : (f : Option TargetErr) → f ≡ faults_from s 0 (written_bodies t) → f ≡ None → (c : Component) → Member c (bodies t) → IsClear c
  clear f h g = bodies-none (bodies t) (written_bodies t) 0 (bodies-written t) (sits-whole (bodies t)) (sym h ∙ g)

  pub none-own : (f : Option TargetErr) → f ≡ faults_from s 0 (written_bodies t) → f ≡ None → (at : ℕ) → NotOwnDue t at → ⊥
  none-own f h g at w =
      let c = from-any (λ d. NotOwnIn d at) (bodies t) w in
      let k = clear f h g c.0 c.1 in
      no-stray t s are c.0 k.0 k.1 k.2 at c.2

  pub none-twice : (f : Option TargetErr) → f ≡ faults_from s 0 (written_bodies t) → f ≡ None → (at : ℕ) → AssignedTwiceDue t at → ⊥
  none-twice f h g at w =
      let c = from-any (λ d. TwiceIn d at) (bodies t) w in
      let k = clear f h g c.0 c.1 in
      no-twice t s are c.0 k.0 k.1 k.2 at c.2
