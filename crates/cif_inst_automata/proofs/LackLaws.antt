-- In one automaton an event outside the alphabet is found where the rule on alphabets is broken, and none where it is kept.
use Rattle.std.proofs.Common.{◌≡◌, ℕ, suc, ◌+◌, ◌⊎◌, Bool, true, false, cond, inl, inr, List, [], ◌∷◌, ◌++◌, map, Option, Some, None, refl, sym, ◌∙◌, ap, subst, arith}
use Rattle.std.specs.Prelude.{not, flat_map, slice_get, unwrap_or, IsTrue, if◌then◌else◌}
use Rattle.std.specs.List.{Any, enumerate_from, position_or_len}
use Rattle.std.proofs.lemmas.List.{map-append}
use Rattle.std.proofs.lemmas.Grind.{flat_map-append}
use Rattle.cif_ast.specs.declared.names.Name.{Name}
use Rattle.cif_system.specs.Words.{Member}
use Rattle.cif_system.proofs.Lists.{some-same, none-some}
use Rattle.cif_system.proofs.Picks.{append-left, append-right}
use Rattle.cif_system.proofs.Distinct.{member-append}
use Rattle.cif_net_model.specs.Facts.{has}
use Rattle.cif_source.specs.Source.{UseTree, EdgeTree, LocationTree, AutomatonTree, automaton_body, Source}
use Rattle.cif_source.specs.Components.{Component, body_of}
use Rattle.cif_source.specs.Objects.{components_of, locs_of, locs_in, EventEdge, event_edges, edges_of_uses}
use Rattle.cif_system.specs.System.{syncing}
use Rattle.cif_system.specs.Step.{same_role}
use Rattle.cif_source.specs.Step.{role_of, synchronises}
use Rattle.cif_source.specs.InstanceRules as rules
use Rattle.cif_source.specs.InstanceRules.{synchronised_name, is_lacking}
use Rattle.cif_inst_model.specs.Flat.{event_number, net_edge}
use Rattle.cif_inst_model.proofs.SystemLaws.{alphabet-same}
use Rattle.cif_inst_model.proofs.RuleLaws.{member-any}
use Rattle.cif_inst_names.specs.Looking.{component_at}
use Rattle.cif_inst_names.specs.declared.looking.Looking.{Looking}
use Rattle.cif_inst_automata.specs.Edges.{automaton_edges}
use Rattle.cif_inst_automata.specs.Alphabets.{name_places, use_place, edge_places, location_places, synced_events, alphabet_for, monitors_by, monitors_for, is_outside, first_failing, or_later, automaton_lacks}
use Rattle.cif_inst_paths.proofs.SoundLaws.{IsSound}
use Rattle.cif_inst_paths.proofs.EventNameLaws.{Numbered}
use Rattle.cif_inst_automata.proofs.AlphabetLaws.{role_names, role-numbered, monitor-numbered, roles-are, alphabet-is}

-- ---- the first that fails

abbrev named_fails : (ℕ → Bool) → (Name → ℕ) → Name → Bool
named_fails p f nm = p (f nm)

later : (p : ℕ → Bool) (x y : ℕ) (xs ys : List ℕ) → slice_get (y ∷ ys) (1 + position_or_len p xs) ≡ first_failing p xs ys
later p x y xs ys = ap (slice_get (y ∷ ys)) (let e : 1 + position_or_len p xs ≡ suc (position_or_len p xs) = omega arith in e)

first-told : (p : ℕ → Bool) (f : Name → ℕ) (nms : List Name) (at : ℕ) → first_failing p (map f nms) (name_places nms) ≡ Some at → (nm : Name) × Member nm nms × (nm.at ≡ at) × (p (f nm) ≡ true)
first-told p f [] at h = absurd (none-some at h)
first-told p f (nm ∷ nms) at h =
    (elim (p (f nm)) as (λ b. p (f nm) ≡ b → slice_get (nm.at ∷ name_places nms) (cond (not b) (1 + position_or_len p (map f nms)) 0) ≡ Some at → (x : Name) × Member x (nm ∷ nms) × (x.at ≡ at) × (p (f x) ≡ true)) [
      | true ↦ λ e g. (nm, inl refl, some-same nm.at at g, e)
      | false ↦ λ e g. let rest = first-told p f nms at (sym (later p (f nm) nm.at (map f nms) (name_places nms)) ∙ g) in (rest.0, inr rest.1, rest.2, rest.3)
    ]) refl h

none-fails : (p : ℕ → Bool) (f : Name → ℕ) (nms : List Name) → first_failing p (map f nms) (name_places nms) ≡ None → (nm : Name) → Member nm nms → p (f nm) ≡ false
none-fails p f [] h nm m = absurd m
none-fails p f (x ∷ nms) h nm m =
    (elim (p (f x)) as (λ b. p (f x) ≡ b → slice_get (x.at ∷ name_places nms) (cond (not b) (1 + position_or_len p (map f nms)) 0) ≡ None → p (f nm) ≡ false) [
      | true ↦ λ e g. absurd (none-some x.at (sym g))
      | false ↦ λ e g. elim m [
        | inl w ↦ ap (λ y. p (f y)) w ∙ e
        | inr w ↦ none-fails p f nms (sym (later p (f x) x.at (map f nms) (name_places nms)) ∙ g) nm w
      ]
    ]) refl h

-- ---- one of two

pub or-told : (o r : Option ℕ) (at : ℕ) → or_later o r ≡ Some at → (o ≡ Some at) ⊎ (r ≡ Some at)
or-told None r at h = inr h
or-told (Some x) r at h = inl h

pub or-first : (o r : Option ℕ) → or_later o r ≡ None → o ≡ None
or-first None r h = refl
or-first (Some x) r h = h

pub or-second : (o r : Option ℕ) → or_later o r ≡ None → r ≡ None
or-second None r h = h
or-second (Some x) r h = absurd (none-some x (sym h))

-- ---- the names of edges

abbrev edges_from : ℕ → List LocationTree → List EventEdge
edges_from j ls = flat_map (λ (l : ℕ × LocationTree). flat_map (edges_of_uses l.0) l.1.edges) (enumerate_from j ls)

-- where the names of edges that synchronise stand
synced-places : (ws : List EventEdge) (us : List UseTree) → us ≡ map (λ (w : EventEdge). w.event_use) ws → flat_map use_place us ≡ name_places (flat_map synchronised_name ws)
synced-places [] us is = ap (flat_map use_place) is
synced-places (w ∷ ws) us is =
    ap (flat_map use_place) is
    ∙ ap (λ xs. use_place w.event_use ++ xs) (synced-places ws (map (λ (w : EventEdge). w.event_use) ws) refl)
    ∙ (elim (same_role syncing (role_of w.event_use.role)) as (λ b. (if b then w.event_use.name.at ∷ [] else []) ++ name_places (flat_map synchronised_name ws)
    ≡ name_places ((if b then w.event_use.name ∷ [] else []) ++ flat_map synchronised_name ws)) [
      | true ↦ refl
      | false ↦ refl
    ])

uses-places : (from : ℕ) (e : EdgeTree) → edge_places e ≡ name_places (flat_map synchronised_name (edges_of_uses from e))
uses-places from e = synced-places (edges_of_uses from e) e.uses (same e.uses)
  where
    same : (us : List UseTree) → us ≡ map (λ (w : EventEdge). w.event_use) (map (λ u. record { from = from; event_use = u; edge = e }) us)
    same [] = refl
    same (u ∷ us) = ap (λ vs. u ∷ vs) (same us)

-- those of two lists of edges stand one behind the other
joined-places : (vs ws : List EventEdge) → name_places (flat_map synchronised_name vs) ++ name_places (flat_map synchronised_name ws) ≡ name_places (flat_map synchronised_name (vs ++ ws))
joined-places vs ws =
    sym (map-append (λ (nm : Name). nm.at) (flat_map synchronised_name vs) (flat_map synchronised_name ws))
    ∙ ap name_places (sym (flat_map-append synchronised_name vs ws))

edges-places : (from : ℕ) (es : List EdgeTree) → flat_map edge_places es ≡ name_places (flat_map synchronised_name (flat_map (edges_of_uses from) es))
edges-places from [] = refl
edges-places from (e ∷ es) =
    ap (λ xs. xs ++ flat_map edge_places es) (uses-places from e)
    ∙ ap (λ xs. name_places (flat_map synchronised_name (edges_of_uses from e)) ++ xs) (edges-places from es)
    ∙ joined-places (edges_of_uses from e) (flat_map (edges_of_uses from) es)

locations-places : (j : ℕ) (ls : List LocationTree) → flat_map location_places ls ≡ name_places (flat_map synchronised_name (edges_from j ls))
locations-places j [] = refl
locations-places j (l ∷ ls) =
    ap (λ xs. xs ++ flat_map location_places ls) (edges-places j l.edges)
    ∙ ap (λ xs. name_places (flat_map synchronised_name (flat_map (edges_of_uses j) l.edges)) ++ xs) (locations-places (j + 1) ls)
    ∙ joined-places (flat_map (edges_of_uses j) l.edges) (edges_from (j + 1) ls)

-- ---- one automaton

-- the names there that denote events outside the alphabet
abbrev pub asked_names : Component → List Name
asked_names c = flat_map synchronised_name (event_edges c) ++ rules.monitored_in (body_of c)

abbrev pub LacksAt : ℕ → Component → Type 0
LacksAt at c = Any (λ (nm : Name). (nm.at ≡ at) × IsTrue (is_lacking c nm)) (asked_names c)

module _ (l : Looking) (k : ℕ) (t : Source) (h : IsSound t) (m : Member (component_at l k) (components_of t)) (a : AutomatonTree) (e : body_of (component_at l k) ≡ automaton_body a) (edges : automaton_edges l k a ≡ map (net_edge (component_at l k)) (event_edges (component_at l k))) where
  abbrev own : Component
  own = component_at l k

  outside : (nm : Name) → Numbered t own nm → is_lacking own nm ≡ is_outside (alphabet_for l k a) (event_number own nm)
  outside nm g =
      ap (λ o. elim o [ None ↦ false | Some x ↦ not (synchronises x own) ]) g.number
      ∙ ap not (sym (alphabet-same own (event_number own nm)) ∙ ap (λ es. has es (event_number own nm)) (alphabet-is l k t h m a e edges))

  -- ---- its edges

  abbrev edge_names : List Name
  edge_names = role_names syncing own

  synced-are : synced_events l k a ≡ map (event_number own) edge_names
  synced-are = roles-are l k t h m a e edges syncing

  places-are : flat_map location_places a.locs ≡ name_places edge_names
  places-are = ap (λ b. flat_map location_places (locs_in b)) (sym e) ∙ locations-places 0 (locs_of own)

  names-are : asked_names own ≡ edge_names ++ unwrap_or a.monitor []
  names-are = ap (λ b. edge_names ++ rules.monitored_in b) e

  edge-name-numbered : (nm : Name) → Member nm edge_names → Numbered t own nm
  edge-name-numbered nm x = role-numbered t h own m syncing nm x

  abbrev fails : ℕ → Bool
  fails = is_outside (alphabet_for l k a)

  edge-failing : first_failing fails (synced_events l k a) (flat_map location_places a.locs) ≡ first_failing fails (map (event_number own) edge_names) (name_places edge_names)
  edge-failing = λ i. first_failing fails (synced-are i) (places-are i)

  -- ---- what it monitors

  monitor-told : (o : Option (List Name)) (es : List ℕ) (at : ℕ) → first_failing fails (monitors_by l k o es) (name_places (unwrap_or o [])) ≡ Some at → (nm : Name) × Member nm (unwrap_or o []) × (nm.at ≡ at) × (fails (event_number own nm) ≡ true)
  monitor-told None es at g = absurd (none-some at g)
  monitor-told (Some []) es at g = absurd (none-some at g)
  monitor-told (Some (nm ∷ nms)) es at g = first-told fails (event_number own) (nm ∷ nms) at g

  monitor-kept : (o : Option (List Name)) (es : List ℕ) → first_failing fails (monitors_by l k o es) (name_places (unwrap_or o [])) ≡ None → (nm : Name) → Member nm (unwrap_or o []) → fails (event_number own nm) ≡ false
  monitor-kept None es g nm x = absurd x
  monitor-kept (Some []) es g nm x = absurd x
  monitor-kept (Some (y ∷ nms)) es g nm x = none-fails fails (event_number own) (y ∷ nms) g nm x

  -- ---- both

  lacking-there : (nm : Name) (at : ℕ) → Member nm (edge_names ++ unwrap_or a.monitor []) → Numbered t own nm → nm.at ≡ at → fails (event_number own nm) ≡ true → LacksAt at own
  lacking-there nm at x g place out = member-any (λ (nm : Name). (nm.at ≡ at) × IsTrue (is_lacking own nm)) nm (asked_names own) (subst (Member nm) (sym names-are) x) (place, outside nm g ∙ out)

  pub automaton-told : (at : ℕ) → automaton_lacks l k a ≡ Some at → LacksAt at own
  automaton-told at g =
      elim (or-told (first_failing fails (synced_events l k a) (flat_map location_places a.locs)) (first_failing fails (monitors_for l k a) (name_places (unwrap_or a.monitor []))) at g) [
        | inl w ↦
            let x = first-told fails (event_number own) edge_names at (sym edge-failing ∙ w) in
            lacking-there x.0 at (append-left x.0 edge_names (unwrap_or a.monitor []) x.1) (edge-name-numbered x.0 x.1) x.2 x.3
        | inr w ↦
            let x = monitor-told a.monitor (alphabet_for l k a) at w in
            lacking-there x.0 at (append-right x.0 edge_names (unwrap_or a.monitor []) x.1) (monitor-numbered t h own m a e x.0 x.1) x.2 x.3
      ]

  pub automaton-kept : automaton_lacks l k a ≡ None → (nm : Name) → Member nm (asked_names own) → is_lacking own nm ≡ false
  automaton-kept g nm x =
      let first = or-first (first_failing fails (synced_events l k a) (flat_map location_places a.locs)) (first_failing fails (monitors_for l k a) (name_places (unwrap_or a.monitor []))) g in
      let second = or-second (first_failing fails (synced_events l k a) (flat_map location_places a.locs)) (first_failing fails (monitors_for l k a) (name_places (unwrap_or a.monitor []))) g in
      elim (member-append nm edge_names (unwrap_or a.monitor []) (subst (Member nm) names-are x)) [
        | inl w ↦ outside nm (edge-name-numbered nm w) ∙ none-fails fails (event_number own) edge_names (sym edge-failing ∙ first) nm w
        | inr w ↦ outside nm (monitor-numbered t h own m a e nm w) ∙ monitor-kept a.monitor (alphabet_for l k a) second nm w
      ]
