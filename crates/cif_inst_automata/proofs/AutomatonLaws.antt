-- One automaton: its edges are those of its component, and an event without its mark is outside its alphabet.
use Rattle.std.proofs.Common.{◌≡◌, ℕ, ◌+◌, ◌<◌, List, [], ◌++◌, length, map, Option, None, sym, ◌∙◌, ap, subst, arith}
use Rattle.std.specs.Prelude.{flat_map, unwrap_or}
use Rattle.std.specs.List.{position_or_len}
use Rattle.cif_system.specs.Words.{Member}
use Rattle.cif_system.specs.System.{syncing}
use Rattle.cif_source.specs.Source.{AutomatonTree, automaton_body, Source}
use Rattle.cif_source.specs.Components.{Component, as_written, body_of, params_of, scope_of, param_entries, body_entries, entry_named}
use Rattle.cif_source.specs.Objects.{components_of, locs_in, event_edges, events}
use Rattle.cif_source.specs.Step.{is_named}
use Rattle.cif_scope.specs.Looks.{slot_at}
use Rattle.cif_scope.specs.Tables.{IsBody}
use Rattle.cif_scope.proofs.BodyLaws.{scope-written}
use Rattle.cif_scope.proofs.LookLaws.{slot-is}
use Rattle.cif_inst_model.specs.Flat.{net_edge}
use Rattle.cif_inst_model.proofs.KeptLaws.{has_twice}
use Rattle.cif_inst_model.proofs.PathLaws.{names}
use Rattle.cif_inst_model.proofs.SingleLaws.{scopes-single}
use Rattle.cif_inst_names.specs.Looking.{source_for, component_at}
use Rattle.cif_inst_names.specs.declared.looking.Looking.{Looking}
use Rattle.cif_inst_paths.specs.Names.{AreMatchedNames}
use Rattle.cif_inst_paths.specs.Rows.{body_number}
use Rattle.cif_inst_automata.specs.Edges.{locations_edges, automaton_edges}
use Rattle.cif_inst_automata.specs.Alphabets.{name_places, location_places, synced_events, alphabet_for, monitors_for, is_outside, first_failing, or_later, tells}
use Rattle.cif_inst_automata.specs.Marks.{marked, is_unmarked, AreMarks}
use Rattle.cif_inst_automata.specs.declared.error.AutomataErr.{AutomataErr}
use Rattle.cif_inst_automata.specs.declared.error.AutomataErr.TheVariants.{AlphabetLacks, RoleMixed, Memory}
use Rattle.cif_inst_paths.proofs.SoundLaws.{IsSound, names-sound, component-is, component-listed, body-numbered}
use Rattle.cif_inst_automata.proofs.EdgeLaws.{place_of, TargetsAre, slotted-place, automaton-place, all-edges-are}
use Rattle.cif_inst_automata.proofs.MarkLaws.{marked-outside, same-failing}
use Rattle.cif_inst_automata.proofs.AlphabetLaws.{monitors-below, monitors-are, role-below}

module _ (l : Looking) (h : AreMatchedNames l) where
  pub sound : IsSound (source_for l)
  sound = names-sound l h

  abbrev components : List Component
  components = components_of (source_for l)

  targets : (k : ℕ) → k < length components → (a : AutomatonTree) → body_of (component_at l k) ≡ automaton_body a → TargetsAre l k (length a.locs)
  targets k below a e x =
      let t : Source = source_for l in
      let c : Component = component_at l k in
      let body : IsBody t (body_number l.components.now.all k) (as_written c) = body-numbered t l.components.now.all h.names.components.all k c (component-is t k below) in
      let scope : scope_of (as_written c) ≡ param_entries (params_of c) ++ body_entries (automaton_body a) = scope-written c ∙ ap (λ b. param_entries (params_of c) ++ body_entries b) e in
      slotted-place t l.scopes.now (body_number l.components.now.all k) (as_written c) (length a.locs) h.names.scopes body (entry_named x.text (scope_of (as_written c)))
      (slot_at l.scopes.now.table (body_number l.components.now.all k) x.text)
      (slot-is t l.scopes.now.table h.names.scopes.numbers.table h.names.scopes.numbers.indexed (body_number l.components.now.all k) (as_written c) x.text body)
      ∙ ap (λ es. place_of (entry_named x.text es) (length a.locs)) scope
      ∙ automaton-place (params_of c) a x.text (ap (λ es. has_twice (names es)) (sym scope ∙ scope-written c) ∙ scopes-single t sound.few sound.scoping.single c (component-listed t k below))
      ∙ ap (λ b. position_or_len (is_named x.text) (locs_in b)) (sym e)

  pub edges : (k : ℕ) → k < length components → (a : AutomatonTree) → body_of (component_at l k) ≡ automaton_body a → automaton_edges l k a ≡ map (net_edge (component_at l k)) (event_edges (component_at l k))
  edges k below a e =
      ap (λ b. locations_edges l k (length a.locs) 0 (locs_in b)) (sym e)
      ∙ all-edges-are l k (length a.locs) (targets k below a e)

  -- ---- marks

  module _ (k : ℕ) (below : k < length components) (a : AutomatonTree) (e : body_of (component_at l k) ≡ automaton_body a) (ms : List ℕ) (marks : AreMarks (length (events (source_for l))) k ms) where
    unmarked : (x : ℕ) → x < length (events (source_for l)) → is_unmarked (k + 1) (marked (k + 1) (alphabet_for l k a) ms) x ≡ is_outside (alphabet_for l k a) x
    unmarked x small = marked-outside k (alphabet_for l k a) ms x marks.small (omega (arith, small, marks.every))

    -- what has no mark is outside the alphabet, of the events of edges that synchronise and of those that are monitored
    pub synced_told : (mark : ℕ) (es us ps new : List ℕ) → mark ≡ k + 1 → es ≡ alphabet_for l k a → us ≡ synced_events l k a → ps ≡ flat_map location_places a.locs → new ≡ marked mark es ms
        → first_failing (is_unmarked mark new) us ps ≡ first_failing (is_outside (alphabet_for l k a)) (synced_events l k a) (flat_map location_places a.locs)
    synced_told mark es us ps new next alphabet synced places is =
        (λ i. first_failing (is_unmarked (next i) ((is ∙ (λ j. marked (next j) (alphabet j) ms)) i)) (synced i) (places i))
        ∙ same-failing (is_unmarked (k + 1) (marked (k + 1) (alphabet_for l k a) ms)) (is_outside (alphabet_for l k a)) (synced_events l k a) (flat_map location_places a.locs)
        (λ x y. unmarked x (role-below l k (source_for l) sound (component-listed (source_for l) k below) a e (edges k below a e) syncing x y))

    pub monitors_told : (mark : ℕ) (es us ps new : List ℕ) → mark ≡ k + 1 → es ≡ alphabet_for l k a → us ≡ monitors_for l k a → ps ≡ name_places (unwrap_or a.monitor []) → new ≡ marked mark es ms
        → first_failing (is_unmarked mark new) us ps ≡ first_failing (is_outside (alphabet_for l k a)) (monitors_for l k a) (name_places (unwrap_or a.monitor []))
    monitors_told mark es us ps new next alphabet monitored places is =
        (λ i. first_failing (is_unmarked (next i) ((is ∙ (λ j. marked (next j) (alphabet j) ms)) i)) (monitored i) (places i))
        ∙ same-failing (is_unmarked (k + 1) (marked (k + 1) (alphabet_for l k a) ms)) (is_outside (alphabet_for l k a)) (monitors_for l k a) (name_places (unwrap_or a.monitor []))
        (λ x y. unmarked x (monitors-below (source_for l) sound (component_at l k) (component-listed (source_for l) k below) a e x (subst (Member x) (sym (monitors-are l k (source_for l) sound (component-listed (source_for l) k below) a e (edges k below a e))) y)))

-- ---- one of two places

pub or_tells : (e : AutomataErr) (o r : Option ℕ) → tells e o → tells e (or_later o r)
or_tells (AlphabetLacks at) o r h = ap (λ x. or_later x r) h
or_tells (RoleMixed at) o r h = absurd h
or_tells Memory o r h = tt

pub or_none : (o r : Option ℕ) → o ≡ None → or_later o r ≡ r
or_none o r h = ap (λ x. or_later x r) h
