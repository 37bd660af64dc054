-- What is told of a source that keeps its rules is what is told of its net, and so it is why its events have no step.
use Rattle.std.proofs.Math.Path.{fun_ext}
use Rattle.std.proofs.Common.{◌≡◌, ℕ, zero, suc, ℤ, true, List, [], ◌∷◌, map, Some, None, refl, sym, ◌∙◌, ap, subst}
use Rattle.std.specs.Prelude.{◌&&◌, option_map, slice_get, unwrap_or}
use Rattle.std.specs.List.{list_all}
use Rattle.cif_system.specs.Words.{Member}
use Rattle.cif_system.specs.System.{State, System}
use Rattle.cif_system.specs.Choices.{first_step}
use Rattle.cif_system.proofs.Lists.{some-same}
use Rattle.cif_net_model.specs.Facts.{is_net}
use Rattle.cif_net_model.specs.Inline.{Unfolds}
use Rattle.cif_net_model.specs.Meaning.{defined_value, system_of_net}
use Rattle.cif_net_model.specs.Net.{NetAlg, NetStored, Net}
use Rattle.cif_net_laws.proofs.Solved.{member-at}
use Rattle.cif_source.specs.Source.{Source}
use Rattle.cif_source.specs.Components.{Component}
use Rattle.cif_source.specs.Objects.{algs, components_of, automata, Declared, EventEdge, event_edges}
use Rattle.cif_source.specs.Step.{alg_value, system_of}
use Rattle.cif_source.specs.BodyRules.{targets_of_all}
use Rattle.cif_inst_model.specs.Flat.{net_alg, net_of_source}
use Rattle.cif_inst_model.specs.Small.{HasSmallParts}
use Rattle.cif_inst_model.proofs.DistinctLaws.{algs-differ}
use Rattle.cif_inst_model.proofs.EdgeLaws.{is_some, SameValues, names_variable, names_its_objects}
use Rattle.cif_inst_model.proofs.RuleLaws.{all-from, constants-kept, declaration-cases}
use Rattle.cif_inst_model.proofs.SystemLaws.{MeansTheSame, names_all}
use Rattle.cif_inst_model.proofs.ValueLaws.{value-same}
use Rattle.cif_inst_laws.specs.Forms.{HasSmallArguments}
use Rattle.cif_inst_laws.proofs.FitLaws.{all-fit, demanded-fit, expressions-fit, guards-fit, sent-fit}
use Rattle.cif_inst_laws.proofs.SmallLaws.{small-arguments, small-parts}
use Rattle.cif_inst_laws.proofs.Finding.{numbered, variable-denoted, variable-named}
use Rattle.cif_inst_laws.proofs.Forms.{automaton-home, edge-of, use-of}
use Rattle.cif_inst_laws.proofs.Net.{net-stands}
use Rattle.cif_inst_laws.proofs.Represented.{represented}
use Rattle.cif_inst_laws.proofs.Sound.{IsSound, few, ranges, root, scopes}
use Rattle.cif_inst_laws.proofs.Uses.{event-used, variable-used}
use Rattle.cif_sim_model.specs.Names.{Names, ValueNames}
use Rattle.cif_why_model.specs.Parties.{HasOneRole}
use Rattle.cif_why_model.specs.Reasons.{Holds, Reason, reasons_of}
use Rattle.cif_why_model.specs.Telling.{TellsOf}
use Rattle.cif_why_model.proofs.Enough.{no-reason}
use Rattle.cif_why_model.proofs.Telling.{all-told}
use Rattle.cif_sim_names.specs.Nets.{stored_names, told_of_net, variable_path_in}
use Rattle.cif_sim_names.specs.Sources.{names_of, told_of}
use Rattle.cif_sim_names.proofs.NameLaws.{names-same}
use Rattle.cif_sim_names.proofs.RoleLaws.{one-role-each}
use Rattle.cif_sim_names.proofs.ToldLaws.{at-mapped, nets-tell}
use Rattle.cif_sim_names.proofs.WholeLaws as whole
use Rattle.cif_why_laws.specs.Acceptable.{IsAcceptable}
use Rattle.cif_why_laws.specs.Reasons.{ExplainsSteps, variable_path}
use Rattle.cif_why_laws.proofs.Reasons.{explains}
use Rattle.cif_why_laws.proofs.Unfolded.{told-unfolded}

module _ (t : Source) (h : IsSound t) where
  -- ---- names

  edge-named : (c : Component) → Member c (components_of t) → (w : EventEdge) → Member w (event_edges c) → names_its_objects c w ≡ true
  edge-named c m w k =
      let event = numbered t h c m w.event_use.name (event-used c w.edge (edge-of c w k) w.event_use (use-of c w k)) in
      ap (λ b. b && list_all (names_variable c) (targets_of_all w.edge.updates)) (ap is_some event.number)
      ∙ all-from (names_variable c) (targets_of_all w.edge.updates) (λ nm i. ap is_some (variable-named t h c nm (variable-denoted t h c m nm (variable-used c w.edge (edge-of c w k) nm i))))

  all-named : list_all names_all (automata t) ≡ true
  all-named = all-from names_all (automata t) (λ c m. all-from (names_its_objects c) (event_edges c) (edge-named c (automaton-home t c m)))

  -- ---- values

  values-same : (c : Component) → Member c (components_of t) → SameValues (net_of_source t) c
  values-same c m e s r = value-same t (few t h) (constants-kept t (ranges t h)) (algs-differ t (scopes t h)) s r c m e

  abbrev by_net : NetAlg → State → ℤ
  by_net a s = defined_value (net_of_source t) s a

  algs-same : (d : Declared) → Member d (algs t) → (s : State) → defined_value (net_of_source t) s (net_alg d) ≡ alg_value d s
  algs-same d m s =
      let k = member-at d (algs t) m in
      let of_net = at-mapped by_net (map net_alg (algs t)) k.0 (net_alg d) (at-mapped net_alg (algs t) k.0 d k.1) in
      let same = sym of_net ∙ ap (λ (m : System). slice_get m.algs k.0) (represented t h).meaning ∙ at-mapped alg_value (algs t) k.0 d k.1 in
      ap (λ f. f s) (some-same (by_net (net_alg d)) (alg_value d) same)

  means-same : MeansTheSame t
  means-same = record {
    of_automata = λ c m. values-same c (automaton-home t c m);
    of_declarations = λ d m. values-same d.0 (declaration-cases t d m).0;
    of_algs = algs-same;
  }

  -- what is told of the net of the source is what is told of the source
  told-by-net : told_of_net (net_of_source t) ≡ told_of t
  told-by-net = whole.told-same t means-same all-named (λ c m. root t h c (automaton-home t c m))

module _ (t : Source) (h : IsAcceptable t) where
  abbrev n : Net
  n = net_of_source t

  abbrev sound : IsSound t
  sound q low = h.keeps q

  small : HasSmallParts t
  small = subst HasSmallParts (sym h.is) (small-parts h.tree h.countable h.small)

  given : HasSmallArguments t
  given = subst HasSmallArguments (sym h.is) (small-arguments h.tree h.small)

  is-net : is_net n ≡ true
  is-net = net-stands t sound small given (record {
    expressions = λ c k e m. expressions-fit t c sound small given m k e;
    guards = λ c at all m. guards-fit t c sound small given m at all;
    values = λ c r o k e m is. demanded-fit t c sound small given m r o is k e;
    conditions = λ c r o all m is. all-fit t c sound small given m r o is all;
    sent = λ c ty k e m. sent-fit t c sound small given m ty k e;
  })

  means : system_of_net n ≡ system_of t
  means = (represented t sound).meaning

  one-role : (e : ℕ) → HasOneRole (system_of t) e
  one-role e = subst (λ m. HasOneRole m e) means (one-role-each n is-net e)

  path-at : (vs : List NetStored) (k : ℕ) → unwrap_or (option_map (λ (x : NetStored). x.path) (slice_get vs k)) [] ≡ unwrap_or (option_map (λ (x : ValueNames). x.path) (slice_get (map stored_names vs) k)) []
  path-at [] k = refl
  path-at (v ∷ vs) zero = refl
  path-at (v ∷ vs) (suc k) = path-at vs k

  -- its edges are told of as they assign, by the names of its variables
  pub edges-told : TellsOf (variable_path (names_of t)) (system_of t) (told_of t)
  edges-told =
      subst (λ (x : Names). TellsOf (variable_path x) (system_of t) (told_of t)) (names-same t)
      (subst (λ f. TellsOf f (system_of t) (told_of t)) (fun_ext (path-at n.vars))
      (subst (λ x. TellsOf (variable_path_in n) (system_of t) x) (told-by-net t sound)
      (subst (λ m. TellsOf (variable_path_in n) m (told_of_net n)) means (nets-tell n is-net))))

  -- its reasons are those why its events have no step
  pub explains-steps : ExplainsSteps (system_of t) (told_of t)
  explains-steps = explains (variable_path (names_of t)) (system_of t) (told_of t) one-role edges-told

  pub enabled-where-none : (s : State) (e : ℕ) → reasons_of (system_of t) (told_of t) s e ≡ [] → (next : State) × (first_step (system_of t) s e ≡ Some next)
  enabled-where-none s e = no-reason (variable_path (names_of t)) (system_of t) (told_of t) s e (one-role e) edges-told

  pub all-reasons-told : (s : State) (e : ℕ) (r : Reason) → first_step (system_of t) s e ≡ None → Holds (system_of t) (told_of t) s e r → Member r (reasons_of (system_of t) (told_of t) s e)
  all-reasons-told s e r = all-told (variable_path (names_of t)) (system_of t) (told_of t) s e r edges-told

-- what is told of its net, where algebraic variables are replaced, is what is told of it
pub net-tells : (t : Source) (p : Net) → IsAcceptable t → Unfolds (net_of_source t) p → told_of_net p ≡ told_of t
net-tells t p h u = told-unfolded (net_of_source t) p (is-net t h) u ∙ told-by-net t (sound t h)
