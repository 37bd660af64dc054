-- The net of a source that keeps its rules represents it.
use Rattle.std.proofs.Common.{◌≡◌, true, ◌∙◌, ap}
use Rattle.std.specs.Prelude.{◌&&◌}
use Rattle.std.specs.List.{list_all}
use Rattle.cif_system.specs.Words.{Member}
use Rattle.cif_source.specs.Source.{Source}
use Rattle.cif_source.specs.Components.{Component}
use Rattle.cif_source.specs.Objects.{components_of, automata, EventEdge, event_edges}
use Rattle.cif_source.specs.BodyRules.{targets_of_all}
use Rattle.cif_inst_model.specs.Flat.{net_of_source}
use Rattle.cif_inst_model.specs.Represents.{Represents}
use Rattle.cif_inst_model.proofs.EdgeLaws.{is_some, names_variable, names_its_objects}
use Rattle.cif_inst_model.proofs.SystemLaws.{names_all}
use Rattle.cif_inst_model.proofs.RuleLaws.{all-from}
use Rattle.cif_inst_model.proofs.SingleLaws.{source-represented}
use Rattle.cif_inst_laws.proofs.Sound.{IsSound, sizes, ranges, single}
use Rattle.cif_inst_laws.proofs.Forms.{automaton-home, edge-of, use-of}
use Rattle.cif_inst_laws.proofs.Finding.{numbered, variable-denoted, variable-named}
use Rattle.cif_inst_laws.proofs.Uses.{event-used, variable-used}

module _ (t : Source) (h : IsSound t) where
  edge-named : (c : Component) → Member c (components_of t) → (w : EventEdge) → Member w (event_edges c) → names_its_objects c w ≡ true
  edge-named c m w k =
      let event = numbered t h c m w.event_use.name (event-used c w.edge (edge-of c w k) w.event_use (use-of c w k)) in
      ap (λ b. b && list_all (names_variable c) (targets_of_all w.edge.updates)) (ap is_some event.number)
      ∙ all-from (names_variable c) (targets_of_all w.edge.updates) (λ nm i. ap is_some (variable-named t h c nm (variable-denoted t h c m nm (variable-used c w.edge (edge-of c w k) nm i))))

  all-named : list_all names_all (automata t) ≡ true
  all-named = all-from names_all (automata t) (λ c m. all-from (names_its_objects c) (event_edges c) (edge-named c (automaton-home t c m)))

  pub represented : Represents (net_of_source t) t
  represented = source-represented t (sizes t h) (ranges t h) (single t h) all-named
