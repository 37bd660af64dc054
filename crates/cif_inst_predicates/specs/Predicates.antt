-- Helper of the code: the exclusions and the state invariants of a net, by the numbers of the events that they name.
use Rattle.std.specs.Prelude.{Bool, true, false, List, [], ◌∷◌, map}
use Rattle.cif_ast.specs.Tree.{Tree}
use Rattle.cif_ast.specs.declared.names.Name.{Name}
use Rattle.cif_net_model.specs.Net.{NetExclusion, NetInvariant}
use Rattle.cif_source.specs.Source.{InvariantTree, always, needs, disables, tree_at}
use Rattle.cif_source.specs.Components.{Component}
use Rattle.cif_inst_model.specs.Flat.{event_number, predicate_at}
use Rattle.cif_inst_names.specs.Looking.{component_at}
use Rattle.cif_inst_names.specs.declared.looking.Looking.{Looking}
use Rattle.cif_inst_predicates.specs.Stated.{StatedTree}

-- that of one event which is named
abbrev pub exclusion_by : Component → Tree → Bool → Name → NetExclusion
exclusion_by c p allows nm = record { event = event_number c nm; pred = predicate_at c p; allows = allows }

-- one for each event that is named
abbrev pub exclusions_by : Component → InvariantTree → List NetExclusion
exclusions_by c (always p) = []
exclusions_by c (needs nms p) = map (exclusion_by c p true) nms
exclusions_by c (disables p nms) = map (exclusion_by c p false) nms

abbrev pub invariants_by : Component → InvariantTree → List NetInvariant
invariants_by c (always p) = record { pred = predicate_at c p; at = tree_at p } ∷ []
invariants_by c (needs nms p) = []
invariants_by c (disables p nms) = []

abbrev pub stated_exclusions : Looking → StatedTree → List NetExclusion
stated_exclusions l s = exclusions_by (component_at l s.0) s.1

abbrev pub stated_invariants : Looking → StatedTree → List NetInvariant
stated_invariants l s = invariants_by (component_at l s.0) s.1
