-- The made sources of seed 1 and sizes 1 and 2.
use Rattle.std.proofs.Common.{◌≡◌, pos, [], ◌∷◌, refl, length}
use Rattle.std.specs.Fmt.{digits}
use Rattle.cif_system.specs.Choices.{all_choices}
use Rattle.cif_system.specs.System.{initial, outputs}
use Rattle.cif_system.specs.Scan.{exact_scan}
use Rattle.cif_source.specs.Source.{list_of_items}
use Rattle.cif_source.specs.InstanceRules.{object_count}
use Rattle.cif_source.specs.Step.{system_of}
use Rattle.cif_net_model.specs.Counts.{nodes, depth}
use Rattle.cif_inst_model.specs.Flat.{net_of_source}
use Rattle.cif_maker_laws.specs.MadeTree.{block_place, made_source}

second_block : block_place 1 2 1 ≡ 204
unfolding digits
second_block = refl

-- four items for the first plant; four, and a requirement, for the second
items_of_two : length (list_of_items (made_source 1 2)) ≡ 9
unfolding digits
items_of_two = refl

events_of_one : length (system_of (made_source 1 1)).events ≡ 2
unfolding digits
events_of_one = refl

choices_of_one : all_choices (system_of (made_source 1 1)) ≡ 2
unfolding digits
choices_of_one = refl

choices_of_two : all_choices (system_of (made_source 1 2)) ≡ 4
unfolding digits
choices_of_two = refl

objects_of_two : object_count (made_source 1 2) ≡ 20
unfolding digits
objects_of_two = refl

nodes_of_two : nodes (net_of_source (made_source 1 2)) ≡ 27
unfolding digits
nodes_of_two = refl

depth_of_two : depth (net_of_source (made_source 1 2)) ≡ 2
unfolding digits
depth_of_two = refl

-- the first scan of one plant: u fires, and then c
first_scan : outputs (system_of (made_source 1 1)) (exact_scan (system_of (made_source 1 1)) (initial (system_of (made_source 1 1))) (pos 1 ∷ []) 3 3) ≡ record { places = 0 ∷ []; values = pos 1 ∷ []; algs = [] }
unfolding digits
first_scan = refl
