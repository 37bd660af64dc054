use Rattle.std.proofs.Common.{◌≡◌, ◌++◌, drop}
use Rattle.cif_ast.specs.View.{view_items}
use Rattle.cif_source.specs.Source.{source_items}
use Rattle.cif_inst_automata.specs.BodyNames.{places_in}
use Rattle.cif_inst_automata.proofs.body_names.+named.Given as goal

abbrev pub invariant-add_items-loop-item : goal.invariant-add_items-loop-item
invariant-add_items-loop-item l = l.places ++ places_in (source_items (view_items (drop l.item-index l.items))) ≡ l.fn.places ++ places_in (source_items (view_items l.items))
