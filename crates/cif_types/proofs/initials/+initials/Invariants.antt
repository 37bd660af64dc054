use Rattle.std.proofs.Common.{◌≡◌, drop}
use Rattle.cif_ast.specs.View.{view_items}
use Rattle.cif_source.specs.Source.{source_items}
use Rattle.cif_types.specs.Initials.{initials_in}
use Rattle.cif_types.proofs.initials.+initials.Given as goal

abbrev pub invariant-check_items-loop-item : goal.invariant-check_items-loop-item
invariant-check_items-loop-item l = initials_in (source_items (view_items (drop l.item-index l.items))) ≡ initials_in (source_items (view_items l.items))
