use Rattle.std.proofs.Common.{◌≡◌, ◌+◌, ◌≤◌, map, drop, length}
use Rattle.std.specs.Prelude.{filter}
use Rattle.cif_source.specs.Source.{LocationTree, location_tree}
use Rattle.cif_types.proofs.initials.initial_count.Given as goal

abbrev pub invariant-loop-loc : goal.invariant-loop-loc
invariant-loop-loc l = record {
  below : l.count ≤ l.loc-index;
  counted : l.count + length (filter (λ (x : LocationTree). x.initial) (map location_tree (drop l.loc-index l.locs))) ≡ length (filter (λ (x : LocationTree). x.initial) (map location_tree l.locs));
}
