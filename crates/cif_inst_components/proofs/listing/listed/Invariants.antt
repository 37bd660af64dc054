use Rattle.std.proofs.Common.{◌≡◌, ◌-◌, ◌≤◌, ◌++◌, length}
use Rattle.std.specs.Prelude.{reverse}
use Rattle.cif_inst_components.specs.Sizes.{stop}
use Rattle.cif_inst_components.specs.Listing as listing
use Rattle.cif_inst_components.proofs.listing.listed.Given as goal

abbrev pub invariant-loop-count : goal.invariant-loop-count
invariant-loop-count l = record {
  all : l.all ++ listing.rest l.bodies.kids.now (length l.all) (reverse l.waiting.items) ≡ listing.listed l.bodies.kids.now;
  within : l.count ≤ 100001;
  counted : l.count ≡ stop (listing.all_objects l.bodies.sizes.now l.all);
}

abbrev pub decreases-loop-count : goal.decreases-loop-count
decreases-loop-count l = 100001 - l.count
