use Rattle.std.proofs.Common.{◌≡◌, ℕ, ◌<◌, [], Some}
use Rattle.std.specs.Prelude.{slice_get}
use Rattle.cif_order.specs.Search.{IsSound}
use Rattle.cif_order.specs.declared.search.Mark.TheVariants.{New}
use Rattle.cif_order.proofs.ordering.order.Given as goal

abbrev pub invariant-loop-root : goal.invariant-loop-root
invariant-loop-root l = record {
  sound : IsSound l.needs l.search.marks l.search.path l.search.order;
  empty : l.search.path ≡ [];
  begun : (x : ℕ) → x < l.root → slice_get l.search.marks x ≡ Some New → ⊥;
}
