use Rattle.std.proofs.Common.{◌≡◌, length}
use Rattle.std.specs.Prelude.{flat_map, take}
use Rattle.cif_batch_command.proofs.tables.joined.Given as goal

abbrev pub invariant-loop-text : goal.invariant-loop-text
invariant-loop-text l = l.all.items ≡ flat_map (λ t. t) (take (length l.yielded) l.fn.texts.items)
