use Rattle.std.proofs.Common.{◌≡◌, nat_eq, drop}
use Rattle.std.specs.List.{list_any}
use Rattle.cif_why.proofs.parties.has.Given as goal

abbrev pub invariant-loop-found : goal.invariant-loop-found
invariant-loop-found l = list_any (nat_eq l.number) (drop l.found-index l.numbers) ≡ list_any (nat_eq l.number) l.numbers
