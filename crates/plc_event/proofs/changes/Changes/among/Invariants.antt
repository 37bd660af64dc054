use Rattle.std.proofs.Common.{◌≡◌, ◌++◌, drop, filter}
use Rattle.cif_net.specs.View.{net_tree}
use Rattle.plc_event.specs.Changed.{is_dependent}
use Rattle.plc_event.proofs.changes.Changes.among.Given as goal

-- what is found, and what is left, are all
abbrev pub invariant-loop-number : goal.invariant-loop-number
invariant-loop-number l = l.all ++ filter (is_dependent (net_tree l.net) l.self) (drop l.number-index l.numbers) ≡ filter (is_dependent (net_tree l.net) l.self) l.numbers
