use Rattle.std.proofs.Common.{◌≡◌, ◌++◌, map, drop}
use Rattle.cif_net.specs.View.{net_tree}
use Rattle.cif_sim_names.specs.Nets.{told_of_net}
use Rattle.cif_why.specs.View.{reason_tree}
use Rattle.cif_why_lines.specs.Lines.{lines_of}
use Rattle.cif_why_lines.proofs.lines.put_lines.Given as goal

abbrev pub invariant-loop-reason : goal.invariant-loop-reason
invariant-loop-reason l =
    l.into.items ++ lines_of (told_of_net (net_tree l.net)) (map reason_tree (drop l.reason-index l.reasons))
    ≡ l.fn.into.items ++ lines_of (told_of_net (net_tree l.net)) (map reason_tree l.reasons)
