use Rattle.std.proofs.Common.{◌≡◌, ◌++◌, drop, None}
use Rattle.cif_net_model.specs.Listing.{exprs_of}
use Rattle.cif_net.specs.View.{net_tree}
use Rattle.plc_expr.specs.Sorts.{list_types}
use Rattle.plc_event_model.specs.Keeps.{invariants_at}
use Rattle.plc_gen.proofs.types.invariants_types.Given as goal

-- the types so far, and those of what is left, are those of all
abbrev pub invariant-loop-number : goal.invariant-loop-number
invariant-loop-number l =
    l.types ++ list_types (net_tree l.net) None (exprs_of (invariants_at (net_tree l.net) (drop l.number-index l.numbers)))
    ≡ l.fn.types ++ list_types (net_tree l.net) None (exprs_of (invariants_at (net_tree l.net) l.numbers))
