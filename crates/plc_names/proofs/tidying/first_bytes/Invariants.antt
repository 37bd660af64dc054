use Rattle.std.proofs.Common.{◌≡◌, ◌≤◌, ◌++◌, drop, true, length}
use Rattle.plc_model.specs.Names.{runs_joined, most_bytes}
use Rattle.plc_names.proofs.tidying.first_bytes.Given as goal

abbrev pub invariant-loop-byte : goal.invariant-loop-byte
invariant-loop-byte l = record {
  joined : l.text ++ runs_joined l.in_run (drop l.byte-index l.path) ≡ runs_joined true l.path;
  short : length l.text ≤ most_bytes;
}
