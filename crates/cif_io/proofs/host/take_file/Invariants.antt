-- No more was read than the limit, as long as the loop goes on.
use Rattle.std.proofs.Common.{◌≤◌, vec_len}
use Rattle.cif_io.proofs.host.take_file.Given as goal

abbrev pub invariant-loop : goal.invariant-loop
invariant-loop g l = vec_len l.into ≤ l.limit
