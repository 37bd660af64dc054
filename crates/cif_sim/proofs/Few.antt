-- The events of a net have numbers of 32 bits.
use Rattle.std.proofs.Common.{◌≡◌, ◌<◌, ◌^◌, ◌≤◌, true, length, map, arith}
use Rattle.std.specs.Prelude.{nat_le}
use Rattle.std.proofs.lemmas.Bool.Decides.{nat_tests}
use Rattle.cif_system.proofs.Lists.{map-length}
use Rattle.cif_system.proofs.Picks.{and-left}
use Rattle.cif_net_model.specs.Facts.{things}
use Rattle.cif_net.specs.Parts.{event_tree}
use Rattle.cif_net.specs.View.{net_tree}
use Rattle.cif_net.specs.declared.net.Net.{Net}

pub few-events : (net : Net) → length net.events < 2 ^ 32
few-events net =
    let h : nat_le (things (net_tree net)) 100000 ≡ true = and-left _ _ (and-left _ _ (and-left _ _ (and-left _ _ (and-left _ _ (and-left _ _ (and-left _ _ (and-left _ _ net.fits))))))) in
    let k : things (net_tree net) ≤ 100000 = grind (arith, nat_tests) in
    let m : length (map event_tree net.events) ≡ length net.events = map-length event_tree net.events in
    omega arith
