-- What the list of all choices is.
use Rattle.std.proofs.Common.{◌≡◌, ◌+◌, ◌<◌, ◌≤◌, ◌^◌, nat_le, true, List, [], ◌++◌, length, map, Some, None, ◌∙◌, ap, arith}
use Rattle.std.proofs.lemmas.Bool.Decides.{nat_tests}
use Rattle.std.proofs.lemmas.List.FromFn.{length-map-range_with_len}
use Rattle.cif_system.specs.Choices.{all_choices}
use Rattle.cif_system.proofs.Lists.{map-length}
use Rattle.cif_net_model.specs.Net as n
use Rattle.cif_net_model.specs.Facts.{things}
use Rattle.cif_net_model.specs.Meaning.{system_of_net}
use Rattle.cif_net_model.specs.Counts.{most_choices}
use Rattle.cif_net_model.specs.Listing.{NetRoles, NetChoice, event_roles, roles_of, linear_of}
use Rattle.cif_net.specs.declared.net.Net.{Net}
use Rattle.cif_net.specs.declared.listing.EventRoles.{EventRoles}
use Rattle.cif_net.specs.View.{net_tree, event_tree, event_roles_tree}
use Rattle.cif_lin.specs.Cells.{choices_from}
use Rattle.cif_lin.specs.Limits.{limited}
use Rattle.cif_lin.proofs.ChannelLaws.{linear-made, linear-count}
use Rattle.cif_lin.proofs.LimitLaws.{limited-is, limited-not}
use Rattle.cif_lin.proofs.NetLaws.{net-kept}

pub few_roles : (net : Net) (rs : List EventRoles) → map event_roles_tree rs ≡ roles_of (net_tree net) → length rs < 2 ^ 32
few_roles net rs h =
    let k : nat_le (things (net_tree net)) 100000 ≡ true = net-kept net in
    let l : things (net_tree net) ≤ 100000 = grind (arith, nat_tests) in
    let a : length (map event_roles_tree rs) ≡ length rs = map-length event_roles_tree rs in
    let b : length (map event_roles_tree rs) ≡ length (roles_of (net_tree net)) = ap length h in
    let d : length (roles_of (net_tree net)) ≡ length (map event_tree net.events) = length-map-range_with_len (event_roles (net_tree net)) 0 (length (map event_tree net.events)) in
    let e : length rs ≤ things (net_tree net) = omega arith in
    omega arith

pub listed-of : (x : n.Net) (rs : List NetRoles) (new : List NetChoice) → rs ≡ roles_of x → Some new ≡ limited [] (choices_from x 0 rs) → (new ≡ linear_of x) × (all_choices (system_of_net x) ≤ most_choices)
listed-of x rs new h g =
    let q : (new ≡ [] ++ choices_from x 0 rs) × (0 + length (choices_from x 0 rs) ≤ 16384) = limited-is [] (choices_from x 0 rs) new (omega arith) g in
    let same : choices_from x 0 rs ≡ linear_of x = ap (choices_from x 0) h ∙ linear-made x in
    let few : 0 + length (choices_from x 0 rs) ≤ 16384 = q.1 in
    let a : length (choices_from x 0 rs) ≡ all_choices (system_of_net x) = ap length same ∙ linear-count x in
    (q.0 ∙ same, omega arith)

pub refused-of : (x : n.Net) (rs : List NetRoles) → rs ≡ roles_of x → None ≡ limited [] (choices_from x 0 rs) → most_choices < all_choices (system_of_net x)
refused-of x rs h g =
    let many : 16384 < 0 + length (choices_from x 0 rs) = limited-not [] (choices_from x 0 rs) (omega arith) g in
    let a : length (choices_from x 0 rs) ≡ all_choices (system_of_net x) = ap length (ap (choices_from x 0) h ∙ linear-made x) ∙ linear-count x in
    omega arith
