-- The choices of some parties that are added, or are too many.
use Rattle.std.proofs.Common.{◌≡◌, ℕ, ◌+◌, ◌<◌, ◌≤◌, min, List, ◌++◌, length, map, Some, None, sym, ◌∙◌, ap, arith}
use Rattle.std.specs.List.{range_with_len}
use Rattle.std.proofs.lemmas.List.FromFn.{length-map-range_with_len}
use Rattle.cif_system.proofs.Lists.{map-length}
use Rattle.cif_net_model.specs.Net.{NetAuto}
use Rattle.cif_net.specs.declared.listing.Choice.{Choice}
use Rattle.cif_net.specs.View.{choice_tree}
use Rattle.cif_lin.specs.Pieces.{Cell}
use Rattle.cif_lin.specs.Cells.{count, choice_at, all_at}
use Rattle.cif_lin.specs.Limits.{limited}
use Rattle.cif_lin.proofs.LimitLaws.{limited_fits, limited_past}

all-length : (autos : List NetAuto) (e : ℕ) (cs : List Cell) → length (all_at autos e cs) ≡ count cs
all-length autos e cs = length-map-range_with_len (choice_at autos e cs) 0 (count cs)

pub no_choices : (autos : List NetAuto) (e : ℕ) (cs : List Cell) (all : List Choice) (k : ℕ) → k ≡ min (count cs) 16385 → k ≡ 0 → Some (map choice_tree all) ≡ limited (map choice_tree all) (all_at autos e cs)
no_choices autos e cs all k h z =
    let n : count cs ≡ 0 = omega arith in
    sym (ap (λ m. limited (map choice_tree all) (map (choice_at autos e cs) (range_with_len 0 m))) n)

pub too_many : (autos : List NetAuto) (e : ℕ) (cs : List Cell) (all : List Choice) (k : ℕ) → k ≡ min (count cs) 16385 → 0 < k → 16384 < length all + k → None ≡ limited (map choice_tree all) (all_at autos e cs)
too_many autos e cs all k h p m =
    let a : length (map choice_tree all) ≡ length all = map-length choice_tree all in
    let b : length (all_at autos e cs) ≡ count cs = all-length autos e cs in
    limited_past (map choice_tree all) (all_at autos e cs) (omega arith) (omega arith)

pub few_enough : (autos : List NetAuto) (e : ℕ) (cs : List Cell) (all new : List Choice) (k : ℕ) → k ≡ min (count cs) 16385 → length all + k ≤ 16384 → map choice_tree new ≡ map choice_tree all ++ all_at autos e cs
    → Some (map choice_tree new) ≡ limited (map choice_tree all) (all_at autos e cs)
few_enough autos e cs all new k h m g =
    let a : length (map choice_tree all) ≡ length all = map-length choice_tree all in
    let b : length (all_at autos e cs) ≡ count cs = all-length autos e cs in
    ap (λ xs. Some xs) g ∙ sym (limited_fits (map choice_tree all) (all_at autos e cs) (omega arith))
