-- What a net keeps of how many edges there are.
use Rattle.std.proofs.Common.{◌≡◌, ℕ, zero, suc, ◌+◌, ◌<◌, ◌≤◌, ◌^◌, nat_le, true, List, [], ◌∷◌, length, map, sum, Option, Some, None, option_map, slice_get, refl, sym, ◌∙◌, ap, subst, arith}
use Rattle.std.proofs.lemmas.Bool.Decides.{nat_tests}
use Rattle.std.proofs.lemmas.List.Sums.{sum-map, sum_by-cons}
use Rattle.cif_system.proofs.Lists.{map-length}
use Rattle.cif_net_model.specs.Net as n
use Rattle.cif_net_model.specs.Facts.{things}
use Rattle.cif_net_model.proofs.Passing.{and-left}
use Rattle.cif_net.specs.declared.automata.Auto.{Auto}
use Rattle.cif_net.specs.declared.automata.NetEdge.{NetEdge}
use Rattle.cif_net.specs.declared.net.Net.{Net}
use Rattle.cif_net.specs.View.{net_tree, auto_tree, edge_tree}
use Rattle.cif_system.specs.System.{Role}
use Rattle.cif_lin.specs.Pieces.{edge_of}
use Rattle.cif_lin.specs.Cells.{numbers_for, edges_at, sync_options, sync_at}

pub net-kept : (net : Net) → nat_le (things (net_tree net)) 100000 ≡ true
net-kept net =
    and-left _ _ (and-left _ _ (and-left _ _ (and-left _ _ (and-left _ _ (and-left _ _ (and-left _ _ (and-left _ _ net.fits)))))))

abbrev weight : n.NetAuto → ℕ
weight a = length a.locs + length a.edges

part : (xs : List Auto) (k : ℕ) (a : Auto) → slice_get xs k ≡ Some a → length a.edges ≤ sum (map weight (map auto_tree xs))
part [] k a h = absurd cc
part (x ∷ xs) zero a h =
    let e : x ≡ a = cc in
    let m : length (map edge_tree x.edges) ≡ length x.edges = map-length edge_tree x.edges in
    let first : length x.edges ≤ sum (map weight (map auto_tree (x ∷ xs))) =
    omega (arith, sum-map weight (map auto_tree (x ∷ xs)), sum_by-cons weight (auto_tree x) (map auto_tree xs)) in
    subst (λ (y : Auto). length y.edges ≤ sum (map weight (map auto_tree (x ∷ xs)))) e first
part (x ∷ xs) (suc k) a h = let r : length a.edges ≤ sum (map weight (map auto_tree xs)) = part xs k a h in
    omega (arith, sum-map weight (map auto_tree (x ∷ xs)), sum_by-cons weight (auto_tree x) (map auto_tree xs), sum-map weight (map auto_tree xs))

pub short_edges : (net : Net) (k : ℕ) (a : Auto) → slice_get net.autos k ≡ Some a → length a.edges < 2 ^ 32
short_edges net k a g =
    let h : nat_le (things (net_tree net)) 100000 ≡ true = net-kept net in
    let l : things (net_tree net) ≤ 100000 = grind (arith, nat_tests) in
    let p : length a.edges ≤ sum (map weight (map auto_tree net.autos)) = part net.autos k a g in
    omega arith

get-map : (xs : List Auto) (k : ℕ) (o : Option Auto) → slice_get xs k ≡ o → slice_get (map auto_tree xs) k ≡ option_map auto_tree o
get-map [] k o h = subst (λ p. None ≡ option_map auto_tree p) h refl
get-map (x ∷ xs) zero o h = subst (λ p. Some (auto_tree x) ≡ option_map auto_tree p) h refl
get-map (x ∷ xs) (suc k) o h = get-map xs k o h

pub get-auto : (xs : List Auto) (k : ℕ) (a : Auto) → slice_get xs k ≡ Some a → slice_get (map auto_tree xs) k ≡ Some (auto_tree a)
get-auto xs k a h = get-map xs k (Some a) h

pub no-auto : (xs : List Auto) (k : ℕ) → slice_get xs k ≡ None → slice_get (map auto_tree xs) k ≡ None
no-auto xs k h = get-map xs k None h

get-edges : (xs : List NetEdge) (k : ℕ) → slice_get (map edge_tree xs) k ≡ option_map edge_tree (slice_get xs k)
get-edges [] k = refl
get-edges (x ∷ xs) zero = refl
get-edges (x ∷ xs) (suc k) = get-edges xs k

-- an edge of an automaton that is there, and of one that isn't
pub edge-seen : (xs : List Auto) (k x : ℕ) (a : Auto) (o : Option NetEdge) → slice_get xs k ≡ Some a → o ≡ slice_get a.edges x → option_map edge_tree o ≡ edge_of (map auto_tree xs) k x
edge-seen xs k x a o h g =
    ap (option_map edge_tree) g ∙ sym (get-edges a.edges x) ∙ sym (ap (λ p. elim p [ None ↦ None | Some b ↦ slice_get b.edges x ]) (get-auto xs k a h))

pub edge-missing : (xs : List Auto) (k x : ℕ) → slice_get xs k ≡ None → None ≡ edge_of (map auto_tree xs) k x
edge-missing xs k x h = sym (ap (λ p. elim p [ None ↦ None | Some b ↦ slice_get b.edges x ]) (no-auto xs k h))

-- what an automaton may do that is there, and one that isn't
pub edges-seen : (xs : List Auto) (p : Role) (e k : ℕ) (a : Auto) → slice_get xs k ≡ Some a → numbers_for p e 0 (map edge_tree a.edges) ≡ edges_at (map auto_tree xs) p e k
edges-seen xs p e k a h = sym (ap (λ o. elim o [ None ↦ [] | Some b ↦ numbers_for p e 0 b.edges ]) (get-auto xs k a h))

pub edges-missing : (xs : List Auto) (p : Role) (e k : ℕ) → slice_get xs k ≡ None → [] ≡ edges_at (map auto_tree xs) p e k
edges-missing xs p e k h = sym (ap (λ o. elim o [ None ↦ [] | Some b ↦ numbers_for p e 0 b.edges ]) (no-auto xs k h))

pub sync-seen : (xs : List Auto) (e k : ℕ) (a : Auto) → slice_get xs k ≡ Some a → sync_options e (auto_tree a) ≡ sync_at (map auto_tree xs) e k
sync-seen xs e k a h = sym (ap (λ o. elim o [ None ↦ [] | Some b ↦ sync_options e b ]) (get-auto xs k a h))

pub sync-missing : (xs : List Auto) (e k : ℕ) → slice_get xs k ≡ None → [] ≡ sync_at (map auto_tree xs) e k
sync-missing xs e k h = sym (ap (λ o. elim o [ None ↦ [] | Some b ↦ sync_options e b ]) (no-auto xs k h))
