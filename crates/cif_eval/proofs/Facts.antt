-- What a plain net keeps, as far as its steps need it.
use Rattle.std.proofs.Common.{◌≡◌, ℕ, ◌<◌, Bool, true, false, ◌&&◌, List, [], ◌∷◌, ◌++◌, map, length, flat_map, Some, refl, sym, subst, arith}
use Rattle.std.specs.Prelude.{nat_lt, slice_get}
use Rattle.std.specs.List.{list_all}
use Rattle.std.proofs.lemmas.Bool.Decides.{nat_tests}
use Rattle.cif_system.specs.System.{Automaton, Edge, EndsInside}
use Rattle.cif_system.proofs.Picks.{all-at, map-at}
use Rattle.cif_net_model.specs.Net.{NetAuto, NetEdge, NetInvariant, Net}
use Rattle.cif_net_model.specs.Meaning.{automaton_in, edge_meant, system_of_net}
use Rattle.cif_net_model.specs.Exprs.{all_edges, alg_exprs, other_exprs}
use Rattle.cif_net_model.specs.Facts.{auto_stands, edge_stands, invariant_stands, is_net}
use Rattle.cif_net_model.specs.Interval.{truths}
use Rattle.cif_net_model.specs.Rules.{edge_evaluated, evaluated, is_plain, is_plain_expr}
use Rattle.cif_net_model.proofs.Passing.{and-left, and-right, both-pass}
use Rattle.cif_net_laws.proofs.Picked.{autos-stand}

pub net-of-plain : (n : Net) → is_plain n ≡ true → is_net n ≡ true
net-of-plain n h = and-left _ _ (and-left _ _ (and-left _ _ h))

below-tested : (j k : ℕ) → nat_lt j k ≡ true → j < k
below-tested j k h = grind (arith, nat_tests)

edge-inside : (n : Net) (a : NetAuto) (x : NetEdge) → edge_stands n a x ≡ true → x.to < length a.locs
edge-inside n a x h = below-tested x.to (length a.locs) (and-right _ _ (and-left _ _ (and-left _ _ (and-left _ _ (and-left _ _ (and-left _ _ (and-left _ _ h)))))))

-- each edge ends in a place of its automaton
pub ends-within : (n : Net) → is_net n ≡ true → (k : ℕ) (a : NetAuto) → slice_get n.autos k ≡ Some a → (j : ℕ) (x : NetEdge) → slice_get a.edges j ≡ Some x → x.to < length a.locs
ends-within n h k a at j x is =
    let stands : auto_stands n a ≡ true = all-at (auto_stands n) n.autos k a (autos-stand n h) at in
    edge-inside n a x (all-at (edge_stands n a) a.edges j x (and-right _ _ stands) is)

pub ends-inside : (n : Net) → is_net n ≡ true → EndsInside (system_of_net n)
ends-inside n h k a at j x is =
    let b = map-at (automaton_in n) n.autos k a at in
    let y = map-at (edge_meant n) b.0.edges j x (subst (λ (d : Automaton). slice_get d.edges j ≡ Some x) b.2 is) in
    let inside = ends-within n h k b.0 b.1 j y.0 y.1 in
    subst (λ (d : Automaton). x.to < d.places) (sym b.2) (subst (λ (z : Edge). z.to < length b.0.locs) (sym y.2) inside)

-- ---- state invariants

pub invariants-stand : (n : Net) → is_net n ≡ true → list_all (invariant_stands n) n.invariants ≡ true
invariants-stand n h = and-right _ _ (and-left _ _ h)

pub map-passes : {A B : Type 0} (p : B → Bool) (f : A → B) (xs ys : List A) → list_all p (map f (xs ++ ys)) ≡ true → (list_all p (map f xs) ≡ true) × (list_all p (map f ys) ≡ true)
map-passes p f [] ys h = (refl, h)
map-passes p f (x ∷ xs) ys h = let r = map-passes p f xs ys (and-right _ _ h) in (both (p (f x)) (and-left _ _ h) r.0, r.1)
  where
    both : (b : Bool) → b ≡ true → list_all p (map f xs) ≡ true → (b && list_all p (map f xs)) ≡ true
    both true g k = k
    both false g k = absurd cc

pub invariants-plain : (n : Net) → is_plain n ≡ true → list_all (is_plain_expr n) (map (λ e. record { value = e; received = truths }) (map (λ (i : NetInvariant). i.pred) n.invariants)) ≡ true
invariants-plain n h =
    let all : list_all (is_plain_expr n) (evaluated n) ≡ true = and-right _ _ (and-left _ _ (and-left _ _ h)) in
    let others = (both-pass (is_plain_expr n) (flat_map (edge_evaluated n) (all_edges n)) (map (λ e. record { value = e; received = truths }) (other_exprs n)) all).1 in
    let rest = (map-passes (is_plain_expr n) (λ e. record { value = e; received = truths }) (map (λ x. x.pred) n.exclusions) (map (λ (i : NetInvariant). i.pred) n.invariants ++ flat_map alg_exprs n.algs) others).1 in
    (map-passes (is_plain_expr n) (λ e. record { value = e; received = truths }) (map (λ (i : NetInvariant). i.pred) n.invariants) (flat_map alg_exprs n.algs) rest).0
