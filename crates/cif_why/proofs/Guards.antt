-- Guards and the predicates of exclusions and of state invariants: they are evaluated without a fault, to the values that the net gives them.
use Rattle.std.proofs.Common.{◌≡◌, ℕ, suc, pos, true, inl, List, [], ◌∷◌, length, map, Some, None, refl, ap}
use Rattle.std.specs.Prelude.{slice_get, flat_map}
use Rattle.std.specs.List.{AllByRecursion}
use Rattle.cif_system.specs.System.{IsState, Range, State}
use Rattle.cif_system.specs.Words.{Member}
use Rattle.cif_system.proofs.Lists.{none-some}
use Rattle.cif_system.proofs.Picks.{append-left, append-right, at-member, map-member}
use Rattle.cif_net_expr.specs.Tree.{NetExpr}
use Rattle.cif_net_model.specs.Exprs.{all_edges, other_exprs}
use Rattle.cif_net_model.specs.Facts.{channel_of, exclusion_stands, invariant_stands, is_net}
use Rattle.cif_net_model.specs.Interval.{truths}
use Rattle.cif_net_model.specs.Kinds.{Kind, bool_kind, fits}
use Rattle.cif_net_model.specs.Meaning.{alg_values, system_of_net, true_in, value_in}
use Rattle.cif_net_model.specs.Net.{Net, NetAuto, NetEdge, NetExclusion, NetInvariant}
use Rattle.cif_net_model.specs.Rules.{edge_evaluated, evaluated, is_plain, is_plain_expr}
use Rattle.cif_net_model.specs.Shown.{channel_range}
use Rattle.cif_net_model.specs.Unfolding.{at_or}
use Rattle.cif_net_model.specs.Value.{is_true}
use Rattle.cif_net_model.proofs.Passing.{and-left, and-right, all-member}
use Rattle.cif_net_model.proofs.ValueLaws.{value-alone}
use Rattle.cif_net_model.specs.Safe.{IsSafe, Setting, value_at}
use Rattle.cif_net_model.proofs.Plain.{net-safe}
use Rattle.cif_net_laws.proofs.RangingChoices.{plain-any}
use Rattle.cif_net_laws.proofs.Sound.{kept, net-of}
use Rattle.cif_why.specs.Parties.{AreSafeAutos, AreSafeExclusions, AreSafeGuards, true_at}
use Rattle.cif_why.proofs.RoleLaws.{AutosMean}

-- an expression that is evaluated without a fault, to the value that the net gives it
pub record Told (n : Net) (s : State) (e : NetExpr) : Type 0 where
  pub safe : IsSafe (record { algs = λ k. pos 0; state = s; received = pos 0 }) e
  pub same : value_at (record { algs = λ k. pos 0; state = s; received = pos 0 }) e ≡ value_in n s (pos 0) e

pub each-there : {A : Type 0} (P : A → Type 0) (xs : List A) → ((k : ℕ) (x : A) → slice_get xs k ≡ Some x → P x) → AllByRecursion P xs
each-there P [] h = tt
each-there P (x ∷ xs) h = (h 0 x refl, each-there P xs (λ k y g. h (suc k) y g))

module _ (n : Net) (s : State) (plain : is_plain n ≡ true) (state : IsState (system_of_net n) s) where
  net : is_net n ≡ true
  net = net-of n plain

  -- one that has a kind where nothing is received
  pub told-of : (k : Kind) (e : NetExpr) (r : Range) → is_plain_expr n (record { value = e; received = r }) ≡ true → fits n None k e ≡ true → Told n s e
  told-of k e r h fit = record {
    safe = net-safe n (λ i. pos 0) s (record { value = e; received = truths }) (pos 0) None k net (plain-any n k e r truths fit h) state refl (λ u g. absurd (none-some u g)) fit;
    same = value-alone (λ i. pos 0) (at_or (pos 0) (alg_values n s (pos 0) (length n.algs))) s (pos 0) e (and-left _ _ (and-left _ _ h));
  }

  pub guard-told : (k : ℕ) (a : NetAuto) (j : ℕ) (y : NetEdge) → slice_get n.autos k ≡ Some a → slice_get a.edges j ≡ Some y → Told n s y.guard
  guard-told k a j y p q =
      let w = kept n plain k a j y p q in
      told-of bool_kind y.guard (channel_range (channel_of n y.event)) (w.plain y.guard (inl refl)) (and-right _ _ (and-left _ _ (and-left _ _ (and-left _ _ (and-left _ _ (and-left _ _ w.stands))))))

  other-plain : (e : NetExpr) → Member e (other_exprs n) → is_plain_expr n (record { value = e; received = truths }) ≡ true
  other-plain e m =
      all-member (is_plain_expr n) (evaluated n) (record { value = e; received = truths }) (and-right _ _ (and-left _ _ (and-left _ _ plain)))
      (append-right _ (flat_map (edge_evaluated n) (all_edges n)) _ (map-member (λ (f : NetExpr). record { value = f; received = truths }) e (other_exprs n) m))

  pub exclusion-told : (k : ℕ) (y : NetExclusion) → slice_get n.exclusions k ≡ Some y → Told n s y.pred
  exclusion-told k y p =
      let m = at-member n.exclusions k y p in
      told-of bool_kind y.pred truths
      (other-plain y.pred (append-left y.pred (map (λ (x : NetExclusion). x.pred) n.exclusions) _ (map-member (λ (x : NetExclusion). x.pred) y n.exclusions m)))
      (and-right _ _ (all-member (exclusion_stands n) n.exclusions y (and-right _ _ (and-left _ _ (and-left _ _ net))) m))

  pub invariant-plain : (k : ℕ) (y : NetInvariant) → slice_get n.invariants k ≡ Some y → is_plain_expr n (record { value = y.pred; received = truths }) ≡ true
  invariant-plain k y p =
      other-plain y.pred
      (append-right y.pred (map (λ (x : NetExclusion). x.pred) n.exclusions) _ (append-left y.pred (map (λ (x : NetInvariant). x.pred) n.invariants) _ (map-member (λ (x : NetInvariant). x.pred) y n.invariants (at-member n.invariants k y p))))

  pub invariant-told : (k : ℕ) (y : NetInvariant) → slice_get n.invariants k ≡ Some y → Told n s y.pred
  invariant-told k y p =
      let m = at-member n.invariants k y p in
      told-of bool_kind y.pred truths
      (other-plain y.pred (append-right y.pred (map (λ (x : NetExclusion). x.pred) n.exclusions) _ (append-left y.pred (map (λ (x : NetInvariant). x.pred) n.invariants) _ (map-member (λ (x : NetInvariant). x.pred) y n.invariants m))))
      (all-member (invariant_stands n) n.invariants y (and-right _ _ (and-left _ _ net)) m)

  abbrev old : Setting
  old = record { algs = λ k. pos 0; state = s; received = pos 0 }

  pub autos-safe : AreSafeAutos old n.autos
  autos-safe = each-there (λ (a : NetAuto). AreSafeGuards old a.edges) n.autos (λ k a p. each-there (λ (y : NetEdge). IsSafe old y.guard) a.edges (λ j y q. (guard-told k a j y p q).safe))

  pub autos-mean : AutosMean n s old
  autos-mean k a p j y q = ap is_true (guard-told k a j y p q).same

  pub exclusions-safe : AreSafeExclusions old n.exclusions
  exclusions-safe = each-there (λ (y : NetExclusion). IsSafe old y.pred) n.exclusions (λ k y p. (exclusion-told k y p).safe)

  pub exclusions-mean : (k : ℕ) (y : NetExclusion) → slice_get n.exclusions k ≡ Some y → true_at old y.pred ≡ true_in n s y.pred
  exclusions-mean k y p = ap is_true (exclusion-told k y p).same
