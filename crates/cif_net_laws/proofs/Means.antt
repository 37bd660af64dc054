-- The system of a net in which algebraic variables are replaced by their definitions is that of the net.
use Rattle.std.proofs.Common.{◌≡◌, ℕ, zero, suc, ◌<◌, ◌≤◌, ℤ, pos, pred, Bool, true, not, List, [], ◌∷◌, ◌++◌, map, length, Option, Some, None, option_map, refl, sym, ◌∙◌, ap, slice_index_or, if◌then◌else◌, arith}
use Rattle.std.proofs.Math.Path.{fun_ext}
use Rattle.cif_system.specs.System.{State}
use Rattle.cif_system.specs.Words.{Member}
use Rattle.cif_system.proofs.Lists.{slice_get-below, map-length}
use Rattle.cif_net_expr.specs.Tree.{NetExpr, NetUpdate, net_set, net_choose, NetUpdates, no_net_updates, net_updates, NetUpdateBranches, no_net_update_branches, net_update_branches}
use Rattle.cif_net_model.specs.Net.{NetEdge, NetAuto, NetAlg, NetExclusion, NetInvariant, Net}
use Rattle.cif_net_model.specs.Facts.{is_net}
use Rattle.cif_net_model.specs.Inline.{replaced, updates_replaced, update_replaced, update_branches_replaced, edge_replaced, auto_replaced, alg_replaced, net_replaced, defined_by, Unfolds}
use Rattle.cif_net_model.specs.Meaning.{at_or_last, alg_value, alg_values, value_in, defined_value, true_in, net_assigned_all, net_assigned_by, net_assigned_in, edge_meant, automaton_in, exclusion_in, invariant_in, system_of_net}
use Rattle.cif_net_model.specs.Unfolding.{at_or}
use Rattle.cif_net_model.specs.Value.{is_true, net_value}
use Rattle.cif_net_model.proofs.InlineLaws.{replaced-value, by_places-value}
use Rattle.cif_net_model.proofs.ValueLaws.{ap-two}
use Rattle.cif_net_laws.proofs.Lists.{map-after}
use Rattle.cif_net_laws.proofs.Settled.{Settled, settled}
use Rattle.cif_net_laws.proofs.Solved as solved
use Rattle.cif_net_laws.proofs.Solved.{alg-cases, member-at}

-- ---- values of definitions

module _ (t : State) (r : ℤ) where
  abbrev ev : (ℕ → ℤ) → NetExpr → ℤ
  ev g e = net_value g t r e

  abbrev def : (ℕ → ℤ) → NetAlg → ℤ
  def g a = alg_value (net_value g t r) t a

  replaced-last : (by : ℕ → NetExpr) (g : ℕ → ℤ) (es : List NetExpr) (k : ℕ) → at_or_last (map (replaced by) es) k (ev g) ≡ at_or_last es k (ev (λ j. ev g (by j)))
  replaced-last by g [] k = refl
  replaced-last by g (e ∷ []) k = replaced-value by g t r e
  replaced-last by g (e ∷ f ∷ es) zero = replaced-value by g t r e
  replaced-last by g (e ∷ f ∷ es) (suc k) = replaced-last by g (f ∷ es) k

  def-after : (by : ℕ → NetExpr) (g : ℕ → ℤ) (a : NetAlg) → def g (alg_replaced by a) ≡ def (λ k. ev g (by k)) a
  def-after by g = alg-cases (λ a. def g (alg_replaced by a) ≡ def (λ k. ev g (by k)) a) (λ a e. replaced-value by g t r e) (λ a k es. replaced-last by g es (slice_index_or t.locs k 0))

  def-value : (g : ℕ → ℤ) (a : NetAlg) → def g a ≡ ev g (defined_by a)
  def-value g = alg-cases (λ a. def g a ≡ ev g (defined_by a)) (λ a e. refl) (λ a k es. sym (by_places-value g t r k es))

below-pred : (i j l : ℕ) → i < j → j ≡ l → i ≤ pred l
below-pred i j zero h e = absurd (omega (arith, h, e))
below-pred i j (suc l) h e = omega (arith, h, e)

module _ (n p : Net) (s : Settled n p) where
  abbrev q : Net
  q = net_replaced s.by n

  -- ---- values of expressions

  value-same : (t : State) (r : ℤ) (e : NetExpr) → value_in q t r (replaced s.by e) ≡ value_in n t r e
  value-same t r = solved.others-same (pos 0) (ev t r) (def t r) (λ g h. refl) (λ g k. refl) (def-after t r) n p s (λ g a m. def-value t r g (alg_replaced s.by a)) (λ by g e. replaced-value by g t r e)

  defined-same : (a : NetAlg) → Member a n.algs → (t : State) → defined_value q t (alg_replaced s.by a) ≡ defined_value n t a
  defined-same a m t =
      let k = member-at a n.algs m in
      ap (λ l. alg_value (net_value (at_or (pos 0) (alg_values q t (pos 0) (pred l))) t (pos 0)) t (alg_replaced s.by a)) (map-length (alg_replaced s.by) n.algs)
      ∙ solved.step-same (pos 0) (ev t (pos 0)) (def t (pos 0)) (λ g h. refl) (λ g k. refl) (def-after t (pos 0)) n p s (λ g b i. def-value t (pos 0) g (alg_replaced s.by b)) (pred (length n.algs)) k.0 a k.1
      (below-pred (s.rank k.0) (length n.algs) (length n.algs) (s.bounded k.0 (slice_get-below n.algs k.0 a k.1)) refl)

  pub true-same : (t : State) (e : NetExpr) → true_in q t (replaced s.by e) ≡ true_in n t e
  true-same t e = ap is_true (value-same t (pos 0) e)

  sent-same : (t : State) (o : Option NetExpr) → option_map (value_in q t (pos 0)) (option_map (replaced s.by) o) ≡ option_map (value_in n t (pos 0)) o
  sent-same t None = refl
  sent-same t (Some e) = ap Some (value-same t (pos 0) e)

  -- ---- updates

  module _ (t : State) (r : ℤ) where
    if-same : {A : Type 0} {b c : Bool} {x y v w : A} → b ≡ c → x ≡ y → v ≡ w → (if b then x else v) ≡ (if c then y else w)
    if-same {c = c} {x = x} {y = y} {v = v} h k l = ap (λ o. if o then x else v) h ∙ ap (λ o. if c then o else v) k ∙ ap (λ o. if c then y else o) l

    mutual
      all-same : (us : NetUpdates) → net_assigned_all q t r (updates_replaced s.by us) ≡ net_assigned_all n t r us
      all-same no_net_updates = refl
      all-same (net_updates u us) = ap-two (λ xs ys. xs ++ ys) (by-same u) (all-same us)

      by-same : (u : NetUpdate) → net_assigned_by q t r (update_replaced s.by u) ≡ net_assigned_by n t r u
      by-same (net_set v e) = ap (λ z. (v, z) ∷ []) (value-same t r e)
      by-same (net_choose bs us) = in-same bs _ _ (all-same us)

      in-same : (bs : NetUpdateBranches) (x y : List (ℕ × ℤ)) → x ≡ y → net_assigned_in q t r x (update_branches_replaced s.by bs) ≡ net_assigned_in n t r y bs
      in-same no_net_update_branches x y h = h
      in-same (net_update_branches c us bs) x y h = if-same (ap is_true (value-same t r c)) (all-same us) (in-same bs x y h)

  -- ---- the system

  edge-same : (x : NetEdge) → edge_meant q (edge_replaced s.by x) ≡ edge_meant n x
  edge-same x =
      ap (λ g. record (edge_meant q (edge_replaced s.by x)) { guard = g }) (fun_ext (λ t. true-same t x.guard))
      ∙ ap-two (λ g a. record (edge_meant n x) { sent = g; assigned = a }) (fun_ext (λ t. sent-same t x.sent)) (fun_ext (λ t. fun_ext (λ r. all-same t r x.updates)))

  auto-same : (a : NetAuto) → automaton_in q (auto_replaced s.by a) ≡ automaton_in n a
  auto-same a = ap (λ xs. record (automaton_in n a) { edges = xs }) (map-after (edge_replaced s.by) (edge_meant q) (edge_meant n) a.edges (λ x m. edge-same x))

  exclusion-same : (x : NetExclusion) → exclusion_in q (record x { pred = replaced s.by x.pred }) ≡ exclusion_in n x
  exclusion-same x = ap (λ g. record (exclusion_in n x) { permits = g }) (fun_ext (λ t. ap (λ b. if x.allows then b else not b) (true-same t x.pred)))

  pub system-same : system_of_net q ≡ system_of_net n
  system-same =
      ap-two (λ xs ds. record (system_of_net q) { automata = xs; algs = ds })
      (map-after (auto_replaced s.by) (automaton_in q) (automaton_in n) n.autos (λ a m. auto-same a))
      (map-after (alg_replaced s.by) (λ a t. defined_value q t a) (λ a t. defined_value n t a) n.algs (λ a m. fun_ext (defined-same a m)))
      ∙ ap-two (λ xs is. record (system_of_net n) { exclusions = xs; invariants = is })
      (map-after (λ (x : NetExclusion). record x { pred = replaced s.by x.pred }) (exclusion_in q) (exclusion_in n) n.exclusions (λ x m. exclusion-same x))
      (map-after (λ (i : NetInvariant). record i { pred = replaced s.by i.pred }) (invariant_in q) (invariant_in n) n.invariants (λ i m. fun_ext (λ t. true-same t i.pred)))

pub means-same : (n p : Net) → is_net n ≡ true → Unfolds n p → system_of_net p ≡ system_of_net n
means-same n p net u = let s = settled n p net u in ap system_of_net s.whole ∙ system-same n p s
