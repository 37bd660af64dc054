-- The table of intervals that is filled along an order has the declared intervals of the algebraic variables of the net, and a
-- fault of a definition over a part of it breaks a rule.
use Rattle.std.proofs.Common.{◌≡◌, ℕ, zero, suc, ◌≤◌, pos, true, List, [], ◌∷◌, map, length, take, refl, sym, ◌∙◌, ap, subst, slice_get, Some, arith}
use Rattle.std.specs.Prelude.{flat_map}
use Rattle.cif_base.specs.Bounds.{Bounds}
use Rattle.cif_system.specs.System.{Range, in_range}
use Rattle.cif_system.specs.Words.{Member}
use Rattle.cif_system.proofs.Picks.{append-right, map-member, flat_map-member, at-member}
use Rattle.cif_net_expr.specs.Tree.{NetExpr}
use Rattle.cif_net_model.specs.Net.{NetAlg, NetExclusion, NetInvariant, Net}
use Rattle.cif_net_model.specs.Facts.{is_net}
use Rattle.cif_net_model.specs.Exprs.{alg_exprs, all_edges, other_exprs}
use Rattle.cif_net_model.specs.Reads.{Read, a_var, an_input, an_alg, a_place, the_received, names_in}
use Rattle.cif_net_model.specs.Unfolding.{at_or, unfolded}
use Rattle.cif_net_model.specs.Interval.{point, truths, as_bounds, as_range, Ranges, range_of, with_algs, alg_range, alg_ranges, stored_range, declared_ranges}
use Rattle.cif_net_model.specs.Parts.{is_narrow}
use Rattle.cif_net_model.specs.Rules.{IsAcyclic, Evaluated, edge_evaluated, evaluated}
use Rattle.cif_net_model.proofs.PlainLaws.{never}
use Rattle.cif_alg_measure.specs.declared.error.WidthErr.{WidthErr}
use Rattle.cif_alg_measure.specs.declared.error.WidthErr.TheVariants as width
use Rattle.cif_alg_measure.specs.declared.error.IntervalErr.{IntervalErr}
use Rattle.cif_alg_measure.specs.declared.error.IntervalErr.TheVariants.{Width, Memory}
use Rattle.cif_alg_measure.specs.Faults.{HasFault}
use Rattle.cif_alg_measure.specs.Rules.{due}
use Rattle.cif_alg_measure.specs.Widths.{with_received}
use Rattle.cif_alg_order.specs.Filled.{filled}
use Rattle.cif_alg_order.specs.Orders.{IsOrderOf, IsRankOf}
use Rattle.cif_alg_order.specs.Ranged.{zero_bounds, with_table, alg_bounds, FaultAlong}
use Rattle.cif_alg_order.proofs.GraphLaws.{order-gives, order-acyclic}
use Rattle.cif_alg_order.proofs.FillLaws.{filled-whole, filled-agrees, unfolded-seen, before-taken}
use Rattle.cif_alg_order.proofs.FitLaws.{names-stand}
use Rattle.cif_alg_order.proofs.ReadLaws.{same_read, range-same, alg-same, parts-name, divisors-name}

abbrev Names : NetAlg → ℕ → Type 0
Names a k = Member (an_alg k) (flat_map names_in (alg_exprs a))

-- the declared ranges of what is stored, with a received value
abbrev pub stored_in : Net → Range → Ranges
stored_in n r = record { vars = λ k. stored_range (slice_get n.vars k); inputs = λ k. stored_range (slice_get n.inputs k); algs = λ k. point (pos 0); received = r }

module _ (n : Net) (net : is_net n ≡ true) (o : List ℕ) (ordered : IsOrderOf n o) (g : Ranges)
    (vars : (k : ℕ) → g.vars k ≡ stored_range (slice_get n.vars k)) (inputs : (k : ℕ) → g.inputs k ≡ stored_range (slice_get n.inputs k)) (received : g.received ≡ truths) where
  abbrev table : List ℕ → List Bounds
  table ks = filled zero_bounds (alg_bounds g) n.algs ks

  r : (rank : ℕ → ℕ) × IsRankOf n rank
  r = order-gives n o ordered

  alike : (s t : ℕ → Bounds) (a : NetAlg) → ((k : ℕ) → Names a k → s k ≡ t k) → alg_bounds g s a ≡ alg_bounds g t a
  alike s t a h = ap as_bounds (alg-same (with_table g s) (with_table g t) a read)
    where
      read : (q : Read) → Member q (flat_map names_in (alg_exprs a)) → same_read (with_table g s) (with_table g t) q
      read (a_var k) m = refl
      read (an_input k) m = refl
      read (an_alg k) m = ap as_range (h k m)
      read (a_place k) m = tt
      read the_received m = refl

  whole : table o ≡ unfolded zero_bounds (alg_bounds g) n.algs (length n.algs)
  whole = filled-whole zero_bounds (alg_bounds g) n.algs Names alike r.0 r.1.within (λ j k x p q. r.1.falls j k (x, p, q)) o ordered.only ordered.once (λ j k x p q. ordered.after j k (x, p, q)) ordered.each

  -- a definition reads nothing that is received
  seen : (q : Range) (t : ℕ → Bounds) (a : NetAlg) → Member a n.algs → as_range (alg_bounds g t a) ≡ alg_range (range_of (with_algs (stored_in n q) (λ k. as_range (t k)))) a
  seen q t a m = alg-same (with_table g t) (with_algs (stored_in n q) (λ k. as_range (t k))) a read
    where
      read : (x : Read) → Member x (flat_map names_in (alg_exprs a)) → same_read (with_table g t) (with_algs (stored_in n q) (λ k. as_range (t k))) x
      read (a_var k) i = vars k
      read (an_input k) i = inputs k
      read (an_alg k) i = refl
      read (a_place k) i = tt
      read the_received i = never (names-stand n net a m the_received i)

  unfolded-is : (q : Range) → map as_range (unfolded zero_bounds (alg_bounds g) n.algs (length n.algs)) ≡ alg_ranges n (stored_in n q) (length n.algs)
  unfolded-is q = unfolded-seen as_range zero_bounds (alg_bounds g) (λ algs a. alg_range (range_of (with_algs (stored_in n q) algs)) a) n.algs (seen q) (length n.algs)

  at-map : {A B : Type 0} (h : A → B) (d : A) (xs : List A) (k : ℕ) → h (at_or d xs k) ≡ at_or (h d) (map h xs) k
  at-map h d [] k = refl
  at-map h d (x ∷ xs) zero = refl
  at-map h d (x ∷ xs) (suc k) = at-map h d xs k

  unfolded-at : (q : Range) (k : ℕ) → as_range (at_or zero_bounds (unfolded zero_bounds (alg_bounds g) n.algs (length n.algs)) k) ≡ (declared_ranges n q).algs k
  unfolded-at q k = at-map as_range zero_bounds (unfolded zero_bounds (alg_bounds g) n.algs (length n.algs)) k ∙ ap (λ rs. at_or (point (pos 0)) rs k) (unfolded-is q)

  -- the ranges over the whole table are the declared ones
  pub table-declared : (q : Range) → with_received (with_table g (at_or zero_bounds (table o))) q ≡ declared_ranges n q
  table-declared q =
      let a : (k : ℕ) → as_range (at_or zero_bounds (table o) k) ≡ (declared_ranges n q).algs k = λ k. ap (λ t. as_range (at_or zero_bounds t k)) whole ∙ unfolded-at q k in
      λ i. record { vars = λ k. vars k i; inputs = λ k. inputs k i; algs = λ k. a k i; received = q }

  -- ranges over a table that was filled along the order
  pub over-declared : (h : Ranges) (t : List Bounds) (ds : List NetAlg) → h ≡ with_table g (at_or zero_bounds t) → t ≡ filled zero_bounds (alg_bounds g) ds o → ds ≡ n.algs → (q : Range) → with_received h q ≡ declared_ranges n q
  over-declared h t ds e p d q =
      ap (λ x. with_received x q) (e ∙ ap (λ u. with_table g (at_or zero_bounds u)) (p ∙ ap (λ xs. filled zero_bounds (alg_bounds g) xs o) d)) ∙ table-declared q

  -- ---- a fault on the way

  module _ (i k : ℕ) (a : NetAlg) (at : slice_get o i ≡ Some k) (there : slice_get n.algs k ≡ Some a) (below : i ≤ length o) where
    -- what a definition names has its interval already
    read-so_far : (e : NetExpr) → Member e (alg_exprs a) → (q : Read) → Member q (names_in e) → same_read (with_table g (at_or zero_bounds (table (take i o)))) (declared_ranges n truths) q
    read-so_far e m (a_var j) w = vars j
    read-so_far e m (an_input j) w = inputs j
    read-so_far e m (an_alg j) w =
        let named : Names a j = flat_map-member names_in e (alg_exprs a) (an_alg j) m w in
        ap as_range
        (filled-agrees zero_bounds (alg_bounds g) n.algs Names alike r.0 r.1.within (λ x y z p q. r.1.falls x y (z, p, q)) o ordered.only ordered.once (λ x y z p q. ordered.after x y (z, p, q)) i below j
        (before-taken j k i o ordered.once (ordered.after k j (a, there, named)) at))
        ∙ unfolded-at truths j
    read-so_far e m (a_place j) w = tt
    read-so_far e m the_received w = received

    evaluated-there : (e : NetExpr) → Member e (alg_exprs a) → let x : Evaluated = record { value = e; received = truths } in Member x (evaluated n)
    evaluated-there e m =
        let j : Member e (flat_map alg_exprs n.algs) = flat_map-member alg_exprs a n.algs e (at-member n.algs k a there) m in
        let p : Member e (other_exprs n) = append-right e (map (λ (y : NetExclusion). y.pred) n.exclusions) _ (append-right e (map (λ (y : NetInvariant). y.pred) n.invariants) _ j) in
        append-right _ (flat_map (edge_evaluated n) (all_edges n)) _ (map-member (λ (v : NetExpr). let y : Evaluated = record { value = v; received = truths } in y) e (other_exprs n) p)

    acyclic : IsAcyclic n
    acyclic = order-acyclic n o ordered

    so_far : Ranges
    so_far = with_table g (at_or zero_bounds (table (take i o)))

    fault-there : (w : WidthErr) (e : NetExpr) → Member e (alg_exprs a) → HasFault (with_table g (at_or zero_bounds (table (take i o)))) e w → due n (Width w)
    fault-there (width.ZeroDivisor p) e m f =
        let s = range-same (with_table g (at_or zero_bounds (table (take i o)))) (declared_ranges n truths) f.0 (λ q u. read-so_far e m q (divisors-name e f.0 f.1 q u)) in
        (acyclic, record { value = e; received = truths }, f.0, evaluated-there e m, f.1, f.2, ap (λ x. in_range x (pos 0)) (sym s) ∙ f.3)
    fault-there (width.TooWide p) e m f =
        let s = range-same (with_table g (at_or zero_bounds (table (take i o)))) (declared_ranges n truths) f.0 (λ q u. read-so_far e m q (parts-name e f.0 f.1 q u)) in
        (acyclic, record { value = e; received = truths }, f.0, evaluated-there e m, f.1, f.2, ap is_narrow (sym s) ∙ f.3)

  get-below : (xs : List ℕ) (k x : ℕ) → slice_get xs k ≡ Some x → k ≤ length xs
  get-below [] k x h = absurd cc
  get-below (y ∷ xs) zero x h = omega arith
  get-below (y ∷ xs) (suc k) x h = omega (arith, get-below xs k x h)

  fault-of : (e : IntervalErr) → FaultAlong g n.algs o e → due n e
  fault-of (Width w) f = fault-there f.0 f.1 f.2 f.3 f.4 (get-below o f.0 f.1 f.3) w f.5.0 f.5.1 f.5.2
  fault-of Memory f = tt

  pub fault-along : (ds : List NetAlg) → ds ≡ n.algs → (e : IntervalErr) → FaultAlong g ds o e → due n e
  fault-along ds d e f = fault-of e (subst (λ xs. FaultAlong g xs o e) d f)
