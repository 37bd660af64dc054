-- The graph of the algebraic variables that definitions name, as lists, is that of what they need.
use Rattle.std.proofs.Common.{◌≡◌, ℕ, ◌<◌, ◌^◌, true, List, [], map, length, Option, Some, None, refl, sym, subst, slice_get, arith}
use Rattle.cif_system.specs.Words.{Member, Chain, one, more}
use Rattle.cif_system.proofs.Lists.{map-length}
use Rattle.cif_order.specs.Graph as graph
use Rattle.cif_order.specs.Graph.{AreInside, IsOrder}
use Rattle.cif_order.proofs.OrderLaws.{order-rank}
use Rattle.cif_net_model.specs.Net.{NetAlg, Net}
use Rattle.cif_net_model.specs.Facts.{is_net}
use Rattle.cif_net_model.specs.Rules.{Needs, IsAcyclic}
use Rattle.cif_net_model.proofs.CycleLaws.{acyclic-by_rank}
use Rattle.cif_net_model.proofs.UnfoldLaws.{map-at, map-past}
use Rattle.cif_alg_order.specs.declared.error.AlgebraicErr.{AlgebraicErr}
use Rattle.cif_alg_order.specs.declared.error.AlgebraicErr.TheVariants as err
use Rattle.cif_alg_order.specs.Names.{algs_of}
use Rattle.cif_alg_order.specs.Orders.{IsOrderOf, IsRankOf, due, graph_due}
use Rattle.cif_alg_order.proofs.NameLaws.{named, named-back}
use Rattle.cif_alg_order.proofs.FitLaws.{needs-below, algs-few}

chain-to : {A : Type 0} (R S : A → A → Type 0) → ((x y : A) → R x y → S x y) → (x y : A) → Chain R x y → Chain S x y
chain-to R S h x y (one r) = one (h x y r)
chain-to R S h x z (more {y = y} r c) = more (h x y r) (chain-to R S h y z c)

module _ (n : Net) where
  abbrev pub needs : List (List ℕ)
  needs = map algs_of n.algs

  pub needs-length : length needs ≡ length n.algs
  needs-length = map-length algs_of n.algs

  to-graph : (j k : ℕ) → Needs n j k → graph.Needs needs j k
  to-graph j k w = subst (Member k) (sym (map-at [] algs_of n.algs j w.0 w.1)) (named-back w.0 k w.2)

  from-graph : (j k : ℕ) → graph.Needs needs j k → Needs n j k
  from-graph j k m = by (slice_get n.algs j) refl
    where
      by : (o : Option NetAlg) → slice_get n.algs j ≡ o → Needs n j k
      by None e = absurd (subst (Member k) (map-past [] algs_of n.algs j e) m)
      by (Some a) e = (a, e, named a k (subst (Member k) (map-at [] algs_of n.algs j a e) m))

  pub inside : is_net n ≡ true → AreInside needs
  inside net j k m = let l : k < length n.algs = needs-below n net j k (from-graph j k m) in omega (arith, needs-length)

  pub few : is_net n ≡ true → length needs < 2 ^ 32
  few net = omega (arith, needs-length, algs-few n net)

  pub net-order : (o : List ℕ) → IsOrder needs o → IsOrderOf n o
  net-order o h = record {
    each = λ k l. h.each k (omega (arith, needs-length));
    only = λ k m. let l : k < length needs = h.only k m in omega (arith, needs-length);
    once = h.once;
    after = λ j k w. h.after j k (to-graph j k w);
  }

  graph-order : (o : List ℕ) → IsOrderOf n o → IsOrder needs o
  graph-order o h = record {
    each = λ k l. h.each k (omega (arith, needs-length));
    only = λ k m. let l : k < length n.algs = h.only k m in omega (arith, needs-length);
    once = h.once;
    after = λ j k w. h.after j k (from-graph j k w);
  }

  pub net-due : (e : AlgebraicErr) → graph_due needs e → due n e
  net-due (err.Cycle alg) h =
      (chain-to (graph.Needs needs) (Needs n) from-graph alg alg h.0, λ k l c. h.1 k l (chain-to (Needs n) (graph.Needs needs) to-graph k k c))
  net-due err.Memory h = tt

  pub order-gives : (o : List ℕ) → IsOrderOf n o → (rank : ℕ → ℕ) × IsRankOf n rank
  order-gives o h =
      let r = order-rank needs o (graph-order o h) in (
        r.0,
        record {
          within = λ k l. let m : r.0 k < length needs = r.1.within k (omega (arith, needs-length)) in omega (arith, needs-length);
          falls = λ j k w. r.1.falls j k (to-graph j k w);
        },
      )

  pub order-acyclic : (o : List ℕ) → IsOrderOf n o → IsAcyclic n
  order-acyclic o h = let r = order-gives o h in acyclic-by_rank n r.0 r.1.falls
