-- A net in which algebraic variables are replaced differs from the net in expressions alone.
use Rattle.std.proofs.Common.{◌≡◌, ℕ, refl, sym, ap, subst}
use Rattle.cif_net_expr.specs.Tree.{NetExpr}
use Rattle.cif_net_model.specs.Inline.{replaced, edge_replaced, auto_replaced, alg_replaced, net_replaced, Unfolds}
use Rattle.cif_net_model.specs.Net.{NetAuto, NetExclusion, NetInvariant, Net}
use Rattle.cif_net_laws.proofs.Lists.{map-after}
use Rattle.cif_net_laws.specs.Face.{bare_edge, bare_auto, bare_alg, bare_exclusion, bare_invariant, HasSameFace}

module _ (by : ℕ → NetExpr) where
  bare-auto : (a : NetAuto) → bare_auto (auto_replaced by a) ≡ bare_auto a
  bare-auto a = ap (λ xs. record a { edges = xs }) (map-after (edge_replaced by) bare_edge bare_edge a.edges (λ x m. refl))

  pub replaced-face : (n : Net) → HasSameFace n (net_replaced by n)
  replaced-face n = record {
    events = refl;
    inputs = refl;
    vars = refl;
    autos = map-after (auto_replaced by) bare_auto bare_auto n.autos (λ a m. bare-auto a);
    algs = map-after (alg_replaced by) bare_alg bare_alg n.algs (λ a m. refl);
    exclusions = map-after (λ (x : NetExclusion). record x { pred = replaced by x.pred }) bare_exclusion bare_exclusion n.exclusions (λ x m. refl);
    invariants = map-after (λ (i : NetInvariant). record i { pred = replaced by i.pred }) bare_invariant bare_invariant n.invariants (λ i m. refl);
  }

pub same-face : (n p : Net) → Unfolds n p → HasSameFace n p
same-face n p u = subst (HasSameFace n) (sym u.whole) (replaced-face u.by n)
