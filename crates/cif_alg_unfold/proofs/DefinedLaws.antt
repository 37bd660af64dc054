-- Along an order of their needs each algebraic variable is replaced by its definition, in which they are replaced too.
use Rattle.std.proofs.Common.{◌≡◌, ℕ, suc, ◌<◌, List, length, flat_map, Some, slice_get, refl, sym, ap, ◌∙◌, arith}
use Rattle.std.proofs.lemmas.Option.{slice_get_within}
use Rattle.cif_system.specs.Words.{Member}
use Rattle.cif_net_expr.specs.Tree.{NetExpr}
use Rattle.cif_net_model.specs.Net.{NetAlg, Net}
use Rattle.cif_net_model.specs.Exprs.{alg_exprs}
use Rattle.cif_net_model.specs.Reads.{an_alg, names_in}
use Rattle.cif_net_model.specs.Unfolding.{at_or, unfolded}
use Rattle.cif_net_model.specs.Inline.{Unfolds, net_replaced, alg_replaced, defined_by}
use Rattle.cif_net_model.proofs.UnfoldLaws.{unfolded-at, unfolded-stable}
use Rattle.cif_alg_order.specs.Orders.{IsOrderOf}
use Rattle.cif_alg_order.proofs.FillLaws.{filled-whole}
use Rattle.cif_alg_order.proofs.GraphLaws.{order-gives}
use Rattle.cif_alg_unfold.specs.Tables.{nothing}
use Rattle.cif_alg_unfold.specs.Defined.{definition_by, definitions}
use Rattle.cif_alg_unfold.proofs.SameLaws.{alg-same}

-- a definition names it
abbrev Names : NetAlg → ℕ → Type 0
Names a k = Member (an_alg k) (flat_map names_in (alg_exprs a))

alike : (f g : ℕ → NetExpr) (a : NetAlg) → ((k : ℕ) → Names a k → f k ≡ g k) → definition_by f a ≡ definition_by g a
alike f g a h = ap defined_by (alg-same f g a h)

module _ (n : Net) (order : List ℕ) (ordered : IsOrderOf n order) where
  abbrev pub by : ℕ → NetExpr
  by = at_or nothing (definitions n.algs order)

  abbrev all : List NetExpr
  all = unfolded nothing definition_by n.algs (length n.algs)

  is-all : definitions n.algs order ≡ all
  is-all =
      let r = order-gives n order ordered in
      filled-whole nothing definition_by n.algs Names alike r.0 r.1.within (λ j k x g w. r.1.falls j k (x, g, w)) order ordered.only ordered.once (λ j k x g w. ordered.after j k (x, g, w)) ordered.each

  pub each : (k : ℕ) (a : NetAlg) → slice_get n.algs k ≡ Some a → by k ≡ defined_by (alg_replaced by a)
  each k a g =
      let r = order-gives n order ordered in
      let low : r.0 k < length n.algs = r.1.within k (slice_get_within n.algs k a g) in
      ap (λ xs. at_or nothing xs k) is-all
      ∙ unfolded-stable nothing definition_by n.algs Names alike r.0 (λ j i x w m. r.1.falls j i (x, w, m)) (length n.algs) (suc (length n.algs)) k low (omega (arith, low))
      ∙ unfolded-at nothing definition_by n.algs (length n.algs) k a g
      ∙ ap (λ xs. definition_by (at_or nothing xs) a) (sym is-all)

  abbrev pub unfolds : Unfolds n (net_replaced by n)
  unfolds = record {
    by = by;
    each = each;
    rank = (order-gives n order ordered).0;
    falls = (order-gives n order ordered).1.falls;
    whole = refl;
  }
