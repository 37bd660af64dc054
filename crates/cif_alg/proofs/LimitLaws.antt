-- What follows where a net is within the limits, and where it is not.
use Rattle.std.proofs.Common.{◌≡◌, ℕ, ◌<◌, ◌^◌, Bool, true, false, ◌||◌, nat_lt, List, map, refl, sym, ◌∙◌, ap, subst, Result, Ok, Err, IfErr, arith}
use Rattle.std.specs.Result.{IsErrAnd}
use Rattle.std.proofs.lemmas.Bool.Decides.{nat_tests}
use Rattle.cif_net_model.specs.Net as n
use Rattle.cif_net_model.specs.Counts.{nodes, depth, stopped, most_nodes, most_depth, is_too_large}
use Rattle.cif_net_model.specs.Rules.{IsAcyclic, TooLarge}
use Rattle.cif_net.specs.declared.net.Net.{Net}
use Rattle.cif_net.specs.View.{net_tree, auto_tree, event_tree, exclusion_tree, invariant_tree}
use Rattle.cif_alg_measure.specs.declared.measures.Measure.{Measure}
use Rattle.cif_alg_measure.specs.Meanings.{table_measure}
use Rattle.cif_alg_measure.specs.Sizes.{AreMeasured}
use Rattle.cif_alg_measure.specs.declared.error.WidthErr.TheVariants as width
use Rattle.cif_alg_measure.specs.declared.error.IntervalErr.{IntervalErr}
use Rattle.cif_alg_measure.specs.declared.error.IntervalErr.TheVariants as interval
use Rattle.cif_alg_measure.specs.Rules as intervals
use Rattle.cif_alg_order.specs.declared.error.AlgebraicErr.{AlgebraicErr}
use Rattle.cif_alg_order.specs.declared.error.AlgebraicErr.TheVariants as algebraic
use Rattle.cif_alg_order.specs.Orders as orders
use Rattle.cif_alg.specs.declared.error.AlgErr.{AlgErr}
use Rattle.cif_alg.specs.Refusals.{order_refusal, interval_refusal}
use Rattle.cif_alg.specs.Sizes.{sizes_added}
use Rattle.cif_alg.specs.Keeps.{due}
use Rattle.cif_alg.specs.Tallies.{counted}
use Rattle.cif_alg.proofs.InlineLaws.{told}

-- a count that stops is past its limit where the whole one is
past : (m v : ℕ) → nat_lt m (stopped m v) ≡ nat_lt m v
past m v =
    elim (nat_lt m v) as (λ t. nat_lt m v ≡ t → nat_lt m (stopped m v) ≡ t) [
      | true ↦ λ h. grind (arith, nat_tests)
      | false ↦ λ h. grind (arith, nat_tests)
    ] refl

-- k nodes were counted
module _ (net : Net) (ms : List Measure) (measured : AreMeasured ms (net_tree net)) (k : ℕ)
    (are : k ≡ sizes_added (counted (table_measure ms) (map auto_tree net.autos) (map exclusion_tree net.exclusions) (map invariant_tree net.invariants) (map event_tree net.events)) ms) where
  nodes-told : k ≡ stopped most_nodes (nodes (net_tree net))
  nodes-told = are ∙ told (net_tree net) ms measured net.fits

  pub nodes-fit : k < 2 ^ 32
  nodes-fit = omega (arith, nodes-told)

  -- and the depth d
  module _ (d : ℕ) (deep : d ≡ stopped most_depth (depth (net_tree net))) where
    over : is_too_large (net_tree net) ≡ (nat_lt most_nodes k || nat_lt most_depth d)
    over =
        ap (λ b. b || nat_lt most_depth (depth (net_tree net))) (sym (ap (nat_lt most_nodes) nodes-told ∙ past most_nodes (nodes (net_tree net))))
        ∙ ap (λ b. nat_lt most_nodes k || b) (sym (ap (nat_lt most_depth) deep ∙ past most_depth (depth (net_tree net))))

    pub too-large : IsAcyclic (net_tree net) → (b : Bool) → b ≡ (nat_lt most_nodes k || nat_lt most_depth d) → b ≡ true → TooLarge (net_tree net) k d
    too-large acyclic b h t = (acyclic, over ∙ sym h ∙ t, nodes-told, deep)

    pub small : (b : Bool) → b ≡ (nat_lt most_nodes k || nat_lt most_depth d) → b ≡ false → is_too_large (net_tree net) ≡ false
    small b h f = over ∙ sym h ∙ f

-- ---- refusals

interval-due : (x : n.Net) (e : IntervalErr) → intervals.due x e → due x (interval_refusal e)
interval-due x (interval.Width (width.ZeroDivisor at)) h = h
interval-due x (interval.Width (width.TooWide at)) h = h
interval-due x interval.Memory h = h

pub refusal-told : {A : Type 0} (x : n.Net) (r : Result A AlgErr) (e : IntervalErr) → IsErrAnd r (λ a. a ≡ interval_refusal e) → intervals.due x e → IfErr r (due x)
refusal-told x (Ok d) e h k = tt
refusal-told x (Err a) e h k = subst (due x) (sym h) (interval-due x e k)

order-due : (x : n.Net) (e : AlgebraicErr) → orders.due x e → due x (order_refusal e)
order-due x (algebraic.Cycle alg) h = h
order-due x algebraic.Memory h = h

pub order-told : {A : Type 0} (x : n.Net) (r : Result A AlgErr) (e : AlgebraicErr) → IsErrAnd r (λ a. a ≡ order_refusal e) → orders.due x e → IfErr r (due x)
order-told x (Ok d) e h k = tt
order-told x (Err a) e h k = subst (due x) (sym h) (order-due x e k)
