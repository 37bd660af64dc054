-- The table of the expressions that algebraic variables are replaced by, and the net whose parts are replaced by it.
use Rattle.std.proofs.Common.{◌≡◌, ℕ, List, map, None, Some, slice_get, ap, ◌∙◌}
use Rattle.std.specs.Prelude.{slice_set}
use Rattle.std.proofs.lemmas.List.{map-set}
use Rattle.cif_net.specs.View.{alg_tree, auto_tree, event_tree, exclusion_tree, input_tree, invariant_tree, net_of_parts, var_tree}
use Rattle.cif_net.specs.declared.automata.Auto.{Auto}
use Rattle.cif_net.specs.declared.events.Event.{Event}
use Rattle.cif_net.specs.declared.data.Input.{Input}
use Rattle.cif_net.specs.declared.data.Var.{Var}
use Rattle.cif_net.specs.declared.data.Alg.{Alg}
use Rattle.cif_net.specs.declared.predicates.Exclusion.{Exclusion}
use Rattle.cif_net.specs.declared.predicates.Invariant.{Invariant}
use Rattle.cif_net_expr.specs.View.{view}
use Rattle.cif_net_expr.specs.declared.expressions.NetExpr.{NetExpr}
use Rattle.cif_net_model.specs.Unfolding.{at_or}
use Rattle.cif_net_model.specs.Inline.{Unfolds, alg_replaced, auto_replaced}
use Rattle.cif_alg_order.specs.Orders.{IsOrderOf}
use Rattle.cif_alg_order.proofs.FillLaws.{map-none, map-some, put-none, put-some}
use Rattle.cif_alg_unfold.specs.Tables.{nothing, by_table}
use Rattle.cif_alg_unfold.specs.Defined.{definition_by, with_definition, definitions}
use Rattle.cif_alg_unfold.specs.Parts.{exclusion_replaced, invariant_replaced}
use Rattle.cif_alg_unfold.proofs.DefinedLaws.{by, unfolds}

-- the definition with that number is made
pub set_made : (ds : List Alg) (es fs : List NetExpr) (k : ℕ) (alg : Alg) (made : NetExpr)
    → slice_get ds k ≡ Some alg → view made ≡ definition_by (by_table es) (alg_tree alg) → fs ≡ slice_set es k made → map view fs ≡ with_definition (map alg_tree ds) (map view es) k
set_made ds es fs k alg made at is set =
    ap (map view) set
    ∙ map-set view es k made
    ∙ ap (slice_set (map view es) k) is
    ∙ put-some nothing definition_by (map alg_tree ds) (map view es) k (alg_tree alg) (map-some alg_tree ds k alg at)

-- no definition has that number
pub none_made : (ds : List Alg) (es : List NetExpr) (k : ℕ) → slice_get ds k ≡ None → map view es ≡ with_definition (map alg_tree ds) (map view es) k
none_made ds es k past = put-none nothing definition_by (map alg_tree ds) (map view es) k (map-none alg_tree ds k past)

module _ (autos : List Auto) (events : List Event) (inputs : List Input) (vars : List Var) (algs : List Alg) (exclusions : List Exclusion) (invariants : List Invariant) (order : List ℕ)
    (ordered : IsOrderOf (net_of_parts autos events inputs vars algs exclusions invariants) order) (table : List NetExpr) (made : map view table ≡ definitions (map alg_tree algs) order) where
  -- lists that are kept are given once more, as those that they equal
  pub parts_unfold : (t : List NetExpr) (es : List Event) (ins : List Input) (vs : List Var) (xs : List Exclusion) (is : List Invariant)
      (new_autos : List Auto) (new_algs : List Alg) (new_exclusions : List Exclusion) (new_invariants : List Invariant)
      → t ≡ table → es ≡ events → ins ≡ inputs → vs ≡ vars → xs ≡ exclusions → is ≡ invariants
      → map auto_tree new_autos ≡ map (auto_replaced (by_table t)) (map auto_tree autos)
      → map alg_tree new_algs ≡ map (alg_replaced (by_table t)) (map alg_tree algs)
      → map exclusion_tree new_exclusions ≡ map (exclusion_replaced (by_table t)) (map exclusion_tree xs)
      → map invariant_tree new_invariants ≡ map (invariant_replaced (by_table t)) (map invariant_tree is)
      → Unfolds (net_of_parts autos events inputs vars algs exclusions invariants) (net_of_parts new_autos es ins vs new_algs new_exclusions new_invariants)
  parts_unfold t es ins vs xs is new_autos new_algs new_exclusions new_invariants te ee ie ve xe se a g x i =
      let n = net_of_parts autos events inputs vars algs exclusions invariants in
      let u = unfolds n order ordered in
      let same : by_table t ≡ by n order ordered = ap (λ zs. at_or nothing (map view zs)) te ∙ ap (at_or nothing) made in
      record {
        by = u.by;
        each = u.each;
        rank = u.rank;
        falls = u.falls;
        whole = λ j. record n {
          autos = (a ∙ ap (λ f. map (auto_replaced f) (map auto_tree autos)) same) j;
          events = map event_tree (ee j);
          inputs = map input_tree (ie j);
          vars = map var_tree (ve j);
          algs = (g ∙ ap (λ f. map (alg_replaced f) (map alg_tree algs)) same) j;
          exclusions = (x ∙ ap (λ zs. map (exclusion_replaced (by_table t)) (map exclusion_tree zs)) xe ∙ ap (λ f. map (exclusion_replaced f) (map exclusion_tree exclusions)) same) j;
          invariants = (i ∙ ap (λ zs. map (invariant_replaced (by_table t)) (map invariant_tree zs)) se ∙ ap (λ f. map (invariant_replaced f) (map invariant_tree invariants)) same) j;
        };
      }
