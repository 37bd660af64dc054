-- Each body of a source stands for the tree of a body in the specification, so that it has small parts where the specification
-- is counted and has small numbers.
use Rattle.std.proofs.Common.{◌≡◌, ℕ, suc, ◌<◌, ◌^◌, inl, inr, map, Some, sym, subst, refl, arith}
use Rattle.std.specs.Prelude.{flat_map, filter_map}
use Rattle.cif_ast.specs.Tree.{ItemTree, declaration, component, definition, instance, ItemTrees, no_items, items, BodyTree, group, automaton}
use Rattle.cif_ast.specs.View.{view_items}
use Rattle.cif_ast.specs.Throughout.{HoldsInItemTree, HoldsInItemTrees, HoldsInBodyTree}
use Rattle.cif_ast.specs.Countable.{IsCountable, count_of_item_tree, count_of_item_trees, count_of_body_tree}
use Rattle.cif_ast.specs.SmallNumbers.{HasSmallNumbers, small_parts}
use Rattle.cif_ast.specs.declared.components.Spec.{Spec}
use Rattle.cif_system.specs.Words.{Member}
use Rattle.cif_system.proofs.Distinct.{member-append}
use Rattle.cif_source.specs.Source.{EdgeTree, LocationTree, enum_decl, alg_decl, equation_decl, invariant_decl, param_tree, SourceBody, source_item, source_items, source_body, source_of}
use Rattle.cif_source.specs.Components.{Component, whole, part, blank, body_of}
use Rattle.cif_source.specs.Objects.{bodies, bodies_in, bodies_at, bodies_under, items_in, decls_in, locs_in}
use Rattle.cif_source.specs.Scoping.{as_instance}
use Rattle.cif_source.specs.BodyRules.{edges_of}
use Rattle.cif_inst_model.specs.Small.{HasSmallParts}
use Rattle.cif_inst_laws.specs.Forms.{HasSmallArguments}
use Rattle.cif_inst_laws.proofs.SmallBodies.{body-literals, body-values, body-equations, body-predicates, body-located, body-edges, edge-sent, edge-guards, edge-updates, edge-few, body-arguments}

-- a body that is written, in which small parts stand, and that is counted below the limit
pub record IsSmallBody (limit : ℕ) (b : SourceBody) : Type 0 where
  pub written : BodyTree
  pub is : b ≡ source_body written
  pub holds : HoldsInBodyTree small_parts written
  pub few : count_of_body_tree written < limit

module _ (limit : ℕ) where
  small-body : (c x : Component) (b : BodyTree) → HoldsInBodyTree small_parts b → count_of_body_tree b < limit
      → body_of x ≡ source_body b → c ≡ x → IsSmallBody limit (body_of c)
  small-body c x b h f is same = subst (λ (y : Component). IsSmallBody limit (body_of y)) (sym same) (record { written = b; is = is; holds = h; few = f })

  mutual
    in-items : (o : Component) (is : ItemTrees) → HoldsInItemTrees small_parts is → count_of_item_trees is < limit
        → (c : Component) → Member c (bodies_in o (source_items is)) → IsSmallBody limit (body_of c)
    in-items o no_items h f c m = absurd m
    in-items o (items i is) h f c m =
        elim (member-append c (bodies_at o (source_item i)) (bodies_in o (source_items is)) m) [
          | inl r ↦ in-item o i h.0 (omega arith) c r
          | inr r ↦ in-items o is h.1 (omega arith) c r
        ]

    in-item : (o : Component) (i : ItemTree) → HoldsInItemTree small_parts i → count_of_item_tree i < limit
        → (c : Component) → Member c (bodies_at o (source_item i)) → IsSmallBody limit (body_of c)
    in-item o (declaration d) h f c m = absurd m
    in-item o (component n b) h f c m = elim m [
      | inl same ↦ small-body c (part o n (source_body b)) b h (omega arith) refl same
      | inr r ↦ in-body (part o n (source_body b)) b h (omega arith) c r
    ]
    in-item o (definition n ps b) h f c m = elim m [
      | inl same ↦ small-body c (blank o n (map param_tree ps) (source_body b)) b h.1 (omega arith) refl same
      | inr r ↦ in-body (blank o n (map param_tree ps) (source_body b)) b h.1 (omega arith) c r
    ]
    in-item o (instance i) h f c m = absurd m

    in-body : (o : Component) (b : BodyTree) → HoldsInBodyTree small_parts b → count_of_body_tree b < limit
        → (c : Component) → Member c (bodies_under o (source_body b)) → IsSmallBody limit (body_of c)
    in-body o (group is) h f c m = in-items o is h f c m
    in-body o (automaton a) h f c m = absurd m

  in-source : (is : ItemTrees) → HoldsInItemTrees small_parts is → count_of_item_trees is < limit
      → (c : Component) → Member c (bodies (source_items is)) → IsSmallBody limit (body_of c)
  in-source is h f c m = elim m [
    | inl same ↦ small-body c (whole (source_items is)) (group is) h f refl same
    | inr r ↦ in-items (whole (source_items is)) is h f c r
  ]

pub small-parts : (spec : Spec) → IsCountable spec → HasSmallNumbers spec → HasSmallParts (source_of spec)
small-parts spec counted small =
    let all = λ (c : Component) (m : Member c (bodies (source_of spec))). in-source (2 ^ 31) (view_items spec.items) small (omega (arith, counted.few)) c m in
    let edge = λ (c : Component) (m : Member c (bodies (source_of spec))) (x : EdgeTree) (k : Member x (edges_of c)).
    body-edges (2 ^ 31) (all c m).written (all c m).holds (all c m).few x (subst (λ b. Member x (flat_map (λ (l : LocationTree). l.edges) (locs_in b))) (all c m).is k) in
    record {
      literals = λ c m n ls k. body-literals (all c m).written (all c m).holds n ls (subst (λ b. Member (enum_decl n ls) (decls_in b)) (all c m).is k);
      declared = λ c m ty n e k. body-values (all c m).written (all c m).holds ty n e (subst (λ b. Member (alg_decl ty n (Some e)) (decls_in b)) (all c m).is k);
      equations = λ c m q k. body-equations (all c m).written (all c m).holds q (subst (λ b. Member (equation_decl q) (decls_in b)) (all c m).is k);
      located = λ c m l k. body-located (all c m).written (all c m).holds l (subst (λ b. Member l (locs_in b)) (all c m).is k);
      guards = λ c m x k. edge-guards (2 ^ 31) x (edge c m x k);
      updates = λ c m x k. edge-updates (2 ^ 31) x (edge c m x k);
      few = λ c m x k. edge-few (2 ^ 31) x (edge c m x k);
    }

pub small-arguments : (spec : Spec) → HasSmallNumbers spec → HasSmallArguments (source_of spec)
small-arguments spec small =
    let limit = suc (count_of_item_trees (view_items spec.items)) in
    let all = λ (c : Component) (m : Member c (bodies (source_of spec))). in-source limit (view_items spec.items) small (omega arith) c m in
    record {
      given = λ c m i k. body-arguments (all c m).written (all c m).holds i (subst (λ b. Member i (filter_map as_instance (items_in b))) (all c m).is k);
      sent = λ c m x k. edge-sent limit x (body-edges limit (all c m).written (all c m).holds (all c m).few x (subst (λ b. Member x (flat_map (λ (l : LocationTree). l.edges) (locs_in b))) (all c m).is k));
      predicates = λ c m i k. body-predicates (all c m).written (all c m).holds i (subst (λ b. Member (invariant_decl i) (decls_in b)) (all c m).is k);
    }
