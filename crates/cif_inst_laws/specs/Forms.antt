-- Sources in which the numbers of arguments, of instances and of events, and of the predicates of invariants are small enough for a
-- net.
use Rattle.std.specs.Prelude.{◌≡◌, Some}
use Rattle.cif_ast.specs.Tree.{Tree}
use Rattle.cif_ast.specs.Throughout.{HoldsInTree}
use Rattle.cif_ast.specs.SmallNumbers.{small_parts}
use Rattle.cif_system.specs.Words.{Member}
use Rattle.cif_source.specs.Source.{UseTree, EdgeTree, InstanceTree, InvariantTree, invariant_decl, Source}
use Rattle.cif_source.specs.Components.{Component}
use Rattle.cif_source.specs.Objects.{bodies, decls_of}
use Rattle.cif_source.specs.Scoping.{instances_of}
use Rattle.cif_source.specs.BodyRules.{edges_of}
use Rattle.cif_source.specs.Demands.{predicate_of}
use Rattle.cif_inst_model.specs.Flat.{sent_tree}

pub record HasSmallArguments (t : Source) : Type 0 where
  -- no number in an argument of an instance exceeds 2147483647
  pub given : (c : Component) → Member c (bodies t) → (i : InstanceTree) → Member i (instances_of c) → (e : Tree) → Member e i.args → HoldsInTree small_parts e
  -- nor does one in a value that an edge sends along an event
  pub sent : (c : Component) → Member c (bodies t) → (x : EdgeTree) → Member x (edges_of c) → (u : UseTree) → Member u x.uses → (e : Tree) → sent_tree u.role ≡ Some e → HoldsInTree small_parts e
  -- nor in the predicate of an invariant or of an exclusion
  pub predicates : (c : Component) → Member c (bodies t) → (i : InvariantTree) → Member (invariant_decl i) (decls_of c) → HoldsInTree small_parts (predicate_of i)
