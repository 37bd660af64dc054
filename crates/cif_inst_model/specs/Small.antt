-- Sources whose numbers, literals and assigned names are few enough for the numbers of a net.
use Rattle.std.specs.Prelude.{◌<◌, ◌^◌, List, length, Some}
use Rattle.cif_ast.specs.Tree.{Tree}
use Rattle.cif_ast.specs.Throughout.{HoldsInTree, HoldsInUpdateTrees}
use Rattle.cif_ast.specs.SmallNumbers.{AreFewLiterals, small_parts}
use Rattle.cif_ast.specs.declared.names.Ident.{Ident}
use Rattle.cif_system.specs.Words.{Member}
use Rattle.cif_source.specs.Source.{TypeTree, EdgeTree, EquationTree, LocationTree, enum_decl, alg_decl, equation_decl, Source}
use Rattle.cif_source.specs.Components.{Component}
use Rattle.cif_source.specs.Objects.{bodies, decls_of, locs_of}
use Rattle.cif_source.specs.BodyRules.{edges_of, targets_of_all}

pub record HasSmallParts (t : Source) : Type 0 where
  -- an enumeration has a literal, and no more than 2147483647
  pub literals : (c : Component) → Member c (bodies t) → (n : Ident) (ls : List Ident) → Member (enum_decl n ls) (decls_of c) → AreFewLiterals ls
  -- no number in a guard or an update exceeds 2147483647
  pub guards : (c : Component) → Member c (bodies t) → (x : EdgeTree) → Member x (edges_of c) → (e : Tree) → Member e x.guards → HoldsInTree small_parts e
  pub updates : (c : Component) → Member c (bodies t) → (x : EdgeTree) → Member x (edges_of c) → HoldsInUpdateTrees small_parts x.updates
  -- nor in a definition of an algebraic variable: its declared value, an equation of its component or one of a location
  pub declared : (c : Component) → Member c (bodies t) → (ty : TypeTree) (n : Ident) (e : Tree) → Member (alg_decl ty n (Some e)) (decls_of c) → HoldsInTree small_parts e
  pub equations : (c : Component) → Member c (bodies t) → (q : EquationTree) → Member (equation_decl q) (decls_of c) → HoldsInTree small_parts q.value
  pub located : (c : Component) → Member c (bodies t) → (l : LocationTree) → Member l (locs_of c) → (q : EquationTree) → Member q l.equations → HoldsInTree small_parts q.value
  -- the names that an edge assigns are counted in 31 bits
  pub few : (c : Component) → Member c (bodies t) → (x : EdgeTree) → Member x (edges_of c) → length (targets_of_all x.updates) < 2 ^ 31
