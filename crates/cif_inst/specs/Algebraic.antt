-- Helper of the code: the algebraic variables that components declare, with their types and definitions.
use Rattle.std.specs.Prelude.{◌≡◌, ℕ, ◌+◌, pos, List, [], ◌∷◌, ◌++◌, map, Option, Some, None}
use Rattle.cif_ast.specs.Tree.{Tree}
use Rattle.cif_system.specs.Words.{Member}
use Rattle.cif_net_expr.specs.Tree.{NetExpr, net_expr, n_number}
use Rattle.cif_net_model.specs.Net.{AlgValue, one_value, by_loc, NetAlg}
use Rattle.cif_source.specs.Source.{Text, SourceBody, group_body, automaton_body, Source}
use Rattle.cif_source.specs.Components.{Component, body_of}
use Rattle.cif_source.specs.Objects.{automaton_number, locs_in}
use Rattle.cif_inst_model.specs.Translation.{net_of}
use Rattle.cif_inst_model.specs.Types.{net_type}
use Rattle.cif_inst_names.specs.Looking.{component_of}
use Rattle.cif_inst.specs.Declarations.{DatumTree, body_data}
use Rattle.cif_inst.specs.Equations.{Values, value_for, or_else, body_added, location_added}
use Rattle.cif_inst_paths.specs.Rows.{RowTree}
use Rattle.cif_inst.specs.Typing.{typed_component, IsHome, HasType}
use Rattle.cif_inst.specs.declared.declarations.Sort.TheVariants as sort
use Rattle.cif_inst.specs.declared.typing.Typing.{Typing}

-- ---- one of them

-- an expression of a component, and 0 where there is none
abbrev pub definition_or : Component → Option Tree → NetExpr
definition_or c None = net_expr (n_number (pos 0)) 0
definition_or c (Some e) = net_of c e

-- the value for a name in a location
abbrev pub definition_in : Component → Text → Values → NetExpr
definition_in c x es = definition_or c (value_for x es)

-- the definition of a component's own, or else one for each location of automaton k
abbrev pub alg_value : Component → ℕ → Values → List Values → Text → Option Tree → AlgValue
alg_value c k own located x e = elim (or_else e (value_for x own)) [
  | Some d ↦ one_value (net_of c d)
  | None ↦ by_loc k (map (definition_in c x) located)
]

abbrev pub alg_with : Source → ℕ → Values → List Values → DatumTree → NetAlg
alg_with t k own located d = record {
  path = d.prefix ++ d.name.text;
  type_of = (net_type (component_of t d.component) d.type_of).type_of;
  literals = (net_type (component_of t d.component) d.type_of).literals;
  value = alg_value (component_of t d.component) k own located d.name.text d.value;
}

-- ---- those of components

-- the number of an automaton
abbrev pub home_number : Source → ℕ → SourceBody → ℕ
home_number t k (group_body is) = 0
home_number t k (automaton_body a) = automaton_number t (component_of t k)

-- of component k
abbrev pub body_algs : Source → ℕ → Text → SourceBody → List NetAlg
body_algs t k p b = map (alg_with t (home_number t k b) (body_added b) (map location_added (locs_in b))) (body_data sort.Algebraic k p b)

-- those of the components from number k on
abbrev pub rows_algs : Source → ℕ → List RowTree → List NetAlg
rows_algs t k [] = []
rows_algs t k (r ∷ rs) = body_algs t k r.0 r.1 ++ rows_algs t (k + 1) rs

-- ---- where they stand

-- each has a type that its component writes
abbrev pub HaveTypes : Typing → List DatumTree → Type 0
HaveTypes y ds = (d : DatumTree) → Member d ds → HasType y d

-- the body is that of component k
pub record IsBodyOf (y : Typing) (k : ℕ) (b : SourceBody) : Type 0 where
  pub home : IsHome y k
  pub body : body_of (typed_component y k) ≡ b
