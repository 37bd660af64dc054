-- Definitions with their expressions, as they stand in a source and as they become in its net.
use Rattle.std.specs.Prelude.{◌≡◌, ℕ, pos, Bool, true, false, List, [], ◌∷◌, map, flat_map, length, Option, Some, None, option_map}
use Rattle.std.specs.Borrow.{Bor}
use Rattle.cif_ast.specs.Tree.{Tree}
use Rattle.cif_ast.specs.View.{view}
use Rattle.cif_ast.specs.declared.expressions.Expr.{Expr}
use Rattle.cif_ast.specs.declared.names.Name.{Name}
use Rattle.cif_system.specs.Words.{Member}
use Rattle.cif_net_expr.specs.Tree.{NetExpr, net_expr, n_number}
use Rattle.cif_net_model.specs.Net.{Net}
use Rattle.cif_net_model.specs.Exprs.{alg_exprs}
use Rattle.cif_net_model.specs.Unfolding.{at_or}
use Rattle.cif_net_model.specs.Counts as counts
use Rattle.cif_net_model.specs.Counts.{no_form, measure_by, all_beside, by_location, alg_measures}
use Rattle.cif_alg_measure.specs.declared.measures.Measure.{Measure}
use Rattle.cif_alg_measure.specs.Meanings.{stopped_measure}
use Rattle.cif_source.specs.Source.{Source}
use Rattle.cif_source.specs.Components.{Component}
use Rattle.cif_source.specs.Uses.{names_in}
use Rattle.cif_inst_model.specs.Flat.{net_of_source}
use Rattle.cif_inst_model.specs.Translation.{net_of}
use Rattle.cif_inst_names.specs.Looking.{component_of}
use Rattle.cif_inst_sizes.specs.declared.definitions.Definition.{Definition}

-- expressions of a component; one that is missing is 0
pub record DefinitionTree : Type 0 where
  pub component : ℕ
  pub values : List (Option Tree)

abbrev pub value_tree : Option (Bor Expr) → Option Tree
value_tree o = option_map (λ (e : Bor Expr). view e.now) o

abbrev pub definition_tree : Definition → DefinitionTree
definition_tree d = record { component = d.component; values = map value_tree d.values.items }

-- the names that stand in them
abbrev pub value_names : Option Tree → List Name
value_names None = []
value_names (Some e) = names_in e

abbrev pub definition_names : DefinitionTree → List Name
definition_names d = flat_map value_names d.values

-- ---- in the net

abbrev pub value_expr : Component → Option Tree → NetExpr
value_expr c None = net_expr (n_number (pos 0)) 0
value_expr c (Some e) = net_of c e

abbrev pub definition_exprs : Source → DefinitionTree → List NetExpr
definition_exprs t d = map (value_expr (component_of t d.component)) d.values

-- these are the definitions of the algebraic variables of the source's net, by number
unfoldable pub AreDefinitionsOf : Source → List DefinitionTree → Type 0
AreDefinitionsOf t ds = map (definition_exprs t) ds ≡ map alg_exprs (net_of_source t).algs

-- ---- what they weigh

-- the measures of the algebraic variables of a net, by number
abbrev pub alg_weight : Net → ℕ → counts.Measure
alg_weight n = at_or no_form (alg_measures n)

-- one of these expressions by the location
abbrev pub chosen_measure : (ℕ → counts.Measure) → List NetExpr → counts.Measure
chosen_measure f es = by_location (length es) (all_beside (map (measure_by f) es))

-- where alg tells what an algebraic variable weighs; counts stop one past their limits
abbrev pub definition_measure : (alg : ℕ → counts.Measure) → Source → DefinitionTree → Measure
definition_measure alg t d = stopped_measure (chosen_measure alg (definition_exprs t d))

-- ---- in the place of definitions that are not known

-- 0 alone
abbrev pub blank : DefinitionTree
blank = record { component = 0; values = None ∷ [] }

abbrev pub AreBlank : List DefinitionTree → Type 0
AreBlank ds = (d : DefinitionTree) → Member d ds → d ≡ blank

-- the definitions of the algebraic variables, or else as many that are blank
abbrev pub Defines : Source → Bool → List DefinitionTree → Type 0
Defines t true ds = AreDefinitionsOf t ds
Defines t false ds = AreBlank ds
