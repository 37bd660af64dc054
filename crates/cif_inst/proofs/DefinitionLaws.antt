-- The definitions that are listed are those of the algebraic variables of the net.
use Rattle.std.proofs.Common.{◌≡◌, ℕ, ◌+◌, ◌≤◌, List, [], ◌∷◌, ◌++◌, length, map, Option, Some, None, refl, sym, ◌∙◌, ap}
use Rattle.std.proofs.lemmas.List.{map-append}
use Rattle.cif_ast.specs.Tree.{Tree}
use Rattle.cif_net_model.specs.Net.{AlgValue, one_value, by_loc}
use Rattle.cif_net_model.specs.Exprs.{alg_exprs}
use Rattle.cif_net_expr.specs.Tree.{NetExpr}
use Rattle.cif_source.specs.Source.{Text, SourceBody, Source}
use Rattle.cif_source.specs.Components.{Component}
use Rattle.cif_source.specs.Objects.{components_of, most_objects, locs_in}
use Rattle.cif_source.specs.BodyRules.{EquationsDue}
use Rattle.cif_inst_model.specs.Translation.{net_of}
use Rattle.cif_inst_names.specs.Looking.{component_of}
use Rattle.cif_inst_paths.specs.Rows.{RowTree, rows_of}
use Rattle.cif_inst_sizes.specs.Definitions.{DefinitionTree, value_expr, definition_exprs, AreDefinitionsOf}
use Rattle.cif_inst.specs.Algebraic.{definition_or, definition_in, alg_with, home_number, body_algs, rows_algs}
use Rattle.cif_inst.specs.Declarations.{DatumTree, body_data}
use Rattle.cif_inst.specs.Definitions.{definition_with, body_definitions, rows_definitions}
use Rattle.cif_inst.specs.Equations.{Values, value_for, or_else, body_added, location_added}
use Rattle.cif_inst.specs.declared.declarations.Sort.TheVariants as sort
use Rattle.cif_inst.proofs.AlgebraicLaws.{algs-are}

value-is : (c : Component) (o : Option Tree) → value_expr c o ≡ definition_or c o
value-is c None = refl
value-is c (Some e) = refl

module _ (c : Component) (x : Text) where
  located-are : (located : List Values) → map (value_expr c) (map (value_for x) located) ≡ map (definition_in c x) located
  located-are [] = refl
  located-are (es ∷ rest) = λ i. value-is c (value_for x es) i ∷ located-are rest i

  abbrev written : List Values → Option Tree → List (Option Tree)
  written located o = elim o [ Some d ↦ Some d ∷ [] | None ↦ map (value_for x) located ]

  abbrev made : ℕ → List Values → Option Tree → AlgValue
  made k located o = elim o [ Some d ↦ one_value (net_of c d) | None ↦ by_loc k (map (definition_in c x) located) ]

  abbrev exprs : AlgValue → List NetExpr
  exprs v = elim v [ one_value e ↦ e ∷ [] | by_loc k es ↦ es ]

  own-is : (k : ℕ) (located : List Values) (o : Option Tree) → map (value_expr c) (written located o) ≡ exprs (made k located o)
  own-is k located None = located-are located
  own-is k located (Some d) = refl

module _ (t : Source) where
  module _ (k : ℕ) (own : Values) (located : List Values) where
    data-are : (ds : List DatumTree) → map (definition_exprs t) (map (definition_with own located) ds) ≡ map alg_exprs (map (alg_with t k own located) ds)
    data-are [] = refl
    data-are (d ∷ ds) = λ i. own-is (component_of t d.component) d.name.text k located (or_else d.value (value_for d.name.text own)) i ∷ data-are ds i

  rows-are : (rows : List RowTree) (k : ℕ) → map (definition_exprs t) (rows_definitions k rows) ≡ map alg_exprs (rows_algs t k rows)
  rows-are [] k = refl
  rows-are (r ∷ rows) k =
      map-append (definition_exprs t) (body_definitions k r.0 r.1) (rows_definitions (k + 1) rows)
      ∙ (λ i. data-are (home_number t k r.1) (body_added r.1) (map location_added (locs_in r.1)) (body_data sort.Algebraic k r.0 r.1) i ++ rows-are rows (k + 1) i)
      ∙ sym (map-append alg_exprs (body_algs t k r.0 r.1) (rows_algs t (k + 1) rows))

  module _ (few : length (components_of t) ≤ most_objects) (single : (at count : ℕ) → EquationsDue t at count → ⊥) where
    pub definitions-are : (rows : List RowTree) → rows ≡ rows_of t → (ds : List DefinitionTree) → ds ≡ rows_definitions 0 rows → AreDefinitionsOf t ds
    unfolding AreDefinitionsOf
    definitions-are rows of-source ds made =
        ap (map (definition_exprs t)) (made ∙ ap (rows_definitions 0) of-source) ∙ rows-are (rows_of t) 0 ∙ ap (map alg_exprs) (algs-are t few single)

-- those of a component more
pub definitions_added : (k : ℕ) (p : Text) (b : SourceBody) (before after : List DefinitionTree) (own : Values) (located : List Values) (ds : List DatumTree) → after ≡ before ++ map (definition_with own located) ds
    → own ≡ body_added b → located ≡ map location_added (locs_in b) → ds ≡ body_data sort.Algebraic k p b → after ≡ before ++ body_definitions k p b
definitions_added k p b before after own located ds added owned placed found = added ∙ λ i. before ++ map (definition_with (owned i) (placed i)) (found i)
