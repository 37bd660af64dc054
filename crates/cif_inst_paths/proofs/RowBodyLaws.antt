-- A row is that of the component with its number, with what is in the component's body.
use Rattle.std.proofs.Common.{◌≡◌, ℕ, zero, suc, ◌<◌, List, [], ◌∷◌, length, map, get_or, Some, sym, ◌∙◌, ap, subst}
use Rattle.std.specs.Prelude.{slice_get}
use Rattle.std.proofs.lemmas.Option.{slice_get-get_or}
use Rattle.cif_system.proofs.Lists.{map-length}
use Rattle.cif_system.proofs.Picks.{map-at}
use Rattle.cif_source.specs.Source.{Source}
use Rattle.cif_source.specs.Components.{body_of}
use Rattle.cif_source.specs.Objects.{components_of}
use Rattle.cif_scope.specs.Written.{inside_of}
use Rattle.cif_inst_names.specs.Looking.{or_whole, component_of}
use Rattle.cif_inst_paths.specs.Rows.{RowTree, row_for, rows_of}
use Rattle.cif_inst_paths.specs.Views.{row_tree}
use Rattle.cif_inst_paths.specs.declared.rows.Row.{Row}

at-mapped : (rows : List Row) (k : ℕ) (row : Row) → slice_get rows k ≡ Some row → slice_get (map row_tree rows) k ≡ Some (row_tree row)
at-mapped [] k row h = cc
at-mapped (r ∷ rows) zero row h = cc
at-mapped (r ∷ rows) (suc k) row h = at-mapped rows k row h

module _ (t : Source) (rows : List Row) (are : map row_tree rows ≡ rows_of t) where
  pub row_below : (k : ℕ) → k < length rows → k < length (components_of t)
  row_below k below = subst (λ n. k < n) (sym (map-length row_tree rows) ∙ ap length are ∙ map-length row_for (components_of t)) below

  -- a row's body is its component's
  pub row_written : (k : ℕ) (row : Row) → k < length rows → row ≡ get_or rows k row → body_of (component_of t k) ≡ inside_of row.inside
  row_written k row below is =
      let at : slice_get rows k ≡ Some row = slice_get-get_or rows k row below ∙ ap Some (sym is) in
      let c = map-at row_for (components_of t) k (row_tree row) (ap (λ xs. slice_get xs k) (sym are) ∙ at-mapped rows k row at) in
      let same : component_of t k ≡ c.0 = ap (or_whole t) c.1 in
      ap body_of same ∙ sym (ap (λ (r : RowTree). r.1) c.2)
