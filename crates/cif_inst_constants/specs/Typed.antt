-- What ranges are found in belongs to a source.
use Rattle.std.specs.Prelude.{◌≡◌, ℕ, ◌+◌, ◌≤◌, map, length}
use Rattle.cif_source.specs.Source.{Source}
use Rattle.cif_source.specs.Objects.{components_of, declarations, most_objects}
use Rattle.cif_source.specs.BodyRules.{NotConstantDue}
use Rattle.cif_scope.specs.Scopes.{AreNumbered}
use Rattle.cif_scope.specs.Written.{written_bodies}
use Rattle.cif_inst_constants.specs.Constants.{HasValues, BoundsDue}
use Rattle.cif_inst_constants.specs.Slots.{row_of, written_slots}
use Rattle.cif_inst_constants.specs.declared.ranges.Types.{Types}

-- the scopes of a source with no more components than objects, in which what is to be constant is, the values of its constants,
-- whose bounds of types have values, its declarations, and one more than its components have of these
pub record IsTyped (t : Source) (types : Types) (turns : ℕ) : Type 0 where
  pub numbers : AreNumbered t types.scopes.now
  pub few : length (components_of t) ≤ most_objects
  pub constancy : (at : ℕ) → NotConstantDue t at → ⊥
  pub values : HasValues t types.scopes.now types.constants.now.numbers types.constants.now.values
  pub bounded : (at : ℕ) → BoundsDue t at → ⊥
  pub rows : map row_of types.rows.now ≡ map written_slots (written_bodies t)
  pub counted : turns ≡ length (declarations t) + 1
