-- The range of a type through names of types, by where they lead, and the first value that leaves its declared range.
use Rattle.std.specs.Prelude.{ℕ, zero, suc, ◌-ℤ◌, ℤ, pos, true, List, [], ◌∷◌, length, Option, None, Some, unwrap_or, if◌then◌else◌}
use Rattle.std.specs.Option.{option_or}
use Rattle.cif_ast.specs.Tree.{Tree}
use Rattle.cif_system.specs.System.{Range, in_range}
use Rattle.cif_source.specs.Source.{TypeTree, bool_type, int_type, range_type, named_type, type_tree, type_decl, enum_decl, event_decl, const_decl, alg_decl, input_decl, disc_decl, equation_decl, invariant_decl, marked_decl, tree_at}
use Rattle.cif_source.specs.Types.{from_to, signed_range}
use Rattle.cif_scope.specs.declared.looked.Looked.{Looked}
use Rattle.cif_scope.specs.declared.looked.Looked.TheVariants.{At, Missing, Blocked}
use Rattle.cif_scope.specs.declared.scopes.Scopes.{Scopes}
use Rattle.cif_scope.specs.Looks.{look}
use Rattle.cif_inst_constants.specs.Used.{NumberedBody}
use Rattle.cif_types_constancy.specs.Collected.{values_in}
use Rattle.cif_inst_constants.specs.Named.{table_value}
use Rattle.cif_inst_constants.specs.Outcomes.{evaluated}
use Rattle.cif_inst_constants.specs.Slots.{Slot, decl_at}
use Rattle.cif_inst_constants.specs.declared.ranges.Step.{Step}
use Rattle.cif_inst_constants.specs.declared.ranges.Step.TheVariants as step
use Rattle.cif_inst_constants.specs.declared.ranges.ValueRange.{ValueRange}

-- the range, or the type of body k that it is that of
pub data StepTree : Type 0 where
  known : Range → StepTree
  further : ℕ → TypeTree → StepTree

abbrev pub range_view : ValueRange → Range
range_view r = from_to r.lo r.hi

abbrev pub step_view : Step → StepTree
step_view (step.Known r) = known (range_view r)
step_view (step.Further k ty) = further k (type_tree ty.now)

-- 0 where it has no value
abbrev pub bound : Scopes → List (List ℕ) → List ℤ → ℕ → Tree → ℤ
bound s ns vs k e = unwrap_or (evaluated (table_value s ns vs k) e) (pos 0)

abbrev pub no_range : StepTree
no_range = known (from_to (pos 0) (pos 0))

abbrev pub decl_step : ℕ → Slot → StepTree
decl_step k None = no_range
decl_step k (Some (type_decl n ty)) = further k ty
decl_step k (Some (enum_decl n ls)) = known (from_to (pos 0) (pos (length ls) -ℤ pos 1))
decl_step k (Some (event_decl c h n)) = no_range
decl_step k (Some (const_decl ty n e)) = no_range
decl_step k (Some (alg_decl ty n e)) = no_range
decl_step k (Some (input_decl ty n)) = no_range
decl_step k (Some (disc_decl ty n e)) = no_range
decl_step k (Some (equation_decl q)) = no_range
decl_step k (Some (invariant_decl i)) = no_range
decl_step k (Some (marked_decl p)) = no_range

abbrev pub found_step : List (List Slot) → Looked → StepTree
found_step rows (At k j) = decl_step k (decl_at rows k j)
found_step rows Missing = no_range
found_step rows Blocked = no_range

abbrev pub type_step : Scopes → List (List ℕ) → List ℤ → List (List Slot) → ℕ → TypeTree → StepTree
type_step s ns vs rows k bool_type = known (from_to (pos 0) (pos 1))
type_step s ns vs rows k int_type = known (signed_range 32)
type_step s ns vs rows k (range_type lower upper) = known (from_to (bound s ns vs k lower) (bound s ns vs k upper))
type_step s ns vs rows k (named_type nm) = found_step rows (look s.table s.definitions true k nm)

abbrev pub on_step : (ℕ → TypeTree → Range) → StepTree → Range
on_step go (known r) = r
on_step go (further k ty) = go k ty

-- through fewer names of types than n
abbrev pub walked : Scopes → List (List ℕ) → List ℤ → List (List Slot) → ℕ → ℕ → TypeTree → Range
walked s ns vs rows zero k ty = from_to (pos 0) (pos 0)
walked s ns vs rows (suc n) k ty = on_step (walked s ns vs rows n) (type_step s ns vs rows k ty)

-- ---- values that leave their ranges

-- an expression without a value, or whose value leaves the range
abbrev pub leaves : Tree → Option ℤ → Range → Option ℕ
leaves e None r = Some (tree_at e)
leaves e (Some z) r = if in_range r z then None else Some (tree_at e)

abbrev pub values_fault : (Tree → Option ℤ) → (TypeTree → Range) → List (TypeTree × Tree) → Option ℕ
values_fault value range [] = None
values_fault value range (v ∷ vs) = option_or (leaves v.1 (value v.1) (range v.0)) (values_fault value range vs)

abbrev pub body_fault : Scopes → List (List ℕ) → List ℤ → List (List Slot) → ℕ → NumberedBody → Option ℕ
body_fault s ns vs rows turns b = values_fault (evaluated (table_value s ns vs b.number)) (walked s ns vs rows turns b.number) (values_in b.written)
