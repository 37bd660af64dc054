-- The type of a net that a type of a body becomes, through names of types, by where they lead.
use Rattle.std.specs.Prelude.{ℕ, zero, suc, ℤ, pos, true, List, map, None, Some}
use Rattle.cif_base.specs.declared.types.Ty.TheVariants as ty
use Rattle.cif_ast.specs.Tree.{Tree}
use Rattle.cif_source.specs.Source.{TypeTree, bool_type, int_type, range_type, named_type, type_tree, type_decl, enum_decl, event_decl, const_decl, alg_decl, input_decl, disc_decl, equation_decl, invariant_decl, marked_decl}
use Rattle.cif_source.specs.Types.{signed_range}
use Rattle.cif_scope.specs.declared.looked.Looked.{Looked}
use Rattle.cif_scope.specs.declared.looked.Looked.TheVariants.{At, Missing, Blocked}
use Rattle.cif_scope.specs.Looks.{look}
use Rattle.cif_inst_constants.specs.Slots.{Slot, row_of, decl_at}
use Rattle.cif_inst_constants.specs.Walked.{bound}
use Rattle.cif_inst_constants.specs.declared.ranges.Types.{Types}
use Rattle.cif_inst_model.specs.Types.{NetType, plain_type, enum_type}
use Rattle.cif_inst_types.specs.declared.types.Leaf.{Leaf}
use Rattle.cif_inst_types.specs.declared.types.Leaf.TheVariants as leaf
use Rattle.cif_inst_types.specs.declared.types.Step.{Step}
use Rattle.cif_inst_types.specs.declared.types.Step.TheVariants as step

-- the type, or the type of body k that it is
pub data StepTree : Type 0 where
  known : NetType → StepTree
  further : ℕ → TypeTree → StepTree

abbrev pub leaf_view : Leaf → NetType
leaf_view (leaf.Plain t) = plain_type t
leaf_view (leaf.Enum ls) = enum_type ls.now

abbrev pub step_view : Step → StepTree
step_view (step.Known l) = known (leaf_view l)
step_view (step.Further k t) = further k (type_tree t.now)

abbrev pub no_type : NetType
no_type = plain_type (ty.Int (pos 0) (pos 0))

abbrev pub decl_step : ℕ → Slot → StepTree
decl_step k None = known no_type
decl_step k (Some (type_decl n t)) = further k t
decl_step k (Some (enum_decl n ls)) = known (enum_type ls)
decl_step k (Some (event_decl c h n)) = known no_type
decl_step k (Some (const_decl t n e)) = known no_type
decl_step k (Some (alg_decl t n e)) = known no_type
decl_step k (Some (input_decl t n)) = known no_type
decl_step k (Some (disc_decl t n e)) = known no_type
decl_step k (Some (equation_decl q)) = known no_type
decl_step k (Some (invariant_decl i)) = known no_type
decl_step k (Some (marked_decl p)) = known no_type

abbrev pub found_step : List (List Slot) → Looked → StepTree
found_step rows (At k j) = decl_step k (decl_at rows k j)
found_step rows Missing = known no_type
found_step rows Blocked = known no_type

-- the value of an expression of body k, 0 where it has none
abbrev pub value_in : Types → ℕ → Tree → ℤ
value_in x k e = bound x.scopes.now x.constants.now.numbers x.constants.now.values k e

abbrev pub type_step : Types → ℕ → TypeTree → StepTree
type_step x k bool_type = known (plain_type ty.Bool)
type_step x k int_type = known (plain_type (ty.Int (signed_range 32).lo (signed_range 32).hi))
type_step x k (range_type lower upper) = known (plain_type (ty.Int (value_in x k lower) (value_in x k upper)))
type_step x k (named_type nm) = found_step (map row_of x.rows.now) (look x.scopes.now.table x.scopes.now.definitions true k nm)

abbrev pub on_step : (ℕ → TypeTree → NetType) → StepTree → NetType
on_step go (known t) = t
on_step go (further k t) = go k t

-- the type that a type of body k becomes, through fewer names of types than n
abbrev pub type_in : Types → (n k : ℕ) → TypeTree → NetType
type_in x zero k t = no_type
type_in x (suc n) k t = on_step (type_in x n) (type_step x k t)
