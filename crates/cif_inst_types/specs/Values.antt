-- The values of constants, by the declarations in the slots of bodies.
use Rattle.std.specs.Prelude.{ℕ, ◌+◌, ℤ, pos, List, [], ◌∷◌, map, None, Some}
use Rattle.cif_base.specs.declared.types.Ty.{Ty}
use Rattle.cif_base.specs.declared.types.Ty.TheVariants as ty
use Rattle.cif_source.specs.Source.{type_decl, enum_decl, event_decl, const_decl, alg_decl, input_decl, disc_decl, equation_decl, invariant_decl, marked_decl}
use Rattle.cif_source.specs.Value.{is_true}
use Rattle.cif_inst_constants.specs.Slots.{Slot}
use Rattle.cif_inst_constants.specs.declared.ranges.Types.{Types}
use Rattle.cif_inst_names.specs.declared.objects.Value.{Value}
use Rattle.cif_inst_names.specs.declared.objects.Value.TheVariants as value
use Rattle.cif_inst_types.specs.Leaves.{value_in, type_in}

-- a boolean constant is true or false, and every other a number
abbrev pub constant_value : Ty → ℤ → Value
constant_value ty.Bool z = value.Truth (is_true z)
constant_value (ty.Int lo hi) z = value.Number z
constant_value (ty.Enum size) z = value.Number z

-- where there is no constant
abbrev pub no_value : Value
no_value = value.Number (pos 0)

-- in a slot of body k
abbrev pub slot_value : Types → (turns k : ℕ) → Slot → Value
slot_value x turns k None = no_value
slot_value x turns k (Some (const_decl t n e)) = constant_value (type_in x turns k t).type_of (value_in x k e)
slot_value x turns k (Some (type_decl n t)) = no_value
slot_value x turns k (Some (enum_decl n ls)) = no_value
slot_value x turns k (Some (event_decl c h n)) = no_value
slot_value x turns k (Some (alg_decl t n e)) = no_value
slot_value x turns k (Some (input_decl t n)) = no_value
slot_value x turns k (Some (disc_decl t n e)) = no_value
slot_value x turns k (Some (equation_decl q)) = no_value
slot_value x turns k (Some (invariant_decl i)) = no_value
slot_value x turns k (Some (marked_decl p)) = no_value

-- in the slots of the bodies from body k on
abbrev pub values_from : Types → (turns k : ℕ) → List (List Slot) → List (List Value)
values_from x turns k [] = []
values_from x turns k (row ∷ rows) = map (slot_value x turns k) row ∷ values_from x turns (k + 1) rows
