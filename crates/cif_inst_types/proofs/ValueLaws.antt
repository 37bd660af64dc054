-- The values in the slots of bodies are those of the constants of components.
use Rattle.std.proofs.Common.{◌≡◌, ◌⊎◌, ℕ, zero, suc, ◌+◌, ◌≤◌, ℤ, inl, inr, List, [], ◌∷◌, map, refl, sym, ap, subst, ◌∙◌, arith, Option, Some, None}
use Rattle.std.specs.Prelude.{slice_get, unwrap_or, option_map, length, Result, Ok, Err, IfOk}
use Rattle.std.proofs.lemmas.Option.{slice_get-map}
use Rattle.cif_base.specs.declared.memory.Memory.{Memory}
use Rattle.cif_base.specs.declared.types.Ty.{Ty}
use Rattle.cif_base.specs.declared.types.Ty.TheVariants as net_ty
use Rattle.cif_system.specs.Words.{Member}
use Rattle.cif_source.specs.Source.{const_decl, Source}
use Rattle.cif_source.specs.Components.{declared}
use Rattle.cif_source.specs.Objects.{components_of, decls_of, declarations, most_objects}
use Rattle.cif_source.specs.Value.{constant}
use Rattle.cif_source.specs.BodyRules.{NotConstantDue}
use Rattle.cif_source.specs.InstanceRules.{FaultyConstant, LeavesRange, LongBound, EmptyRange, ConstantRangeDue}
use Rattle.cif_scope.specs.Scopes.{AreNumbered}
use Rattle.cif_scope.specs.Written.{written_bodies}
use Rattle.cif_inst_constants.specs.Constants.{HasValues}
use Rattle.cif_inst_constants.specs.Slots.{Slot, row_of, written_slots, decl_in, decl_at}
use Rattle.cif_inst_constants.specs.Typed.{IsTyped}
use Rattle.cif_inst_constants.specs.declared.ranges.Types.{Types}
use Rattle.cif_inst_model.specs.Translation.{net_constant}
use Rattle.cif_inst_model.specs.Types.{NetType, net_type}
use Rattle.cif_inst_model.proofs.RuleLaws.{member-any}
use Rattle.cif_inst_model.proofs.StandingLaws.{any-member}
use Rattle.cif_inst_names.specs.Objects.{value_form, value_in, value_at, AreValuesOf}
use Rattle.cif_inst_names.specs.declared.objects.Value.{Value}
use Rattle.cif_inst_types.specs.Leaves.{type_in}
use Rattle.cif_inst_types.specs.Values.{constant_value, no_value, slot_value, values_from}
use Rattle.cif_inst_types.proofs.ConstantLaws.{IsAt, value-in, declared-type, declared-constant}
use Rattle.cif_inst_types.proofs.EntryLaws.{entry-declared}
use Rattle.cif_inst_types.proofs.LeafLaws.{entry-slot, type-is}

constant-form : (u : Ty) (z : ℤ) → value_form (constant_value u z) ≡ net_constant u z
constant-form net_ty.Bool z = refl
constant-form (net_ty.Int lo hi) z = refl
constant-form (net_ty.Enum size) z = refl

-- ---- the table

module _ (x : Types) (turns : ℕ) where
  -- of the body in place k of those from body i on
  row-at : (i k : ℕ) (rows : List (List Slot)) → slice_get (values_from x turns i rows) k ≡ option_map (map (slot_value x turns (i + k))) (slice_get rows k)
  row-at i k [] = refl
  row-at i zero (row ∷ rows) = let same : i ≡ i + 0 = omega arith in ap (λ m. Some (map (slot_value x turns m) row)) same
  row-at i (suc k) (row ∷ rows) = row-at (i + 1) k rows ∙ (let same : i + 1 + k ≡ i + suc k = omega arith in ap (λ m. option_map (map (slot_value x turns m)) (slice_get rows k)) same)

  in-row : (k j : ℕ) (o : Option (List Slot)) → value_in (option_map (map (slot_value x turns k)) o) j ≡ slot_value x turns k (decl_in o j)
  in-row k j None = refl
  in-row k j (Some row) = ap (λ o. unwrap_or o no_value) (slice_get-map (slot_value x turns k) row j) ∙ go (slice_get row j)
    where
      go : (o : Option Slot) → unwrap_or (option_map (slot_value x turns k) o) no_value ≡ slot_value x turns k (elim o as (λ y. Slot) [ None ↦ None | Some d ↦ d ])
      go None = refl
      go (Some d) = refl

  pub value-at : (k j : ℕ) (rows : List (List Slot)) → value_at (values_from x turns 0 rows) k j ≡ slot_value x turns k (decl_at rows k j)
  value-at k j rows = ap (λ o. value_in o j) (row-at 0 k rows ∙ (let same : 0 + k ≡ k = omega arith in ap (λ m. option_map (map (slot_value x turns m)) (slice_get rows k)) same)) ∙ in-row k j (slice_get rows k)

-- ---- the values

-- what the code has belongs to a source
pub is-typed : (t : Source) (x : Types) (turns : ℕ) → AreNumbered t x.scopes.now → length (components_of t) ≤ most_objects → ((at : ℕ) → NotConstantDue t at → ⊥)
    → HasValues t x.scopes.now x.constants.now.numbers x.constants.now.values → ((at : ℕ) → ConstantRangeDue t at → ⊥) → map row_of x.rows.now ≡ map written_slots (written_bodies t) → turns ≡ length (declarations t) + 1 → IsTyped t x turns
is-typed t x turns numbers few constancy values ranged rows counted = record {
  numbers = numbers;
  few = few;
  constancy = constancy;
  values = values;
  bounded = λ at due.
      let w = any-member (λ c. FaultyConstant c at ⊎ LongBound c at ⊎ EmptyRange c at) (components_of t) due in
      ranged at (member-any (λ c. FaultyConstant c at ⊎ LeavesRange c at ⊎ LongBound c at ⊎ EmptyRange c at) w.0 (components_of t) w.1 (elim w.2 [ inl f ↦ inl f | inr r ↦ inr (inr r) ]));
  rows = rows;
  counted = counted;
}

pub values-are : (t : Source) (x : Types) (turns : ℕ) → IsTyped t x turns → AreValuesOf t (values_from x turns 0 (map row_of x.rows.now))
values-are t x turns h k c listed own j ty n e at =
    let home : IsAt t k c = (listed, own) in
    let declares : Member (const_decl ty n e) (decls_of c) = entry-declared c (const_decl ty n e) j at in
    ap value_form (value-at x turns k j (map row_of x.rows.now) ∙ ap (slot_value x turns k) (entry-slot t x turns h k j c (declared (const_decl ty n e)) own at))
    ∙ ap (λ z. value_form (constant_value (type_in x turns k ty).type_of z)) (value-in t x turns h k c home e (declared-constant c (const_decl ty n e) (ty, e) declares (inl refl)))
    ∙ ap (λ (u : NetType). value_form (constant_value u.type_of (constant c e))) (type-is t x turns h k c home ty (declared-type c (const_decl ty n e) ty declares (inl refl)))
    ∙ constant-form (net_type c ty).type_of (constant c e)

pub values-told : (t : Source) (x : Types) (turns : ℕ) (r : Result (List (List Value)) Memory) → IsTyped t x turns → IfOk r (λ all. all ≡ values_from x turns 0 (map row_of x.rows.now)) → IfOk r (λ all. AreValuesOf t all)
values-told t x turns (Ok all) h e = subst (AreValuesOf t) (sym e) (values-are t x turns h)
values-told t x turns (Err y) h e = tt
