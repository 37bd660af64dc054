-- The range that is found is that of the type.
use Rattle.std.proofs.Common.{◌≡◌, ◌⊎◌, ℕ, ◌+◌, ◌≤◌, ℤ, true, false, inl, inr, List, [], ◌∷◌, map, length, add-one, refl, ap, ◌∙◌}
use Rattle.std.specs.Prelude.{IsTrue, Result, Ok, Err, IfOk}
use Rattle.cif_base.specs.declared.memory.Memory.{Memory}
use Rattle.cif_ast.specs.Tree.{Tree}
use Rattle.cif_system.specs.Words.{Member}
use Rattle.cif_system.proofs.Picks.{append-left, flat_map-member}
use Rattle.cif_source.specs.Source.{TypeTree, bool_type, int_type, range_type, named_type, Source, tree_at}
use Rattle.cif_source.specs.Components.{Component, as_written}
use Rattle.cif_source.specs.Objects.{components_of, most_objects, declarations}
use Rattle.cif_source.specs.Value.{constant}
use Rattle.cif_source.specs.Types.{range_of}
use Rattle.cif_source.specs.Constants.{types_of, Bounds, bounds_in, bounds_of, bound_values, typed_constants, constants_of}
use Rattle.cif_source.specs.BodyRules.{NotConstantDue}
use Rattle.cif_source.specs.InstanceRules.{is_faulty, FaultyConstant, LongBound, EmptyRange}
use Rattle.cif_inst_model.proofs.RuleLaws.{member-any}
use Rattle.cif_scope.specs.declared.scopes.Scopes.{Scopes}
use Rattle.cif_scope.specs.Tables.{IsBody}
use Rattle.cif_scope.specs.Scopes.{AreNumbered}
use Rattle.cif_inst_bodies.proofs.Bodies.{components-written}
use Rattle.cif_inst_bodies.proofs.Constants.{constants-kept}
use Rattle.cif_inst_constants.specs.Constants.{HasValues, BoundsDue}
use Rattle.cif_inst_constants.specs.Slots.{row_of}
use Rattle.cif_inst_constants.specs.Typed.{IsTyped}
use Rattle.cif_inst_constants.specs.declared.ranges.Types.{Types}
use Rattle.cif_inst_constants.specs.declared.ranges.ValueRange.{ValueRange}
use Rattle.cif_inst_constants.specs.Walked.{range_view, walked}
use Rattle.cif_inst_constants.proofs.RowLaws.{all_rows}
use Rattle.cif_inst_constants.proofs.WalkLaws.{IsSoundBound, IsSound, range-is}

module _ (t : Source) (s : Scopes) (ns : List (List ℕ)) (vs : List ℤ) (are : AreNumbered t s) (few : length (components_of t) ≤ most_objects) (constancy : (at : ℕ) → NotConstantDue t at → ⊥) (values : HasValues t s ns vs) (bounded : (at : ℕ) → BoundsDue t at → ⊥) where
  not-faulty : (c : Component) (e : Tree) → Member c (components_of t) → Member e (constants_of c) → is_faulty (constant c) e ≡ false
  not-faulty c e listed m =
      (elim (is_faulty (constant c) e) as (λ b. is_faulty (constant c) e ≡ b → b ≡ false) [
        | false ↦ λ h. refl
        | true ↦ λ h. absurd (bounded (tree_at e)
            (member-any (λ d. FaultyConstant d (tree_at e) ⊎ LongBound d (tree_at e) ⊎ EmptyRange d (tree_at e)) c (components_of t) listed
            (inl (member-any (λ x. (tree_at x ≡ tree_at e) × IsTrue (is_faulty (constant c) x)) e (constants_of c) m (refl, h)))))
      ]) refl

  abbrev both_ends : Bounds → List Tree
  both_ends b = b.0 ∷ b.1 ∷ []

  sound-bound : (c : Component) (l u e : Tree) → Member c (components_of t) → Member (range_type l u) (types_of c) → Member e (both_ends (l, u)) → IsSoundBound c e
  sound-bound c l u e listed m end =
      let inside : Member e (constants_of c) =
      append-left e (bound_values c) (map (λ (v : TypeTree × Tree). v.1) (typed_constants c))
      (flat_map-member both_ends (l, u) (bounds_of c) e (flat_map-member bounds_in (range_type l u) (types_of c) (l, u) m (inl refl)) end) in
      (constants-kept t constancy c (components-written t c listed) e inside, not-faulty c e listed inside)

  sound : (c : Component) → Member c (components_of t) → (ty : TypeTree) → Member ty (types_of c) → IsSound c ty
  sound c listed bool_type m = tt
  sound c listed int_type m = tt
  sound c listed (named_type nm) m = tt
  sound c listed (range_type l u) m = (sound-bound c l u l listed m (inl refl), sound-bound c l u u listed m (inr (inl refl)))

  pub range-at : (k : ℕ) (c : Component) → Member c (components_of t) → IsBody t k (as_written c) → (ty : TypeTree) → Member ty (types_of c) → walked s ns vs (all_rows t) (length (declarations t) + 1) k ty ≡ range_of c ty
  range-at k c listed own ty m =
      ap (λ n. walked s ns vs (all_rows t) n k ty) (add-one (length (declarations t)))
      ∙ range-is t s ns vs are few values sound k c listed own ty (sound c listed ty m)

-- what is found is the range of the type
pub ranged : (t : Source) (x : Types) (n k : ℕ) (c : Component) (ty : TypeTree) (r : Result ValueRange Memory) → IsTyped t x n → Member c (components_of t) → IsBody t k (as_written c) → Member ty (types_of c)
    → IfOk r (λ v. range_view v ≡ walked x.scopes.now x.constants.now.numbers x.constants.now.values (map row_of x.rows.now) n k ty) → IfOk r (λ v. range_view v ≡ range_of c ty)
ranged t x n k c ty (Ok v) h listed own m e =
    e
    ∙ (λ i. walked x.scopes.now x.constants.now.numbers x.constants.now.values (h.rows i) (h.counted i) k ty)
    ∙ range-at t x.scopes.now x.constants.now.numbers x.constants.now.values h.numbers h.few h.constancy h.values h.bounded k c listed own ty m
ranged t x n k c ty (Err y) h listed own m e = tt
