-- The constant expressions of a component have their values in the table of the body that the component is written as.
use Rattle.std.proofs.Common.{◌≡◌, ◌⊎◌, ℕ, ℤ, pos, Bool, true, false, inl, ◌∷◌, [], map, refl, ap, ◌∙◌, Option}
use Rattle.std.specs.Prelude.{unwrap_or, flat_map, IsTrue}
use Rattle.cif_ast.specs.Tree.{Tree}
use Rattle.cif_system.specs.Words.{Member}
use Rattle.cif_system.proofs.Picks.{append-left, append-right, map-member, flat_map-member}
use Rattle.cif_source.specs.Source.{TypeTree, range_type, DeclTree, Source, tree_at}
use Rattle.cif_source.specs.Components.{Component, as_written, params_of}
use Rattle.cif_source.specs.Objects.{components_of, decls_of}
use Rattle.cif_source.specs.Value.{constant}
use Rattle.cif_source.specs.Constants.{param_types, decl_types, types_of, Bounds, bounds_in, bounds_of, bound_values, decl_constants, typed_constants, constants_of}
use Rattle.cif_source.specs.InstanceRules.{is_faulty, FaultyConstant, LongBound, EmptyRange}
use Rattle.cif_scope.specs.Tables.{IsBody}
use Rattle.cif_inst_constants.specs.Outcomes.{unless_faulty}
use Rattle.cif_inst_constants.specs.Typed.{IsTyped}
use Rattle.cif_inst_constants.specs.declared.ranges.Types.{Types}
use Rattle.cif_inst_constants.proofs.ValueLaws.{value-is}
use Rattle.cif_inst_model.proofs.RuleLaws.{member-any}
use Rattle.cif_inst_bodies.proofs.Bodies.{components-written}
use Rattle.cif_inst_bodies.proofs.Constants.{constants-kept}
use Rattle.cif_inst_types.specs.Leaves.{value_in}

-- ---- what stands in a component

-- the type of a declaration
pub declared-type : (c : Component) (d : DeclTree) (ty : TypeTree) → Member d (decls_of c) → Member ty (decl_types d) → Member ty (types_of c)
declared-type c d ty m g = append-right ty (flat_map param_types (params_of c)) (flat_map decl_types (decls_of c)) (flat_map-member decl_types d (decls_of c) ty m g)

-- the value of a constant, or a first value
pub typed-constant : (c : Component) (v : TypeTree × Tree) → Member v (typed_constants c) → Member v.1 (constants_of c)
typed-constant c v m =
    append-right v.1 (bound_values c) (map (λ (w : TypeTree × Tree). w.1) (typed_constants c))
    (map-member (λ (w : TypeTree × Tree). w.1) v (typed_constants c) m)

pub declared-constant : (c : Component) (d : DeclTree) (v : TypeTree × Tree) → Member d (decls_of c) → Member v (decl_constants d) → Member v.1 (constants_of c)
declared-constant c d v m g = typed-constant c v (flat_map-member decl_constants d (decls_of c) v m g)

-- a bound of a type
pub bound-constant : (c : Component) (lower upper e : Tree) → Member (range_type lower upper) (types_of c) → Member e (lower ∷ upper ∷ []) → Member e (constants_of c)
bound-constant c lower upper e m g =
    append-left e (bound_values c) (map (λ (w : TypeTree × Tree). w.1) (typed_constants c))
    (flat_map-member (λ (b : Bounds). b.0 ∷ b.1 ∷ []) (lower, upper) (bounds_of c) e (flat_map-member bounds_in (range_type lower upper) (types_of c) (lower, upper) m (inl refl)) g)

-- ---- values

-- the component is one of the source, and written as body k
abbrev pub IsAt : Source → ℕ → Component → Type 0
IsAt t k c = Member c (components_of t) × IsBody t k (as_written c)

unless-sound : (b : Bool) (z : ℤ) → (b ≡ true → ⊥) → unwrap_or (unless_faulty b z) (pos 0) ≡ z
unless-sound true z h = absurd (h refl)
unless-sound false z h = refl

pub value-in : (t : Source) (x : Types) (turns : ℕ) → IsTyped t x turns → (k : ℕ) (c : Component) → IsAt t k c → (e : Tree) → Member e (constants_of c) → value_in x k e ≡ constant c e
value-in t x turns h k c at e m =
    ap (λ (o : Option ℤ). unwrap_or o (pos 0))
    (value-is t x.scopes.now x.constants.now.numbers x.constants.now.values k c e h.values at.0 at.1 (constants-kept t h.constancy c (components-written t c at.0) e m))
    ∙ unless-sound (is_faulty (constant c) e) (constant c e)
    (λ f. h.bounded (tree_at e)
    (member-any (λ d. FaultyConstant d (tree_at e) ⊎ LongBound d (tree_at e) ⊎ EmptyRange d (tree_at e)) c (components_of t) at.0
    (inl (member-any (λ y. (tree_at y ≡ tree_at e) × IsTrue (is_faulty (constant c) y)) e (constants_of c) m (refl, f)))))
