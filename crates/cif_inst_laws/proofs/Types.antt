-- The types that a source's types become are types of a net, those of channels too, and hold the first values of variables and inputs.
use Rattle.std.proofs.Common.{◌≡◌, ℕ, zero, suc, ◌⊎◌, ℤ, pos, true, false, inl, inr, List, [], ◌∷◌, length, map, Option, Some, None, refl, sym, ◌∙◌, ap, arith}
use Rattle.std.specs.Prelude.{◌&&◌, ◌-ℤ◌, int_le, int_lt, nat_lt, if◌then◌else◌}
use Rattle.std.proofs.lemmas.Bool.Decides.{nat_tests}
use Rattle.std.proofs.lemmas.Int.{ints}
use Rattle.cif_base.specs.declared.types.Ty.{Ty}
use Rattle.cif_base.specs.declared.types.Ty.TheVariants as ty
use Rattle.cif_ast.specs.Tree.{Tree}
use Rattle.cif_ast.specs.declared.names.Ident.{Ident}
use Rattle.cif_ast.specs.declared.declarations.Class.{Class}
use Rattle.cif_system.specs.Words.{Member}
use Rattle.cif_system.specs.System.{in_range}
use Rattle.cif_system.proofs.Lists.{map-length}
use Rattle.cif_system.proofs.Picks.{and-right, flat_map-member}
use Rattle.cif_net_model.specs.Kinds.{in_32_bits}
use Rattle.cif_net_model.specs.Meaning.{type_range}
use Rattle.cif_net_model.specs.Facts.{is_type, literals_fit, event_stands, stored_stands}
use Rattle.cif_source.specs.Source.{TypeTree, bool_type, int_type, range_type, named_type, ChannelTree, no_type, void_type, value_type, DeclTree, type_decl, enum_decl, event_decl, const_decl, alg_decl, input_decl, disc_decl, equation_decl, invariant_decl, marked_decl, Source, tree_at}
use Rattle.cif_source.specs.Components.{Component, specification_of, declared, literal, location, inner, definition, instance, parameter}
use Rattle.cif_source.specs.Lookup.{Reached, reached, missing, blocked, found}
use Rattle.cif_source.specs.Objects.{components_of, declarations, decls_of}
use Rattle.cif_source.specs.Value.{constant}
use Rattle.cif_source.specs.Types.{range_of, nearest_zero, first_of_type}
use Rattle.cif_source.specs.Constants.{decl_types, types_of, Bounds, bounds_in, bounds_of, decl_constants, typed_constants}
use Rattle.cif_source.specs.InstanceRules.{FaultyConstant, LeavesRange, LongBound, EmptyRange}
use Rattle.cif_inst_model.specs.Types.{NetType, type_at, type_by, type_within, net_type}
use Rattle.cif_inst_model.specs.Flat.{net_of_source, net_event, stored_by, net_stored}
use Rattle.cif_inst_model.proofs.RuleLaws.{member-any}
use Rattle.cif_inst_model.proofs.TypeLaws.{range-same}
use Rattle.cif_inst_laws.proofs.SoundLaws.{IsSound, found-is}
use Rattle.cif_inst_laws.proofs.TypeLaws.{written, bound-kept}
use Rattle.cif_inst_laws.proofs.Tests.{both, eq-true, lt-true, true-else, false-else}

-- ---- numbers

in-order : (a b : ℤ) → int_lt b a ≡ false → int_le a b ≡ true
in-order a b h = grind (arith, ints)

some-literal : (size : ℕ) → nat_lt 0 size ≡ true → int_le (pos 0) (pos size -ℤ pos 1) ≡ true
some-literal size h = grind (arith, ints, nat_tests)

-- the nearest number to 0 lies in a range that is not empty
near-inside : (lo hi : ℤ) → int_le lo hi ≡ true → (int_le lo (nearest_zero (record { lo = lo; hi = hi })) && int_le (nearest_zero (record { lo = lo; hi = hi })) hi) ≡ true
near-inside lo hi h =
    (elim (int_lt (pos 0) lo) as (λ b. int_lt (pos 0) lo ≡ b → (int_le lo (if b then lo else (if int_lt hi (pos 0) then hi else pos 0)) && int_le (if b then lo else (if int_lt hi (pos 0) then hi else pos 0)) hi) ≡ true) [
      | true ↦ λ e. grind (arith, ints)
      | false ↦ λ e.
          (elim (int_lt hi (pos 0)) as (λ b. int_lt hi (pos 0) ≡ b → (int_le lo (if b then hi else pos 0) && int_le (if b then hi else pos 0) hi) ≡ true) [
            | true ↦ λ f. grind (arith, ints)
            | false ↦ λ f. grind (arith, ints)
          ]) refl
    ]) refl

near-typed : (t : Ty) → is_type t ≡ true → in_range (type_range t) (nearest_zero (type_range t)) ≡ true
near-typed ty.Bool h = refl
near-typed (ty.Int lo hi) h = near-inside lo hi (and-right (in_32_bits lo && in_32_bits hi) (int_le lo hi) h)
near-typed (ty.Enum size) h = near-inside (pos 0) (pos size -ℤ pos 1) (some-literal size h)

-- ---- types

abbrev pub Fits : NetType → Type 0
Fits n = (is_type n.type_of ≡ true) × (literals_fit n.type_of n.literals ≡ true)

module _ (t : Source) (s : IsSound t) where
  -- ---- rules on constants

  abbrev Bad : ℕ → Component → Type 0
  Bad at c = FaultyConstant c at ⊎ LeavesRange c at ⊎ LongBound c at ⊎ EmptyRange c at

  bounds-ordered : (c : Component) → Member c (components_of t) → (b : Bounds) → Member b (bounds_of c) → int_le (constant c b.0) (constant c b.1) ≡ true
  bounds-ordered c m b k =
      in-order (constant c b.0) (constant c b.1) (false-else (int_lt (constant c b.1) (constant c b.0)) (λ g.
      s.ranges (tree_at b.0) (member-any (Bad (tree_at b.0)) c (components_of t) m (inr (inr (inr (member-any (λ (d : Bounds). (tree_at d.0 ≡ tree_at b.0) × (int_lt (constant c d.1) (constant c d.0) ≡ true)) b (bounds_of c) k (refl, g))))))))

  value-inside : (c : Component) → Member c (components_of t) → (x : TypeTree) (e : Tree) → Member {A = TypeTree × Tree} (x, e) (typed_constants c) → in_range (range_of c x) (constant c e) ≡ true
  value-inside c m x e k =
      true-else (in_range (range_of c x) (constant c e)) (λ g.
      s.ranges (tree_at e) (member-any (Bad (tree_at e)) c (components_of t) m (inr (inl (member-any (λ (v : TypeTree × Tree). (tree_at v.1 ≡ tree_at e) × (in_range (range_of c v.0) (constant c v.1) ≡ false)) (x, e) (typed_constants c) k (refl, g))))))

  range-fits : (c : Component) → Member c (components_of t) → (lower upper : Tree) → Member (range_type lower upper) (types_of c) → is_type (ty.Int (constant c lower) (constant c upper)) ≡ true
  range-fits c m lower upper k =
      let b : Member {A = Bounds} (lower, upper) (bounds_of c) = flat_map-member bounds_in (range_type lower upper) (types_of c) (lower, upper) k (inl refl) in
      both (in_32_bits (constant c lower) && in_32_bits (constant c upper)) (int_le (constant c lower) (constant c upper))
      (both (in_32_bits (constant c lower)) (in_32_bits (constant c upper))
      (bound-kept t s (net_of_source t) c m lower (flat_map-member (λ (b : Bounds). b.0 ∷ b.1 ∷ []) (lower, upper) (bounds_of c) lower b (inl refl)))
      (bound-kept t s (net_of_source t) c m upper (flat_map-member (λ (b : Bounds). b.0 ∷ b.1 ∷ []) (lower, upper) (bounds_of c) upper b (inr (inl refl)))))
      (bounds-ordered c m (lower, upper) b)

  enum-fits : (c : Component) → Member c (components_of t) → (n : Ident) (ls : List Ident) → Member (enum_decl n ls) (decls_of c) → Fits (type_at (λ c x. record { type_of = ty.Int (pos 0) (pos 0); literals = [] }) (reached (c, declared (enum_decl n ls))))
  enum-fits c m n ls k =
      let some = s.literals c m n ls k in
      (lt-true 0 (length ls) (omega (arith, some.0)), eq-true (length (map (λ (n : Ident). n.text) ls)) (length ls) (map-length (λ (n : Ident). n.text) ls))

  abbrev AllFit : (Component → TypeTree → NetType) → Type 0
  AllFit f = (c : Component) → Member c (components_of t) → (x : TypeTree) → Member x (types_of c) → Fits (f c x)

  at-fits : (f : Component → TypeTree → NetType) → AllFit f → (c : Component) → Member c (components_of t) → (r : Reached) → ((d : Component) (e : DeclTree) → r ≡ reached (d, declared e) → Member d (components_of t) × Member e (decls_of d)) → Fits (type_at f r)
  at-fits f all c m missing there = (refl, refl)
  at-fits f all c m blocked there = (refl, refl)
  at-fits f all c m (reached (d, declared (type_decl n x))) there =
      let k = there d (type_decl n x) refl in
      all d k.0 x (written d (type_decl n x) x k.1 (inl refl))
  at-fits f all c m (reached (d, declared (enum_decl n ls))) there = let k = there d (enum_decl n ls) refl in enum-fits d k.0 n ls k.1
  at-fits f all c m (reached (d, declared (event_decl k x n))) there = (refl, refl)
  at-fits f all c m (reached (d, declared (const_decl x n e))) there = (refl, refl)
  at-fits f all c m (reached (d, declared (alg_decl x n e))) there = (refl, refl)
  at-fits f all c m (reached (d, declared (input_decl x n))) there = (refl, refl)
  at-fits f all c m (reached (d, declared (disc_decl x n e))) there = (refl, refl)
  at-fits f all c m (reached (d, declared (equation_decl q))) there = (refl, refl)
  at-fits f all c m (reached (d, declared (invariant_decl i))) there = (refl, refl)
  at-fits f all c m (reached (d, declared (marked_decl p))) there = (refl, refl)
  at-fits f all c m (reached (d, literal k ls)) there = (refl, refl)
  at-fits f all c m (reached (d, location k)) there = (refl, refl)
  at-fits f all c m (reached (d, inner n b)) there = (refl, refl)
  at-fits f all c m (reached (d, definition n ps b)) there = (refl, refl)
  at-fits f all c m (reached (d, instance i)) there = (refl, refl)
  at-fits f all c m (reached (d, parameter k p)) there = (refl, refl)

  by-fits : (f : Component → TypeTree → NetType) → AllFit f → AllFit (type_by f)
  by-fits f all c m bool_type k = (refl, refl)
  by-fits f all c m int_type k = (refl, refl)
  by-fits f all c m (range_type lower upper) k = (range-fits c m lower upper k, refl)
  by-fits f all c m (named_type nm) k =
      at-fits f all c m (found c nm) (λ d e g. let is = found-is t s c m nm (d, declared e) g in (is.home, is.own))

  within-fits : (n : ℕ) → AllFit (type_within n)
  within-fits zero = by-fits (λ c x. record { type_of = ty.Int (pos 0) (pos 0); literals = [] }) (λ c m x k. (refl, refl))
  within-fits (suc n) = by-fits (type_within n) (within-fits n)

  -- the type of a declaration is one of the net, and has as many literals as that has
  pub type-stands : (c : Component) → Member c (components_of t) → (d : DeclTree) → Member d (decls_of c) → (x : TypeTree) → Member x (decl_types d) → Fits (net_type c x)
  type-stands c m d k x typed = within-fits (length (declarations (specification_of c))) c m x (written c d x k typed)

  -- ---- what is stored

  -- the first value of a type is of it
  nearest-inside : (c : Component) (x : TypeTree) → is_type (net_type c x).type_of ≡ true → in_range (type_range (net_type c x).type_of) (first_of_type c x None) ≡ true
  nearest-inside c x is = ap (λ r. in_range (type_range (net_type c x).type_of) (nearest_zero r)) (sym (range-same c x)) ∙ near-typed (net_type c x).type_of is

  first-inside : (c : Component) → Member c (components_of t) → (x : TypeTree) (n : Ident) (e : Option Tree) → Member (disc_decl x n e) (decls_of c) → is_type (net_type c x).type_of ≡ true → in_range (type_range (net_type c x).type_of) (first_of_type c x e) ≡ true
  first-inside c m x n None k is = nearest-inside c x is
  first-inside c m x n (Some e) k is =
      ap (λ r. in_range r (constant c e)) (range-same c x)
      ∙ value-inside c m x e (flat_map-member decl_constants (disc_decl x n (Some e)) (decls_of c) (x, e) k (inl refl))

  by-stands : (c : Component) (x : TypeTree) (n : Ident) (e : Option Tree) → Fits (net_type c x) → in_range (type_range (net_type c x).type_of) (first_of_type c x e) ≡ true → stored_stands (stored_by c n x e) ≡ true
  by-stands c x n e fits inside =
      both (is_type (net_type c x).type_of && literals_fit (net_type c x).type_of (net_type c x).literals) (in_range (type_range (net_type c x).type_of) (first_of_type c x e))
      (both (is_type (net_type c x).type_of) (literals_fit (net_type c x).type_of (net_type c x).literals) fits.0 fits.1)
      inside

  -- a variable has a type, as many literals as that has, and a first value of it
  pub variable-stands : (c : Component) → Member c (components_of t) → (x : TypeTree) (n : Ident) (e : Option Tree) → Member (disc_decl x n e) (decls_of c) → stored_stands (net_stored (c, disc_decl x n e)) ≡ true
  variable-stands c m x n e k =
      let fits = type-stands c m (disc_decl x n e) k x (inl refl) in
      by-stands c x n e fits (first-inside c m x n e k fits.0)

  -- and so has an input
  pub input-stands : (c : Component) → Member c (components_of t) → (x : TypeTree) (n : Ident) → Member (input_decl x n) (decls_of c) → stored_stands (net_stored (c, input_decl x n)) ≡ true
  input-stands c m x n k =
      let fits = type-stands c m (input_decl x n) k x (inl refl) in
      by-stands c x n None fits (nearest-inside c x fits.0)

  -- ---- channels

  -- the values of a channel have a type
  pub event-stands : (c : Component) → Member c (components_of t) → (k : Class) (x : ChannelTree) (n : Ident) → Member (event_decl k x n) (decls_of c) → event_stands (net_event (c, event_decl k x n)) ≡ true
  event-stands c m k no_type n i = refl
  event-stands c m k void_type n i = refl
  event-stands c m k (value_type ty) n i = (type-stands c m (event_decl k (value_type ty) n) i ty (inl refl)).0
