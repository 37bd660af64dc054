-- In components that are written as one body, constant expressions have the same values, and types the same ranges.
use Rattle.std.proofs.Common.{◌≡◌, Option, Some, None, ℕ, zero, suc, ℤ, pos, Bool, true, false, inl, inr, [], ◌∷◌, length, map, refl, sym, ◌∙◌, ap, subst}
use Rattle.std.specs.Prelude.{flat_map, IsTrue}
use Rattle.std.specs.List.{Any}
use Rattle.cif_ast.specs.Tree.{Tree}
use Rattle.cif_ast.specs.declared.names.Ident.{Ident}
use Rattle.cif_ast.specs.declared.names.Name.{Name}
use Rattle.cif_system.specs.Words.{Member}
use Rattle.cif_system.specs.System.{Range}
use Rattle.cif_system.proofs.Picks.{append-left, append-right, map-member, flat_map-member}
use Rattle.cif_source.specs.Source.{TypeTree, bool_type, int_type, range_type, named_type, type_decl, const_decl, disc_decl, Source}
use Rattle.cif_source.specs.Components.{Component, whole, part, blank, copy, specification_of, as_written, params_of, Entry, declared, literal}
use Rattle.cif_source.specs.Lookup.{ScopeEntry, Reached, reached, missing, blocked, found, follow}
use Rattle.cif_source.specs.Objects.{bodies, decls_of, of_sort, is_const, declarations}
use Rattle.cif_source.specs.Uses.{names_in}
use Rattle.cif_source.specs.Scoping.{is_wrong}
use Rattle.cif_source.specs.Value.{value_with, constant_object, constant_by, constant_within, constant}
use Rattle.cif_source.specs.Types.{from_to, range_at, range_by, range_within, range_of, nearest_zero, first_of_type}
use Rattle.cif_source.proofs.NameLaws.{met, met_at-own, follow-met}
use Rattle.cif_source.specs.BodyRules.{is_constant, NotConstantDue}
use Rattle.cif_source.specs.Constants.{param_types, decl_types, types_of, Bounds, bounds_in, bounds_of, bound_values, decl_constants, typed_constants, constants_of}
use Rattle.cif_base.specs.declared.types.Ty.TheVariants as ty
use Rattle.cif_inst_model.specs.Types.{NetType, plain_type, type_at, type_by, type_within, net_type}
use Rattle.cif_inst_model.proofs.RuleLaws.{member-any}
use Rattle.cif_inst_bodies.specs.Alike.{AreWrittenAlike, AreAlike}
use Rattle.cif_inst_bodies.specs.Constancy.{HasConstantNames}
use Rattle.cif_inst_bodies.proofs.Alike.{written, root-written, found-same, names-alike}
use Rattle.cif_inst_bodies.proofs.Bodies.{IsWritten, Good, found-good}
use Rattle.cif_source.proofs.Values.{value-agrees}

-- ---- constant expressions of a component

constants-written : (c : Component) → constants_of (as_written c) ≡ constants_of c
constants-written (whole is) = refl
constants-written (part o n b) = refl
constants-written (blank o n ps b) = refl
constants-written (copy o n ps b g i) = refl

-- the value of a constant is one of them
value-constant : (c : Component) (ty : TypeTree) (n : Ident) (e : Tree) → Member (const_decl ty n e) (decls_of c) → Member e (constants_of c)
value-constant c ty n e m =
    append-right e (bound_values c) (map (λ (v : TypeTree × Tree). v.1) (typed_constants c))
    (map-member (λ (v : TypeTree × Tree). v.1) (ty, e) (typed_constants c) (flat_map-member decl_constants (const_decl ty n e) (decls_of c) (ty, e) m (inl refl)))

bound-constant : (c : Component) (lower upper e : Tree) → Member (range_type lower upper) (types_of c) → Member e (lower ∷ upper ∷ []) → Member e (constants_of c)
bound-constant c lower upper e m k =
    append-left e (bound_values c) (map (λ (v : TypeTree × Tree). v.1) (typed_constants c))
    (flat_map-member (λ (b : Bounds). b.0 ∷ b.1 ∷ []) (lower, upper) (bounds_of c) e (flat_map-member bounds_in (range_type lower upper) (types_of c) (lower, upper) m (inl refl)) k)

-- the type for which a name is declared is one of the types of its component
named-type : (c : Component) (n : Ident) (ty : TypeTree) → Member (type_decl n ty) (decls_of c) → Member ty (types_of c)
named-type c n ty m = append-right ty (flat_map param_types (params_of c)) (flat_map decl_types (decls_of c)) (flat_map-member decl_types (type_decl n ty) (decls_of c) ty m (inl refl))

-- the type and the first value of a variable
variable-type : (c : Component) (ty : TypeTree) (n : Ident) (e : Option Tree) → Member (disc_decl ty n e) (decls_of c) → Member ty (types_of c)
variable-type c ty n e m = append-right ty (flat_map param_types (params_of c)) (flat_map decl_types (decls_of c)) (flat_map-member decl_types (disc_decl ty n e) (decls_of c) ty m (inl refl))

first-constant : (c : Component) (ty : TypeTree) (n : Ident) (e : Tree) → Member (disc_decl ty n (Some e)) (decls_of c) → Member e (constants_of c)
first-constant c ty n e m =
    append-right e (bound_values c) (map (λ (v : TypeTree × Tree). v.1) (typed_constants c))
    (map-member (λ (v : TypeTree × Tree). v.1) (ty, e) (typed_constants c) (flat_map-member decl_constants (disc_decl ty n (Some e)) (decls_of c) (ty, e) m (inl refl)))

wrong-written : (asked : Entry → Bool) (r : Reached) → is_wrong asked r ≡ is_wrong asked (written r)
wrong-written asked (reached x) = refl
wrong-written asked missing = refl
wrong-written asked blocked = refl

wrong-same : (asked : Entry → Bool) (c : Component) (nm : Name) → is_wrong asked (found c nm) ≡ is_wrong asked (found (as_written c) nm)
wrong-same asked c nm = wrong-written asked (found c nm) ∙ ap (is_wrong asked) (found-same c nm) ∙ sym (wrong-written asked (found (as_written c) nm))

module _ (t : Source) (keeps : (at : ℕ) → NotConstantDue t at → ⊥) where
  -- the rule on constants, for a component
  pub constants-kept : (c : Component) → IsWritten t c → (e : Tree) → Member e (constants_of c) → HasConstantNames c e
  constants-kept c w e m nm k =
      (elim (is_wrong is_constant (found c nm)) as (λ b. is_wrong is_constant (found c nm) ≡ b → b ≡ false) [
        | false ↦ λ h. refl
        | true ↦ λ h. absurd (keeps nm.at
            (member-any (λ d. Any (λ (x : Name). (x.at ≡ nm.at) × IsTrue (is_wrong is_constant (found d x))) (flat_map names_in (constants_of d))) (as_written c) (bodies t) w
            (member-any (λ (x : Name). (x.at ≡ nm.at) × IsTrue (is_wrong is_constant (found (as_written c) x))) nm (flat_map names_in (constants_of (as_written c)))
            (flat_map-member names_in e (constants_of (as_written c)) nm (subst (Member e) (sym (constants-written c)) m) k)
            (refl, sym (wrong-same is_constant c nm) ∙ h))))
      ]) refl

  -- ---- values

  -- what is given for the values of constants does not tell components apart that are written alike
  abbrev Agrees : (Component → Tree → ℤ) → Type 0
  Agrees defined = (c d : Component) → AreWrittenAlike c d → IsWritten t c → (e : Tree) → HasConstantNames c e → defined c e ≡ defined d e

  module _ (defined : Component → Tree → ℤ) (agrees : Agrees defined) where
    abbrev met_by : Reached → ℤ
    met_by r = met (constant_object defined) (pos 0) (λ name g a. value_with name (pos 0) a) r

    own-entry : (d : Component) (e f : Entry) → e ≡ f → met_by (reached (d, e)) ≡ met_by (reached (d, f))
    own-entry d e f same = ap (λ y. met_by (reached (d, y))) same

    met-same : (r s : Reached) → AreAlike r s → ((x : ScopeEntry) → r ≡ reached x → Good t x) → is_wrong is_constant r ≡ false → met_by r ≡ met_by s
    met-same (reached (c, declared (const_decl ty n e))) (reached (d, f)) a good w =
        let g = good (c, declared (const_decl ty n e)) refl in
        met_at-own (constant_object defined) (pos 0) (λ name g a. value_with name (pos 0) a) c (declared (const_decl ty n e)) refl
        ∙ agrees c d a.0 g.0 e (constants-kept c g.0 e (value-constant c ty n e g.1))
        ∙ sym (met_at-own (constant_object defined) (pos 0) (λ name g a. value_with name (pos 0) a) d (declared (const_decl ty n e)) refl)
        ∙ own-entry d (declared (const_decl ty n e)) f a.1
    met-same (reached (c, literal k ls)) (reached (d, f)) a good w =
        met_at-own (constant_object defined) (pos 0) (λ name g a. value_with name (pos 0) a) c (literal k ls) refl
        ∙ sym (met_at-own (constant_object defined) (pos 0) (λ name g a. value_with name (pos 0) a) d (literal k ls) refl)
        ∙ own-entry d (literal k ls) f a.1
    met-same (reached (c, e)) (reached (d, f)) a good w = cc
    met-same (reached x) missing a good w = absurd a
    met-same (reached x) blocked a good w = absurd a
    met-same missing (reached y) a good w = absurd a
    met-same missing missing a good w = refl
    met-same missing blocked a good w = absurd a
    met-same blocked s a good w = cc

    by-same : Agrees (constant_by defined)
    by-same c d a w e h =
        value-agrees (follow (constant_object defined) (pos 0) (λ name g x. value_with name (pos 0) x) c) (follow (constant_object defined) (pos 0) (λ name g x. value_with name (pos 0) x) d) (pos 0) e
        (λ nm m. follow-met (constant_object defined) (pos 0) (λ name g x. value_with name (pos 0) x) c nm
        ∙ met-same (found c nm) (found d nm) (names-alike c d nm a) (found-good t c w nm) (h nm m)
        ∙ sym (follow-met (constant_object defined) (pos 0) (λ name g x. value_with name (pos 0) x) d nm))

  within-same : (n : ℕ) → Agrees (constant_within n)
  within-same zero = by-same (λ c e. pos 0) (λ c d a w e h. refl)
  within-same (suc n) = by-same (constant_within n) (within-same n)

  roots-same : (c d : Component) → AreWrittenAlike c d → specification_of c ≡ specification_of d
  roots-same c d a = sym (root-written c) ∙ ap specification_of a ∙ root-written d

  pub constant-same : (c d : Component) → AreWrittenAlike c d → Member (as_written c) (bodies t) → (e : Tree) → HasConstantNames c e → constant c e ≡ constant d e
  constant-same c d a w e h = within-same (length (of_sort is_const (specification_of c))) c d a w e h ∙ ap (λ s. constant_within (length (of_sort is_const s)) d e) (roots-same c d a)

  -- ---- ranges

  abbrev Ranges : (Component → TypeTree → Range) → Type 0
  Ranges more = (c d : Component) → AreWrittenAlike c d → IsWritten t c → (ty : TypeTree) → Member ty (types_of c) → more c ty ≡ more d ty

  module _ (more : Component → TypeTree → Range) (agrees : Ranges more) where
    range_at-same : (r s : Reached) → AreAlike r s → ((x : ScopeEntry) → r ≡ reached x → Good t x) → range_at more r ≡ range_at more s
    range_at-same (reached (c, declared (type_decl n ty))) (reached (d, f)) a good =
        let g = good (c, declared (type_decl n ty)) refl in
        agrees c d a.0 g.0 ty (named-type c n ty g.1) ∙ ap (λ y. range_at more (reached (d, y))) a.1
    range_at-same (reached (c, e)) (reached (d, f)) a good = ap (λ y. range_at more (reached (d, y))) a.1
    range_at-same (reached x) missing a good = absurd a
    range_at-same (reached x) blocked a good = absurd a
    range_at-same missing (reached y) a good = absurd a
    range_at-same missing missing a good = refl
    range_at-same missing blocked a good = absurd a
    range_at-same blocked (reached y) a good = absurd a
    range_at-same blocked missing a good = absurd a
    range_at-same blocked blocked a good = refl

    range_by-same : Ranges (range_by more)
    range_by-same c d a w bool_type m = refl
    range_by-same c d a w int_type m = refl
    range_by-same c d a w (range_type lower upper) m = λ i.
        from_to (constant-same c d a w lower (constants-kept c w lower (bound-constant c lower upper lower m (inl refl))) i)
        (constant-same c d a w upper (constants-kept c w upper (bound-constant c lower upper upper m (inr (inl refl)))) i)
    range_by-same c d a w (named_type nm) m = range_at-same (found c nm) (found d nm) (names-alike c d nm a) (found-good t c w nm)

  ranges-within : (n : ℕ) → Ranges (range_within n)
  ranges-within zero = range_by-same (λ c ty. from_to (pos 0) (pos 0)) (λ c d a w ty m. refl)
  ranges-within (suc n) = range_by-same (range_within n) (ranges-within n)

  pub range-same : (c d : Component) → AreWrittenAlike c d → Member (as_written c) (bodies t) → (ty : TypeTree) → Member ty (types_of c) → range_of c ty ≡ range_of d ty
  range-same c d a w ty m = ranges-within (length (declarations (specification_of c))) c d a w ty m ∙ ap (λ s. range_within (length (declarations s)) d ty) (roots-same c d a)

  -- the first value of a variable of the component
  pub first-same : (c d : Component) → AreWrittenAlike c d → Member (as_written c) (bodies t) → (ty : TypeTree) (n : Ident) (e : Option Tree) → Member (disc_decl ty n e) (decls_of c) → first_of_type c ty e ≡ first_of_type d ty e
  first-same c d a w ty n None m = ap nearest_zero (range-same c d a w ty (variable-type c ty n None m))
  first-same c d a w ty n (Some e) m = constant-same c d a w e (constants-kept c w e (first-constant c ty n e m))

  -- ---- types of a net

  abbrev NetTypes : (Component → TypeTree → NetType) → Type 0
  NetTypes more = (c d : Component) → AreWrittenAlike c d → IsWritten t c → (ty : TypeTree) → Member ty (types_of c) → more c ty ≡ more d ty

  module _ (more : Component → TypeTree → NetType) (agrees : NetTypes more) where
    type_at-same : (r s : Reached) → AreAlike r s → ((x : ScopeEntry) → r ≡ reached x → Good t x) → type_at more r ≡ type_at more s
    type_at-same (reached (c, declared (type_decl n ty))) (reached (d, f)) a good =
        let g = good (c, declared (type_decl n ty)) refl in
        agrees c d a.0 g.0 ty (named-type c n ty g.1) ∙ ap (λ y. type_at more (reached (d, y))) a.1
    type_at-same (reached (c, e)) (reached (d, f)) a good = ap (λ y. type_at more (reached (d, y))) a.1
    type_at-same (reached x) missing a good = absurd a
    type_at-same (reached x) blocked a good = absurd a
    type_at-same missing (reached y) a good = absurd a
    type_at-same missing missing a good = refl
    type_at-same missing blocked a good = absurd a
    type_at-same blocked (reached y) a good = absurd a
    type_at-same blocked missing a good = absurd a
    type_at-same blocked blocked a good = refl

    type_by-same : NetTypes (type_by more)
    type_by-same c d a w bool_type m = refl
    type_by-same c d a w int_type m = refl
    type_by-same c d a w (range_type lower upper) m = λ i.
        plain_type
        (ty.Int (constant-same c d a w lower (constants-kept c w lower (bound-constant c lower upper lower m (inl refl))) i)
        (constant-same c d a w upper (constants-kept c w upper (bound-constant c lower upper upper m (inr (inl refl)))) i))
    type_by-same c d a w (named_type nm) m = type_at-same (found c nm) (found d nm) (names-alike c d nm a) (found-good t c w nm)

  types-within : (n : ℕ) → NetTypes (type_within n)
  types-within zero = type_by-same (λ c u. plain_type (ty.Int (pos 0) (pos 0))) (λ c d a w u m. refl)
  types-within (suc n) = type_by-same (type_within n) (types-within n)

  pub net_type-same : (c d : Component) → AreWrittenAlike c d → Member (as_written c) (bodies t) → (u : TypeTree) → Member u (types_of c) → net_type c u ≡ net_type d u
  net_type-same c d a w u m = types-within (length (declarations (specification_of c))) c d a w u m ∙ ap (λ s. type_within (length (declarations s)) d u) (roots-same c d a)
