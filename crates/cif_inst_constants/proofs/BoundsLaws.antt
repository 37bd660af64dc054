-- The first constant expression or bound that breaks the rule is told, and where none is, none breaks it.
use Rattle.std.proofs.Common.{◌≡◌, ℕ, ℤ, Bool, true, false, ◌⊎◌, inl, inr, List, [], ◌∷◌, ◌++◌, map, flat_map, refl, sym, ap, subst, ◌∙◌, Option, Some, None}
use Rattle.std.specs.Prelude.{IsTrue, int_lt}
use Rattle.std.specs.Option.{option_or}
use Rattle.cif_system.specs.Words.{Member}
use Rattle.cif_system.specs.System.{in_range}
use Rattle.cif_system.proofs.Lists.{some-same, none-some, false-true}
use Rattle.cif_system.proofs.Picks.{append-left, append-right, map-member, flat_map-member}
use Rattle.cif_system.proofs.Distinct.{member-append, member-map, member-flat_map}
use Rattle.cif_ast.specs.Tree.{Tree}
use Rattle.cif_source.specs.Source.{TypeTree, bool_type, int_type, range_type, named_type, Source, tree_at}
use Rattle.cif_source.specs.Components.{Component, as_written, body_of, params_of}
use Rattle.cif_source.specs.Objects.{components_of, decls_in}
use Rattle.cif_source.specs.Value.{constant}
use Rattle.cif_source.specs.Types.{signed_range}
use Rattle.cif_source.specs.Constants.{param_types, decl_types, types_of, Bounds, bounds_in, bounds_of, bound_values, decl_constants, typed_constants, constants_of}
use Rattle.cif_source.specs.InstanceRules.{is_faulty, FaultyConstant, LeavesRange, LongBound, EmptyRange, ConstantRangeDue}
use Rattle.cif_scope.specs.declared.scopes.Scopes.{Scopes}
use Rattle.cif_scope.specs.Tables.{IsBody}
use Rattle.cif_scope.specs.Written.{written_bodies}
use Rattle.cif_inst_model.proofs.RuleLaws.{member-any}
use Rattle.cif_inst_model.proofs.StandingLaws.{any-member}
use Rattle.cif_inst_bodies.proofs.Bodies.{components-written}
use Rattle.cif_inst_bodies.proofs.Constants.{constants-kept}
use Rattle.cif_inst_constants.specs.Named.{table_value}
use Rattle.cif_inst_constants.specs.Used.{NumberedBody, first_in, used_from}
use Rattle.cif_inst_constants.specs.Outcomes.{unless_faulty, evaluated, outcome}
use Rattle.cif_inst_constants.specs.Bounds.{fits_32, crossed, bounds_fault, types_fault, missing_value, values_fault, body_fault}
use Rattle.cif_inst_constants.specs.Constants.{HasValues, BoundsDue}
use Rattle.cif_types_constancy.proofs.Firsts.{or-told, or-none}
use Rattle.cif_inst_constants.proofs.ValueLaws.{value-is}
use Rattle.cif_inst_constants.proofs.UsedLaws.{IsMarked}
use Rattle.cif_inst_constants.proofs.OwnLaws.{first-told, first-none, own-component, component-own}

-- ---- two bounds

crossed-none : (a b c : Bool) (p q : ℕ) → crossed a b c p q ≡ None → (a ≡ true) × (b ≡ true) × (c ≡ false)
crossed-none false b c p q h = absurd (none-some p (sym h))
crossed-none true false c p q h = absurd (none-some q (sym h))
crossed-none true true false p q h = (refl, refl, refl)
crossed-none true true true p q h = absurd (none-some p (sym h))

crossed-told : (a b c : Bool) (p q at : ℕ) → crossed a b c p q ≡ Some at → ((p ≡ at) × (a ≡ false)) ⊎ ((q ≡ at) × (b ≡ false)) ⊎ ((p ≡ at) × (c ≡ true))
crossed-told false b c p q at h = inl (some-same p at h, refl)
crossed-told true false c p q at h = inr (inl (some-same q at h, refl))
crossed-told true true false p q at h = absurd (none-some at h)
crossed-told true true true p q at h = inr (inr (some-same p at h, refl))

bounds-none : (l u : Tree) (f g : Bool) (x y : ℤ) → bounds_fault l u (unless_faulty f x) (unless_faulty g y) ≡ None → (f ≡ false) × (g ≡ false) × (fits_32 x ≡ true) × (fits_32 y ≡ true) × (int_lt y x ≡ false)
bounds-none l u true g x y h = absurd (none-some (tree_at l) (sym h))
bounds-none l u false true x y h = absurd (none-some (tree_at u) (sym h))
bounds-none l u false false x y h = let w = crossed-none (fits_32 x) (fits_32 y) (int_lt y x) (tree_at l) (tree_at u) h in (refl, refl, w.0, w.1, w.2)

abbrev AreWrong : (l u : Tree) (f g : Bool) (x y : ℤ) (at : ℕ) → Type 0
AreWrong l u f g x y at = ((tree_at l ≡ at) × (f ≡ true)) ⊎ ((tree_at u ≡ at) × (g ≡ true)) ⊎ ((tree_at l ≡ at) × (fits_32 x ≡ false)) ⊎ ((tree_at u ≡ at) × (fits_32 y ≡ false)) ⊎ ((tree_at l ≡ at) × (int_lt y x ≡ true))

bounds-told : (l u : Tree) (f g : Bool) (x y : ℤ) (at : ℕ) → bounds_fault l u (unless_faulty f x) (unless_faulty g y) ≡ Some at → AreWrong l u f g x y at
bounds-told l u true g x y at h = inl (some-same (tree_at l) at h, refl)
bounds-told l u false true x y at h = inr (inl (some-same (tree_at u) at h, refl))
bounds-told l u false false x y at h = elim (crossed-told (fits_32 x) (fits_32 y) (int_lt y x) (tree_at l) (tree_at u) at h) [
  | inl w ↦ inr (inr (inl w))
  | inr w ↦ elim w [ inl v ↦ inr (inr (inr (inl v))) | inr v ↦ inr (inr (inr (inr v))) ]
]

missing-none : (e : Tree) (f : Bool) (x : ℤ) → missing_value e (unless_faulty f x) ≡ None → f ≡ false
missing-none e true x h = absurd (none-some (tree_at e) (sym h))
missing-none e false x h = refl

missing-told : (e : Tree) (f : Bool) (x : ℤ) (at : ℕ) → missing_value e (unless_faulty f x) ≡ Some at → (tree_at e ≡ at) × (f ≡ true)
missing-told e true x at h = (some-same (tree_at e) at h, refl)
missing-told e false x at h = absurd (none-some at h)

abbrev ends : Bounds → List Tree
ends b = b.0 ∷ b.1 ∷ []

-- ---- a component

module _ (c : Component) where
  abbrev bad : Tree → Bool
  bad e = is_faulty (constant c) e

  abbrev WrongBounds : ℕ → Bounds → Type 0
  WrongBounds at b = AreWrong b.0 b.1 (bad b.0) (bad b.1) (constant c b.0) (constant c b.1) at

  abbrev SoundBounds : Bounds → Type 0
  SoundBounds b = (bad b.0 ≡ false) × (bad b.1 ≡ false) × (fits_32 (constant c b.0) ≡ true) × (fits_32 (constant c b.1) ≡ true) × (int_lt (constant c b.1) (constant c b.0) ≡ false)

  abbrev all_bounds : List TypeTree → List Bounds
  all_bounds ts = flat_map bounds_in ts

  types-told : (ts : List TypeTree) (at : ℕ) → types_fault (outcome c) ts ≡ Some at → (b : Bounds) × Member b (all_bounds ts) × WrongBounds at b
  types-told [] at h = absurd (none-some at h)
  types-told (bool_type ∷ ts) at h = types-told ts at h
  types-told (int_type ∷ ts) at h = types-told ts at h
  types-told (named_type nm ∷ ts) at h = types-told ts at h
  types-told (range_type l u ∷ ts) at h = elim (or-told (bounds_fault l u (outcome c l) (outcome c u)) (types_fault (outcome c) ts) at h) [
    | inl g ↦ ((l, u), inl refl, bounds-told l u (bad l) (bad u) (constant c l) (constant c u) at g)
    | inr g ↦ let w = types-told ts at g in (w.0, inr w.1, w.2)
  ]

  types-none : (ts : List TypeTree) → types_fault (outcome c) ts ≡ None → (b : Bounds) → Member b (all_bounds ts) → SoundBounds b
  types-none [] h b m = absurd m
  types-none (bool_type ∷ ts) h b m = types-none ts h b m
  types-none (int_type ∷ ts) h b m = types-none ts h b m
  types-none (named_type nm ∷ ts) h b m = types-none ts h b m
  types-none (range_type l u ∷ ts) h b m =
      let w = or-none (bounds_fault l u (outcome c l) (outcome c u)) (types_fault (outcome c) ts) h in
      elim m [
        | inl e ↦ subst (λ (x : Bounds). SoundBounds x) (sym e) (bounds-none l u (bad l) (bad u) (constant c l) (constant c u) w.0)
        | inr g ↦ types-none ts w.1 b g
      ]

  values-told : (vs : List (TypeTree × Tree)) (at : ℕ) → values_fault (outcome c) vs ≡ Some at → (v : TypeTree × Tree) × Member v vs × (tree_at v.1 ≡ at) × (bad v.1 ≡ true)
  values-told [] at h = absurd (none-some at h)
  values-told (v ∷ vs) at h = elim (or-told (missing_value v.1 (outcome c v.1)) (values_fault (outcome c) vs) at h) [
    | inl g ↦ let w = missing-told v.1 (bad v.1) (constant c v.1) at g in (v, inl refl, w.0, w.1)
    | inr g ↦ let w = values-told vs at g in (w.0, inr w.1, w.2, w.3)
  ]

  values-none : (vs : List (TypeTree × Tree)) → values_fault (outcome c) vs ≡ None → (v : TypeTree × Tree) → Member v vs → bad v.1 ≡ false
  values-none [] h v m = absurd m
  values-none (x ∷ vs) h v m =
      let w = or-none (missing_value x.1 (outcome c x.1)) (values_fault (outcome c) vs) h in
      elim m [
        | inl e ↦ subst (λ (y : TypeTree × Tree). bad y.1 ≡ false) (sym e) (missing-none x.1 (bad x.1) (constant c x.1) w.0)
        | inr g ↦ values-none vs w.1 v g
      ]

  -- ---- what is told is due

  abbrev Broken : ℕ → Type 0
  Broken at = FaultyConstant c at ⊎ LongBound c at ⊎ EmptyRange c at

  lower-in : (b : Bounds) → Member b (bounds_of c) → Member b.0 (bound_values c)
  lower-in b m = flat_map-member ends b (bounds_of c) b.0 m (inl refl)

  upper-in : (b : Bounds) → Member b (bounds_of c) → Member b.1 (bound_values c)
  upper-in b m = flat_map-member ends b (bounds_of c) b.1 m (inr (inl refl))

  faulty-bound : (e : Tree) (at : ℕ) → Member e (bound_values c) → (tree_at e ≡ at) × (bad e ≡ true) → Broken at
  faulty-bound e at m h = inl (member-any (λ x. (tree_at x ≡ at) × IsTrue (bad x)) e (constants_of c) (append-left e (bound_values c) (map (λ (v : TypeTree × Tree). v.1) (typed_constants c)) m) h)

  long-bound : (e : Tree) (at : ℕ) → Member e (bound_values c) → (tree_at e ≡ at) × (fits_32 (constant c e) ≡ false) → Broken at
  long-bound e at m h = inr (inl (member-any (λ x. (tree_at x ≡ at) × (in_range (signed_range 32) (constant c x) ≡ false)) e (bound_values c) m h))

  bounds-broken : (b : Bounds) (at : ℕ) → Member b (bounds_of c) → WrongBounds at b → Broken at
  bounds-broken b at m h = elim h [
    | inl w ↦ faulty-bound b.0 at (lower-in b m) w
    | inr r ↦ elim r [
      | inl w ↦ faulty-bound b.1 at (upper-in b m) w
      | inr q ↦ elim q [
        | inl w ↦ long-bound b.0 at (lower-in b m) w
        | inr p ↦ elim p [
          | inl w ↦ long-bound b.1 at (upper-in b m) w
          | inr w ↦ inr (inr (member-any (λ (x : Bounds). (tree_at x.0 ≡ at) × IsTrue (int_lt (constant c x.1) (constant c x.0))) b (bounds_of c) m w))
        ]
      ]
    ]
  ]

  value-broken : (v : TypeTree × Tree) (at : ℕ) → Member v (typed_constants c) → (tree_at v.1 ≡ at) → (bad v.1 ≡ true) → Broken at
  value-broken v at m e h =
      inl (member-any (λ x. (tree_at x ≡ at) × IsTrue (bad x)) v.1 (constants_of c) (append-right v.1 (bound_values c) (map (λ (x : TypeTree × Tree). x.1) (typed_constants c)) (map-member (λ (x : TypeTree × Tree). x.1) v (typed_constants c) m)) (e, h))

  abbrev own_fault : Option ℕ
  own_fault = option_or (types_fault (outcome c) (types_of c)) (values_fault (outcome c) (typed_constants c))

  pub own-told : (at : ℕ) → own_fault ≡ Some at → Broken at
  own-told at h = elim (or-told (types_fault (outcome c) (types_of c)) (values_fault (outcome c) (typed_constants c)) at h) [
    | inl g ↦ let w = types-told (types_of c) at g in bounds-broken w.0 at w.1 w.2
    | inr g ↦ let w = values-told (typed_constants c) at g in value-broken w.0 at w.1 w.2 w.3
  ]

  pub own-none : own_fault ≡ None → (at : ℕ) → Broken at → ⊥
  own-none h at broken =
      let w = or-none (types_fault (outcome c) (types_of c)) (values_fault (outcome c) (typed_constants c)) h in
      elim broken [
        | inl f ↦
            let x = any-member (λ e. (tree_at e ≡ at) × IsTrue (bad e)) (constants_of c) f in
            elim (member-append x.0 (bound_values c) (map (λ (v : TypeTree × Tree). v.1) (typed_constants c)) x.1) [
              | inl m ↦
                  let b = member-flat_map ends x.0 (bounds_of c) m in
                  let sound = types-none (types_of c) w.0 b.0 b.1 in
                  elim b.2 [
                    | inl e ↦ false-true (ap bad e ∙ sound.0) x.2.1
                    | inr r ↦ elim r [ inl e ↦ false-true (ap bad e ∙ sound.1) x.2.1 | inr e ↦ absurd e ]
                  ]
              | inr m ↦ let v = member-map (λ (y : TypeTree × Tree). y.1) x.0 (typed_constants c) m in false-true (ap bad v.2 ∙ values-none (typed_constants c) w.1 v.0 v.1) x.2.1
            ]
        | inr g ↦ elim g [
          | inl l ↦
              let x = any-member (λ e. (tree_at e ≡ at) × (in_range (signed_range 32) (constant c e) ≡ false)) (bound_values c) l in
              let b = member-flat_map ends x.0 (bounds_of c) x.1 in
              let sound = types-none (types_of c) w.0 b.0 b.1 in
              elim b.2 [
                | inl e ↦ false-true x.2.1 (ap (λ y. fits_32 (constant c y)) e ∙ sound.2)
                | inr r ↦ elim r [ inl e ↦ false-true x.2.1 (ap (λ y. fits_32 (constant c y)) e ∙ sound.3) | inr e ↦ absurd e ]
              ]
          | inr m ↦
              let x = any-member (λ (b : Bounds). (tree_at b.0 ≡ at) × IsTrue (int_lt (constant c b.1) (constant c b.0))) (bounds_of c) m in
              let sound = types-none (types_of c) w.0 x.0 x.1 in
              false-true sound.4 x.2.1
        ]
      ]

-- ---- all components

types-same : (f g : Tree → Option ℤ) (ts : List TypeTree) → ((e : Tree) → Member e (flat_map ends (flat_map bounds_in ts)) → f e ≡ g e) → types_fault f ts ≡ types_fault g ts
types-same f g [] h = refl
types-same f g (bool_type ∷ ts) h = types-same f g ts h
types-same f g (int_type ∷ ts) h = types-same f g ts h
types-same f g (named_type nm ∷ ts) h = types-same f g ts h
types-same f g (range_type l u ∷ ts) h = λ i. option_or (bounds_fault l u (h l (inl refl) i) (h u (inr (inl refl)) i)) (types-same f g ts (λ e m. h e (inr (inr m))) i)

values-same : (f g : Tree → Option ℤ) (xs : List (TypeTree × Tree)) → ((v : TypeTree × Tree) → Member v xs → f v.1 ≡ g v.1) → values_fault f xs ≡ values_fault g xs
values-same f g [] h = refl
values-same f g (v ∷ xs) h = λ i. option_or (missing_value v.1 (h v (inl refl) i)) (values-same f g xs (λ x m. h x (inr m)) i)

module _ (t : Source) (s : Scopes) (used : List Bool) (are : IsMarked t s used) (ns : List (List ℕ)) (vs : List ℤ) (values : HasValues t s ns vs) where
  value-at : (k : ℕ) (c : Component) → Member c (components_of t) → IsBody t k (as_written c) → (e : Tree) → Member e (constants_of c) → evaluated (table_value s ns vs k) e ≡ outcome c e
  value-at k c listed own e m = value-is t s ns vs k c e values listed own (constants-kept t are.constancy c (components-written t c listed) e m)

  body-is : (b : NumberedBody) (c : Component) → Member c (components_of t) → IsBody t b.number (as_written c) → params_of c ≡ b.written.params → body_of c ≡ b.written.body → body_fault s ns vs b ≡ own_fault c
  body-is b c listed own params body =
      let value : Tree → Option ℤ = evaluated (table_value s ns vs b.number) in
      (λ i. option_or (types_fault value (flat_map param_types (sym params i) ++ flat_map decl_types (decls_in (sym body i)))) (values_fault value (flat_map decl_constants (decls_in (sym body i)))))
      ∙ (λ i. option_or
      (types-same value (outcome c) (types_of c) (λ e m. value-at b.number c listed own e (append-left e (bound_values c) (map (λ (v : TypeTree × Tree). v.1) (typed_constants c)) m)) i)
      (values-same value (outcome c) (typed_constants c) (λ v m. value-at b.number c listed own v.1 (append-right v.1 (bound_values c) (map (λ (x : TypeTree × Tree). x.1) (typed_constants c)) (map-member (λ (x : TypeTree × Tree). x.1) v (typed_constants c) m))) i))

  pub bounds-refused : (o : Option ℕ) (at : ℕ) → o ≡ first_in (body_fault s ns vs) (used_from used 0 (written_bodies t)) → o ≡ Some at → ConstantRangeDue t at
  bounds-refused o at e h =
      let w = first-told (body_fault s ns vs) (used_from used 0 (written_bodies t)) at (sym e ∙ h) in
      let c = own-component t s used are w.0 w.1 in
      let broken : Broken c.component at = own-told c.component at (sym (body-is w.0 c.component c.listed c.own c.params c.body) ∙ w.2) in
      member-any (λ d. FaultyConstant d at ⊎ LeavesRange d at ⊎ LongBound d at ⊎ EmptyRange d at) c.component (components_of t) c.listed (elim broken [ inl f ↦ inl f | inr r ↦ inr (inr r) ])

  pub none-broken : (o : Option ℕ) → o ≡ first_in (body_fault s ns vs) (used_from used 0 (written_bodies t)) → o ≡ None → (at : ℕ) → BoundsDue t at → ⊥
  none-broken o e h at due =
      let w = any-member (λ c. FaultyConstant c at ⊎ LongBound c at ⊎ EmptyRange c at) (components_of t) due in
      let b = component-own t s used are w.0 w.1 in
      own-none w.0 (sym (body-is b.0 w.0 w.1 b.2 b.3 b.4) ∙ first-none (body_fault s ns vs) (used_from used 0 (written_bodies t)) b.0 (sym e ∙ h) b.1) at w.2
