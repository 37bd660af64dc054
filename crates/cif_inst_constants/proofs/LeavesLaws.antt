-- The first value that leaves its declared range is told, and where there is none, no constant breaks the rule.
use Rattle.std.proofs.Common.{◌≡◌, ℕ, ◌+◌, ℤ, Bool, true, false, ◌⊎◌, inl, inr, List, [], ◌∷◌, map, flat_map, length, refl, sym, ap, subst, ◌∙◌, Option, Some, None}
use Rattle.std.specs.Prelude.{IsTrue, if◌then◌else◌}
use Rattle.std.specs.Option.{option_or}
use Rattle.cif_system.specs.Words.{Member}
use Rattle.cif_system.specs.System.{Range, in_range}
use Rattle.cif_system.proofs.Lists.{some-same, none-some, false-true}
use Rattle.cif_system.proofs.Picks.{append-right, map-member, flat_map-member}
use Rattle.cif_system.proofs.Distinct.{member-flat_map}
use Rattle.cif_ast.specs.Tree.{Tree}
use Rattle.cif_source.specs.Source.{TypeTree, DeclTree, type_decl, enum_decl, event_decl, const_decl, alg_decl, input_decl, disc_decl, equation_decl, invariant_decl, marked_decl, Source, tree_at}
use Rattle.cif_source.specs.Components.{Component, as_written, body_of, params_of}
use Rattle.cif_source.specs.Objects.{components_of, decls_in, decls_of, declarations}
use Rattle.cif_source.specs.Value.{constant}
use Rattle.cif_source.specs.Types.{range_of}
use Rattle.cif_source.specs.Constants.{param_types, decl_types, types_of, bound_values, decl_constants, typed_constants, constants_of}
use Rattle.cif_source.specs.InstanceRules.{is_faulty, FaultyConstant, LeavesRange, LongBound, EmptyRange, ConstantRangeDue}
use Rattle.cif_scope.specs.declared.scopes.Scopes.{Scopes}
use Rattle.cif_scope.specs.Tables.{IsBody}
use Rattle.cif_scope.specs.Written.{written_bodies}
use Rattle.cif_inst_model.proofs.RuleLaws.{member-any}
use Rattle.cif_inst_model.proofs.StandingLaws.{any-member}
use Rattle.cif_inst_bodies.proofs.Bodies.{components-written}
use Rattle.cif_inst_bodies.proofs.Constants.{constants-kept}
use Rattle.cif_types_constancy.proofs.Firsts.{or-told, or-none}
use Rattle.cif_inst_constants.specs.Named.{table_value}
use Rattle.cif_inst_constants.specs.Outcomes.{unless_faulty, evaluated, outcome}
use Rattle.cif_inst_constants.specs.Constants.{HasValues, BoundsDue}
use Rattle.cif_inst_constants.specs.Used.{NumberedBody, first_in, used_from}
use Rattle.cif_inst_constants.specs.Walked.{walked, leaves, values_fault, body_fault}
use Rattle.cif_inst_constants.proofs.ValueLaws.{value-is}
use Rattle.cif_inst_constants.proofs.UsedLaws.{IsMarked}
use Rattle.cif_inst_constants.proofs.OwnLaws.{first-told, first-none, own-component, component-own}
use Rattle.cif_inst_constants.proofs.RowLaws.{all_rows}
use Rattle.cif_inst_constants.proofs.RangeLaws.{range-at}

-- ---- a value

if-none : (b : Bool) (n : ℕ) → (if b then None else Some n) ≡ None → b ≡ true
if-none true n h = refl
if-none false n h = absurd (none-some n (sym h))

if-told : (b : Bool) (n at : ℕ) → (if b then None else Some n) ≡ Some at → (n ≡ at) × (b ≡ false)
if-told true n at h = absurd (none-some at h)
if-told false n at h = (some-same n at h, refl)

leaves-none : (e : Tree) (f : Bool) (z : ℤ) (r : Range) → leaves e (unless_faulty f z) r ≡ None → in_range r z ≡ true
leaves-none e true z r h = absurd (none-some (tree_at e) (sym h))
leaves-none e false z r h = if-none (in_range r z) (tree_at e) h

leaves-told : (e : Tree) (f : Bool) (z : ℤ) (r : Range) (at : ℕ) → leaves e (unless_faulty f z) r ≡ Some at → (tree_at e ≡ at) × ((f ≡ true) ⊎ (in_range r z ≡ false))
leaves-told e true z r at h = (some-same (tree_at e) at h, inl refl)
leaves-told e false z r at h = let w = if-told (in_range r z) (tree_at e) at h in (w.0, inr w.1)

-- ---- the type of a value is one of the types of its body

decl-typed : (d : DeclTree) (v : TypeTree × Tree) → Member v (decl_constants d) → Member v.0 (decl_types d)
decl-typed (const_decl ty n e) v m = elim m [ inl h ↦ inl (ap (λ (x : TypeTree × Tree). x.0) h) | inr h ↦ absurd h ]
decl-typed (disc_decl ty n (Some e)) v m = elim m [ inl h ↦ inl (ap (λ (x : TypeTree × Tree). x.0) h) | inr h ↦ absurd h ]
decl-typed (disc_decl ty n None) v m = absurd m
decl-typed (type_decl n ty) v m = absurd m
decl-typed (enum_decl n ls) v m = absurd m
decl-typed (event_decl c h n) v m = absurd m
decl-typed (alg_decl ty n e) v m = absurd m
decl-typed (input_decl ty n) v m = absurd m
decl-typed (equation_decl q) v m = absurd m
decl-typed (invariant_decl i) v m = absurd m
decl-typed (marked_decl p) v m = absurd m

typed-inside : (c : Component) (v : TypeTree × Tree) → Member v (typed_constants c) → Member v.0 (types_of c)
typed-inside c v m =
    let d = member-flat_map decl_constants v (decls_of c) m in
    append-right v.0 (flat_map param_types (params_of c)) (flat_map decl_types (decls_of c)) (flat_map-member decl_types d.0 (decls_of c) v.0 d.1 (decl-typed d.0 v d.2))

abbrev Broken : Component → ℕ → Type 0
Broken c at = FaultyConstant c at ⊎ LeavesRange c at ⊎ LongBound c at ⊎ EmptyRange c at

abbrev BrokenBounds : Component → ℕ → Type 0
BrokenBounds c at = FaultyConstant c at ⊎ LongBound c at ⊎ EmptyRange c at

abbrev own_fault : Component → List (TypeTree × Tree) → Option ℕ
own_fault c vs = values_fault (outcome c) (range_of c) vs

own-told : (c : Component) (vs : List (TypeTree × Tree)) (at : ℕ) → own_fault c vs ≡ Some at → (v : TypeTree × Tree) × Member v vs × (tree_at v.1 ≡ at) × ((is_faulty (constant c) v.1 ≡ true) ⊎ (in_range (range_of c v.0) (constant c v.1) ≡ false))
own-told c [] at h = absurd (none-some at h)
own-told c (v ∷ vs) at h = elim (or-told (leaves v.1 (outcome c v.1) (range_of c v.0)) (own_fault c vs) at h) [
  | inl g ↦ let w = leaves-told v.1 (is_faulty (constant c) v.1) (constant c v.1) (range_of c v.0) at g in (v, inl refl, w.0, w.1)
  | inr g ↦ let w = own-told c vs at g in (w.0, inr w.1, w.2, w.3)
]

own-none : (c : Component) (vs : List (TypeTree × Tree)) → own_fault c vs ≡ None → (v : TypeTree × Tree) → Member v vs → in_range (range_of c v.0) (constant c v.1) ≡ true
own-none c [] h v m = absurd m
own-none c (x ∷ vs) h v m =
    let w = or-none (leaves x.1 (outcome c x.1) (range_of c x.0)) (own_fault c vs) h in
    elim m [
      | inl e ↦ subst (λ (y : TypeTree × Tree). in_range (range_of c y.0) (constant c y.1) ≡ true) (sym e) (leaves-none x.1 (is_faulty (constant c) x.1) (constant c x.1) (range_of c x.0) w.0)
      | inr g ↦ own-none c vs w.1 v g
    ]

own-broken : (c : Component) (at : ℕ) → own_fault c (typed_constants c) ≡ Some at → Broken c at
own-broken c at h =
    let w = own-told c (typed_constants c) at h in
    elim w.3 [
      | inl f ↦ inl (member-any (λ e. (tree_at e ≡ at) × IsTrue (is_faulty (constant c) e)) w.0.1 (constants_of c)
          (append-right w.0.1 (bound_values c) (map (λ (v : TypeTree × Tree). v.1) (typed_constants c)) (map-member (λ (v : TypeTree × Tree). v.1) w.0 (typed_constants c) w.1)) (w.2, f))
      | inr r ↦ inr (inl (member-any (λ (v : TypeTree × Tree). (tree_at v.1 ≡ at) × (in_range (range_of c v.0) (constant c v.1) ≡ false)) w.0 (typed_constants c) w.1 (w.2, r)))
    ]

module _ (t : Source) (s : Scopes) (used : List Bool) (are : IsMarked t s used) (ns : List (List ℕ)) (vs : List ℤ) (values : HasValues t s ns vs) (bounded : (at : ℕ) → BoundsDue t at → ⊥) where
  abbrev turns : ℕ
  turns = length (declarations t) + 1

  abbrev body_leaves : NumberedBody → Option ℕ
  body_leaves b = body_fault s ns vs (all_rows t) turns b

  values-same : (k : ℕ) (c : Component) → Member c (components_of t) → IsBody t k (as_written c) → (xs : List (TypeTree × Tree)) → ((v : TypeTree × Tree) → Member v xs → Member v (typed_constants c))
      → values_fault (evaluated (table_value s ns vs k)) (walked s ns vs (all_rows t) turns k) xs ≡ own_fault c xs
  values-same k c listed own [] m = refl
  values-same k c listed own (x ∷ xs) m =
      let value : evaluated (table_value s ns vs k) x.1 ≡ outcome c x.1 =
      value-is t s ns vs k c x.1 values listed own
      (constants-kept t are.constancy c (components-written t c listed) x.1
      (append-right x.1 (bound_values c) (map (λ (v : TypeTree × Tree). v.1) (typed_constants c)) (map-member (λ (v : TypeTree × Tree). v.1) x (typed_constants c) (m x (inl refl))))) in
      let range : walked s ns vs (all_rows t) turns k x.0 ≡ range_of c x.0 = range-at t s ns vs are.numbers are.few are.constancy values bounded k c listed own x.0 (typed-inside c x (m x (inl refl))) in
      λ i. option_or (leaves x.1 (value i) (range i)) (values-same k c listed own xs (λ v g. m v (inr g)) i)

  body-is : (b : NumberedBody) (c : Component) → Member c (components_of t) → IsBody t b.number (as_written c) → body_of c ≡ b.written.body → body_leaves b ≡ own_fault c (typed_constants c)
  body-is b c listed own body =
      ap (λ d. values_fault (evaluated (table_value s ns vs b.number)) (walked s ns vs (all_rows t) turns b.number) (flat_map decl_constants (decls_in d))) (sym body)
      ∙ values-same b.number c listed own (typed_constants c) (λ v m. m)

  pub range-refused : (o : Option ℕ) (at : ℕ) → o ≡ first_in body_leaves (used_from used 0 (written_bodies t)) → o ≡ Some at → ConstantRangeDue t at
  range-refused o at e h =
      let w = first-told body_leaves (used_from used 0 (written_bodies t)) at (sym e ∙ h) in
      let c = own-component t s used are w.0 w.1 in
      member-any (λ d. Broken d at) c.component (components_of t) c.listed (own-broken c.component at (sym (body-is w.0 c.component c.listed c.own c.body) ∙ w.2))

  pub none-broken : (o : Option ℕ) → o ≡ first_in body_leaves (used_from used 0 (written_bodies t)) → o ≡ None → (at : ℕ) → ConstantRangeDue t at → ⊥
  none-broken o e h at due =
      let w = any-member (λ c. Broken c at) (components_of t) due in
      elim w.2 [
        | inl f ↦ in-bounds w.0 w.1 (inl f)
        | inr r ↦ elim r [
          | inl l ↦
              let x = any-member (λ (v : TypeTree × Tree). (tree_at v.1 ≡ at) × (in_range (range_of w.0 v.0) (constant w.0 v.1) ≡ false)) (typed_constants w.0) l in
              let b = component-own t s used are w.0 w.1 in
              let none : own_fault w.0 (typed_constants w.0) ≡ None = sym (body-is b.0 w.0 w.1 b.2 b.4) ∙ first-none body_leaves (used_from used 0 (written_bodies t)) b.0 (sym e ∙ h) b.1 in
              false-true x.2.1 (own-none w.0 (typed_constants w.0) none x.0 x.1)
          | inr q ↦ in-bounds w.0 w.1 (inr q)
        ]
      ]
    where
      in-bounds : (c : Component) → Member c (components_of t) → BrokenBounds c at → ⊥
      in-bounds c m b = bounded at (member-any (λ d. BrokenBounds d at) c (components_of t) m b)
