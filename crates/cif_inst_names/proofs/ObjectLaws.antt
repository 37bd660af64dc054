-- What stands at a place, by what is said of the slot there.
use Rattle.std.proofs.Common.{◌≡◌, ℕ, ℤ, pos, true, false, List, Option, Some, None, refl, sym, ◌∙◌, ap, subst}
use Rattle.std.specs.Prelude.{unwrap_or}
use Rattle.cif_base.specs.declared.types.Ty.{Ty}
use Rattle.cif_base.specs.declared.types.Ty.TheVariants as ty
use Rattle.cif_ast.specs.Tree.{Tree}
use Rattle.cif_ast.specs.declared.names.Ident.{Ident}
use Rattle.cif_source.specs.Source.{DeclTree, type_decl, enum_decl, event_decl, const_decl, alg_decl, input_decl, disc_decl, equation_decl, invariant_decl, marked_decl, TypeTree, Source}
use Rattle.cif_system.proofs.Picks.{at-member}
use Rattle.cif_source.specs.Components.{Component, specification_of, as_written, body_of, Entry, declared, literal, location, inner, definition, instance, parameter}
use Rattle.cif_source.specs.Objects.{components_of, events, inputs, variables, algs, number_in, automaton_number, is_automaton}
use Rattle.cif_source.specs.Value.{constant}
use Rattle.cif_scope.specs.declared.scope.Sort.{Sort}
use Rattle.cif_scope.specs.declared.scope.Sort.TheVariants as sort
use Rattle.cif_scope.specs.declared.scope.What.{What}
use Rattle.cif_scope.specs.declared.scope.What.TheVariants as what
use Rattle.cif_scope.specs.Tables.{IsBody, IsSort, IsWhat}
use Rattle.cif_scope.specs.Scopes.{IsEntry}
use Rattle.cif_inst_components.specs.Numbers.{IsNumber}
use Rattle.cif_inst_components.specs.declared.components.Place.{Place}
use Rattle.cif_net_expr.specs.Tree.{n_loc}
use Rattle.cif_inst_model.specs.Translation.{net_constant}
use Rattle.cif_inst_model.specs.Types.{net_type}
use Rattle.cif_inst_numbers.specs.declared.numbers.Numbered.{Numbered}
use Rattle.cif_inst_numbers.specs.Numbers.{IsNumbered}
use Rattle.cif_inst_bodies.proofs.Bodies.{components-written, written-root}
use Rattle.cif_inst_names.proofs.EntryLaws.{location-automaton}
use Rattle.cif_inst_names.specs.Objects.{is_constant, AreValuesOf, value_at, value_form, object_form, object_event, object_variable, numbered_object, StandsFor}
use Rattle.cif_inst_names.specs.declared.objects.Value.{Value}
use Rattle.cif_inst_names.specs.declared.objects.Value.TheVariants as value
use Rattle.cif_inst_names.specs.declared.objects.Object.{Object}
use Rattle.cif_inst_names.specs.declared.objects.Object.TheVariants as object

module _ (t : Source) (c : Component) (root : specification_of c ≡ t) where
  -- the value is that of the constant
  abbrev pub IsValueOf : Entry → Value → Type 0
  IsValueOf e v = (y : TypeTree) (n : Ident) (x : Tree) → e ≡ declared (const_decl y n x) → value_form v ≡ net_constant (net_type c y).type_of (constant c x)

  -- the number of the automaton in which a location stands
  abbrev pub IsAutomatonOf : Entry → ℕ → Type 0
  IsAutomatonOf e a = (k : ℕ) → e ≡ location k → a ≡ automaton_number t c

  abbrev pub HasNumber : Entry → Object → Type 0
  HasNumber e o = (r : Option Numbered) × (o ≡ numbered_object r) × IsNumbered t c e r

  abbrev pub FitsSort : Entry → Sort → Object → Type 0
  FitsSort e sort.Constant o = (v : Value) × (o ≡ object.Known v) × IsValueOf e v
  FitsSort e sort.Type o = HasNumber e o
  FitsSort e sort.Enum o = HasNumber e o
  FitsSort e (sort.Event k) o = HasNumber e o
  FitsSort e sort.Algebraic o = HasNumber e o
  FitsSort e sort.Input o = HasNumber e o
  FitsSort e sort.Discrete o = HasNumber e o

  -- the object is so for what is said of the slot
  abbrev pub Fits : Entry → What → Object → Type 0
  Fits e (what.Declared s) o = FitsSort e s o
  Fits e (what.Literal k) o = o ≡ object.Known (value.Number (pos k))
  Fits e (what.Location k) o = (a : ℕ) × (o ≡ object.Location a k) × IsAutomatonOf e a
  Fits e (what.Component k) o = o ≡ object.Nothing
  Fits e (what.Definition k n) o = o ≡ object.Nothing
  Fits e (what.Instance k) o = o ≡ object.Nothing
  Fits e (what.Parameter p) o = o ≡ object.Nothing

  same-object : (e : Entry) (o p : Object) → o ≡ p → StandsFor c e p → StandsFor c e o
  same-object e o p h s = subst (StandsFor c e) (sym h) s

  -- of what has a number
  numbered-stands : (e : Entry) (o : Object) (r s : Option Numbered) → o ≡ numbered_object r → r ≡ s → StandsFor c e (numbered_object s) → StandsFor c e o
  numbered-stands e o r s h g st = same-object e o (numbered_object s) (h ∙ ap numbered_object g) st

  sort-stands : (d : DeclTree) (s : Sort) → IsSort d s → (o : Object) → FitsSort (declared d) s o → StandsFor c (declared d) o
  sort-stands (type_decl n y) s is o h =
      let g = subst (λ x. FitsSort (declared (type_decl n y)) x o) is h in
      numbered-stands _ o g.0 None g.1 g.2 (record { form = refl; event = refl; variable = refl })
  sort-stands (enum_decl n ls) s is o h =
      let g = subst (λ x. FitsSort (declared (enum_decl n ls)) x o) is h in
      numbered-stands _ o g.0 None g.1 g.2 (record { form = refl; event = refl; variable = refl })
  sort-stands (event_decl k q n) s is o h =
      let g = subst (λ x. FitsSort (declared (event_decl k q n)) x o) is h in
      numbered-stands _ o g.0 _ g.1 g.2 (record { form = refl; event = ap (λ z. number_in (events z) c n.text) (sym root); variable = refl })
  sort-stands (alg_decl y n e) s is o h =
      let g = subst (λ x. FitsSort (declared (alg_decl y n e)) x o) is h in
      numbered-stands _ o g.0 _ g.1 g.2 (record { form = ap (λ z. object_form (object.Alg (number_in (algs z) c n.text))) (sym root); event = refl; variable = refl })
  sort-stands (input_decl y n) s is o h =
      let g = subst (λ x. FitsSort (declared (input_decl y n)) x o) is h in
      numbered-stands _ o g.0 _ g.1 g.2 (record { form = ap (λ z. object_form (object.Input (number_in (inputs z) c n.text))) (sym root); event = refl; variable = refl })
  sort-stands (disc_decl y n e) s is o h =
      let g = subst (λ x. FitsSort (declared (disc_decl y n e)) x o) is h in
      numbered-stands _ o g.0 _ g.1 g.2 (record {
        form = ap (λ z. object_form (object.Var (number_in (variables z) c n.text))) (sym root);
        event = refl;
        variable = ap (λ z. number_in (variables z) c n.text) (sym root);
      })
  sort-stands (const_decl y n e) s is o h =
      let g = subst (λ x. FitsSort (declared (const_decl y n e)) x o) is h in
      same-object _ o (object.Known g.0) g.1 (record { form = g.2 y n e refl; event = refl; variable = refl })
  sort-stands (equation_decl q) s is o h = absurd is
  sort-stands (invariant_decl i) s is o h = absurd is
  sort-stands (marked_decl p) s is o h = absurd is

  pub stands : (d : Component) (e : Entry) (w : What) → IsWhat t d e w → (o : Object) → Fits e w o → StandsFor c e o
  stands d (declared x) w is o h = sort-stands x is.0 is.2 o (subst (λ v. Fits (declared x) v o) is.1 h)
  stands d (literal k ls) w is o h =
      same-object _ o (object.Known (value.Number (pos k))) (subst (λ v. Fits (literal k ls) v o) is h) (record { form = refl; event = refl; variable = refl })
  stands d (location k) w is o h =
      let g = subst (λ v. Fits (location k) v o) is h in
      same-object _ o (object.Location g.0 k) g.1
      (record { form = ap (λ a. n_loc a k) (g.2 k refl ∙ ap (λ z. automaton_number z c) (sym root)); event = refl; variable = refl })
  stands d (inner n b) w is o h =
      same-object _ o object.Nothing (subst (λ v. Fits (inner n b) v o) is.1 h) (record { form = refl; event = refl; variable = refl })
  stands d (definition n ps b) w is o h =
      same-object _ o object.Nothing (subst (λ v. Fits (definition n ps b) v o) is.1 h) (record { form = refl; event = refl; variable = refl })
  stands d (instance i) w is o h =
      same-object _ o object.Nothing (subst (λ v. Fits (instance i) v o) is.1 h) (record { form = refl; event = refl; variable = refl })
  stands d (parameter k p) w is o h =
      same-object _ o object.Nothing (subst (λ v. Fits (parameter k p) v o) is h) (record { form = refl; event = refl; variable = refl })

-- a component belongs to the source
pub root : (t : Source) (k : ℕ) (c : Component) → IsNumber t k c → specification_of c ≡ t
root t k c h = written-root t c (components-written t c (at-member (components_of t) k c h))

-- the value in the slot of a constant is that of the constant
pub value-fits : (t : Source) (table : List (List Value)) → AreValuesOf t table → (p : Place) (c : Component) (e : Entry) (body : ℕ) → IsNumber t p.component c → IsEntry c e p.slot → IsBody t body (as_written c)
    → (own : specification_of c ≡ t) → IsValueOf t c own e (value_at table body p.slot)
value-fits t table values p c e body num entry is own y n x same =
    values body c (at-member (components_of t) p.component c num) is p.slot y n x (subst (λ z. IsEntry c z p.slot) same entry)

constant-fits : (t : Source) (c : Component) (own : specification_of c ≡ t) (e : Entry) (s : Sort) → is_constant s ≡ true → (v : Value) → IsValueOf t c own e v → FitsSort t c own e s (object.Known v)
constant-fits t c own e sort.Constant is v h = (v, refl, h)
constant-fits t c own e sort.Type is v h = cc
constant-fits t c own e sort.Enum is v h = cc
constant-fits t c own e (sort.Event k) is v h = cc
constant-fits t c own e sort.Algebraic is v h = cc
constant-fits t c own e sort.Input is v h = cc
constant-fits t c own e sort.Discrete is v h = cc

number-fits : (t : Source) (c : Component) (own : specification_of c ≡ t) (e : Entry) (s : Sort) → is_constant s ≡ false → (o : Object) → HasNumber t c own e o → FitsSort t c own e s o
number-fits t c own e sort.Constant is o h = cc
number-fits t c own e sort.Type is o h = h
number-fits t c own e sort.Enum is o h = h
number-fits t c own e (sort.Event k) is o h = h
number-fits t c own e sort.Algebraic is o h = h
number-fits t c own e sort.Input is o h = h
number-fits t c own e sort.Discrete is o h = h

-- a constant
pub constant-stands : (t : Source) (c d : Component) → specification_of c ≡ t → (e : Entry) (w : What) (s : Sort) → w ≡ what.Declared s → is_constant s ≡ true → IsWhat t d e w → (table : List (List Value)) → AreValuesOf t table
    → (p : Place) (body : ℕ) → IsNumber t p.component c → IsEntry c e p.slot → IsBody t body (as_written c) → (v : Value) → v ≡ value_at table body p.slot → StandsFor c e (object.Known v)
constant-stands t c d own e w s same is h table values p body num entry here v at =
    stands t c own d e (what.Declared s) (subst (λ x. IsWhat t d e x) same h) (object.Known v)
    (constant-fits t c own e s is v (λ y n x k. ap value_form at ∙ value-fits t table values p c e body num entry here own y n x k))

-- what has a number, or else stands for nothing
pub declared-stands : (t : Source) (c d : Component) → specification_of c ≡ t → (e : Entry) (w : What) (s : Sort) → w ≡ what.Declared s → is_constant s ≡ false → IsWhat t d e w
    → (r : Option Numbered) → IsNumbered t c e r → (o : Object) → o ≡ numbered_object r → StandsFor c e o
declared-stands t c d own e w s same is h r numbered o at =
    stands t c own d e (what.Declared s) (subst (λ x. IsWhat t d e x) same h) o (number-fits t c own e s is o (r, at, numbered))

-- the number of the automaton in which a location stands
pub automaton-fits : (t : Source) (p : Place) (c : Component) (e : Entry) (a : ℕ) → IsEntry c e p.slot → (is_automaton (body_of c) ≡ true → a ≡ automaton_number t c)
    → (own : specification_of c ≡ t) → IsAutomatonOf t c own e a
automaton-fits t p c e a entry number own k same = number (location-automaton c k p.slot (subst (λ z. IsEntry c z p.slot) same entry))
