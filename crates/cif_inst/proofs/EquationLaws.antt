-- What is kept for a name is the first of its definitions.
use Rattle.std.proofs.Common.{◌≡◌, Bool, true, false, cond, List, [], ◌∷◌, map, refl, sym, ap, ◌∙◌, Option, Some, None}
use Rattle.std.specs.Prelude.{nat_eq, option_map, filter_map, flat_map}
use Rattle.std.specs.List.{cons_option}
use Rattle.std.specs.Map.{lookup}
use Rattle.std.specs.Cmp.Lexicographic.{pointwise, same_text}
use Rattle.grammar.proofs.Texts.{same_is, same_flip}
use Rattle.indexmap.specs.IndexMap.{insert_entry}
use Rattle.cif_ast.specs.Tree.{Tree}
use Rattle.cif_source.specs.Source.{Text, EquationTree, LocationTree, DeclTree, type_decl, enum_decl, event_decl, const_decl, alg_decl, input_decl, disc_decl, equation_decl, invariant_decl, marked_decl, decl_item, component_item, definition_item, instance_item, SourceBody, group_body, automaton_body, Source, no_source, source, list_of_items}
use Rattle.cif_source.specs.Objects.{item_decls, decls_in}
use Rattle.cif_source.specs.Value.{equation_for, decl_equation_for, location_definitions}
use Rattle.cif_inst.specs.Equations.{Values, or_else, value_for, with_value, with_first, decl_added, decls_added, items_added, body_added, equations_added, location_added}

-- ---- through the map

module _ {K V : Type 0} (text : K → Text) (tree : V → Tree) where
  abbrev named : List (K × V) → Values
  named es = map (λ e. (text e.0, tree e.1)) es

  abbrev given : Option V → Option Tree
  given o = option_map tree o

  pub found-is : (x : Text) (es : List (K × V)) → given (lookup (λ k. pointwise nat_eq x (text k)) es) ≡ value_for x (named es)
  found-is x [] = refl
  found-is x (e ∷ es) = go (pointwise nat_eq x (text e.0)) (found-is x es)
    where
      go : (b : Bool) → given (lookup (λ k. pointwise nat_eq x (text k)) es) ≡ value_for x (named es)
          → given (cond b (Some e.1) (lookup (λ k. pointwise nat_eq x (text k)) es)) ≡ cond b (Some (tree e.1)) (value_for x (named es))
      go true h = refl
      go false h = h

  pub put-is : (k : K) (v : V) (es : List (K × V)) → named (insert_entry (λ i j. pointwise nat_eq (text i) (text j)) es k v) ≡ with_value (named es) (text k) (tree v)
  put-is k v [] = refl
  put-is k v (e ∷ es) = go (pointwise nat_eq (text k) (text e.0)) (put-is k v es)
    where
      go : (b : Bool) → named (insert_entry (λ i j. pointwise nat_eq (text i) (text j)) es k v) ≡ with_value (named es) (text k) (tree v)
          → named (cond b ((e.0, v) ∷ es) (e ∷ insert_entry (λ i j. pointwise nat_eq (text i) (text j)) es k v)) ≡ cond b ((text e.0, tree v) ∷ named es) ((text e.0, tree e.1) ∷ with_value (named es) (text k) (tree v))
      go true h = refl
      go false h = ap (λ r. (text e.0, tree e.1) ∷ r) h

-- ---- the first of some

abbrev pub first_of : List Tree → Option Tree
first_of [] = None
first_of (e ∷ es) = Some e

or-none : (o : Option Tree) → or_else o None ≡ o
or-none None = refl
or-none (Some e) = refl

or-joined : (a b c : Option Tree) → or_else (or_else a b) c ≡ or_else a (or_else b c)
or-joined None b c = refl
or-joined (Some e) b c = refl

first-cons : (o : Option Tree) (es : List Tree) → first_of (cons_option o es) ≡ or_else o (first_of es)
first-cons None es = refl
first-cons (Some e) es = refl

-- ---- one value more

abbrev same : Text → Text → Bool
same x y = pointwise nat_eq x y

flip : (x y : Text) → same x y ≡ same y x
flip x y = same_is x y ∙ same_flip x y ∙ sym (same_is y x)

equal : (x y : Text) → same x y ≡ true → x ≡ y
equal x y h = same_text x y (sym h)

module _ (x y : Text) (v : Tree) where
  abbrev if_same : Option Tree
  if_same = cond (same x y) (Some v) None

  twice : (w : Tree) (o : Option Tree) (b : Bool) → cond b (Some v) o ≡ cond b (Some v) (cond b (Some w) o)
  twice w o true = refl
  twice w o false = refl

  step : (e : Text × Tree) (es : Values) (a : Bool) → same x e.0 ≡ a → (b : Bool) → same y e.0 ≡ b → value_for y (with_value es x v) ≡ cond (same x y) (Some v) (value_for y es)
      → value_for y (cond a ((e.0, v) ∷ es) (e ∷ with_value es x v)) ≡ cond (same x y) (Some v) (value_for y (e ∷ es))
  step e es true p b r h =
      let q : same y e.0 ≡ same x y = ap (same y) (sym (equal x e.0 p)) ∙ flip y x in
      ap (λ c. cond c (Some v) (value_for y es)) q
      ∙ twice e.1 (value_for y es) (same x y)
      ∙ ap (λ c. cond (same x y) (Some v) (cond c (Some e.1) (value_for y es))) (sym q)
  step e es false p true r h =
      let q : same x y ≡ false = ap (same x) (equal y e.0 r) ∙ p in
      ap (λ c. cond c (Some e.1) (value_for y (with_value es x v))) r
      ∙ sym (ap (λ c. cond c (Some v) (value_for y (e ∷ es))) q ∙ ap (λ c. cond c (Some e.1) (value_for y es)) r)
  step e es false p false r h =
      ap (λ c. cond c (Some e.1) (value_for y (with_value es x v))) r ∙ h ∙ sym (ap (λ c. cond (same x y) (Some v) (cond c (Some e.1) (value_for y es))) r)

  value-with : (es : Values) → value_for y (with_value es x v) ≡ cond (same x y) (Some v) (value_for y es)
  value-with [] = ap (λ b. cond b (Some v) None) (flip y x)
  value-with (e ∷ es) = step e es (same x e.0) refl (same y e.0) refl (value-with es)

  -- behind what there is
  behind : (es : Values) (b : Bool) → same x y ≡ b → value_for x es ≡ None → cond b (Some v) (value_for y es) ≡ or_else (value_for y es) (cond b (Some v) None)
  behind es true p none = sym (ap (λ o. or_else o (Some v)) (ap (λ z. value_for z es) (sym (equal x y p)) ∙ none))
  behind es false p none = sym (or-none (value_for y es))

  before : (w : Tree) (es : Values) (b : Bool) → same x y ≡ b → value_for x es ≡ Some w → value_for y es ≡ or_else (value_for y es) (cond b (Some v) None)
  before w es true p some =
      let there : value_for y es ≡ Some w = ap (λ z. value_for z es) (sym (equal x y p)) ∙ some in
      there ∙ sym (ap (λ o. or_else o (Some v)) there)
  before w es false p some = sym (or-none (value_for y es))

  value-first : (es : Values) → value_for y (with_first es x v) ≡ or_else (value_for y es) if_same
  value-first es =
      (elim (value_for x es) as (λ o. value_for x es ≡ o → value_for y (elim o [ None ↦ with_value es x v | Some w ↦ es ]) ≡ or_else (value_for y es) if_same) [
        | None ↦ λ none. value-with es ∙ behind es (same x y) refl none
        | Some w ↦ λ some. before w es (same x y) refl some
      ]) refl

-- ---- of a location

module _ (y : Text) where
  equations-kept : (es : Values) (qs : List EquationTree) → value_for y (equations_added es qs) ≡ or_else (value_for y es) (first_of (filter_map (equation_for y) qs))
  equations-kept es [] = sym (or-none (value_for y es))
  equations-kept es (q ∷ qs) =
      equations-kept (with_first es q.name.text q.value) qs
      ∙ ap (λ o. or_else o (first_of (filter_map (equation_for y) qs))) (value-first q.name.text y q.value es)
      ∙ or-joined (value_for y es) (equation_for y q) (first_of (filter_map (equation_for y) qs))
      ∙ ap (or_else (value_for y es)) (sym (first-cons (equation_for y q) (filter_map (equation_for y) qs)))

  pub location-kept : (l : LocationTree) → value_for y (location_added l) ≡ first_of (location_definitions y l)
  location-kept l = equations-kept [] l.equations

  -- ---- of a component

  decl-kept : (es : Values) (d : DeclTree) → value_for y (decl_added es d) ≡ or_else (value_for y es) (decl_equation_for y d)
  decl-kept es (equation_decl q) = value-first q.name.text y q.value es
  decl-kept es (type_decl n ty) = sym (or-none (value_for y es))
  decl-kept es (enum_decl n ls) = sym (or-none (value_for y es))
  decl-kept es (event_decl k h n) = sym (or-none (value_for y es))
  decl-kept es (const_decl ty n e) = sym (or-none (value_for y es))
  decl-kept es (alg_decl ty n e) = sym (or-none (value_for y es))
  decl-kept es (input_decl ty n) = sym (or-none (value_for y es))
  decl-kept es (disc_decl ty n e) = sym (or-none (value_for y es))
  decl-kept es (invariant_decl i) = sym (or-none (value_for y es))
  decl-kept es (marked_decl p) = sym (or-none (value_for y es))

  decls-kept : (es : Values) (ds : List DeclTree) → value_for y (decls_added es ds) ≡ or_else (value_for y es) (first_of (filter_map (decl_equation_for y) ds))
  decls-kept es [] = sym (or-none (value_for y es))
  decls-kept es (d ∷ ds) =
      decls-kept (decl_added es d) ds
      ∙ ap (λ o. or_else o (first_of (filter_map (decl_equation_for y) ds))) (decl-kept es d)
      ∙ or-joined (value_for y es) (decl_equation_for y d) (first_of (filter_map (decl_equation_for y) ds))
      ∙ ap (or_else (value_for y es)) (sym (first-cons (decl_equation_for y d) (filter_map (decl_equation_for y) ds)))

  items-decls : (es : Values) (is : Source) → items_added es is ≡ decls_added es (flat_map item_decls (list_of_items is))
  items-decls es no_source = refl
  items-decls es (source (decl_item d) is) = items-decls (decl_added es d) is
  items-decls es (source (component_item n b) is) = items-decls es is
  items-decls es (source (definition_item n ps b) is) = items-decls es is
  items-decls es (source (instance_item i) is) = items-decls es is

  body-decls : (b : SourceBody) → body_added b ≡ decls_added [] (decls_in b)
  body-decls (group_body is) = items-decls [] is
  body-decls (automaton_body a) = refl

  pub body-kept : (b : SourceBody) → value_for y (body_added b) ≡ first_of (filter_map (decl_equation_for y) (decls_in b))
  body-kept b = ap (value_for y) (body-decls b) ∙ decls-kept [] (decls_in b)
