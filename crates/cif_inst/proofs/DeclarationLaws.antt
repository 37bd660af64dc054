-- The declarations that are found are those of a sort of the source, by their components.
use Rattle.std.proofs.Common.{◌≡◌, ℕ, ◌+◌, ◌<◌, Bool, true, false, cond, inl, inr, List, [], ◌∷◌, ◌++◌, length, map, Option, Some, refl, sym, ◌∙◌, ap, subst}
use Rattle.std.specs.Prelude.{flat_map, filter}
use Rattle.std.specs.Option.{option_to_list}
use Rattle.std.proofs.lemmas.List.{map-append}
use Rattle.cif_ast.specs.Tree.{Tree}
use Rattle.cif_system.specs.Words.{Member}
use Rattle.cif_system.proofs.Lists.{false-true, none-some, slice_get-below}
use Rattle.cif_system.proofs.Picks.{append-right, at-member, flat_map-member}
use Rattle.cif_system.proofs.Distinct.{member-append}
use Rattle.cif_source.specs.Source.{Text, TypeTree, DeclTree, type_decl, enum_decl, event_decl, const_decl, alg_decl, input_decl, disc_decl, equation_decl, invariant_decl, marked_decl, decl_item, component_item, definition_item, instance_item, SourceBody, group_body, automaton_body, Source, no_source, source, list_of_items}
use Rattle.cif_source.specs.Components.{Component, body_of, params_of}
use Rattle.cif_source.specs.Objects.{components_of, item_decls, decls_in, decls_of, Declared, of_sort}
use Rattle.cif_source.specs.Constants.{param_types, decl_types, types_of, decl_constants, typed_constants}
use Rattle.cif_inst_model.proofs.NumberLaws.{append-kept}
use Rattle.cif_inst_types.specs.Types.{typed_value}
use Rattle.cif_inst_names.specs.Looking.{or_whole, component_of}
use Rattle.cif_inst.specs.Declarations.{DatumTree, decl_data, decls_data, items_data, body_data, rows_data}
use Rattle.cif_inst_paths.specs.Rows.{prefix_of, row_for, rows_of}
use Rattle.cif_inst.specs.declared.declarations.Sort.{Sort}
use Rattle.cif_inst.specs.declared.declarations.Sort.TheVariants as sort
use Rattle.cif_inst_paths.proofs.SoundLaws.{From, from-here, from-next, all-components}

-- ---- of a body

pub items-decls : (s : Sort) (k : ℕ) (p : Text) (is : Source) → items_data s k p is ≡ decls_data s k p (flat_map item_decls (list_of_items is))
items-decls s k p no_source = refl
items-decls s k p (source (decl_item d) is) = ap (λ xs. decl_data s k p d ++ xs) (items-decls s k p is)
items-decls s k p (source (component_item n b) is) = items-decls s k p is
items-decls s k p (source (definition_item n ps b) is) = items-decls s k p is
items-decls s k p (source (instance_item j) is) = items-decls s k p is

pub body-decls : (s : Sort) (k : ℕ) (p : Text) (b : SourceBody) → body_data s k p b ≡ decls_data s k p (decls_in b)
body-decls s k p (group_body is) = items-decls s k p is
body-decls s k p (automaton_body a) = refl

-- ---- what becomes of them

abbrev with_decls : Component → List DeclTree → List Declared
with_decls c ds = map (λ d. (c, d)) ds

-- what becomes of those of the components from component k on, by their components
abbrev pub made : {A : Type 0} → Sort → (ℕ → Component → DatumTree → A) → ℕ → List Component → List A
made s g k [] = []
made s g k (c ∷ cs) = map (g k c) (body_data s k (prefix_of c) (body_of c)) ++ made s g (k + 1) cs

-- where the component is not needed
pub made-all : {A : Type 0} (s : Sort) (g : DatumTree → A) (cs : List Component) (k : ℕ) → map g (rows_data s k (map row_for cs)) ≡ made s (λ k c. g) k cs
made-all s g [] k = refl
made-all s g (c ∷ cs) k =
    map-append g (body_data s k (prefix_of c) (body_of c)) (rows_data s (k + 1) (map row_for cs))
    ∙ ap (λ xs. map g (body_data s k (prefix_of c) (body_of c)) ++ xs) (made-all s g cs (k + 1))

-- where each one becomes what its declaration becomes, which passes the test, so do all of the source
module _ {A : Type 0} (t : Source) (s : Sort) (p : DeclTree → Bool) (f : Declared → A) (g : ℕ → Component → DatumTree → A)
    (one : (k : ℕ) (c : Component) → component_of t k ≡ c → Member c (components_of t) → (d : DeclTree) → Member d (decls_of c) → map (g k c) (decl_data s k (prefix_of c) d) ≡ map f (with_decls c (filter p (d ∷ [])))) where
  abbrev own : Component → List Declared
  own c = with_decls c (filter p (decls_of c))

  abbrev of_test : Declared → Bool
  of_test d = p d.1

  decls-data : (k : ℕ) (c : Component) → component_of t k ≡ c → Member c (components_of t) → (ds : List DeclTree) → ((d : DeclTree) → Member d ds → Member d (decls_of c))
      → map (g k c) (decls_data s k (prefix_of c) ds) ≡ map f (with_decls c (filter p ds))
  decls-data k c is m [] within = refl
  decls-data k c is m (d ∷ ds) within =
      map-append (g k c) (decl_data s k (prefix_of c) d) (decls_data s k (prefix_of c) ds)
      ∙ ap (λ xs. xs ++ map (g k c) (decls_data s k (prefix_of c) ds)) (one k c is m d (within d (inl refl)))
      ∙ ap (λ xs. map f (with_decls c (filter p (d ∷ []))) ++ xs) (decls-data k c is m ds (λ e i. within e (inr i)))
      ∙ sym (map-append f (with_decls c (filter p (d ∷ []))) (with_decls c (filter p ds)))
      ∙ ap (map f) (sym (map-append (λ d. (c, d)) (filter p (d ∷ [])) (filter p ds)))
      ∙ ap (λ xs. map f (with_decls c xs)) (sym (append-kept p (d ∷ []) ds))

  made-from : (cs : List Component) (k : ℕ) → From t cs k → made s g k cs ≡ map f (flat_map own cs)
  made-from [] k from = refl
  made-from (c ∷ cs) k from =
      let here = from-here t c cs k from in
      let same : component_of t k ≡ c = ap (or_whole t) here in
      ap (λ xs. map (g k c) xs ++ made s g (k + 1) cs) (body-decls s k (prefix_of c) (body_of c))
      ∙ ap (λ xs. xs ++ made s g (k + 1) cs) (decls-data k c same (at-member (components_of t) k c here) (decls_of c) (λ d m. m))
      ∙ ap (λ xs. map f (own c) ++ xs) (made-from cs (k + 1) (from-next t c cs k from))
      ∙ sym (map-append f (own c) (flat_map own cs))

  kept-own : (c : Component) (ds : List DeclTree) → filter of_test (with_decls c ds) ≡ with_decls c (filter p ds)
  kept-own c [] = refl
  kept-own c (d ∷ ds) =
      (elim (p d) as (λ b. cond b ((c, d) ∷ filter of_test (with_decls c ds)) (filter of_test (with_decls c ds)) ≡ with_decls c (cond b (d ∷ filter p ds) (filter p ds))) [
        | true ↦ ap (λ xs. (c, d) ∷ xs) (kept-own c ds)
        | false ↦ kept-own c ds
      ])

  kept-all : (cs : List Component) → filter of_test (flat_map (λ c. with_decls c (decls_of c)) cs) ≡ flat_map own cs
  kept-all [] = refl
  kept-all (c ∷ cs) =
      append-kept of_test (with_decls c (decls_of c)) (flat_map (λ c. with_decls c (decls_of c)) cs)
      ∙ ap (λ xs. xs ++ filter of_test (flat_map (λ c. with_decls c (decls_of c)) cs)) (kept-own c (decls_of c))
      ∙ ap (λ xs. own c ++ xs) (kept-all cs)

  pub data-are : made s g 0 (components_of t) ≡ map f (of_sort p t)
  data-are = made-from (components_of t) 0 (all-components t) ∙ ap (map f) (sym (kept-all (components_of t)))

-- ---- where each one stands

-- it is the declaration of component k with these names in front
pub record IsOf (s : Sort) (k : ℕ) (p : Text) (ds : List DeclTree) (x : DatumTree) : Type 0 where
  pub decl : DeclTree
  pub listed : Member decl ds
  pub is : Member x (decl_data s k p decl)

decls-member : (s : Sort) (k : ℕ) (p : Text) (ds : List DeclTree) (x : DatumTree) → Member x (decls_data s k p ds) → IsOf s k p ds x
decls-member s k p [] x m = absurd m
decls-member s k p (d ∷ ds) x m =
    elim (member-append x (decl_data s k p d) (decls_data s k p ds) m) [
      | inl w ↦ record { decl = d; listed = inl refl; is = w }
      | inr w ↦ let rest = decls-member s k p ds x w in record { decl = rest.decl; listed = inr rest.listed; is = rest.is }
    ]

pub body-member : (s : Sort) (k : ℕ) (p : Text) (b : SourceBody) (x : DatumTree) → Member x (body_data s k p b) → IsOf s k p (decls_in b) x
body-member s k p b x m = decls-member s k p (decls_in b) x (subst (Member x) (body-decls s k p b) m)

-- it is one of a component of the source
pub record IsDatum (t : Source) (s : Sort) (x : DatumTree) : Type 0 where
  pub number : ℕ
  pub below : number < length (components_of t)
  pub prefix : Text
  pub found : IsOf s number prefix (decls_of (component_of t number)) x

rows-member : (t : Source) (s : Sort) (cs : List Component) (k : ℕ) → From t cs k → (x : DatumTree) → Member x (rows_data s k (map row_for cs)) → IsDatum t s x
rows-member t s [] k from x m = absurd m
rows-member t s (c ∷ cs) k from x m =
    let here = from-here t c cs k from in
    let same : component_of t k ≡ c = ap (or_whole t) here in
    elim (member-append x (body_data s k (prefix_of c) (body_of c)) (rows_data s (k + 1) (map row_for cs)) m) [
      | inl w ↦ record {
        number = k;
        below = slice_get-below (components_of t) k c here;
        prefix = prefix_of c;
        found = subst (λ d. IsOf s k (prefix_of c) (decls_of d) x) (sym same) (body-member s k (prefix_of c) (body_of c) x w);
      }
      | inr w ↦ rows-member t s cs (k + 1) (from-next t c cs k from) x w
    ]

pub data-member : (t : Source) (s : Sort) (x : DatumTree) → Member x (rows_data s 0 (rows_of t)) → IsDatum t s x
data-member t s x m = rows-member t s (components_of t) 0 (all-components t) x m

-- ---- by what it was declared

-- the declaration has the type and the value
pub record WritesDatum (k : ℕ) (d : DeclTree) (x : DatumTree) : Type 0 where
  pub component : x.component ≡ k
  pub typed : Member x.type_of (decl_types d)

same-datum : (k : ℕ) (d : DeclTree) (x y : DatumTree) → x ≡ y → WritesDatum k d y → WritesDatum k d x
same-datum k d x y h w = subst (WritesDatum k d) (sym h) w

pub written-datum : (s : Sort) (k : ℕ) (p : Text) (d : DeclTree) (x : DatumTree) → Member x (decl_data s k p d) → WritesDatum k d x
written-datum sort.Input k p (input_decl ty n) x m = elim m [ inl w ↦ same-datum k (input_decl ty n) x _ w (record { component = refl; typed = inl refl }) | inr w ↦ absurd w ]
written-datum sort.Discrete k p (disc_decl ty n e) x m = elim m [ inl w ↦ same-datum k (disc_decl ty n e) x _ w (record { component = refl; typed = inl refl }) | inr w ↦ absurd w ]
written-datum sort.Algebraic k p (alg_decl ty n e) x m = elim m [ inl w ↦ same-datum k (alg_decl ty n e) x _ w (record { component = refl; typed = inl refl }) | inr w ↦ absurd w ]
written-datum sort.Input k p (disc_decl ty n e) x m = absurd m
written-datum sort.Input k p (alg_decl ty n e) x m = absurd m
written-datum sort.Discrete k p (input_decl ty n) x m = absurd m
written-datum sort.Discrete k p (alg_decl ty n e) x m = absurd m
written-datum sort.Algebraic k p (input_decl ty n) x m = absurd m
written-datum sort.Algebraic k p (disc_decl ty n e) x m = absurd m
written-datum s k p (event_decl c h n) x m = absurd m
written-datum s k p (type_decl n ty) x m = absurd m
written-datum s k p (enum_decl n ls) x m = absurd m
written-datum s k p (const_decl ty n e) x m = absurd m
written-datum s k p (equation_decl q) x m = absurd m
written-datum s k p (invariant_decl i) x m = absurd m
written-datum s k p (marked_decl e) x m = absurd m

-- an input and a variable have no value but a constant one
abbrev pub is_stored : Sort → Bool
is_stored sort.Input = true
is_stored sort.Discrete = true
is_stored sort.Algebraic = false

given-typed : (ty : TypeTree) (e : Option Tree) (v : Tree) → e ≡ Some v → Member (typed_value ty v) (map (λ w. (ty, w)) (option_to_list e))
given-typed ty e v is = subst (λ o. Member (typed_value ty v) (map (λ w. (ty, w)) (option_to_list o))) (sym is) (inl refl)

pub constant-datum : (s : Sort) (k : ℕ) (p : Text) (d : DeclTree) (x : DatumTree) → is_stored s ≡ true → Member x (decl_data s k p d) → (v : Tree) → x.value ≡ Some v → Member (typed_value x.type_of v) (decl_constants d)
constant-datum sort.Input k p (input_decl ty n) x h m v is = elim m [ inl w ↦ absurd (none-some v (sym (ap (λ (y : DatumTree). y.value) w) ∙ is)) | inr w ↦ absurd w ]
constant-datum sort.Discrete k p (disc_decl ty n e) x h m v is =
    elim m [
      | inl w ↦ subst (λ (y : DatumTree). Member (typed_value y.type_of v) (decl_constants (disc_decl ty n e))) (sym w) (given-typed ty e v (sym (ap (λ (y : DatumTree). y.value) w) ∙ is))
      | inr w ↦ absurd w
    ]
constant-datum sort.Algebraic k p (alg_decl ty n e) x h m v is = absurd (false-true refl h)
constant-datum sort.Input k p (disc_decl ty n e) x h m v is = absurd m
constant-datum sort.Input k p (alg_decl ty n e) x h m v is = absurd m
constant-datum sort.Discrete k p (input_decl ty n) x h m v is = absurd m
constant-datum sort.Discrete k p (alg_decl ty n e) x h m v is = absurd m
constant-datum sort.Algebraic k p (input_decl ty n) x h m v is = absurd m
constant-datum sort.Algebraic k p (disc_decl ty n e) x h m v is = absurd m
constant-datum s k p (event_decl c g n) x h m v is = absurd m
constant-datum s k p (type_decl n ty) x h m v is = absurd m
constant-datum s k p (enum_decl n ls) x h m v is = absurd m
constant-datum s k p (const_decl ty n e) x h m v is = absurd m
constant-datum s k p (equation_decl q) x h m v is = absurd m
constant-datum s k p (invariant_decl i) x h m v is = absurd m
constant-datum s k p (marked_decl e) x h m v is = absurd m

-- ---- in its component

module _ (t : Source) (s : Sort) (x : DatumTree) (place : IsDatum t s x) where
  abbrev home : Component
  home = component_of t place.number

  written : WritesDatum place.number place.found.decl x
  written = written-datum s place.number place.prefix place.found.decl x place.found.is

  pub datum-below : x.component < length (components_of t)
  datum-below = subst (λ j. j < length (components_of t)) (sym written.component) place.below

  pub datum-typed : Member x.type_of (types_of (component_of t x.component))
  datum-typed =
      subst (λ j. Member x.type_of (types_of (component_of t j))) (sym written.component)
      (append-right x.type_of (flat_map param_types (params_of home)) (flat_map decl_types (decls_of home)) (flat_map-member decl_types place.found.decl (decls_of home) x.type_of place.found.listed written.typed))

  pub datum-constant : is_stored s ≡ true → (v : Tree) → x.value ≡ Some v → Member (typed_value x.type_of v) (typed_constants (component_of t x.component))
  datum-constant h v is =
      subst (λ j. Member (typed_value x.type_of v) (typed_constants (component_of t j))) (sym written.component)
      (flat_map-member decl_constants place.found.decl (decls_of home) (typed_value x.type_of v) place.found.listed (constant-datum s place.number place.prefix place.found.decl x h place.found.is v is))
