-- What stands in a slot of a scope: one of the parameters, or what the body declares; and locations stand in automata alone.
use Rattle.std.proofs.Common.{◌≡◌, ℕ, zero, suc, ◌+◌, Bool, true, false, not, List, [], ◌∷◌, ◌++◌, length, map, Option, Some, None, refl, sym, ◌∙◌, ap, subst, arith}
use Rattle.std.specs.Prelude.{slice_get, flat_map, ◌&&◌}
use Rattle.std.specs.List.{enumerate_from, list_all}
use Rattle.std.proofs.lemmas.List.Folds.{list_all-append}
use Rattle.cif_ast.specs.Tree.{Tree}
use Rattle.cif_ast.specs.declared.names.Ident.{Ident}
use Rattle.cif_system.proofs.Lists.{some-same, none-some, false-true}
use Rattle.cif_system.proofs.Picks.{and-left, and-right}
use Rattle.cif_source.specs.Source.{DeclTree, type_decl, enum_decl, event_decl, const_decl, alg_decl, input_decl, disc_decl, equation_decl, invariant_decl, marked_decl, ParamTree, InstanceTree, SourceItem, decl_item, component_item, definition_item, instance_item, SourceBody, group_body, automaton_body, Source, list_of_items}
use Rattle.cif_source.specs.Components.{Component, whole, part, blank, copy, body_of, params_of, param_name, param_entries, decl_entries, item_entries, body_entries, scope_of, Entry, Entries, declared, literal, location, inner, definition, instance, parameter}
use Rattle.cif_source.specs.Objects.{is_automaton}
use Rattle.cif_source.proofs.NameLaws.{is_parameter, is_own, own-body}
use Rattle.cif_scope.specs.Scopes.{IsEntry}
use Rattle.cif_inst_parameters.specs.declared.given.Given.{Given}
use Rattle.cif_inst_parameters.specs.Given.{IsGiven, AreGiven}

all-at : {A : Type 0} (p : A → Bool) (xs : List A) (k : ℕ) (x : A) → list_all p xs ≡ true → slice_get xs k ≡ Some x → p x ≡ true
all-at p [] k x h g = absurd (none-some x g)
all-at p (y ∷ xs) zero x h g = ap p (sym (some-same y x g)) ∙ and-left (p y) (list_all p xs) h
all-at p (y ∷ xs) (suc k) x h g = all-at p xs k x (and-right (p y) (list_all p xs) h) g

abbrev entry_passes : (Entry → Bool) → Ident × Entry → Bool
entry_passes q x = q x.1

all-append : {A : Type 0} (p : A → Bool) (xs ys : List A) → list_all p xs ≡ true → list_all p ys ≡ true → list_all p (xs ++ ys) ≡ true
all-append p xs ys h g = list_all-append p xs ys ∙ ap (λ b. b && list_all p ys) h ∙ g

all-map : {A B : Type 0} (p : B → Bool) (f : A → B) (xs : List A) → ((x : A) → p (f x) ≡ true) → list_all p (map f xs) ≡ true
all-map p f [] h = refl
all-map p f (x ∷ xs) h = ap (λ b. b && list_all p (map f xs)) (h x) ∙ all-map p f xs h

all-flat : {A B : Type 0} (p : B → Bool) (f : A → List B) (xs : List A) → ((x : A) → list_all p (f x) ≡ true) → list_all p (flat_map f xs) ≡ true
all-flat p f [] h = refl
all-flat p f (x ∷ xs) h = all-append p (f x) (flat_map f xs) (h x) (all-flat p f xs h)

-- ---- locations

abbrev is_no_location : Entry → Bool
is_no_location (location k) = false
is_no_location _ = true

decl-free : (d : DeclTree) → list_all (entry_passes is_no_location) (decl_entries d) ≡ true
decl-free (type_decl n ty) = refl
decl-free (enum_decl n ls) = all-map (entry_passes is_no_location) (λ x. (x.1, literal x.0 ls)) (enumerate_from 0 ls) (λ x. refl)
decl-free (event_decl k h n) = refl
decl-free (const_decl ty n e) = refl
decl-free (alg_decl ty n e) = refl
decl-free (input_decl ty n) = refl
decl-free (disc_decl ty n e) = refl
decl-free (equation_decl q) = refl
decl-free (invariant_decl i) = refl
decl-free (marked_decl p) = refl

item-free : (i : SourceItem) → list_all (entry_passes is_no_location) (item_entries i) ≡ true
item-free (decl_item d) = decl-free d
item-free (component_item n b) = refl
item-free (definition_item n ps b) = refl
item-free (instance_item i) = refl

pub location-automaton : (c : Component) (k s : ℕ) → IsEntry c (location k) s → is_automaton (body_of c) ≡ true
location-automaton c k s h = go (body_of c) h.1
  where
    go : (b : SourceBody) → slice_get (param_entries (params_of c) ++ body_entries b) s ≡ Some (h.0, location k) → is_automaton b ≡ true
    go (automaton_body a) at = refl
    go (group_body is) at =
        absurd (false-true refl
        (all-at (entry_passes is_no_location) (param_entries (params_of c) ++ body_entries (group_body is)) s (h.0, location k)
        (all-append (entry_passes is_no_location) (param_entries (params_of c)) (body_entries (group_body is)) (all-map (entry_passes is_no_location) (λ (x : ℕ × ParamTree). (param_name x.1, parameter x.0 x.1)) (enumerate_from 0 (params_of c)) (λ x. refl)) (all-flat (entry_passes is_no_location) item_entries (list_of_items is) item-free))
        at))

-- ---- parameters

-- names of parameters with the places at which they stand
abbrev places_from : ℕ → List ParamTree → Entries
places_from from ps = map (λ x. (param_name x.1, parameter x.0 x.1)) (enumerate_from from ps)

-- past what is given stands what the body declares
past-given : (from : ℕ) (ps : List ParamTree) (given : List Given) (es : Entries) (s : ℕ) (n : Ident) (e : Entry) → length given ≡ length ps → list_all (entry_passes is_own) es ≡ true
    → slice_get (places_from from ps ++ es) s ≡ Some (n, e) → slice_get given s ≡ None → is_parameter e ≡ false
past-given from [] given es s n e long own h none = not-true (is_parameter e) (all-at (entry_passes is_own) es s (n, e) own h)
  where
    not-true : (b : Bool) → not b ≡ true → b ≡ false
    not-true true g = absurd (false-true refl g)
    not-true false g = refl
past-given from (p ∷ ps) [] es s n e long own h none = absurd (omega (arith, long))
past-given from (p ∷ ps) (g ∷ gs) es zero n e long own h none = absurd (none-some g (sym none))
past-given from (p ∷ ps) (g ∷ gs) es (suc s) n e long own h none = past-given (from + 1) ps gs es s n e (omega (arith, long)) own h none

-- what is given is given for the parameter in that slot
under-given : (from : ℕ) (ps : List ParamTree) (given : List Given) (es : Entries) (s : ℕ) (n : Ident) (e : Entry) (x : Given) → length given ≡ length ps
    → slice_get (places_from from ps ++ es) s ≡ Some (n, e) → slice_get given s ≡ Some x → (p : ParamTree) × (e ≡ parameter (from + s) p) × (slice_get ps s ≡ Some p)
under-given from [] [] es s n e x long h some = absurd (none-some x some)
under-given from [] (g ∷ gs) es s n e x long h some = absurd (omega (arith, long))
under-given from (p ∷ ps) [] es s n e x long h some = absurd (none-some x some)
under-given from (p ∷ ps) (g ∷ gs) es zero n e x long h some =
    let same : from ≡ from + 0 = omega arith in
    (p, sym (ap (λ (y : Ident × Entry). y.1) (some-same (param_name p, parameter from p) (n, e) h)) ∙ ap (λ k. parameter k p) same, refl)
under-given from (p ∷ ps) (g ∷ gs) es (suc s) n e x long h some =
    let rest = under-given (from + 1) ps gs es s n e x (omega (arith, long)) h some in
    let same : from + 1 + s ≡ from + suc s = omega arith in
    (rest.0, rest.1 ∙ ap (λ k. parameter k rest.0) same, rest.2)

-- a definition as written is no component
abbrev pub NotBlank : Component → Type 0
NotBlank (blank o n ps b) = ⊥
NotBlank (whole is) = Unit {0}
NotBlank (part o n b) = Unit {0}
NotBlank (copy o n ps b g i) = Unit {0}

given-long : (t : Source) (c : Component) (given : List Given) → NotBlank c → AreGiven t c given → length given ≡ length (params_of c)
given-long t (whole is) given b h = ap length h
given-long t (part o n x) given b h = ap length h
given-long t (blank o n ps x) given b h = absurd b
given-long t (copy o n ps x g i) given b h = h.0

pub own-entry : (t : Source) (c : Component) (e : Entry) (s : ℕ) (given : List Given) → NotBlank c → AreGiven t c given → IsEntry c e s → slice_get given s ≡ None → is_parameter e ≡ false
own-entry t c e s given is are h none = past-given 0 (params_of c) given (body_entries (body_of c)) s h.0 e (given-long t c given is are) (own-body (body_of c)) h.1 none

-- a parameter of an instance with its argument, which stands in the giver
pub record IsArgument (t : Source) (c : Component) (e : Entry) (x : Given) : Type 0 where
  pub outer : Component
  pub giver : Component
  pub name : Ident
  pub params : List ParamTree
  pub body : SourceBody
  pub instance : InstanceTree
  pub place : ℕ
  pub param : ParamTree
  pub value : Tree
  pub is_copy : c ≡ copy outer name params body giver instance
  pub is_entry : e ≡ parameter place param
  pub is_value : slice_get instance.args place ≡ Some value
  pub is_given : IsGiven t param giver value x

pub given-entry : (t : Source) (c : Component) (e : Entry) (s : ℕ) (given : List Given) (x : Given) → AreGiven t c given → IsEntry c e s → slice_get given s ≡ Some x → IsArgument t c e x
given-entry t (whole is) e s given x are h some = absurd (none-some x (ap (λ gs. slice_get gs s) (sym are) ∙ some))
given-entry t (part o n b) e s given x are h some = absurd (none-some x (ap (λ gs. slice_get gs s) (sym are) ∙ some))
given-entry t (blank o n ps b) e s given x are h some = absurd (none-some x (ap (λ gs. slice_get gs s) (sym are) ∙ some))
given-entry t (copy o n ps b g i) e s given x are h some =
    let here = under-given 0 ps given (body_entries b) s h.0 e x are.0 h.1 some in
    let one = are.1 s here.0 here.2 in
    let slot : 0 + s ≡ s = omega arith in record {
      outer = o;
      giver = g;
      name = n;
      params = ps;
      body = b;
      instance = i;
      place = s;
      param = here.0;
      value = one.0;
      is_copy = refl;
      is_entry = here.1 ∙ ap (λ k. parameter k here.0) slot;
      is_value = one.2;
      is_given = subst (IsGiven t here.0 g one.0) (some-same one.1 x (sym one.3 ∙ some)) one.4;
    }
