-- A name that has a kind becomes an expression of that kind: a constant, a variable, an input, an algebraic variable, a literal, a
-- location or the argument of a parameter.
use Rattle.std.proofs.Common.{◌≡◌, ℕ, zero, suc, ◌+◌, ◌<◌, pos, Bool, true, false, cond, inl, inr, List, [], ◌∷◌, ◌++◌, length, map, Option, Some, None, refl, sym, ◌∙◌, ap, subst, arith}
use Rattle.std.specs.Prelude.{◌&&◌, ◌||◌, not, nat_lt, slice_get, int_le, int_lt, flat_map, filter_map, zip}
use Rattle.std.specs.List.{list_any, position_or_len, cons_option}
use Rattle.std.proofs.lemmas.Bool.Decides.{nat_tests}
use Rattle.std.proofs.lemmas.Cmp.{nat_list_eq_equiv}
use Rattle.cif_base.specs.declared.types.Ty.{Ty}
use Rattle.cif_ast.specs.Tree.{Tree}
use Rattle.cif_ast.specs.Throughout.{HoldsInTree}
use Rattle.cif_ast.specs.SmallNumbers.{small_parts}
use Rattle.cif_ast.specs.declared.names.Ident.{Ident}
use Rattle.cif_ast.specs.declared.names.Name.{Name}
use Rattle.cif_system.specs.System.{in_range}
use Rattle.cif_system.specs.Words.{Member}
use Rattle.cif_system.proofs.Lists.{false-true, filter-member, filter-within, map-length}
use Rattle.cif_system.proofs.Picks.{at-member, append-left, append-right, map-member, flat_map-member, zip-at}
use Rattle.cif_net_model.proofs.Passing.{all-member}
use Rattle.cif_net_expr.specs.Tree.{NetExpr, net_expr, n_number}
use Rattle.cif_net_model.specs.Net.{Net}
use Rattle.cif_net_model.specs.Kinds as net
use Rattle.cif_net_model.specs.Kinds.{in_32_bits, places_of, stored_fits, fits, form_fits}
use Rattle.cif_source.specs.Source.{Text, DeclTree, InstanceTree, ParamTree, event_param, alg_param, location_param, instance_item, TypeTree, type_decl, enum_decl, event_decl, const_decl, alg_decl, input_decl, disc_decl, equation_decl, invariant_decl, marked_decl, SourceBody, group_body, automaton_body, Source}
use Rattle.cif_source.specs.Components.{Component, blank, copy, specification_of, body_of, path_of, same_path, Entry, declared, literal, location, inner, definition, instance, parameter}
use Rattle.cif_source.specs.Lookup.{ScopeEntry, reached, missing, blocked, definition_found, found, by_argument}
use Rattle.cif_source.specs.Objects.{components_of, items_in, decls_of, locs_of, locs_in, Declared, declarations, of_sort, declares, is_variable, is_input, is_alg, number_in, automata, is_automaton, automaton_number}
use Rattle.cif_source.specs.Value.{constant}
use Rattle.cif_source.proofs.NameLaws.{is_parameter, met, met_at, met_at-own, follow-met}
use Rattle.cif_source.specs.Scoping.{as_instance, instances_of}
use Rattle.cif_source.specs.Uses.{location_asked, is_asked}
use Rattle.cif_source.specs.Kinds.{Kind, bool_kind, int_kind, no_kind, same_kind, type_kind, kind_at, kind_of, Demand, operands}
use Rattle.cif_source.specs.Constants.{bound_values, decl_types}
use Rattle.cif_source.specs.Demands.{asked_for, decl_demands, argument_demands, location_demands, Argument, arguments_at, arguments_in}
use Rattle.cif_inst_model.specs.Flat.{net_of_source, net_auto, net_stored, net_alg, location_name}
use Rattle.cif_inst_model.specs.Types.{net_type}
use Rattle.cif_inst_model.specs.Translation.{net_object, net_name, net_with}
use Rattle.cif_inst_model.proofs.KeptLaws.{member-passes}
use Rattle.cif_inst_model.proofs.PathLaws.{path-told}
use Rattle.cif_inst_model.proofs.TypeLaws.{range-same}
use Rattle.cif_inst_model.proofs.ValueLaws.{constant_fits}
use Rattle.cif_inst_model.proofs.FoundLaws.{declaration-listed}
use Rattle.cif_inst_model.proofs.RuleLaws.{constants-kept}
use Rattle.cif_inst_model.proofs.DistinctLaws.{paths-differ}
use Rattle.cif_inst_bodies.specs.Entries.{IsOf}
use Rattle.cif_inst_bodies.proofs.Bodies.{components-written}
use Rattle.cif_inst_bodies.proofs.DemandLaws.{demands-met}
use Rattle.cif_inst_bodies.proofs.ArgumentLaws.{given-by, parameter-argument}
use Rattle.cif_inst_bodies.proofs.NumberLaws.{stands-at-number}
use Rattle.cif_inst_laws.specs.Kinds.{net_kind, AreMet, IsCarried, IsReceived}
use Rattle.cif_inst_laws.proofs.KindLaws.{texts-self, kind-self}
use Rattle.cif_inst_laws.proofs.ExprLaws.{is_valued, expr-fits}
use Rattle.cif_inst_laws.proofs.Places.{HoldsOfNames, HoldsOfThings, HoldsOfParameters, holds-of-names}
use Rattle.cif_inst_laws.proofs.SoundLaws.{IsSound, scopes, root}
use Rattle.cif_inst_laws.proofs.TypeLaws.{literal-fits, written, type-fits}

-- ---- lists

-- the first of a list that passes a test stands at its position
at-position : {A : Type 0} (p : A → Bool) (xs : List A) → list_any p xs ≡ true → (y : A) × (slice_get xs (position_or_len p xs) ≡ Some y) × (p y ≡ true)
at-position p [] h = absurd (false-true refl h)
at-position {A} p (x ∷ xs) h =
    (elim (p x) as (λ b. p x ≡ b → (b || list_any p xs) ≡ true → (y : A) × (slice_get (x ∷ xs) (cond (not b) (1 + position_or_len p xs) 0) ≡ Some y) × (p y ≡ true)) [
      | true ↦ λ i g. (x, refl, i)
      | false ↦ λ i g.
          let rest = at-position p xs g in
          let next : 1 + position_or_len p xs ≡ suc (position_or_len p xs) = omega arith in
          (rest.0, ap (slice_get (x ∷ xs)) next ∙ rest.1, rest.2)
    ]) refl h

pub get-map : {A B : Type 0} (f : A → B) (xs : List A) (k : ℕ) (y : A) → slice_get xs k ≡ Some y → slice_get (map f xs) k ≡ Some (f y)
get-map f [] k y h = absurd cc
get-map f (x ∷ xs) zero y h = ap (λ o. elim o [ None ↦ None | Some z ↦ Some (f z) ]) h
get-map f (x ∷ xs) (suc k) y h = get-map f xs k y h

cons-later : {B : Type 0} (o : Option B) (xs : List B) (y : B) → Member y xs → Member y (cons_option o xs)
cons-later None xs y k = k
cons-later (Some b) xs y k = inr k

-- an element for which there is something stands among those things
pub mapped-member : {A B : Type 0} (f : A → Option B) (x : A) (xs : List A) (y : B) → Member x xs → f x ≡ Some y → Member y (filter_map f xs)
mapped-member f x [] y m e = absurd m
mapped-member f x (z ∷ xs) y m e =
    elim m [
      | inl w ↦ subst (λ o. Member y (cons_option o (filter_map f xs))) (sym (ap f (sym w) ∙ e)) (inl refl)
      | inr w ↦ cons-later (f z) (filter_map f xs) y (mapped-member f x xs y w e)
    ]

-- where no `?` has a kind
pub nothing-received : (n : Net) (r : Option Ty) → IsCarried n r → IsReceived n no_kind r
nothing-received n r carried = record { takes = λ some. absurd (some refl); carried = carried }

-- ---- what a name becomes

abbrev things : ScopeEntry → ℕ → NetExpr
things x at = net_expr (net_object x) at

abbrev nothing : ℕ → NetExpr
nothing at = net_expr (n_number (pos 0)) at

abbrev arguments : (Name → ℕ → NetExpr) → Component → Tree → ℕ → NetExpr
arguments name g a at = net_with name a

-- what a place becomes
abbrev became : Component → Entry → ℕ → NetExpr
became c e = met_at things nothing arguments c e

name-followed : (c : Component) (nm : Name) (at : ℕ) → net_name c nm at ≡ met things nothing arguments (found c nm) at
name-followed c nm at = ap (λ (f : ℕ → NetExpr). f at) (follow-met things nothing arguments c nm)

-- a body with a location is that of an automaton
with-locations : (b : SourceBody) (k : ℕ) → k < length (locs_in b) → is_automaton b ≡ true
with-locations (group_body is) k h = absurd (omega (arith, h))
with-locations (automaton_body a) k h = refl

-- what is a location has the kind of booleans
location-kind : (c : Component) (e : Entry) → is_asked location_asked e ≡ true → kind_at (reached (c, e)) ≡ bool_kind
location-kind c (location k) a = refl
location-kind c (parameter k (location_param n)) a = refl
location-kind c (parameter k (alg_param ty n)) a = cc
location-kind c (parameter k (event_param x h n)) a = cc
location-kind c _ a = cc

-- ---- arguments

-- an argument that stands in a component is asked for what its parameter is
argument-met : (t : Source) (s : IsSound t) (o g : Component) (n : Ident) (ps : List ParamTree) (b : SourceBody) (i : InstanceTree) → Member (copy o n ps b g i) (components_of t)
    → (k : ℕ) (e : Tree) (ty : TypeTree) (m : Ident) → slice_get i.args k ≡ Some e → slice_get ps k ≡ Some (alg_param ty m) → AreMet g (operands g no_kind e)
argument-met t s o g n ps b i l k e ty m he hp d inside =
    let given = given-by t o g n ps b i l in
    let stands : Member i (instances_of g) = mapped-member as_instance (instance_item i) (items_in (body_of g)) i given.item refl in
    let one : Argument = record { value = e; param = alg_param ty m; definition = blank o n ps b } in
    let there : Member one (arguments_in g) =
    flat_map-member (λ j. arguments_at j (definition_found g j)) i (instances_of g) one stands
    (subst (λ r. Member one (arguments_at i r)) (sym given.opens)
    (map-member (λ (x : Tree × ParamTree). record { value = x.0; param = x.1; definition = blank o n ps b }) (e, alg_param ty m) (zip i.args ps)
    (at-member (zip i.args ps) k (e, alg_param ty m) (zip-at i.args ps k e (alg_param ty m) he hp)))) in
    demands-met t s.matched g (components-written t g given.giver) d
    (append-left d (flat_map (asked_for g int_kind) (bound_values g) ++ flat_map (decl_demands g) (decls_of g) ++ flat_map (argument_demands g) (arguments_in g)) (flat_map (location_demands g) (locs_of g))
    (append-right d (flat_map (asked_for g int_kind) (bound_values g) ++ flat_map (decl_demands g) (decls_of g)) (flat_map (argument_demands g) (arguments_in g))
    (flat_map-member (argument_demands g) one (arguments_in g) d there (inr inside))))

-- and its numbers are small
argument-small : (t : Source) (s : IsSound t) (o g : Component) (n : Ident) (ps : List ParamTree) (b : SourceBody) (i : InstanceTree) → Member (copy o n ps b g i) (components_of t)
    → (k : ℕ) (e : Tree) → slice_get i.args k ≡ Some e → HoldsInTree small_parts e
argument-small t s o g n ps b i l k e he =
    let given = given-by t o g n ps b i l in
    s.arguments g given.giver i (mapped-member as_instance (instance_item i) (items_in (body_of g)) i given.item refl) e (at-member i.args k e he)

module _ (t : Source) (s : IsSound t) where
  abbrev whole_net : Net
  whole_net = net_of_source t

  -- ---- variables, inputs and algebraic variables

  -- the number of a declaration leads to what it becomes
  number-leads : {A : Type 0} (sort : DeclTree → Bool) (f : Declared → A) (c : Component) → Member c (components_of t) → (d : DeclTree) → Member d (decls_of c) → sort d ≡ true → (x : Text) → declares x d ≡ true
      → slice_get (map f (of_sort sort t)) (number_in (of_sort sort (specification_of c)) c x) ≡ Some (f (c, d))
  number-leads sort f c m d k is x h =
      ap (λ r. slice_get (map f (of_sort sort t)) (number_in (of_sort sort r) c x)) (root t s c m)
      ∙ get-map f (of_sort sort t) (number_in (of_sort sort t) c x) (c, d) (stands-at-number t s.few s.single sort c d m k is x h)

  module _ (c : Component) (m : Member c (components_of t)) (x : TypeTree) (n : Ident) (d : DeclTree) (k : Member d (decls_of c)) (typed : Member x (decl_types d)) (named : declares n.text d ≡ true)
      (v : is_valued (type_kind c x) ≡ true) where
    kind-stays : net.same_kind (net_kind (type_kind c x)) (net.kind_of (net_type c x).type_of (net_type c x).literals) ≡ true
    kind-stays = ap (net.same_kind (net_kind (type_kind c x))) (type-fits t s whole_net c m x (written c d x k typed) v).same ∙ kind-self (net_kind (type_kind c x))

    stored-there : (sort : DeclTree → Bool) → sort d ≡ true → stored_fits (net_kind (type_kind c x)) (Some (net_stored (c, d))) ≡ true
        → stored_fits (net_kind (type_kind c x)) (slice_get (map net_stored (of_sort sort t)) (number_in (of_sort sort (specification_of c)) c n.text)) ≡ true
    stored-there sort is fits = ap (stored_fits (net_kind (type_kind c x))) (number-leads sort net_stored c m d k is n.text named) ∙ fits

  module _ (received : Option Ty) (c : Component) (m : Member c (components_of t)) (x : TypeTree) (n : Ident) (v : is_valued (type_kind c x) ≡ true) where
    pub variable-fits : (e : Option Tree) → Member (disc_decl x n e) (decls_of c) → form_fits whole_net received (net_kind (type_kind c x)) (net_object (c, declared (disc_decl x n e))) ≡ true
    variable-fits e k =
        stored-there c m x n (disc_decl x n e) k (inl refl) (nat_list_eq_equiv.refl n.text) v is_variable refl
        (kind-stays c m x n (disc_decl x n e) k (inl refl) (nat_list_eq_equiv.refl n.text) v)

    pub input-fits : Member (input_decl x n) (decls_of c) → form_fits whole_net received (net_kind (type_kind c x)) (net_object (c, declared (input_decl x n))) ≡ true
    input-fits k =
        stored-there c m x n (input_decl x n) k (inl refl) (nat_list_eq_equiv.refl n.text) v is_input refl
        (kind-stays c m x n (input_decl x n) k (inl refl) (nat_list_eq_equiv.refl n.text) v)

    pub alg-fits : (e : Option Tree) → Member (alg_decl x n e) (decls_of c) → form_fits whole_net received (net_kind (type_kind c x)) (net_object (c, declared (alg_decl x n e))) ≡ true
    alg-fits e k =
        ap (net.alg_fits (net_kind (type_kind c x))) (number-leads is_alg net_alg c m (alg_decl x n e) k refl n.text (nat_list_eq_equiv.refl n.text))
        ∙ kind-stays c m x n (alg_decl x n e) k (inl refl) (nat_list_eq_equiv.refl n.text) v

  -- ---- constants

  constant-fits : (received : Option Ty) (c : Component) → Member c (components_of t) → (x : TypeTree) (n : Ident) (e : Tree) → Member (const_decl x n e) (decls_of c) → is_valued (type_kind c x) ≡ true
      → form_fits whole_net received (net_kind (type_kind c x)) (net_object (c, declared (const_decl x n e))) ≡ true
  constant-fits received c m x n e k v =
      let f = type-fits t s whole_net c m x (written c (const_decl x n e) x k (inl refl)) v in
      let inside = all-member constant_fits (declarations t) (c, const_decl x n e) (constants-kept t s.ranges) (declaration-listed t s.few c (const_decl x n e) m k) in
      f.constants received (constant c e) (subst (λ r. in_range r (constant c e) ≡ true) (sym (range-same c x)) inside)

  -- ---- locations

  -- the number of an automaton leads to it
  pub automaton-at : (c : Component) → Member c (components_of t) → is_automaton (body_of c) ≡ true → slice_get (whole_net).autos (automaton_number (specification_of c) c) ≡ Some (net_auto c)
  automaton-at c m is =
      let listed = filter-member (λ a. is_automaton (body_of a)) (components_of t) c m is in
      let at = at-position (λ a. same_path (path_of a) (path_of c)) (automata t) (member-passes (λ a. same_path (path_of a) (path_of c)) (automata t) c listed (texts-self (path_of c))) in
      let there = filter-within (λ a. is_automaton (body_of a)) (components_of t) at.0 (at-member (automata t) (automaton_number t c) at.0 at.1) in
      let one : at.0 ≡ c = paths-differ t (scopes t s) at.0 c there m (path-told (path_of at.0) (path_of c) at.2) in
      ap (λ r. slice_get (whole_net).autos (automaton_number r c)) (root t s c m)
      ∙ get-map net_auto (automata t) (automaton_number t c) at.0 at.1
      ∙ ap (λ d. Some (net_auto d)) one

  module _ (received : Option Ty) (c : Component) (m : Member c (components_of t)) (k : ℕ) (below : k < length (locs_of c)) where
    place-below : (n : ℕ) → n ≡ length (locs_of c) → nat_lt k n ≡ true
    place-below n is = grind (arith, nat_tests)

    pub location-fits : form_fits whole_net received net.bool_kind (net_object (c, location k)) ≡ true
    location-fits = ap (λ o. nat_lt k (places_of o)) (automaton-at c m (with-locations (body_of c) k below)) ∙ place-below (length (map location_name (locs_of c))) (map-length location_name (locs_of c))

  -- ---- all

  module _ (received : Option Ty) (carried : IsCarried whole_net received) where
    abbrev Keeps : Component → Entry → Type 0
    Keeps c e = is_valued (kind_at (reached (c, e))) ≡ true → (at : ℕ) → fits whole_net received (net_kind (kind_at (reached (c, e)))) (became c e at) ≡ true

    thing-fits : (c : Component) (e : Entry) → Member c (components_of t) → IsOf c e → is_parameter e ≡ false → is_valued (kind_at (reached (c, e))) ≡ true → form_fits whole_net received (net_kind (kind_at (reached (c, e)))) (net_object (c, e)) ≡ true
    thing-fits c (declared (const_decl x n e)) l m p v = constant-fits received c l x n e m v
    thing-fits c (declared (disc_decl x n e)) l m p v = variable-fits received c l x n v e m
    thing-fits c (declared (alg_decl x n e)) l m p v = alg-fits received c l x n v e m
    thing-fits c (declared (input_decl x n)) l m p v = input-fits received c l x n v m
    thing-fits c (declared (type_decl n x)) l m p v = absurd (false-true refl v)
    thing-fits c (declared (enum_decl n ls)) l m p v = absurd (false-true refl v)
    thing-fits c (declared (event_decl k h n)) l m p v = absurd (false-true refl v)
    thing-fits c (declared (equation_decl q)) l m p v = absurd (false-true refl v)
    thing-fits c (declared (invariant_decl i)) l m p v = absurd (false-true refl v)
    thing-fits c (declared (marked_decl q)) l m p v = absurd (false-true refl v)
    thing-fits c (literal k ls) l m p v =
        subst (λ j. (in_32_bits (pos k) && int_le (pos 0) (pos k) && int_lt (pos k) (pos j)) ≡ true) (sym (map-length (λ (i : Ident). i.text) ls))
        (literal-fits (length ls) k (s.literals c l m.0 ls m.1).1 m.2)
    thing-fits c (location k) l m p v = location-fits received c l k m
    thing-fits c (inner n b) l m p v = absurd (false-true refl v)
    thing-fits c (definition n ps b) l m p v = absurd (false-true refl v)
    thing-fits c (instance i) l m p v = absurd (false-true refl v)
    thing-fits c (parameter k q) l m p v = absurd (false-true p refl)

    things-keep : HoldsOfThings t s.few Keeps
    things-keep c e l m p v at =
        ap (λ (f : ℕ → NetExpr). fits whole_net received (net_kind (kind_at (reached (c, e)))) (f at)) (met_at-own things nothing arguments c e p) ∙ thing-fits c e l m p v

    -- names keep their kinds, where what they find does
    names-keep : (c : Component) → HoldsOfNames t s.few Keeps c → (nm : Name) (at : ℕ) → is_valued (kind_at (found c nm)) ≡ true → fits whole_net received (net_kind (kind_at (found c nm))) (net_name c nm at) ≡ true
    names-keep c all nm at v =
        (elim (found c nm) as (λ r. found c nm ≡ r → is_valued (kind_at r) ≡ true → fits whole_net received (net_kind (kind_at r)) (net_name c nm at) ≡ true) [
          | missing ↦ λ h w. absurd (false-true refl w)
          | blocked ↦ λ h w. absurd (false-true refl w)
          | reached x ↦ λ h w.
              ap (fits whole_net received (net_kind (kind_at (reached x)))) (name-followed c nm at ∙ ap (λ r. met things nothing arguments r at) h) ∙ all nm x h w at
        ]) refl v

    parameters-keep : HoldsOfParameters t s.few Keeps
    parameters-keep o g n ps b i l giver all k (event_param x h m) hp v at = absurd (false-true refl v)
    parameters-keep o g n ps b i l giver all k (alg_param ty m) hp v at =
        let e = parameter-argument t s.known s.sorts s.matched o g n ps b i l k (alg_param ty m) hp in
        let kind : Kind = type_kind (copy o n ps b g i) ty in
        let met : AreMet g (asked_for g kind e.0) = λ d inside. elim inside [
          | inl w ↦ subst (λ (x : Demand). same_kind (kind_of g x.received_kind x.value) x.kind ≡ true) (sym w) e.3
          | inr w ↦ argument-met t s o g n ps b i l k e.0 ty m e.1 hp d w
        ] in
        ap (λ a. fits whole_net received (net_kind kind) (by_argument nothing (arguments (net_name g) g) (net_name g) (alg_param ty m) a at)) e.1
        ∙ expr-fits whole_net g no_kind received (nothing-received whole_net received carried) (net_name g) (names-keep g all) kind e.0 met (argument-small t s o g n ps b i l k e.0 e.1)
    parameters-keep o g n ps b i l giver all k (location_param m) hp v at =
        let e = parameter-argument t s.known s.sorts s.matched o g n ps b i l k (location_param m) hp in
        let is = e.3 in
        let kind : kind_at (found g is.name) ≡ bool_kind = ap kind_at is.is_found ∙ location-kind is.place.0 is.place.1 is.is_sort in
        ap (λ a. fits whole_net received net.bool_kind (by_argument nothing (arguments (net_name g) g) (net_name g) (location_param m) a at)) (e.1 ∙ ap Some is.is_bare)
        ∙ ap (λ j. fits whole_net received (net_kind j) (net_name g is.name at)) (sym kind)
        ∙ names-keep g all is.name at (ap is_valued kind)

    -- a name that has a kind becomes an expression of that kind
    pub name-fits : (c : Component) → Member c (components_of t) → (nm : Name) (at : ℕ) → is_valued (kind_at (found c nm)) ≡ true → fits whole_net received (net_kind (kind_at (found c nm))) (net_name c nm at) ≡ true
    name-fits c m = names-keep c (holds-of-names t s.few Keeps things-keep parameters-keep c m)
