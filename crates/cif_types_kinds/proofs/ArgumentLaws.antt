-- What is told of the arguments of instances answers what they are asked.
use Rattle.std.proofs.Common.{◌≡◌, ℕ, zero, suc, ◌+◌, ◌≤◌, Bool, true, false, inl, inr, List, [], ◌∷◌, ◌++◌, length, map, Option, Some, None, refl, sym, ap, subst, ◌∙◌, arith}
use Rattle.std.specs.Prelude.{flat_map, filter_map, zip, slice_get, option_map, not}
use Rattle.std.specs.List.{enumerate_from, list_all}
use Rattle.std.proofs.lemmas.Grind.{flat_map-append}
use Rattle.cif_system.specs.Words.{Member}
use Rattle.cif_system.proofs.Lists.{none-some, false-true}
use Rattle.cif_system.proofs.Picks.{and-left, and-right, enumerate_from-at, at-member}
use Rattle.cif_ast.specs.Tree.{Tree}
use Rattle.cif_ast.specs.declared.names.Ident.{Ident}
use Rattle.cif_source.specs.Source.{ParamTree, event_param, alg_param, location_param, InstanceTree, decl_item, component_item, definition_item, instance_item, SourceBody, Source, no_source, source, list_of_items}
use Rattle.cif_source.specs.Components.{Component, blank, scope_of, body_entries, param_entries, param_name, Entry, declared, literal, location, inner, definition, instance, parameter}
use Rattle.cif_source.specs.Lookup.{Reached, reached, missing, blocked, definition_found}
use Rattle.cif_source.specs.Objects.{bodies}
use Rattle.cif_source.specs.Scoping.{as_instance, instances_of}
use Rattle.cif_source.proofs.NameLaws.{is_parameter, is_own, own-body}
use Rattle.cif_source.specs.Kinds.{Kind, no_kind, type_kind, Demand}
use Rattle.cif_source.specs.Demands.{Argument, arguments_at, argument_demands}
use Rattle.cif_scope.specs.declared.scope.What.{What}
use Rattle.cif_scope.specs.declared.scope.What.TheVariants as what
use Rattle.cif_scope.specs.declared.scope.ScopeName.{ScopeName}
use Rattle.cif_scope.specs.declared.scopes.Scopes.{Scopes}
use Rattle.cif_scope.specs.Tables.{IsBody, Beside, IsWhat, IsName, param_sort}
use Rattle.cif_scope.specs.Looks.{what_at, names_in, definition_at, definition_in}
use Rattle.cif_scope.specs.Scopes.{AreNumbered, Defines, IsDefinitionOf}
use Rattle.cif_scope.proofs.Places.{beside-at, beside-back, Sits, sits-head, sits-tail, sits-whole}
use Rattle.cif_scope.proofs.BodyLaws.{row-of}
use Rattle.cif_scope.proofs.LookLaws.{get-map, what-is}
use Rattle.cif_types_kinds.specs.declared.table.KindTable.{KindTable}
use Rattle.cif_types_kinds.specs.Tables.{kind_for, AreKindsIn, kind_at_slot}
use Rattle.cif_types_kinds.specs.Faults.{or_later}
use Rattle.cif_types_kinds.specs.Values.{argument_told, arguments_told, instance_told, instances_told}
use Rattle.cif_types_kinds.proofs.MetLaws.{Answers, nothing, next}
use Rattle.cif_types_kinds.proofs.FaultLaws.{tree-answers}
use Rattle.cif_types_kinds.proofs.ValueLaws.{value-answers}
use Rattle.cif_types_kinds.proofs.NameLaws.{slot-kind}

-- ---- places

get-left : {A : Type 0} (xs ys : List A) (j : ℕ) (x : A) → slice_get xs j ≡ Some x → slice_get (xs ++ ys) j ≡ Some x
get-left [] ys j x h = absurd (none-some x h)
get-left (z ∷ xs) ys zero x h = h
get-left (z ∷ xs) ys (suc j) x h = get-left xs ys j x h

get-past : {A : Type 0} (xs ys : List A) (j : ℕ) (x : A) → length xs ≤ j → slice_get (xs ++ ys) j ≡ Some x → Member x ys
get-past [] ys j x l h = at-member ys j x h
get-past (z ∷ xs) ys zero x l h = absurd (omega (arith, l))
get-past (z ∷ xs) ys (suc j) x l h = get-past xs ys j x (omega (arith, l)) h

params-length : (k : ℕ) (ps : List ParamTree) → length {A = Ident × Entry} (map (λ (x : ℕ × ParamTree). (param_name x.1, parameter x.0 x.1)) (enumerate_from k ps)) ≡ length ps
params-length k [] = refl
params-length k (p ∷ ps) = ap suc (params-length (k + 1) ps)

all-member : {A : Type 0} (p : A → Bool) (xs : List A) (x : A) → list_all p xs ≡ true → Member x xs → p x ≡ true
all-member p [] x h m = absurd m
all-member p (y ∷ xs) x h m =
    elim m [
      | inl w ↦ subst (λ z. p z ≡ true) (sym w) (and-left (p y) (list_all p xs) h)
      | inr w ↦ all-member p xs x (and-right (p y) (list_all p xs) h) w
    ]

not-own : (b : Bool) → not b ≡ true → b ≡ false
not-own true h = absurd (false-true refl h)
not-own false h = refl

-- ---- one argument

no-argument : (t : Source) (c d : Component) (r k : Kind) (e : Entry) (w : What) (v : Tree) → IsWhat t d e w → is_parameter e ≡ false → argument_told c r k (Some w) v ≡ None
no-argument t c d r k (declared x) w v h p = ap (λ u. argument_told c r k (Some u) v) h.1
no-argument t c d r k (literal j ls) w v h p = ap (λ u. argument_told c r k (Some u) v) h
no-argument t c d r k (location j) w v h p = ap (λ u. argument_told c r k (Some u) v) h
no-argument t c d r k (inner n b) w v h p = ap (λ u. argument_told c r k (Some u) v) h.1
no-argument t c d r k (definition n ps b) w v h p = ap (λ u. argument_told c r k (Some u) v) h.1
no-argument t c d r k (instance i) w v h p = ap (λ u. argument_told c r k (Some u) v) h.1
no-argument t c d r k (parameter j q) w v h p = absurd (false-true p refl)

module _ (t : Source) (s : Scopes) (tb : KindTable) (num : AreNumbered t s) (are : AreKindsIn t tb) (c : Component) where
  module _ (j : ℕ) (o : Component) (n : Ident) (ps : List ParamTree) (b : SourceBody) (own : IsBody t j (blank o n ps b)) where
    abbrev asks : ℕ → Kind
    asks i = kind_for tb.lists (kind_at_slot tb j i)

    param-at : (i : ℕ) (p : ParamTree) → slice_get ps i ≡ Some p → slice_get (scope_of (blank o n ps b)) i ≡ Some (param_name p, parameter i p)
    param-at i p h =
        get-left (param_entries ps) (body_entries b) i (param_name p, parameter i p)
        (get-map (λ x. (param_name x.1, parameter x.0 x.1)) (enumerate_from 0 ps) i (i, p) (enumerate_from-at ps 0 i i p h (omega arith)))

    told-of : (i : ℕ) (p : ParamTree) (k : Kind) (e : Tree) → ((ty : _) (m : Ident) → p ≡ alg_param ty m → k ≡ type_kind (blank o n ps b) ty)
        → Answers c (argument_told c no_kind k (Some (what.Parameter (param_sort p))) e) (argument_demands c (record { value = e; param = p; definition = blank o n ps b }))
    told-of i (event_param l h m) k e f = tree-answers c no_kind e
    told-of i (location_param m) k e f = tree-answers c no_kind e
    told-of i (alg_param ty m) k e f =
        subst (λ x. Answers c (argument_told c no_kind x (Some (what.Parameter (param_sort (alg_param ty m)))) e) (argument_demands c (record { value = e; param = alg_param ty m; definition = blank o n ps b })))
        (sym (f ty m refl)) (value-answers c no_kind (type_kind (blank o n ps b) ty) e)

    one-argument : (i : ℕ) (p : ParamTree) (e : Tree) → slice_get ps i ≡ Some p
        → Answers c (argument_told c no_kind (asks i) (what_at s.table j i) e) (argument_demands c (record { value = e; param = p; definition = blank o n ps b }))
    one-argument i p e h =
        let at = param-at i p h in
        let w = what-is t s.table num.table num.indexed j i (blank o n ps b) (parameter i p) own (param_name p, at) in
        subst (λ x. Answers c (argument_told c no_kind (asks i) x e) (argument_demands c (record { value = e; param = p; definition = blank o n ps b })))
        (sym (w.1 ∙ ap Some w.2))
        (told-of i p (asks i) e
        (λ ty m is. slot-kind t tb are j i (blank o n ps b) (param_name (alg_param ty m)) (parameter i (alg_param ty m)) own
        (subst (λ q. slice_get (scope_of (blank o n ps b)) i ≡ Some (param_name q, parameter i q)) is at)))

    past-one : (i : ℕ) (e : Tree) → length ps ≤ i → argument_told c no_kind (asks i) (what_at s.table j i) e ≡ None
    past-one i e l =
        let row = row-of t s.table.scopes num.table j (blank o n ps b) own in
        ap (λ x. argument_told c no_kind (asks i) (option_map (λ (m : ScopeName). m.what) (slice_get (names_in x) i)) e) row.1
        ∙ (elim (slice_get row.0.names i) as (λ x. slice_get row.0.names i ≡ x → argument_told c no_kind (asks i) (option_map (λ (m : ScopeName). m.what) x) e ≡ None) [
          | None ↦ λ h. refl
          | Some m ↦ λ h.
              let x = beside-back (IsName t (blank o n ps b)) (scope_of (blank o n ps b)) row.0.names i m row.2.names h in
              no-argument t c (blank o n ps b) no_kind (asks i) x.0.1 m.what e x.2.1
              (not-own (is_parameter x.0.1) (all-member (λ (y : Ident × Entry). is_own y.1) (body_entries b) x.0 (own-body b)
              (get-past (param_entries ps) (body_entries b) i x.0 (subst (λ y. y ≤ i) (sym (params-length 0 ps)) l) x.1)))
        ]) refl

    past : (i : ℕ) (es : List Tree) → length ps ≤ i → arguments_told s tb c no_kind j i es ≡ None
    past i [] l = refl
    past i (e ∷ es) l = ap (λ x. or_later x (arguments_told s tb c no_kind j (i + 1) es)) (past-one i e l) ∙ past (i + 1) es (omega (arith, l))

    abbrev argument_of : Tree × ParamTree → Argument
    argument_of x = record { value = x.0; param = x.1; definition = blank o n ps b }

    arguments-answer : (es : List Tree) (qs : List ParamTree) (i : ℕ) → Sits ps i qs → i + length qs ≡ length ps
        → Answers c (arguments_told s tb c no_kind j i es) (flat_map (argument_demands c) (map argument_of (zip es qs)))
    arguments-answer [] qs i sits l = nothing c
    arguments-answer (e ∷ es) [] i sits l = subst (λ x. Answers c x []) (sym (past i (e ∷ es) (omega (arith, l)))) (nothing c)
    arguments-answer (e ∷ es) (p ∷ qs) i sits l =
        next c (argument_told c no_kind (asks i) (what_at s.table j i) e) (arguments_told s tb c no_kind j (i + 1) es) (argument_demands c (argument_of (e, p))) (flat_map (argument_demands c) (map argument_of (zip es qs)))
        (one-argument i p e (sits-head ps i p qs sits)) (arguments-answer es qs (i + 1) (sits-tail ps i p qs sits) (omega (arith, l)))

  -- ---- instances

  instance-answers : (i : InstanceTree) (d : Option ℕ) (q : Reached) → Defines t q d → Answers c (instance_told s tb c no_kind d i) (flat_map (argument_demands c) (arguments_at i q))
  instance-answers i d (reached (o, definition n ps b)) h =
      subst (λ x. Answers c (instance_told s tb c no_kind x i) (flat_map (argument_demands c) (arguments_at i (reached (o, definition n ps b))))) (sym h.1)
      (arguments-answer h.0 o n ps b h.2 i.args ps 0 (sits-whole ps) (omega arith))
  instance-answers i d (reached (o, declared x)) h = subst (λ x. Answers c (instance_told s tb c no_kind x i) []) (sym h) (nothing c)
  instance-answers i d (reached (o, literal k ls)) h = subst (λ x. Answers c (instance_told s tb c no_kind x i) []) (sym h) (nothing c)
  instance-answers i d (reached (o, location k)) h = subst (λ x. Answers c (instance_told s tb c no_kind x i) []) (sym h) (nothing c)
  instance-answers i d (reached (o, inner n b)) h = subst (λ x. Answers c (instance_told s tb c no_kind x i) []) (sym h) (nothing c)
  instance-answers i d (reached (o, instance g)) h = subst (λ x. Answers c (instance_told s tb c no_kind x i) []) (sym h) (nothing c)
  instance-answers i d (reached (o, parameter k p)) h = subst (λ x. Answers c (instance_told s tb c no_kind x i) []) (sym h) (nothing c)
  instance-answers i d missing h = subst (λ x. Answers c (instance_told s tb c no_kind x i) []) (sym h) (nothing c)
  instance-answers i d blocked h = subst (λ x. Answers c (instance_told s tb c no_kind x i) []) (sym h) (nothing c)

  abbrev pub arguments_in_items : Source → List Argument
  arguments_in_items is = flat_map (λ i. arguments_at i (definition_found c i)) (filter_map as_instance (list_of_items is))

  instances-answer : (k m : ℕ) (is : Source) (ds : List (Option ℕ)) → Beside (IsDefinitionOf t c) (filter_map as_instance (list_of_items is)) ds
      → ((i : ℕ) → definition_at s.definitions k (m + i) ≡ definition_in ds i) → Answers c (instances_told s tb c no_kind k m is) (flat_map (argument_demands c) (arguments_in_items is))
  instances-answer k m no_source ds h at = nothing c
  instances-answer k m (source (decl_item x) is) ds h at = instances-answer k m is ds h at
  instances-answer k m (source (component_item n x) is) ds h at = instances-answer k m is ds h at
  instances-answer k m (source (definition_item n ps x) is) ds h at = instances-answer k m is ds h at
  instances-answer k m (source (instance_item i) is) [] h at = absurd h
  instances-answer k m (source (instance_item i) is) (d ∷ ds) h at =
      subst (λ (xs : List Demand). Answers c (instances_told s tb c no_kind k m (source (instance_item i) is)) xs)
      (sym (flat_map-append (argument_demands c) (arguments_at i (definition_found c i)) (arguments_in_items is)))
      (next c (instance_told s tb c no_kind (definition_at s.definitions k m) i) (instances_told s tb c no_kind k (m + 1) is)
      (flat_map (argument_demands c) (arguments_at i (definition_found c i))) (flat_map (argument_demands c) (arguments_in_items is))
      (subst (λ x. Answers c (instance_told s tb c no_kind x i) (flat_map (argument_demands c) (arguments_at i (definition_found c i)))) (sym (here m at)) (instance-answers i d (definition_found c i) h.0))
      (instances-answer k (m + 1) is ds h.1 (λ a. further m a at)))
    where
      here : (m : ℕ) → ((a : ℕ) → definition_at s.definitions k (m + a) ≡ definition_in (d ∷ ds) a) → definition_at s.definitions k m ≡ d
      here m at = let e : m ≡ m + 0 = omega arith in ap (definition_at s.definitions k) e ∙ at 0

      further : (m a : ℕ) → ((a : ℕ) → definition_at s.definitions k (m + a) ≡ definition_in (d ∷ ds) a) → definition_at s.definitions k ((m + 1) + a) ≡ definition_in ds a
      further m a at = let e : (m + 1) + a ≡ m + suc a = omega arith in ap (definition_at s.definitions k) e ∙ at (suc a)

  -- the instances of body k
  pub all-instances : (k : ℕ) (is : Source) → IsBody t k c → instances_of c ≡ filter_map as_instance (list_of_items is) → Answers c (instances_told s tb c no_kind k 0 is) (flat_map (argument_demands c) (arguments_in_items is))
  all-instances k is own e =
      let row = beside-at (λ d ds. Beside (IsDefinitionOf t d) (instances_of d) ds) (bodies t) s.definitions k c num.definitions own in
      instances-answer k 0 is row.0 (subst (λ (xs : List InstanceTree). Beside (IsDefinitionOf t c) xs row.0) e row.2)
      (λ i. let z : 0 + i ≡ i = omega arith in ap (definition_at s.definitions k) z ∙ ap (λ o. elim o [ None ↦ None | Some ds ↦ definition_in ds i ]) row.1)
