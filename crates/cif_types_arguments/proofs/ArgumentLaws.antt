-- What is told of the arguments of instances tells of one that does not fit.
use Rattle.std.proofs.Common.{◌≡◌, ℕ, zero, suc, ◌+◌, ◌≤◌, Bool, true, false, List, [], ◌∷◌, ◌++◌, length, map, Option, Some, None, refl, sym, ap, subst, ◌∙◌, arith}
use Rattle.std.specs.Prelude.{flat_map, filter_map, zip, slice_get, option_map, unwrap_or, not, IsTrue, Result, Ok, Err}
use Rattle.std.specs.List.{enumerate_from}
use Rattle.std.proofs.lemmas.Option.{slice_get-map, slice_get_past}
use Rattle.cif_system.proofs.Lists.{some-same, none-some, false-true}
use Rattle.cif_system.proofs.Picks.{enumerate_from-at}
use Rattle.cif_ast.specs.Tree.{Tree}
use Rattle.cif_ast.specs.declared.names.Ident.{Ident}
use Rattle.cif_source.specs.Source.{tree_at, ParamTree, param_tree, InstanceTree, decl_item, component_item, definition_item, instance_item, SourceBody, group_body, automaton_body, Source, no_source, source, list_of_items}
use Rattle.cif_source.specs.Components.{Component, blank, body_of, scope_of, body_entries, param_entries, param_name, declared, literal, location, inner, definition, instance, parameter}
use Rattle.cif_source.specs.Lookup.{Reached, reached, missing, blocked, definition_found}
use Rattle.cif_source.specs.Objects.{bodies, items_in}
use Rattle.cif_source.specs.Scoping.{as_instance, instances_of}
use Rattle.cif_source.specs.Demands.{ChannelKind, channel_at, Argument, arguments_at, arguments_in, is_unfit_for}
use Rattle.cif_source.specs.BodyRules.{BadArgument}
use Rattle.cif_scope.specs.declared.scopes.Scopes.{Scopes}
use Rattle.cif_scope.specs.declared.written.Written.{Written}
use Rattle.cif_scope.specs.Looks.{definition_at, definition_in}
use Rattle.cif_scope.specs.Tables.{IsBody, Beside}
use Rattle.cif_scope.specs.Scopes.{AreNumbered, Defines, IsDefinitionOf}
use Rattle.cif_scope.specs.Written.{WrittenBody, written_bodies, body_of_written}
use Rattle.cif_scope.proofs.IndexLaws.{any-of, of-any}
use Rattle.cif_scope.proofs.LookLaws.{get-map}
use Rattle.cif_scope.proofs.Places.{beside-at, Sits, sits-head, sits-tail, sits-whole}
use Rattle.cif_types_kinds.specs.declared.error.KindErr.{KindErr}
use Rattle.cif_types_kinds.specs.declared.error.KindErr.TheVariants.{Mismatch, Memory}
use Rattle.cif_types_kinds.specs.declared.kind.Channel.TheVariants as channel
use Rattle.cif_types_kinds.specs.declared.reading.Reading.{Reading}
use Rattle.cif_types_kinds.specs.declared.table.KindTable.{KindTable}
use Rattle.cif_types_kinds.specs.Tables.{channel_for, IsChannelOf, AreOwnChannels, AreKindsIn, slot_channel, channel_at_slot}
use Rattle.cif_types_kinds.specs.Readings.{source_for, component_in, IsReading, IsWrittenIn}
use Rattle.cif_types_kinds.specs.Faults.{unless, or_later, Tells}
use Rattle.cif_types_kinds.specs.Values.{first_told}
use Rattle.cif_types_kinds.proofs.NameLaws.{body-is}
use Rattle.cif_types_kinds.proofs.ValueLaws.{first-append}
use Rattle.cif_types_arguments.specs.Classes.{params_at}
use Rattle.cif_source.specs.Uses.{bare_name}
use Rattle.cif_types_arguments.specs.Arguments.{AreWrittenIn, fits, fault_told, argument_told, arguments_told, instance_told, items_told, inside_told, ChecksArguments}
use Rattle.cif_types_arguments.proofs.ClassLaws.{params-are}
use Rattle.cif_types_arguments.proofs.FitLaws.{unfit-is}

-- ---- the first that is told

first-some : {A : Type 0} (f : A → Option ℕ) (xs : List A) (at : ℕ) → first_told f xs ≡ Some at → (k : ℕ) × (x : A) × (slice_get xs k ≡ Some x) × (f x ≡ Some at)
first-some f [] at h = absurd (none-some at h)
first-some f (x ∷ xs) at h =
    (elim (f x) as (λ o. f x ≡ o → or_later o (first_told f xs) ≡ Some at → (k : ℕ) × (y : _) × (slice_get (x ∷ xs) k ≡ Some y) × (f y ≡ Some at)) [
      | None ↦ λ e g. let w = first-some f xs at g in (suc w.0, w.1, w.2, w.3)
      | Some k ↦ λ e g. (0, x, refl, e ∙ g)
    ]) refl h

first-none : {A : Type 0} (f : A → Option ℕ) (xs : List A) (k : ℕ) (x : A) → first_told f xs ≡ None → slice_get xs k ≡ Some x → f x ≡ None
first-none f [] k x h m = absurd (none-some x m)
first-none f (y ∷ xs) zero x h m =
    (elim (f y) as (λ o. f y ≡ o → or_later o (first_told f xs) ≡ None → f x ≡ None) [
      | None ↦ λ e g. ap f (sym (some-same y x m)) ∙ e
      | Some j ↦ λ e g. absurd (none-some j (sym g))
    ]) refl h
first-none f (y ∷ xs) (suc k) x h m =
    (elim (f y) as (λ o. or_later o (first_told f xs) ≡ None → f x ≡ None) [
      | None ↦ λ g. first-none f xs k x g m
      | Some j ↦ λ g. absurd (none-some j (sym g))
    ]) h

unless-some : (b : Bool) (k at : ℕ) → unless (not b) k ≡ Some at → (k ≡ at) × (b ≡ true)
unless-some true k at h = (some-same k at h, refl)
unless-some false k at h = absurd (none-some at h)

unless-none : (b : Bool) (k : ℕ) → unless (not b) k ≡ None → b ≡ false
unless-none true k h = absurd (none-some k (sym h))
unless-none false k h = refl

-- ---- arguments

abbrev unfit_told : Component → Argument → Option ℕ
unfit_told c a = unless (not (is_unfit_for c a.definition a.value a.param)) (tree_at a.value)

get-left : {A : Type 0} (xs ys : List A) (j : ℕ) (x : A) → slice_get xs j ≡ Some x → slice_get (xs ++ ys) j ≡ Some x
get-left [] ys j x h = absurd (none-some x h)
get-left (z ∷ xs) ys zero x h = h
get-left (z ∷ xs) ys (suc j) x h = get-left xs ys j x h

module _ (t : Source) (s : Scopes) (tb : KindTable) (all : List Written) (num : AreNumbered t s) (kinds : AreKindsIn t tb) (are : map body_of_written all ≡ written_bodies t) (c : Component) where
  module _ (j : ℕ) (o : Component) (n : Ident) (ps : List ParamTree) (b : SourceBody) (own : IsBody t j (blank o n ps b)) where
    param-at : (i : ℕ) (p : ParamTree) → slice_get ps i ≡ Some p → slice_get (scope_of (blank o n ps b)) i ≡ Some (param_name p, parameter i p)
    param-at i p h =
        get-left (param_entries ps) (body_entries b) i (param_name p, parameter i p)
        (get-map (λ x. (param_name x.1, parameter x.0 x.1)) (enumerate_from 0 ps) i (i, p) (enumerate_from-at ps 0 i i p h (omega arith)))

    param-is : (i : ℕ) → option_map param_tree (slice_get (params_at all j) i) ≡ slice_get ps i
    param-is i = sym (slice_get-map param_tree (params_at all j) i) ∙ ap (λ (qs : List ParamTree). slice_get qs i) (params-are t all are j (blank o n ps b) own)

    -- what is sent along a parameter
    channel-is : (i : ℕ) (p : ParamTree) → slice_get ps i ≡ Some p → channel_for tb.lists (channel_at_slot tb j i) ≡ channel_at (reached (blank o n ps b, parameter i p))
    channel-is i p h =
        let row = beside-at (AreOwnChannels tb.lists) (bodies t) tb.channels j (blank o n ps b) kinds.channels own in
        let one = beside-at (IsChannelOf tb.lists (blank o n ps b)) (scope_of (blank o n ps b)) row.0 i (param_name p, parameter i p) row.2 (param-at i p h) in
        ap (λ x. channel_for tb.lists (slot_channel x i)) row.1 ∙ ap (λ x. channel_for tb.lists (unwrap_or x channel.No)) one.1 ∙ one.2

    abbrev asks : ℕ → ChannelKind
    asks i = channel_for tb.lists (channel_at_slot tb j i)

    abbrev argument_of : Tree × ParamTree → Argument
    argument_of x = record { value = x.0; param = x.1; definition = blank o n ps b }

    one-argument : (i : ℕ) (p : ParamTree) (e : Tree) → slice_get ps i ≡ Some p → argument_told tb all c j i e ≡ unfit_told c (argument_of (e, p))
    one-argument i p e h =
        ap (λ q. fault_told c (asks i) q e) (param-is i ∙ h)
        ∙ ap (λ (x : ChannelKind). unless (fits c x p (bare_name e)) (tree_at e)) (channel-is i p h)
        ∙ ap (λ x. unless x (tree_at e)) (unfit-is c (blank o n ps b) i e p)

    past : (i : ℕ) (es : List Tree) → length ps ≤ i → arguments_told tb all c j i es ≡ None
    past i [] l = refl
    past i (e ∷ es) l =
        ap (λ q. or_later (fault_told c (asks i) q e) (arguments_told tb all c j (i + 1) es)) (param-is i ∙ slice_get_past ps i l)
        ∙ past (i + 1) es (omega (arith, l))

    arguments-are : (es : List Tree) (qs : List ParamTree) (i : ℕ) → Sits ps i qs → i + length qs ≡ length ps
        → arguments_told tb all c j i es ≡ first_told (unfit_told c) (map argument_of (zip es qs))
    arguments-are [] qs i sits l = refl
    arguments-are (e ∷ es) [] i sits l = past i (e ∷ es) (omega (arith, l))
    arguments-are (e ∷ es) (p ∷ qs) i sits l =
        ap (λ x. or_later x (arguments_told tb all c j (i + 1) es)) (one-argument i p e (sits-head ps i p qs sits))
        ∙ ap (or_later (unfit_told c (argument_of (e, p)))) (arguments-are es qs (i + 1) (sits-tail ps i p qs sits) (omega (arith, l)))

  -- ---- instances

  instance-is : (i : InstanceTree) (d : Option ℕ) (q : Reached) → Defines t q d → instance_told tb all c d i ≡ first_told (unfit_told c) (arguments_at i q)
  instance-is i d (reached (o, definition n ps b)) h = ap (λ x. instance_told tb all c x i) h.1 ∙ arguments-are h.0 o n ps b h.2 i.args ps 0 (sits-whole ps) (omega arith)
  instance-is i d (reached (o, declared x)) h = ap (λ x. instance_told tb all c x i) h
  instance-is i d (reached (o, literal k ls)) h = ap (λ x. instance_told tb all c x i) h
  instance-is i d (reached (o, location k)) h = ap (λ x. instance_told tb all c x i) h
  instance-is i d (reached (o, inner n b)) h = ap (λ x. instance_told tb all c x i) h
  instance-is i d (reached (o, instance g)) h = ap (λ x. instance_told tb all c x i) h
  instance-is i d (reached (o, parameter k p)) h = ap (λ x. instance_told tb all c x i) h
  instance-is i d missing h = ap (λ x. instance_told tb all c x i) h
  instance-is i d blocked h = ap (λ x. instance_told tb all c x i) h

  abbrev arguments_of : List InstanceTree → List Argument
  arguments_of is = flat_map (λ i. arguments_at i (definition_found c i)) is

  items-are : (k m : ℕ) (is : Source) (ds : List (Option ℕ)) → Beside (IsDefinitionOf t c) (filter_map as_instance (list_of_items is)) ds
      → ((i : ℕ) → definition_at s.definitions k (m + i) ≡ definition_in ds i) → items_told tb all c s k m is ≡ first_told (unfit_told c) (arguments_of (filter_map as_instance (list_of_items is)))
  items-are k m no_source ds h at = refl
  items-are k m (source (decl_item x) is) ds h at = items-are k m is ds h at
  items-are k m (source (component_item n x) is) ds h at = items-are k m is ds h at
  items-are k m (source (definition_item n ps x) is) ds h at = items-are k m is ds h at
  items-are k m (source (instance_item i) is) [] h at = absurd h
  items-are k m (source (instance_item i) is) (d ∷ ds) h at =
      ap (λ x. or_later (instance_told tb all c x i) (items_told tb all c s k (m + 1) is)) here
      ∙ ap (λ x. or_later x (items_told tb all c s k (m + 1) is)) (instance-is i d (definition_found c i) h.0)
      ∙ ap (or_later (first_told (unfit_told c) (arguments_at i (definition_found c i)))) (items-are k (m + 1) is ds h.1 further)
      ∙ sym (first-append (unfit_told c) (arguments_at i (definition_found c i)) (arguments_of (filter_map as_instance (list_of_items is))))
    where
      here : definition_at s.definitions k m ≡ d
      here = let e : m ≡ m + 0 = omega arith in ap (definition_at s.definitions k) e ∙ at 0

      further : (a : ℕ) → definition_at s.definitions k ((m + 1) + a) ≡ definition_in ds a
      further a = let e : (m + 1) + a ≡ m + suc a = omega arith in ap (definition_at s.definitions k) e ∙ at (suc a)

  inside-is : (k : ℕ) (b : SourceBody) → IsBody t k c → body_of c ≡ b → inside_told tb all c s k b ≡ first_told (unfit_told c) (arguments_of (filter_map as_instance (items_in b)))
  inside-is k (group_body is) own e =
      let row = beside-at (λ d ds. Beside (IsDefinitionOf t d) (instances_of d) ds) (bodies t) s.definitions k c num.definitions own in
      items-are k 0 is row.0 (subst (λ x. Beside (IsDefinitionOf t c) (filter_map as_instance (items_in x)) row.0) e row.2)
      (λ i. let z : 0 + i ≡ i = omega arith in ap (definition_at s.definitions k) z ∙ ap (λ o. elim o [ None ↦ None | Some ds ↦ definition_in ds i ]) row.1)
  inside-is k (automaton_body a) own e = refl

-- ---- the whole

bad-argument : (c : Component) (at : ℕ) → first_told (unfit_told c) (arguments_in c) ≡ Some at → BadArgument c at
bad-argument c at h =
    let w = first-some (unfit_told c) (arguments_in c) at h in
    any-of (λ (a : Argument). (tree_at a.value ≡ at) × IsTrue (is_unfit_for c a.definition a.value a.param)) (arguments_in c) w.0 w.1 w.2
    (unless-some (is_unfit_for c w.1.definition w.1.value w.1.param) (tree_at w.1.value) at w.3)

no-bad-argument : (c : Component) (at : ℕ) → first_told (unfit_told c) (arguments_in c) ≡ None → BadArgument c at → ⊥
no-bad-argument c at h bad =
    let w = of-any (λ (a : Argument). (tree_at a.value ≡ at) × IsTrue (is_unfit_for c a.definition a.value a.param)) (arguments_in c) bad in
    false-true (unless-none (is_unfit_for c w.1.definition w.1.value w.1.param) (tree_at w.1.value) (first-none (unfit_told c) (arguments_in c) w.0 w.1 h w.2)) w.3.1

checked : {A : Type 0} (c : Component) (x : Result A KindErr) → Tells x (first_told (unfit_told c) (arguments_in c)) → ChecksArguments c x
checked c (Ok x) h = λ at bad. no-bad-argument c at h bad
checked c (Err (Mismatch at)) h = bad-argument c at h
checked c (Err Memory) h = tt

pub arguments_checked : {A : Type 0} (r : Reading) (all : List Written) (w : WrittenBody) (x : Result A KindErr) → IsReading r → AreWrittenIn r all → IsWrittenIn r w
    → Tells x (inside_told r.table.now all (component_in r) r.scopes.now r.body w.body) → ChecksArguments (component_in r) x
arguments_checked r all w x h are is told =
    checked (component_in r) x
    (subst (λ o. Tells x o)
    (ap (inside_told r.table.now all (component_in r) r.scopes.now r.body) is.body
    ∙ inside-is (source_for r) r.scopes.now r.table.now all h.scopes h.kinds are (component_in r) r.body (body_of (component_in r)) (body-is r h) refl) told)
