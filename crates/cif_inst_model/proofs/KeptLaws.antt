-- Tests that tell of a source that it breaks no rule of scopes, kinds and instances. They are enough, and a source may keep
-- the rules without passing them: where definitions have instances in them, or types and constants name anything.
use Rattle.std.proofs.Common.{◌≡◌, ◌≢◌, ℕ, zero, suc, ◌≤◌, ◌<◌, ◌⊎◌, Bool, true, false, not, inl, inr, List, [], ◌∷◌, length, map, ◌++◌, Option, refl, sym, ◌∙◌, ap, subst, arith}
use Rattle.std.specs.Prelude.{◌&&◌, ◌||◌, nat_eq, int_lt, flat_map, slice_index_or}
use Rattle.std.specs.List.{list_any, Any, Contains, AllByRecursion}
use Rattle.std.proofs.lemmas.Bool.Decides.{nat_tests}
use Rattle.std.proofs.lemmas.Cmp.{nat_list_eq_equiv}
use Rattle.std.proofs.lemmas.List.Folds.{list_any-from_Any}
use Rattle.cif_ast.specs.Tree.{Tree}
use Rattle.cif_ast.specs.declared.names.Ident.{Ident}
use Rattle.cif_system.specs.Words.{Member}
use Rattle.cif_system.specs.System.{in_range}
use Rattle.cif_system.proofs.Lists.{false-true}
use Rattle.cif_source.specs.Source.{Source, UseTree, EdgeTree, TypeTree, list_of_updates}
use Rattle.cif_system.specs.Words.{Before, Chain, one, more}
use Rattle.cif_source.specs.Components.{Component, body_of, scope_of, same_text, Entry}
use Rattle.cif_source.specs.Lookup.{ScopeEntry, found, definition_found}
use Rattle.cif_source.specs.Objects.{bodies, components_of, most_objects, automata, event_edges, is_automaton}
use Rattle.cif_source.specs.Value.{constant}
use Rattle.cif_source.specs.Types.{range_of, signed_range}
use Rattle.cif_source.specs.Uses.{Use, uses, sought, is_asked, names_in, own_names, own_sought, is_own_asked}
use Rattle.cif_source.specs.Scoping.{is_missing, UnknownDue, DuplicateDue, is_wrong, WrongKindDue, instances_of, has_wrong_count, instances_within, names_of, ReachesItself, DefinitionCycleDue}
use Rattle.cif_source.specs.Kinds.{Demand, kind_of, same_kind}
use Rattle.cif_source.specs.Constants.{constants_of, bound_values, typed_constants, Bounds, bounds_of}
use Rattle.cif_source.specs.Demands.{demands, is_unfit, event_channel, Argument, arguments_in, is_unfit_for}
use Rattle.cif_source.specs.BodyRules.{edges_of, MismatchDue, is_constant, NotConstantDue, initial_count, InitialsDue, targets_of_all, LeadsElsewhere, NotOwnDue, lists_of, AssignedTwiceDue, definition_counts, algs_of, EquationsDue}
use Rattle.cif_source.specs.InstanceRules.{synchronised_name, monitored_in, is_lacking, AlphabetLacksDue, role_count, RoleMixedDue, object_count, is_faulty, ConstantRangeDue}
use Rattle.cif_inst_model.specs.WellFormed.{unknown, duplicate, wrong_kind, definition_cycle, mismatch, not_constant, initials, not_own, assigned_twice, equations, alphabet_lacks, role_mixed, too_many_objects, constant_range, alg_cycle, zero_divisor, too_wide, invariant_reads_input, invariant_false, too_large, too_many_choices, algebraic, KeepsBefore}

-- ---- tests of lists

pub or-left : (a b : Bool) → a ≡ true → (a || b) ≡ true
or-left true b h = refl
or-left false b h = absurd (false-true refl h)

pub or-right : (a b : Bool) → b ≡ true → (a || b) ≡ true
or-right true b h = refl
or-right false b h = h

not-false : (b : Bool) → b ≡ false → not b ≡ true
not-false true h = absurd (false-true h refl)
not-false false h = refl

any-passes : {A : Type 0} (test : A → Bool) (P : A → Type 0) (xs : List A) → ((x : A) → P x → test x ≡ true) → Any P xs → list_any test xs ≡ true
any-passes test P xs h a = list_any-from_Any test xs (a.0, a.1, a.2, a.3, h a.1 a.4)

contains-passes : {A : Type 0} (test : A → Bool) (xs : List A) (x : A) → Contains xs x → test x ≡ true → list_any test xs ≡ true
contains-passes test xs x c h = list_any-from_Any test xs (c.0, x, c.1, c.2, h)

pub member-passes : {A : Type 0} (test : A → Bool) (xs : List A) (x : A) → Member x xs → test x ≡ true → list_any test xs ≡ true
member-passes test [] x m h = absurd m
member-passes test (y ∷ ys) x m h =
    elim m [
      | inl w ↦ or-left (test y) (list_any test ys) (ap test (sym w) ∙ h)
      | inr w ↦ or-right (test y) (list_any test ys) (member-passes test ys x w h)
    ]

either : {P Q : Type 0} (a b : Bool) → (P → a ≡ true) → (Q → b ≡ true) → P ⊎ Q → (a || b) ≡ true
either a b f g (inl p) = or-left a b (f p)
either a b f g (inr q) = or-right a b (g q)

each-at : {A : Type 0} (Q : A → Type 0) (xs : List A) (k : ℕ) (x : A) → AllByRecursion Q xs → k < length xs → slice_index_or xs k x ≡ x → Q x
each-at Q [] k x q lt is = absurd (omega (arith, lt))
each-at Q (y ∷ ys) zero x q lt is = subst Q is q.0
each-at Q (y ∷ ys) (suc k) x q lt is = each-at Q ys k x q.1 (omega (arith, lt)) is

-- an element of which P holds, where Q holds of each
any-each : {A : Type 0} (P Q : A → Type 0) (xs : List A) → AllByRecursion Q xs → Any P xs → (x : A) × P x × Q x
any-each P Q xs q a = (a.1, a.4, each-at Q xs a.0 a.1 q a.2 a.3)

-- ---- scopes

abbrev pub use_unknown : Component → Bool
use_unknown c = list_any (λ (u : Use). is_missing (sought c u)) (uses c)

abbrev pub own_unknown : Component → Bool
own_unknown c = list_any (λ n. is_missing (own_sought c n)) (own_names c)

abbrev pub is_unknown : Component → Bool
is_unknown c = use_unknown c || own_unknown c

unknown-told : (t : Source) (at : ℕ) → UnknownDue t at → list_any is_unknown (bodies t) ≡ true
unknown-told t at = any-passes is_unknown _ (bodies t)
    (λ c. either (use_unknown c) (own_unknown c) (any-passes _ _ (uses c) (λ u g. g.1)) (any-passes _ _ (own_names c) (λ n g. g.1)))

abbrev pub has_twice : List Ident → Bool
has_twice [] = false
has_twice (x ∷ xs) = list_any (λ (y : Ident). same_text x.text y.text) xs || has_twice xs

twice-told : (x y : Ident) (xs : List Ident) → Before x y xs → x.text ≡ y.text → has_twice xs ≡ true
twice-told x y [] b h = absurd b
twice-told x y (z ∷ zs) b h =
    elim b [
      | inl w ↦ or-left _ _ (member-passes (λ (v : Ident). same_text z.text v.text) zs y w.1 (ap (same_text z.text) (sym h ∙ ap (λ (v : Ident). v.text) w.0) ∙ nat_list_eq_equiv.refl z.text))
      | inr w ↦ or-right _ _ (twice-told x y zs w h)
    ]

abbrev pub is_double : Component → Bool
is_double c = has_twice (map (λ (e : Ident × Entry). e.0) (scope_of c))

duplicate-told : (t : Source) (at first : ℕ) → DuplicateDue t at first → list_any is_double (bodies t) ≡ true
duplicate-told t at first = any-passes is_double _ (bodies t) (λ c h. twice-told h.earlier h.later _ h.order h.same)

abbrev pub use_misused : Component → Bool
use_misused c = list_any (λ (u : Use). is_wrong (is_asked u.asks) (sought c u)) (uses c)

abbrev pub own_misused : Component → Bool
own_misused c = list_any (λ n. is_wrong (is_own_asked n) (own_sought c n)) (own_names c)

abbrev pub is_miscounted : Component → Bool
is_miscounted c = list_any (λ i. has_wrong_count i (definition_found c i)) (instances_of c)

abbrev pub is_misused : Component → Bool
is_misused c = use_misused c || (own_misused c || is_miscounted c)

wrong_kind-told : (t : Source) (at : ℕ) → WrongKindDue t at → list_any is_misused (bodies t) ≡ true
wrong_kind-told t at = any-passes is_misused _ (bodies t)
    (λ c. either (use_misused c) (own_misused c || is_miscounted c) (any-passes _ _ (uses c) (λ u g. g.1))
    (either (own_misused c) (is_miscounted c) (any-passes _ _ (own_names c) (λ n g. g.1)) (any-passes _ _ (instances_of c) (λ i g. g.1))))

abbrev pub is_some_element : {A : Type 0} → List A → Bool
is_some_element xs = list_any (λ x. true) xs

-- a definition with an instance in it, or a type or constant that names something
abbrev pub reaches_something : ScopeEntry → Bool
reaches_something x = is_some_element (instances_within x) || is_some_element (names_of x.1)

first-link : {A : Type 0} {R : A → A → Type 0} (x y : A) → Chain R x y → (z : A) × R x z
first-link x y (one r) = (y, r)
first-link x y (more {y = z} r c) = (z, r)

reaches-told : (x : ScopeEntry) → ReachesItself x → reaches_something x ≡ true
reaches-told x = either (is_some_element (instances_within x)) (is_some_element (names_of x.1))
    (λ c. any-passes (λ i. true) _ (instances_within x) (λ i h. refl) (first-link x x c).1)
    (λ c. any-passes (λ i. true) _ (names_of x.1) (λ i h. refl) (first-link x x c).1)

abbrev pub may_be_cyclic : Component → Bool
may_be_cyclic c = list_any (λ (e : Ident × Entry). reaches_something (c, e.1)) (scope_of c)

cycle-told : (t : Source) (at : ℕ) → DefinitionCycleDue t at → list_any may_be_cyclic (bodies t) ≡ true
cycle-told t at = any-passes may_be_cyclic _ (bodies t) (λ c h. any-passes _ _ (scope_of c) (λ e g. reaches-told (c, e.1) g.1) h)

-- ---- kinds

abbrev pub value_mismatched : Component → Bool
value_mismatched c = list_any (λ (d : Demand). not (same_kind (kind_of c d.received_kind d.value) d.kind)) (demands c)

abbrev pub use_mismatched : Component → Bool
use_mismatched c = list_any (λ (u : UseTree). is_unfit u.role (event_channel c u.name)) (flat_map (λ (e : EdgeTree). e.uses) (edges_of c))

abbrev pub argument_mismatched : Component → Bool
argument_mismatched c = list_any (λ (a : Argument). is_unfit_for c a.definition a.value a.param) (arguments_in c)

abbrev pub is_mismatched : Component → Bool
is_mismatched c = value_mismatched c || (use_mismatched c || argument_mismatched c)

mismatch-told : (t : Source) (at : ℕ) → MismatchDue t at → list_any is_mismatched (bodies t) ≡ true
mismatch-told t at = any-passes is_mismatched _ (bodies t)
    (λ c. either (value_mismatched c) (use_mismatched c || argument_mismatched c) (any-passes _ _ (demands c) (λ d g. not-false _ g.1))
    (either (use_mismatched c) (argument_mismatched c) (any-passes _ _ (flat_map (λ (e : EdgeTree). e.uses) (edges_of c)) (λ u g. g.1)) (any-passes _ _ (arguments_in c) (λ a g. g.1))))

abbrev pub is_unfixed : Component → Bool
is_unfixed c = list_any (λ nm. is_wrong is_constant (found c nm)) (flat_map names_in (constants_of c))

not_constant-told : (t : Source) (at : ℕ) → NotConstantDue t at → list_any is_unfixed (bodies t) ≡ true
not_constant-told t at = any-passes is_unfixed _ (bodies t) (λ c h. any-passes _ _ (flat_map names_in (constants_of c)) (λ nm g. g.1) h)

other-number : (k : ℕ) → k ≢ 1 → not (nat_eq k 1) ≡ true
other-number k h = grind (arith, nat_tests)

abbrev pub is_unstarted : Component → Bool
is_unstarted a = is_automaton (body_of a) && not (nat_eq (initial_count a) 1)

initials-told : (t : Source) (at count : ℕ) → InitialsDue t at count → list_any is_unstarted (bodies t) ≡ true
initials-told t at count = any-passes is_unstarted _ (bodies t)
    (λ a h. ap (λ b. b && not (nat_eq (initial_count a) 1)) h.automaton ∙ other-number (initial_count a) (λ e. h.other (h.counted ∙ e)))

abbrev pub OwnTargets : Component → Type 0
OwnTargets c = AllByRecursion (λ nm. LeadsElsewhere c (found c nm) → ⊥) (flat_map (λ (e : EdgeTree). targets_of_all e.updates) (edges_of c))

not_own-none : (t : Source) (at : ℕ) → AllByRecursion OwnTargets (bodies t) → NotOwnDue t at → ⊥
not_own-none t at own due =
    let c = any-each _ OwnTargets (bodies t) own due in
    let nm = any-each _ (λ nm. LeadsElsewhere c.0 (found c.0 nm) → ⊥) _ c.2 c.1 in
    nm.2 nm.1.1

abbrev pub is_several : {A : Type 0} → List A → Bool
is_several [] = false
is_several (x ∷ xs) = is_some_element xs

several-told : {A : Type 0} (x y : A) (xs : List A) → Before x y xs → is_several xs ≡ true
several-told x y [] b = absurd b
several-told x y (z ∷ zs) b = elim b [ inl w ↦ member-passes (λ v. true) zs y w.1 refl | inr w ↦ more-of zs (several-told x y zs w) ]
  where
    more-of : {A : Type 0} (zs : List A) → is_several zs ≡ true → is_some_element zs ≡ true
    more-of [] h = h
    more-of (z ∷ zs) h = refl

abbrev pub may_assign_twice : Component → Bool
may_assign_twice c = list_any (λ us. is_several (list_of_updates us)) (flat_map lists_of (edges_of c))

assigned_twice-told : (t : Source) (at : ℕ) → AssignedTwiceDue t at → list_any may_assign_twice (bodies t) ≡ true
assigned_twice-told t at = any-passes may_assign_twice _ (bodies t) (λ c h. any-passes _ _ (flat_map lists_of (edges_of c)) (λ us g. several-told g.earlier g.later _ g.order) h)

abbrev pub is_undefined : Component → Bool
is_undefined c = list_any (λ (a : Ident × Option Tree). list_any (λ k. not (nat_eq k 1)) (definition_counts c a.0.text a.1)) (algs_of c)

equations-told : (t : Source) (at count : ℕ) → EquationsDue t at count → list_any is_undefined (bodies t) ≡ true
equations-told t at count = any-passes is_undefined _ (bodies t) (λ c h. any-passes _ _ (algs_of c) (λ a g. contains-passes (λ k. not (nat_eq k 1)) _ count g.1 (other-number count g.2)) h)

-- ---- instances

abbrev pub lacks_something : Component → Bool
lacks_something a = list_any (is_lacking a) (flat_map synchronised_name (event_edges a) ++ monitored_in (body_of a))

alphabet-told : (t : Source) (at : ℕ) → AlphabetLacksDue t at → list_any lacks_something (automata t) ≡ true
alphabet-told t at = any-passes lacks_something _ (automata t) (λ a h. any-passes _ _ (flat_map synchronised_name (event_edges a) ++ monitored_in (body_of a)) (λ nm g. g.1) h)

abbrev pub HasOneRole : Component → Type 0
HasOneRole a = (e : ℕ) → role_count e a ≤ 1

role_mixed-none : (t : Source) (at : ℕ) → AllByRecursion HasOneRole (automata t) → RoleMixedDue t at → ⊥
role_mixed-none t at roles due = let a = any-each _ HasOneRole (automata t) roles due in absurd (omega (arith, a.2 a.1.1.0, a.1.1.1))

abbrev pub is_faulty_in : Component → Bool
is_faulty_in c = list_any (is_faulty (constant c)) (constants_of c)

abbrev pub leaves_range : Component → Bool
leaves_range c = list_any (λ (v : TypeTree × Tree). not (in_range (range_of c v.0) (constant c v.1))) (typed_constants c)

abbrev pub has_long_bound : Component → Bool
has_long_bound c = list_any (λ e. not (in_range (signed_range 32) (constant c e))) (bound_values c)

abbrev pub has_empty_range : Component → Bool
has_empty_range c = list_any (λ (b : Bounds). int_lt (constant c b.1) (constant c b.0)) (bounds_of c)

abbrev pub is_out_of_range : Component → Bool
is_out_of_range c = is_faulty_in c || (leaves_range c || (has_long_bound c || has_empty_range c))

constant_range-told : (t : Source) (at : ℕ) → ConstantRangeDue t at → list_any is_out_of_range (components_of t) ≡ true
constant_range-told t at = any-passes is_out_of_range _ (components_of t)
    (λ c. either (is_faulty_in c) (leaves_range c || (has_long_bound c || has_empty_range c)) (any-passes _ _ (constants_of c) (λ e g. g.1))
    (either (leaves_range c) (has_long_bound c || has_empty_range c) (any-passes _ _ (typed_constants c) (λ e g. not-false _ g.1))
    (either (has_long_bound c) (has_empty_range c) (any-passes _ _ (bound_values c) (λ e g. not-false _ g.1)) (any-passes _ _ (bounds_of c) (λ b g. g.1)))))

-- ---- none is broken

pub record Kept (t : Source) : Type 0 where
  pub known : list_any is_unknown (bodies t) ≡ false
  pub single : list_any is_double (bodies t) ≡ false
  pub used : list_any is_misused (bodies t) ≡ false
  pub straight : list_any may_be_cyclic (bodies t) ≡ false
  pub matched : list_any is_mismatched (bodies t) ≡ false
  pub fixed : list_any is_unfixed (bodies t) ≡ false
  pub started : list_any is_unstarted (bodies t) ≡ false
  pub own : AllByRecursion OwnTargets (bodies t)
  pub assigned : list_any may_assign_twice (bodies t) ≡ false
  pub defined : list_any is_undefined (bodies t) ≡ false
  pub alphabets : list_any lacks_something (automata t) ≡ false
  pub roles : AllByRecursion HasOneRole (automata t)
  pub few : object_count t ≤ most_objects
  pub ranges : list_any is_out_of_range (components_of t) ≡ false

pub kept-before : (t : Source) → Kept t → KeepsBefore t algebraic
kept-before t k (unknown at) h b = false-true k.known (unknown-told t at b)
kept-before t k (duplicate at first) h b = false-true k.single (duplicate-told t at first b)
kept-before t k (wrong_kind at) h b = false-true k.used (wrong_kind-told t at b)
kept-before t k (definition_cycle at) h b = false-true k.straight (cycle-told t at b)
kept-before t k (mismatch at) h b = false-true k.matched (mismatch-told t at b)
kept-before t k (not_constant at) h b = false-true k.fixed (not_constant-told t at b)
kept-before t k (initials at count) h b = false-true k.started (initials-told t at count b)
kept-before t k (not_own at) h b = not_own-none t at k.own b
kept-before t k (assigned_twice at) h b = false-true k.assigned (assigned_twice-told t at b)
kept-before t k (equations at count) h b = false-true k.defined (equations-told t at count b)
kept-before t k (alphabet_lacks at) h b = false-true k.alphabets (alphabet-told t at b)
kept-before t k (role_mixed at) h b = role_mixed-none t at k.roles b
kept-before t k (too_many_objects count) h b = absurd (omega (arith, k.few, b.0))
kept-before t k (constant_range at) h b = false-true k.ranges (constant_range-told t at b)
kept-before t k (alg_cycle alg) h b = absurd (omega (arith, h))
kept-before t k (zero_divisor at) h b = absurd (omega (arith, h))
kept-before t k (too_wide at) h b = absurd (omega (arith, h))
kept-before t k (invariant_reads_input at) h b = absurd (omega (arith, h))
kept-before t k (invariant_false at) h b = absurd (omega (arith, h))
kept-before t k (too_large nodes depth) h b = absurd (omega (arith, h))
kept-before t k (too_many_choices count) h b = absurd (omega (arith, h))
