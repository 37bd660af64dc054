-- What is added to the choices of a table makes them the choices with exclusions and state invariants.
use Rattle.std.proofs.Common.{◌≡◌, ℕ, zero, suc, ◌+◌, ◌<◌, ◌≤◌, ◌^◌, Bool, true, false, nat_eq, nat_le, List, [], ◌∷◌, ◌++◌, length, map, filter, flat_map, Option, Some, None, option_map, slice_get, slice_set, get_or, take, drop, slice_index_or, refl, sym, ◌∙◌, ap, subst, if◌then◌else◌, arith}
use Rattle.std.specs.List.{enumerate_from, range_with_len, AllByRecursion}
use Rattle.std.proofs.lemmas.Bool.Decides.{nat_tests}
use Rattle.std.proofs.lemmas.List.FromFn.{get_or-map-range_with_len}
use Rattle.cif_system.specs.Step.{Choice}
use Rattle.cif_system.specs.Choices.{choices}
use Rattle.cif_system.proofs.Lists.{map-length}
use Rattle.cif_net_expr.specs.Tree as t
use Rattle.cif_net_expr.specs.View.{view, exprs_of as seen_exprs}
use Rattle.cif_net_expr.specs.declared.expressions.NetExpr.{NetExpr, roll-NetExpr}
use Rattle.cif_net_expr.specs.declared.expressions.NetForm.TheVariants as form
use Rattle.cif_net_expr.proofs.ViewLemmas.{view-expr, view_form-Not, view_form-And}
use Rattle.cif_net_model.specs.Net as n
use Rattle.cif_net_model.specs.Facts.{things}
use Rattle.cif_net_model.specs.Meaning.{system_of_net, event_in}
use Rattle.cif_net_model.specs.Listing.{NetChoice, exprs_of, all_hold, fails, exclusion_test, event_test, choice_test, linear_choice, guarded_choice, listed, linear_of, guarded_of}
use Rattle.cif_net_model.proofs.Passing.{and-left}
use Rattle.cif_net_model.proofs.PartLaws.{all-append}
use Rattle.cif_net.specs.declared.net.Net.{Net}
use Rattle.cif_net.specs.declared.plain.Plain.{Plain}
use Rattle.cif_net.specs.declared.predicates.Exclusion.{Exclusion}
use Rattle.cif_net.specs.View.{net_tree, exclusion_tree, invariant_tree}
use Rattle.cif_guard.specs.Tests.{test_at, tests_at, list_of, members, with_tests, exclusion_events, exclusion_places, guarded_from, all_guarded}

-- ---- what code makes

pub denied : (e : NetExpr) → view (roll-NetExpr (record { form = form.Not e; at = 0 })) ≡ fails (view e)
denied e = view-expr (form.Not e) 0 ∙ ap (λ f. t.net_expr f 0) (view_form-Not e)

same-exprs : (es : List t.NetExpr) → seen_exprs es ≡ exprs_of es
same-exprs [] = refl
same-exprs (e ∷ es) = ap (λ xs. t.net_exprs e xs) (same-exprs es)

pub conjoined : (es : List NetExpr) → view (roll-NetExpr (record { form = form.And es; at = 0 })) ≡ all_hold (map view es)
conjoined es = view-expr (form.And es) 0 ∙ ap (λ f. t.net_expr f 0) (view_form-And es) ∙ ap (λ xs. t.net_expr (t.n_and xs) 0) (same-exprs (map view es))

view-append : (xs ys : List NetExpr) → map view (xs ++ ys) ≡ map view xs ++ map view ys
view-append [] ys = refl
view-append (x ∷ xs) ys = ap (λ zs. view x ∷ zs) (view-append xs ys)

pub joined : (xs ys all : List NetExpr) (zs : List t.NetExpr) → all ≡ xs ++ ys → map view xs ≡ zs → view (roll-NetExpr (record { form = form.And all; at = 0 })) ≡ all_hold (zs ++ map view ys)
joined xs ys all zs h k = conjoined all ∙ ap all_hold (ap (map view) h ∙ view-append xs ys ∙ ap (λ us. us ++ map view ys) k)

members-all : (es : List t.NetExpr) → list_of (exprs_of es) ≡ es
members-all [] = refl
members-all (e ∷ es) = ap (λ xs. e ∷ xs) (members-all es)

-- the members of a conjunction as it is read
pub parted : (parts : List NetExpr) (at : ℕ) → map view parts ≡ members (view (roll-NetExpr (record { form = form.And parts; at = at })))
parted parts at =
    sym (ap members (view-expr (form.And parts) at ∙ ap (λ f. t.net_expr f at) (view_form-And parts)) ∙ ap list_of (same-exprs (map view parts)) ∙ members-all (map view parts))

get-map : (xs : List Exclusion) (k : ℕ) (o : Option Exclusion) → slice_get xs k ≡ o → slice_get (map exclusion_tree xs) k ≡ option_map exclusion_tree o
get-map [] k o h = ap (option_map exclusion_tree) h
get-map (x ∷ xs) zero o h = ap (option_map exclusion_tree) h
get-map (x ∷ xs) (suc k) o h = get-map xs k o h

pub test-some : (xs : List Exclusion) (k : ℕ) (x : Exclusion) → slice_get xs k ≡ Some x → test_at (map exclusion_tree xs) k ≡ exclusion_test (exclusion_tree x) ∷ []
test-some xs k x h = ap (λ o. elim o [ None ↦ [] | Some y ↦ exclusion_test y ∷ [] ]) (get-map xs k (Some x) h)

pub test-none : (xs : List Exclusion) (k : ℕ) → slice_get xs k ≡ None → test_at (map exclusion_tree xs) k ≡ []
test-none xs k h = ap (λ o. elim o [ None ↦ [] | Some y ↦ exclusion_test y ∷ [] ]) (get-map xs k None h)

pub range-more : (i m : ℕ) → range_with_len i (suc m) ≡ range_with_len i m ++ (i + m) ∷ []
range-more i zero = let e : i ≡ i + 0 = omega arith in ap (λ k. k ∷ []) e
range-more i (suc m) = let e : i + 1 + m ≡ i + suc m = omega arith in ap (λ ks. i ∷ ks) (range-more (i + 1) m ∙ ap (λ k. range_with_len (i + 1) m ++ k ∷ []) e)

-- ---- a list that is changed item by item

abbrev head_or : {A : Type 0} → A → List A → A
head_or d [] = d
head_or d (x ∷ xs) = x

abbrev rest_of : {A : Type 0} → List A → List A
rest_of [] = []
rest_of (x ∷ xs) = xs

-- the items before place k are seen changed, and now the one there too
pub changed_further : {A B : Type 0} (see : A → B) (g : B → B) (xs : List A) (all : List B) (k : ℕ) (d new : A)
    → map see xs ≡ map g (take k all) ++ drop k all → k < length xs → see new ≡ g (see (get_or xs k d))
    → map see (slice_set xs k new) ≡ map g (take (suc k) all) ++ drop (suc k) all
changed_further see g [] all k d new h l n = let no : ⊥ = omega arith in absurd no
changed_further see g (x ∷ xs) [] zero d new h l n = cc
changed_further see g (x ∷ xs) [] (suc k) d new h l n = cc
changed_further see g (x ∷ xs) (y ∷ ys) zero d new h l n =
    ap (λ z. z ∷ map see xs) (n ∙ ap g (ap (head_or y) h)) ∙ ap (λ zs. g y ∷ zs) (ap rest_of h)
changed_further see g (x ∷ xs) (y ∷ ys) (suc k) d new h l n =
    ap (λ z. z ∷ map see (slice_set xs k new)) (ap (head_or (g y)) h)
    ∙ ap (λ zs. g y ∷ zs) (changed_further see g xs ys k d new (ap rest_of h) (omega arith) n)

-- ---- counts

pub exclusions_counted : (xs : List Exclusion) → length (exclusion_events (map exclusion_tree xs)) ≡ length xs
exclusions_counted xs = map-length (λ (x : n.NetExclusion). x.event) (map exclusion_tree xs) ∙ map-length exclusion_tree xs

net-kept : (net : Net) → nat_le (things (net_tree net)) 100000 ≡ true
net-kept net =
    and-left _ _ (and-left _ _ (and-left _ _ (and-left _ _ (and-left _ _ (and-left _ _ (and-left _ _ (and-left _ _ net.fits)))))))

pub few_exclusions : (net : Net) → length net.exclusions < 2 ^ 32
few_exclusions net =
    let h : nat_le (things (net_tree net)) 100000 ≡ true = net-kept net in
    let k : things (net_tree net) ≤ 100000 = grind (arith, nat_tests) in
    let m : length (map exclusion_tree net.exclusions) ≡ length net.exclusions = map-length exclusion_tree net.exclusions in
    omega arith

pub few_invariants : (net : Net) → length net.invariants < 2 ^ 32
few_invariants net =
    let h : nat_le (things (net_tree net)) 100000 ≡ true = net-kept net in
    let k : things (net_tree net) ≤ 100000 = grind (arith, nat_tests) in
    let m : length (map invariant_tree net.invariants) ≡ length net.invariants = map-length invariant_tree net.invariants in
    omega arith

-- ---- the tests of an event

same-test : (a b : ℕ) → nat_eq a b ≡ nat_eq b a
same-test a b =
    elim (nat_eq a b) as (λ t. nat_eq a b ≡ t → t ≡ nat_eq b a) [
      | true ↦ λ h. let g : nat_eq b a ≡ true = grind (arith, nat_tests) in sym g
      | false ↦ λ h. let g : nat_eq b a ≡ false = grind (arith, nat_tests) in sym g
    ] refl

-- the exclusions of event e among those from place k on
abbrev places_from : ℕ → ℕ → List n.NetExclusion → List ℕ
places_from e k xs = map (λ y. y.0) (filter (λ y. nat_eq e y.1) (enumerate_from k (exclusion_events xs)))

tests-from : (e : ℕ) (all : List n.NetExclusion) (k : ℕ) (xs : List n.NetExclusion)
    → ((i : ℕ) (y : n.NetExclusion) → slice_get xs i ≡ Some y → slice_get all (k + i) ≡ Some y)
    → tests_at all (places_from e k xs) ≡ map exclusion_test (filter (λ (x : n.NetExclusion). nat_eq x.event e) xs)
tests-from e all k [] h = refl
tests-from e all k (x ∷ xs) h =
    ap (λ t. tests_at all (map (λ y. y.0) (if t then (k, x.event) ∷ filter (λ y. nat_eq e y.1) (enumerate_from (k + 1) (exclusion_events xs)) else filter (λ y. nat_eq e y.1) (enumerate_from (k + 1) (exclusion_events xs))))) (same-test e x.event)
    ∙ by (nat_eq x.event e) (tests-from e all (k + 1) xs (λ i y g. let m : k + suc i ≡ k + 1 + i = omega arith in subst (λ j. slice_get all j ≡ Some y) m (h (suc i) y g)))
  where
    by : (t : Bool) → tests_at all (places_from e (k + 1) xs) ≡ map exclusion_test (filter (λ (y : n.NetExclusion). nat_eq y.event e) xs)
        → tests_at all (map (λ y. y.0) (if t then (k, x.event) ∷ filter (λ y. nat_eq e y.1) (enumerate_from (k + 1) (exclusion_events xs)) else filter (λ y. nat_eq e y.1) (enumerate_from (k + 1) (exclusion_events xs))))
        ≡ map exclusion_test (if t then x ∷ filter (λ (y : n.NetExclusion). nat_eq y.event e) xs else filter (λ (y : n.NetExclusion). nat_eq y.event e) xs)
    by true r =
        let m : k + 0 ≡ k = omega arith in
        let g : slice_get all k ≡ Some x = subst (λ j. slice_get all j ≡ Some x) m (h 0 x refl) in
        ap (λ o. elim o [ None ↦ [] | Some y ↦ exclusion_test y ∷ [] ] ++ tests_at all (places_from e (k + 1) xs)) g
        ∙ ap (λ ts. exclusion_test x ∷ ts) r
    by false r = r

event-tests : (x : n.Net) (e : ℕ) → e < length x.events → tests_at x.exclusions (slice_index_or (exclusion_places (length x.events) x.exclusions) e []) ≡ event_test x e
event-tests x e l =
    ap (tests_at x.exclusions) (get_or-map-range_with_len (λ j. places_from j 0 x.exclusions) 0 (length x.events) e e [] l (omega arith))
    ∙ tests-from e x.exclusions 0 x.exclusions (λ i y g. let m : i ≡ 0 + i = omega arith in subst (λ j. slice_get x.exclusions j ≡ Some y) m g)

-- ---- all choices

abbrev Counted : n.Net → ℕ × Choice → Type 0
Counted x c = c.0 < length x.events

all-pairs : (x : n.Net) (e : ℕ) → e < length x.events → (chs : List Choice) → AllByRecursion (Counted x) (map (λ ch. (e, ch)) chs)
all-pairs x e l [] = tt
all-pairs x e l (ch ∷ chs) = (l, all-pairs x e l chs)

all-events : (x : n.Net) (f : ℕ → List Choice) (i m : ℕ) → i + m ≤ length x.events → AllByRecursion (Counted x) (flat_map (λ e. map (λ ch. (e, ch)) (f e)) (range_with_len i m))
all-events x f i zero h = tt
all-events x f i (suc m) h =
    all-append (Counted x) (map (λ ch. (i, ch)) (f i)) (flat_map (λ e. map (λ ch. (e, ch)) (f e)) (range_with_len (i + 1) m))
    (all-pairs x i (omega arith) (f i)) (all-events x f (i + 1) m (omega arith))

listed-counted : (x : n.Net) → AllByRecursion (Counted x) (listed (system_of_net x))
listed-counted x =
    let m : length (map event_in x.events) ≡ length x.events = map-length event_in x.events in
    all-events x (choices (system_of_net x)) 0 (length (map event_in x.events)) (omega arith)

one : (x : n.Net) (c : ℕ × Choice) → Counted x c → guarded_from x (exclusion_places (length x.events) x.exclusions) (linear_choice x c) ≡ guarded_choice x c
one x (e, ch) l =
    ap (λ ts. with_tests (linear_choice x (e, ch)) ts (length x.invariants)) (event-tests x e l)
    ∙ ap (λ ts. with_test ts) (members-all (choice_test x e ch))
  where
    with_test : List t.NetExpr → NetChoice
    with_test ts = record (linear_choice x (e, ch)) { test = all_hold (ts ++ event_test x e); invariants = range_with_len 0 (length x.invariants) }

each : (x : n.Net) (cs : List (ℕ × Choice)) → AllByRecursion (Counted x) cs → all_guarded x (map (linear_choice x) cs) ≡ map (guarded_choice x) cs
each x [] h = refl
each x (c ∷ cs) h =
    ap (λ d. d ∷ all_guarded x (map (linear_choice x) cs)) (one x c h.0) ∙ ap (λ ds. guarded_choice x c ∷ ds) (each x cs h.1)

pub guarded_are : (plain : Plain) (cs : List NetChoice) → cs ≡ linear_of (net_tree plain.net) → all_guarded (net_tree plain.net) cs ≡ guarded_of (net_tree plain.net)
guarded_are plain cs h =
    ap (all_guarded (net_tree plain.net)) h ∙ each (net_tree plain.net) (listed (system_of_net (net_tree plain.net))) (listed-counted (net_tree plain.net))
