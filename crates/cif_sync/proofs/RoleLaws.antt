-- The lists by event are the roles of the net.
use Rattle.std.proofs.Common.{◌≡◌, ℕ, zero, suc, ◌+◌, ◌<◌, ◌≤◌, ◌^◌, Bool, true, false, ◌&&◌, ◌||◌, nat_eq, nat_le, List, [], ◌∷◌, length, map, filter, slice_index_or, refl, sym, ◌∙◌, ap, subst, if◌then◌else◌, arith}
use Rattle.std.specs.List.{list_all, list_any, enumerate_from, range_with_len, AllByRecursion}
use Rattle.std.proofs.lemmas.Bool.Decides.{nat_tests}
use Rattle.std.proofs.lemmas.List.FromFn.{get_or-map-range_with_len}
use Rattle.cif_system.specs.System.{Role, sending, receiving}
use Rattle.cif_system.specs.Step.{same_role}
use Rattle.cif_system.proofs.Lists.{map-length}
use Rattle.cif_net_model.specs.Net as n
use Rattle.cif_net_model.specs.Facts.{has, auto_stands, is_net, things}
use Rattle.cif_net_model.specs.Listing.{NetRoles, syncs_on, monitors_event, is_edge_for, uses_event, numbers_of, event_roles, roles_of}
use Rattle.cif_net_model.proofs.Passing.{and-left, and-right}
use Rattle.cif_net.specs.declared.automata.NetEdge.{NetEdge}
use Rattle.cif_net.specs.declared.automata.Auto.{Auto}
use Rattle.cif_net.specs.declared.plain.Plain.{Plain}
use Rattle.cif_net.specs.View.{net_tree, auto_tree, edge_tree, event_tree, role_of}
use Rattle.cif_sync.specs.Columns.{events_in, noted_by, alphabets, monitored, used, roles_at, roles_by_event}
use Rattle.cif_sync.proofs.BucketLaws.{passing, each-noted}

-- ---- what a net keeps

net-kept : (plain : Plain) → is_net (net_tree plain.net) ≡ true
net-kept plain = and-left _ _ (and-left _ _ (and-left _ _ plain.plain))

autos-kept : (x : n.Net) → is_net x ≡ true → list_all (auto_stands x) x.autos ≡ true
autos-kept x h = and-right _ _ (and-left _ _ (and-left _ _ (and-left _ _ (and-left _ _ h))))

things-kept : (x : n.Net) → is_net x ≡ true → nat_le (things x) 100000 ≡ true
things-kept x h =
    and-left _ _ (and-left _ _ (and-left _ _ (and-left _ _ (and-left _ _ (and-left _ _ (and-left _ _ (and-left _ _ h)))))))

pub few_automata : (plain : Plain) → length plain.net.autos < 2 ^ 32
few_automata plain =
    let h : nat_le (things (net_tree plain.net)) 100000 ≡ true = things-kept (net_tree plain.net) (net-kept plain) in
    let k : things (net_tree plain.net) ≤ 100000 = grind (arith, nat_tests) in
    let m : length (map auto_tree plain.net.autos) ≡ length plain.net.autos = map-length auto_tree plain.net.autos in
    omega arith

-- monitored events stand in the alphabet
monitors-kept : (x : n.Net) (a : n.NetAuto) → auto_stands x a ≡ true → list_all (has a.alphabet) a.monitors ≡ true
monitors-kept x a h = and-right _ _ (and-left _ _ h)

-- ---- the same test of an automaton

within : (e : ℕ) (all some : List ℕ) → list_all (has all) some ≡ true → list_any (nat_eq e) some ≡ true → list_any (nat_eq e) all ≡ true
within e all [] h k = absurd cc
within e all (m ∷ some) h k = by (nat_eq e m) refl k (within e all some (and-right _ _ h))
  where
    by : (t : Bool) → nat_eq e m ≡ t → (t || list_any (nat_eq e) some) ≡ true → (list_any (nat_eq e) some ≡ true → list_any (nat_eq e) all ≡ true) → list_any (nat_eq e) all ≡ true
    by true q r i = let s : m ≡ e = grind (arith, nat_tests) in subst (λ j. has all j ≡ true) s (and-left _ _ h)
    by false q r i = i r

same-test : (a b : ℕ) → nat_eq a b ≡ nat_eq b a
same-test a b =
    elim (nat_eq a b) as (λ t. nat_eq a b ≡ t → t ≡ nat_eq b a) [
      | true ↦ λ h. let g : nat_eq b a ≡ true = grind (arith, nat_tests) in sym g
      | false ↦ λ h. let g : nat_eq b a ≡ false = grind (arith, nat_tests) in sym g
    ] refl

implied : (a b : Bool) → (b ≡ true → a ≡ true) → b ≡ (a && b)
implied true b h = refl
implied false true h = absurd (let k : false ≡ true = h refl in cc)
implied false false h = refl

same-uses : (p : Role) (e : ℕ) (xs : List NetEdge) → list_any (nat_eq e) (events_in p xs) ≡ list_any (is_edge_for p e) (map edge_tree xs)
same-uses p e [] = refl
same-uses p e (x ∷ xs) = by (same_role p (role_of x.role)) (same-uses p e xs)
  where
    by : (t : Bool) → list_any (nat_eq e) (events_in p xs) ≡ list_any (is_edge_for p e) (map edge_tree xs)
        → list_any (nat_eq e) (if t then x.event ∷ events_in p xs else events_in p xs) ≡ ((t && nat_eq x.event e) || list_any (is_edge_for p e) (map edge_tree xs))
    by true h = let s : nat_eq e x.event ≡ nat_eq x.event e = same-test e x.event in ap (λ b. b || list_any (nat_eq e) (events_in p xs)) s ∙ ap (λ b. nat_eq x.event e || b) h
    by false h = h

-- ---- the automata that pass

all-of : {A : Type 0} (P : A → Type 0) → ((x : A) → P x) → (xs : List A) → AllByRecursion P xs
all-of P h [] = tt
all-of P h (x ∷ xs) = (h x, all-of P h xs)

all-map : {A B : Type 0} (P : A → Type 0) (t : B → Bool) (g : A → B) → ((x : A) → t (g x) ≡ true → P x) → (xs : List A) → list_all t (map g xs) ≡ true → AllByRecursion P xs
all-map P t g h [] k = tt
all-map P t g h (x ∷ xs) k = (h x (and-left _ _ k), all-map P t g h xs (and-right _ _ k))

passing-same : {A B : Type 0} (p : List ℕ → Bool) (f : A → List ℕ) (q : B → Bool) (g : A → B) (k : ℕ) (xs : List A)
    → AllByRecursion (λ x. p (f x) ≡ q (g x)) xs → passing p k (map f xs) ≡ passing q k (map g xs)
passing-same p f q g k [] h = refl
passing-same p f q g k (x ∷ xs) h =
    ap (λ t. map (λ y. y.0) (if t then (k, f x) ∷ filter (λ y. p y.1) (enumerate_from (k + 1) (map f xs)) else filter (λ y. p y.1) (enumerate_from (k + 1) (map f xs)))) h.0
    ∙ by (q (g x)) (passing-same p f q g (k + 1) xs h.1)
  where
    by : (t : Bool) → passing p (k + 1) (map f xs) ≡ passing q (k + 1) (map g xs)
        → map (λ y. y.0) (if t then (k, f x) ∷ filter (λ y. p y.1) (enumerate_from (k + 1) (map f xs)) else filter (λ y. p y.1) (enumerate_from (k + 1) (map f xs)))
        ≡ map (λ y. y.0) (if t then (k, g x) ∷ filter (λ y. q y.1) (enumerate_from (k + 1) (map g xs)) else filter (λ y. q y.1) (enumerate_from (k + 1) (map g xs)))
    by true r = ap (λ ys. k ∷ ys) r
    by false r = r

-- the list of an event has the automata that pass
list-at : (f : Auto → List ℕ) (q : n.NetAuto → Bool) (events : ℕ) (autos : List Auto) (e : ℕ) → e < events
    → AllByRecursion (λ (a : Auto). list_any (nat_eq e) (f a) ≡ q (auto_tree a)) autos → slice_index_or (noted_by f events autos) e [] ≡ numbers_of q (map auto_tree autos)
list-at f q events autos e l h =
    ap (λ t. slice_index_or t e []) (each-noted (map f autos) events)
    ∙ get_or-map-range_with_len (λ j. passing (list_any (nat_eq j)) 0 (map f autos)) 0 events e e [] l (omega arith)
    ∙ passing-same (list_any (nat_eq e)) f q auto_tree 0 autos h

same-range : {A : Type 0} (f g : ℕ → A) (i m : ℕ) → ((j : ℕ) → j < i + m → f j ≡ g j) → map f (range_with_len i m) ≡ map g (range_with_len i m)
same-range f g i zero h = refl
same-range f g i (suc m) h =
    ap (λ x. x ∷ map f (range_with_len (i + 1) m)) (h i (omega arith)) ∙ ap (λ xs. g i ∷ xs) (same-range f g (i + 1) m (λ j l. h j (omega arith)))

made : (a b c d : List ℕ) → NetRoles
made a b c d = record { syncs = a; monitors = b; sends = c; receives = d }

-- the roles in one event
at-event : (plain : Plain) (events e : ℕ) → e < events
    → roles_at (alphabets events plain.net.autos) (monitored events plain.net.autos) (used sending events plain.net.autos) (used receiving events plain.net.autos) e
    ≡ event_roles (net_tree plain.net) e
unfolding made
at-event plain events e l =
    let autos : List Auto = plain.net.autos in
    let all : List n.NetAuto = map auto_tree autos in
    let x : n.Net = net_tree plain.net in
    let sy : slice_index_or (alphabets events autos) e [] ≡ numbers_of (syncs_on e) all =
    list-at (λ (a : Auto). a.alphabet) (syncs_on e) events autos e l (all-of (λ (a : Auto). list_any (nat_eq e) a.alphabet ≡ syncs_on e (auto_tree a)) (λ a. refl) autos) in
    let mo : slice_index_or (monitored events autos) e [] ≡ numbers_of (monitors_event e) all =
    list-at (λ (a : Auto). a.monitors) (monitors_event e) events autos e l
    (all-map (λ (a : Auto). list_any (nat_eq e) a.monitors ≡ monitors_event e (auto_tree a)) (auto_stands x) auto_tree
    (λ a q. implied (list_any (nat_eq e) a.alphabet) (list_any (nat_eq e) a.monitors) (within e a.alphabet a.monitors (monitors-kept x (auto_tree a) q)))
    autos (autos-kept x (net-kept plain))) in
    let se : slice_index_or (used sending events autos) e [] ≡ numbers_of (uses_event sending e) all =
    list-at (λ (a : Auto). events_in sending a.edges) (uses_event sending e) events autos e l
    (all-of (λ (a : Auto). list_any (nat_eq e) (events_in sending a.edges) ≡ uses_event sending e (auto_tree a)) (λ a. same-uses sending e a.edges) autos) in
    let re : slice_index_or (used receiving events autos) e [] ≡ numbers_of (uses_event receiving e) all =
    list-at (λ (a : Auto). events_in receiving a.edges) (uses_event receiving e) events autos e l
    (all-of (λ (a : Auto). list_any (nat_eq e) (events_in receiving a.edges) ≡ uses_event receiving e (auto_tree a)) (λ a. same-uses receiving e a.edges) autos) in
    ap (λ z. made z (slice_index_or (monitored events autos) e []) (slice_index_or (used sending events autos) e []) (slice_index_or (used receiving events autos) e [])) sy
    ∙ ap (λ z. made (numbers_of (syncs_on e) all) z (slice_index_or (used sending events autos) e []) (slice_index_or (used receiving events autos) e [])) mo
    ∙ ap (λ z. made (numbers_of (syncs_on e) all) (numbers_of (monitors_event e) all) z (slice_index_or (used receiving events autos) e [])) se
    ∙ ap (λ z. made (numbers_of (syncs_on e) all) (numbers_of (monitors_event e) all) (numbers_of (uses_event sending e) all) z) re

pub roles_are : (plain : Plain) → roles_by_event (length plain.net.events) plain.net.autos ≡ roles_of (net_tree plain.net)
roles_are plain =
    let events : ℕ = length plain.net.events in
    let autos : List Auto = plain.net.autos in
    same-range (roles_at (alphabets events autos) (monitored events autos) (used sending events autos) (used receiving events autos)) (event_roles (net_tree plain.net)) 0 events
    (λ j l. at-event plain events j (omega arith))
    ∙ ap (λ m. map (event_roles (net_tree plain.net)) (range_with_len 0 m)) (sym (map-length event_tree plain.net.events))
