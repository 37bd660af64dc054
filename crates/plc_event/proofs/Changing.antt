-- Which state invariants are tested after a choice, by marks on what it may change.
use Rattle.std.proofs.Common.{◌≡◌, ℕ, ◌+◌, ◌<◌, ◌≤◌, Bool, true, false, List, [], ◌∷◌, ◌++◌, map, length, filter, cond, nat_eq, get_or, drop, Option, Some, None, slice_get, refl, sym, ap, ◌∙◌, arith, if◌then◌else◌, ◌||◌}
use Rattle.std.specs.Prelude.{find, is_some, option_and_then, suc}
use Rattle.std.specs.List.{cons_option, list_any}
use Rattle.std.proofs.lemmas.Bool.Decides.{nat_tests}
use Rattle.std.proofs.lemmas.List.{drop_all, drop_more}
use Rattle.std.proofs.lemmas.List.Folds.{list_any-append}
use Rattle.cif_net_expr.specs.Tree.{NetExpr}
use Rattle.cif_net_model.specs.Exprs.{targets}
use Rattle.cif_net_model.specs.Facts.{has}
use Rattle.cif_net_model.specs.Listing.{NetMove, NetChoice, edge_at}
use Rattle.cif_net_model.specs.Net.{NetEdge, NetAuto, Net}
use Rattle.cif_net_model.specs.Reads.{Read, a_var, an_input, an_alg, a_place, the_received, names_in}
use Rattle.cif_net.specs.View.{move_tree}
use Rattle.cif_net.specs.declared.listing.Move.{Move}
use Rattle.plc_frame.specs.Events.{target_of}
use Rattle.plc_event_model.specs.Keeps.{asked, depends, invariants_at, may_change}
use Rattle.plc_event.specs.Changed.{MarksChanges, is_dependent, is_changed, predicate_at}
use Rattle.plc_event.specs.Marked.{is_marked}
use Rattle.plc_event.specs.Moved.{taken_by, takes_edge}
use Rattle.plc_event.specs.declared.changes.Changes.{Changes}

-- ---- names

pub any_joined : (p : Read → Bool) (xs ys : List Read) → list_any p (xs ++ ys) ≡ (list_any p xs || list_any p ys)
any_joined p xs ys = list_any-append p xs ys

any-same : {A : Type 0} (p q : A → Bool) (xs : List A) → ((x : A) → p x ≡ q x) → list_any p xs ≡ list_any q xs
any-same p q [] h = refl
any-same p q (x ∷ xs) h = ap (λ b. b || list_any p xs) (h x) ∙ ap (λ b. q x || b) (any-same p q xs h)

-- ---- moves

nothing-taken : (o : Option NetAuto) → option_and_then (λ (a : NetAuto). edge_at (a, None)) o ≡ None
nothing-taken None = refl
nothing-taken (Some a) = refl

-- without a move no edge is taken
pub none-taken : (n : Net) (k : ℕ) → taken_by n [] k ≡ None
none-taken n k = nothing-taken (slice_get n.autos k)

-- the first move of an automaton says what it takes
pub taken-first : (n : Net) (m : NetMove) (ms : List NetMove) (k : ℕ) → taken_by n (m ∷ ms) k ≡ (if nat_eq k m.auto then target_of n m else taken_by n ms k)
taken-first n m ms k = go (nat_eq m.auto k) refl (nat_eq k m.auto) refl
  where
    go : (b : Bool) → nat_eq m.auto k ≡ b → (d : Bool) → nat_eq k m.auto ≡ d
        → option_and_then (λ (a : NetAuto). edge_at (a, option_and_then (λ (x : NetMove). x.edge) (cond b (Some m) (find (λ (x : NetMove). nat_eq x.auto k) ms)))) (slice_get n.autos k)
        ≡ (if d then target_of n m else taken_by n ms k)
    go true is true that = let same : k ≡ m.auto = grind (arith, nat_tests) in ap (λ i. option_and_then (λ (a : NetAuto). option_and_then (slice_get a.edges) m.edge) (slice_get n.autos i)) same
    go true is false that = absurd (let same : k ≡ m.auto = grind (arith, nat_tests) in let t : nat_eq k m.auto ≡ true = grind (arith, nat_tests) in let q : true ≡ false = sym t ∙ that in cc)
    go false is true that = absurd (let same : m.auto ≡ k = grind (arith, nat_tests) in let t : nat_eq m.auto k ≡ true = grind (arith, nat_tests) in let q : true ≡ false = sym t ∙ is in cc)
    go false is false that = refl

pub takes-first : (n : Net) (m : NetMove) (ms : List NetMove) (k : ℕ) → takes_edge n (m ∷ ms) k ≡ (if nat_eq k m.auto then is_some (target_of n m) else takes_edge n ms k)
takes-first n m ms k = ap (λ (o : Option NetEdge). is_some o) (taken-first n m ms k) ∙ inside (nat_eq k m.auto)
  where
    inside : (b : Bool) → is_some (if b then target_of n m else taken_by n ms k) ≡ (if b then is_some (target_of n m) else takes_edge n ms k)
    inside true = refl
    inside false = refl

pub no-move-left : (n : Net) (moves : List Move) (k : ℕ) → takes_edge n (map move_tree (drop (length moves) moves)) k ≡ false
no-move-left n moves k =
    let past : length moves ≤ length moves = omega arith in
    ap (λ (ms : List Move). takes_edge n (map move_tree ms) k) (drop_all (length moves) moves past) ∙ ap (λ (o : Option NetEdge). is_some o) (none-taken n k)

pub move-marked : (n : Net) (moves : List Move) (i j : ℕ) (d : Move) → i < length moves → j ≡ i + 1 → (t : Bool) → t ≡ is_some (target_of n (move_tree (get_or moves i d))) → (old new : ℕ → Bool)
    → ((k : ℕ) → new k ≡ (if nat_eq k (get_or moves i d).auto then t else old k)) → ((k : ℕ) → old k ≡ takes_edge n (map move_tree (drop j moves)) k)
    → (k : ℕ) → new k ≡ takes_edge n (map move_tree (drop i moves)) k
move-marked n moves i j d within after t t_is old new turned before k =
    let x = get_or moves i d in
    turned k
    ∙ ap (λ b. if nat_eq k x.auto then b else old k) t_is
    ∙ ap (λ b. if nat_eq k x.auto then is_some (target_of n (move_tree x)) else b) (before k ∙ ap (λ l. takes_edge n (map move_tree (drop l moves)) k) after)
    ∙ sym (takes-first n (move_tree x) (map move_tree (drop (i + 1) moves)) k)
    ∙ ap (λ (ms : List Move). takes_edge n (map move_tree ms) k) (sym (drop_more moves i d within))

-- ---- marks

pub changes-marked : (n : Net) (c : NetChoice) (x : Changes) → ((v : ℕ) → is_marked x.variables.round x.variables.last v ≡ has (targets c.writes) v)
    → ((k : ℕ) → is_marked x.places.round x.places.last k ≡ takes_edge n c.moves k) → MarksChanges n c x
changes-marked n c x vars places (a_var v) = vars v
changes-marked n c x vars places (an_input k) = refl
changes-marked n c x vars places (an_alg k) = refl
changes-marked n c x vars places (a_place k) = places k
changes-marked n c x vars places the_received = refl

-- ---- invariants

module _ (n : Net) (p : NetExpr → Bool) where
  abbrev passes_at : ℕ → Bool
  passes_at k = elim (predicate_at n k) [ None ↦ false | Some e ↦ p e ]

  -- those of the numbers are those of the predicates
  passing : (ks : List ℕ) → invariants_at n (filter passes_at ks) ≡ filter p (invariants_at n ks)
  passing [] = refl
  passing (k ∷ ks) = go (predicate_at n k) refl (passing ks)
    where
      go : (o : Option NetExpr) → predicate_at n k ≡ o → invariants_at n (filter passes_at ks) ≡ filter p (invariants_at n ks)
          → invariants_at n (cond (elim o [ None ↦ false | Some e ↦ p e ]) (k ∷ filter passes_at ks) (filter passes_at ks)) ≡ filter p (cons_option o (invariants_at n ks))
      go None is rest = rest
      go (Some e) is rest = step (p e)
        where
          step : (b : Bool) → invariants_at n (cond b (k ∷ filter passes_at ks) (filter passes_at ks)) ≡ cond b (e ∷ filter p (invariants_at n ks)) (filter p (invariants_at n ks))
          step true = ap (λ (o : Option NetExpr). cons_option o (invariants_at n (filter passes_at ks))) is ∙ ap (λ es. e ∷ es) rest
          step false = rest

  counting : (ks : List ℕ) → length (filter passes_at ks) ≡ length (filter p (invariants_at n ks))
  counting [] = refl
  counting (k ∷ ks) = go (predicate_at n k) (counting ks)
    where
      go : (o : Option NetExpr) → length (filter passes_at ks) ≡ length (filter p (invariants_at n ks))
          → length (cond (elim o [ None ↦ false | Some e ↦ p e ]) (k ∷ filter passes_at ks) (filter passes_at ks)) ≡ length (filter p (cons_option o (invariants_at n ks)))
      go None rest = rest
      go (Some e) rest = step (p e)
        where
          step : (b : Bool) → length (cond b (k ∷ filter passes_at ks) (filter passes_at ks)) ≡ length (cond b (e ∷ filter p (invariants_at n ks)) (filter p (invariants_at n ks)))
          step true = ap suc rest
          step false = rest

filter-same : {A : Type 0} (p q : A → Bool) (xs : List A) → ((x : A) → p x ≡ q x) → filter p xs ≡ filter q xs
filter-same p q [] h = refl
filter-same p q (x ∷ xs) h = ap (λ b. cond b (x ∷ filter p xs) (filter p xs)) (h x) ∙ ap (λ ys. cond (q x) (x ∷ ys) ys) (filter-same p q xs h)

module _ (n : Net) (c : NetChoice) (x : Changes) (marks : MarksChanges n c x) (all : List ℕ) (all_is : all ≡ filter (is_dependent n x) c.invariants) where
  abbrev by_marks : NetExpr → Bool
  by_marks e = list_any (is_changed x) (names_in e)

  same-dependent : filter by_marks (invariants_at n c.invariants) ≡ asked n c
  same-dependent = filter-same by_marks (depends n c) (invariants_at n c.invariants) (λ e. any-same (is_changed x) (may_change n c) (names_in e) marks)

  pub dependent-are : invariants_at n all ≡ asked n c
  dependent-are = ap (invariants_at n) all_is ∙ passing n by_marks c.invariants ∙ same-dependent

  pub dependent-count : length all ≡ length (asked n c)
  dependent-count = ap (λ (ks : List ℕ). length ks) all_is ∙ counting n by_marks c.invariants ∙ ap (λ (es : List NetExpr). length es) same-dependent
