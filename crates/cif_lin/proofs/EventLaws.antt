-- The choices that code lists for an event are those of the net.
use Rattle.std.proofs.Common.{◌≡◌, ℕ, suc, ◌+◌, Bool, true, false, not, ◌&&◌, ◌||◌, nat_eq, List, [], ◌∷◌, map, filter, Option, Some, None, slice_get, refl, sym, ◌∙◌, ap, subst, if◌then◌else◌, arith}
use Rattle.std.specs.List.{list_any, enumerate_from, AllByRecursion}
use Rattle.cif_system.specs.System.{Role, syncing, sending, receiving}
use Rattle.cif_system.specs.Step.{Choice, numbered, is_for, has_edge, is_party}
use Rattle.cif_system.specs.Choices.{product_of, edges_for, options, options_between, plain_choices}
use Rattle.cif_net_model.specs.Net.{NetEdge, NetAuto, Net}
use Rattle.cif_net_model.specs.Meaning.{edge_meant, automaton_in, system_of_net}
use Rattle.cif_net_model.specs.Listing.{NetChoice, syncs_on, uses_event, is_edge_for, numbers_of, event_roles, all_hold, fails, opens, linear_choice}
use Rattle.cif_lin.specs.Pieces.{Piece, no_piece, Cell, piece_of}
use Rattle.cif_lin.specs.Cells.{numbers_for, edges_at, sync_options, sync_at, sync_cell, cell_between, all_at, is_empty, synced}
use Rattle.cif_lin.proofs.PieceLaws.{map-map, list_if, piece}
use Rattle.cif_lin.proofs.CellLaws.{numbers-same, options-same, sync-pieces, edge-pieces, chosen}

-- ---- lists with numbers

enumerated : {A B : Type 0} (h : A → B) (i : ℕ) (xs : List A) → map (λ x. h x.1) (enumerate_from i xs) ≡ map h xs
enumerated h i [] = refl
enumerated h i (x ∷ xs) = ap (λ ys. h x ∷ ys) (enumerated h (i + 1) xs)

renumbered : {A B C : Type 0} (h : A → B) (f : ℕ × B → C) (i : ℕ) (xs : List A) → map f (enumerate_from i (map h xs)) ≡ map (λ x. f (x.0, h x.1)) (enumerate_from i xs)
renumbered h f i [] = refl
renumbered h f i (x ∷ xs) = ap (λ ys. f (i, h x) ∷ ys) (renumbered h f (i + 1) xs)

keys-from : {A : Type 0} (P : ℕ × A → Type 0) (all : List A) → ((k : ℕ) (a : A) → slice_get all k ≡ Some a → P (k, a)) → (i : ℕ) (xs : List A)
    → ((j : ℕ) (y : A) → slice_get xs j ≡ Some y → slice_get all (i + j) ≡ Some y) → AllByRecursion P (enumerate_from i xs)
keys-from P all h i [] at = tt
keys-from P all h i (x ∷ xs) at =
    let m : i + 0 ≡ i = omega arith in
    (h i x (subst (λ k. slice_get all k ≡ Some x) m (at 0 x refl)), keys-from P all h (i + 1) xs (λ j y g. let w : i + suc j ≡ i + 1 + j = omega arith in subst (λ k. slice_get all k ≡ Some y) w (at (suc j) y g)))

all-keys : {A : Type 0} (P : ℕ × A → Type 0) (all : List A) → ((k : ℕ) (a : A) → slice_get all k ≡ Some a → P (k, a)) → AllByRecursion P (enumerate_from 0 all)
all-keys P all h = keys-from P all h 0 all (λ j y g. let w : j ≡ 0 + j = omega arith in subst (λ k. slice_get all k ≡ Some y) w g)

-- the numbers from i on of those that pass
abbrev pub passing : {A : Type 0} → (ℕ × A → Bool) → ℕ → List A → List ℕ
passing p i xs = map (λ x. x.0) (filter p (enumerate_from i xs))

none-passes : {A : Type 0} (q : A → Bool) (i : ℕ) (xs : List A) → is_empty (passing (λ x. q x.1) i xs) ≡ not (list_any q xs)
none-passes q i [] = refl
none-passes q i (x ∷ xs) = by (q x) (none-passes q (i + 1) xs)
  where
    by : (t : Bool) → is_empty (passing (λ y. q y.1) (i + 1) xs) ≡ not (list_any q xs)
        → is_empty (map (λ y. y.0) (if t then (i, x) ∷ filter (λ y. q y.1) (enumerate_from (i + 1) xs) else filter (λ y. q y.1) (enumerate_from (i + 1) xs))) ≡ not (t || list_any q xs)
    by true r = refl
    by false r = r

-- ---- who takes part

pub has-same : (n : Net) (p : Role) (e : ℕ) (xs : List NetEdge) → list_any (is_for p e) (map (edge_meant n) xs) ≡ list_any (is_edge_for p e) xs
has-same n p e [] = refl
has-same n p e (x ∷ xs) = ap (λ b. is_edge_for p e x || b) (has-same n p e xs)

regrouped : (a b c p q r : Bool) → ((a || b || c) || (p || q || r)) ≡ ((a || p) || (b || q) || (c || r))
regrouped true b c p q r = refl
regrouped false true c true q r = refl
regrouped false true c false q r = refl
regrouped false false true true q r = refl
regrouped false false true false true r = refl
regrouped false false true false false r = refl
regrouped false false false p q r = refl

parties-same : (n : Net) (e : ℕ) (ds : List NetAuto) → list_any (is_party e) (map (automaton_in n) ds) ≡ (list_any (syncs_on e) ds || list_any (uses_event sending e) ds || list_any (uses_event receiving e) ds)
parties-same n e [] = refl
parties-same n e (a ∷ ds) =
    ap (λ b. (syncs_on e a || b || has_edge receiving e (automaton_in n a)) || list_any (is_party e) (map (automaton_in n) ds)) (has-same n sending e a.edges)
    ∙ ap (λ b. (syncs_on e a || uses_event sending e a || b) || list_any (is_party e) (map (automaton_in n) ds)) (has-same n receiving e a.edges)
    ∙ ap (λ b. (syncs_on e a || uses_event sending e a || uses_event receiving e a) || b) (parties-same n e ds)
    ∙ regrouped (syncs_on e a) (uses_event sending e a) (uses_event receiving e a) (list_any (syncs_on e) ds) (list_any (uses_event sending e) ds) (list_any (uses_event receiving e) ds)

none-of_three : (a b c : Bool) → (not a && not b && not c) ≡ not (a || b || c)
none-of_three true b c = refl
none-of_three false true c = refl
none-of_three false false c = refl

-- one that takes no part adds nothing
out-piece : (e k : ℕ) (a : NetAuto) → syncs_on e a ≡ false → piece e ((k, a), None) ≡ no_piece
out-piece e k a h =
    ap (λ (b : Bool). record {
      moves = list_if (if b then Some (record { auto = k; edge = None }) else None);
      tests = if b then map (λ x. fails (all_hold (opens k x))) (filter (is_edge_for syncing e) a.edges) else [];
      edges = [];
    }) h

-- what an automaton may do, and the parts that come of it
abbrev parts : ℕ → ℕ → NetAuto → List (Option ℕ) → List Piece
parts e k a os = map (λ o. piece e ((k, a), o)) os

abbrev cell_parts : List NetAuto → Cell → List Piece
cell_parts autos c = map (piece_of autos c) c.options

module _ (n : Net) (e : ℕ) where
  abbrev pub choices_of : List Choice → List NetChoice
  choices_of chs = map (λ ch. linear_choice n (e, ch)) chs

  out-options : (k : ℕ) (a : NetAuto) → syncs_on e a ≡ false → parts e k a (options e (automaton_in n a)) ≡ no_piece ∷ []
  out-options k a h =
      ap (parts e k a) (options-same n e a ∙ ap (λ b. if b then sync_options e a else None ∷ []) h)
      ∙ ap (λ p. p ∷ []) (out-piece e k a h)

  sync-same : (k : ℕ) (a : NetAuto) → slice_get n.autos k ≡ Some a → syncs_on e a ≡ true
      → map (piece_of n.autos (record { auto = k; options = sync_at n.autos e k })) (sync_at n.autos e k) ≡ parts e k a (options e (automaton_in n a))
  sync-same k a here h =
      let q : sync_at n.autos e k ≡ sync_options e a = ap (λ o. elim o [ None ↦ [] | Some b ↦ sync_options e b ]) here in
      ap (λ os. map (piece_of n.autos (record { auto = k; options = os })) os) q
      ∙ sync-pieces n.autos e k a here h
      ∙ sym (ap (parts e k a) (options-same n e a ∙ ap (λ b. if b then sync_options e a else None ∷ []) h))

  edges-same : (p : Role) (k : ℕ) (a : NetAuto) → slice_get n.autos k ≡ Some a
      → map (piece_of n.autos (record { auto = k; options = edges_at n.autos p e k })) (edges_at n.autos p e k) ≡ parts e k a (edges_for p e (automaton_in n a))
  edges-same p k a here =
      let q : edges_at n.autos p e k ≡ numbers_for p e 0 a.edges = ap (λ o. elim o [ None ↦ [] | Some b ↦ numbers_for p e 0 b.edges ]) here in
      ap (λ os. map (piece_of n.autos (record { auto = k; options = os })) os) q
      ∙ edge-pieces n.autos e k a here p
      ∙ sym (ap (parts e k a) (numbers-same n p e 0 a.edges))

  -- ---- an event that is no channel

  all-synced : all_at n.autos e (map (sync_cell n.autos e) (numbers_of (syncs_on e) n.autos)) ≡ choices_of (product_of (map (options e) (map (automaton_in n) n.autos)))
  all-synced =
      chosen n e (λ k. options e (automaton_in n k.1)) (λ k. syncs_on e k.1) (sync_cell n.autos e)
      (all-keys (λ k. syncs_on e k.1 ≡ false → parts e k.0 k.1 (options e (automaton_in n k.1)) ≡ no_piece ∷ []) n.autos (λ k a here. out-options k a))
      (all-keys (λ k. syncs_on e k.1 ≡ true → cell_parts n.autos (sync_cell n.autos e k.0) ≡ parts e k.0 k.1 (options e (automaton_in n k.1))) n.autos (λ k a here. sync-same k a here))
      ∙ ap (λ xss. choices_of (product_of xss)) (enumerated (λ a. options e (automaton_in n a)) 0 n.autos ∙ sym (map-map (options e) (automaton_in n) n.autos))

  pub synced-choices : synced n.autos e (event_roles n e) ≡ choices_of (plain_choices (system_of_net n) e)
  synced-choices =
      ap (λ t. if t then [] else all_at n.autos e (map (sync_cell n.autos e) (numbers_of (syncs_on e) n.autos))) none
      ∙ by (list_any (is_party e) (map (automaton_in n) n.autos))
    where
      none : (is_empty (numbers_of (syncs_on e) n.autos) && is_empty (numbers_of (uses_event sending e) n.autos) && is_empty (numbers_of (uses_event receiving e) n.autos)) ≡ not (list_any (is_party e) (map (automaton_in n) n.autos))
      none =
          ap (λ b. b && is_empty (numbers_of (uses_event sending e) n.autos) && is_empty (numbers_of (uses_event receiving e) n.autos)) (none-passes (syncs_on e) 0 n.autos)
          ∙ ap (λ b. not (list_any (syncs_on e) n.autos) && b && is_empty (numbers_of (uses_event receiving e) n.autos)) (none-passes (uses_event sending e) 0 n.autos)
          ∙ ap (λ b. not (list_any (syncs_on e) n.autos) && not (list_any (uses_event sending e) n.autos) && b) (none-passes (uses_event receiving e) 0 n.autos)
          ∙ none-of_three (list_any (syncs_on e) n.autos) (list_any (uses_event sending e) n.autos) (list_any (uses_event receiving e) n.autos)
          ∙ ap not (sym (parties-same n e n.autos))

      by : (t : Bool) → (if not t then [] else all_at n.autos e (map (sync_cell n.autos e) (numbers_of (syncs_on e) n.autos)))
          ≡ choices_of (if t then product_of (map (options e) (map (automaton_in n) n.autos)) else [])
      by true = all-synced
      by false = refl

  -- ---- a channel

  abbrev pairs : ℕ → ℕ → ℕ × NetAuto → List (Option ℕ)
  pairs i j k = options_between e i j (k.0, automaton_in n k.1)

  abbrev pub among : ℕ → ℕ → ℕ × NetAuto → Bool
  among i j k = nat_eq k.0 i || (nat_eq k.0 j || syncs_on e k.1)

  out-between : (i j k : ℕ) (a : NetAuto) → among i j (k, a) ≡ false → parts e k a (pairs i j (k, a)) ≡ no_piece ∷ []
  out-between i j k a = by (nat_eq k i) (nat_eq k j)
    where
      by : (b c : Bool) → (b || (c || syncs_on e a)) ≡ false
          → parts e k a (if b then edges_for sending e (automaton_in n a) else (if c then edges_for receiving e (automaton_in n a) else options e (automaton_in n a))) ≡ no_piece ∷ []
      by true c h = absurd cc
      by false true h = absurd cc
      by false false h = out-options k a h

  cell-between : (i j k : ℕ) (a : NetAuto) → slice_get n.autos k ≡ Some a → among i j (k, a) ≡ true → cell_parts n.autos (cell_between n.autos e i j k) ≡ parts e k a (pairs i j (k, a))
  cell-between i j k a here = by (nat_eq k i) (nat_eq k j)
    where
      by : (b c : Bool) → (b || (c || syncs_on e a)) ≡ true
          → cell_parts n.autos (record { auto = k; options = if b then edges_at n.autos sending e k else (if c then edges_at n.autos receiving e k else sync_at n.autos e k) })
          ≡ parts e k a (if b then edges_for sending e (automaton_in n a) else (if c then edges_for receiving e (automaton_in n a) else options e (automaton_in n a)))
      by true c h = edges-same sending k a here
      by false true h = edges-same receiving k a here
      by false false h = sync-same k a here h

  pub all-between : (i j : ℕ) → all_at n.autos e (map (cell_between n.autos e i j) (passing (among i j) 0 n.autos)) ≡ choices_of (product_of (map (options_between e i j) (numbered (system_of_net n))))
  all-between i j =
      chosen n e (pairs i j) (among i j) (cell_between n.autos e i j)
      (all-keys (λ k. among i j k ≡ false → parts e k.0 k.1 (pairs i j k) ≡ no_piece ∷ []) n.autos (λ k a here. out-between i j k a))
      (all-keys (λ k. among i j k ≡ true → cell_parts n.autos (cell_between n.autos e i j k.0) ≡ parts e k.0 k.1 (pairs i j k)) n.autos (λ k a here. cell-between i j k a here))
      ∙ ap (λ xss. choices_of (product_of xss)) (sym (renumbered (automaton_in n) (options_between e i j) 0 n.autos))
