-- The nodes of the choices for an event, by what the options of each automaton weigh.
use Rattle.std.proofs.Common.{◌≡◌, ℕ, suc, ◌+◌, Bool, true, false, List, [], ◌∷◌, ◌++◌, map, length, filter, filter_map, flat_map, zip, sum_by, Option, Some, None, slice_get, refl, sym, ◌∙◌, ap, subst, if◌then◌else◌, arith}
use Rattle.std.specs.Prelude.{◌||◌, nat_eq}
use Rattle.std.specs.List.{cons_option, enumerate_from, list_any}
use Rattle.std.proofs.lemmas.List.{map-append}
use Rattle.std.proofs.lemmas.List.Sums.{sum_by-cons, sum_by-append}
use Rattle.cif_system.specs.System.{Edge, Role, syncing, sending, receiving}
use Rattle.cif_system.specs.Step.{Choice, Numbered, has_edge, is_channel, is_for, is_party, numbered}
use Rattle.cif_system.specs.Choices.{edges_for, number_if, options, options_between, product_of, having, channel_choices, plain_choices, stay}
use Rattle.cif_net_expr.specs.Tree.{NetExpr}
use Rattle.cif_net_model.specs.Net.{NetEdge, NetAuto, Net}
use Rattle.cif_net_model.specs.Meaning.{edge_meant, automaton_in, system_of_net}
use Rattle.cif_net_model.specs.Exprs.{edge_exprs}
use Rattle.cif_net_model.specs.Listing.{NetMove, syncs_on, monitors_event, is_edge_for, move_if, edge_at}
use Rattle.cif_net_model.specs.Counts.{measure, size_of, exclusions_of, invariant_exprs, choice_nodes, event_nodes}
use Rattle.cif_alg.proofs.SumLaws.{sum-same, sum-mapped, sum-flat, spread}

-- the party and the expressions of an edge
abbrev pub edge_weight : Net → NetEdge → ℕ
edge_weight n x = 1 + size_of n (edge_exprs x)

-- the edges for an event in a role
abbrev pub own_edges : Role → ℕ → List NetEdge → List NetEdge
own_edges p e xs = filter (is_edge_for p e) xs

-- where an automaton that monitors it may stay
abbrev pub stays : Bool → List ℕ
stays b = if b then 1 ∷ [] else []

module _ (n : Net) (e : ℕ) where
  abbrev edge_size : Option NetEdge → ℕ
  edge_size None = 0
  edge_size (Some x) = size_of n (edge_exprs x)

  -- to stay has one node for a party, and none for another
  abbrev moved_weight : Bool → NetAuto → Option ℕ → ℕ
  moved_weight b a None = if b then 1 else 0
  moved_weight b a (Some x) = 1 + edge_size (slice_get a.edges x)

  abbrev option_weight : NetAuto × Option ℕ → ℕ
  option_weight (a, o) = moved_weight (syncs_on e a) a o

  abbrev pub weights_of : NetAuto → List (Option ℕ) → List ℕ
  weights_of a os = map (moved_weight (syncs_on e a) a) os

  -- ---- one choice

  abbrev moved : ℕ → List NetAuto → Choice → List NetMove
  moved k autos ch = filter_map (move_if e) (zip (enumerate_from k autos) ch)

  abbrev exprs_taken : List NetAuto → Choice → List NetExpr
  exprs_taken autos ch = flat_map edge_exprs (filter_map edge_at (zip autos ch))

  choice-parted : (k : ℕ) (autos : List NetAuto) (ch : Choice) → length (moved k autos ch) + size_of n (exprs_taken autos ch) ≡ sum_by option_weight (zip autos ch)
  choice-parted k [] ch = refl
  choice-parted k (a ∷ autos) [] = refl
  choice-parted k (a ∷ autos) (None ∷ ch) =
      by (syncs_on e a) (choice-parted (k + 1) autos ch) ∙ sym (sum_by-cons option_weight (a, None) (zip autos ch))
    where
      by : (b : Bool) → length (moved (k + 1) autos ch) + size_of n (exprs_taken autos ch) ≡ sum_by option_weight (zip autos ch)
          → length (cons_option (if b then Some (record { auto = k; edge = None }) else None) (moved (k + 1) autos ch)) + size_of n (exprs_taken autos ch) ≡ (if b then 1 else 0) + sum_by option_weight (zip autos ch)
      by true r = omega arith
      by false r = omega arith
  choice-parted k (a ∷ autos) (Some x ∷ ch) =
      by (slice_get a.edges x) (choice-parted (k + 1) autos ch) ∙ sym (sum_by-cons option_weight (a, Some x) (zip autos ch))
    where
      by : (o : Option NetEdge) → length (moved (k + 1) autos ch) + size_of n (exprs_taken autos ch) ≡ sum_by option_weight (zip autos ch)
          → suc (length (moved (k + 1) autos ch)) + size_of n (flat_map edge_exprs (cons_option o (filter_map edge_at (zip autos ch)))) ≡ 1 + edge_size o + sum_by option_weight (zip autos ch)
      by None r = omega arith
      by (Some y) r = omega (arith, sum_by-append (λ g. (measure n g).size) (edge_exprs y) (exprs_taken autos ch))

  -- what each choice has besides
  abbrev pub base : ℕ
  base = 1 + size_of n (exclusions_of n e) + size_of n (invariant_exprs n)

  choice-based : (ch : Choice) → choice_nodes n e ch ≡ base + sum_by option_weight (zip n.autos ch)
  choice-based ch = omega (arith, choice-parted 0 n.autos ch)

  -- ---- a product of options

  -- what the options weigh that each automaton has with its number
  abbrev pub weights : (Numbered → List (Option ℕ)) → ℕ → List NetAuto → List (List ℕ)
  weights h k [] = []
  weights h k (a ∷ autos) = weights_of a (h (k, automaton_in n a)) ∷ weights h (k + 1) autos

  abbrev choices_by : (Numbered → List (Option ℕ)) → ℕ → List NetAuto → List Choice
  choices_by h k autos = product_of (map h (enumerate_from k (map (automaton_in n) autos)))

  product-weighed : (h : Numbered → List (Option ℕ)) (k : ℕ) (autos : List NetAuto) (b : ℕ) → sum_by (λ ch. b + sum_by option_weight (zip autos ch)) (choices_by h k autos) ≡ spread b (weights h k autos)
  product-weighed h k [] b = omega (arith, sum_by-cons (λ (ch : Choice). b + sum_by option_weight (zip [] ch)) [] [])
  product-weighed h k (a ∷ autos) b =
      sum-flat f (λ o. map (λ ys. o ∷ ys) rest) os
      ∙ sum-same (λ o. sum_by f (map (λ ys. o ∷ ys) rest)) (λ o. spread (b + option_weight (a, o)) (weights h (k + 1) autos)) (one (product-weighed h (k + 1) autos)) os
      ∙ sym (sum-mapped (λ w. spread (b + w) (weights h (k + 1) autos)) (moved_weight (syncs_on e a) a) os)
    where
      rest : List Choice
      rest = choices_by h (k + 1) autos

      os : List (Option ℕ)
      os = h (k, automaton_in n a)

      f : Choice → ℕ
      f ch = b + sum_by option_weight (zip (a ∷ autos) ch)

      one : ((c : ℕ) → sum_by (λ ch. c + sum_by option_weight (zip autos ch)) rest ≡ spread c (weights h (k + 1) autos)) → (o : Option ℕ)
          → sum_by f (map (λ ys. o ∷ ys) rest) ≡ spread (b + option_weight (a, o)) (weights h (k + 1) autos)
      one r o =
          sum-mapped f (λ ys. o ∷ ys) rest
          ∙ sum-same (λ ys. f (o ∷ ys)) (λ ys. b + option_weight (a, o) + sum_by option_weight (zip autos ys)) (λ ys. omega (arith, sum_by-cons option_weight (a, o) (zip autos ys))) rest
          ∙ r (b + option_weight (a, o))

  nodes-spread : (h : Numbered → List (Option ℕ)) → sum_by (choice_nodes n e) (choices_by h 0 n.autos) ≡ spread base (weights h 0 n.autos)
  nodes-spread h = sum-same (choice_nodes n e) (λ ch. base + sum_by option_weight (zip n.autos ch)) choice-based (choices_by h 0 n.autos) ∙ product-weighed h 0 n.autos base

  -- ---- an event that is no channel

  abbrev pub own_weights : NetAuto → List ℕ
  own_weights a = weights_of a (options e (automaton_in n a))

  unnumbered : (k : ℕ) (autos : List NetAuto) → map (options e) (map (automaton_in n) autos) ≡ map (λ (x : Numbered). options e x.1) (enumerate_from k (map (automaton_in n) autos))
  unnumbered k [] = refl
  unnumbered k (a ∷ autos) = ap (λ xss. options e (automaton_in n a) ∷ xss) (unnumbered (k + 1) autos)

  own-spread : (k : ℕ) (autos : List NetAuto) → weights (λ x. options e x.1) k autos ≡ map own_weights autos
  own-spread k [] = refl
  own-spread k (a ∷ autos) = ap (λ wss. own_weights a ∷ wss) (own-spread (k + 1) autos)

  pub plain-nodes : is_channel (system_of_net n) e ≡ false → event_nodes n e ≡ (if list_any (is_party e) (map (automaton_in n) n.autos) then spread base (map own_weights n.autos) else 0)
  plain-nodes h =
      ap (λ b. sum_by (choice_nodes n e) (if b then channel_choices (system_of_net n) e else plain_choices (system_of_net n) e)) h
      ∙ by (list_any (is_party e) (map (automaton_in n) n.autos))
    where
      by : (b : Bool) → sum_by (choice_nodes n e) (if b then product_of (map (options e) (map (automaton_in n) n.autos)) else []) ≡ (if b then spread base (map own_weights n.autos) else 0)
      by true =
          ap (λ xss. sum_by (choice_nodes n e) (product_of xss)) (unnumbered 0 n.autos)
          ∙ nodes-spread (λ x. options e x.1)
          ∙ ap (spread base) (own-spread 0 n.autos)
      by false = refl

  -- ---- a channel

  -- the sum over the automata that have an edge in a role, by their numbers
  abbrev pub total : Role → (ℕ → ℕ) → ℕ → List NetAuto → ℕ
  total p f k [] = 0
  total p f k (a ∷ autos) = (if has_edge p e (automaton_in n a) then f k else 0) + total p f (k + 1) autos

  having-total : (p : Role) (f : ℕ → ℕ) (k : ℕ) (autos : List NetAuto) → sum_by (λ (x : Numbered). f x.0) (filter (λ (x : Numbered). has_edge p e x.1) (enumerate_from k (map (automaton_in n) autos))) ≡ total p f k autos
  having-total p f k [] = refl
  having-total p f k (a ∷ autos) = by (has_edge p e (automaton_in n a)) (having-total p f (k + 1) autos)
    where
      others : List Numbered
      others = filter (λ (x : Numbered). has_edge p e x.1) (enumerate_from (k + 1) (map (automaton_in n) autos))

      by : (b : Bool) → sum_by (λ (x : Numbered). f x.0) others ≡ total p f (k + 1) autos
          → sum_by (λ (x : Numbered). f x.0) (if b then (k, automaton_in n a) ∷ others else others) ≡ (if b then f k else 0) + total p f (k + 1) autos
      by true r = omega (arith, r, sum_by-cons (λ (x : Numbered). f x.0) (k, automaton_in n a) others)
      by false r = omega (arith, r)

  -- what the choices weigh in which automaton i sends to automaton j
  abbrev pub between : ℕ → (i j k : ℕ) → List NetAuto → ℕ
  between b i j k autos = if nat_eq i j then 0 else spread b (weights (options_between e i j) k autos)

  pub channel-nodes : is_channel (system_of_net n) e ≡ true → event_nodes n e ≡ total sending (λ i. total receiving (λ j. between base i j 0 n.autos) 0 n.autos) 0 n.autos
  channel-nodes h =
      ap (λ b. sum_by (choice_nodes n e) (if b then channel_choices (system_of_net n) e else plain_choices (system_of_net n) e)) h
      ∙ sum-flat (choice_nodes n e) (λ (i : Numbered). flat_map (λ (j : Numbered). pairs i.0 j.0) receivers) (having sending (system_of_net n) e)
      ∙ sum-same (λ (i : Numbered). sum_by (choice_nodes n e) (flat_map (λ (j : Numbered). pairs i.0 j.0) receivers)) (λ (i : Numbered). total receiving (λ j. between base i.0 j 0 n.autos) 0 n.autos) (λ i. sent i.0) (having sending (system_of_net n) e)
      ∙ having-total sending (λ i. total receiving (λ j. between base i j 0 n.autos) 0 n.autos) 0 n.autos
    where
      receivers : List Numbered
      receivers = having receiving (system_of_net n) e

      pairs : ℕ → ℕ → List Choice
      pairs i j = if nat_eq i j then [] else product_of (map (options_between e i j) (numbered (system_of_net n)))

      one : (i j : ℕ) → sum_by (choice_nodes n e) (pairs i j) ≡ between base i j 0 n.autos
      one i j = by (nat_eq i j)
        where
          by : (b : Bool) → sum_by (choice_nodes n e) (if b then [] else product_of (map (options_between e i j) (numbered (system_of_net n)))) ≡ (if b then 0 else spread base (weights (options_between e i j) 0 n.autos))
          by true = refl
          by false = nodes-spread (options_between e i j)

      sent : (i : ℕ) → sum_by (choice_nodes n e) (flat_map (λ (j : Numbered). pairs i j.0) receivers) ≡ total receiving (λ j. between base i j 0 n.autos) 0 n.autos
      sent i =
          sum-flat (choice_nodes n e) (λ (j : Numbered). pairs i j.0) receivers
          ∙ sum-same (λ (j : Numbered). sum_by (choice_nodes n e) (pairs i j.0)) (λ (j : Numbered). between base i j.0 0 n.autos) (λ j. one i j.0) receivers
          ∙ having-total receiving (λ j. between base i j 0 n.autos) 0 n.autos

  -- ---- the options of an automaton

  abbrev numbers : Role → ℕ → List NetEdge → List (Option ℕ)
  numbers p k xs = filter_map (number_if (is_for p e)) (enumerate_from k (map (edge_meant n) xs))

  numbers-weighed : (p : Role) (c : Bool) (a : NetAuto) (k : ℕ) (xs : List NetEdge) → ((i : ℕ) (y : NetEdge) → slice_get xs i ≡ Some y → slice_get a.edges (k + i) ≡ Some y)
      → map (moved_weight c a) (numbers p k xs) ≡ map (edge_weight n) (own_edges p e xs)
  numbers-weighed p c a k [] h = refl
  numbers-weighed p c a k (x ∷ xs) h =
      by (is_edge_for p e x) (numbers-weighed p c a (k + 1) xs (λ i y g. let m : k + suc i ≡ k + 1 + i = omega arith in subst (λ q. slice_get a.edges q ≡ Some y) m (h (suc i) y g)))
    where
      by : (b : Bool) → map (moved_weight c a) (numbers p (k + 1) xs) ≡ map (edge_weight n) (own_edges p e xs)
          → map (moved_weight c a) (cons_option (if b then Some (Some k) else None) (numbers p (k + 1) xs)) ≡ map (edge_weight n) (if b then x ∷ own_edges p e xs else own_edges p e xs)
      by true r =
          let m : k + 0 ≡ k = omega arith in
          let g : slice_get a.edges k ≡ Some x = subst (λ q. slice_get a.edges q ≡ Some x) m (h 0 x refl) in
          ap (λ o. (1 + edge_size o) ∷ map (moved_weight c a) (numbers p (k + 1) xs)) g ∙ ap (λ ws. edge_weight n x ∷ ws) r
      by false r = r

  all-weighed : (p : Role) (c : Bool) (a : NetAuto) → map (moved_weight c a) (numbers p 0 a.edges) ≡ map (edge_weight n) (own_edges p e a.edges)
  all-weighed p c a = numbers-weighed p c a 0 a.edges (λ i y g. let m : i ≡ 0 + i = omega arith in subst (λ q. slice_get a.edges q ≡ Some y) m g)

  -- what its edges in a role weigh
  abbrev pub role_weights : Role → NetAuto → List ℕ
  role_weights p a = weights_of a (edges_for p e (automaton_in n a))

  pub role-weighed : (p : Role) (a : NetAuto) → role_weights p a ≡ map (edge_weight n) (own_edges p e a.edges)
  role-weighed p a = all-weighed p (syncs_on e a) a

  pub own-weighed : (a : NetAuto) → own_weights a ≡ (if syncs_on e a then map (edge_weight n) (own_edges syncing e a.edges) ++ stays (monitors_event e a) else 0 ∷ [])
  own-weighed a = by (syncs_on e a) (monitors_event e a)
    where
      by : (b s : Bool) → map (moved_weight b a) (if b then numbers syncing 0 a.edges ++ stay s else None ∷ []) ≡ (if b then map (edge_weight n) (own_edges syncing e a.edges) ++ stays s else 0 ∷ [])
      by true true = map-append (moved_weight true a) (numbers syncing 0 a.edges) (None ∷ []) ∙ ap (λ ws. ws ++ 1 ∷ []) (all-weighed syncing true a)
      by true false = map-append (moved_weight true a) (numbers syncing 0 a.edges) [] ∙ ap (λ ws. ws ++ []) (all-weighed syncing true a)
      by false s = refl

  -- ---- automata without such edges

  none-numbered : (p : Role) (k : ℕ) (xs : List Edge) → list_any (is_for p e) xs ≡ false → filter_map (number_if (is_for p e)) (enumerate_from k xs) ≡ []
  none-numbered p k [] h = refl
  none-numbered p k (x ∷ xs) h = by (is_for p e x) h (none-numbered p (k + 1) xs)
    where
      rest : List (Option ℕ)
      rest = filter_map (number_if (is_for p e)) (enumerate_from (k + 1) xs)

      by : (b : Bool) → (b || list_any (is_for p e) xs) ≡ false → (list_any (is_for p e) xs ≡ false → rest ≡ []) → cons_option (if b then Some (Some k) else None) rest ≡ []
      by true g r = absurd cc
      by false g r = r g

  pub none-weighed : (p : Role) (a : NetAuto) → has_edge p e (automaton_in n a) ≡ false → role_weights p a ≡ []
  none-weighed p a h = ap (weights_of a) (none-numbered p 0 (automaton_in n a).edges h)
