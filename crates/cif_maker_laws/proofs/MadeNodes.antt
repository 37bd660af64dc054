-- The choices of the net of a made source have few forms, and its expressions are shallow.
use Rattle.std.proofs.Common.{◌≡◌, ℕ, zero, suc, ◌+◌, ◌*◌, ◌≤◌, ◌<◌, ◌^◌, Bool, true, false, ◌&&◌, List, [], ◌∷◌, ◌++◌, Option, Some, None, length, refl, sym, ap, subst, ◌∙◌, arith, inl, inr}
use Rattle.std.specs.Prelude.{map, flat_map, filter, filter_map, zip, nat_eq, nat_lt, slice_get, unwrap_or, if◌then◌else◌}
use Rattle.std.specs.List.{AllByRecursion, range_with_len, cons_option, sum_by, enumerate_from, list_any}
use Rattle.std.proofs.lemmas.List.{length-append, length-map}
use Rattle.std.proofs.lemmas.List.Sums.{sum_by-cons, sum_by-append}
use Rattle.std.proofs.lemmas.List.FromFn.{length-range_with_len}
use Rattle.std.proofs.lemmas.Bool.Decides.{nat_tests}
use Rattle.grammar.proofs.Texts.{flip}
use Rattle.cif_system.specs.Words.{Member}
use Rattle.cif_system.specs.System.{System, Event, no_channel}
use Rattle.cif_system.specs.Step.{Choice, is_number, is_party, is_channel_of}
use Rattle.cif_system.specs.Choices.{stay, options, product_of, channel_choices, plain_choices, choices, event_numbers}
use Rattle.cif_system.proofs.Distinct.{member-map, member-flat_map}
use Rattle.cif_net_expr.specs.Tree.{NetExpr}
use Rattle.cif_net_model.specs.Net.{NetEdge, NetAuto, NetExclusion, NetInvariant, Net}
use Rattle.cif_net_model.specs.Exprs.{edge_exprs, all_edges, other_exprs, all_exprs}
use Rattle.cif_net_model.specs.Meaning.{automaton_in, event_in, system_of_net}
use Rattle.cif_net_model.specs.Unfolding.{unfolded}
use Rattle.cif_net_model.specs.Listing.{NetMove, syncs_on, move_if, edge_at}
use Rattle.cif_net_model.specs.Counts.{no_form, measure, all_beside, alg_measure, alg_measures, sizes, size_of, invariant_exprs, choice_nodes, event_nodes, nodes, depth, most_nodes, most_depth, is_too_large}
use Rattle.cif_source.specs.Objects.{events}
use Rattle.cif_inst_model.specs.Flat.{net_auto, net_event}
use Rattle.cif_inst_model.specs.NetRules.{TooLargeDue}
use Rattle.cif_maker.specs.Draws.{numbers_below}
use Rattle.cif_maker_laws.proofs.Bodies.{not_true, each-append, each_of_all, made, plant_of}
use Rattle.cif_maker_laws.proofs.Lookups.{IsShort}
use Rattle.cif_maker_laws.proofs.Names.{each_in_range}
use Rattle.cif_maker_laws.proofs.MadeDeclarations.{map_flat, event_pair, made_events}
use Rattle.cif_maker_laws.proofs.EventNumbers.{u_number, c_number, numbers_apart, u_event, c_event, u_denoted, c_denoted}
use Rattle.cif_maker_laws.proofs.MadeChoices.{few_options, is_own, no_channels, events_number}
use Rattle.cif_maker_laws.proofs.MadeNet.{guard_form, sum_form, true_form, idle_form, net, net_algs, net_no_invariants, net_autos, few_exclusions, plant_exprs, edges_hold, exclusions_hold, others_hold}
use Rattle.cif_maker_laws.proofs.MadeSums.{total, summed, total_less, total_plus, total_swapped, where_equal, once, at_most_one, members_once, each_alike}

-- ---- the choices of a product

-- one element, and the rest
taken_apart : {A : Type 0} (ch : List A) (xs : List A) (xss : List (List A)) → Member ch (product_of (xs ∷ xss)) → (y : A) × (ys : List A) × (ch ≡ y ∷ ys) × Member y xs × Member ys (product_of xss)
taken_apart ch xs xss m =
    let r = member-flat_map (λ x. map (λ ys. x ∷ ys) (product_of xss)) ch xs m in
    let t = member-map (λ ys. r.0 ∷ ys) ch (product_of xss) r.2 in
    (r.0, t.0, t.2, r.1, t.1)

length_flat : {A B : Type 0} (f : A → List B) (k : ℕ) (xs : List A) → length xs ≤ 1 → ((x : A) → length (f x) ≤ k) → length (flat_map f xs) ≤ k
length_flat f k [] l h = omega arith
length_flat f k (x ∷ []) l h = let a = h x in let e = length-append (f x) [] in omega arith
length_flat f k (x ∷ y ∷ xs) l h = absurd (omega arith)

product_short : {A : Type 0} (xss : List (List A)) → AllByRecursion (λ xs. length xs ≤ 1) xss → length (product_of xss) ≤ 1
product_short [] h = omega arith
product_short (xs ∷ xss) h =
    let rest = product_short xss h.1 in
    length_flat (λ x. map (λ ys. x ∷ ys) (product_of xss)) 1 xs h.0 (λ x. mapped x rest)
  where
    mapped : (x : _) → length (product_of xss) ≤ 1 → length (map (λ ys. x ∷ ys) (product_of xss)) ≤ 1
    mapped x l = let e = length-map (product_of xss) (λ ys. x ∷ ys) in omega arith

-- ---- what a choice takes

-- what an automaton that synchronises counts
abbrev counts : (b e : ℕ) → NetAuto → ℕ
counts b e a = if syncs_on e a then b else 0

-- an automaton that does not synchronise does nothing
idle_option : (t : Bool) (xs : List (Option ℕ)) (y : Option ℕ) → t ≡ false → Member y (if t then xs else None ∷ []) → y ≡ None
idle_option true xs y e m = absurd (let w : false ≡ true = sym e in cc)
idle_option false xs y e (inl w) = w
idle_option false xs y e (inr w) = absurd w

-- an edge whose expressions have at most b forms
abbrev IsSmallEdge : Net → ℕ → NetEdge → Type 0
IsSmallEdge n b x = size_of n (edge_exprs x) ≤ b

module _ (n : Net) (e : ℕ) where
  abbrev may_do : List NetAuto → List (List (Option ℕ))
  may_do xs = map (options e) (map (automaton_in n) xs)

  move_counted : (k : ℕ) (a : NetAuto) (y : Option ℕ) (rest : List NetMove) → Member y (options e (automaton_in n a)) → length (cons_option (move_if e ((k, a), y)) rest) ≤ counts 1 e a + length rest
  move_counted k a y rest m = go (syncs_on e a) refl y (λ t. idle_option (syncs_on e a) _ y t m)
    where
      go : (t : Bool) → syncs_on e a ≡ t → (y : Option ℕ) → (syncs_on e a ≡ false → y ≡ None) → length (cons_option (move_if e ((k, a), y)) rest) ≤ counts 1 e a + length rest
      go true g (Some x) h = rw g (omega arith)
      go true g None h = rw g (omega arith)
      go false g (Some x) h = absurd (let w : Some x ≡ None = h g in cc)
      go false g None h = rw g (omega arith)

  moves_counted : (k : ℕ) (xs : List NetAuto) (ch : Choice) → Member ch (product_of (may_do xs)) → length (filter_map (move_if e) (zip (enumerate_from k xs) ch)) ≤ total (counts 1 e) xs
  moves_counted k [] ch m = omega arith
  moves_counted k (a ∷ xs) ch m =
      let p = taken_apart ch (options e (automaton_in n a)) (may_do xs) m in
      let rest : List NetMove = filter_map (move_if e) (zip (enumerate_from (k + 1) xs) p.1) in
      let here = move_counted k a p.0 rest p.3 in
      let more = moves_counted (k + 1) xs p.1 p.4 in
      subst (λ c. length (filter_map (move_if e) (zip (enumerate_from k (a ∷ xs)) c)) ≤ total (counts 1 e) (a ∷ xs)) (sym p.2) (omega arith)

  -- the forms of the edges that are taken, of which each has at most b
  module _ (b : ℕ) where
    edge_small : (xs : List NetEdge) → AllByRecursion (IsSmallEdge n b) xs → (k : ℕ) (rest : List NetEdge) → size_of n (flat_map edge_exprs (cons_option (slice_get xs k) rest)) ≤ b + size_of n (flat_map edge_exprs rest)
    edge_small [] h k rest = omega arith
    edge_small (x ∷ xs) h zero rest = let c = sum_by-append (λ e. (measure n e).size) (edge_exprs x) (flat_map edge_exprs rest) in let a = h.0 in omega arith
    edge_small (x ∷ xs) h (suc k) rest = edge_small xs h.1 k rest

    edge_counted : (a : NetAuto) → AllByRecursion (IsSmallEdge n b) a.edges → (y : Option ℕ) (rest : List NetEdge) → Member y (options e (automaton_in n a))
        → size_of n (flat_map edge_exprs (cons_option (edge_at (a, y)) rest)) ≤ counts b e a + size_of n (flat_map edge_exprs rest)
    edge_counted a s y rest m = go (syncs_on e a) refl y (λ t. idle_option (syncs_on e a) _ y t m)
      where
        go : (t : Bool) → syncs_on e a ≡ t → (y : Option ℕ) → (syncs_on e a ≡ false → y ≡ None) → size_of n (flat_map edge_exprs (cons_option (edge_at (a, y)) rest)) ≤ counts b e a + size_of n (flat_map edge_exprs rest)
        go true g (Some x) h = rw g (edge_small a.edges s x rest)
        go true g None h = omega arith
        go false g (Some x) h = absurd (let w : Some x ≡ None = h g in cc)
        go false g None h = omega arith

    edges_counted : (xs : List NetAuto) → AllByRecursion (λ (a : NetAuto). AllByRecursion (IsSmallEdge n b) a.edges) xs → (ch : Choice) → Member ch (product_of (may_do xs))
        → size_of n (flat_map edge_exprs (filter_map edge_at (zip xs ch))) ≤ total (counts b e) xs
    edges_counted [] s ch m = omega arith
    edges_counted (a ∷ xs) s ch m =
        let p = taken_apart ch (options e (automaton_in n a)) (may_do xs) m in
        let here = edge_counted a s.0 p.0 (filter_map edge_at (zip xs p.1)) p.3 in
        let more = edges_counted xs s.1 p.1 p.4 in
        subst (λ c. size_of n (flat_map edge_exprs (filter_map edge_at (zip (a ∷ xs) c))) ≤ total (counts b e) (a ∷ xs)) (sym p.2) (omega arith)

-- ---- the options of a plant

abbrev options_from : (e : ℕ) (o p : Option ℕ) → List (Option ℕ)
options_from e o p =
    if list_any (nat_eq e) (cons_option o (cons_option p []))
    then cons_option (if is_number e (Some (unwrap_or o 0)) then Some (Some 0) else None) (cons_option (if is_number e (Some (unwrap_or p 0)) then Some (Some 1) else None) [])
    ++ stay (list_any (nat_eq e) (cons_option o (cons_option p [])) && false)
    else None ∷ []

few_from : (e u c : ℕ) → (u ≡ c → ⊥) → length (options_from e (Some u) (Some c)) ≤ 1
few_from e u c apart = few_options (list_any (nat_eq e) (u ∷ c ∷ [])) (nat_eq u e) (nat_eq c e) (λ a b. apart (is_own e u (Some u) refl a ∙ sym (is_own e c (Some c) refl b)))

each_short : (n : Net) (e : ℕ) (xs : List NetAuto) → AllByRecursion (λ a. length (options e (automaton_in n a)) ≤ 1) xs → AllByRecursion (λ ys. length ys ≤ 1) (may_do n e xs)
each_short n e [] h = tt
each_short n e (a ∷ xs) h = (h.0, each_short n e xs h.1)

in_product : (b : Bool) (ch : Choice) (xs : List Choice) → Member ch (if b then xs else []) → Member ch xs
in_product true ch xs m = m
in_product false ch xs m = absurd m

no_more : (b : Bool) (xs : List Choice) → length xs ≤ 1 → length (if b then xs else []) ≤ 1
no_more true xs l = l
no_more false xs l = omega arith

two_at_most : (b : ℕ) (o p : Option ℕ) → total (λ x. b) (cons_option o (cons_option p [])) ≤ b + b
two_at_most b None None = omega arith
two_at_most b None (Some p) = omega arith
two_at_most b (Some o) None = omega arith
two_at_most b (Some o) (Some p) = omega arith

-- ---- the exclusions of an event

abbrev excluded : (e : ℕ) → NetExclusion → ℕ
excluded e x = where_equal 5 x.event e

exclusions_counted : (n : Net) (e : ℕ) (xs : List NetExclusion) → AllByRecursion (λ p. (measure n p).size ≤ 5) (map (λ (x : NetExclusion). x.pred) xs)
    → size_of n (map (λ (x : NetExclusion). x.pred) (filter (λ (x : NetExclusion). nat_eq x.event e) xs)) ≤ total (excluded e) xs
exclusions_counted n e [] h = omega arith
exclusions_counted n e (x ∷ xs) h = go (nat_eq x.event e) refl (exclusions_counted n e xs h.1) h.0
  where
    sizes_of : List NetExclusion → ℕ
    sizes_of xs = size_of n (map (λ (x : NetExclusion). x.pred) xs)

    go : (t : Bool) → nat_eq x.event e ≡ t
        → size_of n (map (λ (x : NetExclusion). x.pred) (filter (λ (x : NetExclusion). nat_eq x.event e) xs)) ≤ total (excluded e) xs
        → (measure n x.pred).size ≤ 5
        → size_of n (map (λ (x : NetExclusion). x.pred) (filter (λ (x : NetExclusion). nat_eq x.event e) (x ∷ xs))) ≤ total (excluded e) (x ∷ xs)
    go true g more small =
        let kept : List NetExclusion = filter (λ (x : NetExclusion). nat_eq x.event e) xs in
        let cons = sum_by-cons (λ p. (measure n p).size) x.pred (map (λ (x : NetExclusion). x.pred) kept) in
        let equal : nat_eq e x.event ≡ true = sym (flip x.event e) ∙ g in
        rw g (rw equal (omega arith))
    go false g more small = rw g (omega arith)

-- ---- the rule

beside_shallow : (n : Net) (k : ℕ) (es : List NetExpr) → AllByRecursion (λ e. (measure n e).depth ≤ k) es → (all_beside (map (measure n) es)).depth ≤ k
beside_shallow n k [] h = omega arith
beside_shallow n k (e ∷ es) h = let a = h.0 in let b = beside_shallow n k es h.1 in omega arith

module _ (seed size : ℕ) (short : IsShort size) where
  abbrev made_net : Net
  made_net = net seed size

  abbrev system : System
  system = system_of_net made_net

  abbrev IsSmall : NetExpr → Type 0
  IsSmall e = (measure made_net e).size ≤ 5

  abbrev IsShallow : NetExpr → Type 0
  IsShallow e = (measure made_net e).depth ≤ 2

  no_measures : alg_measures made_net ≡ []
  no_measures = ap (λ xs. unfolded no_form alg_measure xs (length xs)) (net_algs seed size)

  channels : (e : ℕ) → is_channel_of (slice_get system.events e) ≡ false
  channels = no_channels system.events
      (subst (AllByRecursion (λ (e : Event). e.channel ≡ no_channel))
      (sym (ap (λ ds. map event_in (map net_event ds)) (made_events seed size) ∙ ap (map event_in) (map_flat net_event (event_pair seed size) (numbers_below size)) ∙ map_flat event_in (λ i. map net_event (event_pair seed size i)) (numbers_below size)))
      (each_of_all (λ (e : Event). e.channel ≡ no_channel) (λ i. map event_in (map net_event (event_pair seed size i))) (numbers_below size) (λ i. (refl, (refl, tt)))))

  plant_options : (e i : ℕ) → i < size → length (options e (automaton_in made_net (net_auto (plant_of seed size i)))) ≤ 1
  plant_options e i l =
      let u = u_number seed size i in
      let c = c_number seed size i in
      subst (λ o. length (options_from e o (c_event seed size i)) ≤ 1) (sym (u_denoted seed size short i l))
      (subst (λ p. length (options_from e (Some u) p) ≤ 1) (sym (c_denoted seed size short i l)) (few_from e u c (numbers_apart seed size i l)))

  each_auto : (P : NetAuto → Type 0) → ((i : ℕ) → i < size → P (net_auto (plant_of seed size i))) → AllByRecursion P made_net.autos
  each_auto P h = subst (AllByRecursion P) (sym (net_autos seed size)) (each_in_range P (λ i. net_auto (plant_of seed size i) ∷ []) 0 size (λ i l. (h i (omega arith), tt)))

  choices_are : (e : ℕ) → choices system e ≡ (if list_any (is_party e) system.automata then product_of (may_do made_net e made_net.autos) else [])
  choices_are e = ap (λ t. if t then channel_choices system e else plain_choices system e) (channels e)

  few_choices : (e : ℕ) → length (choices system e) ≤ 1
  few_choices e =
      rw (choices_are e) (no_more (list_any (is_party e) system.automata) (product_of (may_do made_net e made_net.autos))
      (product_short (may_do made_net e made_net.autos) (each_short made_net e made_net.autos (each_auto (λ a. length (options e (automaton_in made_net a)) ≤ 1) (plant_options e)))))

  small_edges : AllByRecursion (λ (a : NetAuto). AllByRecursion (IsSmallEdge made_net 10) a.edges) made_net.autos
  small_edges = each_auto (λ (a : NetAuto). AllByRecursion (IsSmallEdge made_net 10) a.edges) small
    where
      small : (i : ℕ) → i < size → AllByRecursion (IsSmallEdge made_net 10) (net_auto (plant_of seed size i)).edges
      small i l =
          let h = plant_exprs seed size short IsSmall (λ a b m p q r l. omega arith) (λ b q r. omega arith) (λ at. omega arith) (λ a at. omega arith) i l in
          let g = h.0 in
          let s = h.1.0 in
          let t = h.1.1.0 in
          (omega arith, (omega arith, tt))

  -- what the choices of an event weigh
  weighs : ℕ → ℕ
  weighs e = 1 + total (counts 1 e) made_net.autos + total (counts 10 e) made_net.autos + total (excluded e) made_net.exclusions

  choice_light : (e : ℕ) (ch : Choice) → Member ch (choices system e) → choice_nodes made_net e ch ≤ weighs e
  unfolding weighs
  choice_light e ch m =
      let there : Member ch (product_of (may_do made_net e made_net.autos)) = in_product (list_any (is_party e) system.automata) ch (product_of (may_do made_net e made_net.autos)) (subst (Member ch) (choices_are e) m) in
      let moves = moves_counted made_net e 0 made_net.autos ch there in
      let edges = edges_counted made_net e 10 made_net.autos small_edges ch there in
      let exclusions = exclusions_counted made_net e made_net.exclusions
      (exclusions_hold seed size short IsSmall (λ a b m p q r l. omega arith) (λ b q r. omega arith) (λ at. omega arith) (λ a at. omega arith)) in
      let invariants : size_of made_net (invariant_exprs made_net) ≡ 0 = ap (λ xs. size_of made_net (map (λ (i : NetInvariant). i.pred) xs)) (net_no_invariants seed size) in
      omega arith

  event_light : (e : ℕ) → event_nodes made_net e ≤ weighs e
  event_light e =
      let sum : event_nodes made_net e ≡ total (choice_nodes made_net e) (choices system e) = summed (choice_nodes made_net e) (choices system e) in
      let light = at_most_one (choice_nodes made_net e) (weighs e) (choices system e) (few_choices e) (choice_light e) in
      omega arith

  plants_alike : (b : ℕ) (is : List ℕ) → total (λ (a : NetAuto). total (λ (x : ℕ). b) a.alphabet) (flat_map (λ i. net_auto (plant_of seed size i) ∷ []) is) ≤ total (λ (i : ℕ). b + b) is
  plants_alike b [] = omega arith
  plants_alike b (i ∷ is) = let here = two_at_most b (u_event seed size i) (c_event seed size i) in let more = plants_alike b is in omega arith

  -- over all events an automaton counts once for each event of its alphabet
  counted_once : (b k : ℕ) → total (λ e. total (counts b e) made_net.autos) (range_with_len 0 k) ≤ total (λ (i : ℕ). b + b) (numbers_below size)
  counted_once b k =
      let once = total_swapped (λ e a. counts b e a) (λ (a : NetAuto). total (λ (x : ℕ). b) a.alphabet) (range_with_len 0 k) made_net.autos (λ a. members_once b 0 k a.alphabet) in
      let listed : total (λ (a : NetAuto). total (λ (x : ℕ). b) a.alphabet) made_net.autos ≡ total (λ (a : NetAuto). total (λ (x : ℕ). b) a.alphabet) (flat_map (λ i. net_auto (plant_of seed size i) ∷ []) (numbers_below size)) =
      ap (total (λ (a : NetAuto). total (λ (x : ℕ). b) a.alphabet)) (net_autos seed size) in
      let few = plants_alike b (numbers_below size) in
      omega arith

  excluded_once : (k : ℕ) → total (λ e. total (excluded e) made_net.exclusions) (range_with_len 0 k) ≤ total (λ (x : NetExclusion). 5) made_net.exclusions
  excluded_once k = total_swapped (λ e x. excluded e x) (λ (x : NetExclusion). 5) (range_with_len 0 k) made_net.exclusions (λ x. once 5 x.event 0 k)

  few_weigh : (k : ℕ) → total weighs (range_with_len 0 k) ≤ k + 27 * size
  unfolding weighs
  few_weigh k =
      let es : List ℕ = range_with_len 0 k in
      let one : ℕ → ℕ = λ e. 1 in
      let moves : ℕ → ℕ = λ e. total (counts 1 e) made_net.autos in
      let edges : ℕ → ℕ = λ e. total (counts 10 e) made_net.autos in
      let others : ℕ → ℕ = λ e. total (excluded e) made_net.exclusions in
      let first = total_plus (λ e. one e + moves e + edges e) others es in
      let second = total_plus (λ e. one e + moves e) edges es in
      let third = total_plus one moves es in
      let ones = each_alike 1 es in
      let len : length es ≡ k = length-range_with_len 0 k in
      let numbers : length (numbers_below size) ≡ size = length-range_with_len 0 size in
      let of_moves = counted_once 1 k in
      let moves_alike = each_alike 2 (numbers_below size) in
      let of_edges = counted_once 10 k in
      let edges_alike = each_alike 20 (numbers_below size) in
      let of_others = excluded_once k in
      let others_alike = each_alike 5 made_net.exclusions in
      let exclusions = few_exclusions seed size short in
      omega arith

  few_nodes : nodes made_net ≤ 29 * size
  few_nodes =
      let es : List ℕ = event_numbers system in
      let sum : sum_by (event_nodes made_net) es ≡ total (event_nodes made_net) es = summed (event_nodes made_net) es in
      let light = total_less (event_nodes made_net) weighs es event_light in
      let weigh = few_weigh (length system.events) in
      let number : length system.events ≡ 2 * size = length-map (map net_event (events (made seed size))) event_in ∙ length-map (events (made seed size)) net_event ∙ events_number seed size in
      let none : sizes (alg_measures made_net) ≡ 0 = ap sizes no_measures in
      omega arith

  shallow : depth made_net ≤ 2
  shallow =
      let guards : (a b m p q r : ℕ) → m ≤ 9 → IsShallow (guard_form a b m p q r) = λ a b m p q r l. omega arith in
      let sums : (b q r : ℕ) → IsShallow (sum_form b q r) = λ b q r. omega arith in
      let truths : (at : ℕ) → IsShallow (true_form at) = λ at. omega arith in
      let idles : (a at : ℕ) → IsShallow (idle_form a at) = λ a at. omega arith in
      let each : AllByRecursion IsShallow (all_exprs made_net) = each-append IsShallow (flat_map edge_exprs (all_edges made_net)) (other_exprs made_net)
      (edges_hold seed size short IsShallow guards sums truths idles) (others_hold seed size short IsShallow guards sums truths idles) in
      let own : (all_beside (map (measure made_net) (all_exprs made_net))).depth ≤ 2 = beside_shallow made_net 2 (all_exprs made_net) each in
      let none : (all_beside (alg_measures made_net)).depth ≡ 0 = ap (λ ms. (all_beside ms).depth) no_measures in
      omega arith

  not_over : (limit n : ℕ) → n ≤ limit → nat_lt limit n ≡ false
  not_over limit n l = grind (arith, nat_tests)

  pub not_too_large : (size_count depth_count : ℕ) → size < 10 ^ 4 → TooLargeDue (made seed size) size_count depth_count → ⊥
  not_too_large size_count depth_count l h =
      let few = few_nodes in
      let flat = shallow in
      let small : is_too_large made_net ≡ false = rw (not_over most_nodes (nodes made_net) (omega arith)) (not_over most_depth (depth made_net) (omega arith)) in
      not_true (is_too_large made_net) small h.1
