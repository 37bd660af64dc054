-- Where no automaton has an event in two roles, the choices for a channel weigh what the product of the edges that send, the
-- edges that receive, and the options of each automaton does.
use Rattle.std.proofs.Common.{◌≡◌, ℕ, ◌+◌, ◌≤◌, ◌<◌, ◌⊎◌, Bool, true, false, inl, inr, List, [], ◌∷◌, ◌++◌, map, flat_map, sum_by, Option, refl, sym, ◌∙◌, ap, if◌then◌else◌, arith}
use Rattle.std.specs.Prelude.{nat_eq}
use Rattle.std.proofs.lemmas.Bool.Decides.{nat_tests}
use Rattle.std.proofs.lemmas.List.Sums.{sum_by-cons, sum_by-append}
use Rattle.cif_system.specs.System.{Role, sending, receiving}
use Rattle.cif_system.specs.Step.{Numbered, has_edge}
use Rattle.cif_system.specs.Choices.{edges_for, options, options_between}
use Rattle.cif_system.specs.Words.{Member}
use Rattle.cif_net_model.specs.Net.{NetAuto, Net}
use Rattle.cif_net_model.specs.Meaning.{automaton_in}
use Rattle.cif_alg.proofs.SumLaws.{sum-same, sum-nothing, sum-plus, sum-swap, spread}
use Rattle.cif_alg.proofs.NodeLaws.{weights_of, weights, own_weights, role_weights, total, between, none-weighed}

module _ (n : Net) (e : ℕ) where
  -- an automaton with edges in a role has no other, and stays without a node where it has no part
  pub record HasOneRole (a : NetAuto) : Type 0 where
    pub sends : (role_weights n e sending a ≡ []) ⊎ (own_weights n e a ≡ 0 ∷ [])
    pub receives : (role_weights n e receiving a ≡ []) ⊎ (own_weights n e a ≡ 0 ∷ [])
    pub either : (role_weights n e sending a ≡ []) ⊎ (role_weights n e receiving a ≡ [])

  abbrev own : List NetAuto → List (List ℕ)
  own autos = map (own_weights n e) autos

  -- what all edges in a role weigh
  abbrev pub all_weights : Role → List NetAuto → List ℕ
  all_weights p autos = flat_map (role_weights n e p) autos

  -- what an automaton may do where automaton i takes an edge in a role
  abbrev one_option : Role → ℕ → Numbered → List (Option ℕ)
  one_option p i (k, a) = if nat_eq k i then edges_for p e a else options e a

  abbrev one_weighs : Role → (b i k : ℕ) → List NetAuto → ℕ
  one_weighs p b i k autos = spread b (weights n e (one_option p i) k autos)

  -- ---- automata that are past

  one-past : (p : Role) (i k : ℕ) (autos : List NetAuto) → i < k → weights n e (one_option p i) k autos ≡ own autos
  one-past p i k [] l = refl
  one-past p i k (a ∷ autos) l =
      let other : nat_eq k i ≡ false = grind (arith, nat_tests) in
      ap (λ c. weights_of n e a (if c then edges_for p e (automaton_in n a) else options e (automaton_in n a)) ∷ weights n e (one_option p i) (k + 1) autos) other
      ∙ ap (λ wss. own_weights n e a ∷ wss) (one-past p i (k + 1) autos (omega (arith, l)))

  sender-past : (i j k : ℕ) (autos : List NetAuto) → i < k → weights n e (options_between e i j) k autos ≡ weights n e (one_option receiving j) k autos
  sender-past i j k [] l = refl
  sender-past i j k (a ∷ autos) l =
      let other : nat_eq k i ≡ false = grind (arith, nat_tests) in
      ap (λ c. weights_of n e a (if c then edges_for sending e (automaton_in n a) else (if nat_eq k j then edges_for receiving e (automaton_in n a) else options e (automaton_in n a))) ∷ weights n e (options_between e i j) (k + 1) autos) other
      ∙ ap (λ wss. weights_of n e a (one_option receiving j (k, automaton_in n a)) ∷ wss) (sender-past i j (k + 1) autos (omega (arith, l)))

  receiver-past : (i j k : ℕ) (autos : List NetAuto) → j < k → weights n e (options_between e i j) k autos ≡ weights n e (one_option sending i) k autos
  receiver-past i j k [] l = refl
  receiver-past i j k (a ∷ autos) l =
      let other : nat_eq k j ≡ false = grind (arith, nat_tests) in
      ap (λ c. weights_of n e a (if nat_eq k i then edges_for sending e (automaton_in n a) else (if c then edges_for receiving e (automaton_in n a) else options e (automaton_in n a))) ∷ weights n e (options_between e i j) (k + 1) autos) other
      ∙ ap (λ wss. weights_of n e a (one_option sending i (k, automaton_in n a)) ∷ wss) (receiver-past i j (k + 1) autos (omega (arith, l)))

  -- ---- sums over automata

  total-same : (p : Role) (f g : ℕ → ℕ) (k : ℕ) (autos : List NetAuto) → ((i : ℕ) → k ≤ i → f i ≡ g i) → total n e p f k autos ≡ total n e p g k autos
  total-same p f g k [] h = refl
  total-same p f g k (a ∷ autos) h =
      ap (λ x. (if has_edge p e (automaton_in n a) then x else 0) + total n e p f (k + 1) autos) (h k (omega arith))
      ∙ ap (λ y. (if has_edge p e (automaton_in n a) then g k else 0) + y) (total-same p f g (k + 1) autos (λ i l. h i (omega (arith, l))))

  total-plus : (p : Role) (f g : ℕ → ℕ) (k : ℕ) (autos : List NetAuto) → total n e p (λ i. f i + g i) k autos ≡ total n e p f k autos + total n e p g k autos
  total-plus p f g k [] = refl
  total-plus p f g k (a ∷ autos) = by (has_edge p e (automaton_in n a)) (total-plus p f g (k + 1) autos)
    where
      both : ℕ
      both = total n e p (λ i. f i + g i) (k + 1) autos

      by : (b : Bool) → both ≡ total n e p f (k + 1) autos + total n e p g (k + 1) autos
          → (if b then f k + g k else 0) + both ≡ (if b then f k else 0) + total n e p f (k + 1) autos + ((if b then g k else 0) + total n e p g (k + 1) autos)
      by true r = omega (arith, r)
      by false r = omega (arith, r)

  total-sum : (p : Role) (f : ℕ → ℕ → ℕ) (k : ℕ) (autos : List NetAuto) (ws : List ℕ) → total n e p (λ i. sum_by (λ w. f w i) ws) k autos ≡ sum_by (λ w. total n e p (f w) k autos) ws
  total-sum p f k [] ws = sym (sum-nothing ws)
  total-sum p f k (a ∷ autos) ws = by (has_edge p e (automaton_in n a)) (total-sum p f (k + 1) autos ws)
    where
      rest : ℕ → ℕ
      rest w = total n e p (f w) (k + 1) autos

      by : (b : Bool) → total n e p (λ i. sum_by (λ w. f w i) ws) (k + 1) autos ≡ sum_by rest ws
          → (if b then sum_by (λ w. f w k) ws else 0) + total n e p (λ i. sum_by (λ w. f w i) ws) (k + 1) autos ≡ sum_by (λ w. (if b then f w k else 0) + rest w) ws
      by true r = omega (arith, r, sum-plus (λ w. f w k) rest ws)
      by false r = omega (arith, r, sum-plus (λ w. 0) rest ws, sum-nothing ws)

  -- an automaton without edges in the role adds nothing
  had : (p : Role) (a : NetAuto) (f : ℕ → ℕ) → (if has_edge p e (automaton_in n a) then sum_by f (role_weights n e p a) else 0) ≡ sum_by f (role_weights n e p a)
  had p a f = by (has_edge p e (automaton_in n a)) (none-weighed n e p a)
    where
      by : (b : Bool) → (b ≡ false → role_weights n e p a ≡ []) → (if b then sum_by f (role_weights n e p a) else 0) ≡ sum_by f (role_weights n e p a)
      by true h = refl
      by false h = sym (ap (sum_by f) (h refl))

  -- ---- an automaton that has one role

  alone : (a : NetAuto) (wss : List (List ℕ)) (c : ℕ) → own_weights n e a ≡ 0 ∷ [] → spread c wss ≡ spread c (own_weights n e a ∷ wss)
  alone a wss c h =
      let z : c ≡ c + 0 = omega arith in
      let s : spread (c + 0) wss ≡ sum_by (λ w. spread (c + w) wss) (0 ∷ []) = omega (arith, sum_by-cons (λ w. spread (c + w) wss) 0 []) in
      ap (λ d. spread d wss) z ∙ s ∙ sym (ap (sum_by (λ w. spread (c + w) wss)) h)

  beside-alone : (a : NetAuto) (ws : List ℕ) (f g : ℕ → ℕ) → (ws ≡ []) ⊎ (own_weights n e a ≡ 0 ∷ []) → (own_weights n e a ≡ 0 ∷ [] → (w : ℕ) → f w ≡ g w) → sum_by f ws ≡ sum_by g ws
  beside-alone a ws f g o h =
      elim o [
        | inl w ↦ ap (sum_by f) w ∙ sym (ap (sum_by g) w)
        | inr w ↦ sum-same f g (h w) ws
      ]

  -- ---- one automaton takes an edge in a role

  one-total : (p : Role) (autos : List NetAuto) → ((a : NetAuto) → Member a autos → (role_weights n e p a ≡ []) ⊎ (own_weights n e a ≡ 0 ∷ [])) → (k b : ℕ)
      → total n e p (λ i. one_weighs p b i k autos) k autos ≡ sum_by (λ w. spread (b + w) (own autos)) (all_weights p autos)
  one-total p [] h k b = refl
  one-total p (a ∷ autos) h k b =
      ap (λ x. (if has_edge p e (automaton_in n a) then x else 0) + later) here
      ∙ ap (λ x. x + later) (had p a (λ w. spread (b + w) (own autos)))
      ∙ ap (λ x. x + later) (beside-alone a (role_weights n e p a) (λ w. spread (b + w) (own autos)) (λ w. spread (b + w) (own (a ∷ autos))) (h a (inl refl)) (λ s w. alone a (own autos) (b + w) s))
      ∙ ap (λ x. sum_by (λ w. spread (b + w) (own (a ∷ autos))) (role_weights n e p a) + x) (there (one-total p autos (λ c m. h c (inr m)) (k + 1)))
      ∙ sym (sum_by-append (λ w. spread (b + w) (own (a ∷ autos))) (role_weights n e p a) (all_weights p autos))
    where
      later : ℕ
      later = total n e p (λ i. one_weighs p b i k (a ∷ autos)) (k + 1) autos

      here : one_weighs p b k k (a ∷ autos) ≡ sum_by (λ w. spread (b + w) (own autos)) (role_weights n e p a)
      here =
          let same : nat_eq k k ≡ true = grind (arith, nat_tests) in
          ap (λ c. sum_by (λ w. spread (b + w) (weights n e (one_option p k) (k + 1) autos)) (weights_of n e a (if c then edges_for p e (automaton_in n a) else options e (automaton_in n a)))) same
          ∙ ap (λ wss. sum_by (λ w. spread (b + w) wss) (role_weights n e p a)) (one-past p k (k + 1) autos (omega arith))

      next : (i : ℕ) → k + 1 ≤ i → one_weighs p b i k (a ∷ autos) ≡ sum_by (λ o. one_weighs p (b + o) i (k + 1) autos) (own_weights n e a)
      next i l =
          let other : nat_eq k i ≡ false = grind (arith, nat_tests) in
          ap (λ c. sum_by (λ o. one_weighs p (b + o) i (k + 1) autos) (weights_of n e a (if c then edges_for p e (automaton_in n a) else options e (automaton_in n a)))) other

      there : ((c : ℕ) → total n e p (λ i. one_weighs p c i (k + 1) autos) (k + 1) autos ≡ sum_by (λ w. spread (c + w) (own autos)) (all_weights p autos))
          → later ≡ sum_by (λ w. spread (b + w) (own (a ∷ autos))) (all_weights p autos)
      there r =
          total-same p (λ i. one_weighs p b i k (a ∷ autos)) (λ i. sum_by (λ o. one_weighs p (b + o) i (k + 1) autos) (own_weights n e a)) (k + 1) autos next
          ∙ total-sum p (λ o i. one_weighs p (b + o) i (k + 1) autos) (k + 1) autos (own_weights n e a)
          ∙ sum-same (λ o. total n e p (λ i. one_weighs p (b + o) i (k + 1) autos) (k + 1) autos) (λ o. sum_by (λ w. spread (b + o + w) (own autos)) (all_weights p autos)) (λ o. r (b + o)) (own_weights n e a)
          ∙ sum-swap (λ o w. spread (b + o + w) (own autos)) (own_weights n e a) (all_weights p autos)
          ∙ sum-same (λ w. sum_by (λ o. spread (b + o + w) (own autos)) (own_weights n e a)) (λ w. spread (b + w) (own (a ∷ autos)))
          (λ w. sum-same (λ o. spread (b + o + w) (own autos)) (λ o. spread (b + w + o) (own autos)) (λ o. let m : b + o + w ≡ b + w + o = omega arith in ap (λ c. spread c (own autos)) m) (own_weights n e a))
          (all_weights p autos)

  -- ---- one sends and another receives

  abbrev sum_all : (b : ℕ) → (vs ws : List ℕ) → List (List ℕ) → ℕ
  sum_all b vs ws wss = sum_by (λ v. sum_by (λ w. spread (b + v + w) wss) ws) vs

  module _ (a : NetAuto) (autos : List NetAuto) (k b : ℕ) (one : HasOneRole a) (others : (c : NetAuto) → Member c autos → HasOneRole c) where
    abbrev here : Role → List ℕ
    here p = role_weights n e p a

    abbrev there : Role → List ℕ
    there p = all_weights p autos

    abbrev stay : List ℕ
    stay = own_weights n e a

    abbrev all : List (List ℕ)
    all = own (a ∷ autos)

    -- what the choices weigh with a sender and a receiver, and with a sender and any receiver
    abbrev pair : ℕ → ℕ → ℕ
    pair i j = between n e b i j k (a ∷ autos)

    abbrev sent : ℕ → ℕ
    sent i = total n e receiving (pair i) k (a ∷ autos)

    -- ---- the first automaton sends

    first-receiver : (j : ℕ) → k + 1 ≤ j → pair k j ≡ sum_by (λ v. one_weighs receiving (b + v) j (k + 1) autos) (here sending)
    first-receiver j l =
        let other : nat_eq k j ≡ false = grind (arith, nat_tests) in
        let same : nat_eq k k ≡ true = grind (arith, nat_tests) in
        ap (λ c. if c then 0 else spread b (weights n e (options_between e k j) k (a ∷ autos))) other
        ∙ ap (λ c. sum_by (λ v. spread (b + v) (weights n e (options_between e k j) (k + 1) autos)) (weights_of n e a (if c then edges_for sending e (automaton_in n a) else (if nat_eq k j then edges_for receiving e (automaton_in n a) else options e (automaton_in n a))))) same
        ∙ ap (λ wss. sum_by (λ v. spread (b + v) wss) (here sending)) (sender-past k j (k + 1) autos (omega arith))

    first-total : total n e receiving (pair k) (k + 1) autos ≡ sum_all b (here sending) (there receiving) (own autos)
    first-total =
        total-same receiving (pair k) (λ j. sum_by (λ v. one_weighs receiving (b + v) j (k + 1) autos) (here sending)) (k + 1) autos first-receiver
        ∙ total-sum receiving (λ v j. one_weighs receiving (b + v) j (k + 1) autos) (k + 1) autos (here sending)
        ∙ sum-same (λ v. total n e receiving (λ j. one_weighs receiving (b + v) j (k + 1) autos) (k + 1) autos) (λ v. sum_by (λ w. spread (b + v + w) (own autos)) (there receiving))
        (λ v. one-total receiving autos (λ c m. (others c m).receives) (k + 1) (b + v)) (here sending)

    -- it doesn't receive from itself
    first-sent : sent k ≡ sum_all b (here sending) (there receiving) (own autos)
    first-sent =
        let same : nat_eq k k ≡ true = grind (arith, nat_tests) in
        ap (λ c. (if has_edge receiving e (automaton_in n a) then (if c then 0 else spread b (weights n e (options_between e k k) k (a ∷ autos))) else 0) + total n e receiving (pair k) (k + 1) autos) same
        ∙ by (has_edge receiving e (automaton_in n a))
        ∙ first-total
      where
        by : (c : Bool) → (if c then 0 else 0) + total n e receiving (pair k) (k + 1) autos ≡ total n e receiving (pair k) (k + 1) autos
        by true = omega arith
        by false = omega arith

    first-sends : (if has_edge sending e (automaton_in n a) then sent k else 0) ≡ sum_all b (here sending) (there receiving) all
    first-sends =
        ap (λ x. if has_edge sending e (automaton_in n a) then x else 0) first-sent
        ∙ had sending a (λ v. sum_by (λ w. spread (b + v + w) (own autos)) (there receiving))
        ∙ beside-alone a (here sending) (λ v. sum_by (λ w. spread (b + v + w) (own autos)) (there receiving)) (λ v. sum_by (λ w. spread (b + v + w) all) (there receiving)) one.sends
        (λ s v. sum-same (λ w. spread (b + v + w) (own autos)) (λ w. spread (b + v + w) all) (λ w. alone a (own autos) (b + v + w) s) (there receiving))

    -- ---- another automaton sends

    later-first : (i : ℕ) → k + 1 ≤ i → pair i k ≡ sum_by (λ w. one_weighs sending (b + w) i (k + 1) autos) (here receiving)
    later-first i l =
        let apart : nat_eq i k ≡ false = grind (arith, nat_tests) in
        let other : nat_eq k i ≡ false = grind (arith, nat_tests) in
        let same : nat_eq k k ≡ true = grind (arith, nat_tests) in
        ap (λ c. if c then 0 else spread b (weights n e (options_between e i k) k (a ∷ autos))) apart
        ∙ ap (λ c. sum_by (λ w. spread (b + w) (weights n e (options_between e i k) (k + 1) autos)) (weights_of n e a (if c then edges_for sending e (automaton_in n a) else (if nat_eq k k then edges_for receiving e (automaton_in n a) else options e (automaton_in n a))))) other
        ∙ ap (λ c. sum_by (λ w. spread (b + w) (weights n e (options_between e i k) (k + 1) autos)) (weights_of n e a (if c then edges_for receiving e (automaton_in n a) else options e (automaton_in n a)))) same
        ∙ ap (λ wss. sum_by (λ w. spread (b + w) wss) (here receiving)) (receiver-past i k (k + 1) autos (omega arith))

    later-both : (i j : ℕ) → k + 1 ≤ i → k + 1 ≤ j → pair i j ≡ sum_by (λ o. between n e (b + o) i j (k + 1) autos) stay
    later-both i j l m = by (nat_eq i j)
      where
        no-sender : nat_eq k i ≡ false
        no-sender = grind (arith, nat_tests)

        no-receiver : nat_eq k j ≡ false
        no-receiver = grind (arith, nat_tests)

        rest : ℕ → ℕ
        rest o = spread (b + o) (weights n e (options_between e i j) (k + 1) autos)

        by : (t : Bool) → (if t then 0 else spread b (weights n e (options_between e i j) k (a ∷ autos))) ≡ sum_by (λ o. if t then 0 else rest o) stay
        by true = sym (sum-nothing stay)
        by false =
            ap (λ c. sum_by rest (weights_of n e a (if c then edges_for sending e (automaton_in n a) else (if nat_eq k j then edges_for receiving e (automaton_in n a) else options e (automaton_in n a))))) no-sender
            ∙ ap (λ c. sum_by rest (weights_of n e a (if c then edges_for receiving e (automaton_in n a) else options e (automaton_in n a)))) no-receiver

    abbrev to_first : ℕ → ℕ
    to_first i = sum_by (λ w. one_weighs sending (b + w) i (k + 1) autos) (here receiving)

    abbrev to_later : ℕ → ℕ
    to_later i = sum_by (λ o. total n e receiving (λ j. between n e (b + o) i j (k + 1) autos) (k + 1) autos) stay

    later-sent : (i : ℕ) → k + 1 ≤ i → sent i ≡ to_first i + to_later i
    later-sent i l =
        ap (λ x. (if has_edge receiving e (automaton_in n a) then x else 0) + total n e receiving (pair i) (k + 1) autos) (later-first i l)
        ∙ ap (λ x. x + total n e receiving (pair i) (k + 1) autos) (had receiving a (λ w. one_weighs sending (b + w) i (k + 1) autos))
        ∙ ap (λ y. to_first i + y)
        (total-same receiving (pair i) (λ j. sum_by (λ o. between n e (b + o) i j (k + 1) autos) stay) (k + 1) autos (λ j m. later-both i j l m)
        ∙ total-sum receiving (λ o j. between n e (b + o) i j (k + 1) autos) (k + 1) autos stay)

    first-receives : total n e sending to_first (k + 1) autos ≡ sum_all b (there sending) (here receiving) all
    first-receives =
        total-sum sending (λ w i. one_weighs sending (b + w) i (k + 1) autos) (k + 1) autos (here receiving)
        ∙ sum-same (λ w. total n e sending (λ i. one_weighs sending (b + w) i (k + 1) autos) (k + 1) autos) (λ w. sum_by (λ v. spread (b + w + v) (own autos)) (there sending))
        (λ w. one-total sending autos (λ c m. (others c m).sends) (k + 1) (b + w)) (here receiving)
        ∙ beside-alone a (here receiving) (λ w. sum_by (λ v. spread (b + w + v) (own autos)) (there sending)) (λ w. sum_by (λ v. spread (b + w + v) all) (there sending)) one.receives
        (λ s w. sum-same (λ v. spread (b + w + v) (own autos)) (λ v. spread (b + w + v) all) (λ v. alone a (own autos) (b + w + v) s) (there sending))
        ∙ sum-swap (λ w v. spread (b + w + v) all) (here receiving) (there sending)
        ∙ sum-same (λ v. sum_by (λ w. spread (b + w + v) all) (here receiving)) (λ v. sum_by (λ w. spread (b + v + w) all) (here receiving))
        (λ v. sum-same (λ w. spread (b + w + v) all) (λ w. spread (b + v + w) all) (λ w. let m : b + w + v ≡ b + v + w = omega arith in ap (λ c. spread c all) m) (here receiving))
        (there sending)

    later-receives : ((c : ℕ) → total n e sending (λ i. total n e receiving (λ j. between n e c i j (k + 1) autos) (k + 1) autos) (k + 1) autos ≡ sum_all c (there sending) (there receiving) (own autos))
        → total n e sending to_later (k + 1) autos ≡ sum_all b (there sending) (there receiving) all
    later-receives r =
        total-sum sending (λ o i. total n e receiving (λ j. between n e (b + o) i j (k + 1) autos) (k + 1) autos) (k + 1) autos stay
        ∙ sum-same (λ o. total n e sending (λ i. total n e receiving (λ j. between n e (b + o) i j (k + 1) autos) (k + 1) autos) (k + 1) autos) (λ o. sum_all (b + o) (there sending) (there receiving) (own autos)) (λ o. r (b + o)) stay
        ∙ sum-swap (λ o v. sum_by (λ w. spread (b + o + v + w) (own autos)) (there receiving)) stay (there sending)
        ∙ sum-same (λ v. sum_by (λ o. sum_by (λ w. spread (b + o + v + w) (own autos)) (there receiving)) stay) (λ v. sum_by (λ w. spread (b + v + w) all) (there receiving)) each (there sending)
      where
        each : (v : ℕ) → sum_by (λ o. sum_by (λ w. spread (b + o + v + w) (own autos)) (there receiving)) stay ≡ sum_by (λ w. spread (b + v + w) all) (there receiving)
        each v =
            sum-swap (λ o w. spread (b + o + v + w) (own autos)) stay (there receiving)
            ∙ sum-same (λ w. sum_by (λ o. spread (b + o + v + w) (own autos)) stay) (λ w. spread (b + v + w) all)
            (λ w. sum-same (λ o. spread (b + o + v + w) (own autos)) (λ o. spread (b + v + w + o) (own autos)) (λ o. let m : b + o + v + w ≡ b + v + w + o = omega arith in ap (λ c. spread c (own autos)) m) stay)
            (there receiving)

    later-sends : ((c : ℕ) → total n e sending (λ i. total n e receiving (λ j. between n e c i j (k + 1) autos) (k + 1) autos) (k + 1) autos ≡ sum_all c (there sending) (there receiving) (own autos))
        → total n e sending sent (k + 1) autos ≡ sum_all b (there sending) (here receiving) all + sum_all b (there sending) (there receiving) all
    later-sends r =
        total-same sending sent (λ i. to_first i + to_later i) (k + 1) autos later-sent
        ∙ total-plus sending to_first to_later (k + 1) autos
        ∙ ap (λ x. x + total n e sending to_later (k + 1) autos) first-receives
        ∙ ap (λ y. sum_all b (there sending) (here receiving) all + y) (later-receives r)

    -- ---- both

    joined : sum_all b (here sending) (there receiving) all + (sum_all b (there sending) (here receiving) all + sum_all b (there sending) (there receiving) all)
        ≡ sum_all b (all_weights sending (a ∷ autos)) (all_weights receiving (a ∷ autos)) all
    joined =
        let split : sum_all b (all_weights sending (a ∷ autos)) (all_weights receiving (a ∷ autos)) all ≡ sum_by (λ v. f v + g v) (here sending ++ there sending) =
        sum-same (λ v. sum_by (λ w. spread (b + v + w) all) (here receiving ++ there receiving)) (λ v. f v + g v) (λ v. sum_by-append (λ w. spread (b + v + w) all) (here receiving) (there receiving)) (here sending ++ there sending) in
        omega (arith, split, sum-plus f g (here sending ++ there sending), sum_by-append f (here sending) (there sending), sum_by-append g (here sending) (there sending), none)
      where
        f : ℕ → ℕ
        f v = sum_by (λ w. spread (b + v + w) all) (here receiving)

        g : ℕ → ℕ
        g v = sum_by (λ w. spread (b + v + w) all) (there receiving)

        -- no automaton does both
        none : sum_by f (here sending) ≡ 0
        none =
            elim one.either [
              | inl w ↦ ap (sum_by f) w
              | inr w ↦ sum-same f (λ v. 0) (λ v. ap (sum_by (λ x. spread (b + v + x) all)) w) (here sending) ∙ sum-nothing (here sending)
            ]

  pub pair-total : (autos : List NetAuto) → ((a : NetAuto) → Member a autos → HasOneRole a) → (k b : ℕ)
      → total n e sending (λ i. total n e receiving (λ j. between n e b i j k autos) k autos) k autos ≡ spread b (all_weights sending autos ∷ all_weights receiving autos ∷ own autos)
  pair-total [] h k b = refl
  pair-total (a ∷ autos) h k b =
      ap (λ x. x + total n e sending (sent a autos k b (h a (inl refl)) (λ c m. h c (inr m))) (k + 1) autos) (first-sends a autos k b (h a (inl refl)) (λ c m. h c (inr m)))
      ∙ ap (λ y. sum_all b (role_weights n e sending a) (all_weights receiving autos) (own (a ∷ autos)) + y)
      (later-sends a autos k b (h a (inl refl)) (λ c m. h c (inr m)) (pair-total autos (λ c m. h c (inr m)) (k + 1)))
      ∙ joined a autos k b (h a (inl refl)) (λ c m. h c (inr m))
