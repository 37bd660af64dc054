-- The choices for an event in a fixed order, the first of them that makes a step, and how many there are. For a channel
-- they go by the sender's number and then by the receiver's; then lexicographically by the automata in ascending number.
use Rattle.std.specs.Prelude.{ℕ, zero, suc, ◌*◌, Bool, nat_eq, List, [], ◌∷◌, ◌++◌, map, length, filter, find, flat_map, filter_map, sum, Option, Some, None, option_map, if◌then◌else◌}
use Rattle.std.specs.List.{list_any, enumerate_from, range_with_len}
use Rattle.cif_system.specs.System.{Edge, Automaton, Role, State, System, receiving, sending, syncing}
use Rattle.cif_system.specs.Step.{Choice, Numbered, after, has_edge, is_channel, is_for, is_party, makes_step, numbered}

abbrev pub number_if : (Edge → Bool) → ℕ × Edge → Option (Option ℕ)
number_if p (k, x) = if p x then Some (Some k) else None

-- the edges of an automaton for e in a role, by number, in text order
abbrev pub edges_for : Role → ℕ → Automaton → List (Option ℕ)
edges_for p e a = filter_map (number_if (is_for p e)) (enumerate_from 0 a.edges)

-- to stay, where that is allowed
abbrev pub stay : Bool → List (Option ℕ)
stay b = if b then None ∷ [] else []

-- what an automaton may do for e; to stay is last
abbrev pub options : ℕ → Automaton → List (Option ℕ)
options e a = if a.synchronises e then edges_for syncing e a ++ stay (a.monitors e) else None ∷ []

-- one of each list, in lexicographic order
abbrev pub product_of : {A : Type 0} → List (List A) → List (List A)
product_of [] = [] ∷ []
product_of (xs ∷ xss) = let rest = product_of xss in flat_map (λ x. map (λ ys. x ∷ ys) rest) xs

-- what an automaton may do where automaton i sends to automaton j
abbrev pub options_between : ℕ → ℕ → ℕ → Numbered → List (Option ℕ)
options_between e i j (k, a) = if nat_eq k i then edges_for sending e a else (if nat_eq k j then edges_for receiving e a else options e a)

-- the choices for an event that is no channel: none where it has no party
abbrev pub plain_choices : System → ℕ → List Choice
plain_choices m e = if list_any (is_party e) m.automata then product_of (map (options e) m.automata) else []

-- the automata with an edge for e in a role
abbrev pub having : Role → System → ℕ → List Numbered
having p m e = filter (λ (a : Numbered). has_edge p e a.1) (numbered m)

-- the choices for a channel, by sender and then by another automaton that receives
abbrev pub channel_choices : System → ℕ → List Choice
channel_choices m e =
    flat_map (λ (i : Numbered). flat_map (λ (j : Numbered). if nat_eq i.0 j.0 then [] else product_of (map (options_between e i.0 j.0) (numbered m)))
    (having receiving m e)) (having sending m e)

-- the choices for e in their order
abbrev pub choices : System → ℕ → List Choice
choices m e = if is_channel m e then channel_choices m e else plain_choices m e

-- the state after the first choice that makes a step
abbrev pub first_step : System → State → ℕ → Option State
first_step m s e = option_map (after m s) (find (makes_step m s e) (choices m e))

-- the product of f over the list
abbrev pub product_by : {A : Type 0} → (A → ℕ) → List A → ℕ
product_by f [] = 1
product_by f (x ∷ xs) = f x * product_by f xs

abbrev pub plain_count : System → ℕ → ℕ
plain_count m e = if list_any (is_party e) m.automata then product_by (λ a. length (options e a)) m.automata else 0

abbrev pub channel_count : System → ℕ → ℕ
channel_count m e =
    sum (map (λ (i : Numbered). sum (map (λ (j : Numbered). if nat_eq i.0 j.0 then 0 else product_by (λ x. length (options_between e i.0 j.0 x)) (numbered m))
    (having receiving m e))) (having sending m e))

-- how many choices there are for e, counted without listing them
abbrev pub choice_count : System → ℕ → ℕ
choice_count m e = if is_channel m e then channel_count m e else plain_count m e

abbrev pub event_numbers : System → List ℕ
event_numbers m = range_with_len 0 (length m.events)

-- how many choices there are for all events together
abbrev pub all_choices : System → ℕ
all_choices m = sum (map (choice_count m) (event_numbers m))
