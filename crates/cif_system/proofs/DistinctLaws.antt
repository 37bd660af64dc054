-- Each choice for an event is listed once.
use Rattle.std.proofs.Common.{◌≡◌, ℕ, zero, suc, ◌+◌, Bool, true, false, ◌⊎◌, inl, inr, List, [], ◌∷◌, ◌++◌, map, Option, Some, None, refl, sym, ◌∙◌, ap, subst, arith}
use Rattle.std.specs.Prelude.{slice_get, flat_map, filter_map, nat_eq, if◌then◌else◌}
use Rattle.std.specs.List.{cons_option, list_any, enumerate_from}
use Rattle.std.proofs.lemmas.Bool.{eqb-true, ne_eqb, eq-eqb}
use Rattle.cif_system.specs.Words.{AreDistinct, Member}
use Rattle.cif_system.specs.System.{Automaton, Edge, Role, System, receiving, sending, syncing}
use Rattle.cif_system.specs.Step.{Choice, Numbered, has_edge, is_channel, is_for, is_party, numbered, same_role}
use Rattle.cif_system.specs.Choices.{channel_choices, choices, edges_for, having, number_if, options, options_between, plain_choices, product_of, stay}
use Rattle.cif_system.proofs.Distinct.{member-append, member-map, member-flat_map, member-filter, append-distinct, map-distinct, filter-distinct, flat_map-distinct}
use Rattle.cif_system.proofs.Lists.{some-same, none-some, false-true}
use Rattle.cif_system.proofs.Picks.{and-left}
use Rattle.cif_system.proofs.ChoiceLaws.{Taken}

-- a number of an edge in the list is that of one that passes
record Passing (p : Edge → Bool) (n : ℕ) (xs : List Edge) (m : Option ℕ) : Type 0 where
  at : ℕ
  edge : Edge
  is : m ≡ Some (n + at)
  stands : slice_get xs at ≡ Some edge
  passes : p edge ≡ true

later : (p : Edge → Bool) (n : ℕ) (x : Edge) (xs : List Edge) (m : Option ℕ) → Passing p (n + 1) xs m → Passing p n (x ∷ xs) m
later p n x xs m r = record { at = suc r.at; edge = r.edge; is = r.is ∙ ap Some (omega arith); stands = r.stands; passes = r.passes }

number-passing : (p : Edge → Bool) (n : ℕ) (xs : List Edge) (m : Option ℕ) → Member m (filter_map (number_if p) (enumerate_from n xs)) → Passing p n xs m
number-passing p n [] m h = absurd h
number-passing p n (x ∷ xs) m h =
    (elim (p x) as (λ b. p x ≡ b → Member m (cons_option (if b then Some (Some n) else None) (filter_map (number_if p) (enumerate_from (n + 1) xs))) → Passing p n (x ∷ xs) m) [
      | true ↦ λ e g. elim g [
        | inl w ↦ record { at = 0; edge = x; is = w ∙ ap Some (omega arith); stands = refl; passes = e }
        | inr w ↦ later p n x xs m (number-passing p (n + 1) xs m w)
      ]
      | false ↦ λ e g. later p n x xs m (number-passing p (n + 1) xs m g)
    ]) refl h

numbers-distinct : (p : Edge → Bool) (n : ℕ) (xs : List Edge) → AreDistinct (filter_map (number_if p) (enumerate_from n xs))
numbers-distinct p n [] = tt
numbers-distinct p n (x ∷ xs) =
    elim (p x) as (λ b. AreDistinct (cons_option (if b then Some (Some n) else None) (filter_map (number_if p) (enumerate_from (n + 1) xs)))) [
      | true ↦ (
        λ w. let r = number-passing p (n + 1) xs (Some n) w in let e : n ≡ n + 1 + r.at = some-same n (n + 1 + r.at) r.is in absurd (omega (arith, e)),
        numbers-distinct p (n + 1) xs,
      )
      | false ↦ numbers-distinct p (n + 1) xs
    ]

-- each of the edges for e in a role is an edge in that role
pub edge-taken : (p : Role) (e : ℕ) (a : Numbered) (m : Option ℕ) → Member m (edges_for p e a.1) → Taken p e a m
edge-taken p e a m h =
    let r = number-passing (is_for p e) 0 a.1.edges m h in
    record { number = r.at; way = r.edge; is = r.is ∙ ap Some (omega arith); stands = r.stands; in_role = r.passes }

role-is : (p r : Role) → same_role p r ≡ true → p ≡ r
role-is syncing syncing h = refl
role-is sending sending h = refl
role-is receiving receiving h = refl
role-is p r h = absurd (false-true refl h)

-- an edge has one role
edges-role : (p q : Role) (e : ℕ) (a : Numbered) (m : Option ℕ) → Member m (edges_for p e a.1) → Member m (edges_for q e a.1) → p ≡ q
edges-role p q e a m h g =
    let x = edge-taken p e a m h in
    let y = edge-taken q e a m g in
    let number : x.number ≡ y.number = some-same x.number y.number (sym x.is ∙ y.is) in
    let way : x.way ≡ y.way = some-same x.way y.way (sym x.stands ∙ ap (slice_get a.1.edges) number ∙ y.stands) in
    role-is p x.way.role (and-left _ _ x.in_role) ∙ ap (λ (w : Edge). w.role) way ∙ sym (role-is q y.way.role (and-left _ _ y.in_role))

-- to stay is no edge
stay-none : (b : Bool) (m : Option ℕ) → Member m (stay b) → m ≡ None
stay-none true m h = elim h [ inl w ↦ w | inr w ↦ absurd w ]
stay-none false m h = absurd h

edge-moves : (p : Role) (e : ℕ) (a : Numbered) (m : Option ℕ) → Member m (edges_for p e a.1) → m ≡ None → ⊥
edge-moves p e a m h is = let x = edge-taken p e a m h in none-some x.number (sym is ∙ x.is)

stay-distinct : (b : Bool) → AreDistinct (stay b)
stay-distinct true = (λ w. w, tt)
stay-distinct false = tt

pub options-distinct : (e : ℕ) (a : Automaton) → AreDistinct (options e a)
options-distinct e a =
    elim (a.synchronises e) as (λ b. AreDistinct (if b then edges_for syncing e a ++ stay (a.monitors e) else None ∷ [])) [
      | true ↦
          append-distinct (edges_for syncing e a) (stay (a.monitors e)) (numbers-distinct (is_for syncing e) 0 a.edges) (stay-distinct (a.monitors e))
          (λ m h g. edge-moves syncing e (0, a) m h (stay-none (a.monitors e) m g))
      | false ↦ (λ w. w, tt)
    ]

-- what an automaton does that neither sends nor receives is to stay or an edge on which it synchronises
options-plain : (e : ℕ) (a : Numbered) (m : Option ℕ) → Member m (options e a.1) → (m ≡ None) ⊎ Member m (edges_for syncing e a.1)
options-plain e a m h =
    (elim (a.1.synchronises e) as (λ b. Member m (if b then edges_for syncing e a.1 ++ stay (a.1.monitors e) else None ∷ []) → (m ≡ None) ⊎ Member m (edges_for syncing e a.1)) [
      | true ↦ λ g. elim (member-append m (edges_for syncing e a.1) (stay (a.1.monitors e)) g) [ inl w ↦ inr w | inr w ↦ inl (stay-none (a.1.monitors e) m w) ]
      | false ↦ λ g. elim g [ inl w ↦ inl w | inr w ↦ absurd w ]
    ]) h

-- one of each of distinct lists
pub product_of-distinct : {A B : Type 0} → (f : A → List B) → ((x : A) → AreDistinct (f x)) → (xs : List A) → AreDistinct (product_of (map f xs))
product_of-distinct f each [] = (λ w. w, tt)
product_of-distinct {B = B} f each (x ∷ xs) =
    let rest = product_of (map f xs) in
    flat_map-distinct (λ y. map (λ ys. y ∷ ys) rest) (f x) (each x)
    (λ y w. map-distinct (λ ys. y ∷ ys) (λ u v h. cc) rest (product_of-distinct f each xs))
    (λ y z w u v h g. let a = member-map (λ ys. y ∷ ys) w rest h in let b = member-map (λ ys. z ∷ ys) w rest g in head y z a.0 b.0 (sym a.2 ∙ b.2))
  where
    head : (y z : B) (ys zs : List B) → (y ∷ ys) ≡ (z ∷ zs) → y ≡ z
    head y z ys zs h = cc

-- what a member of a product does at a place
pub product_of-at : {A : Type 0} → (xss : List (List A)) → (ys : List A) → Member ys (product_of xss) → (k : ℕ) (xs : List A) → slice_get xss k ≡ Some xs → (y : A) × (slice_get ys k ≡ Some y) × Member y xs
product_of-at [] ys h k xs g = absurd (none-some xs g)
product_of-at (zs ∷ xss) ys h zero xs g =
    let r = member-flat_map (λ x. map (λ us. x ∷ us) (product_of xss)) ys zs h in
    let t = member-map (λ us. r.0 ∷ us) ys (product_of xss) r.2 in
    (r.0, ap (λ us. slice_get us 0) t.2, subst (λ us. Member r.0 us) (some-same zs xs g) r.1)
product_of-at (zs ∷ xss) ys h (suc k) xs g =
    let r = member-flat_map (λ x. map (λ us. x ∷ us) (product_of xss)) ys zs h in
    let t = member-map (λ us. r.0 ∷ us) ys (product_of xss) r.2 in
    let u = product_of-at xss t.0 t.1 k xs g in
    (u.0, ap (λ us. slice_get us (suc k)) t.2 ∙ u.1, u.2)

-- what an automaton between a sender and a receiver does in a role
sends-there : (e i j : ℕ) (a : Numbered) (m : Option ℕ) → Member m (options_between e i j a) → Member m (edges_for sending e a.1) → a.0 ≡ i
sends-there e i j a m h g =
    (elim (nat_eq a.0 i) as (λ b. nat_eq a.0 i ≡ b → Member m (if b then edges_for sending e a.1 else (if nat_eq a.0 j then edges_for receiving e a.1 else options e a.1)) → a.0 ≡ i) [
      | true ↦ λ is w. eqb-true a.0 i is
      | false ↦ λ is. elim (nat_eq a.0 j) as (λ b. Member m (if b then edges_for receiving e a.1 else options e a.1) → a.0 ≡ i) [
        | true ↦ λ w. absurd (sending-receiving (edges-role sending receiving e a m g w))
        | false ↦ λ w. elim (options-plain e a m w) [ inl v ↦ absurd (edge-moves sending e a m g v) | inr v ↦ absurd (sending-syncing (edges-role sending syncing e a m g v)) ]
      ]
    ]) refl h
  where
    sending-receiving : sending ≡ receiving → ⊥
    sending-receiving h = cc

    sending-syncing : sending ≡ syncing → ⊥
    sending-syncing h = cc

receives-there : (e i j : ℕ) (a : Numbered) (m : Option ℕ) → Member m (options_between e i j a) → Member m (edges_for receiving e a.1) → a.0 ≡ j
receives-there e i j a m h g =
    (elim (nat_eq a.0 i) as (λ b. Member m (if b then edges_for sending e a.1 else (if nat_eq a.0 j then edges_for receiving e a.1 else options e a.1)) → a.0 ≡ j) [
      | true ↦ λ w. absurd (receiving-sending (edges-role receiving sending e a m g w))
      | false ↦ (elim (nat_eq a.0 j) as (λ b. nat_eq a.0 j ≡ b → Member m (if b then edges_for receiving e a.1 else options e a.1) → a.0 ≡ j) [
        | true ↦ λ is w. eqb-true a.0 j is
        | false ↦ λ is w. elim (options-plain e a m w) [ inl v ↦ absurd (edge-moves receiving e a m g v) | inr v ↦ absurd (receiving-syncing (edges-role receiving syncing e a m g v)) ]
      ]) refl
    ]) h
  where
    receiving-sending : receiving ≡ sending → ⊥
    receiving-sending h = cc

    receiving-syncing : receiving ≡ syncing → ⊥
    receiving-syncing h = cc

pub options_between-distinct : (e i j : ℕ) (a : Numbered) → AreDistinct (options_between e i j a)
options_between-distinct e i j a =
    elim (nat_eq a.0 i) as (λ b. AreDistinct (if b then edges_for sending e a.1 else (if nat_eq a.0 j then edges_for receiving e a.1 else options e a.1))) [
      | true ↦ numbers-distinct (is_for sending e) 0 a.1.edges
      | false ↦ elim (nat_eq a.0 j) as (λ b. AreDistinct (if b then edges_for receiving e a.1 else options e a.1)) [
        | true ↦ numbers-distinct (is_for receiving e) 0 a.1.edges
        | false ↦ options-distinct e a.1
      ]
    ]

-- numbered automata are distinct, and each stands at its number
enumerated-at : {A : Type 0} → (n : ℕ) → (xs : List A) → (z : ℕ × A) → Member z (enumerate_from n xs) → (k : ℕ) × (slice_get (enumerate_from n xs) k ≡ Some z) × (z.0 ≡ n + k)
enumerated-at n [] z h = absurd h
enumerated-at n (x ∷ xs) z h = elim h [
  | inl w ↦ (0, ap Some (sym w), ap (λ v. v.0) w ∙ omega arith)
  | inr w ↦ let r = enumerated-at (n + 1) xs z w in (suc r.0, r.1, r.2 ∙ omega arith)
]

enumerated-distinct : {A : Type 0} → (n : ℕ) → (xs : List A) → AreDistinct (enumerate_from n xs)
enumerated-distinct n [] = tt
enumerated-distinct n (x ∷ xs) = (λ w. let r = enumerated-at (n + 1) xs (n, x) w in absurd (omega (arith, r.2)), enumerated-distinct (n + 1) xs)

having-at : (p : Role) (m : System) (e : ℕ) (a : Numbered) → Member a (having p m e) → slice_get (numbered m) a.0 ≡ Some a
having-at p m e a h =
    let r = enumerated-at 0 m.automata a (member-filter (λ (b : Numbered). has_edge p e b.1) a (numbered m) h) in
    ap (slice_get (numbered m)) (r.2 ∙ omega arith) ∙ r.1

number-same : (m : System) (a b : Numbered) → slice_get (numbered m) a.0 ≡ Some a → slice_get (numbered m) b.0 ≡ Some b → a.0 ≡ b.0 → a ≡ b
number-same m a b h g same = some-same a b (sym h ∙ ap (slice_get (numbered m)) same ∙ g)

having-distinct : (p : Role) (m : System) (e : ℕ) → AreDistinct (having p m e)
having-distinct p m e = filter-distinct (λ (a : Numbered). has_edge p e a.1) (numbered m) (enumerated-distinct 0 m.automata)

-- the choices where automaton i sends to automaton j
abbrev between : System → ℕ → Numbered → Numbered → List Choice
between m e i j = if nat_eq i.0 j.0 then [] else product_of (map (options_between e i.0 j.0) (numbered m))

between-parts : (m : System) (e : ℕ) (i j : Numbered) (ch : Choice) → Member ch (between m e i j) → (i.0 ≡ j.0 → ⊥) × Member ch (product_of (map (options_between e i.0 j.0) (numbered m)))
between-parts m e i j ch h =
    (elim (nat_eq i.0 j.0) as (λ b. nat_eq i.0 j.0 ≡ b → Member ch (if b then [] else product_of (map (options_between e i.0 j.0) (numbered m))) → (i.0 ≡ j.0 → ⊥) × Member ch (product_of (map (options_between e i.0 j.0) (numbered m)))) [
      | true ↦ λ is g. absurd g
      | false ↦ λ is g. (λ same. false-true is (eq-eqb i.0 j.0 same), g)
    ]) refl h

between-distinct : (m : System) (e : ℕ) (i j : Numbered) → AreDistinct (between m e i j)
between-distinct m e i j =
    elim (nat_eq i.0 j.0) as (λ b. AreDistinct (if b then [] else product_of (map (options_between e i.0 j.0) (numbered m)))) [
      | true ↦ tt
      | false ↦ product_of-distinct (options_between e i.0 j.0) (options_between-distinct e i.0 j.0) (numbered m)
    ]

at-map : {A B : Type 0} → (f : A → B) → (xs : List A) → (k : ℕ) → (x : A) → slice_get xs k ≡ Some x → slice_get (map f xs) k ≡ Some (f x)
at-map f [] k x g = absurd (none-some x g)
at-map f (y ∷ xs) zero x g = ap (λ z. Some (f z)) (some-same y x g)
at-map f (y ∷ xs) (suc k) x g = at-map f xs k x g

-- what automaton a does in a choice where i sends to j
does : (m : System) (e : ℕ) (i j a : Numbered) (ch : Choice) → Member ch (between m e i j) → slice_get (numbered m) a.0 ≡ Some a
    → (o : Option ℕ) × (slice_get ch a.0 ≡ Some o) × Member o (options_between e i.0 j.0 a)
does m e i j a ch h g =
    product_of-at (map (options_between e i.0 j.0) (numbered m)) ch (between-parts m e i j ch h).1 a.0 (options_between e i.0 j.0 a) (at-map (options_between e i.0 j.0) (numbered m) a.0 a g)

-- a choice tells who sends
sender-same : (m : System) (e : ℕ) (i j k l : Numbered) (ch : Choice) → slice_get (numbered m) i.0 ≡ Some i → Member ch (between m e i j) → Member ch (between m e k l) → i.0 ≡ k.0
sender-same m e i j k l ch at h g =
    let x = does m e i j i ch h at in
    let y = does m e k l i ch g at in
    let same : x.0 ≡ y.0 = some-same x.0 y.0 (sym x.1 ∙ y.1) in
    let sends : Member x.0 (edges_for sending e i.1) =
    subst (λ b. Member x.0 (if b then edges_for sending e i.1 else (if nat_eq i.0 j.0 then edges_for receiving e i.1 else options e i.1))) (eq-eqb i.0 i.0 refl) x.2 in
    sends-there e k.0 l.0 i x.0 (subst (λ o. Member o (options_between e k.0 l.0 i)) (sym same) y.2) sends

-- and who receives
receiver-same : (m : System) (e : ℕ) (i j l : Numbered) (ch : Choice) → slice_get (numbered m) j.0 ≡ Some j → Member ch (between m e i j) → Member ch (between m e i l) → j.0 ≡ l.0
receiver-same m e i j l ch at h g =
    let x = does m e i j j ch h at in
    let y = does m e i l j ch g at in
    let same : x.0 ≡ y.0 = some-same x.0 y.0 (sym x.1 ∙ y.1) in
    let apart : nat_eq j.0 i.0 ≡ false = ne_eqb j.0 i.0 (λ is. (between-parts m e i j ch h).0 (sym is)) in
    let other : Member x.0 (if nat_eq j.0 j.0 then edges_for receiving e j.1 else options e j.1) =
    subst (λ b. Member x.0 (if b then edges_for sending e j.1 else (if nat_eq j.0 j.0 then edges_for receiving e j.1 else options e j.1))) apart x.2 in
    let receives : Member x.0 (edges_for receiving e j.1) = subst (λ b. Member x.0 (if b then edges_for receiving e j.1 else options e j.1)) (eq-eqb j.0 j.0 refl) other in
    receives-there e i.0 l.0 j x.0 (subst (λ o. Member o (options_between e i.0 l.0 j)) (sym same) y.2) receives

channel_choices-distinct : (m : System) (e : ℕ) → AreDistinct (channel_choices m e)
channel_choices-distinct m e =
    flat_map-distinct (λ (i : Numbered). flat_map (between m e i) (having receiving m e)) (having sending m e) (having-distinct sending m e) inner
    (λ i k ch a b h g.
    let x = member-flat_map (between m e i) ch (having receiving m e) h in
    let y = member-flat_map (between m e k) ch (having receiving m e) g in
    let at = having-at sending m e i a in
    number-same m i k at (having-at sending m e k b) (sender-same m e i x.0 k y.0 ch at x.2 y.2))
  where
    inner : (i : Numbered) → Member i (having sending m e) → AreDistinct (flat_map (between m e i) (having receiving m e))
    inner i _ =
        flat_map-distinct (between m e i) (having receiving m e) (having-distinct receiving m e) (λ j _. between-distinct m e i j)
        (λ j l ch a b h g.
        let at = having-at receiving m e j a in
        number-same m j l at (having-at receiving m e l b) (receiver-same m e i j l ch at h g))

plain_choices-distinct : (m : System) (e : ℕ) → AreDistinct (plain_choices m e)
plain_choices-distinct m e =
    elim (list_any (is_party e) m.automata) as (λ b. AreDistinct (if b then product_of (map (options e) m.automata) else [])) [
      | true ↦ product_of-distinct (options e) (options-distinct e) m.automata
      | false ↦ tt
    ]

-- no choice is listed twice
pub choices-distinct : (m : System) (e : ℕ) → AreDistinct (choices m e)
choices-distinct m e =
    elim (is_channel m e) as (λ b. AreDistinct (if b then channel_choices m e else plain_choices m e)) [
      | true ↦ channel_choices-distinct m e
      | false ↦ plain_choices-distinct m e
    ]
