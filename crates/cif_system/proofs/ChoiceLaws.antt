-- Each choice that agrees stands in the list of choices.
use Rattle.std.proofs.Common.{◌≡◌, ℕ, zero, suc, ◌+◌, Bool, true, false, not, inl, inr, List, [], ◌∷◌, ◌++◌, length, map, filter, Option, Some, None, refl, sym, ◌∙◌, ap, subst, arith}
use Rattle.std.specs.Prelude.{slice_get, ◌&&◌, ◌||◌, flat_map, filter_map, nat_eq, IsTrue, if◌then◌else◌}
use Rattle.std.specs.List.{list_all, list_any, enumerate_from}
use Rattle.std.proofs.lemmas.Bool.{eqb-true, ne_eqb, eq-eqb}
use Rattle.cif_system.specs.Words.{Member}
use Rattle.cif_system.specs.System.{Edge, Role, State, System, receiving, sending, syncing}
use Rattle.cif_system.specs.Step.{Choice, Numbered, agrees, makes_step, fits, has_edge, is_channel, is_for, is_enabled, is_party, moves, numbered, partners, passes, place_of, same_role, stays, takes}
use Rattle.cif_system.specs.Choices.{edges_for, channel_choices, choices, having, number_if, options, options_between, plain_choices, product_of, stay}
use Rattle.cif_system.proofs.Lists.{some-same, none-some, false-true, filter-member, map-length}
use Rattle.cif_system.proofs.Picks.{and-left, and-right, or-cases, all-at, any-at, none-at, One, one-of, append-left, append-right, flat_map-member, at-member, product_of-member, map-at, enumerate_from-at, at-enumerate_from, zip-at, at-zip}

-- what an automaton takes is one of its edges
pub record Taken (role : Role) (e : ℕ) (a : Numbered) (m : Option ℕ) : Type 0 where
  pub number : ℕ
  pub way : Edge
  pub is : m ≡ Some number
  pub stands : slice_get a.1.edges number ≡ Some way
  pub in_role : is_for role e way ≡ true

pub takes-edge : (role : Role) (e : ℕ) (s : State) (a : Numbered) (m : Option ℕ) → takes role e s (a, m) ≡ true → Taken role e a m
takes-edge role e s a None h = absurd (false-true refl h)
takes-edge role e s a (Some k) h =
    (elim (slice_get a.1.edges k) as (λ o. slice_get a.1.edges k ≡ o → passes (is_enabled role e s a) o ≡ true → Taken role e a (Some k)) [
      | None ↦ λ g p. absurd (false-true refl p)
      | Some w ↦ λ g p. record { number = k; way = w; is = refl; stands = g; in_role = and-left (is_for role e w) _ (and-left (is_for role e w && nat_eq w.from (place_of s a)) _ p) }
    ]) refl h

-- an edge that passes stands among the numbers of those that do
pub numbered-member : (p : Edge → Bool) (xs : List Edge) (n k j : ℕ) (w : Edge) → slice_get xs k ≡ Some w → p w ≡ true → j ≡ n + k → Member (Some j) (filter_map (number_if p) (enumerate_from n xs))
numbered-member p [] n k j w g h i = absurd (none-some w g)
numbered-member p (x ∷ xs) n zero j w g h i =
    (elim (p x) as (λ b. p x ≡ b → Member (Some j) (filter_map (number_if p) (enumerate_from n (x ∷ xs)))) [
      | true ↦ λ e. rw e (inl (ap Some (omega (arith, i))))
      | false ↦ λ e. absurd (false-true e (subst (λ z. p z ≡ true) (sym (some-same x w g)) h))
    ]) refl
numbered-member p (x ∷ xs) n (suc k) j w g h i =
    let rest = numbered-member p xs (n + 1) k j w g h (omega (arith, i)) in
    (elim (p x) as (λ b. p x ≡ b → Member (Some j) (filter_map (number_if p) (enumerate_from n (x ∷ xs)))) [
      | true ↦ λ e. rw e (inr rest)
      | false ↦ λ e. rw e rest
    ]) refl

-- an edge that is taken is one of those for e
pub taken-edge : (role : Role) (e : ℕ) (a : Numbered) (m : Option ℕ) → Taken role e a m → Member m (edges_for role e a.1)
taken-edge role e a m x =
    subst (λ o. Member o (edges_for role e a.1)) (sym x.is) (numbered-member (is_for role e) a.1.edges 0 x.number x.number x.way x.stands x.in_role (omega arith))

pub stays-none : (a : Numbered) (m : Option ℕ) → stays (a, m) ≡ true → m ≡ None
stays-none a None h = refl
stays-none a (Some k) h = absurd (false-true refl h)

-- what fits, and neither sends nor receives, is one of the options
pub fits-options : (e : ℕ) (s : State) (a : Numbered) (m : Option ℕ) → fits e s (a, m) ≡ true → takes sending e s (a, m) ≡ false → takes receiving e s (a, m) ≡ false → Member m (options e a.1)
fits-options e s a m h no_send no_receive =
    (elim (a.1.synchronises e) as (λ b.
    (if b then takes syncing e s (a, m) || (stays (a, m) && a.1.monitors e && not (list_any (is_enabled syncing e s a) a.1.edges))
    else takes sending e s (a, m) || takes receiving e s (a, m) || stays (a, m)) ≡ true
    → Member m (if b then edges_for syncing e a.1 ++ stay (a.1.monitors e) else None ∷ [])) [
      | true ↦ λ g. elim (or-cases (takes syncing e s (a, m)) _ g) [
        | inl t ↦ append-left m (edges_for syncing e a.1) (stay (a.1.monitors e)) (taken-edge syncing e a m (takes-edge syncing e s a m t))
        | inr r ↦
            let both : (stays (a, m) && a.1.monitors e) ≡ true = and-left (stays (a, m) && a.1.monitors e) _ r in
            append-right m (edges_for syncing e a.1) (stay (a.1.monitors e))
            (subst (λ b. Member m (stay b)) (sym (and-right (stays (a, m)) (a.1.monitors e) both)) (inl (stays-none a m (and-left (stays (a, m)) (a.1.monitors e) both))))
      ]
      | false ↦ λ g. elim (or-cases (takes sending e s (a, m) || takes receiving e s (a, m)) (stays (a, m)) g) [
        | inl t ↦ elim (or-cases (takes sending e s (a, m)) (takes receiving e s (a, m)) t) [
          | inl x ↦ absurd (false-true no_send x)
          | inr x ↦ absurd (false-true no_receive x)
        ]
        | inr r ↦ inl (stays-none a m r)
      ]
    ]) h

pub enumerate_from-length : {A : Type 0} → (n : ℕ) → (xs : List A) → length (enumerate_from n xs) ≡ length xs
enumerate_from-length n [] = refl
enumerate_from-length n (x ∷ xs) = omega (arith, enumerate_from-length (n + 1) xs)

-- the parts of agreement
pub record Agreed (t : System) (s : State) (e : ℕ) (ch : Choice) : Type 0 where
  pub one_each : length ch ≡ length t.automata
  pub some_party : list_any (is_party e) t.automata ≡ true
  pub each_fits : list_all (fits e s) (moves t ch) ≡ true
  pub sender : length (filter (takes sending e s) (moves t ch)) ≡ partners t e
  pub receiver : length (filter (takes receiving e s) (moves t ch)) ≡ partners t e

pub agrees-parts : (t : System) (s : State) (e : ℕ) (ch : Choice) → IsTrue (agrees t s e ch) → Agreed t s e ch
agrees-parts t s e ch h =
    let h4 = and-left _ _ h in
    let h3 = and-left _ _ h4 in
    let h2 = and-left _ _ h3 in
    record {
      one_each = eqb-true _ _ (and-left _ _ h2);
      some_party = and-right _ _ h2;
      each_fits = and-right _ _ h3;
      sender = eqb-true _ _ (and-right _ _ h4);
      receiver = eqb-true _ _ (and-right _ _ h);
    }

pub plain-member : (t : System) (s : State) (e : ℕ) (ch : Choice) → Agreed t s e ch → partners t e ≡ 0 → Member ch (plain_choices t e)
plain-member t s e ch h none =
    subst (λ b. Member ch (if b then product_of (map (options e) t.automata) else [])) (sym h.some_party)
    (product_of-member (map (options e) t.automata) ch (h.one_each ∙ sym (map-length (options e) t.automata)) each)
  where
    each : (k : ℕ) (xs : List (Option ℕ)) (m : Option ℕ) → slice_get (map (options e) t.automata) k ≡ Some xs → slice_get ch k ≡ Some m → Member m xs
    each k xs m g i =
        let a = map-at (options e) t.automata k xs g in
        let z = zip-at (numbered t) ch k (k, a.0) m (enumerate_from-at t.automata 0 k k a.0 a.1 (omega arith)) i in
        subst (λ ys. Member m ys) (sym a.2)
        (fits-options e s (k, a.0) m (all-at (fits e s) (moves t ch) k ((k, a.0), m) h.each_fits z)
        (none-at (takes sending e s) (moves t ch) k ((k, a.0), m) (h.sender ∙ none) z)
        (none-at (takes receiving e s) (moves t ch) k ((k, a.0), m) (h.receiver ∙ none) z))

pub not-both : (p : Role) → same_role sending p ≡ true → same_role receiving p ≡ true → ⊥
not-both syncing h g = false-true refl h
not-both sending h g = false-true refl g
not-both receiving h g = false-true refl h

-- an automaton takes one edge
pub not-both-taken : (e : ℕ) (s : State) (a : Numbered) (m : Option ℕ) → takes sending e s (a, m) ≡ true → takes receiving e s (a, m) ≡ true → ⊥
not-both-taken e s a m h g =
    let x = takes-edge sending e s a m h in
    let y = takes-edge receiving e s a m g in
    let number : x.number ≡ y.number = some-same x.number y.number (sym x.is ∙ y.is) in
    let way : x.way ≡ y.way = some-same x.way y.way (sym x.stands ∙ ap (slice_get a.1.edges) number ∙ y.stands) in
    not-both x.way.role (and-left _ _ x.in_role) (subst (λ (w : Edge). same_role receiving w.role ≡ true) (sym way) (and-left _ _ y.in_role))

-- an automaton that takes an edge in a role has one
pub taken-has : (role : Role) (e : ℕ) (a : Numbered) (m : Option ℕ) → Taken role e a m → has_edge role e a.1 ≡ true
taken-has role e a m x = any-at (is_for role e) a.1.edges x.number x.way x.stands x.in_role

-- a choice for a channel, with the automaton that sends and the one that receives
module _ (t : System) (s : State) (e : ℕ) (ch : Choice) (h : Agreed t s e ch) (from : One (takes sending e s) (moves t ch)) (to : One (takes receiving e s) (moves t ch)) where
  pub sender_taken : Taken sending e from.here.0 from.here.1
  sender_taken = takes-edge sending e s from.here.0 from.here.1 from.passes

  pub receiver_taken : Taken receiving e to.here.0 to.here.1
  receiver_taken = takes-edge receiving e s to.here.0 to.here.1 to.passes

  -- these are two automata
  pub apart : from.at ≡ to.at → ⊥
  apart same =
      let here : from.here ≡ to.here = some-same from.here to.here (sym from.is ∙ ap (slice_get (moves t ch)) same ∙ to.is) in
      not-both-taken e s to.here.0 to.here.1 (subst (λ z. takes sending e s z ≡ true) here from.passes) to.passes

  pub between-member : (k : ℕ) (a : Numbered) (m : Option ℕ) → slice_get (moves t ch) k ≡ Some (a, m) → Member m (options_between e from.at to.at (k, a.1))
  between-member k a m z =
      (elim (nat_eq k from.at) as (λ b. nat_eq k from.at ≡ b → Member m (if b then edges_for sending e a.1 else (if nat_eq k to.at then edges_for receiving e a.1 else options e a.1))) [
        | true ↦ λ i.
            let here : (a, m) ≡ from.here = some-same (a, m) from.here (sym z ∙ ap (slice_get (moves t ch)) (eqb-true k from.at i) ∙ from.is) in
            taken-edge sending e a m (takes-edge sending e s a m (subst (λ x. takes sending e s x ≡ true) (sym here) from.passes))
        | false ↦ λ i.
            (elim (nat_eq k to.at) as (λ b. nat_eq k to.at ≡ b → Member m (if b then edges_for receiving e a.1 else options e a.1)) [
              | true ↦ λ j.
                  let here : (a, m) ≡ to.here = some-same (a, m) to.here (sym z ∙ ap (slice_get (moves t ch)) (eqb-true k to.at j) ∙ to.is) in
                  taken-edge receiving e a m (takes-edge receiving e s a m (subst (λ x. takes receiving e s x ≡ true) (sym here) to.passes))
              | false ↦ λ j.
                  fits-options e s a m (all-at (fits e s) (moves t ch) k (a, m) h.each_fits z) (not_taken sending from i) (not_taken receiving to j)
            ]) refl
      ]) refl
    where
      not_taken : (role : Role) → (one : One (takes role e s) (moves t ch)) → nat_eq k one.at ≡ false → takes role e s (a, m) ≡ false
      not_taken role one i =
          (elim (takes role e s (a, m)) as (λ b. takes role e s (a, m) ≡ b → b ≡ false) [
            | true ↦ λ p. absurd (false-true i (ap (λ x. nat_eq x one.at) (one.alone k (a, m) z p) ∙ eq-eqb one.at one.at refl))
            | false ↦ λ p. refl
          ]) refl

  pub product-member : Member ch (product_of (map (options_between e from.at to.at) (numbered t)))
  product-member =
      product_of-member (map (options_between e from.at to.at) (numbered t)) ch
      (h.one_each ∙ sym (map-length (options_between e from.at to.at) (numbered t) ∙ enumerate_from-length 0 t.automata))
      (λ k xs m g i.
      let a = map-at (options_between e from.at to.at) (numbered t) k xs g in
      let n = at-enumerate_from t.automata 0 k a.0 a.1 in
      let z = zip-at (numbered t) ch k a.0 m a.1 i in
      let same : a.0 ≡ (k, a.0.1) = ap (λ j. (j, a.0.1)) (n.1 ∙ omega arith) in
      subst (λ ys. Member m ys) (sym (a.2 ∙ ap (options_between e from.at to.at) same)) (between-member k a.0 m z))

  pub number-at : (k : ℕ) (a : Numbered) (m : Option ℕ) → slice_get (moves t ch) k ≡ Some (a, m) → a.0 ≡ k
  number-at k a m z = (at-enumerate_from t.automata 0 k a (at-zip (numbered t) ch k (a, m) z).0).1 ∙ omega arith

  pub having-member : (p : Role) (k : ℕ) (a : Numbered) (m : Option ℕ) → slice_get (moves t ch) k ≡ Some (a, m) → Taken p e a m → Member a (having p t e)
  having-member p k a m z x =
      filter-member (λ (b : Numbered). has_edge p e b.1) (numbered t) a (at-member (numbered t) k a (at-zip (numbered t) ch k (a, m) z).0) (taken-has p e a m x)

  pub channel-member : Member ch (channel_choices t e)
  channel-member =
      let i : Numbered = from.here.0 in
      let j : Numbered = to.here.0 in
      let between : ℕ → ℕ → List Choice = λ k l. if nat_eq k l then [] else product_of (map (options_between e k l) (numbered t)) in
      let here : Member ch (between from.at to.at) =
      subst (λ b. Member ch (if b then [] else product_of (map (options_between e from.at to.at) (numbered t)))) (sym (ne_eqb from.at to.at apart)) product-member in
      flat_map-member (λ (i : Numbered). flat_map (λ (j : Numbered). between i.0 j.0) (having receiving t e)) i (having sending t e) ch
      (having-member sending from.at from.here.0 from.here.1 from.is sender_taken)
      (flat_map-member (λ (j : Numbered). between i.0 j.0) j (having receiving t e) ch
      (having-member receiving to.at to.here.0 to.here.1 to.is receiver_taken)
      (subst (λ k. Member ch (between k j.0)) (sym (number-at from.at from.here.0 from.here.1 from.is))
      (subst (λ l. Member ch (between from.at l)) (sym (number-at to.at to.here.0 to.here.1 to.is)) here)))

pub choices-member : (t : System) (s : State) (e : ℕ) (ch : Choice) → Agreed t s e ch → Member ch (choices t e)
choices-member t s e ch h =
    (elim (is_channel t e) as (λ b. is_channel t e ≡ b → Member ch (if b then channel_choices t e else plain_choices t e)) [
      | true ↦ λ i.
          let one : partners t e ≡ 1 = ap (λ b. if b then 1 else 0) i in
          channel-member t s e ch h (one-of (takes sending e s) (moves t ch) (h.sender ∙ one)) (one-of (takes receiving e s) (moves t ch) (h.receiver ∙ one))
      | false ↦ λ i. plain-member t s e ch h (ap (λ b. if b then 1 else 0) i)
    ]) refl

-- each choice that agrees is listed
pub choices-listed : (t : System) (s : State) (e : ℕ) (ch : Choice) → IsTrue (agrees t s e ch) → Member ch (choices t e)
choices-listed t s e ch h = choices-member t s e ch (agrees-parts t s e ch h)

-- a choice that makes a step agrees
pub makes_step-agrees : (t : System) (s : State) (e : ℕ) (ch : Choice) → IsTrue (makes_step t s e ch) → IsTrue (agrees t s e ch)
makes_step-agrees t s e ch h = and-left _ _ (and-left _ _ (and-left _ _ (and-left _ _ h)))
