-- The first event of a list of numbers that passes a test.
use Rattle.std.proofs.Common.{◌≡◌, ℕ, zero, suc, ◌+◌, ◌-◌, ◌<◌, ◌≤◌, Bool, true, false, ◌&&◌, List, [], ◌∷◌, length, Option, Some, None, cond, find, filter, refl, sym, ap, ◌∙◌, arith}
use Rattle.std.specs.List.{range_with_len}
use Rattle.cif_system.specs.System.{Class, State}
use Rattle.cif_system.specs.Step.{is_of}
use Rattle.cif_net.specs.declared.guarded.Guarded.{Guarded}
use Rattle.cif_eval.specs.Choices.{system_of}
use Rattle.cif_sim_model.specs.Runs.{first_event, first_event_of}
use Rattle.cif_sim.specs.Tried.{has_step, has_step_in}
use Rattle.cif_sim.proofs.Listed.{events-count}

-- from e on there are more numbers
front : (e n : ℕ) → e < n → range_with_len e (n - e) ≡ e ∷ range_with_len (e + 1) (n - (e + 1))
front e n h = ap (range_with_len e) (let q : n - e ≡ suc (n - (e + 1)) = omega (arith, h) in q)

pub find-here : (p : ℕ → Bool) (e n : ℕ) → e < n → p e ≡ true → find p (range_with_len e (n - e)) ≡ Some e
find-here p e n h is = ap (find p) (front e n h) ∙ ap (λ b. cond b (Some e) (find p (range_with_len (e + 1) (n - (e + 1))))) is

pub find-later : (p : ℕ → Bool) (e n : ℕ) → e < n → p e ≡ false → find p (range_with_len (e + 1) (n - (e + 1))) ≡ find p (range_with_len e (n - e))
find-later p e n h is = sym (ap (find p) (front e n h) ∙ ap (λ b. cond b (Some e) (find p (range_with_len (e + 1) (n - (e + 1))))) is)

-- those from `from` on that fail are passed over
past-by : (p : ℕ → Bool) (d from n : ℕ) → from + d ≤ n → ((k : ℕ) → from ≤ k → k < from + d → p k ≡ false) → find p (range_with_len (from + d) (n - (from + d))) ≡ find p (range_with_len from (n - from))
past-by p zero from n h none = ap (λ k. find p (range_with_len k (n - k))) (let q : from + 0 ≡ from = omega arith in q)
past-by p (suc d) from n h none =
    ap (λ k. find p (range_with_len k (n - k))) (let q : from + suc d ≡ (from + 1) + d = omega arith in q)
    ∙ past-by p d (from + 1) n (omega (arith, h)) (λ k low high. none k (omega (arith, low)) (omega (arith, high)))
    ∙ find-later p from n (omega (arith, h)) (none from (omega arith) (omega arith))

pub find-past : (p : ℕ → Bool) (from to n : ℕ) → from ≤ to → to ≤ n → ((k : ℕ) → from ≤ k → k < to → p k ≡ false) → find p (range_with_len to (n - to)) ≡ find p (range_with_len from (n - from))
find-past p from to n up within none =
    let at : to ≡ from + (to - from) = omega (arith, up) in
    ap (λ k. find p (range_with_len k (n - k))) at
    ∙ past-by p (to - from) from n (omega (arith, at, within)) (λ k low high. none k low (omega (arith, high, at)))

-- the first number below n that passes
module _ (p : ℕ → Bool) (n : ℕ) (o : Option ℕ) (whole : find p (range_with_len 0 n) ≡ o) (e : ℕ) (rest : find p (range_with_len e (n - e)) ≡ find p (range_with_len 0 n)) where
  pub is-found : e < n → true ≡ p e → Some e ≡ o
  is-found h is = sym (find-here p e n h (sym is)) ∙ rest ∙ whole

  pub not-found : n ≤ e → None ≡ o
  not-found h = ap (λ k. find p (range_with_len e k)) (let q : 0 ≡ n - e = omega (arith, h) in q) ∙ rest ∙ whole

pub find-filter : {A : Type 0} (p q : A → Bool) (xs : List A) → find p (filter q xs) ≡ find (λ x. q x && p x) xs
find-filter p q [] = refl
find-filter {A} p q (x ∷ xs) = go (q x) (find-filter p q xs)
  where
    go : (b : Bool) → find p (filter q xs) ≡ find (λ y. q y && p y) xs → find p (cond b (x ∷ filter q xs) (filter q xs)) ≡ cond (b && p x) (Some x) (find (λ y. q y && p y) xs)
    go true rest = ap (cond (p x) (Some x)) rest
    go false rest = rest

-- ---- the events of a guarded net

pub first-of-all : (g : Guarded) (s : State) → find (has_step g s) (range_with_len 0 (length g.plain.net.events)) ≡ first_event (system_of g) s
unfolding has_step
first-of-all g s = ap (λ n. find (has_step g s) (range_with_len 0 n)) (sym (events-count g))

pub first-of-class : (g : Guarded) (k : Class) (s : State) → find (has_step_in g k s) (range_with_len 0 (length g.plain.net.events)) ≡ first_event_of (system_of g) k s
unfolding has_step has_step_in
first-of-class g k s = ap (λ n. find (has_step_in g k s) (range_with_len 0 n)) (sym (events-count g)) ∙ sym (find-filter (has_step g s) (is_of (system_of g) k) (range_with_len 0 (length (system_of g).events)))
