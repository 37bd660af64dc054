-- What a list holds that grows up to a limit.
use Rattle.std.proofs.Common.{◌≡◌, ℕ, suc, ◌+◌, ◌*◌, ◌<◌, ◌≤◌, min, Bool, true, false, nat_lt, List, [], ◌∷◌, ◌++◌, length, map, flat_map, Option, Some, None, option_and_then, refl, sym, ◌∙◌, ap, append_assoc, length-append, if◌then◌else◌, arith}
use Rattle.std.proofs.lemmas.Bool.Decides.{nat_tests}
use Rattle.std.proofs.Math.Nat.{mul_assoc}
use Rattle.cif_net_model.specs.Listing.{NetChoice}
use Rattle.cif_net_model.specs.Counts.{most_choices}
use Rattle.cif_net_model.proofs.CountLaws.{stop-mul}
use Rattle.cif_lin.specs.declared.party.Party.{Party}
use Rattle.cif_net_model.specs.Net.{Net}
use Rattle.cif_net.specs.declared.listing.EventRoles.{EventRoles}
use Rattle.cif_net.specs.View.{event_roles_tree}
use Rattle.cif_lin.specs.Cells.{count, event_choices, choices_from}
use Rattle.cif_lin.specs.Limits.{limited}
use Rattle.cif_lin.specs.Parties.{cell_tree}

append-nil : (xs : List NetChoice) → xs ++ [] ≡ xs
append-nil [] = refl
append-nil (x ∷ xs) = ap (λ ys. x ∷ ys) (append-nil xs)

-- in two steps
pub limited-append : (all xs ys : List NetChoice) → limited all (xs ++ ys) ≡ option_and_then (λ zs. limited zs ys) (limited all xs)
limited-append all [] ys = refl
limited-append all (x ∷ xs) ys = by (nat_lt (length all) most_choices) (limited-append (all ++ x ∷ []) xs ys)
  where
    by : (t : Bool) → limited (all ++ x ∷ []) (xs ++ ys) ≡ option_and_then (λ zs. limited zs ys) (limited (all ++ x ∷ []) xs)
        → (if t then limited (all ++ x ∷ []) (xs ++ ys) else None) ≡ option_and_then (λ zs. limited zs ys) (if t then limited (all ++ x ∷ []) xs else None)
    by true r = r
    by false r = refl

pub added : (all new more rest : List NetChoice) → Some new ≡ limited all more → limited new rest ≡ limited all (more ++ rest)
added all new more rest h = ap (option_and_then (λ zs. limited zs rest)) h ∙ sym (limited-append all more rest)

pub stopped : (all more rest : List NetChoice) → None ≡ limited all more → None ≡ limited all (more ++ rest)
stopped all more rest h = ap (option_and_then (λ zs. limited zs rest)) h ∙ sym (limited-append all more rest)

-- what comes of the first element, and then of the rest
pub spread-added : {A : Type 0} (f : A → List NetChoice) (all new : List NetChoice) (xs rest : List A) (x : A) (r : Option (List NetChoice))
    → xs ≡ x ∷ rest → Some new ≡ limited all (f x) → limited all (flat_map f xs) ≡ r → limited new (flat_map f rest) ≡ r
spread-added f all new xs rest x r e h g = added all new (f x) (flat_map f rest) h ∙ sym (ap (λ ys. limited all (flat_map f ys)) e) ∙ g

pub spread-stopped : {A : Type 0} (f : A → List NetChoice) (all : List NetChoice) (xs rest : List A) (x : A) (r : Option (List NetChoice))
    → xs ≡ x ∷ rest → None ≡ limited all (f x) → limited all (flat_map f xs) ≡ r → None ≡ r
spread-stopped f all xs rest x r e h g = stopped all (f x) (flat_map f rest) h ∙ sym (ap (λ ys. limited all (flat_map f ys)) e) ∙ g

one-more : (all : List NetChoice) (x : NetChoice) → length (all ++ x ∷ []) ≡ length all + 1
one-more all x = length-append all (x ∷ [])

pub limited_fits : (all xs : List NetChoice) → length all + length xs ≤ 16384 → limited all xs ≡ Some (all ++ xs)
limited_fits all [] h = ap (λ ys. Some ys) (sym (append-nil all))
limited_fits all (x ∷ xs) h =
    let t : nat_lt (length all) most_choices ≡ true = grind (arith, nat_tests) in
    ap (λ b. if b then limited (all ++ x ∷ []) xs else None) t
    ∙ limited_fits (all ++ x ∷ []) xs (omega (arith, one-more all x))
    ∙ ap (λ ys. Some ys) (append_assoc all (x ∷ []) xs)

pub limited_past : (all xs : List NetChoice) → 16384 < length all + length xs → 0 < length xs → None ≡ limited all xs
limited_past all [] h p = absurd (omega arith)
limited_past all (x ∷ xs) h p = by (nat_lt (length all) most_choices) refl (λ u v. limited_past (all ++ x ∷ []) xs u v)
  where
    by : (t : Bool) → nat_lt (length all) most_choices ≡ t → (16384 < length (all ++ x ∷ []) + length xs → 0 < length xs → None ≡ limited (all ++ x ∷ []) xs) → None ≡ (if t then limited (all ++ x ∷ []) xs else None)
    by true e r =
        let l : length all < 16384 = grind (arith, nat_tests) in
        r (omega (arith, one-more all x)) (omega arith)
    by false e r = refl

pub limited-is : (all xs new : List NetChoice) → length all ≤ 16384 → Some new ≡ limited all xs → (new ≡ all ++ xs) × (length all + length xs ≤ 16384)
limited-is all [] new l h = let e : new ≡ all = cc in (e ∙ sym (append-nil all), omega arith)
limited-is all (x ∷ xs) new l h = by (nat_lt (length all) most_choices) refl h (λ u v. limited-is (all ++ x ∷ []) xs new u v)
  where
    by : (t : Bool) → nat_lt (length all) most_choices ≡ t → Some new ≡ (if t then limited (all ++ x ∷ []) xs else None)
        → (length (all ++ x ∷ []) ≤ 16384 → Some new ≡ limited (all ++ x ∷ []) xs → (new ≡ (all ++ x ∷ []) ++ xs) × (length (all ++ x ∷ []) + length xs ≤ 16384))
        → (new ≡ all ++ x ∷ xs) × (length all + suc (length xs) ≤ 16384)
    by true e g r =
        let l : length all < 16384 = grind (arith, nat_tests) in
        let q : (new ≡ (all ++ x ∷ []) ++ xs) × (length (all ++ x ∷ []) + length xs ≤ 16384) = r (omega (arith, one-more all x)) g in
        let m : length (all ++ x ∷ []) + length xs ≤ 16384 = q.1 in
        (q.0 ∙ append_assoc all (x ∷ []) xs, omega (arith, one-more all x))
    by false e g r = absurd cc

pub limited-not : (all xs : List NetChoice) → length all ≤ 16384 → None ≡ limited all xs → 16384 < length all + length xs
limited-not all [] l h = absurd cc
limited-not all (x ∷ xs) l h = by (nat_lt (length all) most_choices) refl h (λ u v. limited-not (all ++ x ∷ []) xs u v)
  where
    by : (t : Bool) → nat_lt (length all) most_choices ≡ t → None ≡ (if t then limited (all ++ x ∷ []) xs else None)
        → (length (all ++ x ∷ []) ≤ 16384 → None ≡ limited (all ++ x ∷ []) xs → 16384 < length (all ++ x ∷ []) + length xs)
        → 16384 < length all + suc (length xs)
    by true e g r =
        let l : length all < 16384 = grind (arith, nat_tests) in
        let q : 16384 < length (all ++ x ∷ []) + length xs = r (omega (arith, one-more all x)) g in
        omega (arith, one-more all x)
    by false e g r = let l : 16384 ≤ length all = grind (arith, nat_tests) in omega arith

-- ---- counts

pub times-stopped : (a b : ℕ) → a ≤ 16385 → min (a * min b 16385) 16385 ≡ min (a * b) 16385
times-stopped a b h =
    let e : min a 16385 ≡ a = omega arith in
    sym (stop-mul a b 16385 (omega arith) ∙ ap (λ c. min (c * min b 16385) 16385) e)

pub times-more : (a b c : ℕ) → min (min (a * b) 16385 * c) 16385 ≡ min (a * (b * c)) 16385
times-more a b c =
    let d : min (min (a * b) 16385) 16385 ≡ min (a * b) 16385 = omega arith in
    stop-mul (min (a * b) 16385) c 16385 (omega arith)
    ∙ ap (λ k. min (k * min c 16385) 16385) d
    ∙ sym (stop-mul (a * b) c 16385 (omega arith))
    ∙ ap (λ k. min k 16385) (mul_assoc a b c)

no-more : (a m : ℕ) → m ≡ min a 16385 → m ≤ 16385
no-more a m h = omega arith

-- one more of those that take part is counted
pub counted-more : (k m l : ℕ) (p : Party) (ps : List Party) → m ≡ min (k * l) 16385 → l ≡ length p.options
    → (m ≤ 16385) × (min (m * count (map cell_tree ps)) 16385 ≡ min (k * count (map cell_tree (p ∷ ps))) 16385)
counted-more k m l p ps h e = (
  no-more (k * l) m h,
  ap (λ j. min (j * count (map cell_tree ps)) 16385) h
      ∙ ap (λ j. min (min (k * j) 16385 * count (map cell_tree ps)) 16385) e
      ∙ times-more k (length p.options) (count (map cell_tree ps)),
)

-- what comes of the first event, and then of the later ones
pub events-added : (n : Net) (e : ℕ) (all new : List NetChoice) (rs rest : List EventRoles) (x : EventRoles) (r : Option (List NetChoice))
    → rs ≡ x ∷ rest → Some new ≡ limited all (event_choices n e (event_roles_tree x)) → limited all (choices_from n e (map event_roles_tree rs)) ≡ r → limited new (choices_from n (e + 1) (map event_roles_tree rest)) ≡ r
events-added n e all new rs rest x r d h g =
    added all new (event_choices n e (event_roles_tree x)) (choices_from n (e + 1) (map event_roles_tree rest)) h ∙ sym (ap (λ ys. limited all (choices_from n e (map event_roles_tree ys))) d) ∙ g

pub events-stopped : (n : Net) (e : ℕ) (all : List NetChoice) (rs rest : List EventRoles) (x : EventRoles) (r : Option (List NetChoice))
    → rs ≡ x ∷ rest → None ≡ limited all (event_choices n e (event_roles_tree x)) → limited all (choices_from n e (map event_roles_tree rs)) ≡ r → None ≡ r
events-stopped n e all rs rest x r d h g =
    stopped all (event_choices n e (event_roles_tree x)) (choices_from n (e + 1) (map event_roles_tree rest)) h ∙ sym (ap (λ ys. limited all (choices_from n e (map event_roles_tree ys))) d) ∙ g
