-- A line names inputs and events that there are.
use Rattle.std.proofs.Common.{◌≡◌, ℕ, ◌+◌, ◌<◌, Bool, true, false, cond, List, [], ◌∷◌, length, Option, Some, None, refl, ap, subst, arith}
use Rattle.std.specs.Prelude.{ℤ, find, codes, option_map, option_and_then, if◌then◌else◌}
use Rattle.std.specs.List.{enumerate_from}
use Rattle.grammar.specs.Pieces.{Text, same}
use Rattle.cif_system.proofs.Lists.{some-same, none-some}
use Rattle.cif_sim_model.specs.Names.{Names, ValueNames}
use Rattle.cif_sim_run.specs.Left.{IsNamed}
use Rattle.cif_sim_model.specs.Script.{Action, idle, sets, fires, number_of, parts_of, read_line, said, set_of, value_read}

-- ---- numbers

found-below : {A : Type 0} (p : ℕ × A → Bool) (k : ℕ) (xs : List A) (y : ℕ × A) → find p (enumerate_from k xs) ≡ Some y → y.0 < k + length xs
found-below p k [] y h = absurd (none-some y h)
found-below {A} p k (x ∷ xs) y h =
    (elim (p (k, x)) as (λ b. cond b (Some (k, x)) (find p (enumerate_from (k + 1) xs)) ≡ Some y → y.0 < k + length (x ∷ xs)) [
      | true ↦ λ g. let is : k ≡ y.0 = ap (λ (z : ℕ × A). z.0) (some-same (k, x) y g) in omega (arith, is)
      | false ↦ λ g. let rest = found-below p (k + 1) xs y g in omega (arith, rest)
    ]) h

number-below : {A : Type 0} (path_of : A → Text) (t : Text) (xs : List A) (y : ℕ × A) → number_of path_of t xs ≡ Some y → y.0 < length xs
number-below path_of t xs y h = let b = found-below (λ x. same (path_of x.1) t) 0 xs y h in omega (arith, b)

-- ---- actions

named-by : (names : Names) (a b : Action) → Some a ≡ Some b → IsNamed names a → IsNamed names b
named-by names a b h n = subst (IsNamed names) (some-same a b h) n

fire-named : (names : Names) (name : Text) (a : Action) → option_map (λ e. fires e.0) (number_of (λ p. p) name names.events) ≡ Some a → IsNamed names a
fire-named names name a h =
    (elim (number_of (λ p. p) name names.events) as (λ o. number_of (λ p. p) name names.events ≡ o → option_map (λ e. fires e.0) o ≡ Some a → IsNamed names a) [
      | None ↦ λ e g. absurd (none-some a g)
      | Some y ↦ λ e g. named-by names (fires y.0) a g (number-below (λ p. p) name names.events y e)
    ]) refl h

value-named : (names : Names) (input : ℕ) (o : Option ℤ) (a : Action) → input < length names.inputs → option_map (sets input) o ≡ Some a → IsNamed names a
value-named names input None a b h = absurd (none-some a h)
value-named names input (Some z) a b h = named-by names (sets input z) a h b

set-named : (names : Names) (name value : Text) (a : Action) → option_and_then (set_of value) (number_of (λ (v : ValueNames). v.path) name names.inputs) ≡ Some a → IsNamed names a
set-named names name value a h =
    (elim (number_of (λ (v : ValueNames). v.path) name names.inputs) as (λ o. number_of (λ (v : ValueNames). v.path) name names.inputs ≡ o → option_and_then (set_of value) o ≡ Some a → IsNamed names a) [
      | None ↦ λ e g. absurd (none-some a g)
      | Some y ↦ λ e g. value-named names y.0 (value_read y.1.values value) a (number-below (λ (v : ValueNames). v.path) name names.inputs y e) g
    ]) refl h

where-true : {A : Type 0} (b : Bool) (o : Option A) (x : A) → (if b then o else None) ≡ Some x → o ≡ Some x
where-true true o x h = h
where-true false o x h = absurd (none-some x h)

said-named : (names : Names) (parts : List Text) (a : Action) → said names parts ≡ Some a → IsNamed names a
said-named names [] a h = absurd (none-some a h)
said-named names (x ∷ []) a h = named-by names idle a (where-true (same x []) (Some idle) a h) tt
said-named names (x ∷ name ∷ []) a h = fire-named names name a (where-true (same x (codes "fire")) _ a h)
said-named names (x ∷ name ∷ value ∷ []) a h = set-named names name value a (where-true (same x (codes "set")) _ a h)
said-named names (x ∷ name ∷ value ∷ y ∷ ys) a h = absurd (none-some a h)

pub line-named : (names : Names) (line : Text) (a : Action) → read_line names line ≡ Some a → IsNamed names a
line-named names line a h = said-named names (parts_of line) a h
