-- The k-th output's value is the number of the k-th variable that is an output.
use Rattle.std.proofs.Common.{◌≡◌, ℕ, zero, suc, ◌-◌, ◌≤◌, ◌<◌, ◌⊎◌, inl, inr, ℤ, Bool, true, false, List, [], ◌∷◌, pos, map, length, get_or, refl, ap, sym, ◌∙◌, arith}
use Rattle.std.specs.Prelude.{Some, slice_get, slice_index_or, if◌then◌else◌}
use Rattle.std.proofs.lemmas.List.{length-map}
use Rattle.std.proofs.lemmas.Option.{slice_get-get_or}
use Rattle.st_ast.specs.declared.tree.StVar.{StVar}
use Rattle.st_ast.specs.Interface.{is_output, numbers_of, output_values}

-- a number of an output, seen from a variable that has the number `from`
abbrev pub Joined : List StVar → List ℤ → ℕ → ℕ → ℕ → Type 0
Joined vars m from k j = (from ≤ j) × (j - from < length vars) × (slice_get (output_values vars m) k ≡ slice_get m (j - from))

-- the numbers of the further outputs are joined to their values
abbrev pub JoinsAfter : List StVar → List ℤ → ℕ → Type 0
JoinsAfter vs m from = (k j : ℕ) → slice_get (numbers_of is_output (suc from) vs) k ≡ Some j → Joined vs m (suc from) k j

some-same : (a b : ℕ) → Some a ≡ Some b → a ≡ b
some-same a b e = cc

cases_Bool : (b : Bool) → (b ≡ true) ⊎ (b ≡ false)
cases_Bool true = inl refl
cases_Bool false = inr refl

module _ (v : StVar) (vs : List StVar) (z : ℤ) (m : List ℤ) (from : ℕ) where
  later : (j : ℕ) → suc from ≤ j → slice_get m (j - suc from) ≡ slice_get (z ∷ m) (j - from)
  later j h = let e : suc (j - suc from) ≡ j - from = omega arith in ap (slice_get (z ∷ m)) e

  here : (j : ℕ) → from ≡ j → Some z ≡ slice_get (z ∷ m) (j - from)
  here j e = let d : 0 ≡ j - from = omega arith in ap (slice_get (z ∷ m)) d

  own : (k j : ℕ) → is_output v.class ≡ true → JoinsAfter vs m from → slice_get (from ∷ numbers_of is_output (suc from) vs) k ≡ Some j → Joined (v ∷ vs) (z ∷ m) from k j
  own zero j is further h =
      let same : from ≡ j = some-same from j h in
      (omega arith, omega arith, ap (λ b. slice_get (if b then z ∷ output_values vs m else output_values vs m) zero) is ∙ here j same)
  own (suc k) j is further h =
      let r = further k j h in
      (omega (arith, r.0), omega (arith, r.0, r.1), ap (λ b. slice_get (if b then z ∷ output_values vs m else output_values vs m) (suc k)) is ∙ r.2 ∙ later j r.0)

  other : (k j : ℕ) → is_output v.class ≡ false → JoinsAfter vs m from → slice_get (numbers_of is_output (suc from) vs) k ≡ Some j → Joined (v ∷ vs) (z ∷ m) from k j
  other k j is further h =
      let r = further k j h in
      (omega (arith, r.0), omega (arith, r.0, r.1), ap (λ b. slice_get (if b then z ∷ output_values vs m else output_values vs m) k) is ∙ r.2 ∙ later j r.0)

  one_more : (k j : ℕ) → JoinsAfter vs m from → slice_get (numbers_of is_output from (v ∷ vs)) k ≡ Some j → Joined (v ∷ vs) (z ∷ m) from k j
  one_more k j further h =
      elim (cases_Bool (is_output v.class)) [
        | inl is ↦ own k j is further (sym (ap (λ b. slice_get (if b then from ∷ numbers_of is_output (suc from) vs else numbers_of is_output (suc from) vs) k) is) ∙ h)
        | inr is ↦ other k j is further (sym (ap (λ b. slice_get (if b then from ∷ numbers_of is_output (suc from) vs else numbers_of is_output (suc from) vs) k) is) ∙ h)
      ]

pub output-joined : (vars : List StVar) (m : List ℤ) (from k j : ℕ) → length m ≡ length vars → slice_get (numbers_of is_output from vars) k ≡ Some j → Joined vars m from k j
output-joined [] m from k j long h = cc
output-joined (v ∷ vs) [] from k j long h = absurd (omega arith)
output-joined (v ∷ vs) (z ∷ m) from k j long h =
    let less : length m ≡ length vs = omega (arith, long) in
    one_more v vs z m from k j (λ i l. output-joined vs m (suc from) i l less) h

module _ (vars : List StVar) (numbers : List ℕ) (k : ℕ) (are : numbers ≡ numbers_of is_output 0 vars) (within : k < length (numbers_of is_output 0 vars)) where
  at-number : (m : List ℤ) → length m ≡ length vars → Joined vars m 0 k (slice_index_or numbers k 0)
  at-number m long = output-joined vars m 0 k (slice_index_or numbers k 0) long (slice_get-get_or (numbers_of is_output 0 vars) k 0 within ∙ ap (λ l. Some (get_or l k 0)) (sym are))

  none_less : slice_index_or numbers k 0 - 0 ≡ slice_index_or numbers k 0
  none_less = omega arith

  -- the k-th of the numbers is that of a variable
  pub output-within : slice_index_or numbers k 0 < length vars
  output-within =
      let zeros = map {A = StVar} {B = ℤ} (λ v. pos 0) vars in
      omega (arith, (at-number zeros (length-map vars (λ v. pos 0))).1)

  -- its number in the memory is the value of the k-th output
  pub output-value : (m : List ℤ) (x : ℤ) → length m ≡ length vars → slice_get m (slice_index_or numbers k 0) ≡ Some x → slice_get (output_values vars m) k ≡ Some x
  output-value m x long is = (at-number m long).2 ∙ ap (slice_get m) none_less ∙ is

pub ruleset outputs = (output-within, output-value)
