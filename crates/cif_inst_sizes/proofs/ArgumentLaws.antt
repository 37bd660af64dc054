-- Arguments stand behind the definitions of algebraic variables, each at its number.
use Rattle.std.proofs.Common.{◌≡◌, ℕ, zero, suc, ◌+◌, List, [], ◌∷◌, ◌++◌, length, Option, Some, None, refl, sym, ◌∙◌, ap, subst, arith}
use Rattle.std.specs.Prelude.{slice_get, option_map}
use Rattle.std.proofs.lemmas.Option.{slice_get-map}
use Rattle.std.proofs.lemmas.List.{length-map}
use Rattle.cif_system.proofs.Lists.{some-same, none-some}
use Rattle.cif_scope.proofs.Places.{Sits, sits-left, sits-right}
use Rattle.cif_inst_parameters.specs.declared.given.Given.{Given}
use Rattle.cif_inst_parameters.specs.Passing.{and_then}
use Rattle.cif_inst_sizes.specs.Definitions.{DefinitionTree}
use Rattle.cif_inst_sizes.specs.Naming.{argument_tree, arguments_tree, all_arguments, firsts_from, AreArguments}

row-of : (o : Option (List Given)) (s : ℕ) (x : Given) → and_then o (λ (xs : List Given). slice_get xs s) ≡ Some x → (xs : List Given) × (o ≡ Some xs) × (slice_get xs s ≡ Some x)
row-of None s x h = absurd (none-some x h)
row-of (Some xs) s x h = (xs, refl, h)

first-of : (o : Option ℕ) (s n : ℕ) → option_map (λ first. first + s) o ≡ Some n → (first : ℕ) × (o ≡ Some first) × (first + s ≡ n)
first-of None s n h = absurd (none-some n h)
first-of (Some first) s n h = (first, refl, some-same (first + s) n h)

module _ (all : List DefinitionTree) where
  numbered : (k : ℕ) (given : List (List Given)) → Sits all k (all_arguments given) → (c s : ℕ) (xs : List Given) (x : Given) (first : ℕ) → slice_get given c ≡ Some xs → slice_get xs s ≡ Some x
      → slice_get (firsts_from k given) c ≡ Some first → slice_get all (first + s) ≡ Some (argument_tree x)
  numbered k [] sits c s xs x first h i j = absurd (none-some xs h)
  numbered k (ys ∷ rest) sits zero s xs x first h i j =
      let y : ys ≡ xs = some-same ys xs h in
      let f : k ≡ first = some-same k first j in
      let there : slice_get (arguments_tree ys) s ≡ Some (argument_tree x) = slice_get-map argument_tree ys s ∙ ap (option_map argument_tree) (ap (λ (z : List Given). slice_get z s) y ∙ i) in
      subst (λ n. slice_get all (n + s) ≡ Some (argument_tree x)) f (sits-left all k (arguments_tree ys) (all_arguments rest) sits s (argument_tree x) there)
  numbered k (ys ∷ rest) sits (suc c) s xs x first h i j =
      numbered (k + length ys) rest (sits-right all k (length ys) (arguments_tree ys) (all_arguments rest) (length-map ys argument_tree) sits) c s xs x first h i j

  whole : Sits all 0 all
  whole j x h = let e : j ≡ 0 + j = omega arith in subst (λ n. slice_get all n ≡ Some x) e h

  pub arguments-are : (given : List (List Given)) (defs : List DefinitionTree) (firsts : List ℕ) → all ≡ defs ++ all_arguments given → firsts ≡ firsts_from (length defs) given → AreArguments given firsts all
  arguments-are given defs firsts is from p x n g m =
      let behind : Sits all (0 + length defs) (all_arguments given) = sits-right all 0 (length defs) defs (all_arguments given) refl (subst (Sits all 0) is whole) in
      let zero-first : 0 + length defs ≡ length defs = omega arith in
      let row = row-of (slice_get given p.component) p.slot x g in
      let first = first-of (slice_get firsts p.component) p.slot n m in
      subst (λ k. slice_get all k ≡ Some (argument_tree x)) first.2
      (numbered (length defs) given (subst (λ k. Sits all k (all_arguments given)) zero-first behind) p.component p.slot row.0 x first.0 row.1 row.2 (ap (λ fs. slice_get fs p.component) (sym from) ∙ first.1))
