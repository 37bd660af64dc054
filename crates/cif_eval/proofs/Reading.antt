-- Items of lists that are mapped.
use Rattle.std.proofs.Common.{◌≡◌, ℕ, List, map, refl, ap, ◌∙◌, Option, Some, None}
use Rattle.std.specs.Prelude.{option_map, slice_get}
use Rattle.std.proofs.lemmas.Option.{slice_get-map}

option-both : {A B C : Type 0} (f : B → C) (g : A → B) (o : Option A) → option_map f (option_map g o) ≡ option_map (λ x. f (g x)) o
option-both f g None = refl
option-both f g (Some x) = refl

pub at_both : {A B C : Type 0} (f : B → C) (g : A → B) (xs : List A) (k : ℕ) → slice_get (map f (map g xs)) k ≡ option_map (λ x. f (g x)) (slice_get xs k)
at_both f g xs k = slice_get-map f (map g xs) k ∙ ap (option_map f) (slice_get-map g xs k) ∙ option-both f g (slice_get xs k)

pub at_mapped : {A B : Type 0} (f : A → B) (xs : List A) (k : ℕ) → slice_get (map f xs) k ≡ option_map f (slice_get xs k)
at_mapped f xs k = slice_get-map f xs k
