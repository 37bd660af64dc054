-- The place of a name among the variables, found by its key.
use Rattle.std.proofs.Common.{◌≡◌, ◌==◌, ℕ, suc, ◌+◌, ◌≤◌, Bool, true, false, cond, not, ◌&&◌, ◌||◌, List, [], ◌∷◌, length, Option, Some, None, refl, sym, ap, subst, ◌∙◌, arith}
use Rattle.std.specs.Prelude.{nat_eq, nat_lt, slice_get}
use Rattle.std.specs.List.{list_any, position_or_len}
use Rattle.std.specs.Char.{to_ascii_lowercase}
use Rattle.std.specs.Cmp.Lexicographic.{pointwise}
use Rattle.std.proofs.lemmas.Bool.Decides.{nat_tests}
use Rattle.std.proofs.lemmas.List.{length-map}
use Rattle.grammar.specs.Pieces.{Text}
use Rattle.grammar.proofs.Texts.{flip}
use Rattle.st_ast.specs.Names.{same_name, place_of, declared}
use Rattle.st_ast.specs.declared.tree.StVar.{StVar}
use Rattle.st_check.specs.Keys.{key, keys_of, is_among, found_at}
use Rattle.st_check.specs.Told.{IsPlace}

-- two names are one where their keys are equal
pub key_same : (x y : Text) → pointwise nat_eq (key x) (key y) ≡ same_name y x
key_same [] [] = refl
key_same [] (b ∷ y) = refl
key_same (a ∷ x) [] = refl
key_same (a ∷ x) (b ∷ y) = ap (λ u. (to_ascii_lowercase a == to_ascii_lowercase b) && u) (key_same x y) ∙ ap (λ u. u && same_name y x) (flip (to_ascii_lowercase a) (to_ascii_lowercase b))

-- a name is among the keys where a variable has it
pub among_vars : (vars : List StVar) (x : Text) → is_among (keys_of vars) (key x) ≡ list_any (λ (u : StVar). same_name u.name x) vars
among_vars [] x = refl
among_vars (v ∷ vars) x = ap (λ b. b || is_among (keys_of vars) (key x)) (key_same x v.name) ∙ ap (λ b. same_name v.name x || b) (among_vars vars x)

number_place : (vars : List StVar) (x : Text) → position_or_len (λ j. pointwise nat_eq (key x) j) (keys_of vars) ≡ place_of vars x
number_place [] x = refl
number_place (v ∷ vars) x = ap (λ b. cond (not b) (1 + position_or_len (λ j. pointwise nat_eq (key x) j) (keys_of vars)) 0) (key_same x v.name) ∙ go (same_name v.name x) (number_place vars x)
  where
    go : (b : Bool) → position_or_len (λ j. pointwise nat_eq (key x) j) (keys_of vars) ≡ place_of vars x
        → cond (not b) (1 + position_or_len (λ j. pointwise nat_eq (key x) j) (keys_of vars)) 0 ≡ cond b 0 (suc (place_of vars x))
    go true e = refl
    go false e = rw e (omega arith)

-- the place of a name, if a variable has it
abbrev place_in : List StVar → Text → Option ℕ
place_in vars x = cond (nat_lt (place_of vars x) (length vars)) (Some (place_of vars x)) None

found_place : (vars : List StVar) (x : Text) → found_at (keys_of vars) (key x) ≡ place_in vars x
found_place vars x = rw (number_place vars x, length-map vars (λ (v : StVar). key v.name)) refl

place_few : (vars : List StVar) (x : Text) → place_of vars x ≤ length vars
place_few [] x = omega arith
place_few (v ∷ vars) x = go (same_name v.name x) (place_few vars x)
  where
    go : (b : Bool) → place_of vars x ≤ length vars → cond b 0 (suc (place_of vars x)) ≤ suc (length vars)
    go true l = omega arith
    go false l = omega arith

is_place_in : (vars : List StVar) (x : Text) → IsPlace vars x (place_in vars x)
is_place_in vars x = go (nat_lt (place_of vars x) (length vars)) refl
  where
    go : (b : Bool) → nat_lt (place_of vars x) (length vars) ≡ b → IsPlace vars x (cond b (Some (place_of vars x)) None)
    go true e = (refl, grind (arith, nat_tests))
    go false e = let few = place_few vars x in let many : length vars ≤ place_of vars x = grind (arith, nat_tests) in omega arith

-- what is found by the key is the place of the name
pub is_place : (vars : List StVar) (x : Text) (found : Option ℕ) → found ≡ found_at (keys_of vars) (key x) → IsPlace vars x found
is_place vars x found e = subst (λ (o : Option ℕ). IsPlace vars x o) (sym (e ∙ found_place vars x)) (is_place_in vars x)

-- where it is none, the name has no declaration
pub none_declared : (vars : List StVar) (x : Text) → IsPlace vars x None → declared vars x ≡ None
none_declared vars x e = ap (λ n. slice_get vars n) e ∙ none_after vars
  where
    none_after : (xs : List StVar) → slice_get xs (length xs) ≡ None
    none_after [] = refl
    none_after (v ∷ xs) = none_after xs

pub some_declared : (vars : List StVar) (x : Text) (k : ℕ) → IsPlace vars x (Some k) → declared vars x ≡ slice_get vars k
some_declared vars x k e = ap (λ n. slice_get vars n) e.0
