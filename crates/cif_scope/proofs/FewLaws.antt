-- Numbers below 2^32.
use Rattle.std.proofs.Common.{◌≡◌, ℕ, ◌<◌, ◌^◌, true, List, length, arith, Some}
use Rattle.std.specs.Prelude.{slice_get, ◌&&◌}
use Rattle.std.specs.List.{list_all}
use Rattle.cif_system.proofs.Picks.{and-left, and-right, all-at}
use Rattle.cif_source.specs.Source.{Text}
use Rattle.cif_scope.specs.declared.scope.Scope.{Scope}
use Rattle.cif_scope.specs.Few.{is_few, has_few, are_few}

few-is : {A : Type 0} (xs : List A) → is_few xs ≡ true → length xs < 2 ^ 32
few-is xs h = grind (arith, h)

pub few_slot : (scopes : List Scope) (names : List (List Text)) (k s : ℕ) (ys : List Text) → are_few scopes names ≡ true → slice_get names k ≡ Some ys → s < length ys → s < 2 ^ 32
few_slot scopes names k s ys h g l =
    let few : length ys < 2 ^ 32 = few-is ys (all-at is_few names k ys (and-right (list_all has_few scopes) (list_all is_few names) (and-right (is_few scopes) (list_all has_few scopes && list_all is_few names) h)) g) in
    omega arith

pub few_bodies : (scopes : List Scope) (names : List (List Text)) → are_few scopes names ≡ true → length scopes < 2 ^ 32
few_bodies scopes names h = few-is scopes (and-left (is_few scopes) (list_all has_few scopes && list_all is_few names) h)

pub few_names : (scopes : List Scope) (names : List (List Text)) (k : ℕ) (s : Scope) → are_few scopes names ≡ true → slice_get scopes k ≡ Some s → length s.names < 2 ^ 32
few_names scopes names k s h g =
    few-is s.names (all-at has_few scopes k s (and-left (list_all has_few scopes) (list_all is_few names) (and-right (is_few scopes) (list_all has_few scopes && list_all is_few names) h)) g)
