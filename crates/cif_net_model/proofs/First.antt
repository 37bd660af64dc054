-- The initial state of a net is one of its states.
use Rattle.std.proofs.Common.{◌≡◌, ℕ, suc, ◌<◌, ◌≤◌, true, List, [], ◌∷◌, map, length, arith}
use Rattle.std.specs.Prelude.{nat_lt}
use Rattle.std.specs.List.{list_all, AllZip}
use Rattle.std.proofs.lemmas.Bool.Decides.{nat_tests}
use Rattle.cif_system.specs.System.{Automaton, Stored, AllFit, IsState, initial}
use Rattle.cif_net_model.specs.Net.{NetAuto, NetStored, Net}
use Rattle.cif_net_model.specs.Facts.{stored_stands, auto_stands, is_net}
use Rattle.cif_net_model.specs.Meaning.{automaton_in, stored_in, system_of_net}
use Rattle.cif_net_model.proofs.Passing.{and-left, and-right}

inside : (k l : ℕ) → nat_lt k l ≡ true → k < l
inside k l h = grind (arith, nat_tests)

first-places : (n : Net) (xs : List NetAuto) → list_all (auto_stands n) xs ≡ true
    → AllZip (λ (a : Automaton) k. suc k ≤ a.places) (map (automaton_in n) xs) (map (λ (a : Automaton). a.first) (map (automaton_in n) xs))
first-places n [] h = tt
first-places n (a ∷ xs) h =
    let stands : auto_stands n a ≡ true = and-left _ _ h in
    (inside a.first (length a.locs) (and-left _ _ (and-left _ _ (and-left _ _ stands))), first-places n xs (and-right _ _ h))

first-values : (xs : List NetStored) → list_all stored_stands xs ≡ true → AllFit (map stored_in xs) (map (λ (v : Stored). v.first) (map stored_in xs))
first-values [] h = tt
first-values (v ∷ xs) h = let stands : stored_stands v ≡ true = and-left _ _ h in (and-right _ _ stands, first-values xs (and-right _ _ h))

pub first-state : (n : Net) → is_net n ≡ true → IsState (system_of_net n) (initial (system_of_net n))
first-state n net =
    let h4 = and-left _ _ (and-left _ _ (and-left _ _ (and-left _ _ net))) in
    let h3 = and-left _ _ h4 in
    let h2 = and-left _ _ h3 in
    record { places = first-places n n.autos (and-right _ _ h4); values = first-values n.vars (and-right _ _ h3); inputs = first-values n.inputs (and-right _ _ h2) }
