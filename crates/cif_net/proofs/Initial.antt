-- The initial state of a net, by its declared parts.
use Rattle.std.proofs.Common.{◌≡◌, List, [], ◌∷◌, map, refl, ap}
use Rattle.cif_system.specs.System as s
use Rattle.cif_net_model.specs.Meaning.{system_of_net, automaton_in, stored_in}
use Rattle.cif_net_model.specs.Net as n
use Rattle.cif_net.specs.declared.net.Net.{Net}
use Rattle.cif_net.specs.declared.automata.Auto.{Auto}
use Rattle.cif_net.specs.declared.data.Input.{Input}
use Rattle.cif_net.specs.declared.data.Var.{Var}
use Rattle.cif_net.specs.View.{net_tree, auto_tree, input_tree, var_tree}

firsts : (x : n.Net) (xs : List Auto) → map (λ (a : s.Automaton). a.first) (map (automaton_in x) (map auto_tree xs)) ≡ map (λ (a : Auto). a.first) xs
firsts x [] = refl
firsts x (a ∷ xs) = ap (λ ks. a.first ∷ ks) (firsts x xs)

values : (vs : List Var) → map (λ (v : s.Stored). v.first) (map stored_in (map var_tree vs)) ≡ map (λ (v : Var). v.first) vs
values [] = refl
values (v ∷ vs) = ap (λ ks. v.first ∷ ks) (values vs)

inputs : (vs : List Input) → map (λ (v : s.Stored). v.first) (map stored_in (map input_tree vs)) ≡ map (λ (v : Input). v.first) vs
inputs [] = refl
inputs (v ∷ vs) = ap (λ ks. v.first ∷ ks) (inputs vs)

pub initial_state : (x : Net) → s.initial (system_of_net (net_tree x)) ≡ record {
  locs = map (λ (a : Auto). a.first) x.autos;
  vals = map (λ (v : Var). v.first) x.vars;
  ins = map (λ (v : Input). v.first) x.inputs;
}
initial_state x = rw (firsts (net_tree x) x.autos) (rw (values x.vars) (rw (inputs x.inputs) refl))
