-- What the automata of a source keep, and why they are refused.
use Rattle.std.specs.Prelude.{ℕ}
use Rattle.cif_source.specs.Source.{Source}
use Rattle.cif_source.specs.InstanceRules.{AlphabetLacksDue, RoleMixedDue}
use Rattle.cif_inst_automata.specs.declared.error.AutomataErr.{AutomataErr}
use Rattle.cif_inst_automata.specs.declared.error.AutomataErr.TheVariants.{AlphabetLacks, RoleMixed, Memory}

-- no event is outside the alphabet of its automaton, and none has two roles in an automaton
pub record KeepsAlphabets (t : Source) : Type 0 where
  pub alphabets : (at : ℕ) → AlphabetLacksDue t at → ⊥
  pub roles : (at : ℕ) → RoleMixedDue t at → ⊥

-- the rule of the refusal is broken, at its place
abbrev pub due : Source → AutomataErr → Type 0
due t (AlphabetLacks at) = AlphabetLacksDue t at
due t (RoleMixed at) = RoleMixedDue t at
due t Memory = Unit {0}
