-- Helper of the code: what a net of a source says of its rules on instances, and why a source has none.
use Rattle.std.specs.Prelude.{ℕ}
use Rattle.cif_source.specs.Source.{Source}
use Rattle.cif_source.specs.InstanceRules.{AlphabetLacksDue, RoleMixedDue, TooManyObjectsDue, ConstantRangeDue}
use Rattle.cif_inst_model.specs.NetRules.{TooLargeDue}
use Rattle.cif_inst_components.specs.declared.error.ComponentsErr.{ComponentsErr}
use Rattle.cif_inst_components.specs.declared.error.ComponentsErr.TheVariants as components
use Rattle.cif_inst_constants.specs.declared.error.ConstErr.{ConstErr}
use Rattle.cif_inst_constants.specs.declared.error.ConstErr.TheVariants as constant
use Rattle.cif_inst_automata.specs.declared.error.AutomataErr.{AutomataErr}
use Rattle.cif_inst_automata.specs.declared.error.AutomataErr.TheVariants as automata
use Rattle.cif_inst.specs.declared.error.InstErr.{InstErr}
use Rattle.cif_inst.specs.declared.error.InstErr.TheVariants.{AlphabetLacks, RoleMixed, TooManyObjects, ConstantRange, TooLarge, Memory}

-- none of the rules on instances is broken
pub record KeepsInstances (t : Source) : Type 0 where
  pub alphabets : (at : ℕ) → AlphabetLacksDue t at → ⊥
  pub roles : (at : ℕ) → RoleMixedDue t at → ⊥
  pub few : (count : ℕ) → TooManyObjectsDue t count → ⊥
  pub ranges : (at : ℕ) → ConstantRangeDue t at → ⊥

-- the rule of the refusal is broken, with its fields; sizes are refused only where no rule on instances is broken
abbrev pub due : Source → InstErr → Type 0
due t (AlphabetLacks at) = AlphabetLacksDue t at
due t (RoleMixed at) = RoleMixedDue t at
due t (TooManyObjects count) = TooManyObjectsDue t count
due t (ConstantRange at) = ConstantRangeDue t at
due t (TooLarge nodes depth) = KeepsInstances t × TooLargeDue t nodes depth
due t Memory = Unit {0}

-- the refusal of the number of objects, or want of memory
abbrev pub of_components : ComponentsErr → InstErr
of_components (components.TooManyObjects count) = TooManyObjects count
of_components components.Memory = Memory

-- the refusal of constants, or want of memory
abbrev pub of_constants : ConstErr → InstErr
of_constants (constant.ConstantRange at) = ConstantRange at
of_constants constant.Memory = Memory

-- the refusal of automata, or want of memory
abbrev pub of_automata : AutomataErr → InstErr
of_automata (automata.AlphabetLacks at) = AlphabetLacks at
of_automata (automata.RoleMixed at) = RoleMixed at
of_automata automata.Memory = Memory
