-- Helper of the code: lists of what is needed while they grow.
use Rattle.std.specs.Prelude.{◌<◌, ℕ, List}
use Rattle.cif_ast.specs.declared.names.Name.{Name}
use Rattle.cif_system.specs.Words.{Member}
use Rattle.cif_source.specs.Source.{Source}
use Rattle.cif_source.specs.Components.{Component}
use Rattle.cif_scope_uses.specs.declared.uses.Use.{Use}
use Rattle.cif_inst_sizes.specs.Definitions.{DefinitionTree}
use Rattle.cif_inst_sizes.specs.Naming.{IsNeeded}

abbrev pub use_name : Use → Name
use_name u = u.name.now

abbrev pub AreNeeded : Source → ℕ → List DefinitionTree → Component → List Name → List ℕ → Type 0
AreNeeded t count all c nms needs = (nm : Name) → Member nm nms → IsNeeded t count all c nm needs

abbrev pub AreBelow : ℕ → List ℕ → Type 0
AreBelow total needs = (n : ℕ) → Member n needs → n < total

abbrev pub AreAllBelow : ℕ → List (List ℕ) → Type 0
AreAllBelow total needs = (xs : List ℕ) → Member xs needs → AreBelow total xs

-- what was needed stays, and what is new is below the total
pub record Adds (total : ℕ) (old new : List ℕ) : Type 0 where
  pub kept : (n : ℕ) → Member n old → Member n new
  pub below : AreBelow total old → AreBelow total new
