-- Demands that are met, and those that are broken.
use Rattle.std.specs.Prelude.{◌≡◌, ℕ, Bool, true, false, List, Result, Ok, Err}
use Rattle.std.specs.List.{Any, list_all}
use Rattle.cif_source.specs.Source.{tree_at}
use Rattle.cif_source.specs.Components.{Component}
use Rattle.cif_source.specs.Kinds.{Demand, kind_of, same_kind}
use Rattle.cif_types_kinds.specs.declared.error.KindErr.{KindErr}
use Rattle.cif_types_kinds.specs.declared.error.KindErr.TheVariants.{Mismatch, Memory}

-- the expression has the kind that its position asks for
abbrev pub is_met : Component → Demand → Bool
is_met c d = same_kind (kind_of c d.received_kind d.value) d.kind

abbrev pub AreMet : Component → List Demand → Type 0
AreMet c ds = list_all (is_met c) ds ≡ true

-- the expression of a demand that is not met begins there
abbrev pub BreaksAt : Component → List Demand → ℕ → Type 0
BreaksAt c ds at = Any (λ (d : Demand). (tree_at d.value ≡ at) × (is_met c d ≡ false)) ds

-- the demands are met, or the error tells one that is not, or want of memory
abbrev pub Refuses : Component → List Demand → KindErr → Type 0
Refuses c ds (Mismatch at) = BreaksAt c ds at
Refuses c ds Memory = Unit {0}

abbrev pub Checks : {A : Type 0} → Component → List Demand → Result A KindErr → Type 0
Checks c ds (Ok x) = AreMet c ds
Checks c ds (Err e) = Refuses c ds e
