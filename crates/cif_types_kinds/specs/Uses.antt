-- The first use of an event that does not fit what is sent along it.
use Rattle.std.specs.Prelude.{ℕ, not, Option, None, Result, Ok, Err}
use Rattle.cif_source.specs.Source.{UseTree, EdgeTree, LocationTree, SourceBody, group_body, automaton_body}
use Rattle.cif_source.specs.Components.{Component}
use Rattle.cif_source.specs.Demands.{event_channel, is_unfit}
use Rattle.cif_source.specs.BodyRules.{BadUse}
use Rattle.cif_types_kinds.specs.declared.error.KindErr.{KindErr}
use Rattle.cif_types_kinds.specs.declared.error.KindErr.TheVariants.{Mismatch, Memory}
use Rattle.cif_types_kinds.specs.Faults.{unless}
use Rattle.cif_types_kinds.specs.Values.{first_told}

abbrev pub unfit_told : Component → UseTree → Option ℕ
unfit_told c u = unless (not (is_unfit u.role (event_channel c u.name))) u.name.at

abbrev pub edge_unfit_told : Component → EdgeTree → Option ℕ
edge_unfit_told c e = first_told (unfit_told c) e.uses

abbrev pub location_unfit_told : Component → LocationTree → Option ℕ
location_unfit_told c l = first_told (edge_unfit_told c) l.edges

abbrev pub inside_unfit_told : Component → SourceBody → Option ℕ
inside_unfit_told c (group_body is) = None
inside_unfit_told c (automaton_body a) = first_told (location_unfit_told c) a.locs

-- each use of an event fits, or the error tells one that does not, or want of memory
abbrev pub ChecksUses : {A : Type 0} → Component → Result A KindErr → Type 0
ChecksUses c (Ok x) = (at : ℕ) → BadUse c at → ⊥
ChecksUses c (Err (Mismatch at)) = BadUse c at
ChecksUses c (Err Memory) = Unit {0}
