use Rattle.std.proofs.Common.{◌≡◌, map, drop}
use Rattle.cif_scope.specs.Written.{inside_of}
use Rattle.cif_types_equations.specs.Views.{decl_of}
use Rattle.cif_types_equations.specs.Counts.{first_some}
use Rattle.cif_types_equations.specs.Faults.{decl_fault}
use Rattle.cif_types_equations.proofs.checking.first_decl_fault.Given as goal

abbrev pub invariant-loop-decl : goal.invariant-loop-decl
invariant-loop-decl l = first_some (decl_fault l.tallies (inside_of l.inside)) (map decl_of l.decls) ≡ first_some (decl_fault l.tallies (inside_of l.inside)) (map decl_of (drop l.decl-index l.decls))
