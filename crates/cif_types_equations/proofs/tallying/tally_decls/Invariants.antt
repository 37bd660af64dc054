use Rattle.std.proofs.Common.{◌≡◌, map, drop}
use Rattle.cif_types_equations.specs.Views.{decl_of}
use Rattle.cif_types_equations.specs.Tallies.{decls_tallied}
use Rattle.cif_types_equations.proofs.tallying.tally_decls.Given as goal

abbrev pub invariant-loop-decl : goal.invariant-loop-decl
invariant-loop-decl l = decls_tallied l.tallies (map decl_of (drop l.decl-index l.decls)) ≡ decls_tallied l.fn.tallies (map decl_of l.decls)
