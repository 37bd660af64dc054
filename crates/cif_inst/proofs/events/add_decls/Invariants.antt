use Rattle.std.proofs.Common.{◌≡◌, ◌++◌, map, drop}
use Rattle.cif_source.specs.Source.{decl_tree}
use Rattle.cif_inst.specs.Events.{decls_events}
use Rattle.cif_inst.specs.Views.{event_datum}
use Rattle.cif_inst.proofs.events.add_decls.Given as goal

abbrev pub invariant-loop-decl : goal.invariant-loop-decl
invariant-loop-decl l = map event_datum l.all.items ++ decls_events l.component l.prefix (map decl_tree (drop l.decl-index l.decls)) ≡ map event_datum l.fn.all.items ++ decls_events l.component l.prefix (map decl_tree l.decls)
