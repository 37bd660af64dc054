use Rattle.std.proofs.Common.{◌≡◌, map, drop}
use Rattle.cif_inst_components.specs.Outers.{names_now, outers_from}
use Rattle.cif_inst_components.proofs.outers.all_outers.Given as goal

abbrev pub invariant-loop-component : goal.invariant-loop-component
invariant-loop-component l = outers_from l.scopes (map names_now l.names.items) l.all l.children l.outers (drop l.component-index l.all) ≡ outers_from l.scopes (map names_now l.names.items) l.all l.children l.initial.outers l.all
