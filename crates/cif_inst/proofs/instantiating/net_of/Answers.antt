use Rattle.std.proofs.Common.{List, map, Option, Bor, ◌∙◌, ap}
use Rattle.cif_ast.specs.declared.declarations.Decl.{Decl}
use Rattle.cif_inst_constants.specs.Slots.{row_of}
use Rattle.cif_inst_names.specs.Looking.{source_for}
use Rattle.cif_inst.proofs.RuleLaws.{bounds_kept}
use Rattle.cif_inst.proofs.instantiating.net_of.Goals as goal

pub made_net-requires-clause-types : goal.made_net-requires-clause-types
made_net-requires-clause-types c = record {
  names = c.requires.names;
  typed = record {
    numbers = c.requires.names.scopes.numbers;
    few = c.requires.names.components.few;
    constancy = c.requires.kinds.constant;
    values = c.requires.values;
    bounded = bounds_kept (source_for c.args.looking.now) c.requires.ranges;
    rows = ap (λ (rs : List (List (Option (Bor Decl)))). map row_of rs) c.as_slice.ensures ∙ c.in_ok-declared.ensures;
    counted = c.in_ok-turns.ensures;
  };
}
