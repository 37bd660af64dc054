use Rattle.std.proofs.Common.{rules, map, sym, ◌∙◌, ap}
use Rattle.cif_inst_names.specs.Looking.{source_for}
use Rattle.cif_inst_paths.specs.Views.{row_tree}
use Rattle.cif_inst_automata.specs.Roles.{first_mixed}
use Rattle.cif_inst_automata.specs.Rules.{due}
use Rattle.cif_inst_automata.proofs.MixedLaws.{mixed_told, all_below}
use Rattle.cif_inst_automata.proofs.RuleLaws.{lacks_refused, alphabets_kept}
use Rattle.cif_inst_automata.proofs.rules.alphabets_of.Goals as goal

pub all_alphabets-requires-clause-events : goal.all_alphabets-requires-clause-events
all_alphabets-requires-clause-events c = (c.total-total.ensures (source_for c.args.looking.now) c.requires.names.names.numbers).events

pub returns-in_err-alphabets-clause-refused : goal.returns-in_err-alphabets-clause-refused
returns-in_err-alphabets-clause-refused c =
    let refused : due (source_for c.args.looking.now) c.in_err-alphabets.field-0.0 =
    lacks_refused c.args.looking.now (map row_tree c.args.rows.now) c.in_err-alphabets.field-0.0 c.requires.names c.requires.rows c.in_err-alphabets.ensures.told in
    search rules

pub check_roles-requires : goal.check_roles-requires
check_roles-requires c = record {
  below =
      all_below c.args.looking.now c.requires.names c.as_slice.result.now (map row_tree c.args.rows.now) c.total-total.result.events
      (c.as_slice.ensures ∙ c.in_ok-alphabets.ensures.found) c.requires.rows (c.total-total.ensures (source_for c.args.looking.now) c.requires.names.names.numbers).events;
}

pub returns-in_err-check_roles-clause-refused : goal.returns-in_err-check_roles-clause-refused
returns-in_err-check_roles-clause-refused c =
    let refused : due (source_for c.args.looking.now) c.in_err-check_roles.field-0.0 =
    mixed_told c.args.looking.now c.requires.names c.as_slice.result.now (map row_tree c.args.rows.now) c.in_err-check_roles.field-0.0
    (c.as_slice.ensures ∙ c.in_ok-alphabets.ensures.found) c.requires.rows c.in_err-check_roles.ensures.told in
    search rules

pub returns-clause-none : goal.returns-clause-none
returns-clause-none c =
    alphabets_kept c.args.looking.now (map row_tree c.args.rows.now) c.in_ok-alphabets.alphabets c.requires.names c.requires.rows c.in_ok-alphabets.ensures.found
    c.in_ok-alphabets.ensures.within (sym (ap first_mixed c.as_slice.ensures) ∙ c.in_ok-check_roles.ensures.within)
