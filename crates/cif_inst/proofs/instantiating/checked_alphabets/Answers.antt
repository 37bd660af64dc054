use Rattle.std.proofs.Common.{◌≡◌, rules}
use Rattle.cif_inst_names.specs.Looking.{source_for}
use Rattle.cif_inst.specs.Net.{due, of_automata}
use Rattle.cif_inst.specs.declared.error.InstErr.{InstErr}
use Rattle.cif_inst.proofs.NetLaws.{matched_names, kept_rules, automata_due}
use Rattle.cif_inst.proofs.instantiating.checked_alphabets.Goals as goal

pub alphabets_of-requires-clause-names : goal.alphabets_of-requires-clause-names
alphabets_of-requires-clause-names c = matched_names c.args.looking.now c.requires.names c.requires.kinds

pub returns-in_err-alphabets-clause-refused : goal.returns-in_err-alphabets-clause-refused
returns-in_err-alphabets-clause-refused c =
    let refused : (e : InstErr) → e ≡ of_automata c.in_err-alphabets.field-0.0 → due (source_for c.args.looking.now) e =
    λ e is. automata_due (source_for c.args.looking.now) c.in_err-alphabets.field-0.0 e is c.in_err-alphabets.ensures.refused in
    search (rules, refused)

pub check_expressions-requires-clause-kept : goal.check_expressions-requires-clause-kept
check_expressions-requires-clause-kept c = kept_rules (source_for c.args.looking.now) c.in_ok-alphabets.ensures.none c.requires.few c.requires.ranges

pub returns-clause-none : goal.returns-clause-none
returns-clause-none c = kept_rules (source_for c.args.looking.now) c.in_ok-alphabets.ensures.none c.requires.few c.requires.ranges
