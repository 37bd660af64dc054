use Rattle.std.proofs.Common.{rules, List, length, map, sym, ◌∙◌, ap, subst}
use Rattle.std.specs.Prelude.{flat_map}
use Rattle.cif_ast.specs.declared.edges.Loc.{Loc}
use Rattle.cif_system.specs.System.{syncing}
use Rattle.cif_source.specs.Source.{location_tree, automaton_tree}
use Rattle.cif_source.specs.Objects.{events}
use Rattle.cif_inst_names.specs.Looking.{source_for}
use Rattle.cif_inst_automata.specs.Alphabets.{location_places, events_as, alphabet_by, monitors_by, automaton_lacks, tells}
use Rattle.cif_inst_automata.proofs.MarkLaws.{next_marks}
use Rattle.cif_inst_automata.proofs.AutomatonLaws.{synced_told, monitors_told, or_tells, or_none}
use Rattle.cif_inst_automata.proofs.alphabets.alphabet_of.Goals as goal

pub returns-in_err-check_marks-clause-told : goal.returns-in_err-check_marks-clause-told
returns-in_err-check_marks-clause-told c =
    let first = synced_told c.args.looking.now c.requires.names c.args.own.0 c.requires.component (automaton_tree c.args.automaton.now) c.requires.written c.args.marks.now c.requires.before
    c.args.own.1 c.as_slice-2.result.now c.as_slice-4.result.now c.as_slice-5.result.now c.give_mark.new.marks c.requires.mark
    (c.as_slice-2.ensures ∙ c.in_ok-events.ensures ∙ ap (alphabet_by c.args.looking.now c.args.own.0 c.args.automaton.now.alphabet) (c.in_ok-synced.ensures ∙ ap (events_as syncing) (c.as_slice.ensures ∙ c.requires.used)))
    (c.as_slice-4.ensures ∙ (c.in_ok-synced.ensures ∙ ap (events_as syncing) (c.as_slice.ensures ∙ c.requires.used)))
    (c.as_slice-5.ensures ∙ c.in_ok-places.ensures ∙ ap (λ (ls : List Loc). flat_map location_places (map location_tree ls)) c.as_slice-3.ensures)
    c.give_mark.ensures in
    let told : tells c.in_err-check_marks.field-0.0 (automaton_lacks c.args.looking.now c.args.own.0 (automaton_tree c.args.automaton.now)) =
    or_tells c.in_err-check_marks.field-0.0 _ _ (subst (tells c.in_err-check_marks.field-0.0) first c.in_err-check_marks.ensures.told) in
    search rules

pub returns-in_err-check_marks-2-clause-told : goal.returns-in_err-check_marks-2-clause-told
returns-in_err-check_marks-2-clause-told c =
    let first = synced_told c.args.looking.now c.requires.names c.args.own.0 c.requires.component (automaton_tree c.args.automaton.now) c.requires.written c.args.marks.now c.requires.before
    c.args.own.1 c.as_slice-2.result.now c.as_slice-4.result.now c.as_slice-5.result.now c.give_mark.new.marks c.requires.mark
    (c.as_slice-2.ensures ∙ c.in_ok-events.ensures ∙ ap (alphabet_by c.args.looking.now c.args.own.0 c.args.automaton.now.alphabet) (c.in_ok-synced.ensures ∙ ap (events_as syncing) (c.as_slice.ensures ∙ c.requires.used)))
    (c.as_slice-4.ensures ∙ (c.in_ok-synced.ensures ∙ ap (events_as syncing) (c.as_slice.ensures ∙ c.requires.used)))
    (c.as_slice-5.ensures ∙ c.in_ok-places.ensures ∙ ap (λ (ls : List Loc). flat_map location_places (map location_tree ls)) c.as_slice-3.ensures)
    c.give_mark.ensures in
    let second = monitors_told c.args.looking.now c.requires.names c.args.own.0 c.requires.component (automaton_tree c.args.automaton.now) c.requires.written c.args.marks.now c.requires.before
    c.args.own.1 c.as_slice-2.result.now c.as_slice-6.result.now c.as_slice-7.result.now c.give_mark.new.marks c.requires.mark
    (c.as_slice-2.ensures ∙ c.in_ok-events.ensures ∙ ap (alphabet_by c.args.looking.now c.args.own.0 c.args.automaton.now.alphabet) (c.in_ok-synced.ensures ∙ ap (events_as syncing) (c.as_slice.ensures ∙ c.requires.used)))
    (c.as_slice-6.ensures ∙ c.in_ok-monitors.ensures ∙ ap (monitors_by c.args.looking.now c.args.own.0 c.args.automaton.now.monitor) (c.in_ok-events.ensures ∙ ap (alphabet_by c.args.looking.now c.args.own.0 c.args.automaton.now.alphabet) (c.in_ok-synced.ensures ∙ ap (events_as syncing) (c.as_slice.ensures ∙ c.requires.used))))
    (c.as_slice-7.ensures ∙ c.in_ok-places-2.ensures)
    c.give_mark.ensures in
    let told : tells c.in_err-check_marks-2.field-0.0 (automaton_lacks c.args.looking.now c.args.own.0 (automaton_tree c.args.automaton.now)) =
    subst (tells c.in_err-check_marks-2.field-0.0) (second ∙ sym (or_none _ _ (sym first ∙ c.in_ok-check_marks.ensures.within))) c.in_err-check_marks-2.ensures.told in
    search rules

pub returns-clause-within : goal.returns-clause-within
returns-clause-within c =
    let first = synced_told c.args.looking.now c.requires.names c.args.own.0 c.requires.component (automaton_tree c.args.automaton.now) c.requires.written c.args.marks.now c.requires.before
    c.args.own.1 c.as_slice-2.result.now c.as_slice-4.result.now c.as_slice-5.result.now c.give_mark.new.marks c.requires.mark
    (c.as_slice-2.ensures ∙ c.in_ok-events.ensures ∙ ap (alphabet_by c.args.looking.now c.args.own.0 c.args.automaton.now.alphabet) (c.in_ok-synced.ensures ∙ ap (events_as syncing) (c.as_slice.ensures ∙ c.requires.used)))
    (c.as_slice-4.ensures ∙ (c.in_ok-synced.ensures ∙ ap (events_as syncing) (c.as_slice.ensures ∙ c.requires.used)))
    (c.as_slice-5.ensures ∙ c.in_ok-places.ensures ∙ ap (λ (ls : List Loc). flat_map location_places (map location_tree ls)) c.as_slice-3.ensures)
    c.give_mark.ensures in
    let second = monitors_told c.args.looking.now c.requires.names c.args.own.0 c.requires.component (automaton_tree c.args.automaton.now) c.requires.written c.args.marks.now c.requires.before
    c.args.own.1 c.as_slice-2.result.now c.as_slice-6.result.now c.as_slice-7.result.now c.give_mark.new.marks c.requires.mark
    (c.as_slice-2.ensures ∙ c.in_ok-events.ensures ∙ ap (alphabet_by c.args.looking.now c.args.own.0 c.args.automaton.now.alphabet) (c.in_ok-synced.ensures ∙ ap (events_as syncing) (c.as_slice.ensures ∙ c.requires.used)))
    (c.as_slice-6.ensures ∙ c.in_ok-monitors.ensures ∙ ap (monitors_by c.args.looking.now c.args.own.0 c.args.automaton.now.monitor) (c.in_ok-events.ensures ∙ ap (alphabet_by c.args.looking.now c.args.own.0 c.args.automaton.now.alphabet) (c.in_ok-synced.ensures ∙ ap (events_as syncing) (c.as_slice.ensures ∙ c.requires.used))))
    (c.as_slice-7.ensures ∙ c.in_ok-places-2.ensures)
    c.give_mark.ensures in
    or_none _ _ (sym first ∙ c.in_ok-check_marks.ensures.within) ∙ sym second ∙ c.in_ok-check_marks-2.ensures.within

pub returns-clause-after : goal.returns-clause-after
returns-clause-after c =
    next_marks (length (events (source_for c.args.looking.now))) c.args.own.0 c.args.own.1 c.as_slice-2.result.now c.args.marks.now c.give_mark.new.marks c.requires.mark c.give_mark.ensures c.requires.before

pub returns-clause-found : goal.returns-clause-found
returns-clause-found c =
    let alphabet = c.in_ok-events.ensures ∙ ap (alphabet_by c.args.looking.now c.args.own.0 c.args.automaton.now.alphabet) (c.in_ok-synced.ensures ∙ ap (events_as syncing) (c.as_slice.ensures ∙ c.requires.used)) in
    let monitors = c.in_ok-monitors.ensures ∙ ap (monitors_by c.args.looking.now c.args.own.0 c.args.automaton.now.monitor) alphabet in
    λ i. record { component = c.args.own.0; events = alphabet i; monitors = monitors i; used = c.requires.used i }
