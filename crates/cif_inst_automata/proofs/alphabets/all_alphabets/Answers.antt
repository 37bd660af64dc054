use Rattle.std.proofs.Common.{rules, ◌<◌, ◌+◌, List, ◌∷◌, [], ◌++◌, length, map, drop, refl, sym, ◌∙◌, ap, subst}
use Rattle.std.specs.Prelude.{flat_map}
use Rattle.cif_ast.specs.declared.edges.Loc.{Loc}
use Rattle.cif_source.specs.Components.{body_of}
use Rattle.cif_source.specs.Objects.{components_of, events}
use Rattle.cif_source.specs.Source.{automaton_tree, location_tree}
use Rattle.cif_scope.specs.Written.{inside_of}
use Rattle.cif_inst_automata.specs.Alphabets.{location_used, automaton_alphabet, body_alphabets, rows_alphabets, automaton_lacks, body_lacks, rows_lacks, tells}
use Rattle.cif_inst_automata.specs.Marks.{AreMarks}
use Rattle.cif_inst_names.specs.Looking.{source_for, component_at}
use Rattle.cif_inst_paths.specs.Views.{row_tree}
use Rattle.cif_inst_automata.specs.declared.alphabets.Alphabet.{Alphabet}
use Rattle.cif_inst_automata.proofs.MarkLaws.{first_marks, later_marks}
use Rattle.cif_inst_paths.proofs.RowBodyLaws.{row_below, row_written}
use Rattle.cif_inst_automata.proofs.RowAutoLaws.{alphabet_added, no_alphabet_added, lacks_passed, lacks_told}
use Rattle.cif_inst_automata.proofs.alphabets.all_alphabets.Goals as goal
use Rattle.cif_inst_automata.proofs.alphabets.all_alphabets.Goals.{in-Automaton+in_ok-number+in_ok-number-2+in_ok-used+in_ok-alphabet_of+in_ok-push, in_default}

pub loop-place-init : goal.loop-place-init
loop-place-init c = record {
  found = search rules;
  within = refl;
  marks = first_marks (length (events (source_for c.args.looking.now))) c.args.events c.in_ok-marks.marks c.requires.events c.in_ok-marks.ensures;
}

pub all_used-requires-clause-component : goal.all_used-requires-clause-component
all_used-requires-clause-component c =
    let below : c.loop-place.place < length (components_of (source_for c.args.looking.now)) = row_below (source_for c.args.looking.now) c.args.rows.now c.requires.rows c.loop-place.place c.loop-place-test.true in
    subst (λ k. k < length (components_of (source_for c.args.looking.now))) (sym (c.in_ok-number.ensures.is)) below

pub alphabet_of-requires-clause-component : goal.alphabet_of-requires-clause-component
alphabet_of-requires-clause-component c =
    let below : c.loop-place.place < length (components_of (source_for c.args.looking.now)) = row_below (source_for c.args.looking.now) c.args.rows.now c.requires.rows c.loop-place.place c.loop-place-test.true in
    subst (λ k. k < length (components_of (source_for c.args.looking.now))) (sym (c.in_ok-number.ensures.is)) below

pub alphabet_of-requires-clause-written : goal.alphabet_of-requires-clause-written
alphabet_of-requires-clause-written c =
    ap (λ k. body_of (component_at c.args.looking.now k)) c.in_ok-number.ensures.is
    ∙ row_written (source_for c.args.looking.now) c.args.rows.now c.requires.rows c.loop-place.place c.index-rows-place.result c.loop-place-test.true c.index-rows-place.is
    ∙ ap inside_of c.in-Automaton.is

pub alphabet_of-requires-clause-used : goal.alphabet_of-requires-clause-used
alphabet_of-requires-clause-used c = c.in_ok-used.ensures ∙ ap (λ (ls : List Loc). flat_map (location_used c.args.looking.now c.in_ok-number.field-0) (map location_tree ls)) c.as_slice.ensures

pub returns-in_err-alphabet_of-clause-told : goal.returns-in_err-alphabet_of-clause-told
returns-in_err-alphabet_of-clause-told c =
    let own : tells c.in_err-alphabet_of.field-0.0 (body_lacks c.args.looking.now c.loop-place.place (inside_of c.index-rows-place.result.inside)) =
    subst (tells c.in_err-alphabet_of.field-0.0)
    (ap (λ k. automaton_lacks c.args.looking.now k (automaton_tree c.in-Automaton.body.now)) c.in_ok-number.ensures.is ∙ sym (ap (λ b. body_lacks c.args.looking.now c.loop-place.place (inside_of b)) c.in-Automaton.is))
    c.in_err-alphabet_of.ensures.told in
    let told : tells c.in_err-alphabet_of.field-0.0 (rows_lacks c.args.looking.now 0 (map row_tree c.args.rows.now)) =
    lacks_told c.args.looking.now c.args.rows.now c.loop-place.place c.index-rows-place.result c.loop-place-test.true c.index-rows-place.is
    c.in_err-alphabet_of.field-0.0 (rows_lacks c.args.looking.now 0 (map row_tree c.args.rows.now)) own c.loop-place.invariant.within in
    search rules

pub loop-place-preserved : goal.loop-place-preserved
loop-place-preserved c =
    elim c.match-row.branch [
      | in-Automaton+in_ok-number+in_ok-number-2+in_ok-used+in_ok-alphabet_of+in_ok-push w ↦ record {
        found =
            alphabet_added c.args.looking.now c.args.rows.now c.loop-place.place c.index-rows-place.result c.loop-place-test.true c.index-rows-place.is
            c.loop-place.all c.match-row.all w.in_ok-alphabet_of.field-0 (rows_alphabets c.args.looking.now 0 (map row_tree c.args.rows.now))
            (w.all-is ∙ w.in_ok-push.ensures.ok)
            (ap (λ (x : Alphabet). x ∷ []) (w.in_ok-alphabet_of.ensures.found
            ∙ ap (λ k. automaton_alphabet c.args.looking.now k (automaton_tree w.in-Automaton.body.now)) w.in_ok-number.ensures.is)
            ∙ sym (ap (λ b. body_alphabets c.args.looking.now c.loop-place.place (inside_of b)) w.in-Automaton.is))
            c.loop-place.invariant.found;
        within =
            lacks_passed c.args.looking.now c.args.rows.now c.loop-place.place c.index-rows-place.result c.loop-place-test.true c.index-rows-place.is
            (rows_lacks c.args.looking.now 0 (map row_tree c.args.rows.now))
            (ap (λ b. body_lacks c.args.looking.now c.loop-place.place (inside_of b)) w.in-Automaton.is
            ∙ sym (ap (λ k. automaton_lacks c.args.looking.now k (automaton_tree w.in-Automaton.body.now)) w.in_ok-number.ensures.is)
            ∙ w.in_ok-alphabet_of.ensures.within)
            c.loop-place.invariant.within;
        marks = subst (AreMarks (length (events (source_for c.args.looking.now))) (c.loop-place.place + 1)) (sym w.marks-is) (subst (λ k. AreMarks (length (events (source_for c.args.looking.now))) k w.alphabet_of.new.marks) w.in_ok-number-2.ensures.is w.in_ok-alphabet_of.ensures.after);
      }
      | in_default w ↦ record {
        found =
            ap (λ (xs : List Alphabet). xs ++ rows_alphabets c.args.looking.now (c.loop-place.place + 1) (map row_tree (drop (c.loop-place.place + 1) c.args.rows.now))) w.all-is
            ∙ no_alphabet_added c.args.looking.now c.args.rows.now c.loop-place.place c.index-rows-place.result c.loop-place-test.true c.index-rows-place.is
            c.loop-place.all (rows_alphabets c.args.looking.now 0 (map row_tree c.args.rows.now))
            (ap (λ b. body_alphabets c.args.looking.now c.loop-place.place (inside_of b)) w.in_default.is)
            c.loop-place.invariant.found;
        within =
            lacks_passed c.args.looking.now c.args.rows.now c.loop-place.place c.index-rows-place.result c.loop-place-test.true c.index-rows-place.is
            (rows_lacks c.args.looking.now 0 (map row_tree c.args.rows.now))
            (ap (λ b. body_lacks c.args.looking.now c.loop-place.place (inside_of b)) w.in_default.is)
            c.loop-place.invariant.within;
        marks = subst (AreMarks (length (events (source_for c.args.looking.now))) (c.loop-place.place + 1)) (sym w.marks-is) (later_marks (length (events (source_for c.args.looking.now))) c.loop-place.place c.loop-place.marks c.loop-place.invariant.marks);
      }
    ]
