use Rattle.std.proofs.Common.{rules, ◌<◌, List, length, drop, sym, ◌∙◌, ap, subst}
use Rattle.cif_source.specs.Objects.{components_of}
use Rattle.cif_inst_names.specs.Looking.{source_for}
use Rattle.cif_net.specs.declared.automata.Auto.{Auto}
use Rattle.cif_inst_paths.proofs.RowBodyLaws.{row_below}
use Rattle.cif_inst_automata.proofs.NetAutoLaws.{autos_made}
use Rattle.cif_inst_automata.proofs.autos.all_autos.Goals as goal

pub loop-place-init : goal.loop-place-init
loop-place-init c = record {
  made = search rules;
  left = ap (λ (xs : List Auto). drop (length xs) c.args.alphabets.now) c.new-all.ensures ∙ c.requires.alphabets;
}

pub automaton-requires-clause-component : goal.automaton-requires-clause-component
automaton-requires-clause-component c =
    let below : c.loop-place.place < length (components_of (source_for c.args.looking.now)) = row_below (source_for c.args.looking.now) c.args.rows.now c.requires.rows c.loop-place.place c.loop-place-test.true in
    subst (λ k. k < length (components_of (source_for c.args.looking.now))) (sym (c.in_ok-component.ensures.is)) below

pub automaton-requires-clause-names : goal.automaton-requires-clause-names
automaton-requires-clause-names c = c.requires.names.names

pub returns : goal.returns
returns c = autos_made c.args.looking.now c.requires.names c.args.rows.now c.loop-place.place c.loop-place.all c.requires.rows c.loop-place-test.false c.loop-place.invariant.made
