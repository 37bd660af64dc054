use Rattle.std.proofs.Common.{List, map, length, sym, ◌∙◌, ap}
use Rattle.std.specs.List.{position_or_len}
use Rattle.cif_system.proofs.Lists.{map-length}
use Rattle.cif_ast.specs.declared.edges.Loc.{Loc}
use Rattle.cif_source.specs.Source.{location_tree, automaton_tree}
use Rattle.cif_inst_model.specs.Flat.{location_name}
use Rattle.cif_inst_automata.specs.Autos.{is_initial}
use Rattle.cif_inst_automata.specs.Edges.{locations_edges}
use Rattle.cif_inst_automata.proofs.AutoLaws.{made_auto}
use Rattle.cif_inst_automata.proofs.autos.automaton.Goals as goal

pub returns : goal.returns
returns c =
    made_auto c.args.looking.now c.args.component c.args.prefix.now (automaton_tree c.args.automaton.now) c.args.alphabet.now
    (record { path = c.in_ok-own_path.field-0; locs = c.in_ok-location_names.field-0; first = c.in_ok-number.field-0; alphabet = c.in_ok-copy.field-0; monitors = c.in_ok-copy-2.field-0; edges = c.in_ok-all_edges.field-0 })
    c.requires.alphabet
    c.in_ok-own_path.ensures
    (c.in_ok-location_names.ensures ∙ ap (λ (ls : List Loc). map location_name (map location_tree ls)) c.as_slice-locs.ensures)
    (c.in_ok-number.ensures.is ∙ c.first_place.ensures ∙ ap (λ (ls : List Loc). position_or_len is_initial (map location_tree ls)) c.as_slice-locs.ensures)
    c.in_ok-copy.ensures
    c.in_ok-copy-2.ensures
    (c.in_ok-all_edges.ensures
    ∙ ap (λ (ls : List Loc). locations_edges c.args.looking.now c.args.component (length ls) 0 (map location_tree ls)) c.as_slice-locs.ensures
    ∙ ap (λ k. locations_edges c.args.looking.now c.args.component k 0 (map location_tree c.args.automaton.now.locs)) (sym (map-length location_tree c.args.automaton.now.locs)))
