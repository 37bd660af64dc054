-- An automaton by its parts, and the names of its locations one by one.
use Rattle.std.proofs.Common.{◌≡◌, ℕ, ◌+◌, ◌<◌, List, [], ◌∷◌, ◌++◌, length, map, drop, get_or, sym, ◌∙◌, ap, append_assoc}
use Rattle.cif_ast.specs.declared.edges.Loc.{Loc}
use Rattle.cif_scope.proofs.Places.{drop-item}
use Rattle.std.specs.List.{position_or_len}
use Rattle.cif_source.specs.Source.{Text, AutomatonTree, location_tree}
use Rattle.cif_inst_model.specs.Flat.{location_name}
use Rattle.cif_net.specs.declared.automata.Auto.{Auto}
use Rattle.cif_net.specs.View.{edge_tree, auto_tree}
use Rattle.cif_inst_automata.specs.declared.alphabets.Alphabet.{Alphabet}
use Rattle.cif_inst_automata.specs.Edges.{automaton_edges}
use Rattle.cif_inst_automata.specs.Alphabets.{automaton_alphabet}
use Rattle.cif_inst_automata.specs.Autos.{is_initial, without_dot, auto_for}
use Rattle.cif_inst_names.specs.declared.looking.Looking.{Looking}

pub made_auto : (l : Looking) (k : ℕ) (p : Text) (a : AutomatonTree) (y : Alphabet) (x : Auto) → y ≡ automaton_alphabet l k a → x.path ≡ without_dot p → x.locs ≡ map location_name a.locs → x.first ≡ position_or_len is_initial a.locs
    → x.alphabet ≡ y.events → x.monitors ≡ y.monitors → map edge_tree x.edges ≡ automaton_edges l k a → auto_tree x ≡ auto_for l k p a
made_auto l k p a y x is path locs first alphabet monitors edges = λ i. record {
  path = path i;
  locs = locs i;
  first = first i;
  alphabet = (alphabet ∙ ap (λ (z : Alphabet). z.events) is) i;
  monitors = (monitors ∙ ap (λ (z : Alphabet). z.monitors) is) i;
  edges = edges i;
}

pub name_pushed : (locs : List Loc) (i : ℕ) (loc : Loc) (before after : List Text) (name : Text) → i < length locs → loc ≡ get_or locs i loc → after ≡ before ++ name ∷ [] → name ≡ location_name (location_tree loc)
    → before ++ map location_name (map location_tree (drop i locs)) ≡ map location_name (map location_tree locs)
    → after ++ map location_name (map location_tree (drop (i + 1) locs)) ≡ map location_name (map location_tree locs)
name_pushed locs i loc before after name within is pushed named rest =
    ap (λ (ns : List Text). ns ++ map location_name (map location_tree (drop (i + 1) locs))) pushed
    ∙ append_assoc before (name ∷ []) (map location_name (map location_tree (drop (i + 1) locs)))
    ∙ ap (λ (x : Text). before ++ x ∷ map location_name (map location_tree (drop (i + 1) locs))) named
    ∙ ap (λ (ls : List Loc). before ++ map location_name (map location_tree ls)) (sym (drop-item locs i loc within is))
    ∙ rest
