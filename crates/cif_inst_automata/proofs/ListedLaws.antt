-- What is listed for each use of an event on the edges of an automaton is what its edges in the net have.
use Rattle.std.proofs.Common.{◌≡◌, ℕ, ◌+◌, List, [], ◌∷◌, ◌++◌, length, map, refl, sym, ◌∙◌, ap}
use Rattle.std.specs.Prelude.{flat_map}
use Rattle.std.proofs.lemmas.List.{map-append}
use Rattle.cif_net_model.specs.Net.{NetEdge}
use Rattle.cif_source.specs.Source.{UseTree, EdgeTree, LocationTree, AutomatonTree}
use Rattle.cif_inst_model.proofs.SystemLaws.{map-map}
use Rattle.cif_inst_names.specs.declared.looking.Looking.{Looking}
use Rattle.cif_inst_automata.specs.Edges.{use_edge, end_place, uses_edges, locations_edges, automaton_edges}
use Rattle.cif_inst_automata.specs.Alphabets.{use_used, automaton_used}
use Rattle.cif_inst_automata.specs.Views.{role_back}
use Rattle.cif_inst_automata.specs.declared.used.Used.{Used}

-- g is of a use what f is of its edge, wherever that stands and leads
module _ {A : Type 0} (l : Looking) (k count : ℕ) (g : EdgeTree → UseTree → A) (f : NetEdge → A) (same : (from to : ℕ) (e : EdgeTree) (u : UseTree) → f (use_edge l k from to e u) ≡ g e u) where
  abbrev of_edge : EdgeTree → List A
  of_edge e = map (g e) e.uses

  abbrev of_location : LocationTree → List A
  of_location x = flat_map of_edge x.edges

  edge-listed : (from : ℕ) (e : EdgeTree) → of_edge e ≡ map f (uses_edges l k from count e)
  edge-listed from e = sym (map-map f (use_edge l k from (end_place l k from count e.target) e) (g e) e.uses (λ u m. same from (end_place l k from count e.target) e u))

  edges-listed : (from : ℕ) (es : List EdgeTree) → flat_map of_edge es ≡ map f (flat_map (uses_edges l k from count) es)
  edges-listed from [] = refl
  edges-listed from (e ∷ es) =
      ap (λ xs. xs ++ flat_map of_edge es) (edge-listed from e)
      ∙ ap (λ xs. map f (uses_edges l k from count e) ++ xs) (edges-listed from es)
      ∙ sym (map-append f (uses_edges l k from count e) (flat_map (uses_edges l k from count) es))

  pub locations-listed : (from : ℕ) (xs : List LocationTree) → flat_map of_location xs ≡ map f (locations_edges l k count from xs)
  locations-listed from [] = refl
  locations-listed from (x ∷ xs) =
      ap (λ ys. ys ++ flat_map of_location xs) (edges-listed from x.edges)
      ∙ ap (λ ys. map f (flat_map (uses_edges l k from count) x.edges) ++ ys) (locations-listed (from + 1) xs)
      ∙ sym (map-append f (flat_map (uses_edges l k from count) x.edges) (locations_edges l k count (from + 1) xs))

-- the use of an edge of the net
abbrev pub used_by : NetEdge → Used
used_by x = record { event = x.event; role = role_back x.role }

pub used-edges : (l : Looking) (k : ℕ) (a : AutomatonTree) → automaton_used l k a ≡ map used_by (automaton_edges l k a)
used-edges l k a = locations-listed l k (length a.locs) (λ e. use_used l k) used_by (λ from to e u. refl) 0 a.locs
