-- The automata that are made are those of the net of the source.
use Rattle.std.proofs.Common.{◌≡◌, ℕ, ◌+◌, ◌-◌, ◌<◌, ◌≤◌, Bool, true, false, cond, List, [], ◌∷◌, ◌++◌, append-nil, length, map, take, drop, refl, sym, ◌∙◌, ap, subst, arith}
use Rattle.std.specs.Prelude.{filter, flat_map}
use Rattle.std.specs.List.{position_or_len}
use Rattle.std.proofs.lemmas.List.{length-append, drop_all}
use Rattle.cif_system.specs.Words.{Member}
use Rattle.cif_system.proofs.Lists.{false-true, slice_get-below}
use Rattle.cif_source.specs.Source.{Text, AutomatonTree, SourceBody, group_body, automaton_body}
use Rattle.cif_source.specs.Components.{Component, whole, part, blank, copy, body_of, Path, path_of}
use Rattle.cif_source.specs.Objects.{components_of, is_automaton, locs_in}
use Rattle.cif_inst_components.specs.Numbers.{IsNumber}
use Rattle.cif_net.specs.declared.automata.Auto.{Auto}
use Rattle.cif_net.specs.View.{auto_tree}
use Rattle.cif_inst_model.specs.Flat.{dotted, location_name, net_auto, net_of_source}
use Rattle.cif_inst_names.specs.Looking.{or_whole, source_for, component_at}
use Rattle.cif_inst_names.specs.declared.looking.Looking.{Looking}
use Rattle.cif_inst_paths.specs.Names.{AreMatchedNames}
use Rattle.cif_inst_paths.specs.Rows.{RowTree, prefix_of, row_for, rows_of}
use Rattle.cif_inst_paths.specs.Views.{row_tree}
use Rattle.cif_inst_paths.specs.declared.rows.Row.{Row}
use Rattle.cif_inst_automata.specs.Autos.{is_initial, without_dot, auto_for, body_autos, rows_autos}
use Rattle.cif_inst_paths.proofs.SoundLaws.{component-listed, From, from-here, from-next, all-components}
use Rattle.cif_inst_paths.proofs.RowLaws.{dots-step, dots-dotted}
use Rattle.cif_inst_automata.proofs.AlphabetLaws.{alphabet-is, monitors-are}
use Rattle.cif_inst_automata.proofs.AutomatonLaws.{sound, edges}

-- ---- paths

take-front : (xs ys : Text) → take (length xs) (xs ++ ys) ≡ xs
take-front [] ys = refl
take-front (x ∷ xs) ys = ap (λ zs. x ∷ zs) (take-front xs ys)

last-dropped : (p : Text) → without_dot (p ++ 46 ∷ []) ≡ p
last-dropped p = ap (λ k. take k (p ++ 46 ∷ [])) (let e : length (p ++ 46 ∷ []) - 1 ≡ length p = omega (arith, length-append p (46 ∷ [])) in e) ∙ take-front p (46 ∷ [])

path-dropped : (p : Path) (x : Text) → without_dot (flat_map (λ y. y ++ 46 ∷ []) (p ++ x ∷ [])) ≡ dotted (p ++ x ∷ [])
path-dropped p x = ap without_dot (dots-step p x) ∙ last-dropped (flat_map (λ y. y ++ 46 ∷ []) p ++ x) ∙ sym (dots-dotted p x)

own-path : (c : Component) → is_automaton (body_of c) ≡ true → without_dot (prefix_of c) ≡ dotted (path_of c)
own-path (whole is) a = absurd (false-true refl a)
own-path (part o n b) a = path-dropped (path_of o) n.text
own-path (blank o n ps b) a = path-dropped (path_of o) n.text
own-path (copy o n ps b g i) a = path-dropped (path_of g) i.name.text

-- ---- automata

module _ (l : Looking) (h : AreMatchedNames l) where
  auto-made : (k : ℕ) → k < length (components_of (source_for l)) → (a : AutomatonTree) → body_of (component_at l k) ≡ automaton_body a → auto_for l k (prefix_of (component_at l k)) a ≡ net_auto (component_at l k)
  auto-made k below a e =
      let c = component_at l k in
      let m : Member c (components_of (source_for l)) = component-listed (source_for l) k below in
      λ i. record {
        path = own-path c (ap is_automaton e) i;
        locs = map location_name (locs_in (sym e i));
        first = position_or_len is_initial (locs_in (sym e i));
        alphabet = sym (alphabet-is l k (source_for l) (sound l h) m a e (edges l h k below a e)) i;
        monitors = sym (monitors-are l k (source_for l) (sound l h) m a e (edges l h k below a e)) i;
        edges = edges l h k below a e i;
      }

  body-made : (k : ℕ) → k < length (components_of (source_for l)) → (b : SourceBody) → body_of (component_at l k) ≡ b
      → body_autos l k (prefix_of (component_at l k)) b ≡ map net_auto (cond (is_automaton b) (component_at l k ∷ []) [])
  body-made k below (group_body is) e = refl
  body-made k below (automaton_body a) e = ap (λ x. x ∷ []) (auto-made k below a e)

  rows-made : (cs : List Component) (k : ℕ) → From (source_for l) cs k → rows_autos l k (map row_for cs) ≡ map net_auto (filter (λ c. is_automaton (body_of c)) cs)
  rows-made [] k from = refl
  rows-made (c ∷ cs) k from =
      let here : IsNumber (source_for l) k c = from-here (source_for l) c cs k from in
      let same : component_at l k ≡ c = ap (or_whole (source_for l)) here in
      let below : k < length (components_of (source_for l)) = slice_get-below (components_of (source_for l)) k c here in
      ap (λ xs. xs ++ rows_autos l (k + 1) (map row_for cs))
      (subst (λ x. body_autos l k (prefix_of x) (body_of x) ≡ map net_auto (cond (is_automaton (body_of x)) (x ∷ []) [])) same (body-made k below (body_of (component_at l k)) refl))
      ∙ ap (λ xs. map net_auto (cond (is_automaton (body_of c)) (c ∷ []) []) ++ xs) (rows-made cs (k + 1) (from-next (source_for l) c cs k from))
      ∙ joined (is_automaton (body_of c))
    where
      joined : (b : Bool) → map net_auto (cond b (c ∷ []) []) ++ map net_auto (filter (λ c. is_automaton (body_of c)) cs) ≡ map net_auto (cond b (c ∷ filter (λ c. is_automaton (body_of c)) cs) (filter (λ c. is_automaton (body_of c)) cs))
      joined true = refl
      joined false = refl

  -- those of the components are those of the net
  pub autos-are : (rows : List RowTree) → rows ≡ rows_of (source_for l) → rows_autos l 0 rows ≡ (net_of_source (source_for l)).autos
  autos-are rows r = ap (rows_autos l 0) r ∙ rows-made (components_of (source_for l)) 0 (all-components (source_for l))

  -- past the last component all are made
  pub autos_made : (rows : List Row) (i : ℕ) (autos : List Auto) → map row_tree rows ≡ rows_of (source_for l) → length rows ≤ i
      → map auto_tree autos ++ rows_autos l i (map row_tree (drop i rows)) ≡ rows_autos l 0 (map row_tree rows) → map auto_tree autos ≡ (net_of_source (source_for l)).autos
  autos_made rows i autos are past made =
      sym (append-nil (map auto_tree autos))
      ∙ ap (λ (rs : List Row). map auto_tree autos ++ rows_autos l i (map row_tree rs)) (sym (drop_all i rows past))
      ∙ made
      ∙ autos-are (map row_tree rows) are
