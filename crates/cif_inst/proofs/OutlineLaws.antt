-- The outlines are as large as the automata, exclusions and state invariants of the net of the source, and the measures of these have
-- its depth.
use Rattle.std.proofs.Common.{◌≡◌, ℕ, zero, suc, ◌+◌, ◌≤◌, max, List, [], ◌∷◌, ◌++◌, length, map, drop, refl, sym, ◌∙◌, ap, arith}
use Rattle.std.specs.Prelude.{flat_map}
use Rattle.std.proofs.Math.Seq.{drop-append_seam}
use Rattle.std.proofs.lemmas.List.{drop-drop, map-append}
use Rattle.std.proofs.lemmas.List.Sums.{sum_by-cons}
use Rattle.cif_system.proofs.Lists.{map-length}
use Rattle.cif_net_expr.specs.Tree.{NetExpr}
use Rattle.cif_net_model.specs.Net.{NetEdge, NetAuto, NetExclusion, NetInvariant, Net}
use Rattle.cif_net_model.specs.Exprs.{edge_exprs}
use Rattle.cif_net_model.specs.Unfolding.{at_or}
use Rattle.cif_net_model.specs.Counts.{no_form, alg_measures, all_beside, measure_by, stopped, most_depth}
use Rattle.cif_net_model.specs.Counts as counts
use Rattle.cif_alg_measure.specs.declared.measures.Measure.{Measure}
use Rattle.cif_alg_measure.specs.Meanings.{as_measure, stopped_measure, table_measure}
use Rattle.cif_alg_measure.specs.Counted.{beside_stopped}
use Rattle.cif_alg_measure.specs.Sizes.{AreMeasured, sizes_by, table_counted}
use Rattle.cif_alg.specs.Tallies.{cut_size}
use Rattle.cif_alg.specs.Weighed.{cut}
use Rattle.cif_alg.specs.Outlines.{CountedAuto, counted_edge, counted_auto, counted_exclusion, counted_invariant}
use Rattle.cif_source.specs.Source.{Text, AutomatonTree, SourceBody, group_body, automaton_body}
use Rattle.cif_inst_names.specs.Looking.{component_at}
use Rattle.cif_inst_names.specs.declared.looking.Looking.{Looking}
use Rattle.cif_inst_sizes.specs.Weights.{edge_weight, use_weight}
use Rattle.cif_inst_predicates.specs.Weights.{weight_of, excluded_of, invariant_weight}
use Rattle.cif_inst_paths.specs.Rows.{RowTree}
use Rattle.cif_inst_automata.specs.Edges.{automaton_edges}
use Rattle.cif_inst_automata.specs.Alphabets.{automaton_used, alphabet_for, monitors_for, automaton_alphabet, body_alphabets, rows_alphabets}
use Rattle.cif_inst_automata.specs.Autos.{auto_for, body_autos, rows_autos}
use Rattle.cif_inst.specs.Measures.{automaton_weights, body_weights, rows_weights, measure_of}
use Rattle.cif_inst.specs.Outlines.{outline_expr, outline_edge, outline_edges, outline, outlines, outline_exclusions, outline_invariants, together}
use Rattle.cif_inst_automata.proofs.EdgeLaws.{role-back}
use Rattle.cif_inst_automata.proofs.ListedLaws.{locations-listed, used_by, used-edges}

-- ---- what is left of a list

at-begins : {A : Type 0} (d : A) (xs : List A) (j : ℕ) (x : A) (rest : List A) → drop j xs ≡ x ∷ rest → at_or d xs j ≡ x
at-begins d [] zero x rest h = cc
at-begins d [] (suc j) x rest h = cc
at-begins d (y ∷ xs) zero x rest h = cc
at-begins d (y ∷ xs) (suc j) x rest h = at-begins d xs j x rest h

pub left-past : {A : Type 0} (xs ys rest : List A) (j k : ℕ) → k ≡ length ys → drop j xs ≡ ys ++ rest → drop (j + k) xs ≡ rest
left-past xs ys rest j k is h = sym (drop-drop k j xs) ∙ (λ i. drop (is i) (h i)) ∙ drop-append_seam ys rest

-- ---- sizes

all-sizes : (f : ℕ → counts.Measure) (es : List NetExpr) → (all_beside (map (measure_by f) es)).size ≡ sizes_by f es
all-sizes f [] = refl
all-sizes f (e ∷ es) = ap (λ s. (measure_by f e).size + s) (all-sizes f es) ∙ sym (sum_by-cons (λ x. (measure_by f x).size) e es)

module _ (alg : ℕ → counts.Measure) (ms : List Measure) where
  -- an outline counts as the measure with its number
  outline-as : (j : ℕ) (m : Measure) (rest : List Measure) → drop j ms ≡ m ∷ rest → cut_size (table_measure ms) (outline_expr j ∷ []) ≡ cut m.size
  outline-as j m rest left =
      let at : table_measure ms j ≡ as_measure m = ap as_measure (at-begins (record { size = 0; depth = 0 }) ms j m rest left) in
      omega (arith, sum_by-cons (λ e. (measure_by (table_measure ms) e).size) (outline_expr j) [], ap (λ (x : counts.Measure). x.size) at)

  edge-as : (j : ℕ) (x : NetEdge) (rest : List Measure) → drop j ms ≡ edge_weight alg x ∷ rest → counted_edge (table_measure ms) (outline_edge j (used_by x)) ≡ counted_edge alg x
  edge-as j x rest left = λ i. record { event = x.event; role = role-back x.role i; size = same i }
    where
      same : cut_size (table_measure ms) (outline_expr j ∷ []) ≡ cut_size alg (edge_exprs x)
      same = omega (arith, outline-as j (edge_weight alg x) rest left, all-sizes alg (edge_exprs x))

  edges-as : (xs : List NetEdge) (j : ℕ) (rest : List Measure) → drop j ms ≡ map (edge_weight alg) xs ++ rest → map (counted_edge (table_measure ms)) (outline_edges j (map used_by xs)) ≡ map (counted_edge alg) xs
  edges-as [] j rest left = refl
  edges-as (x ∷ xs) j rest left =
      λ i. edge-as j x (map (edge_weight alg) xs ++ rest) left i
      ∷ edges-as xs (j + 1) rest (left-past ms (edge_weight alg x ∷ []) (map (edge_weight alg) xs ++ rest) j 1 refl left) i

  -- ---- predicates

  predicate-as : (j : ℕ) (e : NetExpr) (rest : List Measure) → drop j ms ≡ weight_of alg e ∷ rest → cut_size (table_measure ms) (outline_expr j ∷ []) ≡ cut_size alg (e ∷ [])
  predicate-as j e rest left = omega (arith, outline-as j (weight_of alg e) rest left, sum_by-cons (λ x. (measure_by alg x).size) e [])

  pub exclusions-as : (xs : List NetExclusion) (j : ℕ) (rest : List Measure) → drop j ms ≡ map measure_of (map (excluded_of alg) xs) ++ rest
      → map (counted_exclusion (table_measure ms)) (outline_exclusions j (map (excluded_of alg) xs)) ≡ map (counted_exclusion alg) xs
  exclusions-as [] j rest left = refl
  exclusions-as (x ∷ xs) j rest left =
      λ i. record { event = x.event; size = predicate-as j x.pred (map measure_of (map (excluded_of alg) xs) ++ rest) left i }
      ∷ exclusions-as xs (j + 1) rest (left-past ms (weight_of alg x.pred ∷ []) (map measure_of (map (excluded_of alg) xs) ++ rest) j 1 refl left) i

  pub invariants-as : (is : List NetInvariant) (j : ℕ) (rest : List Measure) → drop j ms ≡ map (invariant_weight alg) is ++ rest
      → map (counted_invariant (table_measure ms)) (outline_invariants j (map (invariant_weight alg) is)) ≡ map (counted_invariant alg) is
  invariants-as [] j rest left = refl
  invariants-as (x ∷ xs) j rest left =
      λ i. predicate-as j x.pred (map (invariant_weight alg) xs ++ rest) left i
      ∷ invariants-as xs (j + 1) rest (left-past ms (weight_of alg x.pred ∷ []) (map (invariant_weight alg) xs ++ rest) j 1 refl left) i

-- ---- automata

weights-edges : (alg : ℕ → counts.Measure) (l : Looking) (k : ℕ) (a : AutomatonTree) → automaton_weights alg l k a ≡ map (edge_weight alg) (automaton_edges l k a)
weights-edges alg l k a = locations-listed l k (length a.locs) (use_weight alg (component_at l k)) (edge_weight alg) (λ from to e u. refl) 0 a.locs

module _ (alg : ℕ → counts.Measure) (l : Looking) where
  as-many : (k : ℕ) (a : AutomatonTree) → length (automaton_used l k a) ≡ length (automaton_weights alg l k a)
  as-many k a =
      ap length (used-edges l k a) ∙ map-length used_by (automaton_edges l k a)
      ∙ sym (ap length (weights-edges alg l k a) ∙ map-length (edge_weight alg) (automaton_edges l k a))

  module _ (ms : List Measure) where
    abbrev counted_here : NetAuto → CountedAuto
    counted_here = counted_auto (table_measure ms)

    abbrev counted_there : NetAuto → CountedAuto
    counted_there = counted_auto alg

    auto-as : (k : ℕ) (p : Text) (a : AutomatonTree) (j : ℕ) (rest : List Measure) → drop j ms ≡ automaton_weights alg l k a ++ rest
        → counted_here (outline j (automaton_alphabet l k a)) ≡ counted_there (auto_for l k p a)
    auto-as k p a j rest left =
        λ i. record {
          alphabet = alphabet_for l k a;
          monitors = monitors_for l k a;
          edges =
              (ap (λ es. map (counted_edge (table_measure ms)) (outline_edges j es)) (used-edges l k a)
              ∙ edges-as alg ms (automaton_edges l k a) j rest (left ∙ ap (λ ws. ws ++ rest) (weights-edges alg l k a))) i;
        }

    module _ (k : ℕ) (later : List RowTree)
        (rest-as : (j : ℕ) → drop j ms ≡ rows_weights alg l (k + 1) later → map counted_here (outlines j (rows_alphabets l (k + 1) later)) ≡ map counted_there (rows_autos l (k + 1) later)) where
      body-as : (b : SourceBody) (p : Text) (j : ℕ) → drop j ms ≡ body_weights alg l k b ++ rows_weights alg l (k + 1) later
          → map counted_here (outlines j (body_alphabets l k b ++ rows_alphabets l (k + 1) later)) ≡ map counted_there (body_autos l k p b ++ rows_autos l (k + 1) later)
      body-as (group_body is) p j left = rest-as j left
      body-as (automaton_body a) p j left =
          λ i. auto-as k p a j (rows_weights alg l (k + 1) later) left i
          ∷ rest-as (j + length (automaton_used l k a)) (left-past ms (automaton_weights alg l k a) (rows_weights alg l (k + 1) later) j (length (automaton_used l k a)) (as-many k a) left) i

    pub rows-as : (rows : List RowTree) (k j : ℕ) → drop j ms ≡ rows_weights alg l k rows → map counted_here (outlines j (rows_alphabets l k rows)) ≡ map counted_there (rows_autos l k rows)
    rows-as [] k j left = refl
    rows-as (r ∷ rows) k j left = body-as k rows (λ i g. rows-as rows (k + 1) i g) r.1 r.0 j left

-- ---- the edges of the net

abbrev pub edges_of : List NetAuto → List NetEdge
edges_of autos = flat_map (λ (a : NetAuto). a.edges) autos

body-weights : (alg : ℕ → counts.Measure) (l : Looking) (k : ℕ) (p : Text) (b : SourceBody) (ws : List Measure) (autos : List NetAuto) → ws ≡ map (edge_weight alg) (edges_of autos)
    → body_weights alg l k b ++ ws ≡ map (edge_weight alg) (edges_of (body_autos l k p b ++ autos))
body-weights alg l k p (group_body is) ws autos h = h
body-weights alg l k p (automaton_body a) ws autos h =
    ap (λ xs. xs ++ ws) (weights-edges alg l k a)
    ∙ ap (λ xs. map (edge_weight alg) (automaton_edges l k a) ++ xs) h
    ∙ sym (map-append (edge_weight alg) (automaton_edges l k a) (edges_of autos))

pub weights-are : (alg : ℕ → counts.Measure) (l : Looking) (k : ℕ) (rows : List RowTree) → rows_weights alg l k rows ≡ map (edge_weight alg) (edges_of (rows_autos l k rows))
weights-are alg l k [] = refl
weights-are alg l k (r ∷ rows) = body-weights alg l k r.0 r.1 (rows_weights alg l (k + 1) rows) (rows_autos l (k + 1) rows) (weights-are alg l (k + 1) rows)

-- ---- depth

pub depth-append : (f : ℕ → counts.Measure) (xs ys : List NetExpr)
    → (all_beside (map (measure_by f) (xs ++ ys))).depth ≡ max (all_beside (map (measure_by f) xs)).depth (all_beside (map (measure_by f) ys)).depth
depth-append f [] ys = omega arith
depth-append f (x ∷ xs) ys = omega (arith, depth-append f xs ys)

counted-deep : (ms : List Measure) (a : Measure) → a.depth ≤ suc most_depth → (table_counted a ms).depth ≡ stopped most_depth (max a.depth (all_beside (map as_measure ms)).depth)
counted-deep [] a few = omega (arith, few)
counted-deep (m ∷ ms) a few = omega (arith, few, counted-deep ms (beside_stopped a m) (omega arith))

deep-of : (ms : List Measure) → (together ms).depth ≡ stopped most_depth (all_beside (map as_measure ms)).depth
deep-of ms = omega (arith, counted-deep ms (stopped_measure no_form) (omega arith))

-- the depth of all stops where those of measures do
stopped-deep : (xs : List counts.Measure) → stopped most_depth (all_beside xs).depth ≡ (all_beside (map as_measure (map stopped_measure xs))).depth
stopped-deep [] = omega arith
stopped-deep (x ∷ xs) = omega (arith, stopped-deep xs)

-- those of algebraic variables
pub own-deep : (n : Net) (own : List Measure) → AreMeasured own n → (together own).depth ≡ stopped most_depth (all_beside (alg_measures n)).depth
own-deep n own measured =
    deep-of own
    ∙ stopped-deep (map as_measure own)
    ∙ ap (λ (ws : List Measure). (all_beside (map as_measure ws)).depth) measured
    ∙ sym (stopped-deep (alg_measures n))

module _ (alg : ℕ → counts.Measure) where
  abbrev pub depth_in : List NetExpr → ℕ
  depth_in es = (all_beside (map (measure_by alg) es)).depth

  edges-deep : (xs : List NetEdge) → stopped most_depth (all_beside (map as_measure (map (edge_weight alg) xs))).depth ≡ stopped most_depth (depth_in (flat_map edge_exprs xs))
  edges-deep [] = refl
  edges-deep (x ∷ xs) = omega (arith, edges-deep xs, depth-append alg (edge_exprs x) (flat_map edge_exprs xs))

  -- behind other expressions
  exprs-deep : (es : List NetExpr) (xs : List NetEdge) → stopped most_depth (all_beside (map as_measure (map (weight_of alg) es ++ map (edge_weight alg) xs))).depth ≡ stopped most_depth (depth_in (es ++ flat_map edge_exprs xs))
  exprs-deep [] xs = edges-deep xs
  exprs-deep (e ∷ es) xs = omega (arith, exprs-deep es xs)

  pub together-deep : (ms : List Measure) (es : List NetExpr) (xs : List NetEdge) → ms ≡ map (weight_of alg) es ++ map (edge_weight alg) xs → (together ms).depth ≡ stopped most_depth (depth_in (es ++ flat_map edge_exprs xs))
  together-deep ms es xs are = deep-of ms ∙ ap (λ (ws : List Measure). stopped most_depth (all_beside (map as_measure ws)).depth) are ∙ exprs-deep es xs
