-- The expressions of a net that are counted one after the other count as their list, and the count stops as theirs would.
use Rattle.std.proofs.Common.{◌≡◌, ℕ, zero, suc, ◌+◌, max, List, [], ◌∷◌, ◌++◌, map, length, Option, Some, None, refl, sym, ◌∙◌, ap, arith}
use Rattle.std.specs.Prelude.{flat_map, option_to_list}
use Rattle.std.proofs.lemmas.Grind.{flat_map-append}
use Rattle.std.proofs.lemmas.List.Sums.{sum_by-cons}
use Rattle.cif_net_expr.specs.Tree.{NetExpr, NetUpdate, net_set, net_choose, NetUpdates, no_net_updates, net_updates, NetUpdateBranches, no_net_update_branches, net_update_branches}
use Rattle.cif_net_model.specs.Net.{NetEdge, NetAuto, AlgValue, one_value, by_loc, NetAlg, NetExclusion, NetInvariant, Net}
use Rattle.cif_net_model.specs.Exprs.{updates_exprs, update_exprs, branches_exprs, edge_exprs, alg_exprs, all_edges, all_exprs}
use Rattle.cif_net_model.specs.Unfolding.{at_or, unfolded}
use Rattle.cif_net_model.specs.Counts.{no_form, beside, all_beside, measure_by, alg_measure, alg_measures, size_of, depth, stopped, most_nodes, most_depth}
use Rattle.cif_net_model.specs.Counts as counts
use Rattle.cif_net_model.proofs.ValueLaws.{ap-two}
use Rattle.cif_alg_measure.specs.declared.measures.Measure.{Measure}
use Rattle.cif_alg_measure.specs.Meanings.{as_measure, stopped_measure, table_measure, stopped_table}
use Rattle.cif_alg_measure.specs.Counted.{beside_stopped, counted}
use Rattle.cif_alg_measure.specs.Sizes.{sizes_by, AreMeasured, exprs_counted, updates_counted, update_counted, branches_counted, sent_counted, edge_counted, edges_counted, autos_counted, exclusions_counted, invariants_counted, algs_counted, net_counted, table_counted}
use Rattle.cif_alg_measure.proofs.CountedLaws.{same-measure, beside-stopped, beside-none, none-beside, beside-assoc, counted-is}

-- ---- the list of what is counted

module _ (alg : ℕ → Measure) where
  exprs-append : (a : Measure) (xs ys : List NetExpr) → exprs_counted alg a (xs ++ ys) ≡ exprs_counted alg (exprs_counted alg a xs) ys
  exprs-append a [] ys = refl
  exprs-append a (x ∷ xs) ys = exprs-append (beside_stopped a (counted alg x)) xs ys

  mutual
    updates-are : (us : NetUpdates) (a : Measure) → updates_counted alg a us ≡ exprs_counted alg a (updates_exprs us)
    updates-are no_net_updates a = refl
    updates-are (net_updates u us) a = ap (λ b. updates_counted alg b us) (update-is u a) ∙ updates-are us (exprs_counted alg a (update_exprs u)) ∙ sym (exprs-append a (update_exprs u) (updates_exprs us))

    update-is : (u : NetUpdate) (a : Measure) → update_counted alg a u ≡ exprs_counted alg a (update_exprs u)
    update-is (net_set v e) a = refl
    update-is (net_choose bs us) a = ap (λ b. updates_counted alg b us) (branches-are bs a) ∙ updates-are us (exprs_counted alg a (branches_exprs bs)) ∙ sym (exprs-append a (branches_exprs bs) (updates_exprs us))

    branches-are : (bs : NetUpdateBranches) (a : Measure) → branches_counted alg a bs ≡ exprs_counted alg a (branches_exprs bs)
    branches-are no_net_update_branches a = refl
    branches-are (net_update_branches c us bs) a =
        ap (λ b. branches_counted alg b bs) (updates-are us (beside_stopped a (counted alg c)))
        ∙ branches-are bs (exprs_counted alg (beside_stopped a (counted alg c)) (updates_exprs us))
        ∙ sym (exprs-append (beside_stopped a (counted alg c)) (updates_exprs us) (branches_exprs bs))

  sent-is : (a : Measure) (o : Option NetExpr) → sent_counted alg a o ≡ exprs_counted alg a (option_to_list o)
  sent-is a None = refl
  sent-is a (Some e) = refl

  pub edge-is : (a : Measure) (x : NetEdge) → edge_counted alg a x ≡ exprs_counted alg a (edge_exprs x)
  edge-is a x =
      let b : Measure = beside_stopped a (counted alg x.guard) in
      updates-are x.updates (sent_counted alg b x.sent)
      ∙ ap (λ d. exprs_counted alg d (updates_exprs x.updates)) (sent-is b x.sent)
      ∙ sym (exprs-append b (option_to_list x.sent) (updates_exprs x.updates))

  edges-are : (a : Measure) (xs : List NetEdge) → edges_counted alg a xs ≡ exprs_counted alg a (flat_map edge_exprs xs)
  edges-are a [] = refl
  edges-are a (x ∷ xs) = ap (λ b. edges_counted alg b xs) (edge-is a x) ∙ edges-are (exprs_counted alg a (edge_exprs x)) xs ∙ sym (exprs-append a (edge_exprs x) (flat_map edge_exprs xs))

  autos-are : (a : Measure) (xs : List NetAuto) → autos_counted alg a xs ≡ exprs_counted alg a (flat_map edge_exprs (flat_map (λ (x : NetAuto). x.edges) xs))
  autos-are a [] = refl
  autos-are a (x ∷ xs) =
      ap (λ b. autos_counted alg b xs) (edges-are a x.edges)
      ∙ autos-are (exprs_counted alg a (flat_map edge_exprs x.edges)) xs
      ∙ sym (exprs-append a (flat_map edge_exprs x.edges) (flat_map edge_exprs (flat_map (λ (y : NetAuto). y.edges) xs)))
      ∙ ap (exprs_counted alg a) (sym (flat_map-append edge_exprs x.edges (flat_map (λ (y : NetAuto). y.edges) xs)))

  exclusions-are : (a : Measure) (xs : List NetExclusion) → exclusions_counted alg a xs ≡ exprs_counted alg a (map (λ (x : NetExclusion). x.pred) xs)
  exclusions-are a [] = refl
  exclusions-are a (x ∷ xs) = exclusions-are (beside_stopped a (counted alg x.pred)) xs

  pub invariants-are : (a : Measure) (xs : List NetInvariant) → invariants_counted alg a xs ≡ exprs_counted alg a (map (λ (i : NetInvariant). i.pred) xs)
  invariants-are a [] = refl
  invariants-are a (x ∷ xs) = invariants-are (beside_stopped a (counted alg x.pred)) xs

  value-is : (a : Measure) (v : AlgValue) → elim v [ one_value e ↦ beside_stopped a (counted alg e) | by_loc k es ↦ exprs_counted alg a es ] ≡ exprs_counted alg a (elim v [ one_value e ↦ e ∷ [] | by_loc k es ↦ es ])
  value-is a (one_value e) = refl
  value-is a (by_loc k es) = refl

  algs-are : (a : Measure) (xs : List NetAlg) → algs_counted alg a xs ≡ exprs_counted alg a (flat_map alg_exprs xs)
  algs-are a [] = refl
  algs-are a (x ∷ xs) = ap (λ b. algs_counted alg b xs) (value-is a x.value) ∙ algs-are (exprs_counted alg a (alg_exprs x)) xs ∙ sym (exprs-append a (alg_exprs x) (flat_map alg_exprs xs))

  net-is : (a : Measure) (n : Net) → net_counted alg a n ≡ exprs_counted alg a (all_exprs n)
  net-is a n =
      let es : List NetExpr = flat_map edge_exprs (all_edges n) in
      let xs : List NetExpr = map (λ (x : NetExclusion). x.pred) n.exclusions in
      let is : List NetExpr = map (λ (i : NetInvariant). i.pred) n.invariants in
      let ds : List NetExpr = flat_map alg_exprs n.algs in
      ap (λ b. algs_counted alg (invariants_counted alg (exclusions_counted alg b n.exclusions) n.invariants) n.algs) (autos-are a n.autos)
      ∙ ap (λ b. algs_counted alg (invariants_counted alg b n.invariants) n.algs) (exclusions-are (exprs_counted alg a es) n.exclusions)
      ∙ ap (λ b. algs_counted alg b n.algs) (invariants-are (exprs_counted alg (exprs_counted alg a es) xs) n.invariants)
      ∙ algs-are (exprs_counted alg (exprs_counted alg (exprs_counted alg a es) xs) is) n.algs
      ∙ sym (exprs-append (exprs_counted alg (exprs_counted alg a es) xs) is ds)
      ∙ sym (exprs-append (exprs_counted alg a es) xs (is ++ ds))
      ∙ sym (exprs-append a es (xs ++ (is ++ ds)))

-- ---- counts that stop

module _ (f : ℕ → counts.Measure) where
  abbrev alg : ℕ → Measure
  alg k = stopped_measure (f k)

  exprs-stop : (es : List NetExpr) (a : counts.Measure) → exprs_counted alg (stopped_measure a) es ≡ stopped_measure (beside a (all_beside (map (measure_by f) es)))
  exprs-stop [] a = ap stopped_measure (sym (beside-none a))
  exprs-stop (e ∷ es) a =
      ap (λ b. exprs_counted alg b es) (ap (beside_stopped (stopped_measure a)) (counted-is f e) ∙ beside-stopped a (measure_by f e))
      ∙ exprs-stop es (beside a (measure_by f e))
      ∙ ap stopped_measure (beside-assoc a (measure_by f e) (all_beside (map (measure_by f) es)))

  all-stop : (es : List NetExpr) → exprs_counted alg (stopped_measure no_form) es ≡ stopped_measure (all_beside (map (measure_by f) es))
  all-stop es = exprs-stop es no_form ∙ ap stopped_measure (none-beside (all_beside (map (measure_by f) es)))

  all-sizes : (es : List NetExpr) → (all_beside (map (measure_by f) es)).size ≡ sizes_by f es
  all-sizes [] = refl
  all-sizes (e ∷ es) = ap (λ s. (measure_by f e).size + s) (all-sizes es) ∙ sym (sum_by-cons (λ x. (measure_by f x).size) e es)

stop-left_size : (a b : ℕ) → stopped most_nodes (stopped most_nodes a + b) ≡ stopped most_nodes (a + b)
stop-left_size a b = omega arith

stop-left_depth : (a b : ℕ) → stopped most_depth (max (stopped most_depth a) b) ≡ stopped most_depth (max a b)
stop-left_depth a b = omega arith

stop-left : (a b : counts.Measure) → stopped_measure (beside (as_measure (stopped_measure a)) b) ≡ stopped_measure (beside a b)
stop-left a b = same-measure (stop-left_size a.size b.size) (stop-left_depth a.depth b.depth)

table-stop : (ms : List Measure) (a : counts.Measure) → table_counted (stopped_measure a) ms ≡ stopped_measure (beside a (all_beside (map as_measure ms)))
table-stop [] a = ap stopped_measure (sym (beside-none a))
table-stop (m ∷ ms) a =
    ap (λ b. table_counted b ms) (stop-left a (as_measure m)) ∙ table-stop ms (beside a (as_measure m))
    ∙ ap stopped_measure (beside-assoc a (as_measure m) (all_beside (map as_measure ms)))

-- ---- counts hang on stopped measures alone

same-all : (f g : ℕ → counts.Measure) (es : List NetExpr) → ((k : ℕ) → stopped_measure (f k) ≡ stopped_measure (g k)) → stopped_measure (all_beside (map (measure_by f) es)) ≡ stopped_measure (all_beside (map (measure_by g) es))
same-all f g es h =
    let same : (λ k. stopped_measure (f k)) ≡ (λ k. stopped_measure (g k)) = λ i k. h k i in
    sym (all-stop f es) ∙ ap (λ alg. exprs_counted alg (stopped_measure no_form) es) same ∙ all-stop g es

abbrev all_stopped : List Measure → Measure
all_stopped [] = stopped_measure no_form
all_stopped (m ∷ ms) = beside_stopped m (all_stopped ms)

all-stopped : (xs : List counts.Measure) → stopped_measure (all_beside xs) ≡ all_stopped (map stopped_measure xs)
all-stopped [] = refl
all-stopped (x ∷ xs) = sym (beside-stopped x (all_beside xs)) ∙ ap (beside_stopped (stopped_measure x)) (all-stopped xs)

map-at : {A B : Type 0} (h : A → B) (d : A) (xs : List A) (k : ℕ) → h (at_or d xs k) ≡ at_or (h d) (map h xs) k
map-at h d [] k = refl
map-at h d (x ∷ xs) zero = refl
map-at h d (x ∷ xs) (suc k) = map-at h d xs k

module _ (ms : List Measure) (n : Net) (measured : AreMeasured ms n) where
  measured-at : (k : ℕ) → stopped_measure (table_measure ms k) ≡ stopped_measure (at_or no_form (alg_measures n) k)
  measured-at k =
      ap stopped_measure (map-at as_measure (record { size = 0; depth = 0 }) ms k)
      ∙ map-at stopped_measure no_form (map as_measure ms) k
      ∙ ap (λ xs. at_or (stopped_measure no_form) xs k) measured
      ∙ sym (map-at stopped_measure no_form (alg_measures n) k)

  exprs-of_net : (es : List NetExpr) → stopped_measure (all_beside (map (measure_by (table_measure ms)) es)) ≡ stopped_measure (all_beside (map (counts.measure n) es))
  exprs-of_net es = same-all (table_measure ms) (at_or no_form (alg_measures n)) es measured-at

  table-of_net : stopped_measure (all_beside (map as_measure ms)) ≡ stopped_measure (all_beside (alg_measures n))
  table-of_net = all-stopped (map as_measure ms) ∙ ap all_stopped measured ∙ sym (all-stopped (alg_measures n))

-- no algebraic variables
pub none-measured : (n : Net) → n.algs ≡ [] → AreMeasured [] n
none-measured n none = sym (ap (λ ds. map stopped_measure (unfolded no_form alg_measure ds (length ds))) none)

-- ---- what is told

-- m is the measure of these expressions
abbrev pub Measures : List Measure → List NetExpr → Measure → Type 0
Measures ms es m = m ≡ exprs_counted (stopped_table ms) (stopped_measure no_form) es

pub size-told : (ms : List Measure) (es : List NetExpr) (m : Measure) → Measures ms es m → m.size ≡ stopped most_nodes (sizes_by (table_measure ms) es)
size-told ms es m h = ap (λ (x : Measure). x.size) (h ∙ all-stop (table_measure ms) es) ∙ ap (stopped most_nodes) (all-sizes (table_measure ms) es)

pub size-of_net : (ms : List Measure) (es : List NetExpr) (m : Measure) → Measures ms es m → (n : Net) → AreMeasured ms n → m.size ≡ stopped most_nodes (size_of n es)
size-of_net ms es m h n measured =
    ap (λ (x : Measure). x.size) (h ∙ all-stop (table_measure ms) es ∙ exprs-of_net ms n measured es) ∙ ap (stopped most_nodes) (all-sizes (at_or no_form (alg_measures n)) es)

pub edge-measured : (ms : List Measure) (x : NetEdge) (m before : Measure) → before ≡ stopped_measure no_form → m ≡ edge_counted (stopped_table ms) before x → Measures ms (edge_exprs x) m
edge-measured ms x m before p h = h ∙ ap (λ b. edge_counted (stopped_table ms) b x) p ∙ edge-is (stopped_table ms) (stopped_measure no_form) x

pub invariants-measured : (ms : List Measure) (xs : List NetInvariant) (m before : Measure) → before ≡ stopped_measure no_form → m ≡ invariants_counted (stopped_table ms) before xs → Measures ms (map (λ (i : NetInvariant). i.pred) xs) m
invariants-measured ms xs m before p h = h ∙ ap (λ b. invariants_counted (stopped_table ms) b xs) p ∙ invariants-are (stopped_table ms) (stopped_measure no_form) xs

module _ (ms : List Measure) (n : Net) (m all before : Measure) (p : before ≡ stopped_measure no_form) (q : all ≡ net_counted (stopped_table ms) before n) (h : m ≡ table_counted all ms) where
  whole : m ≡ stopped_measure (beside (all_beside (map (measure_by (table_measure ms)) (all_exprs n))) (all_beside (map as_measure ms)))
  whole =
      h
      ∙ ap (λ b. table_counted b ms) (q ∙ ap (λ b. net_counted (stopped_table ms) b n) p ∙ net-is (stopped_table ms) (stopped_measure no_form) n ∙ all-stop (table_measure ms) (all_exprs n))
      ∙ table-stop ms (all_beside (map (measure_by (table_measure ms)) (all_exprs n)))

  pub depth-told : m.depth ≡ stopped most_depth (max (all_beside (map (measure_by (table_measure ms)) (all_exprs n))).depth (all_beside (map as_measure ms)).depth)
  depth-told = ap (λ (x : Measure). x.depth) whole

  pub depth-of_net : AreMeasured ms n → m.depth ≡ stopped most_depth (depth n)
  depth-of_net measured =
      ap (λ (x : Measure). x.depth)
      (whole
      ∙ sym (beside-stopped (all_beside (map (measure_by (table_measure ms)) (all_exprs n))) (all_beside (map as_measure ms)))
      ∙ ap-two beside_stopped (exprs-of_net ms n measured (all_exprs n)) (table-of_net ms n measured)
      ∙ beside-stopped (all_beside (map (counts.measure n) (all_exprs n))) (all_beside (alg_measures n)))
