-- What is counted for all events, automaton by automaton.
use Rattle.std.proofs.Common.{◌≡◌, ℕ, suc, ◌+◌, ◌*◌, Bool, true, false, ◌||◌, List, [], ◌∷◌, ◌++◌, length, flat_map, sum_by, replicate, Some, None, slice_get, refl, sym, ◌∙◌, ap, if◌then◌else◌, arith}
use Rattle.std.specs.List.{list_any, range_with_len}
use Rattle.std.proofs.Math.Nat.{mul_assoc, add-mul, mul-add}
use Rattle.std.proofs.lemmas.List.{append-nil, append_assoc}
use Rattle.std.proofs.lemmas.List.Sums.{sum_by-cons}
use Rattle.cif_system.specs.System.{Role, sending, receiving}
use Rattle.cif_system.specs.Choices.{product_by}
use Rattle.cif_net_model.specs.Net.{NetEdge, NetAuto, NetEvent, NetExclusion, NetInvariant}
use Rattle.cif_net_model.specs.Listing.{syncs_on}
use Rattle.cif_net_model.specs.Counts.{Measure}
use Rattle.cif_alg.specs.declared.weighed.Weighed.{Weighed}
use Rattle.cif_alg.specs.declared.tally.Tally.{Tally}
use Rattle.cif_alg.specs.Weighed.{cut, weighed, paired, all_nodes}
use Rattle.cif_alg.specs.Tallies.{met_with, opened, with_edge, with_stay, closed, with_besides, tally_nodes, edge_nodes, exclusion_nodes, invariants_nodes, edges_noted, stays_noted, closed_for, exclusions_noted, tallied, all_tallied, is_channel_event, tallies_nodes, counted}
use Rattle.cif_alg.proofs.CutLaws.{pairs, all-weighed}
use Rattle.cif_alg.proofs.TableLaws.{table, filled-table, each_at, each-table}
use Rattle.cif_alg.proofs.NodeLaws.{own_edges}
use Rattle.cif_alg.proofs.TallyLaws.{resting, option_count, option_nodes, edges_at, auto_at, auto-counted, exclusions_for, exclusions_at, beside, exclusions-counted}

-- ---- one event

-- the options of an automaton, where one that has not the event has one without nodes
abbrev pub factor : ℕ → NetAuto → ℕ
factor j a = if syncs_on j a then option_count j a else 1

-- the choices of the automata
abbrev pub rows : ℕ → List NetAuto → ℕ
rows j autos = product_by (factor j) autos

abbrev autos_at : (alg : ℕ → Measure) → List NetAuto → (j : ℕ) → Tally → Tally
autos_at alg [] j t = t
autos_at alg (a ∷ autos) j t = autos_at alg autos j (auto_at alg a j t)

spread : (r w f d p v : ℕ) → (w * f + r * d) * p + r * f * v ≡ w * (f * p) + r * (d * p + f * v)
spread r w f d p v = omega (arith, add-mul (w * f) (r * d) p, mul_assoc w f p, mul_assoc r d p, mul_assoc r f v, mul-add r (d * p) (f * v))

or-false : (b : Bool) → (b || false) ≡ b
or-false true = refl
or-false false = refl

or-assoc : (x y z : Bool) → (x || y || z) ≡ (x || (y || z))
or-assoc true y z = refl
or-assoc false y z = refl

-- the edges of all automata for the event in a role
abbrev pub role_edges : Role → ℕ → List NetAuto → List NetEdge
role_edges p j autos = flat_map (λ (a : NetAuto). own_edges p j a.edges) autos

-- ---- all events

tallied-table : (alg : ℕ → Measure) (a : NetAuto) (n : ℕ) (f : ℕ → Tally) → tallied alg a (table f 0 n) ≡ table (λ j. auto_at alg a j (f j)) 0 n
tallied-table alg a n f =
    let g : ℕ → Tally = λ j. each_at (λ e. e) (λ e. opened) a.alphabet j (f j) in
    let h : ℕ → Tally = λ j. edges_at alg a.edges j (g j) in
    let k : ℕ → Tally = λ j. each_at (λ e. e) (λ e. with_stay) a.monitors j (h j) in
    ap (λ ts. closed_for a.alphabet (stays_noted a.monitors (edges_noted alg a.edges ts))) (each-table (λ e. e) (λ e. opened) a.alphabet n f)
    ∙ ap (λ ts. closed_for a.alphabet (stays_noted a.monitors ts)) (each-table (λ (x : NetEdge). x.event) (λ x. with_edge x.role (edge_nodes alg x)) a.edges n g)
    ∙ ap (closed_for a.alphabet) (each-table (λ e. e) (λ e. with_stay) a.monitors n h)
    ∙ each-table (λ e. e) (λ e. closed) a.alphabet n k

all-table : (alg : ℕ → Measure) (autos : List NetAuto) (n : ℕ) (f : ℕ → Tally) → all_tallied alg autos (table f 0 n) ≡ table (λ j. autos_at alg autos j (f j)) 0 n
all-table alg [] n f = refl
all-table alg (a ∷ autos) n f = ap (all_tallied alg autos) (tallied-table alg a n f) ∙ all-table alg autos n (λ j. auto_at alg a j (f j))

-- the event there is a channel
abbrev pub is_channel_there : List NetEvent → ℕ → Bool
is_channel_there es e = elim (slice_get es e) [ None ↦ false | Some x ↦ is_channel_event x ]

nodes-summed : (f : ℕ → Tally) (c : ℕ → Bool) (g : ℕ → ℕ) → ((j : ℕ) → tally_nodes (c j) (f j) ≡ cut (g j)) → (es : List NetEvent) (i m k : ℕ) → ((d : ℕ) → is_channel_there es d ≡ c (i + d)) → m ≡ cut k
    → tallies_nodes m es (table f i (length es)) ≡ cut (k + sum_by g (range_with_len i (length es)))
nodes-summed f c g h [] i m k t e = let z : k + 0 ≡ k = omega arith in e ∙ sym (ap cut z)
nodes-summed f c g h (x ∷ es) i m k t e =
    let first : i + 0 ≡ i = omega arith in
    let here : tally_nodes (is_channel_event x) (f i) ≡ cut (g i) = ap (λ b. tally_nodes b (f i)) (t 0 ∙ ap c first) ∙ h i in
    let s : cut (m + tally_nodes (is_channel_event x) (f i)) ≡ cut (k + g i) = omega (arith, here, e) in
    let z : k + g i + sum_by g (range_with_len (i + 1) (length es)) ≡ k + sum_by g (range_with_len i (length (x ∷ es))) = omega (arith, sum_by-cons g i (range_with_len (i + 1) (length es))) in
    nodes-summed f c g h es (i + 1) (cut (m + tally_nodes (is_channel_event x) (f i))) (k + g i) (λ d. let n : i + suc d ≡ i + 1 + d = omega arith in t (suc d) ∙ ap c n) s ∙ ap cut z

-- where an edge has v nodes, and an exclusion u
module _ (v : NetEdge → ℕ) (u : NetExclusion → ℕ) where
  abbrev pub addend : ℕ → NetAuto → ℕ
  addend j a = if syncs_on j a then option_nodes v j a else 0

  -- the nodes of the choices of the automata
  abbrev pub rows_nodes : ℕ → List NetAuto → ℕ
  rows_nodes j [] = 0
  rows_nodes j (a ∷ autos) = addend j a * rows j autos + factor j a * rows_nodes j autos

  -- what each choice has besides: b, and the exclusions of its event
  abbrev pub besides : (b : ℕ) → List NetExclusion → ℕ → ℕ
  besides b xs j = b + sum_by u (exclusions_for j xs)

  -- the nodes of all choices for an event
  abbrev pub event_total : (b : ℕ) → List NetAuto → List NetExclusion → Bool → ℕ → ℕ
  event_total b autos xs c j =
      if c then
      length (role_edges sending j autos) * (length (role_edges receiving j autos) * rows j autos) * (1 + besides b xs j)
      + (sum_by v (role_edges sending j autos) * (length (role_edges receiving j autos) * rows j autos)
      + length (role_edges sending j autos) * (sum_by v (role_edges receiving j autos) * rows j autos + length (role_edges receiving j autos) * rows_nodes j autos))
      else (if list_any (syncs_on j) autos then rows j autos * (1 + besides b xs j) + rows_nodes j autos else 0)

  -- one option without nodes changes nothing
  same-resting : (k r w : ℕ) (p : Bool) (ss rs : List NetEdge) → resting v k (r * 1) (w * 1 + r * 0) (p || false) ss rs ≡ resting v k r w p ss rs
  same-resting k r w p ss rs =
      let e : r * 1 ≡ r = omega arith in
      let f : w * 1 + r * 0 ≡ w = omega arith in
      λ i. resting v k (e i) (f i) (or-false p i) ss rs

  module _ (alg : ℕ → Measure) (edges : (x : NetEdge) → edge_nodes alg x ≡ cut (v x)) (exclusions : (x : NetExclusion) → exclusion_nodes alg x ≡ cut (u x)) (b : ℕ) where
    abbrev so_far : (r w : ℕ) → Bool → (ss rs : List NetEdge) → Tally
    so_far r w p ss rs = resting v (cut b) r w p ss rs

    one-counted : (a : NetAuto) (j r w : ℕ) (p : Bool) (ss rs : List NetEdge)
        → auto_at alg a j (so_far r w p ss rs) ≡ so_far (r * factor j a) (w * factor j a + r * addend j a) (p || syncs_on j a) (ss ++ own_edges sending j a.edges) (rs ++ own_edges receiving j a.edges)
    one-counted a j r w p ss rs = auto-counted v (cut b) alg edges a j r w p ss rs ∙ by (syncs_on j a) p
      where
        ts : List NetEdge
        ts = ss ++ own_edges sending j a.edges

        us : List NetEdge
        us = rs ++ own_edges receiving j a.edges

        by : (c q : Bool) → (if c then so_far (r * option_count j a) (w * option_count j a + r * option_nodes v j a) true ts us else so_far r w q ts us)
            ≡ so_far (r * (if c then option_count j a else 1)) (w * (if c then option_count j a else 1) + r * (if c then option_nodes v j a else 0)) (q || c) ts us
        by true true = refl
        by true false = refl
        by false q = sym (same-resting (cut b) r w q ts us)

    autos-counted : (autos : List NetAuto) (j r w : ℕ) (p : Bool) (ss rs : List NetEdge)
        → autos_at alg autos j (so_far r w p ss rs) ≡ so_far (r * rows j autos) (w * rows j autos + r * rows_nodes j autos) (p || list_any (syncs_on j) autos) (ss ++ role_edges sending j autos) (rs ++ role_edges receiving j autos)
    autos-counted [] j r w p ss rs = sym (same-resting (cut b) r w p ss rs) ∙ λ i. so_far (r * 1) (w * 1 + r * 0) (p || false) (sym (append-nil ss) i) (sym (append-nil rs) i)
    autos-counted (a ∷ autos) j r w p ss rs =
        let f : ℕ = factor j a in
        let d : ℕ = addend j a in
        let q : ℕ = rows j autos in
        let s : ℕ = rows_nodes j autos in
        ap (autos_at alg autos j) (one-counted a j r w p ss rs)
        ∙ autos-counted autos j (r * f) (w * f + r * d) (p || syncs_on j a) (ss ++ own_edges sending j a.edges) (rs ++ own_edges receiving j a.edges)
        ∙ λ i. so_far (mul_assoc r f q i) (spread r w f d q s i) (or-assoc p (syncs_on j a) (list_any (syncs_on j) autos) i)
        (append_assoc ss (own_edges sending j a.edges) (role_edges sending j autos) i) (append_assoc rs (own_edges receiving j a.edges) (role_edges receiving j autos) i)

    rests : (autos : List NetAuto) (j : ℕ) → autos_at alg autos j (met_with (cut b)) ≡ so_far (rows j autos) (rows_nodes j autos) (list_any (syncs_on j) autos) (role_edges sending j autos) (role_edges receiving j autos)
    rests autos j =
        let e : 1 * rows j autos ≡ rows j autos = omega arith in
        let f : 0 * rows j autos + 1 * rows_nodes j autos ≡ rows_nodes j autos = omega arith in
        autos-counted autos j 1 0 false [] []
        ∙ λ i. so_far (e i) (f i) (list_any (syncs_on j) autos) (role_edges sending j autos) (role_edges receiving j autos)

    total-counted : (autos : List NetAuto) (xs : List NetExclusion) (c : Bool) (j : ℕ) → tally_nodes c (exclusions_at alg xs j (autos_at alg autos j (met_with (cut b)))) ≡ cut (event_total b autos xs c j)
    total-counted autos xs c j =
        let t : Tally = so_far p q (list_any (syncs_on j) autos) ss rs in
        ap (λ y. tally_nodes c (exclusions_at alg xs j y)) (rests autos j)
        ∙ ap (tally_nodes c) (exclusions-counted alg u exclusions j t xs b)
        ∙ by c (list_any (syncs_on j) autos)
      where
        p : ℕ
        p = rows j autos

        q : ℕ
        q = rows_nodes j autos

        m : ℕ
        m = besides b xs j

        ss : List NetEdge
        ss = role_edges sending j autos

        rs : List NetEdge
        rs = role_edges receiving j autos

        by : (c any : Bool) → tally_nodes c (beside (so_far p q any ss rs) m)
            ≡ cut (if c then length ss * (length rs * p) * (1 + m) + (sum_by v ss * (length rs * p) + length ss * (sum_by v rs * p + length rs * q)) else (if any then p * (1 + m) + q else 0))
        by true any =
            ap (λ (o : Weighed). all_nodes (cut (1 + cut m)) (paired (weighed (length ss) (sum_by v ss)) o)) (pairs (length rs) (sum_by v rs) p q)
            ∙ ap (all_nodes (cut (1 + cut m))) (pairs (length ss) (sum_by v ss) (length rs * p) (sum_by v rs * p + length rs * q))
            ∙ all-weighed m (length ss * (length rs * p)) (sum_by v ss * (length rs * p) + length ss * (sum_by v rs * p + length rs * q))
        by false true = all-weighed m p q
        by false false = refl

    pub counted_are : (autos : List NetAuto) (xs : List NetExclusion) (is : List NetInvariant) (events : List NetEvent) → invariants_nodes alg is ≡ cut b
        → counted alg autos xs is events ≡ cut (sum_by (λ j. event_total b autos xs (is_channel_there events j) j) (range_with_len 0 (length events)))
    counted_are autos xs is events weigh =
        let n : ℕ = length events in
        let begin : Tally = met_with (cut b) in
        let f : ℕ → Tally = λ j. exclusions_at alg xs j (autos_at alg autos j begin) in
        let total : ℕ → ℕ = λ j. event_total b autos xs (is_channel_there events j) j in
        let z : 0 + sum_by total (range_with_len 0 n) ≡ sum_by total (range_with_len 0 n) = omega arith in
        ap (λ k. tallies_nodes 0 events (exclusions_noted alg xs (all_tallied alg autos (replicate n (met_with k))))) weigh
        ∙ ap (λ ts. tallies_nodes 0 events (exclusions_noted alg xs (all_tallied alg autos ts))) (filled-table begin 0 n)
        ∙ ap (λ ts. tallies_nodes 0 events (exclusions_noted alg xs ts)) (all-table alg autos n (λ j. begin))
        ∙ ap (tallies_nodes 0 events) (each-table (λ (x : NetExclusion). x.event) (λ x. with_besides (exclusion_nodes alg x)) xs n (λ j. autos_at alg autos j begin))
        ∙ nodes-summed f (is_channel_there events) total (λ j. total-counted autos xs (is_channel_there events j) j) events 0 0 0 (λ d. let e : d ≡ 0 + d = omega arith in ap (is_channel_there events) e) refl
        ∙ ap cut z
