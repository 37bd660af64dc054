-- The reasons of a table of marks are those of the values that leave their ranges.
use Rattle.std.proofs.Common.{◌≡◌, ℕ, zero, suc, ◌+◌, ◌<◌, ◌≤◌, Bool, true, false, cond, List, [], ◌∷◌, ◌++◌, length, map, filter, zip, Some, refl, sym, ap, ◌∙◌, arith}
use Rattle.std.specs.Prelude.{slice_get, flat_map, ◌&&◌}
use Rattle.std.specs.List.{enumerate_from, list_any, range_with_len}
use Rattle.cif_system.specs.System.{State}
use Rattle.cif_net_model.proofs.ValueLaws.{ap-two}
use Rattle.cif_net_model.specs.Meaning.{automaton_in, edge_meant, system_of_net}
use Rattle.cif_net_model.specs.Net.{Net, NetAuto, NetEdge}
use Rattle.cif_why_model.specs.Told.{AutomatonTold}
use Rattle.cif_why_model.specs.Reasons.{Reason, agreeing, leaves, leaves_of, leaves_of_edge, reason_if, takes_edge, value_leaves}
use Rattle.cif_sim_names.specs.Nets.{net_edge_told}
use Rattle.cif_why.specs.Lists.{each_from}
use Rattle.cif_why.specs.Marked.{marks_told, row_told, rows_told}
use Rattle.cif_why.proofs.MarkLaws.{rows_of, table_of}

filter-same : (f g : ℕ → Bool) (i c : ℕ) → ((l : ℕ) → i ≤ l → l < i + c → f l ≡ g l) → filter f (range_with_len i c) ≡ filter g (range_with_len i c)
filter-same f g i zero h = refl
filter-same f g i (suc c) h =
    ap (λ ls. cond (f i) (i ∷ ls) ls) (filter-same f g (i + 1) c (λ l p q. h l (omega (arith, p)) (omega (arith, q))))
    ∙ ap (λ b. cond b (i ∷ filter g (range_with_len (i + 1) c)) (filter g (range_with_len (i + 1) c))) (h i (omega arith) (omega arith))

each-range : (r : ℕ → Reason) (f : ℕ → Bool) (i c : ℕ) → each_from r (λ l b. b) i (map f (range_with_len i c)) ≡ map r (filter f (range_with_len i c))
each-range r f i zero = refl
each-range r f i (suc c) = ap (λ rs. reason_if (f i) (r i) ++ rs) (each-range r f (i + 1) c) ∙ go (f i)
  where
    go : (b : Bool) → reason_if b (r i) ++ map r (filter f (range_with_len (i + 1) c)) ≡ map r (cond b (i ∷ filter f (range_with_len (i + 1) c)) (filter f (range_with_len (i + 1) c)))
    go true = refl
    go false = refl

module _ (n : Net) (s : State) (e : ℕ) where
  abbrev pub auto_told : NetAuto → AutomatonTold
  auto_told a = record { path = a.path; edges = map (net_edge_told n) a.edges }

  -- some choice that agrees takes the edge, and its value l leaves its range
  abbrev pub leaves_somewhere : (k j : ℕ) → NetEdge → (l : ℕ) → Bool
  leaves_somewhere k j y l = list_any (λ ch. takes_edge ch k j && value_leaves (system_of_net n) s e ch (edge_meant n y) (net_edge_told n y) l) (agreeing (system_of_net n) s e)

  -- the truths are those of an edge
  pub record Tells (f : ℕ → Bool) (k j : ℕ) (y : NetEdge) : Type 0 where
    pub size : length (net_edge_told n y).values ≡ length y.places
    pub each : (l : ℕ) → l < length y.places → f l ≡ leaves_somewhere k j y l

  edge-told : (f : ℕ → Bool) (k j : ℕ) (y : NetEdge) → Tells f k j y → row_told k j (map f (range_with_len 0 (length y.places))) ≡ leaves_of_edge (system_of_net n) s e k (j, (edge_meant n y, net_edge_told n y))
  edge-told f k j y h =
      each-range (leaves k j) f 0 (length y.places)
      ∙ ap (map (leaves k j)) (filter-same f (leaves_somewhere k j y) 0 (length y.places) (λ l p q. h.each l (omega (arith, q))))
      ∙ ap (λ c. map (leaves k j) (filter (leaves_somewhere k j y) (range_with_len 0 c))) (sym h.size)

  rows-told : (f : ℕ → ℕ → Bool) (k j : ℕ) (ys : List NetEdge) → ((d : ℕ) (y : NetEdge) → slice_get ys d ≡ Some y → Tells (f (j + d)) k (j + d) y)
      → rows_told k j (rows_of f j ys) ≡ flat_map (leaves_of_edge (system_of_net n) s e k) (enumerate_from j (zip (map (edge_meant n) ys) (map (net_edge_told n) ys)))
  rows-told f k j [] h = refl
  rows-told f k j (y ∷ ys) h =
      ap-two (λ xs zs. xs ++ zs)
      (edge-told (f j) k j y (first (h 0 y refl)))
      (rows-told f k (j + 1) ys (λ d z at. later d z (h (suc d) z at)))
    where
      first : Tells (f (j + 0)) k (j + 0) y → Tells (f j) k j y
      first w = record { size = w.size; each = λ l p. ap (λ i. f i l) (omega arith) ∙ w.each l p ∙ ap (λ i. leaves_somewhere k i y l) (omega arith) }

      later : (d : ℕ) (z : NetEdge) → Tells (f (j + suc d)) k (j + suc d) z → Tells (f (j + 1 + d)) k (j + 1 + d) z
      later d z w = record { size = w.size; each = λ l p. ap (λ i. f i l) (omega arith) ∙ w.each l p ∙ ap (λ i. leaves_somewhere k i z l) (omega arith) }

  table-told : (v : ℕ → ℕ → ℕ → Bool) (k : ℕ) (autos : List NetAuto) → ((c d : ℕ) (a : NetAuto) (y : NetEdge) → slice_get autos c ≡ Some a → slice_get a.edges d ≡ Some y → Tells (v (k + c) d) (k + c) d y)
      → marks_told k (table_of v k autos) ≡ flat_map (leaves_of (system_of_net n) s e) (enumerate_from k (zip (map (automaton_in n) autos) (map auto_told autos)))
  table-told v k [] h = refl
  table-told v k (a ∷ autos) h =
      ap-two (λ xs zs. xs ++ zs)
      (rows-told (v k) k 0 a.edges (λ d y at. first d y (h 0 d a y refl at)))
      (table-told v (k + 1) autos (λ c d b y here at. later c d y (h (suc c) d b y here at)))
    where
      first : (d : ℕ) (y : NetEdge) → Tells (v (k + 0) d) (k + 0) d y → Tells (v k (0 + d)) k (0 + d) y
      first d y w = record {
        size = w.size;
        each = λ l p. ap-two (λ i j. v i j l) (omega arith) (omega arith) ∙ w.each l p ∙ ap-two (λ i j. leaves_somewhere i j y l) (omega arith) (omega arith);
      }

      later : (c d : ℕ) (y : NetEdge) → Tells (v (k + suc c) d) (k + suc c) d y → Tells (v (k + 1 + c) d) (k + 1 + c) d y
      later c d y w = record { size = w.size; each = λ l p. ap (λ i. v i d l) (omega arith) ∙ w.each l p ∙ ap (λ i. leaves_somewhere i d y l) (omega arith) }

  -- all reasons of this kind
  pub marks-told : (v : ℕ → ℕ → ℕ → Bool) → ((c d : ℕ) (a : NetAuto) (y : NetEdge) → slice_get n.autos c ≡ Some a → slice_get a.edges d ≡ Some y → Tells (v c d) c d y)
      → marks_told 0 (table_of v 0 n.autos) ≡ flat_map (leaves_of (system_of_net n) s e) (enumerate_from 0 (zip (map (automaton_in n) n.autos) (map auto_told n.autos)))
  marks-told v h = table-told v 0 n.autos (λ c d a y p q. same c d y (h c d a y p q))
    where
      same : (c d : ℕ) (y : NetEdge) → Tells (v c d) c d y → Tells (v (0 + c) d) (0 + c) d y
      same c d y w = record { size = w.size; each = λ l p. ap (λ i. v i d l) (omega arith) ∙ w.each l p ∙ ap (λ i. leaves_somewhere i d y l) (omega arith) }
