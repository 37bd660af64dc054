-- The choices by number, of the automata that take part, are those of a product over all automata.
use Rattle.std.proofs.Common.{◌≡◌, ℕ, suc, ◌+◌, ◌*◌, Bool, true, false, List, [], ◌∷◌, ◌++◌, length, map, filter, filter_map, zip, Option, Some, None, slice_get, refl, sym, ◌∙◌, ap, subst, if◌then◌else◌, arith}
use Rattle.std.specs.List.{cons_option, enumerate_from, range_with_len, AllByRecursion}
use Rattle.cif_system.specs.System.{Role, syncing}
use Rattle.cif_system.specs.Step.{is_for}
use Rattle.cif_system.specs.Choices.{product_of, product_by, number_if, stay, options}
use Rattle.cif_system.proofs.Lists.{map-length}
use Rattle.cif_net_expr.specs.Tree.{NetExpr}
use Rattle.cif_net_model.specs.Net.{NetEdge, NetAuto, Net}
use Rattle.cif_net_model.specs.Meaning.{edge_meant, automaton_in}
use Rattle.cif_net_model.specs.Listing.{syncs_on, monitors_event, is_edge_for, all_hold, fails, opens, linear_choice}
use Rattle.cif_lin.specs.Numbers.{nth}
use Rattle.cif_lin.specs.Pieces.{Piece, no_piece, joined, choice_of, Cell, edge_of, taking, closed, piece_of}
use Rattle.cif_lin.specs.Cells.{numbers_for, sync_options, count, choice_at, all_at}
use Rattle.cif_lin.proofs.NumberLaws.{product-by-number}
use Rattle.cif_lin.proofs.PieceLaws.{map-map, map-same, map-append, append-nil, list_if, piece, sums, sums-of_parties, product-made, choice-made}

-- ---- edges for an event

pub numbers-same : (n : Net) (p : Role) (e k : ℕ) (xs : List NetEdge) → filter_map (number_if (is_for p e)) (enumerate_from k (map (edge_meant n) xs)) ≡ numbers_for p e k xs
numbers-same n p e k [] = refl
numbers-same n p e k (x ∷ xs) = ap (cons_option (if is_edge_for p e x then Some (Some k) else None)) (numbers-same n p e (k + 1) xs) ∙ by (is_edge_for p e x)
  where
    by : (t : Bool) → cons_option (if t then Some (Some k) else None) (numbers_for p e (k + 1) xs) ≡ (if t then Some k ∷ numbers_for p e (k + 1) xs else numbers_for p e (k + 1) xs)
    by true = refl
    by false = refl

pub options-same : (n : Net) (e : ℕ) (a : NetAuto) → options e (automaton_in n a) ≡ (if syncs_on e a then sync_options e a else None ∷ [])
options-same n e a = ap (λ os. if syncs_on e a then os ++ stay (monitors_event e a) else None ∷ []) (numbers-same n syncing e 0 a.edges)

-- ---- what they add

module _ (autos : List NetAuto) (e k : ℕ) (a : NetAuto) (here : slice_get autos k ≡ Some a) where
  edge-here : (x : ℕ) → edge_of autos k x ≡ slice_get a.edges x
  edge-here x = ap (λ o. elim o [ None ↦ None | Some b ↦ slice_get b.edges x ]) here

  some-piece : (c : List (Option ℕ)) (x : ℕ) → piece_of autos (record { auto = k; options = c }) (Some x) ≡ piece e ((k, a), Some x)
  some-piece c x = ap (taking k x) (edge-here x) ∙ by (slice_get a.edges x)
    where
      by : (o : Option NetEdge) → taking k x o ≡ record { moves = record { auto = k; edge = Some x } ∷ []; tests = elim o [ None ↦ [] | Some y ↦ opens k y ]; edges = list_if o }
      by None = refl
      by (Some y) = refl

  some-pieces : (c : List (Option ℕ)) (p : Role) (j : ℕ) (xs : List NetEdge)
      → map (piece_of autos (record { auto = k; options = c })) (numbers_for p e j xs) ≡ map (λ o. piece e ((k, a), o)) (numbers_for p e j xs)
  some-pieces c p j [] = refl
  some-pieces c p j (x ∷ xs) = by (is_edge_for p e x) (some-pieces c p (j + 1) xs)
    where
      by : (t : Bool) → map (piece_of autos (record { auto = k; options = c })) (numbers_for p e (j + 1) xs) ≡ map (λ o. piece e ((k, a), o)) (numbers_for p e (j + 1) xs)
          → map (piece_of autos (record { auto = k; options = c })) (if t then Some j ∷ numbers_for p e (j + 1) xs else numbers_for p e (j + 1) xs)
          ≡ map (λ o. piece e ((k, a), o)) (if t then Some j ∷ numbers_for p e (j + 1) xs else numbers_for p e (j + 1) xs)
      by true r = ap (λ q. q ∷ map (piece_of autos (record { auto = k; options = c })) (numbers_for p e (j + 1) xs)) (some-piece c j) ∙ ap (λ qs. piece e ((k, a), Some j) ∷ qs) r
      by false r = r

  abbrev denied : NetEdge → NetExpr
  denied x = fails (all_hold (opens k x))

  closed-from : (j : ℕ) (xs : List NetEdge) (more : List (Option ℕ)) → ((i : ℕ) (y : NetEdge) → slice_get xs i ≡ Some y → slice_get a.edges (j + i) ≡ Some y)
      → closed autos k (numbers_for syncing e j xs ++ more) ≡ map denied (filter (is_edge_for syncing e) xs) ++ closed autos k more
  closed-from j [] more h = refl
  closed-from j (x ∷ xs) more h = by (is_edge_for syncing e x) (closed-from (j + 1) xs more (λ i y g. let m : j + suc i ≡ j + 1 + i = omega arith in subst (λ q. slice_get a.edges q ≡ Some y) m (h (suc i) y g)))
    where
      by : (t : Bool) → closed autos k (numbers_for syncing e (j + 1) xs ++ more) ≡ map denied (filter (is_edge_for syncing e) xs) ++ closed autos k more
          → closed autos k ((if t then Some j ∷ numbers_for syncing e (j + 1) xs else numbers_for syncing e (j + 1) xs) ++ more)
          ≡ map denied (if t then x ∷ filter (is_edge_for syncing e) xs else filter (is_edge_for syncing e) xs) ++ closed autos k more
      by true r =
          let m : j + 0 ≡ j = omega arith in
          let g : slice_get a.edges j ≡ Some x = subst (λ q. slice_get a.edges q ≡ Some x) m (h 0 x refl) in
          ap (λ o. elim o [ None ↦ closed autos k (numbers_for syncing e (j + 1) xs ++ more) | Some y ↦ denied y ∷ closed autos k (numbers_for syncing e (j + 1) xs ++ more) ]) (edge-here j ∙ g)
          ∙ ap (λ ts. denied x ∷ ts) r
      by false r = r

  closed-all : (b : Bool) → closed autos k (numbers_for syncing e 0 a.edges ++ stay b) ≡ map denied (filter (is_edge_for syncing e) a.edges)
  closed-all b =
      closed-from 0 a.edges (stay b) (λ i y g. let m : i ≡ 0 + i = omega arith in subst (λ q. slice_get a.edges q ≡ Some y) m g)
      ∙ by b ∙ append-nil (map denied (filter (is_edge_for syncing e) a.edges))
    where
      by : (b : Bool) → map denied (filter (is_edge_for syncing e) a.edges) ++ closed autos k (stay b) ≡ map denied (filter (is_edge_for syncing e) a.edges) ++ []
      by true = refl
      by false = refl

  -- an automaton that stays
  none-piece : syncs_on e a ≡ true → piece_of autos (record { auto = k; options = sync_options e a }) None ≡ piece e ((k, a), None)
  none-piece h =
      ap (λ ts. record { moves = record { auto = k; edge = None } ∷ []; tests = ts; edges = [] }) (closed-all (monitors_event e a))
      ∙ ap (λ (b : Bool). record { moves = list_if (if b then Some (record { auto = k; edge = None }) else None); tests = if b then map denied (filter (is_edge_for syncing e) a.edges) else []; edges = [] }) (sym h)

  stay-pieces : syncs_on e a ≡ true → (b : Bool) → map (piece_of autos (record { auto = k; options = sync_options e a })) (stay b) ≡ map (λ o. piece e ((k, a), o)) (stay b)
  stay-pieces h true = ap (λ q. q ∷ []) (none-piece h)
  stay-pieces h false = refl

  pub sync-pieces : syncs_on e a ≡ true → map (piece_of autos (record { auto = k; options = sync_options e a })) (sync_options e a) ≡ map (λ o. piece e ((k, a), o)) (sync_options e a)
  sync-pieces h =
      let c : Cell = record { auto = k; options = sync_options e a } in
      let b : Bool = monitors_event e a in
      let os : List (Option ℕ) = numbers_for syncing e 0 a.edges in
      map-append (piece_of autos c) os (stay b)
      ∙ ap (λ ps. ps ++ map (piece_of autos c) (stay b)) (some-pieces (sync_options e a) syncing 0 a.edges)
      ∙ ap (λ ps. map (λ o. piece e ((k, a), o)) os ++ ps) (stay-pieces h b)
      ∙ sym (map-append (λ o. piece e ((k, a), o)) os (stay b))

  pub edge-pieces : (p : Role) → map (piece_of autos (record { auto = k; options = numbers_for p e 0 a.edges })) (numbers_for p e 0 a.edges) ≡ map (λ o. piece e ((k, a), o)) (numbers_for p e 0 a.edges)
  edge-pieces p = some-pieces (numbers_for p e 0 a.edges) p 0 a.edges

-- ---- the choices of those that take part

abbrev pub pieces : List NetAuto → Cell → List Piece
pieces autos c = map (piece_of autos c) c.options

pub count-same : (autos : List NetAuto) (cs : List Cell) → product_by length (map (pieces autos) cs) ≡ count cs
count-same autos [] = refl
count-same autos (c ∷ cs) = ap (λ m. m * product_by length (map (pieces autos) cs)) (map-length (piece_of autos c) c.options) ∙ ap (λ m. length c.options * m) (count-same autos cs)

parties-same : (autos : List NetAuto) (e : ℕ) (f : ℕ × NetAuto → List (Option ℕ)) (p : ℕ × NetAuto → Bool) (cell : ℕ → Cell) (ks : List (ℕ × NetAuto))
    → AllByRecursion (λ k. p k ≡ true → pieces autos (cell k.0) ≡ map (λ o. piece e (k, o)) (f k)) ks
    → map (pieces autos) (map cell (map (λ k. k.0) (filter p ks))) ≡ map (λ k. map (λ o. piece e (k, o)) (f k)) (filter p ks)
parties-same autos e f p cell [] h = refl
parties-same autos e f p cell (k ∷ ks) h = by (p k) refl (parties-same autos e f p cell ks h.1)
  where
    by : (t : Bool) → p k ≡ t
        → map (pieces autos) (map cell (map (λ k. k.0) (filter p ks))) ≡ map (λ k. map (λ o. piece e (k, o)) (f k)) (filter p ks)
        → map (pieces autos) (map cell (map (λ k. k.0) (if t then k ∷ filter p ks else filter p ks))) ≡ map (λ k. map (λ o. piece e (k, o)) (f k)) (if t then k ∷ filter p ks else filter p ks)
    by true q r = ap (λ x. x ∷ map (pieces autos) (map cell (map (λ k. k.0) (filter p ks)))) (h.0 q) ∙ ap (λ xs. map (λ o. piece e (k, o)) (f k) ∷ xs) r
    by false q r = r

pub chosen : (n : Net) (e : ℕ) (f : ℕ × NetAuto → List (Option ℕ)) (p : ℕ × NetAuto → Bool) (cell : ℕ → Cell)
    → AllByRecursion (λ k. p k ≡ false → map (λ o. piece e (k, o)) (f k) ≡ no_piece ∷ []) (enumerate_from 0 n.autos)
    → AllByRecursion (λ k. p k ≡ true → pieces n.autos (cell k.0) ≡ map (λ o. piece e (k, o)) (f k)) (enumerate_from 0 n.autos)
    → all_at n.autos e (map cell (map (λ k. k.0) (filter p (enumerate_from 0 n.autos)))) ≡ map (λ ch. linear_choice n (e, ch)) (product_of (map f (enumerate_from 0 n.autos)))
chosen n e f p cell out same =
    let keys : List (ℕ × NetAuto) = enumerate_from 0 n.autos in
    let g : ℕ × NetAuto → List Piece = λ k. map (λ o. piece e (k, o)) (f k) in
    let cells : List Cell = map cell (map (λ k. k.0) (filter p keys)) in
    let pss : List (List Piece) = map (pieces n.autos) cells in
    ap (λ m. map (choice_at n.autos e cells) (range_with_len 0 m)) (sym (count-same n.autos cells))
    ∙ sym (map-map (λ ps. choice_of e (joined ps)) (nth pss) (range_with_len 0 (product_by length pss)))
    ∙ ap (map (λ ps. choice_of e (joined ps))) (product-by-number pss)
    ∙ sym (map-map (choice_of e) joined (product_of pss))
    ∙ ap (λ q. map (choice_of e) (sums q)) (parties-same n.autos e f p cell keys same)
    ∙ ap (map (choice_of e)) (sym (sums-of_parties g p keys out))
    ∙ ap (λ q. map (choice_of e) (map joined q)) (sym (product-made f (piece e) keys))
    ∙ ap (map (choice_of e)) (map-map joined (λ ch. map (piece e) (zip keys ch)) (product_of (map f keys)))
    ∙ map-map (choice_of e) (λ ch. joined (map (piece e) (zip keys ch))) (product_of (map f keys))
    ∙ sym (map-same (λ ch. linear_choice n (e, ch)) (λ ch. choice_of e (joined (map (piece e) (zip keys ch)))) (choice-made n e) (product_of (map f keys)))
