-- A choice that is put together from its number is the one that the number stands for.
use Rattle.std.proofs.Common.{◌≡◌, ℕ, zero, suc, ◌+◌, ◌*◌, ◌/◌, ◌%◌, ◌<◌, false, nat_eq, List, [], ◌∷◌, ◌++◌, length, map, Option, Some, None, option_map, slice_get, refl, sym, ◌∙◌, ap, append_assoc, if◌then◌else◌, arith}
use Rattle.std.proofs.lemmas.Bool.Decides.{nat_tests}
use Rattle.std.proofs.lemmas.Nat.{div-mul-add}
use Rattle.cif_system.specs.Choices.{product_by}
use Rattle.cif_net_expr.specs.Tree as t
use Rattle.cif_net_expr.specs.View.{view, view_update, view_updates, exprs_of as seen_exprs}
use Rattle.cif_net_expr.specs.declared.updates.NetUpdate.{NetUpdate}
use Rattle.cif_net_expr.specs.declared.expressions.NetExpr.{NetExpr, roll-NetExpr}
use Rattle.cif_net_expr.specs.declared.expressions.NetForm.TheVariants as form
use Rattle.cif_net_expr.proofs.ViewLemmas.{view-expr, view_form-Not, view_form-And, view_form-Loc}
use Rattle.cif_net_model.specs.Net.{NetEdge, NetAuto}
use Rattle.cif_net_model.specs.Listing.{NetMove, exprs_of, all_hold, fails, both, sent_by, writes_of}
use Rattle.cif_lin.specs.Numbers.{put, nth}
use Rattle.cif_net.specs.declared.automata.NetEdge as n
use Rattle.cif_net.specs.declared.listing.Move.{Move}
use Rattle.cif_net.specs.View.{move_tree, edge_tree}
use Rattle.cif_lin.specs.declared.draft.Draft.{Draft}
use Rattle.cif_lin.specs.declared.party.Party.{Party}
use Rattle.cif_lin.specs.Parties.{cell_tree}
use Rattle.cif_lin.specs.Pieces.{Piece, no_piece, beside, joined, Cell, edge_of, taking, closed, piece_of}
use Rattle.cif_lin.specs.Cells.{count, choice_at}
use Rattle.cif_lin.specs.Drafts.{Made, first_sent, nothing_made, with_edges, with_piece, with_pieces, with_sent, with_writes, draft_tree, quotient, remainder, with_option, with_cells, choice_from}
use Rattle.cif_lin.proofs.PieceLaws.{map-append}
use Rattle.cif_lin.proofs.CellLaws.{pieces, count-same}

-- ---- what code makes

pub located : (a k : ℕ) → view (roll-NetExpr (record { form = form.Loc a k; at = 0 })) ≡ t.net_expr (t.n_loc a k) 0
located a k = view-expr (form.Loc a k) 0 ∙ ap (λ f. t.net_expr f 0) (view_form-Loc a k)

pub denied : (e : NetExpr) → view (roll-NetExpr (record { form = form.Not e; at = 0 })) ≡ fails (view e)
denied e = view-expr (form.Not e) 0 ∙ ap (λ f. t.net_expr f 0) (view_form-Not e)

same-exprs : (es : List t.NetExpr) → seen_exprs es ≡ exprs_of es
same-exprs [] = refl
same-exprs (e ∷ es) = ap (λ xs. t.net_exprs e xs) (same-exprs es)

pub conjoined : (es : List NetExpr) → view (roll-NetExpr (record { form = form.And es; at = 0 })) ≡ all_hold (map view es)
conjoined es = view-expr (form.And es) 0 ∙ ap (λ f. t.net_expr f 0) (view_form-And es) ∙ ap (λ xs. t.net_expr (t.n_and xs) 0) (same-exprs (map view es))

-- ---- parts one after the other

sent-append : (xs ys : List NetEdge) → sent_by (xs ++ ys) ≡ first_sent (sent_by xs) (sent_by ys)
sent-append [] ys = refl
sent-append (x ∷ xs) ys = by x.sent (sent-append xs ys)
  where
    by : (o : Option t.NetExpr) → sent_by (xs ++ ys) ≡ first_sent (sent_by xs) (sent_by ys)
        → elim o [ Some e ↦ Some e | None ↦ sent_by (xs ++ ys) ] ≡ first_sent (elim o [ Some e ↦ Some e | None ↦ sent_by xs ]) (sent_by ys)
    by (Some e) r = refl
    by None r = r

first-assoc : (a b c : Option t.NetExpr) → first_sent (first_sent a b) c ≡ first_sent a (first_sent b c)
first-assoc None b c = refl
first-assoc (Some a) b c = refl

both-assoc : (us vs ws : t.NetUpdates) → both (both us vs) ws ≡ both us (both vs ws)
both-assoc t.no_net_updates vs ws = refl
both-assoc (t.net_updates u us) vs ws = ap (λ xs. t.net_updates u xs) (both-assoc us vs ws)

writes-append : (xs ys : List NetEdge) → writes_of (xs ++ ys) ≡ both (writes_of xs) (writes_of ys)
writes-append [] ys = refl
writes-append (x ∷ xs) ys = ap (both x.updates) (writes-append xs ys) ∙ sym (both-assoc x.updates (writes_of xs) (writes_of ys))

append-nil : {A : Type 0} (xs : List A) → xs ++ [] ≡ xs
append-nil [] = refl
append-nil (x ∷ xs) = ap (λ ys. x ∷ ys) (append-nil xs)

both-nil : (us : t.NetUpdates) → both us t.no_net_updates ≡ us
both-nil t.no_net_updates = refl
both-nil (t.net_updates u us) = ap (λ xs. t.net_updates u xs) (both-nil us)

first-nil : (o : Option t.NetExpr) → first_sent o None ≡ o
first-nil None = refl
first-nil (Some e) = refl

made : List NetMove → List t.NetExpr → Option t.NetExpr → t.NetUpdates → Made
made ms ts o us = record { moves = ms; tests = ts; sent = o; writes = us }

piece-after : (m : Made) (p q : Piece) → with_piece (with_piece m p) q ≡ with_piece m (beside p q)
unfolding made
piece-after m p q =
    let o : Option t.NetExpr = first_sent (first_sent m.sent (sent_by p.edges)) (sent_by q.edges) in
    let w : t.NetUpdates = both (both m.writes (writes_of p.edges)) (writes_of q.edges) in
    ap (λ ms. made ms ((m.tests ++ p.tests) ++ q.tests) o w) (append_assoc m.moves p.moves q.moves)
    ∙ ap (λ ts. made (m.moves ++ (p.moves ++ q.moves)) ts o w) (append_assoc m.tests p.tests q.tests)
    ∙ ap (λ s. made (m.moves ++ (p.moves ++ q.moves)) (m.tests ++ (p.tests ++ q.tests)) s w) (first-assoc m.sent (sent_by p.edges) (sent_by q.edges) ∙ ap (first_sent m.sent) (sym (sent-append p.edges q.edges)))
    ∙ ap (λ us. made (m.moves ++ (p.moves ++ q.moves)) (m.tests ++ (p.tests ++ q.tests)) (first_sent m.sent (sent_by (p.edges ++ q.edges))) us) (both-assoc m.writes (writes_of p.edges) (writes_of q.edges) ∙ ap (both m.writes) (sym (writes-append p.edges q.edges)))

nothing-after : (m : Made) → m ≡ with_piece m no_piece
unfolding made
nothing-after m =
    ap (λ ms. made ms m.tests m.sent m.writes) (sym (append-nil m.moves))
    ∙ ap (λ ts. made (m.moves ++ []) ts m.sent m.writes) (sym (append-nil m.tests))
    ∙ ap (λ o. made (m.moves ++ []) (m.tests ++ []) o m.writes) (sym (first-nil m.sent))
    ∙ ap (λ us. made (m.moves ++ []) (m.tests ++ []) (first_sent m.sent None) us) (sym (both-nil m.writes))

together : (m : Made) (ps : List Piece) → with_pieces m ps ≡ with_piece m (joined ps)
together m [] = nothing-after m
together m (p ∷ ps) = together (with_piece m p) ps ∙ piece-after m p (joined ps)

-- ---- by number

whole : (a b : ℕ) → 0 < a → quotient (a * b) a ≡ b
whole zero b h = absurd (omega arith)
whole (suc a) b h =
    let z : nat_eq (suc a) 0 ≡ false = grind (arith, nat_tests) in
    let c : suc a * b ≡ b * suc a + 0 = omega arith in
    ap (λ t. if t then 0 else (suc a * b) / suc a) z ∙ ap (λ n. n / suc a) c ∙ div-mul-add b (suc a) 0 (omega arith)

parted : (a b : ℕ) → 0 < b → quotient a b ≡ a / b
parted a zero h = absurd (omega arith)
parted a (suc b) h = let z : nat_eq (suc b) 0 ≡ false = grind (arith, nat_tests) in ap (λ t. if t then 0 else a / suc b) z

left-over : (a b : ℕ) → 0 < b → remainder a b ≡ a % b
left-over a zero h = absurd (omega arith)
left-over a (suc b) h = let z : nat_eq (suc b) 0 ≡ false = grind (arith, nat_tests) in ap (λ t. if t then 0 else a % suc b) z

put-made : (autos : List NetAuto) (m : Made) (c : Cell) (q : ℕ) (more : List Piece) → with_pieces m (put (pieces autos c) q more) ≡ with_pieces (with_option autos m c q) more
put-made autos m c q more = ap (λ o. with_pieces m (elim o [ None ↦ more | Some x ↦ x ∷ more ])) (get-map c.options q) ∙ by (slice_get c.options q)
  where
    get-map : (os : List (Option ℕ)) (k : ℕ) → slice_get (map (piece_of autos c) os) k ≡ option_map (piece_of autos c) (slice_get os k)
    get-map [] k = refl
    get-map (o ∷ os) zero = refl
    get-map (o ∷ os) (suc k) = get-map os k

    by : (o : Option (Option ℕ)) → with_pieces m (elim (option_map (piece_of autos c) o) [ None ↦ more | Some x ↦ x ∷ more ]) ≡ with_pieces (elim o [ None ↦ m | Some x ↦ with_piece m (piece_of autos c x) ]) more
    by None = refl
    by (Some o) = refl

positive : (a b t : ℕ) → t < a * b → (0 < a) × (0 < b)
positive zero b t h = absurd (omega arith)
positive (suc a) zero t h = let z : suc a * 0 ≡ 0 = omega arith in absurd (omega arith)
positive (suc a) (suc b) t h = (omega arith, omega arith)

by-number : (autos : List NetAuto) (cs : List Cell) (m : Made) (n : ℕ) → n < count cs → with_cells autos cs m (count cs) n ≡ with_pieces m (nth (map (pieces autos) cs) n)
by-number autos [] m n h = refl
by-number autos (c ∷ cs) m n h =
    let r : ℕ = count cs in
    let both_positive : (0 < length c.options) × (0 < r) = positive (length c.options) r n h in
    let lp : 0 < length c.options = both_positive.0 in
    let rp : 0 < r = both_positive.1 in
    let inside : n % r < r = omega arith in
    let s : product_by length (map (pieces autos) cs) ≡ r = count-same autos cs in
    ap (λ below. with_cells autos cs (with_option autos m c (quotient n below)) below (remainder n below)) (whole (length c.options) r lp)
    ∙ ap (λ q. with_cells autos cs (with_option autos m c q) r (remainder n r)) (parted n r rp)
    ∙ ap (λ k. with_cells autos cs (with_option autos m c (n / r)) r k) (left-over n r rp)
    ∙ by-number autos cs (with_option autos m c (n / r)) (n % r) inside
    ∙ sym (put-made autos m c (n / r) (nth (map (pieces autos) cs) (n % r)))
    ∙ ap (λ k. with_pieces m (put (pieces autos c) (n / k) (nth (map (pieces autos) cs) (n % k)))) (sym s)

pub choice_by_number : (autos : List NetAuto) (e : ℕ) (cs : List Cell) (n : ℕ) → n < count cs → choice_from e (with_cells autos cs nothing_made (count cs) n) ≡ choice_at autos e cs n
choice_by_number autos e cs n h = ap (choice_from e) (by-number autos cs nothing_made n h ∙ together nothing_made (nth (map (pieces autos) cs) n))

pub choice-numbered : (autos : List NetAuto) (e : ℕ) (cs : List Cell) (k n : ℕ) (m : Made) → k ≡ count cs → n < k → m ≡ with_cells autos cs nothing_made k n → choice_from e m ≡ choice_at autos e cs n
choice-numbered autos e cs k n m g h d =
    let l : n < count cs = omega arith in
    ap (choice_from e) d ∙ ap (λ j. choice_from e (with_cells autos cs nothing_made j n)) g ∙ choice_by_number autos e cs n l

-- ---- one more automaton

updates-append : (us vs : List NetUpdate) → view_updates (us ++ vs) ≡ both (view_updates us) (view_updates vs)
updates-append [] vs = refl
updates-append (u ∷ us) vs = ap (λ ws. t.net_updates (view_update u) ws) (updates-append us vs)

sent-alone : (x : NetEdge) → x.sent ≡ sent_by (x ∷ [])
sent-alone x = by x.sent
  where
    by : (o : Option t.NetExpr) → o ≡ elim o [ Some e ↦ Some e | None ↦ None ]
    by (Some e) = refl
    by None = refl

-- what an edge sends and assigns
pub edge-added : (d : Made) (s : Draft) (x : n.NetEdge) (ws more : List NetUpdate) → draft_tree s ≡ with_sent d (option_map view x.sent) → ws ≡ s.writes ++ more → view_updates more ≡ view_updates x.updates
    → draft_tree (record { moves = s.moves; tests = s.tests; sent = s.sent; writes = ws }) ≡ with_edges d (edge_tree x ∷ [])
unfolding made
edge-added d s x ws more h e g =
    let us : t.NetUpdates = view_updates x.updates in
    let w : view_updates ws ≡ both (view_updates s.writes) us = ap view_updates e ∙ updates-append s.writes more ∙ ap (both (view_updates s.writes)) g in
    ap (made (map move_tree s.moves) (map view s.tests) (option_map view s.sent)) w
    ∙ ap (λ m. with_writes m us) h
    ∙ ap (λ o. made d.moves d.tests (first_sent d.sent o) (both d.writes us)) (sent-alone (edge_tree x))
    ∙ ap (λ vs. made d.moves d.tests (first_sent d.sent (sent_by (edge_tree x ∷ []))) (both d.writes vs)) (sym (both-nil us))

-- an automaton that adds no edge
quiet : (d : Draft) (ms : List NetMove) (ts : List t.NetExpr) → made ms ts (option_map view d.sent) (view_updates d.writes) ≡ made ms ts (first_sent (option_map view d.sent) None) (both (view_updates d.writes) t.no_net_updates)
unfolding made
quiet d ms ts =
    ap (λ o. made ms ts o (view_updates d.writes)) (sym (first-nil (option_map view d.sent)))
    ∙ ap (λ us. made ms ts (first_sent (option_map view d.sent) None) us) (sym (both-nil (view_updates d.writes)))

pub staying-added : (autos : List NetAuto) (d : Draft) (p : Party) (ms : List Move) (ts more : List NetExpr) → ms ≡ d.moves ++ record { auto = p.number; edge = None } ∷ [] → ts ≡ d.tests ++ more → map view more ≡ closed autos p.number p.options
    → draft_tree (record { moves = ms; tests = ts; sent = d.sent; writes = d.writes }) ≡ with_piece (draft_tree d) (piece_of autos (cell_tree p) None)
unfolding made
staying-added autos d p ms ts more e f g =
    let one : List Move = record { auto = p.number; edge = None } ∷ [] in
    let a : map move_tree ms ≡ map move_tree d.moves ++ map move_tree one = ap (map move_tree) e ∙ map-append move_tree d.moves one in
    let b : map view ts ≡ map view d.tests ++ closed autos p.number p.options = ap (map view) f ∙ map-append view d.tests more ∙ ap (λ us. map view d.tests ++ us) g in
    ap (λ xs. made xs (map view ts) (option_map view d.sent) (view_updates d.writes)) a
    ∙ ap (λ xs. made (map move_tree d.moves ++ map move_tree one) xs (option_map view d.sent) (view_updates d.writes)) b
    ∙ quiet d (map move_tree d.moves ++ map move_tree one) (map view d.tests ++ closed autos p.number p.options)

pub missing-added : (autos : List NetAuto) (d : Draft) (p : Party) (x : ℕ) (ms : List Move) → ms ≡ d.moves ++ record { auto = p.number; edge = Some x } ∷ [] → None ≡ edge_of autos p.number x
    → draft_tree (record { moves = ms; tests = d.tests; sent = d.sent; writes = d.writes }) ≡ with_piece (draft_tree d) (piece_of autos (cell_tree p) (Some x))
unfolding made
missing-added autos d p x ms e g =
    let one : List Move = record { auto = p.number; edge = Some x } ∷ [] in
    let a : map move_tree ms ≡ map move_tree d.moves ++ map move_tree one = ap (map move_tree) e ∙ map-append move_tree d.moves one in
    ap (λ xs. made xs (map view d.tests) (option_map view d.sent) (view_updates d.writes)) a
    ∙ ap (λ xs. made (map move_tree d.moves ++ map move_tree one) xs (option_map view d.sent) (view_updates d.writes)) (sym (append-nil (map view d.tests)))
    ∙ quiet d (map move_tree d.moves ++ map move_tree one) (map view d.tests ++ [])
    ∙ ap (λ o. with_piece (draft_tree d) (taking p.number x o)) g
