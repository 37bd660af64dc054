-- A net in which algebraic variables are replaced is told of as the net.
use Rattle.std.proofs.Common.{◌≡◌, ℕ, ◌+◌, ℤ, pos, Bool, true, List, [], ◌∷◌, ◌++◌, length, map, Option, Some, None, refl, sym, ◌∙◌, ap, length-append}
use Rattle.std.specs.Prelude.{option_map, option_to_list, if◌then◌else◌}
use Rattle.std.specs.List.{zip}
use Rattle.grammar.specs.Pieces.{Text}
use Rattle.cif_system.specs.System.{State, System, syncing}
use Rattle.cif_net_expr.specs.Tree.{NetExpr, net_expr, NetForm, n_truth, n_number, n_loc, n_var, n_input, n_alg, n_received, n_minus, n_plus, n_not, n_abs, n_min, n_max, n_sum, n_product, n_compare, n_and, n_or, n_implies, n_iff, n_if, NetUpdate, net_set, net_choose, NetUpdates, no_net_updates, net_updates, NetUpdateBranches, no_net_update_branches, net_update_branches}
use Rattle.cif_net_model.specs.Net.{NetAuto, NetEdge, NetExclusion, NetInvariant, Net}
use Rattle.cif_net_model.specs.Exprs.{expr_at, placed, writes_all, writes_by, writes_in}
use Rattle.cif_net_model.specs.Facts.{is_net}
use Rattle.cif_net_model.specs.Inline.{replaced, form_replaced, updates_replaced, update_replaced, update_branches_replaced, edge_replaced, auto_replaced, net_replaced, Unfolds}
use Rattle.cif_net_model.specs.Meaning.{value_in}
use Rattle.cif_net_model.specs.Value.{is_true}
use Rattle.cif_net_model.proofs.ValueLaws.{ap-two}
use Rattle.cif_net_laws.proofs.Lists.{map-after}
use Rattle.cif_net_laws.proofs.Means.{system-same}
use Rattle.cif_net_laws.proofs.Settled.{Settled, settled}
use Rattle.cif_net_laws.proofs.Written.{targets-same}
use Rattle.cif_why_model.specs.Told.{Assigned, AutomatonTold}
use Rattle.cif_sim_names.specs.Nets.{event_path_in, variable_path_in, net_numbered_all, net_numbered_by, net_numbered_in, paths_of_edge, value_told, net_edge_told, told_of_net}

-- ---- places

module _ (by : ℕ → NetExpr) where
  placed-at : (at : ℕ) (e : NetExpr) → expr_at (placed at e) ≡ at
  placed-at at (net_expr f k) = refl

  form-at : (at : ℕ) (f : NetForm) → expr_at (form_replaced by at f) ≡ at
  form-at at (n_truth b) = refl
  form-at at (n_number z) = refl
  form-at at (n_loc a k) = refl
  form-at at (n_var k) = refl
  form-at at (n_input k) = refl
  form-at at (n_alg k) = placed-at at (by k)
  form-at at n_received = refl
  form-at at (n_minus e) = refl
  form-at at (n_plus e) = refl
  form-at at (n_not e) = refl
  form-at at (n_abs e) = refl
  form-at at (n_min a b) = refl
  form-at at (n_max a b) = refl
  form-at at (n_sum e es) = refl
  form-at at (n_product e es) = refl
  form-at at (n_compare a op b) = refl
  form-at at (n_and es) = refl
  form-at at (n_or es) = refl
  form-at at (n_implies a b) = refl
  form-at at (n_iff a b) = refl
  form-at at (n_if bs e) = refl

  replaced-at : (e : NetExpr) → expr_at (replaced by e) ≡ expr_at e
  replaced-at (net_expr f at) = form-at at f

  -- ---- as many right sides

  mutual
    count-all : (us : NetUpdates) → length (writes_all (updates_replaced by us)) ≡ length (writes_all us)
    count-all no_net_updates = refl
    count-all (net_updates u us) =
        length-append (writes_by (update_replaced by u)) (writes_all (updates_replaced by us))
        ∙ ap-two (λ j k. j + k) (count-by u) (count-all us) ∙ sym (length-append (writes_by u) (writes_all us))

    count-by : (u : NetUpdate) → length (writes_by (update_replaced by u)) ≡ length (writes_by u)
    count-by (net_set v e) = refl
    count-by (net_choose bs us) =
        length-append (writes_in (update_branches_replaced by bs)) (writes_all (updates_replaced by us))
        ∙ ap-two (λ j k. j + k) (count-in bs) (count-all us) ∙ sym (length-append (writes_in bs) (writes_all us))

    count-in : (bs : NetUpdateBranches) → length (writes_in (update_branches_replaced by bs)) ≡ length (writes_in bs)
    count-in no_net_update_branches = refl
    count-in (net_update_branches c us bs) =
        length-append (writes_all (updates_replaced by us)) (writes_in (update_branches_replaced by bs))
        ∙ ap-two (λ j k. j + k) (count-all us) (count-in bs) ∙ sym (length-append (writes_all us) (writes_in bs))

  -- ---- paths

  sent-count : (o : Option NetExpr) → length (option_to_list (option_map (replaced by) o)) ≡ length (option_to_list o)
  sent-count None = refl
  sent-count (Some e) = refl

  sent-path : (path : Text) (o : Option NetExpr) → map (λ (e : NetExpr). path) (option_to_list (option_map (replaced by) o)) ≡ map (λ (e : NetExpr). path) (option_to_list o)
  sent-path path None = refl
  sent-path path (Some e) = refl

  paths-same : (n : Net) (x : NetEdge) → paths_of_edge n (edge_replaced by x) ≡ paths_of_edge n x
  paths-same n x = ap-two (λ vs ws. vs ++ ws) (sent-path (event_path_in n x.event) x.sent) (ap (map (variable_path_in n)) (targets-same by x.updates))

-- ---- values

-- the value that the first edge of the first automaton assigns first
abbrev first_assigned : State → ℤ → System → ℤ
first_assigned t r m = elim m.automata [ [] ↦ pos 0 | a ∷ as' ↦ elim a.edges [ [] ↦ pos 0 | x ∷ xs ↦ elim (x.assigned t r) [ [] ↦ pos 0 | w ∷ ws ↦ w.1 ] ] ]

module _ (n p : Net) (s : Settled n p) where
  abbrev q : Net
  q = net_replaced s.by n

  -- of an expression, by the net of one edge that assigns it
  module _ (e : NetExpr) where
    abbrev alone : Net
    alone = record n {
      autos = record {
        path = [];
        locs = [];
        first = 0;
        alphabet = [];
        monitors = [];
        edges =
            record { event = 0; role = syncing; from = 0; to = 0; guard = e; sent = None; updates = net_updates (net_set 0 e) no_net_updates; places = [] } ∷ [];
      } ∷ [];
    }

    abbrev alone-settled : Settled alone (net_replaced s.by alone)
    alone-settled = record { by = s.by; each = s.each; other = s.other; rank = s.rank; bounded = s.bounded; falls = s.falls; whole = refl }

    value-same : (t : State) (r : ℤ) → value_in q t r (replaced s.by e) ≡ value_in n t r e
    value-same t r = ap (first_assigned t r) (system-same alone (net_replaced s.by alone) alone-settled)

  module _ (t : State) (r : ℤ) where
    if-same : {A : Type 0} {b c : Bool} {x y v w : A} → b ≡ c → x ≡ y → v ≡ w → (if b then x else v) ≡ (if c then y else w)
    if-same {c = c} {x = x} {y = y} {v = v} h k l = ap (λ o. if o then x else v) h ∙ ap (λ o. if c then o else v) k ∙ ap (λ o. if c then y else o) l

    mutual
      numbered-all : (us : NetUpdates) (k : ℕ) → net_numbered_all q t r k (updates_replaced s.by us) ≡ net_numbered_all n t r k us
      numbered-all no_net_updates k = refl
      numbered-all (net_updates u us) k =
          ap-two (λ vs ws. vs ++ ws) (numbered-by u k)
          (ap (λ j. net_numbered_all q t r (k + j) (updates_replaced s.by us)) (count-by s.by u) ∙ numbered-all us (k + length (writes_by u)))

      numbered-by : (u : NetUpdate) (k : ℕ) → net_numbered_by q t r k (update_replaced s.by u) ≡ net_numbered_by n t r k u
      numbered-by (net_set v e) k = ap (λ z. record { number = k; variable = v; value = z } ∷ []) (value-same e t r)
      numbered-by (net_choose bs us) k =
          numbered-in bs k _ _ (ap (λ j. net_numbered_all q t r (k + j) (updates_replaced s.by us)) (count-in s.by bs) ∙ numbered-all us (k + length (writes_in bs)))

      numbered-in : (bs : NetUpdateBranches) (k : ℕ) (vs ws : List Assigned) → vs ≡ ws → net_numbered_in q t r k vs (update_branches_replaced s.by bs) ≡ net_numbered_in n t r k ws bs
      numbered-in no_net_update_branches k vs ws h = h
      numbered-in (net_update_branches c us bs) k vs ws h =
          if-same (ap is_true (value-same c t r)) (numbered-all us k)
          (ap (λ j. net_numbered_in q t r (k + j) vs (update_branches_replaced s.by bs)) (count-all s.by us) ∙ numbered-in bs (k + length (writes_all us)) vs ws h)

  -- ---- the net

  edge-same : (x : NetEdge) → net_edge_told q (edge_replaced s.by x) ≡ net_edge_told n x
  edge-same x = λ i. record {
    values = map value_told (zip x.places (paths-same s.by n x i));
    assigned = λ t r. (ap (λ k. net_numbered_all q t r k (updates_replaced s.by x.updates)) (sent-count s.by x.sent)
        ∙ numbered-all t r x.updates (length (option_to_list x.sent))) i;
  }

  abbrev auto_told : Net → NetAuto → AutomatonTold
  auto_told m a = record { path = a.path; edges = map (net_edge_told m) a.edges }

  auto-same : (a : NetAuto) → auto_told q (auto_replaced s.by a) ≡ auto_told n a
  auto-same a = ap (λ xs. record { path = a.path; edges = xs }) (map-after (edge_replaced s.by) (net_edge_told q) (net_edge_told n) a.edges (λ x m. edge-same x))

  told-same : told_of_net q ≡ told_of_net n
  told-same = λ i. record {
    automata = map-after (auto_replaced s.by) (auto_told q) (auto_told n) n.autos (λ a m. auto-same a) i;
    exclusions = map-after (λ (x : NetExclusion). record x { pred = replaced s.by x.pred }) (λ (x : NetExclusion). expr_at x.pred) (λ (x : NetExclusion). expr_at x.pred) n.exclusions (λ x m. replaced-at s.by x.pred) i;
    invariants = map-after (λ (x : NetInvariant). record x { pred = replaced s.by x.pred }) (λ (x : NetInvariant). x.at) (λ (x : NetInvariant). x.at) n.invariants (λ x m. refl) i;
  }

pub told-unfolded : (n p : Net) → is_net n ≡ true → Unfolds n p → told_of_net p ≡ told_of_net n
told-unfolded n p net u = let s = settled n p net u in ap told_of_net s.whole ∙ told-same n p s
