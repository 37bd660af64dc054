-- The statements before the text of an expression end, and leave in its own variables what they are to hold.
use Rattle.std.proofs.Common.{◌≡◌, ℕ, ◌+◌, ◌<◌, ◌≤◌, ℤ, pos, Bool, true, false, ◌++◌, length, Ok, refl, sym, ap, subst, ◌∙◌, if◌then◌else◌, arith}
use Rattle.std.specs.Prelude.{List, slice_set, slice_index_or}
use Rattle.std.specs.List.{AllByRecursion}
use Rattle.cif_net_expr.specs.Tree.{NetExpr, net_expr, NetForm, n_truth, n_number, n_loc, n_var, n_input, n_alg, n_received, n_minus, n_plus, n_not, n_abs, n_min, n_max, n_sum, n_product, n_compare, n_and, n_or, n_implies, n_iff, n_if, NetExprs, no_net_exprs, net_exprs, NetTerms, no_net_terms, net_terms, NetFactors, no_net_factors, net_factors, NetBranches, no_net_branches, net_branches}
use Rattle.cif_net_model.specs.Value as v
use Rattle.cif_net_model.specs.Reads.{Read, names_in, form_names, term_names, factor_names, list_names, branch_names}
use Rattle.cif_net_model.proofs.ValueLaws.{all-parts}
use Rattle.st_ast.specs.Tree.{Expr, Stms, assign, no_stms, stms, other, append}
use Rattle.st_ast.specs.Values.{Memory, is_true, with_value, value_of}
use Rattle.st_ast.specs.Exec.{Outcome, Ended, Faulted, and_then, exec, exec_one, exec_other, exec_choice}
use Rattle.st_ast.proofs.Runs.{append_runs, assign_runs}
use Rattle.st_ast.specs.declared.tree.StVar.{StVar}
use Rattle.plc_expr.specs.Texts.{Naming, temps, form_temps, terms_temps, factors_temps, list_temps, branches_temps, text, branches_text, case_text, before, form_before, terms_before, factors_before, list_before, branches_before}
use Rattle.cif_net_model.specs.Safe.{Setting, value_at, IsSafe, IsSafeForm, AreSafeTerms, AreSafeFactors, AreSafeTruths, AreSafeBranches}
use Rattle.plc_expr.specs.Held.{held_at, IsRead, Reads, Held, HeldForm, HeldTerms, HeldFactors, HeldList, HeldBranches, OwnPlaces, IsBeside, Prepares}
use Rattle.plc_expr.proofs.Numbers.{truth-is}
use Rattle.plc_expr.proofs.Values.{text-value}
use Rattle.plc_expr.proofs.Memories.{set-read, beside-self, beside-wider, beside-then, set-beside, held-same, branches-same, same-before, same-after}

append-assoc : (a b c : Stms) → append (append a b) c ≡ append a (append b c)
append-assoc no_stms b c = refl
append-assoc (stms s a) b c = ap (stms s) (append-assoc a b c)

module _ (vars : List StVar) (w : Naming) (x : Setting) (base low count : ℕ) (own : OwnPlaces vars w base low count) (start : Memory) (room : base + low + count ≤ length start) where
  -- a memory from which the statements may run
  abbrev pub From : Memory → Type 0
  From m = IsBeside (base + low) count start m

  -- The statements end, change the own variables from the k-th on alone, c of them, and then H holds.
  pub record Ran (ss : Stms) (k c : ℕ) (H : Memory → Type 0) (turns : ℕ) (m : Memory) : Type 0 where
    pub after : Memory
    pub runs : exec vars ss turns m ≡ Ended turns after
    pub beside : IsBeside (base + k) c m after
    pub held : H after

  abbrev pub Runs : Stms → ℕ → ℕ → (Memory → Type 0) → Type 0
  Runs ss k c H = (turns : ℕ) (m : Memory) → From m → Ran ss k c H turns m

  goes-on : (k c : ℕ) (m o : Memory) → low ≤ k → k + c ≤ low + count → IsBeside (base + k) c m o → From m → From o
  goes-on k c m o lo l h g = beside-then (base + low) count start m o g (beside-wider (base + k) c (base + low) count m o (omega arith) (omega arith) h)

  nothing : (k : ℕ) → Runs no_stms k 0 (λ o. Unit {0})
  nothing k turns m from = record { after = m; runs = refl; beside = beside-self (base + k) 0 m; held = tt }

  -- statements that leave H, and then others that leave G and don't touch what H is about
  pub then-runs : (a b : Stms) (k c l d f e : ℕ) (H G : Memory → Type 0) → low ≤ f → f ≤ k → k + c ≤ f + e → f ≤ l → l + d ≤ f + e → f + e ≤ low + count
      → ((m o : Memory) → IsBeside (base + l) d m o → H m → H o) → Runs a k c H → ((turns : ℕ) (m : Memory) → From m → H m → Ran b l d G turns m)
      → Runs (append a b) f e (λ o. H o × G o)
  then-runs a b k c l d f e H G lo lk hk ll hl top keeps p q turns m from =
      let one = p turns m from in
      let two = q turns one.after (goes-on k c m one.after (omega arith) (omega arith) one.beside from) one.held in
      record {
        after = two.after;
        runs = append_runs vars a b turns turns m one.after one.runs ∙ two.runs;
        beside = beside-then (base + f) e m one.after two.after
            (beside-wider (base + k) c (base + f) e m one.after (omega arith) (omega arith) one.beside)
            (beside-wider (base + l) d (base + f) e one.after two.after (omega arith) (omega arith) two.beside);
        held = (keeps one.after two.after two.beside one.held, two.held);
      }

  -- grouped otherwise, and with another name for what holds then
  regrouped : (a b c : Stms) (k l : ℕ) (H G : Memory → Type 0) → ((o : Memory) → H o → G o) → Runs (append (append a b) c) k l H → Runs (append a (append b c)) k l G
  regrouped a b c k l H G f p turns m from =
      let ran = p turns m from in
      record { after = ran.after; runs = ap (λ s. exec vars s turns m) (sym (append-assoc a b c)) ∙ ran.runs; beside = ran.beside; held = f ran.after ran.held }

  held-after : (k : ℕ) (e : NetExpr) (l d : ℕ) → low ≤ k → k + temps e ≤ l → k + temps e ≤ low + count → (m o : Memory) → IsBeside (base + l) d m o → Held vars w x m k e → Held vars w x o k e
  held-after k e l d lo h top m o g = held-same vars w x base low count own m o k e lo top (same-before vars w x base low count own m o k (temps e) l d h g)

  -- an expression, and then others whose own variables come after its own
  next-runs : (k : ℕ) (e : NetExpr) (b : Stms) (d : ℕ) (G : Memory → Type 0) → low ≤ k → k + (temps e + d) ≤ low + count → Runs (before w k e) k (temps e) (λ o. Held vars w x o k e) → Runs b (k + temps e) d G
      → Runs (append (before w k e) b) k (temps e + d) (λ o. Held vars w x o k e × G o)
  next-runs k e b d G lo top p q =
      then-runs (before w k e) b k (temps e) (k + temps e) d k (temps e + d) (λ o. Held vars w x o k e) G lo (omega arith) (omega arith) (omega arith) (omega arith) top
      (held-after k e (k + temps e) d lo (omega arith) (omega arith)) p (λ turns m from h. q turns m from)

  -- ---- one `if`

  assign-own : (k : ℕ) (e : Expr) (z : ℤ) (turns : ℕ) (m : Memory) → low ≤ k → k < low + count → value_of vars e m ≡ Ok z → exec_one vars (assign (w.own k) e) turns m ≡ Ended turns (slice_set m (base + k) z)
  assign-own k e z turns m lo h g = assign_runs vars (w.own k) e (base + k) z turns m (own.place k lo h) g (own.holds_any k lo h z)

  alone : (k : ℕ) (e : Expr) (z : ℤ) (turns : ℕ) (m : Memory) → low ≤ k → k < low + count → value_of vars e m ≡ Ok z → exec vars (stms (assign (w.own k) e) no_stms) turns m ≡ Ended turns (slice_set m (base + k) z)
  alone k e z turns m lo h g = ap (λ o. and_then o (λ l q. exec vars no_stms l q)) (assign-own k e z turns m lo h g)

  chosen-runs : (b : Bool) (p q : Outcome) (turns : ℕ) (m : Memory) (j : ℕ) (y z : ℤ) → p ≡ Ended turns (slice_set m j y) → q ≡ Ended turns (slice_set m j z) → (if b then p else q) ≡ Ended turns (slice_set m j (if b then y else z))
  chosen-runs true p q turns m j y z h g = h
  chosen-runs false p q turns m j y z h g = g

  branches-run : (i k : ℕ) (bs : NetBranches) (e : Expr) (z : ℤ) (turns : ℕ) (m : Memory) → low ≤ i → i < low + count → AllByRecursion (IsRead vars w x m) (branch_names bs) → AreSafeBranches x bs → HeldBranches vars w x m k bs → value_of vars e m ≡ Ok z
      → exec_choice vars (branches_text w (w.own i) k bs) (λ l o. exec_other vars (other (stms (assign (w.own i) e) no_stms)) l o) turns m ≡ Ended turns (slice_set m (base + i) (v.net_cases x.algs x.state x.received z bs))
  branches-run i k no_net_branches e z turns m lo h r s g last = alone i e z turns m lo h last
  branches-run i k (net_branches c d bs) e z turns m lo h r s g last =
      let q = all-parts (IsRead vars w x m) (names_in c) (names_in d ++ branch_names bs) r in
      let t = all-parts (IsRead vars w x m) (names_in d) (branch_names bs) q.1 in
      let rest = λ (l : ℕ) (o : Memory). exec_choice vars (branches_text w (w.own i) (k + temps c + temps d) bs) (λ l o. exec_other vars (other (stms (assign (w.own i) e) no_stms)) l o) l o in
      let taken = λ (l : ℕ) (o : Memory). exec vars (stms (assign (w.own i) (text w (k + temps c) d)) no_stms) l o in
      ap (λ p. with_value p Faulted (λ b. if is_true b then taken turns m else rest turns m)) (text-value vars m w x k c q.0 s.0 g.0)
      ∙ ap (λ b. if b then taken turns m else rest turns m) (truth-is (value_at x c) s.1)
      ∙ chosen-runs (v.is_true (value_at x c)) (taken turns m) (rest turns m) turns m (base + i) (value_at x d) (v.net_cases x.algs x.state x.received z bs)
      (alone i (text w (k + temps c) d) (value_at x d) turns m lo h (text-value vars m w x (k + temps c) d t.0 s.2 g.1))
      (branches-run i (k + temps c + temps d) bs e z turns m lo h t.1 s.3 g.2 last)

  case-runs : (i k : ℕ) (bs : NetBranches) (e : Expr) (z : ℤ) (turns : ℕ) (m : Memory) → low ≤ i → i < low + count → AllByRecursion (IsRead vars w x m) (branch_names bs) → AreSafeBranches x bs → HeldBranches vars w x m k bs → value_of vars e m ≡ Ok z
      → exec_one vars (case_text (w.own i) (branches_text w (w.own i) k bs) e) turns m ≡ Ended turns (slice_set m (base + i) (v.net_cases x.algs x.state x.received z bs))
  case-runs i k no_net_branches e z turns m lo h r s g last = assign-own i e z turns m lo h last
  case-runs i k (net_branches c d bs) e z turns m lo h r s g last = branches-run i k (net_branches c d bs) e z turns m lo h r s g last

  -- the value of the `if` with the own variable i
  abbrev Set : ℕ → NetBranches → NetExpr → Memory → Type 0
  Set i bs e o = held_at vars o (w.own i) ≡ v.net_cases x.algs x.state x.received (value_at x e) bs

  -- its parts, whose own variables come after i
  abbrev Parts : ℕ → NetBranches → NetExpr → Memory → Type 0
  Parts i bs e o = HeldBranches vars w x o (i + 1) bs × Held vars w x o (i + 1 + branches_temps bs) e

  parts-kept : (i : ℕ) (bs : NetBranches) (e : NetExpr) → low ≤ i → i + 1 + branches_temps bs + temps e ≤ low + count → (m o : Memory) → IsBeside (base + i) 1 m o → Parts i bs e m → Parts i bs e o
  parts-kept i bs e lo top m o g h = (
    branches-same vars w x base low count own m o (i + 1) bs (omega arith) (omega arith) (same-after vars w x base low count own m o (i + 1) (branches_temps bs) i 1 (omega arith) g) h.0,
    held-same vars w x base low count own m o (i + 1 + branches_temps bs) e (omega arith) (omega arith) (same-after vars w x base low count own m o (i + 1 + branches_temps bs) (temps e) i 1 (omega arith) g) h.1,
  )

  set-runs : (i : ℕ) (bs : NetBranches) (e : NetExpr) → low ≤ i → i + 1 + branches_temps bs + temps e ≤ low + count → ((o : Memory) → From o → AllByRecursion (IsRead vars w x o) (branch_names bs ++ names_in e)) → AreSafeBranches x bs → IsSafe x e
      → (turns : ℕ) (m : Memory) → From m → Parts i bs e m
      → Ran (stms (case_text (w.own i) (branches_text w (w.own i) (i + 1) bs) (text w (i + 1 + branches_temps bs) e)) no_stms) i 1 (Set i bs e) turns m
  set-runs i bs e lo top reads sbs se turns m from h =
      let r = all-parts (IsRead vars w x m) (branch_names bs) (names_in e) (reads m from) in
      let z = v.net_cases x.algs x.state x.received (value_at x e) bs in
      let same = from.same_length in
      record {
        after = slice_set m (base + i) z;
        runs = ap (λ o. and_then o (λ l q. exec vars no_stms l q))
            (case-runs i (i + 1) bs (text w (i + 1 + branches_temps bs) e) (value_at x e) turns m lo (omega arith) r.0 sbs h.0 (text-value vars m w x (i + 1 + branches_temps bs) e r.1 se h.1));
        beside = set-beside m (base + i) z;
        held = subst (λ p. slice_index_or (slice_set m (base + i) z) p (pos 0) ≡ z) (sym (own.place i lo (omega arith))) (set-read m (base + i) z (omega arith));
      }

  if-runs : (i : ℕ) (bs : NetBranches) (e : NetExpr) → low ≤ i → i + (1 + branches_temps bs + temps e) ≤ low + count → ((o : Memory) → From o → AllByRecursion (IsRead vars w x o) (branch_names bs ++ names_in e)) → AreSafeBranches x bs → IsSafe x e
      → Runs (branches_before w (i + 1) bs) (i + 1) (branches_temps bs) (λ o. HeldBranches vars w x o (i + 1) bs)
      → Runs (before w (i + 1 + branches_temps bs) e) (i + 1 + branches_temps bs) (temps e) (λ o. Held vars w x o (i + 1 + branches_temps bs) e)
      → Runs (form_before w i (n_if bs e)) i (1 + branches_temps bs + temps e) (λ o. HeldForm vars w x o i (n_if bs e))
  if-runs i bs e lo top reads sbs se p q =
      let c = branches_temps bs in
      let kept = λ (m o : Memory) (g : IsBeside (base + (i + 1 + c)) (temps e) m o) (h : HeldBranches vars w x m (i + 1) bs).
      branches-same vars w x base low count own m o (i + 1) bs (omega arith) (omega arith) (same-before vars w x base low count own m o (i + 1) c (i + 1 + c) (temps e) (omega arith) g) h in
      let inner = then-runs (branches_before w (i + 1) bs) (before w (i + 1 + c) e) (i + 1) c (i + 1 + c) (temps e) (i + 1) (c + temps e) (λ o. HeldBranches vars w x o (i + 1) bs) (λ o. Held vars w x o (i + 1 + c) e)
      (omega arith) (omega arith) (omega arith) (omega arith) (omega arith) (omega arith) kept p (λ t o f h. q t o f) in
      let last = stms (case_text (w.own i) (branches_text w (w.own i) (i + 1) bs) (text w (i + 1 + c) e)) no_stms in
      regrouped (branches_before w (i + 1) bs) (before w (i + 1 + c) e) last i (1 + c + temps e) (λ o. Parts i bs e o × Set i bs e o) (λ o. HeldForm vars w x o i (n_if bs e))
      (λ o h. (h.0.0, h.0.1, h.1))
      (then-runs (append (branches_before w (i + 1) bs) (before w (i + 1 + c) e)) last (i + 1) (c + temps e) i 1 i (1 + c + temps e) (Parts i bs e) (Set i bs e)
      lo (omega arith) (omega arith) (omega arith) (omega arith) (omega arith) (parts-kept i bs e lo (omega arith)) inner (set-runs i bs e lo (omega arith) reads sbs se))

  -- a branch and then the others
  branch-runs : (k : ℕ) (c e : NetExpr) (bs : NetBranches) → low ≤ k → k + (temps c + temps e + branches_temps bs) ≤ low + count
      → Runs (before w k c) k (temps c) (λ o. Held vars w x o k c)
      → Runs (before w (k + temps c) e) (k + temps c) (temps e) (λ o. Held vars w x o (k + temps c) e)
      → Runs (branches_before w (k + temps c + temps e) bs) (k + temps c + temps e) (branches_temps bs) (λ o. HeldBranches vars w x o (k + temps c + temps e) bs)
      → Runs (branches_before w k (net_branches c e bs)) k (temps c + temps e + branches_temps bs) (λ o. HeldBranches vars w x o k (net_branches c e bs))
  branch-runs k c e bs lo top p q r turns m from =
      let rest = next-runs (k + temps c) e (branches_before w (k + temps c + temps e) bs) (branches_temps bs) (λ o. HeldBranches vars w x o (k + temps c + temps e) bs) (omega arith) (omega arith) q r in
      let all = then-runs (before w k c) (append (before w (k + temps c) e) (branches_before w (k + temps c + temps e) bs)) k (temps c) (k + temps c) (temps e + branches_temps bs) k (temps c + temps e + branches_temps bs)
      (λ o. Held vars w x o k c) (λ o. Held vars w x o (k + temps c) e × HeldBranches vars w x o (k + temps c + temps e) bs) lo (omega arith) (omega arith) (omega arith) (omega arith) (omega arith)
      (held-after k c (k + temps c) (temps e + branches_temps bs) lo (omega arith) (omega arith)) p (λ t o f h. rest t o f) in
      let ran = all turns m from in
      record { after = ran.after; runs = ran.runs; beside = ran.beside; held = (ran.held.0, ran.held.1.0, ran.held.1.1) }

  -- ---- expressions

  -- the names are read from every such memory
  abbrev Named : List Read → Type 0
  Named qs = (o : Memory) → From o → AllByRecursion (IsRead vars w x o) qs

  left : (ps qs : List Read) → Named (ps ++ qs) → Named ps
  left ps qs h o f = (all-parts (IsRead vars w x o) ps qs (h o f)).0

  right : (ps qs : List Read) → Named (ps ++ qs) → Named qs
  right ps qs h o f = (all-parts (IsRead vars w x o) ps qs (h o f)).1

  mutual
    pub expr-runs : (k : ℕ) (e : NetExpr) → low ≤ k → k + temps e ≤ low + count → Named (names_in e) → IsSafe x e → Runs (before w k e) k (temps e) (λ o. Held vars w x o k e)
    expr-runs k (net_expr f at) lo l r s = form-runs k f lo l r s

    form-runs : (k : ℕ) (f : NetForm) → low ≤ k → k + form_temps f ≤ low + count → Named (form_names f) → IsSafeForm x f → Runs (form_before w k f) k (form_temps f) (λ o. HeldForm vars w x o k f)
    form-runs k (n_truth b) lo l r s = nothing k
    form-runs k (n_number z) lo l r s = nothing k
    form-runs k (n_loc a p) lo l r s = nothing k
    form-runs k (n_var i) lo l r s = nothing k
    form-runs k (n_input i) lo l r s = nothing k
    form-runs k (n_alg i) lo l r s = nothing k
    form-runs k n_received lo l r s = nothing k
    form-runs k (n_minus e) lo l r s = expr-runs k e lo l r s.0
    form-runs k (n_plus e) lo l r s = expr-runs k e lo l r s
    form-runs k (n_not e) lo l r s = expr-runs k e lo l r s.0
    form-runs k (n_abs e) lo l r s = expr-runs k e lo l r s.0
    form-runs k (n_min a b) lo l r s =
        next-runs k a (before w (k + temps a) b) (temps b) (λ o. Held vars w x o (k + temps a) b) lo l (expr-runs k a lo (omega arith) (left (names_in a) (names_in b) r) s.0) (expr-runs (k + temps a) b (omega arith) (omega arith) (right (names_in a) (names_in b) r) s.1)
    form-runs k (n_max a b) lo l r s =
        next-runs k a (before w (k + temps a) b) (temps b) (λ o. Held vars w x o (k + temps a) b) lo l (expr-runs k a lo (omega arith) (left (names_in a) (names_in b) r) s.0) (expr-runs (k + temps a) b (omega arith) (omega arith) (right (names_in a) (names_in b) r) s.1)
    form-runs k (n_sum e es) lo l r s =
        next-runs k e (terms_before w (k + temps e) es) (terms_temps es) (λ o. HeldTerms vars w x o (k + temps e) es) lo l (expr-runs k e lo (omega arith) (left (names_in e) (term_names es) r) s.0)
        (terms-run (k + temps e) es (value_at x e) (omega arith) (omega arith) (right (names_in e) (term_names es) r) s.1)
    form-runs k (n_product e es) lo l r s =
        next-runs k e (factors_before w (k + temps e) es) (factors_temps es) (λ o. HeldFactors vars w x o (k + temps e) es) lo l (expr-runs k e lo (omega arith) (left (names_in e) (factor_names es) r) s.0)
        (factors-run (k + temps e) es (value_at x e) (omega arith) (omega arith) (right (names_in e) (factor_names es) r) s.1)
    form-runs k (n_compare a op b) lo l r s =
        next-runs k a (before w (k + temps a) b) (temps b) (λ o. Held vars w x o (k + temps a) b) lo l (expr-runs k a lo (omega arith) (left (names_in a) (names_in b) r) s.0) (expr-runs (k + temps a) b (omega arith) (omega arith) (right (names_in a) (names_in b) r) s.1)
    form-runs k (n_and es) lo l r s = list-runs k es lo l r s
    form-runs k (n_or es) lo l r s = list-runs k es lo l r s
    form-runs k (n_implies a b) lo l r s =
        next-runs k a (before w (k + temps a) b) (temps b) (λ o. Held vars w x o (k + temps a) b) lo l (expr-runs k a lo (omega arith) (left (names_in a) (names_in b) r) s.0.0) (expr-runs (k + temps a) b (omega arith) (omega arith) (right (names_in a) (names_in b) r) s.1.0)
    form-runs k (n_iff a b) lo l r s =
        next-runs k a (before w (k + temps a) b) (temps b) (λ o. Held vars w x o (k + temps a) b) lo l (expr-runs k a lo (omega arith) (left (names_in a) (names_in b) r) s.0) (expr-runs (k + temps a) b (omega arith) (omega arith) (right (names_in a) (names_in b) r) s.1)
    form-runs k (n_if bs e) lo l r s =
        if-runs k bs e lo l r s.0 s.1 (branches-before-run (k + 1) bs (omega arith) (omega arith) (left (branch_names bs) (names_in e) r) s.0)
        (expr-runs (k + 1 + branches_temps bs) e (omega arith) (omega arith) (right (branch_names bs) (names_in e) r) s.1)

    terms-run : (k : ℕ) (es : NetTerms) (z : ℤ) → low ≤ k → k + terms_temps es ≤ low + count → Named (term_names es) → AreSafeTerms x z es → Runs (terms_before w k es) k (terms_temps es) (λ o. HeldTerms vars w x o k es)
    terms-run k no_net_terms z lo l r s = nothing k
    terms-run k (net_terms t e es) z lo l r s =
        next-runs k e (terms_before w (k + temps e) es) (terms_temps es) (λ o. HeldTerms vars w x o (k + temps e) es) lo l (expr-runs k e lo (omega arith) (left (names_in e) (term_names es) r) s.0)
        (terms-run (k + temps e) es (v.added t z (value_at x e)) (omega arith) (omega arith) (right (names_in e) (term_names es) r) s.2)

    factors-run : (k : ℕ) (es : NetFactors) (z : ℤ) → low ≤ k → k + factors_temps es ≤ low + count → Named (factor_names es) → AreSafeFactors x z es → Runs (factors_before w k es) k (factors_temps es) (λ o. HeldFactors vars w x o k es)
    factors-run k no_net_factors z lo l r s = nothing k
    factors-run k (net_factors op e es) z lo l r s =
        next-runs k e (factors_before w (k + temps e) es) (factors_temps es) (λ o. HeldFactors vars w x o (k + temps e) es) lo l (expr-runs k e lo (omega arith) (left (names_in e) (factor_names es) r) s.0)
        (factors-run (k + temps e) es (v.multiplied op z (value_at x e)) (omega arith) (omega arith) (right (names_in e) (factor_names es) r) s.3)

    list-runs : (k : ℕ) (es : NetExprs) → low ≤ k → k + list_temps es ≤ low + count → Named (list_names es) → AreSafeTruths x es → Runs (list_before w k es) k (list_temps es) (λ o. HeldList vars w x o k es)
    list-runs k no_net_exprs lo l r s = nothing k
    list-runs k (net_exprs e es) lo l r s =
        next-runs k e (list_before w (k + temps e) es) (list_temps es) (λ o. HeldList vars w x o (k + temps e) es) lo l (expr-runs k e lo (omega arith) (left (names_in e) (list_names es) r) s.0)
        (list-runs (k + temps e) es (omega arith) (omega arith) (right (names_in e) (list_names es) r) s.2)

    branches-before-run : (k : ℕ) (bs : NetBranches) → low ≤ k → k + branches_temps bs ≤ low + count → Named (branch_names bs) → AreSafeBranches x bs → Runs (branches_before w k bs) k (branches_temps bs) (λ o. HeldBranches vars w x o k bs)
    branches-before-run k no_net_branches lo l r s = nothing k
    branches-before-run k (net_branches c e bs) lo l r s =
        let rest = right (names_in c) (names_in e ++ branch_names bs) r in
        branch-runs k c e bs lo l (expr-runs k c lo (omega arith) (left (names_in c) (names_in e ++ branch_names bs) r) s.0)
        (expr-runs (k + temps c) e (omega arith) (omega arith) (left (names_in e) (branch_names bs) rest) s.2)
        (branches-before-run (k + temps c + temps e) bs (omega arith) (omega arith) (right (names_in e) (branch_names bs) rest) s.3)

pub prepares : (vars : List StVar) (w : Naming) (x : Setting) (base low count k : ℕ) (e : NetExpr) (turns : ℕ) (m : Memory) → OwnPlaces vars w base low count → base + low + count ≤ length m → low ≤ k → k + temps e ≤ low + count
    → ((o : Memory) → IsBeside (base + low) count m o → Reads vars w x o e) → IsSafe x e → Prepares vars w x base k e turns m
prepares vars w x base low count k e turns m own room lo top reads safe =
    let ran = expr-runs vars w x base low count own m room k e lo top reads safe turns m (beside-self (base + low) count m) in
    record { after = ran.after; runs = ran.runs; beside = ran.beside; held = ran.held }
