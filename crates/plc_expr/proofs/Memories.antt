-- Memories that differ in some places alone, and what an expression's own variables hold in them.
use Rattle.std.proofs.Common.{◌≡◌, ℕ, ◌+◌, ◌<◌, ◌≤◌, ℤ, pos, List, length, refl, sym, ap, ◌∙◌, arith, length-set}
use Rattle.std.specs.Prelude.{slice_get, slice_set, slice_index_or, unwrap_or}
use Rattle.std.proofs.lemmas.Option.{unwrap_or-slice_get}
use Rattle.cif_net_expr.specs.Tree.{NetExpr, net_expr, NetForm, n_truth, n_number, n_loc, n_var, n_input, n_alg, n_received, n_minus, n_plus, n_not, n_abs, n_min, n_max, n_sum, n_product, n_compare, n_and, n_or, n_implies, n_iff, n_if, NetExprs, no_net_exprs, net_exprs, NetTerms, no_net_terms, net_terms, NetFactors, no_net_factors, net_factors, NetBranches, no_net_branches, net_branches}
use Rattle.st_ast.specs.Values.{Memory}
use Rattle.st_ast.specs.declared.tree.StVar.{StVar}
use Rattle.plc_model.proofs.FaceLaws.{slice_get-set_same, slice_get-set_other}
use Rattle.plc_expr.specs.Texts.{Naming, temps, form_temps, terms_temps, factors_temps, list_temps, branches_temps}
use Rattle.cif_net_model.specs.Safe.{Setting}
use Rattle.plc_expr.specs.Held.{held_at, Held, HeldForm, HeldTerms, HeldFactors, HeldList, HeldBranches, OwnPlaces, IsBeside}

-- what is read at a place is told from the place
pub same-read : (a b : Memory) (j : ℕ) → slice_get a j ≡ slice_get b j → slice_index_or a j (pos 0) ≡ slice_index_or b j (pos 0)
same-read a b j e = sym (unwrap_or-slice_get a j (pos 0)) ∙ ap (λ o. unwrap_or o (pos 0)) e ∙ unwrap_or-slice_get b j (pos 0)

pub set-read : (m : Memory) (j : ℕ) (z : ℤ) → j < length m → slice_index_or (slice_set m j z) j (pos 0) ≡ z
set-read m j z h = sym (unwrap_or-slice_get (slice_set m j z) j (pos 0)) ∙ ap (λ o. unwrap_or o (pos 0)) (slice_get-set_same m j z h)

-- ---- beside

pub beside-self : (first count : ℕ) (m : Memory) → IsBeside first count m m
beside-self first count m = record { same_length = refl; others = λ j h. refl }

pub beside-wider : (first count f c : ℕ) (m o : Memory) → f ≤ first → first + count ≤ f + c → IsBeside first count m o → IsBeside f c m o
beside-wider first count f c m o low high h = record {
  same_length = h.same_length;
  others = λ j out. h.others j (λ in_it. let past : f + c ≤ j = out (omega arith) in omega arith);
}

pub beside-then : (first count : ℕ) (m o p : Memory) → IsBeside first count m o → IsBeside first count o p → IsBeside first count m p
beside-then first count m o p h g = record { same_length = g.same_length ∙ h.same_length; others = λ j out. g.others j out ∙ h.others j out }

pub set-beside : (m : Memory) (first : ℕ) (z : ℤ) → IsBeside first 1 m (slice_set m first z)
set-beside m first z = record { same_length = length-set m first z; others = λ j out. slice_get-set_other m first j z (λ e. let past : first + 1 ≤ j = out (omega arith) in omega arith) }

-- ---- own variables

module _ (vars : List StVar) (w : Naming) (x : Setting) (base low count : ℕ) (own : OwnPlaces vars w base low count) (m o : Memory) where
  -- the own variables with these numbers are the same in both
  abbrev Same : ℕ → ℕ → Type 0
  Same k c = (j : ℕ) → k ≤ j → j < k + c → slice_get o (base + j) ≡ slice_get m (base + j)

  part : (k c l d : ℕ) → k ≤ l → l + d ≤ k + c → Same k c → Same l d
  part k c l d low high h = λ j p q. h j (omega arith) (omega arith)

  own-kept : (k : ℕ) → low ≤ k → k < low + count → slice_get o (base + k) ≡ slice_get m (base + k) → held_at vars o (w.own k) ≡ held_at vars m (w.own k)
  own-kept k lo h e =
      ap (λ p. slice_index_or o p (pos 0)) (own.place k lo h) ∙ same-read o m (base + k) e ∙ ap (λ p. slice_index_or m p (pos 0)) (sym (own.place k lo h))

  two-same : {A B C D : Type 0} (k c d : ℕ) → (low ≤ k → k + c ≤ low + count → Same k c → A → C) → (low ≤ k + c → k + c + d ≤ low + count → Same (k + c) d → B → D) → low ≤ k → k + (c + d) ≤ low + count → Same k (c + d) → A × B → C × D
  two-same k c d f g lo l s h =
      (f lo (omega arith) (part k (c + d) k c (omega arith) (omega arith) s) h.0, g (omega arith) (omega arith) (part k (c + d) (k + c) d (omega arith) (omega arith) s) h.1)

  mutual
    pub held-same : (k : ℕ) (e : NetExpr) → low ≤ k → k + temps e ≤ low + count → Same k (temps e) → Held vars w x m k e → Held vars w x o k e
    held-same k (net_expr f at) lo l s h = form-same k f lo l s h

    form-same : (k : ℕ) (f : NetForm) → low ≤ k → k + form_temps f ≤ low + count → Same k (form_temps f) → HeldForm vars w x m k f → HeldForm vars w x o k f
    form-same k (n_truth b) lo l s h = tt
    form-same k (n_number z) lo l s h = tt
    form-same k (n_loc a p) lo l s h = tt
    form-same k (n_var i) lo l s h = tt
    form-same k (n_input i) lo l s h = tt
    form-same k (n_alg i) lo l s h = tt
    form-same k n_received lo l s h = tt
    form-same k (n_minus e) lo l s h = held-same k e lo l s h
    form-same k (n_plus e) lo l s h = held-same k e lo l s h
    form-same k (n_not e) lo l s h = held-same k e lo l s h
    form-same k (n_abs e) lo l s h = held-same k e lo l s h
    form-same k (n_min a b) lo l s h = two-same k (temps a) (temps b) (held-same k a) (held-same (k + temps a) b) lo l s h
    form-same k (n_max a b) lo l s h = two-same k (temps a) (temps b) (held-same k a) (held-same (k + temps a) b) lo l s h
    form-same k (n_sum e es) lo l s h = two-same k (temps e) (terms_temps es) (held-same k e) (terms-same (k + temps e) es) lo l s h
    form-same k (n_product e es) lo l s h = two-same k (temps e) (factors_temps es) (held-same k e) (factors-same (k + temps e) es) lo l s h
    form-same k (n_compare a op b) lo l s h = two-same k (temps a) (temps b) (held-same k a) (held-same (k + temps a) b) lo l s h
    form-same k (n_and es) lo l s h = list-same k es lo l s h
    form-same k (n_or es) lo l s h = list-same k es lo l s h
    form-same k (n_implies a b) lo l s h = two-same k (temps a) (temps b) (held-same k a) (held-same (k + temps a) b) lo l s h
    form-same k (n_iff a b) lo l s h = two-same k (temps a) (temps b) (held-same k a) (held-same (k + temps a) b) lo l s h
    form-same k (n_if bs e) lo l s h = (
      branches-same (k + 1) bs (omega arith) (omega arith) (part k (1 + branches_temps bs + temps e) (k + 1) (branches_temps bs) (omega arith) (omega arith) s) h.0,
      held-same (k + 1 + branches_temps bs) e (omega arith) (omega arith) (part k (1 + branches_temps bs + temps e) (k + 1 + branches_temps bs) (temps e) (omega arith) (omega arith) s) h.1,
      own-kept k lo (omega arith) (s k (omega arith) (omega arith)) ∙ h.2,
    )

    terms-same : (k : ℕ) (es : NetTerms) → low ≤ k → k + terms_temps es ≤ low + count → Same k (terms_temps es) → HeldTerms vars w x m k es → HeldTerms vars w x o k es
    terms-same k no_net_terms lo l s h = tt
    terms-same k (net_terms t e es) lo l s h = two-same k (temps e) (terms_temps es) (held-same k e) (terms-same (k + temps e) es) lo l s h

    factors-same : (k : ℕ) (es : NetFactors) → low ≤ k → k + factors_temps es ≤ low + count → Same k (factors_temps es) → HeldFactors vars w x m k es → HeldFactors vars w x o k es
    factors-same k no_net_factors lo l s h = tt
    factors-same k (net_factors op e es) lo l s h = two-same k (temps e) (factors_temps es) (held-same k e) (factors-same (k + temps e) es) lo l s h

    list-same : (k : ℕ) (es : NetExprs) → low ≤ k → k + list_temps es ≤ low + count → Same k (list_temps es) → HeldList vars w x m k es → HeldList vars w x o k es
    list-same k no_net_exprs lo l s h = tt
    list-same k (net_exprs e es) lo l s h = two-same k (temps e) (list_temps es) (held-same k e) (list-same (k + temps e) es) lo l s h

    pub branches-same : (k : ℕ) (bs : NetBranches) → low ≤ k → k + branches_temps bs ≤ low + count → Same k (branches_temps bs) → HeldBranches vars w x m k bs → HeldBranches vars w x o k bs
    branches-same k no_net_branches lo l s h = tt
    branches-same k (net_branches c e bs) lo l s h = (
      held-same k c lo (omega arith) (part k (temps c + temps e + branches_temps bs) k (temps c) (omega arith) (omega arith) s) h.0,
      held-same (k + temps c) e (omega arith) (omega arith) (part k (temps c + temps e + branches_temps bs) (k + temps c) (temps e) (omega arith) (omega arith) s) h.1,
      branches-same (k + temps c + temps e) bs (omega arith) (omega arith) (part k (temps c + temps e + branches_temps bs) (k + temps c + temps e) (branches_temps bs) (omega arith) (omega arith) s) h.2,
    )

  -- changed are those from the l-th on, after these
  pub same-before : (k c l d : ℕ) → k + c ≤ l → IsBeside (base + l) d m o → Same k c
  same-before k c l d h g = λ j p q. g.others (base + j) (λ r. omega arith)

  -- changed are d from the l-th on, before these
  pub same-after : (k c l d : ℕ) → l + d ≤ k → IsBeside (base + l) d m o → Same k c
  same-after k c l d h g = λ j p q. g.others (base + j) (λ r. omega arith)
