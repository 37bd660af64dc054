-- What updates assign by numbers is what the net says of it.
use Rattle.std.proofs.Common.{◌≡◌, ℕ, ◌+◌, ℤ, pos, Bool, true, false, ◌||◌, List, [], ◌∷◌, ◌++◌, length, refl, sym, ap, ◌∙◌, if◌then◌else◌, arith, length-append, append-nil}
use Rattle.std.specs.List.{list_all}
use Rattle.cif_system.specs.System.{State}
use Rattle.cif_net_expr.specs.Tree.{NetExpr, NetUpdate, net_set, net_choose, NetUpdates, no_net_updates, net_updates, NetUpdateBranches, no_net_update_branches, net_update_branches}
use Rattle.cif_net_model.specs.Net.{Net}
use Rattle.cif_net_model.specs.Exprs.{branches_exprs, update_exprs, updates_exprs, writes_all, writes_by, writes_in}
use Rattle.cif_net_model.specs.Meaning.{alg_values, value_in}
use Rattle.cif_net_model.specs.Reads.{names_no_alg}
use Rattle.cif_net_model.specs.Unfolding.{at_or}
use Rattle.cif_net_model.specs.Value.{is_true}
use Rattle.cif_net_model.proofs.Passing.{and-left, and-right, both-pass}
use Rattle.cif_net_model.proofs.ValueLaws.{ap-two, value-alone}
use Rattle.cif_net_model.specs.Safe.{Setting, value_at}
use Rattle.cif_eval.specs.Updates.{is_taken, most_by, most_in, most_pairs}
use Rattle.cif_eval.specs.Within.{within}
use Rattle.cif_why_model.specs.Told.{Assigned}
use Rattle.cif_sim_names.specs.Nets.{net_numbered_all, net_numbered_by, net_numbered_in}
use Rattle.cif_why.specs.Numbering.{numbered_all, numbered_by, numbered_in}

-- no branch is taken
pub none_numbered : (x : Setting) (k : ℕ) (bs : NetUpdateBranches) → is_taken x bs ≡ false → numbered_in x k bs ≡ []
none_numbered x k no_net_update_branches h = refl
none_numbered x k (net_update_branches c us bs) h = go (is_true (value_at x c)) h (none_numbered x (k + most_pairs us) bs)
  where
    go : (b : Bool) → (b || is_taken x bs) ≡ false → (is_taken x bs ≡ false → numbered_in x (k + most_pairs us) bs ≡ []) → (if b then numbered_all x k us else numbered_in x (k + most_pairs us) bs) ≡ []
    go true h rest = absurd cc
    go false h rest = rest h

-- what `else` assigns, where no branch is taken
pub untaken-same : (x : Setting) (k : ℕ) (bs : NetUpdateBranches) (us : NetUpdates) (old mid : List Assigned) (next : ℕ) → is_taken x bs ≡ false → mid ≡ old ++ numbered_in x k bs → next ≡ k + most_in bs
    → mid ++ numbered_all x next us ≡ old ++ numbered_by x k (net_choose bs us)
untaken-same x k bs us old mid next none was is =
    ap (λ ws. ws ++ numbered_all x next us) (was ∙ ap (λ ws. old ++ ws) (none_numbered x k bs none) ∙ append-nil old)
    ∙ ap (λ j. old ++ numbered_all x j us) is
    ∙ sym (ap (λ b. old ++ (if b then numbered_in x k bs else numbered_all x (k + most_in bs) us)) none)

mutual
  pub count-all : (us : NetUpdates) → most_pairs us ≡ length (writes_all us)
  count-all no_net_updates = refl
  count-all (net_updates u us) = let p = count-by u in let q = count-all us in omega (arith, p, q, length-append (writes_by u) (writes_all us))

  count-by : (u : NetUpdate) → most_by u ≡ length (writes_by u)
  count-by (net_set v e) = refl
  count-by (net_choose bs us) = let p = count-in bs in let q = count-all us in omega (arith, p, q, length-append (writes_in bs) (writes_all us))

  count-in : (bs : NetUpdateBranches) → most_in bs ≡ length (writes_in bs)
  count-in no_net_update_branches = refl
  count-in (net_update_branches c us bs) = let p = count-all us in let q = count-in bs in omega (arith, p, q, length-append (writes_all us) (writes_in bs))

module _ (n : Net) (s : State) (r : ℤ) where
  value-same : (e : NetExpr) → names_no_alg e ≡ true → value_at (within s r) e ≡ value_in n s r e
  value-same e h = value-alone (λ k. pos 0) (at_or (pos 0) (alg_values n s r (length n.algs))) s r e h

  mutual
    pub all-numbered : (k : ℕ) (us : NetUpdates) → list_all names_no_alg (updates_exprs us) ≡ true → numbered_all (within s r) k us ≡ net_numbered_all n s r k us
    all-numbered k no_net_updates h = refl
    all-numbered k (net_updates u us) h =
        let q = both-pass names_no_alg (update_exprs u) (updates_exprs us) h in
        ap-two (λ xs ys. xs ++ ys) (one-numbered k u q.0) (ap (λ j. numbered_all (within s r) (k + j) us) (count-by u) ∙ all-numbered (k + length (writes_by u)) us q.1)

    one-numbered : (k : ℕ) (u : NetUpdate) → list_all names_no_alg (update_exprs u) ≡ true → numbered_by (within s r) k u ≡ net_numbered_by n s r k u
    one-numbered k (net_set v e) h = ap (λ z. record { number = k; variable = v; value = z } ∷ []) (value-same e (and-left _ _ h))
    one-numbered k (net_choose bs us) h =
        let q = both-pass names_no_alg (branches_exprs bs) (updates_exprs us) h in
        first-numbered k bs q.0 _ _ (ap (λ j. numbered_all (within s r) (k + j) us) (count-in bs) ∙ all-numbered (k + length (writes_in bs)) us q.1)

    first-numbered : (k : ℕ) (bs : NetUpdateBranches) → list_all names_no_alg (branches_exprs bs) ≡ true → (xs ys : List Assigned) → xs ≡ ys
        → (if is_taken (within s r) bs then numbered_in (within s r) k bs else xs) ≡ net_numbered_in n s r k ys bs
    first-numbered k no_net_update_branches h xs ys same = same
    first-numbered k (net_update_branches c us bs) h xs ys same =
        let q = both-pass names_no_alg (updates_exprs us) (branches_exprs bs) (and-right _ _ h) in
        ap (λ z. if is_true z || is_taken (within s r) bs then (if is_true z then numbered_all (within s r) k us else numbered_in (within s r) (k + most_pairs us) bs) else xs) (value-same c (and-left _ _ h))
        ∙ go (is_true (value_in n s r c)) (all-numbered k us q.0) (ap (λ j. if is_taken (within s r) bs then numbered_in (within s r) (k + j) bs else xs) (count-all us) ∙ first-numbered (k + length (writes_all us)) bs q.1 xs ys same)
      where
        go : (b : Bool) → numbered_all (within s r) k us ≡ net_numbered_all n s r k us
            → (if is_taken (within s r) bs then numbered_in (within s r) (k + most_pairs us) bs else xs) ≡ net_numbered_in n s r (k + length (writes_all us)) ys bs
            → (if b || is_taken (within s r) bs then (if b then numbered_all (within s r) k us else numbered_in (within s r) (k + most_pairs us) bs) else xs)
            ≡ (if b then net_numbered_all n s r k us else net_numbered_in n s r (k + length (writes_all us)) ys bs)
        go true p q = p
        go false p q = q
