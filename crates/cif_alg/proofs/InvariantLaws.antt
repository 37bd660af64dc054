-- What is told of the state invariants of a net that names no algebraic variable is what the rules say.
use Rattle.std.proofs.Common.{◌≡◌, ℕ, ℤ, pos, Bool, true, false, not, ◌&&◌, List, [], ◌∷◌, ◌++◌, map, length, Ok, Err, IfOk, IfErr, None, inl, inr, refl, sym, ◌∙◌, ap, subst, if◌then◌else◌}
use Rattle.std.specs.Prelude.{flat_map}
use Rattle.std.specs.List.{list_all, list_any, AllByRecursion}
use Rattle.cif_system.specs.System.{State, IsState, initial}
use Rattle.cif_system.specs.Words.{Member}
use Rattle.cif_system.proofs.Picks.{append-left, append-right, map-member}
use Rattle.cif_net_expr.specs.Tree.{NetExpr}
use Rattle.cif_net_model.specs.Exprs.{alg_exprs, all_edges, other_exprs}
use Rattle.cif_net_model.specs.Facts.{invariant_stands, is_net}
use Rattle.cif_net_model.specs.Interval.{truths}
use Rattle.cif_net_model.specs.Kinds.{bool_kind}
use Rattle.cif_net_model.specs.Meaning.{alg_values, system_of_net}
use Rattle.cif_net_model.specs.Net.{NetExclusion, NetInvariant, Net}
use Rattle.cif_net_model.specs.Reads.{Read, a_var, an_input, an_alg, a_place, the_received, alg_passes, names_in, names_no_alg, read_of, alg_reads, is_input, reads_input}
use Rattle.cif_net_model.specs.Rules.{Evaluated, edge_evaluated, evaluated, holds_first, invariant_keeps, is_plain_expr}
use Rattle.cif_net_model.specs.Unfolding.{at_or, unfolded}
use Rattle.cif_net_model.specs.Value.{is_true, net_value}
use Rattle.cif_net_model.proofs.Passing.{and-left, and-right, all-member}
use Rattle.cif_net_model.proofs.PlainLaws.{never}
use Rattle.cif_net_model.proofs.ValueLaws.{Setting, Alike, value-alike, ap-two}
use Rattle.cif_net.specs.declared.state.State as declared
use Rattle.cif_net.specs.View.{state_tree}
use Rattle.cif_net_model.specs.Safe.{value_at, IsSafe}
use Rattle.cif_net_model.proofs.First.{first-state}
use Rattle.cif_net_model.proofs.Plain.{net-safe}
use Rattle.cif_value.specs.Settings.{told}
use Rattle.cif_alg.specs.declared.error.AlgErr.TheVariants as err
use Rattle.cif_alg.specs.Invariants.{IsBroken, Told, checked, and_then, all_checked, AreSafe}

-- ---- lists of names without an algebraic variable

abbrev Free : List Read → Type 0
Free xs = list_all (alg_passes (λ k. false)) xs ≡ true

reads-alone : (algs : ℕ → List Read) (xs : List Read) → Free xs → flat_map (read_of algs) xs ≡ xs
reads-alone algs [] h = refl
reads-alone algs (a_var k ∷ xs) h = ap (λ ys. a_var k ∷ ys) (reads-alone algs xs h)
reads-alone algs (an_input k ∷ xs) h = ap (λ ys. an_input k ∷ ys) (reads-alone algs xs h)
reads-alone algs (an_alg k ∷ xs) h = never h
reads-alone algs (a_place k ∷ xs) h = ap (λ ys. a_place k ∷ ys) (reads-alone algs xs h)
reads-alone algs (the_received ∷ xs) h = ap (λ ys. the_received ∷ ys) (reads-alone algs xs h)

-- of values that differ in algebraic variables alone
module _ (f g : ℕ → ℤ) (s : State) (r : ℤ) where
  abbrev left : Setting
  left = record { algs = f; state = s; received = r }

  abbrev right : Setting
  right = record { algs = g; state = s; received = r }

  alike : (xs : List Read) → Free xs → AllByRecursion (Alike left right) xs
  alike [] h = tt
  alike (a_var k ∷ xs) h = (refl, alike xs h)
  alike (an_input k ∷ xs) h = (refl, alike xs h)
  alike (an_alg k ∷ xs) h = never h
  alike (a_place k ∷ xs) h = (refl, alike xs h)
  alike (the_received ∷ xs) h = (refl, alike xs h)

  value-same : (e : NetExpr) → names_no_alg e ≡ true → net_value f s r e ≡ net_value g s r e
  value-same e h = value-alike left right e (alike (names_in e) h)

-- ---- answers

-- the rules, of the first that breaks one
abbrev ruled : Net → NetInvariant → Told
ruled n i =
    if reads_input n i.pred then Err (err.InvariantReadsInput i.at)
    else (if holds_first n i.pred then Ok tt else Err (err.InvariantFalse i.at))

abbrev all_ruled : Net → List NetInvariant → Told
all_ruled n [] = Ok tt
all_ruled n (i ∷ is) = and_then (ruled n i) (all_ruled n is)

ruled-keep : (n : Net) (is : List NetInvariant) → IfOk (all_ruled n is) (λ d. list_all (invariant_keeps n) is ≡ true)
ruled-keep n [] = refl
ruled-keep n (i ∷ is) = by (reads_input n i.pred) (holds_first n i.pred) (ruled-keep n is)
  where
    by : (b c : Bool) → IfOk (all_ruled n is) (λ d. list_all (invariant_keeps n) is ≡ true)
        → IfOk (and_then (if b then Err (err.InvariantReadsInput i.at) else (if c then Ok tt else Err (err.InvariantFalse i.at))) (all_ruled n is)) (λ d. ((not b && c) && list_all (invariant_keeps n) is) ≡ true)
    by true c h = tt
    by false true h = h
    by false false h = tt

ruled-broken : (n : Net) (is : List NetInvariant) → ((i : NetInvariant) → Member i is → Member i n.invariants) → IfErr (all_ruled n is) (IsBroken n)
ruled-broken n [] inside = tt
ruled-broken n (i ∷ is) inside = by (reads_input n i.pred) refl (holds_first n i.pred) refl (ruled-broken n is (λ j m. inside j (inr m)))
  where
    by : (b : Bool) → reads_input n i.pred ≡ b → (c : Bool) → holds_first n i.pred ≡ c → IfErr (all_ruled n is) (IsBroken n)
        → IfErr (and_then (if b then Err (err.InvariantReadsInput i.at) else (if c then Ok tt else Err (err.InvariantFalse i.at))) (all_ruled n is)) (IsBroken n)
    by true e c f h = (i, inside i (inl refl), refl, e)
    by false e true f h = h
    by false e false f h = (i, inside i (inl refl), refl, e, f)

-- ---- the net

module _ (n : Net) (net : is_net n ≡ true) (plain : list_all (is_plain_expr n) (evaluated n) ≡ true) (s : declared.State) (first : state_tree s ≡ initial (system_of_net n)) where
  -- as it is evaluated
  abbrev alone : NetInvariant → Evaluated
  alone i = record { value = i.pred; received = truths }

  is-evaluated : (i : NetInvariant) → Member i n.invariants → Member (alone i) (evaluated n)
  is-evaluated i m =
      append-right (alone i) (flat_map (edge_evaluated n) (all_edges n)) (map (λ e. record { value = e; received = truths }) (other_exprs n))
      (map-member (λ e. record { value = e; received = truths }) i.pred (other_exprs n)
      (append-right i.pred (map (λ (x : NetExclusion). x.pred) n.exclusions) (map (λ (j : NetInvariant). j.pred) n.invariants ++ flat_map alg_exprs n.algs)
      (append-left i.pred (map (λ (j : NetInvariant). j.pred) n.invariants) (flat_map alg_exprs n.algs)
      (map-member (λ (j : NetInvariant). j.pred) i n.invariants m))))

  is-plain : (i : NetInvariant) → Member i n.invariants → is_plain_expr n (alone i) ≡ true
  is-plain i m = all-member (is_plain_expr n) (evaluated n) (alone i) plain (is-evaluated i m)

  no-alg : (i : NetInvariant) → Member i n.invariants → names_no_alg i.pred ≡ true
  no-alg i m = and-left _ _ (and-left _ _ (is-plain i m))

  stands : (i : NetInvariant) → Member i n.invariants → invariant_stands n i ≡ true
  stands i m = all-member (invariant_stands n) n.invariants i (and-right _ _ (and-left _ _ net)) m

  safe : (i : NetInvariant) → Member i n.invariants → IsSafe (told s (pos 0)) i.pred
  safe i m = net-safe n (λ k. pos 0) (state_tree s) (alone i) (pos 0) None bool_kind net (is-plain i m) (subst (IsState (system_of_net n)) (sym first) (first-state n net)) refl (λ t h. absurd cc) (stands i m)

  all-safe : (is : List NetInvariant) → ((i : NetInvariant) → Member i is → Member i n.invariants) → AreSafe s is
  all-safe [] inside = tt
  all-safe (i ∷ is) inside = (safe i (inside i (inl refl)), all-safe is (λ j m. inside j (inr m)))

  pub are-safe : AreSafe s n.invariants
  are-safe = all-safe n.invariants (λ i m. m)

  -- what is asked of the names is what is asked with algebraic variables unfolded
  reads-same : (i : NetInvariant) → Member i n.invariants → list_any is_input (names_in i.pred) ≡ reads_input n i.pred
  reads-same i m = ap (list_any is_input) (sym (reads-alone (at_or [] (unfolded [] alg_reads n.algs (length n.algs))) (names_in i.pred) (no-alg i m)))

  holds-same : (i : NetInvariant) → Member i n.invariants → is_true (value_at (told s (pos 0)) i.pred) ≡ holds_first n i.pred
  holds-same i m =
      ap (λ t. is_true (net_value (λ k. pos 0) t (pos 0) i.pred)) first
      ∙ ap is_true (value-same (λ k. pos 0) (at_or (pos 0) (alg_values n (initial (system_of_net n)) (pos 0) (length n.algs))) (initial (system_of_net n)) (pos 0) i.pred (no-alg i m))

  one-same : (i : NetInvariant) → Member i n.invariants → checked s i ≡ ruled n i
  one-same i m =
      ap (λ b. if b then Err (err.InvariantReadsInput i.at) else (if is_true (value_at (told s (pos 0)) i.pred) then Ok tt else Err (err.InvariantFalse i.at))) (reads-same i m)
      ∙ ap (λ c. if reads_input n i.pred then Err (err.InvariantReadsInput i.at) else (if c then Ok tt else Err (err.InvariantFalse i.at))) (holds-same i m)

  all-same : (is : List NetInvariant) → ((i : NetInvariant) → Member i is → Member i n.invariants) → all_checked s is ≡ all_ruled n is
  all-same [] inside = refl
  all-same (i ∷ is) inside = ap-two and_then (one-same i (inside i (inl refl))) (all-same is (λ j m. inside j (inr m)))

  pub keep : (r : Told) → r ≡ all_checked s n.invariants → IfOk r (λ d. list_all (invariant_keeps n) n.invariants ≡ true)
  keep r e = subst (λ t. IfOk t (λ d. list_all (invariant_keeps n) n.invariants ≡ true)) (sym (e ∙ all-same n.invariants (λ i m. m))) (ruled-keep n n.invariants)

  pub broken : (r : Told) → r ≡ all_checked s n.invariants → IfErr r (IsBroken n)
  broken r e = subst (λ t. IfErr t (IsBroken n)) (sym (e ∙ all-same n.invariants (λ i m. m))) (ruled-broken n n.invariants (λ i m. m))
