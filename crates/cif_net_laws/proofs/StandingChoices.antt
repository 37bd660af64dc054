-- What a listed choice of a plain net names is there, and its expressions have their kinds, name no algebraic variable,
-- divide by no 0, stay in 64 bits and are not deep.
use Rattle.std.proofs.Common.{◌≡◌, ℕ, suc, ◌+◌, ◌≤◌, true, inl, inr, List, [], ◌∷◌, ◌++◌, length, map, filter_map, zip, Option, Some, None, refl, sym, subst, arith}
use Rattle.std.specs.Prelude.{slice_get, nat_le, option_to_list}
use Rattle.std.specs.List.{cons_option, list_all, range_with_len, AllByRecursion}
use Rattle.std.proofs.lemmas.Bool.{eqb-true}
use Rattle.std.proofs.lemmas.Bool.Decides.{nat_tests}
use Rattle.cif_system.specs.Words.{Member}
use Rattle.cif_system.specs.System.{Role, syncing, sending, receiving}
use Rattle.cif_system.specs.Step.{Choice}
use Rattle.cif_system.proofs.Picks.{append-left, append-right}
use Rattle.cif_net_expr.specs.Tree.{NetExpr, NetUpdates, no_net_updates, net_updates}
use Rattle.cif_net_model.specs.Net.{NetChan, no_net_chan, void_net_chan, net_chan_of, NetAuto, NetEdge, Net}
use Rattle.cif_net_model.specs.Exprs.{edge_exprs, update_exprs, updates_exprs}
use Rattle.cif_net_model.specs.Facts.{channel_of, role_stands}
use Rattle.cif_net_model.specs.Shown.{channel_range, channel_type}
use Rattle.cif_net_model.specs.Counts.{all_beside, measure, most_depth}
use Rattle.cif_net_model.specs.Rules.{is_plain, is_plain_expr}
use Rattle.cif_net_model.specs.Listing.{all_hold, both, choice_test, choice_with, edge_at, edges_taken, event_test, guarded_choice, linear_choice, sent_by, writes_of}
use Rattle.cif_net_model.specs.Table.{choice_exprs, choice_stands, most_test_depth, sent_stands}
use Rattle.cif_net_model.proofs.Passing.{and-left, and-right}
use Rattle.cif_net_model.proofs.PartLaws.{all-append}
use Rattle.cif_net_model.proofs.PlainLaws.{never}
use Rattle.cif_net_model.proofs.ValueLaws.{all-parts}
use Rattle.cif_net_laws.proofs.Parties.{Parts}
use Rattle.cif_net_laws.proofs.Picked.{Picked}
use Rattle.cif_net_laws.proofs.Received.{and-true}
use Rattle.cif_net_laws.proofs.Sound.{Deep, kept, Sound, AllSound, sound-all, choice-sound, event-sound, deep-all}
use Rattle.cif_net_laws.proofs.Updating.{Taking, writes-stand}
use Rattle.cif_net_laws.proofs.Valuing.{edge-role}

module _ (n : Net) (e : ℕ) where
  -- ---- the edges that are taken

  module _ (h : is_plain n ≡ true) (i j : ℕ) where
    taking : (k : ℕ) (ds : List NetAuto) (ch : Choice) → ((m : ℕ) (a : NetAuto) → slice_get ds m ≡ Some a → slice_get n.autos (k + m) ≡ Some a) → Parts e i j k ds ch → AllByRecursion (Taking n e) (filter_map edge_at (zip ds ch))
    taking k [] ch at p = tt
    taking k (a ∷ ds) [] at p = tt
    taking k (a ∷ ds) (None ∷ ch) at p = taking (k + 1) ds ch (λ m z g. subst (λ q. slice_get n.autos q ≡ Some z) (omega arith) (at (suc m) z g)) p.1
    taking k (a ∷ ds) (Some y ∷ ch) at ((x, g, v, r), ps) =
        subst (λ o. AllByRecursion (Taking n e) (cons_option o (filter_map edge_at (zip ds ch)))) (sym g) (
          record { auto = a; kept = kept n h (k + 0) a y x (at 0 a refl) g; event = eqb-true x.event e v },
          taking (k + 1) ds ch (λ m z w. subst (λ q. slice_get n.autos q ≡ Some z) (omega arith) (at (suc m) z w)) ps,
        )

    pub all-taking : (ch : Choice) → Parts e i j 0 n.autos ch → AllByRecursion (Taking n e) (edges_taken n ch)
    all-taking ch p = taking 0 n.autos ch (λ m z g. subst (λ q. slice_get n.autos q ≡ Some z) (omega arith) g) p

  -- ---- what is sent

  role-sent : (p : Role) (c : NetChan) (f : NetExpr) → role_stands n p c (Some f) ≡ true → sent_stands n (channel_type c) (Some f) ≡ true
  role-sent syncing c f h = never h
  role-sent receiving no_net_chan f h = never h
  role-sent receiving void_net_chan f h = never h
  role-sent receiving (net_chan_of t) f h = never h
  role-sent sending no_net_chan f h = never h
  role-sent sending void_net_chan f h = never h
  role-sent sending (net_chan_of t) f h = h

  sent-so : (xs : List NetEdge) → AllByRecursion (Taking n e) xs → sent_stands n (channel_type (channel_of n e)) (sent_by xs) ≡ true
  sent-so [] t = refl
  sent-so (x ∷ xs) t = by x.sent (edge-role n t.0.auto x t.0.kept.stands) (sent-so xs t.1)
    where
      by : (o : Option NetExpr) → role_stands n x.role (channel_of n x.event) o ≡ true → sent_stands n (channel_type (channel_of n e)) (sent_by xs) ≡ true
          → sent_stands n (channel_type (channel_of n e)) (elim o [ Some f ↦ Some f | None ↦ sent_by xs ]) ≡ true
      by None h rest = rest
      by (Some f) h rest = subst (λ z. sent_stands n (channel_type (channel_of n z)) (Some f) ≡ true) t.0.event (role-sent x.role (channel_of n x.event) f h)

  -- ---- expressions

  -- an expression of a choice
  abbrev pub Good : NetExpr → Type 0
  Good f = (is_plain_expr n (record { value = f; received = channel_range (channel_of n e) }) ≡ true) × Deep n most_test_depth f

  edge-good : (x : NetEdge) → Taking n e x → (f : NetExpr) → Member f (edge_exprs x) → Good f
  edge-good x t f m = (
    subst (λ z. is_plain_expr n (record { value = f; received = channel_range (channel_of n z) }) ≡ true) t.event (t.kept.plain f m),
    let q = t.kept.deep f m in omega (arith, q),
  )

  good-each : (fs : List NetExpr) → ((f : NetExpr) → Member f fs → Good f) → AllByRecursion Good fs
  good-each [] g = tt
  good-each (f ∷ fs) g = (g f (inl refl), good-each fs (λ z m. g z (inr m)))

  sent-good : (xs : List NetEdge) → AllByRecursion (Taking n e) xs → AllByRecursion Good (option_to_list (sent_by xs))
  sent-good [] t = tt
  sent-good (x ∷ xs) t = by x.sent (λ f m. edge-good x t.0 f (inr (append-left f (option_to_list x.sent) (updates_exprs x.updates) m))) (sent-good xs t.1)
    where
      by : (o : Option NetExpr) → ((f : NetExpr) → Member f (option_to_list o) → Good f) → AllByRecursion Good (option_to_list (sent_by xs)) → AllByRecursion Good (option_to_list (elim o [ Some f ↦ Some f | None ↦ sent_by xs ]))
      by None g rest = rest
      by (Some f) g rest = (g f (inl refl), tt)

  both-good : (us vs : NetUpdates) → AllByRecursion Good (updates_exprs us) → AllByRecursion Good (updates_exprs vs) → AllByRecursion Good (updates_exprs (both us vs))
  both-good no_net_updates vs g h = h
  both-good (net_updates u us) vs g h = let q = all-parts Good (update_exprs u) (updates_exprs us) g in all-append Good (update_exprs u) (updates_exprs (both us vs)) q.0 (both-good us vs q.1 h)

  writes-good : (xs : List NetEdge) → AllByRecursion (Taking n e) xs → AllByRecursion Good (updates_exprs (writes_of xs))
  writes-good [] t = tt
  writes-good (x ∷ xs) t =
      both-good x.updates (writes_of xs)
      (good-each (updates_exprs x.updates) (λ f m. edge-good x t.0 f (inr (append-right f (option_to_list x.sent) (updates_exprs x.updates) m))))
      (writes-good xs t.1)

  test-good : (d : ℕ) (f : NetExpr) → d ≤ most_test_depth → Sound n (channel_range (channel_of n e)) d f → Good f
  test-good d f l s = (s.plain, let q = s.deep in omega (arith, q, l))

  all-plain : (fs : List NetExpr) → AllByRecursion Good fs → list_all (is_plain_expr n) (map (λ f. record { value = f; received = channel_range (channel_of n e) }) fs) ≡ true
  all-plain [] g = refl
  all-plain (f ∷ fs) g = and-true g.0.0 (all-plain fs g.1)

  good-deep : (fs : List NetExpr) → AllByRecursion Good fs → AllByRecursion (Deep n most_test_depth) fs
  good-deep [] g = tt
  good-deep (f ∷ fs) g = (g.0.1, good-deep fs g.1)

  below : (a b : ℕ) → a ≤ b → nat_le a b ≡ true
  below a b h = grind (arith, nat_tests)

  module _ (h : is_plain n ≡ true) (ch : Choice) (p : Picked n e ch) where
    stands : (tests : List NetExpr) (invariants : List ℕ) → AllSound n (channel_range (channel_of n e)) (most_depth + 1 + 1) tests → choice_stands n (choice_with n e ch tests invariants) ≡ true
    stands tests invariants s =
        let t = all-taking h p.from p.to ch p.each in
        let test = sound-all n (channel_range (channel_of n e)) (most_depth + 1 + 1) tests s in
        let good : AllByRecursion Good (choice_exprs (choice_with n e ch tests invariants)) = (test-good (most_depth + 1 + 1 + 1) (all_hold tests) (omega arith) test, all-append Good (option_to_list (sent_by (edges_taken n ch))) (updates_exprs (writes_of (edges_taken n ch))) (sent-good (edges_taken n ch) t) (writes-good (edges_taken n ch) t)) in
        and-true
        (and-true
        (and-true (and-true test.kind (sent-so (edges_taken n ch) t))
        (writes-stand n e n.autos ch (and-right _ _ (and-left _ _ (and-left _ _ (and-left _ _ h)))) t))
        (all-plain (choice_exprs (choice_with n e ch tests invariants)) good))
        (below (all_beside (map (measure n) (choice_exprs (choice_with n e ch tests invariants)))).depth most_test_depth (deep-all n most_test_depth (choice_exprs (choice_with n e ch tests invariants)) (good-deep (choice_exprs (choice_with n e ch tests invariants)) good)))

    pub linear-choice-stands : choice_stands n (linear_choice n (e, ch)) ≡ true
    linear-choice-stands = stands (choice_test n e ch) [] (choice-sound n (channel_range (channel_of n e)) e refl h p.from p.to ch p.each)

    pub guarded-choice-stands : choice_stands n (guarded_choice n (e, ch)) ≡ true
    guarded-choice-stands =
        stands (choice_test n e ch ++ event_test n e) (range_with_len 0 (length n.invariants))
        (all-append (Sound n (channel_range (channel_of n e)) (most_depth + 1 + 1)) (choice_test n e ch) (event_test n e)
        (choice-sound n (channel_range (channel_of n e)) e refl h p.from p.to ch p.each) (event-sound n (channel_range (channel_of n e)) e refl h))
