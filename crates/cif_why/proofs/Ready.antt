-- The moves of a choice are allowed where the choice agrees with its event.
use Rattle.std.proofs.Common.{◌≡◌, ℕ, zero, suc, ◌+◌, Bool, true, false, not, inl, inr, List, [], ◌∷◌, map, filter_map, zip, Option, Some, None, refl, sym, ap, subst, ◌∙◌, arith}
use Rattle.std.specs.Prelude.{slice_get, slice_index_or, option_map, ◌||◌, ◌&&◌, nat_eq, if◌then◌else◌}
use Rattle.std.specs.List.{cons_option, enumerate_from, list_all, list_any}
use Rattle.std.proofs.lemmas.Option.{slice_get-map}
use Rattle.cif_system.specs.System.{Role, State, receiving, sending, syncing}
use Rattle.cif_system.specs.Step.{Choice, agrees, fits, is_enabled, passes, same_role, takes}
use Rattle.cif_net_model.specs.Net.{Net, NetAuto, NetEdge}
use Rattle.cif_net_model.specs.Listing.{NetMove, move_if, moves_of, monitors_event, syncs_on}
use Rattle.cif_net_model.specs.Meaning.{automaton_in, edge_meant, system_of_net, true_in}
use Rattle.cif_net_model.specs.Safe.{Setting}
use Rattle.cif_net_laws.proofs.Agreeing.{agreed}
use Rattle.cif_net_laws.proofs.Parties.{Part, Parts, RolePart}
use Rattle.cif_net_laws.proofs.Picked.{Picked}
use Rattle.cif_why_model.specs.Reasons.{can}
use Rattle.cif_why.specs.Openings.{is_ready, move_allowed, move_ready, openings_from, ready_edges}
use Rattle.cif_why.specs.Parties.{can_take, true_at}
use Rattle.cif_why.specs.declared.openings.Opening.{Opening}
use Rattle.cif_why.proofs.RoleLaws.{AutosMean, GuardsMean, can-same}

-- where an automaton does what b, ts and so on say
abbrev fit : (b ts t1 t2 st mon some : Bool) → Bool
fit b ts t1 t2 st mon some = if b then ts || (st && mon && not some) else t1 || t2 || st

opening-at : (x : Setting) (e i k : ℕ) (autos : List NetAuto) (a : NetAuto) → slice_get autos k ≡ Some a
    → slice_get (openings_from x e i autos) k ≡ Some (record { edges = ready_edges x e (i + k) a; syncs = can_take x syncing e (i + k) a })
opening-at x e i k [] a h = absurd cc
opening-at x e i zero (b ∷ autos) a h =
    ap (λ (o : Option NetAuto). option_map (λ (d : NetAuto). record { edges = ready_edges x e i d; syncs = can_take x syncing e i d }) o) h
    ∙ ap (λ j. Some (record { edges = ready_edges x e j a; syncs = can_take x syncing e j a })) (omega arith)
opening-at x e i (suc k) (b ∷ autos) a h =
    opening-at x e (i + 1) k autos a h ∙ ap (λ j. Some (record { edges = ready_edges x e j a; syncs = can_take x syncing e j a })) (omega arith)

flag-at : {A : Type 0} (f : A → Bool) (xs : List A) (y : ℕ) (z : A) → slice_get xs y ≡ Some z → slice_index_or (map f xs) y false ≡ f z
flag-at f [] y z h = absurd cc
flag-at f (x ∷ xs) zero z h = ap (λ o. elim o [ None ↦ false | Some w ↦ f w ]) h
flag-at f (x ∷ xs) (suc y) z h = flag-at f xs y z h

module _ (n : Net) (s : State) (x : Setting) (e : ℕ) (same : x.state ≡ s) where
  takes-is : (p : Role) (k y : ℕ) (a : NetAuto) (z : NetEdge) → slice_get a.edges y ≡ Some z → takes p e s ((k, automaton_in n a), Some y) ≡ is_enabled p e s (k, automaton_in n a) (edge_meant n z)
  takes-is p k y a z g = ap (passes (is_enabled p e s (k, automaton_in n a))) (slice_get-map (edge_meant n) a.edges y ∙ ap (option_map (edge_meant n)) g)

  in-role : (p r : Role) (k : ℕ) (a : NetAuto) (z : NetEdge) → z.role ≡ r → true_at x z.guard ≡ true_in n s z.guard
      → is_enabled p e s (k, automaton_in n a) (edge_meant n z) ≡ (same_role p r && is_ready x e (slice_index_or x.state.locs k 0) z)
  in-role p r k a z is means =
      ap (λ q. same_role p q && nat_eq z.event e && nat_eq z.from (slice_index_or s.locs k 0) && true_in n s z.guard) is
      ∙ ap (λ b. same_role p r && nat_eq z.event e && nat_eq z.from (slice_index_or s.locs k 0) && b) (sym means)
      ∙ ap (λ (t : State). same_role p r && nat_eq z.event e && nat_eq z.from (slice_index_or t.locs k 0) && true_at x z.guard) (sym same)
      ∙ four (same_role p r) (nat_eq z.event e) (nat_eq z.from (slice_index_or x.state.locs k 0)) (true_at x z.guard)
    where
      four : (a b c d : Bool) → (a && b && c && d) ≡ (a && (b && c && d))
      four true b c d = refl
      four false b c d = refl

  -- an automaton that takes an edge
  taken-fits : (i j k y : ℕ) (a : NetAuto) (z : NetEdge) → slice_get a.edges y ≡ Some z → RolePart e i j k a z.role → true_at x z.guard ≡ true_in n s z.guard
      → fits e s ((k, automaton_in n a), Some y) ≡ is_ready x e (slice_index_or x.state.locs k 0) z
  taken-fits i j k y a z g part means = by part
    where
      ready : Bool
      ready = is_ready x e (slice_index_or x.state.locs k 0) z

      took : (p r : Role) → z.role ≡ r → takes p e s ((k, automaton_in n a), Some y) ≡ (same_role p r && ready)
      took p r is = takes-is p k y a z g ∙ in-role p r k a z is means

      any : Bool
      any = list_any (is_enabled syncing e s (k, automaton_in n a)) (map (edge_meant n) a.edges)

      done : (b ts t1 t2 : Bool) → syncs_on e a ≡ b → takes syncing e s ((k, automaton_in n a), Some y) ≡ ts → takes sending e s ((k, automaton_in n a), Some y) ≡ t1 → takes receiving e s ((k, automaton_in n a), Some y) ≡ t2
          → fits e s ((k, automaton_in n a), Some y) ≡ fit b ts t1 t2 false (monitors_event e a) any
      done b ts t1 t2 hb hs h1 h2 =
          ap (λ c. fit c (takes syncing e s ((k, automaton_in n a), Some y)) (takes sending e s ((k, automaton_in n a), Some y)) (takes receiving e s ((k, automaton_in n a), Some y)) false (monitors_event e a) any) hb
          ∙ ap (λ c. fit b c (takes sending e s ((k, automaton_in n a), Some y)) (takes receiving e s ((k, automaton_in n a), Some y)) false (monitors_event e a) any) hs
          ∙ ap (λ c. fit b ts c (takes receiving e s ((k, automaton_in n a), Some y)) false (monitors_event e a) any) h1
          ∙ ap (λ c. fit b ts t1 c false (monitors_event e a) any) h2

      or-false : (b : Bool) → (b || false) ≡ b
      or-false true = refl
      or-false false = refl

      by : RolePart e i j k a z.role → fits e s ((k, automaton_in n a), Some y) ≡ ready
      by (inl r) = done true ready false false r.1 (took syncing syncing r.0) (took sending syncing r.0) (took receiving syncing r.0) ∙ or-false ready
      by (inr (inl r)) = done false false ready false r.1 (took syncing sending r.0) (took sending sending r.0) (took receiving sending r.0) ∙ or-false (ready || false) ∙ or-false ready
      by (inr (inr r)) = done false false false ready r.1 (took syncing receiving r.0) (took sending receiving r.0) (took receiving receiving r.0) ∙ or-false ready

  module _ (os : List Opening) (i j : ℕ) where
    -- the first automaton
    first-ready : (k : ℕ) (a : NetAuto) (o : Option ℕ) (rest : List NetMove) (more : Bool) → slice_get os k ≡ Some (record { edges = ready_edges x e k a; syncs = can_take x syncing e k a }) → GuardsMean n s x a
        → Part e i j k a o → list_all (move_ready os) rest ≡ more → list_all (move_ready os) (cons_option (move_if e ((k, a), o)) rest) ≡ (fits e s ((k, automaton_in n a), o) && more)
    first-ready k a None rest more at means (p, q, inl w) later =
        ap (λ b. list_all (move_ready os) (cons_option (if b then Some (record { auto = k; edge = None }) else None) rest)) w
        ∙ later
        ∙ sym (ap (λ b. fit b false false false true (monitors_event e a) (can syncing e s (k, automaton_in n a)) && more) w)
    first-ready k a None rest more at means (p, q, inr w) later =
        ap (λ b. list_all (move_ready os) (cons_option (if b then Some (record { auto = k; edge = None }) else None) rest)) w.0
        ∙ ap (λ r. move_allowed r None && list_all (move_ready os) rest) at
        ∙ ap (λ b. not b && list_all (move_ready os) rest) (can-same n s x e same syncing k a means)
        ∙ ap (λ b. not (can syncing e s (k, automaton_in n a)) && b) later
        ∙ sym (ap (λ b. fit b false false false true (monitors_event e a) (can syncing e s (k, automaton_in n a)) && more) w.0 ∙ ap (λ b. fit true false false false true b (can syncing e s (k, automaton_in n a)) && more) w.1)
    first-ready k a (Some y) rest more at means (z, g, v, part) later =
        ap (λ r. move_allowed r (Some y) && list_all (move_ready os) rest) at
        ∙ ap (λ b. b && list_all (move_ready os) rest) (flag-at (is_ready x e (slice_index_or x.state.locs k 0)) a.edges y z g ∙ sym (taken-fits i j k y a z g part (means y z g)))
        ∙ ap (λ b. fits e s ((k, automaton_in n a), Some y) && b) later

    ready-from : (k : ℕ) (autos : List NetAuto) (ch : Choice) → Parts e i j k autos ch
        → ((d : ℕ) (a : NetAuto) → slice_get autos d ≡ Some a → (slice_get os (k + d) ≡ Some (record { edges = ready_edges x e (k + d) a; syncs = can_take x syncing e (k + d) a })) × GuardsMean n s x a)
        → list_all (move_ready os) (filter_map (move_if e) (zip (enumerate_from k autos) ch)) ≡ list_all (fits e s) (zip (enumerate_from k (map (automaton_in n) autos)) ch)
    ready-from k [] [] parts there = refl
    ready-from k [] (o ∷ ch) parts there = absurd parts
    ready-from k (a ∷ autos) [] parts there = absurd parts
    ready-from k (a ∷ autos) (o ∷ ch) parts there =
        let here = there 0 a refl in
        first-ready k a o (filter_map (move_if e) (zip (enumerate_from (k + 1) autos) ch)) (list_all (fits e s) (zip (enumerate_from (k + 1) (map (automaton_in n) autos)) ch))
        (subst (λ d. slice_get os d ≡ Some (record { edges = ready_edges x e d a; syncs = can_take x syncing e d a })) (omega arith) here.0) here.1 parts.0
        (ready-from (k + 1) autos ch parts.1
        (λ d b h. let w = there (suc d) b h in (subst (λ q. slice_get os q ≡ Some (record { edges = ready_edges x e q b; syncs = can_take x syncing e q b })) (omega arith) w.0, w.1)))

  -- the moves of a choice are allowed just where it agrees
  pub agrees-ready : AutosMean n s x → (ch : Choice) → Picked n e ch → list_all (move_ready (openings_from x e 0 n.autos)) (moves_of n e ch) ≡ agrees (system_of_net n) s e ch
  agrees-ready means ch p =
      ready-from (openings_from x e 0 n.autos) p.from p.to 0 n.autos ch p.each (λ d a h. (ap (slice_get (openings_from x e 0 n.autos)) (omega arith) ∙ opening-at x e 0 d n.autos a h, means d a h))
      ∙ sym (agreed n s e ch p)
