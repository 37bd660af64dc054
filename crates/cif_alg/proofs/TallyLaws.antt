-- What is counted for one event, by what automata may do for it.
use Rattle.std.proofs.Common.{◌≡◌, ℕ, ◌+◌, ◌*◌, Bool, true, false, ◌&&◌, ◌||◌, nat_eq, List, [], ◌∷◌, ◌++◌, filter, length, sum_by, Option, Some, None, option_map, refl, sym, ◌∙◌, ap, length-append, if◌then◌else◌, arith}
use Rattle.std.specs.List.{list_any}
use Rattle.std.proofs.lemmas.Bool.Decides.{nat_tests}
use Rattle.std.proofs.lemmas.List.{append-nil, append_assoc}
use Rattle.std.proofs.lemmas.List.Sums.{sum_by-cons, sum_by-append}
use Rattle.cif_system.specs.System.{Role, syncing, sending, receiving}
use Rattle.cif_system.specs.Step.{same_role}
use Rattle.cif_net_model.specs.Net.{NetEdge, NetAuto, NetExclusion}
use Rattle.cif_net_model.specs.Listing.{syncs_on}
use Rattle.cif_net_model.specs.Counts.{Measure}
use Rattle.cif_alg.specs.declared.weighed.Weighed.{Weighed}
use Rattle.cif_alg.specs.declared.tally.Options.{Options}
use Rattle.cif_alg.specs.declared.tally.Tally.{Tally}
use Rattle.cif_alg.specs.Weighed.{cut, weighed, with_one, paired}
use Rattle.cif_alg.specs.Tallies.{opened, with_edge, with_stay, all_options, closed, with_besides, edge_nodes, exclusion_nodes}
use Rattle.cif_alg.proofs.CutLaws.{cut-add, one_more, pairs}
use Rattle.cif_alg.proofs.TableLaws.{each_at}
use Rattle.cif_alg.proofs.NodeLaws.{own_edges}

same-test : (a b : ℕ) → nat_eq a b ≡ nat_eq b a
same-test a b =
    elim (nat_eq a b) as (λ t. nat_eq a b ≡ t → t ≡ nat_eq b a) [
      | true ↦ λ h. let g : nat_eq b a ≡ true = grind (arith, nat_tests) in sym g
      | false ↦ λ h. let g : nat_eq b a ≡ false = grind (arith, nat_tests) in sym g
    ] refl

-- ---- changes that may come twice

-- where a change that comes again changes nothing
each-once : (g : Tally → Tally) → ((t : Tally) → g (g t) ≡ g t) → (es : List ℕ) (j : ℕ) (t : Tally) → each_at (λ e. e) (λ e. g) es j t ≡ (if list_any (nat_eq j) es then g t else t)
each-once g twice [] j t = refl
each-once g twice (e ∷ es) j t =
    ap (λ b. each_at (λ x. x) (λ x. g) es j (if b then g t else t)) (same-test e j)
    ∙ by (nat_eq j e) (each-once g twice es j)
  where
    either : (b : Bool) → (if b then g (g t) else g t) ≡ g t
    either true = twice t
    either false = refl

    by : (b : Bool) → ((u : Tally) → each_at (λ x. x) (λ x. g) es j u ≡ (if list_any (nat_eq j) es then g u else u)) → each_at (λ x. x) (λ x. g) es j (if b then g t else t) ≡ (if b || list_any (nat_eq j) es then g t else t)
    by true r = r (g t) ∙ either (list_any (nat_eq j) es)
    by false r = r t

-- where each change changes nothing
each-ignored : {X : Type 0} (key : X → ℕ) (g : X → Tally → Tally) (xs : List X) (j : ℕ) (t : Tally) → ((x : X) → g x t ≡ t) → each_at key g xs j t ≡ t
each-ignored key g [] j t h = refl
each-ignored key g (x ∷ xs) j t h = ap (each_at key g xs j) (by (nat_eq (key x) j)) ∙ each-ignored key g xs j t h
  where
    by : (b : Bool) → (if b then g x t else t) ≡ t
    by true = h x
    by false = refl

opened-twice : (t : Tally) → opened (opened t) ≡ opened t
opened-twice t = refl

stay-twice : (t : Tally) → with_stay (with_stay t) ≡ with_stay t
stay-twice t = again t.options
  where
    again : (o : Option Options) → let u : Tally = record t { options = o } in with_stay (with_stay u) ≡ with_stay u
    again None = refl
    again (Some o) = refl

closed-twice : (t : Tally) → closed (closed t) ≡ closed t
closed-twice t = again t.options
  where
    again : (o : Option Options) → let u : Tally = record t { options = o } in closed (closed u) ≡ closed u
    again None = refl
    again (Some o) = refl

-- ---- one automaton

-- how many options an automaton has that has the event
abbrev pub own_stay : ℕ → NetAuto → ℕ
own_stay j a = if list_any (nat_eq j) a.monitors then 1 else 0

abbrev pub option_count : ℕ → NetAuto → ℕ
option_count j a = length (own_edges syncing j a.edges) + own_stay j a

-- the changes by its edges, and all that it changes
abbrev pub edges_at : (alg : ℕ → Measure) → List NetEdge → (j : ℕ) → Tally → Tally
edges_at alg xs j t = each_at (λ (x : NetEdge). x.event) (λ x. with_edge x.role (edge_nodes alg x)) xs j t

abbrev pub auto_at : (alg : ℕ → Measure) → NetAuto → (j : ℕ) → Tally → Tally
auto_at alg a j t = each_at (λ e. e) (λ e. closed) a.alphabet j (each_at (λ e. e) (λ e. with_stay) a.monitors j (edges_at alg a.edges j (each_at (λ e. e) (λ e. opened) a.alphabet j t)))

all-options : (c n : ℕ) (s : Bool) → let o : Options = record { edges = weighed c n; stays = s } in all_options o ≡ weighed (c + (if s then 1 else 0)) (n + (if s then 1 else 0))
all-options c n true = one_more 1 c n
all-options c n false = let e : c + 0 ≡ c = omega arith in let f : n + 0 ≡ n = omega arith in sym (ap (λ k. weighed k (n + 0)) e ∙ ap (λ k. weighed c k) f)

-- where an edge has v nodes
module _ (v : NetEdge → ℕ) where
  -- the nodes of the options of an automaton that has the event
  abbrev pub option_nodes : ℕ → NetAuto → ℕ
  option_nodes j a = sum_by v (own_edges syncing j a.edges) + own_stay j a

  -- so many edges
  abbrev told : List NetEdge → Weighed
  told xs = weighed (length xs) (sum_by v xs)

  -- in an automaton that has the event: its edges so far, and whether it may stay
  abbrev Busy : Type 0
  Busy = Option (List NetEdge × Bool)

  abbrev options_told : Busy → Option Options
  options_told o = option_map (λ (q : List NetEdge × Bool). record { edges = told q.0; stays = q.1 }) o

  abbrev with_edges : Busy → List NetEdge → Busy
  with_edges o xs = option_map (λ (q : List NetEdge × Bool). (q.0 ++ xs, q.1)) o

  -- where each choice has k nodes besides
  module _ (k : ℕ) where
    -- the choices so far, whether there is a party, the automaton that is gone through, and the edges that send and receive
    abbrev met : Weighed → Bool → Busy → (sends receives : List NetEdge) → Tally
    met ch p o ss rs = record { choices = ch; has_party = p; options = options_told o; sends = told ss; receives = told rs; besides = k }

    -- between automata
    abbrev pub resting : (choices nodes : ℕ) → Bool → (sends receives : List NetEdge) → Tally
    resting r w p ss rs = met (weighed r w) p None ss rs

    closed-met : (r w : ℕ) (p s : Bool) (xs ss rs : List NetEdge)
        → closed (met (weighed r w) p (Some (xs, s)) ss rs) ≡ resting (r * (length xs + (if s then 1 else 0))) (w * (length xs + (if s then 1 else 0)) + r * (sum_by v xs + (if s then 1 else 0))) true ss rs
    closed-met r w p s xs ss rs =
        ap (λ (o : Weighed). met (paired (weighed r w) o) true None ss rs) (all-options (length xs) (sum_by v xs) s)
        ∙ ap (λ (o : Weighed). met o true None ss rs) (pairs r w (length xs + (if s then 1 else 0)) (sum_by v xs + (if s then 1 else 0)))

    stays-noted : (ch : Weighed) (p : Bool) (xs ss rs : List NetEdge) (ms : List ℕ) (j : ℕ) → each_at (λ e. e) (λ e. with_stay) ms j (met ch p (Some (xs, false)) ss rs) ≡ met ch p (Some (xs, list_any (nat_eq j) ms)) ss rs
    stays-noted ch p xs ss rs ms j = each-once with_stay stay-twice ms j (met ch p (Some (xs, false)) ss rs) ∙ by (list_any (nat_eq j) ms)
      where
        by : (b : Bool) → (if b then with_stay (met ch p (Some (xs, false)) ss rs) else met ch p (Some (xs, false)) ss rs) ≡ met ch p (Some (xs, b)) ss rs
        by true = refl
        by false = refl

    module _ (alg : ℕ → Measure) (weighs : (x : NetEdge) → edge_nodes alg x ≡ cut (v x)) where
      one-told : (x : NetEdge) (xs : List NetEdge) → with_one (edge_nodes alg x) (told xs) ≡ told (xs ++ x ∷ [])
      one-told x xs =
          let n : length xs + 1 ≡ length (xs ++ x ∷ []) = omega (arith, length-append xs (x ∷ [])) in
          let m : sum_by v xs + v x ≡ sum_by v (xs ++ x ∷ []) = omega (arith, sum_by-append v xs (x ∷ []), sum_by-cons v x []) in
          ap (λ c. with_one c (told xs)) (weighs x) ∙ one_more (v x) (length xs) (sum_by v xs) ∙ λ i. weighed (n i) (m i)

      edge-met : (ch : Weighed) (p : Bool) (x : NetEdge) (o : Busy) (ss rs : List NetEdge) → with_edge syncing (edge_nodes alg x) (met ch p o ss rs) ≡ met ch p (with_edges o (x ∷ [])) ss rs
      edge-met ch p x None ss rs = refl
      edge-met ch p x (Some (xs, s)) ss rs = ap (λ (w : Weighed). record { choices = ch; has_party = p; options = Some (record { edges = w; stays = s }); sends = told ss; receives = told rs; besides = k }) (one-told x xs)

      joined : (o : Busy) (x : NetEdge) (xs : List NetEdge) → with_edges (with_edges o (x ∷ [])) xs ≡ with_edges o (x ∷ xs)
      joined None x xs = refl
      joined (Some (ys, s)) x xs = ap (λ (zs : List NetEdge). let q : Busy = Some (zs, s) in q) (append_assoc ys (x ∷ []) xs)

      same-busy : (o : Busy) → o ≡ with_edges o []
      same-busy None = refl
      same-busy (Some (ys, s)) = ap (λ (zs : List NetEdge). let q : Busy = Some (zs, s) in q) (sym (append-nil ys))

      edges-met : (ch : Weighed) (p : Bool) (j : ℕ) (xs : List NetEdge) (o : Busy) (ss rs : List NetEdge)
          → edges_at alg xs j (met ch p o ss rs) ≡ met ch p (with_edges o (own_edges syncing j xs)) (ss ++ own_edges sending j xs) (rs ++ own_edges receiving j xs)
      edges-met ch p j [] o ss rs = λ i. met ch p (same-busy o i) (sym (append-nil ss) i) (sym (append-nil rs) i)
      edges-met ch p j (x ∷ xs) o ss rs = by x.role (nat_eq x.event j) (edges-met ch p j xs)
        where
          own : List NetEdge
          own = own_edges syncing j xs

          sent : List NetEdge
          sent = own_edges sending j xs

          received : List NetEdge
          received = own_edges receiving j xs

          by : (r : Role) (b : Bool) → ((q : Busy) (ts us : List NetEdge) → edges_at alg xs j (met ch p q ts us) ≡ met ch p (with_edges q own) (ts ++ sent) (us ++ received))
              → edges_at alg xs j (if b then with_edge r (edge_nodes alg x) (met ch p o ss rs) else met ch p o ss rs)
              ≡ met ch p (with_edges o (if same_role syncing r && b then x ∷ own else own)) (ss ++ (if same_role sending r && b then x ∷ sent else sent)) (rs ++ (if same_role receiving r && b then x ∷ received else received))
          by syncing true more = ap (edges_at alg xs j) (edge-met ch p x o ss rs) ∙ more (with_edges o (x ∷ [])) ss rs ∙ ap (λ (q : Busy). met ch p q (ss ++ sent) (rs ++ received)) (joined o x own)
          by sending true more =
              ap (λ (w : Weighed). edges_at alg xs j (record { choices = ch; has_party = p; options = options_told o; sends = w; receives = told rs; besides = k })) (one-told x ss)
              ∙ more o (ss ++ x ∷ []) rs ∙ ap (λ ts. met ch p (with_edges o own) ts (rs ++ received)) (append_assoc ss (x ∷ []) sent)
          by receiving true more =
              ap (λ (w : Weighed). edges_at alg xs j (record { choices = ch; has_party = p; options = options_told o; sends = told ss; receives = w; besides = k })) (one-told x rs)
              ∙ more o ss (rs ++ x ∷ []) ∙ ap (λ us. met ch p (with_edges o own) (ss ++ sent) us) (append_assoc rs (x ∷ []) received)
          by syncing false more = more o ss rs
          by sending false more = more o ss rs
          by receiving false more = more o ss rs

      -- the tally after an automaton
      pub auto-counted : (a : NetAuto) (j r w : ℕ) (p : Bool) (ss rs : List NetEdge)
          → auto_at alg a j (resting r w p ss rs) ≡ (let ts : List NetEdge = ss ++ own_edges sending j a.edges in let us : List NetEdge = rs ++ own_edges receiving j a.edges in
          if syncs_on j a then resting (r * option_count j a) (w * option_count j a + r * option_nodes j a) true ts us else resting r w p ts us)
      auto-counted a j r w p ss rs =
          ap (λ t. closing (staying (edges_at alg a.edges j t))) (each-once opened opened-twice a.alphabet j (resting r w p ss rs))
          ∙ each-once closed closed-twice a.alphabet j (staying (edges_at alg a.edges j (if syncs_on j a then opened (resting r w p ss rs) else resting r w p ss rs)))
          ∙ by (syncs_on j a)
        where
          staying : Tally → Tally
          staying t = each_at (λ e. e) (λ e. with_stay) a.monitors j t

          closing : Tally → Tally
          closing t = each_at (λ e. e) (λ e. closed) a.alphabet j t

          xs : List NetEdge
          xs = own_edges syncing j a.edges

          ts : List NetEdge
          ts = ss ++ own_edges sending j a.edges

          us : List NetEdge
          us = rs ++ own_edges receiving j a.edges

          by : (b : Bool) → (let t : Tally = staying (edges_at alg a.edges j (if b then opened (resting r w p ss rs) else resting r w p ss rs)) in if b then closed t else t)
              ≡ (if b then resting (r * option_count j a) (w * option_count j a + r * option_nodes j a) true ts us else resting r w p ts us)
          by true =
              ap (λ t. closed (staying t)) (edges-met (weighed r w) p j a.edges (Some ([], false)) ss rs)
              ∙ ap closed (stays-noted (weighed r w) p xs ts us a.monitors j)
              ∙ closed-met r w p (list_any (nat_eq j) a.monitors) xs ts us
          by false = ap staying (edges-met (weighed r w) p j a.edges None ss rs) ∙ each-ignored (λ e. e) (λ e. with_stay) a.monitors j (resting r w p ts us) (λ e. refl)

-- ---- exclusions

abbrev pub exclusions_for : ℕ → List NetExclusion → List NetExclusion
exclusions_for j xs = filter (λ (x : NetExclusion). nat_eq x.event j) xs

abbrev pub exclusions_at : (alg : ℕ → Measure) → List NetExclusion → (j : ℕ) → Tally → Tally
exclusions_at alg xs j t = each_at (λ (x : NetExclusion). x.event) (λ x. with_besides (exclusion_nodes alg x)) xs j t

abbrev pub beside : Tally → ℕ → Tally
beside t b = record t { besides = cut b }

-- the tally after exclusions, where an exclusion has u nodes
pub exclusions-counted : (alg : ℕ → Measure) (u : NetExclusion → ℕ) → ((x : NetExclusion) → exclusion_nodes alg x ≡ cut (u x)) → (j : ℕ) (t : Tally) (xs : List NetExclusion) (b : ℕ)
    → exclusions_at alg xs j (beside t b) ≡ beside t (b + sum_by u (exclusions_for j xs))
exclusions-counted alg u weighs j t [] b = let e : b + 0 ≡ b = omega arith in sym (ap (beside t) e)
exclusions-counted alg u weighs j t (x ∷ xs) b = by (nat_eq x.event j) (exclusions-counted alg u weighs j t xs)
  where
    by : (c : Bool) → ((d : ℕ) → exclusions_at alg xs j (beside t d) ≡ beside t (d + sum_by u (exclusions_for j xs)))
        → exclusions_at alg xs j (if c then with_besides (exclusion_nodes alg x) (beside t b) else beside t b)
        ≡ beside t (b + sum_by u (if c then x ∷ exclusions_for j xs else exclusions_for j xs))
    by true r =
        let e : b + u x + sum_by u (exclusions_for j xs) ≡ b + sum_by u (x ∷ exclusions_for j xs) = omega (arith, sum_by-cons u x (exclusions_for j xs)) in
        ap (λ k. exclusions_at alg xs j (with_besides k (beside t b))) (weighs x)
        ∙ ap (λ k. let q : Tally = record t { besides = k } in exclusions_at alg xs j q) (cut-add b (u x))
        ∙ r (b + u x) ∙ ap (beside t) e
    by false r = r b
