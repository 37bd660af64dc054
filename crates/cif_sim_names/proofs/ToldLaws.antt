-- What is told of a net tells of each of its edges.
use Rattle.std.proofs.Common.{◌≡◌, ℕ, zero, suc, ◌+◌, ◌-◌, ◌<◌, ◌≤◌, ℤ, pos, Bool, true, false, inl, inr, List, [], ◌∷◌, ◌++◌, length, map, Some, None, refl, sym, ◌∙◌, ap, subst, arith, length-append}
use Rattle.std.specs.Prelude.{slice_get, option_map, option_to_list, if◌then◌else◌}
use Rattle.std.specs.List.{zip}
use Rattle.std.proofs.lemmas.Bool.{eqb-true}
use Rattle.cif_system.specs.Words.{Member}
use Rattle.cif_system.specs.System.{State}
use Rattle.cif_system.proofs.Lists.{some-same, none-some, map-length}
use Rattle.cif_system.proofs.Picks.{and-left, and-right, all-at, at-member, map-at}
use Rattle.cif_net_expr.specs.Tree.{NetExpr, NetUpdate, net_set, net_choose, NetUpdates, no_net_updates, net_updates, NetUpdateBranches, no_net_update_branches, net_update_branches}
use Rattle.cif_net_model.specs.Net.{NetAuto, NetEdge, Net}
use Rattle.cif_net_model.specs.Exprs.{Written, edge_values, targets, writes_all, writes_by, writes_in}
use Rattle.cif_net_model.specs.Facts.{auto_stands, edge_stands, is_net}
use Rattle.cif_net_model.specs.Meaning.{automaton_in, edge_meant, net_assigned_all, net_assigned_by, net_assigned_in, system_of_net, value_in}
use Rattle.cif_net_model.specs.Value.{is_true}
use Rattle.grammar.specs.Pieces.{Text}
use Rattle.cif_why_model.specs.Told.{Assigned, ValueTold}
use Rattle.cif_why_model.specs.Telling.{pair_of, TellsEdge, TellsEdges, TellsOf}
use Rattle.cif_why_model.proofs.Holding.{of-either}
use Rattle.cif_sim_names.specs.Nets.{event_path_in, variable_path_in, net_numbered_all, net_numbered_by, net_numbered_in, paths_of_edge, value_told, net_edge_told, told_of_net}

map-append : {A B : Type 0} (f : A → B) (xs ys : List A) → map f (xs ++ ys) ≡ map f xs ++ map f ys
map-append f [] ys = refl
map-append f (x ∷ xs) ys = λ i. f x ∷ map-append f xs ys i

get-left : {A : Type 0} (xs ys : List A) (j : ℕ) (x : A) → slice_get xs j ≡ Some x → slice_get (xs ++ ys) j ≡ Some x
get-left [] ys j x h = absurd (none-some x h)
get-left (z ∷ xs) ys zero x h = h
get-left (z ∷ xs) ys (suc j) x h = get-left xs ys j x h

get-right : {A : Type 0} (xs ys : List A) (j : ℕ) (x : A) → slice_get ys j ≡ Some x → slice_get (xs ++ ys) (length xs + j) ≡ Some x
get-right [] ys j x h = let e : 0 + j ≡ j = omega arith in ap (slice_get ys) e ∙ h
get-right (z ∷ xs) ys j x h = let e : suc (length xs) + j ≡ suc (length xs + j) = omega arith in ap (slice_get (z ∷ (xs ++ ys))) e ∙ get-right xs ys j x h

module _ (n : Net) (s : State) (r : ℤ) where
  -- ---- the pairs are those that are assigned

  if-map : (b : Bool) (xs ys : List Assigned) (us vs : List (ℕ × ℤ)) → map pair_of xs ≡ us → map pair_of ys ≡ vs → map pair_of (if b then xs else ys) ≡ (if b then us else vs)
  if-map true xs ys us vs h g = h
  if-map false xs ys us vs h g = g

  mutual
    pairs-all : (us : NetUpdates) (k : ℕ) → map pair_of (net_numbered_all n s r k us) ≡ net_assigned_all n s r us
    pairs-all no_net_updates k = refl
    pairs-all (net_updates u us) k =
        map-append pair_of (net_numbered_by n s r k u) (net_numbered_all n s r (k + length (writes_by u)) us)
        ∙ (λ i. pairs-by u k i ++ pairs-all us (k + length (writes_by u)) i)

    pairs-by : (u : NetUpdate) (k : ℕ) → map pair_of (net_numbered_by n s r k u) ≡ net_assigned_by n s r u
    pairs-by (net_set v e) k = refl
    pairs-by (net_choose bs us) k = pairs-in bs k _ _ (pairs-all us (k + length (writes_in bs)))

    pairs-in : (bs : NetUpdateBranches) (k : ℕ) (xs : List Assigned) (ys : List (ℕ × ℤ)) → map pair_of xs ≡ ys → map pair_of (net_numbered_in n s r k xs bs) ≡ net_assigned_in n s r ys bs
    pairs-in no_net_update_branches k xs ys h = h
    pairs-in (net_update_branches c us bs) k xs ys h =
        if-map (is_true (value_in n s r c)) _ _ _ _ (pairs-all us k) (pairs-in bs (k + length (writes_all us)) xs ys h)

  -- ---- their numbers

  -- the pair has the number of one of these right sides, which goes to its variable
  abbrev Stands : (k : ℕ) → List Written → Assigned → Type 0
  Stands k ws w = (j : ℕ) × (w.number ≡ k + j) × (slice_get (map (λ (x : Written). x.var) ws) j ≡ Some w.variable)

  in-front : (ws vs : List Written) (k : ℕ) (w : Assigned) → Stands k ws w → Stands k (ws ++ vs) w
  in-front ws vs k w h = (h.0, h.1, ap (λ xs. slice_get xs h.0) (map-append (λ (x : Written). x.var) ws vs) ∙ get-left (map (λ (x : Written). x.var) ws) (map (λ (x : Written). x.var) vs) h.0 w.variable h.2)

  behind : (ws vs : List Written) (k : ℕ) (w : Assigned) → Stands (k + length ws) vs w → Stands k (ws ++ vs) w
  behind ws vs k w h =
      let sizes = map-length (λ (x : Written). x.var) ws in (
        length ws + h.0,
        omega (arith, h.1),
        ap (λ xs. slice_get xs (length ws + h.0)) (map-append (λ (x : Written). x.var) ws vs)
            ∙ ap (λ j. slice_get (map (λ (x : Written). x.var) ws ++ map (λ (x : Written). x.var) vs) (j + h.0)) (sym sizes)
            ∙ get-right (map (λ (x : Written). x.var) ws) (map (λ (x : Written). x.var) vs) h.0 w.variable h.2,
      )

  if-stands : (b : Bool) (xs ys : List Assigned) (w : Assigned) (m : ℕ) (all : List Written) → (Member w xs → Stands m all w) → (Member w ys → Stands m all w) → Member w (if b then xs else ys) → Stands m all w
  if-stands true xs ys w m all f g h = f h
  if-stands false xs ys w m all f g h = g h

  mutual
    stands-all : (us : NetUpdates) (k : ℕ) (w : Assigned) → Member w (net_numbered_all n s r k us) → Stands k (writes_all us) w
    stands-all no_net_updates k w h = absurd h
    stands-all (net_updates u us) k w h = elim (of-either w (net_numbered_by n s r k u) (net_numbered_all n s r (k + length (writes_by u)) us) h) [
      | inl v ↦ in-front (writes_by u) (writes_all us) k w (stands-by u k w v)
      | inr v ↦ behind (writes_by u) (writes_all us) k w (stands-all us (k + length (writes_by u)) w v)
    ]

    stands-by : (u : NetUpdate) (k : ℕ) (w : Assigned) → Member w (net_numbered_by n s r k u) → Stands k (writes_by u) w
    stands-by (net_set v e) k w (inl is) =
        let same : w.number ≡ k = ap (λ (x : Assigned). x.number) is in (0, omega (arith, same), ap Some (sym (ap (λ (x : Assigned). x.variable) is)))
    stands-by (net_set v e) k w (inr more) = absurd more
    stands-by (net_choose bs us) k w h =
        stands-in bs k _ w k (writes_in bs ++ writes_all us)
        (λ v. behind (writes_in bs) (writes_all us) k w (stands-all us (k + length (writes_in bs)) w v)) (λ v. in-front (writes_in bs) (writes_all us) k w v) h

    stands-in : (bs : NetUpdateBranches) (k : ℕ) (xs : List Assigned) (w : Assigned) (m : ℕ) (all : List Written) → (Member w xs → Stands m all w) → (Stands k (writes_in bs) w → Stands m all w)
        → Member w (net_numbered_in n s r k xs bs) → Stands m all w
    stands-in no_net_update_branches k xs w m all f g h = f h
    stands-in (net_update_branches c us bs) k xs w m all f g h =
        if-stands (is_true (value_in n s r c)) _ _ w m all
        (λ v. g (in-front (writes_all us) (writes_in bs) k w (stands-all us k w v)))
        (λ v. stands-in bs (k + length (writes_all us)) xs w m all f (λ a. g (behind (writes_all us) (writes_in bs) k w a)) v) h

-- what updates assign has the number of its right side, behind the k before them
pub numbered-at : (n : Net) (s : State) (r : ℤ) (k : ℕ) (us : NetUpdates) (l : ℕ) (w : Assigned) → slice_get (net_numbered_all n s r k us) l ≡ Some w
    → (k ≤ w.number) × (slice_get (targets us) (w.number - k) ≡ Some w.variable)
numbered-at n s r k us l w g =
    let h = stands-all n s r us k w (at-member (net_numbered_all n s r k us) l w g) in
    let le : k ≤ w.number = omega (arith, h.1) in
    let e : w.number - k ≡ h.0 = omega (arith, h.1) in
    (le, ap (slice_get (targets us)) e ∙ h.2)

-- ---- an edge

zip-length : {A B : Type 0} (xs : List A) (ys : List B) → length xs ≡ length ys → length (zip xs ys) ≡ length ys
zip-length [] ys h = h
zip-length (x ∷ xs) [] h = absurd (omega (arith, h))
zip-length (x ∷ xs) (y ∷ ys) h = let more = zip-length xs ys (omega (arith, h)) in ap suc more

zip-second : {A B : Type 0} (xs : List A) (ys : List B) → length xs ≡ length ys → (k : ℕ) (y : B) → slice_get ys k ≡ Some y → (x : A) × (slice_get (zip xs ys) k ≡ Some (x, y))
zip-second xs [] h k y g = absurd (none-some y g)
zip-second [] (z ∷ ys) h k y g = absurd (omega (arith, h))
zip-second (x ∷ xs) (z ∷ ys) h zero y g = (x, ap (λ w. Some (x, w)) (some-same z y g))
zip-second (x ∷ xs) (z ∷ ys) h (suc k) y g = zip-second xs ys (omega (arith, h)) k y g

pub at-mapped : {A B : Type 0} (f : A → B) (xs : List A) (k : ℕ) (x : A) → slice_get xs k ≡ Some x → slice_get (map f xs) k ≡ Some (f x)
at-mapped f [] k x g = absurd (none-some x g)
at-mapped f (y ∷ xs) zero x g = ap (λ w. Some (f w)) (some-same y x g)
at-mapped f (y ∷ xs) (suc k) x g = at-mapped f xs k x g

module _ (n : Net) (x : NetEdge) (stands : length x.places ≡ length (edge_values x)) where
  abbrev sends : ℕ
  sends = length (option_to_list x.sent)

  abbrev event_paths : List Text
  event_paths = map (λ (v : NetExpr). event_path_in n x.event) (option_to_list x.sent)

  paths-count : length (paths_of_edge n x) ≡ sends + length (writes_all x.updates)
  paths-count =
      length-append event_paths (map (variable_path_in n) (targets x.updates))
      ∙ (λ i. map-length (λ (v : NetExpr). event_path_in n x.event) (option_to_list x.sent) i
      + (map-length (variable_path_in n) (targets x.updates) ∙ map-length (λ (w : Written). w.var) (writes_all x.updates)) i)

  places-count : length x.places ≡ length (paths_of_edge n x)
  places-count =
      stands ∙ length-append (option_to_list x.sent) _ ∙ ap (λ k. sends + k) (map-length (λ (w : Written). w.value) (writes_all x.updates)) ∙ sym paths-count

  values-count : length (net_edge_told n x).values ≡ sends + length (writes_all x.updates)
  values-count = map-length value_told (zip x.places (paths_of_edge n x)) ∙ zip-length x.places (paths_of_edge n x) places-count ∙ paths-count

  numbered : (s : State) (r : ℤ) (l : ℕ) (w : Assigned) → slice_get (net_numbered_all n s r sends x.updates) l ≡ Some w
      → (v : ValueTold) × (slice_get (net_edge_told n x).values w.number ≡ Some v) × (v.path ≡ variable_path_in n w.variable)
  numbered s r l w g =
      let h = stands-all n s r x.updates sends w (at-member (net_numbered_all n s r sends x.updates) l w g) in
      let sizes : length event_paths ≡ sends = map-length (λ (v : NetExpr). event_path_in n x.event) (option_to_list x.sent) in
      let e : w.number ≡ length event_paths + h.0 = omega (arith, h.1, sizes) in
      let path : slice_get (paths_of_edge n x) w.number ≡ Some (variable_path_in n w.variable) =
      ap (slice_get (paths_of_edge n x)) e ∙ get-right event_paths (map (variable_path_in n) (targets x.updates)) h.0 (variable_path_in n w.variable)
      (at-mapped (variable_path_in n) (targets x.updates) h.0 w.variable h.2) in
      let there = zip-second x.places (paths_of_edge n x) places-count w.number (variable_path_in n w.variable) path in
      (value_told (there.0, variable_path_in n w.variable), at-mapped value_told (zip x.places (paths_of_edge n x)) w.number (there.0, variable_path_in n w.variable) there.1, refl)

  tells-edge : TellsEdge (variable_path_in n) (edge_meant n x) (net_edge_told n x)
  tells-edge = record {
    assigned = λ s r. pairs-all n s r x.updates sends;
    numbered = numbered;
    sent = λ s z g. some-sent s z g;
  }
    where
      some-sent : (s : State) (z : ℤ) → option_map (value_in n s (pos 0)) x.sent ≡ Some z → 0 < length (net_edge_told n x).values
      some-sent s z g = let c = values-count in
          (elim x.sent as (λ o. option_map (value_in n s (pos 0)) o ≡ Some z → length (net_edge_told n x).values ≡ length (option_to_list o) + length (writes_all x.updates) → 0 < length (net_edge_told n x).values) [
            | None ↦ λ h e. absurd (none-some z h)
            | Some v ↦ λ h e. omega (arith, e)
          ]) g c

-- ---- the net

edge-places : (n : Net) → is_net n ≡ true → (k : ℕ) (a : NetAuto) → slice_get n.autos k ≡ Some a → (j : ℕ) (x : NetEdge) → slice_get a.edges j ≡ Some x → length x.places ≡ length (edge_values x)
edge-places n h k a g j x f =
    let autos = and-right _ _ (and-left _ _ (and-left _ _ (and-left _ _ (and-left _ _ h)))) in
    let auto = all-at (auto_stands n) n.autos k a autos g in
    let edge = all-at (edge_stands n a) a.edges j x (and-right _ _ auto) f in
    eqb-true (length x.places) (length (edge_values x)) (and-right _ _ (and-left _ _ (and-left _ _ edge)))

pub nets-tell : (n : Net) → is_net n ≡ true → TellsOf (variable_path_in n) (system_of_net n) (told_of_net n)
nets-tell n h k a g =
    let here = map-at (automaton_in n) n.autos k a g in (
      record { path = here.0.path; edges = map (net_edge_told n) here.0.edges },
      at-mapped (λ (b : NetAuto). record { path = b.path; edges = map (net_edge_told n) b.edges }) n.autos k here.0 here.1,
      subst (λ b. TellsEdges (variable_path_in n) b (record { path = here.0.path; edges = map (net_edge_told n) here.0.edges })) (sym here.2) (each here.0 here.1),
    )
  where
    each : (b : NetAuto) → slice_get n.autos k ≡ Some b → TellsEdges (variable_path_in n) (automaton_in n b) (record { path = b.path; edges = map (net_edge_told n) b.edges })
    each b at j x f =
        let there = map-at (edge_meant n) b.edges j x f in (
          net_edge_told n there.0,
          at-mapped (net_edge_told n) b.edges j there.0 there.1,
          subst (λ y. TellsEdge (variable_path_in n) y (net_edge_told n there.0)) (sym there.2) (tells-edge n there.0 (edge-places n h k b at j there.0 there.1)),
        )
