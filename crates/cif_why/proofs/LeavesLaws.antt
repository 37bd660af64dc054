-- The marks of the choices that pass are the values that leave their ranges, as reasons tell them.
use Rattle.std.proofs.Common.{◌≡◌, inl, inr, ℕ, zero, suc, ◌+◌, ◌^◌, ◌<◌, ◌≤◌, pos, Bool, true, false, List, [], ◌∷◌, length, map, zip, Option, Some, None, refl, sym, ap, subst, ◌∙◌, arith, replicate, length-append}
use Rattle.std.specs.Prelude.{slice_get, flat_map, nat_eq, nat_lt, option_and_then, option_to_list, sum, ◌&&◌}
use Rattle.std.specs.List.{AllByRecursion, enumerate_from, fold, list_all, list_any, range_with_len}
use Rattle.std.proofs.lemmas.Bool.Decides.{nat_tests}
use Rattle.std.proofs.lemmas.Bool.{eqb-true}
use Rattle.cif_system.specs.System.{IsState, State}
use Rattle.cif_system.specs.Step.{agrees}
use Rattle.cif_system.specs.Words.{Member}
use Rattle.cif_system.proofs.ChoiceLaws.{agrees-parts}
use Rattle.cif_system.proofs.Lists.{map-length}
use Rattle.cif_system.proofs.Picks.{append-left, append-right}
use Rattle.cif_net_expr.specs.Tree.{NetExpr}
use Rattle.cif_net_model.proofs.Passing.{and-left, and-right}
use Rattle.cif_net_model.proofs.ValueLaws.{ap-two}
use Rattle.cif_net_model.specs.Exprs.{Written, edge_values, targets, updates_exprs, writes_all}
use Rattle.cif_net_model.specs.Facts.{channel_of, edge_stands}
use Rattle.cif_net_model.specs.Listing.{NetChoice, full_choice, guarded_of}
use Rattle.cif_net_model.specs.Meaning.{automaton_in, edge_meant, event_in, system_of_net}
use Rattle.cif_net_model.specs.Net.{Net, NetAuto, NetEdge}
use Rattle.cif_net_model.specs.Reads.{names_no_alg}
use Rattle.cif_net_model.specs.Rules.{is_plain_expr}
use Rattle.cif_net_model.specs.Shown.{channel_range}
use Rattle.cif_net.specs.View.{choice_tree, event_tree, net_tree}
use Rattle.cif_net.specs.declared.guarded.Guarded.{Guarded}
use Rattle.cif_net_laws.proofs.Received.{and-true}
use Rattle.cif_net_laws.proofs.Sound.{kept, net-of}
use Rattle.cif_net_laws.proofs.Steps.{choices-are, guarded-steps}
use Rattle.cif_eval.specs.Choices.{system_of}
use Rattle.cif_eval.specs.Within.{within}
use Rattle.cif_eval.proofs.Chosen.{Chosen, chosen-of}
use Rattle.cif_why_model.specs.Reasons.{leaves_of, takes_edge, value_leaves}
use Rattle.cif_sim_names.specs.Nets.{event_path_in, net_edge_told, paths_of_edge, told_of_net, value_told, variable_path_in}
use Rattle.cif_why.specs.Agreeing.{is_agreeing}
use Rattle.cif_why.specs.Leaving.{choices_marked, edge_there, leaving_of, sending_of}
use Rattle.cif_why.specs.Marked.{AreFewRows, marks_told}
use Rattle.cif_why.specs.Marks.{unmarked, unmarked_rows}
use Rattle.cif_why.specs.Openings.{openings_from}
use Rattle.cif_why.proofs.Agreed.{any-agreeing}
use Rattle.cif_why.proofs.Guards.{autos-mean}
use Rattle.cif_why.proofs.LeaveLaws.{choices-marked, hit, marks_value, move-taken}
use Rattle.cif_why.proofs.MarkLaws.{rows_of, table_of}
use Rattle.cif_why.proofs.MarkedLaws.{leaves_somewhere, marks-told}
use Rattle.cif_why.proofs.Plain.{at-most}
use Rattle.cif_why.proofs.ValueLaws.{leaving-any}

-- ---- no marks

pub none-set : (i c : ℕ) → replicate c false ≡ map (λ l. false) (range_with_len i c)
none-set i zero = refl
none-set i (suc c) = ap (λ bs. false ∷ bs) (none-set (i + 1) c)

rows-unset : (j : ℕ) (ys : List NetEdge) → unmarked_rows ys ≡ rows_of (λ j l. false) j ys
rows-unset j [] = refl
rows-unset j (y ∷ ys) = ap-two (λ x xs. x ∷ xs) (none-set 0 (length y.places)) (rows-unset (j + 1) ys)

table-unset : (k : ℕ) (autos : List NetAuto) → unmarked autos ≡ table_of (λ i j l. false) k autos
table-unset k [] = refl
table-unset k (a ∷ autos) = ap-two (λ x xs. x ∷ xs) (rows-unset 0 a.edges) (table-unset (k + 1) autos)

-- ---- sizes

pub range-length : (k m : ℕ) → length (range_with_len k m) ≡ m
range-length k zero = refl
range-length k (suc m) = ap suc (range-length (k + 1) m)

rows-length : (f : ℕ → ℕ → Bool) (j : ℕ) (ys : List NetEdge) → length (rows_of f j ys) ≡ length ys
rows-length f j [] = refl
rows-length f j (y ∷ ys) = ap suc (rows-length f (j + 1) ys)

table-length : (v : ℕ → ℕ → ℕ → Bool) (k : ℕ) (autos : List NetAuto) → length (table_of v k autos) ≡ length autos
table-length v k [] = refl
table-length v k (a ∷ autos) = ap suc (table-length v (k + 1) autos)

rows-few : (f : ℕ → ℕ → Bool) (j : ℕ) (ys : List NetEdge) → ((d : ℕ) (y : NetEdge) → slice_get ys d ≡ Some y → length y.places < 2 ^ 32) → AllByRecursion (λ (row : List Bool). length row < 2 ^ 32) (rows_of f j ys)
rows-few f j [] h = tt
rows-few f j (y ∷ ys) h =
    let size : length (map (f j) (range_with_len 0 (length y.places))) ≡ length y.places = map-length (f j) (range_with_len 0 (length y.places)) ∙ range-length 0 (length y.places) in
    let few = h 0 y refl in
    (omega (arith, size, few), rows-few f (j + 1) ys (λ d z at. h (suc d) z at))

table-few : (v : ℕ → ℕ → ℕ → Bool) (k : ℕ) (autos : List NetAuto) → ((c : ℕ) (a : NetAuto) → slice_get autos c ≡ Some a → length a.edges < 2 ^ 32)
    → ((c d : ℕ) (a : NetAuto) (y : NetEdge) → slice_get autos c ≡ Some a → slice_get a.edges d ≡ Some y → length y.places < 2 ^ 32) → AllByRecursion AreFewRows (table_of v k autos)
table-few v k [] f g = tt
table-few v k (a ∷ autos) f g =
    let size = rows-length (v k) 0 a.edges in
    let few = f 0 a refl in
    (record { edges = omega (arith, size, few); values = rows-few (v k) 0 a.edges (λ d y at. g 0 d a y refl at) }, table-few v (k + 1) autos (λ c b h. f (suc c) b h) (λ c d b y h at. g (suc c) d b y h at))

zip-long : {A B : Type 0} (xs : List A) (ys : List B) → length xs ≡ length ys → length (zip xs ys) ≡ length xs
zip-long [] ys h = refl
zip-long (x ∷ xs) [] h = absurd (omega (arith, h))
zip-long (x ∷ xs) (y ∷ ys) h = ap suc (zip-long xs ys (omega (arith, h)))

-- an edge of a net has a place for each of its values
places-are : (n : Net) (a : NetAuto) (y : NetEdge) → edge_stands n a y ≡ true → length y.places ≡ length (edge_values y)
places-are n a y h = eqb-true _ _ (and-right _ _ (and-left _ _ (and-left _ _ h)))

places-below : (n : Net) (a : NetAuto) (y : NetEdge) → edge_stands n a y ≡ true → length y.places < 2 ^ 32
places-below n a y h = under (length y.places) 4294967296 (and-right _ _ (and-left _ _ h))
  where
    under : (i j : ℕ) → nat_lt i j ≡ true → i < j
    under i j h = grind (arith, nat_tests)

values-long : (n : Net) (a : NetAuto) (y : NetEdge) → edge_stands n a y ≡ true → length (net_edge_told n y).values ≡ length y.places
values-long n a y h =
    let places = places-are n a y h in
    let both = length-append (option_to_list y.sent) (map (λ (w : Written). w.value) (writes_all y.updates)) in
    let sizes = map-length (λ (w : Written). w.value) (writes_all y.updates) in
    let paths = length-append (map (λ f. event_path_in n y.event) (option_to_list y.sent)) (map (variable_path_in n) (targets y.updates)) in
    let sent = map-length (λ (f : NetExpr). event_path_in n y.event) (option_to_list y.sent) in
    let names = map-length (variable_path_in n) (targets y.updates) in
    let vars = map-length (λ (w : Written). w.var) (writes_all y.updates) in
    map-length value_told (zip y.places (paths_of_edge n y)) ∙ zip-long y.places (paths_of_edge n y) (omega (arith, places, both, sizes, paths, sent, names, vars))

pub names-each : (n : Net) (r : _) (es : List NetExpr) → ((f : NetExpr) → Member f es → is_plain_expr n (record { value = f; received = r }) ≡ true) → list_all names_no_alg es ≡ true
names-each n r [] h = refl
names-each n r (f ∷ es) h = and-true (and-left _ _ (and-left _ _ (h f (inl refl)))) (names-each n r es (λ g m. h g (inr m)))

fold-from : (k : ℕ) (xs : List ℕ) → fold ◌+◌ k xs ≡ k + sum xs
fold-from k [] = omega arith
fold-from k (x ∷ xs) =
    let p : fold ◌+◌ (k + x) xs ≡ k + x + sum xs = fold-from (k + x) xs in
    let q : sum (x ∷ xs) ≡ 0 + x + sum xs = fold-from (0 + x) xs in
    p ∙ omega (arith, q)

sum-more : (x : ℕ) (xs : List ℕ) → sum (x ∷ xs) ≡ 0 + x + sum xs
sum-more x xs = fold-from (0 + x) xs

abbrev auto_size : NetAuto → ℕ
auto_size b = length b.locs + length b.edges

edges-below : (autos : List NetAuto) (c : ℕ) (a : NetAuto) → slice_get autos c ≡ Some a → length a.edges ≤ sum (map auto_size autos)
edges-below [] c a p = absurd cc
edges-below (b ∷ autos) zero a p =
    let is : length b.edges ≡ length a.edges = ap (λ o. elim o [ None ↦ 0 | Some d ↦ length d.edges ]) p in
    let all : sum (map auto_size (b ∷ autos)) ≡ 0 + (length b.locs + length b.edges) + sum (map auto_size autos) = sum-more (length b.locs + length b.edges) (map auto_size autos) in
    omega (arith, is, all)
edges-below (b ∷ autos) (suc c) a p =
    let q = edges-below autos c a p in
    let all : sum (map auto_size (b ∷ autos)) ≡ 0 + (length b.locs + length b.edges) + sum (map auto_size autos) = sum-more (length b.locs + length b.edges) (map auto_size autos) in
    omega (arith, q, all)

module _ (g : Guarded) (s : State) (e : ℕ) (below : e < length g.plain.net.events) (state : IsState (system_of g) s) where
  abbrev n : Net
  n = net_tree g.plain.net

  abbrev passes : NetChoice → Bool
  passes = is_agreeing (openings_from (within s (pos 0)) e 0 n.autos) e

  abbrev cs : List NetChoice
  cs = map choice_tree g.choices

  abbrev marked : ℕ → ℕ → ℕ → Bool
  marked i j l = list_any (λ c. passes c && marks_value n s i j l c) cs

  table-is : choices_marked passes n s cs (unmarked n.autos) ≡ table_of marked 0 n.autos
  table-is = ap (choices_marked passes n s cs) (table-unset 0 n.autos) ∙ choices-marked n s passes cs

  chosen : (k : ℕ) (c : NetChoice) → slice_get cs k ≡ Some c → Chosen n c s
  chosen k c at = chosen-of n cs g.plain.plain (guarded-steps g) k c at s state

  event-below : e < length (system_of_net n).events
  event-below =
      let r = map-length event_tree g.plain.net.events in
      let q = map-length event_in (map event_tree g.plain.net.events) in
      omega (arith, below, r, q)

  one-marked : (i j : ℕ) (a : NetAuto) (y : NetEdge) → slice_get n.autos i ≡ Some a → slice_get a.edges j ≡ Some y → (l k : ℕ) (c : NetChoice) → slice_get (guarded_of n) k ≡ Some c → c.event ≡ e
      → agrees (system_of_net n) s c.event (full_choice n c).1 ≡ true
      → marks_value n s i j l c ≡ (takes_edge (full_choice n c).1 i j && value_leaves (system_of_net n) s e (full_choice n c).1 (edge_meant n y) (net_edge_told n y) l)
  one-marked i j a y p q l k c at own agree =
      let v = chosen k c (ap (λ xs. slice_get xs k) (choices-are g) ∙ at) in
      let w = kept n g.plain.plain i a j y p q in
      let long : length (full_choice n c).1 ≡ length n.autos = (agrees-parts (system_of_net n) s c.event (full_choice n c).1 agree).one_each ∙ map-length (automaton_in n) n.autos in
      let there : edge_there n.autos i j ≡ Some y = ap (λ (o : Option NetAuto). option_and_then (λ (b : NetAuto). slice_get b.edges j) o) p ∙ q in
      let r = channel_range (channel_of n y.event) in
      ap (list_any (hit n s c.event (sending_of n.events s c) i j l)) v.parties
      ∙ move-taken n s c.event (sending_of n.events s c) j l (full_choice n c).1 i long
      ∙ ap (λ o. takes_edge (full_choice n c).1 i j && list_any (nat_eq l) (leaving_of n s c.event (sending_of n.events s c) o)) there
      ∙ ap (λ b. takes_edge (full_choice n c).1 i j && b)
      (leaving-any n c s v y
      (names-each n r (option_to_list y.sent) (λ f m. w.plain f (inr (append-left f (option_to_list y.sent) (updates_exprs y.updates) m))))
      (names-each n r (updates_exprs y.updates) (λ f m. w.plain f (inr (append-right f (option_to_list y.sent) (updates_exprs y.updates) m)))) l)
      ∙ ap (λ d. takes_edge (full_choice n c).1 i j && value_leaves (system_of_net n) s d (full_choice n c).1 (edge_meant n y) (net_edge_told n y) l) own

  value-marked : (i j : ℕ) (a : NetAuto) (y : NetEdge) → slice_get n.autos i ≡ Some a → slice_get a.edges j ≡ Some y → (l : ℕ) → marked i j l ≡ leaves_somewhere n s e i j y l
  value-marked i j a y p q l =
      ap (list_any (λ c. passes c && marks_value n s i j l c)) (choices-are g)
      ∙ any-agreeing n s (within s (pos 0)) e g.plain.plain refl (autos-mean n s g.plain.plain state) event-below (marks_value n s i j l)
      (λ ch. takes_edge ch i j && value_leaves (system_of_net n) s e ch (edge_meant n y) (net_edge_told n y) l) (one-marked i j a y p q l)

  -- the reasons of the marks
  pub leaves-told : marks_told 0 (choices_marked passes n s cs (unmarked n.autos)) ≡ flat_map (leaves_of (system_of g) s e) (enumerate_from 0 (zip (system_of g).automata (told_of_net n).automata))
  leaves-told =
      ap (marks_told 0) table-is
      ∙ marks-told n s e marked
      (λ i j a y p q. record { size = values-long n a y (kept n g.plain.plain i a j y p q).stands; each = λ l h. value-marked i j a y p q l })

  pub few-marks : length (choices_marked passes n s cs (unmarked n.autos)) < 2 ^ 32
  few-marks =
      let size : length (choices_marked passes n s cs (unmarked n.autos)) ≡ length n.autos = ap length table-is ∙ table-length marked 0 n.autos in
      let most = at-most n (net-of n g.plain.plain) in
      omega (arith, size, most)

  pub few-rows : AllByRecursion AreFewRows (choices_marked passes n s cs (unmarked n.autos))
  few-rows = subst (AllByRecursion AreFewRows) (sym table-is) (table-few marked 0 n.autos edges places)
    where
      edges : (c : ℕ) (a : NetAuto) → slice_get n.autos c ≡ Some a → length a.edges < 2 ^ 32
      edges c a p =
          let most = at-most n (net-of n g.plain.plain) in
          let few = edges-below n.autos c a p in
          omega (arith, most, few)

      places : (c d : ℕ) (a : NetAuto) (y : NetEdge) → slice_get n.autos c ≡ Some a → slice_get a.edges d ≡ Some y → length y.places < 2 ^ 32
      places c d a y p q = places-below n a y (kept n g.plain.plain c a d y p q).stands
