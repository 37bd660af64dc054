-- The law of the frame: round statements that try the events one by one, it makes the exact scan. What is asked of the
-- statements of an event of the two classes is a premise over any relation of memories and states.
use Rattle.std.proofs.Common.{◌≡◌, ◌≢◌, ℕ, zero, suc, ◌+◌, ◌^◌, ◌<◌, ◌≤◌, ℤ, pos, Bool, true, false, ◌&&◌, List, [], ◌∷◌, length, Option, Some, None, Ok, Err, ◌⊎◌, inl, inr, get_or, refl, sym, ap, subst, ◌∙◌, arith, lt-ltb, le-ltb, nat_lt}
use Rattle.std.specs.Prelude.{IsTrue, slice_set, unwrap_or, int_lt, if◌then◌else◌}
use Rattle.std.proofs.lemmas.List.{get_or-set_same, get_or-set_other}
use Rattle.grammar.specs.Pieces.{Text}
use Rattle.st_ast.specs.declared.tree.StVar.{StVar}
use Rattle.st_ast.specs.declared.tree.StTy.TheVariants as ty
use Rattle.st_ast.specs.Names.{place_of}
use Rattle.st_ast.specs.Tree.{Stms, truth, number, named, sum, terms, no_terms, assign, loop, no_stms, stms, append}
use Rattle.st_ast.specs.Values.{overflow, Memory, both, of_bool, is_true, fits, value_of, with_value, checked, added}
use Rattle.st_ast.specs.Exec.{Outcome, Ended, type_at, repeated, exec, exec_one, and_then}
use Rattle.st_ast.specs.Scan.{store_row}
use Rattle.st_ast.proofs.Runs.{append_runs, cons_runs, assign_runs, turn_goes, turn_stops}
use Rattle.cif_system.specs.Words.{Member}
use Rattle.cif_system.specs.System.{Class, con, unc, System, State}
use Rattle.cif_system.specs.Step.{is_of}
use Rattle.cif_system.specs.Choices.{first_step}
use Rattle.cif_system.specs.Scan.{fire, fire_all, of_class, rounds, with_inputs, exact_scan}
use Rattle.cif_system.proofs.ScanLaws.{of_class-is}
use Rattle.plc_model.specs.Frame.{fired, rounds_made, tries_of, goes_on, one_more_round, one_round, loop_of, frame, HasClass}

-- ---- systems

-- no event of the list has a step
abbrev pub Idle : System → State → List ℕ → Type 0
Idle sys s es = (e : ℕ) → Member e es → first_step sys s e ≡ None

pub fire_idle : (sys : System) (s : State) (e : ℕ) → first_step sys s e ≡ None → fire sys s e ≡ s
fire_idle sys s e h = ap (λ o. unwrap_or o s) h

pub fire_all-idle : (sys : System) (s : State) (es : List ℕ) → Idle sys s es → fire_all sys s es ≡ s
fire_all-idle sys s [] h = refl
fire_all-idle sys s (e ∷ es) h =
    let same = fire_idle sys s e (h e (inl refl)) in
    ap (λ t. fire_all sys t es) same ∙ fire_all-idle sys s es (λ i m. h i (inr m))

pub rounds-idle : (sys : System) (k : Class) (n : ℕ) (s : State) → Idle sys s (of_class sys k) → rounds sys k n s ≡ s
rounds-idle sys k zero s h = refl
rounds-idle sys k (suc n) s h = ap (rounds sys k n) (fire_all-idle sys s (of_class sys k) h) ∙ rounds-idle sys k n s h

-- ---- variables

-- the mark and the counter stand at the places f and r
pub record LoopVars (vars : List StVar) (f r : ℕ) : Type 0 where
  pub fired_at : place_of vars fired ≡ f
  pub rounds_at : place_of vars rounds_made ≡ r
  pub fired_type : type_at vars f ≡ ty.Bool
  pub rounds_type : type_at vars r ≡ ty.Lint
  pub apart : f ≢ r
  pub apart_too : r ≢ f

truth-of_bool : (b : Bool) → is_true (of_bool b) ≡ b
truth-of_bool true = refl
truth-of_bool false = refl

module _ (vars : List StVar) (f r : ℕ) (v : LoopVars vars f r) where
  mark_runs : (b : Bool) (n : ℕ) (m : Memory) → exec_one vars (assign fired (truth b)) n m ≡ Ended n (slice_set m f (of_bool b))
  mark_runs b n m = assign_runs vars fired (truth b) f (of_bool b) n m v.fired_at refl (rw v.fired_type refl)

  reset_runs : (n : ℕ) (m : Memory) → exec_one vars (assign rounds_made (number (pos 0))) n m ≡ Ended n (slice_set m r (pos 0))
  reset_runs n m = assign_runs vars rounds_made (number (pos 0)) r (pos 0) n m v.rounds_at refl (rw v.rounds_type refl)

  named_value : (x : Text) (k : ℕ) (z : ℤ) (m : Memory) → place_of vars x ≡ k → get_or m k (pos 0) ≡ z → value_of vars (named x) m ≡ Ok z
  named_value x k z m at is = ap (λ p. Ok (get_or m p (pos 0))) at ∙ ap Ok is

  one_more_value : (j : ℕ) (m : Memory) → get_or m r (pos 0) ≡ pos j → j + 1 < 2 ^ 63 → value_of vars (sum (named rounds_made) (terms false (number (pos 1)) no_terms)) m ≡ Ok (pos (j + 1))
  one_more_value j m is small =
      let fine : fits 64 (pos (j + 1)) ≡ true = lt-ltb (j + 1) (2 ^ 63) small in
      ap (λ p. with_value (Ok (get_or m p (pos 0))) (λ e. Err e) (λ x. with_value (checked 64 (added false x (pos 1))) (λ e. Err e) (λ y. Ok y))) v.rounds_at
      ∙ ap (λ z. with_value (checked 64 (added false z (pos 1))) (λ e. Err e) (λ y. Ok y)) is
      ∙ ap (λ b. with_value (if b then Ok (pos (j + 1)) else Err overflow) (λ e. Err e) (λ y. Ok y)) fine

  count_runs : (j n : ℕ) (m : Memory) → get_or m r (pos 0) ≡ pos j → j + 1 < 2 ^ 63 → exec_one vars one_more_round n m ≡ Ended n (slice_set m r (pos (j + 1)))
  count_runs j n m is small = assign_runs vars rounds_made (sum (named rounds_made) (terms false (number (pos 1)) no_terms)) r (pos (j + 1)) n m v.rounds_at (one_more_value j m is small) (rw v.rounds_type refl)

  -- the loop's condition, by the mark and the counter
  goes_on_value : (bound j : ℕ) (z : ℤ) (m : Memory) → get_or m f (pos 0) ≡ z → get_or m r (pos 0) ≡ pos j
      → value_of vars (goes_on bound) m ≡ Ok (of_bool (is_true z && is_true (of_bool (nat_lt j bound))))
  goes_on_value bound j z m is_z is_j =
      ap (λ p. with_value (Ok (get_or m p (pos 0))) (λ e. Err e) (λ x. with_value (both (λ a b. Ok (of_bool (int_lt a b))) (Ok (get_or m (place_of vars rounds_made) (pos 0))) (Ok (pos bound))) (λ e. Err e) (λ y. Ok (of_bool ((true && is_true x) && is_true y))))) v.fired_at
      ∙ ap (λ p. with_value (Ok (get_or m f (pos 0))) (λ e. Err e) (λ x. with_value (both (λ a b. Ok (of_bool (int_lt a b))) (Ok (get_or m p (pos 0))) (Ok (pos bound))) (λ e. Err e) (λ y. Ok (of_bool ((true && is_true x) && is_true y))))) v.rounds_at
      ∙ ap (λ c. Ok (of_bool ((true && is_true c) && is_true (of_bool (int_lt (get_or m r (pos 0)) (pos bound)))))) is_z
      ∙ ap (λ c. Ok (of_bool ((true && is_true z) && is_true (of_bool (int_lt c (pos bound)))))) is_j

  -- ---- events, rounds and loops, over what is known of the memories that stand for a state

  module _ (sys : System) (Stands : Memory → State → Type 0) (body : ℕ → Stms) where
    abbrev pub Marked : Option State → Memory → Memory → Type 0
    Marked None m after = get_or after f (pos 0) ≡ get_or m f (pos 0)
    Marked (Some t) m after = get_or after f (pos 0) ≡ pos 1

    -- What the statements of an event do from a memory that stands for a state: they end without a fault and without a turn,
    -- leave the counter, and then the memory stands for the event's first step, if there is one, and the mark is set.
    pub record Tried (e n : ℕ) (m : Memory) (s : State) : Type 0 where
      pub after : Memory
      pub ends : exec vars (body e) n m ≡ Ended n after
      pub kept : get_or after r (pos 0) ≡ get_or m r (pos 0)
      pub stands : Stands after (fire sys s e)
      pub marked : Marked (first_step sys s e) m after

    pub record Frames : Type 0 where
      pub room : (m : Memory) (s : State) → Stands m s → (f < length m) × (r < length m)
      pub fired_free : (m : Memory) (s : State) (b : Bool) → Stands m s → Stands (slice_set m f (of_bool b)) s
      pub rounds_free : (m : Memory) (s : State) (j : ℕ) → j < 2 ^ 63 → Stands m s → Stands (slice_set m r (pos j)) s
      pub tried : (e n : ℕ) (m : Memory) (s : State) → HasClass sys e → Stands m s → Tried e n m s

    -- the mark is set, or it is as it was and nothing of what was tried has a step
    abbrev MarkedOrIdle : List ℕ → ℤ → Memory → State → Type 0
    MarkedOrIdle es before after s = (get_or after f (pos 0) ≡ pos 1) ⊎ ((get_or after f (pos 0) ≡ before) × Idle sys s es)

    mark_on : (e : ℕ) (es : List ℕ) (s : State) (m one rest : Memory) (o : Option State) → first_step sys s e ≡ o → Marked o m one
        → MarkedOrIdle es (get_or one f (pos 0)) rest (fire sys s e) → MarkedOrIdle (e ∷ es) (get_or m f (pos 0)) rest s
    mark_on e es s m one rest o is mark (inl set) = inl set
    mark_on e es s m one rest (Some t) is mark (inr idle) = inl (idle.0 ∙ mark)
    mark_on e es s m one rest None is mark (inr idle) =
        inr (idle.0 ∙ mark, λ i w. elim w [ inl same ↦ subst (λ j. first_step sys s j ≡ None) (sym same) is | inr w ↦ subst (λ t. first_step sys t i ≡ None) (fire_idle sys s e is) (idle.1 i w) ])

    record AllTried (es : List ℕ) (n : ℕ) (m : Memory) (s : State) : Type 0 where
      after : Memory
      ends : exec vars (tries_of body es) n m ≡ Ended n after
      kept : get_or after r (pos 0) ≡ get_or m r (pos 0)
      stands : Stands after (fire_all sys s es)
      marked : MarkedOrIdle es (get_or m f (pos 0)) after s

    module _ (fr : Frames) where
      all_tried : (es : List ℕ) → ((e : ℕ) → Member e es → HasClass sys e) → (n : ℕ) (m : Memory) (s : State) → Stands m s → AllTried es n m s
      all_tried [] classed n m s st = record { after = m; ends = refl; kept = refl; stands = st; marked = inr (refl, λ e w. absurd w) }
      all_tried (e ∷ es) classed n m s st =
          let one = fr.tried e n m s (classed e (inl refl)) st in
          let rest = all_tried es (λ i w. classed i (inr w)) n one.after (fire sys s e) one.stands in
          record {
            after = rest.after;
            ends = append_runs vars (body e) (tries_of body es) n n m one.after one.ends ∙ rest.ends;
            kept = rest.kept ∙ one.kept;
            stands = rest.stands;
            marked = mark_on e es s m one.after rest.after (first_step sys s e) refl one.marked rest.marked;
          }

      -- one turn of the loop, from a counter of j
      record Turned (es : List ℕ) (n : ℕ) (m : Memory) (s : State) (j : ℕ) : Type 0 where
        after : Memory
        ends : exec vars (one_round (tries_of body es)) n m ≡ Ended n after
        rounds_is : get_or after r (pos 0) ≡ pos (j + 1)
        stands : Stands after (fire_all sys s es)
        marked : MarkedOrIdle es (pos 0) after s

      turned : (es : List ℕ) → ((e : ℕ) → Member e es → HasClass sys e) → (n : ℕ) (m : Memory) (s : State) (j : ℕ) → Stands m s → get_or m r (pos 0) ≡ pos j → j + 1 < 2 ^ 63 → Turned es n m s j
      turned es classed n m s j st is small =
          let cleared = slice_set m f (pos 0) in
          let st_cleared : Stands cleared s = fr.fired_free m s false st in
          let tried = all_tried es classed n cleared s st_cleared in
          let room = fr.room tried.after (fire_all sys s es) tried.stands in
          let counted = slice_set tried.after r (pos (j + 1)) in
          let clear : get_or cleared f (pos 0) ≡ pos 0 = get_or-set_same m f (pos 0) (pos 0) (fr.room m s st).0 in
          let was : get_or tried.after r (pos 0) ≡ pos j = tried.kept ∙ get_or-set_other m f r (pos 0) (pos 0) v.apart_too ∙ is in
          let still : get_or counted f (pos 0) ≡ get_or tried.after f (pos 0) = get_or-set_other tried.after r f (pos (j + 1)) (pos 0) v.apart in
          record {
            after = counted;
            ends = cons_runs vars (assign fired (truth false)) (append (tries_of body es) (stms one_more_round no_stms)) n n m cleared (mark_runs false n m)
                ∙ append_runs vars (tries_of body es) (stms one_more_round no_stms) n n cleared tried.after tried.ends
                ∙ cons_runs vars one_more_round no_stms n n tried.after counted (count_runs j n tried.after was small);
            rounds_is = get_or-set_same tried.after r (pos (j + 1)) (pos 0) room.1;
            stands = fr.rounds_free tried.after (fire_all sys s es) (j + 1) small tried.stands;
            marked = elim tried.marked [ inl set ↦ inl (still ∙ set) | inr idle ↦ inr (still ∙ idle.0 ∙ clear, idle.1) ];
          }

      -- the loop of a class from a turn on, with k rounds to make
      record Looped (c : Class) (bound k tests n : ℕ) (m : Memory) (s : State) : Type 0 where
        left : ℕ
        after : Memory
        ends : repeated tests (value_of vars (goes_on bound)) (λ l i. exec vars (one_round (tries_of body (of_class sys c))) l i) n m ≡ Ended left after
        stands : Stands after (rounds sys c k s)
        enough : n ≤ left + k

      stopped : (bound tests n : ℕ) (m : Memory) (c : Class) (z : ℤ) (j : ℕ) → get_or m f (pos 0) ≡ z → get_or m r (pos 0) ≡ pos j → (is_true z && is_true (of_bool (nat_lt j bound))) ≡ false → 0 < tests
          → repeated tests (value_of vars (goes_on bound)) (λ l i. exec vars (one_round (tries_of body (of_class sys c))) l i) n m ≡ Ended n m
      stopped bound zero n m c z j is_z is_j off some = absurd (omega arith)
      stopped bound (suc tests) n m c z j is_z is_j off some =
          turn_stops tests n (value_of vars (goes_on bound)) (λ l i. exec vars (one_round (tries_of body (of_class sys c))) l i) m
          (of_bool (is_true z && is_true (of_bool (nat_lt j bound)))) (goes_on_value bound j z m is_z is_j) (truth-of_bool (is_true z && is_true (of_bool (nat_lt j bound))) ∙ off)

      at_end : (j bound : ℕ) → j ≡ bound → (true && is_true (of_bool (nat_lt j bound))) ≡ false
      at_end j bound e = let no : nat_lt j bound ≡ false = le-ltb j bound (omega arith) in rw no refl

      before_end : (j bound : ℕ) → j < bound → (true && is_true (of_bool (nat_lt j bound))) ≡ true
      before_end j bound e = let is : nat_lt j bound ≡ true = lt-ltb j bound e in rw is refl

      after_turn : (c : Class) (bound k tests n : ℕ) (m : Memory) (s : State) (j : ℕ) → get_or m f (pos 0) ≡ pos 1 → get_or m r (pos 0) ≡ pos j → j < bound → k < tests
          → (t : Turned (of_class sys c) n m s j) → (get_or t.after f (pos 0) ≡ pos 1 → Looped c bound k tests n t.after (fire_all sys s (of_class sys c)))
          → Looped c bound (suc k) (suc tests) (suc n) m s
      after_turn c bound k tests n m s j set is below room t rest = elim t.marked [ inl again ↦ goes again | inr idle ↦ stops idle ]
        where
          turn : repeated (suc tests) (value_of vars (goes_on bound)) (λ l i. exec vars (one_round (tries_of body (of_class sys c))) l i) (suc n) m
              ≡ repeated tests (value_of vars (goes_on bound)) (λ l i. exec vars (one_round (tries_of body (of_class sys c))) l i) n t.after
          turn = turn_goes tests n (value_of vars (goes_on bound)) (λ l i. exec vars (one_round (tries_of body (of_class sys c))) l i) m
              (of_bool (is_true (pos 1) && is_true (of_bool (nat_lt j bound)))) (goes_on_value bound j (pos 1) m set is)
              (truth-of_bool (is_true (pos 1) && is_true (of_bool (nat_lt j bound))) ∙ before_end j bound below)
              ∙ ap (λ o. and_then o (repeated tests (value_of vars (goes_on bound)) (λ l i. exec vars (one_round (tries_of body (of_class sys c))) l i))) t.ends

          goes : get_or t.after f (pos 0) ≡ pos 1 → Looped c bound (suc k) (suc tests) (suc n) m s
          goes again =
              let l = rest again in
              record { left = l.left; after = l.after; ends = turn ∙ l.ends; stands = l.stands; enough = omega (arith, l.enough) }

          stops : (get_or t.after f (pos 0) ≡ pos 0) × Idle sys s (of_class sys c) → Looped c bound (suc k) (suc tests) (suc n) m s
          stops idle = record {
            left = n;
            after = t.after;
            ends = turn ∙ stopped bound tests n t.after c (pos 0) (j + 1) idle.0 t.rounds_is refl (omega arith);
            stands = subst (Stands t.after) (fire_all-idle sys s (of_class sys c) idle.1 ∙ sym (rounds-idle sys c (suc k) s idle.1)) t.stands;
            enough = omega arith;
          }

      -- the loops are of the two classes alone
      abbrev IsLooped : Class → Type 0
      IsLooped c = (c ≡ unc) ⊎ (c ≡ con)

      classed_by : (c : Class) → IsLooped c → (e : ℕ) → Member e (of_class sys c) → HasClass sys e
      classed_by c (inl is) e w = inl (subst (λ k. IsTrue (is_of sys k e)) is (of_class-is sys c e w))
      classed_by c (inr is) e w = inr (subst (λ k. IsTrue (is_of sys k e)) is (of_class-is sys c e w))

      looped : (c : Class) → IsLooped c → (bound : ℕ) → bound < 2 ^ 63 → (k tests n : ℕ) (m : Memory) (s : State) (j : ℕ) → Stands m s → get_or m f (pos 0) ≡ pos 1 → get_or m r (pos 0) ≡ pos j
          → j + k ≡ bound → k ≤ n → k < tests → Looped c bound k tests n m s
      looped c is_looped bound small zero tests n m s j st set is all enough more = record {
        left = n;
        after = m;
        ends = stopped bound tests n m c (pos 1) j set is (at_end j bound (omega arith)) (omega arith);
        stands = st;
        enough = omega arith;
      }
      looped c is_looped bound small (suc k) tests zero m s j st set is all enough more = absurd (omega arith)
      looped c is_looped bound small (suc k) zero (suc n) m s j st set is all enough more = absurd (omega arith)
      looped c is_looped bound small (suc k) (suc tests) (suc n) m s j st set is all enough more =
          let t = turned (of_class sys c) (classed_by c is_looped) n m s j st is (omega arith) in
          after_turn c bound k tests n m s j set is (omega arith) (omega arith) t
          (λ again. looped c is_looped bound small k tests n t.after (fire_all sys s (of_class sys c)) (j + 1) t.stands again t.rounds_is (omega arith) (omega arith) (omega arith))

      -- the statements of a class
      record ClassRun (c : Class) (bound n : ℕ) (m : Memory) (s : State) : Type 0 where
        left : ℕ
        after : Memory
        ends : exec vars (loop_of bound (tries_of body (of_class sys c))) n m ≡ Ended left after
        stands : Stands after (rounds sys c bound s)
        enough : n ≤ left + bound

      class_runs : (c : Class) → IsLooped c → (bound n : ℕ) (m : Memory) (s : State) → bound < 2 ^ 63 → bound ≤ n → Stands m s → ClassRun c bound n m s
      class_runs c is_looped bound n m s small enough st =
          let marked = slice_set m f (pos 1) in
          let reset = slice_set marked r (pos 0) in
          let st_marked : Stands marked s = fr.fired_free m s true st in
          let st_reset : Stands reset s = fr.rounds_free marked s 0 (omega arith) st_marked in
          let set : get_or reset f (pos 0) ≡ pos 1 = get_or-set_other marked r f (pos 0) (pos 0) v.apart ∙ get_or-set_same m f (pos 1) (pos 0) (fr.room m s st).0 in
          let is : get_or reset r (pos 0) ≡ pos 0 = get_or-set_same marked r (pos 0) (pos 0) (fr.room marked s st_marked).1 in
          let l = looped c is_looped bound small bound (suc n) n reset s 0 st_reset set is (omega arith) enough (omega arith) in
          let rest : Stms = stms (loop (goes_on bound) (one_round (tries_of body (of_class sys c)))) no_stms in
          record {
            left = l.left;
            after = l.after;
            ends = cons_runs vars (assign fired (truth true)) (stms (assign rounds_made (number (pos 0))) rest) n n m marked (mark_runs true n m)
                ∙ cons_runs vars (assign rounds_made (number (pos 0))) rest n n marked reset (reset_runs n marked)
                ∙ cons_runs vars (loop (goes_on bound) (one_round (tries_of body (of_class sys c)))) no_stms n l.left reset l.after l.ends;
            stands = l.stands;
            enough = l.enough;
          }

      -- ---- scans

      module _ (latches outputs : Stms) (InRange : List ℤ → Type 0) (Shows : Memory → State → Type 0) where
        -- what the statements before the loops and after them do
        pub record Ends : Type 0 where
          pub latched : (n : ℕ) (row : List ℤ) (m : Memory) (s : State) → InRange row → Stands m s
              → (after : Memory) × (exec vars latches n (store_row vars row m) ≡ Ended n after) × Stands after (with_inputs s row)
          pub written : (n : ℕ) (m : Memory) (s : State) → Stands m s → (after : Memory) × (exec vars outputs n m ≡ Ended n after) × Stands after s × Shows after s

        pub record Scanned (U C : ℕ) (row : List ℤ) (m : Memory) (s : State) (outcome : Outcome) : Type 0 where
          pub left : ℕ
          pub after : Memory
          pub ends : outcome ≡ Ended left after
          pub stands : Stands after (exact_scan sys s row U C)
          pub shows : Shows after (exact_scan sys s row U C)

        abbrev pub around : ℕ → ℕ → Stms
        around U C = frame latches body (of_class sys unc) (of_class sys con) U C outputs

        -- One scan of the framed statements is the exact scan.
        pub frame-scans : Ends → (U C n : ℕ) (row : List ℤ) (m : Memory) (s : State) → InRange row → Stands m s → U < 2 ^ 63 → C < 2 ^ 63 → U + C ≤ n
            → Scanned U C row m s (exec vars (around U C) n (store_row vars row m))
        frame-scans ends U C n row m s in_range st small_U small_C enough =
            let l = ends.latched n row m s in_range st in
            let a = class_runs unc (inl refl) U n l.0 (with_inputs s row) small_U (omega arith) l.2 in
            let b = class_runs con (inr refl) C a.left a.after (rounds sys unc U (with_inputs s row)) small_C (omega (arith, a.enough)) a.stands in
            let w = ends.written b.left b.after (exact_scan sys s row U C) b.stands in
            let loops_C : Stms = append (loop_of C (tries_of body (of_class sys con))) outputs in
            record {
              left = b.left;
              after = w.0;
              ends = append_runs vars latches (append (loop_of U (tries_of body (of_class sys unc))) loops_C) n n (store_row vars row m) l.0 l.1
                  ∙ append_runs vars (loop_of U (tries_of body (of_class sys unc))) loops_C n a.left l.0 a.after a.ends
                  ∙ append_runs vars (loop_of C (tries_of body (of_class sys con))) outputs a.left b.left a.after b.after b.ends
                  ∙ w.1;
              stands = w.2;
              shows = w.3;
            }
