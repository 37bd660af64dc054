-- What the statements of updates do: the new values are those that the net assigns, and the mark keeps whether all are in
-- their ranges.
use Rattle.std.proofs.Common.{◌≡◌, ◌≢◌, ℕ, ◌+◌, ◌-◌, ◌≤◌, ◌<◌, ℤ, pos, int_le, Bool, true, false, ◌&&◌, List, [], ◌∷◌, ◌++◌, length, Option, Some, None, Ok, nat_eq, cond, refl, sym, ap, subst, ◌∙◌, arith, eqb-true, unwrap_or}
use Rattle.std.specs.Prelude.{slice_get, slice_set, slice_index_or, option_map, if◌then◌else◌}
use Rattle.std.proofs.lemmas.List.{get_or-set_same, get_or-set_other}
use Rattle.std.proofs.lemmas.Option.{unwrap_or-slice_get}
use Rattle.std.proofs.lemmas.Bool.{eqb-false}
use Rattle.cif_system.specs.System.{State, Range, in_range}
use Rattle.cif_system.specs.Step.{new_value}
use Rattle.cif_net_expr.specs.Tree.{NetExpr, NetUpdate, net_set, net_choose, NetUpdates, no_net_updates, net_updates, NetUpdateBranches, no_net_update_branches, net_update_branches}
use Rattle.cif_net_model.specs.Value as v
use Rattle.cif_net_model.specs.Net.{NetStored, Net}
use Rattle.cif_net_model.specs.Kinds.{in_32_bits}
use Rattle.cif_net_model.specs.Meaning.{type_range, net_assigned_all, net_assigned_by, net_assigned_in}
use Rattle.st_ast.specs.Tree.{Expr, Stm, Stms, Branches, assign, choice, no_stms, stms, append, no_branches, branches}
use Rattle.st_ast.specs.Names.{place_of}
use Rattle.st_ast.specs.Values.{Memory, of_bool, is_true, value_of, with_value}
use Rattle.st_ast.specs.Exec.{Act, Outcome, Ended, Faulted, exec, exec_other, exec_choice, is_within, type_at}
use Rattle.st_ast.specs.declared.tree.StVar.{StVar}
use Rattle.st_ast.proofs.Runs.{append_runs, assign_runs, cons_runs}
use Rattle.plc_expr.specs.Texts.{Naming, temps, text, before}
use Rattle.cif_net_model.specs.Safe.{Setting, value_at, IsTruth}
use Rattle.plc_expr.specs.Held.{held_at, Held, Prepares}
use Rattle.plc_event_model.specs.Writes.{NewNames, is_tested, tests_stored, tests, stays_in, range_test, conditions_temps, updates_temps, update_temps, bodies_temps, conditions_before, otherwise, chosen, writes, write, write_branches}
use Rattle.plc_event_model.proofs.Numbers.{truth-of, truth-is, number-value}
use Rattle.plc_event_model.proofs.Pairs.{new_value-append, and-true, all_fit, fit-append, fit-one}
use Rattle.plc_event_model.specs.Asked.{setting_of, AllUpdates, OfUpdate, OfBranches, IsFit, CanTake}

-- two memories hold the same at a place
pub same-at : (a b : Memory) (j : ℕ) (z : ℤ) → slice_get a j ≡ slice_get b j → slice_index_or a j z ≡ slice_index_or b j z
same-at a b j z e = sym (unwrap_or-slice_get a j z) ∙ ap (λ o. unwrap_or o z) e ∙ unwrap_or-slice_get b j z

exec-otherwise : (vars : List StVar) (ss : Stms) (turns : ℕ) (m : Memory) → exec_other vars (otherwise ss) turns m ≡ exec vars ss turns m
exec-otherwise vars no_stms turns m = refl
exec-otherwise vars (stms s ss) turns m = refl

module _ (n : Net) (s : State) (r : ℤ) (vars : List StVar) (w : Naming) (y : NewNames) (base low count : ℕ)
    (P : Memory → Type 0) (E : ℕ → NetExpr → Type 0) (V : ℕ → Type 0) (M : Type 0) where
  abbrev x : Setting
  x = setting_of n s r

  -- the own variables of an expression are among those from the number low on
  abbrev pub Room : ℕ → ℕ → Type 0
  Room k c = (low ≤ k) × (k + c ≤ count)

  -- What is known of the memories between the statements, of the expressions, of the variables, and of the mark where it is
  -- there.
  pub record Grounds : Type 0 where
    -- the statements before an expression, and its text
    pub prepares : (e : NetExpr) (k turns : ℕ) (m : Memory) → E k e → Room k (temps e) → P m → Prepares vars w x base k e turns m
    pub prepared_kept : (e : NetExpr) (k turns : ℕ) (m : Memory) → E k e → Room k (temps e) → P m → (q : Prepares vars w x base k e turns m) → P q.after
    pub held_kept : (e : NetExpr) (k : ℕ) (m after : Memory) → E k e → Room k (temps e)
        → ((j : ℕ) → base + k ≤ j → j < base + k + temps e → slice_get after j ≡ slice_get m j) → Held vars w x m k e → Held vars w x after k e
    pub valued : (e : NetExpr) (k : ℕ) (m : Memory) → E k e → P m → Held vars w x m k e → value_of vars (text w k e) m ≡ Ok (value_at x e)
    -- a new value
    pub next_room : (v : ℕ) (m : Memory) → V v → P m → place_of vars (y.next v) < length m
    pub next_apart : (v u : ℕ) → V v → V u → v ≢ u → place_of vars (y.next v) ≢ place_of vars (y.next u)
    pub next_own : (v k : ℕ) → V v → low ≤ k → k < count → place_of vars (y.next v) ≢ base + k
    pub next_type : (v : ℕ) (z : ℤ) → V v → CanTake (slice_get n.vars v) z → is_within (type_at vars (place_of vars (y.next v))) z ≡ true
    pub next_kept : (v : ℕ) (z : ℤ) (m : Memory) → V v → CanTake (slice_get n.vars v) z → P m → P (slice_set m (place_of vars (y.next v)) z)
    -- the mark
    pub marked : (v : ℕ) → V v → tests n v ≡ true → M
    pub mark_room : (m : Memory) → M → P m → place_of vars y.in_range < length m
    pub mark_apart : (v : ℕ) → M → V v → place_of vars y.in_range ≢ place_of vars (y.next v)
    pub mark_own : (k : ℕ) → M → low ≤ k → k < count → place_of vars y.in_range ≢ base + k
    pub mark_type : (b : Bool) → M → is_within (type_at vars (place_of vars y.in_range)) (of_bool b) ≡ true
    pub mark_kept : (b : Bool) (m : Memory) → M → P m → P (slice_set m (place_of vars y.in_range) (of_bool b))
    -- literals of bounds
    pub bounds : (v : ℕ) (d : NetStored) → slice_get n.vars v ≡ Some d → is_tested d.type_of ≡ true
        → (in_32_bits (type_range d.type_of).lo ≡ true) × (in_32_bits (type_range d.type_of).hi ≡ true)

  -- What statements come to that assign these pairs: they end, and the new values and the mark are as they are to be.
  pub record Wrote (pairs : List (ℕ × ℤ)) (out : Outcome) (turns : ℕ) (m : Memory) : Type 0 where
    pub after : Memory
    pub ends : out ≡ Ended turns after
    pub keeps : P after
    pub news : (v : ℕ) → V v → held_at vars after (y.next v) ≡ new_value pairs v (held_at vars m (y.next v))
    pub mark : M → (b : Bool) → held_at vars m y.in_range ≡ of_bool b → held_at vars after y.in_range ≡ of_bool (b && all_fit n pairs)

  wrote-none : (turns : ℕ) (m : Memory) → P m → Wrote [] (Ended turns m) turns m
  wrote-none turns m keeps = record { after = m; ends = refl; keeps = keeps; news = λ v i. refl; mark = λ t b e. e ∙ ap of_bool (and-true b) }

  -- statements and then others, whose pairs win
  wrote-then : (xs ys : List (ℕ × ℤ)) (ss ts : Stms) (turns : ℕ) (m : Memory) (a : Wrote ys (exec vars ss turns m) turns m)
      → Wrote xs (exec vars ts turns a.after) turns a.after → Wrote (xs ++ ys) (exec vars (append ss ts) turns m) turns m
  wrote-then xs ys ss ts turns m a b = record {
    after = b.after;
    ends = append_runs vars ss ts turns turns m a.after a.ends ∙ b.ends;
    keeps = b.keeps;
    news = λ v i. b.news v i ∙ ap (new_value xs v) (a.news v i) ∙ sym (new_value-append xs ys v (held_at vars m (y.next v)));
    mark = λ t c e. b.mark t (c && all_fit n ys) (a.mark t c e) ∙ ap of_bool (fit-append n c xs ys);
  }

  -- statements that assign nothing before others
  wrote-after : (xs : List (ℕ × ℤ)) (ss ts : Stms) (turns : ℕ) (m : Memory) (a : Wrote [] (exec vars ss turns m) turns m)
      → Wrote xs (exec vars ts turns a.after) turns a.after → Wrote xs (exec vars (append ss ts) turns m) turns m
  wrote-after xs ss ts turns m a b = record {
    after = b.after;
    ends = append_runs vars ss ts turns turns m a.after a.ends ∙ b.ends;
    keeps = b.keeps;
    news = λ v i. b.news v i ∙ ap (new_value xs v) (a.news v i);
    mark = λ t c e. b.mark t c (a.mark t c e ∙ ap of_bool (sym (and-true c)));
  }

  -- the same outcome
  wrote-as : (xs : List (ℕ × ℤ)) (o out : Outcome) (turns : ℕ) (m : Memory) → o ≡ out → Wrote xs out turns m → Wrote xs o turns m
  wrote-as xs o out turns m same a = record { after = a.after; ends = same ∙ a.ends; keeps = a.keeps; news = a.news; mark = a.mark }

  module _ (g : Grounds) where
    -- ---- before an expression

    -- places of other variables keep what they hold
    beyond : (e : NetExpr) (k turns : ℕ) (m : Memory) (q : Prepares vars w x base k e turns m) (j : ℕ) → Room k (temps e) → ((i : ℕ) → low ≤ i → i < count → j ≢ base + i)
        → slice_index_or q.after j (pos 0) ≡ slice_index_or m j (pos 0)
    beyond e k turns m q j room apart = same-at q.after m j (pos 0) (q.beside.others j after)
      where
        after : base + k ≤ j → base + k + temps e ≤ j
        after above = let o : low ≤ j - base → j - base < count → j ≢ base + (j - base) = apart (j - base) in grind (arith, o, above, room.0, room.1)

    pub record Known (e : NetExpr) (k turns : ℕ) (m : Memory) : Type 0 where
      pub wrote : Wrote [] (exec vars (before w k e) turns m) turns m
      pub held : Held vars w x wrote.after k e
      pub same_length : length wrote.after ≡ length m
      pub others : (j : ℕ) → (base + k ≤ j → base + k + temps e ≤ j) → slice_get wrote.after j ≡ slice_get m j

    known : (e : NetExpr) (k turns : ℕ) (m : Memory) → E k e → Room k (temps e) → P m → Known e k turns m
    known e k turns m is room keeps =
        let q = g.prepares e k turns m is room keeps in
        record {
          wrote = record {
            after = q.after;
            ends = q.runs;
            keeps = g.prepared_kept e k turns m is room keeps q;
            news = λ v i. beyond e k turns m q (place_of vars (y.next v)) room (λ j from below. g.next_own v j i from below);
            mark = λ t b h. beyond e k turns m q (place_of vars y.in_range) room (λ j from below. g.mark_own j t from below) ∙ h ∙ ap of_bool (and-true b);
          };
          held = q.held;
          same_length = q.beside.same_length;
          others = q.beside.others;
        }

    -- ---- an assignment

    new-here : (v u : ℕ) (z : ℤ) (m : Memory) → V v → V u → P m
        → held_at vars (slice_set m (place_of vars (y.next v)) z) (y.next u) ≡ new_value ((v, z) ∷ []) u (held_at vars m (y.next u))
    new-here v u z m i j keeps = go (nat_eq v u) refl
      where
        go : (b : Bool) → nat_eq v u ≡ b
            → held_at vars (slice_set m (place_of vars (y.next v)) z) (y.next u)
            ≡ unwrap_or (option_map (λ (c : ℕ × ℤ). c.1) (cond b (Some (v, z)) None)) (held_at vars m (y.next u))
        go true e =
            let same : v ≡ u = eqb-true v u e in
            ap (λ q. held_at vars (slice_set m (place_of vars (y.next v)) z) (y.next q)) (sym same)
            ∙ get_or-set_same m (place_of vars (y.next v)) z (pos 0) (g.next_room v m i keeps)
        go false e =
            get_or-set_other m (place_of vars (y.next v)) (place_of vars (y.next u)) z (pos 0)
            (λ h. g.next_apart v u i j (eqb-false v u e) (sym h))

    -- the number of a new value is between two, as the text and the net say it
    stays-value : (m : Memory) (v : ℕ) (q : Range) (z : ℤ) → in_32_bits q.lo ≡ true → in_32_bits q.hi ≡ true → held_at vars m (y.next v) ≡ z
        → value_of vars (stays_in y.in_range (y.next v) q) m ≡ Ok (of_bool (is_true (held_at vars m y.in_range) && in_range q z))
    stays-value m v q z lo hi new =
        rw (number-value vars m q.lo lo, number-value vars m q.hi hi, new) (ap (λ c. Ok (of_bool c)) (three (is_true (held_at vars m y.in_range)) (int_le q.lo z) (int_le z q.hi)))
      where
        three : (b c d : Bool) → (true && b && is_true (of_bool c) && is_true (of_bool d)) ≡ (b && (c && d))
        three true true true = refl
        three true true false = refl
        three true false true = refl
        three true false false = refl
        three false true true = refl
        three false true false = refl
        three false false true = refl
        three false false false = refl

    -- a new value is assigned, and tested where its type wants that
    module _ (v : ℕ) (d : NetStored) (z : ℤ) (e : Expr) (turns : ℕ) (a : Memory) (i : V v) (at : slice_get n.vars v ≡ Some d) (takes : CanTake (slice_get n.vars v) z)
        (keeps : P a) (value : value_of vars e a ≡ Ok z) where
      abbrev b : Memory
      b = slice_set a (place_of vars (y.next v)) z

      first : (ss : Stms) → exec vars (stms (assign (y.next v) e) ss) turns a ≡ exec vars ss turns b
      first ss =
          cons_runs vars (assign (y.next v) e) ss turns turns a b
          (assign_runs vars (y.next v) e (place_of vars (y.next v)) z turns a refl value (g.next_type v z i takes))

      kept : P b
      kept = g.next_kept v z a i takes keeps

      mark-there : M → held_at vars b y.in_range ≡ held_at vars a y.in_range
      mark-there t = get_or-set_other a (place_of vars (y.next v)) (place_of vars y.in_range) z (pos 0) (g.mark_apart v t i)

      untested : in_range (type_range d.type_of) z ≡ true → Wrote ((v, z) ∷ []) (exec vars (stms (assign (y.next v) e) no_stms) turns a) turns a
      untested fit = record {
        after = b;
        ends = first no_stms;
        keeps = kept;
        news = λ u j. new-here v u z a i j keeps;
        mark = λ t c h. mark-there t ∙ h ∙ ap of_bool (and-true c ∙ ap (λ r. c && r) (sym (fit-one n v d z at ∙ fit)));
      }

      abbrev so_far : Bool
      so_far = is_true (held_at vars b y.in_range)

      abbrev test : Bool
      test = in_range (type_range d.type_of) z

      abbrev end : Memory
      end = slice_set b (place_of vars y.in_range) (of_bool (so_far && test))

      abbrev marks_range : Stm
      marks_range = assign y.in_range (stays_in y.in_range (y.next v) (type_range d.type_of))

      tested : is_tested d.type_of ≡ true → Wrote ((v, z) ∷ []) (exec vars (stms (assign (y.next v) e) (stms marks_range no_stms)) turns a) turns a
      tested is =
          let t : M = g.marked v i (ap tests_stored at ∙ is) in
          let l = g.bounds v d at is in
          record {
            after = end;
            ends = first (stms marks_range no_stms)
                ∙ cons_runs vars marks_range no_stms turns turns b end
                (assign_runs vars y.in_range (stays_in y.in_range (y.next v) (type_range d.type_of)) (place_of vars y.in_range) (of_bool (so_far && test)) turns b refl
                (stays-value b v (type_range d.type_of) z l.0 l.1 (get_or-set_same a (place_of vars (y.next v)) z (pos 0) (g.next_room v a i keeps))) (g.mark_type (so_far && test) t));
            keeps = g.mark_kept (so_far && test) b t kept;
            news = λ u j.
                get_or-set_other b (place_of vars y.in_range) (place_of vars (y.next u)) (of_bool (so_far && test)) (pos 0) (λ h. g.mark_apart u t j (sym h))
                ∙ new-here v u z a i j keeps;
            mark = λ t c h.
                get_or-set_same b (place_of vars y.in_range) (of_bool (so_far && test)) (pos 0) (g.mark_room b t kept)
                ∙ ap (λ r. of_bool (is_true r && test)) (mark-there t ∙ h)
                ∙ ap (λ r. of_bool (r && test)) (truth-of c)
                ∙ ap (λ r. of_bool (c && r)) (sym (fit-one n v d z at));
          }

      set-tested : (c : Bool) → is_tested d.type_of ≡ c → IsFit c (type_range d.type_of) z → Wrote ((v, z) ∷ []) (exec vars (stms (assign (y.next v) e) (if c then stms marks_range no_stms else no_stms)) turns a) turns a
      set-tested true is fit = tested is
      set-tested false is fit = untested fit

    -- an assignment of an expression
    set-wrote : (v : ℕ) (e : NetExpr) (k turns : ℕ) (m : Memory) → V v → E k e → CanTake (slice_get n.vars v) (value_at x e) → Room k (temps e) → P m
        → Wrote ((v, value_at x e) ∷ []) (exec vars (write n w y k (net_set v e)) turns m) turns m
    set-wrote v e k turns m i is takes room keeps =
        let q = known e k turns m is room keeps in
        wrote-after ((v, value_at x e) ∷ []) (before w k e) (stms (assign (y.next v) (text w k e)) (range_test y v (slice_get n.vars v))) turns m q.wrote
        (go (slice_get n.vars v) refl takes q)
      where
        go : (o : Option NetStored) → slice_get n.vars v ≡ o → CanTake o (value_at x e) → (q : Known e k turns m)
            → Wrote ((v, value_at x e) ∷ []) (exec vars (stms (assign (y.next v) (text w k e)) (range_test y v o)) turns q.wrote.after) turns q.wrote.after
        go None at t q = absurd t
        go (Some d) at t q =
            set-tested v d (value_at x e) (text w k e) turns q.wrote.after i at takes q.wrote.keeps
            (g.valued e k q.wrote.after is q.wrote.keeps q.held) (is_tested d.type_of) refl t

    -- ---- conditions

    -- each is assigned what it can take, and each condition is true or false
    abbrev pub Sets : ℕ → ℕ → NetExpr → Type 0
    Sets k v e = V v × E k e × CanTake (slice_get n.vars v) (value_at x e)

    abbrev pub Tells : ℕ → NetExpr → Type 0
    Tells k c = E k c × IsTruth (value_at x c)

    -- the conditions' own variables hold what they are to hold
    abbrev HeldConditions : ℕ → NetUpdateBranches → Memory → Type 0
    HeldConditions k no_net_update_branches m = Unit {0}
    HeldConditions k (net_update_branches c us bs) m = Held vars w x m k c × HeldConditions (k + temps c) bs m

    record KnownConditions (bs : NetUpdateBranches) (k turns : ℕ) (m : Memory) : Type 0 where
      pub wrote : Wrote [] (exec vars (conditions_before w k bs) turns m) turns m
      pub held : HeldConditions k bs wrote.after
      pub others : (j : ℕ) → (base + k ≤ j → base + k + conditions_temps bs ≤ j) → slice_get wrote.after j ≡ slice_get m j

    known-conditions : (bs : NetUpdateBranches) (k j turns : ℕ) (m : Memory) → OfBranches Sets Tells k j bs → Room k (conditions_temps bs) → P m → KnownConditions bs k turns m
    unfolding wrote-none wrote-then
    known-conditions no_net_update_branches k j turns m all room keeps = record { wrote = wrote-none turns m keeps; held = tt; others = λ j h. refl }
    known-conditions (net_update_branches c us bs) k j turns m all room keeps =
        let q = known c k turns m all.0.0 (omega (arith, room), omega (arith, room)) keeps in
        let t = known-conditions bs (k + temps c) (j + updates_temps us) turns q.wrote.after all.2 (omega (arith, room), omega (arith, room)) q.wrote.keeps in
        record {
          wrote = wrote-then [] [] (before w k c) (conditions_before w (k + temps c) bs) turns m q.wrote t.wrote;
          held = (
            g.held_kept c k q.wrote.after t.wrote.after all.0.0 (omega (arith, room), omega (arith, room)) (λ j above below. t.others j (λ h. omega (arith, h, below))) q.held,
            t.held,
          );
          others = λ i h. t.others i (λ a. omega (arith, a, h)) ∙ q.others i (λ a. omega (arith, a, h));
        }

    -- an IF with these branches
    chosen-wrote : (bs : Branches) (ss : Stms) (pairs : List (ℕ × ℤ)) (turns : ℕ) (m : Memory)
        → Wrote pairs (exec_choice vars bs (λ l i. exec_other vars (otherwise ss) l i) turns m) turns m → Wrote pairs (exec vars (chosen bs ss) turns m) turns m
    chosen-wrote no_branches ss pairs turns m a = wrote-as pairs (exec vars ss turns m) (exec_other vars (otherwise ss) turns m) turns m (sym (exec-otherwise vars ss turns m)) a
    chosen-wrote (branches c ts bs) ss pairs turns m a = record {
      after = a.after;
      ends = cons_runs vars (choice (branches c ts bs) (otherwise ss)) no_stms turns turns m a.after a.ends;
      keeps = a.keeps;
      news = a.news;
      mark = a.mark;
    }

    picked : (b : Bool) (xs ys : List (ℕ × ℤ)) (o out : Outcome) (turns : ℕ) (m : Memory) → Wrote xs o turns m → Wrote ys out turns m → Wrote (if b then xs else ys) (if b then o else out) turns m
    picked true xs ys o out turns m a c = a
    picked false xs ys o out turns m a c = c

    mutual
      pub updates-wrote : (us : NetUpdates) (k turns : ℕ) (m : Memory) → AllUpdates Sets Tells k us → Room k (updates_temps us) → P m
          → Wrote (net_assigned_all n s r us) (exec vars (writes n w y k us) turns m) turns m
      updates-wrote no_net_updates k turns m all room keeps = wrote-none turns m keeps
      updates-wrote (net_updates u us) k turns m all room keeps =
          let a = updates-wrote us k turns m all.1 (omega (arith, room), omega (arith, room)) keeps in
          wrote-then (net_assigned_by n s r u) (net_assigned_all n s r us) (writes n w y k us) (write n w y (k + updates_temps us) u) turns m a
          (update-wrote u (k + updates_temps us) turns a.after all.0 (omega (arith, room), omega (arith, room)) a.keeps)

      update-wrote : (u : NetUpdate) (k turns : ℕ) (m : Memory) → OfUpdate Sets Tells k u → Room k (update_temps u) → P m
          → Wrote (net_assigned_by n s r u) (exec vars (write n w y k u) turns m) turns m
      update-wrote (net_set v e) k turns m all room keeps = set-wrote v e k turns m all.0 all.1 all.2 room keeps
      update-wrote (net_choose bs us) k turns m all room keeps =
          let q = known-conditions bs k (k + conditions_temps bs) turns m all.0 (omega (arith, room), omega (arith, room)) keeps in
          let ss : Stms = writes n w y (k + conditions_temps bs + bodies_temps bs) us in
          let last = updates-wrote us (k + conditions_temps bs + bodies_temps bs) turns q.wrote.after all.1 (omega (arith, room), omega (arith, room)) q.wrote.keeps in
          wrote-after (net_assigned_in n s r (net_assigned_all n s r us) bs) (conditions_before w k bs) (chosen (write_branches n w y k (k + conditions_temps bs) bs) ss) turns m q.wrote
          (chosen-wrote (write_branches n w y k (k + conditions_temps bs) bs) ss (net_assigned_in n s r (net_assigned_all n s r us) bs) turns q.wrote.after
          (branches-wrote bs k (k + conditions_temps bs) turns q.wrote.after (net_assigned_all n s r us) (λ l i. exec_other vars (otherwise ss) l i) all.0 q.held (omega (arith, room), omega (arith, room)) q.wrote.keeps
          (wrote-as (net_assigned_all n s r us) (exec_other vars (otherwise ss) turns q.wrote.after) (exec vars ss turns q.wrote.after) turns q.wrote.after (exec-otherwise vars ss turns q.wrote.after) last)))

      branches-wrote : (bs : NetUpdateBranches) (k j turns : ℕ) (m : Memory) (other_pairs : List (ℕ × ℤ)) (last : Act) → OfBranches Sets Tells k j bs → HeldConditions k bs m → Room j (bodies_temps bs) → P m
          → Wrote other_pairs (last turns m) turns m → Wrote (net_assigned_in n s r other_pairs bs) (exec_choice vars (write_branches n w y k j bs) last turns m) turns m
      branches-wrote no_net_update_branches k j turns m other_pairs last all held room keeps a = a
      branches-wrote (net_update_branches c us bs) k j turns m other_pairs last all held room keeps a =
          subst (λ o. Wrote (net_assigned_in n s r other_pairs (net_update_branches c us bs))
          (with_value o Faulted (λ z. if is_true z then exec vars (writes n w y j us) turns m else exec_choice vars (write_branches n w y (k + temps c) (j + updates_temps us) bs) last turns m)) turns m)
          (sym (g.valued c k m all.0.0 keeps held.0))
          (subst (λ b. Wrote (net_assigned_in n s r other_pairs (net_update_branches c us bs))
          (if b then exec vars (writes n w y j us) turns m else exec_choice vars (write_branches n w y (k + temps c) (j + updates_temps us) bs) last turns m) turns m)
          (sym (truth-is (value_at x c) all.0.1))
          (picked (v.is_true (value_at x c)) (net_assigned_all n s r us) (net_assigned_in n s r other_pairs bs) (exec vars (writes n w y j us) turns m)
          (exec_choice vars (write_branches n w y (k + temps c) (j + updates_temps us) bs) last turns m) turns m
          (updates-wrote us j turns m all.1 (omega (arith, room), omega (arith, room)) keeps)
          (branches-wrote bs (k + temps c) (j + updates_temps us) turns m other_pairs last all.2 held.1 (omega (arith, room), omega (arith, room)) keeps a)))
