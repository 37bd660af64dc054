-- What a choice does whose test holds: it sends its value, and where that is in the range of the channel it acts.
use Rattle.std.proofs.Common.{◌≡◌, ◌≢◌, ℕ, ◌+◌, ◌^◌, ◌<◌, ◌≤◌, ℤ, pos, Bool, true, false, int_le, ◌&&◌, List, length, Option, Some, None, Ok, refl, sym, ap, subst, ◌∙◌, arith, if◌then◌else◌}
use Rattle.std.specs.Prelude.{IsTrue, option_map, slice_set}
use Rattle.std.specs.List.{list_all}
use Rattle.std.proofs.lemmas.List.{get_or-set_same, get_or-set_other}
use Rattle.grammar.specs.Pieces.{Text}
use Rattle.cif_base.specs.declared.types.Ty.{Ty}
use Rattle.cif_base.specs.declared.types.Ty.TheVariants as cif_ty
use Rattle.cif_system.specs.System.{Range, State, in_range}
use Rattle.cif_system.specs.Step.{after, makes_step}
use Rattle.cif_system.proofs.Lists.{none-some}
use Rattle.cif_net_expr.specs.Tree.{NetExpr}
use Rattle.cif_net_model.specs.Net.{Net}
use Rattle.cif_net_model.specs.Facts.{is_type, stored_stands}
use Rattle.cif_net_model.specs.Kinds.{in_32_bits}
use Rattle.cif_net_model.specs.Listing.{NetChoice}
use Rattle.cif_net_model.specs.Meaning.{system_of_net, true_in, type_range}
use Rattle.cif_net_model.specs.Table.{carried_type}
use Rattle.cif_net_model.proofs.Passing.{and-left, and-right}
use Rattle.st_ast.specs.Tree.{Program, Stms, assign, no_stms, stms}
use Rattle.st_ast.specs.Names.{place_of, same_name}
use Rattle.st_ast.specs.Values.{Memory, is_true, of_bool, value_of}
use Rattle.st_ast.specs.Exec.{Outcome, exec, is_within}
use Rattle.st_ast.specs.declared.tree.StVar.{StVar}
use Rattle.st_ast.specs.declared.tree.StTy.TheVariants as ty
use Rattle.st_ast.proofs.Runs.{assign_runs, cons_runs}
use Rattle.plc_model.specs.declared.letter.Letter.{Letter}
use Rattle.plc_model.specs.declared.letter.Letter.TheVariants as letter
use Rattle.plc_model.specs.Names.{name_for}
use Rattle.plc_model.specs.Face.{range_of}
use Rattle.plc_model.specs.Frame.{Stands, fired, writable}
use Rattle.plc_model.proofs.FaceLaws.{Typed, below, declared-of, declared-type, pairwise-length, places-differ, set-keeps, state-kept, typed-written}
use Rattle.plc_model.proofs.NameLaws.{letters-differ}
use Rattle.plc_frame.specs.Faces.{face_of_net}
use Rattle.plc_frame.specs.Events.{moves_text, tested as tested_text}
use Rattle.plc_frame.proofs.Choosing.{choice_in}
use Rattle.plc_frame.proofs.Making.{Closed, Ready}
use Rattle.plc_frame.proofs.Marked.{Chosen, Prepared, done_in, prepared_does, tested_does}
use Rattle.plc_frame.proofs.Writing.{writes-one}
use Rattle.plc_expr.specs.Texts.{Naming, temps, text, before}
use Rattle.cif_net_model.specs.Safe.{Setting, value_at}
use Rattle.plc_expr.specs.Held.{held_at, Prepares}
use Rattle.plc_event_model.specs.Writes.{NewNames, is_tested, updates_temps}
use Rattle.plc_event_model.specs.Acts.{act, stored}
use Rattle.plc_event_model.specs.Sends.{carries, lies_in, received_in, sends, sends_fit, sent_temps, where_fits}
use Rattle.plc_event_model.specs.Asked.{setting_of, IsFit, Promises, Receives}
use Rattle.plc_event_model.specs.Keeps.{kept_temps, where_kept}
use Rattle.plc_event_model.specs.Own.{sent_type, variable_name}
use Rattle.plc_event_model.specs.Declared.{IsTemp, OwnStand}
use Rattle.plc_event_model.specs.Ready.{ChoiceStands, IsReady, IsReadySent}
use Rattle.plc_event_model.proofs.Numbers.{number-value}
use Rattle.plc_event_model.proofs.Writing.{Grounds, same-at}
use Rattle.plc_event_model.proofs.Memories.{Assigned, IsLater, IsOther, IsReady as ReadyIn, Tested, among-temp, fired-other, fired-temp, grounds, later-state, writes-own}
use Rattle.plc_event_model.proofs.Acting.{Acts, IsGuardedChoice, act-does, after-test, allowed, makes-is}

-- where the choice leads, if it makes a step
abbrev pub made : Net → NetChoice → State → Option State
made n c s = if makes_step (system_of_net n) s c.event (choice_in n c) then Some (after (system_of_net n) s (choice_in n c)) else None

-- the number of a name lies between two, as the text and the net say it
lies-value : (vars : List StVar) (m : Memory) (name : Text) (q : Range) (z : ℤ) → in_32_bits q.lo ≡ true → in_32_bits q.hi ≡ true → held_at vars m name ≡ z
    → value_of vars (lies_in name q) m ≡ Ok (of_bool (in_range q z))
lies-value vars m name q z lo hi new =
    rw (number-value vars m q.lo lo, number-value vars m q.hi hi, new) (ap (λ c. Ok (of_bool c)) (two (int_le q.lo z) (int_le z q.hi)))
  where
    two : (c d : Bool) → (true && is_true (of_bool c) && is_true (of_bool d)) ≡ (c && d)
    two true true = refl
    two true false = refl
    two false true = refl
    two false false = refl

bounds-small : (t : Ty) → is_type t ≡ true → is_tested t ≡ true → (in_32_bits (type_range t).lo ≡ true) × (in_32_bits (type_range t).hi ≡ true)
bounds-small cif_ty.Bool h is = absurd cc
bounds-small (cif_ty.Int lo hi) h is = (and-left _ _ (and-left _ _ h), and-right _ _ (and-left _ _ h))
bounds-small (cif_ty.Enum size) h is = absurd cc

-- any number can be assigned to what is sent
sent-within : (t : Ty) (z : ℤ) → is_within (sent_type t) z ≡ true
sent-within cif_ty.Bool z = refl
sent-within (cif_ty.Int lo hi) z = refl
sent-within (cif_ty.Enum size) z = refl

module _ (n : Net) (p : Program) (own : List Text) (w : Naming) (y : NewNames) (base low count : ℕ) (named_so : (v : ℕ) → w.variable v ≡ variable_name n v)
    (stored_stand : list_all stored_stands n.vars ≡ true) (few : length n.vars < 2 ^ 32) (ready : Ready n p) (promised : (v : Naming) (x : Setting) → v.own ≡ w.own → Promises p.vars v x base low count)
    (k : ℕ) (c : NetChoice) (h : IsGuardedChoice n c) (cs : ChoiceStands n p own w y base low count k c) (done : Text) (done_other : IsOther n p own w y base low count c.writes (place_of p.vars done))
    (done_apart : (t : Ty) → carried_type n c ≡ Some t → place_of p.vars done ≢ place_of p.vars w.received) (ss : Stms) where
  abbrev o : OwnStand n p own w y base low count (carried_type n c) c.writes
  o = cs.variables

  abbrev act_text : Stms
  act_text =
      act n w y (k + temps c.test + sent_temps c.sent) c.writes
      (where_kept n w y (k + temps c.test + sent_temps c.sent + updates_temps c.writes) c (stored w y c.writes (moves_text n c.moves ss)))

  abbrev pub Closes : ℕ → Type 0
  Closes turns = (b : Memory) → Typed p.vars b → (z : Closed n p ready own ss turns b) × (done_in n p own done z.after ≡ pos 1)

  module _ (turns : ℕ) (m : Memory) (s : State) (st : Stands (face_of_net n) (system_of_net n) p m s) where
    abbrev pub IsAfter : Memory → Type 0
    IsAfter a = IsLater n p own w y base low count c.writes m a

    start : IsAfter m
    start = record { typed = st.typed; others = λ j apart. refl }

    -- ---- an expression that receives nothing

    only : (t : Ty) → None ≡ Some t → carried_type n c ≡ Some t
    only t e = absurd (none-some t e)

    abbrev g : Grounds n s (pos 0) p.vars w y base low count IsAfter (ReadyIn n p own w y base low count c.writes (carried_type n c) o s None (pos 0) m st.state tt only stored_stand (promised w (setting_of n s (pos 0)) refl)) (Assigned n p own w y base low count c.writes) (Tested n p own w y base low count c.writes)
    g = grounds n p own w y base low count c.writes (carried_type n c) o s None (pos 0) m st.state tt only stored_stand (promised w (setting_of n s (pos 0)) refl)

    -- the statements before it have run: its text has its value
    pub record Before (i : ℕ) (e : NetExpr) : Type 0 where
      pub prepared : Prepared n p own done (before w i e) turns m s
      pub later : IsAfter prepared.after
      pub value : value_of p.vars (text w i e) prepared.after ≡ Ok (value_at (setting_of n s (pos 0)) e)

    pub steps : (i : ℕ) (e : NetExpr) → IsReady n p w base s None (pos 0) i e → low ≤ i → i + temps e ≤ count → Prepares p.vars w (setting_of n s (pos 0)) base i e turns m
    steps i e is from room = g.prepares e i turns m is (from, room) start

    pub expr-before : (i : ℕ) (e : NetExpr) → IsReady n p w base s None (pos 0) i e → low ≤ i → i + temps e ≤ count → Before i e
    expr-before i e is from room =
        let q = steps i e is from room in
        let later = g.prepared_kept e i turns m is (from, room) start q in
        record {
          prepared = record {
            after = q.after;
            ends = q.runs;
            writes = writes-own n p own w y base low count c.writes (carried_type n c) o m q.after later;
            stands = record { state = later-state n p own w y base low count c.writes (carried_type n c) o m q.after s later st.state; typed = later.typed; keeps = st.keeps };
            mark = same-at q.after m (place_of p.vars fired) (pos 0) (later.others (place_of p.vars fired) (fired-other n p own w y base low count c.writes (carried_type n c) o ready.mark));
            tick = same-at q.after m (place_of p.vars done) (pos 0) (later.others (place_of p.vars done) done_other);
          };
          later = later;
          value = g.valued e i q.after is later q.held;
        }

    -- ---- where the test holds

    chosen-from : (d : Option State) (out : Outcome)
        → Acts n p own w y base low count c o named_so stored_stand few h ready s m st (λ z. done_in n p own done z ≡ pos 1) d out turns → Chosen n p own done d out turns m s
    chosen-from None out a = record { does = a.does; ticks = same-at a.does.after m (place_of p.vars done) (pos 0) (a.leaves.others (place_of p.vars done) done_other) }
    chosen-from (Some t) out a = record { does = a.does; ticks = a.leaves }

    -- what it does where its value is in the range of the channel, and is received
    pub act-chosen : Closes turns → true_in n s c.test ≡ true → sends_fit n s c ≡ true → Receives p.vars w (carried_type n c) (received_in n s c) m
        → Chosen n p own done (made n c s) (exec p.vars act_text turns m) turns m s
    act-chosen close test sent got =
        let from = cs.from in
        let room = cs.room in
        chosen-from (made n c s) (exec p.vars act_text turns m)
        (act-does n p own w y base low count c o named_so stored_stand few h ready s m st got promised (k + temps c.test + sent_temps c.sent) turns
        (cs.ready.updates s st.state.is_state test sent) (omega (arith, from), omega (arith, room)) (λ z. done_in n p own done z ≡ pos 1) ss close test sent (cs.ready.keeps s st.state.is_state))

    -- ---- the value is sent

    module _ (t : Ty) (is : carried_type n c ≡ Some t) (z : ℤ) (fits : IsTrue (in_range (range_of (sent_type t)) z)) where
      abbrev sent : Memory
      sent = slice_set m (place_of p.vars w.received) z

      temp : IsTemp p own w.received (sent_type t)
      temp = o.sent t is

      keeps-letter : (l : Letter) → (l ≡ letter.T → ⊥) → (i : ℕ) (path : Text) → same_name (name_for l i path) w.received ≡ false
      keeps-letter l other i path = subst (λ x. same_name (name_for l i path) x ≡ false) (sym temp.name) (letters-differ l letter.T i temp.number path temp.path other)

      sent-stands : Stands (face_of_net n) (system_of_net n) p sent s
      sent-stands = record {
        state = state-kept (face_of_net n) (system_of_net n) p m sent s (set-keeps p m w.received z letter.L (keeps-letter letter.L (λ e. cc)))
            (set-keeps p m w.received z letter.V (keeps-letter letter.V (λ e. cc))) (set-keeps p m w.received z letter.H (keeps-letter letter.H (λ e. cc))) st.state;
        typed = typed-written p.vars m w.received (sent_type t) z temp.is_declared fits st.typed;
        keeps = st.keeps;
      }

      -- it is there to be read
      sent-held : held_at p.vars sent w.received ≡ z
      sent-held =
          let d = declared-of p.vars w.received (sent_type t) temp.is_declared in
          let inside = below p.vars (place_of p.vars w.received) d.variable d.at in
          let long = pairwise-length (λ (v : StVar) q. IsTrue (in_range (range_of v.ty) q)) p.vars m st.typed in
          get_or-set_same m (place_of p.vars w.received) z (pos 0) (omega (arith, inside, long))

      -- the assignment has run
      pub record Sent (i : ℕ) (e : NetExpr) : Type 0 where
        pub prepared : Prepared n p own done (stms (assign w.received (text w i e)) no_stms) turns m s
        pub held : held_at p.vars prepared.after w.received ≡ z

      -- from where its right side has the value
      pub sent-run : (i : ℕ) (e : NetExpr) → value_of p.vars (text w i e) m ≡ Ok z → Sent i e
      sent-run i e value = record {
        prepared = record {
          after = sent;
          ends = cons_runs p.vars (assign w.received (text w i e)) no_stms turns turns m sent
              (assign_runs p.vars w.received (text w i e) (place_of p.vars w.received) z turns m refl value
              (ap (λ u. is_within u z) (declared-type p.vars w.received (sent_type t) temp.is_declared) ∙ sent-within t z));
          writes = writes-one (writable (face_of_net n) own) p.vars m w.received z (among-temp n p own w.received (sent_type t) temp);
          stands = sent-stands;
          mark = (let d = declared-of p.vars fired ty.Bool ready.mark in
              get_or-set_other m (place_of p.vars w.received) (place_of p.vars fired) z (pos 0) (places-differ p.vars fired w.received d.variable d.at (fired-temp p own w.received (sent_type t) temp)));
          tick = get_or-set_other m (place_of p.vars w.received) (place_of p.vars done) z (pos 0) (done_apart t is);
        };
        held = sent-held;
      }

  -- ---- the whole

  module _ (turns : ℕ) (s : State) (close : Closes turns) (test : true_in n s c.test ≡ true) where
    abbrev Done : Stms → Memory → Type 0
    Done rest m = Chosen n p own done (made n c s) (exec p.vars rest turns m) turns m s

    -- where the value is tested, what follows is done only where it is in range
    where-does : (t : Ty) (z : ℤ) (m : Memory) (st : Stands (face_of_net n) (system_of_net n) p m s) → carried_type n c ≡ Some t → sends_fit n s c ≡ in_range (type_range t) z → IsFit (is_tested t) (type_range t) z
        → received_in n s c ≡ z → held_at p.vars m w.received ≡ z → Done (where_fits w.received t act_text) m
    where-does t z m st is fit can same held = go (is_tested t) refl can
      where
        got : Receives p.vars w (carried_type n c) (received_in n s c) m
        got = subst (λ u. Receives p.vars w u (received_in n s c) m) (sym is) (held ∙ sym same)

        go : (b : Bool) → is_tested t ≡ b → IsFit b (type_range t) z → Done (if b then tested_text (lies_in w.received (type_range t)) act_text else act_text) m
        go false tested can = act-chosen turns m s st close test (fit ∙ can) got
        go true tested can =
            let small = bounds-small t (h.carried t is) tested in
            subst (λ d. Chosen n p own done d (exec p.vars (tested_text (lies_in w.received (type_range t)) act_text) turns m) turns m s)
            (after-test (after (system_of_net n) s (choice_in n c)) (sends_fit n s c) (allowed n c s) (makes_step (system_of_net n) s c.event (choice_in n c))
            (makes-is n c s h ∙ ap (λ b. b && (sends_fit n s c && allowed n c s)) test))
            (tested_does n p own done (lies_in w.received (type_range t)) act_text (sends_fit n s c) (made n c s) turns m s
            (lies-value p.vars m w.received (type_range t) z small.0 small.1 held ∙ ap (λ b. Ok (of_bool b)) (sym fit)) st (λ sent. act-chosen turns m s st close test sent got))

    -- it sends its value, if it sends one, and acts
    pub sends-does : (m : Memory) (st : Stands (face_of_net n) (system_of_net n) p m s) → Done (sends w (k + temps c.test) c.sent (carried_type n c) act_text) m
    sends-does m st = go c.sent (carried_type n c) refl refl (cs.ready.sent s st.state.is_state test)
      where
        go : (e : Option NetExpr) (t : Option Ty) → c.sent ≡ e → carried_type n c ≡ t → IsReadySent n p w base s (k + temps c.test) t e → Done (sends w (k + temps c.test) e t act_text) m
        go None None sent is ready_sent =
            act-chosen turns m s st close test (ap (λ u. carries u (option_map (λ (e : NetExpr). value_at (setting_of n s (pos 0)) e) c.sent)) is)
            (subst (λ u. Receives p.vars w u (received_in n s c) m) (sym is) tt)
        go None (Some t) sent is ready_sent = absurd ready_sent
        go (Some e) None sent is ready_sent = absurd ready_sent
        go (Some e) (Some t) sent is ready_sent =
            let z : ℤ = value_at (setting_of n s (pos 0)) e in
            let from = cs.from in
            let room : k + (temps c.test + (temps e + (updates_temps c.writes + kept_temps n c))) ≤ count = subst (λ q. k + (temps c.test + (sent_temps q + (updates_temps c.writes + kept_temps n c))) ≤ count) sent cs.room in
            let b = expr-before turns m s st (k + temps c.test) e ready_sent.0 (omega (arith, from)) (omega (arith, room)) in
            let m1 : Memory = b.prepared.after in
            let q = sent-run turns m1 s b.prepared.stands t is z ready_sent.1.1 (k + temps c.test) e b.value in
            let same : received_in n s c ≡ z = ap (λ o. elim (option_map (λ (d : NetExpr). value_at (setting_of n s (pos 0)) d) o) [ None ↦ pos 0 | Some x ↦ x ]) sent in
            let fit : sends_fit n s c ≡ in_range (type_range t) z = ap (λ u. carries u (option_map (λ (d : NetExpr). value_at (setting_of n s (pos 0)) d) c.sent)) is ∙ ap (λ o. carries (Some t) (option_map (λ (d : NetExpr). value_at (setting_of n s (pos 0)) d) o)) sent in
            prepared_does n p own done (before w (k + temps c.test) e) (stms (assign w.received (text w (k + temps c.test) e)) (where_fits w.received t act_text)) (made n c s) turns m s b.prepared
            (prepared_does n p own done (stms (assign w.received (text w (k + temps c.test) e)) no_stms) (where_fits w.received t act_text) (made n c s) turns m1 s q.prepared
            (where-does t z q.prepared.after q.prepared.stands is fit ready_sent.1.0 same q.held))
