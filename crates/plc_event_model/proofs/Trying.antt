-- What the statements of an event do whose choices have data: they make the event's first step, if it has one.
use Rattle.std.proofs.Common.{◌≡◌, ◌≢◌, ℕ, suc, ◌+◌, ◌^◌, ◌<◌, pos, Bool, true, false, not, ◌&&◌, List, [], ◌∷◌, map, find, length, Option, Some, None, get_or, cond, refl, sym, ap, subst, ◌∙◌, arith, eqb-true, if◌then◌else◌}
use Rattle.std.specs.Prelude.{IsTrue, is_none, nat_eq, nat_lt, option_map, slice_set}
use Rattle.std.specs.List.{AllByRecursion, list_all}
use Rattle.std.proofs.lemmas.Bool.Decides.{nat_tests}
use Rattle.std.proofs.lemmas.List.{get_or-set_same, get_or-set_other}
use Rattle.grammar.specs.Pieces.{Text}
use Rattle.cif_base.specs.declared.types.Ty.{Ty}
use Rattle.cif_system.specs.System.{State, in_range}
use Rattle.cif_system.specs.Step.{after, makes_step}
use Rattle.cif_system.specs.Choices.{first_step}
use Rattle.cif_net_expr.specs.Tree.{NetExpr}
use Rattle.cif_net_model.specs.Net.{Net}
use Rattle.cif_net_model.specs.Facts.{stored_stands}
use Rattle.cif_net_model.specs.Listing.{NetChoice, full_choices, listed}
use Rattle.cif_net_model.specs.Meaning.{system_of_net, true_in, value_in}
use Rattle.cif_net_model.specs.Table.{carried_type}
use Rattle.cif_net_model.proofs.Passing.{and-left, and-right}
use Rattle.st_ast.specs.Tree.{Program, assign, choice, no_other, no_stms, stms, truth}
use Rattle.st_ast.specs.Names.{same_name, place_of}
use Rattle.st_ast.specs.Values.{Memory, is_true, of_bool, with_value}
use Rattle.st_ast.specs.Exec.{Act, Outcome, Ended, Faulted, exec, exec_choice, exec_other, is_within}
use Rattle.st_ast.specs.declared.tree.StVar.{StVar}
use Rattle.st_ast.specs.declared.tree.StTy.TheVariants as ty
use Rattle.st_ast.proofs.Runs.{assign_runs, cons_runs}
use Rattle.plc_model.specs.Face.{IsDeclared, range_of}
use Rattle.plc_model.specs.Frame.{Follows, Stands, TriesEvent, fired, writable}
use Rattle.plc_model.proofs.FaceLaws.{Typed, below, declared-of, declared-type, pairwise-length, places-differ, set-keeps, typed-written}
use Rattle.plc_model.proofs.NameLaws.{letters-differ}
use Rattle.plc_model.specs.declared.letter.Letter.{Letter}
use Rattle.plc_model.specs.declared.letter.Letter.TheVariants as letter
use Rattle.plc_model.specs.Names.{name_for}
use Rattle.plc_frame.specs.Faces.{face_of_net}
use Rattle.plc_frame.specs.Events.{all_bare, alone, chain, chain_branches, choices_of, event_text, marks, marks_with, needs_mark, parts_text}
use Rattle.plc_frame.proofs.Choosing.{choice_in, choices-are}
use Rattle.plc_frame.proofs.Facts.{none-of}
use Rattle.plc_frame.proofs.Making.{Closed, Does, Ready, marks-close, marks-last}
use Rattle.plc_frame.proofs.Marked.{Offer, Offers, all_parts, done_in, event_does, first_of, or_else}
use Rattle.plc_frame.proofs.Writing.{Among, writes-none, writes-one, writes-then}
use Rattle.plc_expr.specs.Texts.{Naming, temps}
use Rattle.cif_net_model.specs.Safe.{Setting}
use Rattle.plc_event_model.specs.Writes.{NewNames, any_tested}
use Rattle.plc_event_model.specs.Sends.{carries, received_in, sends_fit, sent_temps}
use Rattle.plc_event_model.specs.Asked.{setting_of, IsSafeSet, IsSafeCondition, Promises}
use Rattle.plc_event_model.specs.Keeps.{asked}
use Rattle.plc_event_model.specs.Own.{variable_name, choice_temps, sent_type}
use Rattle.plc_event_model.specs.Events.{all_written, choice_written, is_bare}
use Rattle.plc_event_model.specs.Ready.{AllFrom, ChoiceStands, DoneStands, IsReadySet, IsReadyTest, state_after}
use Rattle.plc_event_model.proofs.Memories.{IsOther, among-temp, fired-other, fired-temp, other-at}
use Rattle.plc_event_model.proofs.Pairs.{all_fit}
use Rattle.plc_event_model.proofs.Targets.{all-updates, untested-fit}
use Rattle.plc_event_model.proofs.Acting.{IsGuardedChoice, allowed, asked-is, makes-is, pairs_of}
use Rattle.plc_event_model.proofs.Sending.{made}
use Rattle.plc_event_model.proofs.Offering.{bare-told, body-does, test-chosen}

-- the choices of an event are of that event
pub of-event : (cs : List NetChoice) (e : ℕ) → AllByRecursion (λ (c : NetChoice). c.event ≡ e) (choices_of cs e)
of-event [] e = tt
of-event (c ∷ cs) e = go (nat_eq c.event e) refl (of-event cs e)
  where
    go : (b : Bool) → nat_eq c.event e ≡ b → AllByRecursion (λ (d : NetChoice). d.event ≡ e) (choices_of cs e) → AllByRecursion (λ (d : NetChoice). d.event ≡ e) (cond b (c ∷ choices_of cs e) (choices_of cs e))
    go true is rest = (eqb-true c.event e is, rest)
    go false is rest = rest

module _ (n : Net) (p : Program) (own : List Text) (w : Naming) (y : NewNames) (base low count : ℕ) (named_so : (v : ℕ) → w.variable v ≡ variable_name n v)
    (stored_stand : list_all stored_stands n.vars ≡ true) (few : length n.vars < 2 ^ 32) (ready : Ready n p) (promised : (v : Naming) (x : Setting) → v.own ≡ w.own → Promises p.vars v x base low count)
    (e : ℕ) where
  -- what is asked of each choice
  abbrev pub Fits : ℕ → NetChoice → Type 0
  Fits k c = IsGuardedChoice n c × ChoiceStands n p own w y base low count k c

  -- what the choices offer
  abbrev pub offer : ℕ → NetChoice → Offer
  offer k c = record { written = choice_written n w y k c; made = made n c }

  abbrev pub offers_from : ℕ → List NetChoice → List Offer
  offers_from k [] = []
  offers_from k (c ∷ cs) = offer k c ∷ offers_from (k + choice_temps n c) cs

  written-is : (k : ℕ) (cs : List NetChoice) → map (λ (f : Offer). f.written) (offers_from k cs) ≡ all_written n w y k cs
  written-is k [] = refl
  written-is k (c ∷ cs) = ap (λ r. choice_written n w y k c ∷ r) (written-is (k + choice_temps n c) cs)

  -- the first of the offers is that of the first choice that makes a step
  first-is : (k : ℕ) (cs : List NetChoice) (s : State) → AllByRecursion (λ (c : NetChoice). c.event ≡ e) cs
      → first_of (offers_from k cs) s ≡ option_map (after (system_of_net n) s) (find (makes_step (system_of_net n) s e) (map (choice_in n) cs))
  first-is k [] s same = refl
  first-is k (c ∷ cs) s same =
      ap (λ i. or_else (if makes_step (system_of_net n) s i (choice_in n c) then Some (after (system_of_net n) s (choice_in n c)) else None) (first_of (offers_from (k + choice_temps n c) cs) s)) same.0
      ∙ pick (makes_step (system_of_net n) s e (choice_in n c)) (first-is (k + choice_temps n c) cs s same.1)
    where
      pick : (b : Bool) → first_of (offers_from (k + choice_temps n c) cs) s ≡ option_map (after (system_of_net n) s) (find (makes_step (system_of_net n) s e) (map (choice_in n) cs))
          → or_else (if b then Some (after (system_of_net n) s (choice_in n c)) else None) (first_of (offers_from (k + choice_temps n c) cs) s)
          ≡ option_map (after (system_of_net n) s) (cond b (Some (choice_in n c)) (find (makes_step (system_of_net n) s e) (map (choice_in n) cs)))
      pick true rest = refl
      pick false rest = rest

  -- ---- one choice

  fired-of : (k : ℕ) (c : NetChoice) → ChoiceStands n p own w y base low count k c → IsOther n p own w y base low count c.writes (place_of p.vars fired)
  fired-of k c h = fired-other n p own w y base low count c.writes (carried_type n c) h.variables ready.mark

  fired-apart : (k : ℕ) (c : NetChoice) → ChoiceStands n p own w y base low count k c → (t : Ty) → carried_type n c ≡ Some t → place_of p.vars fired ≢ place_of p.vars w.received
  fired-apart k c h t is =
      let q = declared-of p.vars fired ty.Bool ready.mark in
      places-differ p.vars fired w.received q.variable q.at (fired-temp p own w.received (sent_type t) (h.variables.sent t is))

  close-marks : (turns : ℕ) (b : Memory) → Typed p.vars b → (z : Closed n p ready own marks turns b) × (done_in n p own fired z.after ≡ pos 1)
  close-marks turns b typed = let z = marks-close n p ready own turns b typed in (z, z.mark)

  alone-does : (k : ℕ) (c : NetChoice) → Fits k c → (turns : ℕ) (m : Memory) (s : State) → Stands (face_of_net n) (system_of_net n) p m s
      → Does n p own (made n c s) (exec p.vars (alone (choice_written n w y k c)) turns m) turns m s
  alone-does k c h turns m s st =
      (body-does n p own w y base low count named_so stored_stand few ready promised k c h.0 h.1 fired (fired-of k c h.1) (fired-apart k c h.1) marks turns m s st (close-marks turns)).does

  -- ---- choices that are told by their tests alone

  none-tested : (b : Bool) → not b ≡ true → b ≡ false
  none-tested true h = absurd cc
  none-tested false h = refl

  unsent-fits : (c : NetChoice) (s : State) → is_none c.sent ≡ true → sends_fit n s c ≡ true
  unsent-fits c s none = go c.sent (carried_type n c) none
    where
      go : (e : Option NetExpr) (t : Option Ty) → is_none e ≡ true → carries t (option_map (value_in n s (pos 0)) e) ≡ true
      go None None h = refl
      go None (Some t) h = refl
      go (Some e) t h = absurd cc

  bare-makes : (k : ℕ) (c : NetChoice) (m : Memory) (s : State) → Fits k c → is_bare n c ≡ true → Stands (face_of_net n) (system_of_net n) p m s → true_in n s c.test ≡ true
      → makes_step (system_of_net n) s c.event (choice_in n c) ≡ true
  bare-makes k c m s h bare st test =
      let sent = unsent-fits c s (and-left _ _ (and-left _ _ (and-left _ _ bare))) in
      let unasked : asked n c ≡ [] = none-of (asked n c) (and-right _ _ (and-left _ _ bare)) in
      makes-is n c s h.0 ∙ ap (λ b. b && (sends_fit n s c && allowed n c s)) test ∙ ap (λ b. b && allowed n c s) sent
      ∙ ap (λ b. all_fit n (pairs_of n c s) && b) (asked-is n c s h.0 st.state.is_state st.keeps ∙ ap (list_all (true_in n (state_after n c s))) unasked)
      ∙ ap (λ b. b && true) (untested-fit n s (received_in n s c) c.writes (k + temps c.test + sent_temps c.sent) (none-tested (any_tested n c.writes) (and-right _ _ (and-left _ _ (and-left _ _ bare))))
      (all-updates (IsReadySet n p w base s (carried_type n c) (received_in n s c)) (λ i v x. IsSafeSet n (setting_of n s (received_in n s c)) v x)
      (IsReadyTest n p w base s (carried_type n c) (received_in n s c)) (λ i x. IsSafeCondition (setting_of n s (received_in n s c)) x)
      (λ v. Unit {0}) (λ i v x in_it r. (r.0.0, r.1)) (λ i x r. (r.0.0, r.1)) c.writes (k + temps c.test + sent_temps c.sent) (λ v q. tt) (h.1.ready.updates s st.state.is_state test sent)))

  fails-makes : (c : NetChoice) (s : State) → IsGuardedChoice n c → true_in n s c.test ≡ false → makes_step (system_of_net n) s c.event (choice_in n c) ≡ false
  fails-makes c s h test = makes-is n c s h ∙ ap (λ b. b && (sends_fit n s c && allowed n c s)) test

  first-taken : (c : NetChoice) (s : State) (r : Option State) (out : Outcome) (turns : ℕ) (m : Memory) → makes_step (system_of_net n) s c.event (choice_in n c) ≡ true
      → Does n p own (made n c s) out turns m s → Does n p own (or_else (made n c s) r) out turns m s
  first-taken c s r out turns m makes d =
      let t : State = after (system_of_net n) s (choice_in n c) in
      subst (λ b. Does n p own (or_else (if b then Some t else None) r) out turns m s) (sym makes) (subst (λ b. Does n p own (if b then Some t else None) out turns m s) makes d)

  first-skipped : (c : NetChoice) (s : State) (r : Option State) (out : Outcome) (turns : ℕ) (m : Memory) → makes_step (system_of_net n) s c.event (choice_in n c) ≡ false
      → Does n p own r out turns m s → Does n p own (or_else (made n c s) r) out turns m s
  first-skipped c s r out turns m makes d = subst (λ b. Does n p own (or_else (if b then Some (after (system_of_net n) s (choice_in n c)) else None) r) out turns m s) (sym makes) d

  nothing : (turns : ℕ) (m : Memory) (s : State) → Stands (face_of_net n) (system_of_net n) p m s → Does n p own None (Ended turns m) turns m s
  nothing turns m s st = record { after = m; ends = refl; writes = writes-none (writable (face_of_net n) own) p.vars m; typed = st.typed; follows = (st.state, refl) }

  abbrev chain_of : ℕ → List NetChoice → Act
  chain_of k cs = exec_choice p.vars (chain_branches (all_written n w y k cs)) (λ l i. exec_other p.vars no_other l i)

  chain-does : (k : ℕ) (cs : List NetChoice) → AllFrom n Fits k cs → all_bare (all_written n w y k cs) ≡ true → (turns : ℕ) (m : Memory) (s : State) → Stands (face_of_net n) (system_of_net n) p m s
      → Does n p own (first_of (offers_from k cs) s) (chain_of k cs turns m) turns m s
  chain-does k [] all bare turns m s st = nothing turns m s st
  chain-does k (c ∷ cs) all bare turns m s st =
      let is : is_bare n c ≡ true = and-left _ _ bare in
      subst (λ r. Does n p own (or_else (made n c s) (first_of (offers_from (k + choice_temps n c) cs) s))
      (with_value r Faulted (λ z. if is_true z then exec p.vars ((choice_written n w y k c).act marks) turns m else chain_of (k + choice_temps n c) cs turns m)) turns m s)
      (sym (bare-told n p own w y base low count named_so stored_stand few ready promised k c all.0.0 all.0.1 fired (fired-of k c all.0.1) (fired-apart k c all.0.1) marks turns m s st (eqb-true (temps c.test) 0 (and-right _ _ is))))
      (pick (true_in n s c.test) refl is (chain-does (k + choice_temps n c) cs all.1 (and-right _ _ bare) turns m s st))
    where
      pick : (b : Bool) → true_in n s c.test ≡ b → is_bare n c ≡ true → Does n p own (first_of (offers_from (k + choice_temps n c) cs) s) (chain_of (k + choice_temps n c) cs turns m) turns m s
          → Does n p own (or_else (made n c s) (first_of (offers_from (k + choice_temps n c) cs) s))
          (if is_true (of_bool b) then exec p.vars ((choice_written n w y k c).act marks) turns m else chain_of (k + choice_temps n c) cs turns m) turns m s
      pick true test is rest =
          first-taken c s (first_of (offers_from (k + choice_temps n c) cs) s) (exec p.vars ((choice_written n w y k c).act marks) turns m) turns m
          (bare-makes k c m s all.0 is st test)
          (test-chosen n p own w y base low count named_so stored_stand few ready promised k c all.0.0 all.0.1 fired (fired-of k c all.0.1) (fired-apart k c all.0.1) marks turns m s st (close-marks turns) test).does
      pick false test is rest = first-skipped c s (first_of (offers_from (k + choice_temps n c) cs) s) (chain_of (k + choice_temps n c) cs turns m) turns m (fails-makes c s all.0.0 test) rest

  chain-runs : (k : ℕ) (c : NetChoice) (cs : List NetChoice) → AllFrom n Fits k (c ∷ cs) → all_bare (all_written n w y k (c ∷ cs)) ≡ true → (turns : ℕ) (m : Memory) (s : State) → Stands (face_of_net n) (system_of_net n) p m s
      → Does n p own (first_of (offers_from k (c ∷ cs)) s) (exec p.vars (chain (all_written n w y k (c ∷ cs))) turns m) turns m s
  chain-runs k c cs all bare turns m s st =
      let d = chain-does k (c ∷ cs) all bare turns m s st in
      record {
        after = d.after;
        ends = cons_runs p.vars (choice (chain_branches (all_written n w y k (c ∷ cs))) no_other) no_stms turns turns m d.after d.ends;
        writes = d.writes;
        typed = d.typed;
        follows = d.follows;
      }

  -- ---- choices with a mark of the event's own

  module _ (done : Text) (d : DoneStands p own w y low count done) where
    room : (m : Memory) → Typed p.vars m → place_of p.vars done < length m
    room m typed =
        let q = declared-of p.vars done ty.Bool d.variable.is_declared in
        let inside = below p.vars (place_of p.vars done) q.variable q.at in
        let long = pairwise-length (λ (v : StVar) z. IsTrue (in_range (range_of v.ty) z)) p.vars m typed in omega (arith, inside, long)

    -- it is set with the mark that something fired
    close-both : (turns : ℕ) (b : Memory) → Typed p.vars b → (z : Closed n p ready own (marks_with done) turns b) × (done_in n p own done z.after ≡ pos 1)
    close-both turns b typed =
        let b1 : Memory = slice_set b (place_of p.vars done) (pos 1) in
        let typed1 = typed-written p.vars b done ty.Bool (pos 1) d.variable.is_declared refl typed in
        let z = marks-close n p ready own turns b1 typed1 in
        let q = declared-of p.vars fired ty.Bool ready.mark in (
          record {
            after = z.after;
            ends = cons_runs p.vars (assign done (truth true)) marks turns turns b b1
                (assign_runs p.vars done (truth true) (place_of p.vars done) (pos 1) turns b refl refl (ap (λ t. is_within t (pos 1)) (declared-type p.vars done ty.Bool d.variable.is_declared)))
                ∙ z.ends;
            writes = writes-then (writable (face_of_net n) own) p.vars b b1 z.after
                (writes-one (writable (face_of_net n) own) p.vars b done (pos 1) (among-temp n p own done ty.Bool d.variable)) z.writes;
            typed = z.typed;
            kept = λ l other i way t at. z.kept l other i way t at ∙ set-keeps p b done (pos 1) l (λ j path. done-apart l other j path) i way t at;
            mark = z.mark;
          },
          ap (λ a. get_or a (place_of p.vars done) (pos 0)) (marks-last n p ready own turns b1 typed1)
              ∙ get_or-set_other b1 (place_of p.vars fired) (place_of p.vars done) (pos 1) (pos 0)
              (λ h. places-differ p.vars fired done q.variable q.at (fired-temp p own done ty.Bool d.variable) (sym h))
              ∙ get_or-set_same b (place_of p.vars done) (pos 1) (pos 0) (room b typed),
        )
      where
        done-apart : (l : Letter) → (l ≡ letter.T → ⊥) → (j : ℕ) (path : Text) → same_name (name_for l j path) done ≡ false
        done-apart l other j path = subst (λ z. same_name (name_for l j path) z ≡ false) (sym d.variable.name) (letters-differ l letter.T j d.variable.number path d.variable.path other)

    done-of : (k : ℕ) (c : NetChoice) → ChoiceStands n p own w y base low count k c → IsOther n p own w y base low count c.writes (place_of p.vars done)
    done-of k c h =
        let q = declared-of p.vars done ty.Bool d.variable.is_declared in
        other-at n p own w y base low count c.writes (carried_type n c) h.variables done q.variable q.at (λ t. d.no_mark) (λ u i. d.no_next u) d.no_own

    done-apart-sent : (t : Ty) (c : NetChoice) → carried_type n c ≡ Some t → place_of p.vars done ≢ place_of p.vars w.received
    done-apart-sent t c is = let q = declared-of p.vars done ty.Bool d.variable.is_declared in places-differ p.vars done w.received q.variable q.at d.no_sent

    offers-stand : (k : ℕ) (cs : List NetChoice) → AllFrom n Fits k cs → AllByRecursion (Offers n p own done) (offers_from k cs)
    offers-stand k [] all = tt
    offers-stand k (c ∷ cs) all = (
      λ turns m s st none. body-does n p own w y base low count named_so stored_stand few ready promised k c all.0.0 all.0.1 done (done-of k c all.0.1) (λ t is. done-apart-sent t c is) (marks_with done) turns m s st (close-both turns),
      offers-stand (k + choice_temps n c) cs all.1,
    )

    marked-does : (k : ℕ) (cs : List NetChoice) → AllFrom n Fits k cs → (turns : ℕ) (m : Memory) (s : State) → Stands (face_of_net n) (system_of_net n) p m s
        → Does n p own (first_of (offers_from k cs) s) (exec p.vars (stms (assign done (truth false)) (parts_text done (all_written n w y k cs))) turns m) turns m s
    marked-does k cs all turns m s st =
        subst (λ ws. Does n p own (first_of (offers_from k cs) s) (exec p.vars (stms (assign done (truth false)) (parts_text done ws)) turns m) turns m s) (written-is k cs)
        (by-name done d.variable.name d.variable.is_declared (among-temp n p own done ty.Bool d.variable) (offers-stand k cs all))
      where
        by-name : (x : Text) → x ≡ name_for letter.T d.variable.number d.variable.path → IsDeclared p.vars x ty.Bool → Among x (writable (face_of_net n) own) → AllByRecursion (Offers n p own x) (offers_from k cs)
            → Does n p own (first_of (offers_from k cs) s) (exec p.vars (stms (assign x (truth false)) (all_parts x (offers_from k cs))) turns m) turns m s
        by-name x e =
            subst (λ q. IsDeclared p.vars q ty.Bool → Among q (writable (face_of_net n) own) → AllByRecursion (Offers n p own q) (offers_from k cs)
            → Does n p own (first_of (offers_from k cs) s) (exec p.vars (stms (assign q (truth false)) (all_parts q (offers_from k cs))) turns m) turns m s) (sym e)
            (λ is among offers. event_does n p own d.variable.number d.variable.path d.variable.above d.variable.small is ready.mark among (offers_from k cs) offers turns m s st)

  -- ---- the event

  or-none : (o : Option State) → or_else o None ≡ o
  or-none None = refl
  or-none (Some t) = refl

  many : (x : ℕ) → nat_lt 1 (suc (suc x)) ≡ true
  many x = grind (arith, nat_tests)

  pub event-does : (done : Text) (k : ℕ) (cs : List NetChoice) → AllFrom n Fits k cs → (needs_mark (all_written n w y k cs) ≡ true → DoneStands p own w y low count done)
      → (turns : ℕ) (m : Memory) (s : State) → Stands (face_of_net n) (system_of_net n) p m s
      → Does n p own (first_of (offers_from k cs) s) (exec p.vars (event_text done (all_written n w y k cs)) turns m) turns m s
  event-does done k [] all marked turns m s st = nothing turns m s st
  event-does done k (c ∷ []) all marked turns m s st =
      subst (λ d. Does n p own d (exec p.vars (alone (choice_written n w y k c)) turns m) turns m s) (sym (or-none (made n c s))) (alone-does k c all.0 turns m s st)
  event-does done k (c ∷ b ∷ cs) all marked turns m s st = go (all_bare (all_written n w y k (c ∷ b ∷ cs))) refl
    where
      go : (t : Bool) → all_bare (all_written n w y k (c ∷ b ∷ cs)) ≡ t
          → Does n p own (first_of (offers_from k (c ∷ b ∷ cs)) s)
          (exec p.vars (if t then chain (all_written n w y k (c ∷ b ∷ cs)) else stms (assign done (truth false)) (parts_text done (all_written n w y k (c ∷ b ∷ cs)))) turns m) turns m s
      go true is = chain-runs k c (b ∷ cs) all is turns m s st
      go false is =
          marked-does done (marked (ap (λ q. if q then false else nat_lt 1 (length (all_written n w y k (c ∷ b ∷ cs)))) is ∙ many (length (all_written n w y (k + choice_temps n c + choice_temps n b) cs)))) k (c ∷ b ∷ cs) all turns m s st

  -- the statements of the event try it
  pub event-tried : (cs : List NetChoice) (done : Text) (k : ℕ) → full_choices n cs ≡ listed (system_of_net n) → e < length (system_of_net n).events → AllFrom n Fits k (choices_of cs e)
      → (needs_mark (all_written n w y k (choices_of cs e)) ≡ true → DoneStands p own w y low count done)
      → TriesEvent (face_of_net n) (system_of_net n) p (record { own = own; body = event_text done (all_written n w y k (choices_of cs e)) }) e
  event-tried cs done k each within all marked turns m s st =
      let d = event-does done k (choices_of cs e) all marked turns m s st in
      let first : first_of (offers_from k (choices_of cs e)) s ≡ first_step (system_of_net n) s e =
      first-is k (choices_of cs e) s (of-event cs e) ∙ ap (λ chs. option_map (after (system_of_net n) s) (find (makes_step (system_of_net n) s e) chs)) (choices-are n cs e each within) in
      (d.after, d.ends, d.writes, d.typed, subst (λ o. Follows (face_of_net n) (system_of_net n) p m s o d.after) first d.follows)
