-- What the statements of a choice do: those before its test, the test, and what it does where the test holds.
use Rattle.std.proofs.Common.{◌≡◌, ◌≢◌, ℕ, suc, ◌+◌, ◌^◌, ◌<◌, pos, Bool, true, false, ◌&&◌, List, [], ◌∷◌, length, Some, Ok, refl, ap, subst, ◌∙◌, arith}
use Rattle.std.specs.Prelude.{slice_get}
use Rattle.std.specs.List.{list_all}
use Rattle.grammar.specs.Pieces.{Text}
use Rattle.cif_base.specs.declared.types.Ty.{Ty}
use Rattle.cif_system.specs.System.{State}
use Rattle.cif_system.specs.Step.{after, makes_step}
use Rattle.cif_system.proofs.Lists.{some-same}
use Rattle.cif_net_model.specs.Net.{Net}
use Rattle.cif_net_model.specs.Facts.{stored_stands}
use Rattle.cif_net_model.specs.Listing.{NetChoice}
use Rattle.cif_net_model.specs.Meaning.{system_of_net, true_in}
use Rattle.cif_net_model.specs.Table.{carried_type}
use Rattle.cif_net_model.specs.Value as v
use Rattle.st_ast.specs.Tree.{Program, Stms, append}
use Rattle.st_ast.specs.Names.{place_of}
use Rattle.st_ast.specs.Values.{Memory, of_bool, value_of}
use Rattle.st_ast.specs.Exec.{exec}
use Rattle.plc_model.specs.Frame.{Stands}
use Rattle.plc_frame.specs.Faces.{face_of_net}
use Rattle.plc_frame.specs.Events.{moves_text, tested}
use Rattle.plc_frame.proofs.Choosing.{choice_in}
use Rattle.plc_frame.proofs.Making.{Ready}
use Rattle.plc_frame.proofs.Marked.{Chosen, prepared_does, tested_does}
use Rattle.plc_expr.specs.Texts.{Naming, temps, text, before}
use Rattle.plc_expr.specs.Held.{Held}
use Rattle.cif_net_model.specs.Safe.{Setting, value_at}
use Rattle.plc_event_model.specs.Writes.{NewNames, updates_temps}
use Rattle.plc_event_model.specs.Acts.{act, stored}
use Rattle.plc_event_model.specs.Sends.{sends, sends_fit, sent_temps}
use Rattle.plc_event_model.specs.Asked.{setting_of, Promises}
use Rattle.plc_event_model.specs.Keeps.{where_kept}
use Rattle.plc_event_model.specs.Own.{variable_name}
use Rattle.plc_event_model.specs.Ready.{ChoiceStands}
use Rattle.plc_event_model.proofs.Memories.{IsOther}
use Rattle.plc_event_model.proofs.Acting.{IsGuardedChoice, after-test, allowed, makes-is}
use Rattle.plc_event_model.proofs.Sending.{Closes, expr-before, made, sends-does, steps}

-- the truth values of nets and of programs are the same numbers
same-truth : (b : Bool) → v.of_bool b ≡ of_bool b
same-truth true = refl
same-truth false = refl

lists-same : (xs ys : Memory) → length xs ≡ length ys → ((j : ℕ) → slice_get xs j ≡ slice_get ys j) → xs ≡ ys
lists-same [] [] long same = refl
lists-same [] (z ∷ ys) long same = absurd (omega (arith, long))
lists-same (x ∷ xs) [] long same = absurd (omega (arith, long))
lists-same (x ∷ xs) (z ∷ ys) long same = ap (λ r. r ∷ xs) (some-same x z (same 0)) ∙ ap (λ r. z ∷ r) (lists-same xs ys (omega (arith, long)) (λ j. same (suc j)))

module _ (n : Net) (p : Program) (own : List Text) (w : Naming) (y : NewNames) (base low count : ℕ) (named_so : (v : ℕ) → w.variable v ≡ variable_name n v)
    (stored_stand : list_all stored_stands n.vars ≡ true) (few : length n.vars < 2 ^ 32) (ready : Ready n p) (promised : (v : Naming) (x : Setting) → v.own ≡ w.own → Promises p.vars v x base low count)
    (k : ℕ) (c : NetChoice) (h : IsGuardedChoice n c) (cs : ChoiceStands n p own w y base low count k c) (done : Text) (done_other : IsOther n p own w y base low count c.writes (place_of p.vars done))
    (done_apart : (t : Ty) → carried_type n c ≡ Some t → place_of p.vars done ≢ place_of p.vars w.received) (ss : Stms) where
  abbrev act_text : Stms
  act_text =
      sends w (k + temps c.test) c.sent (carried_type n c)
      (act n w y (k + temps c.test + sent_temps c.sent) c.writes
      (where_kept n w y (k + temps c.test + sent_temps c.sent + updates_temps c.writes) c (stored w y c.writes (moves_text n c.moves ss))))

  module _ (turns : ℕ) (m : Memory) (s : State) (st : Stands (face_of_net n) (system_of_net n) p m s) where
    -- what it does where the test holds
    pub test-chosen : Closes n p own w y base low count named_so stored_stand few ready promised k c h cs done done_other done_apart ss turns → true_in n s c.test ≡ true
        → Chosen n p own done (made n c s) (exec p.vars act_text turns m) turns m s
    test-chosen close test = sends-does n p own w y base low count named_so stored_stand few ready promised k c h cs done done_other done_apart ss turns s close test m st

    test-value : (a : Memory) → value_of p.vars (text w k c.test) a ≡ Ok (value_at (setting_of n s (pos 0)) c.test) → value_of p.vars (text w k c.test) a ≡ Ok (of_bool (true_in n s c.test))
    test-value a e = e ∙ ap Ok ((cs.ready.test s st.state.is_state).1 ∙ same-truth (true_in n s c.test))

    -- the choice by itself
    pub body-does : Closes n p own w y base low count named_so stored_stand few ready promised k c h cs done done_other done_apart ss turns
        → Chosen n p own done (made n c s) (exec p.vars (append (before w k c.test) (tested (text w k c.test) act_text)) turns m) turns m s
    body-does close =
        let from = cs.from in
        let room = cs.room in
        let b = expr-before n p own w y base low count named_so stored_stand few ready promised k c h cs done done_other done_apart ss turns m s st k c.test (cs.ready.test s st.state.is_state).0 (omega (arith, from)) (omega (arith, room)) in
        prepared_does n p own done (before w k c.test) (tested (text w k c.test) act_text) (made n c s) turns m s b.prepared
        (subst (λ d. Chosen n p own done d (exec p.vars (tested (text w k c.test) act_text) turns b.prepared.after) turns b.prepared.after s)
        (after-test (after (system_of_net n) s (choice_in n c)) (true_in n s c.test) (sends_fit n s c && allowed n c s) (makes_step (system_of_net n) s c.event (choice_in n c)) (makes-is n c s h))
        (tested_does n p own done (text w k c.test) act_text (true_in n s c.test) (made n c s) turns b.prepared.after s (test-value b.prepared.after b.value) b.prepared.stands
        (λ test. sends-does n p own w y base low count named_so stored_stand few ready promised k c h cs done done_other done_apart ss turns s close test b.prepared.after b.prepared.stands)))

    -- where nothing stands before the test, its text has its value at once
    pub bare-told : temps c.test ≡ 0 → value_of p.vars (text w k c.test) m ≡ Ok (of_bool (true_in n s c.test))
    bare-told none =
        let from = cs.from in
        let room = cs.room in
        let q = steps n p own w y base low count named_so stored_stand few ready promised k c h cs done done_other done_apart ss turns m s st k c.test (cs.ready.test s st.state.is_state).0 (omega (arith, from)) (omega (arith, room)) in
        let same : q.after ≡ m = lists-same q.after m q.beside.same_length (λ j. q.beside.others j (λ above. omega (arith, none, above))) in
        test-value m
        ((promised w (setting_of n s (pos 0)) refl).valued c.test k m ((cs.ready.test s st.state.is_state).0.1 m st.state tt) (cs.ready.test s st.state.is_state).0.0 (subst (λ a. Held p.vars w (setting_of n s (pos 0)) a k c.test) same q.held))
