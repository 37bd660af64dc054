-- What the statements do that test the state invariants which are asked: they change own variables of expressions alone, and the
-- test has the truth of the invariants in the state after the choice.
use Rattle.std.proofs.Common.{◌≡◌, ℕ, ◌+◌, ◌<◌, ◌≤◌, ℤ, pos, Bool, true, false, List, length, Ok, refl, ap, ◌∙◌, if◌then◌else◌}
use Rattle.std.specs.Prelude.{slice_get, slice_index_or}
use Rattle.std.specs.List.{list_all}
use Rattle.grammar.specs.Pieces.{Text}
use Rattle.cif_system.specs.System.{State}
use Rattle.cif_net_expr.specs.Tree.{NetExpr}
use Rattle.cif_net_model.specs.Net.{Net}
use Rattle.cif_net_model.specs.Exprs.{targets}
use Rattle.cif_net_model.specs.Facts.{has}
use Rattle.cif_net_model.specs.Listing.{NetChoice, all_hold, exprs_of}
use Rattle.cif_net_model.specs.Meaning.{system_of_net, true_in}
use Rattle.cif_net_model.specs.Table.{carried_type}
use Rattle.cif_net_model.specs.Value as v
use Rattle.cif_net_model.proofs.TestLaws.{all-exprs}
use Rattle.st_ast.specs.Tree.{Program}
use Rattle.st_ast.specs.Names.{place_of}
use Rattle.st_ast.specs.Values.{Memory, of_bool, value_of}
use Rattle.st_ast.specs.Exec.{Ended, exec}
use Rattle.plc_model.specs.declared.letter.Letter.{Letter}
use Rattle.plc_model.specs.declared.letter.Letter.TheVariants as letter
use Rattle.plc_model.specs.Names.{name_for}
use Rattle.plc_model.specs.Face.{StateOf}
use Rattle.plc_model.proofs.FaceLaws.{Kept, state-kept}
use Rattle.plc_frame.specs.Faces.{face_of_net}
use Rattle.plc_expr.specs.Texts.{Naming, temps, text, before}
use Rattle.cif_net_model.specs.Safe.{Setting, value_at}
use Rattle.plc_expr.specs.Held.{held_at}
use Rattle.plc_event_model.specs.Writes.{NewNames}
use Rattle.plc_event_model.specs.Asked.{setting_of, Promises}
use Rattle.plc_event_model.specs.Declared.{OwnStand}
use Rattle.plc_event_model.specs.Keeps.{after_naming}
use Rattle.plc_event_model.specs.Own.{variable_name}
use Rattle.plc_event_model.specs.Ready.{HoldsAfter, IsReadyAfter, state_after}
use Rattle.plc_event_model.proofs.Memories.{IsLater, later-state, next-own, other-letter, own-inside, past-own, past-some}
use Rattle.plc_event_model.proofs.Reading.{reads-variable}
use Rattle.plc_event_model.proofs.Taking.{old}
use Rattle.plc_event_model.proofs.Writing.{same-at}

-- a conjunction has the truth of its members
pub all-value : (n : Net) (t : State) (es : List NetExpr) → value_at (setting_of n t (pos 0)) (all_hold es) ≡ of_bool (list_all (true_in n t) es)
all-value n t es = same (v.net_all (setting_of n t (pos 0)).algs t (pos 0) (exprs_of es)) ∙ ap of_bool (all-exprs n t es)
  where
    same : (b : Bool) → v.of_bool b ≡ of_bool (v.is_true (v.of_bool b))
    same true = refl
    same false = refl

module _ (n : Net) (p : Program) (own : List Text) (w : Naming) (y : NewNames) (base low count : ℕ) (c : NetChoice) (o : OwnStand n p own w y base low count (carried_type n c) c.writes)
    (named_so : (v : ℕ) → w.variable v ≡ variable_name n v) (s : State) (m0 : Memory) (st : StateOf (face_of_net n) (system_of_net n) p m0 s)
    (promised : Promises p.vars (after_naming n w y c) (setting_of n (state_after n c s) (pos 0)) base low count)
    (f : ℕ → ℤ) (is_after : (v : ℕ) → v < length n.vars → f v ≡ slice_index_or (state_after n c s).vals v (pos 0)) (stays : (v : ℕ) → has (targets c.writes) v ≡ false → old n p s v ≡ f v) where
  abbrev IsAfter : Memory → Type 0
  IsAfter m = IsLater n p own w y base low count c.writes m0 m

  abbrev named_after : Naming
  named_after = after_naming n w y c

  abbrev x : Setting
  x = setting_of n (state_after n c s) (pos 0)

  -- the new values are there
  abbrev HasNew : Memory → Type 0
  HasNew m = (v : ℕ) → has (targets c.writes) v ≡ true → held_at p.vars m (y.next v) ≡ f v

  holds-after : (m : Memory) → StateOf (face_of_net n) (system_of_net n) p m s → HasNew m → HoldsAfter n p w y c s m
  holds-after m stands new v below = go (has (targets c.writes) v) refl
    where
      go : (b : Bool) → has (targets c.writes) v ≡ b → held_at p.vars m (if b then y.next v else w.variable v) ≡ slice_index_or (state_after n c s).vals v (pos 0)
      go true is = new v is ∙ is_after v below
      go false is = ap (held_at p.vars m) (named_so v) ∙ reads-variable n p w.received s (pos 0) m stands v below ∙ stays v is ∙ is_after v below

  -- What the statements before an expression come to: its text has its value after the choice.
  pub record Asks (k : ℕ) (e : NetExpr) (turns : ℕ) (a : Memory) : Type 0 where
    pub after : Memory
    pub ends : exec p.vars (before (after_naming n w y c) k e) turns a ≡ Ended turns after
    pub later : IsAfter after
    pub new : (v : ℕ) → has (targets c.writes) v ≡ true → held_at p.vars after (y.next v) ≡ f v
    pub value : value_of p.vars (text (after_naming n w y c) k e) after ≡ Ok (value_at (setting_of n (state_after n c s) (pos 0)) e)

  -- a memory that is alike at the places of all others
  alike-state : (a b : Memory) → IsAfter a → ((j : ℕ) → (base + low ≤ j → base + count ≤ j) → slice_get b j ≡ slice_get a j) → StateOf (face_of_net n) (system_of_net n) p b s
  alike-state a b later same =
      state-kept (face_of_net n) (system_of_net n) p a b s (kept letter.L (λ q. cc)) (kept letter.V (λ q. cc)) (kept letter.H (λ q. cc))
      (later-state n p own w y base low count c.writes (carried_type n c) o m0 a s later st)
    where
      kept : (l : Letter) → (l ≡ letter.T → ⊥) → Kept p a b l
      kept l other i path t at =
          same (place_of p.vars (name_for l i path))
          (past-own n p own w y base low count c.writes (carried_type n c) o (place_of p.vars (name_for l i path)) (other-letter n p own w y base low count c.writes (carried_type n c) o l other i path t at).no_own)

  alike-new : (a b : Memory) → HasNew a → ((j : ℕ) → (base + low ≤ j → base + count ≤ j) → slice_get b j ≡ slice_get a j) → HasNew b
  alike-new a b new same v i =
      same-at b a (place_of p.vars (y.next v)) (pos 0)
      (same (place_of p.vars (y.next v))
      (past-own n p own w y base low count c.writes (carried_type n c) o (place_of p.vars (y.next v)) (λ k. next-own n p own w y base low count c.writes (carried_type n c) o v k i)))
      ∙ new v i

  pub asks-run : (k : ℕ) (e : NetExpr) → IsReadyAfter n p w y base c s k e → low ≤ k → k + temps e ≤ count → (turns : ℕ) (a : Memory) → IsAfter a → HasNew a → Asks k e turns a
  asks-run k e ready from room turns a later new =
      let stands = later-state n p own w y base low count c.writes (carried_type n c) o m0 a s later st in
      let q = promised.prepares e k turns a (λ b same. ready.1 b (alike-state a b later same) (holds-after b (alike-state a b later same) (alike-new a b new same)))
      (own-inside n p own w y base low count c.writes (carried_type n c) o m0 a later) ready.0 from room in
      let next : IsAfter q.after = record {
        typed = ready.2 turns a later.typed (ready.1 a stands (holds-after a stands new)) q;
        others = λ j apart.
            q.beside.others j (λ above. past-some n p own w y base low count c.writes (carried_type n c) o j k (temps e) apart.no_own from room above)
            ∙ later.others j apart;
      } in
      let news : HasNew q.after = λ v i.
      same-at q.after a (place_of p.vars (y.next v)) (pos 0)
      (q.beside.others (place_of p.vars (y.next v))
      (λ above. past-some n p own w y base low count c.writes (carried_type n c) o (place_of p.vars (y.next v)) k (temps e) (λ j. next-own n p own w y base low count c.writes (carried_type n c) o v j i) from room above))
      ∙ new v i in
      let there = later-state n p own w y base low count c.writes (carried_type n c) o m0 q.after s next st in
      record {
        after = q.after;
        ends = q.runs;
        later = next;
        new = news;
        value = promised.valued e k q.after (ready.1 q.after there (holds-after q.after there news)) ready.0 q.held;
      }
