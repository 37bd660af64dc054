-- What the statements of an event do whose choices need a mark of the event's own: the first choice that is made sets it, and
-- those after it are skipped. What one choice does is a premise, so choices with values and invariants come under it too.
use Rattle.std.proofs.Common.{◌≡◌, ℕ, ◌^◌, ◌<◌, ◌≤◌, ℤ, pos, Bool, true, false, not, List, [], ◌∷◌, map, length, Option, Some, None, Ok, get_or, inr, refl, sym, ap, subst, ◌∙◌, arith}
use Rattle.std.specs.Prelude.{IsTrue, codes, slice_set, if◌then◌else◌}
use Rattle.std.specs.List.{AllByRecursion}
use Rattle.std.proofs.lemmas.List.{get_or-set_same, get_or-set_other}
use Rattle.grammar.specs.Pieces.{Text}
use Rattle.cif_system.specs.System.{State, in_range}
use Rattle.cif_system.specs.Step.{after}
use Rattle.cif_net_model.specs.Net.{Net}
use Rattle.cif_net_model.specs.Meaning.{system_of_net}
use Rattle.st_ast.specs.Tree.{Expr, Program, Stm, Stms, append, assign, branches, choice, complement, named, no_branches, no_other, no_stms, stms, truth}
use Rattle.st_ast.specs.Names.{place_of, same_name}
use Rattle.st_ast.specs.Values.{Memory, is_true, of_bool, value_of, with_value}
use Rattle.st_ast.specs.Exec.{Outcome, Ended, Faulted, and_then, exec, exec_one, is_within}
use Rattle.st_ast.specs.declared.tree.StVar.{StVar}
use Rattle.st_ast.specs.declared.tree.StTy.TheVariants as ty
use Rattle.st_ast.proofs.Runs.{append_runs, assign_runs, cons_runs}
use Rattle.plc_model.specs.declared.letter.Letter.{Letter}
use Rattle.plc_model.specs.declared.letter.Letter.TheVariants as letter
use Rattle.plc_model.specs.Names.{name_for}
use Rattle.plc_model.specs.Face.{IsDeclared, range_of}
use Rattle.plc_model.specs.Frame.{Follows, Stands, WritesOnly, fired, mark_in, writable}
use Rattle.plc_model.proofs.NameLaws.{letters-differ, names-differ}
use Rattle.plc_model.proofs.FaceLaws.{Typed, below, declared-of, declared-type, pairwise-length, places-differ, set-keeps, state-kept, typed-written}
use Rattle.plc_frame.specs.Faces.{face_of_net}
use Rattle.plc_frame.specs.Events.{Written, marks_with, parts_text, tested, unless_done}
use Rattle.plc_frame.proofs.Writing.{Among, writes-none, writes-one, writes-then}
use Rattle.plc_frame.proofs.Making.{Does, fired_is}

-- the first of two
abbrev pub or_else : {A : Type 0} → Option A → Option A → Option A
or_else None o = o
or_else (Some t) o = Some t

-- what is written for a choice, and where its step leads from a state, if it makes one
pub record Offer : Type 0 where
  pub written : Written
  pub made : State → Option State

abbrev pub first_of : List Offer → State → Option State
first_of [] s = None
first_of (f ∷ fs) s = or_else (f.made s) (first_of fs s)

abbrev pub all_parts : Text → List Offer → Stms
all_parts done fs = parts_text done (map (λ (f : Offer). f.written) fs)

module _ (n : Net) (p : Program) (own : List Text) (done : Text) where
  abbrev pub done_in : Memory → ℤ
  done_in m = get_or m (place_of p.vars done) (pos 0)

  -- the event's mark is set with a step, and else it is as it was
  abbrev pub Ticks : Option State → Memory → Memory → Type 0
  Ticks None m after = done_in after ≡ done_in m
  Ticks (Some t) m after = done_in after ≡ pos 1

  pub record Chosen (o : Option State) (out : Outcome) (k : ℕ) (m : Memory) (s : State) : Type 0 where
    pub does : Does n p own o out k m s
    pub ticks : Ticks o m does.after

  -- no statement
  pub skip_does : (k : ℕ) (m : Memory) (s : State) → Stands (face_of_net n) (system_of_net n) p m s → Chosen None (Ended k m) k m s
  skip_does k m s st = record {
    does = record { after = m; ends = refl; writes = writes-none (writable (face_of_net n) own) p.vars m; typed = st.typed; follows = (st.state, refl) };
    ticks = refl;
  }

  -- statements that keep the state and the marks
  pub record Prepared (ss : Stms) (k : ℕ) (m : Memory) (s : State) : Type 0 where
    pub after : Memory
    pub ends : exec p.vars ss k m ≡ Ended k after
    pub writes : WritesOnly (writable (face_of_net n) own) p.vars m after
    pub stands : Stands (face_of_net n) (system_of_net n) p after s
    pub mark : mark_in p after ≡ mark_in p m
    pub tick : done_in after ≡ done_in m

  follows-on : (o : Option State) (m a b : Memory) (s : State) → mark_in p a ≡ mark_in p m → Follows (face_of_net n) (system_of_net n) p a s o b → Follows (face_of_net n) (system_of_net n) p m s o b
  follows-on None m a b s same h = (h.0, h.1 ∙ same)
  follows-on (Some t) m a b s same h = h

  ticks-on : (o : Option State) (m a b : Memory) → done_in a ≡ done_in m → Ticks o a b → Ticks o m b
  ticks-on None m a b same h = h ∙ same
  ticks-on (Some t) m a b same h = h

  -- such statements before others
  pub prepared_does : (ss rest : Stms) (o : Option State) (k : ℕ) (m : Memory) (s : State) (q : Prepared ss k m s) → Chosen o (exec p.vars rest k q.after) k q.after s → Chosen o (exec p.vars (append ss rest) k m) k m s
  prepared_does ss rest o k m s q d = record {
    does = record {
      after = d.does.after;
      ends = append_runs p.vars ss rest k k m q.after q.ends ∙ d.does.ends;
      writes = writes-then (writable (face_of_net n) own) p.vars m q.after d.does.after q.writes d.does.writes;
      typed = d.does.typed;
      follows = follows-on o m q.after d.does.after s q.mark d.does.follows;
    };
    ticks = ticks-on o m q.after d.does.after q.tick d.ticks;
  }

  -- one statement
  one_does : (t : Stm) (o : Option State) (k : ℕ) (m : Memory) (s : State) → Chosen o (exec_one p.vars t k m) k m s → Chosen o (exec p.vars (stms t no_stms) k m) k m s
  one_does t o k m s d = record {
    does = record {
      after = d.does.after;
      ends = cons_runs p.vars t no_stms k k m d.does.after d.does.ends;
      writes = d.does.writes;
      typed = d.does.typed;
      follows = d.does.follows;
    };
    ticks = d.ticks;
  }

  -- an IF with a test that has a value
  pub tested_does : (test : Expr) (ss : Stms) (b : Bool) (o : Option State) (k : ℕ) (m : Memory) (s : State) → value_of p.vars test m ≡ Ok (of_bool b) → Stands (face_of_net n) (system_of_net n) p m s
      → (b ≡ true → Chosen o (exec p.vars ss k m) k m s) → Chosen (if b then o else None) (exec p.vars (tested test ss) k m) k m s
  tested_does test ss b o k m s value st act =
      one_does (choice (branches test ss no_branches) no_other) (if b then o else None) k m s
      (subst (λ r. Chosen (if b then o else None) (with_value r Faulted (λ v. if is_true v then exec p.vars ss k m else Ended k m)) k m s) (sym value) (pick b act))
    where
      pick : (b : Bool) → (b ≡ true → Chosen o (exec p.vars ss k m) k m s) → Chosen (if b then o else None) (if is_true (of_bool b) then exec p.vars ss k m else Ended k m) k m s
      pick true act = act refl
      pick false act = skip_does k m s st

  -- ---- a choice among others

  abbrev pub body_of : Written → Stms
  body_of w = append w.before (tested w.test (w.act (marks_with done)))

  -- where none was made before, the choice is made if it makes a step
  abbrev pub Offers : Offer → Type 0
  Offers f = (k : ℕ) (m : Memory) (s : State) → Stands (face_of_net n) (system_of_net n) p m s → done_in m ≡ pos 0 → Chosen (f.made s) (exec p.vars (body_of f.written) k m) k m s

  part_does : (f : Offer) → Offers f → (k : ℕ) (m : Memory) (s : State) → Stands (face_of_net n) (system_of_net n) p m s → done_in m ≡ pos 0 → Chosen (f.made s) (exec p.vars (unless_done done f.written) k m) k m s
  part_does f offers k m s st none =
      tested_does (complement (named done)) (body_of f.written) true (f.made s) k m s (ap (λ z. Ok (of_bool (not (is_true z)))) none) st (λ e. offers k m s st none)

  part_skipped : (w : Written) (k : ℕ) (m : Memory) → done_in m ≡ pos 1 → exec p.vars (unless_done done w) k m ≡ Ended k m
  part_skipped w k m made =
      ap (λ z. and_then (with_value (Ok (of_bool (not (is_true z)))) Faulted (λ v. if is_true v then exec p.vars (body_of w) k m else Ended k m)) (λ l j. exec p.vars no_stms l j)) made

  parts_skipped : (fs : List Offer) (k : ℕ) (m : Memory) → done_in m ≡ pos 1 → exec p.vars (all_parts done fs) k m ≡ Ended k m
  parts_skipped [] k m made = refl
  parts_skipped (f ∷ fs) k m made = append_runs p.vars (unless_done done f.written) (all_parts done fs) k k m m (part_skipped f.written k m made) ∙ parts_skipped fs k m made

  pub parts_does : (fs : List Offer) → AllByRecursion Offers fs → (k : ℕ) (m : Memory) (s : State) → Stands (face_of_net n) (system_of_net n) p m s → done_in m ≡ pos 0
      → Chosen (first_of fs s) (exec p.vars (all_parts done fs) k m) k m s
  parts_does [] all k m s st none = skip_does k m s st
  parts_does (f ∷ fs) all k m s st none = go (f.made s) (part_does f all.0 k m s st none) (λ a stands same. parts_does fs all.1 k a s stands same)
    where
      go : (o : Option State) → Chosen o (exec p.vars (unless_done done f.written) k m) k m s
          → ((a : Memory) → Stands (face_of_net n) (system_of_net n) p a s → done_in a ≡ pos 0 → Chosen (first_of fs s) (exec p.vars (all_parts done fs) k a) k a s)
          → Chosen (or_else o (first_of fs s)) (exec p.vars (append (unless_done done f.written) (all_parts done fs)) k m) k m s
      go None d rest =
          let stands : Stands (face_of_net n) (system_of_net n) p d.does.after s = record { state = d.does.follows.0; typed = d.does.typed; keeps = st.keeps } in
          prepared_does (unless_done done f.written) (all_parts done fs) (first_of fs s) k m s
          record { after = d.does.after; ends = d.does.ends; writes = d.does.writes; stands = stands; mark = d.does.follows.1; tick = d.ticks }
          (rest d.does.after stands (d.ticks ∙ none))
      go (Some t) d rest = record {
        does = record {
          after = d.does.after;
          ends = append_runs p.vars (unless_done done f.written) (all_parts done fs) k k m d.does.after d.does.ends ∙ parts_skipped fs k d.does.after d.ticks;
          writes = d.does.writes;
          typed = d.does.typed;
          follows = d.does.follows;
        };
        ticks = d.ticks;
      }

-- ---- an event with a mark of its own

module _ (n : Net) (p : Program) (own : List Text) (j : ℕ) (path : Text) (above : 2 ≤ j) (small : j < 2 ^ 32) where
  module _ (is : IsDeclared p.vars (name_for letter.T j path) ty.Bool) (mark : IsDeclared p.vars fired ty.Bool) (among : Among (name_for letter.T j path) (writable (face_of_net n) own)) where
    -- the two marks are two variables
    apart : same_name (name_for letter.T j path) fired ≡ false
    apart = subst (λ w. same_name (name_for letter.T j path) w ≡ false) fired_is (names-differ letter.T letter.T j 0 path (codes "fired") (omega (arith, small)) (omega arith) (inr (λ e. omega (arith, e, above))))

    within : (m : Memory) → Typed p.vars m → place_of p.vars (name_for letter.T j path) < length m
    within m typed =
        let d = declared-of p.vars (name_for letter.T j path) ty.Bool is in
        let inside = below p.vars (place_of p.vars (name_for letter.T j path)) d.variable d.at in
        let long = pairwise-length (λ (v : StVar) z. IsTrue (in_range (range_of v.ty) z)) p.vars m typed in omega (arith, inside, long)

    set-runs : (b : Bool) (k : ℕ) (m : Memory) → exec_one p.vars (assign (name_for letter.T j path) (truth b)) k m ≡ Ended k (slice_set m (place_of p.vars (name_for letter.T j path)) (of_bool b))
    set-runs b k m =
        assign_runs p.vars (name_for letter.T j path) (truth b) (place_of p.vars (name_for letter.T j path)) (of_bool b) k m refl refl
        (ap (λ t. is_within t (of_bool b)) (declared-type p.vars (name_for letter.T j path) ty.Bool is))

    -- the other mark keeps its value
    mark-kept : (b : Bool) (m : Memory) → mark_in p (slice_set m (place_of p.vars (name_for letter.T j path)) (of_bool b)) ≡ mark_in p m
    mark-kept b m =
        let d = declared-of p.vars (name_for letter.T j path) ty.Bool is in
        get_or-set_other m (place_of p.vars (name_for letter.T j path)) (place_of p.vars fired) (of_bool b) (pos 0)
        (λ e. places-differ p.vars (name_for letter.T j path) fired d.variable d.at apart (sym e))

    pub event_does : (fs : List Offer) → AllByRecursion (Offers n p own (name_for letter.T j path)) fs → (k : ℕ) (m : Memory) (s : State) → Stands (face_of_net n) (system_of_net n) p m s
        → Does n p own (first_of fs s) (exec p.vars (stms (assign (name_for letter.T j path) (truth false)) (all_parts (name_for letter.T j path) fs)) k m) k m s
    event_does fs all k m s st =
        let cleared : Memory = slice_set m (place_of p.vars (name_for letter.T j path)) (pos 0) in
        let keeps = λ (l : Letter) (other : l ≡ letter.T → ⊥). set-keeps p m (name_for letter.T j path) (pos 0) l (λ i way. letters-differ l letter.T i j way path other) in
        let stands : Stands (face_of_net n) (system_of_net n) p cleared s = record {
          state = state-kept (face_of_net n) (system_of_net n) p m cleared s (keeps letter.L (λ e. cc)) (keeps letter.V (λ e. cc)) (keeps letter.H (λ e. cc)) st.state;
          typed = typed-written p.vars m (name_for letter.T j path) ty.Bool (pos 0) is refl st.typed;
          keeps = st.keeps;
        } in
        let d = parts_does n p own (name_for letter.T j path) fs all k cleared s stands (get_or-set_same m (place_of p.vars (name_for letter.T j path)) (pos 0) (pos 0) (within m st.typed)) in
        record {
          after = d.does.after;
          ends = cons_runs p.vars (assign (name_for letter.T j path) (truth false)) (all_parts (name_for letter.T j path) fs) k k m cleared (set-runs false k m) ∙ d.does.ends;
          writes = writes-then (writable (face_of_net n) own) p.vars m cleared d.does.after (writes-one (writable (face_of_net n) own) p.vars m (name_for letter.T j path) (pos 0) among) d.does.writes;
          typed = d.does.typed;
          follows = follows-on n p own (name_for letter.T j path) (first_of fs s) m cleared d.does.after s (mark-kept false m) d.does.follows;
        }
