-- The right program of the door meets all premises of the law of the frame.
use Rattle.std.proofs.Common.{◌≡◌, ℕ, zero, suc, ◌≤◌, ℤ, pos, negsuc, false, true, List, [], ◌∷◌, Some, refl, sym, subst, inl, inr, arith, leb-true}
use Rattle.std.specs.Prelude.{IsTrue, int_le}
use Rattle.std.specs.Fmt.{digits}
use Rattle.std.specs.List.{AllByRecursion, list_any}
use Rattle.grammar.proofs.Texts.{and_right}
use Rattle.cif_system.specs.System.{Range, State, in_range, initial}
use Rattle.cif_system.specs.Choices.{first_step}
use Rattle.cif_system.proofs.Lists.{some-same}
use Rattle.st_ast.specs.Names.{same_name}
use Rattle.st_ast.specs.Tree.{Stms}
use Rattle.st_ast.specs.Values.{Memory}
use Rattle.st_ast.specs.Exec.{Ended, exec}
use Rattle.st_ast.specs.Scan.{start_memory}
use Rattle.st_ast.specs.declared.tree.StVar.{StVar}
use Rattle.st_ast.specs.declared.tree.StClass.TheVariants as class
use Rattle.st_ast.specs.declared.tree.StTy.TheVariants as ty
use Rattle.st_ast.specs.declared.tree.StLit.TheVariants as lit
use Rattle.plc_model.specs.Face.{HasInterface, StateOf, Shows, AreInTypes}
use Rattle.plc_model.specs.Scans.{IsProgramOf, ScansExactly, ShowsOutputs, StaysTyped}
use Rattle.plc_model.specs.Frame.{fired, Part, part_of, Stands, IsOwnName, writable, WritesOnly, Follows, HasClass, TriesEvent, WritesOutputs, IsFramed}
use Rattle.plc_model.specs.Door.{closed, system, door_at, face, variable, place_variable, variables, opens, locks, shows, program_with, program, memory}
use Rattle.plc_model.proofs.NameLaws.{false-true}
use Rattle.plc_model.proofs.Framed.{framed-scans}

-- ---- memories

abbrev pub bit : Range
bit = record { lo = pos 0; hi = pos 1 }

pub state-at : (body : Stms) (i h : ℤ) (place : ℕ) (o f r : ℤ) → suc place ≤ 3 → IsTrue (in_range bit h) → StateOf face system (program_with body) (memory i h place o f r) (door_at place h)
unfolding digits
state-at body i h place o f r below key = record {
  places = (record { is_declared = refl; holds = refl }, tt);
  values = tt;
  inputs = (record { is_declared = refl; holds = refl }, tt);
  is_state = record { places = (below, tt); values = tt; inputs = (key, tt) };
}

record Six (m : Memory) : Type 0 where
  pub i : ℤ
  pub h : ℤ
  pub l : ℤ
  pub o : ℤ
  pub f : ℤ
  pub r : ℤ
  pub is : m ≡ i ∷ h ∷ l ∷ o ∷ f ∷ r ∷ []

six : (m : Memory) → AreInTypes program m → Six m
six [] t = absurd t
six (i ∷ []) t = absurd t.1
six (i ∷ h ∷ []) t = absurd t.1.1
six (i ∷ h ∷ l ∷ []) t = absurd t.1.1.1
six (i ∷ h ∷ l ∷ o ∷ []) t = absurd t.1.1.1.1
six (i ∷ h ∷ l ∷ o ∷ f ∷ []) t = absurd t.1.1.1.1.1
six (i ∷ h ∷ l ∷ o ∷ f ∷ r ∷ []) t = record { i = i; h = h; l = l; o = o; f = f; r = r; is = refl }
six (i ∷ h ∷ l ∷ o ∷ f ∷ r ∷ z ∷ m) t = absurd t.1.1.1.1.1.1

-- what holds of the memories of states, by the place and the key, holds of each memory that stands for one
module _ (P : Memory → State → Type 0)
    (each : (i h : ℤ) (place : ℕ) (o f r : ℤ) → suc place ≤ 3 → IsTrue (in_range bit h) → AreInTypes program (memory i h place o f r) → P (memory i h place o f r) (door_at place h)) where
  by-parts : (i h l o f r : ℤ) (locs : List ℕ) (vals ins : List ℤ) → AreInTypes program (i ∷ h ∷ l ∷ o ∷ f ∷ r ∷ [])
      → StateOf face system program (i ∷ h ∷ l ∷ o ∷ f ∷ r ∷ []) (record { locs = locs; vals = vals; ins = ins }) → P (i ∷ h ∷ l ∷ o ∷ f ∷ r ∷ []) (record { locs = locs; vals = vals; ins = ins })
  unfolding digits
  by-parts i h l o f r [] vals ins t s = absurd s.places
  by-parts i h l o f r (k ∷ j ∷ locs) vals ins t s = absurd s.places.1
  by-parts i h l o f r (k ∷ []) (v ∷ vals) ins t s = absurd s.values
  by-parts i h l o f r (k ∷ []) [] [] t s = absurd s.inputs
  by-parts i h l o f r (k ∷ []) [] (z ∷ y ∷ ins) t s = absurd s.inputs.1
  by-parts i h l o f r (k ∷ []) [] (z ∷ []) t s =
      let place : l ≡ pos k = some-same l (pos k) s.places.0.holds in
      let key : h ≡ z = some-same h z s.inputs.0.holds in
      let fits : IsTrue (in_range bit h) = subst (λ x. IsTrue (in_range bit x)) (sym key) s.is_state.inputs.0 in
      let typed : AreInTypes program (memory i h k o f r) = subst (λ x. AreInTypes program (i ∷ h ∷ x ∷ o ∷ f ∷ r ∷ [])) place t in
      subst (λ x. P (i ∷ h ∷ x ∷ o ∷ f ∷ r ∷ []) (door_at k z)) (sym place)
      (subst (λ x. P (memory i h k o f r) (door_at k x)) key (each i h k o f r s.is_state.places.0 fits typed))

  by-cases : (m : Memory) (s : State) → Stands face system program m s → P m s
  by-cases m s st =
      let x = six m st.typed in
      subst (λ n. P n s) (sym x.is)
      (by-parts x.i x.h x.l x.o x.f x.r s.locs s.vals s.ins (subst (AreInTypes program) x.is st.typed) (subst (λ n. StateOf face system program n s) x.is st.state))

-- ---- events

abbrev parts : List Part
parts = opens ∷ locks ∷ []

abbrev Tried : ℕ → ℕ → Memory → State → Type 0
Tried e n m s = (after : Memory) × (exec variables (part_of parts e).body n m ≡ Ended n after) × WritesOnly (writable face []) variables m after
    × AreInTypes program after × Follows face system program m s (first_step system s e) after

-- what is written, of a variable that is none of these
other : (v w : StVar) → Some v ≡ Some w → list_any (same_name v.name) (writable face []) ≡ true → list_any (same_name w.name) (writable face []) ≡ false → ⊥
other v w at is others =
    false-true (list_any (same_name v.name) (writable face [])) (subst (λ (u : StVar). list_any (same_name u.name) (writable face []) ≡ false) (sym (some-same v w at)) others) is

writes : (i h l o f r k g : ℤ) → WritesOnly (writable face []) variables (i ∷ h ∷ l ∷ o ∷ f ∷ r ∷ []) (i ∷ h ∷ k ∷ o ∷ g ∷ r ∷ [])
unfolding digits
writes i h l o f r k g zero v at others = refl
writes i h l o f r k g (suc zero) v at others = refl
writes i h l o f r k g (suc (suc zero)) v at others = absurd (other (place_variable closed) v at refl others)
writes i h l o f r k g (suc (suc (suc zero))) v at others = refl
writes i h l o f r k g (suc (suc (suc (suc zero)))) v at others = absurd (other (variable fired class.Plain ty.Bool (lit.Bool false)) v at refl others)
writes i h l o f r k g (suc (suc (suc (suc (suc zero))))) v at others = refl
writes i h l o f r k g (suc (suc (suc (suc (suc (suc j)))))) v at others = refl

no-third-value : (z : ℕ) → IsTrue (in_range bit (pos (suc (suc z)))) → ⊥
no-third-value z key = let small : suc (suc z) ≤ 1 = leb-true (suc (suc z)) 1 (and_right (int_le (pos 0) (pos (suc (suc z)))) (int_le (pos (suc (suc z))) (pos 1)) key) in omega (arith, small)

tries-to-open : (n : ℕ) (i h : ℤ) (place : ℕ) (o f r : ℤ) → suc place ≤ 3 → IsTrue (in_range bit h) → AreInTypes program (memory i h place o f r) → Tried 0 n (memory i h place o f r) (door_at place h)
unfolding digits
tries-to-open n i (pos zero) zero o f r below key t = (memory i (pos 0) 0 o f r, refl, (λ j v at others. refl), t, (state-at program.body i (pos 0) 0 o f r below key, refl))
tries-to-open n i (pos (suc zero)) zero o f r below key t =
    (memory i (pos 1) 1 o (pos 1) r, refl, writes i (pos 1) (pos 0) o f r (pos 1) (pos 1), (t.0, (t.1.0, (refl, (t.1.1.1.0, (refl, (t.1.1.1.1.1.0, tt)))))), (state-at program.body i (pos 1) 1 o (pos 1) r (omega arith) key, refl))
tries-to-open n i (pos (suc (suc z))) zero o f r below key t = absurd (no-third-value z key)
tries-to-open n i (negsuc z) zero o f r below key t = cc
tries-to-open n i h (suc zero) o f r below key t = (memory i h 1 o f r, refl, (λ j v at others. refl), t, (state-at program.body i h 1 o f r below key, refl))
tries-to-open n i h (suc (suc zero)) o f r below key t = (memory i h 2 o f r, refl, (λ j v at others. refl), t, (state-at program.body i h 2 o f r below key, refl))
tries-to-open n i h (suc (suc (suc k))) o f r below key t = absurd (omega (arith, below))

tries-to-lock : (n : ℕ) (i h : ℤ) (place : ℕ) (o f r : ℤ) → suc place ≤ 3 → IsTrue (in_range bit h) → AreInTypes program (memory i h place o f r) → Tried 1 n (memory i h place o f r) (door_at place h)
unfolding digits
tries-to-lock n i h zero o f r below key t =
    (memory i h 2 o (pos 1) r, refl, writes i h (pos 0) o f r (pos 2) (pos 1), (t.0, (t.1.0, (refl, (t.1.1.1.0, (refl, (t.1.1.1.1.1.0, tt)))))), (state-at program.body i h 2 o (pos 1) r (omega arith) key, refl))
tries-to-lock n i h (suc zero) o f r below key t = (memory i h 1 o f r, refl, (λ j v at others. refl), t, (state-at program.body i h 1 o f r below key, refl))
tries-to-lock n i h (suc (suc zero)) o f r below key t = (memory i h 2 o f r, refl, (λ j v at others. refl), t, (state-at program.body i h 2 o f r below key, refl))
tries-to-lock n i h (suc (suc (suc k))) o f r below key t = absurd (omega (arith, below))

event : (e : ℕ) → HasClass system e → TriesEvent face system program (part_of parts e) e
event zero classed = λ n. by-cases (Tried 0 n) (tries-to-open n)
event (suc zero) classed = λ n. by-cases (Tried 1 n) (tries-to-lock n)
event (suc (suc e)) (inl is) = cc
event (suc (suc e)) (inr is) = cc

-- ---- outputs

abbrev Written : ℕ → Memory → State → Type 0
Written n m s = (after : Memory) × (exec variables shows n m ≡ Ended n after) × AreInTypes program after × StateOf face system program after s × Shows system program after s

outputs : (n : ℕ) (i h : ℤ) (place : ℕ) (o f r : ℤ) → suc place ≤ 3 → IsTrue (in_range bit h) → AreInTypes program (memory i h place o f r) → Written n (memory i h place o f r) (door_at place h)
outputs n i h zero o f r below key t = (memory i h 0 (pos 0) f r, refl, (t.0, (t.1.0, (refl, (refl, t.1.1.1.1)))), state-at program.body i h 0 (pos 0) f r below key, refl)
outputs n i h (suc zero) o f r below key t = (memory i h 1 (pos 1) f r, refl, (t.0, (t.1.0, (refl, (refl, t.1.1.1.1)))), state-at program.body i h 1 (pos 1) f r below key, refl)
outputs n i h (suc (suc zero)) o f r below key t = (memory i h 2 (pos 2) f r, refl, (t.0, (t.1.0, (refl, (refl, t.1.1.1.1)))), state-at program.body i h 2 (pos 2) f r below key, refl)
outputs n i h (suc (suc (suc k))) o f r below key t = absurd (omega (arith, below))

shown : WritesOutputs face system program shows
shown n = by-cases (Written n) (outputs n)

-- ---- the premises

starts : Stands face system program (start_memory program) (initial system)
starts = record {
  state = state-at program.body (pos 0) (pos 0) 0 (pos 0) (pos 0) (pos 0) (omega arith) refl;
  typed = (refl, (refl, (refl, (refl, (refl, (refl, tt))))));
  keeps = refl;
}

own_names : (e : ℕ) → AllByRecursion IsOwnName (part_of parts e).own
own_names zero = tt
own_names (suc zero) = tt
own_names (suc (suc e)) = tt

interface : HasInterface face program
unfolding digits
interface = record { name = refl; inputs = refl; outputs = refl }

premises : IsFramed face system 3 3 parts shows program
unfolding digits
premises = record {
  body = refl;
  turns = omega arith;
  checked = refl;
  interface = interface;
  mark = refl;
  counter = refl;
  is_face = record { places = refl; first_places = refl; variables = refl; inputs = refl; algs = refl };
  few_inputs = omega arith;
  invariants = λ s row. refl;
  starts = starts;
  own_names = own_names;
  events = event;
  shown = shown;
}

pub door-program : IsProgramOf face system program
door-program = (interface, starts.state)

pub door-scans : ScansExactly 3 3 face system program × ShowsOutputs face system program × StaysTyped system program
door-scans = framed-scans face system 3 3 parts shows program premises
