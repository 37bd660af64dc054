-- The frame round the statements of the events: inputs are latched, then comes a loop of rounds for each class, and then the
-- outputs. A round tries each event of the class once, and the loop ends after a round in which nothing fired, or after its
-- bound of rounds (IEC 61131-3, "Statements"). And what is asked of the statements of an event.
use Rattle.std.specs.Prelude.{◌≡◌, ℕ, ◌+◌, ◌≤◌, ◌<◌, ◌^◌, ◌⊎◌, ℤ, pos, true, false, IsTrue, List, [], ◌∷◌, ◌++◌, map, length, codes, Option, Some, None, slice_get, slice_index_or}
use Rattle.std.specs.List.{AllByRecursion, enumerate_from, list_any}
use Rattle.grammar.specs.Pieces.{Text}
use Rattle.cif_system.specs.System.{State, System, con, initial, unc}
use Rattle.cif_system.specs.Step.{is_of, meets_invariants}
use Rattle.cif_system.specs.Choices.{first_step}
use Rattle.cif_system.specs.Scan.{of_class, with_inputs}
use Rattle.st_ast.specs.Tree.{Expr, truth, number, named, sum, order, all_of, exprs, no_exprs, terms, no_terms, Stm, Stms, assign, loop, no_stms, stms, append, stms_of, Program}
use Rattle.st_ast.specs.Names.{same_name, place_of}
use Rattle.st_ast.specs.Values.{Memory}
use Rattle.st_ast.specs.Exec.{Ended, exec}
use Rattle.st_ast.specs.Scan.{start_memory, turns_of_scan}
use Rattle.st_ast.specs.Checks.{check_faults}
use Rattle.st_ast.specs.declared.tree.StOrder.TheVariants as cmp
use Rattle.st_ast.specs.declared.tree.StVar.{StVar}
use Rattle.st_ast.specs.declared.tree.StTy.TheVariants as ty
use Rattle.plc_model.specs.declared.letter.Letter.{Letter}
use Rattle.plc_model.specs.declared.letter.Letter.TheVariants as letter
use Rattle.plc_model.specs.Names.{name_for}
use Rattle.plc_model.specs.Face.{Face, VariableFace, IsFaceOf, HasInterface, IsDeclared, StateOf, Shows, AreInTypes, places_of}

-- ---- statements

-- the mark that something fired, and the counter of rounds
abbrev pub fired : Text
fired = codes "T0_fired"

abbrev pub rounds_made : Text
rounds_made = codes "T1_rounds"

-- the statements of these events, one after the other
abbrev pub tries_of : (ℕ → Stms) → List ℕ → Stms
tries_of body [] = no_stms
tries_of body (e ∷ es) = append (body e) (tries_of body es)

abbrev pub goes_on : ℕ → Expr
goes_on bound = all_of (exprs (named fired) (exprs (order (named rounds_made) cmp.Lt (number (pos bound))) no_exprs))

abbrev pub one_more_round : Stm
one_more_round = assign rounds_made (sum (named rounds_made) (terms false (number (pos 1)) no_terms))

abbrev pub one_round : Stms → Stms
one_round tries = stms (assign fired (truth false)) (append tries (stms one_more_round no_stms))

abbrev pub loop_of : ℕ → Stms → Stms
loop_of bound tries = stms (assign fired (truth true)) (stms (assign rounds_made (number (pos 0))) (stms (loop (goes_on bound) (one_round tries)) no_stms))

-- latched inputs, the uncontrollable events, the controllable ones, and the outputs
abbrev pub frame : Stms → (ℕ → Stms) → List ℕ → List ℕ → ℕ → ℕ → Stms → Stms
frame latches body first second U C outputs =
    append latches (append (loop_of U (tries_of body first)) (append (loop_of C (tries_of body second)) outputs))

-- the H variable of an input takes over the input
abbrev pub latch : ℕ × VariableFace → Stm
latch (k, x) = assign (name_for letter.H k x.path) (named (name_for letter.I k x.path))

abbrev pub latches_of : Face → Stms
latches_of face = stms_of (map latch (enumerate_from 0 face.inputs))

-- what a generator gives for an event: the names of the variables of its own, and its statements
pub record Part : Type 0 where
  pub own : List Text
  pub body : Stms

abbrev pub part_or_none : Option Part → Part
part_or_none None = record { own = []; body = no_stms }
part_or_none (Some part) = part

-- the part of an event, from the parts of all events
abbrev pub part_of : List Part → ℕ → Part
part_of parts e = part_or_none (slice_get parts e)

abbrev pub framed : Face → System → List Part → ℕ → ℕ → Stms → Stms
framed face sys parts U C outputs = frame (latches_of face) (λ e. (part_of parts e).body) (of_class sys unc) (of_class sys con) U C outputs

-- ---- what is asked of the statements

-- The memory stands for a state in which every state invariant holds, and no variable has left its type.
pub record Stands (face : Face) (sys : System) (p : Program) (m : Memory) (s : State) : Type 0 where
  pub state : StateOf face sys p m s
  pub typed : AreInTypes p m
  pub keeps : IsTrue (meets_invariants sys s)

-- a name of the generator's own, beside the mark and the counter
abbrev pub IsOwnName : Text → Type 0
IsOwnName x = (k : ℕ) × (path : Text) × (2 ≤ k) × (k < 2 ^ 32) × (x ≡ name_for letter.T k path)

-- the names of these variables, numbered from 0
abbrev pub names_of : Letter → List VariableFace → List Text
names_of l xs = map (λ (x : ℕ × VariableFace). name_for l x.0 x.1.path) (enumerate_from 0 xs)

-- what the statements of an event may write: the places, the discrete variables, the mark, and variables of its own
abbrev pub writable : Face → List Text → List Text
writable face own = names_of letter.L (places_of face) ++ names_of letter.V face.variables ++ fired ∷ own

-- no variable has changed but those with these names
abbrev pub WritesOnly : List Text → List StVar → Memory → Memory → Type 0
WritesOnly names vars before after = (k : ℕ) (v : StVar) → slice_get vars k ≡ Some v
    → list_any (same_name v.name) names ≡ false → slice_get after k ≡ slice_get before k

-- the value of the mark
abbrev pub mark_in : Program → Memory → ℤ
mark_in p m = slice_index_or m (place_of p.vars fired) (pos 0)

-- Where there is a first step the memory stands for it and the mark is set. Where there is none the memory stands for the
-- same state, and the mark is as it was.
abbrev pub Follows : Face → System → Program → Memory → State → Option State → Memory → Type 0
Follows face sys p m s None after = StateOf face sys p after s × (mark_in p after ≡ mark_in p m)
Follows face sys p m s (Some t) after = StateOf face sys p after t × (mark_in p after ≡ pos 1)

-- The statements of an event, from any memory that stands for a state: they end without a fault and without a turn, write
-- nothing else, keep all types, and make the event's first step, if it has one.
abbrev pub TriesEvent : Face → System → Program → Part → ℕ → Type 0
TriesEvent face sys p part e = (n : ℕ) (m : Memory) (s : State) → Stands face sys p m s
    → (after : Memory) × (exec p.vars part.body n m ≡ Ended n after) × WritesOnly (writable face part.own) p.vars m after
    × AreInTypes p after × Follows face sys p m s (first_step sys s e) after

-- The outputs, from any memory that stands for a state: they end without a fault and without a turn, keep all types, leave
-- the state, and the memory then shows its outputs.
abbrev pub WritesOutputs : Face → System → Program → Stms → Type 0
WritesOutputs face sys p outputs = (n : ℕ) (m : Memory) (s : State) → Stands face sys p m s
    → (after : Memory) × (exec p.vars outputs n m ≡ Ended n after) × AreInTypes p after
    × StateOf face sys p after s × Shows sys p after s

-- an event of one of the two classes
abbrev pub HasClass : System → ℕ → Type 0
HasClass sys e = IsTrue (is_of sys unc e) ⊎ IsTrue (is_of sys con e)

-- The program is the frame round these parts and outputs, it breaks no check, and the parts and the outputs do what is asked.
pub record IsFramed (face : Face) (sys : System) (U C : ℕ) (parts : List Part) (outputs : Stms) (p : Program) : Type 0 where
  pub body : p.body ≡ framed face sys parts U C outputs
  pub turns : U + C ≤ turns_of_scan
  pub checked : check_faults p ≡ []
  pub interface : HasInterface face p
  pub mark : IsDeclared p.vars fired ty.Bool
  pub counter : IsDeclared p.vars rounds_made ty.Lint
  -- the face is the system's, whose inputs are few and whose state invariants read none
  pub is_face : IsFaceOf face sys
  pub few_inputs : length face.inputs < 2 ^ 32
  pub invariants : (s : State) (row : List ℤ) → meets_invariants sys (with_inputs s row) ≡ meets_invariants sys s
  pub starts : Stands face sys p (start_memory p) (initial sys)
  pub own_names : (e : ℕ) → AllByRecursion IsOwnName (part_of parts e).own
  pub events : (e : ℕ) → HasClass sys e → TriesEvent face sys p (part_of parts e) e
  pub shown : WritesOutputs face sys p outputs
