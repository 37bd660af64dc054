-- A door with a key: a small system, a right program of it, and wrong ones, each of which differs from the right one in one
-- place.
use Rattle.std.specs.Prelude.{ℕ, ℤ, pos, Bool, true, false, List, [], ◌∷◌, map, codes, Some, None, slice_index_or, slice_set, if◌then◌else◌}
use Rattle.grammar.specs.Pieces.{Text}
use Rattle.cif_system.specs.System.{Edge, State, System, con, no_channel, syncing, unc}
use Rattle.cif_system.specs.Scan.{of_class}
use Rattle.st_ast.specs.Tree.{Expr, truth, number, named, equal, all_of, exprs, no_exprs, assign, choice, loop, Stms, no_stms, stms, branches, no_branches, no_other, Program}
use Rattle.st_ast.specs.Values.{Memory, is_true}
use Rattle.st_ast.specs.Interface.{is_output}
use Rattle.st_ast.specs.declared.tree.StVar.{StVar}
use Rattle.st_ast.specs.declared.tree.StClass.{StClass}
use Rattle.st_ast.specs.declared.tree.StClass.TheVariants as class
use Rattle.st_ast.specs.declared.tree.StTy.{StTy}
use Rattle.st_ast.specs.declared.tree.StTy.TheVariants as ty
use Rattle.st_ast.specs.declared.tree.StLit.{StLit}
use Rattle.st_ast.specs.declared.tree.StLit.TheVariants as lit
use Rattle.plc_model.specs.Face.{Face}
use Rattle.plc_model.specs.Frame.{fired, rounds_made, frame, latches_of, Part, part_of, framed}

-- ---- the system

-- the places of the door
abbrev pub closed : ℕ
closed = 0

abbrev pub opened : ℕ
opened = 1

abbrev pub locked : ℕ
locked = 2

abbrev pub key_is_turned : State → Bool
key_is_turned s = is_true (slice_index_or s.ins 0 (pos 0))

-- from closed to a place, by the event with a number
abbrev pub edge : ℕ → ℕ → (State → Bool) → Edge
edge e to guard = record { event = Some e; role = syncing; from = closed; to = to; guard = guard; sent = λ s. None; assigned = λ s z. [] }

-- A closed door is opened while the key is turned, by the uncontrollable event 0, and locked by the controllable event 1.
abbrev pub system : System
system = record {
  automata = record { synchronises = λ e. true; monitors = λ e. false; edges = edge 0 opened key_is_turned ∷ edge 1 locked (λ s. true) ∷ []; places = 3; first = closed } ∷ [];
  events = record { class = unc; channel = no_channel } ∷ record { class = con; channel = no_channel } ∷ [];
  variables = [];
  inputs = record { range = record { lo = pos 0; hi = pos 1 }; first = pos 0 } ∷ [];
  algs = [];
  exclusions = [];
  invariants = [];
}

-- the row in which the key is turned, and the other one
abbrev pub turned : List ℤ
turned = pos 1 ∷ []

abbrev pub unturned : List ℤ
unturned = pos 0 ∷ []

-- the door at a place, and the key
abbrev pub door_at : ℕ → ℤ → State
door_at place key = record { locs = place ∷ []; vals = []; ins = key ∷ [] }

-- ---- the right program

abbrev pub face : Face
face = record { automata = record { path = codes "door"; places = 3; first = closed } ∷ []; variables = []; inputs = record { path = codes "key"; ty = ty.Bool; first = pos 0 } ∷ []; algs = [] }

abbrev pub variable : Text → StClass → StTy → StLit → StVar
variable name c t first = record { name = name; class = c; ty = t; init = Some first; at = None }

abbrev pub place_variable : ℕ → StVar
place_variable first = variable (codes "L0_door") class.Plain (ty.Range (pos 0) (pos 2)) (lit.Int (pos first))

abbrev pub variables : List StVar
variables = variable (codes "I0_key") class.Input ty.Bool (lit.Bool false)
    ∷ variable (codes "H0_key") class.Plain ty.Bool (lit.Bool false)
    ∷ place_variable closed
    ∷ variable (codes "P0_door") class.Output (ty.Range (pos 0) (pos 2)) (lit.Int (pos closed))
    ∷ variable fired class.Plain ty.Bool (lit.Bool false)
    ∷ variable rounds_made class.Plain ty.Lint (lit.Int (pos 0)) ∷ []

-- IF condition THEN L0_door := place; T0_fired := TRUE; END_IF;
abbrev pub moves_to : Expr → ℕ → Part
moves_to condition place = record {
  own = [];
  body = stms (choice (branches condition (stms (assign (codes "L0_door") (number (pos place))) (stms (assign fired (truth true)) no_stms)) no_branches) no_other) no_stms;
}

abbrev pub is_closed : Expr
is_closed = equal (named (codes "L0_door")) true (number (pos closed))

abbrev pub opens : Part
opens = moves_to (all_of (exprs is_closed (exprs (named (codes "H0_key")) no_exprs))) opened

abbrev pub locks : Part
locks = moves_to is_closed locked

-- P0_door := L0_door;
abbrev pub shows : Stms
shows = stms (assign (codes "P0_door") (named (codes "L0_door"))) no_stms

abbrev pub program_with : Stms → Program
program_with body = record { name = codes "CifScan"; vars = variables; body = body }

-- the frame of three rounds for each class, round these statements of the events and these outputs
abbrev pub framed_with : List Part → Stms → Program
framed_with parts outputs = program_with (framed face system parts 3 3 outputs)

abbrev pub program : Program
program = framed_with (opens ∷ locks ∷ []) shows

-- a memory: the key, the latched key, the place, the output, the mark and the counter
abbrev pub memory : (key latched : ℤ) (place : ℕ) (output mark rounds : ℤ) → Memory
memory key latched place output mark rounds = key ∷ latched ∷ pos place ∷ output ∷ mark ∷ rounds ∷ []

-- ---- wrong programs

abbrev pub without_first : Stms → Stms
without_first no_stms = no_stms
without_first (stms s ss) = ss

-- without the first statement, the latch
abbrev pub unlatched : Program
unlatched = program_with (without_first program.body)

-- loops round no statements, which fire nothing
abbrev pub idle : Program
idle = framed_with [] shows

-- the controllable event before the uncontrollable one
abbrev pub hasty : Program
hasty = program_with (frame (latches_of face) (λ e. (part_of (opens ∷ locks ∷ []) e).body) (of_class system con) (of_class system unc) 3 3 shows)

-- to lock the door opens it
abbrev pub misled : Program
misled = framed_with (opens ∷ moves_to is_closed opened ∷ []) shows

-- the door is closed at the start of each scan, which shows from the second scan on
abbrev pub forgetful : Program
forgetful = program_with (stms (assign (codes "L0_door") (number (pos closed))) program.body)

-- without the outputs, which stay as they were
abbrev pub stale : Program
stale = framed_with (opens ∷ locks ∷ []) no_stms

-- to lock the door leads to a place that it doesn't have
abbrev pub astray : Program
astray = framed_with (opens ∷ moves_to is_closed 3 ∷ []) shows

-- a loop without end before all other statements
abbrev pub endless : Program
endless = program_with (stms (loop (truth true) no_stms) program.body)

-- the number 2 in place of the latched BOOL
abbrev pub untyped : Program
untyped = program_with (stms (assign (codes "H0_key") (number (pos 2))) (without_first program.body))

-- no VAR_OUTPUT
abbrev pub hidden : Program
hidden = record program { vars = map (λ (v : StVar). if is_output v.class then record v { class = class.Plain } else v) variables }

-- the door is open at first
abbrev pub ajar : Program
ajar = record program { vars = slice_set variables 2 (place_variable opened) }
