-- A scan of a program: the inputs take over a row, and the statements are executed once with 1,000,000 loop turns
-- (IEC 61131-3, "Programs" and "Variables"). And scans one after another, from the memory of the declarations on.
use Rattle.std.specs.Prelude.{ℕ, ℤ, pos, List, [], ◌∷◌, map, Option, Some, None, if◌then◌else◌}
use Rattle.st_ast.specs.Tree.{Program}
use Rattle.st_ast.specs.Values.{Memory, of_bool}
use Rattle.st_ast.specs.Exec.{Outcome, Ended, Faulted, OutOfTurns, exec}
use Rattle.st_ast.specs.Interface.{is_input}
use Rattle.st_ast.specs.declared.tree.StVar.{StVar}
use Rattle.st_ast.specs.declared.tree.StTy.{StTy}
use Rattle.st_ast.specs.declared.tree.StTy.TheVariants as ty
use Rattle.st_ast.specs.declared.tree.StLit.{StLit}
use Rattle.st_ast.specs.declared.tree.StLit.TheVariants as lit

abbrev pub value_of_literal : StLit → ℤ
value_of_literal (lit.Bool b) = of_bool b
value_of_literal (lit.Int z) = z

-- without a first value: FALSE, 0, or the lower limit of the subrange
abbrev pub default_of : StTy → ℤ
default_of ty.Bool = pos 0
default_of ty.Lint = pos 0
default_of (ty.Range lo hi) = lo

abbrev pub first_or : StTy → Option StLit → ℤ
first_or t None = default_of t
first_or t (Some v) = value_of_literal v

abbrev pub first_of : StVar → ℤ
first_of v = first_or v.ty v.init

-- the memory of the declarations
abbrev pub start_memory : Program → Memory
start_memory p = map first_of p.vars

-- the inputs, in the order of declaration, take over the numbers of a row, as far as it goes
abbrev pub store_row : List StVar → List ℤ → Memory → Memory
store_row [] row m = m
store_row (v ∷ vs) row [] = []
store_row (v ∷ vs) [] (x ∷ m) = x ∷ m
store_row (v ∷ vs) (z ∷ row) (x ∷ m) = if is_input v.class then z ∷ store_row vs row m else x ∷ store_row vs (z ∷ row) m

-- the loop turns of one scan
abbrev pub turns_of_scan : ℕ
turns_of_scan = 1000000

abbrev pub scan_of : Program → Memory → List ℤ → Outcome
scan_of p m row = exec p.vars p.body turns_of_scan (store_row p.vars row m)

-- goes on from a scan that ended
abbrev pub when_ended : Outcome → (Memory → List Memory) → List Memory
when_ended (Ended left m) go = go m
when_ended (Faulted f) go = []
when_ended OutOfTurns go = []

-- the memories after each scan, up to the first scan that does not end
abbrev pub later_memories : Program → Memory → List (List ℤ) → List Memory
later_memories p m [] = []
later_memories p m (row ∷ rows) = when_ended (scan_of p m row) (λ after. after ∷ later_memories p after rows)

-- the memories from that of the declarations on
abbrev pub scans_of : Program → List (List ℤ) → List Memory
scans_of p rows = start_memory p ∷ later_memories p (start_memory p) rows
