-- What statements do (IEC 61131-3, "Statements"): they end with a memory and the turns that are left, with a fault, or out
-- of turns. Each execution of the body of a WHILE takes one of the turns.
use Rattle.std.specs.Prelude.{ℕ, zero, suc, ℤ, Bool, true, List, Result, Option, Some, None, slice_get, slice_set, if◌then◌else◌}
use Rattle.st_ast.specs.Names.{place_of}
use Rattle.st_ast.specs.Tree.{Stm, Stms, Branches, Other, assign, choice, loop, no_stms, stms, no_branches, branches, no_other, other}
use Rattle.st_ast.specs.Values.{Fault, subrange_left, Memory, is_true, is_between, with_value, value_of}
use Rattle.st_ast.specs.declared.tree.StVar.{StVar}
use Rattle.st_ast.specs.declared.tree.StTy.{StTy}
use Rattle.st_ast.specs.declared.tree.StTy.TheVariants as ty

pub data Outcome : Type 0 where
  Ended : (left : ℕ) (memory : Memory) → Outcome
  Faulted : Fault → Outcome
  OutOfTurns : Outcome

-- what is done with some turns and a memory
abbrev pub Act : Type 0
Act = ℕ → Memory → Outcome

abbrev pub and_then : Outcome → Act → Outcome
and_then (Ended left m) next = next left m
and_then (Faulted f) next = Faulted f
and_then OutOfTurns next = OutOfTurns

abbrev pub is_within : StTy → ℤ → Bool
is_within ty.Bool v = true
is_within ty.Lint v = true
is_within (ty.Range lo hi) v = is_between lo hi v

abbrev pub type_of : Option StVar → StTy
type_of None = ty.Lint
type_of (Some v) = v.ty

-- the type of the variable at a place
abbrev pub type_at : List StVar → ℕ → StTy
type_at vars k = type_of (slice_get vars k)

-- a value outside the subrange of its variable is a fault
abbrev pub store : List StVar → ℕ → ℤ → Act
store vars k v n m = if is_within (type_at vars k) v then Ended n (slice_set m k v) else Faulted (subrange_left k v)

-- one more turn, if one is left
abbrev pub take_turn : Act → Act → Act
take_turn body again zero m = OutOfTurns
take_turn body again (suc n) m = and_then (body n m) again

-- A loop that tests its condition at most `tests` times. With one test more than there are turns left it never runs out
-- of tests before it runs out of turns.
unfoldable pub repeated : ℕ → (Memory → Result ℤ Fault) → Act → Act
repeated zero cond body n m = OutOfTurns
repeated (suc tests) cond body n m =
    with_value (cond m) Faulted (λ v. if is_true v then take_turn body (repeated tests cond body) n m else Ended n m)

abbrev mutual
  pub exec : List StVar → Stms → Act
  exec vars no_stms n m = Ended n m
  exec vars (stms s ss) n m = and_then (exec_one vars s n m) (λ l k. exec vars ss l k)

  pub exec_one : List StVar → Stm → Act
  exec_one vars (assign x e) n m = with_value (value_of vars e m) Faulted (λ v. store vars (place_of vars x) v n m)
  exec_one vars (choice bs o) n m = exec_choice vars bs (λ l k. exec_other vars o l k) n m
  exec_one vars (loop c ss) n m = repeated (suc n) (value_of vars c) (λ l k. exec vars ss l k) n m

  pub exec_other : List StVar → Other → Act
  exec_other vars no_other n m = Ended n m
  exec_other vars (other ss) n m = exec vars ss n m

  -- the first branch whose condition is TRUE, and the last part where none is
  pub exec_choice : List StVar → Branches → Act → Act
  exec_choice vars no_branches last n m = last n m
  exec_choice vars (branches c ss bs) last n m =
      with_value (value_of vars c m) Faulted (λ v. if is_true v then exec vars ss n m else exec_choice vars bs last n m)
