-- Helper of the code: what statements do whose names are resolved, as those of `st_ast`.
use Rattle.std.specs.Prelude.{ℕ, suc, ℤ, slice_set, if◌then◌else◌}
use Rattle.st_ast.specs.Values.{subrange_left, with_value}
use Rattle.st_ast.specs.Exec.{Ended, Faulted, Act, and_then, is_within, repeated}
use Rattle.st_ast.specs.declared.tree.StTy.{StTy}
use Rattle.st_check.specs.PlacedTree.{Stm, Stms, Branches, assign, choice, loop, no_stms, stms, no_branches, branches}
use Rattle.st_scan.specs.PlacedValues.{value_at, decided, with_truth}

-- a value outside the subrange of its variable is a fault
abbrev pub store_at : ℕ → StTy → ℤ → Act
store_at k t v n m = if is_within t v then Ended n (slice_set m k v) else Faulted (subrange_left k v)

abbrev mutual
  pub exec_at : Stms → Act
  exec_at no_stms n m = Ended n m
  exec_at (stms s ss) n m = and_then (exec_one_at s n m) (λ l k. exec_at ss l k)

  pub exec_one_at : Stm → Act
  exec_one_at (assign k t e) n m = with_value (value_at e m) Faulted (λ v. store_at k t v n m)
  exec_one_at (choice bs other) n m = exec_choice_at bs (λ l k. exec_at other l k) n m
  exec_one_at (loop c ss) n m = repeated (suc n) (value_at c) (λ l k. exec_at ss l k) n m

  -- the first branch whose condition is TRUE, and the last part where none is
  pub exec_choice_at : Branches → Act → Act
  exec_choice_at no_branches last n m = last n m
  exec_choice_at (branches c ss bs) last n m =
      with_truth (decided (value_at c m)) Faulted (λ b. if b then exec_at ss n m else exec_choice_at bs last n m)
