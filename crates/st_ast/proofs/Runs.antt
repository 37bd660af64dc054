-- Steps of a run of statements: a statement and then others, one list after another, an assignment, a turn of a loop.
use Rattle.std.proofs.Common.{◌≡◌, ℕ, suc, ℤ, true, false, List, Ok, Result, refl, ap, ◌∙◌}
use Rattle.std.specs.Prelude.{slice_set, if◌then◌else◌}
use Rattle.grammar.specs.Pieces.{Text}
use Rattle.st_ast.specs.declared.tree.StVar.{StVar}
use Rattle.st_ast.specs.Names.{place_of}
use Rattle.st_ast.specs.Tree.{Expr, Stm, Stms, assign, no_stms, stms, append}
use Rattle.st_ast.specs.Values.{Fault, subrange_left, Memory, is_true, with_value, value_of}
use Rattle.st_ast.specs.Exec.{Outcome, Ended, Faulted, OutOfTurns, Act, and_then, is_within, type_at, store, take_turn, repeated, exec, exec_one}

and_then_assoc : (o : Outcome) (f g h : Act) → ((n : ℕ) (m : Memory) → f n m ≡ and_then (g n m) h) → and_then o f ≡ and_then (and_then o g) h
and_then_assoc (Ended n m) f g h same = same n m
and_then_assoc (Faulted e) f g h same = refl
and_then_assoc OutOfTurns f g h same = refl

pub exec-append : (vars : List StVar) (a b : Stms) (n : ℕ) (m : Memory) → exec vars (append a b) n m ≡ and_then (exec vars a n m) (λ l k. exec vars b l k)
exec-append vars no_stms b n m = refl
exec-append vars (stms s a) b n m =
    and_then_assoc (exec_one vars s n m) (λ l k. exec vars (append a b) l k) (λ l k. exec vars a l k) (λ l k. exec vars b l k) (λ l k. exec-append vars a b l k)

pub append_runs : (vars : List StVar) (a b : Stms) (n l : ℕ) (m k : Memory) → exec vars a n m ≡ Ended l k → exec vars (append a b) n m ≡ exec vars b l k
append_runs vars a b n l m k e = exec-append vars a b n m ∙ ap (λ o. and_then o (λ i j. exec vars b i j)) e

pub cons_runs : (vars : List StVar) (s : Stm) (b : Stms) (n l : ℕ) (m k : Memory) → exec_one vars s n m ≡ Ended l k → exec vars (stms s b) n m ≡ exec vars b l k
cons_runs vars s b n l m k e = ap (λ o. and_then o (λ i j. exec vars b i j)) e

pub assign_runs : (vars : List StVar) (x : Text) (e : Expr) (k : ℕ) (v : ℤ) (n : ℕ) (m : Memory) → place_of vars x ≡ k → value_of vars e m ≡ Ok v
    → is_within (type_at vars k) v ≡ true → exec_one vars (assign x e) n m ≡ Ended n (slice_set m k v)
assign_runs vars x e k v n m at value fine =
    ap (λ r. with_value r Faulted (λ w. store vars (place_of vars x) w n m)) value
    ∙ ap (λ p. store vars p v n m) at
    ∙ ap (λ b. if b then Ended n (slice_set m k v) else Faulted (subrange_left k v)) fine

pub turn_goes : (tests n : ℕ) (cond : Memory → Result ℤ Fault) (body : Act) (m : Memory) (v : ℤ) → cond m ≡ Ok v → is_true v ≡ true
    → repeated (suc tests) cond body (suc n) m ≡ and_then (body n m) (repeated tests cond body)
unfolding repeated
turn_goes tests n cond body m v is true_is =
    ap (λ r. with_value r Faulted (λ w. if is_true w then take_turn body (repeated tests cond body) (suc n) m else Ended (suc n) m)) is
    ∙ ap (λ b. if b then take_turn body (repeated tests cond body) (suc n) m else Ended (suc n) m) true_is

pub turn_stops : (tests n : ℕ) (cond : Memory → Result ℤ Fault) (body : Act) (m : Memory) (v : ℤ) → cond m ≡ Ok v → is_true v ≡ false
    → repeated (suc tests) cond body n m ≡ Ended n m
unfolding repeated
turn_stops tests n cond body m v is false_is =
    ap (λ r. with_value r Faulted (λ w. if is_true w then take_turn body (repeated tests cond body) n m else Ended n m)) is
    ∙ ap (λ b. if b then take_turn body (repeated tests cond body) n m else Ended n m) false_is
