-- A loop, turn by turn: what it does from a test of its condition on.
use Rattle.std.proofs.Common.{◌≡◌, ℕ, zero, suc, ◌≤◌, ◌<◌, ◌-◌, ℤ, Bool, true, false, refl, ap, sym, ◌∙◌, arith}
use Rattle.std.specs.Prelude.{Result, Ok, Err, None, slice_set, if◌then◌else◌}
use Rattle.st_ast.specs.declared.tree.StTy.{StTy}
use Rattle.st_ast.specs.Values.{Fault, subrange_left, Memory, is_true, with_value}
use Rattle.st_ast.specs.Exec.{Outcome, Ended, Faulted, OutOfTurns, Act, and_then, is_within, take_turn, repeated}
use Rattle.st_scan.specs.declared.error.ScanErr.{ScanErr}
use Rattle.st_scan.specs.declared.error.ScanErr.TheVariants.{Overflow, ZeroDivide, SubrangeLeft, Budget}
use Rattle.st_scan.specs.Endings.{stopped, outcome_of}
use Rattle.st_check.specs.PlacedTree.{Stm, Stms, Branches, assign, choice, loop, no_stms, stms, no_branches, branches}
use Rattle.st_scan.specs.PlacedValues.{value_at, decided, with_truth}
use Rattle.st_scan.specs.PlacedExec.{store_at, exec_at, exec_one_at, exec_choice_at}

-- an outcome that leaves at most so many turns
abbrev pub IsWithin : ℕ → Outcome → Type 0
IsWithin n (Ended l m) = l ≤ n
IsWithin n (Faulted f) = Unit {0}
IsWithin n OutOfTurns = Unit {0}

-- an act gives no turns back
abbrev pub Shrinks : Act → Type 0
Shrinks act = (n : ℕ) (m : Memory) → IsWithin n (act n m)

within-more : (o : Outcome) (n k : ℕ) → n ≤ k → IsWithin n o → IsWithin k o
within-more (Ended l m) n k h w = omega arith
within-more (Faulted f) n k h w = tt
within-more OutOfTurns n k h w = tt

within-and_then : (o : Outcome) (f : Act) (n : ℕ) → IsWithin n o → Shrinks f → IsWithin n (and_then o f)
within-and_then (Ended l m) f n h s = within-more (f l m) l n h (s l m)
within-and_then (Faulted e) f n h s = tt
within-and_then OutOfTurns f n h s = tt

within-with_value : (r : Result ℤ Fault) (go : ℤ → Outcome) (n : ℕ) → ((v : ℤ) → IsWithin n (go v)) → IsWithin n (with_value r Faulted go)
within-with_value (Ok v) go n h = h v
within-with_value (Err f) go n h = tt

within-with_truth : (r : Result Bool Fault) (go : Bool → Outcome) (n : ℕ) → ((b : Bool) → IsWithin n (go b)) → IsWithin n (with_truth r Faulted go)
within-with_truth (Ok b) go n h = h b
within-with_truth (Err f) go n h = tt

within-if : (b : Bool) (x y : Outcome) (n : ℕ) → IsWithin n x → IsWithin n y → IsWithin n (if b then x else y)
within-if true x y n h k = h
within-if false x y n h k = k

take_turn-shrinks : (body again : Act) → Shrinks body → Shrinks again → Shrinks (take_turn body again)
take_turn-shrinks body again s t zero m = tt
take_turn-shrinks body again s t (suc n) m = within-more _ n (suc n) (omega arith) (within-and_then (body n m) again n (s n m) t)

repeated-shrinks : (tests : ℕ) (cond : Memory → Result ℤ Fault) (body : Act) → Shrinks body → Shrinks (repeated tests cond body)
unfolding repeated
repeated-shrinks zero cond body s n m = tt
repeated-shrinks (suc tests) cond body s n m =
    within-with_value (cond m) _ n
    (λ v. within-if (is_true v) (take_turn body (repeated tests cond body) n m) (Ended n m) n (take_turn-shrinks body (repeated tests cond body) s (repeated-shrinks tests cond body s) n m) (omega arith))

store_at-shrinks : (k : ℕ) (t : StTy) (v : ℤ) → Shrinks (store_at k t v)
store_at-shrinks k t v n m = within-if (is_within t v) (Ended n (slice_set m k v)) (Faulted (subrange_left k v)) n (omega arith) tt

mutual
  pub exec_at-shrinks : (ss : Stms) → Shrinks (λ n m. exec_at ss n m)
  exec_at-shrinks no_stms n m = omega arith
  exec_at-shrinks (stms s ss) n m = within-and_then (exec_one_at s n m) _ n (exec_one_at-shrinks s n m) (exec_at-shrinks ss)

  exec_one_at-shrinks : (s : Stm) → Shrinks (λ n m. exec_one_at s n m)
  exec_one_at-shrinks (assign k t e) n m = within-with_value (value_at e m) _ n (λ v. store_at-shrinks k t v n m)
  exec_one_at-shrinks (choice bs o) n m = exec_choice_at-shrinks bs _ (exec_at-shrinks o) n m
  exec_one_at-shrinks (loop c ss) n m = repeated-shrinks (suc n) _ _ (exec_at-shrinks ss) n m

  exec_choice_at-shrinks : (bs : Branches) (last : Act) → Shrinks last → Shrinks (λ n m. exec_choice_at bs last n m)
  exec_choice_at-shrinks no_branches last s n m = s n m
  exec_choice_at-shrinks (branches c ss bs) last s n m =
      within-with_truth (decided (value_at c m)) _ n
      (λ b. within-if b (exec_at ss n m) (exec_choice_at bs last n m) n (exec_at-shrinks ss n m) (exec_choice_at-shrinks bs last s n m))

-- where at most n turns are left, only those matter to what follows
and_then-same : (o : Outcome) (n : ℕ) (f g : Act) → IsWithin n o → ((k : ℕ) (m : Memory) → k ≤ n → f k m ≡ g k m) → and_then o f ≡ and_then o g
and_then-same (Ended k m) n f g w same = same k m w
and_then-same (Faulted e) n f g w same = refl
and_then-same OutOfTurns n f g w same = refl

-- more tests than turns change nothing
repeated-enough : (a b : ℕ) (cond : Memory → Result ℤ Fault) (body : Act) → Shrinks body → (n : ℕ) (m : Memory) → n < a → n < b → repeated a cond body n m ≡ repeated b cond body n m
unfolding repeated
repeated-enough zero b cond body s n m p q = absurd (omega arith)
repeated-enough (suc a) zero cond body s n m p q = absurd (omega arith)
repeated-enough (suc a) (suc b) cond body s zero m p q = refl
repeated-enough (suc a) (suc b) cond body s (suc n) m p q =
    ap (λ (o : Outcome). with_value (cond m) Faulted (λ v. if is_true v then o else Ended (suc n) m))
    (and_then-same (body n m) n (repeated a cond body) (repeated b cond body) (s n m) (λ k x h. repeated-enough a b cond body s k x (omega arith) (omega arith)))

stays-stopped : (e : ScanErr) (f : Act) → and_then (stopped e) f ≡ stopped e
stays-stopped Overflow f = refl
stays-stopped ZeroDivide f = refl
stays-stopped (SubrangeLeft k v) f = refl
stays-stopped Budget f = refl

-- a truth that is asked of a value, and of what was decided of it
by-truth : (r : Result ℤ Fault) (x y : Outcome) → with_value r Faulted (λ v. if is_true v then x else y) ≡ with_truth (decided r) Faulted (λ b. if b then x else y)
by-truth (Ok v) x y = refl
by-truth (Err f) x y = refl

-- The equations of a loop.
loop-by-truth : (cond : Memory → Result ℤ Fault) (body : Act) (n : ℕ) (m : Memory) (r : Result Bool Fault) → decided (cond m) ≡ r
    → repeated (suc n) cond body n m ≡ with_truth r Faulted (λ b. if b then take_turn body (repeated n cond body) n m else Ended n m)
unfolding repeated
loop-by-truth cond body n m r is =
    by-truth (cond m) (take_turn body (repeated n cond body) n m) (Ended n m)
    ∙ ap (λ q. with_truth q Faulted (λ b. if b then take_turn body (repeated n cond body) n m else Ended n m)) is

pub loop-fault : (cond : Memory → Result ℤ Fault) (body : Act) (n : ℕ) (m : Memory) (f : Fault) → decided (cond m) ≡ Err f → repeated (suc n) cond body n m ≡ Faulted f
loop-fault cond body n m f is = loop-by-truth cond body n m (Err f) is

pub loop-idle : (cond : Memory → Result ℤ Fault) (body : Act) (n : ℕ) (m : Memory) → decided (cond m) ≡ Ok false → repeated (suc n) cond body n m ≡ Ended n m
loop-idle cond body n m is = loop-by-truth cond body n m (Ok false) is

loop-busy : (cond : Memory → Result ℤ Fault) (body : Act) (n : ℕ) (m : Memory) → decided (cond m) ≡ Ok true → repeated (suc n) cond body n m ≡ take_turn body (repeated n cond body) n m
loop-busy cond body n m is = loop-by-truth cond body n m (Ok true) is

pub loop-out : (cond : Memory → Result ℤ Fault) (body : Act) (n : ℕ) (m : Memory) → decided (cond m) ≡ Ok true → n ≡ 0 → repeated (suc n) cond body n m ≡ OutOfTurns
loop-out cond body zero m is e = loop-busy cond body zero m is
loop-out cond body (suc n) m is e = absurd (omega arith)

-- one more turn of a body of statements, and the loop as from its beginning
pub loop-turn : (cond : Memory → Result ℤ Fault) (ss : Stms) (n : ℕ) (m : Memory) → decided (cond m) ≡ Ok true → 0 < n
    → repeated (suc n) cond (λ l k. exec_at ss l k) n m ≡ and_then (exec_at ss (n - 1) m) (λ l k. repeated (suc l) cond (λ i j. exec_at ss i j) l k)
loop-turn cond ss zero m is some = absurd (omega arith)
loop-turn cond ss (suc n) m is some =
    let less : suc n - 1 ≡ n = omega arith in
    loop-busy cond (λ l k. exec_at ss l k) (suc n) m is
    ∙ and_then-same (exec_at ss n m) n _ (λ l k. repeated (suc l) cond (λ i j. exec_at ss i j) l k) (exec_at-shrinks ss n m)
    (λ k x h. repeated-enough (suc n) (suc k) cond (λ i j. exec_at ss i j) (exec_at-shrinks ss) k x (omega arith) (omega arith))
    ∙ ap (λ j. and_then (exec_at ss j m) (λ l k. repeated (suc l) cond (λ i j. exec_at ss i j) l k)) (sym less)

-- a body that is stopped stops its loop
pub loop-stopped : (cond : Memory → Result ℤ Fault) (ss : Stms) (n : ℕ) (m k : Memory) (e : ScanErr) → decided (cond m) ≡ Ok true → 0 < n
    → exec_at ss (n - 1) m ≡ outcome_of None e k → repeated (suc n) cond (λ i j. exec_at ss i j) n m ≡ outcome_of None e k
loop-stopped cond ss n m k e is some stops =
    loop-turn cond ss n m is some
    ∙ ap (λ o. and_then o (λ i j. repeated (suc i) cond (λ x y. exec_at ss x y) i j)) stops
    ∙ stays-stopped e _

pub ruleset loops = (loop-fault, loop-idle, loop-out, loop-turn)
