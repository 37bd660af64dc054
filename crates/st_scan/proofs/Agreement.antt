-- What statements do with their names resolved is what they do by name.
use Rattle.std.proofs.Common.{◌≡◌, ℕ, zero, suc, ℤ, Bool, true, false, ◌&&◌, ◌||◌, List, refl, ap, ◌∙◌, pos, negsuc, sym, inl, inr, length}
use Rattle.std.specs.Prelude.{Result, Ok, Err, int_lt, int_le, nat_lt, nat_le, not, if◌then◌else◌}
use Rattle.std.proofs.lemmas.Bool.{lt-ltb, le-ltb}
use Rattle.std.proofs.lemmas.Bool.Decides.{leb_tells}
use Rattle.st_ast.specs.declared.tree.StMul.{StMul}
use Rattle.st_ast.specs.declared.tree.StMul.TheVariants as mul
use Rattle.st_ast.specs.declared.tree.StOrder.{StOrder}
use Rattle.st_ast.specs.declared.tree.StOrder.TheVariants as cmp
use Rattle.st_ast.specs.declared.tree.StVar.{StVar}
use Rattle.st_ast.specs.Tree.{Expr, Exprs, Factors, Terms, truth, number, named, paren, negation, complement, product, sum, order, equal, all_of, odd_of, any_of, absolute, least, greatest, selection, no_exprs, exprs, no_factors, factors, no_terms, terms, Stm, Stms, Branches, Other, assign, choice, loop, no_stms, stms, no_branches, branches, no_other, other}
use Rattle.st_ast.specs.Values.{Fault, Memory, of_bool, is_true, checked, with_value, both, holds, added, are_equal, multiplied, differ, value_of, product_on, sum_on, joined}
use Rattle.st_ast.specs.Exec.{Outcome, Ended, Faulted, OutOfTurns, Act, and_then, take_turn, repeated, exec, exec_one, exec_other, exec_choice}
use Rattle.st_ast.specs.Interface.{numbers_of, is_input}
use Rattle.st_ast.specs.Scan.{turns_of_scan, scan_of}
use Rattle.st_ast.specs.View.{view_stmts, view}
use Rattle.st_ast.specs.declared.tree.Program.{Program}
use Rattle.st_check.specs.Placing.{of_order, of_equality, placed, placed_exprs, placed_factors, placed_terms, placed_stm, placed_stms, placed_branches, placed_other}
use Rattle.st_check.specs.PlacedTree as to
use Rattle.st_check.specs.PlacedTree.{Operator, of_factor, of_term}
use Rattle.st_scan.specs.PlacedValues.{value_at, steps_at, applied, decided, with_truth}
use Rattle.st_scan.specs.PlacedExec.{exec_at, exec_one_at, exec_choice_at}
use Rattle.st_scan.specs.Stored.{stored}
use Rattle.st_scan.proofs.Rows.{stored-row}

after : {X : Type 0} (r : Result ℤ Fault) (fails : Fault → X) (f g : ℤ → X) → ((v : ℤ) → f v ≡ g v) → with_value r fails f ≡ with_value r fails g
after (Ok v) fails f g same = same v
after (Err e) fails f g same = refl

with_value-same : {X : Type 0} (r s : Result ℤ Fault) (fails : Fault → X) (f g : ℤ → X) → r ≡ s → ((v : ℤ) → f v ≡ g v) → with_value r fails f ≡ with_value s fails g
with_value-same r s fails f g e same = ap (λ q. with_value q fails f) e ∙ after s fails f g same

if-same : {X : Type 0} (b : Bool) (w x y z : X) → w ≡ y → x ≡ z → (if b then w else x) ≡ (if b then y else z)
if-same true w x y z p q = p
if-same false w x y z p q = q

then-same : (o : Outcome) (f g : Act) → ((n : ℕ) (m : Memory) → f n m ≡ g n m) → and_then o f ≡ and_then o g
then-same (Ended n m) f g same = same n m
then-same (Faulted e) f g same = refl
then-same OutOfTurns f g same = refl

and_then-same : (o p : Outcome) (f g : Act) → o ≡ p → ((n : ℕ) (m : Memory) → f n m ≡ g n m) → and_then o f ≡ and_then p g
and_then-same o p f g e same = ap (λ q. and_then q f) e ∙ then-same p f g same

factor-same : (f : StMul) (x y : ℤ) → applied (of_factor f) x y ≡ multiplied 64 f x y
factor-same mul.Times x y = refl
factor-same mul.Div x y = refl
factor-same mul.Mod x y = refl

term-same : (minus : Bool) (x y : ℤ) → applied (of_term minus) x y ≡ checked 64 (added minus x y)
term-same false x y = refl
term-same true x y = refl

not_at_most : (a b : ℕ) → not (nat_le a b) ≡ nat_lt b a
not_at_most a b = elim (leb_tells a b) [ inl p ↦ ap not p.0 ∙ sym (le-ltb b a p.1) | inr p ↦ ap not p.0 ∙ sym (lt-ltb b a p.1) ]

not_less : (a b : ℕ) → not (nat_lt a b) ≡ nat_le b a
not_less a b = elim (leb_tells b a) [ inl p ↦ ap not (le-ltb a b p.1) ∙ sym p.0 | inr p ↦ ap not (lt-ltb a b p.1) ∙ sym p.0 ]

-- a relation that does not hold is one of the operands the other way round
turned : (x y : ℤ) → not (int_le x y) ≡ int_lt y x
turned (pos a) (pos b) = not_at_most a b
turned (pos a) (negsuc b) = refl
turned (negsuc a) (pos b) = refl
turned (negsuc a) (negsuc b) = not_at_most b a

turned_at_most : (x y : ℤ) → not (int_lt x y) ≡ int_le y x
turned_at_most (pos a) (pos b) = not_less a b
turned_at_most (pos a) (negsuc b) = refl
turned_at_most (negsuc a) (pos b) = refl
turned_at_most (negsuc a) (negsuc b) = not_less b a

order-same : (f : StOrder) (x y : ℤ) → applied (of_order f) x y ≡ Ok (of_bool (holds f x y))
order-same cmp.Lt x y = refl
order-same cmp.Gt x y = ap (λ b. Ok (of_bool b)) (turned x y)
order-same cmp.Le x y = refl
order-same cmp.Ge x y = ap (λ b. Ok (of_bool b)) (turned_at_most x y)

equality-same : (same : Bool) (x y : ℤ) → applied (of_equality same) x y ≡ Ok (of_bool (are_equal same x y))
equality-same true x y = refl
equality-same false x y = refl

and-same : (b : Bool) (x : ℤ) → applied to.all (of_bool b) x ≡ Ok (of_bool (b && is_true x))
and-same true x = refl
and-same false x = refl

xor-same : (b : Bool) (x : ℤ) → applied to.odd (of_bool b) x ≡ Ok (of_bool (differ b (is_true x)))
xor-same true x = refl
xor-same false x = refl

or-same : (b : Bool) (x : ℤ) → applied to.any (of_bool b) x ≡ Ok (of_bool (b || is_true x))
or-same true x = refl
or-same false x = refl

both-same : (f g : ℤ → ℤ → Result ℤ Fault) (q r s t : Result ℤ Fault) → q ≡ s → r ≡ t → ((x y : ℤ) → f x y ≡ g x y) → both f q r ≡ both g s t
both-same f g q r s t p h same = with_value-same q s (λ e. Err e) _ _ p (λ x. with_value-same r t (λ e. Err e) _ _ h (λ y. same x y))

mutual
  pub value-same : (vars : List StVar) (e : Expr) (m : Memory) → value_at (placed vars e) m ≡ value_of vars e m
  value-same vars (truth b) m = refl
  value-same vars (number z) m = refl
  value-same vars (named x) m = refl
  value-same vars (paren e) m = value-same vars e m
  value-same vars (negation e) m = with_value-same _ _ (λ e. Err e) _ _ (value-same vars e m) (λ x. refl)
  value-same vars (complement e) m = with_value-same _ _ (λ e. Err e) _ _ (value-same vars e m) (λ x. refl)
  value-same vars (product e rest) m = with_value-same _ _ (λ e. Err e) _ _ (value-same vars e m) (λ x. product-same vars x rest m)
  value-same vars (sum e rest) m = with_value-same _ _ (λ e. Err e) _ _ (value-same vars e m) (λ x. sum-same vars x rest m)
  value-same vars (order a f b) m = both-same _ _ _ _ _ _ (value-same vars a m) (value-same vars b m) (order-same f)
  value-same vars (equal a same b) m = both-same _ _ _ _ _ _ (value-same vars a m) (value-same vars b m) (equality-same same)
  value-same vars (all_of es) m = joined-same vars to.all _ and-same true es m
  value-same vars (odd_of es) m = joined-same vars to.odd _ xor-same false es m
  value-same vars (any_of es) m = joined-same vars to.any _ or-same false es m
  value-same vars (absolute e) m = with_value-same _ _ (λ e. Err e) _ _ (value-same vars e m) (λ x. refl)
  value-same vars (least a b) m = both-same _ _ _ _ _ _ (value-same vars a m) (value-same vars b m) (λ x y. refl)
  value-same vars (greatest a b) m = both-same _ _ _ _ _ _ (value-same vars a m) (value-same vars b m) (λ x y. refl)
  value-same vars (selection g a b) m =
      with_value-same _ _ (λ e. Err e) _ _ (value-same vars g m) (λ z. both-same _ _ _ _ _ _ (value-same vars a m) (value-same vars b m) (λ x y. refl))

  product-same : (vars : List StVar) (z : ℤ) (fs : Factors) (m : Memory) → steps_at z (placed_factors vars fs) m ≡ product_on vars z fs m
  product-same vars z no_factors m = refl
  product-same vars z (factors f e fs) m =
      with_value-same _ _ (λ e. Err e) _ _ (value-same vars e m)
      (λ x. with_value-same _ _ (λ e. Err e) _ _ (factor-same f z x) (λ y. product-same vars y fs m))

  sum-same : (vars : List StVar) (z : ℤ) (ts : Terms) (m : Memory) → steps_at z (placed_terms vars ts) m ≡ sum_on vars z ts m
  sum-same vars z no_terms m = refl
  sum-same vars z (terms minus e ts) m =
      with_value-same _ _ (λ e. Err e) _ _ (value-same vars e m)
      (λ x. with_value-same _ _ (λ e. Err e) _ _ (term-same minus z x) (λ y. sum-same vars y ts m))

  joined-same : (vars : List StVar) (f : Operator) (g : Bool → Bool → Bool) → ((b : Bool) (x : ℤ) → applied f (of_bool b) x ≡ Ok (of_bool (g b (is_true x))))
      → (so_far : Bool) (es : Exprs) (m : Memory) → steps_at (of_bool so_far) (placed_exprs vars f es) m ≡ joined vars g so_far es m
  joined-same vars f g same so_far no_exprs m = refl
  joined-same vars f g same so_far (exprs e es) m =
      with_value-same _ _ (λ e. Err e) _ _ (value-same vars e m)
      (λ x. ap (λ r. with_value r (λ e. Err e) (λ y. steps_at y (placed_exprs vars f es) m)) (same so_far x) ∙ joined-same vars f g same (g so_far (is_true x)) es m)

take_turn-same : (a b c d : Act) → ((n : ℕ) (m : Memory) → a n m ≡ b n m) → ((n : ℕ) (m : Memory) → c n m ≡ d n m) → (n : ℕ) (m : Memory) → take_turn a c n m ≡ take_turn b d n m
take_turn-same a b c d p q zero m = refl
take_turn-same a b c d p q (suc n) m = and_then-same (a n m) (b n m) c d (p n m) q

-- loops of the same conditions and bodies
repeated-same : (tests : ℕ) (c d : Memory → Result ℤ Fault) (a b : Act) → ((m : Memory) → c m ≡ d m) → ((n : ℕ) (m : Memory) → a n m ≡ b n m) → (n : ℕ) (m : Memory) → repeated tests c a n m ≡ repeated tests d b n m
unfolding repeated
repeated-same zero c d a b p q n m = refl
repeated-same (suc tests) c d a b p q n m =
    with_value-same (c m) (d m) Faulted _ _ (p m)
    (λ v. if-same (is_true v) (take_turn a (repeated tests c a) n m) (Ended n m) (take_turn b (repeated tests d b) n m) (Ended n m)
    (take_turn-same a b (repeated tests c a) (repeated tests d b) q (repeated-same tests c d a b p q) n m) refl)

-- a truth that is decided of a value is asked of it
by-value : (r : Result ℤ Fault) (x y : Outcome) → with_truth (decided r) Faulted (λ b. if b then x else y) ≡ with_value r Faulted (λ v. if is_true v then x else y)
by-value (Ok v) x y = refl
by-value (Err f) x y = refl

mutual
  pub exec-same : (vars : List StVar) (ss : Stms) (n : ℕ) (m : Memory) → exec_at (placed_stms vars ss) n m ≡ exec vars ss n m
  exec-same vars no_stms n m = refl
  exec-same vars (stms s ss) n m = and_then-same _ _ _ _ (exec_one-same vars s n m) (λ l k. exec-same vars ss l k)

  exec_one-same : (vars : List StVar) (s : Stm) (n : ℕ) (m : Memory) → exec_one_at (placed_stm vars s) n m ≡ exec_one vars s n m
  exec_one-same vars (assign x e) n m = with_value-same _ _ Faulted _ _ (value-same vars e m) (λ v. refl)
  exec_one-same vars (choice bs o) n m = exec_choice-same vars bs _ _ (λ l k. exec_other-same vars o l k) n m
  exec_one-same vars (loop c ss) n m = repeated-same (suc n) _ _ _ _ (λ k. value-same vars c k) (λ l k. exec-same vars ss l k) n m

  exec_other-same : (vars : List StVar) (o : Other) (n : ℕ) (m : Memory) → exec_at (placed_other vars o) n m ≡ exec_other vars o n m
  exec_other-same vars no_other n m = refl
  exec_other-same vars (other ss) n m = exec-same vars ss n m

  exec_choice-same : (vars : List StVar) (bs : Branches) (f g : Act) → ((n : ℕ) (m : Memory) → f n m ≡ g n m) → (n : ℕ) (m : Memory) → exec_choice_at (placed_branches vars bs) f n m ≡ exec_choice vars bs g n m
  exec_choice-same vars no_branches f g same n m = same n m
  exec_choice-same vars (branches c ss bs) f g same n m =
      by-value (value_at (placed vars c) m) (exec_at (placed_stms vars ss) n m) (exec_choice_at (placed_branches vars bs) f n m)
      ∙ with_value-same _ _ Faulted _ _ (value-same vars c m)
      (λ v. if-same (is_true v) _ _ _ _ (exec-same vars ss n m) (exec_choice-same vars bs f g same n m))

-- what a machine executes is the scan of its program
pub scan-same : (p : Program) (ps : to.Stms) (inputs : List ℕ) (work memory : Memory) (row : List ℤ) → ps ≡ placed_stms p.vars (view_stmts p.body) → inputs ≡ numbers_of is_input 0 p.vars
    → length memory ≡ length p.vars → work ≡ stored row inputs memory → exec_at ps turns_of_scan work ≡ scan_of (view p) memory row
scan-same p ps inputs work memory row placed_is inputs_are long stored_is =
    ap (λ qs. exec_at qs turns_of_scan work) placed_is
    ∙ exec-same p.vars (view_stmts p.body) turns_of_scan work
    ∙ ap (λ m. exec p.vars (view_stmts p.body) turns_of_scan m) (stored_is ∙ ap (λ ks. stored row ks memory) inputs_are ∙ stored-row p.vars row memory long)
