-- The form that operands make is that of their values.
use Rattle.std.proofs.Common.{◌≡◌, ◌≢◌, Bool, true, false, ℕ, zero, suc, List, [], ◌∷◌, map, refl, ap, sym, inl, inr, ◌⊎◌, ◌∙◌}
use Rattle.std.specs.Prelude.{Result, Ok, Err, IfOk, nat_eq}
use Rattle.std.proofs.lemmas.Bool.{or_cases, eqb-true}
use Rattle.st_ast.specs.Tree.{Expr, product, sum, order, equal, all_of, odd_of, any_of, exprs_of}
use Rattle.st_ast.specs.View.{view_expr, view_factor, view_term, factors_of, terms_of}
use Rattle.st_ast.specs.Grammar.{second, mul_of, is_minus, order_of, is_equality, any_from}
use Rattle.st_ast.specs.declared.kinds.TokenKind.{TokenKind}
use Rattle.st_ast.specs.declared.tree.StExpr.{StExpr}
use Rattle.st_ast.specs.declared.tree.StFactor.{StFactor}
use Rattle.st_ast.specs.declared.tree.StOrder.{StOrder}
use Rattle.st_ast.specs.declared.tree.StTerm.{StTerm}
use Rattle.st_read.specs.declared.making.Operand.{Operand}
use Rattle.st_read.specs.Operands.{operand_view, factor_of, term_of, value_of}
use Rattle.st_read.specs.Reading.{has_pairs, made_at}

any_is : (l : ℕ) → has_pairs l ≡ false → l ≢ 0 → l ≢ 1 → l ≢ 4 → l ≢ 5 → made_at l ≡ any_from
any_is zero many a b e f = absurd (a refl)
any_is (suc zero) many a b e f = absurd (b refl)
any_is (suc (suc zero)) many a b e f = absurd cc
any_is (suc (suc (suc zero))) many a b e f = absurd cc
any_is (suc (suc (suc (suc zero)))) many a b e f = absurd (e refl)
any_is (suc (suc (suc (suc (suc zero))))) many a b e f = absurd (f refl)
any_is (suc (suc (suc (suc (suc (suc l)))))) many a b e f = refl

three : (l : ℕ) → has_pairs l ≡ true → l ≢ 2 → l ≡ 3
three l one other = go (or_cases (nat_eq l 2) (nat_eq l 3) one)
  where
    go : (nat_eq l 2 ≡ true) ⊎ (nat_eq l 3 ≡ true) → l ≡ 3
    go (inl e) = absurd (other (eqb-true l 2 e))
    go (inr e) = eqb-true l 3 e

each_factor : (others : List Operand) → map factor_of others ≡ map (λ (o : TokenKind × Expr). (mul_of o.0, o.1)) (map operand_view others)
each_factor [] = refl
each_factor (o ∷ os) = ap (λ l. factor_of o ∷ l) (each_factor os)

each_term : (others : List Operand) → map term_of others ≡ map (λ (o : TokenKind × Expr). (is_minus o.0, o.1)) (map operand_view others)
each_term [] = refl
each_term (o ∷ os) = ap (λ l. term_of o ∷ l) (each_term os)

each_value : (others : List Operand) → map value_of others ≡ map second (map operand_view others)
each_value [] = refl
each_value (o ∷ os) = ap (λ l. value_of o ∷ l) (each_value os)

-- ---- answers that hold an expression

abbrev Gives : {M : Type 0} → Result StExpr M → Expr → Type 0
Gives r e = IfOk r (λ x. view_expr x ≡ e)

gives_same : {M : Type 0} (r : Result StExpr M) (e f : Expr) → e ≡ f → Gives r e → Gives r f
gives_same (Ok x) e f is h = h ∙ is
gives_same (Err m) e f is h = tt

module _ {M : Type 0} (r : Result StExpr M) (l : ℕ) (a : Expr) (others : List Operand) where
  pub made_product : (all : List StFactor) → l ≡ 0 → map view_factor all ≡ map factor_of others → Gives r (product a (factors_of (map view_factor all))) → Gives r (made_at l a (map operand_view others))
  made_product all is f g = gives_same r _ _ (rw is (ap (λ fs. product a (factors_of fs)) (f ∙ each_factor others))) g

  pub made_sum : (all : List StTerm) → l ≡ 1 → map view_term all ≡ map term_of others → Gives r (sum a (terms_of (map view_term all))) → Gives r (made_at l a (map operand_view others))
  made_sum all is f g = gives_same r _ _ (rw is (ap (λ ts. sum a (terms_of ts)) (f ∙ each_term others))) g

  module _ (all : List StExpr) (f : map view_expr all ≡ a ∷ map value_of others) where
    values : map view_expr all ≡ a ∷ map second (map operand_view others)
    values = f ∙ ap (λ vs. a ∷ vs) (each_value others)

    pub made_all : l ≡ 4 → Gives r (all_of (exprs_of (map view_expr all))) → Gives r (made_at l a (map operand_view others))
    made_all is g = gives_same r _ _ (rw is (ap (λ vs. all_of (exprs_of vs)) values)) g

    pub made_odd : l ≡ 5 → Gives r (odd_of (exprs_of (map view_expr all))) → Gives r (made_at l a (map operand_view others))
    made_odd is g = gives_same r _ _ (rw is (ap (λ vs. odd_of (exprs_of vs)) values)) g

    pub made_any : has_pairs l ≡ false → l ≢ 0 → l ≢ 1 → l ≢ 4 → l ≢ 5 → Gives r (any_of (exprs_of (map view_expr all))) → Gives r (made_at l a (map operand_view others))
    made_any many n0 n1 n4 n5 g = gives_same r _ _ (ap (λ vs. any_of (exprs_of vs)) values ∙ sym (ap (λ m. m a (map operand_view others)) (any_is l many n0 n1 n4 n5))) g

-- ---- one operand after the first

module _ {M : Type 0} (r : Result StExpr M) (l : ℕ) (a b : Expr) (kind : TokenKind) where
  pub pair_ordered : (op : StOrder) → op ≡ order_of kind → l ≡ 2 → Gives r (order a op b) → Gives r (made_at l a ((kind, b) ∷ []))
  pair_ordered op e is g = gives_same r _ _ (rw (is, e) refl) g

  pub pair_equated : (same : Bool) → same ≡ is_equality kind → has_pairs l ≡ true → l ≢ 2 → Gives r (equal a same b) → Gives r (made_at l a ((kind, b) ∷ []))
  pair_equated same e one other g = let is : l ≡ 3 = three l one other in gives_same r _ _ (rw (is, e) refl) g

pub ruleset operands = (made_product, made_sum, made_all, made_odd, made_any)

pub ruleset pairs = (pair_ordered, pair_equated)
