-- An operand goes up the levels of operators, one after the other.
use Rattle.std.proofs.Common.{◌≡◌, ℕ, zero, suc, ◌+◌, ◌≤◌, ◌<◌, ◌-◌, max, Bool, true, false, if◌then◌else◌, List, [], ◌∷◌, length, Some, None, refl, ap, subst, ◌∙◌, arith}
use Rattle.grammar.specs.Lang.{has}
use Rattle.grammar.specs.Reader.{Read, Deep, and_then, starts, deep_from, level, chained}
use Rattle.st_ast.specs.Grammar.{sort, Others, max_depth}
use Rattle.st_ast.specs.Tokens.{Token}
use Rattle.st_ast.specs.declared.kinds.TokenKind.{TokenKind}
use Rattle.st_ast.specs.Tree.{Expr}
use Rattle.st_read.specs.Reading.{codes_of, operators, levels, lowest_of, next_level, has_pairs, most_others, made_at, other_at, others_at, form_at, joined_at, level_at}

no_others : (l : ℕ) (r : Deep Token Expr) (ts : List Token) → starts sort (codes_of (operators l)) ts ≡ false → others_at l r ts ≡ Some (([], 0), ts)
unfolding others_at deep_from
no_others l r ts e = go (most_others l (length ts))
  where
    go : (n : ℕ) → deep_from sort (codes_of (operators l)) (other_at l r) n ts ≡ Some (([], 0), ts)
    go zero = refl
    go (suc n) = rw e refl

-- an order or an equality takes the one operand after its operator
pair_tail : (l : ℕ) (first : Expr × ℕ) (us : List Token) (o : (TokenKind × Expr) × ℕ)
    → chained max_depth (made_at l) first (o.0 ∷ [], max o.1 0) us ≡ and_then (level max_depth first.0 first.1 us) (λ p vs. Some ((made_at l p.0 (o.0 ∷ []), max p.1 o.1), vs))
pair_tail l first us o = let same : max o.1 0 ≡ o.1 = omega arith in
    ap (λ (n : ℕ). and_then (level max_depth first.0 first.1 us) (λ p vs. Some ((made_at l p.0 (o.0 ∷ []), max p.1 n), vs))) same

pair_read : (l : ℕ) (first : Expr × ℕ) (read : Read Token ((TokenKind × Expr) × ℕ))
    → and_then (and_then read (λ o us. Some ((o.0 ∷ [], max o.1 0), us))) (λ more us. chained max_depth (made_at l) first more us)
    ≡ and_then read (λ o us. and_then (level max_depth first.0 first.1 us) (λ p vs. Some ((made_at l p.0 (o.0 ∷ []), max p.1 o.1), vs)))
pair_read l first None = refl
pair_read l first (Some p) = pair_tail l first p.1 p.0

pub pair_at : (l : ℕ) (r : Deep Token Expr) (first : Expr × ℕ) (ts : List Token) → has_pairs l ≡ true → starts sort (codes_of (operators l)) ts ≡ true
    → form_at l r first ts ≡ and_then (other_at l r ts) (λ o us. and_then (level max_depth first.0 first.1 us) (λ p vs. Some ((made_at l p.0 (o.0 ∷ []), max p.1 o.1), vs)))
unfolding others_at deep_from
pair_at l r first ts one comes = rw (one, comes) (pair_read l first (other_at l r ts))

one_up : (l : ℕ) → l + 1 ≡ suc l
one_up l = omega arith

-- below the lowest level there is no operator of the kind
below_lowest : (n d k l c : ℕ) → d + k ≡ l → l < lowest_of n k c → has (codes_of (operators l)) c ≡ false
below_lowest zero d k l c same b = absurd (omega (arith, same, b))
below_lowest (suc n) zero k l c same b = go (has (codes_of (operators k)) c) refl b
  where
    go : (x : Bool) → has (codes_of (operators k)) c ≡ x → l < (if x then k else lowest_of n (suc k) c) → has (codes_of (operators l)) c ≡ false
    go true e b = absurd (omega (arith, same, b))
    go false e b = subst (λ (j : ℕ). has (codes_of (operators j)) c ≡ false) (omega (arith, same)) e
below_lowest (suc n) (suc d) k l c same b = go (has (codes_of (operators k)) c) b (below_lowest n d (suc k) l c (omega (arith, same)))
  where
    go : (x : Bool) → l < (if x then k else lowest_of n (suc k) c) → (l < lowest_of n (suc k) c → has (codes_of (operators l)) c ≡ false) → has (codes_of (operators l)) c ≡ false
    go true b on = absurd (omega (arith, same, b))
    go false b on = on b

pub below_next : (l : ℕ) (ts : List Token) → l < next_level ts → starts sort (codes_of (operators l)) ts ≡ false
below_next l [] b = refl
below_next l (t ∷ ts) b = below_lowest levels l 0 l (sort t) (omega arith) b

module _ (r : Deep Token Expr) (ts : List Token) where
  level_goes_on : (l : ℕ) (us : List Token) (e : Expr × ℕ) → level_at l r ts ≡ Some (e, us) → level_at (suc l) r ts ≡ form_at l (level_at l r) e us
  unfolding level_at joined_at
  level_goes_on l us e h = ap (λ (o : Read Token (Expr × ℕ)). and_then o (form_at l (level_at l r))) h

  level_fails : (l : ℕ) → level_at l r ts ≡ None → level_at (suc l) r ts ≡ None
  unfolding level_at joined_at
  level_fails l h = ap (λ (o : Read Token (Expr × ℕ)). and_then o (form_at l (level_at l r))) h

  fails_up : (d l m : ℕ) → d + l ≡ m → level_at l r ts ≡ None → level_at m r ts ≡ None
  fails_up zero l m e h = subst (λ (k : ℕ). level_at k r ts ≡ None) (omega (arith, e)) h
  fails_up (suc d) l zero e h = absurd (omega (arith, e))
  fails_up (suc d) l (suc m) e h = level_fails m (fails_up d l m (omega (arith, e)) h)

  fails_on : (l m : ℕ) → l ≤ m → level_at l r ts ≡ None → level_at m r ts ≡ None
  fails_on l m less h = fails_up (m - l) l m (omega arith) h

  -- an operand of a level with no operator behind it is an expression of the level above
  pub level_alone : (l : ℕ) (us : List Token) (e : Expr × ℕ) → level_at l r ts ≡ Some (e, us) → starts sort (codes_of (operators l)) us ≡ false
      → level_at (l + 1) r ts ≡ Some (e, us)
  level_alone l us e h none =
      ap (λ (k : ℕ). level_at k r ts) (one_up l) ∙ level_goes_on l us e h
      ∙ ap (λ (o : Read Token (Others × ℕ)). and_then o (λ all ws. chained max_depth (made_at l) e all ws)) (no_others l (level_at l r) us none)

  -- with an operator behind it, it goes on as a form of that level
  pub level_joined : (l : ℕ) (us vs : List Token) (e f : Expr × ℕ) → level_at l r ts ≡ Some (e, us) → form_at l (level_at l r) e us ≡ Some (f, vs)
      → level_at (l + 1) r ts ≡ Some (f, vs)
  level_joined l us vs e f h is = ap (λ (k : ℕ). level_at k r ts) (one_up l) ∙ level_goes_on l us e h ∙ is

  pub level_stops : (l m : ℕ) (us : List Token) (e : Expr × ℕ) → l < m → level_at l r ts ≡ Some (e, us) → form_at l (level_at l r) e us ≡ None
      → level_at m r ts ≡ None
  level_stops l m us e less h is = fails_on (suc l) m (omega arith) (level_goes_on l us e h ∙ is)

  -- nor does any level take more where the next operator is of none of them
  rises : (d l m : ℕ) (us : List Token) (e : Expr × ℕ) → d + l ≡ m → m ≤ next_level us → level_at l r ts ≡ Some (e, us) → level_at m r ts ≡ Some (e, us)
  rises zero l m us e same b h = subst (λ (k : ℕ). level_at k r ts ≡ Some (e, us)) (omega (arith, same)) h
  rises (suc d) l m us e same b h = rises d (l + 1) m us e (omega (arith, same)) b (level_alone l us e h (below_next l us (omega (arith, same, b))))

  pub level_passed : (l m : ℕ) (us : List Token) (e : Expr × ℕ) → l ≤ m → m ≤ next_level us → level_at l r ts ≡ Some (e, us) → level_at m r ts ≡ Some (e, us)
  level_passed l m us e less b h = rises (m - l) l m us e (omega (arith, less)) b h

  pub level_first : (read : Read Token (Expr × ℕ)) → r ts ≡ read → level_at 0 r ts ≡ read
  unfolding level_at
  level_first read h = h

  pub level_none : (m : ℕ) → r ts ≡ None → level_at m r ts ≡ None
  level_none m h = fails_on 0 m (omega arith) (level_first None h)

  pub level_last : (l m : ℕ) (read : Read Token (Expr × ℕ)) → l ≡ m → level_at l r ts ≡ read → level_at m r ts ≡ read
  level_last l m read same h = subst (λ (k : ℕ). level_at k r ts ≡ read) same h

pub ruleset risen = (level_passed, below_next, level_alone, level_joined, level_stops, level_first, level_none, level_last)
