-- What an answer says of a list of parts: that each passes, or that one of them has the fault. One answer after another says
-- so of both their parts.
use Rattle.std.proofs.Common.{◌≡◌, ℕ, pos, Bool, true, false, ◌&&◌, List, [], ◌∷◌, ◌++◌, Some, None, Result, Ok, Err, inl, refl, sym, ◌∙◌, ap, if◌then◌else◌}
use Rattle.std.specs.List.{list_all}
use Rattle.std.proofs.lemmas.List.Folds.{list_all-append}
use Rattle.cif_base.specs.Bounds.{Bounds, within_64}
use Rattle.cif_base.specs.Bounds as bounds
use Rattle.cif_system.specs.System.{Range, in_range}
use Rattle.cif_system.specs.Words.{Member}
use Rattle.cif_system.proofs.Picks.{append-left, append-right}
use Rattle.cif_net_expr.specs.Tree.{NetExpr}
use Rattle.cif_net_model.specs.Interval.{as_bounds, as_range, Ranges, range_of}
use Rattle.cif_net_model.specs.Exprs.{expr_at}
use Rattle.cif_net_model.specs.Parts.{own_divisors, is_narrow, part_divides}
use Rattle.cif_net_model.proofs.Passing.{and-left}
use Rattle.cif_alg_measure.specs.declared.error.WidthErr.{WidthErr}
use Rattle.cif_alg_measure.specs.declared.error.WidthErr.TheVariants.{ZeroDivisor, TooWide}
use Rattle.cif_alg_measure.specs.Checked.{◌>>=◌, fitted}

pub and-both : (a b : Bool) → a ≡ true → b ≡ true → (a && b) ≡ true
and-both a b h k = ap (λ t. t && b) h ∙ k

pub pass-both : {A : Type 0} (p : A → Bool) (xs ys : List A) → list_all p xs ≡ true → list_all p ys ≡ true → list_all p (xs ++ ys) ≡ true
pass-both p xs ys h k = list_all-append p xs ys ∙ and-both _ _ h k

-- a is the interval, in 64 bits
abbrev pub Is : Range → Bounds → Type 0
Is r a = (as_range a ≡ r) × (bounds.is_narrow a ≡ true)

pub is-narrow : (r : Range) (a : Bounds) → Is r a → is_narrow r ≡ true
is-narrow r a h = ap (λ s. bounds.is_narrow (as_bounds s)) (sym h.0) ∙ h.1

module _ (g : Ranges) where
  -- no divisor of theirs may be 0, and each is in 64 bits
  abbrev pub Clean : List NetExpr → Type 0
  Clean ps = (list_all (part_divides g) ps ≡ true) × (list_all (λ p. is_narrow (range_of g p)) ps ≡ true)

  abbrev pub PartFault : NetExpr → WidthErr → Type 0
  PartFault p (ZeroDivisor at) = (d : NetExpr) × Member d (own_divisors p) × (expr_at d ≡ at) × (in_range (range_of g d) (pos 0) ≡ true)
  PartFault p (TooWide at) = (expr_at p ≡ at) × (is_narrow (range_of g p) ≡ false)

  abbrev pub FaultIn : List NetExpr → WidthErr → Type 0
  FaultIn ps x = (p : NetExpr) × Member p ps × PartFault p x

  abbrev pub Says : {A : Type 0} → List NetExpr → (A → Type 0) → Result A WidthErr → Type 0
  Says ps P (Ok a) = P a × Clean ps
  Says ps P (Err x) = FaultIn ps x

  clean-append : (ps qs : List NetExpr) → Clean ps → Clean qs → Clean (ps ++ qs)
  clean-append ps qs h k = (pass-both _ ps qs h.0 k.0, pass-both _ ps qs h.1 k.1)

  fault-left : (ps qs : List NetExpr) (x : WidthErr) → FaultIn ps x → FaultIn (ps ++ qs) x
  fault-left ps qs x f = (f.0, append-left f.0 ps qs f.1, f.2)

  fault-right : (ps qs : List NetExpr) (x : WidthErr) → FaultIn qs x → FaultIn (ps ++ qs) x
  fault-right ps qs x f = (f.0, append-right f.0 ps qs f.1, f.2)

  -- parts that pass stand before, or after
  clean-before : {A : Type 0} (ps qs : List NetExpr) (P : A → Type 0) (r : Result A WidthErr) → Clean ps → Says qs P r → Says (ps ++ qs) P r
  clean-before ps qs P (Ok a) c h = (h.0, clean-append ps qs c h.1)
  clean-before ps qs P (Err x) c h = fault-right ps qs x h

  clean-after : {A : Type 0} (ps qs : List NetExpr) (P : A → Type 0) (r : Result A WidthErr) → Clean qs → Says ps P r → Says (ps ++ qs) P r
  clean-after ps qs P (Ok a) c h = (h.0, clean-append ps qs h.1 c)
  clean-after ps qs P (Err x) c h = fault-left ps qs x h

  -- the next answer's parts stand after those of the first
  pub then-says : {A B : Type 0} (ps qs : List NetExpr) (P : A → Type 0) (Q : B → Type 0) (r : Result A WidthErr) (f : A → Result B WidthErr)
      → Says ps P r → ((a : A) → P a → Says qs Q (f a)) → Says (ps ++ qs) Q (r >>= f)
  then-says ps qs P Q (Ok a) f h k = clean-before ps qs Q (f a) h.1 (k a h.0)
  then-says ps qs P Q (Err x) f h k = fault-left ps qs x h

  -- before them
  pub own-says : {A B : Type 0} (own ps : List NetExpr) (P : A → Type 0) (Q : B → Type 0) (r : Result A WidthErr) (f : A → Result B WidthErr)
      → Says ps P r → ((a : A) → P a → Says own Q (f a)) → Says (own ++ ps) Q (r >>= f)
  own-says own ps P Q (Ok a) f h k = clean-after own ps Q (f a) h.1 (k a h.0)
  own-says own ps P Q (Err x) f h k = fault-right own ps x h

  -- of two answers, before the parts of both
  pub both-says : {A B C : Type 0} (own ps qs : List NetExpr) (P : A → Type 0) (Q : B → Type 0) (R : C → Type 0) (r : Result A WidthErr) (s : Result B WidthErr) (f : A → B → Result C WidthErr)
      → Says ps P r → Says qs Q s → ((a : A) (b : B) → P a → Q b → Says own R (f a b)) → Says (own ++ (ps ++ qs)) R (r >>= λ a. (s >>= λ b. f a b))
  both-says own ps qs P Q R (Ok a) (Ok b) f h k l = clean-after own (ps ++ qs) R (f a b) (clean-append ps qs h.1 k.1) (l a b h.0 k.0)
  both-says own ps qs P Q R (Ok a) (Err y) f h k l = fault-right own (ps ++ qs) y (fault-right ps qs y k)
  both-says own ps qs P Q R (Err x) s f h k l = fault-right own (ps ++ qs) x (fault-left ps qs x h)

  -- one part whose answer follows that of its operand, and then the next
  pub step-says : {A B C : Type 0} (own ps qs : List NetExpr) (P : A → Type 0) (Q : B → Type 0) (R : C → Type 0) (r : Result A WidthErr) (f : A → Result B WidthErr) (k : B → Result C WidthErr)
      → Says ps P r → ((a : A) → P a → Says own Q (f a)) → ((b : B) → Q b → Says qs R (k b)) → Says ((own ++ ps) ++ qs) R (r >>= λ a. (f a >>= λ b. k b))
  step-says own ps qs P Q R (Ok a) f k h l m = then-says (own ++ ps) qs Q R (f a) k (clean-after own ps Q (f a) h.1 (l a h.0)) m
  step-says own ps qs P Q R (Err x) f k h l m = fault-left (own ++ ps) qs x (fault-right own ps x h)

  -- a part with the interval of its operand
  pub same-says : {A : Type 0} (own ps : List NetExpr) (P : A → Type 0) (r : Result A WidthErr) → Says ps P r → ((a : A) → P a → Clean own) → Says (own ++ ps) P r
  same-says own ps P (Ok a) h k = (h.0, clean-append own ps (k a h.0) h.1)
  same-says own ps P (Err x) h k = fault-right own ps x h

  -- what is said of the only part is kept
  pub keep-says : {A : Type 0} (p : NetExpr) (P : A → Type 0) (r : Result A WidthErr) → Says (p ∷ []) P r → Says (p ∷ []) (λ a. P a × (part_divides g p ≡ true)) r
  keep-says p P (Ok a) h = ((h.0, and-left _ _ h.1.0), h.1)
  keep-says p P (Err x) h = h

  pub clean-only : (p : NetExpr) → part_divides g p ≡ true → is_narrow (range_of g p) ≡ true → Clean (p ∷ [])
  clean-only p d n = (and-both _ _ d refl, and-both _ _ n refl)

  -- the interval of a part, where it is in 64 bits
  pub fitted-says : (p : NetExpr) (at : ℕ) (b : Bounds) (r : Range) → expr_at p ≡ at → part_divides g p ≡ true → range_of g p ≡ r → as_range b ≡ r → Says (p ∷ []) (Is r) (fitted at (within_64 b))
  fitted-says p at b r e d i h = by (bounds.is_narrow b) refl
    where
      by : (t : Bool) → bounds.is_narrow b ≡ t → Says (p ∷ []) (Is r) (fitted at (if t then Some b else None))
      by true n = ((h, n), clean-only p d (ap (λ s. bounds.is_narrow (as_bounds s)) (i ∙ sym h) ∙ n))
      by false n = (p, inl refl, (e, ap (λ s. bounds.is_narrow (as_bounds s)) (i ∙ sym h) ∙ n))
