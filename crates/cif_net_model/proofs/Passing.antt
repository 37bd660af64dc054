-- Tests that pass: their parts, and those of lists.
use Rattle.std.proofs.Common.{◌≡◌, pos, ℤ, Bool, true, false, not, ◌&&◌, List, [], ◌∷◌, ◌++◌, inl, inr, refl, sym, subst, ◌∙◌, if◌then◌else◌, arith}
use Rattle.std.specs.List.{list_all, AllByRecursion}
use Rattle.std.proofs.lemmas.List.Folds.{list_all-append}
use Rattle.std.proofs.lemmas.Int.{ints}
use Rattle.cif_system.specs.System.{Range, in_range}
use Rattle.cif_system.specs.Words.{Member}
use Rattle.cif_net_expr.specs.Tree.{MulOp, times, divided, modulo, NetExpr, NetFactors, no_net_factors, net_factors}
use Rattle.cif_net_model.specs.Value.{of_bool}
use Rattle.cif_net_model.specs.Interval.{truths, Ranges, range_of}
use Rattle.cif_net_model.specs.Parts.{add_factor, factor_divisors}
use Rattle.cif_net_model.proofs.Orders.{Lies}
use Rattle.cif_net_model.proofs.Corners.{CanMultiply}

pub and-left : (a b : Bool) → (a && b) ≡ true → a ≡ true
and-left true b h = refl
and-left false b h = absurd cc

pub and-right : (a b : Bool) → (a && b) ≡ true → b ≡ true
and-right true b h = h
and-right false b h = absurd cc

pub not-true : (b : Bool) → not b ≡ true → b ≡ false
not-true true h = absurd cc
not-true false h = refl

pub both-pass : {A : Type 0} (p : A → Bool) (xs ys : List A) → list_all p (xs ++ ys) ≡ true → (list_all p xs ≡ true) × (list_all p ys ≡ true)
both-pass p xs ys h = let k : (list_all p xs && list_all p ys) ≡ true = sym (list_all-append p xs ys) ∙ h in (and-left _ _ k, and-right _ _ k)

pub bool-holds : (b : Bool) → Lies truths (of_bool b)
bool-holds true = omega (arith, ints)
bool-holds false = omega (arith, ints)

pub chosen : (a : Range) (b : Bool) (x y : ℤ) → Lies a x → Lies a y → Lies a (if b then x else y)
chosen a true x y h k = h
chosen a false x y h k = k

pub last-divides : (g : Ranges) (before : NetFactors) (op : MulOp) (e : NetExpr) → list_all (λ d. not (in_range (range_of g d) (pos 0))) (factor_divisors (add_factor before op e)) ≡ true → CanMultiply op (range_of g e)
last-divides g no_net_factors times e h = tt
last-divides g no_net_factors divided e h = not-true _ (and-left _ _ h)
last-divides g no_net_factors modulo e h = not-true _ (and-left _ _ h)
last-divides g (net_factors times x xs) op e h = last-divides g xs op e h
last-divides g (net_factors divided x xs) op e h = last-divides g xs op e (and-right _ _ h)
last-divides g (net_factors modulo x xs) op e h = last-divides g xs op e (and-right _ _ h)

pub all-member : {A : Type 0} (p : A → Bool) (xs : List A) (x : A) → list_all p xs ≡ true → Member x xs → p x ≡ true
all-member p [] x h m = absurd m
all-member p (y ∷ ys) x h (inl e) = subst (λ z. p z ≡ true) (sym e) (and-left _ _ h)
all-member p (y ∷ ys) x h (inr m) = all-member p ys x (and-right _ _ h) m

pub each-member : {A : Type 0} (P : A → Type 0) (xs : List A) (x : A) → AllByRecursion P xs → Member x xs → P x
each-member P [] x h m = absurd m
each-member P (y ∷ ys) x h (inl e) = subst P (sym e) h.0
each-member P (y ∷ ys) x h (inr m) = each-member P ys x h.1 m
