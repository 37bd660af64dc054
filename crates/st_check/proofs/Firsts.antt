-- The first of some broken checks is the first of these and of others behind them.
use Rattle.std.proofs.Common.{◌≡◌, List, [], ◌∷◌, ◌++◌, Some}
use Rattle.std.proofs.lemmas.Option.{none-some}
use Rattle.st_ast.specs.Checks.{CheckFault}
use Rattle.st_check.specs.Told.{first, IsFirst}
use Rattle.st_check.specs.declared.error.StCheckErr.{StCheckErr}
use Rattle.st_check.specs.declared.error.StCheckErr.TheVariants as err

front : (f : CheckFault) (xs ys : List CheckFault) → first xs ≡ Some f → first (xs ++ ys) ≡ Some f
front f [] ys e = absurd (none-some f e)
front f (x ∷ xs) ys e = e

pub first-front : (e : StCheckErr) (xs ys : List CheckFault) → IsFirst e xs → IsFirst e (xs ++ ys)
first-front (err.StUnknown k) xs ys h = front _ xs ys h
first-front (err.StDuplicate k) xs ys h = front _ xs ys h
first-front (err.StMismatch k) xs ys h = front _ xs ys h
first-front (err.StNotAssignable k) xs ys h = front _ xs ys h
first-front (err.StInitRange k) xs ys h = front _ xs ys h
first-front err.Memory xs ys h = tt

pub ruleset fronts = (first-front)
