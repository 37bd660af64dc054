-- What a call gave whose error was put in another form.
use Rattle.std.proofs.Common.{◌≡◌, Err, Ok, subst}
use Rattle.std.specs.Prelude.{Result, OnOk}
use Rattle.std.specs.Result.{IsErrAnd, MatchResult}

pub handed-ok : {T E D : Type 0} (r : Result T E) (s : Result T D) (x : T) (Q : E → D → Type 0) (P : Type 0) → s ≡ Ok x → MatchResult r (λ y. s ≡ Ok y) (λ e. IsErrAnd s (Q e)) → OnOk r P → P
handed-ok (Ok y) s x Q P h m p = p
handed-ok (Err e) s x Q P h m p = absurd (subst (λ t. IsErrAnd t (Q e)) h m)
