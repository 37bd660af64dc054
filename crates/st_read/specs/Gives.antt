-- Helper of the code: what a reader of the code ensures: what reading the list gives, unless memory runs out.
use Rattle.std.specs.Prelude.{◌≡◌, List, [], ◌∷◌, ◌++◌, Option, Some, None, Result, MatchResult}
use Rattle.grammar.specs.Reader.{Read}
use Rattle.st_read.specs.declared.error.Stop.{Stop}
use Rattle.st_read.specs.declared.error.Stop.TheVariants.{NoMemory, NotTaken}

abbrev pub Fails : {Y : Type 0} → Stop → Option Y → Type 0
Fails NoMemory read = Unit {0}
Fails (NotTaken left) read = read ≡ None

abbrev pub Gives : {X Y : Type 0} → (X → Y) → Result X Stop → Option Y → Type 0
Gives view result read = MatchResult result (λ x. read ≡ Some (view x)) (λ e. Fails e read)

-- what is read goes behind a list
abbrev pub onto : {T A : Type 0} → List A → Read T A → Read T (List A)
onto front None = None
onto front (Some p) = Some (front ++ p.0 ∷ [], p.1)
