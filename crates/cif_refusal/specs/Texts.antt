-- The text of a refusal: its number, its name, and each field's name and value.
use Rattle.std.specs.Prelude.{ℕ, List, [], ◌∷◌, ◌++◌, codes, decimal}
use Rattle.grammar.specs.Pieces.{Text}
use Rattle.cif_refusal.specs.declared.refusal.Refusal.{Refusal}
use Rattle.cif_refusal.specs.declared.refusal.Refusal.TheVariants as why

abbrev pub joined : List Text → Text
joined [] = []
joined (t ∷ ts) = t ++ joined ts

-- a refusal with one field that is a number
abbrev pub with_number : Text → ℕ → Text
with_number head n = joined (head ∷ decimal n ∷ [])

-- a refusal with two such fields
abbrev pub with_numbers : Text → ℕ → Text → ℕ → Text
with_numbers head n between m = joined (head ∷ decimal n ∷ between ∷ decimal m ∷ [])

-- an algebraic variable is told by its path
abbrev pub refusal_text : Text → Refusal → Text
refusal_text path (why.BadByte at) = with_number (codes "1 BadByte at ") at
refusal_text path (why.NumberTooBig at) = with_number (codes "2 NumberTooBig at ") at
refusal_text path (why.OpenComment at) = with_number (codes "3 OpenComment at ") at
refusal_text path (why.NotRead at) = with_number (codes "4 NotRead at ") at
refusal_text path (why.Unknown at) = with_number (codes "5 Unknown at ") at
refusal_text path (why.Duplicate at first) = with_numbers (codes "6 Duplicate at ") at (codes " first ") first
refusal_text path (why.WrongKind at) = with_number (codes "7 WrongKind at ") at
refusal_text path (why.DefinitionCycle at) = with_number (codes "8 DefinitionCycle at ") at
refusal_text path (why.Mismatch at) = with_number (codes "9 Mismatch at ") at
refusal_text path (why.NotConstant at) = with_number (codes "10 NotConstant at ") at
refusal_text path (why.Initials at count) = with_numbers (codes "11 Initials at ") at (codes " count ") count
refusal_text path (why.NotOwn at) = with_number (codes "12 NotOwn at ") at
refusal_text path (why.AssignedTwice at) = with_number (codes "13 AssignedTwice at ") at
refusal_text path (why.Equations at count) = with_numbers (codes "16 Equations at ") at (codes " count ") count
refusal_text path (why.AlphabetLacks at) = with_number (codes "14 AlphabetLacks at ") at
refusal_text path (why.RoleMixed at) = with_number (codes "15 RoleMixed at ") at
refusal_text path (why.TooManyObjects count) = with_number (codes "17 TooManyObjects count ") count
refusal_text path (why.ConstantRange at) = with_number (codes "18 ConstantRange at ") at
refusal_text path (why.AlgCycle alg) = joined (codes "19 AlgCycle alg " ∷ path ∷ [])
refusal_text path (why.ZeroDivisor at) = with_number (codes "20 ZeroDivisor at ") at
refusal_text path (why.TooWide at) = with_number (codes "21 TooWide at ") at
refusal_text path (why.InvariantReadsInput at) = with_number (codes "22 InvariantReadsInput at ") at
refusal_text path (why.InvariantFalse at) = with_number (codes "23 InvariantFalse at ") at
refusal_text path (why.TooLarge nodes depth) = with_numbers (codes "24 TooLarge nodes ") nodes (codes " depth ") depth
