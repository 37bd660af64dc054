-- Helper of the code: a text of cases as a header and parts.
use Rattle.std.specs.Prelude.{◌≡◌, ⊤, ◌==◌, ℕ, ◌<◌, false, List, [], ◌∷◌, ◌++◌, flat_map, length, take, drop, slice_index_or, Option, Some, None, IfSome}
use Rattle.std.specs.List.{list_any}
use Rattle.std.specs.Borrow.{Bor}
use Rattle.grammar.specs.Pieces.{Text}
use Rattle.st_ast.specs.declared.tree.StVar.{StVar}
use Rattle.plc_rows.specs.Rows.{CasesOf}
use Rattle.plc_rows.specs.Told.{cases_of}
use Rattle.plc_rows.specs.declared.row.Rows.{Rows}
use Rattle.plc_rows.specs.declared.row.Cases.{Cases}

-- no byte is a quote
abbrev pub HasNoQuote : Text → Type 0
HasNoQuote text = list_any (λ (b : ℕ). b == 34) text ≡ false

-- the last byte is a line feed
abbrev pub EndsLine : Text → Type 0
EndsLine text = (x : Text) × (text ≡ x ++ 10 ∷ [])

-- no byte order mark begins it
abbrev pub IsUnmarked : Text → Type 0
IsUnmarked [] = ⊥
IsUnmarked (b ∷ text) = (b == 239) ≡ false

-- whole lines that are a right header and no row
pub record IsHeaderLine (vars : List StVar) (header : Text) : Type 0 where
  pub unmarked : IsUnmarked header
  pub line : EndsLine header
  pub plain : HasNoQuote header
  pub right : CasesOf vars header []

-- ---- parts

-- the text that pieces make
abbrev pub text_of : List (Bor Text) → Text
text_of pieces = flat_map (λ (p : Bor Text). p.now) pieces

-- each piece but the last ends a line
abbrev pub AreLines : List (Bor Text) → Type 0
AreLines [] = ⊥
AreLines (p ∷ []) = ⊤
AreLines (p ∷ q ∷ pieces) = EndsLine p.now × AreLines (q ∷ pieces)

-- the cases of pieces under a header
pub record IsRead (vars : List StVar) (header : Text) (pieces : List (Bor Text)) (cases : List Rows) : Type 0 where
  pub plain : HasNoQuote (header ++ text_of pieces)
  pub read : CasesOf vars (header ++ text_of pieces) (cases_of cases)

-- the parts of all pieces: each is of the piece at its place, where it has cases
pub record AreRead (vars : List StVar) (header : Text) (pieces : List (Bor Text)) (parts : List (Option Cases)) : Type 0 where
  pub each : (n : ℕ) (d : Option Cases) → n < length parts → IfSome (slice_index_or parts n d) (λ c. IsRead vars header (take 1 (drop n pieces)) c.cases)
  pub all : length parts ≡ length pieces

-- every part has cases, and these are all of them
abbrev pub Together : List (Option Cases) → List Rows → Type 0
Together [] cases = cases ≡ []
Together (Some c ∷ parts) cases = (rest : List Rows) × (cases ≡ c.cases ++ rest) × Together parts rest
Together (None ∷ parts) cases = ⊥
