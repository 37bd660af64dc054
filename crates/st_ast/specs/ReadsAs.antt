-- Which texts derive a program, and which read as one.
use Rattle.std.specs.Prelude.{◌≡◌, List, []}
use Rattle.grammar.specs.Pieces.{Text}
use Rattle.st_ast.specs.Tokens.{Token, Tokens}
use Rattle.st_ast.specs.Grammar.{whole}
use Rattle.st_ast.specs.Checks.{check_faults}
use Rattle.st_ast.specs.Tree.{Program}

-- the text's tokens derive the program within the depth limits
pub record Derives (text : Text) (p : Program) : Type 0 where
  pub tokens : List Token
  pub are_tokens : Tokens text tokens
  pub derived : whole p tokens

-- the text derives the program, and that breaks no check
pub record ReadsAsProgram (text : Text) (p : Program) : Type 0 where
  pub derives : Derives text p
  pub checked : check_faults p ≡ []

-- The text derives this program and no other. It reads as the program, unless that breaks a check, and as no other.
pub record ReadsBack (text : Text) (p : Program) : Type 0 where
  pub derives : Derives text p
  pub reads : check_faults p ≡ [] → ReadsAsProgram text p
  pub derives_no_other : (q : Program) → Derives text q → q ≡ p
  pub reads_as_no_other : (q : Program) → ReadsAsProgram text q → q ≡ p
