-- Names that are the same when the case of letters is ignored: each is the same as itself.
use Rattle.std.proofs.Common.{◌≡◌, ◌==◌, true, [], ◌∷◌, refl, eq-eqb}
use Rattle.std.specs.Char.{to_ascii_lowercase}
use Rattle.grammar.specs.Pieces.{Text}
use Rattle.st_ast.specs.Names.{same_name}

pub same_name_self : (w : Text) → same_name w w ≡ true
same_name_self [] = refl
same_name_self (b ∷ w) = let e : (to_ascii_lowercase b == to_ascii_lowercase b) ≡ true = search (eq-eqb) in rw e (same_name_self w)
