use Rattle.std.proofs.Common.{◌≡◌, List, ◌++◌, arith, rules}
use Rattle.std.proofs.lemmas.Grind.{common_steps}
use Rattle.cif_scope_uses.proofs.automata.add_location.Goals as goal

-- what three calls append, one after the other
appended_thrice : {A : Type 0} (a b c d x y z : List A) → b ≡ a ++ x → c ≡ b ++ y → d ≡ c ++ z → d ≡ a ++ (x ++ y ++ z)
appended_thrice a b c d x y z e f g = grind (arith, common_steps, e, f, g)

pub returns : goal.returns
returns c = search (rules, appended_thrice)
