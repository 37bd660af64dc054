-- What stands after ELSE, and branches where there are any.
use Rattle.std.proofs.Common.{◌≡◌, Bool, false, ◌↔◌, IsTrue, Result, Ok, Err, IfOk, List, [], ◌∷◌, refl}
use Rattle.st_ast.specs.Tree.{Stms, choice, no_stms, other, stms}
use Rattle.st_ast.specs.View.{view_branches, view_stmts}
use Rattle.st_ast.specs.declared.tree.StBranch.{StBranch}
use Rattle.st_ast.specs.declared.tree.Stmt.{Stmt}
use Rattle.plc_event_model.specs.Writes.{chosen, otherwise}

pub otherwise-made : (ss : List Stmt) (b : Bool) → (IsTrue b ↔ (ss ≡ [])) → b ≡ false → other (view_stmts ss) ≡ otherwise (view_stmts ss)
otherwise-made [] b h off = let t : IsTrue b = h.1 refl in absurd cc
otherwise-made (s ∷ ss) b h off = refl

pub chosen-made : (bs : List StBranch) (b : Bool) (ss : Stms) → (IsTrue b ↔ (bs ≡ [])) → b ≡ false → stms (choice (view_branches bs) (otherwise ss)) no_stms ≡ chosen (view_branches bs) ss
chosen-made [] b ss h off = let t : IsTrue b = h.1 refl in absurd cc
chosen-made (c ∷ bs) b ss h off = refl

pub if-map : {A E : Type 0} (r : Result A E) (P Q : A → Type 0) → ((x : A) → P x → Q x) → IfOk r P → IfOk r Q
if-map (Ok x) P Q f p = f x p
if-map (Err e) P Q f p = tt
