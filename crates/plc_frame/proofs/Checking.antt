-- The statements of the program break no check.
use Rattle.std.proofs.Common.{◌≡◌, ℕ, ◌+◌, pos, Bool, true, false, List, [], ◌∷◌, map, Some, refl, sym, ap}
use Rattle.std.specs.List.{enumerate_from}
use Rattle.grammar.specs.Pieces.{Text}
use Rattle.st_ast.specs.Tree.{Expr, truth, number, named, Stms, assign, loop, no_stms, stms, append, stms_of}
use Rattle.st_ast.specs.Names.{declared}
use Rattle.st_ast.specs.Checks.{Sort, boolean, integer, can_be_assigned, is_same_sort, knows, sort_of, sort_of_type, stm_count, stm_faults, stms_faults}
use Rattle.st_ast.specs.declared.tree.StVar.{StVar}
use Rattle.st_ast.specs.declared.tree.StClass.{StClass}
use Rattle.st_ast.specs.declared.tree.StClass.TheVariants as class
use Rattle.st_ast.specs.declared.tree.StTy.TheVariants as ty
use Rattle.plc_model.specs.declared.letter.Letter.{Letter}
use Rattle.plc_model.specs.Names.{name_for}
use Rattle.plc_model.specs.Face.{VariableFace, IsDeclared, declaration}
use Rattle.plc_model.specs.Frame.{fired, frame, goes_on, loop_of, one_more_round, one_round, rounds_made, tries_of}
use Rattle.plc_model.proofs.FaceLaws.{declared-of}
use Rattle.plc_frame.specs.Variables.{shown_by}
use Rattle.plc_frame.proofs.Declaring.{AllDeclared}

module _ (vars : List StVar) where
  -- none of the statements breaks a check, whatever its number
  abbrev pub AllChecked : Stms → Type 0
  AllChecked no_stms = Unit {0}
  AllChecked (stms s ss) = ((k : ℕ) → stm_faults vars k s ≡ []) × AllChecked ss

  pub checked-append : (a b : Stms) → AllChecked a → AllChecked b → AllChecked (append a b)
  checked-append no_stms b p q = q
  checked-append (stms s ss) b p q = (p.0, checked-append ss b p.1 q)

  pub all-checked : (k : ℕ) (ss : Stms) → AllChecked ss → stms_faults vars k ss ≡ []
  all-checked k no_stms all = refl
  all-checked k (stms s ss) all = rw (all.0 k) (all-checked (k + stm_count s) ss all.1)

  -- ---- assignments

  same-sort : (s : Sort) → is_same_sort (Some s) (Some s) ≡ true
  same-sort boolean = refl
  same-sort integer = refl

  assign-checked : (x : Text) (e : Expr) (v : StVar) → declared vars x ≡ Some v → knows vars e ≡ true → sort_of vars e ≡ Some (sort_of_type v.ty) → can_be_assigned (Some v) ≡ true
      → (k : ℕ) → stm_faults vars k (assign x e) ≡ []
  assign-checked x e v at kn so can k = let s = same-sort (sort_of_type v.ty) in rw (at, kn, so, s, can) refl

  -- a variable in VAR can be assigned
  plain_can : (v : StVar) → v.class ≡ class.Plain → can_be_assigned (Some v) ≡ true
  plain_can v is = ap (λ c. elim c [ class.Plain ↦ true | class.Output ↦ true | class.Constant ↦ false | class.Input ↦ false ]) is

  set-mark : IsDeclared vars fired ty.Bool → (b : Bool) (k : ℕ) → stm_faults vars k (assign fired (truth b)) ≡ []
  set-mark mark b k =
      let d = declared-of vars fired ty.Bool mark in
      assign-checked fired (truth b) d.variable d.at refl (ap (λ t. Some (sort_of_type t)) (sym d.type_is)) (plain_can d.variable d.class_is) k

  -- ---- conditions

  -- all names of the expression are declared, and it is a BOOL
  abbrev Fine : Expr → Type 0
  Fine e = (knows vars e ≡ true) × (sort_of vars e ≡ Some boolean)

  -- ---- variables that take over others

  copy-checked : (to from : Letter) (a b : StClass) (x : ℕ × VariableFace) → declared vars (name_for to x.0 x.1.path) ≡ Some (declaration to a x) → declared vars (name_for from x.0 x.1.path) ≡ Some (declaration from b x)
      → can_be_assigned (Some (declaration to a x)) ≡ true → (k : ℕ) → stm_faults vars k (shown_by to from x) ≡ []
  copy-checked to from a b x d g can k =
      assign-checked (name_for to x.0 x.1.path) (named (name_for from x.0 x.1.path)) (declaration to a x) d (rw g refl) (rw g refl) can k

  pub copies-checked : (to from : Letter) (a b : StClass) → ((x : ℕ × VariableFace) → can_be_assigned (Some (declaration to a x)) ≡ true) → (k : ℕ) (xs : List VariableFace)
      → AllDeclared vars to a k xs → AllDeclared vars from b k xs → AllChecked (stms_of (map (shown_by to from) (enumerate_from k xs)))
  copies-checked to from a b can k [] d g = tt
  copies-checked to from a b can k (x ∷ xs) d g = (copy-checked to from a b (k, x) d.0 g.0 (can (k, x)), copies-checked to from a b can (k + 1) xs d.1 g.1)

  -- ---- the frame

  module _ (mark : IsDeclared vars fired ty.Bool) (counter : IsDeclared vars rounds_made ty.Lint) where
    reset : (k : ℕ) → stm_faults vars k (assign rounds_made (number (pos 0))) ≡ []
    reset k =
        let d = declared-of vars rounds_made ty.Lint counter in
        assign-checked rounds_made (number (pos 0)) d.variable d.at refl (ap (λ t. Some (sort_of_type t)) (sym d.type_is)) (plain_can d.variable d.class_is) k

    count : (k : ℕ) → stm_faults vars k one_more_round ≡ []
    count k =
        let d = declared-of vars rounds_made ty.Lint counter in
        let at = d.at in let t = d.type_is in let can = plain_can d.variable d.class_is in
        rw (at, t, can) refl

    condition : (bound : ℕ) → Fine (goes_on bound)
    condition bound =
        let d = declared-of vars fired ty.Bool mark in
        let c = declared-of vars rounds_made ty.Lint counter in
        let a = d.at in let b = c.at in let t = d.type_is in let u = c.type_is in
        (rw (a, b) refl, rw (a, b, t, u) refl)

    tries-checked : (body : ℕ → Stms) (es : List ℕ) → ((e : ℕ) → AllChecked (body e)) → AllChecked (tries_of body es)
    tries-checked body [] all = tt
    tries-checked body (e ∷ es) all = checked-append (body e) (tries_of body es) (all e) (tries-checked body es all)

    loop-checked : (bound : ℕ) (tries : Stms) → AllChecked tries → AllChecked (loop_of bound tries)
    loop-checked bound tries all = (set-mark mark true, (reset, ((λ k. looped k), tt)))
      where
        rounds : AllChecked (one_round tries)
        rounds = (set-mark mark false, checked-append tries (stms one_more_round no_stms) all (count, tt))

        looped : (k : ℕ) → stm_faults vars k (loop (goes_on bound) (one_round tries)) ≡ []
        looped k = let c = condition bound in let r = all-checked (k + 1) (one_round tries) rounds in rw (c.0, c.1, r) refl

    pub frame-checked : (latches : Stms) (body : ℕ → Stms) (first second : List ℕ) (U C : ℕ) (outputs : Stms) → AllChecked latches → ((e : ℕ) → AllChecked (body e)) → AllChecked outputs
        → AllChecked (frame latches body first second U C outputs)
    frame-checked latches body first second U C outputs l b o =
        checked-append latches (append (loop_of U (tries_of body first)) (append (loop_of C (tries_of body second)) outputs)) l
        (checked-append (loop_of U (tries_of body first)) (append (loop_of C (tries_of body second)) outputs) (loop-checked U (tries_of body first) (tries-checked body first b))
        (checked-append (loop_of C (tries_of body second)) outputs (loop-checked C (tries_of body second) (tries-checked body second b)) o))
