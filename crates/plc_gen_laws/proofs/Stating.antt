-- The statements of an event break no check, where what is written for its choices breaks none.
use Rattle.std.proofs.Common.{◌≡◌, ℕ, suc, ◌+◌, pos, Bool, true, false, List, [], ◌∷◌, length, Option, Some, None, refl, sym, ap, ◌∙◌, arith}
use Rattle.std.specs.Prelude.{is_some, nat_lt, option_and_then, option_map, slice_get, if◌then◌else◌}
use Rattle.std.specs.List.{AllByRecursion}
use Rattle.std.proofs.lemmas.Bool.Decides.{nat_tests}
use Rattle.grammar.specs.Pieces.{Text}
use Rattle.cif_net_expr.specs.Tree.{NetExpr}
use Rattle.cif_net_model.specs.Net.{NetAuto, NetEdge, Net}
use Rattle.cif_net_model.specs.Listing.{NetMove, all_hold}
use Rattle.st_ast.specs.Tree.{Expr, truth, number, named, complement, Stms, Branches, assign, choice, no_stms, stms, append, no_branches, branches, no_other}
use Rattle.st_ast.specs.Names.{declared}
use Rattle.st_ast.specs.Checks.{Sort, boolean, integer, boolean_conditions, branches_faults, can_be_assigned, is_same_sort, knows, knows_conditions, sort_of, sort_of_type, stm_faults, stms_count}
use Rattle.st_ast.specs.declared.tree.StVar.{StVar}
use Rattle.st_ast.specs.declared.tree.StClass.TheVariants as class
use Rattle.st_ast.specs.declared.tree.StTy.TheVariants as ty
use Rattle.plc_model.specs.declared.letter.Letter.TheVariants as letter
use Rattle.plc_model.specs.Face.{IsDeclared, declaration, place_face}
use Rattle.plc_model.specs.Frame.{fired}
use Rattle.plc_model.proofs.FaceLaws.{declared-of}
use Rattle.plc_frame.specs.Faces.{auto_face}
use Rattle.plc_frame.specs.Places.{place_name}
use Rattle.plc_frame.specs.Events.{Written, all_bare, alone, chain, chain_branches, event_text, marks, marks_with, move_text, moves_text, needs_mark, parts_text, tested, unless_done}
use Rattle.plc_frame.proofs.Checking.{AllChecked, all-checked, checked-append}
use Rattle.plc_expr.specs.Sorts.{HasSort, OwnIs}
use Rattle.plc_expr.specs.Texts.{Naming, before, text}
use Rattle.plc_event_model.specs.Keeps.{where_hold}

two-more : (k : ℕ) → nat_lt 1 (suc (suc k)) ≡ true
two-more k = grind (arith, nat_tests)

module _ (vars : List StVar) where
  same-sort : (s : Sort) → is_same_sort (Some s) (Some s) ≡ true
  same-sort boolean = refl
  same-sort integer = refl

  assign-checked : (x : Text) (e : Expr) (v : StVar) → declared vars x ≡ Some v → knows vars e ≡ true → sort_of vars e ≡ Some (sort_of_type v.ty) → can_be_assigned (Some v) ≡ true
      → (k : ℕ) → stm_faults vars k (assign x e) ≡ []
  assign-checked x e v at kn so can k = let s = same-sort (sort_of_type v.ty) in rw (at, kn, so, s, can) refl

  -- a BOOL of the event's own
  flag-checked : (x : Text) (b : Bool) → OwnIs vars x ty.Bool → (k : ℕ) → stm_faults vars k (assign x (truth b)) ≡ []
  flag-checked x b own k = assign-checked x (truth b) own.variable own.is_declared refl (ap (λ t. Some (sort_of_type t)) (sym own.type_is)) own.can k

  flag-sort : (x : Text) → OwnIs vars x ty.Bool → HasSort vars (named x) true
  flag-sort x own = (ap is_some own.is_declared, ap (option_map (λ (v : StVar). sort_of_type v.ty)) own.is_declared ∙ ap (λ t. Some (sort_of_type t)) own.type_is)

  complement-sort : (e : Expr) → HasSort vars e true → HasSort vars (complement e) true
  complement-sort e h = (h.0, rw h.1 refl)

  -- a declared variable in VAR is one that can be assigned
  pub own-is : (x : Text) → IsDeclared vars x ty.Bool → OwnIs vars x ty.Bool
  own-is x h =
      let d = declared-of vars x ty.Bool h in
      record {
        variable = d.variable;
        is_declared = d.at;
        type_is = d.type_is;
        can = ap (λ c. elim c [ class.Plain ↦ true | class.Output ↦ true | class.Constant ↦ false | class.Input ↦ false ]) d.class_is;
      }

  -- ---- an IF

  record BranchesChecked (bs : Branches) : Type 0 where
    known : knows_conditions vars bs ≡ true
    are_boolean : boolean_conditions vars bs ≡ true
    no_faults : (j : ℕ) → branches_faults vars j bs ≡ []

  none-checked : BranchesChecked no_branches
  none-checked = record { known = refl; are_boolean = refl; no_faults = λ j. refl }

  branch-checked : (c : Expr) (ss : Stms) (bs : Branches) → HasSort vars c true → AllChecked vars ss → BranchesChecked bs → BranchesChecked (branches c ss bs)
  branch-checked c ss bs h clean b =
      let known = h.0 in let sort = h.1 in let p = b.known in let q = b.are_boolean in
      record {
        known = rw known p;
        are_boolean = rw sort q;
        no_faults = λ j. let f = all-checked vars j ss clean in rw f (b.no_faults (j + stms_count ss));
      }

  choice-checked : (bs : Branches) → BranchesChecked bs → AllChecked vars (stms (choice bs no_other) no_stms)
  choice-checked bs b = ((λ k. let p = b.known in let q = b.are_boolean in let f = b.no_faults (k + 1) in rw (p, q, f) refl), tt)

  tested-checked : (c : Expr) (ss : Stms) → HasSort vars c true → AllChecked vars ss → AllChecked vars (tested c ss)
  tested-checked c ss h clean = choice-checked (branches c ss no_branches) (branch-checked c ss no_branches h clean none-checked)

  -- where conditions hold
  pub where-checked : (w : Naming) (k : ℕ) (es : List NetExpr) (ss : Stms) → AllChecked vars (before w k (all_hold es)) → HasSort vars (text w k (all_hold es)) true → AllChecked vars ss → AllChecked vars (where_hold w k es ss)
  where-checked w k [] ss b h all = all
  where-checked w k (e ∷ es) ss b h all =
      checked-append vars (before w k (all_hold (e ∷ es))) (tested (text w k (all_hold (e ∷ es))) ss) b (tested-checked (text w k (all_hold (e ∷ es))) ss h all)

  -- ---- moves

  module _ (n : Net) (places : (k : ℕ) (a : NetAuto) → slice_get n.autos k ≡ Some a → declared vars (place_name n k) ≡ Some (declaration letter.L class.Plain (k, place_face (auto_face a)))) where
    move-checked : (m : NetMove) (ss : Stms) → AllChecked vars ss → AllChecked vars (move_text n m ss)
    move-checked m ss all = by-auto (slice_get n.autos m.auto) refl
      where
        by-edge : (a : NetAuto) → slice_get n.autos m.auto ≡ Some a → (o : Option NetEdge) → AllChecked vars (elim o [ None ↦ ss | Some x ↦ stms (assign (place_name n m.auto) (number (pos x.to))) ss ])
        by-edge a is None = all
        by-edge a is (Some x) =
            (assign-checked (place_name n m.auto) (number (pos x.to)) (declaration letter.L class.Plain (m.auto, place_face (auto_face a))) (places m.auto a is) refl refl refl, all)

        by-auto : (o : Option NetAuto) → slice_get n.autos m.auto ≡ o
            → AllChecked vars (elim (option_and_then (λ (a : NetAuto). option_and_then (slice_get a.edges) m.edge) o) [ None ↦ ss | Some x ↦ stms (assign (place_name n m.auto) (number (pos x.to))) ss ])
        by-auto None is = all
        by-auto (Some a) is = by-edge a is (option_and_then (slice_get a.edges) m.edge)

    pub moves-checked : (ms : List NetMove) (ss : Stms) → AllChecked vars ss → AllChecked vars (moves_text n ms ss)
    moves-checked [] ss all = all
    moves-checked (m ∷ ms) ss all = move-checked m (moves_text n ms ss) (moves-checked ms ss all)

  -- ---- events

  -- what is written for a choice
  pub record WrittenChecked (w : Written) : Type 0 where
    pub before : AllChecked vars w.before
    pub test : HasSort vars w.test true
    pub act : (rest : Stms) → AllChecked vars rest → AllChecked vars (w.act rest)

  module _ (mark : IsDeclared vars fired ty.Bool) where
    marks-checked : AllChecked vars marks
    marks-checked = (flag-checked fired true (own-is fired mark), tt)

    alone-checked : (w : Written) → WrittenChecked w → AllChecked vars (alone w)
    alone-checked w h = checked-append vars w.before (tested w.test (w.act marks)) h.before (tested-checked w.test (w.act marks) h.test (h.act marks marks-checked))

    chain-branches-checked : (ws : List Written) → AllByRecursion WrittenChecked ws → BranchesChecked (chain_branches ws)
    chain-branches-checked [] h = none-checked
    chain-branches-checked (w ∷ ws) h = branch-checked w.test (w.act marks) (chain_branches ws) h.0.test (h.0.act marks marks-checked) (chain-branches-checked ws h.1)

    chain-checked : (ws : List Written) → AllByRecursion WrittenChecked ws → AllChecked vars (chain ws)
    chain-checked ws h = choice-checked (chain_branches ws) (chain-branches-checked ws h)

    parts-checked : (done : Text) (ws : List Written) → OwnIs vars done ty.Bool → AllByRecursion WrittenChecked ws → AllChecked vars (parts_text done ws)
    parts-checked done [] own h = tt
    parts-checked done (w ∷ ws) own h =
        checked-append vars (unless_done done w) (parts_text done ws)
        (tested-checked (complement (named done)) (append w.before (tested w.test (w.act (marks_with done)))) (complement-sort (named done) (flag-sort done own))
        (checked-append vars w.before (tested w.test (w.act (marks_with done))) h.0.before
        (tested-checked w.test (w.act (marks_with done)) h.0.test (h.0.act (marks_with done) (flag-checked done true own, marks-checked)))))
        (parts-checked done ws own h.1)

    pub event-checked : (done : Text) (ws : List Written) → AllByRecursion WrittenChecked ws → (needs_mark ws ≡ true → OwnIs vars done ty.Bool) → AllChecked vars (event_text done ws)
    event-checked done [] h own = tt
    event-checked done (w ∷ []) h own = alone-checked w h.0
    event-checked done (w ∷ v ∷ ws) h own = go (all_bare (w ∷ v ∷ ws)) refl
      where
        go : (b : Bool) → all_bare (w ∷ v ∷ ws) ≡ b → AllChecked vars (if b then chain (w ∷ v ∷ ws) else stms (assign done (truth false)) (parts_text done (w ∷ v ∷ ws)))
        go true is = chain-checked (w ∷ v ∷ ws) h
        go false is =
            let d = own (ap (λ b. if b then false else nat_lt 1 (suc (suc (length ws)))) is ∙ two-more (length ws)) in
            (flag-checked done false d, parts-checked done (w ∷ v ∷ ws) d h)
