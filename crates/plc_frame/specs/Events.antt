-- The statements of an event: the first of its choices whose test holds and whose values and invariants allow it is taken.
use Rattle.std.specs.Prelude.{ℕ, pos, Bool, true, false, nat_lt, List, [], ◌∷◌, length, filter, nat_eq, Option, Some, None, option_and_then, slice_get, codes, if◌then◌else◌}
use Rattle.std.specs.List.{list_all}
use Rattle.grammar.specs.Pieces.{Text}
use Rattle.cif_net_model.specs.Net.{NetEdge, NetAuto, Net}
use Rattle.cif_net_model.specs.Listing.{NetMove, NetChoice}
use Rattle.st_ast.specs.Tree.{Expr, truth, number, named, complement, Stms, Branches, assign, choice, no_stms, stms, append, no_branches, branches, no_other}
use Rattle.st_ast.specs.declared.tree.StTy.TheVariants as ty
use Rattle.plc_model.specs.declared.letter.Letter.TheVariants as letter
use Rattle.plc_model.specs.Names.{name_for}
use Rattle.plc_model.specs.Face.{VariableFace}
use Rattle.plc_model.specs.Frame.{fired}
use Rattle.plc_frame.specs.Places.{place_name}

-- ---- what is written for a choice

-- What stands before its test, the test, and what it does where the test holds, round the marks of a step. It is bare where
-- nothing stands before the test, and the test alone says whether there is a step.
pub record Written : Type 0 where
  pub before : Stms
  pub test : Expr
  pub act : Stms → Stms
  pub is_bare : Bool

-- where the move's edge leads
abbrev pub target_of : Net → NetMove → Option NetEdge
target_of n m = option_and_then (λ (a : NetAuto). option_and_then (slice_get a.edges) m.edge) (slice_get n.autos m.auto)

abbrev pub move_text : Net → NetMove → Stms → Stms
move_text n m ss = elim (target_of n m) [ None ↦ ss | Some x ↦ stms (assign (place_name n m.auto) (number (pos x.to))) ss ]

-- the moves, and then other statements
abbrev pub moves_text : Net → List NetMove → Stms → Stms
moves_text n [] ss = ss
moves_text n (m ∷ ms) ss = move_text n m (moves_text n ms ss)

-- ---- statements

abbrev pub tested : Expr → Stms → Stms
tested test ss = stms (choice (branches test ss no_branches) no_other) no_stms

-- something fired
abbrev pub marks : Stms
marks = stms (assign fired (truth true)) no_stms

-- a choice of the event was made, too
abbrev pub marks_with : Text → Stms
marks_with done = stms (assign done (truth true)) marks

abbrev pub alone : Written → Stms
alone w = append w.before (tested w.test (w.act marks))

abbrev pub chain_branches : List Written → Branches
chain_branches [] = no_branches
chain_branches (w ∷ ws) = branches w.test (w.act marks) (chain_branches ws)

abbrev pub chain : List Written → Stms
chain ws = stms (choice (chain_branches ws) no_other) no_stms

-- the choice, where none before it was made
abbrev pub unless_done : Text → Written → Stms
unless_done done w = tested (complement (named done)) (append w.before (tested w.test (w.act (marks_with done))))

abbrev pub parts_text : Text → List Written → Stms
parts_text done [] = no_stms
parts_text done (w ∷ ws) = append (unless_done done w) (parts_text done ws)

abbrev pub all_bare : List Written → Bool
all_bare ws = list_all (λ (w : Written). w.is_bare) ws

-- several choices of which one is not bare need a mark of the event's own
abbrev pub needs_mark : List Written → Bool
needs_mark ws = if all_bare ws then false else nat_lt 1 (length ws)

-- no statement without a choice
abbrev pub event_text : Text → List Written → Stms
event_text done [] = no_stms
event_text done (w ∷ []) = alone w
event_text done (w ∷ v ∷ ws) =
    if all_bare (w ∷ v ∷ ws) then chain (w ∷ v ∷ ws) else stms (assign done (truth false)) (parts_text done (w ∷ v ∷ ws))

-- ---- variables of its own

abbrev pub done_face : VariableFace
done_face = record { path = codes "done"; ty = ty.Bool; first = pos 0 }

abbrev pub own_name : ℕ × VariableFace → Text
own_name (k, x) = name_for letter.T k x.path

-- ---- the choices of an event

abbrev pub choices_of : List NetChoice → ℕ → List NetChoice
choices_of cs e = filter (λ (c : NetChoice). nat_eq c.event e) cs
