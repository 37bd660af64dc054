-- The steps of the loops over moves and over events.
use Rattle.std.proofs.Common.{◌≡◌, ℕ, ◌+◌, ◌<◌, ◌≤◌, Bool, true, false, List, ◌∷◌, ◌++◌, map, length, get_or, drop, sym, ap, ◌∙◌}
use Rattle.std.specs.Prelude.{if◌then◌else◌}
use Rattle.std.proofs.lemmas.List.{drop_more, drop_all}
use Rattle.cif_system.specs.System.{Class}
use Rattle.cif_system.specs.Step.{same_class}
use Rattle.cif_net_model.specs.Net as n
use Rattle.cif_net.specs.declared.events.Event.{Event}
use Rattle.cif_net.specs.declared.listing.Move.{Move}
use Rattle.cif_net.specs.View.{class_of, event_tree, move_tree}
use Rattle.st_ast.specs.Tree.{Stms, append, no_stms}
use Rattle.st_ast.specs.View.{view_stmts}
use Rattle.st_ast.specs.declared.tree.Stmt.{Stmt}
use Rattle.plc_frame.specs.Events.{move_text, moves_text}
use Rattle.plc_frame.specs.Tries.{class_bodies, first_body, other_bodies}
use Rattle.plc_frame.proofs.Building.{append-assoc, append-none, view_append}
use Rattle.plc_frame.proofs.TryLaws.{moves-next}

drop-item : {A : Type 0} (xs : List A) (i : ℕ) (x : A) → i < length xs → x ≡ get_or xs i x → drop i xs ≡ x ∷ drop (i + 1) xs
drop-item xs i x within item = drop_more xs i x within ∙ ap (λ y. y ∷ drop (i + 1) xs) (sym item)

-- ---- moves

-- the statements of a move go from what is left to what is done
pub moves-taken : (net : n.Net) (steps : List Move) (i : ℕ) (d : Move) (all one new : List Stmt) → i < length steps → view_stmts one ≡ move_text net (move_tree (get_or steps i d)) no_stms
    → new ≡ all ++ one → append (view_stmts new) (moves_text net (map move_tree (drop (i + 1) steps)) no_stms) ≡ append (view_stmts all) (moves_text net (map move_tree (drop i steps)) no_stms)
moves-taken net steps i d all one new within one_is new_is =
    let rest = moves_text net (map move_tree (drop (i + 1) steps)) no_stms in
    ap (λ (ss : List Stmt). append (view_stmts ss) rest) new_is
    ∙ ap (λ ss. append ss rest) (view_append all one)
    ∙ append-assoc (view_stmts all) (view_stmts one) rest
    ∙ ap (λ ss. append (view_stmts all) (append ss rest)) one_is
    ∙ ap (append (view_stmts all)) (moves-next net (move_tree (get_or steps i d)) (map move_tree (drop (i + 1) steps)))
    ∙ ap (λ (ms : List Move). append (view_stmts all) (moves_text net (map move_tree ms) no_stms)) (sym (drop_more steps i d within))

-- where no move is left, all is done
pub moves-done : (net : n.Net) (steps : List Move) (i : ℕ) (all : List Stmt) → length steps ≤ i
    → append (view_stmts all) (moves_text net (map move_tree (drop i steps)) no_stms) ≡ view_stmts all
moves-done net steps i all past =
    ap (λ (ms : List Move). append (view_stmts all) (moves_text net (map move_tree ms) no_stms)) (drop_all i steps past) ∙ append-none (view_stmts all)

-- ---- events

bodies-head : (k : Class) (es : List Event) (i : ℕ) (x : Event) (bodies : List Stms) (b : Bool) → i < length es → x ≡ get_or es i x → same_class k (class_of x.class) ≡ b
    → class_bodies k (map event_tree (drop i es)) bodies
    ≡ if b then append (first_body bodies) (class_bodies k (map event_tree (drop (i + 1) es)) (other_bodies bodies)) else class_bodies k (map event_tree (drop (i + 1) es)) (other_bodies bodies)
bodies-head k es i x bodies b within item is =
    ap (λ (xs : List Event). class_bodies k (map event_tree xs) bodies) (drop-item es i x within item)
    ∙ ap (λ t. if t then append (first_body bodies) (class_bodies k (map event_tree (drop (i + 1) es)) (other_bodies bodies)) else class_bodies k (map event_tree (drop (i + 1) es)) (other_bodies bodies)) is

-- the statements of an event of the class go from what is left to what is done
pub bodies-taken : (k : Class) (es : List Event) (i : ℕ) (x : Event) (all body new : List Stmt) (bodies rest : List Stms) → i < length es → x ≡ get_or es i x
    → same_class k (class_of x.class) ≡ true → view_stmts body ≡ first_body bodies → rest ≡ other_bodies bodies → new ≡ all ++ body
    → append (view_stmts new) (class_bodies k (map event_tree (drop (i + 1) es)) rest) ≡ append (view_stmts all) (class_bodies k (map event_tree (drop i es)) bodies)
bodies-taken k es i x all body new bodies rest within item is body_is rest_is new_is =
    ap (λ (ss : List Stmt). append (view_stmts ss) (class_bodies k (map event_tree (drop (i + 1) es)) rest)) new_is
    ∙ ap (λ ss. append ss (class_bodies k (map event_tree (drop (i + 1) es)) rest)) (view_append all body)
    ∙ append-assoc (view_stmts all) (view_stmts body) (class_bodies k (map event_tree (drop (i + 1) es)) rest)
    ∙ ap (λ ss. append (view_stmts all) (append ss (class_bodies k (map event_tree (drop (i + 1) es)) rest))) body_is
    ∙ ap (λ bs. append (view_stmts all) (append (first_body bodies) (class_bodies k (map event_tree (drop (i + 1) es)) bs))) rest_is
    ∙ ap (append (view_stmts all)) (sym (bodies-head k es i x bodies true within item is))

-- an event of another class is left out
pub bodies-left : (k : Class) (es : List Event) (i : ℕ) (x : Event) (all new : List Stmt) (bodies rest : List Stms) → i < length es → x ≡ get_or es i x
    → same_class k (class_of x.class) ≡ false → rest ≡ other_bodies bodies → new ≡ all
    → append (view_stmts new) (class_bodies k (map event_tree (drop (i + 1) es)) rest) ≡ append (view_stmts all) (class_bodies k (map event_tree (drop i es)) bodies)
bodies-left k es i x all new bodies rest within item is rest_is new_is =
    ap (λ (ss : List Stmt). append (view_stmts ss) (class_bodies k (map event_tree (drop (i + 1) es)) rest)) new_is
    ∙ ap (λ bs. append (view_stmts all) (class_bodies k (map event_tree (drop (i + 1) es)) bs)) rest_is
    ∙ ap (append (view_stmts all)) (sym (bodies-head k es i x bodies false within item is))

-- where no event is left, all is done
pub bodies-done : (k : Class) (es : List Event) (i : ℕ) (all : List Stmt) (bodies : List Stms) → length es ≤ i
    → append (view_stmts all) (class_bodies k (map event_tree (drop i es)) bodies) ≡ view_stmts all
bodies-done k es i all bodies past =
    ap (λ (xs : List Event). append (view_stmts all) (class_bodies k (map event_tree xs) bodies)) (drop_all i es past) ∙ append-none (view_stmts all)
