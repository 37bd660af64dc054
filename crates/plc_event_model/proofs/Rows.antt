-- What is written for choices: examples computed.
use Rattle.std.proofs.Common.{◌≡◌, ℕ, pos, true, false, [], ◌∷◌, Some, None, refl}
use Rattle.std.specs.Prelude.{codes, decimal}
use Rattle.std.specs.Fmt.{digits}
use Rattle.cif_base.specs.declared.types.Ty.TheVariants as cif_ty
use Rattle.cif_system.specs.System.{syncing, unc}
use Rattle.cif_net_expr.specs.Tree.{lt, NetExpr, net_expr, n_truth, n_number, n_received, n_var, n_loc, n_not, n_sum, n_compare, n_implies, no_net_terms, net_terms, NetUpdates, net_set, net_choose, no_net_updates, net_updates, no_net_update_branches, net_update_branches}
use Rattle.cif_net_model.specs.Net.{net_chan_of, Net}
use Rattle.cif_net_model.specs.Listing.{NetChoice}
use Rattle.st_ast.specs.Tree.{Stms, append, truth, number, named, complement, sum, order, all_of, exprs, no_exprs, terms, no_terms, assign, choice, no_stms, stms, no_branches, branches, no_other, other}
use Rattle.st_ast.specs.declared.tree.StOrder.TheVariants as cmp
use Rattle.st_ast.specs.declared.tree.StTy.TheVariants as ty
use Rattle.plc_frame.specs.Events.{done_face, event_text, marks_with, tested}
use Rattle.plc_expr.specs.Texts.{Naming}
use Rattle.plc_event_model.specs.Writes.{NewNames}
use Rattle.plc_event_model.specs.Acts.{act, stored}
use Rattle.plc_event_model.specs.Sends.{sends}
use Rattle.plc_event_model.specs.Events.{all_written}
use Rattle.plc_event_model.specs.Keeps.{asked, where_kept}
use Rattle.plc_event_model.specs.Own.{range_face}
use Rattle.plc_event_model.specs.Parts.{event_faces}

-- ---- a net with the variables count : int[0..10] and lamp : bool

n : Net
n = record {
  autos = [];
  events = [];
  inputs = [];
  vars = record { path = codes "count"; type_of = cif_ty.Int (pos 0) (pos 10); first = pos 0; literals = [] }
      ∷ record { path = codes "lamp"; type_of = cif_ty.Bool; first = pos 0; literals = [] } ∷ [];
  algs = [];
  exclusions = [];
  invariants = [];
}

w : Naming
w = record { located = λ a q. truth true; variable = λ k. 86 ∷ decimal k; input = λ k. 72 ∷ decimal k; received = codes "S"; own = λ k. 84 ∷ decimal k }

y : NewNames
y = record { in_range = codes "K"; next = λ v. 78 ∷ decimal v }

count : NetExpr
count = net_expr (n_var 0) 0

more : NetExpr
more = net_expr (n_sum count (net_terms false (net_expr (n_number (pos 1)) 0) no_net_terms)) 0

-- what follows the stores
rest : Stms
rest = stms (assign (codes "F") (truth true)) no_stms

-- ---- count := count + 1

abbrev steps : NetUpdates
steps = net_updates (net_set 0 more) no_net_updates

-- K := TRUE; N0 := V0 + 1; K := K AND 0 <= N0 AND N0 <= 10; IF K THEN V0 := N0; F := TRUE; END_IF
counted : act n w y 3 steps (stored w y steps rest)
    ≡ stms (assign (codes "K") (truth true))
    (stms (assign (codes "N0") (sum (named (codes "V0")) (terms false (number (pos 1)) no_terms)))
    (stms (assign (codes "K") (all_of (exprs (named (codes "K")) (exprs (order (number (pos 0)) cmp.Le (named (codes "N0"))) (exprs (order (named (codes "N0")) cmp.Le (number (pos 10))) no_exprs)))))
    (stms (choice (branches (named (codes "K")) (stms (assign (codes "V0") (named (codes "N0"))) rest) no_branches) no_other) no_stms)))
unfolding n w y count more rest digits
counted = refl

-- ---- lamp := not lamp

abbrev switches : NetUpdates
switches = net_updates (net_set 1 (net_expr (n_not (net_expr (n_var 1) 0)) 0)) no_net_updates

-- N1 := NOT V1; V1 := N1; F := TRUE
switched : act n w y 3 switches (stored w y switches rest)
    ≡ stms (assign (codes "N1") (complement (named (codes "V1")))) (stms (assign (codes "V1") (named (codes "N1"))) rest)
unfolding n w y rest digits
switched = refl

-- ---- no updates

idle : act n w y 3 no_net_updates (stored w y no_net_updates rest) ≡ rest
idle = refl

-- ---- if count < 5: count := count + 1 else lamp := not lamp end

below_five : NetExpr
below_five = net_expr (n_compare count lt (net_expr (n_number (pos 5)) 0)) 0

abbrev either : NetUpdates
either = net_updates (net_choose (net_update_branches below_five steps no_net_update_branches) switches) no_net_updates

-- K := TRUE; N0 := V0; N1 := V1; IF V0 < 5 THEN N0 := V0 + 1; K := .. ELSE N1 := NOT V1; END_IF; IF K THEN V0 := N0; V1 := N1; ..
chosen : act n w y 3 either (stored w y either rest)
    ≡ stms (assign (codes "K") (truth true))
    (stms (assign (codes "N0") (named (codes "V0")))
    (stms (assign (codes "N1") (named (codes "V1")))
    (stms (choice (branches (order (named (codes "V0")) cmp.Lt (number (pos 5)))
    (stms (assign (codes "N0") (sum (named (codes "V0")) (terms false (number (pos 1)) no_terms)))
    (stms (assign (codes "K") (all_of (exprs (named (codes "K")) (exprs (order (number (pos 0)) cmp.Le (named (codes "N0"))) (exprs (order (named (codes "N0")) cmp.Le (number (pos 10))) no_exprs)))))
    no_stms)) no_branches) (other (stms (assign (codes "N1") (complement (named (codes "V1")))) no_stms)))
    (stms (choice (branches (named (codes "K")) (stms (assign (codes "V0") (named (codes "N0"))) (stms (assign (codes "V1") (named (codes "N1"))) rest)) no_branches) no_other) no_stms))))
unfolding n w y count more below_five rest digits
chosen = refl

-- ---- state invariants: count < 5, a.second => lamp, and lamp, where an edge leads to a.second and count := count + 1

second_lit : NetExpr
second_lit = net_expr (n_implies (net_expr (n_loc 0 1) 0) (net_expr (n_var 1) 0)) 0

lit : NetExpr
lit = net_expr (n_var 1) 0

kept : Net
kept = record n {
  autos = record {
    path = codes "a";
    locs = codes "first" ∷ codes "second" ∷ [];
    first = 0;
    alphabet = 0 ∷ [];
    monitors = [];
    edges = record { event = 0; role = syncing; from = 0; to = 1; guard = net_expr (n_truth true) 0; sent = None; updates = steps; places = [] } ∷ [];
  } ∷ [];
  invariants = record { pred = below_five; at = 0 } ∷ record { pred = second_lit; at = 0 } ∷ record { pred = lit; at = 0 } ∷ [];
}

goes_on : NetChoice
goes_on = record { event = 0; moves = record { auto = 0; edge = Some 0 } ∷ []; test = net_expr (n_truth true) 0; sent = None; writes = steps; invariants = 0 ∷ 1 ∷ 2 ∷ [] }

-- the last one depends on nothing that changes
asked_two : asked kept goes_on ≡ below_five ∷ second_lit ∷ []
unfolding n kept goes_on count more below_five second_lit lit
asked_two = refl

-- K := TRUE; N0 := V0 + 1; K := ..; IF K THEN IF N0 < 5 AND V1 THEN V0 := N0; F := TRUE; END_IF; END_IF
kept_first : act kept w y 3 steps (where_kept kept w y 3 goes_on (stored w y steps rest))
    ≡ stms (assign (codes "K") (truth true))
    (stms (assign (codes "N0") (sum (named (codes "V0")) (terms false (number (pos 1)) no_terms)))
    (stms (assign (codes "K") (all_of (exprs (named (codes "K")) (exprs (order (number (pos 0)) cmp.Le (named (codes "N0"))) (exprs (order (named (codes "N0")) cmp.Le (number (pos 10))) no_exprs)))))
    (tested (named (codes "K"))
    (tested (all_of (exprs (order (named (codes "N0")) cmp.Lt (number (pos 5))) (exprs (named (codes "V1")) no_exprs)))
    (stms (assign (codes "V0") (named (codes "N0"))) rest)))))
unfolding n kept w y goes_on count more below_five second_lit lit rest digits
kept_first = refl

-- ---- what is sent

five : NetExpr
five = net_expr (n_number (pos 5)) 0

received : NetExpr
received = net_expr n_received 0

-- S := 5; IF 0 <= S AND S <= 9 THEN F := TRUE; END_IF
sent : sends w 3 (Some five) (Some (cif_ty.Int (pos 0) (pos 9))) rest
    ≡ stms (assign (codes "S") (number (pos 5)))
    (stms (choice (branches (all_of (exprs (order (number (pos 0)) cmp.Le (named (codes "S"))) (exprs (order (named (codes "S")) cmp.Le (number (pos 9))) no_exprs))) rest no_branches) no_other) no_stms)
unfolding w five rest
sent = refl

-- a boolean is in range by its kind: S := TRUE; F := TRUE
told : sends w 3 (Some (net_expr (n_truth true) 0)) (Some cif_ty.Bool) rest ≡ stms (assign (codes "S") (truth true)) rest
unfolding w rest
told = refl

-- over a void channel nothing is sent
void : sends w 3 None None rest ≡ rest
void = refl

-- ---- edge m!5, or edge m!4, with edge m? do count := ?

channel : Net
channel = record n { events = record { path = codes "m"; class = unc; chan = net_chan_of (cif_ty.Int (pos 0) (pos 9)) } ∷ [] }

sends_number : ℕ → NetChoice
sends_number z = record {
  event = 0;
  moves = [];
  test = net_expr (n_truth true) 0;
  sent = Some (net_expr (n_number (pos z)) 0);
  writes = net_updates (net_set 0 received) no_net_updates;
  invariants = [];
}

-- IF NOT D THEN IF TRUE THEN S := z; IF 0 <= S AND S <= 9 THEN K := TRUE; N0 := S; K := ..; IF K THEN V0 := N0; D := TRUE; ..
offered : ℕ → Stms
offered z =
    tested (complement (named (codes "D"))) (tested (truth true) (stms (assign (codes "S") (number (pos z)))
    (tested (all_of (exprs (order (number (pos 0)) cmp.Le (named (codes "S"))) (exprs (order (named (codes "S")) cmp.Le (number (pos 9))) no_exprs)))
    (stms (assign (codes "K") (truth true))
    (stms (assign (codes "N0") (named (codes "S")))
    (stms (assign (codes "K") (all_of (exprs (named (codes "K")) (exprs (order (number (pos 0)) cmp.Le (named (codes "N0"))) (exprs (order (named (codes "N0")) cmp.Le (number (pos 10))) no_exprs)))))
    (tested (named (codes "K")) (stms (assign (codes "V0") (named (codes "N0"))) (marks_with (codes "D"))))))))))

both_offered : event_text (codes "D") (all_written channel w y 3 (sends_number 5 ∷ sends_number 4 ∷ [])) ≡ stms (assign (codes "D") (truth false)) (append (offered 5) (offered 4))
unfolding n w y received channel sends_number offered digits
both_offered = refl

-- the own variables of the event: T2_done, T3_in_range, T4_new_count, T5_sent
own_faces : event_faces channel (sends_number 5 ∷ sends_number 4 ∷ [])
    ≡ done_face ∷ range_face ∷ record { path = codes "new_count"; ty = ty.Lint; first = pos 0 } ∷ record { path = codes "sent"; ty = ty.Lint; first = pos 0 } ∷ []
unfolding n received channel sends_number
own_faces = refl
