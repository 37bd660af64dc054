-- What code puts together are the parts of the frame.
use Rattle.std.proofs.Common.{◌≡◌, ℕ, zero, suc, ◌+◌, pos, Bool, true, false, List, [], ◌∷◌, map, filter, length, Option, Some, None, refl, sym, ap, ◌∙◌, arith}
use Rattle.std.specs.Prelude.{slice_get, if◌then◌else◌}
use Rattle.std.specs.List.{range_with_len}
use Rattle.cif_system.specs.System.{Class}
use Rattle.cif_system.specs.Step.{has_class, is_of, same_class}
use Rattle.cif_system.specs.Scan.{of_class}
use Rattle.cif_system.proofs.Lists.{map-length, none-some}
use Rattle.cif_net_model.specs.Net as n
use Rattle.cif_net_model.specs.Meaning.{event_in, system_of_net}
use Rattle.cif_net_model.specs.Listing.{NetMove}
use Rattle.st_ast.specs.Tree.{Stms, assign, number, no_stms, stms, append}
use Rattle.plc_model.specs.Frame.{Part, part_of, tries_of}
use Rattle.plc_frame.specs.Places.{place_name}
use Rattle.plc_frame.specs.Events.{move_text, moves_text, target_of}
use Rattle.plc_frame.specs.Tries.{class_bodies, first_body, other_bodies}

-- ---- moves

move-append : (x : n.Net) (m : NetMove) (a b : Stms) → append (move_text x m a) b ≡ move_text x m (append a b)
move-append x m a b = go (target_of x m)
  where
    go : (o : Option n.NetEdge) → append (elim o [ None ↦ a | Some y ↦ stms (assign (place_name x m.auto) (number (pos y.to))) a ]) b
        ≡ (elim o [ None ↦ append a b | Some y ↦ stms (assign (place_name x m.auto) (number (pos y.to))) (append a b) ])
    go None = refl
    go (Some y) = refl

-- moves and what follows them
pub moves_append : (x : n.Net) (ms : List NetMove) (ss : Stms) → append (moves_text x ms no_stms) ss ≡ moves_text x ms ss
moves_append x [] ss = refl
moves_append x (m ∷ ms) ss = move-append x m (moves_text x ms no_stms) ss ∙ ap (move_text x m) (moves_append x ms ss)

-- one move and those after it
pub moves-next : (x : n.Net) (m : NetMove) (ms : List NetMove) → append (move_text x m no_stms) (moves_text x ms no_stms) ≡ moves_text x (m ∷ ms) no_stms
moves-next x m ms = move-append x m no_stms (moves_text x ms no_stms)

-- ---- the bodies of all events

abbrev body_at : List Stms → ℕ → Stms
body_at bodies e = elim (slice_get bodies e) [ None ↦ no_stms | Some b ↦ b ]

first-at : (bodies : List Stms) → first_body bodies ≡ body_at bodies 0
first-at [] = refl
first-at (b ∷ bodies) = refl

other-at : (bodies : List Stms) (j : ℕ) → body_at (other_bodies bodies) j ≡ body_at bodies (suc j)
other-at [] j = refl
other-at (b ∷ bodies) j = refl

part-at : (parts : List Part) (e : ℕ) → body_at (map (λ (q : Part). q.body) parts) e ≡ (part_of parts e).body
part-at [] e = refl
part-at (q ∷ parts) zero = refl
part-at (q ∷ parts) (suc e) = part-at parts e

module _ (x : n.Net) where
  -- ---- the events of a class

  -- the events from the i-th on
  bodies-from : (body : ℕ → Stms) (k : Class) (i : ℕ) (es : List n.NetEvent) (bodies : List Stms) → ((j : ℕ) → slice_get x.events (i + j) ≡ slice_get es j)
      → ((j : ℕ) → body_at bodies j ≡ body (i + j)) → class_bodies k es bodies ≡ tries_of body (filter (is_of (system_of_net x) k) (range_with_len i (length es)))
  bodies-from body k i [] bodies at are = refl
  bodies-from body k i (e ∷ es) bodies at are =
      let m : i + 0 ≡ i = omega arith in
      let here : slice_get x.events i ≡ Some e = ap (slice_get x.events) (sym m) ∙ at 0 in
      let class : is_of (system_of_net x) k i ≡ same_class k e.class = ap (has_class k) (event-at x.events i e here) in
      let rest = bodies-from body k (i + 1) es (other_bodies bodies) (λ j. let q : i + 1 + j ≡ i + suc j = omega arith in ap (slice_get x.events) q ∙ at (suc j))
      (λ j. let q : i + suc j ≡ i + 1 + j = omega arith in other-at bodies j ∙ are (suc j) ∙ ap body q) in
      go (same_class k e.class) (first-at bodies ∙ are 0 ∙ ap body m) rest
      ∙ ap (λ t. tries_of body (if t then i ∷ filter (is_of (system_of_net x) k) (range_with_len (i + 1) (length es)) else filter (is_of (system_of_net x) k) (range_with_len (i + 1) (length es)))) (sym class)
    where
      event-at : (xs : List n.NetEvent) (j : ℕ) (y : n.NetEvent) → slice_get xs j ≡ Some y → slice_get (map event_in xs) j ≡ Some (event_in y)
      event-at [] j y h = absurd (none-some y h)
      event-at (z ∷ xs) zero y h = ap (λ (o : Option n.NetEvent). elim o [ None ↦ None | Some w ↦ Some (event_in w) ]) h
      event-at (z ∷ xs) (suc j) y h = event-at xs j y h

      go : (t : Bool) → first_body bodies ≡ body i
          → class_bodies k es (other_bodies bodies) ≡ tries_of body (filter (is_of (system_of_net x) k) (range_with_len (i + 1) (length es)))
          → (if t then append (first_body bodies) (class_bodies k es (other_bodies bodies)) else class_bodies k es (other_bodies bodies))
          ≡ tries_of body (if t then i ∷ filter (is_of (system_of_net x) k) (range_with_len (i + 1) (length es)) else filter (is_of (system_of_net x) k) (range_with_len (i + 1) (length es)))
      go true p q = ap (λ ss. append ss (class_bodies k es (other_bodies bodies))) p ∙ ap (append (body i)) q
      go false p q = q

  -- the statements of a class are those of the frame
  pub bodies-are : (parts : List Part) (k : Class)
      → class_bodies k x.events (map (λ (q : Part). q.body) parts) ≡ tries_of (λ e. (part_of parts e).body) (of_class (system_of_net x) k)
  bodies-are parts k =
      bodies-from (λ e. (part_of parts e).body) k 0 x.events (map (λ (q : Part). q.body) parts) (λ j. ap (slice_get x.events) (omega arith))
      (λ j. part-at parts j ∙ ap (λ i. (part_of parts i).body) (omega arith))
      ∙ ap (λ len. tries_of (λ e. (part_of parts e).body) (filter (is_of (system_of_net x) k) (range_with_len 0 len))) (sym (map-length event_in x.events))
