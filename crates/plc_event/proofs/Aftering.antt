-- Names that become those after a choice, and then those before it again.
use Rattle.std.proofs.Common.{◌≡◌, ◌≢◌, ℕ, ◌+◌, ◌<◌, ◌≤◌, Bool, true, false, ◌||◌, List, [], ◌∷◌, map, length, nat_eq, get_or, drop, Option, Some, None, slice_get, slice_set, refl, sym, ap, ap₂, subst, ◌∙◌, arith, if◌then◌else◌}
use Rattle.std.specs.Prelude.{option_map}
use Rattle.std.proofs.lemmas.Bool.Decides.{nat_tests}
use Rattle.std.proofs.lemmas.List.{drop_all, drop_more}
use Rattle.grammar.specs.Pieces.{Text}
use Rattle.cif_net_model.specs.Facts.{has}
use Rattle.cif_net_model.specs.Listing.{NetMove, NetChoice}
use Rattle.cif_net_model.specs.Net.{NetEdge, Net}
use Rattle.cif_net_model.specs.Reads.{Read, a_var, an_input, an_alg, a_place, the_received}
use Rattle.cif_net.specs.View.{move_tree}
use Rattle.cif_net.specs.declared.listing.Move.{Move}
use Rattle.st_ast.specs.Tree.{truth}
use Rattle.plc_model.specs.declared.letter.Letter.TheVariants as letter
use Rattle.plc_model.specs.Names.{name_for}
use Rattle.plc_model.proofs.FaceLaws.{slice_get-set_same, slice_get-set_other}
use Rattle.plc_frame.specs.Events.{target_of}
use Rattle.plc_expr.specs.Written.{located_text, name_at, naming_of}
use Rattle.plc_expr.specs.declared.names.Names.{Names}
use Rattle.plc_expr.specs.declared.names.PlaceText.{PlaceText}
use Rattle.plc_event_model.specs.Keeps.{after_naming, located_after, taken_edge}
use Rattle.plc_event_model.specs.Writes.{NewNames}
use Rattle.plc_expr_walk.specs.Alike.{IsAlike}
use Rattle.plc_expr_walk.proofs.Joining.{drop-item}
use Rattle.plc_event.specs.After.{AreAfter, moved_to, place_by}
use Rattle.plc_event.specs.Moved.{taken_by}
use Rattle.plc_event.proofs.Changing.{none-taken, taken-first}

-- ---- one place of a table

module _ {A : Type 0} (xs : List A) (at : ℕ) (x : A) (within : at < length xs) where
  pub set-at : (j : ℕ) → slice_get (slice_set xs at x) j ≡ (if nat_eq j at then Some x else slice_get xs j)
  set-at j = go (nat_eq j at) refl
    where
      go : (b : Bool) → nat_eq j at ≡ b → slice_get (slice_set xs at x) j ≡ (if b then Some x else slice_get xs j)
      go true is = let same : j ≡ at = grind (arith, nat_tests) in ap (λ i. slice_get (slice_set xs at x) i) same ∙ slice_get-set_same xs at x within
      go false is = let other : j ≢ at = grind (arith, nat_tests) in slice_get-set_other xs at j x other

abbrev name_in : Option Text → Text
name_in o = elim o [ None ↦ [] | Some x ↦ x ]

pub name-taken : (from old new : List Text) (at : ℕ) (x : Text) → at < length old → Some x ≡ slice_get from at → new ≡ slice_set old at x
    → (v : ℕ) → name_at new v ≡ (if nat_eq v at then name_at from v else name_at old v)
name-taken from old new at x within there is v =
    ap (λ xs. name_at xs v) is ∙ ap name_in (set-at old at x within v) ∙ go (nat_eq v at) refl
  where
    go : (b : Bool) → nat_eq v at ≡ b → name_in (if b then Some x else slice_get old v) ≡ (if b then name_at from v else name_at old v)
    go true same = let e : at ≡ v = grind (arith, nat_tests) in ap name_in there ∙ ap (name_at from) e
    go false other = refl

pub place-set : (to : Option ℕ) (before old new : List PlaceText) (at : ℕ) (x : PlaceText) → at < length old → Some x ≡ moved_to to (slice_get before at) → new ≡ slice_set old at x
    → (j : ℕ) → slice_get new j ≡ (if nat_eq j at then moved_to to (slice_get before j) else slice_get old j)
place-set to before old new at x within there is j =
    ap (λ (xs : List PlaceText). slice_get xs j) is ∙ set-at old at x within j ∙ go (nat_eq j at) refl
  where
    go : (b : Bool) → nat_eq j at ≡ b → (if b then Some x else slice_get old j) ≡ (if b then moved_to to (slice_get before j) else slice_get old j)
    go true same = let e : at ≡ j = grind (arith, nat_tests) in there ∙ ap (λ i. moved_to to (slice_get before i)) e
    go false other = refl

-- ---- names of variables

-- what is taken over, and what is left, are all
pub names-taken : (xs : List ℕ) (i x : ℕ) → i < length xs → x ≡ get_or xs i x → (from first old new : List Text)
    → ((v : ℕ) → name_at new v ≡ (if nat_eq v x then name_at from v else name_at old v))
    → ((v : ℕ) → (if has (drop i xs) v then name_at from v else name_at old v) ≡ (if has xs v then name_at from v else name_at first v))
    → (v : ℕ) → (if has (drop (i + 1) xs) v then name_at from v else name_at new v) ≡ (if has xs v then name_at from v else name_at first v)
names-taken xs i x within item from first old new one before v =
    ap (λ t. if has (drop (i + 1) xs) v then name_at from v else t) (one v)
    ∙ turn (has (drop (i + 1) xs) v) (nat_eq v x)
    ∙ ap (λ ys. if has ys v then name_at from v else name_at old v) (sym (drop-item xs i x within item))
    ∙ before v
  where
    turn : (a b : Bool) → (if a then name_at from v else (if b then name_at from v else name_at old v)) ≡ (if b || a then name_at from v else name_at old v)
    turn true true = refl
    turn true false = refl
    turn false true = refl
    turn false false = refl

pub names-done : (xs : List ℕ) (i : ℕ) (from first new : List Text) → length xs ≤ i
    → ((v : ℕ) → (if has (drop i xs) v then name_at from v else name_at new v) ≡ (if has xs v then name_at from v else name_at first v))
    → (v : ℕ) → name_at new v ≡ (if has xs v then name_at from v else name_at first v)
names-done xs i from first new past all v = ap (λ ys. if has ys v then name_at from v else name_at new v) (sym (drop_all i xs past)) ∙ all v

-- new names of the variables that are assigned, and those before again
module _ (next names old new : List Text) (vs ts : List ℕ) (same : vs ≡ ts) where
  pub variables-begun : ((v : ℕ) → name_at old v ≡ name_at names v) → ((v : ℕ) → name_at new v ≡ (if has vs v then name_at next v else name_at old v))
      → (v : ℕ) → name_at new v ≡ (if has ts v then name_at next v else name_at names v)
  variables-begun before taken v = taken v ∙ ap₂ (λ xs x. if has xs v then name_at next v else x) same (before v)

  pub variables-ended : ((v : ℕ) → name_at old v ≡ (if has ts v then name_at next v else name_at names v)) → ((v : ℕ) → name_at new v ≡ (if has vs v then name_at names v else name_at old v))
      → (v : ℕ) → name_at new v ≡ name_at names v
  variables-ended after taken v = taken v ∙ ap₂ (λ xs x. if has xs v then name_at names v else x) same (after v) ∙ go (has ts v)
    where
      go : (b : Bool) → (if b then name_at names v else (if b then name_at next v else name_at names v)) ≡ name_at names v
      go true = refl
      go false = refl

-- ---- places

module _ (n : Net) where
  place-first : (before : List PlaceText) (m : NetMove) (ms : List NetMove) (j : ℕ)
      → place_by n (m ∷ ms) before j ≡ (if nat_eq j m.auto then moved_to (option_map (λ (x : NetEdge). x.to) (target_of n m)) (slice_get before j) else place_by n ms before j)
  place-first before m ms j =
      ap (λ (o : Option NetEdge). moved_to (option_map (λ (x : NetEdge). x.to) o) (slice_get before j)) (taken-first n m ms j) ∙ inside (nat_eq j m.auto)
    where
      inside : (b : Bool) → moved_to (option_map (λ (x : NetEdge). x.to) (if b then target_of n m else taken_by n ms j)) (slice_get before j)
          ≡ (if b then moved_to (option_map (λ (x : NetEdge). x.to) (target_of n m)) (slice_get before j) else place_by n ms before j)
      inside true = refl
      inside false = refl

  pub nothing-moved : (moves : List Move) (before places : List PlaceText) → ((j : ℕ) → slice_get places j ≡ slice_get before j)
      → (j : ℕ) → slice_get places j ≡ place_by n (map move_tree (drop (length moves) moves)) before j
  nothing-moved moves before places same j =
      let past : length moves ≤ length moves = omega arith in
      same j
      ∙ ap (λ (o : Option NetEdge). moved_to (option_map (λ (x : NetEdge). x.to) o) (slice_get before j)) (sym (none-taken n j))
      ∙ ap (λ (ms : List Move). place_by n (map move_tree ms) before j) (sym (drop_all (length moves) moves past))

  pub place-moved : (moves : List Move) (i k : ℕ) (d : Move) → i < length moves → k ≡ i + 1 → (to : Option ℕ) → to ≡ option_map (λ (y : NetEdge). y.to) (target_of n (move_tree (get_or moves i d)))
      → (before old new : List PlaceText) → ((j : ℕ) → slice_get new j ≡ (if nat_eq j (get_or moves i d).auto then moved_to to (slice_get before j) else slice_get old j))
      → ((j : ℕ) → slice_get old j ≡ place_by n (map move_tree (drop k moves)) before j)
      → (j : ℕ) → slice_get new j ≡ place_by n (map move_tree (drop i moves)) before j
  place-moved moves i k d within after to to_is before old new one rest j =
      let x = get_or moves i d in
      one j
      ∙ ap (λ t. if nat_eq j x.auto then moved_to t (slice_get before j) else slice_get old j) to_is
      ∙ ap (λ (o : Option PlaceText). if nat_eq j x.auto then moved_to (option_map (λ (y : NetEdge). y.to) (target_of n (move_tree x))) (slice_get before j) else o)
      (rest j ∙ ap (λ l. place_by n (map move_tree (drop l moves)) before j) after)
      ∙ sym (place-first before (move_tree x) (map move_tree (drop (i + 1) moves)) j)
      ∙ ap (λ (ms : List Move). place_by n (map move_tree ms) before j) (sym (drop_more moves i d within))

  -- an automaton in none of these moves
  abbrev pub is_idle : List Move → ℕ → Type 0
  is_idle [] j = Unit {0}
  is_idle (m ∷ ms) j = (nat_eq j m.auto ≡ false) × is_idle ms j

  idle-stays : (moves : List Move) (before : List PlaceText) (j : ℕ) → is_idle moves j → place_by n (map move_tree moves) before j ≡ slice_get before j
  idle-stays [] before j idle = ap (λ (o : Option NetEdge). moved_to (option_map (λ (x : NetEdge). x.to) o) (slice_get before j)) (none-taken n j)
  idle-stays (m ∷ ms) before j idle =
      place-first before (move_tree m) (map move_tree ms) j
      ∙ ap (λ b. if b then moved_to (option_map (λ (x : NetEdge). x.to) (target_of n (move_tree m))) (slice_get before j) else place_by n (map move_tree ms) before j) idle.0
      ∙ idle-stays ms before j idle.1

  -- the places of those that are in none of the moves that are left are as before
  abbrev pub ResetSoFar : List Move → ℕ → List PlaceText → List PlaceText → Type 0
  ResetSoFar moves i before places = (j : ℕ) → is_idle (drop i moves) j → slice_get places j ≡ slice_get before j

  pub reset-begun : (moves : List Move) (before places : List PlaceText) → ((j : ℕ) → slice_get places j ≡ place_by n (map move_tree moves) before j) → ResetSoFar moves 0 before places
  reset-begun moves before places all j idle = all j ∙ idle-stays moves before j idle

  pub reset-more : (moves : List Move) (i : ℕ) (d : Move) → i < length moves → (before old new : List PlaceText)
      → ((j : ℕ) → slice_get new j ≡ (if nat_eq j (get_or moves i d).auto then slice_get before j else slice_get old j)) → ResetSoFar moves i before old → ResetSoFar moves (i + 1) before new
  reset-more moves i d within before old new one rest j idle = go (nat_eq j (get_or moves i d).auto) refl (one j)
    where
      go : (b : Bool) → nat_eq j (get_or moves i d).auto ≡ b → slice_get new j ≡ (if b then slice_get before j else slice_get old j) → slice_get new j ≡ slice_get before j
      go true is e = e
      go false is e = e ∙ rest j (subst (λ (ms : List Move). is_idle ms j) (sym (drop_more moves i d within)) (is, idle))

  pub reset-done : (moves : List Move) (i : ℕ) (before places : List PlaceText) → length moves ≤ i → ResetSoFar moves i before places → (j : ℕ) → slice_get places j ≡ slice_get before j
  reset-done moves i before places past all j = all j (subst (λ (ms : List Move). is_idle ms j) (sym (drop_all i moves past)) tt)

-- ---- all names

module _ (n : Net) (names : Names) (y : NewNames) (c : NetChoice) (x : Names) (after : AreAfter n names y c x) where
  located-alike : (k p : ℕ) → located_text (slice_get x.places k) p ≡ located_after n (naming_of names) c k p
  located-alike k p = ap (λ (o : Option PlaceText). located_text o p) (after.places k) ∙ go (taken_edge n c k)
    where
      go : (o : Option NetEdge) → located_text (moved_to (option_map (λ (e : NetEdge). e.to) o) (slice_get names.places k)) p
          ≡ (elim o [ None ↦ (naming_of names).located k p | Some e ↦ truth (nat_eq e.to p) ])
      go None = refl
      go (Some e) = refl

  -- they name alike what the naming after the choice names
  pub all-alike : (q : Read) → IsAlike (naming_of x) (after_naming n (naming_of names) y c) q
  all-alike (a_var v) = after.variables v
  all-alike (an_input k) = ap (λ xs. name_at xs k) after.inputs
  all-alike (an_alg k) = tt
  all-alike (a_place k) = λ p. located-alike k p
  all-alike the_received = after.received

  pub own-after : (k : ℕ) → (naming_of x).own k ≡ (after_naming n (naming_of names) y c).own k
  own-after k = ap (name_for letter.T k) after.own
