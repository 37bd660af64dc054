-- What expressions name is read from each memory that stands for a state and holds what is received, as it is in the state.
use Rattle.std.proofs.Common.{◌≡◌, ℕ, zero, suc, ◌+◌, ◌<◌, ℤ, pos, nat_eq, true, List, [], ◌∷◌, map, length, Option, Some, None, Ok, get_or, refl, sym, ap, ◌∙◌, arith}
use Rattle.std.specs.Prelude.{is_some, slice_get, slice_index_or, option_map}
use Rattle.std.specs.List.{AllByRecursion}
use Rattle.std.proofs.lemmas.Option.{slice_get-map}
use Rattle.grammar.specs.Pieces.{Text}
use Rattle.cif_base.specs.declared.types.Ty.{Ty}
use Rattle.cif_system.specs.System.{State}
use Rattle.cif_net_expr.specs.Tree.{NetExpr}
use Rattle.cif_net_model.specs.Net.{NetAuto, NetEdge, NetStored, Net}
use Rattle.cif_net_model.specs.Listing.{NetChoice}
use Rattle.cif_net_model.specs.Meaning.{system_of_net}
use Rattle.cif_net_model.specs.Reads.{Read, a_var, an_input, an_alg, a_place, the_received, names_in}
use Rattle.st_ast.specs.Tree.{Program, truth}
use Rattle.st_ast.specs.Names.{place_of}
use Rattle.st_ast.specs.Values.{Memory, of_bool, same_number, value_of}
use Rattle.plc_model.specs.declared.letter.Letter.TheVariants as letter
use Rattle.plc_model.specs.Names.{name_for}
use Rattle.plc_model.specs.Face.{StateOf, place_face}
use Rattle.plc_model.proofs.FaceLaws.{get_or-of}
use Rattle.plc_frame.specs.Faces.{auto_face, face_of_net, stored_face}
use Rattle.plc_frame.specs.Places.{is_in_place, place_name}
use Rattle.plc_frame.proofs.Making.{face-at}
use Rattle.plc_frame.proofs.Moving.{faces}
use Rattle.plc_frame.proofs.Writing.{hold-at}
use Rattle.plc_expr.specs.Held.{held_at, IsRead, IsThere, Reads}
use Rattle.plc_event_model.specs.Asked.{setting_of, Receives}
use Rattle.plc_event_model.specs.Keeps.{after_naming, taken_edge}
use Rattle.plc_event_model.specs.Own.{net_naming, input_name, variable_name}
use Rattle.plc_event_model.specs.Ready.{HoldsAfter, state_after}
use Rattle.plc_event_model.specs.Writes.{NewNames}
use Rattle.plc_event_model.proofs.Asking.{moved_to, place-after}
use Rattle.plc_event_model.proofs.Taking.{variable-at}

get-some : {A : Type 0} (xs : List A) (k : ℕ) → k < length xs → (a : A) × (slice_get xs k ≡ Some a)
get-some [] k h = absurd (omega (arith, h))
get-some (a ∷ xs) zero h = (a, refl)
get-some (a ∷ xs) (suc k) h = get-some xs k (omega (arith, h))

number-at : (ls : List ℕ) (k : ℕ) → get_or (map pos ls) k (pos 0) ≡ pos (slice_index_or ls k 0)
number-at [] k = refl
number-at (l ∷ ls) zero = refl
number-at (l ∷ ls) (suc k) = number-at ls k

module _ (n : Net) (p : Program) (received : Text) (s : State) (r : ℤ) (m : Memory) (st : StateOf (face_of_net n) (system_of_net n) p m s) where
  pub reads-place : (k : ℕ) → k < length n.autos → held_at p.vars m (place_name n k) ≡ pos (slice_index_or s.locs k 0)
  reads-place k h =
      let a = get-some n.autos k h in
      let zero-plus : 0 + k ≡ k = omega arith in
      let held = hold-at p letter.L m 0 (faces n.autos) (map pos s.locs) k (place_face (auto_face a.0)) st.places (face-at n.autos k a.0 a.1) in
      let name : place_name n k ≡ name_for letter.L (0 + k) a.0.path =
      ap (λ (o : Option NetAuto). name_for letter.L k (elim o [ None ↦ [] | Some b ↦ b.path ])) a.1 ∙ ap (λ j. name_for letter.L j a.0.path) (sym zero-plus) in
      ap (λ x. held_at p.vars m x) name
      ∙ get_or-of m (place_of p.vars (name_for letter.L (0 + k) a.0.path)) (get_or (map pos s.locs) k (pos 0)) (pos 0) held.holds
      ∙ number-at s.locs k

  pub reads-input : (k : ℕ) → k < length n.inputs → held_at p.vars m (input_name n k) ≡ slice_index_or s.ins k (pos 0)
  reads-input k h =
      let a = get-some n.inputs k h in
      let zero-plus : 0 + k ≡ k = omega arith in
      let held = hold-at p letter.H m 0 (face_of_net n).inputs s.ins k (stored_face a.0) st.inputs (slice_get-map stored_face n.inputs k ∙ ap (option_map stored_face) a.1) in
      let name : input_name n k ≡ name_for letter.H (0 + k) a.0.path =
      ap (λ (o : Option NetStored). name_for letter.H k (elim o [ None ↦ [] | Some b ↦ b.path ])) a.1 ∙ ap (λ j. name_for letter.H j a.0.path) (sym zero-plus) in
      ap (λ x. held_at p.vars m x) name
      ∙ get_or-of m (place_of p.vars (name_for letter.H (0 + k) a.0.path)) (slice_index_or s.ins k (pos 0)) (pos 0) held.holds

  pub reads-variable : (k : ℕ) → k < length n.vars → held_at p.vars m (variable_name n k) ≡ slice_index_or s.vals k (pos 0)
  reads-variable k h = let a = get-some n.vars k h in get_or-of m (place_of p.vars (variable_name n k)) (slice_index_or s.vals k (pos 0)) (pos 0) (variable-at n p s m k a.0 a.1 st).holds

  module _ (t : Option Ty) (got : Receives p.vars (net_naming n received) t r m) where
    reads-one : (x : Read) → IsThere n t x → IsRead p.vars (net_naming n received) (setting_of n s r) m x
    reads-one (a_var k) h = reads-variable k h
    reads-one (an_input k) h = reads-input k h
    reads-one (an_alg k) h = absurd h
    reads-one (a_place k) h = λ q. ap (λ z. Ok (of_bool (same_number z (pos q)))) (reads-place k h)
    reads-one the_received h = go t h got
      where
        go : (u : Option Ty) → is_some u ≡ true → Receives p.vars (net_naming n received) u r m → held_at p.vars m received ≡ r
        go None h g = absurd cc
        go (Some u) h g = g

    reads-all : (xs : List Read) → AllByRecursion (IsThere n t) xs → AllByRecursion (IsRead p.vars (net_naming n received) (setting_of n s r) m) xs
    reads-all [] all = tt
    reads-all (x ∷ xs) all = (reads-one x all.0, reads-all xs all.1)

    -- the names of an expression
    pub reads-named : (e : NetExpr) → AllByRecursion (IsThere n t) (names_in e) → Reads p.vars (net_naming n received) (setting_of n s r) m e
    reads-named e all = reads-all (names_in e) all

-- after a choice, from a memory that holds the values after it
module _ (n : Net) (p : Program) (received : Text) (y : NewNames) (c : NetChoice) (s : State) (m : Memory) (st : StateOf (face_of_net n) (system_of_net n) p m s)
    (holds : HoldsAfter n p (net_naming n received) y c s m) where
  abbrev IsReadAfter : Read → Type 0
  IsReadAfter x = IsRead p.vars (after_naming n (net_naming n received) y c) (setting_of n (state_after n c s) (pos 0)) m x

  after-one : (x : Read) → IsThere n None x → IsReadAfter x
  after-one (a_var k) h = holds k h
  after-one (an_input k) h = reads-input n p received s (pos 0) m st k h
  after-one (an_alg k) h = absurd h
  after-one the_received h = absurd cc
  after-one (a_place k) h = λ q. go q (taken_edge n c k) refl
    where
      place : (o : Option NetEdge) → taken_edge n c k ≡ o → slice_index_or (state_after n c s).locs k 0 ≡ moved_to (slice_index_or s.locs k 0) o
      place o e = place-after n c s st.is_state k ∙ ap (moved_to (slice_index_or s.locs k 0)) e

      go : (q : ℕ) (o : Option NetEdge) → taken_edge n c k ≡ o
          → value_of p.vars (elim o [ None ↦ is_in_place n k q | Some x ↦ truth (nat_eq x.to q) ]) m ≡ Ok (of_bool (nat_eq (slice_index_or (state_after n c s).locs k 0) q))
      go q None e = ap (λ z. Ok (of_bool (same_number z (pos q)))) (reads-place n p received s (pos 0) m st k h) ∙ ap (λ l. Ok (of_bool (nat_eq l q))) (sym (place None e))
      go q (Some x) e = ap (λ l. Ok (of_bool (nat_eq l q))) (sym (place (Some x) e))

  after-all : (xs : List Read) → AllByRecursion (IsThere n None) xs → AllByRecursion IsReadAfter xs
  after-all [] all = tt
  after-all (x ∷ xs) all = (after-one x all.0, after-all xs all.1)

  pub reads-after : (e : NetExpr) → AllByRecursion (IsThere n None) (names_in e) → Reads p.vars (after_naming n (net_naming n received) y c) (setting_of n (state_after n c s) (pos 0)) m e
  reads-after e all = after-all (names_in e) all
