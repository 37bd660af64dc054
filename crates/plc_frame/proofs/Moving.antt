-- What the moves of a choice do: each automaton whose edge is taken goes to the end of that edge.
use Rattle.std.proofs.Common.{◌≡◌, ℕ, zero, suc, ◌+◌, ◌-◌, ◌^◌, ◌<◌, ◌≤◌, pos, Bool, true, false, List, [], ◌∷◌, map, length, filter_map, zip, Option, Some, None, option_and_then, inr, refl, sym, ap, subst, ◌∙◌, arith, le-leb}
use Rattle.std.specs.Prelude.{IsTrue, slice_get, slice_set, slice_index_or, if◌then◌else◌}
use Rattle.std.specs.List.{AllZip, cons_option, enumerate_from}
use Rattle.grammar.specs.Pieces.{Text}
use Rattle.cif_system.specs.System.{State, in_range}
use Rattle.cif_system.specs.Step.{Choice, new_place}
use Rattle.cif_system.proofs.Lists.{none-some}
use Rattle.cif_net_model.specs.Net.{NetAuto, NetEdge, Net}
use Rattle.cif_net_model.specs.Meaning.{edge_meant, automaton_in}
use Rattle.cif_net_model.specs.Listing.{NetMove, move_if, edge_at, syncs_on}
use Rattle.st_ast.specs.Tree.{Program, Stms, number, assign, stms}
use Rattle.st_ast.specs.Names.{same_name, place_of}
use Rattle.st_ast.specs.Values.{Memory}
use Rattle.st_ast.specs.Exec.{exec, is_within}
use Rattle.st_ast.specs.declared.tree.StVar.{StVar}
use Rattle.st_ast.specs.declared.tree.StTy.TheVariants as ty
use Rattle.st_ast.proofs.Runs.{cons_runs, assign_runs}
use Rattle.plc_model.specs.declared.letter.Letter.TheVariants as letter
use Rattle.plc_model.specs.Names.{name_for}
use Rattle.plc_model.specs.Face.{VariableFace, HoldsAt, place_face, range_of}
use Rattle.plc_model.specs.Frame.{WritesOnly}
use Rattle.plc_model.proofs.NameLaws.{names-differ}
use Rattle.plc_model.proofs.FaceLaws.{slice_get-set_same, slice_get-set_other, below, pairwise-length, places-differ, declared-of, declared-type, Typed, typed-written}
use Rattle.plc_frame.specs.Faces.{auto_face}
use Rattle.plc_frame.specs.Places.{place_name}
use Rattle.plc_frame.specs.Events.{moves_text}
use Rattle.plc_frame.proofs.Writing.{Among, AllAmong, writes-none, writes-then, writes-one, hold-set}

-- the faces of places
abbrev pub faces : List NetAuto → List VariableFace
faces autos = map place_face (map auto_face autos)

-- each edge ends in a place of its automaton
abbrev pub EndsWithin : Net → Type 0
EndsWithin n = (k : ℕ) (a : NetAuto) → slice_get n.autos k ≡ Some a → (j : ℕ) (x : NetEdge) → slice_get a.edges j ≡ Some x → x.to < length a.locs

-- an edge that is taken is one of the automaton's
pub edge_stands : (a : NetAuto) (o : Option ℕ) (x : NetEdge) → edge_at (a, o) ≡ Some x → (j : ℕ) × (slice_get a.edges j ≡ Some x)
edge_stands a None x h = absurd (none-some x h)
edge_stands a (Some j) x h = (j, h)

module _ (n : Net) (p : Program) (s : State) (e : ℕ) (ss : Stms) (names : List Text) where
  -- the moves from the i-th automaton on
  abbrev moves_from : ℕ → List NetAuto → Choice → List NetMove
  moves_from i autos ch = filter_map (move_if e) (zip (enumerate_from i autos) ch)

  abbrev text_from : ℕ → List NetAuto → Choice → Stms
  text_from i autos ch = moves_text n (moves_from i autos ch) ss

  abbrev places_after : ℕ → List NetAuto → Choice → List ℕ
  places_after i autos ch = map (new_place s) (zip (enumerate_from i (map (automaton_in n) autos)) ch)

  -- the statement of one move, if it has one
  abbrev moving : ℕ → Option NetEdge → Stms → Stms
  moving i None rest = rest
  moving i (Some x) rest = stms (assign (place_name n i) (number (pos x.to))) rest

  one-text : (i : ℕ) (a : NetAuto) (autos : List NetAuto) (o : Option ℕ) (ch : Choice) → slice_get n.autos i ≡ Some a
      → text_from i (a ∷ autos) (o ∷ ch) ≡ moving i (edge_at (a, o)) (text_from (i + 1) autos ch)
  one-text i a autos (Some j) ch at =
      ap (λ (r : Option NetAuto). elim (option_and_then (λ (b : NetAuto). option_and_then (slice_get b.edges) (Some j)) r) [ None ↦ text_from (i + 1) autos ch | Some x ↦ stms (assign (place_name n i) (number (pos x.to))) (text_from (i + 1) autos ch) ]) at
      ∙ go (slice_get a.edges j)
    where
      go : (t : Option NetEdge) → (elim t [ None ↦ text_from (i + 1) autos ch | Some x ↦ stms (assign (place_name n i) (number (pos x.to))) (text_from (i + 1) autos ch) ]) ≡ moving i t (text_from (i + 1) autos ch)
      go None = refl
      go (Some x) = refl
  one-text i a autos None ch at = go (syncs_on e a)
    where
      go : (b : Bool) → moves_text n (cons_option (if b then Some (record { auto = i; edge = None }) else None) (moves_from (i + 1) autos ch)) ss ≡ text_from (i + 1) autos ch
      go true = ap (λ (r : Option NetAuto). elim (option_and_then (λ (b : NetAuto). option_and_then (slice_get b.edges) None) r) [ None ↦ text_from (i + 1) autos ch | Some x ↦ stms (assign (place_name n i) (number (pos x.to))) (text_from (i + 1) autos ch) ]) at
      go false = refl

  -- where the automaton is then
  abbrev place_then : ℕ → Option NetEdge → ℕ
  place_then i None = slice_index_or s.locs i 0
  place_then i (Some x) = x.to

  one-place : (i : ℕ) (a : NetAuto) (o : Option ℕ) → new_place s ((i, automaton_in n a), o) ≡ place_then i (edge_at (a, o))
  one-place i a None = refl
  one-place i a (Some j) = go a.edges j
    where
      go : (xs : List NetEdge) (j : ℕ) → new_place s ((i, record (automaton_in n a) { edges = map (edge_meant n) xs }), Some j) ≡ place_then i (slice_get xs j)
      go [] j = refl
      go (x ∷ xs) zero = refl
      go (x ∷ xs) (suc j) = go xs j

  -- what the moves from the i-th automaton on come to
  pub record Moved (i : ℕ) (autos : List NetAuto) (ch : Choice) (k : ℕ) (m : Memory) : Type 0 where
    pub after : Memory
    pub ends : exec p.vars (text_from i autos ch) k m ≡ exec p.vars ss k after
    pub typed : Typed p.vars after
    pub hold : AllZip (HoldsAt p after letter.L) (enumerate_from i (faces autos)) (map pos (places_after i autos ch))
    pub writes : WritesOnly names p.vars m after
    pub others : (y : Text) → ((j : ℕ) (path : Text) → i ≤ j → j < 2 ^ 64 → same_name (name_for letter.L j path) y ≡ false) → slice_get after (place_of p.vars y) ≡ slice_get m (place_of p.vars y)

  place_fits : (k places : ℕ) → k < places → IsTrue (in_range (range_of (ty.Range (pos 0) (pos (places - 1)))) (pos k))
  place_fits k places h = let a = le-leb 0 k (omega arith) in let b = le-leb k (places - 1) (omega arith) in rw (a, b) refl

  module _ (i : ℕ) (a : NetAuto) (autos : List NetAuto) (o : Option ℕ) (ch : Choice) (k : ℕ) (m : Memory) (at : slice_get n.autos i ≡ Some a) (few : i + suc (length (faces autos)) < 2 ^ 64) where
    -- an automaton that stays
    unmoved : edge_at (a, o) ≡ None → HoldsAt p m letter.L (i, place_face (auto_face a)) (pos (slice_index_or s.locs i 0)) → Moved (i + 1) autos ch k m → Moved i (a ∷ autos) (o ∷ ch) k m
    unmoved is first rest = record {
      after = rest.after;
      ends = ap (λ t. exec p.vars t k m) (one-text i a autos o ch at ∙ ap (λ t. moving i t (text_from (i + 1) autos ch)) is) ∙ rest.ends;
      typed = rest.typed;
      hold = (
        subst (λ z. HoldsAt p rest.after letter.L (i, place_face (auto_face a)) (pos z))
            (sym (one-place i a o ∙ ap (place_then i) is))
            record {
              is_declared = first.is_declared;
              holds = rest.others (name_for letter.L i a.path) (λ j path above small. names-differ letter.L letter.L j i path a.path small (omega (arith, few)) (inr (λ q. omega (arith, above, q)))) ∙ first.holds;
            },
        rest.hold,
      );
      writes = rest.writes;
      others = λ y apart. rest.others y (λ j path above small. apart j path (omega (arith, above)) small);
    }

    -- an automaton that takes an edge
    module _ (x : NetEdge) (l : ℕ) (first : HoldsAt p m letter.L (i, place_face (auto_face a)) (pos l)) (within : x.to < length a.locs) (typed : Typed p.vars m) where
      abbrev next : Memory
      next = slice_set m (place_of p.vars (name_for letter.L i a.path)) (pos x.to)

      next-typed : Typed p.vars next
      next-typed = typed-written p.vars m (name_for letter.L i a.path) (ty.Range (pos 0) (pos (length a.locs - 1))) (pos x.to) first.is_declared (place_fits x.to (length a.locs) within) typed

      name_is : place_name n i ≡ name_for letter.L i a.path
      name_is = ap (λ (r : Option NetAuto). name_for letter.L i (elim r [ None ↦ [] | Some b ↦ b.path ])) at

      room : place_of p.vars (name_for letter.L i a.path) < length m
      room =
          let d = declared-of p.vars (name_for letter.L i a.path) (ty.Range (pos 0) (pos (length a.locs - 1))) first.is_declared in
          let inside = below p.vars (place_of p.vars (name_for letter.L i a.path)) d.variable d.at in
          let long = pairwise-length (λ (v : StVar) z. IsTrue (in_range (range_of v.ty) z)) p.vars m typed in omega (arith, inside, long)

      runs : (rest : Stms) → exec p.vars (moving i (Some x) rest) k m ≡ exec p.vars rest k next
      runs rest =
          cons_runs p.vars (assign (place_name n i) (number (pos x.to))) rest k k m next
          (assign_runs p.vars (place_name n i) (number (pos x.to)) (place_of p.vars (name_for letter.L i a.path)) (pos x.to) k m (ap (place_of p.vars) name_is) refl
          (ap (λ t. is_within t (pos x.to)) (declared-type p.vars (name_for letter.L i a.path) (ty.Range (pos 0) (pos (length a.locs - 1))) first.is_declared) ∙ place_fits x.to (length a.locs) within))

      moved_one : edge_at (a, o) ≡ Some x → Among (name_for letter.L i a.path) names → Moved (i + 1) autos ch k next → Moved i (a ∷ autos) (o ∷ ch) k m
      moved_one is among rest =
          let d = declared-of p.vars (name_for letter.L i a.path) (ty.Range (pos 0) (pos (length a.locs - 1))) first.is_declared in
          record {
            after = rest.after;
            ends = ap (λ t. exec p.vars t k m) (one-text i a autos o ch at ∙ ap (λ t. moving i t (text_from (i + 1) autos ch)) is) ∙ runs (text_from (i + 1) autos ch) ∙ rest.ends;
            typed = rest.typed;
            hold = (
              subst (λ z. HoldsAt p rest.after letter.L (i, place_face (auto_face a)) (pos z)) (sym (one-place i a o ∙ ap (place_then i) is))
                  record {
                    is_declared = first.is_declared;
                    holds = rest.others (name_for letter.L i a.path) (λ j path above small. names-differ letter.L letter.L j i path a.path small (omega (arith, few)) (inr (λ q. omega (arith, above, q))))
                        ∙ slice_get-set_same m (place_of p.vars (name_for letter.L i a.path)) (pos x.to) room;
                  },
              rest.hold,
            );
            writes = writes-then names p.vars m next rest.after (writes-one names p.vars m (name_for letter.L i a.path) (pos x.to) among) rest.writes;
            others = λ y apart.
                rest.others y (λ j path above small. apart j path (omega (arith, above)) small)
                ∙ slice_get-set_other m (place_of p.vars (name_for letter.L i a.path)) (place_of p.vars y) (pos x.to)
                (λ q. places-differ p.vars (name_for letter.L i a.path) y d.variable d.at (apart i a.path (omega arith) (omega (arith, few))) (sym q));
          }

  moved : EndsWithin n → (i : ℕ) (autos : List NetAuto) (ch : Choice) (locs : List ℕ) (k : ℕ) (m : Memory) → ((j : ℕ) → slice_get n.autos (i + j) ≡ slice_get autos j)
      → ((j : ℕ) → slice_index_or s.locs (i + j) 0 ≡ slice_index_or locs j 0) → length ch ≡ length autos → i + length (faces autos) < 2 ^ 64
      → AllAmong letter.L names i (faces autos) → AllZip (HoldsAt p m letter.L) (enumerate_from i (faces autos)) (map pos locs) → Typed p.vars m → Moved i autos ch k m
  moved within i [] [] locs k m at places long few among hold typed = record { after = m; ends = refl; typed = typed; hold = tt; writes = writes-none names p.vars m; others = λ y apart. refl }
  moved within i [] (o ∷ ch) locs k m at places long few among hold typed = absurd (omega (arith, long))
  moved within i (a ∷ autos) [] locs k m at places long few among hold typed = absurd (omega (arith, long))
  moved within i (a ∷ autos) (o ∷ ch) [] k m at places long few among hold typed = absurd hold
  moved within i (a ∷ autos) (o ∷ ch) (l ∷ locs) k m at places long few among hold typed =
      let at_i : slice_get n.autos i ≡ Some a = ap (slice_get n.autos) (omega arith) ∙ at 0 in
      let place : slice_index_or s.locs i 0 ≡ l = ap (λ j. slice_index_or s.locs j 0) (omega arith) ∙ places 0 in
      go (edge_at (a, o)) refl at_i (subst (λ z. HoldsAt p m letter.L (i, place_face (auto_face a)) (pos z)) (sym place) hold.0)
      (λ next typed_next hold_next. moved within (i + 1) autos ch locs k next (λ j. ap (slice_get n.autos) (omega arith) ∙ at (suc j)) (λ j. ap (λ q. slice_index_or s.locs q 0) (omega arith) ∙ places (suc j))
      (omega (arith, long)) (omega (arith, few)) among.1 hold_next typed_next)
    where
      go : (t : Option NetEdge) → edge_at (a, o) ≡ t → slice_get n.autos i ≡ Some a → HoldsAt p m letter.L (i, place_face (auto_face a)) (pos (slice_index_or s.locs i 0))
          → ((next : Memory) → Typed p.vars next → AllZip (HoldsAt p next letter.L) (enumerate_from (i + 1) (faces autos)) (map pos locs) → Moved (i + 1) autos ch k next) → Moved i (a ∷ autos) (o ∷ ch) k m
      go None is at_i first rest = unmoved i a autos o ch k m at_i few is first (rest m typed hold.1)
      go (Some x) is at_i first rest =
          let e = edge_stands a o x is in
          let inside = within i a at_i e.0 x e.1 in
          moved_one i a autos o ch k m at_i few x (slice_index_or s.locs i 0) first inside typed is among.0
          (rest (next i a autos o ch k m at_i few x (slice_index_or s.locs i 0) first inside typed)
          (next-typed i a autos o ch k m at_i few x (slice_index_or s.locs i 0) first inside typed)
          (hold-set p letter.L m i a.path (pos x.to) (i + 1) (faces autos) (map pos locs) (omega arith) (omega (arith, few)) hold.1))

  -- all moves
  pub all-moved : EndsWithin n → (ch : Choice) (k : ℕ) (m : Memory) → length ch ≡ length n.autos → length (faces n.autos) < 2 ^ 64 → AllAmong letter.L names 0 (faces n.autos)
      → AllZip (HoldsAt p m letter.L) (enumerate_from 0 (faces n.autos)) (map pos s.locs) → Typed p.vars m → Moved 0 n.autos ch k m
  all-moved within ch k m long few among hold typed = moved within 0 n.autos ch s.locs k m (λ j. ap (slice_get n.autos) (omega arith)) (λ j. ap (λ q. slice_index_or s.locs q 0) (omega arith)) long (omega (arith, few)) among hold typed
