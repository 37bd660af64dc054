-- What is asked of the statements of a choice: where they lead, and that the mark is set with a step.
use Rattle.std.proofs.Common.{◌≡◌, ℕ, zero, suc, ◌+◌, ◌^◌, ◌<◌, pos, true, false, List, [], ◌∷◌, ◌++◌, length, Option, Some, refl, ap, subst, arith}
use Rattle.std.specs.Prelude.{IsTrue, codes, slice_get, slice_set, option_map}
use Rattle.std.specs.Fmt.{digits}
use Rattle.std.specs.List.{range_with_len}
use Rattle.std.proofs.lemmas.List.{get_or-set_same}
use Rattle.grammar.specs.Pieces.{Text}
use Rattle.cif_system.specs.System.{EndsInside, State, in_range}
use Rattle.cif_system.proofs.Lists.{none-some}
use Rattle.cif_net_model.specs.Net.{NetAuto, Net}
use Rattle.cif_net_model.specs.Meaning.{system_of_net}
use Rattle.st_ast.specs.Tree.{Program, Stms, truth, assign, no_stms}
use Rattle.st_ast.specs.Names.{same_name, place_of}
use Rattle.st_ast.specs.Values.{Memory}
use Rattle.st_ast.specs.Exec.{Outcome, Ended, exec, is_within}
use Rattle.st_ast.specs.declared.tree.StVar.{StVar}
use Rattle.st_ast.specs.declared.tree.StTy.TheVariants as ty
use Rattle.st_ast.proofs.Runs.{cons_runs, assign_runs}
use Rattle.plc_model.specs.declared.letter.Letter.{Letter}
use Rattle.plc_model.specs.declared.letter.Letter.TheVariants as letter
use Rattle.plc_model.specs.Names.{name_for}
use Rattle.plc_model.specs.Face.{IsDeclared, AreInTypes, place_face, places_of, range_of}
use Rattle.plc_model.specs.Frame.{Follows, WritesOnly, fired, mark_in, names_of, writable}
use Rattle.plc_model.proofs.NameLaws.{letters-differ}
use Rattle.plc_model.proofs.FaceLaws.{Kept, Typed, below, declared-of, declared-type, pairwise-length, set-keeps, typed-written}
use Rattle.plc_frame.specs.Faces.{auto_face, face_of_net}
use Rattle.plc_frame.specs.Events.{marks}
use Rattle.plc_frame.proofs.Writing.{Among, among-first, among-right, writes-one}
use Rattle.plc_frame.proofs.Moving.{EndsWithin, faces}

-- ---- names

pub fired_is : name_for letter.T 0 (codes "fired") ≡ fired
unfolding digits
fired_is = refl

pub fired_apart : (l : Letter) → (l ≡ letter.T → ⊥) → (k : ℕ) (path : Text) → same_name (name_for l k path) fired ≡ false
fired_apart l other k path = subst (λ w. same_name (name_for l k path) w ≡ false) fired_is (letters-differ l letter.T k 0 path (codes "fired") other)

-- ---- lists

pub range-length : (k len : ℕ) → length (range_with_len k len) ≡ len
range-length k zero = refl
range-length k (suc len) = ap suc (range-length (k + 1) len)

-- the face of an automaton's place
pub face-at : (xs : List NetAuto) (k : ℕ) (a : NetAuto) → slice_get xs k ≡ Some a → slice_get (faces xs) k ≡ Some (place_face (auto_face a))
face-at [] k a h = absurd (none-some a h)
face-at (b ∷ xs) zero a h = ap (option_map (λ (c : NetAuto). place_face (auto_face c))) h
face-at (b ∷ xs) (suc k) a h = face-at xs k a h

module _ (n : Net) where
  module _ (p : Program) where
    -- ---- what is done

    -- What an outcome comes to where the first step, if there is one, leads to a state: it ends, nothing else is written, all
    -- types are kept, and the memory stands for that state.
    pub record Does (own : List Text) (o : Option State) (out : Outcome) (k : ℕ) (m : Memory) (s : State) : Type 0 where
      pub after : Memory
      pub ends : out ≡ Ended k after
      pub writes : WritesOnly (writable (face_of_net n) own) p.vars m after
      pub typed : AreInTypes p after
      pub follows : Follows (face_of_net n) (system_of_net n) p m s o after

    -- what is asked of the program and of the net
    pub record Ready : Type 0 where
      pub mark : IsDeclared p.vars fired ty.Bool
      pub few : length n.autos < 2 ^ 32
      pub within : EndsWithin n
      pub inside : EndsInside (system_of_net n)

    module _ (ready : Ready) (own : List Text) where
      fired-among : Among fired (writable (face_of_net n) own)
      fired-among = among-right fired (names_of letter.L (places_of (face_of_net n)) ++ names_of letter.V (face_of_net n).variables) (fired ∷ own) (among-first fired own)

      -- What the statements after the moves come to: nothing that stands for the state changes, and the mark is set.
      pub record Closed (ss : Stms) (k : ℕ) (m : Memory) : Type 0 where
        pub after : Memory
        pub ends : exec p.vars ss k m ≡ Ended k after
        pub writes : WritesOnly (writable (face_of_net n) own) p.vars m after
        pub typed : Typed p.vars after
        pub kept : (l : Letter) → (l ≡ letter.T → ⊥) → Kept p m after l
        pub mark : mark_in p after ≡ pos 1

      pub marks-close : (k : ℕ) (m : Memory) → Typed p.vars m → Closed marks k m
      marks-close k m typed =
          let end : Memory = slice_set m (place_of p.vars fired) (pos 1) in
          let d = declared-of p.vars fired ty.Bool ready.mark in
          let inside = below p.vars (place_of p.vars fired) d.variable d.at in
          let long = pairwise-length (λ (v : StVar) z. IsTrue (in_range (range_of v.ty) z)) p.vars m typed in
          record {
            after = end;
            ends = cons_runs p.vars (assign fired (truth true)) no_stms k k m end
                (assign_runs p.vars fired (truth true) (place_of p.vars fired) (pos 1) k m refl refl (ap (λ t. is_within t (pos 1)) (declared-type p.vars fired ty.Bool ready.mark)));
            writes = writes-one (writable (face_of_net n) own) p.vars m fired (pos 1) fired-among;
            typed = typed-written p.vars m fired ty.Bool (pos 1) ready.mark refl typed;
            kept = λ l other. set-keeps p m fired (pos 1) l (fired_apart l other);
            mark = get_or-set_same m (place_of p.vars fired) (pos 1) (pos 0) (omega (arith, inside, long));
          }

      pub marks-last : (k : ℕ) (m : Memory) (typed : Typed p.vars m) → (marks-close k m typed).after ≡ slice_set m (place_of p.vars fired) (pos 1)
      unfolding marks-close
      marks-last k m typed = refl
