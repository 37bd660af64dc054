-- The program that the frame makes round statements as they are asked for makes exact scans, shows the outputs and keeps all
-- types.
use Rattle.std.proofs.Common.{◌≡◌, ℕ, ◌+◌, ◌-◌, ◌^◌, ◌<◌, ℤ, pos, Bool, true, false, ◌||◌, List, [], ◌∷◌, ◌++◌, map, length, Option, Some, None, get_or, inr, refl, sym, ap, subst, ◌∙◌, arith, le-leb}
use Rattle.std.specs.Prelude.{IsTrue, codes, slice_set, unwrap_or}
use Rattle.std.specs.Fmt.{digits}
use Rattle.std.specs.List.{AllByRecursion, enumerate_from, list_any}
use Rattle.std.proofs.lemmas.List.Folds.{list_any-append}
use Rattle.grammar.specs.Pieces.{Text}
use Rattle.cif_system.specs.System.{AllFit, State, System, in_range}
use Rattle.cif_system.specs.Step.{meets_invariants}
use Rattle.cif_system.specs.Choices.{first_step}
use Rattle.cif_system.proofs.Picks as picks
use Rattle.cif_system.proofs.ScanLaws.{first_step-step}
use Rattle.st_ast.specs.Tree.{Program, Stms}
use Rattle.st_ast.specs.Names.{same_name, place_of}
use Rattle.st_ast.specs.Values.{Memory, of_bool}
use Rattle.st_ast.specs.Exec.{exec}
use Rattle.st_ast.specs.Scan.{store_row, turns_of_scan}
use Rattle.st_ast.specs.declared.tree.StVar.{StVar}
use Rattle.st_ast.specs.declared.tree.StTy.TheVariants as ty
use Rattle.plc_model.specs.declared.letter.Letter.{Letter}
use Rattle.plc_model.specs.declared.letter.Letter.TheVariants as letter
use Rattle.plc_model.specs.Names.{name_for}
use Rattle.plc_model.specs.Face.{Face, VariableFace, Shows, AreInTypes, range_of, places_of}
use Rattle.plc_model.specs.Scans.{ScansExactly, ShowsOutputs, StaysTyped}
use Rattle.plc_model.specs.Frame.{fired, rounds_made, latches_of, Part, part_of, Stands, IsOwnName, names_of, writable, WritesOnly, Follows, HasClass, IsFramed}
use Rattle.plc_model.proofs.NameLaws.{false-true, letters-differ, names-differ}
use Rattle.plc_model.proofs.FaceLaws.{get_or-of, slice_get-of, below, pairwise-length, same_name-sym, same_name-trans, places-differ, declared-name, declared-of, declared-type, state-kept, set-keeps, typed-written}
use Rattle.plc_model.proofs.Latches.{inputs-taken}
use Rattle.plc_model.proofs.FrameLaw.{LoopVars, Marked, Tried, Frames, Ends, frame-scans}
use Rattle.plc_model.proofs.ScanLaws.{OneScan, Scanning, all-exact, all-show, all-typed}

-- ---- names

fired_is : name_for letter.T 0 (codes "fired") ≡ fired
unfolding digits
fired_is = refl

rounds_is : name_for letter.T 1 (codes "rounds") ≡ rounds_made
unfolding digits
rounds_is = refl

-- no name of another letter is that of the mark, or of the counter
fired_apart : (l : Letter) → (l ≡ letter.T → ⊥) → (k : ℕ) (path : Text) → same_name (name_for l k path) fired ≡ false
fired_apart l other k path = subst (λ w. same_name (name_for l k path) w ≡ false) fired_is (letters-differ l letter.T k 0 path (codes "fired") other)

rounds_apart : (l : Letter) → (l ≡ letter.T → ⊥) → (k : ℕ) (path : Text) → same_name (name_for l k path) rounds_made ≡ false
rounds_apart l other k path = subst (λ w. same_name (name_for l k path) w ≡ false) rounds_is (letters-differ l letter.T k 1 path (codes "rounds") other)

-- ---- what an event does not write

or-none : (a b : Bool) → a ≡ false → b ≡ false → (a || b) ≡ false
or-none a b x y = rw x y

any-append : (f : Text → Bool) (xs ys : List Text) → list_any f xs ≡ false → list_any f ys ≡ false → list_any f (xs ++ ys) ≡ false
any-append f xs ys a b = list_any-append f xs ys ∙ or-none (list_any f xs) (list_any f ys) a b

-- a name that is the same as the counter's is none of these
module _ (w : Text) (is : same_name w rounds_made ≡ true) where
  other_name : (y : Text) → same_name y rounds_made ≡ false → same_name w y ≡ false
  other_name y apart = go (same_name w y) refl
    where
      go : (b : Bool) → same_name w y ≡ b → b ≡ false
      go false e = refl
      go true e = false-true (same_name y rounds_made) apart (same_name-trans y w rounds_made (same_name-sym w y e) is)

  names_apart : (l : Letter) → (l ≡ letter.T → ⊥) → (k : ℕ) (xs : List VariableFace) → list_any (same_name w) (map (λ (x : ℕ × VariableFace). name_for l x.0 x.1.path) (enumerate_from k xs)) ≡ false
  names_apart l other k [] = refl
  names_apart l other k (x ∷ xs) = or-none _ _ (other_name (name_for l k x.path) (rounds_apart l other k x.path)) (names_apart l other (k + 1) xs)

  own_apart : (own : List Text) → AllByRecursion IsOwnName own → list_any (same_name w) own ≡ false
  own_apart [] all = refl
  own_apart (x ∷ own) all = or-none _ _ (other_name x (subst (λ y. same_name y rounds_made ≡ false) (sym all.0.4) (subst (λ r. same_name (name_for letter.T all.0.0 all.0.1) r ≡ false) rounds_is
      (names-differ letter.T letter.T all.0.0 1 all.0.1 (codes "rounds") (omega (arith, all.0.3)) (omega arith) (inr (λ e. omega (arith, all.0.2, e))))))) (own_apart own all.1)

  writable_apart : (face : Face) (own : List Text) → AllByRecursion IsOwnName own → list_any (same_name w) (writable face own) ≡ false
  writable_apart face own all =
      any-append (same_name w) (names_of letter.L (places_of face) ++ names_of letter.V face.variables) (fired ∷ own)
      (any-append (same_name w) (names_of letter.L (places_of face)) (names_of letter.V face.variables) (names_apart letter.L (λ e. cc) 0 (places_of face)) (names_apart letter.V (λ e. cc) 0 face.variables))
      (or-none _ _ (other_name fired refl) (own_apart own all))

-- ---- types

pub truth_in_type : (b : Bool) → IsTrue (in_range (range_of ty.Bool) (of_bool b))
truth_in_type true = refl
truth_in_type false = refl

pub count_in_type : (j : ℕ) → j < 2 ^ 63 → IsTrue (in_range (range_of ty.Lint) (pos j))
count_in_type j small = le-leb j (2 ^ 63 - 1) (omega (arith, small))

-- ---- systems

first_step-keeps : (sys : System) (s : State) (e : ℕ) (t : State) → first_step sys s e ≡ Some t → IsTrue (meets_invariants sys t)
first_step-keeps sys s e t is =
    let step = first_step-step sys s e t is in
    subst (λ r. IsTrue (meets_invariants sys r)) (sym step.is_after) (picks.and-right _ _ step.makes)

-- ---- the frame

module _ (face : Face) (sys : System) (U C : ℕ) (parts : List Part) (outputs : Stms) (p : Program) (h : IsFramed face sys U C parts outputs p) where
  abbrev f : ℕ
  f = place_of p.vars fired

  abbrev r : ℕ
  r = place_of p.vars rounds_made

  abbrev St : Memory → State → Type 0
  St m s = Stands face sys p m s

  loop_vars : LoopVars p.vars f r
  loop_vars =
      let mark = declared-of p.vars fired ty.Bool h.mark in
      let counter = declared-of p.vars rounds_made ty.Lint h.counter in
      record {
        fired_at = refl;
        rounds_at = refl;
        fired_type = declared-type p.vars fired ty.Bool h.mark;
        rounds_type = declared-type p.vars rounds_made ty.Lint h.counter;
        apart = places-differ p.vars fired rounds_made mark.variable mark.at refl;
        apart_too = places-differ p.vars rounds_made fired counter.variable counter.at refl;
      }

  long : (m : Memory) (s : State) → St m s → length p.vars ≡ length m
  long m s st = pairwise-length (λ (v : StVar) z. IsTrue (in_range (range_of v.ty) z)) p.vars m st.typed

  room : (m : Memory) (s : State) → St m s → (f < length m) × (r < length m)
  room m s st =
      let mark = declared-of p.vars fired ty.Bool h.mark in
      let counter = declared-of p.vars rounds_made ty.Lint h.counter in
      let a = below p.vars f mark.variable mark.at in
      let b = below p.vars r counter.variable counter.at in
      let same = long m s st in
      (omega (arith, a, same), omega (arith, b, same))

  mark_free : (m : Memory) (s : State) (b : Bool) → St m s → St (slice_set m f (of_bool b)) s
  mark_free m s b st = record {
    state = state-kept face sys p m (slice_set m f (of_bool b)) s (set-keeps p m fired (of_bool b) letter.L (fired_apart letter.L (λ e. cc)))
        (set-keeps p m fired (of_bool b) letter.V (fired_apart letter.V (λ e. cc))) (set-keeps p m fired (of_bool b) letter.H (fired_apart letter.H (λ e. cc))) st.state;
    typed = typed-written p.vars m fired ty.Bool (of_bool b) h.mark (truth_in_type b) st.typed;
    keeps = st.keeps;
  }

  count_free : (m : Memory) (s : State) (j : ℕ) → j < 2 ^ 63 → St m s → St (slice_set m r (pos j)) s
  count_free m s j small st = record {
    state = state-kept face sys p m (slice_set m r (pos j)) s (set-keeps p m rounds_made (pos j) letter.L (rounds_apart letter.L (λ e. cc)))
        (set-keeps p m rounds_made (pos j) letter.V (rounds_apart letter.V (λ e. cc))) (set-keeps p m rounds_made (pos j) letter.H (rounds_apart letter.H (λ e. cc))) st.state;
    typed = typed-written p.vars m rounds_made ty.Lint (pos j) h.counter (count_in_type j small) st.typed;
    keeps = st.keeps;
  }

  -- the counter is as it was
  kept : (e : ℕ) (m after : Memory) (s : State) → St m s → WritesOnly (writable face (part_of parts e).own) p.vars m after → get_or after r (pos 0) ≡ get_or m r (pos 0)
  kept e m after s st writes =
      let counter = declared-of p.vars rounds_made ty.Lint h.counter in
      let named_so = declared-name p.vars rounds_made counter.variable counter.at in
      let same = writes r counter.variable counter.at (writable_apart counter.variable.name named_so face (part_of parts e).own (h.own_names e)) in
      get_or-of after r (get_or m r (pos 0)) (pos 0) (same ∙ slice_get-of m r (pos 0) (room m s st).1)

  record Followed (o : Option State) (m : Memory) (s : State) (after : Memory) : Type 0 where
    stands : St after (unwrap_or o s)
    marked : Marked p.vars f r loop_vars sys St (λ e. (part_of parts e).body) o m after

  followed : (e : ℕ) (o : Option State) (m : Memory) (s : State) (after : Memory) → first_step sys s e ≡ o → St m s → AreInTypes p after → Follows face sys p m s o after → Followed o m s after
  followed e None m s after is st typed fo = record { stands = record { state = fo.0; typed = typed; keeps = st.keeps }; marked = fo.1 }
  followed e (Some t) m s after is st typed fo = record { stands = record { state = fo.0; typed = typed; keeps = first_step-keeps sys s e t is }; marked = fo.1 }

  tried : (e n : ℕ) (m : Memory) (s : State) → HasClass sys e → St m s → Tried p.vars f r loop_vars sys St (λ e. (part_of parts e).body) e n m s
  tried e n m s classed st =
      let t = h.events e classed n m s st in
      let fo = followed e (first_step sys s e) m s t.0 refl st t.3 t.4 in
      record { after = t.0; ends = t.1; kept = kept e m t.0 s st t.2; stands = fo.stands; marked = fo.marked }

  frames : Frames p.vars f r loop_vars sys St (λ e. (part_of parts e).body)
  frames = record { room = room; fired_free = mark_free; rounds_free = count_free; tried = tried }

  ends : Ends p.vars f r loop_vars sys St (λ e. (part_of parts e).body) frames (latches_of face) outputs (AllFit sys.inputs) (Shows sys p)
  ends = record {
    latched = λ n row m s fit st.
        let t = inputs-taken face sys p h.interface h.is_face h.checked h.few_inputs n row m s fit st.state st.typed in
        (t.after, t.ends, record { state = t.state; typed = t.typed; keeps = subst IsTrue (sym (h.invariants s row)) st.keeps });
    written = λ n m s st.
        let w = h.shown n m s st in
        (w.0, w.1, record { state = w.3; typed = w.2; keeps = st.keeps }, w.4);
  }

  one : (m : Memory) (row : List ℤ) (s : State) → AllFit sys.inputs row → St m s → OneScan face sys p St (Shows sys p) U C m row s
  one m row s fit st =
      let scanned = frame-scans p.vars f r loop_vars sys St (λ e. (part_of parts e).body) frames (latches_of face) outputs (AllFit sys.inputs) (Shows sys p) ends U C turns_of_scan row m s fit st
      (omega (arith, h.turns)) (omega (arith, h.turns)) h.turns in
      record {
        left = scanned.left;
        after = scanned.after;
        ends = ap (λ b. exec p.vars b turns_of_scan (store_row p.vars row m)) h.body ∙ scanned.ends;
        stands = scanned.stands;
        shown = scanned.shows;
      }

  scanning : Scanning face sys p St (Shows sys p) U C
  scanning = record { one = one; state = λ m s st. st.state; shows = λ m s st sh. sh; typed = λ m s st. st.typed }

  pub framed-scans : ScansExactly U C face sys p × ShowsOutputs face sys p × StaysTyped sys p
  framed-scans = (
    all-exact face sys p St (Shows sys p) U C scanning h.starts,
    all-show face sys p St (Shows sys p) U C scanning h.starts,
    all-typed face sys p St (Shows sys p) U C scanning h.starts,
  )
