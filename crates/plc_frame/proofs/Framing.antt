-- The program that has the frame round statements which try the events, and show the algebraic variables, meets what the law of
-- the frame asks, so it makes exact scans, whatever variables the parts have of their own.
use Rattle.std.proofs.Common.{◌≡◌, ℕ, ◌+◌, ◌^◌, ◌<◌, ◌≤◌, ℤ, pos, true, List, [], ◌∷◌, ◌++◌, map, filter, length, Option, Some, None, refl, sym, ap, subst, ◌∙◌, arith}
use Rattle.std.specs.Prelude.{IsTrue, codes, option_map, slice_get}
use Rattle.std.specs.Fmt.{digits}
use Rattle.std.specs.List.{AllByRecursion, AllZip, enumerate_from}
use Rattle.std.proofs.lemmas.List.{append-nil, append_assoc, map-append}
use Rattle.cif_system.specs.System.{State, System, con, initial, outputs, unc, in_range}
use Rattle.cif_system.specs.Scan.{of_class}
use Rattle.cif_system.proofs.Lists.{map-length}
use Rattle.cif_net_model.specs.Net.{NetAuto, Net}
use Rattle.cif_net_model.specs.Facts.{is_net}
use Rattle.cif_net_model.specs.Meaning.{system_of_net}
use Rattle.cif_net_model.specs.Rules.{is_plain}
use Rattle.st_ast.specs.Tree.{Program, Stm, Stms, append, stms, stms_of}
use Rattle.st_ast.specs.Names.{declared}
use Rattle.st_ast.specs.Values.{Memory}
use Rattle.st_ast.specs.Exec.{Ended, exec}
use Rattle.st_ast.specs.Scan.{start_memory, turns_of_scan}
use Rattle.st_ast.specs.Interface.{is_output, is_input}
use Rattle.st_ast.specs.Checks.{check_faults}
use Rattle.st_ast.specs.declared.tree.StVar.{StVar}
use Rattle.st_ast.specs.declared.tree.StClass.TheVariants as class
use Rattle.st_ast.specs.declared.tree.StTy.TheVariants as ty
use Rattle.st_ast.proofs.Runs.{append_runs}
use Rattle.plc_model.specs.declared.letter.Letter.{Letter}
use Rattle.plc_model.specs.declared.letter.Letter.TheVariants as letter
use Rattle.plc_model.specs.Names.{name_for}
use Rattle.plc_model.specs.Face.{Face, VariableFace, HasInterface, HoldsAt, IsDeclared, Shows, StateOf, AreInTypes, alg_face, algs_of, head_of, declaration, declarations, place_face, places_of, range_of}
use Rattle.plc_model.specs.Frame.{HasClass, IsFramed, IsOwnName, Part, TriesEvent, Stands, WritesOutputs, fired, latches_of, part_of, rounds_made}
use Rattle.plc_model.proofs.NameLaws.{letters-differ}
use Rattle.plc_model.proofs.FaceLaws.{Kept, Typed, pairwise-length, state-kept}
use Rattle.plc_model.proofs.Framed.{framed-scans}
use Rattle.plc_model.proofs.Latches.{checked-differ}
use Rattle.plc_frame.specs.Faces.{alg_face_of, auto_face, face_of_net, stored_face}
use Rattle.plc_frame.specs.Places.{place_name}
use Rattle.plc_frame.specs.Variables.{mark_and_counter, all_shown_by, outputs_of}
use Rattle.plc_frame.specs.Given.{AlgsHold, Section, ShowsAlgs, program_with, sections_of}
use Rattle.plc_frame.specs.Makes.{Makes}
use Rattle.plc_frame.proofs.Moving.{faces}
use Rattle.plc_frame.proofs.Agreeing.{holds-first, inputs-keep}
use Rattle.plc_frame.proofs.Making.{face-at, fired_is}
use Rattle.plc_frame.proofs.Declaring.{AllDeclared, AllOf, AreSections, declared-at, declared-of, section-declared, starts-held, variables-passing}
use Rattle.plc_frame.proofs.Checking.{AllChecked, checked-append, copies-checked, frame-checked}
use Rattle.plc_frame.proofs.Showing.{Has, copied, has-same, held-has, output_values-read, read, read-has}
use Rattle.plc_frame.proofs.Facts.{Standing, face-is, first-places, first-values, fit-places, fit-values, initial-is, inputs-sound, places-sound, standing, vars-sound}

rounds_is : name_for letter.T 1 (codes "rounds") ≡ rounds_made
unfolding digits
rounds_is = refl

pub stms_of-append : (a b : List Stm) → stms_of (a ++ b) ≡ append (stms_of a) (stms_of b)
stms_of-append [] b = refl
stms_of-append (s ∷ a) b = ap (stms s) (stms_of-append a b)

-- ---- sizes

faces-length : {A : Type 0} (f : A → VariableFace) (xs : List A) → length xs < 2 ^ 32 → length (map f xs) < 2 ^ 64
faces-length f xs h = let same = map-length f xs in omega (arith, same, h)

pub few-places : (n : Net) → Standing n → length (places_of (face_of_net n)) < 2 ^ 64
few-places n facts =
    let a = map-length place_face (map auto_face n.autos) in let b = map-length auto_face n.autos in let small = facts.few in
    omega (arith, a, b, small)

pub few-values : (n : Net) → Standing n → length (face_of_net n).variables < 2 ^ 64
few-values n facts = faces-length stored_face n.vars facts.few_vars

pub few-inputs : (n : Net) → Standing n → length (face_of_net n).inputs < 2 ^ 64
few-inputs n facts = faces-length stored_face n.inputs facts.few_inputs

pub few-algs : (n : Net) → Standing n → length (algs_of (face_of_net n)) < 2 ^ 64
few-algs n facts =
    let a = map-length alg_face (map alg_face_of n.algs) in let b = map-length alg_face_of n.algs in let small = facts.few_algs in
    omega (arith, a, b, small)

-- ---- the frame

module _ (n : Net) (own : List StVar) (parts : List Part) (shown : Stms) (U C : ℕ) (net : is_net n ≡ true) (plain : is_plain n ≡ true) (own_of_letter : AllOf letter.T class.Plain own) where
  abbrev p : Program
  p = program_with n own parts shown U C

  abbrev sys : System
  sys = system_of_net n

  abbrev face : Face
  face = face_of_net n

  abbrev sections : List Section
  sections = sections_of (face_of_net n) own

  facts : Standing n
  facts = standing n net

  few_places : length (places_of face) < 2 ^ 64
  few_places = few-places n facts

  few_values : length face.variables < 2 ^ 64
  few_values = few-values n facts

  few_inputs : length face.inputs < 2 ^ 64
  few_inputs = few-inputs n facts

  few_algs : length (algs_of face) < 2 ^ 64
  few_algs = few-algs n facts

  own-section : AllOf letter.T class.Plain (declarations letter.T class.Plain mark_and_counter ++ own)
  own-section = ((declared-of letter.T class.Plain 0 mark_and_counter).0, ((declared-of letter.T class.Plain 0 mark_and_counter).1.0, own_of_letter))

  are-sections : AreSections (sections_of (face_of_net n) own)
  are-sections = (
    ((λ e. cc), ((λ e. cc), ((λ e. cc), ((λ e. cc), ((λ e. cc), ((λ e. cc), ((λ e. cc), tt))))))),
    declared-of letter.L class.Plain 0 (places_of face),
    (
      ((λ e. cc), ((λ e. cc), ((λ e. cc), ((λ e. cc), ((λ e. cc), ((λ e. cc), tt)))))),
      declared-of letter.V class.Plain 0 face.variables,
      (
        ((λ e. cc), ((λ e. cc), ((λ e. cc), ((λ e. cc), ((λ e. cc), tt))))),
        declared-of letter.H class.Plain 0 face.inputs,
        (
          ((λ e. cc), ((λ e. cc), ((λ e. cc), ((λ e. cc), tt)))),
          own-section,
          (
            ((λ e. cc), ((λ e. cc), ((λ e. cc), tt))),
            declared-of letter.I class.Input 0 face.inputs,
            (
              ((λ e. cc), ((λ e. cc), tt)),
              declared-of letter.P class.Output 0 (places_of face),
              (((λ e. cc), tt), declared-of letter.Q class.Output 0 face.variables, (tt, declared-of letter.R class.Output 0 (algs_of face), tt)),
            ),
          ),
        ),
      ),
    ),
  )

  -- ---- declared variables

  places-declared : AllDeclared p.vars letter.L class.Plain 0 (places_of face)
  places-declared = section-declared sections 0 _ (places_of face) [] are-sections refl few_places (sym (append-nil _))

  values-declared : AllDeclared p.vars letter.V class.Plain 0 face.variables
  values-declared = section-declared sections 1 _ face.variables [] are-sections refl few_values (sym (append-nil _))

  latched-declared : AllDeclared p.vars letter.H class.Plain 0 face.inputs
  latched-declared = section-declared sections 2 _ face.inputs [] are-sections refl few_inputs (sym (append-nil _))

  own-declared : AllDeclared p.vars letter.T class.Plain 0 mark_and_counter
  own-declared = section-declared sections 3 _ mark_and_counter own are-sections refl (omega arith) refl

  inputs-declared : AllDeclared p.vars letter.I class.Input 0 face.inputs
  inputs-declared = section-declared sections 4 _ face.inputs [] are-sections refl few_inputs (sym (append-nil _))

  shown-places-declared : AllDeclared p.vars letter.P class.Output 0 (places_of face)
  shown-places-declared = section-declared sections 5 _ (places_of face) [] are-sections refl few_places (sym (append-nil _))

  shown-values-declared : AllDeclared p.vars letter.Q class.Output 0 face.variables
  shown-values-declared = section-declared sections 6 _ face.variables [] are-sections refl few_values (sym (append-nil _))

  pub algs-declared : AllDeclared p.vars letter.R class.Output 0 (algs_of face)
  algs-declared = section-declared sections 7 _ (algs_of face) [] are-sections refl few_algs (sym (append-nil _))

  pub mark_declared : IsDeclared p.vars fired ty.Bool
  mark_declared = subst (λ x. IsDeclared p.vars x ty.Bool) fired_is (ap (option_map head_of) own-declared.0)

  counter_declared : IsDeclared p.vars rounds_made ty.Lint
  counter_declared = subst (λ x. IsDeclared p.vars x ty.Lint) rounds_is (ap (option_map head_of) own-declared.1.0)

  pub place-declared : (k : ℕ) (a : NetAuto) → slice_get n.autos k ≡ Some a → declared p.vars (place_name n k) ≡ Some (declaration letter.L class.Plain (k, place_face (auto_face a)))
  place-declared k a at =
      let number : 0 + k ≡ k = omega arith in
      let name : name_for letter.L k a.path ≡ place_name n k = sym (ap (λ (r : Option NetAuto). name_for letter.L k (elim r [ None ↦ [] | Some b ↦ b.path ])) at) in
      subst (λ x. declared p.vars x ≡ Some (declaration letter.L class.Plain (k, place_face (auto_face a)))) name
      (subst (λ j. declared p.vars (name_for letter.L j a.path) ≡ Some (declaration letter.L class.Plain (j, place_face (auto_face a)))) number
      (declared-at p.vars letter.L class.Plain 0 (faces n.autos) k (place_face (auto_face a)) places-declared (face-at n.autos k a at)))

  -- the frame round statements that break no check breaks none
  pub body-checked : ((e : ℕ) → AllChecked p.vars (part_of parts e).body) → AllChecked p.vars shown → AllChecked p.vars p.body
  body-checked all last =
      frame-checked p.vars mark_declared counter_declared (latches_of face) (λ e. (part_of parts e).body) (of_class sys unc) (of_class sys con) U C (append (outputs_of face) shown)
      (copies-checked p.vars letter.H letter.I class.Plain class.Input (λ x. refl) 0 face.inputs latched-declared inputs-declared) all
      (checked-append p.vars (outputs_of face) shown
      (subst (AllChecked p.vars) (sym (stms_of-append (all_shown_by letter.P letter.L (places_of face)) (all_shown_by letter.Q letter.V face.variables)))
      (checked-append p.vars (stms_of (all_shown_by letter.P letter.L (places_of face))) (stms_of (all_shown_by letter.Q letter.V face.variables))
      (copies-checked p.vars letter.P letter.L class.Output class.Plain (λ x. refl) 0 (places_of face) shown-places-declared places-declared)
      (copies-checked p.vars letter.Q letter.V class.Output class.Plain (λ x. refl) 0 face.variables shown-values-declared values-declared))) last)

  module _ (turns : U + C ≤ turns_of_scan) (checked : check_faults p ≡ []) (in_types : Typed p.vars (start_memory p)) (own_names : (e : ℕ) → AllByRecursion IsOwnName (part_of parts e).own)
      (events : (e : ℕ) → HasClass sys e → TriesEvent face sys p (part_of parts e) e) (shows : ShowsAlgs n p shown) where
    -- ---- the interface

    outputs-are : filter (λ (v : StVar). is_output v.class) p.vars ≡ declarations letter.P class.Output (places_of face) ++ declarations letter.Q class.Output face.variables ++ declarations letter.R class.Output (algs_of face)
    outputs-are =
        variables-passing is_output sections are-sections
        ∙ ap (λ r. declarations letter.P class.Output (places_of face) ++ (declarations letter.Q class.Output face.variables ++ r)) (append-nil (declarations letter.R class.Output (algs_of face)))
        ∙ sym (append_assoc (declarations letter.P class.Output (places_of face)) (declarations letter.Q class.Output face.variables) (declarations letter.R class.Output (algs_of face)))

    interface : HasInterface face p
    interface = record {
      name = refl;
      inputs = variables-passing is_input sections are-sections ∙ append-nil (declarations letter.I class.Input face.inputs);
      outputs = outputs-are;
    }

    -- ---- the start

    starts-state : StateOf face sys p (start_memory p) (initial sys)
    starts-state = record {
      places = subst (λ zs. AllZip (HoldsAt p (start_memory p) letter.L) (enumerate_from 0 (places_of face)) zs) (first-places n n.autos)
          (starts-held p letter.L 0 (places_of face) (places-sound n facts) places-declared);
      values = subst (λ zs. AllZip (HoldsAt p (start_memory p) letter.V) (enumerate_from 0 face.variables) zs) (first-values n.vars)
          (starts-held p letter.V 0 face.variables (vars-sound n facts) values-declared);
      inputs = subst (λ zs. AllZip (HoldsAt p (start_memory p) letter.H) (enumerate_from 0 face.inputs) zs) (first-values n.inputs)
          (starts-held p letter.H 0 face.inputs (inputs-sound n facts) latched-declared);
      is_state = initial-is n facts;
    }

    starts : Stands face sys p (start_memory p) (initial sys)
    starts = record { state = starts-state; typed = in_types; keeps = holds-first n plain }

    -- ---- the outputs

    three : (f : StVar → ℤ) (ps qs rs : List StVar) (as' bs cs' : List ℤ) → map f ps ≡ as' → map f qs ≡ bs → map f rs ≡ cs' → map f (ps ++ qs ++ rs) ≡ as' ++ bs ++ cs'
    three f ps qs rs as' bs cs' x y z = rw (map-append f (ps ++ qs) rs, map-append f ps qs, x, y, z) refl

    shows-all : (m : Memory) (s : State) → AreInTypes p m → Has p.vars m letter.P 0 (places_of face) (map pos s.locs) → Has p.vars m letter.Q 0 face.variables s.vals
        → AlgsHold p m 0 (algs_of face) (outputs sys s).algs → Shows sys p m s
    shows-all m s typed places values algs =
        output_values-read p.vars m (checked-differ p checked) (pairwise-length (λ (v : StVar) z. IsTrue (in_range (range_of v.ty) z)) p.vars m typed)
        ∙ ap (map (read p.vars m)) outputs-are
        ∙ three (read p.vars m) (declarations letter.P class.Output (places_of face)) (declarations letter.Q class.Output face.variables) (declarations letter.R class.Output (algs_of face)) (map pos s.locs) s.vals
        (outputs sys s).algs (read-has p.vars m letter.P class.Output 0 (places_of face) (map pos s.locs) places) (read-has p.vars m letter.Q class.Output 0 face.variables s.vals values)
        (read-has p.vars m letter.R class.Output 0 (algs_of face) (outputs sys s).algs algs)

    -- the memory behind the outputs of places and variables, which still stands for the state
    record Copied (k : ℕ) (m : Memory) (s : State) : Type 0 where
      after : Memory
      ends : exec p.vars (outputs_of face) k m ≡ Ended k after
      stands : Stands face sys p after s
      places : Has p.vars after letter.P 0 (places_of face) (map pos s.locs)
      values : Has p.vars after letter.Q 0 face.variables s.vals

    copies-made : (k : ℕ) (m : Memory) (s : State) → Stands face sys p m s → Copied k m s
    copies-made k m s st =
        let first = copied p.vars letter.P letter.L class.Output (λ e. cc) 0 (places_of face) (map pos s.locs) k m (omega (arith, few_places)) shown-places-declared
        (held-has p m letter.L 0 (places_of face) (map pos s.locs) st.state.places) (fit-places n n.autos s.locs st.state.is_state.places) st.typed in
        let second = copied p.vars letter.Q letter.V class.Output (λ e. cc) 0 face.variables s.vals k first.after (omega (arith, few_values)) shown-values-declared
        (has-same p.vars m first.after letter.V (λ i path. first.others (name_for letter.V i path) (λ j way above small. letters-differ letter.P letter.V j i way path (λ e. cc))) 0 face.variables s.vals
        (held-has p m letter.V 0 face.variables s.vals st.state.values)) (fit-values n.vars s.vals st.state.is_state.values) first.typed in
        let kept : (l : Letter) → (letter.P ≡ l → ⊥) → (letter.Q ≡ l → ⊥) → Kept p m second.after l = λ l other_p other_q i path t is.
        second.others (name_for l i path) (λ j way above small. letters-differ letter.Q l j i way path other_q)
        ∙ first.others (name_for l i path) (λ j way above small. letters-differ letter.P l j i way path other_p) in
        record {
          after = second.after;
          ends = ap (λ ss. exec p.vars ss k m) (stms_of-append (all_shown_by letter.P letter.L (places_of face)) (all_shown_by letter.Q letter.V face.variables))
              ∙ append_runs p.vars (stms_of (all_shown_by letter.P letter.L (places_of face))) (stms_of (all_shown_by letter.Q letter.V face.variables)) k k m first.after first.ends
              ∙ second.ends;
          stands = record {
            state = state-kept face sys p m second.after s (kept letter.L (λ e. cc) (λ e. cc)) (kept letter.V (λ e. cc) (λ e. cc)) (kept letter.H (λ e. cc) (λ e. cc)) st.state;
            typed = second.typed;
            keeps = st.keeps;
          };
          places = has-same p.vars first.after second.after letter.P (λ i path. second.others (name_for letter.P i path) (λ j way above small. letters-differ letter.Q letter.P j i way path (λ e. cc))) 0 (places_of face)
              (map pos s.locs) first.has;
          values = second.has;
        }

    writes-outputs : WritesOutputs face sys p (append (outputs_of face) shown)
    writes-outputs k m s st =
        let copies = copies-made k m s st in
        let last = shows k copies.after s copies.stands in
        let kept : (l : Letter) → (l ≡ letter.R → ⊥) → (l ≡ letter.T → ⊥) → Kept p copies.after last.0 l = λ l other_r other_t i path t is. last.3 l other_r other_t i path in (
          last.0,
          append_runs p.vars (outputs_of face) shown k k m copies.after copies.ends ∙ last.1,
          last.2,
          state-kept face sys p copies.after last.0 s (kept letter.L (λ e. cc) (λ e. cc)) (kept letter.V (λ e. cc) (λ e. cc)) (kept letter.H (λ e. cc) (λ e. cc)) copies.stands.state,
          shows-all last.0 s last.2 (has-same p.vars copies.after last.0 letter.P (λ i path. last.3 letter.P (λ e. cc) (λ e. cc) i path) 0 (places_of face) (map pos s.locs) copies.places)
              (has-same p.vars copies.after last.0 letter.Q (λ i path. last.3 letter.Q (λ e. cc) (λ e. cc) i path) 0 face.variables s.vals copies.values) last.4,
        )

    -- ---- the premises of the law

    framed-so : IsFramed face sys U C parts (append (outputs_of face) shown) p
    framed-so = record {
      body = refl;
      turns = turns;
      checked = checked;
      interface = interface;
      mark = mark_declared;
      counter = counter_declared;
      is_face = face-is n;
      few_inputs = let same = map-length stored_face n.inputs in let small = facts.few_inputs in omega (arith, same, small);
      invariants = inputs-keep n plain;
      starts = starts;
      own_names = own_names;
      events = events;
      shown = writes-outputs;
    }

    pub framed-makes : Makes n U C p
    framed-makes =
        let scans = framed-scans face sys U C parts (append (outputs_of face) shown) p framed-so in
        record { checked = checked; interface = interface; starts = starts-state; exact = scans.0; shown = scans.1; typed = scans.2 }
