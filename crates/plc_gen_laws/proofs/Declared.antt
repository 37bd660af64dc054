-- In the program of all events the own variables of each event, and those of the algebraic variables, are declared one after
-- another, each with its type.
use Rattle.std.proofs.Common.{◌≡◌, ℕ, suc, ◌+◌, ◌-◌, ◌^◌, ◌<◌, ◌≤◌, List, [], ◌∷◌, ◌++◌, length, Some, refl, sym, ap, subst, ◌∙◌, arith}
use Rattle.std.specs.Prelude.{option_map, slice_get}
use Rattle.std.specs.List.{range_with_len}
use Rattle.std.proofs.lemmas.List.{length-append}
use Rattle.std.proofs.lemmas.Option.{slice_get-map}
use Rattle.cif_system.proofs.Lists.{map-length}
use Rattle.cif_net_model.specs.Net.{Net}
use Rattle.cif_net_model.specs.Listing.{NetChoice}
use Rattle.st_ast.specs.Tree.{Program}
use Rattle.st_ast.specs.declared.tree.StVar.{StVar}
use Rattle.st_ast.specs.declared.tree.StClass.TheVariants as class
use Rattle.st_ast.specs.Names.{place_of}
use Rattle.st_ast.specs.declared.tree.StTy.{StTy}
use Rattle.st_ast.specs.declared.tree.StTy.TheVariants as ty
use Rattle.plc_model.specs.declared.letter.Letter.TheVariants as letter
use Rattle.plc_model.specs.Face.{VariableFace, IsDeclared, algs_of, declarations, head_of, places_of}
use Rattle.plc_model.specs.Frame.{fired}
use Rattle.plc_frame.specs.Variables.{mark_and_counter, mark_face}
use Rattle.plc_frame.specs.Events.{choices_of}
use Rattle.plc_frame.specs.Faces.{face_of_net}
use Rattle.plc_frame.specs.Given.{own_variables}
use Rattle.plc_frame.proofs.Declaring.{AllOf, declared-of}
use Rattle.plc_frame.proofs.Making.{fired_is}
use Rattle.plc_expr.specs.Texts.{Naming}
use Rattle.plc_event_model.specs.Own.{net_naming, if_face}
use Rattle.plc_event_model.specs.Parts.{AreDeclared, event_faces}
use Rattle.plc_event_model.proofs.Kept.{Declares}
use Rattle.plc_event_model.specs.ProgramParts.{all_own, net_parts, net_program, defined_types, shown_faces, shown_first}
use Rattle.plc_gen_laws.proofs.Places.{IsAt, get-left, get-right, third-at}
use Rattle.plc_gen_laws.proofs.OwnTries.{HasPart, faces_of, own-are, owns, owns-append, owns-length}

-- how many variables stand before the mark
abbrev pub first_place : Net → ℕ
first_place n =
    let face = face_of_net n in
    length (declarations letter.L class.Plain (places_of face)) + (length (declarations letter.V class.Plain face.variables) + (length (declarations letter.H class.Plain face.inputs) + 0))

-- own variables of expressions, each by its place among them
declares-from : (vars : List StVar) (w : Naming) (base j : ℕ) (ts : List StTy)
    → ((i : ℕ) (t : StTy) → slice_get ts i ≡ Some t → IsDeclared vars (w.own (j + i)) t × (place_of vars (w.own (j + i)) ≡ base + (j + i))) → Declares vars w base j ts
declares-from vars w base j [] each = tt
declares-from vars w base j (t ∷ ts) each =
    let first : j + 0 ≡ j = omega arith in (
      subst (λ k. IsDeclared vars (w.own k) t × (place_of vars (w.own k) ≡ base + k)) first (each 0 t refl),
      declares-from vars w base (j + 1) ts (λ i u at.
          let next : j + suc i ≡ (j + 1) + i = omega arith in subst (λ k. IsDeclared vars (w.own k) u × (place_of vars (w.own k) ≡ base + k)) next (each (suc i) u at)),
    )

module _ (n : Net) (cs : List NetChoice) (U C : ℕ) (few : length (all_own n cs) ≤ 2147483646) where
  abbrev p : Program
  p = net_program n cs U C

  abbrev all_events : List ℕ
  all_events = range_with_len 0 (length n.events)

  -- the own variables of all events
  abbrev of_events : List VariableFace
  of_events = faces_of n cs (range_with_len 0 (length n.events))

  -- with those of the algebraic variables
  abbrev all_faces : List VariableFace
  all_faces = of_events ++ shown_faces n

  events-length : length (own_variables (net_parts n cs)) ≡ length of_events
  events-length = ap (λ (vs : List StVar). length vs) (own-are n cs 2 all_events) ∙ owns-length 2 of_events

  all-are : all_own n cs ≡ owns 2 all_faces
  all-are =
      ap (λ (vs : List StVar). vs ++ owns (2 + length vs) (shown_faces n)) (own-are n cs 2 all_events)
      ∙ ap (λ l. owns 2 of_events ++ owns (2 + l) (shown_faces n)) (owns-length 2 of_events)
      ∙ sym (owns-append 2 of_events (shown_faces n))

  -- all are of one letter
  pub own-letters : AllOf letter.T class.Plain (all_own n cs)
  own-letters = subst (AllOf letter.T class.Plain) (sym all-are) (declared-of letter.T class.Plain 2 all_faces)

  -- with the mark and the counter, which have the numbers 0 and 1
  abbrev numbered : List VariableFace
  numbered = mark_and_counter ++ all_faces

  few_faces : length all_faces ≤ 2147483646
  few_faces = let long = ap (λ (vs : List StVar). length vs) all-are ∙ owns-length 2 all_faces in omega (arith, long, few)

  few_numbered : length numbered < 2 ^ 64
  few_numbered = omega (arith, few_faces)

  abbrev places : List StVar
  places = declarations letter.L class.Plain (places_of (face_of_net n))

  abbrev values : List StVar
  values = declarations letter.V class.Plain (face_of_net n).variables

  abbrev inputs : List StVar
  inputs = declarations letter.H class.Plain (face_of_net n).inputs

  -- those behind the own variables
  abbrev others : List StVar
  others = declarations letter.I class.Input (face_of_net n).inputs ++ (declarations letter.P class.Output (places_of (face_of_net n))
      ++ (declarations letter.Q class.Output (face_of_net n).variables ++ (declarations letter.R class.Output (algs_of (face_of_net n)) ++ [])))

  vars-are : (net_program n cs U C).vars ≡ places ++ (values ++ (inputs ++ (owns 0 numbered ++ others)))
  vars-are =
      ap (λ (own : List StVar). places ++ (values ++ (inputs ++ ((declarations letter.T class.Plain mark_and_counter ++ own) ++ others)))) all-are
      ∙ ap (λ (own : List StVar). places ++ (values ++ (inputs ++ (own ++ others)))) (sym (owns-append 0 mark_and_counter all_faces))

  -- each by its number
  own-at : (k : ℕ) (x : VariableFace) → slice_get numbered k ≡ Some x → IsAt (net_program n cs U C).vars letter.T class.Plain (first_place n) k x
  own-at k x at =
      subst (λ vars. IsAt vars letter.T class.Plain (first_place n) k x) (sym vars-are)
      (third-at letter.T class.Plain numbered few_numbered letter.L places letter.V values letter.H inputs others k x (λ e. cc) (λ e. cc) (λ e. cc)
      (declared-of letter.L class.Plain 0 (places_of (face_of_net n))) (declared-of letter.V class.Plain 0 (face_of_net n).variables) (declared-of letter.H class.Plain 0 (face_of_net n).inputs) at)

  pub mark-declared : IsDeclared (net_program n cs U C).vars fired ty.Bool
  mark-declared = subst (λ x. IsDeclared (net_program n cs U C).vars x ty.Bool) fired_is (ap (option_map head_of) (own-at 0 mark_face refl).declared)

  pub vars-length : first_place n + (2 + length all_faces) ≤ length (net_program n cs U C).vars
  vars-length =
      let all = ap (λ (vs : List StVar). length vs) vars-are in
      let a = length-append places (values ++ (inputs ++ (owns 0 numbered ++ others))) in
      let b = length-append values (inputs ++ (owns 0 numbered ++ others)) in
      let d = length-append inputs (owns 0 numbered ++ others) in
      let e = length-append (owns 0 numbered) others in
      let f = owns-length 0 numbered in
      omega (arith, all, a, b, d, e, f)

  module _ (i e : ℕ) (part : HasPart n cs 2 (range_with_len 0 (length n.events)) i e) where
    at-number : (a : ℕ) (x : VariableFace) → slice_get (event_faces n (choices_of cs e)) a ≡ Some x → IsAt (net_program n cs U C).vars letter.T class.Plain (first_place n) (part.number + a) x
    at-number a x is =
        let from = part.from in
        let split : 2 + (part.number + a - 2) ≡ part.number + a = omega (arith, from) in
        subst (λ k. IsAt (net_program n cs U C).vars letter.T class.Plain (first_place n) k x) split
        (own-at (2 + (part.number + a - 2)) x
        (get-right mark_and_counter all_faces (part.number + a - 2) ∙ get-left of_events (shown_faces n) (part.number + a - 2) x (part.among a (part.number + a - 2) x is split)))

    pub are-declared : AreDeclared (net_program n cs U C) (first_place n) part.number (event_faces n (choices_of cs e))
    are-declared =
        let from = part.from in
        let room = part.room in
        let both = length-append of_events (shown_faces n) in
        record {
          above = from;
          small = omega (arith, room, few_faces, both);
          inside = omega (arith, room, vars-length, both);
          each = λ a x is. ap (option_map head_of) (at-number a x is).declared;
          place = λ a x is. (at-number a x is).place;
        }

  -- ---- those of the algebraic variables

  -- they end where all do
  pub shown-last : shown_first n cs + length (defined_types n n.algs) ≡ 2 + length all_faces
  shown-last =
      let both = length-append of_events (shown_faces n) in
      let types = map-length if_face (defined_types n n.algs) in
      omega (arith, events-length, both, types)

  shown-at : (i : ℕ) (t : StTy) → slice_get (defined_types n n.algs) i ≡ Some t → IsAt (net_program n cs U C).vars letter.T class.Plain (first_place n) (shown_first n cs + i) (if_face t)
  shown-at i t is =
      let number : 2 + (length of_events + i) ≡ shown_first n cs + i = omega (arith, events-length) in
      subst (λ k. IsAt (net_program n cs U C).vars letter.T class.Plain (first_place n) k (if_face t)) number
      (own-at (2 + (length of_events + i)) (if_face t)
      (get-right mark_and_counter all_faces (length of_events + i) ∙ get-right of_events (shown_faces n) i ∙ slice_get-map if_face (defined_types n n.algs) i ∙ ap (option_map if_face) is))

  pub shown-declares : Declares (net_program n cs U C).vars (net_naming n fired) (first_place n) (shown_first n cs) (defined_types n n.algs)
  shown-declares =
      declares-from (net_program n cs U C).vars (net_naming n fired) (first_place n) (shown_first n cs) (defined_types n n.algs)
      (λ i t is. let at = shown-at i t is in (ap (option_map head_of) at.declared, at.place))
