-- The program of a net breaks no check, and has a spelling where its updates nest no deeper than is allowed.
use Rattle.std.proofs.Common.{◌≡◌, ℕ, zero, suc, ◌+◌, ◌<◌, ◌≤◌, pos, true, ◌&&◌, List, [], ◌∷◌, ◌++◌, map, length, Option, Some, None, refl, sym, ap, subst, ◌∙◌, arith}
use Rattle.std.specs.Prelude.{is_some, nat_eq, option_map, slice_get}
use Rattle.std.specs.List.{AllByRecursion, list_all, range_with_len}
use Rattle.std.proofs.lemmas.Option.{slice_get-map}
use Rattle.cif_base.specs.declared.types.Ty.{Ty}
use Rattle.cif_base.specs.declared.types.Ty.TheVariants as cif_ty
use Rattle.cif_system.specs.System.{con, unc}
use Rattle.cif_system.specs.Scan.{of_class}
use Rattle.cif_system.proofs.Lists.{none-some}
use Rattle.cif_system.proofs.Picks.{all-at, and-left, and-right}
use Rattle.cif_net_model.specs.Net.{NetAuto, NetStored, Net}
use Rattle.cif_net_model.specs.Facts.{auto_stands, is_net, stored_stands}
use Rattle.cif_net_model.specs.Kinds.{places_of}
use Rattle.cif_net_model.specs.Listing.{NetChoice}
use Rattle.cif_net_model.specs.Meaning.{system_of_net}
use Rattle.st_ast.specs.Tree.{Program, Stms, append, equal, named, no_stms, number, stms_of}
use Rattle.st_ast.specs.Names.{declared}
use Rattle.st_ast.specs.Checks.{check_faults, sort_of_type, stms_faults}
use Rattle.st_ast.specs.Spelled.{are_declarations, are_stms, is_name, is_spelled, is_type_spelled}
use Rattle.st_ast.specs.Tokens.{greatest}
use Rattle.st_ast.specs.declared.tree.StVar.{StVar}
use Rattle.st_ast.specs.declared.tree.StClass.TheVariants as class
use Rattle.plc_model.specs.declared.letter.Letter.{Letter}
use Rattle.plc_model.specs.declared.letter.Letter.TheVariants as letter
use Rattle.plc_model.specs.Names.{name_for}
use Rattle.plc_model.specs.Face.{Face, declaration, places_of as face_places}
use Rattle.plc_model.specs.Frame.{Part, fired, latches_of, part_of, part_or_none}
use Rattle.plc_frame.specs.Faces.{face_of_net, st_type, stored_face}
use Rattle.plc_frame.specs.Places.{place_name}
use Rattle.plc_frame.specs.Events.{choices_of}
use Rattle.plc_frame.specs.Variables.{all_shown_by, outputs_of}
use Rattle.plc_frame.specs.Given.{asked, program_with}
use Rattle.plc_frame.specs.Small.{is_small}
use Rattle.plc_frame.proofs.Checking.{AllChecked, all-checked}
use Rattle.plc_frame.proofs.Choosing.{all-filter}
use Rattle.plc_frame.proofs.Declaring.{AllDeclared, AllOf, declared-at}
use Rattle.plc_frame.proofs.Facts.{Standing, ends-within, few-places, first-inside, standing}
use Rattle.plc_frame.proofs.Framing.{algs-declared, body-checked, mark_declared, place-declared, stms_of-append}
use Rattle.plc_frame.proofs.Moving.{faces}
use Rattle.plc_frame.proofs.Spelling.{FaceSpelled, append-spelled, both-true, copies-spelled, frame-spelled, place-face-spelled}
use Rattle.plc_expr.specs.Sorts.{HasSort, NamesHaveSorts, OwnIs, is_bool_type, sort_by}
use Rattle.plc_event_model.specs.Own.{net_naming, path_of}
use Rattle.plc_event_model.specs.Parts.{event_part, event_faces}
use Rattle.plc_event_model.proofs.Parts.{one-type}
use Rattle.plc_event_model.proofs.Trying.{of-event}
use Rattle.plc_event_model.specs.Definitions.{IsDefinition}
use Rattle.plc_event_model.specs.ProgramParts.{HasParts, net_parts, net_program, parts_from, shown_faces, shown_first, shown_text}
use Rattle.plc_event_model.proofs.Defined.{all-defined}
use Rattle.cif_net_model.specs.Nesting.{is_shallow}
use Rattle.plc_gen_laws.proofs.Checked.{algs-checked, declared-parts, part-checked}
use Rattle.plc_gen_laws.proofs.Faces.{AllGood, Good, all-both, all-sound, all-spelled, faces-good, shown-good}
use Rattle.plc_gen_laws.proofs.Literals.{stored-spelled, type-spelled}
use Rattle.plc_gen_laws.proofs.Nested.{Shallow, all-shallow}
use Rattle.plc_gen_laws.proofs.OwnNames.{all_faces, declared_from, events_faces, faces_of, few-faces, first-is, own-is}
use Rattle.plc_gen_laws.proofs.Told.{Told, all-told}
use Rattle.plc_gen_laws.proofs.Variables.{inputs-declared, own-declared, own-letters, values-declared, vars-checked, vars-spelled}
use Rattle.plc_gen_laws.proofs.Worded.{part-spelled, shown-spelled}

-- ---- the parts

module _ (n : Net) (cs : List NetChoice) where
  -- what holds of the statements of each event, holds of the part of each number
  every-part : (P : Stms → Type 0) (vars : List StVar) → P no_stms
      → ((j e : ℕ) → AllDeclared vars letter.T class.Plain j (event_faces n (choices_of cs e)) → P (event_part n j (choices_of cs e)).body)
      → (j : ℕ) (es : List ℕ) → AllDeclared vars letter.T class.Plain j (faces_of n cs es) → (k : ℕ) → P (part_or_none (slice_get (map asked (parts_from n cs j es)) k)).body
  every-part P vars none each j [] all k = none
  every-part P vars none each j (e ∷ es) all zero = each j e (declared-parts vars letter.T class.Plain j (event_faces n (choices_of cs e)) (faces_of n cs es) all).0
  every-part P vars none each j (e ∷ es) all (suc k) =
      every-part P vars none each (j + length (event_faces n (choices_of cs e))) es (declared-parts vars letter.T class.Plain j (event_faces n (choices_of cs e)) (faces_of n cs es) all).1 k

-- ---- names

sort-of-stored : (t : Ty) → sort_of_type (st_type t) ≡ sort_by (is_bool_type t)
sort-of-stored cif_ty.Bool = refl
sort-of-stored (cif_ty.Int lo hi) = refl
sort-of-stored (cif_ty.Enum size) = refl

module _ (vars : List StVar) (l : Letter) (xs : List NetStored) (all : AllDeclared vars l class.Plain 0 (map stored_face xs)) where
  stored-declared : (k : ℕ) (d : NetStored) → slice_get xs k ≡ Some d → declared vars (name_for l k (path_of xs k)) ≡ Some (declaration l class.Plain (k, stored_face d))
  stored-declared k d at =
      let number : 0 + k ≡ k = omega arith in
      subst (λ x. declared vars x ≡ Some (declaration l class.Plain (k, stored_face d))) (sym (ap (λ (o : Option NetStored). name_for l k (elim o [ None ↦ [] | Some v ↦ v.path ])) at))
      (subst (λ i. declared vars (name_for l i d.path) ≡ Some (declaration l class.Plain (i, stored_face d))) number
      (declared-at vars l class.Plain 0 (map stored_face xs) k (stored_face d) all (slice_get-map stored_face xs k ∙ ap (option_map stored_face) at)))

  stored-sort : (k : ℕ) (d : NetStored) → slice_get xs k ≡ Some d → HasSort vars (named (name_for l k (path_of xs k))) (is_bool_type d.type_of)
  stored-sort k d at =
      let is = stored-declared k d at in
      (ap is_some is, ap (option_map (λ (v : StVar). sort_of_type v.ty)) is ∙ ap Some (sort-of-stored d.type_of))

  stored-own : (k : ℕ) (d : NetStored) → slice_get xs k ≡ Some d → OwnIs vars (name_for l k (path_of xs k)) (st_type d.type_of)
  stored-own k d at = record { variable = declaration l class.Plain (k, stored_face d); is_declared = stored-declared k d at; type_is = refl; can = refl }

-- an automaton with a place is there
auto-there : (xs : List NetAuto) (a p : ℕ) → p < places_of (slice_get xs a) → (x : NetAuto) × (slice_get xs a ≡ Some x)
auto-there xs a p h = go (slice_get xs a) refl h
  where
    go : (o : Option NetAuto) → slice_get xs a ≡ o → p < places_of o → (x : NetAuto) × (slice_get xs a ≡ Some x)
    go None at h = absurd (omega (arith, h))
    go (Some x) at h = (x, at)

-- ---- the program

module _ (n : Net) (cs : List NetChoice) (U C : ℕ) (has : HasParts n cs U C) where
  abbrev face : Face
  face = face_of_net n

  net : is_net n ≡ true
  net = and-left _ _ (and-left _ _ (and-left _ _ has.plain))

  facts : Standing n
  facts = standing n net

  definitions : AllByRecursion (IsDefinition n) n.algs
  definitions = all-defined n has.plain

  few : length (all_faces n cs) ≤ 2147483646
  few = few-faces n cs has.few_own

  all-good : AllGood (all_faces n cs)
  all-good = all-both Good (events_faces n cs) (shown_faces n) (faces-good n facts.vars has.small_variables cs (range_with_len 0 (length n.events))) (shown-good n)

  told : AllByRecursion (Told n) cs
  told = all-told n cs has.plain has.guarded

  told-of : (e : ℕ) → AllByRecursion (Told n) (choices_of cs e)
  told-of e = all-filter (Told n) (λ (c : NetChoice). nat_eq c.event e) cs told

  abbrev parts : List Part
  parts = map asked (net_parts n cs)

  -- the statements that show the algebraic variables
  abbrev last : Stms
  last = shown_text (net_naming n fired) 0 (shown_first n cs) n.algs

  -- with its own variables in one list
  abbrev p : Program
  p = program_with n (declared_from 2 (all_faces n cs)) parts last U C

  program-same : net_program n cs U C ≡ p
  program-same = ap (λ (vs : List StVar). program_with n vs parts last U C) (own-is n cs)

  letters : AllOf letter.T class.Plain (declared_from 2 (all_faces n cs))
  letters = own-letters n (all_faces n cs) net few

  owns : AllDeclared p.vars letter.T class.Plain 2 (all_faces n cs)
  owns = own-declared n (all_faces n cs) net few

  -- those of the events, and those of the algebraic variables
  both-owns : AllDeclared p.vars letter.T class.Plain 2 (events_faces n cs) × AllDeclared p.vars letter.T class.Plain (2 + length (events_faces n cs)) (shown_faces n)
  both-owns = declared-parts p.vars letter.T class.Plain 2 (events_faces n cs) (shown_faces n) owns

  shown-owns : AllDeclared p.vars letter.T class.Plain (shown_first n cs) (shown_faces n)
  shown-owns = subst (λ j. AllDeclared p.vars letter.T class.Plain j (shown_faces n)) (sym (first-is n cs)) both-owns.1

  values : AllDeclared p.vars letter.V class.Plain 0 (map stored_face n.vars)
  values = values-declared n (all_faces n cs) net few

  inputs : AllDeclared p.vars letter.H class.Plain 0 (map stored_face n.inputs)
  inputs = inputs-declared n (all_faces n cs) net few

  -- ---- checks

  located-sort : (a k : ℕ) → k < places_of (slice_get n.autos a) → HasSort p.vars (equal (named (place_name n a)) true (number (pos k))) true
  located-sort a k inside =
      let there = auto-there n.autos a k inside in
      let d = place-declared n (declared_from 2 (all_faces n cs)) parts last U C net has.plain letters a there.0 there.1 in
      (rw d refl, rw d refl)

  names-sorted : NamesHaveSorts p.vars (net_naming n fired) n None
  names-sorted = record {
    located = located-sort;
    variable = stored-sort p.vars letter.V n.vars values;
    input = stored-sort p.vars letter.H n.inputs inputs;
    received = λ t none. absurd (none-some t none);
  }

  parts-checked : (k : ℕ) → AllChecked p.vars (part_of parts k).body
  parts-checked k =
      every-part n cs (AllChecked p.vars) p.vars tt
      (λ j e all.
      part-checked n p.vars names-sorted (stored-own p.vars letter.V n.vars values) (place-declared n (declared_from 2 (all_faces n cs)) parts last U C net has.plain letters)
      (mark_declared n (declared_from 2 (all_faces n cs)) parts last U C net has.plain letters) (choices_of cs e) j all (told-of e) (one-type n e (choices_of cs e) (of-event cs e))) 2 (range_with_len 0 (length n.events)) both-owns.0 k

  last-checked : AllChecked p.vars last
  last-checked =
      algs-checked n p.vars names-sorted (stored-own p.vars letter.V n.vars values) (place-declared n (declared_from 2 (all_faces n cs)) parts last U C net has.plain letters)
      (mark_declared n (declared_from 2 (all_faces n cs)) parts last U C net has.plain letters) (shown_first n cs) n.algs definitions
      (algs-declared n (declared_from 2 (all_faces n cs)) parts last U C net has.plain letters) shown-owns

  body : AllChecked p.vars p.body
  body = body-checked n (declared_from 2 (all_faces n cs)) parts last U C net has.plain letters parts-checked last-checked

  pub program-checked : check_faults (net_program n cs U C) ≡ []
  program-checked =
      subst (λ (q : Program). check_faults q ≡ []) (sym program-same)
      (ap (λ fs. fs ++ stms_faults p.vars 0 p.body) (vars-checked n (all_faces n cs) net few (all-sound (all_faces n cs) all-good)) ∙ all-checked p.vars 0 p.body body)

  -- ---- the spelling

  types-spelled : (v : ℕ) (d : NetStored) → slice_get n.vars v ≡ Some d → is_type_spelled (st_type d.type_of) ≡ true
  types-spelled v d at =
      type-spelled d.type_of (and-left _ _ (and-left _ _ (all-at stored_stands n.vars v d facts.vars at))) (all-at (λ (q : NetStored). is_small q.type_of) n.vars v d has.small_variables at)

  places-spelled : (xs : List NetAuto) → list_all (auto_stands n) xs ≡ true → ((k : ℕ) → places_of (slice_get xs k) ≤ greatest) → AllByRecursion FaceSpelled (faces xs)
  places-spelled [] h below = tt
  places-spelled (a ∷ xs) h below = (place-face-spelled a (first-inside n a (and-left _ _ h)) (below 0), places-spelled xs (and-right _ _ h) (λ k. below (suc k)))

  variables-spelled : are_declarations p.vars ≡ true
  variables-spelled =
      vars-spelled n (all_faces n cs) net few (places-spelled n.autos facts.autos (few-places n net)) (stored-spelled n.vars facts.vars has.small_variables)
      (stored-spelled n.inputs facts.inputs has.small_inputs) (all-spelled (all_faces n cs) all-good)

  outputs-spelled : are_stms 400 (outputs_of face) ≡ true
  outputs-spelled =
      subst (λ ss. are_stms 400 ss ≡ true) (sym (stms_of-append (all_shown_by letter.P letter.L (face_places face)) (all_shown_by letter.Q letter.V face.variables)))
      (append-spelled 400 (stms_of (all_shown_by letter.P letter.L (face_places face))) (stms_of (all_shown_by letter.Q letter.V face.variables))
      (copies-spelled letter.P letter.L 400 0 (face_places face)) (copies-spelled letter.Q letter.V 400 0 face.variables))

  module _ (shallow : is_shallow n ≡ true) where
    shallow-of : (e : ℕ) → AllByRecursion (λ (c : NetChoice). Shallow c.writes) (choices_of cs e)
    shallow-of e = all-filter (λ (c : NetChoice). Shallow c.writes) (λ (c : NetChoice). nat_eq c.event e) cs (all-shallow n cs shallow has.guarded)

    parts-spelled : (k : ℕ) → are_stms 399 (part_of parts k).body ≡ true
    parts-spelled k =
        every-part n cs (λ ss. are_stms 399 ss ≡ true) p.vars refl
        (λ j e all. part-spelled n (few-places n net) (ends-within n facts) types-spelled (choices_of cs e) j (told-of e) (shallow-of e)) 2 (range_with_len 0 (length n.events)) both-owns.0 k

    body-spelled : are_stms 400 p.body ≡ true
    body-spelled =
        frame-spelled (latches_of face) (λ e. (part_of parts e).body) (of_class (system_of_net n) unc) (of_class (system_of_net n) con) U C (append (outputs_of face) last) has.unc has.con
        (copies-spelled letter.H letter.I 400 0 face.inputs) parts-spelled
        (append-spelled 400 (outputs_of face) last outputs-spelled (shown-spelled n (few-places n net) 0 (shown_first n cs) n.algs definitions))

    pub program-spelled : is_spelled (net_program n cs U C) ≡ true
    program-spelled =
        subst (λ (q : Program). is_spelled q ≡ true) (sym program-same)
        (both-true (is_name p.name) (are_declarations p.vars && are_stms 400 p.body) refl (both-true (are_declarations p.vars) (are_stms 400 p.body) variables-spelled body-spelled))
