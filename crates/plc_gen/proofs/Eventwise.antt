-- The own variables of an event from its outline, and the parts of events one after another.
use Rattle.std.proofs.Common.{◌≡◌, ℕ, zero, suc, ◌+◌, ◌-◌, ◌<◌, List, [], ◌∷◌, ◌++◌, map, length, take, drop, sym, ap, ap₂, subst, ◌∙◌, arith}
use Rattle.std.specs.List.{AllByRecursion, enumerate_from, range_with_len}
use Rattle.std.proofs.lemmas.Grind.{flat_map-append}
use Rattle.std.proofs.lemmas.List.{append-nil, append_assoc, drop-map, map-append, take-map}
use Rattle.std.proofs.lemmas.List.FromFn.{length-enumerate_from}
use Rattle.std.proofs.Math.ListN.{length-append}
use Rattle.cif_system.proofs.Lists.{map-length}
use Rattle.cif_net_model.specs.Listing.{NetChoice}
use Rattle.cif_net_model.specs.Net.{Net}
use Rattle.st_ast.specs.declared.tree.StTy.{StTy}
use Rattle.st_ast.specs.declared.tree.StVar.{StVar}
use Rattle.st_ast.specs.declared.tree.StClass.TheVariants as class
use Rattle.plc_model.specs.declared.letter.Letter.TheVariants as letter
use Rattle.plc_model.specs.Face.{declaration}
use Rattle.plc_frame.specs.Events.{choices_of}
use Rattle.plc_frame.specs.Given.{EventPart, own_variables, part_tree}
use Rattle.plc_frame.specs.declared.given.Part.{Part}
use Rattle.plc_event_model.specs.Own.{faces_sent, if_face, new_face}
use Rattle.plc_event_model.specs.Parts.{event_faces}
use Rattle.plc_event_model.specs.ProgramParts.{part_for, parts_from}
use Rattle.plc_gen.specs.Order.{Ascending, leading}
use Rattle.plc_gen.specs.Outlines.{declared_from, done_if, outlined_faces, range_if}
use Rattle.plc_gen.specs.declared.faces.Outline.{Outline}
use Rattle.plc_gen.proofs.Facing.{declared-all}
use Rattle.plc_gen.proofs.Sorted.{here-is, later-ascends, later-has, parts-later}

-- ---- declarations

-- the own variables of an event, from what each step adds
pub outlined-all : (n : Net) (x : Outline) (first b c d e : ℕ) (vars : List ℕ) (types : List StTy) (v vb vc vd ve all : List StVar)
    → v ≡ [] → vb ≡ v ++ declared_from first (done_if x.has_mark) → b ≡ first + length (done_if x.has_mark)
    → vc ≡ vb ++ declared_from b (range_if x.tests_range) → c ≡ b + length (range_if x.tests_range)
    → vars ≡ x.vars → vd ≡ vc ++ declared_from c (map (new_face n) vars) → d ≡ c + length vars
    → ve ≡ vd ++ declared_from d (faces_sent x.sent) → e ≡ d + length (faces_sent x.sent)
    → types ≡ x.types → all ≡ ve ++ declared_from e (map if_face types)
    → all ≡ declared_from first (outlined_faces n x)
outlined-all n x first b c d e vars types v vb vc vd ve all none vb_is b_is vc_is c_is vars_are vd_is d_is ve_is e_is types_are all_is =
    declared-all first (done_if x.has_mark) (range_if x.tests_range) (map (new_face n) vars) (faces_sent x.sent) (map if_face types) b c d e vb vc vd ve all b_is c_is
    (d_is ∙ ap (λ k. c + k) (sym (map-length (new_face n) vars))) e_is
    (vb_is ∙ ap (λ vs. vs ++ declared_from first (done_if x.has_mark)) none) vc_is vd_is ve_is all_is
    ∙ ap₂ (λ (vs : List ℕ) (ts : List StTy). declared_from first (done_if x.has_mark ++ (range_if x.tests_range ++ (map (new_face n) vs ++ (faces_sent x.sent ++ map if_face ts))))) vars_are types_are

-- ---- what holds of all holds of some

pub all-first : {A : Type 0} (P : A → Type 0) (k : ℕ) (xs : List A) → AllByRecursion P xs → AllByRecursion P (take k xs)
all-first P zero xs all = tt
all-first P (suc k) [] all = tt
all-first P (suc k) (x ∷ xs) all = (all.0, all-first P k xs all.1)

pub all-later : {A : Type 0} (P : A → Type 0) (k : ℕ) (xs : List A) → AllByRecursion P xs → AllByRecursion P (drop k xs)
all-later P zero xs all = all
all-later P (suc k) [] all = tt
all-later P (suc k) (x ∷ xs) all = all-later P k xs all.1

-- the first of some, and what is left, as something else
pub first-as : {A B : Type 0} (f : A → B) (xs ys : List A) (k j : ℕ) → ys ≡ take k xs → k ≡ j → map f ys ≡ take j (map f xs)
first-as f xs ys k j is count = ap (map f) is ∙ sym (take-map f k xs) ∙ ap (λ i. take i (map f xs)) count

pub left-as : {A B : Type 0} (f : A → B) (xs ys : List A) (k j : ℕ) → ys ≡ drop k xs → k ≡ j → map f ys ≡ drop j (map f xs)
left-as f xs ys k j is count = ap (map f) is ∙ sym (drop-map f k xs) ∙ ap (λ i. drop i (map f xs)) count

-- ---- parts

-- one more part, from what is kept and what was made
pub pushed-as : (done pushed : List Part) (part item : Part) → pushed ≡ done ++ item ∷ [] → item ≡ part → map part_tree pushed ≡ map part_tree done ++ part_tree part ∷ []
pushed-as done pushed part item is same = ap (map part_tree) (is ∙ ap (λ (p : Part). done ++ p ∷ []) same) ∙ map-append part_tree done (part ∷ [])

-- where no event is left, what is done is all
pub all-done : (n : Net) (rest : List NetChoice) (next event : ℕ) (done all : List EventPart) → length n.events - event ≡ 0
    → done ++ parts_from n rest next (range_with_len event (length n.events - event)) ≡ all → done ≡ all
all-done n rest next event done all none h = sym (append-nil done) ∙ ap (λ (k : ℕ). done ++ parts_from n rest next (range_with_len event k)) (sym none) ∙ h

-- the own variables of one more part
pub own-more : (done pushed : List EventPart) (part : EventPart) (next more : ℕ) → pushed ≡ done ++ part ∷ [] → next ≡ 2 + length (own_variables done)
    → more ≡ next + length part.own → more ≡ 2 + length (own_variables pushed)
own-more done pushed part next more pushed_is next_is more_is =
    let all : length (own_variables pushed) ≡ length (own_variables done) + length (own_variables (part ∷ [])) =
    ap (λ ps. length (own_variables ps)) pushed_is
    ∙ ap (λ (vs : List StVar). length vs) (flat_map-append (λ (x : EventPart). x.own) done (part ∷ []))
    ∙ length-append (own_variables done) (own_variables (part ∷ [])) in
    let one : length (own_variables (part ∷ [])) ≡ length part.own + 0 = length-append part.own [] in
    omega (arith, all, one, next_is, more_is)

-- the choices of the least event, and those of later events
module _ (n : Net) (all here later : List NetChoice) (event next : ℕ) (ascending : Ascending event all) (here_is : here ≡ take (leading event all) all)
    (later_is : later ≡ drop (leading event all) all) where
  are-here : choices_of all event ≡ here
  are-here = here-is event all ascending ∙ sym here_is

  pub still-ascends : Ascending (event + 1) later
  still-ascends = subst (Ascending (event + 1)) (sym later_is) (later-ascends event all ascending)

  module _ (part : EventPart) (is : part ≡ part_for n next here) where
    own-count : length part.own ≡ length (event_faces n here)
    own-count =
        ap (λ (p : EventPart). length p.own) is
        ∙ map-length (declaration letter.T class.Plain) (enumerate_from next (event_faces n here))
        ∙ length-enumerate_from next (event_faces n here)

    left : (more m : ℕ) → more ≡ next + length part.own → part ∷ parts_from n later more (range_with_len (event + 1) m) ≡ parts_from n all next (range_with_len event (suc m))
    left more m more_is =
        ap₂ (λ (p : EventPart) (ps : List EventPart). p ∷ ps) (is ∙ ap (part_for n next) (sym are-here))
        (ap₂ (λ (cs : List NetChoice) (k : ℕ). parts_from n cs k (range_with_len (event + 1) m)) later_is
        (more_is ∙ ap (λ k. next + k) (own-count ∙ ap (λ (cs : List NetChoice). length (event_faces n cs)) (sym are-here)))
        ∙ sym (parts-later n all (drop (leading event all) all) m (event + 1) (next + length (event_faces n (choices_of all event))) (λ d h. later-has event d all (omega (arith, h)))))

    -- one more part is done, and the parts of later events are left
    pub parts-more : (done pushed : List EventPart) (events more : ℕ) → pushed ≡ done ++ part ∷ [] → more ≡ next + length part.own → event < events
        → pushed ++ parts_from n later more (range_with_len (event + 1) (events - (event + 1))) ≡ done ++ parts_from n all next (range_with_len event (events - event))
    parts-more done pushed events more pushed_is more_is before =
        let size : suc (events - (event + 1)) ≡ events - event = omega (arith, before) in
        ap (λ ps. ps ++ parts_from n later more (range_with_len (event + 1) (events - (event + 1)))) pushed_is
        ∙ append_assoc done (part ∷ []) (parts_from n later more (range_with_len (event + 1) (events - (event + 1))))
        ∙ ap (λ ps. done ++ ps) (left more (events - (event + 1)) more_is ∙ ap (λ m. parts_from n all next (range_with_len event m)) size)
