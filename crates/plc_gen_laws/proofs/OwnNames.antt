-- The own variables of all events, and those of the algebraic variables, are declared one after another, numbered from 2 on.
use Rattle.std.proofs.Common.{◌≡◌, ℕ, suc, ◌+◌, ◌≤◌, List, [], ◌∷◌, ◌++◌, map, length, refl, sym, ap, subst, ◌∙◌, arith}
use Rattle.std.specs.List.{AllByRecursion, enumerate_from, range_with_len}
use Rattle.std.proofs.lemmas.List.{map-append}
use Rattle.cif_net_model.specs.Net.{Net}
use Rattle.cif_net_model.specs.Listing.{NetChoice}
use Rattle.st_ast.specs.declared.tree.StVar.{StVar}
use Rattle.st_ast.specs.declared.tree.StClass.TheVariants as class
use Rattle.plc_model.specs.declared.letter.Letter.TheVariants as letter
use Rattle.plc_model.specs.Face.{VariableFace, declaration}
use Rattle.plc_frame.specs.Events.{choices_of}
use Rattle.plc_frame.specs.Given.{IsOwnVariable, own_variables}
use Rattle.plc_event_model.specs.Parts.{event_faces}
use Rattle.plc_event_model.specs.ProgramParts.{HasParts, all_own, parts_from, shown_faces, shown_first}

-- the own variables of these events
abbrev pub faces_of : Net → List NetChoice → List ℕ → List VariableFace
faces_of n cs [] = []
faces_of n cs (e ∷ es) = event_faces n (choices_of cs e) ++ faces_of n cs es

abbrev pub events_faces : Net → List NetChoice → List VariableFace
events_faces n cs = faces_of n cs (range_with_len 0 (length n.events))

-- with those of the algebraic variables
abbrev pub all_faces : Net → List NetChoice → List VariableFace
all_faces n cs = events_faces n cs ++ shown_faces n

-- own variables, numbered from j on
abbrev pub declared_from : ℕ → List VariableFace → List StVar
declared_from j xs = map (declaration letter.T class.Plain) (enumerate_from j xs)

enumerate-append : (j : ℕ) (xs ys : List VariableFace) → enumerate_from j (xs ++ ys) ≡ enumerate_from j xs ++ enumerate_from (j + length xs) ys
enumerate-append j [] ys = let e : j ≡ j + 0 = omega arith in ap (λ i. enumerate_from i ys) e
enumerate-append j (x ∷ xs) ys =
    let e : (j + 1) + length xs ≡ j + suc (length xs) = omega arith in
    ap (λ r. (j, x) ∷ r) (enumerate-append (j + 1) xs ys) ∙ ap (λ i. (j, x) ∷ (enumerate_from (j + 1) xs ++ enumerate_from i ys)) e

own-from : (n : Net) (cs : List NetChoice) (j : ℕ) (es : List ℕ) → own_variables (parts_from n cs j es) ≡ declared_from j (faces_of n cs es)
own-from n cs j [] = refl
own-from n cs j (e ∷ es) =
    let here : List VariableFace = event_faces n (choices_of cs e) in
    ap (λ r. declared_from j here ++ r) (own-from n cs (j + length here) es)
    ∙ sym (map-append (declaration letter.T class.Plain) (enumerate_from j here) (enumerate_from (j + length here) (faces_of n cs es)))
    ∙ ap (map (declaration letter.T class.Plain)) (sym (enumerate-append j here (faces_of n cs es)))

declared-length : (j : ℕ) (xs : List VariableFace) → length (declared_from j xs) ≡ length xs
declared-length j [] = refl
declared-length j (x ∷ xs) = ap suc (declared-length (j + 1) xs)

declared-append : (j : ℕ) (xs ys : List VariableFace) → declared_from j (xs ++ ys) ≡ declared_from j xs ++ declared_from (j + length xs) ys
declared-append j xs ys =
    ap (map (declaration letter.T class.Plain)) (enumerate-append j xs ys)
    ∙ map-append (declaration letter.T class.Plain) (enumerate_from j xs) (enumerate_from (j + length xs) ys)

-- where those of the algebraic variables begin
pub first-is : (n : Net) (cs : List NetChoice) → shown_first n cs ≡ 2 + length (events_faces n cs)
first-is n cs = ap (λ (vs : List StVar). 2 + length vs) (own-from n cs 2 (range_with_len 0 (length n.events))) ∙ ap (λ l. 2 + l) (declared-length 2 (events_faces n cs))

pub own-is : (n : Net) (cs : List NetChoice) → all_own n cs ≡ declared_from 2 (all_faces n cs)
own-is n cs =
    ap (λ (vs : List StVar). vs ++ declared_from (shown_first n cs) (shown_faces n)) (own-from n cs 2 (range_with_len 0 (length n.events)))
    ∙ ap (λ j. declared_from 2 (events_faces n cs) ++ declared_from j (shown_faces n)) (first-is n cs)
    ∙ sym (declared-append 2 (events_faces n cs) (shown_faces n))

-- as many as are numbered in 31 bits beside the mark and the counter
pub few-faces : (n : Net) (cs : List NetChoice) → length (all_own n cs) ≤ 2147483646 → length (all_faces n cs) ≤ 2147483646
few-faces n cs few = let e : length (all_own n cs) ≡ length (all_faces n cs) = ap length (own-is n cs) ∙ declared-length 2 (all_faces n cs) in omega (arith, few, e)

are-own : (j : ℕ) (xs : List VariableFace) → 2 ≤ j → j + length xs ≤ 2147483648 → AllByRecursion IsOwnVariable (declared_from j xs)
are-own j [] above below = tt
are-own j (x ∷ xs) above below = (
  record { number = j; path = x.path; from = above; to = omega (arith, below); name = refl; is_plain = refl },
  are-own (j + 1) xs (omega (arith, above)) (omega (arith, below)),
)

pub own-are-own : (n : Net) (cs : List NetChoice) (U C : ℕ) → HasParts n cs U C → AllByRecursion IsOwnVariable (all_own n cs)
own-are-own n cs U C h =
    let few = few-faces n cs h.few_own in
    subst (AllByRecursion IsOwnVariable) (sym (own-is n cs)) (are-own 2 (all_faces n cs) (omega arith) (omega (arith, few)))
