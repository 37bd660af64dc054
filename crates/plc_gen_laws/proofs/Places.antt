-- Where the variables of one letter stand among those of the program: one after another behind those before them, each found
-- by its name.
use Rattle.std.proofs.Common.{◌≡◌, ℕ, zero, suc, ◌+◌, ◌^◌, ◌<◌, true, false, List, [], ◌∷◌, ◌++◌, map, length, Some, inr, sym, ap, subst, ◌∙◌, arith, if◌then◌else◌}
use Rattle.std.specs.Prelude.{slice_get}
use Rattle.std.specs.List.{enumerate_from}
use Rattle.grammar.specs.Pieces.{Text}
use Rattle.cif_system.proofs.Lists.{none-some, some-same}
use Rattle.st_ast.specs.Names.{declared, place_of, same_name}
use Rattle.st_ast.specs.declared.tree.StVar.{StVar}
use Rattle.st_ast.specs.declared.tree.StClass.{StClass}
use Rattle.st_ast.proofs.NameLaws.{same_name_self}
use Rattle.plc_model.specs.declared.letter.Letter.{Letter}
use Rattle.plc_model.specs.Names.{name_for}
use Rattle.plc_model.specs.Face.{VariableFace, declaration}
use Rattle.plc_model.proofs.FaceLaws.{below}
use Rattle.plc_model.proofs.NameLaws.{letters-differ, names-differ}
use Rattle.plc_frame.proofs.Declaring.{AllOf}

-- ---- lists

pub get-left : {A : Type 0} (xs ys : List A) (i : ℕ) (x : A) → slice_get xs i ≡ Some x → slice_get (xs ++ ys) i ≡ Some x
get-left [] ys i x e = absurd (none-some x e)
get-left (z ∷ xs) ys zero x e = e
get-left (z ∷ xs) ys (suc i) x e = get-left xs ys i x e

pub get-right : {A : Type 0} (xs ys : List A) (i : ℕ) → slice_get (xs ++ ys) (length xs + i) ≡ slice_get ys i
get-right [] ys i = let e : 0 + i ≡ i = omega arith in ap (slice_get ys) e
get-right (z ∷ xs) ys i = let e : suc (length xs) + i ≡ suc (length xs + i) = omega arith in ap (slice_get (z ∷ (xs ++ ys))) e ∙ get-right xs ys i

-- ---- places

place-skip : (v : StVar) (vars : List StVar) (x : Text) → same_name v.name x ≡ false → place_of (v ∷ vars) x ≡ suc (place_of vars x)
place-skip v vars x h = ap (λ b. if b then 0 else suc (place_of vars x)) h

place-hit : (v : StVar) (vars : List StVar) (x : Text) → same_name v.name x ≡ true → place_of (v ∷ vars) x ≡ 0
place-hit v vars x h = ap (λ b. if b then 0 else suc (place_of vars x)) h

-- behind variables of another letter
place-behind : (l : Letter) (c : StClass) (vs rest : List StVar) (t : Letter) (k : ℕ) (path : Text) → (l ≡ t → ⊥) → AllOf l c vs → place_of (vs ++ rest) (name_for t k path) ≡ length vs + place_of rest (name_for t k path)
place-behind l c [] rest t k path other all = omega arith
place-behind l c (v ∷ vs) rest t k path other all =
    let skip = place-skip v (vs ++ rest) (name_for t k path) (ap (λ x. same_name x (name_for t k path)) all.0.name ∙ letters-differ l t all.0.number k all.0.path path other) in
    let later = place-behind l c vs rest t k path other all.1 in
    let sum : suc (length vs + place_of rest (name_for t k path)) ≡ suc (length vs) + place_of rest (name_for t k path) = omega arith in
    skip ∙ ap suc later ∙ sum

-- among variables that are numbered from j
place-among : (l : Letter) (c : StClass) (j : ℕ) (ys : List VariableFace) (rest : List StVar) (k : ℕ) (x : VariableFace) → j + length ys < 2 ^ 64 → slice_get ys k ≡ Some x
    → place_of (map (declaration l c) (enumerate_from j ys) ++ rest) (name_for l (j + k) x.path) ≡ k
place-among l c j [] rest k x few at = absurd (none-some x at)
place-among l c j (y ∷ ys) rest zero x few at =
    let name : name_for l j y.path ≡ name_for l (j + 0) x.path = (let number : j ≡ j + 0 = omega arith in ap (λ i. name_for l i y.path) number) ∙ ap (λ (u : VariableFace). name_for l (j + 0) u.path) (some-same y x at) in
    subst (λ q. place_of (map (declaration l c) (enumerate_from j (y ∷ ys)) ++ rest) q ≡ 0) name
    (place-hit (declaration l c (j, y)) (map (declaration l c) (enumerate_from (j + 1) ys) ++ rest) (name_for l j y.path) (same_name_self (name_for l j y.path)))
place-among l c j (y ∷ ys) rest (suc k) x few at =
    let number : (j + 1) + k ≡ j + suc k = omega arith in
    let inside : k < length ys = below ys k x at in
    place-skip (declaration l c (j, y)) (map (declaration l c) (enumerate_from (j + 1) ys) ++ rest) (name_for l (j + suc k) x.path)
    (names-differ l l j (j + suc k) y.path x.path (omega (arith, few)) (omega (arith, few, inside)) (inr (λ e. omega (arith, e))))
    ∙ ap suc (subst (λ i. place_of (map (declaration l c) (enumerate_from (j + 1) ys) ++ rest) (name_for l i x.path) ≡ k) number (place-among l c (j + 1) ys rest k x (omega (arith, few)) at))

-- what stands there
declared-among : (l : Letter) (c : StClass) (j : ℕ) (ys : List VariableFace) (rest : List StVar) (k : ℕ) (x : VariableFace) → slice_get ys k ≡ Some x
    → slice_get (map (declaration l c) (enumerate_from j ys) ++ rest) k ≡ Some (declaration l c (j + k, x))
declared-among l c j [] rest k x at = absurd (none-some x at)
declared-among l c j (y ∷ ys) rest zero x at =
    (let number : j ≡ j + 0 = omega arith in ap (λ i. Some (declaration l c (i, y))) number) ∙ ap (λ (u : VariableFace). Some (declaration l c (j + 0, u))) (some-same y x at)
declared-among l c j (y ∷ ys) rest (suc k) x at =
    let number : (j + 1) + k ≡ j + suc k = omega arith in
    declared-among l c (j + 1) ys rest k x at ∙ ap (λ i. Some (declaration l c (i, x))) number

-- ---- behind three other letters

-- the variable with the number k of the letter stands k places behind those before, and is declared by its name
pub record IsAt (vars : List StVar) (l : Letter) (c : StClass) (before k : ℕ) (x : VariableFace) : Type 0 where
  pub place : place_of vars (name_for l k x.path) ≡ before + k
  pub declared : declared vars (name_for l k x.path) ≡ Some (declaration l c (k, x))

module _ (l : Letter) (c : StClass) (ys : List VariableFace) (few : length ys < 2 ^ 64) where
  abbrev own : List StVar → List StVar
  own rest = map (declaration l c) (enumerate_from 0 ys) ++ rest

  front-at : (rest : List StVar) (k : ℕ) (x : VariableFace) → slice_get ys k ≡ Some x → IsAt (own rest) l c 0 k x
  front-at rest k x at =
      let number : 0 + k ≡ k = omega arith in
      let place : place_of (own rest) (name_for l k x.path) ≡ k = subst (λ i. place_of (own rest) (name_for l i x.path) ≡ k) number (place-among l c 0 ys rest k x (omega (arith, few)) at) in
      record {
        place = place ∙ sym number;
        declared = ap (slice_get (own rest)) place ∙ declared-among l c 0 ys rest k x at ∙ ap (λ i. Some (declaration l c (i, x))) number;
      }

  behind-at : (a : Letter) (b : StClass) (vs rest : List StVar) (before k : ℕ) (x : VariableFace) → (a ≡ l → ⊥) → AllOf a b vs → IsAt rest l c before k x → IsAt (vs ++ rest) l c (length vs + before) k x
  behind-at a b vs rest before k x other all it =
      let place : place_of (vs ++ rest) (name_for l k x.path) ≡ length vs + (before + k) = place-behind a b vs rest l k x.path other all ∙ ap (λ q. length vs + q) it.place in
      record {
        place = place ∙ (let sum : length vs + (before + k) ≡ length vs + before + k = omega arith in sum);
        declared = ap (slice_get (vs ++ rest)) place ∙ get-right vs rest (before + k) ∙ ap (slice_get rest) (sym it.place) ∙ it.declared;
      }

  pub third-at : (a : Letter) (as' : List StVar) (b : Letter) (bs : List StVar) (d : Letter) (ds rest : List StVar) (k : ℕ) (x : VariableFace) → (a ≡ l → ⊥) → (b ≡ l → ⊥) → (d ≡ l → ⊥) → AllOf a c as' → AllOf b c bs → AllOf d c ds → slice_get ys k ≡ Some x
      → IsAt (as' ++ (bs ++ (ds ++ (map (declaration l c) (enumerate_from 0 ys) ++ rest)))) l c (length as' + (length bs + (length ds + 0))) k x
  third-at a as' b bs d ds rest k x other_a other_b other_d all_a all_b all_d at =
      behind-at a c as' (bs ++ (ds ++ own rest)) (length bs + (length ds + 0)) k x other_a all_a
      (behind-at b c bs (ds ++ own rest) (length ds + 0) k x other_b all_b (behind-at d c ds (own rest) 0 k x other_d all_d (front-at rest k x at)))
