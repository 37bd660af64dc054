-- What the outputs come to: variables of one letter take over those of another, and the program's outputs are then the places
-- and the values of the state.
use Rattle.std.proofs.Common.{◌≡◌, ℕ, suc, ◌+◌, ◌^◌, ◌<◌, ◌≤◌, ℤ, pos, Bool, true, false, cond, List, [], ◌∷◌, map, filter, length, Some, Ok, get_or, inr, refl, sym, ap, ◌∙◌, arith}
use Rattle.std.specs.Prelude.{IsTrue, slice_get, slice_set, if◌then◌else◌}
use Rattle.std.specs.List.{AllByRecursion, AllZip, enumerate_from}
use Rattle.grammar.specs.Pieces.{Text}
use Rattle.cif_system.specs.System.{in_range}
use Rattle.st_ast.specs.Tree.{Program, named, stms_of}
use Rattle.st_ast.specs.Names.{declared, place_of, same_name}
use Rattle.st_ast.specs.Values.{Memory}
use Rattle.st_ast.specs.Exec.{Ended, exec, exec_one, is_within, type_of}
use Rattle.st_ast.specs.Interface.{is_output, output_values}
use Rattle.st_ast.specs.declared.tree.StVar.{StVar}
use Rattle.st_ast.specs.declared.tree.StClass.{StClass}
use Rattle.st_ast.specs.declared.tree.StTy.{StTy}
use Rattle.st_ast.specs.declared.tree.StTy.TheVariants as ty
use Rattle.st_ast.proofs.Runs.{cons_runs, assign_runs}
use Rattle.st_ast.proofs.NameLaws.{same_name_self}
use Rattle.plc_model.specs.declared.letter.Letter.{Letter}
use Rattle.plc_model.specs.Names.{name_for}
use Rattle.plc_model.specs.Face.{VariableFace, HoldsAt, declaration, range_of}
use Rattle.plc_model.proofs.NameLaws.{letters-differ, names-differ}
use Rattle.plc_model.proofs.FaceLaws.{slice_get-set_same, slice_get-set_other, below, get_or-of, pairwise-length, places-differ, Typed, typed-set}
use Rattle.plc_model.proofs.Latches.{Differ}
use Rattle.plc_frame.specs.Variables.{shown_by}
use Rattle.plc_frame.proofs.Writing.{name_of}
use Rattle.plc_frame.proofs.Choosing.{all-filter}
use Rattle.plc_frame.proofs.Declaring.{AllDeclared}

within-type : (t : StTy) (z : ℤ) → IsTrue (in_range (range_of t) z) → is_within t z ≡ true
within-type ty.Bool z h = refl
within-type ty.Lint z h = refl
within-type (ty.Range lo hi) z h = h

-- these variables, from number k on, hold these numbers
abbrev pub Has : List StVar → Memory → Letter → ℕ → List VariableFace → List ℤ → Type 0
Has vars m l k xs zs = AllZip (λ (x : ℕ × VariableFace) z. slice_get m (place_of vars (name_of l x)) ≡ Some z) (enumerate_from k xs) zs

pub held-has : (p : Program) (m : Memory) (l : Letter) (k : ℕ) (xs : List VariableFace) (zs : List ℤ) → AllZip (HoldsAt p m l) (enumerate_from k xs) zs → Has p.vars m l k xs zs
held-has p m l k [] [] h = tt
held-has p m l k [] (z ∷ zs) h = absurd h
held-has p m l k (x ∷ xs) [] h = absurd h
held-has p m l k (x ∷ xs) (z ∷ zs) h = (h.0.holds, held-has p m l (k + 1) xs zs h.1)

module _ (vars : List StVar) (to from : Letter) (a : StClass) (apart : to ≡ from → ⊥) where
  -- a write to a variable of the one letter leaves those of another
  has-kept : (m : Memory) (k : ℕ) (x : VariableFace) (z : ℤ) → declared vars (name_for to k x.path) ≡ Some (declaration to a (k, x)) → (l : Letter) → (to ≡ l → ⊥) → (j : ℕ) (ys : List VariableFace) (zs : List ℤ)
      → Has vars m l j ys zs → Has vars (slice_set m (place_of vars (name_for to k x.path)) z) l j ys zs
  has-kept m k x z d l other j [] [] h = tt
  has-kept m k x z d l other j [] (w ∷ zs) h = absurd h
  has-kept m k x z d l other j (y ∷ ys) [] h = absurd h
  has-kept m k x z d l other j (y ∷ ys) (w ∷ zs) h = (
    slice_get-set_other m (place_of vars (name_for to k x.path)) (place_of vars (name_for l j y.path)) z
        (λ e. places-differ vars (name_for to k x.path) (name_for l j y.path) (declaration to a (k, x)) d (letters-differ to l k j x.path y.path other) (sym e))
        ∙ h.0,
    has-kept m k x z d l other (j + 1) ys zs h.1,
  )

  -- each number is in the type of its variable
  abbrev pub Fit : List VariableFace → List ℤ → Type 0
  Fit xs zs = AllZip (λ (x : VariableFace) z. IsTrue (in_range (range_of x.ty) z)) xs zs

  pub record Copied (k : ℕ) (xs : List VariableFace) (zs : List ℤ) (n : ℕ) (m : Memory) : Type 0 where
    pub after : Memory
    pub ends : exec vars (stms_of (map (shown_by to from) (enumerate_from k xs))) n m ≡ Ended n after
    pub typed : Typed vars after
    pub has : Has vars after to k xs zs
    pub others : (y : Text) → ((j : ℕ) (path : Text) → k ≤ j → j < 2 ^ 64 → same_name (name_for to j path) y ≡ false) → slice_get after (place_of vars y) ≡ slice_get m (place_of vars y)

  copy-runs : (k : ℕ) (x : VariableFace) (z : ℤ) (n : ℕ) (m : Memory) → declared vars (name_for to k x.path) ≡ Some (declaration to a (k, x)) → slice_get m (place_of vars (name_for from k x.path)) ≡ Some z
      → IsTrue (in_range (range_of x.ty) z) → exec_one vars (shown_by to from (k, x)) n m ≡ Ended n (slice_set m (place_of vars (name_for to k x.path)) z)
  copy-runs k x z n m d read fits =
      assign_runs vars (name_for to k x.path) (named (name_for from k x.path)) (place_of vars (name_for to k x.path)) z n m refl
      (ap Ok (get_or-of m (place_of vars (name_for from k x.path)) z (pos 0) read))
      (ap (λ o. is_within (type_of o) z) d ∙ within-type x.ty z fits)

  pub copied : (k : ℕ) (xs : List VariableFace) (zs : List ℤ) (n : ℕ) (m : Memory) → k + length xs < 2 ^ 64 → AllDeclared vars to a k xs → Has vars m from k xs zs → Fit xs zs → Typed vars m → Copied k xs zs n m
  copied k [] [] n m few d read fits typed = record { after = m; ends = refl; typed = typed; has = tt; others = λ y free. refl }
  copied k [] (z ∷ zs) n m few d read fits typed = absurd read
  copied k (x ∷ xs) [] n m few d read fits typed = absurd read
  copied k (x ∷ xs) (z ∷ zs) n m few d read fits typed =
      let next : Memory = slice_set m (place_of vars (name_for to k x.path)) z in
      let typed_next : Typed vars next = typed-set vars m (place_of vars (name_for to k x.path)) z (declaration to a (k, x)) d.0 fits.0 typed in
      let rest = copied (k + 1) xs zs n next (omega (arith, few)) d.1 (has-kept m k x z d.0 from apart (k + 1) xs zs read.1) fits.1 typed_next in
      let inside = below vars (place_of vars (name_for to k x.path)) (declaration to a (k, x)) d.0 in
      let long = pairwise-length (λ (v : StVar) w. IsTrue (in_range (range_of v.ty) w)) vars m typed in
      record {
        after = rest.after;
        ends = cons_runs vars (shown_by to from (k, x)) (stms_of (map (shown_by to from) (enumerate_from (k + 1) xs))) n n m next (copy-runs k x z n m d.0 read.0 fits.0) ∙ rest.ends;
        typed = rest.typed;
        has = (
          rest.others (name_for to k x.path) (λ j path above small. names-differ to to j k path x.path small (omega (arith, few)) (inr (λ e. omega (arith, above, e))))
              ∙ slice_get-set_same m (place_of vars (name_for to k x.path)) z (omega (arith, inside, long)),
          rest.has,
        );
        others = λ y free.
            rest.others y (λ j path above small. free j path (omega (arith, above)) small)
            ∙ slice_get-set_other m (place_of vars (name_for to k x.path)) (place_of vars y) z
            (λ e. places-differ vars (name_for to k x.path) y (declaration to a (k, x)) d.0 (free k x.path (omega arith) (omega (arith, few))) (sym e));
      }

-- what holds stays so where no variable of the letter has changed
pub has-same : (vars : List StVar) (m after : Memory) (l : Letter) → ((k : ℕ) (path : Text) → slice_get after (place_of vars (name_for l k path)) ≡ slice_get m (place_of vars (name_for l k path)))
    → (k : ℕ) (xs : List VariableFace) (zs : List ℤ) → Has vars m l k xs zs → Has vars after l k xs zs
has-same vars m after l same k [] [] h = tt
has-same vars m after l same k [] (z ∷ zs) h = absurd h
has-same vars m after l same k (x ∷ xs) [] h = absurd h
has-same vars m after l same k (x ∷ xs) (z ∷ zs) h = (same k x.path ∙ h.0, has-same vars m after l same (k + 1) xs zs h.1)

-- ---- the outputs of a memory

-- what is read of a variable by its name
abbrev pub read : List StVar → Memory → StVar → ℤ
read vars m v = get_or m (place_of vars v.name) (pos 0)

read-later : (u : StVar) (vars : List StVar) (z : ℤ) (m : Memory) (vs : List StVar) → AllByRecursion (λ (w : StVar). same_name u.name w.name ≡ false) vs → map (read (u ∷ vars) (z ∷ m)) vs ≡ map (read vars m) vs
read-later u vars z m [] h = refl
read-later u vars z m (v ∷ vs) h =
    ap (λ b. get_or (z ∷ m) (if b then 0 else suc (place_of vars v.name)) (pos 0) ∷ map (read (u ∷ vars) (z ∷ m)) vs) h.0
    ∙ ap (λ r. read vars m v ∷ r) (read-later u vars z m vs h.1)

pub output_values-read : (vars : List StVar) (m : Memory) → Differ vars → length vars ≡ length m → output_values vars m ≡ map (read vars m) (filter (λ (v : StVar). is_output v.class) vars)
output_values-read [] m d long = refl
output_values-read (u ∷ vars) [] d long = absurd (omega (arith, long))
output_values-read (u ∷ vars) (z ∷ m) d long =
    go (is_output u.class) (output_values-read vars m d.1 (omega (arith, long)) ∙ sym (read-later u vars z m (filter (λ (v : StVar). is_output v.class) vars) (all-filter (λ (w : StVar). same_name u.name w.name ≡ false) (λ (v : StVar). is_output v.class) vars d.0)))
  where
    first : read (u ∷ vars) (z ∷ m) u ≡ z
    first = ap (λ b. get_or (z ∷ m) (if b then 0 else suc (place_of vars u.name)) (pos 0)) (same_name_self u.name)

    go : (b : Bool) → output_values vars m ≡ map (read (u ∷ vars) (z ∷ m)) (filter (λ (v : StVar). is_output v.class) vars)
        → cond b (z ∷ output_values vars m) (output_values vars m) ≡ map (read (u ∷ vars) (z ∷ m)) (cond b (u ∷ filter (λ (v : StVar). is_output v.class) vars) (filter (λ (v : StVar). is_output v.class) vars))
    go true rest = ap (λ w. w ∷ output_values vars m) (sym first) ∙ ap (λ r. read (u ∷ vars) (z ∷ m) u ∷ r) rest
    go false rest = rest

-- the outputs of one letter
pub read-has : (vars : List StVar) (m : Memory) (l : Letter) (c : StClass) (k : ℕ) (xs : List VariableFace) (zs : List ℤ) → Has vars m l k xs zs → map (read vars m) (map (declaration l c) (enumerate_from k xs)) ≡ zs
read-has vars m l c k [] [] h = refl
read-has vars m l c k [] (z ∷ zs) h = absurd h
read-has vars m l c k (x ∷ xs) [] h = absurd h
read-has vars m l c k (x ∷ xs) (z ∷ zs) h =
    ap (λ w. w ∷ map (read vars m) (map (declaration l c) (enumerate_from (k + 1) xs))) (get_or-of m (place_of vars (name_for l k x.path)) z (pos 0) h.0)
    ∙ ap (λ r. z ∷ r) (read-has vars m l c (k + 1) xs zs h.1)
