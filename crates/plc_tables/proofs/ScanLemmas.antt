-- Scans row by row: the memory that the first rows lead to, and the outputs on the way.
use Rattle.std.proofs.Common.{◌≡◌, ℕ, zero, suc, ◌+◌, ◌<◌, ◌≤◌, ℤ, List, [], ◌∷◌, ◌++◌, length, get_or, Some, refl, sym, ap, subst, ◌∙◌, arith, take_all, add-one}
use Rattle.std.specs.Prelude.{All, map, take, slice_get, true, false, Bool, if◌then◌else◌}
use Rattle.st_ast.specs.Tree.{Program}
use Rattle.st_ast.specs.Values.{Memory}
use Rattle.st_ast.specs.Exec.{Outcome, Ended}
use Rattle.st_ast.specs.Scan.{scan_of, later_memories, when_ended, start_memory}
use Rattle.st_ast.specs.Interface.{is_output, numbers_of, output_values}
use Rattle.st_ast.specs.declared.tree.StVar.{StVar}
use Rattle.st_ast.specs.View.{view}
use Rattle.st_ast.specs.declared.tree.Program as rust
use Rattle.plc_rows.specs.Told.{cells_of}
use Rattle.plc_rows.specs.declared.row.Row.{Row}
use Rattle.plc_tables.specs.Scans.{ComesTo}

-- ---- outputs

-- there are as many values of outputs as outputs
pub outputs_number : (vars : List StVar) (from : ℕ) (m : Memory) → length m ≡ length vars → length (output_values vars m) ≡ length (numbers_of is_output from vars)
outputs_number [] from m e = refl
outputs_number (v ∷ vs) from [] e = absurd (omega arith)
outputs_number (v ∷ vs) from (z ∷ m) e = go (is_output v.class) (outputs_number vs (suc from) m (omega arith))
  where
    go : (b : Bool) → length (output_values vs m) ≡ length (numbers_of is_output (suc from) vs)
        → length (if b then z ∷ output_values vs m else output_values vs m) ≡ length (if b then from ∷ numbers_of is_output (suc from) vs else numbers_of is_output (suc from) vs)
    go true h = ap suc h
    go false h = h

-- one more item of the front of a list
pub one_more : {A : Type 0} (xs : List A) (k : ℕ) (x : A) → slice_get xs k ≡ Some x → take (suc k) xs ≡ take k xs ++ x ∷ []
one_more [] k x e = absurd cc
one_more (y ∷ xs) zero x e = let same : y ≡ x = cc in ap (λ z. z ∷ []) same
one_more (y ∷ xs) (suc k) x e = ap (λ l. y ∷ l) (one_more xs k x e)

-- the outputs up to one, and one more
pub outputs_step : (vars : List StVar) (m : Memory) (k : ℕ) (cells after : List ℤ) (x : ℤ) → cells ≡ take k (output_values vars m) → after ≡ cells ++ x ∷ []
    → slice_get (output_values vars m) k ≡ Some x → after ≡ take (k + 1) (output_values vars m)
outputs_step vars m k cells after x e f g = f ∙ ap (λ l. l ++ x ∷ []) e ∙ sym (one_more (output_values vars m) k x g) ∙ sym (ap (λ n. take n (output_values vars m)) (add-one k))

pub outputs_all : (vars : List StVar) (m : Memory) (k : ℕ) (cells : List ℤ) → cells ≡ take k (output_values vars m) → length m ≡ length vars
    → length (numbers_of is_output 0 vars) ≤ k → cells ≡ output_values vars m
outputs_all vars m k cells e f h =
    let n = outputs_number vars 0 m f in e ∙ take_all k (output_values vars m) (omega (arith, n, h))

-- ---- rows

-- the first k rows lead from the memory to `after`, with these memories after each
abbrev pub Reaches : Program → Memory → List (List ℤ) → ℕ → List Memory → Memory → Type 0
Reaches p m rs zero ms after = (ms ≡ []) × (after ≡ m)
Reaches p m [] (suc k) ms after = ⊥
Reaches p m (r ∷ rs) (suc k) [] after = ⊥
Reaches p m (r ∷ rs) (suc k) (n ∷ ms) after = (left : ℕ) × (scan_of p m r ≡ Ended left n) × Reaches p n rs k ms after

-- one more row
pub reaches_more : (p : Program) (m : Memory) (rs : List (List ℤ)) (k : ℕ) (ms : List Memory) (after : Memory) → Reaches p m rs k ms after
    → (r : List ℤ) → slice_get rs k ≡ Some r → (left : ℕ) (n : Memory) → scan_of p after r ≡ Ended left n → Reaches p m rs (suc k) (ms ++ n ∷ []) n
reaches_more p m [] zero ms after h r e left n s = absurd cc
reaches_more p m (x ∷ rs) zero [] after h r e left n s =
    let row : x ≡ r = cc in
    (left, subst (λ (a : Memory). scan_of p a x ≡ Ended left n) h.1 (ap (scan_of p after) row ∙ s), (refl, refl))
reaches_more p m (x ∷ rs) zero (y ∷ ms) after h r e left n s = let no = h.0 in absurd cc
reaches_more p m [] (suc k) ms after h r e left n s = absurd h
reaches_more p m (x ∷ rs) (suc k) [] after h r e left n s = absurd h
reaches_more p m (x ∷ rs) (suc k) (y ∷ ms) after h r e left n s = (h.0, h.1, reaches_more p y rs k ms after h.2 r e left n s)

-- the next row stops
pub reaches_stop : (p : Program) (m : Memory) (rs : List (List ℤ)) (k : ℕ) (ms : List Memory) (after : Memory) → Reaches p m rs k ms after
    → (r : List ℤ) → slice_get rs k ≡ Some r → (o : Outcome) → scan_of p after r ≡ o → ComesTo p m rs (suc k) o
reaches_stop p m [] zero ms after h r e o s = absurd cc
reaches_stop p m (x ∷ rs) zero ms after h r e o s =
    let row : x ≡ r = cc in subst (λ (a : Memory). scan_of p a x ≡ o) h.1 (ap (scan_of p after) row ∙ s)
reaches_stop p m [] (suc k) ms after h r e o s = absurd h
reaches_stop p m (x ∷ rs) (suc k) [] after h r e o s = absurd h
reaches_stop p m (x ∷ rs) (suc k) (y ∷ ms) after h r e o s = (h.0, y, h.1, reaches_stop p y rs k ms after h.2 r e o s)

-- all rows
pub reaches_all : (p : Program) (m : Memory) (rs : List (List ℤ)) (k : ℕ) (ms : List Memory) (after : Memory) → Reaches p m rs k ms after → k ≡ length rs
    → (later_memories p m rs ≡ ms) × (length ms ≡ length rs)
reaches_all p m [] zero ms after h e = (sym h.0, ap length h.0)
reaches_all p m (r ∷ rs) zero ms after h e = absurd (omega arith)
reaches_all p m [] (suc k) ms after h e = absurd h
reaches_all p m (r ∷ rs) (suc k) [] after h e = absurd h
reaches_all p m (r ∷ rs) (suc k) (n ∷ ms) after h e =
    let rest = reaches_all p n rs k ms after h.2 (omega arith) in
    (ap (λ o. when_ended o (λ x. x ∷ later_memories p x rs)) h.1 ∙ ap (λ l. n ∷ l) rest.0, ap suc rest.1)

length_map : {A B : Type 0} (f : A → B) (xs : List A) → length (map f xs) ≡ length xs
length_map f [] = refl
length_map f (x ∷ xs) = ap suc (length_map f xs)

pub map_more : {A B : Type 0} (f : A → B) (xs : List A) (x : A) → map f (xs ++ x ∷ []) ≡ map f xs ++ f x ∷ []
map_more f [] x = refl
map_more f (y ∷ xs) x = ap (λ l. f y ∷ l) (map_more f xs x)

pub get_map : {A B : Type 0} (f : A → B) (xs : List A) (k : ℕ) (d : A) → k < length xs → slice_get (map f xs) k ≡ Some (f (get_or xs k d))
get_map f [] k d h = absurd (omega arith)
get_map f (x ∷ xs) zero d h = refl
get_map f (x ∷ xs) (suc k) d h = get_map f xs k d (omega arith)

-- ---- rows of a file, and what is shown of them

module _ (program : rust.Program) (rows : List Row) (k : ℕ) (ms : List Memory) (memory : Memory) (machine : rust.Program) (same : machine ≡ program)
    (reaches : Reaches (view program) (start_memory (view program)) (cells_of rows) k ms memory) (row : Row) (is : row ≡ get_or rows k row) (within : k < length rows)
    (cells : List ℤ) (are : cells ≡ row.cells) where
  row_at : slice_get (cells_of rows) k ≡ Some cells
  row_at = get_map (λ (r : Row). r.cells) rows k row within ∙ ap Some (sym (ap (λ (r : Row). r.cells) is) ∙ sym are)

  scanned : (o : Outcome) → scan_of (view machine) memory cells ≡ o → scan_of (view program) memory cells ≡ o
  scanned o e = subst (λ (p : rust.Program). scan_of (view p) memory cells ≡ o) same e

  pub stop_at : (o : Outcome) → scan_of (view machine) memory cells ≡ o → ComesTo (view program) (start_memory (view program)) (cells_of rows) (k + 1) o
  stop_at o e = subst (λ n. ComesTo (view program) (start_memory (view program)) (cells_of rows) n o) (sym (add-one k))
      (reaches_stop (view program) (start_memory (view program)) (cells_of rows) k ms memory reaches cells row_at o (scanned o e))

  pub more_at : (left : ℕ) (after : Memory) → scan_of (view machine) memory cells ≡ Ended left after
      → (shown more : List Row) (item : Row) → cells_of shown ≡ map (output_values program.vars) ms → more ≡ shown ++ item ∷ []
      → (last : rust.Program) → last ≡ machine → item.cells ≡ output_values last.vars after
      → (ns : List Memory) × Reaches (view program) (start_memory (view program)) (cells_of rows) (k + 1) ns after × (cells_of more ≡ map (output_values program.vars) ns)
  more_at left after e shown more item show grew last kept values = (
    ms ++ after ∷ [],
    subst (λ n. Reaches (view program) (start_memory (view program)) (cells_of rows) n (ms ++ after ∷ []) after) (sym (add-one k))
        (reaches_more (view program) (start_memory (view program)) (cells_of rows) k ms memory reaches cells row_at left after (scanned (Ended left after) e)),
    ap cells_of grew ∙ map_more (λ (r : Row). r.cells) shown item
        ∙ ap (λ l. l ++ item.cells ∷ []) show
        ∙ ap (λ v. map (output_values program.vars) ms ++ v ∷ []) (values ∙ ap (λ (p : rust.Program). output_values p.vars after) (kept ∙ same))
        ∙ sym (map_more (output_values program.vars) ms after),
  )

-- at the end of the rows
pub all_rows : (rows : List Row) (k : ℕ) → length rows ≤ k → k ≤ length rows → k ≡ length (cells_of rows)
all_rows rows k h g = let n = length_map (λ (r : Row). r.cells) rows in omega (arith, h, g, n)

-- what is so of all items, and of one more
pub all_more : {A : Type 0} (P : A → Type 0) (xs : List A) (x : A) (ys : List A) → All P xs → P x → ys ≡ xs ++ x ∷ [] → All P ys
all_more P xs x ys h p e = subst (All P) (sym e) (more xs h)
  where
    more : (zs : List _) → All P zs → All P (zs ++ x ∷ [])
    more [] g zero d w = p
    more [] g (suc k) d w = absurd (omega arith)
    more (z ∷ zs) g zero d w = g zero d (omega arith)
    more (z ∷ zs) g (suc k) d w = more zs (λ j e v. g (suc j) e (omega arith)) k d (omega arith)
