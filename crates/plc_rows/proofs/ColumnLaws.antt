-- Names and their columns: one column for each name that is wanted.
use Rattle.std.proofs.Common.{◌≡◌, ℕ, zero, suc, ◌+◌, Bool, true, false, ◌||◌, List, [], ◌∷◌, ◌++◌, map, length, Some, refl, sym, ap, ◌∙◌, arith}
use Rattle.std.specs.Prelude.{slice_get, nat_eq, codes, is_some, find, if◌then◌else◌}
use Rattle.std.specs.List.{list_any}
use Rattle.std.proofs.lemmas.Bool.{false≢true}
use Rattle.std.proofs.lemmas.Bool.Decides.{nat_tests}
use Rattle.grammar.specs.Pieces.{Text, same}
use Rattle.grammar.proofs.Texts.{same_equal, same_flip}
use Rattle.st_ast.specs.declared.tree.StVar.{StVar}
use Rattle.st_ast.specs.Interface.{numbers_of, is_input, inputs_of}
use Rattle.plc_rows.specs.Rows.{wanted, has_text}
use Rattle.plc_rows.specs.Columns.{place, input_column, column_of, ColumnsOf, is_taken}
use Rattle.plc_rows.specs.declared.header.Column.{Column}
use Rattle.plc_rows.specs.declared.header.Column.TheVariants as column
use Rattle.plc_rows.proofs.Checking.{same_text, same_numbers, other_numbers}
use Rattle.plc_rows.proofs.Remaining.{one_some, none_some}

-- ---- a wanted name has a column

input_names : (rank : ℕ) (vs : List StVar) (f : Text) → list_any (same f) (map (λ (v : StVar). v.name) vs) ≡ is_some (input_column rank vs f)
input_names rank [] f = refl
input_names rank (v ∷ vs) f = go (same v.name f) (same_flip f v.name) (input_names (rank + 1) vs f)
  where
    go : (b : Bool) → same f v.name ≡ b → list_any (same f) (map (λ (v : StVar). v.name) vs) ≡ is_some (input_column (rank + 1) vs f)
        → (same f v.name || list_any (same f) (map (λ (v : StVar). v.name) vs)) ≡ is_some (if b then Some (column.Input rank v.ty) else input_column (rank + 1) vs f)
    go true e rest = rw e refl
    go false e rest = rw e rest

pub has_column : (vars : List StVar) (f : Text) → has_text (wanted vars) f ≡ is_some (column_of vars f)
has_column vars f = go (same f (codes "scan"))
  where
    go : (b : Bool) → (b || list_any (same f) (map (λ (v : StVar). v.name) (inputs_of vars))) ≡ is_some (if b then Some column.Scan else input_column 0 (inputs_of vars) f)
    go true = refl
    go false = input_names 0 (inputs_of vars) f

-- ---- the input of a column

-- the input of a name, from inputs of which the first has that rank
pub record InputAt (rank : ℕ) (vs : List StVar) (f : Text) (c : Column) : Type 0 where
  pub at : ℕ
  pub var : StVar
  pub there : slice_get vs at ≡ Some var
  pub name : var.name ≡ f
  pub is : c ≡ column.Input (rank + at) var.ty
  pub first : find (λ (v : StVar). same v.name f) vs ≡ Some var

pub input_at : (rank : ℕ) (vs : List StVar) (f : Text) (c : Column) → input_column rank vs f ≡ Some c → InputAt rank vs f c
input_at rank [] f c e = none_some e
input_at rank (v ∷ vs) f c e = go (same v.name f) refl e (input_at (rank + 1) vs f c)
  where
    go : (b : Bool) → same v.name f ≡ b → (if b then Some (column.Input rank v.ty) else input_column (rank + 1) vs f) ≡ Some c
        → (input_column (rank + 1) vs f ≡ Some c → InputAt (rank + 1) vs f c) → InputAt rank (v ∷ vs) f c
    go true is e more = record {
      at = 0;
      var = v;
      there = refl;
      name = same_equal v.name f is;
      is = sym (one_some e) ∙ ap (λ r. column.Input r v.ty) (omega arith);
      first = rw is refl;
    }
    go false is e more =
        let m = more e in
        record {
          at = suc m.at;
          var = m.var;
          there = m.there;
          name = m.name;
          is = m.is ∙ ap (λ r. column.Input r m.var.ty) (omega arith);
          first = rw is m.first;
        }

-- the column of a name: that of the numbers, or an input's
pub data OfName (vars : List StVar) (f : Text) (c : Column) : Type 0 where
  the_scan : f ≡ codes "scan" → c ≡ column.Scan → OfName vars f c
  an_input : same f (codes "scan") ≡ false → InputAt 0 (inputs_of vars) f c → OfName vars f c

pub of_name : (vars : List StVar) (f : Text) (c : Column) → column_of vars f ≡ Some c → OfName vars f c
of_name vars f c e = go (same f (codes "scan")) refl e
  where
    go : (b : Bool) → same f (codes "scan") ≡ b → (if b then Some column.Scan else input_column 0 (inputs_of vars) f) ≡ Some c → OfName vars f c
    go true is e = the_scan (same_equal f (codes "scan") is) (sym (one_some e))
    go false is e = an_input is (input_at 0 (inputs_of vars) f c e)

pub map_get : {A B : Type 0} (g : A → B) (xs : List A) (i : ℕ) (x : A) → slice_get xs i ≡ Some x → slice_get (map g xs) i ≡ Some (g x)
map_get g [] i x e = none_some e
map_get g (y ∷ xs) zero x e = ap (λ z. Some (g z)) (one_some e)
map_get g (y ∷ xs) (suc i) x e = map_get g xs i x e

-- the place of a column is that of its name among what is wanted
pub placed : (vars : List StVar) (f : Text) (c : Column) → column_of vars f ≡ Some c → slice_get (wanted vars) (place c) ≡ Some f
placed vars f c e = go (of_name vars f c e)
  where
    go : OfName vars f c → slice_get (wanted vars) (place c) ≡ Some f
    go (the_scan n s) = rw s (ap Some (sym n))
    go (an_input n a) =
        let next : 0 + a.at + 1 ≡ suc a.at = omega arith in
        ap (λ (d : Column). slice_get (wanted vars) (place d)) a.is ∙ ap (λ n. slice_get (wanted vars) n) next
        ∙ map_get (λ (v : StVar). v.name) (inputs_of vars) a.at a.var a.there ∙ ap Some a.name

pub one_place : (vars : List StVar) (f g : Text) (c d : Column) → column_of vars f ≡ Some c → column_of vars g ≡ Some d → place c ≡ place d → f ≡ g
one_place vars f g c d e h p = one_some (sym (placed vars f c e) ∙ ap (slice_get (wanted vars)) p ∙ placed vars g d h)

pub one_column : (vars : List StVar) (f g : Text) (c d : Column) → column_of vars f ≡ Some c → column_of vars g ≡ Some d → f ≡ g → c ≡ d
one_column vars f g c d e h p = one_some (sym e ∙ ap (column_of vars) p ∙ h)

-- ---- columns of several names

pub as_many : (vars : List StVar) (names : List Text) (cols : List Column) → ColumnsOf vars names cols → length cols ≡ length names
as_many vars [] [] h = refl
as_many vars [] (c ∷ cols) h = absurd h
as_many vars (f ∷ names) [] h = absurd h
as_many vars (f ∷ names) (c ∷ cols) h = ap suc (as_many vars names cols h.1)

pub one_more : (vars : List StVar) (names : List Text) (cols : List Column) (f : Text) (c : Column) → ColumnsOf vars names cols → column_of vars f ≡ Some c → ColumnsOf vars (names ++ f ∷ []) (cols ++ c ∷ [])
one_more vars [] [] f c h e = (e, tt)
one_more vars [] (d ∷ cols) f c h e = absurd h
one_more vars (g ∷ names) [] f c h e = absurd h
one_more vars (g ∷ names) (d ∷ cols) f c h e = (h.0, one_more vars names cols f c h.1 e)

-- a name is among these where its column's place is taken
pub repeats : (vars : List StVar) (names : List Text) (cols : List Column) (f : Text) (c : Column) → ColumnsOf vars names cols → column_of vars f ≡ Some c → has_text names f ≡ is_taken cols (place c)
repeats vars [] [] f c h e = refl
repeats vars [] (d ∷ cols) f c h e = absurd h
repeats vars (g ∷ names) [] f c h e = absurd h
repeats vars (g ∷ names) (d ∷ cols) f c h e = go (same f g) refl (repeats vars names cols f c h.1 e)
  where
    go : (b : Bool) → same f g ≡ b → has_text names f ≡ is_taken cols (place c) → (same f g || has_text names f) ≡ (nat_eq (place d) (place c) || is_taken cols (place c))
    go true is rest =
        let there : nat_eq (place d) (place c) ≡ true = ap (λ (x : Column). nat_eq (place x) (place c)) (one_column vars g f d c h.0 e (sym (same_equal f g is))) ∙ same_numbers (place c) in
        rw (is, there) refl
    go false is rest =
        let there : nat_eq (place d) (place c) ≡ false = other_numbers (place d) (place c) (λ p. false≢true (sym is ∙ same_text f g (one_place vars f g c d e h.0 (sym p)))) in
        rw (is, there) rest

-- ---- the name of an input is there where its place is taken

pub record Covered (vars : List StVar) (names : List Text) (i : ℕ) (v : StVar) : Type 0 where
  pub there : has_text names v.name ≡ true
  pub column : column_of vars v.name ≡ Some (column.Input i v.ty)

pub covered : (vars : List StVar) (names : List Text) (cols : List Column) (i : ℕ) (v : StVar) → ColumnsOf vars names cols → slice_get (inputs_of vars) i ≡ Some v → is_taken cols (suc i) ≡ true → Covered vars names i v
covered vars [] [] i v h at t = absurd (false≢true t)
covered vars [] (d ∷ cols) i v h at t = absurd h
covered vars (g ∷ names) [] i v h at t = absurd h
covered vars (g ∷ names) (d ∷ cols) i v h at t = go (nat_eq (place d) (suc i)) refl t (covered vars names cols i v h.1 at)
  where
    here : place d ≡ suc i → OfName vars g d → Covered vars (g ∷ names) i v
    here p (the_scan n s) = absurd (let q : zero ≡ suc i = sym (ap place s) ∙ p in omega (arith, q))
    here p (an_input n a) =
        let at_i : a.at ≡ i = (let q : 0 + a.at + 1 ≡ suc i = sym (ap place a.is) ∙ p in omega (arith, q)) in
        let var : a.var ≡ v = one_some (sym a.there ∙ ap (slice_get (inputs_of vars)) at_i ∙ at) in
        let name : v.name ≡ g = ap (λ (w : StVar). w.name) (sym var) ∙ a.name in
        let first : same v.name g ≡ true = same_text v.name g name in
        record {
          there = rw first refl;
          column = ap (column_of vars) name ∙ h.0 ∙ ap Some (a.is ∙ ap (λ r. column.Input r a.var.ty) (let q : 0 + a.at ≡ i = omega (arith, at_i) in q) ∙ ap (λ (w : StVar). column.Input i w.ty) var);
        }

    go : (b : Bool) → nat_eq (place d) (suc i) ≡ b → (b || is_taken cols (suc i)) ≡ true → (is_taken cols (suc i) ≡ true → Covered vars names i v) → Covered vars (g ∷ names) i v
    go true p t more = here (grind (arith, nat_tests)) (of_name vars g d h.0)
    go false p t more = let m = more t in record { there = later (same v.name g) m.there; column = m.column }
      where
        later : (b : Bool) → has_text names v.name ≡ true → (b || has_text names v.name) ≡ true
        later true e = refl
        later false e = e

-- ---- how many inputs there are

pub as_many_inputs : (k : ℕ) (vs : List StVar) → length (numbers_of is_input k vs) ≡ length (inputs_of vs)
as_many_inputs k [] = refl
as_many_inputs k (v ∷ vs) = go (is_input v.class) (as_many_inputs (suc k) vs)
  where
    go : (b : Bool) → length (numbers_of is_input (suc k) vs) ≡ length (inputs_of vs)
        → length (if b then k ∷ numbers_of is_input (suc k) vs else numbers_of is_input (suc k) vs) ≡ length (if b then v ∷ inputs_of vs else inputs_of vs)
    go true e = ap suc e
    go false e = e
