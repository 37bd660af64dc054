-- A row by its columns: its first fault is that of its names, and its values are those under the names of the inputs.
use Rattle.std.proofs.Common.{◌≡◌, ◌<◌, ◌≤◌, ℕ, zero, suc, ◌+◌, ℤ, pos, Bool, true, false, not, ◌||◌, ◌&&◌, List, [], ◌∷◌, ◌++◌, map, length, drop, get_or, drop-cons, add-one, Option, Some, None, refl, sym, ap, subst, ◌∙◌, arith}
use Rattle.std.specs.Option.{option_or}
use Rattle.std.specs.Prelude.{⊤, slice_get, nat_eq, replicate, codes, unwrap_or, All, if◌then◌else◌}
use Rattle.std.proofs.lemmas.Bool.{false≢true}
use Rattle.std.proofs.lemmas.Bool.Decides.{nat_tests}
use Rattle.std.proofs.lemmas.List.{length-map}
use Rattle.std.proofs.lemmas.List.Elements.{All-nil, All-cons}
use Rattle.std.proofs.lemmas.Option.{slice_get_past, slice_get_within}
use Rattle.grammar.specs.Pieces.{Text, same}
use Rattle.grammar.proofs.Texts.{same_equal, same_flip, and_right}
use Rattle.csv.specs.Records.{field_at}
use Rattle.st_ast.specs.declared.tree.StVar.{StVar}
use Rattle.plc_rows.specs.Rows.{RowFault, header, cell, row_length, wanted, has_text, fields_fault, cell_value, ScanRule, cell_stands, cells_fault, boundary_fault, row_fault, cell_under, row_values}
use Rattle.st_ast.specs.Interface.{inputs_of}
use Rattle.plc_rows.specs.Columns.{place, column_of, ColumnsOf, HeaderOf, stands, columns_fault, line_fault, with_cell, with_cells}
use Rattle.plc_rows.specs.declared.header.Column.{Column}
use Rattle.plc_rows.specs.declared.header.Column.TheVariants as column
use Rattle.plc_rows.proofs.Checking.{was_false, same_text, get_set_same, get_set_other, length_set, same_places, any_more, either_left, either_right, same_numbers}
use Rattle.plc_rows.proofs.ColumnLaws.{OfName, the_scan, an_input, of_name, map_get, placed, one_place, one_column, as_many, covered}
use Rattle.plc_rows.proofs.Remaining.{one_some, none_some}

-- ---- the places of columns

pub places : (vars : List StVar) (names : List Text) (cols : List Column) (n : ℕ) → n ≡ length (inputs_of vars) → ColumnsOf vars names cols → All (λ c. place c ≤ n) cols
places vars [] [] n e h = All-nil (λ c. place c ≤ n)
places vars [] (c ∷ cols) n e h = absurd h
places vars (f ∷ names) [] n e h = absurd h
places vars (f ∷ names) (c ∷ cols) n e h =
    All-cons (λ c. place c ≤ n) c cols
    (omega (arith, slice_get_within (wanted vars) (place c) f (placed vars f c h.0), length-map (inputs_of vars) (λ (v : StVar). v.name), e))
    (places vars names cols n e h.1)

-- ---- the fault of a row

module _ (scan : ScanRule) (vars : List StVar) where
  pub stands_same : (name : Text) (c : Column) → column_of vars name ≡ Some c → (k : ℕ) (t : Text) → cell_stands scan vars k name t ≡ stands scan k c t
  stands_same name c e k t = go (of_name vars name c e)
    where
      go : OfName vars name c → cell_stands scan vars k name t ≡ stands scan k c t
      go (the_scan n s) = let is = same_text name (codes "scan") n in rw is (ap (λ d. stands scan k d t) (sym s))
      go (an_input n a) = let first = a.first in rw (n, first) (ap (λ d. stands scan k d t) (sym a.is))

  fault_same : (names : List Text) (cols : List Column) → ColumnsOf vars names cols → (k j : ℕ) (ts : List Text) → cells_fault scan vars k j names ts ≡ columns_fault scan k j cols ts
  fault_same [] [] h k j ts = refl
  fault_same [] (c ∷ cols) h k j ts = absurd h
  fault_same (f ∷ names) [] h k j ts = absurd h
  fault_same (f ∷ names) (c ∷ cols) h k j [] = refl
  fault_same (f ∷ names) (c ∷ cols) h k j (t ∷ ts) =
      ap (λ b. if b then cells_fault scan vars k (suc j) names ts else Some (cell k j)) (stands_same f c h.0 k t)
      ∙ ap (λ r. if stands scan k c t then r else Some (cell k j)) (fault_same names cols h.1 k (suc j) ts)

  -- the row by its columns, and then its boundary
  pub row_line : (names : List Text) (cols : List Column) → ColumnsOf vars names cols → (before k : ℕ) (ts : List Text)
      → row_fault scan vars names before k ts ≡ option_or (line_fault scan cols k ts) (boundary_fault scan before k names ts)
  row_line names cols h before k ts =
      ap (λ n. if nat_eq (length ts) n then option_or (cells_fault scan vars k 1 names ts) (boundary_fault scan before k names ts) else Some (row_length k)) (sym (as_many vars names cols h))
      ∙ ap (λ r. if nat_eq (length ts) (length cols) then option_or r (boundary_fault scan before k names ts) else Some (row_length k)) (fault_same names cols h k 1 ts)
      ∙ behind (nat_eq (length ts) (length cols)) (columns_fault scan k 1 cols ts) (boundary_fault scan before k names ts) (row_length k)
    where
      behind : (b : Bool) (r x : Option RowFault) (f : RowFault) → (if b then option_or r x else Some f) ≡ option_or (if b then r else Some f) x
      behind true r x f = refl
      behind false r x f = refl

-- ---- cells from left to right

drop_item : {A : Type 0} (xs : List A) (i : ℕ) (x : A) → i < length xs → x ≡ get_or xs i x → drop i xs ≡ x ∷ drop (i + 1) xs
drop_item xs i x l e = drop-cons xs i x l ∙ ap (λ y. y ∷ drop (suc i) xs) (sym e) ∙ ap (λ n. x ∷ drop n xs) (sym (add-one i))

field_next : (ts : List Text) (j : ℕ) (t : Text) → field_at ts j ≡ Some t → drop j ts ≡ t ∷ drop (suc j) ts
unfolding field_at
field_next [] j t e = none_some e
field_next (f ∷ ts) zero t e = ap (λ g. g ∷ ts) (one_some e)
field_next (f ∷ ts) (suc j) t e = field_next ts j t e

field_there : (ts : List Text) (j : ℕ) (t : Text) → field_at ts j ≡ Some t → drop j ts ≡ t ∷ drop (j + 1) ts
field_there ts j t e = field_next ts j t e ∙ ap (λ n. t ∷ drop n ts) (sym (add-one j))

pub field_within : (ts : List Text) (j : ℕ) (t : Text) → field_at ts j ≡ Some t → j < length ts
unfolding field_at
field_within [] j t e = none_some e
field_within (f ∷ ts) zero t e = omega arith
field_within (f ∷ ts) (suc j) t e = let more = field_within ts j t e in omega (arith, more)

pub field_missing : (ts : List Text) (j : ℕ) → field_at ts j ≡ None → length ts ≤ j
unfolding field_at
field_missing [] j e = omega arith
field_missing (f ∷ ts) zero e = none_some (sym e)
field_missing (f ∷ ts) (suc j) e = let more = field_missing ts j e in omega (arith, more)

module _ (cols : List Column) (ts : List Text) (j k : ℕ) (c : Column) (t : Text) (l : j < length cols) (at : c ≡ get_or cols j c) (there : field_at ts j ≡ Some t) where
  pub cell_wrong : (scan : ScanRule) → stands scan k c t ≡ false → columns_fault scan k (j + 1) (drop j cols) (drop j ts) ≡ Some (cell k (j + 1))
  cell_wrong scan e = let a = drop_item cols j c l at in let b = field_there ts j t there in rw (a, b, e) refl

  pub cell_right : (scan : ScanRule) → stands scan k c t ≡ true → columns_fault scan k (j + 1 + 1) (drop (j + 1) cols) (drop (j + 1) ts) ≡ columns_fault scan k (j + 1) (drop j cols) (drop j ts)
  cell_right scan e = let a = drop_item cols j c l at in let b = field_there ts j t there in rw (a, b, e) (ap (λ n. columns_fault scan k n (drop (j + 1) cols) (drop (j + 1) ts)) (add-one (j + 1)))

  pub cell_put : (zs : List ℤ) → with_cells (drop (j + 1) cols) (drop (j + 1) ts) (with_cell c t zs) ≡ with_cells (drop j cols) (drop j ts) zs
  cell_put zs = let a = drop_item cols j c l at in let b = field_there ts j t there in rw (a, b) refl

pub as_long_cell : (c : Column) (t : Text) (zs : List ℤ) → length (with_cell c t zs) ≡ length zs
as_long_cell column.Scan t zs = refl
as_long_cell (column.Input r ty) t zs = length_set zs r (unwrap_or (cell_value ty t) (pos 0))

as_long : (cols : List Column) (ts : List Text) (zs : List ℤ) → length (with_cells cols ts zs) ≡ length zs
as_long [] ts zs = refl
as_long (c ∷ cols) [] zs = refl
as_long (c ∷ cols) (t ∷ ts) zs = as_long cols ts (with_cell c t zs) ∙ as_long_cell c t zs

-- ---- the names of a header that breaks no rule differ

abbrev Once : List Text → Type 0
Once [] = ⊤
Once (f ∷ fs) = (has_text fs f ≡ false) × Once fs

pub kept : (b : Bool) (x : Option RowFault) (f : RowFault) → (if b then x else Some f) ≡ None → (b ≡ true) × (x ≡ None)
kept true x f e = (refl, e)
kept false x f e = none_some (sym e)

module _ (ns : List Text) where
  is_new : (before : List Text) (k : ℕ) (f : Text) (fs : List Text) → fields_fault ns before k (f ∷ fs) ≡ None → (has_text before f ≡ false) × (fields_fault ns (before ++ f ∷ []) (suc k) fs ≡ None)
  is_new before k f fs e =
      let p = kept (has_text ns f && not (has_text before f)) (fields_fault ns (before ++ f ∷ []) (suc k) fs) (header k) e in
      (was_false (has_text before f) (and_right (has_text ns f) (not (has_text before f)) p.0), p.1)

  apart : (before : List Text) (k : ℕ) (fs : List Text) → fields_fault ns before k fs ≡ None → (t : Text) → has_text before t ≡ true → has_text fs t ≡ false
  apart before k [] e t h = refl
  apart before k (f ∷ fs) e t h =
      let n = is_new before k f fs e in
      go (same t f) refl (apart (before ++ f ∷ []) (suc k) fs n.1 t (any_more (same t) before f ∙ either_left (has_text before t) (same t f) h))
    where
      go : (b : Bool) → same t f ≡ b → has_text fs t ≡ false → (b || has_text fs t) ≡ false
      go true is rest = absurd (false≢true (sym (is_new before k f fs e).0 ∙ subst (λ (x : Text). has_text before x ≡ true) (same_equal t f is) h))
      go false is rest = rest

  once : (before : List Text) (k : ℕ) (fs : List Text) → fields_fault ns before k fs ≡ None → Once fs
  once before k [] e = tt
  once before k (f ∷ fs) e =
      let n = is_new before k f fs e in
      (apart (before ++ f ∷ []) (suc k) fs n.1 f (any_more (same f) before f ∙ either_right (has_text before f) (same f f) (same_text f f refl)), once (before ++ f ∷ []) (suc k) fs n.1)

-- ---- the values

abbrev pub worth : StVar → List Text → List Text → ℤ
worth v names ts = unwrap_or (cell_value v.ty (cell_under v.name names ts)) (pos 0)

module _ (vars : List StVar) (i : ℕ) (v : StVar) (e : column_of vars v.name ≡ Some (column.Input i v.ty)) where
  other_cell : (c : Column) (f : Text) → column_of vars f ≡ Some c → same v.name f ≡ false → (t : Text) (zs : List ℤ) → slice_get (with_cell c t zs) i ≡ slice_get zs i
  other_cell column.Scan f h n t zs = refl
  other_cell (column.Input r ty) f h n t zs =
      get_set_other zs r i (unwrap_or (cell_value ty t) (pos 0)) (λ q. false≢true (sym n ∙ same_text v.name f (one_place vars v.name f (column.Input i v.ty) (column.Input r ty) e h (ap (λ m. m + 1) q))))

  neither : (a b : Bool) → (a || b) ≡ false → (a ≡ false) × (b ≡ false)
  neither true b q = absurd cc
  neither false b q = (refl, q)

  unchanged : (names : List Text) (cols : List Column) (ts : List Text) → ColumnsOf vars names cols → has_text names v.name ≡ false → (zs : List ℤ) → slice_get (with_cells cols ts zs) i ≡ slice_get zs i
  unchanged [] [] ts h n zs = refl
  unchanged [] (c ∷ cols) ts h n zs = absurd h
  unchanged (f ∷ names) [] ts h n zs = absurd h
  unchanged (f ∷ names) (c ∷ cols) [] h n zs = refl
  unchanged (f ∷ names) (c ∷ cols) (t ∷ ts) h n zs =
      let q = neither (same v.name f) (has_text names v.name) n in
      unchanged names cols ts h.1 q.1 (with_cell c t zs) ∙ other_cell c f h.0 q.0 t zs

  put_at : (names : List Text) (cols : List Column) (ts : List Text) → ColumnsOf vars names cols → length ts ≡ length cols → Once names → has_text names v.name ≡ true
      → (zs : List ℤ) → i < length zs → slice_get (with_cells cols ts zs) i ≡ Some (worth v names ts)
  put_at [] [] ts h n o t zs l = absurd (false≢true t)
  put_at [] (c ∷ cols) ts h n o t zs l = absurd h
  put_at (f ∷ names) [] ts h n o t zs l = absurd h
  put_at (f ∷ names) (c ∷ cols) [] h n o t zs l = absurd (omega (arith, n))
  put_at (f ∷ names) (c ∷ cols) (x ∷ ts) h n o t zs l =
      go (same v.name f) refl (same_flip f v.name) t (λ there. put_at names cols ts h.1 (omega (arith, n)) o.1 there (with_cell c x zs) (omega (arith, l, as_long_cell c x zs)))
    where
      go : (b : Bool) → same v.name f ≡ b → same f v.name ≡ same v.name f → (b || has_text names v.name) ≡ true
          → (has_text names v.name ≡ true → slice_get (with_cells cols ts (with_cell c x zs)) i ≡ Some (worth v names ts))
          → slice_get (with_cells cols ts (with_cell c x zs)) i ≡ Some (worth v (f ∷ names) (x ∷ ts))
      go true is flip t more =
          let name : v.name ≡ f = same_equal v.name f is in
          let here : c ≡ column.Input i v.ty = one_column vars f v.name c (column.Input i v.ty) h.0 e (sym name) in
          unchanged names cols ts h.1 (ap (has_text names) name ∙ o.0) (with_cell c x zs)
          ∙ ap (λ d. slice_get (with_cell d x zs) i) here
          ∙ get_set_same zs i (unwrap_or (cell_value v.ty x) (pos 0)) l
          ∙ ap (λ b. Some (unwrap_or (cell_value v.ty (if b then x else cell_under v.name names ts)) (pos 0))) (sym (flip ∙ is))
      go false is flip t more = more t ∙ ap (λ b. Some (unwrap_or (cell_value v.ty (if b then x else cell_under v.name names ts)) (pos 0))) (sym (flip ∙ is))

map_none : {A B : Type 0} (g : A → B) (xs : List A) (i : ℕ) → slice_get xs i ≡ None → slice_get (map g xs) i ≡ None
map_none g [] i e = refl
map_none g (x ∷ xs) zero e = none_some (sym e)
map_none g (x ∷ xs) (suc i) e = map_none g xs i e

pub past : {A : Type 0} (xs : List A) (i : ℕ) → slice_get xs i ≡ None → length xs ≤ i
past [] i e = omega arith
past (x ∷ xs) zero e = none_some (sym e)
past (x ∷ xs) (suc i) e = let more = past xs i e in omega (arith, more)

zeros : (n : ℕ) → length (replicate n (pos 0)) ≡ n
zeros zero = refl
zeros (suc n) = ap suc (zeros n)

pub values_of_row : (vars : List StVar) (names : List Text) (cols : List Column) (ts : List Text) (n : ℕ) → HeaderOf vars names cols → length ts ≡ length cols → n ≡ length (inputs_of vars)
    → with_cells cols ts (replicate n (pos 0)) ≡ row_values vars names ts
values_of_row vars names cols ts n h l e = same_places _ _ (λ i. go i (slice_get (inputs_of vars) i) refl)
  where
    go : (i : ℕ) (o : Option StVar) → slice_get (inputs_of vars) i ≡ o → slice_get (with_cells cols ts (replicate n (pos 0))) i ≡ slice_get (row_values vars names ts) i
    go i None at =
        slice_get_past (with_cells cols ts (replicate n (pos 0))) i (omega (arith, as_long cols ts (replicate n (pos 0)), zeros n, e, past (inputs_of vars) i at))
        ∙ sym (map_none (λ (v : StVar). worth v names ts) (inputs_of vars) i at)
    go i (Some v) at =
        let few : i < length (inputs_of vars) = slice_get_within (inputs_of vars) i v at in
        let c = covered vars names cols i v h.columns at (h.each (suc i) (omega (arith, few))) in
        put_at vars i v c.column names cols ts h.columns l (once (wanted vars) [] 1 names h.right) c.there (replicate n (pos 0)) (omega (arith, few, zeros n, e))
        ∙ sym (map_get (λ (v : StVar). worth v names ts) (inputs_of vars) i v at)

-- a row without a fault has as many cells as the header
pub no_fault_long : (scan : ScanRule) (cols : List Column) (k : ℕ) (ts : List Text) → line_fault scan cols k ts ≡ None → length ts ≡ length cols
no_fault_long scan cols k ts e = let p = kept (nat_eq (length ts) (length cols)) (columns_fault scan k 1 cols ts) (row_length k) e in let t = p.0 in grind (arith, nat_tests)

-- ---- the length first

pub line_of : (scan : ScanRule) (cols : List Column) (k : ℕ) (ts : List Text) → length ts ≡ length cols → line_fault scan cols k ts ≡ columns_fault scan k 1 cols ts
line_of scan cols k ts e = ap (λ b. if b then columns_fault scan k 1 cols ts else Some (row_length k)) (ap (λ n. nat_eq n (length cols)) e ∙ same_numbers (length cols))

-- an element that is there, whatever is given where there is none
pub item_again : {A : Type 0} (xs : List A) (i : ℕ) (d : A) → i < length xs → get_or xs i d ≡ get_or xs i (get_or xs i d)
item_again [] i d l = absurd (omega (arith, l))
item_again (x ∷ xs) zero d l = refl
item_again (x ∷ xs) (suc i) d l = either_default xs i d (get_or xs i d) (omega (arith, l))
  where
    either_default : {A : Type 0} (xs : List A) (i : ℕ) (d e : A) → i < length xs → get_or xs i d ≡ get_or xs i e
    either_default [] i d e l = absurd (omega (arith, l))
    either_default (x ∷ xs) zero d e l = refl
    either_default (x ∷ xs) (suc i) d e l = either_default xs i d e (omega (arith, l))
