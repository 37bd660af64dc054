-- Cases of the parts of a text, each under one header, are those of the whole text.
use Rattle.std.proofs.Common.{◌≡◌, ◌≤◌, ◌<◌, ℕ, zero, suc, ◌+◌, ℤ, Bool, true, false, ◌||◌, List, [], ◌∷◌, ◌++◌, map, length, Option, Some, None, Bor, get_or, add-one, refl, sym, ap, subst, ◌∙◌, arith, ◌-◌, ◌/◌, ◌%◌, min}
use Rattle.std.specs.Prelude.{⊤, nat_eq, nat_lt, flat_map, take, drop, slice_index_or, IfSome, Result, Ok, Err, if◌then◌else◌, ◌==◌, ◌&&◌}
use Rattle.std.specs.List.{AllByRecursion, list_all, list_any, range_with_len}
use Rattle.std.specs.Option.{option_or}
use Rattle.std.specs.Result.{result_ok}
use Rattle.std.proofs.lemmas.Bool.{false≢true}
use Rattle.std.proofs.lemmas.Bool.Decides.{nat_tests}
use Rattle.std.proofs.lemmas.List.{length-append, length-drop, length-map, map-append, append_assoc, take-append-drop}
use Rattle.grammar.specs.Pieces.{Text}
use Rattle.csv.specs.Reading.{default_config, records, strip_bom, is_bom}
use Rattle.st_ast.specs.declared.tree.StVar.{StVar}
use Rattle.csv.specs.declared.parser.State.TheVariants as st
use Rattle.plc_rows.specs.Left.{AllRecords}
use Rattle.plc_rows.specs.Told.{cases_of, cells_of}
use Rattle.plc_rows.specs.declared.row.Row.{Row}
use Rattle.plc_rows.specs.declared.row.Rows.{Rows}
use Rattle.plc_rows.specs.declared.row.Cases.{Cases}
use Rattle.cif_batch.specs.Cutting.{HasNoQuote, EndsLine, IsUnmarked, IsHeaderLine, text_of, AreLines, IsRead, AreRead, Together}
use Rattle.plc_rows.proofs.Remaining.{all_left}
use Rattle.cif_batch.proofs.RecordParts.{from_start, one_list}
use Rattle.plc_rows.specs.Rows.{RowFault, cell, row_length, too_many_rows, case_boundary, most_rows, case_number, number_of_row, cell_stands, cells_fault, boundary_fault, row_fault, rows_fault, file_fault, records_of, header_fault, first_case_fault, row_values, rows_after, numbers_after, CasesOf}

abbrev Case : Type 0
Case = List (List ℤ)

abbrev pub flat : List Case → List (List ℤ)
flat = flat_map (λ c. c)

abbrev numbers : List Case → List ℕ
numbers = flat_map (λ (c : Case). range_with_len 1 (length c))

abbrev full : List Case → Bool
full = list_all (λ (c : Case). nat_lt 0 (length c))

-- ---- faults

none_some : {A B : Type 0} {x : A} → None ≡ Some x → B
none_some e = absurd cc

kept : (b : Bool) (x : Option RowFault) (f : RowFault) → (if b then x else Some f) ≡ None → (b ≡ true) × (x ≡ None)
kept true x f e = (refl, e)
kept false x f e = none_some (sym e)

left : (b : Bool) (f : RowFault) (x : Option RowFault) → (if b then Some f else x) ≡ None → x ≡ None
left true f x e = none_some (sym e)
left false f x e = e

neither : (a b : Option RowFault) → option_or a b ≡ None → (a ≡ None) × (b ≡ None)
neither None b e = (refl, e)
neither (Some f) b e = none_some (sym e)

no_fault : (b : Bool) (f : RowFault) → b ≡ true → (if b then None else Some f) ≡ None
no_fault true f e = refl
no_fault false f e = absurd (false≢true e)

module _ (vars : List StVar) (names : List Text) where
  -- the number of a row in its file matters to no cell
  same_cells : (k m j : ℕ) (fs cs : List Text) → cells_fault case_number vars k j fs cs ≡ None → cells_fault case_number vars m j fs cs ≡ None
  same_cells k m j [] cs e = refl
  same_cells k m j (f ∷ fs) [] e = refl
  same_cells k m j (f ∷ fs) (c ∷ cs) e =
      let p = kept (cell_stands case_number vars k f c) (cells_fault case_number vars k (suc j) fs cs) (cell k j) e in
      again (cell_stands case_number vars k f c) p.0 (same_cells k m (suc j) fs cs p.1)
    where
      again : (b : Bool) → b ≡ true → cells_fault case_number vars m (suc j) fs cs ≡ None → (if b then cells_fault case_number vars m (suc j) fs cs else Some (cell m j)) ≡ None
      again true e h = h
      again false e h = absurd (false≢true e)

  abbrev follows : ℕ → List Text → Type 0
  follows before r = case_number.follows before (number_of_row names r) ≡ true

  follows_then : (before k : ℕ) (r : List Text) → row_fault case_number vars names before k r ≡ None → follows before r
  follows_then before k r e =
      let p = kept (nat_eq (length r) (length names)) (option_or (cells_fault case_number vars k 1 names r) (boundary_fault case_number before k names r)) (row_length k) e in
      went (case_number.follows before (number_of_row names r)) (neither (cells_fault case_number vars k 1 names r) (boundary_fault case_number before k names r) p.1).1
    where
      went : (b : Bool) → (if b then None else Some (case_boundary k)) ≡ None → b ≡ true
      went true e = refl
      went false e = none_some (sym e)

  same_row : (before after k m : ℕ) (r : List Text) → row_fault case_number vars names before k r ≡ None → follows after r → row_fault case_number vars names after m r ≡ None
  same_row before after k m r e f =
      let p = kept (nat_eq (length r) (length names)) (option_or (cells_fault case_number vars k 1 names r) (boundary_fault case_number before k names r)) (row_length k) e in
      let q = neither (cells_fault case_number vars k 1 names r) (boundary_fault case_number before k names r) p.1 in
      made (nat_eq (length r) (length names)) (cells_fault case_number vars m 1 names r) (boundary_fault case_number after m names r) p.0 (same_cells k m 1 names r q.0)
      (no_fault (case_number.follows after (number_of_row names r)) (case_boundary m) f)
    where
      made : (b : Bool) (x y : Option RowFault) → b ≡ true → x ≡ None → y ≡ None → (if b then option_or x y else Some (row_length m)) ≡ None
      made true x y e f g = rw f g
      made false x y e f g = absurd (false≢true e)

  -- the first row and the others
  first_row : (before k : ℕ) (r : List Text) (rs : List (List Text)) → rows_fault case_number vars names before k (r ∷ rs) ≡ None
      → (row_fault case_number vars names before k r ≡ None) × (rows_fault case_number vars names (number_of_row names r) (suc k) rs ≡ None)
  first_row before k r rs e = neither (row_fault case_number vars names before k r) (rows_fault case_number vars names (number_of_row names r) (suc k) rs) (left (nat_lt most_rows k) (too_many_rows (most_rows + 1)) _ e)

  more_rows : (before k : ℕ) (r : List Text) (rs : List (List Text)) → k ≤ most_rows → row_fault case_number vars names before k r ≡ None
      → rows_fault case_number vars names (number_of_row names r) (suc k) rs ≡ None → rows_fault case_number vars names before k (r ∷ rs) ≡ None
  more_rows before k r rs few e f =
      let under : nat_lt most_rows k ≡ false = grind (arith, nat_tests) in
      made (nat_lt most_rows k) under (row_fault case_number vars names before k r) (rows_fault case_number vars names (number_of_row names r) (suc k) rs) e f
    where
      made : (b : Bool) → b ≡ false → (x y : Option RowFault) → x ≡ None → y ≡ None → (if b then Some (too_many_rows (most_rows + 1)) else option_or x y) ≡ None
      made true q x y e f = absurd (false≢true (sym q))
      made false q x y e f = rw e f

  -- rows from another row on
  same_rows : (before k m : ℕ) (rs : List (List Text)) → rows_fault case_number vars names before k rs ≡ None → m + length rs ≤ most_rows + 1 → rows_fault case_number vars names before m rs ≡ None
  same_rows before k m [] e few = refl
  same_rows before k m (r ∷ rs) e few =
      let p = first_row before k r rs e in
      more_rows before m r rs (omega (arith, few)) (same_row before before k m r p.0 (follows_then before k r p.0)) (same_rows (number_of_row names r) (suc k) (suc m) rs p.1 (omega (arith, few)))

  -- what may stand first may stand behind any row
  begins : (before n : ℕ) → case_number.follows 0 n ≡ true → case_number.follows before n ≡ true
  begins before n h = let one : n ≡ 1 = grind (arith, nat_tests) in rw one refl

  rows_behind : (before k m : ℕ) (rs : List (List Text)) → rows_fault case_number vars names 0 k rs ≡ None → m + length rs ≤ most_rows + 1 → rows_fault case_number vars names before m rs ≡ None
  rows_behind before k m [] e few = refl
  rows_behind before k m (r ∷ rs) e few =
      let p = first_row 0 k r rs e in
      more_rows before m r rs (omega (arith, few)) (same_row 0 before k m r p.0 (begins before (number_of_row names r) (follows_then 0 k r p.0))) (same_rows (number_of_row names r) (suc k) (suc m) rs p.1 (omega (arith, few)))

  both_rows : (before k i m : ℕ) (ra rb : List (List Text)) → rows_fault case_number vars names before k ra ≡ None → rows_fault case_number vars names 0 i rb ≡ None
      → m + length ra + length rb ≤ most_rows + 1 → rows_fault case_number vars names before m (ra ++ rb) ≡ None
  both_rows before k i m [] rb e f few = rows_behind before i m rb f (omega (arith, few))
  both_rows before k i m (r ∷ ra) rb e f few =
      let p = first_row before k r ra e in
      more_rows before m r (ra ++ rb) (omega (arith, few)) (same_row before before k m r p.0 (follows_then before k r p.0))
      (both_rows (number_of_row names r) (suc k) i (suc m) ra rb p.1 f (omega (arith, few)))

  -- ---- the cases of rows under these names

  pub record Under (rs : List (List Text)) (cases : List Case) : Type 0 where
    pub right : rows_fault case_number vars names 0 1 rs ≡ None
    pub rows : flat cases ≡ map (row_values vars names) rs
    pub numbers : numbers cases ≡ map (number_of_row names) rs
    pub full : full cases ≡ true

flat_append : {A B : Type 0} (f : A → List B) (xs ys : List A) → flat_map f (xs ++ ys) ≡ flat_map f xs ++ flat_map f ys
flat_append f [] ys = refl
flat_append f (x ∷ xs) ys = ap (λ l. f x ++ l) (flat_append f xs ys) ∙ sym (append_assoc (f x) (flat_map f xs) (flat_map f ys))

all_append : {A : Type 0} (f : A → Bool) (xs ys : List A) → list_all f xs ≡ true → list_all f ys ≡ true → list_all f (xs ++ ys) ≡ true
all_append f [] ys h k = k
all_append f (x ∷ xs) ys h k = go (f x) h (λ more. all_append f xs ys more k)
  where
    go : (b : Bool) → (b && list_all f xs) ≡ true → (list_all f xs ≡ true → list_all f (xs ++ ys) ≡ true) → (b && list_all f (xs ++ ys)) ≡ true
    go true h more = more h
    go false h more = absurd (false≢true h)

module _ (vars : List StVar) (names : List Text) where
  both : (ra rb : List (List Text)) (c d : List Case) → Under vars names ra c → Under vars names rb d → length ra + length rb ≤ most_rows → Under vars names (ra ++ rb) (c ++ d)
  both ra rb c d h k few = record {
    right = both_rows vars names 0 1 1 1 ra rb h.right k.right (omega (arith, few));
    rows = flat_append (λ (x : Case). x) c d ∙ ap (λ l. l ++ flat d) h.rows ∙ ap (λ l. map (row_values vars names) ra ++ l) k.rows ∙ sym (map-append (row_values vars names) ra rb);
    numbers = flat_append (λ (x : Case). range_with_len 1 (length x)) c d ∙ ap (λ l. l ++ numbers d) h.numbers ∙ ap (λ l. map (number_of_row names) ra ++ l) k.numbers ∙ sym (map-append (number_of_row names) ra rb);
    full = all_append (λ (x : Case). nat_lt 0 (length x)) c d h.full k.full;
  }

-- ---- the records of a text in two parts

or_left : (a b : Bool) → (a || b) ≡ false → (a ≡ false) × (b ≡ false)
or_left true b e = absurd (false≢true (sym e))
or_left false b e = (refl, e)

plain_parts : (x y : Text) → HasNoQuote (x ++ y) → HasNoQuote x × HasNoQuote y
plain_parts [] y h = (refl, h)
plain_parts (c ∷ x) y h =
    let p = or_left (c == 34) (list_any (λ (b : ℕ). b == 34) (x ++ y)) h in
    let q = plain_parts x y p.1 in
    (either (c == 34) p.0 q.0, q.1)
  where
    either : (a : Bool) → a ≡ false → HasNoQuote x → (a || list_any (λ (b : ℕ). b == 34) x) ≡ false
    either true e f = absurd (false≢true (sym e))
    either false e f = f

abbrev lines : Text → List (List Text)
lines text = records default_config text

all_of : (text : Text) → AllRecords st.StartRecord text (lines text)
all_of text = all_left (length text + 1) st.StartRecord text refl (omega arith)

line_split : (x b : Text) → HasNoQuote x → lines (x ++ 10 ∷ b) ≡ lines (x ++ 10 ∷ []) ++ lines b
line_split x b h =
    one_list (lines (x ++ 10 ∷ b)) (lines (x ++ 10 ∷ []) ++ lines b) st.StartRecord (x ++ 10 ∷ b) (all_of (x ++ 10 ∷ b))
    (from_start x b (lines (x ++ 10 ∷ [])) (lines b) h (all_of (x ++ 10 ∷ [])) (all_of b))

-- whole lines and what is behind them
lines_split : (a b : Text) → EndsLine a → HasNoQuote a → lines (a ++ b) ≡ lines a ++ lines b
lines_split a b h plain =
    let same = h.1 in
    let front = (plain_parts h.0 (10 ∷ []) (subst HasNoQuote same plain)).0 in
    ap (λ (t : Text). lines (t ++ b)) same ∙ ap lines (append_assoc h.0 (10 ∷ []) b) ∙ line_split h.0 b front ∙ ap (λ (t : Text). lines t ++ lines b) (sym same)

not_marked : (b c d : ℕ) → (b == 239) ≡ false → is_bom b c d ≡ false
not_marked b c d e = rw e refl

unmarked : (a : Bool) (t u : Text) → a ≡ false → (if a then t else u) ≡ u
unmarked true t u e = absurd (false≢true (sym e))
unmarked false t u e = refl

no_mark : (t : Text) → IsUnmarked t → (b : Text) → strip_bom (t ++ b) ≡ t ++ b
unfolding strip_bom
no_mark [] h b = absurd h
no_mark (x ∷ []) h [] = refl
no_mark (x ∷ []) h (y ∷ []) = refl
no_mark (x ∷ []) h (y ∷ z ∷ b) = unmarked (is_bom x y z) b (x ∷ y ∷ z ∷ b) (not_marked x y z h)
no_mark (x ∷ y ∷ []) h [] = refl
no_mark (x ∷ y ∷ []) h (z ∷ b) = unmarked (is_bom x y z) b (x ∷ y ∷ z ∷ b) (not_marked x y z h)
no_mark (x ∷ y ∷ z ∷ t) h b = unmarked (is_bom x y z) (t ++ b) (x ∷ y ∷ z ∷ t ++ b) (not_marked x y z h)

append_nil : {A : Type 0} (xs : List A) → xs ++ [] ≡ xs
append_nil [] = refl
append_nil (x ∷ xs) = ap (λ l. x ∷ l) (append_nil xs)

-- ---- the header

module _ (vars : List StVar) (h : Text) (line : IsHeaderLine vars h) where
  abbrev Named : Type 0
  Named = (names : List Text) × (lines h ≡ names ∷ []) × (header_fault vars names ≡ None)

  header_only : (rs : List (List Text)) → lines h ≡ rs → file_fault case_number vars rs ≡ None → [] ≡ rows_after vars rs → Named
  header_only [] is e r = none_some (sym e)
  header_only (names ∷ []) is e r = (names, is, (neither (header_fault vars names) (rows_fault case_number vars names 0 1 []) e).0)
  header_only (names ∷ n ∷ rs) is e r = absurd cc

  of_header : records_of h ≡ lines h
  of_header = ap lines (ap strip_bom (sym (append_nil h)) ∙ no_mark h line.unmarked [] ∙ append_nil h)

  named : Named
  unfolding first_case_fault
  named = header_only (lines h) refl (subst (λ (rs : List (List Text)). file_fault case_number vars rs ≡ None) of_header line.right.right) (line.right.rows ∙ ap (rows_after vars) of_header)

  abbrev names : List Text
  names = named.0

  -- the records of a text under the header
  under_header : (x : Text) → records_of (h ++ x) ≡ names ∷ lines x
  under_header x = ap lines (no_mark h line.unmarked x) ∙ lines_split h x line.line line.plain ∙ ap (λ (l : List (List Text)). l ++ lines x) named.1

  -- the cases of a part
  of_part : (x : Text) (c : List Case) → CasesOf vars (h ++ x) c → Under vars names (lines x) c
  unfolding first_case_fault
  of_part x c of = record {
    right = (neither (header_fault vars names) (rows_fault case_number vars names 0 1 (lines x)) (subst (λ (rs : List (List Text)). file_fault case_number vars rs ≡ None) (under_header x) of.right)).1;
    rows = of.rows ∙ ap (rows_after vars) (under_header x);
    numbers = of.numbers ∙ ap numbers_after (under_header x);
    full = of.full;
  }

  of_whole : (x : Text) (c : List Case) → Under vars names (lines x) c → CasesOf vars (h ++ x) c
  unfolding first_case_fault
  of_whole x c u = record {
    right = subst (λ (rs : List (List Text)). file_fault case_number vars rs ≡ None) (sym (under_header x)) (both_none (header_fault vars names) (rows_fault case_number vars names 0 1 (lines x)) named.2 u.right);
    rows = u.rows ∙ ap (rows_after vars) (sym (under_header x));
    numbers = u.numbers ∙ ap numbers_after (sym (under_header x));
    full = u.full;
  }
    where
      both_none : (a b : Option RowFault) → a ≡ None → b ≡ None → option_or a b ≡ None
      both_none a b e f = rw e f

  -- ---- parts

  first_part : (p : Bor Text) (pieces : List (Bor Text)) (c : Cases) (parts : List (Option Cases)) → AreRead vars h (p ∷ pieces) (Some c ∷ parts) → IsRead vars h (p ∷ []) c.cases
  first_part p pieces c parts all = all.each zero (Some c) (omega arith)

  other_parts : (p : Bor Text) (pieces : List (Bor Text)) (r : Option Cases) (parts : List (Option Cases)) → AreRead vars h (p ∷ pieces) (r ∷ parts) → AreRead vars h pieces parts
  other_parts p pieces r parts all = record { each = λ n d within. all.each (suc n) d (omega (arith, within)); all = (let l = all.all in omega (arith, l)) }

  -- the records of a part are as many as its rows
  as_many : (rs : List (List Text)) (c : List Case) → Under vars names rs c → length rs ≡ length (flat c)
  as_many rs c u = sym (ap length u.rows ∙ length-map rs (row_values vars names))

  one_piece : (p : Bor Text) → text_of (p ∷ []) ≡ p.now
  one_piece p = append_nil p.now

  -- the cases of the first piece
  of_first : (p : Bor Text) (pieces : List (Bor Text)) (c : Cases) (parts : List (Option Cases)) → AreRead vars h (p ∷ pieces) (Some c ∷ parts)
      → HasNoQuote p.now × Under vars names (lines p.now) (cases_of c.cases)
  of_first p pieces c parts all =
      let read = first_part p pieces c parts all in (
        (plain_parts h p.now (subst (λ (t : Text). HasNoQuote (h ++ t)) (one_piece p) read.plain)).1,
        of_part p.now (cases_of c.cases) (subst (λ (t : Text). CasesOf vars (h ++ t) (cases_of c.cases)) (one_piece p) read.read),
      )

  cases_append : (xs ys : List Rows) → cases_of (xs ++ ys) ≡ cases_of xs ++ cases_of ys
  cases_append xs ys = map-append (λ (r : Rows). cells_of r.rows) xs ys

  rows_append : (xs ys : List Rows) → length (flat (cases_of (xs ++ ys))) ≡ length (flat (cases_of xs)) + length (flat (cases_of ys))
  rows_append xs ys =
      ap (λ (cs : List Case). length (flat cs)) (cases_append xs ys) ∙ ap length (flat_append (λ (x : Case). x) (cases_of xs) (cases_of ys)) ∙ length-append (flat (cases_of xs)) (flat (cases_of ys))

  of_pieces : (pieces : List (Bor Text)) (parts : List (Option Cases)) (cases : List Rows) → AreRead vars h pieces parts → AreLines pieces → Together parts cases
      → length (flat (cases_of cases)) ≤ most_rows → Under vars names (lines (text_of pieces)) (cases_of cases)
  of_pieces [] parts cases all ls t few = absurd ls
  of_pieces (p ∷ pieces) [] cases all ls t few = absurd (let l = all.all in omega (arith, l))
  of_pieces (p ∷ pieces) (None ∷ parts) cases all ls t few = absurd t
  of_pieces (p ∷ []) (Some c ∷ r ∷ parts) cases all ls t few = absurd (let l = all.all in omega (arith, l))
  of_pieces (p ∷ []) (Some c ∷ []) cases all ls t few =
      let same : cases ≡ c.cases = t.1 ∙ ap (λ l. c.cases ++ l) t.2 ∙ append_nil c.cases in
      subst (λ (x : Text). Under vars names (lines x) (cases_of cases)) (sym (one_piece p)) (subst (λ (l : List Rows). Under vars names (lines p.now) (cases_of l)) (sym same) (of_first p [] c [] all).1)
  of_pieces (p ∷ q ∷ pieces) (Some c ∷ parts) cases all ls t few =
      let first = of_first p (q ∷ pieces) c parts all in
      let more : length (flat (cases_of cases)) ≡ length (flat (cases_of c.cases)) + length (flat (cases_of t.0)) = ap (λ (l : List Rows). length (flat (cases_of l))) t.1 ∙ rows_append c.cases t.0 in
      let others = of_pieces (q ∷ pieces) parts t.0 (other_parts p (q ∷ pieces) (Some c) parts all) ls.1 t.2 (omega (arith, few, more)) in
      let a = as_many (lines p.now) (cases_of c.cases) first.1 in
      let b = as_many (lines (text_of (q ∷ pieces))) (cases_of t.0) others in
      let whole = both vars names (lines p.now) (lines (text_of (q ∷ pieces))) (cases_of c.cases) (cases_of t.0) first.1 others (omega (arith, few, more, a, b)) in
      subst (λ (rs : List (List Text)). Under vars names rs (cases_of cases)) (sym (lines_split p.now (text_of (q ∷ pieces)) ls.0 first.0))
      (subst (λ (cs : List Case). Under vars names (lines p.now ++ lines (text_of (q ∷ pieces))) cs) (sym (ap cases_of t.1 ∙ cases_append c.cases t.0)) whole)

  -- the cases of all pieces are those of the whole text
  pub all_read : (pieces : List (Bor Text)) (parts : List (Option Cases)) (cases : List Rows) → AreRead vars h pieces parts → AreLines pieces → Together parts cases
      → length (flat (cases_of cases)) ≤ most_rows → CasesOf vars (h ++ text_of pieces) (cases_of cases)
  all_read pieces parts cases all ls t few = of_whole (text_of pieces) (cases_of cases) (of_pieces pieces parts cases all ls t few)

-- ---- pieces are cut

pub lines_and_last : (pieces : List (Bor Text)) (p : Bor Text) → AllByRecursion (λ (q : Bor Text). EndsLine q.now) pieces → AreLines (pieces ++ p ∷ [])
lines_and_last [] p h = tt
lines_and_last (q ∷ []) p h = (h.0, tt)
lines_and_last (q ∷ r ∷ pieces) p h = (h.0, lines_and_last (r ∷ pieces) p h.1)

pub text_append : (pieces more : List (Bor Text)) → text_of (pieces ++ more) ≡ text_of pieces ++ text_of more
text_append pieces more = flat_append (λ (p : Bor Text). p.now) pieces more

all_behind : {A : Type 0} (P : A → Type 0) (xs : List A) (x : A) → AllByRecursion P xs → P x → AllByRecursion P (xs ++ x ∷ [])
all_behind P [] x h k = (k, tt)
all_behind P (y ∷ xs) x h k = (h.0, all_behind P xs x h.1 k)

-- a line feed ends a line
pub line_here : (xs : Text) (n d : ℕ) → n < length xs → get_or xs n d ≡ 10 → EndsLine (take (n + 1) xs)
line_here xs n d within is = (take n xs, ap (λ k. take k xs) (add-one n) ∙ take_more xs n within is)
  where
    take_more : (xs : Text) (n : ℕ) → n < length xs → get_or xs n d ≡ 10 → take (suc n) xs ≡ take n xs ++ 10 ∷ []
    take_more [] n h e = absurd (omega arith)
    take_more (x ∷ xs) zero h e = ap (λ y. y ∷ []) e
    take_more (x ∷ xs) (suc n) h e = ap (λ l. x ∷ l) (take_more xs n (omega (arith, h)) e)

-- ---- parts are put together

together_more : (parts : List (Option Cases)) (cases : List Rows) (c : Cases) → Together parts cases → Together (parts ++ Some c ∷ []) (cases ++ c.cases)
together_more [] cases c h = ([], ap (λ l. l ++ c.cases) h ∙ sym (append_nil c.cases), refl)
together_more (Some d ∷ parts) cases c h = (h.0 ++ c.cases, ap (λ l. l ++ c.cases) h.1 ∙ append_assoc d.cases h.0 c.cases, together_more parts h.0 c h.2)
together_more (None ∷ parts) cases c h = absurd h

-- one more part
pub together_turn : (parts : List (Option Cases)) (n m : ℕ) (r : Option Cases) (c : Cases) (cases after : List Rows) → Together (take n parts) cases
    → (n < length parts) × (r ≡ get_or parts n r) → r ≡ Some c → after ≡ cases ++ c.cases → m ≡ n + 1 → Together (take m parts) after
together_turn parts n m r c cases after h t is e more =
    let step : take (suc n) parts ≡ take n parts ++ Some c ∷ [] = one_more parts n r t.0 ∙ ap (λ x. take n parts ++ x ∷ []) (sym t.1 ∙ is) in
    let next : m ≡ suc n = omega (arith, more) in
    subst (λ (k : ℕ). Together (take k parts) after) (sym next) (subst (λ (ps : List (Option Cases)). Together ps after) (sym step)
    (subst (λ (l : List Rows). Together (take n parts ++ Some c ∷ []) l) (sym e) (together_more (take n parts) cases c h)))
  where
    one_more : {A : Type 0} (xs : List A) (n : ℕ) (d : A) → n < length xs → take (suc n) xs ≡ take n xs ++ get_or xs n d ∷ []
    one_more [] n d h = absurd (omega arith)
    one_more (x ∷ xs) zero d h = refl
    one_more (x ∷ xs) (suc n) d h = ap (λ l. x ∷ l) (one_more xs n d (omega arith))

-- ---- rows are counted

rows_length : (c : Rows) → length (cells_of c.rows) ≡ length c.rows
rows_length c = length-map c.rows (λ (r : Row). r.cells)

rows_from : (cases : List Rows) (k : ℕ) (d : Rows) → k < length cases → length (flat (cases_of (drop k cases))) ≡ length (get_or cases k d).rows + length (flat (cases_of (drop (suc k) cases)))
rows_from [] k d h = absurd (omega (arith, h))
rows_from (x ∷ cases) zero d h = length-append (cells_of x.rows) (flat (cases_of cases)) ∙ ap (λ n. n + length (flat (cases_of cases))) (rows_length x)
rows_from (x ∷ cases) (suc k) d h = rows_from cases k d (omega (arith, h))

-- those of one case more
pub rows_next : (cases : List Rows) (k : ℕ) (d : Rows) → k < length cases → length (flat (cases_of (drop k cases))) ≡ length (get_or cases k d).rows + length (flat (cases_of (drop (k + 1) cases)))
rows_next cases k d h = rows_from cases k d h ∙ ap (λ n. length (get_or cases k d).rows + length (flat (cases_of (drop n cases)))) (sym (add-one k))

-- ---- as many chunks of one as the list is long

pub one_each : (n m : ℕ) → m ≡ n / 1 + min 1 (n % 1) → m ≡ n
one_each n m h =
    let whole : n / 1 ≡ n = omega arith in
    let rest : n % 1 ≡ 0 = omega arith in
    let same = ap (min 1) rest in
    let is : min 1 0 ≡ 0 = refl in
    omega (arith, h, whole, same, is)

-- ---- an error is passed over

pub ok_from : {T E : Type 0} (r : Result T E) (o : Option T) (x : T) → o ≡ result_ok r → o ≡ Some x → r ≡ Ok x
ok_from (Ok y) o x e f = let same = sym e ∙ f in cc
ok_from (Err y) o x e f = none_some (sym e ∙ f)

-- ---- the front of a text and the rest

take_all : {A : Type 0} (xs : List A) (n : ℕ) → length xs ≤ n → take n xs ≡ xs
take_all [] zero h = refl
take_all [] (suc n) h = refl
take_all (x ∷ xs) zero h = absurd (omega (arith, h))
take_all (x ∷ xs) (suc n) h = ap (λ l. x ∷ l) (take_all xs n (omega (arith, h)))

pub front_and_rest : (n : ℕ) (xs : Text) → take n xs ++ take (length xs - n) (drop n xs) ≡ xs
front_and_rest n xs = let long = length-drop n xs in ap (λ l. take n xs ++ l) (take_all (drop n xs) (length xs - n) (omega (arith, long))) ∙ take-append-drop n xs
