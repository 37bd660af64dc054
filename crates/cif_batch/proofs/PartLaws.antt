-- Parts of a list of cases, and the parts put together.
use Rattle.std.proofs.Common.{◌≡◌, ℕ, zero, suc, ◌+◌, ◌*◌, ◌/◌, ◌%◌, ◌<◌, ◌≤◌, ◌==◌, min, false, List, [], ◌∷◌, ◌++◌, length, get_or, refl, sym, ap, subst, ◌∙◌, arith}
use Rattle.std.specs.Prelude.{take, drop, Ok, Err, All, slice_index_or}
use Rattle.std.specs.List.{AllByRecursion}
use Rattle.std.proofs.lemmas.List.{take-append-drop, length-append, length-take-le, length-drop, length-map, drop-drop, map-append, append_assoc}
use Rattle.std.proofs.lemmas.Grind.{div_ceil_times}
use Rattle.std.proofs.lemmas.Bool.Decides.{nat_tests}
use Rattle.std.proofs.lemmas.List.Elements.{All-drop, All-take}
use Rattle.grammar.specs.Pieces.{Text}
use Rattle.st_ast.specs.Tree.{Program}
use Rattle.st_ast.specs.Exec.{Outcome}
use Rattle.st_ast.specs.Scan.{start_memory}
use Rattle.st_scan.specs.Endings.{stopped}
use Rattle.st_scan.specs.declared.error.ScanErr.{ScanErr}
use Rattle.plc_rows.specs.Told.{cases_of, cells_of}
use Rattle.plc_rows.specs.declared.row.Row.{Row}
use Rattle.plc_rows.specs.declared.row.Rows.{Rows}
use Rattle.plc_tables.specs.Scans.{AllEnd, ComesTo, table_of}
use Rattle.plc_tables.proofs.EndingLaws.{stopped_stops}
use Rattle.cif_batch.specs.declared.error.CaseErr.{CaseErr}
use Rattle.cif_batch.specs.declared.error.CaseErr.TheVariants as err
use Rattle.cif_batch.specs.CaseTexts.{AllCasesEnd, AreCaseTexts, Case, FirstStopped, IsFirstStopped, case_texts}
use Rattle.cif_batch.specs.Parts.{AreParts, IsPart, Joins, Part, StopsFrom, StopsJoining}

-- ---- lists

-- an element divides the list
split_at : {A : Type 0} (xs : List A) (k : ℕ) (d : A) → k < length xs → xs ≡ take k xs ++ get_or xs k d ∷ drop (suc k) xs
split_at [] k d h = absurd (omega arith)
split_at (x ∷ xs) zero d h = refl
split_at (x ∷ xs) (suc k) d h = ap (λ l. x ∷ l) (split_at xs k d (omega arith))

take_more : {A : Type 0} (xs : List A) (n : ℕ) (d : A) → n < length xs → take (suc n) xs ≡ take n xs ++ get_or xs n d ∷ []
take_more [] n d h = absurd (omega arith)
take_more (x ∷ xs) zero d h = refl
take_more (x ∷ xs) (suc n) d h = ap (λ l. x ∷ l) (take_more xs n d (omega arith))

append_nil : {A : Type 0} (xs : List A) → xs ++ [] ≡ xs
append_nil [] = refl
append_nil (x ∷ xs) = ap (λ l. x ∷ l) (append_nil xs)

all_append : {A : Type 0} (P : A → Type 0) (xs ys : List A) → AllByRecursion P xs → AllByRecursion P ys → AllByRecursion P (xs ++ ys)
all_append P [] ys h k = k
all_append P (x ∷ xs) ys h k = (h.0, all_append P xs ys h.1 k)

values_append : (xs ys : List Rows) → cases_of (xs ++ ys) ≡ cases_of xs ++ cases_of ys
values_append xs ys = map-append (λ (r : Rows). cells_of r.rows) xs ys

values_length : (xs : List Rows) → length (cases_of xs) ≡ length xs
values_length xs = length-map xs (λ (r : Rows). cells_of r.rows)

-- the first cases, and the others
halves : (size : ℕ) (cases : List Rows) → cases_of (take size cases) ++ cases_of (drop size cases) ≡ cases_of cases
halves size cases = sym (values_append (take size cases) (drop size cases)) ∙ ap cases_of (take-append-drop size cases)

-- ---- cases

module _ (p : Program) where
  -- the tables of the first cases, and then those of the others
  texts_append : (xs ys : List Case) (ts us : List Text) → AreCaseTexts p xs ts → AreCaseTexts p ys us → AreCaseTexts p (xs ++ ys) (ts ++ us)
  texts_append xs ys ts us h k = record {
    all = all_append (AllEnd p) xs ys h.all k.all;
    texts_are = ap (λ t. t ++ us) h.texts_are ∙ ap (λ r. case_texts p xs ++ r) k.texts_are ∙ sym (map-append (table_of p) xs ys);
  }

  -- a case that stops among the first
  stop_in_front : (xs ys : List Case) (k row : ℕ) (o : Outcome) → FirstStopped p xs k row o → FirstStopped p (xs ++ ys) k row o
  stop_in_front xs ys k row o h = record {
    before = h.before;
    case = h.case;
    after = h.after ++ ys;
    split = ap (λ l. l ++ ys) h.split ∙ append_assoc h.before (h.case ∷ h.after) ys;
    number_is = h.number_is;
    ended = h.ended;
    comes = h.comes;
    stops = h.stops;
  }

  -- a case that stops among the others, after first cases that end
  stop_behind : (xs ys : List Case) (k row : ℕ) (o : Outcome) → AllCasesEnd p xs → FirstStopped p ys k row o → FirstStopped p (xs ++ ys) (length xs + k) row o
  stop_behind xs ys k row o all f = record {
    before = xs ++ f.before;
    case = f.case;
    after = f.after;
    split = ap (λ l. xs ++ l) f.split ∙ sym (append_assoc xs f.before (f.case ∷ f.after));
    number_is = (let n = f.number_is in let l = length-append xs f.before in omega (arith, n, l));
    ended = all_append (AllEnd p) xs f.before all f.ended;
    comes = f.comes;
    stops = f.stops;
  }

  -- ---- one worker

  -- the next case stops
  pub stops_at : (cases : List Rows) (k row : ℕ) (c : Rows) (rows : List Row) (texts : List Text) (e : ScanErr) → AreCaseTexts p (cases_of (take k cases)) texts → k < length cases
      → c ≡ get_or cases k c → rows ≡ c.rows → ComesTo p (start_memory p) (cells_of rows) row (stopped e) → FirstStopped p (cases_of cases) (suc k) row (stopped e)
  stops_at cases k row c rows texts e h within is are comes = record {
    before = cases_of (take k cases);
    case = cells_of rows;
    after = cases_of (drop (suc k) cases);
    split = ap cases_of (split_at cases k c within) ∙ values_append (take k cases) (get_or cases k c ∷ drop (suc k) cases)
        ∙ ap (λ x. cases_of (take k cases) ++ x ∷ cases_of (drop (suc k) cases)) (ap (λ (x : Rows). cells_of x.rows) (sym is) ∙ sym (ap cells_of are));
    number_is = (let l = values_length (take k cases) in let t = length-take-le k cases (omega (arith, within)) in omega (arith, l, t));
    ended = h.all;
    comes = comes;
    stops = stopped_stops e;
  }

  -- ---- parts

  first_part : (size start : ℕ) (cases : List Rows) (r : Part) (parts : List Part) → AreParts p size start cases (r ∷ parts) → IsPart p start (take size cases) r
  first_part size start cases r parts h =
      let q = h.each zero r (omega arith) in
      let none : 0 * size ≡ 0 = omega arith in
      let same : start + 0 ≡ start = omega arith in
      subst (λ s. IsPart p s (take size cases) r) same (subst (λ n. IsPart p (start + n) (take size (drop n cases)) r) none q)

  other_parts : (size start : ℕ) (cases : List Rows) (r : Part) (parts : List Part) → AreParts p size start cases (r ∷ parts) → AreParts p size (start + size) (drop size cases) parts
  other_parts size start cases r parts h = record {
    each = λ n d within.
        let q = h.each (suc n) d (omega arith) in
        let there = drop-drop (n * size) size cases in
        let moved : size + n * size ≡ suc n * size = omega arith in
        subst (λ s. IsPart p s (take size (drop (n * size) (drop size cases))) (slice_index_or parts n d)) (omega arith)
        (subst (λ (cs : List Rows). IsPart p (start + suc n * size) (take size cs) (slice_index_or parts n d)) (sym (there ∙ ap (λ m. drop m cases) moved)) q);
    all = (let l = length-drop size cases in let a = h.all in omega (arith, l, a));
  }

  no_cases : (cases : List Rows) → length cases ≤ 0 → cases ≡ []
  no_cases [] h = refl
  no_cases (c ∷ cases) h = absurd (omega arith)

  pub all_texts : (size start : ℕ) (cases : List Rows) (parts : List Part) (texts : List Text) → AreParts p size start cases parts → Joins parts texts → AreCaseTexts p (cases_of cases) texts
  all_texts size start cases [] texts h j =
      subst (λ (cs : List Rows). AreCaseTexts p (cases_of cs) texts) (sym (no_cases cases (let a = h.all in omega (arith, a)))) record { all = tt {0}; texts_are = j }
  all_texts size start cases (Ok ts ∷ parts) texts h j =
      subst (AreCaseTexts p (cases_of cases)) (sym j.1)
      (subst (λ cs. AreCaseTexts p cs (ts ++ j.0)) (halves size cases)
      (texts_append (cases_of (take size cases)) (cases_of (drop size cases)) ts j.0 (first_part size start cases (Ok ts) parts h).ok
      (all_texts size (start + size) (drop size cases) parts j.0 (other_parts size start cases (Ok ts) parts h) j.2)))
  all_texts size start cases (Err e ∷ parts) texts h j = absurd j

  long_enough : (size : ℕ) (cases : List Rows) (k row : ℕ) (o : Outcome) → FirstStopped p (cases_of (drop size cases)) k row o → length (cases_of (take size cases)) ≡ size
  long_enough size cases k row o f =
      let some = ap length f.split ∙ length-append f.before (f.case ∷ f.after) in
      let l = values_length (drop size cases) in
      let front = values_length (take size cases) in
      let long : size ≤ length cases = omega (arith, some, l, length-drop size cases) in
      omega (arith, front, length-take-le size cases long)

  pub first_stop : (size start : ℕ) (cases : List Rows) (parts : List Part) (e : CaseErr) → AreParts p size start cases parts → StopsJoining parts e → StopsFrom p start (cases_of cases) e
  first_stop size start cases parts err.Memory h s = tt
  first_stop size start cases [] (err.Fault c r f) h s = absurd s
  first_stop size start cases (Ok ts ∷ parts) (err.Fault c r f) h s =
      let rest = first_stop size (start + size) (drop size cases) parts (err.Fault c r f) (other_parts size start cases (Ok ts) parts h) s in
      let long = long_enough size cases rest.0 r (stopped f) rest.2 in (
        length (cases_of (take size cases)) + rest.0,
        omega (arith, rest.1, long),
        subst (λ cs. FirstStopped p cs (length (cases_of (take size cases)) + rest.0) r (stopped f)) (halves size cases)
            (stop_behind (cases_of (take size cases)) (cases_of (drop size cases)) rest.0 r (stopped f) (first_part size start cases (Ok ts) parts h).ok.all rest.2),
      )
  first_stop size start cases (Err e ∷ parts) (err.Fault c r f) h s =
      let told = subst (StopsFrom p start (cases_of (take size cases))) s (first_part size start cases (Err e) parts h).err in (
        told.0,
        told.1,
        subst (λ cs. FirstStopped p cs told.0 r (stopped f)) (halves size cases) (stop_in_front (cases_of (take size cases)) (cases_of (drop size cases)) told.0 r (stopped f) told.2),
      )

  -- of the whole list
  pub stop_of_all : (cases : List Case) (e : CaseErr) → StopsFrom p 0 cases e → IsFirstStopped p cases e
  stop_of_all cases (err.Fault c r f) h = let same : h.0 ≡ c = omega (arith, h.1) in subst (λ n. FirstStopped p cases n r (stopped f)) same h.2
  stop_of_all cases err.Memory h = tt

-- ---- joining

joins_more : (parts : List Part) (texts ts : List Text) → Joins parts texts → Joins (parts ++ Ok ts ∷ []) (texts ++ ts)
joins_more [] texts ts h = ([], ap (λ t. t ++ ts) h ∙ sym (append_nil ts), refl)
joins_more (Ok x ∷ parts) texts ts h = (h.0 ++ ts, ap (λ t. t ++ ts) h.1 ∙ append_assoc x h.0 ts, joins_more parts h.0 ts h.2)
joins_more (Err e ∷ parts) texts ts h = absurd h

joins_next : (parts : List Part) (texts ts after : List Text) → Joins parts texts → after ≡ texts ++ ts → Joins (parts ++ Ok ts ∷ []) after
joins_next parts texts ts after h e = subst (Joins (parts ++ Ok ts ∷ [])) (sym e) (joins_more parts texts ts h)

stops_next : (parts : List Part) (texts : List Text) (e : CaseErr) (rest : List Part) → Joins parts texts → StopsJoining (parts ++ Err e ∷ rest) e
stops_next parts texts err.Memory rest h = tt
stops_next [] texts (err.Fault c r f) rest h = refl
stops_next (Ok x ∷ parts) texts (err.Fault c r f) rest h = stops_next parts h.0 (err.Fault c r f) rest h.2
stops_next (Err e ∷ parts) texts (err.Fault c r f) rest h = absurd h

-- one more part
pub joins_turn : (parts : List Part) (n m : ℕ) (r : Part) (texts ts after : List Text) → Joins (take n parts) texts
    → (n < length parts) × (r ≡ get_or parts n r) → r ≡ Ok ts → after ≡ texts ++ ts → m ≡ n + 1 → Joins (take m parts) after
joins_turn parts n m r texts ts after h t is e more =
    let step = take_more parts n r t.0 ∙ ap (λ x. take n parts ++ x ∷ []) (sym t.1 ∙ is) in
    let next : m ≡ suc n = omega (arith, more) in
    subst (λ (k : ℕ). Joins (take k parts) after) (sym next) (subst (λ (ps : List Part). Joins ps after) (sym step) (joins_next (take n parts) texts ts after h e))

pub stops_turn : (parts : List Part) (n : ℕ) (r : Part) (texts : List Text) (e : CaseErr) → Joins (take n parts) texts
    → (n < length parts) × (r ≡ get_or parts n r) → r ≡ Err e → StopsJoining parts e
stops_turn parts n r texts e h t is =
    subst (λ (ps : List Part). StopsJoining ps e) (sym (split_at parts n r t.0 ∙ ap (λ x. take n parts ++ x ∷ drop (suc n) parts) (sym t.1 ∙ is)))
    (stops_next (take n parts) texts e (drop (suc n) parts) h)

-- ---- chunks

-- as many chunks of a size as cover the list
pub chunks_cover : (n k m : ℕ) → 0 < k → m ≡ n / k + min 1 (n % k) → n ≤ m * k
chunks_cover n k m h e = subst (λ (x : ℕ). n ≤ x * k) (sym e) (div_ceil_times n k h).0

-- a list that is not empty has a chunk
pub some_in_chunk : (n k m : ℕ) → (n == 0) ≡ false → 0 < k → m ≡ n / k + min 1 (n % k) → 0 < m
some_in_chunk n k zero some h e =
    let c = chunks_cover n k zero h e in
    let none : zero * k ≡ 0 = omega arith in
    let more : 0 < n = grind (arith, nat_tests) in
    absurd (omega (arith, c, none, more))
some_in_chunk n k (suc m) some h e = omega arith

-- what holds of all holds of each chunk
pub all_in_chunk : {A : Type 0} (P : A → Type 0) (xs : List A) (n m : ℕ) → All P xs → All P (take m (drop n xs))
all_in_chunk P xs n m h = All-take P m (drop n xs) (All-drop P n xs h)
