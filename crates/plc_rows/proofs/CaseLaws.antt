-- Cases that break no rule of a program are in range for it, few, and one list.
use Rattle.std.proofs.Common.{◌≡◌, ℕ, zero, suc, ◌+◌, ◌<◌, ◌≤◌, ℤ, true, List, [], ◌∷◌, ◌++◌, length, None, refl, sym, ap, subst, ◌∙◌, arith}
use Rattle.std.specs.Prelude.{⊤, flat_map, nat_lt}
use Rattle.std.proofs.lemmas.Bool.{false≢true}
use Rattle.std.specs.List.{AllByRecursion, list_all, range_with_len}
use Rattle.std.proofs.lemmas.Bool.Decides.{nat_tests}
use Rattle.std.proofs.lemmas.List.{length-append}
use Rattle.grammar.specs.Pieces.{Text}
use Rattle.grammar.proofs.Texts.{and_left, and_right}
use Rattle.st_ast.specs.declared.tree.StVar.{StVar}
use Rattle.plc_rows.specs.Rows.{AreCasesFor, AreRowsFor, IsRowFor, CasesOf, most_rows, case_number, file_fault, first_case_fault, records_of}
use Rattle.plc_rows.proofs.InRange.{few_in_file, file_typed}

abbrev Case : Type 0
Case = List (List ℤ)

abbrev flat : List Case → List (List ℤ)
flat = flat_map (λ c. c)

abbrev numbers : List Case → List ℕ
numbers = flat_map (λ (c : Case). range_with_len 1 (length c))

-- ---- cases

all_split : {A : Type 0} (P : A → Type 0) (xs ys : List A) → AllByRecursion P (xs ++ ys) → AllByRecursion P xs × AllByRecursion P ys
all_split P [] ys h = (tt {0}, h)
all_split P (x ∷ xs) ys h = let rest = all_split P xs ys h.1 in ((h.0, rest.0), rest.1)

each_case : (vars : List StVar) (cases : List Case) → AreRowsFor vars (flat cases) → AreCasesFor vars cases
each_case vars [] h = tt {0}
each_case vars (c ∷ cases) h = let p = all_split (IsRowFor vars) c (flat cases) h in (p.0, each_case vars cases p.1)

many_rows : (cases : List Case) → list_all (λ (c : Case). nat_lt 0 (length c)) cases ≡ true → length cases ≤ length (flat cases)
many_rows [] h = omega arith
many_rows (c ∷ cases) h =
    let some : nat_lt 0 (length c) ≡ true = and_left (nat_lt 0 (length c)) (list_all (λ (c : Case). nat_lt 0 (length c)) cases) h in
    let more = many_rows cases (and_right (nat_lt 0 (length c)) (list_all (λ (c : Case). nat_lt 0 (length c)) cases) h) in
    let positive : 0 < length c = grind (arith, nat_tests) in
    omega (arith, more, positive, length-append c (flat cases))

fewer_rows : (most : ℕ) (cases : List Case) → length (flat cases) ≤ most → AllByRecursion (λ (rows : Case). length rows ≤ most) cases
fewer_rows most [] h = tt {0}
fewer_rows most (c ∷ cases) h = (omega (arith, h, length-append c (flat cases)), fewer_rows most cases (omega (arith, h, length-append c (flat cases))))

module _ (vars : List StVar) (text : Text) (cases : List Case) (of : CasesOf vars text cases) where
  right : file_fault case_number vars (records_of text) ≡ None
  unfolding first_case_fault
  right = of.right

  few : length (flat cases) ≤ most_rows
  few = let f = few_in_file case_number vars (records_of text) right in let same = ap length of.rows in omega (arith, f, same)

  pub cases_in_range : AreCasesFor vars cases
  cases_in_range = each_case vars cases (subst (AreRowsFor vars) (sym of.rows) (file_typed case_number vars (records_of text) right))

  pub cases_few : length cases ≤ most_rows
  cases_few = let m = many_rows cases of.full in omega (arith, m, few)

  pub rows_few : AllByRecursion (λ (rows : Case). length rows ≤ most_rows) cases
  rows_few = fewer_rows most_rows cases few

-- ---- one list

-- the numbers of cases that follow begin with 1
abbrev Begin1 : List ℕ → Type 0
Begin1 [] = ⊤
Begin1 (n ∷ ns) = n ≡ 1

begin1 : (cases : List Case) → list_all (λ (c : Case). nat_lt 0 (length c)) cases ≡ true → Begin1 (numbers cases)
begin1 [] h = tt
begin1 ([] ∷ cases) h = absurd (let no = and_left (nat_lt 0 0) (list_all (λ (c : Case). nat_lt 0 (length c)) cases) h in false≢true no)
begin1 ((r ∷ c) ∷ cases) h = refl

-- two ranges from one number on, with numbers behind them that begin with 1, are as long
as_long : (from a b : ℕ) (xs ys : List ℕ) → 1 < from → Begin1 xs → Begin1 ys → range_with_len from a ++ xs ≡ range_with_len from b ++ ys → (a ≡ b) × (xs ≡ ys)
as_long from zero zero xs ys p u v e = (refl, e)
as_long from (suc a) zero xs [] p u v e = absurd cc
as_long from (suc a) zero xs (y ∷ ys) p u v e = absurd (let n : from ≡ y = cc in omega (arith, n, v, p))
as_long from zero (suc b) [] ys p u v e = absurd cc
as_long from zero (suc b) (x ∷ xs) ys p u v e = absurd (let n : from ≡ x = cc in omega (arith, n, u, p))
as_long from (suc a) (suc b) xs ys p u v e =
    let rest : range_with_len (from + 1) a ++ xs ≡ range_with_len (from + 1) b ++ ys = cc in
    let q = as_long (from + 1) a b xs ys (omega (arith, p)) u v rest in
    (ap suc q.0, q.1)

same_front : {A : Type 0} (xs ys us vs : List A) → length xs ≡ length ys → xs ++ us ≡ ys ++ vs → (xs ≡ ys) × (us ≡ vs)
same_front [] [] us vs l e = (refl, e)
same_front [] (y ∷ ys) us vs l e = absurd (omega (arith, l))
same_front (x ∷ xs) [] us vs l e = absurd (omega (arith, l))
same_front (x ∷ xs) (y ∷ ys) us vs l e =
    let head : x ≡ y = cc in
    let tail : xs ++ us ≡ ys ++ vs = cc in
    let rest = same_front xs ys us vs (omega (arith, l)) tail in
    let same = rest.0 in
    (cc, rest.1)

abbrev Full : List Case → Type 0
Full cases = list_all (λ (c : Case). nat_lt 0 (length c)) cases ≡ true

one_list : (a b : List Case) → Full a → Full b → flat a ≡ flat b → numbers a ≡ numbers b → a ≡ b
one_list [] [] f g e n = refl
one_list [] ([] ∷ b) f g e n = absurd (false≢true (and_left (nat_lt 0 0) (list_all (λ (c : Case). nat_lt 0 (length c)) b) g))
one_list [] ((r ∷ y) ∷ b) f g e n = absurd cc
one_list ([] ∷ a) b f g e n = absurd (false≢true (and_left (nat_lt 0 0) (list_all (λ (c : Case). nat_lt 0 (length c)) a) f))
one_list ((r ∷ x) ∷ a) [] f g e n = absurd cc
one_list ((r ∷ x) ∷ a) ([] ∷ b) f g e n = absurd (false≢true (and_left (nat_lt 0 0) (list_all (λ (c : Case). nat_lt 0 (length c)) b) g))
one_list ((r ∷ x) ∷ a) ((s ∷ y) ∷ b) f g e n =
    let tail : range_with_len (1 + 1) (length x) ++ numbers a ≡ range_with_len (1 + 1) (length y) ++ numbers b = cc in
    let fa : Full a = and_right (nat_lt 0 (length (r ∷ x))) (list_all (λ (c : Case). nat_lt 0 (length c)) a) f in
    let fb : Full b = and_right (nat_lt 0 (length (s ∷ y))) (list_all (λ (c : Case). nat_lt 0 (length c)) b) g in
    let l = as_long (1 + 1) (length x) (length y) (numbers a) (numbers b) (omega arith) (begin1 a fa) (begin1 b fb) tail in
    let p = same_front (r ∷ x) (s ∷ y) (flat a) (flat b) (ap suc l.0) e in
    let rest = one_list a b fa fb p.1 l.1 in
    let first = p.0 in
    cc

pub one_cases : (vars : List StVar) (text : Text) (a b : List Case) → CasesOf vars text a → CasesOf vars text b → a ≡ b
one_cases vars text a b h k = one_list a b h.full k.full (h.rows ∙ sym k.rows) (h.numbers ∙ sym k.numbers)

pub ruleset cases = (cases_in_range, cases_few, rows_few, one_cases)
