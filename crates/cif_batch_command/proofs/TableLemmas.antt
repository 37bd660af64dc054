-- How the parts of a batch end it.
use Rattle.std.proofs.Common.{◌≡◌, ℕ, zero, suc, ◌+◌, ◌<◌, ◌≤◌, List, [], ◌∷◌, ◌++◌, length, get_or, refl, sym, ap, ◌∙◌, arith}
use Rattle.std.specs.Prelude.{flat_map, take}
use Rattle.std.proofs.lemmas.Grind.{flat_map-append}
use Rattle.std.proofs.lemmas.List.{length-map}
use Rattle.grammar.specs.Pieces.{Text}
use Rattle.st_ast.specs.Tree.{Program}
use Rattle.st_ast.specs.declared.tree.StVar.{StVar}
use Rattle.plc_rows.specs.Rows.{CasesOf, case_number, first_case_fault, most_rows, records_of}
use Rattle.plc_rows.specs.Told.{cases_of, cells_of}
use Rattle.plc_rows.proofs.CaseLaws.{cases_few}
use Rattle.plc_rows.proofs.InRange.{few_in_file}
use Rattle.plc_rows.specs.declared.row.Rows.{Rows}
use Rattle.cif_batch.specs.CaseTexts.{AreCaseTexts, Case, case_texts, cases_text}
use Rattle.plc_tables.specs.Scans.{table_of}
use Rattle.cif_batch_command.specs.Batching.{AreTables}
use Rattle.cif_batch_command.proofs.RowNumbers.{flat}

-- texts up to one, and that one
pub text_more : (texts : List Text) (n m : ℕ) (t : Text) (all after : Text) → all ≡ flat_map (λ (t : Text). t) (take n texts) → (n < length texts) × (t ≡ get_or texts n t) → after ≡ all ++ t → m ≡ n + 1
    → after ≡ flat_map (λ (t : Text). t) (take m texts)
text_more texts n m t all after h turn e more =
    let next : m ≡ suc n = omega (arith, more) in
    e ∙ ap (λ l. l ++ t) h ∙ sym (ap (λ k. flat_map (λ (t : Text). t) (take k texts)) next ∙ ap (flat_map (λ (t : Text). t)) (front texts n turn.0 ∙ ap (λ x. take n texts ++ x ∷ []) (sym turn.1))
    ∙ flat_map-append (λ (t : Text). t) (take n texts) (t ∷ []) ∙ ap (λ l. flat_map (λ (t : Text). t) (take n texts) ++ l) (alone t))
  where
    front : (xs : List Text) (k : ℕ) → k < length xs → take (suc k) xs ≡ take k xs ++ get_or xs k t ∷ []
    front [] k h = absurd (omega (arith, h))
    front (x ∷ xs) zero h = refl
    front (x ∷ xs) (suc k) h = ap (λ l. x ∷ l) (front xs k (omega (arith, h)))

    alone : (xs : Text) → xs ++ [] ≡ xs
    alone [] = refl
    alone (x ∷ xs) = ap (λ l. x ∷ l) (alone xs)

-- the tables, one after the other
one_after_other : (p : Program) (cases : List Case) → flat_map (λ (t : Text). t) (case_texts p cases) ≡ cases_text p cases
one_after_other p [] = refl
one_after_other p (c ∷ cases) = ap (λ l. table_of p c ++ l) (one_after_other p cases)

pub are_tables : (p : Program) (cases : List Case) (texts : List Text) (out : Text) → AreCaseTexts p cases texts → out ≡ flat_map (λ (t : Text). t) texts → AreTables p cases out
are_tables p cases texts out h is = (h.all, is ∙ ap (flat_map (λ (t : Text). t)) h.texts_are ∙ one_after_other p cases)

-- ---- the text of cases

-- all rows of cases that break no rule are few
pub rows_in_all : (vars : List StVar) (text : Text) (cases : List Case) → CasesOf vars text cases → length (flat cases) ≤ most_rows
unfolding first_case_fault
rows_in_all vars text cases of = let few = few_in_file case_number vars (records_of text) of.right in let same = ap length of.rows in omega (arith, few, same)

pub few_cases : (vars : List StVar) (text : Text) (cases : List Rows) → CasesOf vars text (cases_of cases) → length cases ≤ 100000
few_cases vars text cases of = let few = cases_few vars text (cases_of cases) of in let same = length-map cases (λ (r : Rows). cells_of r.rows) in omega (arith, few, same)
