-- A row is stored at the places of the inputs.
use Rattle.std.proofs.Common.{◌≡◌, ℕ, suc, ◌+◌, ◌<◌, ◌≤◌, ◌⊎◌, inl, inr, ℤ, pos, Bool, true, false, List, [], ◌∷◌, ◌++◌, length, get_or, drop, refl, ap, sym, ◌∙◌, add-one, drop-cons, append_assoc, length-append, arith}
use Rattle.std.specs.Prelude.{slice_set, if◌then◌else◌}
use Rattle.std.proofs.lemmas.List.{drop_all}
use Rattle.std.proofs.Math.Seq.{set-append_seam}
use Rattle.st_ast.specs.Interface.{numbers_of, is_input}
use Rattle.st_ast.specs.declared.tree.StVar.{StVar}
use Rattle.st_ast.specs.Scan.{store_row}
use Rattle.st_scan.specs.Stored.{stored}

drop-one : {A : Type 0} (xs : List A) (i : ℕ) (d : A) → i < length xs → drop i xs ≡ get_or xs i d ∷ drop (i + 1) xs
drop-one xs i d h = drop-cons xs i d h ∙ ap (λ k. get_or xs i d ∷ drop k xs) (sym (add-one i))

-- one more number is stored
pub stores-one : (row : List ℤ) (ks : List ℕ) (m : List ℤ) (i : ℕ) → i < length row → i < length ks
    → stored (drop i row) (drop i ks) m ≡ stored (drop (i + 1) row) (drop (i + 1) ks) (slice_set m (get_or ks i 0) (get_or row i (pos 0)))
stores-one row ks m i more place =
    ap (λ r. stored r (drop i ks) m) (drop-one row i (pos 0) more)
    ∙ ap (λ l. stored (get_or row i (pos 0) ∷ drop (i + 1) row) l m) (drop-one ks i 0 place)

stored-nowhere : (row : List ℤ) (m : List ℤ) → stored row [] m ≡ m
stored-nowhere [] m = refl
stored-nowhere (z ∷ row) m = refl

-- where there are no more places, nothing more is stored
pub stores-none : (row : List ℤ) (ks : List ℕ) (m : List ℤ) (i : ℕ) → length ks ≤ i → stored (drop i row) (drop i ks) m ≡ stored (drop (i + 1) row) (drop (i + 1) ks) m
stores-none row ks m i h =
    ap (λ l. stored (drop i row) l m) (drop_all i ks h) ∙ stored-nowhere (drop i row) m
    ∙ sym (ap (λ l. stored (drop (i + 1) row) l m) (drop_all (i + 1) ks (omega arith)) ∙ stored-nowhere (drop (i + 1) row) m)

-- where the row has ended, the memory stays
store-none : (vs : List StVar) (m : List ℤ) → store_row vs [] m ≡ m
store-none [] m = refl
store-none (v ∷ vs) [] = refl
store-none (v ∷ vs) (x ∷ m) = refl

cases_Bool : (b : Bool) → (b ≡ true) ⊎ (b ≡ false)
cases_Bool true = inl refl
cases_Bool false = inr refl

-- what is stored in a memory of which the first numbers are those of earlier variables
stored-from : (vs : List StVar) (row m before : List ℤ) (from : ℕ) → length m ≡ length vs → length before ≡ from
    → stored row (numbers_of is_input from vs) (before ++ m) ≡ before ++ store_row vs row m
stored-from [] row m before from long is = stored-nowhere row (before ++ m)
stored-from (v ∷ vs) row [] before from long is = absurd (omega arith)
stored-from (v ∷ vs) [] (x ∷ m) before from long is = refl
stored-from (v ∷ vs) (z ∷ row) (x ∷ m) before from long is = elim (cases_Bool (is_input v.class)) [
  | inl true_is ↦
      ap (λ b. stored (z ∷ row) (if b then from ∷ numbers_of is_input (suc from) vs else numbers_of is_input (suc from) vs) (before ++ x ∷ m)) true_is
      ∙ ap (stored row (numbers_of is_input (suc from) vs)) (ap (λ k. slice_set (before ++ x ∷ m) k z) (sym is) ∙ set-append_seam before x m z ∙ sym (append_assoc before (z ∷ []) m))
      ∙ stored-from vs row m (before ++ z ∷ []) (suc from) (omega arith) (longer z)
      ∙ append_assoc before (z ∷ []) (store_row vs row m)
      ∙ sym (ap (λ b. before ++ (if b then z ∷ store_row vs row m else x ∷ store_row vs (z ∷ row) m)) true_is)
  | inr false_is ↦
      ap (λ b. stored (z ∷ row) (if b then from ∷ numbers_of is_input (suc from) vs else numbers_of is_input (suc from) vs) (before ++ x ∷ m)) false_is
      ∙ ap (stored (z ∷ row) (numbers_of is_input (suc from) vs)) (sym (append_assoc before (x ∷ []) m))
      ∙ stored-from vs (z ∷ row) m (before ++ x ∷ []) (suc from) (omega arith) (longer x)
      ∙ append_assoc before (x ∷ []) (store_row vs (z ∷ row) m)
      ∙ sym (ap (λ b. before ++ (if b then z ∷ store_row vs row m else x ∷ store_row vs (z ∷ row) m)) false_is)
]
  where
    longer : (y : ℤ) → length (before ++ y ∷ []) ≡ suc from
    longer y = let k = length-append before (y ∷ []) in omega (arith, k, is)

pub stored-row : (vars : List StVar) (row m : List ℤ) → length m ≡ length vars → stored row (numbers_of is_input 0 vars) m ≡ store_row vars row m
stored-row vars row m long = stored-from vars row m [] 0 long refl
