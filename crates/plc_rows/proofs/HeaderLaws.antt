-- A header is read field by field, with the places that are taken.
use Rattle.std.proofs.Common.{◌≡◌, ◌<◌, ◌≤◌, ℕ, zero, suc, ◌+◌, Bool, true, false, not, ◌||◌, ◌&&◌, List, [], ◌∷◌, ◌++◌, length, Some, None, refl, sym, ap, subst, ◌∙◌, append_assoc, arith}
use Rattle.std.specs.Prelude.{slice_get, slice_set, nat_eq, nat_lt, replicate, is_some, if◌then◌else◌}
use Rattle.std.proofs.lemmas.Bool.{false≢true, lt-ltb, le-ltb}
use Rattle.std.proofs.lemmas.Bool.Decides.{nat_tests}
use Rattle.std.proofs.lemmas.List.{length-map, length-append}
use Rattle.std.proofs.lemmas.Option.{slice_get_within}
use Rattle.grammar.specs.Pieces.{Text}
use Rattle.csv.specs.Records.{field_at}
use Rattle.st_ast.specs.declared.tree.StVar.{StVar}
use Rattle.plc_rows.specs.Rows.{header, wanted, has_text, fields_fault, header_fault}
use Rattle.st_ast.specs.Interface.{inputs_of}
use Rattle.plc_rows.specs.Columns.{place, column_of, ColumnsOf, is_taken, HeaderOf}
use Rattle.plc_rows.specs.declared.header.Column.{Column}
use Rattle.plc_rows.proofs.Checking.{get_set_same, get_set_other, length_set, any_more, same_numbers}
use Rattle.plc_rows.proofs.ColumnLaws.{has_column, placed, as_many, one_more, repeats}
use Rattle.plc_rows.proofs.Remaining.{one_some, none_some}

-- ---- how many are set

pub set_count : List Bool → ℕ
set_count [] = 0
set_count (true ∷ bs) = suc (set_count bs)
set_count (false ∷ bs) = set_count bs

none_set : (n : ℕ) → set_count (replicate n false) ≡ 0
unfolding set_count
none_set zero = refl
none_set (suc n) = none_set n

one_more_set : (bs : List Bool) (i : ℕ) → slice_get bs i ≡ Some false → set_count (slice_set bs i true) ≡ suc (set_count bs)
unfolding set_count
one_more_set [] i e = none_some e
one_more_set (true ∷ bs) zero e = absurd cc
one_more_set (false ∷ bs) zero e = refl
one_more_set (true ∷ bs) (suc i) e = ap suc (one_more_set bs i e)
one_more_set (false ∷ bs) (suc i) e = one_more_set bs i e

most_set : (bs : List Bool) → set_count bs ≤ length bs
unfolding set_count
most_set [] = omega arith
most_set (true ∷ bs) = let more = most_set bs in omega (arith, more)
most_set (false ∷ bs) = let more = most_set bs in omega (arith, more)

all_set : (bs : List Bool) (i : ℕ) → length bs ≤ set_count bs → i < length bs → slice_get bs i ≡ Some true
unfolding set_count
all_set [] i m l = absurd (omega (arith, l))
all_set (true ∷ bs) zero m l = refl
all_set (true ∷ bs) (suc i) m l = all_set bs i (omega (arith, m)) (omega (arith, l))
all_set (false ∷ bs) i m l = absurd (let most = most_set bs in omega (arith, m, most))

none_there : (n p : ℕ) → p < n → slice_get (replicate n false) p ≡ Some false
none_there zero p l = absurd (omega (arith, l))
none_there (suc n) zero l = refl
none_there (suc n) (suc p) l = none_there n p (omega (arith, l))

many_there : (n : ℕ) → length (replicate n false) ≡ n
many_there zero = refl
many_there (suc n) = ap suc (many_there n)

-- ---- the fields so far

pub record Reading (vars : List StVar) (fields : List Text) (cols : List Column) (seen : List Bool) : Type 0 where
  pub before : List Text
  pub rest : List Text
  pub split : fields ≡ before ++ rest
  pub columns : ColumnsOf vars before cols
  pub fault : header_fault vars fields ≡ fields_fault (wanted vars) before (suc (length before)) rest
  pub marks : (p : ℕ) → p < length seen → slice_get seen p ≡ Some (is_taken cols p)
  pub size : length seen ≡ suc (length (inputs_of vars))
  pub count : set_count seen ≡ length cols

wanted_count : (vars : List StVar) → length (wanted vars) ≡ suc (length (inputs_of vars))
wanted_count vars = ap suc (length-map (inputs_of vars) (λ (v : StVar). v.name))

at_rest : (before rest : List Text) → field_at (before ++ rest) (length before) ≡ field_at rest 0
unfolding field_at
at_rest [] rest = refl
at_rest (f ∷ before) rest = at_rest before rest

module _ (vars : List StVar) (fields : List Text) where
  pub starts : (seen : List Bool) (n : ℕ) → n ≡ suc (length (inputs_of vars)) → seen ≡ replicate n false → Reading vars fields [] seen
  starts seen n m e = record {
    before = [];
    rest = fields;
    split = refl;
    columns = tt;
    fault = refl;
    marks = λ p l. ap (λ bs. slice_get bs p) e ∙ none_there n p (omega (arith, l, ap length e, many_there n));
    size = ap length e ∙ many_there n ∙ m;
    count = ap set_count e ∙ none_set n;
  }

  module _ (cols : List Column) (seen : List Bool) (r : Reading vars fields cols seen) where
    so_far : length cols ≡ length r.before
    so_far = as_many vars r.before cols r.columns

    pub few : length cols ≤ length fields
    few = omega (arith, so_far, ap length r.split, length-append r.before r.rest)

    here : field_at fields (length cols) ≡ field_at r.rest 0
    here = ap (λ n. field_at fields n) so_far ∙ ap (λ fs. field_at fs (length r.before)) r.split ∙ at_rest r.before r.rest

    -- the next field
    next : (f : Text) (rest : List Text) → field_at rest 0 ≡ Some f → (more : List Text) × (rest ≡ f ∷ more)
    unfolding field_at
    next f [] e = none_some e
    next f (g ∷ more) e = (more, ap (λ h. h ∷ more) (one_some e))

    told : (f : Text) (more : List Text) → r.rest ≡ f ∷ more → (has_text (wanted vars) f && not (has_text r.before f)) ≡ false → header_fault vars fields ≡ Some (header (length cols + 1))
    told f more e b =
        let at : suc (length r.before) ≡ length cols + 1 = omega (arith, so_far) in
        r.fault ∙ ap (fields_fault (wanted vars) r.before (suc (length r.before))) e
        ∙ ap (λ c. if c then fields_fault (wanted vars) (r.before ++ f ∷ []) (suc (suc (length r.before))) more else Some (header (suc (length r.before)))) b
        ∙ ap (λ k. Some (header k)) at

    module _ (f : Text) (e : field_at fields (length cols) ≡ Some f) where
      more_of : (more : List Text) × (r.rest ≡ f ∷ more)
      more_of = next f r.rest (sym here ∙ e)

      pub unwanted : column_of vars f ≡ None → header_fault vars fields ≡ Some (header (length cols + 1))
      unwanted n = told f more_of.0 more_of.1 (ap (λ b. b && not (has_text r.before f)) (has_column vars f ∙ ap is_some n))

      module _ (c : Column) (is : column_of vars f ≡ Some c) where
        pub within : place c < length seen
        within = omega (arith, slice_get_within (wanted vars) (place c) f (placed vars f c is), wanted_count vars, r.size)

        seen_there : (b : Bool) → slice_get seen (place c) ≡ Some b → has_text r.before f ≡ b
        seen_there b at = repeats vars r.before cols f c r.columns is ∙ one_some (sym (r.marks (place c) within) ∙ at)

        wants : has_text (wanted vars) f ≡ true
        wants = has_column vars f ∙ ap is_some is

        fresh : slice_get seen (place c) ≡ Some false → (has_text (wanted vars) f && not (has_text r.before f)) ≡ true
        fresh at = let w = wants in let s = seen_there false at in rw (w, s) refl

        taken : slice_get seen (place c) ≡ Some true → (has_text (wanted vars) f && not (has_text r.before f)) ≡ false
        taken at = let w = wants in let s = seen_there true at in rw (w, s) refl

        pub repeated : slice_get seen (place c) ≡ Some true → header_fault vars fields ≡ Some (header (length cols + 1))
        repeated at = told f more_of.0 more_of.1 (taken at)

        marks_more : slice_get seen (place c) ≡ Some false → (p : ℕ) → p < length (slice_set seen (place c) true) → slice_get (slice_set seen (place c) true) p ≡ Some (is_taken (cols ++ c ∷ []) p)
        marks_more at p l = go (nat_eq (place c) p) refl
          where
            either : (a : Bool) → (a || false) ≡ a
            either true = refl
            either false = refl

            go : (b : Bool) → nat_eq (place c) p ≡ b → slice_get (slice_set seen (place c) true) p ≡ Some (is_taken (cols ++ c ∷ []) p)
            go true q =
                let one : place c ≡ p = grind (arith, nat_tests) in
                ap (slice_get (slice_set seen (place c) true)) (sym one) ∙ get_set_same seen (place c) true within
                ∙ ap Some (sym (any_more (λ (d : Column). nat_eq (place d) p) cols c ∙ ap (λ b. is_taken cols p || b) q ∙ or_true (is_taken cols p)))
              where
                or_true : (a : Bool) → (a || true) ≡ true
                or_true true = refl
                or_true false = refl
            go false q =
                let other : p ≡ place c → ⊥ = λ e. false≢true (sym q ∙ ap (nat_eq (place c)) e ∙ same_numbers (place c)) in
                get_set_other seen (place c) p true other ∙ r.marks p (omega (arith, l, length_set seen (place c) true))
                ∙ ap Some (sym (any_more (λ (d : Column). nat_eq (place d) p) cols c ∙ ap (λ b. is_taken cols p || b) q ∙ either (is_taken cols p)))

        pub goes_on : (more : List Bool) → slice_get seen (place c) ≡ Some false → more ≡ slice_set seen (place c) true → Reading vars fields (cols ++ c ∷ []) more
        goes_on more at e = subst (λ (bs : List Bool). Reading vars fields (cols ++ c ∷ []) bs) (sym e) (record {
          before = r.before ++ f ∷ [];
          rest = more_of.0;
          split = r.split ∙ ap (λ fs. r.before ++ fs) more_of.1 ∙ sym (append_assoc r.before (f ∷ []) more_of.0);
          columns = one_more vars r.before cols f c r.columns is;
          fault = r.fault ∙ ap (fields_fault (wanted vars) r.before (suc (length r.before))) more_of.1
              ∙ ap (λ b. if b then fields_fault (wanted vars) (r.before ++ f ∷ []) (suc (suc (length r.before))) more_of.0 else Some (header (suc (length r.before)))) (fresh at)
              ∙ ap (λ n. fields_fault (wanted vars) (r.before ++ f ∷ []) n more_of.0) (let k : suc (suc (length r.before)) ≡ suc (length (r.before ++ f ∷ [])) = omega (arith, length-append r.before (f ∷ [])) in k);
          marks = marks_more at;
          size = length_set seen (place c) true ∙ r.size;
          count = one_more_set seen (place c) at ∙ ap suc r.count ∙ (let k : suc (length cols) ≡ length (cols ++ c ∷ []) = omega (arith, length-append cols (c ∷ [])) in k);
        })

    module _ (e : field_at fields (length cols) ≡ None) where
      no_more : (rest : List Text) → field_at rest 0 ≡ None → rest ≡ []
      unfolding field_at
      no_more [] e = refl
      no_more (g ∷ rest) e = none_some (sym e)

      ended : header_fault vars fields ≡ (if nat_lt (length r.before) (length (wanted vars)) then Some (header (suc (length r.before))) else None)
      ended = r.fault ∙ ap (fields_fault (wanted vars) r.before (suc (length r.before))) (no_more r.rest (sym here ∙ e))

      pub missing : length cols < suc (length (inputs_of vars)) → header_fault vars fields ≡ Some (header (length cols + 1))
      missing l =
          let at : suc (length r.before) ≡ length cols + 1 = omega (arith, so_far) in
          ended ∙ ap (λ b. if b then Some (header (suc (length r.before))) else None) (lt-ltb (length r.before) (length (wanted vars)) (omega (arith, l, so_far, wanted_count vars)))
          ∙ ap (λ k. Some (header k)) at

      pub whole : suc (length (inputs_of vars)) ≤ length cols → HeaderOf vars fields cols
      whole l = record {
        right = ended ∙ ap (λ b. if b then Some (header (suc (length r.before))) else None) (le-ltb (length r.before) (length (wanted vars)) (omega (arith, l, so_far, wanted_count vars)));
        columns = subst (λ (fs : List Text). ColumnsOf vars fs cols) (sym (r.split ∙ ap (λ fs. r.before ++ fs) (no_more r.rest (sym here ∙ e)) ∙ nil_after r.before)) r.columns;
        each = λ p m. one_some (sym (r.marks p (omega (arith, m, r.size))) ∙ all_set seen p (omega (arith, l, r.size, r.count)) (omega (arith, m, r.size)));
      }
        where
          nil_after : (xs : List Text) → xs ++ [] ≡ xs
          nil_after [] = refl
          nil_after (x ∷ xs) = ap (λ ys. x ∷ ys) (nil_after xs)
