-- A record of a text has at most one field more than the text has bytes.
use Rattle.std.proofs.Common.{◌≡◌, ◌<◌, ◌≤◌, ◌^◌, ℕ, zero, suc, ◌+◌, Bool, true, false, List, [], ◌∷◌, ◌++◌, length, Option, Some, None, refl, sym, ap, arith}
use Rattle.std.specs.Prelude.{if◌then◌else◌}
use Rattle.std.proofs.lemmas.List.{length-append}
use Rattle.grammar.specs.Pieces.{Text}
use Rattle.csv.specs.Machine.{Read, next_record, step, is_end, ends_at_end, fields_after, field_after}
use Rattle.csv.specs.Reading.{default_config, records_from, records_next, strip_bom, is_bom}
use Rattle.csv.specs.declared.parser.Action.{Action}
use Rattle.csv.specs.declared.parser.Action.TheVariants as act
use Rattle.csv.specs.declared.parser.State.{State}
use Rattle.csv.specs.declared.parser.State.TheVariants as st
use Rattle.plc_rows.specs.Rows.{records_of}
use Rattle.plc_rows.proofs.Remaining.{one_some, none_some}

one_field : (a : Action) (fields : List Text) (field : Text) → length (fields_after a fields field) ≤ suc (length fields)
one_field act.Copy fields field = omega arith
one_field act.EndField fields field = omega (arith, length-append fields (field ∷ []))
one_field act.EndRecord fields field = omega (arith, length-append fields (field ∷ []))
one_field act.Skip fields field = omega arith

ended : (b : Bool) (x y : Option Read) (p : Read) (n : ℕ) → (if b then x else y) ≡ Some p → (x ≡ Some p → length p.0 ≤ n) → (y ≡ Some p → length p.0 ≤ n) → length p.0 ≤ n
ended true x y p n e f g = f e
ended false x y p n e f g = g e

few_fields : (s : State) (fields : List Text) (field text : Text) (p : Read) → next_record default_config s fields field text ≡ Some p → length p.0 ≤ length fields + suc (length text)
unfolding next_record
few_fields s fields field [] p e =
    ended (ends_at_end s) _ None p (length fields + 1) e
    (λ is. let q : length p.0 ≡ length (fields ++ (field ∷ [])) = ap (λ (r : Read). length r.0) (sym (one_some is)) in omega (arith, q, length-append fields (field ∷ [])))
    (λ is. none_some is)
few_fields s fields field (c ∷ text) p e =
    let a = (step default_config s c).1 in
    let more : length (fields_after a fields field) ≤ suc (length fields) = one_field a fields field in
    ended (is_end a) _ _ p (length fields + suc (suc (length text))) e
    (λ is. let q : length p.0 ≡ length (fields_after a fields field) = ap (λ (r : Read). length r.0) (sym (one_some is)) in omega (arith, q, more))
    (λ is. let rest = few_fields (step default_config s c).0 (fields_after a fields field) (field_after a c field) text p is in omega (arith, rest, more))

shorter : (text : Text) → length (strip_bom text) ≤ length text
unfolding strip_bom
shorter [] = omega arith
shorter (a ∷ []) = omega arith
shorter (a ∷ b ∷ []) = omega arith
shorter (a ∷ b ∷ c ∷ rest) = go (is_bom a b c)
  where
    go : (x : Bool) → length (if x then rest else a ∷ b ∷ c ∷ rest) ≤ length (a ∷ b ∷ c ∷ rest)
    go true = omega arith
    go false = omega arith

-- of the first record
first_few : (n : ℕ) (s : State) (text : Text) (fields : List Text) (rs : List (List Text)) → records_from default_config n s text ≡ fields ∷ rs → length fields ≤ suc (length text)
unfolding records_from
first_few zero s text fields rs e = absurd cc
first_few (suc n) s text fields rs e = go (next_record default_config s [] [] text) refl e
  where
    go : (o : Option Read) → next_record default_config s [] [] text ≡ o → records_next (records_from default_config n) o ≡ fields ∷ rs → length fields ≤ suc (length text)
    go None is e = absurd cc
    go (Some p) is e =
        let same : p.0 ≡ fields = cc in
        let few = few_fields s [] [] text p is in
        omega (arith, few, ap (λ (fs : List Text). length fs) same)

pub header_few : (text : Text) (fields : List Text) (rs : List (List Text)) → records_of text ≡ fields ∷ rs → length text ≤ 67108864 → length fields < 2 ^ 31
header_few text fields rs e l = let few = first_few (length (strip_bom text) + 1) st.StartRecord (strip_bom text) fields rs e in omega (arith, few, shorter text, l)
