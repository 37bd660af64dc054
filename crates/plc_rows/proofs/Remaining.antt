-- The records that a reader has left are those of its text, one after the other.
use Rattle.std.proofs.Common.{◌≡◌, ◌≤◌, ◌<◌, ℕ, zero, suc, Bool, true, false, List, [], ◌∷◌, length, Bor, Option, Some, None, refl, sym, ap, subst, ◌∙◌, arith, inl, inr, ◌+◌}
use Rattle.std.specs.Prelude.{Result, Ok, IfOk, OnOk}
use Rattle.plc_rows.specs.Rows.{records_of}
use Rattle.csv.specs.declared.reader.Trim.TheVariants as trim
use Rattle.std.specs.Prelude.{if◌then◌else◌, ◌==◌, ◌||◌}
use Rattle.std.proofs.lemmas.Bool.{false≢true}
use Rattle.grammar.specs.Pieces.{Text}
use Rattle.csv.specs.Machine.{Read, next_record, step, in_field, start_field, start_record, is_end, ends_at_end}
use Rattle.csv.specs.Reading.{Ready, Reached, ReadRecord, default_config, records_from, records_next, source_of, strip_bom}
use Rattle.csv.specs.declared.parser.Action.{Action}
use Rattle.csv.specs.declared.parser.Action.TheVariants as act
use Rattle.csv.specs.declared.parser.State.{State}
use Rattle.csv.specs.declared.parser.State.TheVariants as st
use Rattle.csv.specs.declared.reader.Reader.{Reader}
use Rattle.csv.proofs.ReadFacts.{rows-end, rows-more}
use Rattle.plc_rows.specs.Left.{AllRecords, Left, Next}

-- ---- after a record the machine is in no field

Between : State × Action → Type 0
Between q = is_end q.1 ≡ true → ends_at_end q.0 ≡ false

either : (b : Bool) (x y : State × Action) → Between x → Between y → Between (if b then x else y)
either true x y p q = p
either false x y p q = q

skips : (s : State) → Between (s, act.Skip)
unfolding Between
skips s e = absurd (false≢true e)

copies : (s : State) → Between (s, act.Copy)
unfolding Between
copies s e = absurd (false≢true e)

field_ends : (s : State) → Between (s, act.EndField)
unfolding Between
field_ends s e = absurd (false≢true e)

record_ends : (b : Bool) → Between (if b then st.AfterCr else st.StartRecord, act.EndRecord)
unfolding Between
record_ends true e = refl
record_ends false e = refl

in_between : (c : ℕ) → Between (in_field default_config c)
in_between c = either (c == 44) _ _ (field_ends st.StartField) (either ((c == 13) || (c == 10)) _ _ (record_ends (c == 13)) (copies st.InField))

starts : (c : ℕ) → Between (start_field default_config c)
starts c = either (c == 34) _ _ (skips st.InQuoted) (in_between c)

begins : (c : ℕ) → Between (start_record default_config c)
begins c = either ((c == 13) || (c == 10)) _ _ (skips st.StartRecord) (starts c)

between : (s : State) (c : ℕ) → Between (step default_config s c)
between st.StartRecord c = begins c
between st.StartField c = starts c
between st.InField c = in_between c
between st.InQuoted c = either (c == 34) _ _ (skips st.AfterQuote) (copies st.InQuoted)
between st.InEscape c = copies st.InQuoted
between st.AfterQuote c = either (c == 34) _ _ (copies st.InQuoted) (in_between c)
between st.InComment c = either (c == 10) _ _ (skips st.StartRecord) (skips st.InComment)
between st.AfterCr c = either (c == 10) _ _ (skips st.StartRecord) (begins c)

-- ---- a record takes bytes

abbrev value-or : {A : Type 0} → A → Option A → A
value-or d None = d
value-or d (Some x) = x

pub one_some : {A : Type 0} {x y : A} → Some x ≡ Some y → x ≡ y
one_some {A} {x} {y} e = ap (value-or x) e

pub none_some : {A B : Type 0} {x : A} → None ≡ Some x → B
none_some e = absurd cc

module _ (m : ℕ) where
  -- a read that leaves at most m bytes, between two records
  abbrev Leaves : Read → Type 0
  Leaves p = (length p.2 ≤ m) × (ends_at_end p.1 ≡ false)

  leaves_if : (b : Bool) (x : Read) (o : Option Read) (p : Read) → (if b then Some x else o) ≡ Some p → (b ≡ true → Leaves x) → (o ≡ Some p → Leaves p) → Leaves p
  leaves_if true x o p e now later = subst Leaves (one_some e) (now refl)
  leaves_if false x o p e now later = later e

  leaves : (text : Text) (s : State) (fields : List Text) (field : Text) (p : Read) → next_record default_config s fields field text ≡ Some p → length text ≤ m → Leaves p
  unfolding next_record Between
  leaves [] s fields field p e l = leaves_if (ends_at_end s) _ None p e (λ h. (l, refl)) (λ h. none_some h)
  leaves (c ∷ text) s fields field p e l =
      let fewer : length text ≤ m = omega (arith, l) in
      leaves_if (is_end (step default_config s c).1) _ _ p e (λ is. (fewer, between s c is)) (λ h. leaves text _ _ _ p h fewer)

  leaves_first : (s : State) (c : ℕ) (text : Text) (p : Read) → next_record default_config s [] [] (c ∷ text) ≡ Some p → length text ≤ m → Leaves p
  unfolding next_record Between
  leaves_first s c text p e l = leaves_if (is_end (step default_config s c).1) _ _ p e (λ is. (l, between s c is)) (λ h. leaves text _ _ _ p h l)

no_less : (n : ℕ) → n ≤ n
no_less n = omega arith

nothing_left : (s : State) → ends_at_end s ≡ false → next_record default_config s [] [] [] ≡ None
unfolding next_record
nothing_left s e = rw e refl

-- a text is read to its end
pub all_left : (n : ℕ) (s : State) (text : Text) → ends_at_end s ≡ false → length text < n → AllRecords s text (records_from default_config n s text)
unfolding records_from AllRecords
all_left zero s text e l = absurd (omega (arith, l))
all_left (suc n) s [] e l = subst (λ (o : Option Read). AllRecords s [] (records_next (records_from default_config n) o)) (sym (nothing_left s e)) (nothing_left s e)
all_left (suc n) s (c ∷ text) e l = go (next_record default_config s [] [] (c ∷ text)) refl (all_left n)
  where
    go : (o : Option Read) → next_record default_config s [] [] (c ∷ text) ≡ o
        → ((s : State) (text : Text) → ends_at_end s ≡ false → length text < n → AllRecords s text (records_from default_config n s text))
        → AllRecords s (c ∷ text) (records_next (records_from default_config n) o)
    go None is more = is
    go (Some p) is more =
        let left = leaves_first (length text) s c text p is (no_less (length text)) in
        let few = left.0 in
        (p, is, refl, more p.1 p.2 left.1 (omega (arith, l, few)))

-- ---- one record more

abbrev pub Source : Type 0
Source = Bor (List ℕ)

none_left : (s : State) (text : Text) (fields : List Text) (after : Reader Source) (rs : List (List Text)) → next_record default_config s [] [] text ≡ None → AllRecords s text rs → Next false fields after rs
unfolding AllRecords Next
none_left s text fields after [] e h = tt
none_left s text fields after (r ∷ rs) e h = none_some (sym e ∙ h.1)

one_left : (s : State) (text : Text) (fields : List Text) (after : Reader Source) (rs : List (List Text)) (p : Read) (rest : Text) → AllRecords s text rs
    → next_record default_config s [] [] text ≡ Some p → fields ≡ p.0 → p.1 ≡ after.state → p.2 ≡ rest
    → ((ss : List (List Text)) → AllRecords after.state rest ss → Left after ss) → Next true fields after rs
unfolding AllRecords Next
one_left s text fields after [] p rest h e f g k more = none_some (sym h ∙ e)
one_left s text fields after (r ∷ rs) p rest h e f g k more =
    let same : h.0 ≡ p = one_some (sym h.1 ∙ e) in (
      f ∙ ap (λ (q : Read). q.0) (sym same) ∙ sym h.2,
      more rs (subst (λ (t : State). AllRecords t rest rs) (ap (λ (q : Read). q.1) same ∙ g) (subst (λ (t : Text). AllRecords h.0.1 t rs) (ap (λ (q : Read). q.2) same ∙ k) h.3)),
    )

-- a read of a reader that stands before these records
pub read_next : (a b : Reader Source) (found : Bool) (fields : List Text) (rs : List (List Text)) → Left a rs
    → ReadRecord (λ (s : Source). Some s.now) a b found fields → Ready b → Next found fields b rs
unfolding Left Reached
read_next a b false fields rs h r ready =
    none_left a.state h.3 fields b rs (rows-end (λ (s : Source). Some s.now) a b fields default_config h.3 h.2 h.4 r) h.5
read_next a b true fields rs h r ready =
    let m = rows-more (λ (s : Source). Some s.now) a b fields default_config a.state h.3 h.3 [] h.2 h.4 (refl, refl) r in
    one_left a.state h.3 fields b rs m.2.0 m.0 h.5 m.2.1 m.2.2 m.2.3.0 m.2.3.1 (λ ss all. (r.3 ∙ h.0, ready, r.2 ∙ h.2, m.0, m.1, all))

pub read_ok : {E : Type 0} (a b : Reader Source) (fields : List Text) (r : Result Bool E) (found : Bool) → r ≡ Ok found
    → IfOk r (λ found. a.trim ≡ trim.None → Ready a → ReadRecord (λ (s : Source). Some s.now) a b found fields)
    → (a.trim ≡ trim.None → OnOk r (b.first ≡ true)) → (rs : List (List Text)) → Left a rs → Next found fields b rs
unfolding Left
read_ok {E} a b fields r found e reads ready rs h =
    read_next a b found fields rs h (by r e reads h.0 h.1) (inl (on r e (ready h.0)))
  where
    by : (r : Result Bool E) → r ≡ Ok found → IfOk r (λ found. a.trim ≡ trim.None → Ready a → ReadRecord (λ (s : Source). Some s.now) a b found fields)
        → a.trim ≡ trim.None → Ready a → ReadRecord (λ (s : Source). Some s.now) a b found fields
    by r e reads = rw e at reads

    on : (r : Result Bool E) → r ≡ Ok found → OnOk r (b.first ≡ true) → b.first ≡ true
    on r e h = rw e at h

-- a reader before a text has all its records left
pub starts_left : (r : Reader Source) (text : Text) → r.trim ≡ trim.None → r.has_headers ≡ false → r.headers ≡ None → r.config ≡ default_config
    → source_of (λ (s : Source). Some s.now) r ≡ Some (strip_bom text) → r.state ≡ st.StartRecord → Left r (records_of text)
unfolding Left
starts_left r text t n h g s e =
    (t, inr (inr (n, h)), g, strip_bom text, s, subst (λ (x : State). AllRecords x (strip_bom text) (records_of text)) (sym e) (all_left (length (strip_bom text) + 1) st.StartRecord (strip_bom text) refl (omega arith)))
