-- The records of a text whose first part ends with a line feed and has no quote are those of this part and those of the other.
use Rattle.std.proofs.Common.{◌≡◌, ℕ, Bool, true, false, List, [], ◌∷◌, ◌++◌, Option, Some, None, inl, inr, refl, sym, ap, subst, ◌∙◌}
use Rattle.std.specs.Prelude.{⊤, ◌⊎◌, if◌then◌else◌, ◌==◌, ◌||◌}
use Rattle.std.specs.List.{list_any}
use Rattle.std.proofs.lemmas.List.{append_assoc}
use Rattle.csv.specs.Machine.{Read, next_record, step, in_field, start_field, start_record, is_end, ends_at_end, fields_after, field_after}
use Rattle.csv.specs.Reading.{default_config}
use Rattle.csv.specs.declared.parser.Action.{Action}
use Rattle.csv.specs.declared.parser.Action.TheVariants as act
use Rattle.csv.specs.declared.parser.State.{State}
use Rattle.csv.specs.declared.parser.State.TheVariants as st
use Rattle.grammar.specs.Pieces.{Text}
use Rattle.plc_rows.specs.Left.{AllRecords}

-- ---- without quotes the machine is in no quoted field

abbrev Open : State → Type 0
Open st.StartRecord = ⊤
Open st.StartField = ⊤
Open st.InField = ⊤
Open st.AfterCr = ⊤
Open st.InQuoted = ⊥
Open st.AfterQuote = ⊥
Open st.InEscape = ⊥
Open st.InComment = ⊥

abbrev OpenAt : State × Action → Type 0
OpenAt q = Open q.0

either : (b : Bool) (x y : State × Action) → OpenAt x → OpenAt y → OpenAt (if b then x else y)
either true x y p q = p
either false x y p q = q

at_end : (b : Bool) → Open (if b then st.AfterCr else st.StartRecord)
at_end true = tt
at_end false = tt

in_open : (c : ℕ) → OpenAt (in_field default_config c)
in_open c = either (c == 44) _ _ tt (either ((c == 13) || (c == 10)) _ _ (at_end (c == 13)) tt)

other : (b : Bool) (x y : State × Action) → b ≡ false → OpenAt y → OpenAt (if b then x else y)
other true x y e h = absurd cc
other false x y e h = h

starts : (c : ℕ) → (c == 34) ≡ false → OpenAt (start_field default_config c)
starts c e = other (c == 34) _ _ e (in_open c)

begins : (c : ℕ) → (c == 34) ≡ false → OpenAt (start_record default_config c)
begins c e = either ((c == 13) || (c == 10)) _ _ tt (starts c e)

stays_open : (s : State) (c : ℕ) → Open s → (c == 34) ≡ false → Open (step default_config s c).0
stays_open st.StartRecord c o e = begins c e
stays_open st.StartField c o e = starts c e
stays_open st.InField c o e = in_open c
stays_open st.AfterCr c o e = either (c == 10) _ _ tt (begins c e)
stays_open st.InQuoted c o e = absurd o
stays_open st.AfterQuote c o e = absurd o
stays_open st.InEscape c o e = absurd o
stays_open st.InComment c o e = absurd o

-- ---- a step that ends no record and is in no field skips its byte

Never : State × Action → Type 0
Never q = is_end q.1 ≡ false → ends_at_end q.0 ≡ false → ⊥

never : (b : Bool) (x y : State × Action) → Never x → Never y → Never (if b then x else y)
never true x y p q = p
never false x y p q = q

record_ends : (b : Bool) → Never (if b then st.AfterCr else st.StartRecord, act.EndRecord)
unfolding Never
record_ends b e h = absurd cc

never_in : (c : ℕ) → Never (in_field default_config c)
unfolding Never
never_in c = never (c == 44) _ _ fields (never ((c == 13) || (c == 10)) _ _ (record_ends (c == 13)) copies)
  where
    fields : Never (st.StartField, act.EndField)
    fields e h = absurd cc

    copies : Never (st.InField, act.Copy)
    copies e h = absurd cc

never_starts : (c : ℕ) → Never (start_field default_config c)
unfolding Never
never_starts c = never (c == 34) _ _ quoted (never_in c)
  where
    quoted : Never (st.InQuoted, act.Skip)
    quoted e h = absurd cc

Skips : State × Action → Type 0
Skips q = is_end q.1 ≡ false → ends_at_end q.0 ≡ false → q.1 ≡ act.Skip

skips : (b : Bool) (x y : State × Action) → Skips x → Never y → Skips (if b then x else y)
unfolding Never Skips
skips true x y p q = p
skips false x y p q = λ e h. absurd (q e h)

skips_skip : (s : State) → Skips (s, act.Skip)
unfolding Skips
skips_skip s e h = refl

skips_begin : (c : ℕ) → Skips (start_record default_config c)
skips_begin c = skips ((c == 13) || (c == 10)) _ _ (skips_skip st.StartRecord) (never_starts c)

skips_if : (b : Bool) (x y : State × Action) → Skips x → Skips y → Skips (if b then x else y)
skips_if true x y p q = p
skips_if false x y p q = q

quiet_step : (s : State) (c : ℕ) → Open s → is_end (step default_config s c).1 ≡ false → ends_at_end (step default_config s c).0 ≡ false
    → ((step default_config s c).1 ≡ act.Skip) × (ends_at_end s ≡ false)
unfolding Never Skips
quiet_step st.StartRecord c o e h = (skips_begin c e h, refl)
quiet_step st.AfterCr c o e h = (skips_if (c == 10) _ _ (skips_skip st.StartRecord) (skips_begin c) e h, refl)
quiet_step st.StartField c o e h = absurd (never_starts c e h)
quiet_step st.InField c o e h = absurd (never_in c e h)
quiet_step st.InQuoted c o e h = absurd o
quiet_step st.AfterQuote c o e h = absurd o
quiet_step st.InEscape c o e h = absurd o
quiet_step st.InComment c o e h = absurd o

-- ---- one record

abbrev Plain : Text → Type 0
Plain x = list_any (λ (y : ℕ). y == 34) x ≡ false

neither : (a b : Bool) → (a || b) ≡ false → (a ≡ false) × (b ≡ false)
neither true b q = absurd cc
neither false b q = (refl, q)

-- what is left of the first part behind a record
abbrev Rests : State → Text → Type 0
Rests s rest = ((rest ≡ []) × (s ≡ st.StartRecord)) ⊎ ((y : Text) × (rest ≡ y ++ 10 ∷ []) × Plain y × Open s)

-- a record ends in the first part, or none does
data Goes (s : State) (f : List Text) (p x b : Text) : Type 0 where
  ends : (fs : List Text) (t : State) (rest : Text) → next_record default_config s f p (x ++ 10 ∷ []) ≡ Some (fs, t, rest)
      → next_record default_config s f p (x ++ 10 ∷ b) ≡ Some (fs, t, rest ++ b) → Rests t rest → Goes s f p x b
  goes_on : ends_at_end s ≡ false → next_record default_config s f p (x ++ 10 ∷ []) ≡ None
      → next_record default_config s f p (x ++ 10 ∷ b) ≡ next_record default_config st.StartRecord f p b → Goes s f p x b

goes_at : (s : State) (f : List Text) (p b : Text) → Open s → Goes s f p [] b
unfolding next_record
goes_at st.StartRecord f p b o = goes_on refl refl refl
goes_at st.AfterCr f p b o = goes_on refl refl refl
goes_at st.StartField f p b o = ends (f ++ p ∷ []) st.StartRecord [] refl refl (inl (refl, refl))
goes_at st.InField f p b o = ends (f ++ p ∷ []) st.StartRecord [] refl refl (inl (refl, refl))
goes_at st.InQuoted f p b o = absurd o
goes_at st.AfterQuote f p b o = absurd o
goes_at st.InEscape f p b o = absurd o
goes_at st.InComment f p b o = absurd o

split_if : (c : Bool) (x y : Read) (o q r : Option Read) → c ≡ true → ((if c then Some x else o) ≡ Some x) × ((if c then Some y else q) ≡ Some y)
split_if true x y o q r e = (refl, refl)
split_if false x y o q r e = absurd cc

later_if : (c : Bool) (x : Read) (o : Option Read) → c ≡ false → (if c then Some x else o) ≡ o
later_if true x o e = absurd cc
later_if false x o e = refl

goes : (x : Text) (s : State) (f : List Text) (p b : Text) → Plain x → Open s → Goes s f p x b
unfolding next_record
goes [] s f p b h o = goes_at s f p b o
goes (c ∷ x) s f p b h o =
    let q = neither (c == 34) (list_any (λ (y : ℕ). y == 34) x) h in
    let within = stays_open s c o q.0 in
    go (is_end (step default_config s c).1) refl within q.1
    (goes x (step default_config s c).0 (fields_after (step default_config s c).1 f p) (field_after (step default_config s c).1 c p) b q.1 within)
  where
    go : (e : Bool) → is_end (step default_config s c).1 ≡ e → Open (step default_config s c).0 → Plain x
        → Goes (step default_config s c).0 (fields_after (step default_config s c).1 f p) (field_after (step default_config s c).1 c p) x b → Goes s f p (c ∷ x) b
    go true is within plain more =
        let both = split_if (is_end (step default_config s c).1)
        (fields_after (step default_config s c).1 f p, (step default_config s c).0, x ++ 10 ∷ []) (fields_after (step default_config s c).1 f p, (step default_config s c).0, x ++ 10 ∷ b)
        (next_record default_config (step default_config s c).0 (fields_after (step default_config s c).1 f p) (field_after (step default_config s c).1 c p) (x ++ 10 ∷ []))
        (next_record default_config (step default_config s c).0 (fields_after (step default_config s c).1 f p) (field_after (step default_config s c).1 c p) (x ++ 10 ∷ b)) None is in
        ends (fields_after (step default_config s c).1 f p) (step default_config s c).0 (x ++ 10 ∷ []) both.0
        (both.1 ∙ ap (λ (t : Text). Some (fields_after (step default_config s c).1 f p, (step default_config s c).0, t)) (sym (append_assoc x (10 ∷ []) b)))
        (inr (x, refl, plain, within))
    go false is within plain more = on more
      where
        later : (t : Text) → next_record default_config s f p (c ∷ t)
            ≡ next_record default_config (step default_config s c).0 (fields_after (step default_config s c).1 f p) (field_after (step default_config s c).1 c p) t
        later t = later_if (is_end (step default_config s c).1) (fields_after (step default_config s c).1 f p, (step default_config s c).0, t) _ is

        on : Goes (step default_config s c).0 (fields_after (step default_config s c).1 f p) (field_after (step default_config s c).1 c p) x b → Goes s f p (c ∷ x) b
        on (ends fs t rest one two left) = ends fs t rest (later (x ++ 10 ∷ []) ∙ one) (later (x ++ 10 ∷ b) ∙ two) left
        on (goes_on quiet one two) =
            let skip = quiet_step s c o is quiet in
            goes_on skip.1 (later (x ++ 10 ∷ []) ∙ one)
            (later (x ++ 10 ∷ b) ∙ two ∙ ap (λ (a : Action). next_record default_config st.StartRecord (fields_after a f p) (field_after a c p) b) skip.0)

-- ---- all records

same_records : (s t : State) (x y : Text) (rs : List (List Text)) → next_record default_config s [] [] x ≡ next_record default_config t [] [] y → AllRecords t y rs → AllRecords s x rs
unfolding AllRecords
same_records s t x y [] e h = e ∙ h
same_records s t x y (r ∷ rs) e h = (h.0, e ∙ h.1, h.2, h.3)

one_some : {A : Type 0} (x y : A) → Some x ≡ Some y → x ≡ y
one_some x y e = cc

none_some : {A B : Type 0} {x : A} → None ≡ Some x → B
none_some e = absurd cc

nothing : (rs : List (List Text)) → AllRecords st.StartRecord [] rs → rs ≡ []
unfolding AllRecords next_record
nothing [] h = refl
nothing (r ∷ rs) h = none_some h.1

pub all_split : (ra rb : List (List Text)) (s : State) (x b : Text) → Plain x → Open s → AllRecords s (x ++ 10 ∷ []) ra → AllRecords st.StartRecord b rb → AllRecords s (x ++ 10 ∷ b) (ra ++ rb)
unfolding AllRecords
all_split [] rb s x b h o left right = go (goes x s [] [] b h o)
  where
    go : Goes s [] [] x b → AllRecords s (x ++ 10 ∷ b) rb
    go (ends fs t rest one two q) = none_some (sym left ∙ one)
    go (goes_on quiet one two) = same_records s st.StartRecord (x ++ 10 ∷ b) b rb two right
all_split (r ∷ ra) rb s x b h o left right = go (λ t y plain within others. all_split ra rb t y b plain within others right) (goes x s [] [] b h o)
  where
    go : ((t : State) (y : Text) → Plain y → Open t → AllRecords t (y ++ 10 ∷ []) ra → AllRecords t (y ++ 10 ∷ b) (ra ++ rb)) → Goes s [] [] x b → AllRecords s (x ++ 10 ∷ b) (r ∷ ra ++ rb)
    go more (goes_on quiet one two) = none_some (sym one ∙ left.1)
    go more (ends fs t rest one two q) =
        let same : left.0 ≡ (fs, t, rest) = one_some left.0 (fs, t, rest) (sym left.1 ∙ one) in
        let others : AllRecords t rest ra = subst (λ (p : Read). AllRecords p.1 p.2 ra) same left.3 in
        ((fs, t, rest ++ b), two, left.2 ∙ ap (λ (p : Read). p.0) same, behind q others)
      where
        behind : Rests t rest → AllRecords t rest ra → AllRecords t (rest ++ b) (ra ++ rb)
        behind (inl (none, at)) others =
            let no : ra ≡ [] = nothing ra (subst (λ (u : State). AllRecords u [] ra) at (subst (λ (y : Text). AllRecords t y ra) none others)) in
            subst (λ (l : List (List Text)). AllRecords t (rest ++ b) (l ++ rb)) (sym no) (subst (λ (y : Text). AllRecords t (y ++ b) rb) (sym none) (subst (λ (u : State). AllRecords u b rb) (sym at) right))
        behind (inr (y, is, plain, within)) others =
            subst (λ (z : Text). AllRecords t (z ++ b) (ra ++ rb)) (sym is) (subst (λ (z : Text). AllRecords t z (ra ++ rb)) (sym (append_assoc y (10 ∷ []) b))
            (more t y plain within (subst (λ (z : Text). AllRecords t z ra) is others)))

pub from_start : (x b : Text) (ra rb : List (List Text)) → Plain x → AllRecords st.StartRecord (x ++ 10 ∷ []) ra → AllRecords st.StartRecord b rb → AllRecords st.StartRecord (x ++ 10 ∷ b) (ra ++ rb)
from_start x b ra rb h left right = all_split ra rb st.StartRecord x b h tt left right

-- a text has one list of records
pub one_list : (a b : List (List Text)) (s : State) (x : Text) → AllRecords s x a → AllRecords s x b → a ≡ b
unfolding AllRecords
one_list [] [] s x h k = refl
one_list [] (r ∷ b) s x h k = none_some (sym h ∙ k.1)
one_list (r ∷ a) [] s x h k = none_some (sym k ∙ h.1)
one_list (r ∷ a) (q ∷ b) s x h k =
    let same : h.0 ≡ k.0 = one_some h.0 k.0 (sym h.1 ∙ k.1) in
    let rest = one_list a b h.0.1 h.0.2 h.3 (subst (λ (p : Read). AllRecords p.1 p.2 b) (sym same) k.3) in
    let first : r ≡ q = h.2 ∙ ap (λ (p : Read). p.0) same ∙ sym k.2 in
    cc
