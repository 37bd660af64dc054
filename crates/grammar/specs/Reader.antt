-- Helper of the code: reading with one token of sight, which gives what stands at the front, and what is left. What a list of
-- tokens may stand for is said by `Lang` and the grammars, without it.
use Rattle.std.specs.Prelude.{ℕ, zero, suc, ◌+◌, max, Bool, false, nat_lt, List, [], ◌∷◌, length, Option, Some, None, if◌then◌else◌}
use Rattle.grammar.specs.Lang.{has}

abbrev pub Read : Type 0 → Type 0 → Type 0
Read T A = Option (A × List T)

abbrev pub Reader : Type 0 → Type 0 → Type 0
Reader T A = List T → Read T A

abbrev pub and_then : {T A B : Type 0} → Read T A → (A → Reader T B) → Read T B
and_then None f = None
and_then (Some p) f = f p.0 p.1

-- whether the next token is of one of these kinds
abbrev pub starts : {T : Type 0} → (T → ℕ) → List ℕ → List T → Bool
starts code ks [] = false
starts code ks (t ∷ ts) = has ks (code t)

unfoldable pub one_at : {T : Type 0} → (T → ℕ) → List ℕ → Reader T T
one_at code ks [] = None
one_at code ks (t ∷ ts) = if has ks (code t) then Some (t, ts) else None

abbrev pub none_at : {T A : Type 0} → Reader T A
none_at ts = None

abbrev pub both_at : {T A B : Type 0} → Reader T A → Reader T B → Reader T (A × B)
both_at r s ts = and_then (r ts) (λ a us. and_then (s us) (λ b vs. Some ((a, b), vs)))

abbrev pub map_at : {T A B : Type 0} → (A → B) → Reader T A → Reader T B
map_at f r ts = and_then (r ts) (λ a us. Some (f a, us))

-- the first where one of its tokens comes next, and else the second
abbrev pub either_at : {T A : Type 0} → (T → ℕ) → List ℕ → Reader T A → Reader T A → Reader T A
either_at code ks r s ts = if starts code ks ts then r ts else s ts

-- the first where a test of what comes next says so, and else the second
abbrev pub when_at : {T A : Type 0} → (List T → Bool) → Reader T A → Reader T A → Reader T A
when_at test r s ts = if test ts then r ts else s ts

abbrev pub optional_at : {T A : Type 0} → (T → ℕ) → List ℕ → Reader T A → Reader T (Option A)
optional_at code ks r ts = if starts code ks ts then map_at (λ a. Some a) r ts else Some (None, ts)

-- the second reader is made by what the first took
abbrev pub bind_at : {T A B : Type 0} → Reader T A → (A → Reader T B) → Reader T B
bind_at r s ts = and_then (r ts) s

abbrev pub checked : {T A : Type 0} → (A → Bool) → A → Reader T A
checked test a ts = if test a then Some (a, ts) else None

-- what passes a test
abbrev pub such_at : {T A : Type 0} → (A → Bool) → Reader T A → Reader T A
such_at test r ts = and_then (r ts) (checked test)

-- Each turn takes a token, so the number of tokens bounds the turns.
unfoldable pub many_from : {T A : Type 0} → (T → ℕ) → List ℕ → Reader T A → ℕ → Reader T (List A)
many_from code ks r zero ts = Some ([], ts)
many_from code ks r (suc n) ts =
    if starts code ks ts then and_then (r ts) (λ a us. and_then (many_from code ks r n us) (λ more vs. Some (a ∷ more, vs)))
    else Some ([], ts)

abbrev pub many_at : {T A : Type 0} → (T → ℕ) → List ℕ → Reader T A → Reader T (List A)
many_at code ks r ts = many_from code ks r (length ts) ts

abbrev pub list_at : {T A : Type 0} → (T → ℕ) → List ℕ → Reader T A → Reader T A → Reader T (List A)
list_at code ks r s = map_at (λ p. p.0 ∷ p.1) (both_at r (many_at code ks s))

-- ---- readers that also count the depth

abbrev pub Deep : Type 0 → Type 0 → Type 0
Deep T A = Reader T (A × ℕ)

abbrev pub flat_at : {T A : Type 0} → Reader T A → Deep T A
flat_at = map_at (λ a. (a, 0))

abbrev pub deep_both : {T A B : Type 0} → Deep T A → Deep T B → Deep T (A × B)
deep_both r s = map_at (λ p. ((p.0.0, p.1.0), max p.0.1 p.1.1)) (both_at r s)

abbrev pub deep_map : {T A B : Type 0} → (A → B) → Deep T A → Deep T B
deep_map f = map_at (λ p. (f p.0, p.1))

abbrev pub joined : {A : Type 0} → A × ℕ → List A × ℕ → List A × ℕ
joined p q = (p.0 ∷ q.0, max p.1 q.1)

unfoldable pub deep_from : {T A : Type 0} → (T → ℕ) → List ℕ → Deep T A → ℕ → Deep T (List A)
deep_from code ks r zero ts = Some (([], 0), ts)
deep_from code ks r (suc n) ts =
    if starts code ks ts then and_then (r ts) (λ a us. and_then (deep_from code ks r n us) (λ more vs. Some (joined a more, vs)))
    else Some (([], 0), ts)

abbrev pub deep_many : {T A : Type 0} → (T → ℕ) → List ℕ → Deep T A → Deep T (List A)
deep_many code ks r ts = deep_from code ks r (length ts) ts

abbrev pub deep_list : {T A : Type 0} → (T → ℕ) → List ℕ → Deep T A → Deep T A → Deep T (List A)
deep_list code ks r s = deep_map (λ p. p.0 ∷ p.1) (deep_both r (deep_many code ks s))

-- one more level, of which there are so many
unfoldable pub level : {T A : Type 0} → ℕ → A → ℕ → List T → Read T (A × ℕ)
level limit a depth ts = if nat_lt depth limit then Some ((a, depth + 1), ts) else None

-- what stands inside a form
abbrev pub inside : {T A : Type 0} → ℕ → Deep T A → Deep T A
inside limit r ts = and_then (r ts) (λ p us. level limit p.0 p.1 us)

abbrev pub above : {A B : Type 0} → (A → B → A) → A × ℕ → B × ℕ → A × ℕ
above make p q = (make p.0 q.0, max p.1 q.1)

-- an operand, or one with others after it as one form
abbrev pub chained : {T A B : Type 0} → ℕ → (A → List B → A) → A × ℕ → List B × ℕ → Reader T (A × ℕ)
chained limit make first ([], e) ts = Some (first, ts)
chained limit make first (b ∷ bs, e) ts = and_then (level limit first.0 first.1 ts) (λ p us. Some (above make p (b ∷ bs, e), us))

abbrev pub chain_at : {T A B : Type 0} → (T → ℕ) → List ℕ → ℕ → (A → List B → A) → Deep T A → Deep T B → Deep T A
chain_at code ks limit make r s ts = and_then (r ts) (λ a us. and_then (deep_many code ks s us) (λ bs vs. chained limit make a bs vs))

-- an operand, or one with a suffix as one form
abbrev pub suffix_at : {T A B : Type 0} → (T → ℕ) → List ℕ → ℕ → (A → B → A) → Deep T A → Deep T B → Deep T A
suffix_at code ks limit make r s ts = and_then (r ts) (λ a us.
    if starts code ks us then and_then (s us) (λ b vs. and_then (level limit a.0 a.1 vs) (λ p ws. Some (above make p b, ws))) else Some (a, us))

-- a reader of what stands inside, which may still go so deep
abbrev pub nested : {T A : Type 0} → ℕ → (ℕ → Deep T A) → ℕ → Deep T A
nested limit r zero = none_at
nested limit r (suc k) = inside limit (r k)
