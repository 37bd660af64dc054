-- The first of a list of texts that is a given one, by its number, and tables of such numbers.
use Rattle.std.proofs.Common.{◌≡◌, ℕ, suc, ◌+◌, ◌<◌, Bool, true, false, cond, List, [], ◌∷◌, ◌++◌, length, map, drop, drop-cons, get_or, add-one, Option, Some, None, refl, sym, ap, ◌∙◌, Bor}
use Rattle.std.specs.Prelude.{find, is_some, nat_eq, option_map, if◌then◌else◌}
use Rattle.std.specs.List.{enumerate_from}
use Rattle.std.specs.Map.{lookup}
use Rattle.std.specs.Cmp.Lexicographic.{pointwise}
use Rattle.std.proofs.lemmas.List.{map-append}
use Rattle.cif_system.proofs.Lists.{false-true}
use Rattle.grammar.specs.Pieces.{Text, same}
use Rattle.grammar.proofs.Texts.{same_is, same_flip, same_equal}
use Rattle.cif_script.specs.Numbers.{Numbered, number_at}

-- ---- lists

-- the first of the texts that are left from number k on
abbrev pub found : Text → ℕ → List Text → Option (ℕ × Text)
found t k xs = find (λ x. same x.1 t) (enumerate_from k xs)

pub drop-item : {A : Type 0} (xs : List A) (k : ℕ) (x : A) → k < length xs → x ≡ get_or xs k x → drop k xs ≡ x ∷ drop (k + 1) xs
drop-item xs k x l e = drop-cons xs k x l ∙ ap (λ y. y ∷ drop (suc k) xs) (sym e) ∙ ap (λ n. x ∷ drop n xs) (sym (add-one k))

pub found_next : {A : Type 0} (f : A → Text) (t : Text) (xs : List A) (k : ℕ) (x : A) → k < length xs → x ≡ get_or xs k x
    → found t k (map f (drop k xs)) ≡ cond (same (f x) t) (Some (k, f x)) (found t (k + 1) (map f (drop (k + 1) xs)))
found_next f t xs k x l e = ap (λ ys. found t k (map f ys)) (drop-item xs k x l e)

-- two texts are compared
pub tested : (x t : Text) → pointwise nat_eq t x ≡ same x t
tested x t = same_is t x ∙ same_flip t x

-- ---- tables

abbrev pub either : Option ℕ → Option ℕ → Option ℕ
either None b = b
either (Some n) b = Some n

-- what a map finds is what its table has
pub table_finds : (es : List (Bor Text × ℕ)) (t : Text) → lookup (λ k. pointwise nat_eq t k.now) es ≡ number_at (map (λ e. (e.0.now, e.1)) es) t
table_finds [] t = refl
table_finds (e ∷ es) t = by (same e.0.now t) (tested e.0.now t) (table_finds es t)
  where
    by : (b : Bool) → pointwise nat_eq t e.0.now ≡ b → lookup (λ k. pointwise nat_eq t k.now) es ≡ number_at (map (λ e. (e.0.now, e.1)) es) t
        → cond (pointwise nat_eq t e.0.now) (Some e.1) (lookup (λ k. pointwise nat_eq t k.now) es)
        ≡ option_map (λ (x : Numbered). x.1) (cond b (Some (e.0.now, e.1)) (find (λ x. same x.0 t) (map (λ e. (e.0.now, e.1)) es)))
    by true h r = ap (λ b. cond b (Some e.1) (lookup (λ k. pointwise nat_eq t k.now) es)) h
    by false h r = ap (λ b. cond b (Some e.1) (lookup (λ k. pointwise nat_eq t k.now) es)) h ∙ r

-- ---- a table with a row more

pub row_behind : (es : List Numbered) (p : Text) (k : ℕ) (t : Text) → number_at (es ++ (p, k) ∷ []) t ≡ either (number_at es t) (cond (same p t) (Some k) None)
row_behind [] p k t = by (same p t)
  where
    by : (b : Bool) → option_map (λ (x : Numbered). x.1) (cond b (Some (p, k)) None) ≡ cond b (Some k) None
    by true = refl
    by false = refl
row_behind (e ∷ es) p k t = by (same e.0 t) (row_behind es p k t)
  where
    by : (b : Bool) → number_at (es ++ (p, k) ∷ []) t ≡ either (number_at es t) (cond (same p t) (Some k) None)
        → option_map (λ (x : Numbered). x.1) (cond b (Some e) (find (λ x. same x.0 t) (es ++ (p, k) ∷ [])))
        ≡ either (option_map (λ (x : Numbered). x.1) (cond b (Some e) (find (λ x. same x.0 t) es))) (cond (same p t) (Some k) None)
    by true r = refl
    by false r = r

-- the table with a row more, unless it has one for that path
abbrev pub with_row : List Numbered → Text → ℕ → List Numbered
with_row es p k = if is_some (number_at es p) then es else es ++ (p, k) ∷ []

abbrev row : Bor Text × ℕ → Numbered
row e = (e.0.now, e.1)

is_known : (es : List (Bor Text × ℕ)) (table : List Numbered) (key : Bor Text) (p : Text) → map row es ≡ table → key.now ≡ p → is_some (lookup (λ k. pointwise nat_eq key.now k.now) es) ≡ is_some (number_at table p)
is_known es table key p view at = ap is_some (table_finds es key.now ∙ (λ i. number_at (view i) (at i)))

-- a map that has the path
pub row_kept : (es : List (Bor Text × ℕ)) (table : List Numbered) (key : Bor Text) (p : Text) (n : ℕ) → map row es ≡ table → key.now ≡ p
    → is_some (lookup (λ k. pointwise nat_eq key.now k.now) es) ≡ true → table ≡ with_row table p n
row_kept es table key p n view at h = ap (λ b. if b then table else table ++ (p, n) ∷ []) (sym h ∙ is_known es table key p view at)

-- a map that gets it
pub row_inserted : (es new : List (Bor Text × ℕ)) (table : List Numbered) (key : Bor Text) (p : Text) (n : ℕ) → map row es ≡ table → key.now ≡ p
    → is_some (lookup (λ k. pointwise nat_eq key.now k.now) es) ≡ false → new ≡ es ++ (key, n) ∷ [] → map row new ≡ with_row table p n
row_inserted es new table key p n view at h e =
    ap (map row) e ∙ map-append row es ((key, n) ∷ []) ∙ (λ i. view i ++ (at i, n) ∷ [])
    ∙ ap (λ b. if b then table else table ++ (p, n) ∷ []) (sym h ∙ is_known es table key p view at)

pub none_there : {A : Type 0} (o : Option A) → is_some o ≡ false → o ≡ None
none_there None h = refl
none_there (Some x) h = absurd cc

pub row_added : (es : List Numbered) (p : Text) (k : ℕ) (t : Text) → number_at (with_row es p k) t ≡ either (number_at es t) (cond (same p t) (Some k) None)
row_added es p k t = by (is_some (number_at es p)) refl
  where
    known : (o : Option ℕ) (b : Bool) → number_at es t ≡ o → same p t ≡ b → is_some (number_at es p) ≡ true → o ≡ either o (cond b (Some k) None)
    known (Some n) b e s h = refl
    known None false e s h = refl
    known None true e s h = absurd (false-true (ap is_some (ap (number_at es) (same_equal p t s) ∙ e)) h)

    by : (b : Bool) → is_some (number_at es p) ≡ b → number_at (if b then es else es ++ (p, k) ∷ []) t ≡ either (number_at es t) (cond (same p t) (Some k) None)
    by true h = known (number_at es t) (same p t) refl refl h
    by false h = row_behind es p k t

-- What the table has with what is left to be added is as before, where the next path is added.
pub step_kept : {A : Type 0} (f : A → Text) (t : Text) (xs : List A) (k : ℕ) (x : A) (es news : List Numbered) (all : Option ℕ) → k < length xs → x ≡ get_or xs k x → news ≡ with_row es (f x) k
    → either (number_at es t) (option_map (λ y. y.0) (found t k (map f (drop k xs)))) ≡ all
    → either (number_at news t) (option_map (λ y. y.0) (found t (k + 1) (map f (drop (k + 1) xs)))) ≡ all
step_kept f t xs k x es news all l e n h =
    ap (λ o. either o (option_map (λ y. y.0) (found t (k + 1) (map f (drop (k + 1) xs))))) (ap (λ ts. number_at ts t) n ∙ row_added es (f x) k t)
    ∙ by (number_at es t) (same (f x) t) (found t (k + 1) (map f (drop (k + 1) xs)))
    ∙ ap (λ o. either (number_at es t) (option_map (λ y. y.0) o)) (sym (found_next f t xs k x l e)) ∙ h
  where
    by : (a : Option ℕ) (b : Bool) (o : Option (ℕ × Text)) → either (either a (cond b (Some k) None)) (option_map (λ y. y.0) o) ≡ either a (option_map (λ y. y.0) (cond b (Some (k, f x)) o))
    by (Some n) b o = refl
    by None true o = refl
    by None false o = refl

pub nothing_more : (o : Option ℕ) → either o None ≡ o
nothing_more None = refl
nothing_more (Some n) = refl
