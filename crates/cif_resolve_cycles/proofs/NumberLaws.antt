-- Names numbered through.
use Rattle.std.proofs.Common.{◌≡◌, ◌≢◌, ℕ, zero, suc, ◌+◌, ◌-◌, ◌<◌, ◌≤◌, List, [], ◌∷◌, ◌++◌, length, drop, add-one, inl, inr, refl, sym, ap, subst, ◌∙◌, arith, Option, Some, None}
use Rattle.std.specs.Prelude.{slice_get, option_map}
use Rattle.cif_system.proofs.Lists.{some-same, none-some}
use Rattle.cif_order.proofs.Lists.{same-or-other}
use Rattle.cif_ast.specs.declared.names.Ident.{Ident}
use Rattle.cif_scope.specs.declared.scope.ScopeName.{ScopeName}
use Rattle.cif_scope.specs.declared.scope.Scope.{Scope}
use Rattle.cif_scope.specs.Looks.{names_in}
use Rattle.cif_resolve_cycles.specs.Names.{names_before, firsts_to, name_of, all_names, place_of}

pub get-front : {A : Type 0} (xs ys : List A) (m : ℕ) → m < length xs → slice_get (xs ++ ys) m ≡ slice_get xs m
get-front [] ys m l = absurd (omega arith)
get-front (x ∷ xs) ys zero l = refl
get-front (x ∷ xs) ys (suc m) l = let less : m < length xs = omega arith in get-front xs ys m less

pub get-rest : {A : Type 0} (xs ys : List A) (m : ℕ) → length xs ≤ m → slice_get (xs ++ ys) m ≡ slice_get ys (m - length xs)
get-rest [] ys m l = let e : m ≡ m - 0 = omega arith in ap (slice_get ys) e
get-rest (x ∷ xs) ys zero l = absurd (omega arith)
get-rest (x ∷ xs) ys (suc m) l =
    let less : length xs ≤ m = omega arith in
    let e : m - length xs ≡ suc m - suc (length xs) = omega arith in
    get-rest xs ys m less ∙ ap (slice_get ys) e

pub length-push : {A : Type 0} (xs : List A) (x : A) → length (xs ++ x ∷ []) ≡ suc (length xs)
length-push [] x = refl
length-push (y ∷ xs) x = ap suc (length-push xs x)

pub get-pushed : {A : Type 0} (xs : List A) (x : A) (n : ℕ) → length xs ≡ n → slice_get (xs ++ x ∷ []) n ≡ Some x
get-pushed xs x n e =
    let least : length xs ≤ n = omega arith in
    let none : n - length xs ≡ 0 = omega arith in
    get-rest xs (x ∷ []) n least ∙ ap (slice_get (x ∷ [])) none

pub below-other : (k n : ℕ) → k < suc n → k ≢ n → k < n
below-other k n l h = omega (arith, h)

pub names-first : (ss : List Scope) → names_before ss 0 ≡ 0
names-first [] = refl
names-first (s ∷ ss) = refl

names-suc : (ss : List Scope) (k : ℕ) → names_before ss (suc k) ≡ names_before ss k + length (names_in (slice_get ss k))
names-suc [] k = refl
names-suc (s ∷ ss) zero = let e : names_before ss 0 ≡ 0 = names-first ss in omega arith
names-suc (s ∷ ss) (suc k) = let e : names_before ss (suc k) ≡ names_before ss k + length (names_in (slice_get ss k)) = names-suc ss k in omega arith

pub names-next : (ss : List Scope) (k : ℕ) → names_before ss (k + 1) ≡ names_before ss k + length (names_in (slice_get ss k))
names-next ss k = ap (names_before ss) (add-one k) ∙ names-suc ss k

pub firsts-next : (ss : List Scope) (k n : ℕ) (all more : List ℕ) → all ≡ firsts_to ss k → n ≡ names_before ss k → more ≡ all ++ n ∷ [] → more ≡ firsts_to ss (k + 1)
firsts-next ss k n all more e f g = g ∙ ap (λ l. l ++ n ∷ []) e ∙ ap (λ m. firsts_to ss k ++ m ∷ []) f ∙ sym (ap (firsts_to ss) (add-one k))

firsts-length : (ss : List Scope) (n : ℕ) → length (firsts_to ss n) ≡ n
firsts-length ss zero = refl
firsts-length ss (suc n) = length-push (firsts_to ss n) (names_before ss n) ∙ ap suc (firsts-length ss n)

pub first-at : (ss : List Scope) (n k : ℕ) → k < n → slice_get (firsts_to ss n) k ≡ Some (names_before ss k)
first-at ss zero k l = absurd (omega arith)
first-at ss (suc n) k l = elim (same-or-other k n) [
  | inl e ↦ subst (λ j. slice_get (firsts_to ss n ++ names_before ss n ∷ []) j ≡ Some (names_before ss j)) (sym e) (get-pushed (firsts_to ss n) (names_before ss n) n (firsts-length ss n))
  | inr e ↦
      let less : k < n = below-other k n l e in
      let inside : k < length (firsts_to ss n) = let long = firsts-length ss n in omega arith in
      get-front (firsts_to ss n) (names_before ss n ∷ []) k inside ∙ first-at ss n k less
]

-- ---- where a name stands

split-off : (ss : List Scope) (k : ℕ) → k < length ss → (s : Scope) × (slice_get ss k ≡ Some s) × (drop k ss ≡ s ∷ drop (suc k) ss)
split-off [] k l = absurd (omega arith)
split-off (s ∷ ss) zero l = (s, refl, refl)
split-off (s ∷ ss) (suc k) l = let less : k < length ss = omega arith in split-off ss k less

place-front : (s : Scope) (ss : List Scope) (m : ℕ) → m < length s.names → place_of (s ∷ ss) m ≡ option_map (λ (n : ScopeName). n.name.at) (slice_get s.names m)
place-front s ss m l = ap (option_map (λ (n : ScopeName). n.name.at)) (get-front s.names (all_names ss) m l)

place-rest : (s : Scope) (ss : List Scope) (m : ℕ) → length s.names ≤ m → place_of (s ∷ ss) m ≡ place_of ss (m - length s.names)
place-rest s ss m l = ap (option_map (λ (n : ScopeName). n.name.at)) (get-rest s.names (all_names ss) m l)

named-at : (o : Option ScopeName) (i : Ident) → option_map name_of o ≡ Some i → option_map (λ (n : ScopeName). n.name.at) o ≡ Some i.at
named-at None i h = absurd (none-some i h)
named-at (Some n) i h = ap (λ (j : Ident). Some j.at) (some-same n.name i h)

-- the name of slot m of scope k, from scope k on
pub place-here : (ss : List Scope) (k m : ℕ) (i : Ident) → k < length ss → m < length (names_in (slice_get ss k)) → option_map name_of (slice_get (names_in (slice_get ss k)) m) ≡ Some i → place_of (drop k ss) m ≡ Some i.at
place-here ss k m i l g h =
    let w = split-off ss k l in
    let small : m < length w.0.names = subst (λ o. m < length (names_in o)) w.1 g in
    let here : option_map name_of (slice_get w.0.names m) ≡ Some i = subst (λ o. option_map name_of (slice_get (names_in o) m) ≡ Some i) w.1 h in
    ap (λ l. place_of l m) w.2 ∙ place-front w.0 (drop (suc k) ss) m small ∙ named-at (slice_get w.0.names m) i here

-- past scope k
pub place-past : (ss : List Scope) (k m : ℕ) → k < length ss → length (names_in (slice_get ss k)) ≤ m → place_of (drop k ss) m ≡ place_of (drop (k + 1) ss) (m - length (names_in (slice_get ss k)))
place-past ss k m l g =
    let w = split-off ss k l in
    let less : length w.0.names ≤ m = subst (λ o. length (names_in o) ≤ m) w.1 g in
    ap (λ l. place_of l m) w.2 ∙ place-rest w.0 (drop (suc k) ss) m less ∙ ap (λ n. place_of (drop n ss) (m - length w.0.names)) (sym (add-one k)) ∙ ap (λ o. place_of (drop (k + 1) ss) (m - length (names_in o))) (sym w.1)
