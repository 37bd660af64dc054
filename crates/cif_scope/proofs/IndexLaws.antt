-- Names that are put by their slots one after the other.
use Rattle.std.proofs.Common.{◌≡◌, ℕ, zero, suc, ◌+◌, ◌<◌, ◌≤◌, ◌^◌, Bool, true, false, cond, List, [], ◌∷◌, ◌++◌, map, length, take, get_or, refl, sym, ap, subst, ◌∙◌, arith, Option, Some, None, inl, inr, ◌⊎◌}
use Rattle.std.specs.Prelude.{slice_get, option_map, nat_lt, ◌&&◌}
use Rattle.std.specs.List.{list_all, Any}
use Rattle.std.proofs.lemmas.List.{map-append, length-map}
use Rattle.cif_system.specs.Words.{Member, AreDistinct, Before}
use Rattle.cif_system.proofs.Lists.{some-same, none-some}
use Rattle.cif_system.proofs.Picks.{and-left, and-right}
use Rattle.cif_system.proofs.Distinct.{append-distinct}
use Rattle.cif_ast.specs.declared.names.Ident.{Ident}
use Rattle.cif_source.specs.Source.{Text, Source}
use Rattle.cif_source.specs.Components.{Component, Entry, scope_of, same_text}
use Rattle.cif_source.specs.Objects.{bodies}
use Rattle.cif_source.specs.Scoping.{DeclaresTwice, DuplicateDue}
use Rattle.cif_scope.specs.declared.scope.ScopeName.{ScopeName}
use Rattle.cif_scope.specs.declared.scope.Scope.{Scope}
use Rattle.cif_scope.specs.declared.table.Table.{Table}
use Rattle.cif_scope.specs.declared.error.ScopeErr.{ScopeErr}
use Rattle.cif_scope.specs.declared.error.ScopeErr.TheVariants.{Unknown, Duplicate, WrongKind, DefinitionCycle, Memory}
use Rattle.cif_scope.specs.Few.{is_few, has_few, are_few}
use Rattle.cif_scope.specs.Places.{slot_in}
use Rattle.cif_scope.specs.Tables.{Beside, IsName, IsScope, IsTable}
use Rattle.cif_scope.specs.Looks.{text_of, texts_of}
use Rattle.cif_scope.specs.Scopes.{IsIndexed}
use Rattle.cif_scope.specs.Indexes.{ident_of, idents_of, IsIndexOf, AreIndexed, StandsTwice, StandsTwiceIn, OnlyDuplicate}
use Rattle.cif_scope.proofs.Places.{beside-at, beside-back}
use Rattle.cif_scope.proofs.LookLaws.{same-text, beside-texts, get-map}

-- the names so far, of which none stands twice
pub record IsPartIndex (ns : List ScopeName) (keys : List Text) : Type 0 where
  pub names : keys ≡ map text_of ns
  pub distinct : AreDistinct keys

pub take-one : {A : Type 0} (xs : List A) (i : ℕ) (x : A) → i < length xs → x ≡ get_or xs i x → take (i + 1) xs ≡ take i xs ++ x ∷ []
take-one [] i x l e = absurd (omega arith)
take-one (y ∷ xs) zero x l e = ap (λ z. z ∷ []) (sym e)
take-one (y ∷ xs) (suc i) x l e = let less : i < length xs = omega arith in let n : suc i + 1 ≡ suc (i + 1) = omega arith in ap (λ j. take j (y ∷ xs)) n ∙ ap (λ zs. y ∷ zs) (take-one xs i x less e)

take-none : {A : Type 0} (i : ℕ) → take {A = A} i [] ≡ []
take-none zero = refl
take-none (suc i) = refl

pub take-all : {A : Type 0} (xs : List A) (i : ℕ) → length xs ≤ i → take i xs ≡ xs
take-all [] i l = take-none i
take-all (x ∷ xs) zero l = absurd (omega arith)
take-all (x ∷ xs) (suc i) l = let less : length xs ≤ i = omega arith in ap (λ ys. x ∷ ys) (take-all xs i less)

pub get-at : {A : Type 0} (xs : List A) (i : ℕ) (x : A) → i < length xs → x ≡ get_or xs i x → slice_get xs i ≡ Some x
get-at [] i x l e = absurd (omega arith)
get-at (y ∷ xs) zero x l e = ap Some (sym e)
get-at (y ∷ xs) (suc i) x l e = let less : i < length xs = omega arith in get-at xs i x less e

get-take : {A : Type 0} (xs : List A) (i k : ℕ) (x : A) → slice_get (take i xs) k ≡ Some x → (k < i) × (slice_get xs k ≡ Some x)
get-take xs zero k x h = absurd (none-some x h)
get-take [] (suc i) k x h = absurd (none-some x h)
get-take (y ∷ xs) (suc i) zero x h = (omega arith, h)
get-take (y ∷ xs) (suc i) (suc k) x h = let w = get-take xs i k x h in let l : suc k < suc i = omega (arith, w.0) in (l, w.1)

at-member : {A : Type 0} (xs : List A) (k : ℕ) (x : A) → slice_get xs k ≡ Some x → Member x xs
at-member [] k x h = absurd (none-some x h)
at-member (y ∷ xs) zero x h = inl (sym (some-same y x h))
at-member (y ∷ xs) (suc k) x h = inr (at-member xs k x h)

pub before-at : {A : Type 0} (xs : List A) (k i : ℕ) (x y : A) → k < i → slice_get xs k ≡ Some x → slice_get xs i ≡ Some y → Before x y xs
before-at [] k i x y l h g = absurd (none-some x h)
before-at (z ∷ xs) k zero x y l h g = absurd (omega arith)
before-at (z ∷ xs) zero (suc i) x y l h g = inl (sym (some-same z x h), at-member xs i y g)
before-at (z ∷ xs) (suc k) (suc i) x y l h g = let less : k < i = omega arith in inr (before-at xs k i x y less h g)

-- ---- one more name

-- the name at a slot
slot-holds : (ys : List Text) (x : Text) (k : ℕ) → slot_in ys x ≡ Some k → slice_get ys k ≡ Some x
slot-holds [] x k h = absurd cc
slot-holds (y ∷ ys) x k h = go (same_text y x) refl h (slot-holds ys x)
  where
    further : (o : Option ℕ) → option_map suc o ≡ Some k → ((j : ℕ) → o ≡ Some j → slice_get ys j ≡ Some x) → slice_get (y ∷ ys) k ≡ Some x
    further None h ih = absurd cc
    further (Some j) h ih = let e : suc j ≡ k = cc in subst (λ n. slice_get (y ∷ ys) n ≡ Some x) e (ih j refl)

    go : (b : Bool) → same_text y x ≡ b → cond b (Some 0) (option_map suc (slot_in ys x)) ≡ Some k → ((j : ℕ) → slot_in ys x ≡ Some j → slice_get ys j ≡ Some x) → slice_get (y ∷ ys) k ≡ Some x
    go true e h ih = let f : 0 ≡ k = cc in subst (λ n. slice_get (y ∷ ys) n ≡ Some x) f (ap Some (same-text y x e))
    go false e h ih = further (slot_in ys x) h ih

same-self : (x : Text) → same_text x x ≡ true
same-self [] = refl
same-self (n ∷ ns) = grind (arith, same-self ns)

not-member : (ys : List Text) (x : Text) → slot_in ys x ≡ None → Member x ys → ⊥
not-member [] x h m = m
not-member (y ∷ ys) x h (inl e) =
    let s : same_text y x ≡ true = ap (λ z. same_text y z) e ∙ same-self y in
    none-some 0 (sym h ∙ ap (λ b. cond b (Some 0) (option_map suc (slot_in ys x))) s)
not-member (y ∷ ys) x h (inr m) = go (same_text y x) h (λ g. not-member ys x g m)
  where
    none-map : (o : Option ℕ) → option_map suc o ≡ None → o ≡ None
    none-map None h = refl
    none-map (Some k) h = absurd cc

    go : (b : Bool) → cond b (Some 0) (option_map suc (slot_in ys x)) ≡ None → (slot_in ys x ≡ None → ⊥) → ⊥
    go true h ih = none-some 0 (sym h)
    go false h ih = ih (none-map (slot_in ys x) h)

pub index-more : (names : List ScopeName) (i : ℕ) (n : ScopeName) (keys more : List Text) → i < length names → n ≡ get_or names i n → IsPartIndex (take i names) keys → slot_in keys n.name.text ≡ None
    → more ≡ keys ++ n.name.text ∷ [] → IsPartIndex (take (i + 1) names) more
index-more names i n keys more l e part new is = record {
  names = is ∙ ap (λ (ks : List Text). ks ++ n.name.text ∷ []) part.names ∙ sym (ap (λ (ns : List ScopeName). map text_of ns) (take-one names i n l e) ∙ map-append text_of (take i names) (n ∷ []));
  distinct = subst (λ (ks : List Text). AreDistinct ks) (sym is) (append-distinct keys (n.name.text ∷ []) part.distinct (λ m. m, tt) (λ x m w. elim w [ inl f ↦ not-member keys n.name.text new (subst (λ z. Member z keys) f m) | inr u ↦ u ]));
}

pub index-twice : (names : List ScopeName) (i k : ℕ) (n m : ScopeName) (keys : List Text) → i < length names → n ≡ get_or names i n → IsPartIndex (take i names) keys → slot_in keys n.name.text ≡ Some k
    → m ≡ get_or names k m → StandsTwice (idents_of names) n.name.at (get_or names k m).name.at
index-twice names i k n m keys l e part old at =
    let held : slice_get (map text_of (take i names)) k ≡ Some n.name.text = ap (λ ks. slice_get ks k) (sym part.names) ∙ slot-holds keys n.name.text k old in
    let w = map-get text_of (take i names) k n.name.text held in
    let u = get-take names i k w.0 w.1 in
    let less : k < length names = omega (arith, u.0, l) in
    let here : slice_get names k ≡ Some m = get-at names k m less at in
    let same : w.0 ≡ m = some-same w.0 m (sym u.1 ∙ here) in
    subst (λ x. StandsTwice (idents_of names) n.name.at x.name.at) at
    (record {
      earlier = m.name;
      later = n.name;
      order = before-at (idents_of names) k i m.name n.name u.0 (get-map ident_of names k m here) (get-map ident_of names i n (get-at names i n l e));
      same = sym (w.2 ∙ ap text_of same);
      first_at = refl;
      later_at = refl;
    })
  where
    map-get : {A B : Type 0} (f : A → B) (xs : List A) (k : ℕ) (y : B) → slice_get (map f xs) k ≡ Some y → (x : A) × (slice_get xs k ≡ Some x) × (y ≡ f x)
    map-get f [] k y h = absurd (none-some y h)
    map-get f (x ∷ xs) zero y h = (x, refl, sym (some-same (f x) y h))
    map-get f (x ∷ xs) (suc k) y h = map-get f xs k y h

pub index-end : (names : List ScopeName) (i : ℕ) (keys : List Text) → length names ≤ i → length names < 2 ^ 32 → IsPartIndex (take i names) keys → IsIndexOf names keys
index-end names i keys l few part =
    let all : take i names ≡ names = take-all names i l in
    let e : keys ≡ map text_of names = part.names ∙ ap (λ (ns : List ScopeName). map text_of ns) all in
    record { names = e; distinct = subst (λ (ks : List Text). AreDistinct ks) e part.distinct; few = grind (arith, few) }

pub index-start : (names : List ScopeName) → IsPartIndex (take 0 names) []
index-start names = record { names = refl; distinct = tt }

pub none-of : (o : Option ℕ) → ((k : ℕ) → o ≡ Some k → ⊥) → o ≡ None
none-of None h = refl
none-of (Some k) h = absurd (h k refl)

-- ---- all scopes

get-snoc : {A : Type 0} (xs : List A) (x : A) (k : ℕ) (y : A) → slice_get (xs ++ x ∷ []) k ≡ Some y → slice_get xs k ≡ Some y ⊎ (x ≡ y)
get-snoc [] x zero y h = inr (some-same x y h)
get-snoc [] x (suc k) y h = absurd (none-some y h)
get-snoc (z ∷ xs) x zero y h = inl h
get-snoc (z ∷ xs) x (suc k) y h = get-snoc xs x k y h

all-snoc : {A : Type 0} (p : A → Bool) (xs : List A) (x : A) → list_all p xs ≡ true → p x ≡ true → list_all p (xs ++ x ∷ []) ≡ true
all-snoc p [] x h g = ap (λ b. b && true) g
all-snoc p (y ∷ xs) x h g = ap (λ b. b && list_all p (xs ++ x ∷ [])) (and-left (p y) (list_all p xs) h) ∙ all-snoc p xs x (and-right (p y) (list_all p xs) h) g

pub all-more : (scopes : List Scope) (i : ℕ) (s : Scope) (all more : List (List Text)) (keys : List Text) → i < length scopes → s ≡ get_or scopes i s → AreIndexed (take i scopes) all → IsIndexOf s.names keys
    → more ≡ all ++ keys ∷ [] → AreIndexed (take (i + 1) scopes) more
all-more scopes i s all more keys l e part one is =
    subst (λ (ss : List Scope). AreIndexed ss more) (sym (take-one scopes i s l e))
    (record {
      names = is ∙ ap (λ (ns : List (List Text)). ns ++ keys ∷ []) part.names ∙ ap (λ (ks : List Text). map texts_of (take i scopes) ++ ks ∷ []) one.names ∙ sym (map-append texts_of (take i scopes) (s ∷ []));
      distinct = λ k r h. elim (get-snoc (take i scopes) s k r h) [ inl g ↦ part.distinct k r g | inr g ↦ subst (λ q. AreDistinct (texts_of q)) g one.distinct ];
      few = all-snoc has_few (take i scopes) s part.few one.few;
    })

pub all-end : (scopes : List Scope) (i : ℕ) (all : List (List Text)) → length scopes ≤ i → AreIndexed (take i scopes) all → AreIndexed scopes all
all-end scopes i all l part = subst (λ (ss : List Scope). AreIndexed ss all) (take-all scopes i l) part

pub twice-in : (scopes : List Scope) (i : ℕ) (s : Scope) → i < length scopes → s ≡ get_or scopes i s → (at first : ℕ) → StandsTwice (idents_of s.names) at first → StandsTwiceIn scopes at first
twice-in scopes i s l e at first h = (i, s, get-at scopes i s l e, h)

pub only-map : (P Q : ℕ → ℕ → Type 0) (e : ScopeErr) → ((at first : ℕ) → P at first → Q at first) → OnlyDuplicate P e → OnlyDuplicate Q e
only-map P Q (Unknown at) f h = h
only-map P Q (Duplicate at first) f h = f at first h
only-map P Q (WrongKind at) f h = h
only-map P Q (DefinitionCycle at) f h = h
only-map P Q Memory f h = h

-- ---- the table

all-few : (scopes : List Scope) → list_all has_few scopes ≡ true → list_all is_few (map texts_of scopes) ≡ true
all-few [] h = refl
all-few (s ∷ ss) h =
    let same : length (texts_of s) ≡ length s.names = length-map s.names text_of in
    let one : is_few (texts_of s) ≡ true = ap (λ n. nat_lt n (2 ^ 32)) same ∙ and-left (has_few s) (list_all has_few ss) h in
    ap (λ b. b && list_all is_few (map texts_of ss)) one ∙ all-few ss (and-right (has_few s) (list_all has_few ss) h)

pub few-is : (scopes : List Scope) (all : List (List Text)) → length scopes < 2 ^ 32 → AreIndexed scopes all → are_few scopes all ≡ true
few-is scopes all l ix =
    let long : is_few scopes ≡ true = grind (arith, l) in
    let second : list_all is_few all ≡ true = ap (λ (ns : List (List Text)). list_all is_few ns) ix.names ∙ all-few scopes ix.few in
    ap (λ b. b && (list_all has_few scopes && list_all is_few all)) long ∙ ap (λ b. b && list_all is_few all) ix.few ∙ second

pub any-of : {A : Type 0} (P : A → Type 0) (xs : List A) (k : ℕ) (x : A) → slice_get xs k ≡ Some x → P x → Any P xs
any-of P xs k x h p = (k, x, below xs k x h, is xs k x h, p)
  where
    below : {A : Type 0} (xs : List A) (k : ℕ) (x : A) → slice_get xs k ≡ Some x → k < length xs
    below [] k x h = absurd (none-some x h)
    below (y ∷ xs) zero x h = omega arith
    below (y ∷ xs) (suc k) x h = let l : k < length xs = below xs k x h in omega arith

    is : {A : Type 0} (xs : List A) (k : ℕ) (x : A) → slice_get xs k ≡ Some x → get_or xs k x ≡ x
    is [] k x h = refl
    is (y ∷ xs) zero x h = some-same y x h
    is (y ∷ xs) (suc k) x h = is xs k x h

pub of-any : {A : Type 0} (P : A → Type 0) (xs : List A) → Any P xs → (k : ℕ) × (x : A) × (slice_get xs k ≡ Some x) × P x
of-any P xs h = (h.0, h.1, get-at xs h.0 h.1 h.2 (sym h.3), h.4)

beside-idents : (t : Source) (c : Component) (es : List (Ident × Entry)) (ns : List ScopeName) → Beside (IsName t c) es ns → idents_of ns ≡ map (λ (e : Ident × Entry). e.0) es
beside-idents t c [] [] h = refl
beside-idents t c [] (n ∷ ns) h = absurd h
beside-idents t c (e ∷ es) [] h = absurd h
beside-idents t c (e ∷ es) (n ∷ ns) h = ap (λ (i : Ident). i ∷ idents_of ns) h.0.0 ∙ ap (λ (l : List Ident). e.0 ∷ l) (beside-idents t c es ns h.1)

pub twice-due : (t : Source) (scopes : List Scope) → IsTable t scopes → (at first : ℕ) → StandsTwiceIn scopes at first → DuplicateDue t at first
twice-due t scopes table at first h =
    let c = beside-back (IsScope t) (bodies t) scopes h.0 h.1 table h.2 in
    let names : idents_of h.1.names ≡ map (λ (e : Ident × Entry). e.0) (scope_of c.0) = beside-idents t c.0 (scope_of c.0) h.1.names c.2.names in
    any-of (λ d. DeclaresTwice d at first) (bodies t) h.0 c.0 c.1
    (record { earlier = h.3.earlier; later = h.3.later; order = subst (λ (l : List Ident). Before h.3.earlier h.3.later l) names h.3.order; same = h.3.same; first_at = h.3.first_at; later_at = h.3.later_at })

abbrev text_of_ident : Ident → Text
text_of_ident i = i.text

twofold : (es : List (Ident × Entry)) → map text_of_ident (map (λ (e : Ident × Entry). e.0) es) ≡ map (λ (e : Ident × Entry). e.0.text) es
twofold [] = refl
twofold (e ∷ es) = ap (λ (l : List Text). e.0.text ∷ l) (twofold es)

before-map : {A B : Type 0} (f : A → B) (x y : A) (xs : List A) → Before x y xs → Before (f x) (f y) (map f xs)
before-map f x y [] h = absurd h
before-map f x y (z ∷ xs) h = elim h [ inl w ↦ inl (ap f w.0, member-of f y xs w.1) | inr b ↦ inr (before-map f x y xs b) ]
  where
    member-of : {A B : Type 0} (f : A → B) (x : A) (xs : List A) → Member x xs → Member (f x) (map f xs)
    member-of f x [] m = m
    member-of f x (y ∷ xs) m = elim m [ inl e ↦ inl (ap f e) | inr w ↦ inr (member-of f x xs w) ]

before-self : {A : Type 0} (x : A) (xs : List A) → AreDistinct xs → Before x x xs → ⊥
before-self x [] d h = h
before-self x (y ∷ xs) d h = elim h [ inl w ↦ d.0 (subst (λ z. Member z xs) w.0 w.1) | inr b ↦ before-self x xs d.1 b ]

-- where no name stands twice, none is due
pub none-due : (t : Source) (tb : Table) → IsTable t tb.scopes → IsIndexed tb → (at first : ℕ) → DuplicateDue t at first → ⊥
none-due t tb table ix at first due =
    let h = of-any (λ d. DeclaresTwice d at first) (bodies t) due in
    let r = beside-at (IsScope t) (bodies t) tb.scopes h.0 h.1 table h.2 in
    let twice : DeclaresTwice h.1 at first = h.3 in
    let texts : texts_of r.0 ≡ map (λ (e : Ident × Entry). e.0.text) (scope_of h.1) = beside-texts t h.1 (scope_of h.1) r.0.names r.2.names in
    let apart : AreDistinct (map (λ (e : Ident × Entry). e.0.text) (scope_of h.1)) = subst (λ (l : List Text). AreDistinct l) texts (ix.distinct h.0 r.0 r.1) in
    let both : Before twice.earlier.text twice.later.text (map text_of_ident (map (λ (e : Ident × Entry). e.0) (scope_of h.1))) = before-map text_of_ident twice.earlier twice.later (map (λ (e : Ident × Entry). e.0) (scope_of h.1)) twice.order in
    before-self twice.later.text (map (λ (e : Ident × Entry). e.0.text) (scope_of h.1)) apart
    (subst (λ (x : Text). Before x twice.later.text (map (λ (e : Ident × Entry). e.0.text) (scope_of h.1))) twice.same (subst (λ (l : List Text). Before twice.earlier.text twice.later.text l) (twofold (scope_of h.1)) both))
