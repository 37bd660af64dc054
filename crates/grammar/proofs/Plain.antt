-- The laws of readers with one token of sight, one for each way to build a language.
use Rattle.std.proofs.Common.{◌≡◌, ℕ, zero, suc, ◌≤◌, Bool, true, false, cond, ◌&&◌, List, [], ◌∷◌, ◌++◌, length, Option, Some, None, refl, sym, ap, subst, ◌∙◌, append_assoc, arith, inl, inr, ◌⊎◌}
use Rattle.std.proofs.lemmas.List.{length-append}
use Rattle.grammar.specs.Lang.{Lang, has, one, ◌&◌, ◌∣◌, ◌<$>◌, many, list, optional, ◌▹◌, such_that}
use Rattle.grammar.specs.Reader.{Read, Reader, and_then, starts, none_at, bind_at, checked, such_at, one_at, both_at, map_at, either_at, when_at, optional_at, many_from, many_at, list_at}
use Rattle.grammar.specs.Sets.{apart, covers}
use Rattle.grammar.proofs.Laws.{apart-has, covers-has, covers-not, has-left, has-right, not-left, not-right, Begins, Stops, Takes}

-- ---- sets at the front of a text

module _ {T : Type 0} (code : T → ℕ) where
  pub begins_wider : (empty : Bool) (js ks : List ℕ) (x : List T) → covers js ks ≡ true → Begins code empty ks x → Begins code empty js x
  begins_wider empty js ks [] e h = h
  begins_wider empty js ks (t ∷ x) e h = covers-has js ks (code t) e h

  pub stops_part : (js ks : List ℕ) (x : List T) → covers js ks ≡ true → Stops code js x → Stops code ks x
  stops_part js ks [] e h = refl
  stops_part js ks (t ∷ x) e h = covers-not js ks (code t) e h

  pub stops_left : (js ks : List ℕ) (x : List T) → Stops code (js ++ ks) x → Stops code js x
  stops_left js ks [] h = refl
  stops_left js ks (t ∷ x) h = not-left js ks (code t) h

  pub stops_right : (js ks : List ℕ) (x : List T) → Stops code (js ++ ks) x → Stops code ks x
  stops_right js ks [] h = refl
  stops_right js ks (t ∷ x) h = not-right js ks (code t) h

  pub starts_with : (ks : List ℕ) (x rest : List T) → Begins code false ks x → starts code ks (x ++ rest) ≡ true
  starts_with ks [] rest h = absurd cc
  starts_with ks (t ∷ x) rest h = h

  -- what stands before a language that is apart from what goes on there
  pub stops_before : (empty : Bool) (first goes_1 goes_2 : List ℕ) (y rest : List T) → apart first goes_1 ≡ true → Begins code empty first y
      → Stops code (goes_2 ++ cond empty goes_1 []) rest → Stops code goes_1 (y ++ rest)
  stops_before true first goes_1 goes_2 [] rest e b s = stops_right goes_2 goes_1 rest s
  stops_before false first goes_1 goes_2 [] rest e b s = absurd cc
  stops_before empty first goes_1 goes_2 (t ∷ y) rest e b s = apart-has first goes_1 (code t) e b

  pub begins_both : (empty_1 empty_2 : Bool) (first_1 first_2 : List ℕ) (x y : List T) → Begins code empty_1 first_1 x → Begins code empty_2 first_2 y
      → Begins code (empty_1 && empty_2) (first_1 ++ cond empty_1 first_2 []) (x ++ y)
  begins_both true empty_2 first_1 first_2 [] [] b c = c
  begins_both true empty_2 first_1 first_2 [] (t ∷ y) b c = has-right first_1 first_2 (code t) c
  begins_both false empty_2 first_1 first_2 [] y b c = absurd cc
  begins_both empty_1 empty_2 first_1 first_2 (t ∷ x) y b c = has-left first_1 (cond empty_1 first_2 []) (code t) b

-- ---- steps of a reader

abbrev pub took : {T A : Type 0} → A → List T → Read T A
took a ts = Some (a, ts)

pub took_value : {T A : Type 0} (a b : A) (ts us : List T) → took a ts ≡ took b us → a ≡ b
took_value {T = T} {A = A} a b ts us e = let pair : (a, ts) ≡ (b, us) = cc in ap (λ (p : A × List T). p.0) pair

pub took_rest : {T A : Type 0} (a b : A) (ts us : List T) → took a ts ≡ took b us → ts ≡ us
took_rest {T = T} {A = A} a b ts us e = let pair : (a, ts) ≡ (b, us) = cc in ap (λ (p : A × List T). p.1) pair

pub and_then_some : {T A B : Type 0} (read : Read T A) (f : A → Reader T B) (b : B) (rest : List T) → and_then read f ≡ Some (b, rest)
    → (a : A) × (us : List T) × (read ≡ Some (a, us)) × (f a us ≡ Some (b, rest))
and_then_some None f b rest e = absurd cc
and_then_some (Some p) f b rest e = (p.0, p.1, refl, e)

pub if_some : {A : Type 0} (b : Bool) (x y z : A) → cond b x y ≡ z → ((b ≡ true) × (x ≡ z)) ⊎ ((b ≡ false) × (y ≡ z))
if_some true x y z e = inl (refl, e)
if_some false x y z e = inr (refl, e)

-- ---- the laws

pub wider : {T A : Type 0} {code : T → ℕ} {empty : Bool} {first goes_on : List ℕ} {p : Lang T A} {r : Reader T A}
    (first_2 goes_2 : List ℕ) → covers first_2 first ≡ true → covers goes_2 goes_on ≡ true → Takes code empty first goes_on p r → Takes code empty first_2 goes_2 p r
wider {code = code} {empty = empty} {first = first} {goes_on = goes_on} first_2 goes_2 e f h = record {
  begins = λ a x d. begins_wider code empty first_2 first x e (h.begins a x d);
  sound = h.sound;
  complete = λ a x rest d s. h.complete a x rest d (stops_part code goes_2 goes_on rest f s);
}

-- the same language said otherwise
pub same : {T A : Type 0} {code : T → ℕ} {empty : Bool} {first goes_on : List ℕ} {p q : Lang T A} {r : Reader T A}
    → ((a : A) (x : List T) → q a x → p a x) → ((a : A) (x : List T) → p a x → q a x) → Takes code empty first goes_on p r → Takes code empty first goes_on q r
same there back h = record {
  begins = λ a x d. h.begins a x (there a x d);
  sound = λ ts a rest e. let s = h.sound ts a rest e in (s.0, back a s.0 s.1, s.2);
  complete = λ a x rest d s. h.complete a x rest (there a x d) s;
}

one_sound : {T : Type 0} (code : T → ℕ) (ks : List ℕ) (ts : List T) (a : T) (rest : List T) → one_at code ks ts ≡ Some (a, rest)
    → (x : List T) × one code ks a x × (ts ≡ x ++ rest)
unfolding one_at
one_sound code ks [] a rest e = absurd cc
one_sound code ks (t ∷ ts) a rest e =
    elim (if_some (has ks (code t)) (took t ts) None (took a rest) e) [
      | inl w ↦ let same_token : t ≡ a = took_value t a ts rest w.1 in let same_rest : ts ≡ rest = took_rest t a ts rest w.1 in
          (a ∷ [], (ap (λ u. has ks (code u)) (sym same_token) ∙ w.0, refl), ap (λ u. u ∷ ts) same_token ∙ ap (λ us. a ∷ us) same_rest)
      | inr w ↦ absurd (let e = w.1 in cc)
    ]

one_complete : {T : Type 0} (code : T → ℕ) (ks : List ℕ) (a : T) (x rest : List T) → one code ks a x → one_at code ks (x ++ rest) ≡ Some (a, rest)
unfolding one_at
one_complete code ks a x rest d = rw (d.1, d.0) refl

one_begins : {T : Type 0} (code : T → ℕ) (ks : List ℕ) (a : T) (x : List T) → one code ks a x → Begins code false ks x
one_begins code ks a [] d = absurd (let e = d.1 in cc)
one_begins code ks a (t ∷ x) d = let e = d.1 in let same_token : t ≡ a = cc in ap (λ u. has ks (code u)) same_token ∙ d.0

pub one_takes : {T : Type 0} (code : T → ℕ) (ks : List ℕ) → Takes code false ks [] (one code ks) (one_at code ks)
one_takes code ks = record {
  begins = one_begins code ks;
  sound = one_sound code ks;
  complete = λ a x rest d s. one_complete code ks a x rest d;
}

pub map_takes : {T A B : Type 0} {code : T → ℕ} {empty : Bool} {first goes_on : List ℕ} {p : Lang T A} {r : Reader T A} (f : A → B)
    → Takes code empty first goes_on p r → Takes code empty first goes_on (f <$> p) (map_at f r)
map_takes {r = r} f h = record {
  begins = λ b x d. h.begins d.0 x d.1;
  sound = λ ts b rest e.
      let w = and_then_some (r ts) (λ a us. Some (f a, us)) b rest e in
      let s = h.sound ts w.0 w.1 w.2 in
      (s.0, (w.0, s.1, sym (took_value (f w.0) b w.1 rest w.3)), s.2 ∙ ap (λ us. s.0 ++ us) (took_rest (f w.0) b w.1 rest w.3));
  complete = λ b x rest d s. rw (h.complete d.0 x rest d.1 s) (ap (λ c. Some (c, rest)) (sym d.2));
}

pub both_takes : {T A B : Type 0} {code : T → ℕ} {empty_1 empty_2 : Bool} {first_1 first_2 goes_1 goes_2 : List ℕ} {p : Lang T A} {q : Lang T B} {r : Reader T A} {s : Reader T B}
    → Takes code empty_1 first_1 goes_1 p r → apart first_2 goes_1 ≡ true → Takes code empty_2 first_2 goes_2 q s
    → Takes code (empty_1 && empty_2) (first_1 ++ cond empty_1 first_2 []) (goes_2 ++ cond empty_2 goes_1 []) (p & q) (both_at r s)
both_takes {A = A} {B = B} {code = code} {empty_1 = empty_1} {empty_2 = empty_2} {first_1 = first_1} {first_2 = first_2} {goes_1 = goes_1} {goes_2 = goes_2} {p = p} {q = q} {r = r} {s = s} h e k = record {
  begins = λ v x d. subst (λ t. Begins code (empty_1 && empty_2) (first_1 ++ cond empty_1 first_2 []) t) (sym d.4)
      (begins_both code empty_1 empty_2 first_1 first_2 d.0 d.1 (h.begins v.0 d.0 d.2) (k.begins v.1 d.1 d.3));
  sound = λ ts v rest g.
      let w = and_then_some (r ts) (λ a us. and_then (s us) (λ b vs. Some ((a, b), vs))) v rest g in
      let y = and_then_some (s w.1) (λ b vs. Some ((w.0, b), vs)) v rest w.3 in
      let m = h.sound ts w.0 w.1 w.2 in
      let n = k.sound w.1 y.0 y.1 y.2 in
      let value : (w.0, y.0) ≡ v = took_value (w.0, y.0) v y.1 rest y.3 in
      let left : y.1 ≡ rest = took_rest (w.0, y.0) v y.1 rest y.3 in (
        m.0 ++ n.0,
        subst (λ u. (p & q) u (m.0 ++ n.0)) value (m.0, n.0, m.1, n.1, refl),
        m.2 ∙ ap (λ us. m.0 ++ us) (n.2 ∙ ap (λ us. n.0 ++ us) left) ∙ sym (append_assoc m.0 n.0 rest),
      );
  complete = λ v x rest d z.
      let first = h.complete v.0 d.0 (d.1 ++ rest) d.2 (stops_before code empty_2 first_2 goes_1 goes_2 d.1 rest e (k.begins v.1 d.1 d.3) z) in
      let second = k.complete v.1 d.1 rest d.3 (stops_left code goes_2 (cond empty_2 goes_1 []) rest z) in
      rw (d.4, append_assoc d.0 d.1 rest, first, second) refl;
}

-- what doesn't start so can't begin so
pub starts_apart : {T : Type 0} (code : T → ℕ) (ks js : List ℕ) (x rest : List T) → apart ks js ≡ true → Begins code false ks x → starts code js (x ++ rest) ≡ false
starts_apart code ks js [] rest e b = absurd cc
starts_apart code ks js (t ∷ x) rest e b = apart-has ks js (code t) e b

either_sound : {T A : Type 0} {code : T → ℕ} {first_1 first_2 goes_1 goes_2 : List ℕ} {p q : Lang T A} {r s : Reader T A}
    → Takes code false first_1 goes_1 p r → Takes code false first_2 goes_2 q s
    → (ts : List T) (a : A) (rest : List T) → either_at code first_1 r s ts ≡ Some (a, rest) → (x : List T) × (p ∣ q) a x × (ts ≡ x ++ rest)
either_sound {code = code} {first_1 = first_1} {r = r} {s = s} h k ts a rest e =
    elim (if_some (starts code first_1 ts) (r ts) (s ts) (took a rest) e) [
      | inl w ↦ let m = h.sound ts a rest w.1 in (m.0, inl m.1, m.2)
      | inr w ↦ let m = k.sound ts a rest w.1 in (m.0, inr m.1, m.2)
    ]

pub begins_left : {T : Type 0} (code : T → ℕ) (ks js : List ℕ) (x : List T) → Begins code false ks x → Begins code false (ks ++ js) x
begins_left code ks js [] b = b
begins_left code ks js (t ∷ x) b = has-left ks js (code t) b

pub begins_right : {T : Type 0} (code : T → ℕ) (ks js : List ℕ) (x : List T) → Begins code false js x → Begins code false (ks ++ js) x
begins_right code ks js [] b = b
begins_right code ks js (t ∷ x) b = has-right ks js (code t) b

either_complete : {T A : Type 0} {code : T → ℕ} {first_1 first_2 goes_1 goes_2 : List ℕ} {p q : Lang T A} {r s : Reader T A}
    → Takes code false first_1 goes_1 p r → apart first_2 first_1 ≡ true → Takes code false first_2 goes_2 q s
    → (a : A) (x rest : List T) → (p ∣ q) a x → Stops code (goes_1 ++ goes_2) rest → either_at code first_1 r s (x ++ rest) ≡ Some (a, rest)
either_complete {code = code} {first_1 = first_1} {first_2 = first_2} {goes_1 = goes_1} {goes_2 = goes_2} h e k a x rest (inl d) z =
    rw (starts_with code first_1 x rest (h.begins a x d)) (h.complete a x rest d (stops_left code goes_1 goes_2 rest z))
either_complete {code = code} {first_1 = first_1} {first_2 = first_2} {goes_1 = goes_1} {goes_2 = goes_2} h e k a x rest (inr d) z =
    rw (starts_apart code first_2 first_1 x rest e (k.begins a x d)) (k.complete a x rest d (stops_right code goes_1 goes_2 rest z))

pub either_takes : {T A : Type 0} {code : T → ℕ} {first_1 first_2 goes_1 goes_2 : List ℕ} {p q : Lang T A} {r s : Reader T A}
    → Takes code false first_1 goes_1 p r → apart first_2 first_1 ≡ true → Takes code false first_2 goes_2 q s
    → Takes code false (first_1 ++ first_2) (goes_1 ++ goes_2) (p ∣ q) (either_at code first_1 r s)
either_takes {code = code} {first_1 = first_1} {first_2 = first_2} {p = p} {q = q} h e k = record {
  begins = λ a x d. elim d [ inl c ↦ begins_left code first_1 first_2 x (h.begins a x c) | inr c ↦ begins_right code first_1 first_2 x (k.begins a x c) ];
  sound = either_sound h k;
  complete = either_complete h e k;
}

optional_complete : {T A : Type 0} {code : T → ℕ} {first goes_on : List ℕ} {p : Lang T A} {r : Reader T A} → Takes code false first goes_on p r
    → (o : Option A) (x rest : List T) → optional p o x → Stops code (first ++ goes_on) rest → optional_at code first r (x ++ rest) ≡ Some (o, rest)
optional_complete {code = code} {first = first} {goes_on = goes_on} h None x rest d z = rw (d, stops_left code first goes_on rest z) refl
optional_complete {code = code} {first = first} {goes_on = goes_on} h (Some a) x rest d z =
    rw (starts_with code first x rest (h.begins a x d), h.complete a x rest d (stops_right code first goes_on rest z)) refl

optional_sound : {T A : Type 0} {code : T → ℕ} {first goes_on : List ℕ} {p : Lang T A} {r : Reader T A} → Takes code false first goes_on p r
    → (ts : List T) (o : Option A) (rest : List T) → optional_at code first r ts ≡ Some (o, rest) → (x : List T) × optional p o x × (ts ≡ x ++ rest)
optional_sound {A = A} {code = code} {first = first} {p = p} {r = r} h ts o rest e =
    elim (if_some (starts code first ts) (map_at (λ (a : A). Some a) r ts) (took None ts) (took o rest) e) [
      | inl w ↦
          let v = and_then_some (r ts) (λ a us. Some (Some a, us)) o rest w.1 in
          let m = h.sound ts v.0 v.1 v.2 in
          (m.0, subst (λ u. optional p u m.0) (took_value (Some v.0) o v.1 rest v.3) m.1, m.2 ∙ ap (λ us. m.0 ++ us) (took_rest (Some v.0) o v.1 rest v.3))
      | inr w ↦ ([], subst (λ u. optional p u []) (took_value None o ts rest w.1) refl, took_rest {A = Option A} None o ts rest w.1)
    ]

optional_begins : {T A : Type 0} {code : T → ℕ} {first goes_on : List ℕ} {p : Lang T A} {r : Reader T A} → Takes code false first goes_on p r
    → (o : Option A) (x : List T) → optional p o x → Begins code true first x
optional_begins h o [] d = refl
optional_begins h None (t ∷ x) d = absurd cc
optional_begins h (Some a) (t ∷ x) d = h.begins a (t ∷ x) d

pub optional_takes : {T A : Type 0} {code : T → ℕ} {first goes_on : List ℕ} {p : Lang T A} {r : Reader T A} → Takes code false first goes_on p r
    → Takes code true first (first ++ goes_on) (optional p) (optional_at code first r)
optional_takes h = record { begins = optional_begins h; sound = optional_sound h; complete = optional_complete h }

pub begins_more : {T : Type 0} (code : T → ℕ) (first : List ℕ) (x y z : List T) → Begins code false first y → x ≡ y ++ z → Begins code false first x
begins_more code first x [] z b e = absurd cc
begins_more code first x (u ∷ y) z b e = subst (λ w. Begins code false first w) (sym e) b

pub begins_first : {T : Type 0} (code : T → ℕ) (first : List ℕ) (x y z : List T) → Begins code false first y → x ≡ y ++ z → Begins code true first x
begins_first code first x [] z b e = absurd cc
begins_first code first x (u ∷ y) z b e = subst (λ w. Begins code true first w) (sym e) b

pub many_begins : {T A : Type 0} (code : T → ℕ) (first : List ℕ) (p : Lang T A) → ((a : A) (x : List T) → p a x → Begins code false first x)
    → (all : List A) (x : List T) → many p all x → Begins code true first x
many_begins code first p h [] x d = subst (λ w. Begins code true first w) (sym d) refl
many_begins code first p h (a ∷ all) x d = begins_first code first x d.0 d.1 (h a d.0 d.2) d.4

-- what begins with a token is longer than what follows
pub shorter : {T : Type 0} (code : T → ℕ) (first : List ℕ) (y z : List T) (n : ℕ) → Begins code false first y → length (y ++ z) ≤ suc n → length z ≤ n
shorter code first [] z n b l = absurd cc
shorter code first (t ∷ y) z n b l = omega (arith, length-append y z)

pub some_length : {T : Type 0} (code : T → ℕ) (first : List ℕ) (y z : List T) → Begins code false first y → length (y ++ z) ≤ 0 → ⊥
some_length code first [] z b l = absurd cc
some_length code first (t ∷ y) z b l = omega arith

pub empty_or_apart : {T : Type 0} (code : T → ℕ) (first goes_on : List ℕ) (z rest : List T) → apart first goes_on ≡ true → Begins code true first z → Stops code (first ++ goes_on) rest → Stops code goes_on (z ++ rest)
empty_or_apart code first goes_on z rest e b s = stops_before code true first goes_on first z rest e b s

many_complete : {T A : Type 0} {code : T → ℕ} {first goes_on : List ℕ} {p : Lang T A} {r : Reader T A} → apart first goes_on ≡ true → Takes code false first goes_on p r
    → (all : List A) (n : ℕ) (x rest : List T) → many p all x → length (x ++ rest) ≤ n → Stops code (first ++ goes_on) rest
    → many_from code first r n (x ++ rest) ≡ Some (all, rest)
unfolding many_from
many_complete e h [] zero x rest d l s = rw d refl
many_complete {code = code} {first = first} {goes_on = goes_on} e h [] (suc n) x rest d l s = rw (d, stops_left code first goes_on rest s) refl
many_complete {code = code} {first = first} e h (a ∷ all) zero x rest d l s =
    absurd (some_length code first d.0 (d.1 ++ rest) (h.begins a d.0 d.2) (subst (λ w. length w ≤ 0) (ap (λ w. w ++ rest) d.4 ∙ append_assoc d.0 d.1 rest) l))
many_complete {code = code} {first = first} {goes_on = goes_on} {p = p} e h (a ∷ all) (suc n) x rest d l s =
    let b = h.begins a d.0 d.2 in
    let whole : x ++ rest ≡ d.0 ++ (d.1 ++ rest) = ap (λ w. w ++ rest) d.4 ∙ append_assoc d.0 d.1 rest in
    let item = h.complete a d.0 (d.1 ++ rest) d.2 (empty_or_apart code first goes_on d.1 rest e (many_begins code first p h.begins all d.1 d.3) s) in
    let short = shorter code first d.0 (d.1 ++ rest) n b (subst (λ w. length w ≤ suc n) whole l) in
    rw (whole, starts_with code first d.0 (d.1 ++ rest) b, item, many_complete e h all n d.1 rest d.3 short s) refl

many_sound : {T A : Type 0} {code : T → ℕ} {first goes_on : List ℕ} {p : Lang T A} {r : Reader T A} → Takes code false first goes_on p r
    → (n : ℕ) (ts : List T) (all : List A) (rest : List T) → many_from code first r n ts ≡ Some (all, rest) → (x : List T) × many p all x × (ts ≡ x ++ rest)
unfolding many_from
many_sound {A = A} {p = p} h zero ts all rest e = ([], subst (λ u. many p u []) (took_value [] all ts rest e) refl, took_rest {A = List A} [] all ts rest e)
many_sound {A = A} {code = code} {first = first} {p = p} {r = r} h (suc n) ts all rest e =
    elim (if_some (starts code first ts) (and_then (r ts) (λ a us. and_then (many_from code first r n us) (λ more vs. took (a ∷ more) vs))) (took [] ts) (took all rest) e) [
      | inl w ↦
          let u = and_then_some (r ts) (λ a us. and_then (many_from code first r n us) (λ more vs. took (a ∷ more) vs)) all rest w.1 in
          let v = and_then_some (many_from code first r n u.1) (λ more vs. took (u.0 ∷ more) vs) all rest u.3 in
          let m = h.sound ts u.0 u.1 u.2 in
          let k = many_sound h n u.1 v.0 v.1 v.2 in
          let value : u.0 ∷ v.0 ≡ all = took_value (u.0 ∷ v.0) all v.1 rest v.3 in
          let left : v.1 ≡ rest = took_rest (u.0 ∷ v.0) all v.1 rest v.3 in (
            m.0 ++ k.0,
            subst (λ c. many p c (m.0 ++ k.0)) value (m.0, k.0, m.1, k.1, refl),
            m.2 ∙ ap (λ us. m.0 ++ us) (k.2 ∙ ap (λ us. k.0 ++ us) left) ∙ sym (append_assoc m.0 k.0 rest),
          )
      | inr w ↦ ([], subst (λ u. many p u []) (took_value [] all ts rest w.1) refl, took_rest {A = List A} [] all ts rest w.1)
    ]

pub many_takes : {T A : Type 0} {code : T → ℕ} {first goes_on : List ℕ} {p : Lang T A} {r : Reader T A} → apart first goes_on ≡ true → Takes code false first goes_on p r
    → Takes code true first (first ++ goes_on) (many p) (many_at code first r)
many_takes {code = code} {first = first} {p = p} {r = r} e h = record {
  begins = many_begins code first p h.begins;
  sound = λ ts all rest g. many_sound h (length ts) ts all rest g;
  complete = λ all x rest d s. many_complete e h all (length (x ++ rest)) x rest d (omega arith) s;
}

pub list_takes : {T A : Type 0} {code : T → ℕ} {first first_2 goes_1 goes_2 : List ℕ} {p q : Lang T A} {r s : Reader T A} → Takes code false first goes_1 p r → apart first_2 goes_1 ≡ true → apart first_2 goes_2 ≡ true
    → Takes code false first_2 goes_2 q s → Takes code false (first ++ []) ((first_2 ++ goes_2) ++ goes_1) (list p q) (list_at code first_2 r s)
list_takes h e f k = map_takes (λ v. v.0 ∷ v.1) (both_takes h e (many_takes f k))

when_sound : {T A : Type 0} {code : T → ℕ} {first_1 first_2 goes_1 goes_2 : List ℕ} {p q : Lang T A} {r s : Reader T A} (test : List T → Bool)
    → Takes code false first_1 goes_1 p r → Takes code false first_2 goes_2 q s
    → (ts : List T) (a : A) (rest : List T) → when_at test r s ts ≡ Some (a, rest) → (x : List T) × (p ∣ q) a x × (ts ≡ x ++ rest)
when_sound {r = r} {s = s} test h k ts a rest e =
    elim (if_some (test ts) (r ts) (s ts) (took a rest) e) [
      | inl w ↦ let m = h.sound ts a rest w.1 in (m.0, inl m.1, m.2)
      | inr w ↦ let m = k.sound ts a rest w.1 in (m.0, inr m.1, m.2)
    ]

-- A choice by more than one token: the test holds before the first language and not before the second.
pub when_takes : {T A : Type 0} {code : T → ℕ} {first_1 first_2 goes_1 goes_2 : List ℕ} {p q : Lang T A} {r s : Reader T A} (test : List T → Bool) (goes_on : List ℕ)
    → covers goes_on goes_1 ≡ true → covers goes_on goes_2 ≡ true → Takes code false first_1 goes_1 p r → Takes code false first_2 goes_2 q s
    → ((a : A) (x rest : List T) → p a x → Stops code goes_on rest → test (x ++ rest) ≡ true) → ((a : A) (x rest : List T) → q a x → Stops code goes_on rest → test (x ++ rest) ≡ false)
    → Takes code false (first_1 ++ first_2) goes_on (p ∣ q) (when_at test r s)
when_takes {T = T} {A = A} {code = code} {first_1 = first_1} {first_2 = first_2} {goes_1 = goes_1} {goes_2 = goes_2} {p = p} {q = q} {r = r} {s = s} test goes_on e f h k on off = record {
  begins = λ a x d. elim d [ inl c ↦ begins_left code first_1 first_2 x (h.begins a x c) | inr c ↦ begins_right code first_1 first_2 x (k.begins a x c) ];
  sound = when_sound test h k;
  complete = when_complete;
}
  where
    when_complete : (a : A) (x rest : List T) → (p ∣ q) a x → Stops code goes_on rest → when_at test r s (x ++ rest) ≡ Some (a, rest)
    when_complete a x rest (inl d) z = rw (on a x rest d z) (h.complete a x rest d (stops_part code goes_on goes_1 rest e z))
    when_complete a x rest (inr d) z = rw (off a x rest d z) (k.complete a x rest d (stops_part code goes_on goes_2 rest f z))

-- What one language has in front of a text that stops it, another text of it in the same place has too.
pub one_front : {T A : Type 0} {code : T → ℕ} {empty : Bool} {first goes_on : List ℕ} {p : Lang T A} {r : Reader T A} → Takes code empty first goes_on p r
    → (a b : A) (x y u v : List T) → p a x → p b y → Stops code goes_on u → Stops code goes_on v → x ++ u ≡ y ++ v → (a ≡ b) × (u ≡ v)
one_front {r = r} h a b x y u v d g s z e =
    let same = sym (h.complete a x u d s) ∙ ap r e ∙ h.complete b y v g z in
    (took_value a b u v same, took_rest a b u v same)

-- a language without a tree
pub nothing_takes : {T A : Type 0} (code : T → ℕ) (empty : Bool) (first goes_on : List ℕ) (p : Lang T A) → ((a : A) (x : List T) → p a x → ⊥) → Takes code empty first goes_on p none_at
nothing_takes code empty first goes_on p h = record { begins = λ a x d. absurd (h a x d); sound = λ ts a rest e. absurd cc; complete = λ a x rest d s. absurd (h a x d) }

-- a language that hands its tree on to the next
pub bind_takes : {T A B : Type 0} {code : T → ℕ} {empty_1 empty_2 : Bool} {first_1 first_2 goes_1 goes_2 : List ℕ} {p : Lang T A} {q : A → Lang T B} {r : Reader T A} {s : A → Reader T B}
    → Takes code empty_1 first_1 goes_1 p r → apart first_2 goes_1 ≡ true → ((a : A) → Takes code empty_2 first_2 goes_2 (q a) (s a))
    → Takes code (empty_1 && empty_2) (first_1 ++ cond empty_1 first_2 []) (goes_2 ++ cond empty_2 goes_1 []) (p ▹ q) (bind_at r s)
bind_takes {code = code} {empty_1 = empty_1} {empty_2 = empty_2} {first_1 = first_1} {first_2 = first_2} {goes_1 = goes_1} {goes_2 = goes_2} {r = r} {s = s} h e k = record {
  begins = λ b x d. subst (λ t. Begins code (empty_1 && empty_2) (first_1 ++ cond empty_1 first_2 []) t) (sym d.5)
      (begins_both code empty_1 empty_2 first_1 first_2 d.1 d.2 (h.begins d.0 d.1 d.3) ((k d.0).begins b d.2 d.4));
  sound = λ ts b rest g.
      let w = and_then_some (r ts) s b rest g in
      let m = h.sound ts w.0 w.1 w.2 in
      let n = (k w.0).sound w.1 b rest w.3 in
      (m.0 ++ n.0, (w.0, m.0, n.0, m.1, n.1, refl), m.2 ∙ ap (λ us. m.0 ++ us) n.2 ∙ sym (append_assoc m.0 n.0 rest));
  complete = λ b x rest d z.
      let one = h.complete d.0 d.1 (d.2 ++ rest) d.3 (stops_before code empty_2 first_2 goes_1 goes_2 d.2 rest e ((k d.0).begins b d.2 d.4) z) in
      let two = (k d.0).complete b d.2 rest d.4 (stops_left code goes_2 (cond empty_2 goes_1 []) rest z) in
      rw (d.5, append_assoc d.1 d.2 rest, one) two;
}

-- the trees of a language that pass a test
pub such_takes : {T A : Type 0} {code : T → ℕ} {empty : Bool} {first goes_on : List ℕ} {p : Lang T A} {r : Reader T A} (test : A → Bool)
    → Takes code empty first goes_on p r → Takes code empty first goes_on (such_that test p) (such_at test r)
such_takes {T = T} {A = A} {p = p} {r = r} test h = record {
  begins = λ a x d. h.begins a x d.1;
  sound = λ ts a rest e.
      let w = and_then_some (r ts) (checked test) a rest e in
      let m = h.sound ts w.0 w.1 w.2 in
      elim (if_some (test w.0) (took w.0 w.1) None (took a rest) w.3) [
        | inl u ↦
            let same : w.0 ≡ a = took_value w.0 a w.1 rest u.1 in
            (m.0, (ap test (sym same) ∙ u.0, subst (λ c. p c m.0) same m.1), m.2 ∙ ap (λ us. m.0 ++ us) (took_rest w.0 a w.1 rest u.1))
        | inr u ↦ absurd (let e = u.1 in cc)
      ];
  complete = λ a x rest d s. rw (h.complete a x rest d.1 s, d.0) refl;
}
