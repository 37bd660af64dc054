-- The laws of readers that also count the depth. A language is given for each depth, as those trees that are at most so deep.
use Rattle.std.proofs.Common.{◌≡◌, ℕ, zero, suc, max, ◌+◌, ◌<◌, ◌≤◌, Bool, true, false, cond, ◌&&◌, List, [], ◌∷◌, ◌++◌, length, Some, None, refl, sym, ap, subst, subst₂, ◌∙◌, append_assoc, arith, inl, inr, nat_lt, lt-ltb, ltb-true, if◌then◌else◌}
use Rattle.grammar.specs.Lang.{Lang, ◌&◌, ◌∣◌, ◌<$>◌, many, some, list}
use Rattle.grammar.specs.Reader.{Reader, and_then, starts, none_at, both_at, map_at, either_at, Deep, flat_at, deep_both, deep_map, joined, deep_from, deep_many, deep_list, level, inside, above, chained, chain_at, suffix_at}
use Rattle.grammar.specs.Sets.{apart, covers}
use Rattle.grammar.proofs.Laws.{Begins, Stops, Takes}
use Rattle.grammar.proofs.Plain.{begins_wider, stops_part, stops_left, stops_right, starts_with, stops_before, begins_both, took, took_value, took_rest, and_then_some, if_some, starts_apart, many_begins, shorter, some_length, empty_or_apart, begins_left, begins_right, begins_first, begins_more}

-- what a reader took, of depth at most d, is in the language at each depth from d on
pub record Found {T A : Type 0} (limit : ℕ) (p : ℕ → Lang T A) (ts : List T) (a : A) (d : ℕ) (rest : List T) : Type 0 where
  pub shallow : d ≤ limit
  pub text : List T
  pub holds : (n : ℕ) → d ≤ n → p n a text
  pub whole : ts ≡ text ++ rest

pub record Reached {T A : Type 0} (r : Deep T A) (n : ℕ) (ts : List T) (a : A) (rest : List T) : Type 0 where
  pub depth : ℕ
  pub small : depth ≤ n
  pub reads : r ts ≡ Some ((a, depth), rest)

pub record Nests {T A : Type 0} (code : T → ℕ) (limit bound : ℕ) (empty : Bool) (first goes_on : List ℕ) (p : ℕ → Lang T A) (r : Deep T A) : Type 0 where
  pub begins : (n : ℕ) (a : A) (x : List T) → n < bound → p n a x → Begins code empty first x
  pub sound : (ts : List T) (a : A) (d : ℕ) (rest : List T) → r ts ≡ Some ((a, d), rest) → Found limit p ts a d rest
  pub complete : (n : ℕ) (a : A) (x rest : List T) → n < bound → p n a x → Stops code goes_on rest → Reached r n (x ++ rest) a rest

pub deep_wider : {T A : Type 0} {code : T → ℕ} {limit bound : ℕ} {empty : Bool} {first goes_on : List ℕ} {p : ℕ → Lang T A} {r : Deep T A}
    (first_2 goes_2 : List ℕ) → covers first_2 first ≡ true → covers goes_2 goes_on ≡ true → Nests code limit bound empty first goes_on p r → Nests code limit bound empty first_2 goes_2 p r
deep_wider {code = code} {empty = empty} {first = first} {goes_on = goes_on} first_2 goes_2 e f h = record {
  begins = λ n a x l d. begins_wider code empty first_2 first x e (h.begins n a x l d);
  sound = h.sound;
  complete = λ n a x rest l d s. h.complete n a x rest l d (stops_part code goes_2 goes_on rest f s);
}

-- a language without depth
pub flat_nests : {T A : Type 0} {code : T → ℕ} {limit bound : ℕ} {empty : Bool} {first goes_on : List ℕ} {p : Lang T A} {r : Reader T A}
    → Takes code empty first goes_on p r → Nests code limit bound empty first goes_on (λ n. p) (flat_at r)
flat_nests {A = A} {p = p} {r = r} h = record {
  begins = λ n a x l d. h.begins a x d;
  sound = λ ts a d rest e.
      let w = and_then_some (r ts) (λ (c : A) us. took (c, 0) us) (a, d) rest e in
      let m = h.sound ts w.0 w.1 w.2 in
      let same : w.0 ≡ a = ap (λ (v : A × ℕ). v.0) (took_value (w.0, 0) (a, d) w.1 rest w.3) in
      record {
        shallow = let z : 0 ≡ d = ap (λ (v : A × ℕ). v.1) (took_value (w.0, 0) (a, d) w.1 rest w.3) in omega (arith, z);
        text = m.0;
        holds = λ n l. subst (λ c. p c m.0) same m.1;
        whole = m.2 ∙ ap (λ us. m.0 ++ us) (took_rest (w.0, 0) (a, d) w.1 rest w.3);
      };
  complete = λ n a x rest l d s. record { depth = 0; small = omega arith; reads = rw (h.complete a x rest d s) refl };
}

pub deep_map_nests : {T A B : Type 0} {code : T → ℕ} {limit bound : ℕ} {empty : Bool} {first goes_on : List ℕ} {p : ℕ → Lang T A} {r : Deep T A} (f : A → B)
    → Nests code limit bound empty first goes_on p r → Nests code limit bound empty first goes_on (λ n. f <$> p n) (deep_map f r)
deep_map_nests {A = A} {B = B} {p = p} {r = r} f h = record {
  begins = λ n b x l d. h.begins n d.0 x l d.1;
  sound = λ ts b d rest e.
      let w = and_then_some (r ts) (λ (c : A × ℕ) us. took (f c.0, c.1) us) (b, d) rest e in
      let m = h.sound ts w.0.0 w.0.1 w.1 w.2 in
      let same = took_value (f w.0.0, w.0.1) (b, d) w.1 rest w.3 in
      let value : f w.0.0 ≡ b = ap (λ (v : B × ℕ). v.0) same in
      let depth : w.0.1 ≡ d = ap (λ (v : B × ℕ). v.1) same in
      record {
        shallow = let small = m.shallow in omega (arith, small, depth);
        text = m.text;
        holds = λ n l. (w.0.0, m.holds n (omega arith), sym value);
        whole = m.whole ∙ ap (λ us. m.text ++ us) (took_rest (f w.0.0, w.0.1) (b, d) w.1 rest w.3);
      };
  complete = λ n b x rest l d s. let c = h.complete n d.0 x rest l d.1 s in
      record { depth = c.depth; small = c.small; reads = rw c.reads (ap (λ v. took (v, c.depth) rest) (sym d.2)) };
}

pub deep_both_nests : {T A B : Type 0} {code : T → ℕ} {limit bound : ℕ} {empty_1 empty_2 : Bool} {first_1 first_2 goes_1 goes_2 : List ℕ} {p : ℕ → Lang T A} {q : ℕ → Lang T B} {r : Deep T A} {s : Deep T B}
    → Nests code limit bound empty_1 first_1 goes_1 p r → apart first_2 goes_1 ≡ true → Nests code limit bound empty_2 first_2 goes_2 q s
    → Nests code limit bound (empty_1 && empty_2) (first_1 ++ cond empty_1 first_2 []) (goes_2 ++ cond empty_2 goes_1 []) (λ n. p n & q n) (deep_both r s)
deep_both_nests {T = T} {A = A} {B = B} {code = code} {limit = limit} {empty_1 = empty_1} {empty_2 = empty_2} {first_1 = first_1} {first_2 = first_2} {goes_1 = goes_1} {goes_2 = goes_2} {p = p} {q = q} {r = r} {s = s} h e k = record {
  begins = λ n v x l d. subst (λ t. Begins code (empty_1 && empty_2) (first_1 ++ cond empty_1 first_2 []) t) (sym d.4)
      (begins_both code empty_1 empty_2 first_1 first_2 d.0 d.1 (h.begins n v.0 d.0 l d.2) (k.begins n v.1 d.1 l d.3));
  sound = λ ts v d rest g. both_sound ts v d rest g;
  complete = λ n v x rest l d z.
      let one = h.complete n v.0 d.0 (d.1 ++ rest) l d.2 (stops_before code empty_2 first_2 goes_1 goes_2 d.1 rest e (k.begins n v.1 d.1 l d.3) z) in
      let two = k.complete n v.1 d.1 rest l d.3 (stops_left code goes_2 (cond empty_2 goes_1 []) rest z) in
      record { depth = max one.depth two.depth; small = let a = one.small in let b = two.small in omega arith; reads = rw (d.4, append_assoc d.0 d.1 rest, one.reads, two.reads) refl };
}
  where
    both_sound : (ts : List T) (v : A × B) (d : ℕ) (rest : List T) → deep_both r s ts ≡ Some ((v, d), rest) → Found limit (λ n. p n & q n) ts v d rest
    both_sound ts v d rest g =
        let o = and_then_some (both_at r s ts) (λ (c : (A × ℕ) × (B × ℕ)) us. took ((c.0.0, c.1.0), max c.0.1 c.1.1) us) (v, d) rest g in
        let w = and_then_some (r ts) (λ a us. and_then (s us) (λ b vs. took (a, b) vs)) o.0 o.1 o.2 in
        let y = and_then_some (s w.1) (λ b vs. took (w.0, b) vs) o.0 o.1 w.3 in
        let m = h.sound ts w.0.0 w.0.1 w.1 w.2 in
        let n = k.sound w.1 y.0.0 y.0.1 y.1 y.2 in
        let pair : (w.0, y.0) ≡ o.0 = took_value (w.0, y.0) o.0 y.1 o.1 y.3 in
        let last : ((o.0.0.0, o.0.1.0), max o.0.0.1 o.0.1.1) ≡ (v, d) = took_value ((o.0.0.0, o.0.1.0), max o.0.0.1 o.0.1.1) (v, d) o.1 rest o.3 in
        let left : y.1 ≡ rest = took_rest (w.0, y.0) o.0 y.1 o.1 y.3 ∙ took_rest ((o.0.0.0, o.0.1.0), max o.0.0.1 o.0.1.1) (v, d) o.1 rest o.3 in
        let value : (w.0.0, y.0.0) ≡ v = ap (λ (c : (A × ℕ) × (B × ℕ)). (c.0.0, c.1.0)) pair ∙ ap (λ (c : (A × B) × ℕ). c.0) last in
        let depth : max w.0.1 y.0.1 ≡ d = ap (λ (c : (A × ℕ) × (B × ℕ)). max c.0.1 c.1.1) pair ∙ ap (λ (c : (A × B) × ℕ). c.1) last in
        record {
          shallow = let small = m.shallow in let less = n.shallow in omega (arith, small, less, depth);
          text = m.text ++ n.text;
          holds = λ i l. subst (λ u. (p i & q i) u (m.text ++ n.text)) value (m.text, n.text, m.holds i (omega arith), n.holds i (omega arith), refl);
          whole = m.whole ∙ ap (λ us. m.text ++ us) (n.whole ∙ ap (λ us. n.text ++ us) left) ∙ sym (append_assoc m.text n.text rest);
        }

pub deep_either_nests : {T A : Type 0} {code : T → ℕ} {limit bound : ℕ} {first_1 first_2 goes_1 goes_2 : List ℕ} {p q : ℕ → Lang T A} {r s : Deep T A}
    → Nests code limit bound false first_1 goes_1 p r → apart first_2 first_1 ≡ true → Nests code limit bound false first_2 goes_2 q s
    → Nests code limit bound false (first_1 ++ first_2) (goes_1 ++ goes_2) (λ n. p n ∣ q n) (either_at code first_1 r s)
deep_either_nests {A = A} {code = code} {bound = bound} {first_1 = first_1} {first_2 = first_2} {goes_1 = goes_1} {goes_2 = goes_2} {p = p} {q = q} {r = r} {s = s} h e k = record {
  begins = λ n a x l d. elim d [ inl c ↦ begins_left code first_1 first_2 x (h.begins n a x l c) | inr c ↦ begins_right code first_1 first_2 x (k.begins n a x l c) ];
  sound = λ ts a d rest g. elim (if_some (starts code first_1 ts) (r ts) (s ts) (took (a, d) rest) g) [
    | inl w ↦ let m = h.sound ts a d rest w.1 in record { shallow = m.shallow; text = m.text; holds = λ n l. inl (m.holds n l); whole = m.whole }
    | inr w ↦ let m = k.sound ts a d rest w.1 in record { shallow = m.shallow; text = m.text; holds = λ n l. inr (m.holds n l); whole = m.whole }
  ];
  complete = either_reached;
}
  where
    either_reached : (n : ℕ) (a : A) (x rest : List _) → n < bound → (p n ∣ q n) a x → Stops code (goes_1 ++ goes_2) rest → Reached (either_at code first_1 r s) n (x ++ rest) a rest
    either_reached n a x rest l (inl d) z = let c = h.complete n a x rest l d (stops_left code goes_1 goes_2 rest z) in
        record { depth = c.depth; small = c.small; reads = rw (starts_with code first_1 x rest (h.begins n a x l d)) c.reads }
    either_reached n a x rest l (inr d) z = let c = k.complete n a x rest l d (stops_right code goes_1 goes_2 rest z) in
        record { depth = c.depth; small = c.small; reads = rw (starts_apart code first_2 first_1 x rest e (k.begins n a x l d)) c.reads }

-- ---- inside a form

-- the second is the first, at less depth
pub record IsBelow {T A : Type 0} (p l : ℕ → Lang T A) : Type 0 where
  pub nothing : (a : A) (x : List T) → l zero a x → ⊥
  pub opens : (m : ℕ) (a : A) (x : List T) → l (suc m) a x → p m a x
  pub closes : (m : ℕ) (a : A) (x : List T) → p m a x → l (suc m) a x

pub opens_at : {T A : Type 0} {p l : ℕ → Lang T A} → IsBelow p l → (n : ℕ) (a : A) (x : List T) → l n a x → (m : ℕ) × (n ≡ suc m) × p m a x
opens_at w zero a x d = absurd (w.nothing a x d)
opens_at w (suc m) a x d = (m, refl, w.opens m a x d)

pub closes_at : {T A : Type 0} {p l : ℕ → Lang T A} → IsBelow p l → (d : ℕ) (a : A) (x : List T) → ((n : ℕ) → d ≤ n → p n a x) → (n : ℕ) → d + 1 ≤ n → l n a x
closes_at w d a x h zero less = absurd (omega arith)
closes_at w d a x h (suc m) less = w.closes m a x (h m (omega arith))

pub level_reads : {T A : Type 0} (limit : ℕ) (a : A) (d : ℕ) (ts : List T) → d < limit → level limit a d ts ≡ Some ((a, d + 1), ts)
unfolding level
level_reads limit a d ts h = rw (lt-ltb d limit h) refl

pub level_some : {T A : Type 0} (limit : ℕ) (a : A) (d : ℕ) (ts : List T) (v : A × ℕ) (rest : List T) → level limit a d ts ≡ Some (v, rest) → ((a, d + 1) ≡ v) × (ts ≡ rest) × (d < limit)
unfolding level
level_some limit a d ts v rest e =
    elim (if_some (nat_lt d limit) (took (a, d + 1) ts) None (took v rest) e) [
      | inl w ↦ (took_value (a, d + 1) v ts rest w.1, took_rest (a, d + 1) v ts rest w.1, ltb-true d limit w.0)
      | inr w ↦ absurd (let e = w.1 in cc)
    ]

pub inside_nests : {T A : Type 0} {code : T → ℕ} {limit bound : ℕ} {empty : Bool} {first goes_on : List ℕ} {p : ℕ → Lang T A} {r : Deep T A}
    (bound_2 : ℕ) (l : ℕ → Lang T A) → IsBelow p l → bound_2 ≤ bound + 1 → bound_2 ≤ limit + 1
    → Nests code limit bound empty first goes_on p r → Nests code limit bound_2 empty first goes_on l (inside limit r)
inside_nests {A = A} {limit = limit} {p = p} {r = r} bound_2 l w b c h = record {
  begins = λ n a x le d. let o = opens_at w n a x d in h.begins o.0 a x (let e = o.1 in omega arith) o.2;
  sound = λ ts a d rest e.
      let u = and_then_some (r ts) (λ (c : A × ℕ) us. level limit c.0 c.1 us) (a, d) rest e in
      let m = h.sound ts u.0.0 u.0.1 u.1 u.2 in
      let v = level_some limit u.0.0 u.0.1 u.1 (a, d) rest u.3 in
      let value : u.0.0 ≡ a = ap (λ (c : A × ℕ). c.0) v.0 in
      let depth : u.0.1 + 1 ≡ d = ap (λ (c : A × ℕ). c.1) v.0 in
      record {
        shallow = let small = v.2 in omega (arith, small, depth);
        text = m.text;
        holds = λ n le. subst (λ c. l n c m.text) value (closes_at w u.0.1 u.0.0 m.text m.holds n (let f : u.0.1 + 1 ≡ d = depth in omega (arith, f)));
        whole = m.whole ∙ ap (λ us. m.text ++ us) v.1;
      };
  complete = λ n a x rest le d s.
      let o = opens_at w n a x d in
      let q = h.complete o.0 a x rest (let e = o.1 in omega arith) o.2 s in
      record {
        depth = q.depth + 1;
        small = let e = o.1 in let f = q.small in omega arith;
        reads = rw q.reads (level_reads limit a q.depth rest (let e = o.1 in let f = q.small in omega arith));
      };
}

-- where nothing may be read
pub none_nests : {T A : Type 0} {code : T → ℕ} {limit : ℕ} {empty : Bool} {first goes_on : List ℕ} (p : ℕ → Lang T A) → Nests code limit 0 empty first goes_on p none_at
none_nests p = record {
  begins = λ n a x le d. absurd (omega arith);
  sound = λ ts a d rest e. absurd cc;
  complete = λ n a x rest le d s. absurd (omega arith);
}

-- ---- lists

deep_none : {T A : Type 0} (code : T → ℕ) (ks : List ℕ) (r : Deep T A) (n : ℕ) (ts : List T) → Stops code ks ts → deep_from code ks r n ts ≡ Some (([], 0), ts)
unfolding deep_from
deep_none code ks r zero ts s = refl
deep_none code ks r (suc n) ts s = rw s refl

deep_step : {T A : Type 0} (code : T → ℕ) (ks : List ℕ) (r : Deep T A) (turns : ℕ) (ts us rest : List T) (a : A) (all : List A) (d e : ℕ)
    → starts code ks ts ≡ true → r ts ≡ Some ((a, d), us) → deep_from code ks r turns us ≡ Some ((all, e), rest) → deep_from code ks r (suc turns) ts ≡ Some ((a ∷ all, max d e), rest)
unfolding deep_from
deep_step code ks r turns ts us rest a all d e s g h = rw (s, g, h) refl

deep_many_reached : {T A : Type 0} {code : T → ℕ} {limit bound : ℕ} {first goes_on : List ℕ} {p : ℕ → Lang T A} {r : Deep T A} → apart first goes_on ≡ true → Nests code limit bound false first goes_on p r
    → (n : ℕ) → n < bound → (all : List A) (turns : ℕ) (x rest : List T) → many (p n) all x → length (x ++ rest) ≤ turns → Stops code (first ++ goes_on) rest
    → Reached (deep_from code first r turns) n (x ++ rest) all rest
unfolding deep_from
deep_many_reached {code = code} {first = first} {goes_on = goes_on} {r = r} e h n le [] turns x rest d l s =
    record { depth = 0; small = omega arith; reads = rw d (deep_none code first r turns rest (stops_left code first goes_on rest s)) }
deep_many_reached {code = code} {first = first} e h n le (a ∷ all) zero x rest d l s =
    absurd (some_length code first d.0 (d.1 ++ rest) (h.begins n a d.0 le d.2) (subst (λ w. length w ≤ 0) (ap (λ w. w ++ rest) d.4 ∙ append_assoc d.0 d.1 rest) l))
deep_many_reached {code = code} {first = first} {goes_on = goes_on} {p = p} {r = r} e h n le (a ∷ all) (suc turns) x rest d l s =
    let b = h.begins n a d.0 le d.2 in
    let whole : x ++ rest ≡ d.0 ++ (d.1 ++ rest) = ap (λ w. w ++ rest) d.4 ∙ append_assoc d.0 d.1 rest in
    let item = h.complete n a d.0 (d.1 ++ rest) le d.2 (empty_or_apart code first goes_on d.1 rest e (many_begins code first (p n) (λ a x. h.begins n a x le) all d.1 d.3) s) in
    let short = shorter code first d.0 (d.1 ++ rest) turns b (subst (λ w. length w ≤ suc turns) whole l) in
    let more = deep_many_reached e h n le all turns d.1 rest d.3 short s in
    subst (λ w. Reached (deep_from code first r (suc turns)) n w (a ∷ all) rest) (sym whole) (record {
      depth = max item.depth more.depth;
      small = let f = item.small in let g = more.small in omega arith;
      reads = deep_step code first r turns (d.0 ++ (d.1 ++ rest)) (d.1 ++ rest) rest a all item.depth more.depth (starts_with code first d.0 (d.1 ++ rest) b) item.reads more.reads;
    })

deep_many_found : {T A : Type 0} {code : T → ℕ} {limit bound : ℕ} {first goes_on : List ℕ} {p : ℕ → Lang T A} {r : Deep T A} → Nests code limit bound false first goes_on p r
    → (turns : ℕ) (ts : List T) (all : List A) (d : ℕ) (rest : List T) → deep_from code first r turns ts ≡ Some ((all, d), rest) → Found limit (λ n. many (p n)) ts all d rest
unfolding deep_from
deep_many_found {A = A} {p = p} h zero ts all d rest e =
    let value : [] ≡ all = ap (λ (c : List A × ℕ). c.0) (took_value ([], 0) (all, d) ts rest e) in
    record { shallow = let z : 0 ≡ d = ap (λ (c : List A × ℕ). c.1) (took_value ([], 0) (all, d) ts rest e) in omega (arith, z); text = []; holds = λ n l. subst (λ u. many (p n) u []) value refl; whole = took_rest {A = List A × ℕ} ([], 0) (all, d) ts rest e }
deep_many_found {A = A} {code = code} {first = first} {p = p} {r = r} h (suc turns) ts all d rest e =
    elim (if_some (starts code first ts) (and_then (r ts) (λ a us. and_then (deep_from code first r turns us) (λ more vs. took (joined a more) vs))) (took ([], 0) ts) (took (all, d) rest) e) [
      | inl w ↦
          let u = and_then_some (r ts) (λ a us. and_then (deep_from code first r turns us) (λ more vs. took (joined a more) vs)) (all, d) rest w.1 in
          let v = and_then_some (deep_from code first r turns u.1) (λ more vs. took (joined u.0 more) vs) (all, d) rest u.3 in
          let m = h.sound ts u.0.0 u.0.1 u.1 u.2 in
          let k = deep_many_found h turns u.1 v.0.0 v.0.1 v.1 v.2 in
          let both = took_value (joined u.0 v.0) (all, d) v.1 rest v.3 in
          let value : u.0.0 ∷ v.0.0 ≡ all = ap (λ (c : List A × ℕ). c.0) both in
          let depth : max u.0.1 v.0.1 ≡ d = ap (λ (c : List A × ℕ). c.1) both in
          let left : v.1 ≡ rest = took_rest (joined u.0 v.0) (all, d) v.1 rest v.3 in
          record {
            shallow = let small = m.shallow in let less = k.shallow in omega (arith, small, less, depth);
            text = m.text ++ k.text;
            holds = λ n l. subst (λ c. many (p n) c (m.text ++ k.text)) value
                (m.text, k.text, m.holds n (let f : max u.0.1 v.0.1 ≡ d = depth in omega (arith, f)), k.holds n (let f : max u.0.1 v.0.1 ≡ d = depth in omega (arith, f)), refl);
            whole = m.whole ∙ ap (λ us. m.text ++ us) (k.whole ∙ ap (λ us. k.text ++ us) left) ∙ sym (append_assoc m.text k.text rest);
          }
      | inr w ↦
          let value : [] ≡ all = ap (λ (c : List A × ℕ). c.0) (took_value ([], 0) (all, d) ts rest w.1) in
          record { shallow = let z : 0 ≡ d = ap (λ (c : List A × ℕ). c.1) (took_value ([], 0) (all, d) ts rest w.1) in omega (arith, z); text = []; holds = λ n l. subst (λ u. many (p n) u []) value refl; whole = took_rest {A = List A × ℕ} ([], 0) (all, d) ts rest w.1 }
    ]

pub deep_many_nests : {T A : Type 0} {code : T → ℕ} {limit bound : ℕ} {first goes_on : List ℕ} {p : ℕ → Lang T A} {r : Deep T A} → apart first goes_on ≡ true
    → Nests code limit bound false first goes_on p r → Nests code limit bound true first (first ++ goes_on) (λ n. many (p n)) (deep_many code first r)
deep_many_nests {code = code} {first = first} {p = p} {r = r} e h = record {
  begins = λ n all x l d. many_begins code first (p n) (λ a x. h.begins n a x l) all x d;
  sound = λ ts all d rest g. deep_many_found h (length ts) ts all d rest g;
  complete = λ n all x rest l d s. let m = deep_many_reached e h n l all (length (x ++ rest)) x rest d (omega arith) s in record { depth = m.depth; small = m.small; reads = m.reads };
}

-- ---- an operand, alone or as the first of a form

chain_one : {T A B : Type 0} (code : T → ℕ) (ks : List ℕ) (limit : ℕ) (make : A → List B → A) (r : Deep T A) (s : Deep T B) (ts rest : List T) (a : A) (d : ℕ)
    → r ts ≡ Some ((a, d), rest) → Stops code ks rest → chain_at code ks limit make r s ts ≡ Some ((a, d), rest)
chain_one code ks limit make r s ts rest a d e z = rw (e, deep_none code ks s (length rest) rest z) refl

chain_more : {T A B : Type 0} (code : T → ℕ) (ks : List ℕ) (limit : ℕ) (make : A → List B → A) (r : Deep T A) (s : Deep T B) (ts us rest : List T) (a : A) (d : ℕ) (b : B) (bs : List B) (e : ℕ)
    → r ts ≡ Some ((a, d), us) → deep_many code ks s us ≡ Some ((b ∷ bs, e), rest) → d < limit → chain_at code ks limit make r s ts ≡ Some ((make a (b ∷ bs), max (d + 1) e), rest)
chain_more code ks limit make r s ts us rest a d b bs e g h l = rw (g, h, level_reads limit a d rest l) refl

abbrev pub chain_lang : {T A B : Type 0} → (A → List B → A) → (ℕ → Lang T A) → (ℕ → Lang T A) → (ℕ → Lang T B) → ℕ → Lang T A
chain_lang make p l q n = p n ∣ (λ v. make v.0 v.1) <$> (l n & some (q n))

chain_found : {T A B : Type 0} {p l : ℕ → Lang T A} {q : ℕ → Lang T B} → IsBelow p l → (limit : ℕ) (make : A → List B → A)
    → (ts us vs rest : List T) (a c : A) (d e f : ℕ) (all : List B) → Found limit p ts a d us → Found limit (λ n. many (q n)) us all e vs → chained limit make (a, d) (all, e) vs ≡ Some ((c, f), rest)
    → Found limit (chain_lang make p l q) ts c f rest
chain_found {A = A} {p = p} w limit make ts us vs rest a c d e f [] m k g =
    let same = took_value (a, d) (c, f) vs rest g in
    let value : a ≡ c = ap (λ (v : A × ℕ). v.0) same in
    let depth : d ≡ f = ap (λ (v : A × ℕ). v.1) same in
    let nothing : k.text ≡ [] = k.holds e (omega arith) in
    record {
      shallow = let small = m.shallow in omega (arith, small, depth);
      text = m.text;
      holds = λ n le. inl (subst (λ u. p n u m.text) value (m.holds n (omega (arith, depth))));
      whole = m.whole ∙ ap (λ us. m.text ++ us) (k.whole ∙ ap (λ t. t ++ vs) nothing ∙ took_rest (a, d) (c, f) vs rest g);
    }
chain_found {T = T} {A = A} {B = B} {p = p} {l = l} {q = q} w limit make ts us vs rest a c d e f (b ∷ bs) m k g =
    let o = and_then_some (level limit a d vs) (λ (u : A × ℕ) ws. took (above make u (b ∷ bs, e)) ws) (c, f) rest g in
    let v = level_some limit a d vs o.0 o.1 o.2 in
    let same = took_value (above make o.0 (b ∷ bs, e)) (c, f) o.1 rest o.3 in
    let value : make a (b ∷ bs) ≡ c = ap (λ (u : A × ℕ). make u.0 (b ∷ bs)) v.0 ∙ ap (λ (u : A × ℕ). u.0) same in
    let depth : max (d + 1) e ≡ f = ap (λ (u : A × ℕ). max u.1 e) v.0 ∙ ap (λ (u : A × ℕ). u.1) same in
    let left : vs ≡ rest = v.1 ∙ took_rest (above make o.0 (b ∷ bs, e)) (c, f) o.1 rest o.3 in
    record {
      shallow = let small = v.2 in let less = k.shallow in omega (arith, small, less, depth);
      text = m.text ++ k.text;
      holds = λ n le. inr ((a, b ∷ bs), (m.text, k.text, closes_at w d a m.text m.holds n (omega (arith, depth)), k.holds n (omega (arith, depth)), refl), sym value);
      whole = m.whole ∙ ap (λ us. m.text ++ us) (k.whole ∙ ap (λ us. k.text ++ us) left) ∙ sym (append_assoc m.text k.text rest);
    }

some_begins : {T A : Type 0} (code : T → ℕ) (first : List ℕ) (p : Lang T A) → ((a : A) (x : List T) → p a x → Begins code false first x)
    → (all : List A) (x : List T) → some p all x → Begins code false first x
some_begins code first p h [] x d = absurd d
some_begins code first p h (a ∷ all) [] d = absurd (nonempty d.0 d.1 (h a d.0 d.2) d.4)
  where
    nonempty : (y z : List _) → Begins code false first y → [] ≡ y ++ z → ⊥
    nonempty [] z b e = cc
    nonempty (u ∷ y) z b e = cc
some_begins code first p h (a ∷ all) (t ∷ x) d = begins_first code first (t ∷ x) d.0 d.1 (h a d.0 d.2) d.4

-- The second language is what stands at less depth in the form; `goes_on` is what makes the whole go on.
pub chain_nests : {T A B : Type 0} {code : T → ℕ} {limit bound : ℕ} {first goes_1 first_2 goes_2 : List ℕ} {p : ℕ → Lang T A} {q : ℕ → Lang T B} {r : Deep T A} {s : Deep T B}
    (make : A → List B → A) (l : ℕ → Lang T A) (goes_on : List ℕ) → IsBelow p l → bound ≤ limit + 1
    → Nests code limit bound false first goes_1 p r → apart first_2 goes_1 ≡ true → apart first_2 goes_2 ≡ true → Nests code limit bound false first_2 goes_2 q s
    → covers goes_on goes_1 ≡ true → covers goes_on (first_2 ++ goes_2) ≡ true
    → Nests code limit bound false first goes_on (chain_lang make p l q) (chain_at code first_2 limit make r s)
chain_nests {T = T} {A = A} {B = B} {code = code} {limit = limit} {bound = bound} {first = first} {goes_1 = goes_1} {first_2 = first_2} {goes_2 = goes_2} {p = p} {q = q} {r = r} {s = s} make l goes_on w c h e e_2 k u v = record {
  begins = chain_begins;
  sound = λ ts a d rest g.
      let x = and_then_some (r ts) (λ (o : A × ℕ) us. and_then (deep_many code first_2 s us) (λ bs vs. chained limit make o bs vs)) (a, d) rest g in
      let y = and_then_some (deep_many code first_2 s x.1) (λ bs vs. chained limit make x.0 bs vs) (a, d) rest x.3 in
      chain_found w limit make ts x.1 y.1 rest x.0.0 a x.0.1 y.0.1 d y.0.0 (h.sound ts x.0.0 x.0.1 x.1 x.2) (deep_many_found k (length x.1) x.1 y.0.0 y.0.1 y.1 y.2) y.3;
  complete = chain_reached;
}
  where
    chain_begins : (n : ℕ) (a : A) (x : List T) → n < bound → chain_lang make p l q n a x → Begins code false first x
    chain_begins n a x le (inl d) = h.begins n a x le d
    chain_begins n a x le (inr d) = let o = opens_at w n d.0.0 d.1.0 d.1.2 in
        begins_more code first x d.1.0 d.1.1 (h.begins o.0 d.0.0 d.1.0 (let f = o.1 in omega arith) o.2) d.1.4

    chain_reached : (n : ℕ) (a : A) (x rest : List T) → n < bound → chain_lang make p l q n a x → Stops code goes_on rest → Reached (chain_at code first_2 limit make r s) n (x ++ rest) a rest
    chain_reached n a x rest le (inl d) z =
        let m = h.complete n a x rest le d (stops_part code goes_on goes_1 rest u z) in
        record { depth = m.depth; small = m.small; reads = chain_one code first_2 limit make r s (x ++ rest) rest a m.depth m.reads (stops_left code first_2 goes_2 rest (stops_part code goes_on (first_2 ++ goes_2) rest v z)) }
    chain_reached n a x rest le (inr ((o, []), d, g)) z = absurd d.3
    chain_reached n a x rest le (inr ((o, b ∷ bs), d, g)) z =
        let i = opens_at w n o d.0 d.2 in
        let few = some_begins code first_2 (q n) (λ a x. k.begins n a x le) (b ∷ bs) d.1 d.3 in
        let m = h.complete i.0 o d.0 (d.1 ++ rest) (let f = i.1 in omega arith) i.2 (starts_apart code first_2 goes_1 d.1 rest e few) in
        let j = deep_many_reached e_2 k n le (b ∷ bs) (length (d.1 ++ rest)) d.1 rest d.3 (omega arith) (stops_part code goes_on (first_2 ++ goes_2) rest v z) in
        let whole : x ++ rest ≡ d.0 ++ (d.1 ++ rest) = ap (λ t. t ++ rest) d.4 ∙ append_assoc d.0 d.1 rest in
        let value : make o (b ∷ bs) ≡ a = sym g in
        subst₂ (λ t c. Reached (chain_at code first_2 limit make r s) n t c rest) (sym whole) value (record {
          depth = max (m.depth + 1) j.depth;
          small = let f = i.1 in let g = m.small in let h = j.small in omega arith;
          reads = chain_more code first_2 limit make r s (d.0 ++ (d.1 ++ rest)) (d.1 ++ rest) rest o m.depth b bs j.depth m.reads j.reads (let f = i.1 in let g = m.small in omega arith);
        })

-- ---- an operand, alone or before one more

abbrev pub suffix_lang : {T A B : Type 0} → (A → B → A) → (ℕ → Lang T A) → (ℕ → Lang T A) → (ℕ → Lang T B) → ℕ → Lang T A
suffix_lang make p l q n = p n ∣ (λ v. make v.0 v.1) <$> (l n & q n)

suffix_one : {T A B : Type 0} (code : T → ℕ) (ks : List ℕ) (limit : ℕ) (make : A → B → A) (r : Deep T A) (s : Deep T B) (ts rest : List T) (a : A) (d : ℕ)
    → r ts ≡ Some ((a, d), rest) → Stops code ks rest → suffix_at code ks limit make r s ts ≡ Some ((a, d), rest)
suffix_one code ks limit make r s ts rest a d e z = rw (e, z) refl

suffix_more : {T A B : Type 0} (code : T → ℕ) (ks : List ℕ) (limit : ℕ) (make : A → B → A) (r : Deep T A) (s : Deep T B) (ts us rest : List T) (a : A) (d : ℕ) (b : B) (e : ℕ)
    → r ts ≡ Some ((a, d), us) → starts code ks us ≡ true → s us ≡ Some ((b, e), rest) → d < limit → suffix_at code ks limit make r s ts ≡ Some ((make a b, max (d + 1) e), rest)
suffix_more code ks limit make r s ts us rest a d b e g z h l = rw (g, z, h, level_reads limit a d rest l) refl

suffix_found : {T A B : Type 0} {p l : ℕ → Lang T A} {q : ℕ → Lang T B} → IsBelow p l → (limit : ℕ) (make : A → B → A)
    → (ts us vs rest : List T) (a c : A) (b : B) (d e f : ℕ) → Found limit p ts a d us → Found limit q us b e vs
    → and_then (level limit a d vs) (λ u ws. Some (above make u (b, e), ws)) ≡ Some ((c, f), rest) → Found limit (suffix_lang make p l q) ts c f rest
suffix_found {T = T} {A = A} {B = B} {p = p} {l = l} {q = q} w limit make ts us vs rest a c b d e f m k g =
    let o = and_then_some (level limit a d vs) (λ (u : A × ℕ) ws. took (above make u (b, e)) ws) (c, f) rest g in
    let v = level_some limit a d vs o.0 o.1 o.2 in
    let same = took_value (above make o.0 (b, e)) (c, f) o.1 rest o.3 in
    let value : make a b ≡ c = ap (λ (u : A × ℕ). make u.0 b) v.0 ∙ ap (λ (u : A × ℕ). u.0) same in
    let depth : max (d + 1) e ≡ f = ap (λ (u : A × ℕ). max u.1 e) v.0 ∙ ap (λ (u : A × ℕ). u.1) same in
    let left : vs ≡ rest = v.1 ∙ took_rest (above make o.0 (b, e)) (c, f) o.1 rest o.3 in
    record {
      shallow = let small = v.2 in let less = k.shallow in omega (arith, small, less, depth);
      text = m.text ++ k.text;
      holds = λ n le. inr ((a, b), (m.text, k.text, closes_at w d a m.text m.holds n (omega (arith, depth)), k.holds n (omega (arith, depth)), refl), sym value);
      whole = m.whole ∙ ap (λ us. m.text ++ us) (k.whole ∙ ap (λ us. k.text ++ us) left) ∙ sym (append_assoc m.text k.text rest);
    }

alone_found : {T A B : Type 0} {limit : ℕ} {p : ℕ → Lang T A} (l : ℕ → Lang T A) (q : ℕ → Lang T B) (make : A → B → A) (ts us rest : List T) (a c : A) (d f : ℕ) → Found limit p ts a d us
    → took {A = A × ℕ} (a, d) us ≡ took {A = A × ℕ} (c, f) rest → Found limit (suffix_lang make p l q) ts c f rest
alone_found {A = A} {p = p} l q make ts us rest a c d f m g =
    let same = took_value (a, d) (c, f) us rest g in
    let value : a ≡ c = ap (λ (v : A × ℕ). v.0) same in
    let depth : d ≡ f = ap (λ (v : A × ℕ). v.1) same in
    record {
      shallow = let small = m.shallow in omega (arith, small, depth);
      text = m.text;
      holds = λ n le. inl (subst (λ u. p n u m.text) value (m.holds n (omega (arith, depth))));
      whole = m.whole ∙ ap (λ us. m.text ++ us) (took_rest (a, d) (c, f) us rest g);
    }

pub suffix_nests : {T A B : Type 0} {code : T → ℕ} {limit bound : ℕ} {first goes_1 first_2 goes_2 : List ℕ} {p : ℕ → Lang T A} {q : ℕ → Lang T B} {r : Deep T A} {s : Deep T B}
    (make : A → B → A) (l : ℕ → Lang T A) (goes_on : List ℕ) → IsBelow p l → bound ≤ limit + 1
    → Nests code limit bound false first goes_1 p r → apart first_2 goes_1 ≡ true → Nests code limit bound false first_2 goes_2 q s
    → covers goes_on goes_1 ≡ true → covers goes_on (first_2 ++ goes_2) ≡ true
    → Nests code limit bound false first goes_on (suffix_lang make p l q) (suffix_at code first_2 limit make r s)
suffix_nests {T = T} {A = A} {B = B} {code = code} {limit = limit} {bound = bound} {first = first} {goes_1 = goes_1} {first_2 = first_2} {goes_2 = goes_2} {p = p} {q = q} {r = r} {s = s} make l goes_on w c h e k u v = record {
  begins = suffix_begins;
  sound = λ ts a d rest g.
      let x = and_then_some (r ts) (λ (o : A × ℕ) us. if starts code first_2 us then and_then (s us) (λ b vs. and_then (level limit o.0 o.1 vs) (λ i ws. took (above make i b) ws)) else took o us) (a, d) rest g in
      elim (if_some (starts code first_2 x.1) (and_then (s x.1) (λ b vs. and_then (level limit x.0.0 x.0.1 vs) (λ i ws. took (above make i b) ws))) (took x.0 x.1) (took (a, d) rest) x.3) [
        | inl y ↦
            let z = and_then_some (s x.1) (λ b vs. and_then (level limit x.0.0 x.0.1 vs) (λ i ws. took (above make i b) ws)) (a, d) rest y.1 in
            suffix_found w limit make ts x.1 z.1 rest x.0.0 a z.0.0 x.0.1 z.0.1 d (h.sound ts x.0.0 x.0.1 x.1 x.2) (k.sound x.1 z.0.0 z.0.1 z.1 z.2) z.3
        | inr y ↦ alone_found l q make ts x.1 rest x.0.0 a x.0.1 d (h.sound ts x.0.0 x.0.1 x.1 x.2) y.1
      ];
  complete = suffix_reached;
}
  where
    suffix_begins : (n : ℕ) (a : A) (x : List T) → n < bound → suffix_lang make p l q n a x → Begins code false first x
    suffix_begins n a x le (inl d) = h.begins n a x le d
    suffix_begins n a x le (inr d) = let o = opens_at w n d.0.0 d.1.0 d.1.2 in
        begins_more code first x d.1.0 d.1.1 (h.begins o.0 d.0.0 d.1.0 (let f = o.1 in omega arith) o.2) d.1.4

    suffix_reached : (n : ℕ) (a : A) (x rest : List T) → n < bound → suffix_lang make p l q n a x → Stops code goes_on rest → Reached (suffix_at code first_2 limit make r s) n (x ++ rest) a rest
    suffix_reached n a x rest le (inl d) z =
        let m = h.complete n a x rest le d (stops_part code goes_on goes_1 rest u z) in
        record { depth = m.depth; small = m.small; reads = suffix_one code first_2 limit make r s (x ++ rest) rest a m.depth m.reads (stops_left code first_2 goes_2 rest (stops_part code goes_on (first_2 ++ goes_2) rest v z)) }
    suffix_reached n a x rest le (inr ((o, b), d, g)) z =
        let i = opens_at w n o d.0 d.2 in
        let few = k.begins n b d.1 le d.3 in
        let m = h.complete i.0 o d.0 (d.1 ++ rest) (let f = i.1 in omega arith) i.2 (starts_apart code first_2 goes_1 d.1 rest e few) in
        let j = k.complete n b d.1 rest le d.3 (stops_right code first_2 goes_2 rest (stops_part code goes_on (first_2 ++ goes_2) rest v z)) in
        let whole : x ++ rest ≡ d.0 ++ (d.1 ++ rest) = ap (λ t. t ++ rest) d.4 ∙ append_assoc d.0 d.1 rest in
        let value : make o b ≡ a = sym g in
        subst₂ (λ t c. Reached (suffix_at code first_2 limit make r s) n t c rest) (sym whole) value (record {
          depth = max (m.depth + 1) j.depth;
          small = let f = i.1 in let g = m.small in let h = j.small in omega arith;
          reads = suffix_more code first_2 limit make r s (d.0 ++ (d.1 ++ rest)) (d.1 ++ rest) rest o m.depth b j.depth m.reads (starts_with code first_2 d.1 rest few) j.reads (let f = i.1 in let g = m.small in omega arith);
        })

pub deep_list_nests : {T A : Type 0} {code : T → ℕ} {limit bound : ℕ} {first first_2 goes_1 goes_2 : List ℕ} {p q : ℕ → Lang T A} {r s : Deep T A} → Nests code limit bound false first goes_1 p r → apart first_2 goes_1 ≡ true → apart first_2 goes_2 ≡ true
    → Nests code limit bound false first_2 goes_2 q s → Nests code limit bound false (first ++ []) ((first_2 ++ goes_2) ++ goes_1) (λ n. list (p n) (q n)) (deep_list code first_2 r s)
deep_list_nests h e f k = deep_map_nests (λ v. v.0 ∷ v.1) (deep_both_nests h e (deep_many_nests f k))

-- a language with depth, at its greatest
pub whole_takes : {T A : Type 0} {code : T → ℕ} {limit bound : ℕ} {empty : Bool} {first goes_on : List ℕ} {p : ℕ → Lang T A} {r : Deep T A} → limit < bound
    → Nests code limit bound empty first goes_on p r → Takes code empty first goes_on (p limit) (map_at (λ v. v.0) r)
whole_takes {A = A} {limit = limit} {p = p} {r = r} l h = record {
  begins = λ a x d. h.begins limit a x l d;
  sound = λ ts a rest e.
      let w = and_then_some (r ts) (λ (c : A × ℕ) us. took c.0 us) a rest e in
      let m = h.sound ts w.0.0 w.0.1 w.1 w.2 in
      (m.text, subst (λ c. p limit c m.text) (took_value w.0.0 a w.1 rest w.3) (m.holds limit m.shallow), m.whole ∙ ap (λ us. m.text ++ us) (took_rest w.0.0 a w.1 rest w.3));
  complete = λ a x rest d s. let c = h.complete limit a x rest l d s in rw c.reads refl;
}
