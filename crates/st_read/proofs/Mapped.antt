-- A reader of parts that maps each of them, beside one that maps them all at the end.
use Rattle.std.proofs.Common.{◌≡◌, ℕ, zero, suc, max, arith, Bool, true, false, List, [], ◌∷◌, ◌++◌, length, map, Some, None, refl, sym, ◌∙◌, if◌then◌else◌}
use Rattle.grammar.specs.Lang.{Lang}
use Rattle.grammar.specs.Reader.{Read, Reader, and_then, starts, both_at, map_at, many_from, many_at, Deep, deep_map, joined, deep_from, deep_many, level, above, chained, chain_at, suffix_at}
use Rattle.grammar.proofs.Laws.{Takes}
use Rattle.grammar.proofs.Depth.{Nests}

-- a reader that gives the same
pub reads_same : {T A : Type 0} {code : T → ℕ} {empty : Bool} {first goes_on : List ℕ} {p : Lang T A} {r s : Reader T A}
    → ((ts : List T) → s ts ≡ r ts) → Takes code empty first goes_on p r → Takes code empty first goes_on p s
reads_same e h = record {
  begins = h.begins;
  sound = λ ts a rest g. h.sound ts a rest (sym (e ts) ∙ g);
  complete = λ a x rest d s. e (x ++ rest) ∙ h.complete a x rest d s;
}

pub deep_reads_same : {T A : Type 0} {code : T → ℕ} {limit bound : ℕ} {empty : Bool} {first goes_on : List ℕ} {p : ℕ → Lang T A} {r s : Deep T A}
    → ((ts : List T) → s ts ≡ r ts) → Nests code limit bound empty first goes_on p r → Nests code limit bound empty first goes_on p s
deep_reads_same e h = record {
  begins = h.begins;
  sound = λ ts a d rest g. h.sound ts a d rest (sym (e ts) ∙ g);
  complete = λ n a x rest l d s. let c = h.complete n a x rest l d s in record { depth = c.depth; small = c.small; reads = e (x ++ rest) ∙ c.reads };
}

max_zero : (n : ℕ) → max n 0 ≡ n
max_zero n = omega arith

-- ---- lists

module _ {T A B : Type 0} (code : T → ℕ) (ks : List ℕ) (h : A → B) (r : Reader T A) where
  many_step : (n : ℕ) (b : Bool) (read : Read T A) (ts : List T) → ((us : List T) → many_from code ks (map_at h r) n us ≡ map_at (map h) (many_from code ks r n) us)
      → (if b then and_then {A = B} {B = List B} (and_then {A = A} {B = B} read (λ a us. Some (h a, us))) (λ a us. and_then {A = List B} {B = List B} (many_from code ks (map_at h r) n us) (λ more vs. Some (a ∷ more, vs))) else Some ([], ts))
      ≡ and_then {A = List A} {B = List B} (if b then and_then {A = A} {B = List A} read (λ a us. and_then {A = List A} {B = List A} (many_from code ks r n us) (λ more vs. Some (a ∷ more, vs))) else Some ([], ts)) (λ all us. Some (map h all, us))
  many_step n false read ts ih = refl
  many_step n true None ts ih = refl
  many_step n true (Some p) ts ih = rw (ih p.1) (go (many_from code ks r n p.1))
    where
      go : (more : Read T (List A)) → and_then {A = List B} {B = List B} (and_then {A = List A} {B = List B} more (λ all us. Some (map h all, us))) (λ all vs. Some (h p.0 ∷ all, vs))
          ≡ and_then {A = List A} {B = List B} (and_then {A = List A} {B = List A} more (λ all vs. Some (p.0 ∷ all, vs))) (λ all us. Some (map h all, us))
      go None = refl
      go (Some q) = refl

  many_from_mapped : (n : ℕ) (ts : List T) → many_from code ks (map_at h r) n ts ≡ map_at (map h) (many_from code ks r n) ts
  unfolding many_from
  many_from_mapped zero ts = refl
  many_from_mapped (suc n) ts = many_step n (starts code ks ts) (r ts) ts (λ us. many_from_mapped n us)

  pub many_mapped : (ts : List T) → many_at code ks (map_at h r) ts ≡ map_at (map h) (many_at code ks r) ts
  many_mapped ts = many_from_mapped (length ts) ts

-- ---- two parts as one

module _ {T W G E X J R : Type 0} (w : Reader T W) (g : Reader T G) (e : Reader T E) (x : Reader T X) (join : G × E → J) (f : W × (J × X) → R) where
  abbrev Same : List T → Type 0
  Same ts = map_at f (both_at w (both_at (map_at join (both_at g e)) x)) ts ≡ map_at (λ v. f (v.0, (join (v.1.0, v.1.1.0), v.1.1.1))) (both_at w (both_at g (both_at e x))) ts

  pub joined_first : (ts : List T) → map_at f (both_at w (both_at (map_at join (both_at g e)) x)) ts ≡ map_at (λ v. f (v.0, (join (v.1.0, v.1.1.0), v.1.1.1))) (both_at w (both_at g (both_at e x))) ts
  joined_first ts = go_w (w ts) refl
    where
      go_x : (p : W × List T) (q : G × List T) (r : E × List T) → w ts ≡ Some p → g p.1 ≡ Some q → e q.1 ≡ Some r → (o : Read T X) → x r.1 ≡ o → Same ts
      go_x p q r a b c None d = rw (a, b, c, d) refl
      go_x p q r a b c (Some s) d = rw (a, b, c, d) refl

      go_e : (p : W × List T) (q : G × List T) → w ts ≡ Some p → g p.1 ≡ Some q → (o : Read T E) → e q.1 ≡ o → Same ts
      go_e p q a b None c = rw (a, b, c) refl
      go_e p q a b (Some r) c = go_x p q r a b c (x r.1) refl

      go_g : (p : W × List T) → w ts ≡ Some p → (o : Read T G) → g p.1 ≡ o → Same ts
      go_g p a None b = rw (a, b) refl
      go_g p a (Some q) b = go_e p q a b (e q.1) refl

      go_w : (o : Read T W) → w ts ≡ o → Same ts
      go_w None a = rw a refl
      go_w (Some p) a = go_g p a (g p.1) refl

-- ---- lists and levels, with the depth

module _ {T A B : Type 0} (code : T → ℕ) (ks : List ℕ) (h : A → B) (r : Deep T A) where
  deep_step : (n : ℕ) (b : Bool) (read : Read T (A × ℕ)) (ts : List T) → ((us : List T) → deep_from code ks (deep_map h r) n us ≡ deep_map (map h) (deep_from code ks r n) us)
      → (if b then and_then {A = B × ℕ} {B = List B × ℕ} (and_then {A = A × ℕ} {B = B × ℕ} read (λ p us. Some ((h p.0, p.1), us))) (λ a us. and_then {A = List B × ℕ} {B = List B × ℕ} (deep_from code ks (deep_map h r) n us) (λ more vs. Some (joined a more, vs))) else Some (([], 0), ts))
      ≡ and_then {A = List A × ℕ} {B = List B × ℕ} (if b then and_then {A = A × ℕ} {B = List A × ℕ} read (λ a us. and_then {A = List A × ℕ} {B = List A × ℕ} (deep_from code ks r n us) (λ more vs. Some (joined a more, vs))) else Some (([], 0), ts)) (λ p us. Some ((map h p.0, p.1), us))
  deep_step n false read ts ih = refl
  deep_step n true None ts ih = refl
  deep_step n true (Some p) ts ih = rw (ih p.1) (go (deep_from code ks r n p.1))
    where
      go : (more : Read T (List A × ℕ)) → and_then {A = List B × ℕ} {B = List B × ℕ} (and_then {A = List A × ℕ} {B = List B × ℕ} more (λ q us. Some ((map h q.0, q.1), us))) (λ q vs. Some (joined (h p.0.0, p.0.1) q, vs))
          ≡ and_then {A = List A × ℕ} {B = List B × ℕ} (and_then {A = List A × ℕ} {B = List A × ℕ} more (λ q vs. Some (joined p.0 q, vs))) (λ q us. Some ((map h q.0, q.1), us))
      go None = refl
      go (Some q) = refl

  pub deep_from_mapped : (n : ℕ) (ts : List T) → deep_from code ks (deep_map h r) n ts ≡ deep_map (map h) (deep_from code ks r n) ts
  unfolding deep_from
  deep_from_mapped zero ts = refl
  deep_from_mapped (suc n) ts = deep_step n (starts code ks ts) (r ts) ts (λ us. deep_from_mapped n us)

module _ {T A B C : Type 0} (code : T → ℕ) (ks : List ℕ) (limit : ℕ) (h : B → C) (first : Deep T A) (r : Deep T B) where
  chain_last : (make : A → List C → A) (o : A × ℕ) (all : List B) (e : ℕ) (ts : List T) → chained limit make o (map h all, e) ts ≡ chained limit (λ a bs. make a (map h bs)) o (all, e) ts
  chain_last make o [] e ts = refl
  chain_last make o (b ∷ bs) e ts = refl

  chain_more : (make : A → List C → A) (o : A × ℕ) (more : Read T (List B × ℕ))
      → and_then {A = List C × ℕ} {B = A × ℕ} (and_then {A = List B × ℕ} {B = List C × ℕ} more (λ p us. Some ((map h p.0, p.1), us))) (λ bs vs. chained limit make o bs vs)
      ≡ and_then {A = List B × ℕ} {B = A × ℕ} more (λ bs vs. chained limit (λ a cs. make a (map h cs)) o bs vs)
  chain_more make o None = refl
  chain_more make o (Some p) = chain_last make o p.0.0 p.0.1 p.1

  chain_first : (make : A → List C → A) (read : Read T (A × ℕ))
      → and_then {A = A × ℕ} {B = A × ℕ} read (λ a us. and_then {A = List C × ℕ} {B = A × ℕ} (deep_many code ks (deep_map h r) us) (λ bs vs. chained limit make a bs vs))
      ≡ and_then {A = A × ℕ} {B = A × ℕ} read (λ a us. and_then {A = List B × ℕ} {B = A × ℕ} (deep_many code ks r us) (λ bs vs. chained limit (λ c cs. make c (map h cs)) a bs vs))
  chain_first make None = refl
  chain_first make (Some p) = rw (deep_from_mapped code ks h r (length p.1) p.1) (chain_more make p.0 (deep_many code ks r p.1))

  pub chain_mapped : (make : A → List C → A) (ts : List T) → chain_at code ks limit make first (deep_map h r) ts ≡ chain_at code ks limit (λ a bs. make a (map h bs)) first r ts
  chain_mapped make ts = chain_first make (first ts)

  -- at most one part after the first
  abbrev single : (A → List C → A) → Deep T A
  single make ts = and_then (first ts) (λ a us. and_then (deep_from code ks (deep_map h r) 1 us) (λ bs vs. chained limit make a bs vs))

  single_more : (make : A → List C → A) (o : A × ℕ) (read : Read T (B × ℕ))
      → and_then {A = List C × ℕ} {B = A × ℕ} (and_then {A = C × ℕ} {B = List C × ℕ} (and_then {A = B × ℕ} {B = C × ℕ} read (λ p us. Some ((h p.0, p.1), us))) (λ a us. and_then {A = List C × ℕ} {B = List C × ℕ} (deep_from code ks (deep_map h r) 0 us) (λ more vs. Some (joined a more, vs)))) (λ bs vs. chained limit make o bs vs)
      ≡ and_then {A = B × ℕ} {B = A × ℕ} read (λ b vs. and_then {A = A × ℕ} {B = A × ℕ} (level limit o.0 o.1 vs) (λ p ws. Some (above (λ a c. make a (h c ∷ [])) p b, ws)))
  unfolding deep_from
  single_more make o None = refl
  single_more make o (Some p) = rw (max_zero p.0.1) refl

  single_step : (make : A → List C → A) (o : A × ℕ) (us : List T) (b : Bool)
      → and_then {A = List C × ℕ} {B = A × ℕ} (if b then and_then {A = C × ℕ} {B = List C × ℕ} (deep_map h r us) (λ a vs. and_then {A = List C × ℕ} {B = List C × ℕ} (deep_from code ks (deep_map h r) 0 vs) (λ more ws. Some (joined a more, ws))) else Some (([], 0), us)) (λ bs vs. chained limit make o bs vs)
      ≡ (if b then and_then {A = B × ℕ} {B = A × ℕ} (r us) (λ b vs. and_then {A = A × ℕ} {B = A × ℕ} (level limit o.0 o.1 vs) (λ p ws. Some (above (λ a c. make a (h c ∷ [])) p b, ws))) else Some (o, us))
  single_step make o us false = refl
  single_step make o us true = single_more make o (r us)

  single_first : (make : A → List C → A) (read : Read T (A × ℕ))
      → and_then {A = A × ℕ} {B = A × ℕ} read (λ a us. and_then {A = List C × ℕ} {B = A × ℕ} (deep_from code ks (deep_map h r) 1 us) (λ bs vs. chained limit make a bs vs))
      ≡ and_then {A = A × ℕ} {B = A × ℕ} read (λ a us. if starts code ks us then and_then {A = B × ℕ} {B = A × ℕ} (r us) (λ b vs. and_then {A = A × ℕ} {B = A × ℕ} (level limit a.0 a.1 vs) (λ p ws. Some (above (λ c d. make c (h d ∷ [])) p b, ws))) else Some (a, us))
  unfolding deep_from
  single_first make None = refl
  single_first make (Some p) = single_step make p.0 p.1 (starts code ks p.1)

  pub single_mapped : (make : A → List C → A) (ts : List T) → single make ts ≡ suffix_at code ks limit (λ a b. make a (h b ∷ [])) first r ts
  single_mapped make ts = single_first make (first ts)
