-- A type that has a kind is a chain of names of types, each of which passes a declaration of its own: so as many names as there
-- are declarations of components are enough for it, and more change nothing.
use Rattle.std.proofs.Common.{◌≡◌, ℕ, zero, suc, ◌≤◌, ◌<◌, true, ◌⊎◌, inl, inr, List, [], ◌∷◌, length, refl, sym, ◌∙◌, ap, subst, arith}
use Rattle.cif_ast.specs.declared.names.Ident.{Ident}
use Rattle.cif_ast.specs.declared.names.Name.{Name}
use Rattle.cif_system.specs.Words.{Member, AreDistinct}
use Rattle.cif_system.proofs.Lists.{false-true}
use Rattle.cif_source.specs.Source.{TypeTree, bool_type, int_type, range_type, named_type, type_decl, enum_decl, Source}
use Rattle.cif_source.specs.Components.{Component, declared}
use Rattle.cif_source.specs.Lookup.{Reached, reached, missing, blocked, found}
use Rattle.cif_source.specs.Objects.{components_of, most_objects, Declared, declarations}
use Rattle.cif_source.proofs.ReachLaws.{found-listed}
use Rattle.cif_source.specs.Kinds.{Kind, no_kind, type_kind_at, type_kind_within}
use Rattle.cif_inst_model.proofs.FoundLaws.{declaration-listed}
use Rattle.cif_inst_model.proofs.RuleLaws.{within-or-past}
use Rattle.cif_inst_bodies.specs.Entries.{IsOf}
use Rattle.cif_inst_bodies.proofs.Bodies.{found-good, components-written}
use Rattle.cif_inst_laws.proofs.ExprLaws.{is_valued}

-- ---- lists

-- the list without one of its elements
record Rest {A : Type 0} (x : A) (ys : List A) : Type 0 where
  others : List A
  one_fewer : suc (length others) ≡ length ys
  within : (y : A) → Member y ys → (y ≡ x) ⊎ Member y others

rest : {A : Type 0} (x : A) (ys : List A) → Member x ys → Rest x ys
rest x [] m = absurd m
rest x (y ∷ ys) m =
    elim m [
      | inl w ↦ record { others = ys; one_fewer = refl; within = λ z k. elim k [ inl v ↦ inl (v ∙ sym w) | inr v ↦ inr v ] }
      | inr w ↦
          let r = rest x ys w in
          record {
            others = y ∷ r.others;
            one_fewer = ap suc r.one_fewer;
            within = λ z k. elim k [ inl v ↦ inr (inl v) | inr v ↦ elim (r.within z v) [ inl u ↦ inl u | inr u ↦ inr (inr u) ] ];
          }
    ]

-- different elements of a list are no more than its elements
distinct-fewer : {A : Type 0} (xs ys : List A) → AreDistinct xs → ((x : A) → Member x xs → Member x ys) → length xs ≤ length ys
distinct-fewer [] ys d h = omega arith
distinct-fewer (x ∷ xs) ys d h =
    let r = rest x ys (h x (inl refl)) in
    let fewer : length xs ≤ length r.others =
    distinct-fewer xs r.others d.1 (λ y m. elim (r.within y (h y (inr m))) [ inl w ↦ absurd (d.0 (subst (λ z. Member z xs) w m)) | inr w ↦ w ]) in
    omega (arith, fewer, r.one_fewer)

-- ---- one name more

abbrev HasKind : ℕ → Component → TypeTree → Type 0
HasKind n c x = is_valued (type_kind_within n c x) ≡ true

at-same : (f g : Component → TypeTree → Kind) (r : Reached) → ((d : Component) (y : TypeTree) → is_valued (f d y) ≡ true → g d y ≡ f d y) → is_valued (type_kind_at f r) ≡ true → type_kind_at g r ≡ type_kind_at f r
at-same f g (reached (d, declared (type_decl i y))) same v = same d y v
at-same f g (reached (d, declared (enum_decl i ls))) same v = refl
at-same f g (reached (d, _)) same v = cc
at-same f g missing same v = absurd (false-true refl v)
at-same f g blocked same v = absurd (false-true refl v)

one-more : (n : ℕ) (c : Component) (x : TypeTree) → HasKind n c x → type_kind_within (suc n) c x ≡ type_kind_within n c x
one-more zero c bool_type v = refl
one-more zero c int_type v = refl
one-more zero c (range_type lower upper) v = refl
one-more zero c (named_type nm) v = at-same (λ d y. no_kind) (type_kind_within zero) (found c nm) (λ d y w. absurd (false-true refl w)) v
one-more (suc n) c bool_type v = refl
one-more (suc n) c int_type v = refl
one-more (suc n) c (range_type lower upper) v = refl
one-more (suc n) c (named_type nm) v = at-same (type_kind_within n) (type_kind_within (suc n)) (found c nm) (one-more n) v

-- with more names than are enough
enough : (n m : ℕ) (c : Component) (x : TypeTree) → HasKind n c x → n ≤ m → type_kind_within m c x ≡ type_kind_within n c x
enough n zero c x v le = let none : 0 ≡ n = omega (arith, le) in ap (λ k. type_kind_within k c x) none
enough n (suc m) c x v le =
    elim (within-or-past n m) [
      | inl w ↦ let same : type_kind_within m c x ≡ type_kind_within n c x = enough n m c x v w in one-more m c x (ap is_valued same ∙ v) ∙ same
      | inr w ↦ let all : suc m ≡ n = omega (arith, w, le) in ap (λ k. type_kind_within k c x) all
    ]

-- ---- chains

module _ (t : Source) (few : length (components_of t) ≤ most_objects) where
  abbrev Listed : Component → Type 0
  Listed c = Member c (components_of t)

  -- a type of a declaration, which has a kind through fewer than so many names
  abbrev IsEarlier : ℕ → Declared → Type 0
  IsEarlier n d = (i : Ident) × (y : TypeTree) × (k : ℕ) × (d.1 ≡ type_decl i y) × (k < n) × HasKind k d.0 y

  -- the least number of names through which the type has a kind, and the declarations that they pass
  record Chain (c : Component) (x : TypeTree) : Type 0 where
    count : ℕ
    has_kind : HasKind count c x
    is_least : (k : ℕ) → HasKind k c x → count ≤ k
    passed : List Declared
    as_many : length passed ≡ count
    are_distinct : AreDistinct passed
    are_declared : (d : Declared) → Member d passed → Member d (declarations t)
    are_earlier : (d : Declared) → Member d passed → IsEarlier count d

  no-names : (c : Component) (x : TypeTree) → HasKind zero c x → Chain c x
  no-names c x v = record {
    count = 0;
    has_kind = v;
    is_least = λ k w. omega arith;
    passed = [];
    as_many = refl;
    are_distinct = tt;
    are_declared = λ d m. absurd m;
    are_earlier = λ d m. absurd m;
  }

  abbrev type_of : TypeTree → Declared → TypeTree
  type_of x (c, type_decl i y) = y
  type_of x _ = x

  not-passed : (c : Component) (i : Ident) (x : TypeTree) (r : Chain c x) → Member (c, type_decl i x) r.passed → ⊥
  not-passed c i x r m =
      let e = r.are_earlier (c, type_decl i x) m in
      let same : e.1 ≡ x = ap (λ d. type_of x (c, d)) (sym e.3) in
      let least : r.count ≤ e.2 = r.is_least e.2 (subst (HasKind e.2 c) same e.5) in
      omega (arith, e.4, least)

  -- a name that leads to a declared type
  through : (c : Component) (nm : Name) (d : Component) (i : Ident) (x : TypeTree) → found c nm ≡ reached (d, declared (type_decl i x)) → Member (d, type_decl i x) (declarations t) → Chain d x → Chain c (named_type nm)
  through c nm d i x h m r = record {
    count = suc r.count;
    has_kind = ap (λ q. is_valued (type_kind_at (type_kind_within r.count) q)) h ∙ r.has_kind;
    is_least = least;
    passed = (d, type_decl i x) ∷ r.passed;
    as_many = ap suc r.as_many;
    are_distinct = (not-passed d i x r, r.are_distinct);
    are_declared = λ e k. elim k [ inl w ↦ subst (λ z. Member z (declarations t)) (sym w) m | inr w ↦ r.are_declared e w ];
    are_earlier = λ e k. elim k [
      | inl w ↦ subst (IsEarlier (suc r.count)) (sym w) (i, x, r.count, refl, omega arith, r.has_kind)
      | inr w ↦ let y = r.are_earlier e w in (y.0, y.1, y.2, y.3, omega (arith, y.4), y.5)
    ];
  }
    where
      least : (k : ℕ) → HasKind k c (named_type nm) → suc r.count ≤ k
      least zero v = absurd (false-true refl (ap (λ q. is_valued (type_kind_at (λ d y. no_kind) q)) (sym h) ∙ v))
      least (suc k) v = let le : r.count ≤ k = r.is_least k (ap (λ q. is_valued (type_kind_at (type_kind_within k) q)) (sym h) ∙ v) in omega (arith, le)

  -- a name, where the types that it may lead to have their chains
  name-chain : (n : ℕ) → ((d : Component) → Listed d → (x : TypeTree) → HasKind n d x → Chain d x) → (c : Component) → Listed c → (nm : Name) (r : Reached) → found c nm ≡ r
      → is_valued (type_kind_at (type_kind_within n) r) ≡ true → Chain c (named_type nm)
  name-chain n chains c l nm (reached (d, declared (type_decl i x))) h v =
      let home : Listed d = found-listed t few c l nm (d, declared (type_decl i x)) h in
      let own : IsOf d (declared (type_decl i x)) = (found-good t c (components-written t c l) nm (d, declared (type_decl i x)) h).1 in
      through c nm d i x h (declaration-listed t few d (type_decl i x) home own) (chains d home x v)
  name-chain n chains c l nm (reached (d, declared (enum_decl i ls))) h v = no-names c (named_type nm) (ap (λ q. is_valued (type_kind_at (λ d y. no_kind) q)) h)
  name-chain n chains c l nm (reached (d, _)) h v = cc
  name-chain n chains c l nm missing h v = absurd (false-true refl v)
  name-chain n chains c l nm blocked h v = absurd (false-true refl v)

  chain : (n : ℕ) (c : Component) → Listed c → (x : TypeTree) → HasKind n c x → Chain c x
  chain n c l bool_type v = no-names c bool_type refl
  chain n c l int_type v = no-names c int_type refl
  chain n c l (range_type lower upper) v = no-names c (range_type lower upper) refl
  chain zero c l (named_type nm) v = no-names c (named_type nm) v
  chain (suc n) c l (named_type nm) v = name-chain n (chain n) c l nm (found c nm) refl v

  -- as many names as declarations are enough
  pub kind-within : (n : ℕ) (c : Component) → Listed c → (x : TypeTree) → is_valued (type_kind_within n c x) ≡ true → type_kind_within (length (declarations t)) c x ≡ type_kind_within n c x
  kind-within n c l x v =
      let r = chain n c l x v in
      let fits : length r.passed ≤ length (declarations t) = distinct-fewer r.passed (declarations t) r.are_distinct r.are_declared in
      enough r.count (length (declarations t)) c x r.has_kind (omega (arith, fits, r.as_many)) ∙ sym (enough r.count n c x r.has_kind (r.is_least n v))
