-- The two events of a plant of a made source have different numbers.
use Rattle.std.proofs.Common.{◌≡◌, ℕ, zero, suc, ◌+◌, ◌≤◌, ◌<◌, ◌⊎◌, Bool, true, false, not, cond, List, [], ◌∷◌, ◌++◌, Option, Some, refl, sym, ap, subst, ◌∙◌, arith, codes, inl, inr}
use Rattle.std.specs.Prelude.{flat_map, decimal}
use Rattle.std.specs.List.{range_with_len, position_or_len}
use Rattle.grammar.specs.Pieces.{Text}
use Rattle.grammar.proofs.Texts.{and_left, same_is, same_equal}
use Rattle.cif_ast.specs.declared.names.Name.{Name}
use Rattle.cif_system.specs.Words.{Member}
use Rattle.cif_source.specs.Source.{DeclTree}
use Rattle.cif_source.specs.Components.{whole, Entries, decl_entries, same_text, path_of, same_path}
use Rattle.cif_source.specs.Lookup.{denotes}
use Rattle.cif_source.specs.Objects.{Declared, events, declares, is_declared, number_in}
use Rattle.cif_source.specs.Step.{event_at}
use Rattle.cif_source.proofs.NameLaws.{denotes-found}
use Rattle.cif_maker.specs.MadeText.{numbered}
use Rattle.cif_maker_laws.specs.MadeTree.{name_at}
use Rattle.cif_maker_laws.proofs.Bodies.{made, at_of, need_at_of, plant_of}
use Rattle.cif_maker_laws.proofs.Lookups.{IsShort, same_number, uncontrollable_entry, controllable_entry}
use Rattle.cif_maker_laws.proofs.Names.{u_found, c_found, c_found_above}
use Rattle.cif_maker_laws.proofs.DeclaredOnce.{other_first}
use Rattle.cif_maker_laws.proofs.MadeDeclarations.{u_decl, event_pair, made_events}

-- ---- lists

pub member_left : {A : Type 0} (x : A) (xs ys : List A) → Member x xs → Member x (xs ++ ys)
member_left x [] ys h = absurd h
member_left x (y ∷ xs) ys (inl e) = inl e
member_left x (y ∷ xs) ys (inr h) = inr (member_left x xs ys h)

pub member_right : {A : Type 0} (x : A) (xs ys : List A) → Member x ys → Member x (xs ++ ys)
member_right x [] ys h = h
member_right x (y ∷ xs) ys h = inr (member_right x xs ys h)

nat_cases : (a i : ℕ) → a ≤ i → (a ≡ i) ⊎ (a < i)
nat_cases a i l = grind arith

-- of what stands for a number in a range
pub member_of_range : {A : Type 0} (f : ℕ → List A) (x : A) (i : ℕ) → Member x (f i) → (a n : ℕ) → a ≤ i → i < a + n → Member x (flat_map f (range_with_len a n))
member_of_range f x i m a zero l u = absurd (omega arith)
member_of_range f x i m a (suc n) l u = elim (nat_cases a i l) [
  | inl e ↦ member_left x (f a) (flat_map f (range_with_len (a + 1) n)) (subst (λ k. Member x (f k)) (sym e) m)
  | inr h ↦ member_right x (f a) (flat_map f (range_with_len (a + 1) n)) (member_of_range f x i m (a + 1) n (omega arith) (omega arith))
]

-- ---- first places

place_step : {A : Type 0} (p : A → Bool) (y : A) (ys : List A) (b : Bool) → p y ≡ b → position_or_len p (y ∷ ys) ≡ cond (not b) (1 + position_or_len p ys) 0
place_step p y ys b e = ap (λ b. cond (not b) (1 + position_or_len p ys) 0) e

-- two tests that no element passes both, one of which is passed
places_apart : {A : Type 0} (p q : A → Bool) → ((y : A) → p y ≡ true → q y ≡ true → ⊥) → (xs : List A) (x : A) → Member x xs → p x ≡ true → position_or_len p xs ≡ position_or_len q xs → ⊥
places_apart p q both [] x m e h = m
places_apart p q both (y ∷ ys) x m e h = go (places_apart p q both ys x) (p y) refl (q y) refl
  where
    go : (Member x ys → p x ≡ true → position_or_len p ys ≡ position_or_len q ys → ⊥) → (a : Bool) → p y ≡ a → (b : Bool) → q y ≡ b → ⊥
    go more true a true b = both y a b
    go more true a false b = let w : 0 ≡ 1 + position_or_len q ys = sym (place_step p y ys true a) ∙ h ∙ place_step q y ys false b in omega arith
    go more false a true b = let w : 1 + position_or_len p ys ≡ 0 = sym (place_step p y ys false a) ∙ h ∙ place_step q y ys true b in omega arith
    go more false a false b =
        let w : 1 + position_or_len p ys ≡ 1 + position_or_len q ys = sym (place_step p y ys false a) ∙ h ∙ place_step q y ys false b in
        elim m [
          | inl s ↦ (let v : false ≡ true = sym a ∙ ap p (sym s) ∙ e in cc)
          | inr s ↦ more s e (omega arith)
        ]

-- ---- declared names

-- a declaration declares one name
one_name : (d : DeclTree) (x y : Text) → declares x d ≡ true → declares y d ≡ true → x ≡ y
one_name d x y = go (decl_entries d)
  where
    equal : (s t : Text) → same_text s t ≡ true → s ≡ t
    equal s t e = same_equal s t (sym (same_is s t) ∙ e)

    go : (es : Entries) → (elim es [ [] ↦ false | e ∷ es ↦ same_text e.0.text x ]) ≡ true → (elim es [ [] ↦ false | e ∷ es ↦ same_text e.0.text y ]) ≡ true → x ≡ y
    go [] a b = absurd (let w : false ≡ true = a in cc)
    go (e ∷ es) a b = sym (equal e.0.text x a) ∙ equal e.0.text y b

module _ (seed size : ℕ) where
  abbrev pub u_number : ℕ → ℕ
  u_number i = number_in (events (made seed size)) (whole (made seed size)) (numbered (codes "u") i)

  abbrev pub c_number : ℕ → ℕ
  c_number i = number_in (events (made seed size)) (whole (made seed size)) (numbered (codes "c") i)

  abbrev here : Text → Declared → Bool
  here x d = is_declared (whole (made seed size)) x d

  not_both : (i : ℕ) (d : Declared) → here (numbered (codes "u") i) d ≡ true → here (numbered (codes "c") i) d ≡ true → ⊥
  not_both i d a b =
      let there : Bool = same_path (path_of d.0) (path_of (whole (made seed size))) in
      other_first 117 99 (decimal i) (decimal i) (λ w. omega arith)
      (one_name d.1 (numbered (codes "u") i) (numbered (codes "c") i) (and_left (declares (numbered (codes "u") i) d.1) there a) (and_left (declares (numbered (codes "c") i) d.1) there b))

  u_is_here : (i : ℕ) → here (numbered (codes "u") i) (whole (made seed size), u_decl seed size i) ≡ true
  u_is_here i = rw (same_number i) refl

  pub numbers_apart : (i : ℕ) → i < size → u_number i ≡ c_number i → ⊥
  numbers_apart i l =
      places_apart (here (numbered (codes "u") i)) (here (numbered (codes "c") i)) (not_both i) (events (made seed size)) (whole (made seed size), u_decl seed size i)
      (subst (Member (whole (made seed size), u_decl seed size i)) (sym (made_events seed size))
      (member_of_range (event_pair seed size) (whole (made seed size), u_decl seed size i) i (inl refl) 0 size (omega arith) (omega arith)))
      (u_is_here i)

  -- ---- the events that names denote

  -- of the edges of plant i
  abbrev pub u_event : ℕ → Option ℕ
  u_event i = event_at (denotes (plant_of seed size i) (name_at (numbered (codes "u") i) (at_of seed size i 19)))

  abbrev pub c_event : ℕ → Option ℕ
  c_event i = event_at (denotes (plant_of seed size i) (name_at (numbered (codes "c") i) (at_of seed size i 37)))

  module _ (short : IsShort size) where
    pub u_denoted : (i : ℕ) → i < size → u_event i ≡ Some (u_number i)
    u_denoted i l =
        let name : Name = name_at (numbered (codes "u") i) (at_of seed size i 19) in
        ap event_at (denotes-found (plant_of seed size i) name (whole (made seed size), uncontrollable_entry seed size i) (u_found seed size short i (at_of seed size i 19) l) refl)

    pub c_denoted : (i : ℕ) → i < size → c_event i ≡ Some (c_number i)
    c_denoted i l =
        let name : Name = name_at (numbered (codes "c") i) (at_of seed size i 37) in
        ap event_at (denotes-found (plant_of seed size i) name (whole (made seed size), controllable_entry seed size i) (c_found seed size short i (at_of seed size i 37) l) refl)

    -- of the second line of block i
    pub c_denoted_above : (i : ℕ) → i < size → event_at (denotes (whole (made seed size)) (name_at (numbered (codes "c") i) (need_at_of seed size i 1))) ≡ Some (c_number i)
    c_denoted_above i l =
        let name : Name = name_at (numbered (codes "c") i) (need_at_of seed size i 1) in
        ap event_at (denotes-found (whole (made seed size)) name (whole (made seed size), controllable_entry seed size i) (c_found_above seed size short i (need_at_of seed size i 1) l) refl)
