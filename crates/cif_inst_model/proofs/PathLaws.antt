-- Where no scope of a component declares a name twice, components have different paths, and so have algebraic variables.
use Rattle.std.proofs.Common.{◌≡◌, Bool, true, false, inl, inr, List, [], ◌∷◌, ◌++◌, map, Some, refl, sym, ◌∙◌, ap, subst}
use Rattle.std.specs.Prelude.{flat_map}
use Rattle.std.specs.List.{list_any}
use Rattle.std.specs.Cmp.Lexicographic as words
use Rattle.std.proofs.lemmas.Cmp.{nat_list_eq_equiv}
use Rattle.cif_ast.specs.declared.names.Ident.{Ident}
use Rattle.cif_system.specs.Words.{Member}
use Rattle.cif_system.proofs.Lists.{some-same, none-some, false-true}
use Rattle.cif_system.proofs.Picks.{and-left, and-right, append-left, append-right}
use Rattle.cif_source.specs.Source.{Text}
use Rattle.cif_source.specs.Components.{Component, whole, part, blank, copy, stands_in, Path, path_of, same_text, same_path, Entry, Entries}
use Rattle.cif_source.proofs.ComponentLaws.{append-cases}
use Rattle.cif_inst_model.proofs.KeptLaws.{has_twice, or-left, or-right, member-passes}

-- ---- names of a list

abbrev pub names : Entries → List Ident
names es = map (λ (e : Ident × Entry). e.0) es

pub names-append : (xs ys : Entries) → names (xs ++ ys) ≡ names xs ++ names ys
names-append [] ys = refl
names-append (x ∷ xs) ys = ap (λ ns. x.0 ∷ ns) (names-append xs ys)

any-right : {A : Type 0} (p : A → Bool) (xs ys : List A) → list_any p ys ≡ true → list_any p (xs ++ ys) ≡ true
any-right p [] ys h = h
any-right p (x ∷ xs) ys h = or-right (p x) (list_any p (xs ++ ys)) (any-right p xs ys h)

twice-right : (xs ys : List Ident) → has_twice ys ≡ true → has_twice (xs ++ ys) ≡ true
twice-right [] ys h = h
twice-right (x ∷ xs) ys h = or-right (list_any (λ (y : Ident). same_text x.text y.text) (xs ++ ys)) (has_twice (xs ++ ys)) (twice-right xs ys h)

twice-across : (xs ys : List Ident) (m k : Ident) → Member m xs → Member k ys → m.text ≡ k.text → has_twice (xs ++ ys) ≡ true
twice-across [] ys m k i j h = absurd i
twice-across (x ∷ xs) ys m k i j h =
    elim i [
      | inl w ↦
          let same : same_text x.text k.text ≡ true = ap (same_text x.text) (sym h ∙ ap (λ (v : Ident). v.text) w) ∙ nat_list_eq_equiv.refl x.text in
          or-left _ _ (any-right (λ (y : Ident). same_text x.text y.text) xs ys (member-passes (λ (y : Ident). same_text x.text y.text) ys k j same))
      | inr w ↦ or-right (list_any (λ (y : Ident). same_text x.text y.text) (xs ++ ys)) (has_twice (xs ++ ys)) (twice-across xs ys m k w j h)
    ]

pub not-twice-right : (xs ys : List Ident) → has_twice (xs ++ ys) ≡ false → has_twice ys ≡ false
not-twice-right xs ys h =
    (elim (has_twice ys) as (λ b. has_twice ys ≡ b → b ≡ false) [
      | true ↦ λ i. absurd (false-true h (twice-right xs ys i))
      | false ↦ λ i. refl
    ]) refl

-- Of the things that a list of declarations gives, each at most one, those with a name have it declared there: so no two
-- have one name.
module _ {A B : Type 0} (entries : A → Entries) (things : A → List B) (Is : B → Type 0) (x : Text)
    (has : (a : A) (b : B) → Member b (things a) → Is b → (m : Ident) × Member m (names (entries a)) × (m.text ≡ x))
    (alone : (a : A) (b c : B) → Member b (things a) → Member c (things a) → b ≡ c) where
  has-some : (xs : List A) (b : B) → Member b (flat_map things xs) → Is b → (m : Ident) × Member m (names (flat_map entries xs)) × (m.text ≡ x)
  has-some [] b k is = absurd k
  has-some (a ∷ xs) b k is =
      elim (append-cases b (things a) (flat_map things xs) k) [
        | inl w ↦ let m = has a b w is in (m.0, subst (Member m.0) (sym (names-append (entries a) (flat_map entries xs))) (append-left m.0 (names (entries a)) (names (flat_map entries xs)) m.1), m.2)
        | inr w ↦ let m = has-some xs b w is in (m.0, subst (Member m.0) (sym (names-append (entries a) (flat_map entries xs))) (append-right m.0 (names (entries a)) (names (flat_map entries xs)) m.1), m.2)
      ]

  pub one-named : (xs : List A) → has_twice (names (flat_map entries xs)) ≡ false → (b c : B) → Member b (flat_map things xs) → Member c (flat_map things xs) → Is b → Is c → b ≡ c
  one-named [] h b c k l is it = absurd k
  one-named (a ∷ xs) h b c k l is it =
      let g : has_twice (names (entries a) ++ names (flat_map entries xs)) ≡ false = ap has_twice (sym (names-append (entries a) (flat_map entries xs))) ∙ h in
      let across : (b c : B) → Member b (things a) → Is b → Member c (flat_map things xs) → Is c → ⊥ = λ b c w is v it.
      let m = has a b w is in
      let n = has-some xs c v it in
      false-true g (twice-across (names (entries a)) (names (flat_map entries xs)) m.0 n.0 m.1 n.1 (m.2 ∙ sym n.2)) in
      elim (append-cases b (things a) (flat_map things xs) k) [
        | inl w ↦ elim (append-cases c (things a) (flat_map things xs) l) [
          | inl v ↦ alone a b c w v
          | inr v ↦ absurd (across b c w is v it)
        ]
        | inr w ↦ elim (append-cases c (things a) (flat_map things xs) l) [
          | inl v ↦ absurd (across c b v it w is)
          | inr v ↦ one-named xs (not-twice-right (names (entries a)) (names (flat_map entries xs)) g) b c w v is it
        ]
      ]

-- ---- paths

-- the last name of its path
abbrev pub last_name : Component → Text
last_name (whole is) = []
last_name (part o n b) = n.text
last_name (blank o n ps b) = n.text
last_name (copy o n ps b g i) = i.name.text

pub path-below : (c p : Component) → stands_in c ≡ Some p → path_of c ≡ path_of p ++ last_name c ∷ []
path-below (whole is) p h = absurd (none-some p h)
path-below (part o n b) p h = ap (λ d. path_of d ++ n.text ∷ []) (some-same o p h)
path-below (blank o n ps b) p h = ap (λ d. path_of d ++ n.text ∷ []) (some-same o p h)
path-below (copy o n ps b g i) p h = ap (λ d. path_of d ++ i.name.text ∷ []) (some-same g p h)

pub path-told : (p q : Path) → same_path p q ≡ true → p ≡ q
path-told [] [] h = refl
path-told [] (y ∷ ys) h = absurd (false-true refl h)
path-told (x ∷ xs) [] h = absurd (false-true refl h)
path-told (x ∷ xs) (y ∷ ys) h = ap (λ z. z ∷ xs) (words.same_text x y (sym (and-left (same_text x y) (same_path xs ys) h))) ∙ ap (λ zs. y ∷ zs) (path-told xs ys (and-right (same_text x y) (same_path xs ys) h))
