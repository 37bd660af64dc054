-- The place of a declaration among those of all components: those of earlier components come first, and then those that its
-- component declares before it.
use Rattle.std.proofs.Common.{◌≡◌, ℕ, zero, suc, ◌+◌, ◌<◌, ◌≤◌, Bool, true, false, cond, List, [], ◌∷◌, ◌++◌, length, length-append, map, take, Some, refl, ◌∙◌, ap, arith}
use Rattle.std.specs.Prelude.{◌&&◌, not, flat_map, filter, slice_get}
use Rattle.std.specs.List.{position_or_len}
use Rattle.std.proofs.lemmas.Cmp.{nat_list_eq_equiv}
use Rattle.std.proofs.lemmas.List.Elements.{filter-append}
use Rattle.cif_system.proofs.Lists.{some-same, none-some}
use Rattle.cif_source.specs.Source.{Text, DeclTree}
use Rattle.cif_source.specs.Components.{Component, Path, path_of, same_path}
use Rattle.cif_source.specs.Objects.{decls_of, declares, is_declared, Declared}
use Rattle.cif_inst_model.proofs.NumberLaws.{kept-own, sort-kept}
use Rattle.cif_inst_model.proofs.PathLaws.{path-told}
use Rattle.cif_inst_numbers.proofs.Ranks.{false-otherwise}

path-self : (p : Path) → same_path p p ≡ true
path-self [] = refl
path-self (x ∷ p) = ap (λ b. b && same_path p p) (nat_list_eq_equiv.refl x) ∙ path-self p

-- among these components, d stands at k, and no other has its path
abbrev pub StandsAlone : List Component → ℕ → Component → Type 0
StandsAlone cs k d = (j : ℕ) (c : Component) → slice_get cs j ≡ Some c → path_of c ≡ path_of d → j ≡ k

alone-rest : (c : Component) (cs : List Component) (k : ℕ) (d : Component) → StandsAlone (c ∷ cs) (suc k) d → StandsAlone cs k d
alone-rest c cs k d alone j e at same = let more : suc j ≡ suc k = alone (suc j) e at same in omega (arith, more)

-- one before it has another path
alone-first : (c : Component) (cs : List Component) (k : ℕ) (d : Component) → StandsAlone (c ∷ cs) (suc k) d → same_path (path_of c) (path_of d) ≡ false
alone-first c cs k d alone =
    false-otherwise (same_path (path_of c) (path_of d)) (λ h. let none : zero ≡ suc k = alone zero c refl (path-told (path_of c) (path_of d) h) in omega (arith, none))

-- ---- declarations of one sort

module _ (sort : DeclTree → Bool) where
  abbrev own : Component → List Declared
  own c = map (λ d. (c, d)) (filter sort (decls_of c))

  abbrev tagged : Component → List DeclTree → List Declared
  tagged c ds = map (λ d. (c, d)) ds

  abbrev all_declared : List Component → List Declared
  all_declared cs = flat_map (λ c. map (λ d. (c, d)) (decls_of c)) cs

  -- how many these components declare
  abbrev pub declared_count : List Component → ℕ
  declared_count cs = length (filter sort (flat_map decls_of cs))

  pub count-cons : (c : Component) (cs : List Component) → declared_count (c ∷ cs) ≡ length (filter sort (decls_of c)) + declared_count cs
  count-cons c cs = ap length (filter-append sort (decls_of c) (flat_map decls_of cs)) ∙ length-append (filter sort (decls_of c)) (filter sort (flat_map decls_of cs))

  pub count-append : (cs ds : List Component) → declared_count (cs ++ ds) ≡ declared_count cs + declared_count ds
  count-append [] ds = omega arith
  count-append (c ∷ cs) ds = omega (arith, count-cons c (cs ++ ds), count-append cs ds, count-cons c cs)

  pub count-kept : (cs : List Component) → length (filter (λ (d : Declared). sort d.1) (all_declared cs)) ≡ declared_count cs
  count-kept [] = refl
  count-kept (c ∷ cs) =
      ap length (filter-append (λ (d : Declared). sort d.1) (tagged c (decls_of c)) (all_declared cs))
      ∙ length-append (filter (λ (d : Declared). sort d.1) (tagged c (decls_of c))) (filter (λ (d : Declared). sort d.1) (all_declared cs))
      ∙ omega (arith, ap length (kept-own sort c (decls_of c)), long (filter sort (decls_of c)), count-kept cs, count-cons c cs)
    where
      long : (ds : List DeclTree) → length (tagged c ds) ≡ length ds
      long [] = refl
      long (d ∷ ds) = ap suc (long ds)

  pub count-within : (cs : List Component) (k : ℕ) (d : Component) → slice_get cs k ≡ Some d → declared_count (take k cs) + length (filter sort (decls_of d)) ≤ declared_count cs
  count-within [] k d at = absurd (none-some d at)
  count-within (c ∷ cs) zero d at =
      let same : length (filter sort (decls_of c)) ≡ length (filter sort (decls_of d)) = ap (λ (x : Component). length (filter sort (decls_of x))) (some-same c d at) in
      omega (arith, same, count-cons c cs)
  count-within (c ∷ cs) (suc k) d at = omega (arith, count-within cs k d at, count-cons c (take k cs), count-cons c cs)

  here-of : (d : Component) (x : Text) (es : List DeclTree) (rest : List Declared) → position_or_len (declares x) es < length es
      → position_or_len (is_declared d x) (map (λ e. (d, e)) es ++ rest) ≡ position_or_len (declares x) es
  here-of d x [] rest h = absurd (omega (arith, h))
  here-of d x (e ∷ es) rest h =
      (elim (declares x e) as (λ b. cond (not b) (1 + position_or_len (declares x) es) 0 < suc (length es)
      → cond (not (b && same_path (path_of d) (path_of d))) (1 + position_or_len (is_declared d x) (map (λ e. (d, e)) es ++ rest)) 0 ≡ cond (not b) (1 + position_or_len (declares x) es) 0) [
        | true ↦ λ g. ap (λ b. cond (not b) (1 + position_or_len (is_declared d x) (map (λ e. (d, e)) es ++ rest)) 0) (path-self (path_of d))
        | false ↦ λ g. ap (λ z. 1 + z) (here-of d x es rest (omega (arith, g)))
      ]) h

  passed-by : (c d : Component) (x : Text) (es : List DeclTree) (rest : List Declared) → same_path (path_of c) (path_of d) ≡ false
      → position_or_len (is_declared d x) (map (λ e. (c, e)) es ++ rest) ≡ length es + position_or_len (is_declared d x) rest
  passed-by c d x [] rest h = omega arith
  passed-by c d x (e ∷ es) rest h =
      let none : (declares x e && same_path (path_of c) (path_of d)) ≡ false = ap (λ b. declares x e && b) h ∙ and-false (declares x e) in
      ap (λ b. cond (not b) (1 + position_or_len (is_declared d x) (map (λ e. (c, e)) es ++ rest)) 0) none
      ∙ (let more : 1 + position_or_len (is_declared d x) (map (λ e. (c, e)) es ++ rest) ≡ suc (length es) + position_or_len (is_declared d x) rest = omega (arith, passed-by c d x es rest h) in more)
    where
      and-false : (b : Bool) → (b && false) ≡ false
      and-false true = refl
      and-false false = refl

  across : (cs : List Component) (k : ℕ) (d : Component) (x : Text) (r : ℕ) → StandsAlone cs k d → slice_get cs k ≡ Some d → position_or_len (declares x) (filter sort (decls_of d)) ≡ r
      → r < length (filter sort (decls_of d)) → position_or_len (is_declared d x) (flat_map own cs) ≡ declared_count (take k cs) + r
  across [] k d x r alone at here within = absurd (none-some d at)
  across (c ∷ cs) zero d x r alone at here within =
      ap (λ y. position_or_len (is_declared d x) (own y ++ flat_map own cs)) (some-same c d at)
      ∙ here-of d x (filter sort (decls_of d)) (flat_map own cs) (omega (arith, here, within))
      ∙ (let all : position_or_len (declares x) (filter sort (decls_of d)) ≡ 0 + r = omega (arith, here) in all)
  across (c ∷ cs) (suc k) d x r alone at here within =
      passed-by c d x (filter sort (decls_of c)) (flat_map own cs) (alone-first c cs k d alone)
      ∙ (let more : length (filter sort (decls_of c)) + position_or_len (is_declared d x) (flat_map own cs) ≡ declared_count (c ∷ take k cs) + r = omega (arith, across cs k d x r (alone-rest c cs k d alone) at here within, count-cons c (take k cs)) in more)

  pub stands-at : (cs : List Component) (k : ℕ) (d : Component) (x : Text) (r : ℕ) → StandsAlone cs k d → slice_get cs k ≡ Some d → position_or_len (declares x) (filter sort (decls_of d)) ≡ r
      → r < length (filter sort (decls_of d)) → position_or_len (is_declared d x) (filter (λ (y : Declared). sort y.1) (all_declared cs)) ≡ declared_count (take k cs) + r
  stands-at cs k d x r alone at here within = ap (position_or_len (is_declared d x)) (sort-kept sort cs) ∙ across cs k d x r alone at here within

-- ---- components that pass a test, such as automata

pub picked-at : (p : Component → Bool) (cs : List Component) (k : ℕ) (d : Component) → StandsAlone cs k d → slice_get cs k ≡ Some d → p d ≡ true
    → position_or_len (λ a. same_path (path_of a) (path_of d)) (filter p cs) ≡ length (filter p (take k cs))
picked-at p [] k d alone at is = absurd (none-some d at)
picked-at p (c ∷ cs) zero d alone at is =
    let same : c ≡ d = some-same c d at in
    ap (λ b. position_or_len (λ a. same_path (path_of a) (path_of d)) (cond b (c ∷ filter p cs) (filter p cs))) (ap p same ∙ is)
    ∙ ap (λ b. cond (not b) (1 + position_or_len (λ a. same_path (path_of a) (path_of d)) (filter p cs)) 0) (ap (λ a. same_path (path_of a) (path_of d)) same ∙ path-self (path_of d))
picked-at p (c ∷ cs) (suc k) d alone at is =
    let rest = picked-at p cs k d (alone-rest c cs k d alone) at is in
    elim (p c) as (λ b. position_or_len (λ a. same_path (path_of a) (path_of d)) (cond b (c ∷ filter p cs) (filter p cs)) ≡ length (cond b (c ∷ filter p (take k cs)) (filter p (take k cs)))) [
      | true ↦ ap (λ b. cond (not b) (1 + position_or_len (λ a. same_path (path_of a) (path_of d)) (filter p cs)) 0) (alone-first c cs k d alone)
          ∙ (let more : 1 + position_or_len (λ a. same_path (path_of a) (path_of d)) (filter p cs) ≡ suc (length (filter p (take k cs))) = omega (arith, rest) in more)
      | false ↦ rest
    ]
