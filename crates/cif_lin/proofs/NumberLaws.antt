-- The numbers below the count give all of a product in order.
use Rattle.std.proofs.Common.{◌≡◌, ℕ, zero, suc, ◌+◌, ◌*◌, ◌/◌, ◌%◌, ◌<◌, List, [], ◌∷◌, ◌++◌, length, map, flat_map, Some, None, slice_get, refl, sym, ◌∙◌, ap, subst, arith}
use Rattle.std.specs.List.{range_with_len}
use Rattle.std.proofs.lemmas.Nat.{div-mul-add, mod-mul-add}
use Rattle.std.proofs.Math.Nat.{suc-mul}
use Rattle.cif_system.specs.Choices.{product_of, product_by}
use Rattle.cif_lin.specs.Numbers.{put, nth}

module _ {A : Type 0} where
  range-two : (f : ℕ → List A) (i m k : ℕ) → map f (range_with_len i (m + k)) ≡ map f (range_with_len i m) ++ map f (range_with_len (i + m) k)
  range-two f i zero k = let e : 0 + k ≡ k = omega arith in let g : i ≡ i + 0 = omega arith in ap (λ n. map f (range_with_len i n)) e ∙ ap (λ j. map f (range_with_len j k)) g
  range-two f i (suc m) k =
      let e : suc m + k ≡ suc (m + k) = omega arith in
      let g : i + 1 + m ≡ i + suc m = omega arith in
      ap (λ n. map f (range_with_len i n)) e ∙ ap (λ l. f i ∷ l) (range-two f (i + 1) m k) ∙ ap (λ j. f i ∷ (map f (range_with_len (i + 1) m) ++ map f (range_with_len j k))) g

  range-same : (f g : ℕ → List A) (i j m : ℕ) → ((u : ℕ) → u < m → f (i + u) ≡ g (j + u)) → map f (range_with_len i m) ≡ map g (range_with_len j m)
  range-same f g i j zero h = refl
  range-same f g i j (suc m) h =
      let a : i + 0 ≡ i = omega arith in
      let b : j + 0 ≡ j = omega arith in
      let first : f i ≡ g j = ap f (sym a) ∙ h 0 (omega arith) ∙ ap g b in
      let later : (u : ℕ) → u < m → f (i + 1 + u) ≡ g (j + 1 + u) = λ u l.
      let c : i + 1 + u ≡ i + suc u = omega arith in
      let d : j + suc u ≡ j + 1 + u = omega arith in
      ap f c ∙ h (suc u) (omega arith) ∙ ap g d in
      ap (λ x. x ∷ map f (range_with_len (i + 1) m)) first ∙ ap (λ xs. g j ∷ xs) (range-same f g (i + 1) (j + 1) m later)

  map-range : (f : List A → List A) (g : ℕ → List A) (i m : ℕ) → map (λ u. f (g u)) (range_with_len i m) ≡ map f (map g (range_with_len i m))
  map-range f g i zero = refl
  map-range f g i (suc m) = ap (λ l. f (g i) ∷ l) (map-range f g (i + 1) m)

  -- those with the element at q, and then those with the later ones
  blocks : (all : List A) (xss : List (List A)) (q : ℕ) (ys : List A)
      → map (nth xss) (range_with_len 0 (product_by length xss)) ≡ product_of xss
      → ((i : ℕ) (y : A) → slice_get ys i ≡ Some y → slice_get all (q + i) ≡ Some y)
      → map (nth (all ∷ xss)) (range_with_len (q * product_by length xss) (length ys * product_by length xss)) ≡ flat_map (λ x. map (λ zs. x ∷ zs) (product_of xss)) ys
  blocks all xss q [] h at = let e : 0 * product_by length xss ≡ 0 = omega arith in ap (λ n. map (nth (all ∷ xss)) (range_with_len (q * product_by length xss) n)) e
  blocks all xss q (y ∷ ys) h at =
      let r : ℕ = product_by length xss in
      let e : suc (length ys) * r ≡ r + length ys * r = omega (arith, suc-mul (length ys) r) in
      let here : slice_get all q ≡ Some y = let m : q + 0 ≡ q = omega arith in subst (λ j. slice_get all j ≡ Some y) m (at 0 y refl) in
      let one : (u : ℕ) → u < r → nth (all ∷ xss) (q * r + u) ≡ y ∷ nth xss (0 + u) = λ u l.
      let d : (q * r + u) / r ≡ q = div-mul-add q r u l in
      let s : (q * r + u) % r ≡ u = mod-mul-add q r u l in
      let z : u ≡ 0 + u = omega arith in
      ap (λ c. put all c (nth xss ((q * r + u) % r))) d
      ∙ ap (λ c. put all q (nth xss c)) (s ∙ z)
      ∙ ap (λ o. elim o [ None ↦ nth xss (0 + u) | Some x ↦ x ∷ nth xss (0 + u) ]) here in
      let n : q * r + r ≡ (q + 1) * r = omega (arith, suc-mul q r) in
      ap (λ n. map (nth (all ∷ xss)) (range_with_len (q * r) n)) e
      ∙ range-two (nth (all ∷ xss)) (q * r) r (length ys * r)
      ∙ ap (λ l. l ++ map (nth (all ∷ xss)) (range_with_len (q * r + r) (length ys * r)))
      (range-same (nth (all ∷ xss)) (λ u. y ∷ nth xss u) (q * r) 0 r one ∙ map-range (λ zs. y ∷ zs) (nth xss) 0 r ∙ ap (map (λ zs. y ∷ zs)) h)
      ∙ ap (λ i. map (λ zs. y ∷ zs) (product_of xss) ++ map (nth (all ∷ xss)) (range_with_len i (length ys * r))) n
      ∙ ap (λ l. map (λ zs. y ∷ zs) (product_of xss) ++ l)
      (blocks all xss (q + 1) ys h (λ i z g. let m : q + suc i ≡ q + 1 + i = omega arith in subst (λ j. slice_get all j ≡ Some z) m (at (suc i) z g)))

  pub product-by-number : (xss : List (List A)) → map (nth xss) (range_with_len 0 (product_by length xss)) ≡ product_of xss
  product-by-number [] = refl
  product-by-number (xs ∷ xss) =
      let e : 0 ≡ 0 * product_by length xss = omega arith in
      ap (λ i. map (nth (xs ∷ xss)) (range_with_len i (length xs * product_by length xss))) e
      ∙ blocks xs xss 0 xs (product-by-number xss) (λ i y g. let m : i ≡ 0 + i = omega arith in subst (λ j. slice_get xs j ≡ Some y) m g)
