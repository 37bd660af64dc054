-- The bodies of components have no more constants than the components.
use Rattle.std.proofs.Common.{◌≡◌, ◌≢◌, Bool, true, false, cond, ℕ, zero, suc, ◌+◌, ◌<◌, ◌≤◌, List, [], ◌∷◌, ◌++◌, length, map, filter, flat_map, inl, inr, refl, sym, ap, ◌∙◌, arith}
use Rattle.cif_system.specs.Words.{Member}
use Rattle.cif_source.specs.Source.{DeclTree, type_decl, enum_decl, event_decl, const_decl, alg_decl, input_decl, disc_decl, equation_decl, invariant_decl, marked_decl, Source}
use Rattle.cif_source.specs.Components.{Component, as_written}
use Rattle.cif_source.specs.Objects.{components_of, decls_in, decls_of, Declared, of_sort, is_const}
use Rattle.cif_scope.specs.declared.scopes.Scopes.{Scopes}
use Rattle.cif_scope.specs.Tables.{IsBody, Beside}
use Rattle.cif_scope.specs.Written.{written_bodies}
use Rattle.cif_inst_bodies.proofs.Alike.{body-written}
use Rattle.cif_inst_constants.specs.Numbers.{body_count, count_if, total_to}
use Rattle.cif_inst_constants.specs.Nodes.{decl_nodes}
use Rattle.cif_inst_constants.specs.Used.{is_used}
use Rattle.cif_inst_constants.proofs.UsedLaws.{IsMarked}
use Rattle.cif_inst_constants.proofs.NodeLaws.{nodes, nodes-count, body-count}

-- ---- sums over numbers of bodies

module _ (f : ℕ → ℕ) where
  abbrev sum_over : List ℕ → ℕ
  sum_over [] = 0
  sum_over (k ∷ ks) = f k + sum_over ks

  -- without one that stands there
  taken : (n : ℕ) (ks : List ℕ) → Member n ks → (rest : List ℕ) × (sum_over ks ≡ f n + sum_over rest) × ((k : ℕ) → k ≢ n → Member k ks → Member k rest)
  taken n [] m = absurd m
  taken n (k ∷ ks) m = elim m [
    | inl e ↦ (ks, ap (λ j. f j + sum_over ks) (sym e), λ j other g. elim g [ inl w ↦ absurd (other (w ∙ sym e)) | inr w ↦ w ])
    | inr g ↦
        let r = taken n ks g in
        let sum : f k + sum_over ks ≡ f n + (f k + sum_over r.0) = let rest = r.1 in omega arith in
        (k ∷ r.0, sum, λ j other i. elim i [ inl w ↦ inl w | inr w ↦ inr (r.2 j other w) ])
  ]

-- the marked bodies are among these
marked-within : (s : Scopes) (used : List Bool) (n : ℕ) (ks : List ℕ) → ((k : ℕ) → k < n → is_used used k ≡ true → Member k ks) → total_to s used n ≤ sum_over (body_count s) ks
marked-within s used zero ks h = omega arith
marked-within s used (suc n) ks h =
    (elim (is_used used n) as (λ b. is_used used n ≡ b → total_to s used n + count_if b (body_count s n) ≤ sum_over (body_count s) ks) [
      | true ↦ λ e.
          let last : n < suc n = omega arith in
          let r = taken (body_count s) n ks (h n last e) in
          let rest : total_to s used n ≤ sum_over (body_count s) r.0 = marked-within s used n r.0 (λ k l g. r.2 k (let other : k ≢ n = omega (arith, l) in other) (h k (omega (arith, l)) g)) in
          let sum = r.1 in
          omega (arith, rest, sum)
      | false ↦ λ e. let rest : total_to s used n ≤ sum_over (body_count s) ks = marked-within s used n ks (λ k l g. h k (omega (arith, l)) g) in omega (arith, rest)
    ]) refl

-- ---- constants of components

decl-count : (k : ℕ) (c : Component) (ds : List DeclTree) → length (filter (λ (d : Declared). is_const d.1) (map (λ d. (c, d)) ds)) ≡ length (flat_map (decl_nodes k) ds)
decl-count k c [] = refl
decl-count k c (const_decl ty n e ∷ ds) = ap suc (decl-count k c ds)
decl-count k c (type_decl n ty ∷ ds) = decl-count k c ds
decl-count k c (enum_decl n ls ∷ ds) = decl-count k c ds
decl-count k c (event_decl h x n ∷ ds) = decl-count k c ds
decl-count k c (alg_decl ty n e ∷ ds) = decl-count k c ds
decl-count k c (input_decl ty n ∷ ds) = decl-count k c ds
decl-count k c (disc_decl ty n e ∷ ds) = decl-count k c ds
decl-count k c (equation_decl q ∷ ds) = decl-count k c ds
decl-count k c (invariant_decl i ∷ ds) = decl-count k c ds
decl-count k c (marked_decl p ∷ ds) = decl-count k c ds

filter-both : {A : Type 0} (p : A → Bool) (xs ys : List A) → length (filter p (xs ++ ys)) ≡ length (filter p xs) + length (filter p ys)
filter-both p [] ys = let e : length (filter p ys) ≡ 0 + length (filter p ys) = omega arith in e
filter-both p (x ∷ xs) ys = go (p x) (filter-both p xs ys)
  where
    go : (b : Bool) → length (filter p (xs ++ ys)) ≡ length (filter p xs) + length (filter p ys)
        → length (cond b (x ∷ filter p (xs ++ ys)) (filter p (xs ++ ys))) ≡ length (cond b (x ∷ filter p xs) (filter p xs)) + length (filter p ys)
    go true h = let e : suc (length (filter p (xs ++ ys))) ≡ suc (length (filter p xs)) + length (filter p ys) = omega arith in e
    go false h = h

module _ (t : Source) (s : Scopes) (used : List Bool) (are : IsMarked t s used) where
  components-count : (cs : List Component) (ks : List ℕ) → Beside (λ (c : Component) (k : ℕ). IsBody t k (as_written c)) cs ks
      → length (filter (λ (d : Declared). is_const d.1) (flat_map (λ c. map (λ d. (c, d)) (decls_of c)) cs)) ≡ sum_over (body_count s) ks
  components-count [] [] h = refl
  components-count [] (k ∷ ks) h = absurd h
  components-count (c ∷ cs) [] h = absurd h
  components-count (c ∷ cs) (k ∷ ks) h =
      filter-both (λ (d : Declared). is_const d.1) (map (λ d. (c, d)) (decls_of c)) (flat_map (λ x. map (λ d. (x, d)) (decls_of x)) cs)
      ∙ ap (λ i. i + length (filter (λ (d : Declared). is_const d.1) (flat_map (λ x. map (λ d. (x, d)) (decls_of x)) cs)))
      (decl-count k c (decls_of c) ∙ ap (λ b. length (flat_map (decl_nodes k) (decls_in b))) (sym (body-written c)) ∙ sym (body-count t s used are k (as_written c) h.0))
      ∙ ap (λ i. body_count s k + i) (components-count cs ks h.1)

  pub constants-within : length (nodes t s used are) ≤ length (of_sort is_const t)
  constants-within =
      let some = nodes-count t s used are in
      let all : length (of_sort is_const t) ≡ sum_over (body_count s) are.own = components-count (components_of t) are.own are.beside in
      let within : total_to s used (length (written_bodies t)) ≤ sum_over (body_count s) are.own = marked-within s used (length (written_bodies t)) are.own (λ k l h. are.only k h) in
      omega (arith, some, all, within)
