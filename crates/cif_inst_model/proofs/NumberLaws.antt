-- Declarations of one sort among those of all components, and lists of which all pass.
use Rattle.std.proofs.Common.{◌≡◌, Bool, true, false, cond, List, [], ◌∷◌, ◌++◌, map, refl, ◌∙◌, ap}
use Rattle.std.specs.Prelude.{◌&&◌, flat_map, filter}
use Rattle.std.specs.List.{list_all}
use Rattle.cif_system.proofs.Picks.{and-left, and-right}
use Rattle.cif_source.specs.Source.{DeclTree}
use Rattle.cif_source.specs.Components.{Component}
use Rattle.cif_source.specs.Objects.{decls_of, is_event, Declared}

pub append-kept : {A : Type 0} (p : A → Bool) (xs ys : List A) → filter p (xs ++ ys) ≡ filter p xs ++ filter p ys
append-kept p [] ys = refl
append-kept p (x ∷ xs) ys =
    (elim (p x) as (λ b. cond b (x ∷ filter p (xs ++ ys)) (filter p (xs ++ ys)) ≡ cond b (x ∷ filter p xs) (filter p xs) ++ filter p ys) [
      | true ↦ ap (λ zs. x ∷ zs) (append-kept p xs ys)
      | false ↦ append-kept p xs ys
    ])

pub all-joined : {A : Type 0} (p : A → Bool) (xs ys : List A) → list_all p xs ≡ true → list_all p ys ≡ true → list_all p (xs ++ ys) ≡ true
all-joined p [] ys h g = g
all-joined p (x ∷ xs) ys h g = ap (λ b. b && list_all p (xs ++ ys)) (and-left (p x) (list_all p xs) h) ∙ all-joined p xs ys (and-right (p x) (list_all p xs) h) g

-- ---- declarations of one sort

module _ (sort : DeclTree → Bool) where
  abbrev own : Component → List Declared
  own c = map (λ d. (c, d)) (filter sort (decls_of c))

  pub kept-own : (c : Component) (ds : List DeclTree) → filter (λ (d : Declared). sort d.1) (map (λ d. (c, d)) ds) ≡ map (λ d. (c, d)) (filter sort ds)
  kept-own c [] = refl
  kept-own c (d ∷ ds) =
      elim (sort d) as (λ b. cond b ((c, d) ∷ filter (λ (x : Declared). sort x.1) (map (λ x. (c, x)) ds)) (filter (λ (x : Declared). sort x.1) (map (λ x. (c, x)) ds)) ≡ map (λ x. (c, x)) (cond b (d ∷ filter sort ds) (filter sort ds))) [
        | true ↦ ap (λ xs. (c, d) ∷ xs) (kept-own c ds)
        | false ↦ kept-own c ds
      ]

  pub sort-kept : (cs : List Component) → filter (λ (d : Declared). sort d.1) (flat_map (λ c. map (λ d. (c, d)) (decls_of c)) cs) ≡ flat_map own cs
  sort-kept [] = refl
  sort-kept (c ∷ cs) =
      append-kept (λ (d : Declared). sort d.1) (map (λ d. (c, d)) (decls_of c)) (flat_map (λ c. map (λ d. (c, d)) (decls_of c)) cs)
      ∙ ap (λ xs. xs ++ filter (λ (d : Declared). sort d.1) (flat_map (λ c. map (λ d. (c, d)) (decls_of c)) cs)) (kept-own c (decls_of c))
      ∙ ap (λ xs. own c ++ xs) (sort-kept cs)

pub kept-all : (cs : List Component) → filter (λ (d : Declared). is_event d.1) (flat_map (λ c. map (λ d. (c, d)) (decls_of c)) cs) ≡ flat_map (λ c. map (λ d. (c, d)) (filter is_event (decls_of c))) cs
kept-all = sort-kept is_event
