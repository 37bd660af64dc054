-- What the rules on sizes and constant expressions give: the components are few, and constants lie in their ranges.
use Rattle.std.proofs.Common.{◌≡◌, ℕ, suc, ◌+◌, ◌≤◌, ◌<◌, ◌⊎◌, Bool, true, false, inl, inr, List, [], ◌∷◌, length, map, refl, sym, ◌∙◌, ap, subst, arith}
use Rattle.std.specs.Prelude.{◌&&◌, nat_le, sum}
use Rattle.std.specs.List.{list_all, Any}
use Rattle.std.proofs.lemmas.List.Sums.{sum_by-cons, sum-map}
use Rattle.std.proofs.lemmas.Bool.Decides.{nat_tests}
use Rattle.cif_ast.specs.Tree.{Tree}
use Rattle.cif_ast.specs.declared.names.Ident.{Ident}
use Rattle.cif_system.specs.Words.{Member}
use Rattle.cif_system.specs.System.{in_range}
use Rattle.cif_system.proofs.Picks.{flat_map-member}
use Rattle.cif_source.specs.Source.{Source, type_decl, enum_decl, event_decl, const_decl, alg_decl, input_decl, disc_decl, equation_decl, invariant_decl, marked_decl, TypeTree, tree_at}
use Rattle.cif_source.specs.Components.{Component}
use Rattle.cif_source.specs.Objects.{components_of, most_objects, Declared, declarations, decls_of, locs_of, event_edges}
use Rattle.cif_source.specs.Value.{constant}
use Rattle.cif_source.specs.Types.{range_of}
use Rattle.cif_source.specs.Constants.{decl_constants, typed_constants}
use Rattle.cif_source.specs.InstanceRules.{decl_objects, component_objects, object_count, TooManyObjectsDue, ConstantRangeDue, FaultyConstant, LeavesRange, LongBound, EmptyRange}
use Rattle.cif_inst_model.proofs.FoundLaws.{flat-cases}
use Rattle.cif_inst_model.proofs.ValueLaws.{constant_fits}

-- ---- sizes

pub components-counted : (cs : List Component) → length cs ≤ sum (map component_objects cs)
components-counted [] = omega arith
components-counted (c ∷ cs) =
    let own : component_objects c ≡ 1 + sum (map decl_objects (decls_of c)) + length (locs_of c) + length (event_edges c) = refl in
    omega (arith, components-counted cs, own, sum-map component_objects (c ∷ cs), sum_by-cons component_objects c cs, sum-map component_objects cs)

pub within-or-past : (n m : ℕ) → (n ≤ m) ⊎ (m < n)
within-or-past n m =
    (elim (nat_le n m) as (λ b. nat_le n m ≡ b → (n ≤ m) ⊎ (m < n)) [
      | true ↦ λ h. inl (grind (arith, nat_tests))
      | false ↦ λ h. inr (grind (arith, nat_tests))
    ]) refl

-- where objects are not too many, neither are components
pub few-kept : (t : Source) → ((count : ℕ) → TooManyObjectsDue t count → ⊥) → length (components_of t) ≤ most_objects
few-kept t h =
    elim (within-or-past (object_count t) most_objects) [
      | inl w ↦ omega (arith, components-counted (components_of t))
      | inr w ↦ absurd (h (suc most_objects) (w, refl))
    ]

-- ---- constants

pub member-any : {A : Type 0} (P : A → Type 0) (x : A) (xs : List A) → Member x xs → P x → Any P xs
member-any P x [] m p = absurd m
member-any P x (y ∷ ys) m p =
    elim m [
      | inl w ↦ (0, x, omega arith, sym w, p)
      | inr w ↦ let rest = member-any P x ys w p in (suc rest.0, rest.1, omega (arith, rest.2), rest.3, rest.4)
    ]

pub all-from : {A : Type 0} (p : A → Bool) (xs : List A) → ((x : A) → Member x xs → p x ≡ true) → list_all p xs ≡ true
all-from p [] h = refl
all-from p (x ∷ xs) h = ap (λ b. b && list_all p xs) (h x (inl refl)) ∙ all-from p xs (λ y m. h y (inr m))

map-cases : {A B : Type 0} → (f : A → B) → (y : B) → (xs : List A) → Member y (map f xs) → (x : A) × Member x xs × (y ≡ f x)
map-cases f y [] m = absurd m
map-cases f y (x ∷ xs) m = elim m [ inl w ↦ (x, inl refl, w) | inr w ↦ let rest = map-cases f y xs w in (rest.0, inr rest.1, rest.2) ]

-- a declaration of the source is declared in a listed component
pub declaration-cases : (t : Source) (d : Declared) → Member d (declarations t) → Member d.0 (components_of t) × Member d.1 (decls_of d.0)
declaration-cases t d m =
    let c = flat-cases (λ c. map (λ x. (c, x)) (decls_of c)) d (components_of t) m in
    let x = map-cases (λ x. (c.0, x)) d (decls_of c.0) c.2 in
    (subst (λ (y : Declared). Member y.0 (components_of t)) (sym x.2) c.1, subst (λ (y : Declared). Member y.1 (decls_of y.0)) (sym x.2) x.1)

module _ (t : Source) (h : (at : ℕ) → ConstantRangeDue t at → ⊥) where
  in-range : (c : Component) (x : TypeTree) (n : Ident) (e : Tree) → Member c (components_of t) → Member (const_decl x n e) (decls_of c) → in_range (range_of c x) (constant c e) ≡ true
  in-range c x n e k m =
      (elim (in_range (range_of c x) (constant c e)) as (λ b. in_range (range_of c x) (constant c e) ≡ b → b ≡ true) [
        | true ↦ λ i. refl
        | false ↦ λ i.
            let v : Member {A = TypeTree × Tree} (x, e) (typed_constants c) = flat_map-member decl_constants (const_decl x n e) (decls_of c) (x, e) m (inl refl) in
            let leaves : LeavesRange c (tree_at e) = member-any _ (x, e) (typed_constants c) v (refl, i) in
            absurd (h (tree_at e) (member-any (λ c. FaultyConstant c (tree_at e) ⊎ LeavesRange c (tree_at e) ⊎ LongBound c (tree_at e) ⊎ EmptyRange c (tree_at e)) c (components_of t) k (inr (inl leaves))))
      ]) refl

  constant-fits : (d : Declared) → Member d.0 (components_of t) → Member d.1 (decls_of d.0) → constant_fits d ≡ true
  constant-fits (c, const_decl x n e) k m = in-range c x n e k m
  constant-fits (c, type_decl n x) k m = refl
  constant-fits (c, enum_decl n ls) k m = refl
  constant-fits (c, event_decl a b n) k m = refl
  constant-fits (c, alg_decl x n e) k m = refl
  constant-fits (c, input_decl x n) k m = refl
  constant-fits (c, disc_decl x n e) k m = refl
  constant-fits (c, equation_decl q) k m = refl
  constant-fits (c, invariant_decl i) k m = refl
  constant-fits (c, marked_decl p) k m = refl

  -- where no constant expression breaks its rule, the values of constants lie in their ranges
  pub constants-kept : list_all constant_fits (declarations t) ≡ true
  constants-kept = all-from constant_fits (declarations t) (λ d m. let p = declaration-cases t d m in constant-fits d p.0 p.1)
