-- The net that a source is translated to represents it, where the source keeps these rules.
use Rattle.std.proofs.Common.{◌≡◌, ◌≤◌, ℕ, zero, suc, pos, Bool, true, false, cond, inl, inr, List, [], ◌∷◌, length, map, Option, Some, refl, sym, ◌∙◌, ap, subst, arith}
use Rattle.std.specs.Prelude.{◌&&◌, not, filter, pred}
use Rattle.std.specs.List.{list_all, AllByRecursion}
use Rattle.cif_ast.specs.Tree.{Tree}
use Rattle.cif_ast.specs.declared.names.Ident.{Ident}
use Rattle.cif_system.specs.Words.{Member}
use Rattle.cif_system.specs.System.{State}
use Rattle.cif_system.proofs.Lists.{filter-passes, false-true, map-length}
use Rattle.cif_net_model.specs.Unfolding.{at_or}
use Rattle.cif_net_model.specs.Value.{net_value}
use Rattle.cif_net_model.specs.Meaning as net
use Rattle.cif_net_model.specs.Meaning.{alg_values, defined_value}
use Rattle.cif_net_model.proofs.Passing.{and-left, and-right, not-true, all-member, each-member}
use Rattle.cif_source.specs.Source.{Source, DeclTree, type_decl, enum_decl, event_decl, const_decl, alg_decl, input_decl, disc_decl, equation_decl, invariant_decl, marked_decl, TypeTree}
use Rattle.cif_source.specs.Components.{Component, body_of, scope_of, entry_named, declared}
use Rattle.cif_source.specs.Objects.{components_of, most_objects, automata, is_automaton, Declared, declarations, decls_of, algs, is_alg, is_declared}
use Rattle.cif_source.specs.Value.{value_within}
use Rattle.cif_source.specs.Step.{alone, alg_value}
use Rattle.cif_inst_model.specs.Flat.{net_alg, net_of_source}
use Rattle.cif_inst_model.specs.Represents.{Represents}
use Rattle.cif_inst_model.proofs.SystemLaws.{MeansTheSame, names_all, system-same}
use Rattle.cif_inst_model.proofs.FoundLaws.{flat-cases}
use Rattle.cif_inst_model.proofs.ValueLaws.{constant_fits, AlgsDiffer, alg-value, root-of, within, values-same, value-same}
use Rattle.cif_inst_model.proofs.OwnLaws.{own-value}

-- ---- what the laws ask

-- the two have different paths, where the first is an algebraic variable
abbrev pub is_apart : Declared → Declared → Bool
is_apart (c, alg_decl x n e) d = not (is_declared c n.text d)
is_apart _ d = true

abbrev pub are_apart : List Declared → Bool
are_apart [] = true
are_apart (d ∷ ds) = list_all (λ e. is_apart d e && is_apart e d) ds && are_apart ds

-- the name of the algebraic variable is found where it is declared
abbrev pub IsFound : Declared → Type 0
IsFound (c, alg_decl x n e) = entry_named n.text (scope_of c) ≡ Some (declared (alg_decl x n e))
IsFound _ = Unit {0}

pub record Translatable (t : Source) : Type 0 where
  pub few : length (components_of t) ≤ most_objects
  pub constants : list_all constant_fits (declarations t) ≡ true
  pub named : list_all names_all (automata t) ≡ true
  pub differ : AlgsDiffer t
  pub found : (d : Declared) → Member d (algs t) → IsFound d

-- ---- algebraic variables differ

one-path : (ds : List Declared) (c : Component) (x : TypeTree) (n : Ident) (e : Option Tree) (d : Declared) → are_apart ds ≡ true → Member (c, alg_decl x n e) ds → Member d ds → is_declared c n.text d ≡ true → d ≡ (c, alg_decl x n e)
one-path [] c x n e d h m k same = absurd m
one-path (b ∷ ds) c x n e d h m k same =
    elim m [
      | inl w ↦ elim k [
        | inl v ↦ v ∙ sym w
        | inr v ↦
            let t : (is_apart (c, alg_decl x n e) d && is_apart d (c, alg_decl x n e)) ≡ true =
            subst (λ z. (is_apart z d && is_apart d z) ≡ true) (sym w) (all-member (λ z. is_apart b z && is_apart z b) ds d (and-left _ _ h) v) in
            absurd (false-true (not-true (is_declared c n.text d) (and-left _ _ t)) same)
      ]
      | inr w ↦ elim k [
        | inl v ↦
            let t : (is_apart d (c, alg_decl x n e) && is_apart (c, alg_decl x n e) d) ≡ true =
            subst (λ z. (is_apart z (c, alg_decl x n e) && is_apart (c, alg_decl x n e) z) ≡ true) (sym v) (all-member (λ z. is_apart b z && is_apart z b) ds (c, alg_decl x n e) (and-left _ _ h) w) in
            absurd (false-true (not-true (is_declared c n.text d) (and-right _ _ t)) same)
        | inr v ↦ one-path ds c x n e d (and-right _ _ h) w v same
      ]
    ]

pub apart-differ : (t : Source) → are_apart (algs t) ≡ true → AlgsDiffer t
apart-differ t h c x n e d m k same = one-path (algs t) c x n e d h m k same

pub all-found : (t : Source) → AllByRecursion IsFound (algs t) → (d : Declared) → Member d (algs t) → IsFound d
all-found t h d m = each-member IsFound (algs t) d h m

-- ---- members

pub filter-from : {A : Type 0} → (p : A → Bool) → (xs : List A) → (y : A) → Member y (filter p xs) → Member y xs
filter-from p [] y m = absurd m
filter-from p (x ∷ xs) y m =
    (elim (p x) as (λ b. Member y (cond b (x ∷ filter p xs) (filter p xs)) → Member y (x ∷ xs)) [
      | true ↦ λ k. elim k [ inl w ↦ inl w | inr w ↦ inr (filter-from p xs y w) ]
      | false ↦ λ k. inr (filter-from p xs y k)
    ]) m

map-home : (c : Component) (d : Declared) (ds : List DeclTree) → Member d (map (λ x. (c, x)) ds) → d.0 ≡ c
map-home c d [] m = absurd m
map-home c d (x ∷ xs) m = elim m [ inl w ↦ ap (λ y. y.0) w | inr w ↦ map-home c d xs w ]

declaration-home : (t : Source) (d : Declared) → Member d (declarations t) → Member d.0 (components_of t)
declaration-home t d m =
    let c = flat-cases (λ c. map (λ x. (c, x)) (decls_of c)) d (components_of t) m in
    subst (λ x. Member x (components_of t)) (sym (map-home c.0 d (decls_of c.0) c.2)) c.1

-- ---- the law

none-listed : {A : Type 0} (xs : List A) (x : A) → Member x xs → length xs ≡ 0 → ⊥
none-listed [] x m h = m
none-listed (y ∷ ys) x m h = absurd (omega (arith, h))

module _ (t : Source) (h : Translatable t) where
  -- with one unfolding less in both
  alg-defined : (m : ℕ) (s : State) (c : Component) (x : TypeTree) (n : Ident) (e : Option Tree) → Member c (components_of t) → Member (c, alg_decl x n e) (algs t) → length (algs t) ≡ suc m
      → defined_value (net_of_source t) s (net_alg (c, alg_decl x n e)) ≡ alg_value (c, alg_decl x n e) s
  alg-defined m s c x n e home k as_many =
      ap (λ i. net.alg_value (net_value (at_or (pos 0) (alg_values (net_of_source t) s (pos 0) (pred i))) s (pos 0)) s (net_alg (c, alg_decl x n e))) (map-length net_alg (algs t) ∙ as_many)
      ∙ alg-value (at_or (pos 0) (alg_values (net_of_source t) s (pos 0) m)) s (pos 0) c (value_within m s (pos 0) c)
      (λ d. values-same t h.few h.constants h.differ s (pos 0) m c home d ∙ within t h.few h.constants h.differ s (pos 0) m c d) x n e
      ∙ sym (own-value m s (pos 0) c x n e (h.found (c, alg_decl x n e) k))
      ∙ sym (ap (λ i. value_within i s (pos 0) c (alone n)) (ap (λ u. length (algs u)) (root-of t h.few h.constants h.differ s (pos 0) c home) ∙ as_many))

  alg-same : (d : Declared) → Member d (algs t) → (s : State) → defined_value (net_of_source t) s (net_alg d) ≡ alg_value d s
  alg-same (c, alg_decl x n e) m s =
      (elim (length (algs t)) as (λ k. length (algs t) ≡ k → defined_value (net_of_source t) s (net_alg (c, alg_decl x n e)) ≡ alg_value (c, alg_decl x n e) s) [
        | zero ↦ λ none. absurd (none-listed (algs t) (c, alg_decl x n e) m none)
        | suc k ↦ alg-defined k s c x n e (declaration-home t (c, alg_decl x n e) (filter-from (λ d. is_alg d.1) (declarations t) (c, alg_decl x n e) m)) m
      ]) refl
  alg-same (c, type_decl n x) m s = absurd (false-true refl (filter-passes (λ d. is_alg d.1) (declarations t) (c, type_decl n x) m))
  alg-same (c, enum_decl n ls) m s = absurd (false-true refl (filter-passes (λ d. is_alg d.1) (declarations t) (c, enum_decl n ls) m))
  alg-same (c, event_decl k x n) m s = absurd (false-true refl (filter-passes (λ d. is_alg d.1) (declarations t) (c, event_decl k x n) m))
  alg-same (c, const_decl x n e) m s = absurd (false-true refl (filter-passes (λ d. is_alg d.1) (declarations t) (c, const_decl x n e) m))
  alg-same (c, input_decl x n) m s = absurd (false-true refl (filter-passes (λ d. is_alg d.1) (declarations t) (c, input_decl x n) m))
  alg-same (c, disc_decl x n e) m s = absurd (false-true refl (filter-passes (λ d. is_alg d.1) (declarations t) (c, disc_decl x n e) m))
  alg-same (c, equation_decl q) m s = absurd (false-true refl (filter-passes (λ d. is_alg d.1) (declarations t) (c, equation_decl q) m))
  alg-same (c, invariant_decl i) m s = absurd (false-true refl (filter-passes (λ d. is_alg d.1) (declarations t) (c, invariant_decl i) m))
  alg-same (c, marked_decl p) m s = absurd (false-true refl (filter-passes (λ d. is_alg d.1) (declarations t) (c, marked_decl p) m))

  means_the_same : MeansTheSame t
  means_the_same = record {
    of_automata = λ a m e s r. value-same t h.few h.constants h.differ s r a (filter-from (λ c. is_automaton (body_of c)) (components_of t) a m) e;
    of_declarations = λ d m e s r. value-same t h.few h.constants h.differ s r d.0 (declaration-home t d m) e;
    of_algs = alg-same;
  }

  -- the net of a source represents it
  pub net-represents : Represents (net_of_source t) t
  net-represents = record { translated = refl; meaning = system-same t means_the_same h.named }
