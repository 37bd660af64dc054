-- An algebraic variable has one definition: one of its own, or else it is a variable of an automaton and has one in each location.
use Rattle.std.proofs.Common.{◌≡◌, ◌≢◌, ℕ, true, false, inl, List, [], ◌∷◌, ◌++◌, length, map, Option, refl, sym, ◌∙◌, ap, subst, arith}
use Rattle.std.specs.Prelude.{nat_eq}
use Rattle.std.specs.List.{Any, Contains}
use Rattle.std.proofs.lemmas.Bool.Decides.{nat_tests}
use Rattle.cif_ast.specs.Tree.{Tree}
use Rattle.cif_ast.specs.declared.names.Ident.{Ident}
use Rattle.cif_system.specs.Words.{Member}
use Rattle.cif_system.proofs.Lists.{false-true}
use Rattle.cif_system.proofs.Picks.{map-member}
use Rattle.cif_source.specs.Source.{Text, TypeTree, LocationTree, alg_decl, SourceBody, group_body, automaton_body, Source}
use Rattle.cif_source.specs.Components.{Component, whole, part, blank, copy, as_written, body_of}
use Rattle.cif_source.specs.Objects.{components_of, bodies, decls_in, decls_of, locs_in, locs_of, is_automaton}
use Rattle.cif_source.specs.Value.{own_definitions, location_definitions}
use Rattle.cif_source.specs.BodyRules.{alg_of, algs_of, definition_counts, EquationsDue}
use Rattle.cif_inst_model.proofs.RuleLaws.{member-any}
use Rattle.cif_inst_bodies.proofs.Alike.{body-written}
use Rattle.cif_inst_bodies.proofs.Bodies.{components-written}
use Rattle.cif_inst_laws.proofs.NameLaws.{mapped-member}
use Rattle.cif_inst_laws.proofs.Tests.{eq-told, contained}

one-else : (n : ℕ) → (n ≢ 1 → ⊥) → n ≡ 1
one-else n h =
    (elim (nat_eq n 1) as (λ b. nat_eq n 1 ≡ b → n ≡ 1) [
      | true ↦ λ e. eq-told n 1 e
      | false ↦ λ e. absurd (let g : n ≢ 1 = grind (arith, nat_tests) in h g)
    ]) refl

counts-written : (c : Component) (x : Text) (e : Option Tree) → definition_counts c x e ≡ definition_counts (as_written c) x e
counts-written (whole is) x e = refl
counts-written (part o n b) x e = refl
counts-written (blank o n ps b) x e = refl
counts-written (copy o n ps b g i) x e = refl

-- those of a body, which a group counts once and an automaton for each location
abbrev counts_in : SourceBody → ℕ → (LocationTree → ℕ) → List ℕ
counts_in b own placed = elim b [ group_body is ↦ own ∷ [] | automaton_body a ↦ map placed a.locs ]

placed-counted : (b : SourceBody) (own : ℕ) (placed : LocationTree → ℕ) (l : LocationTree) → Member l (locs_in b) → Member (placed l) (counts_in b own placed)
placed-counted (group_body is) own placed l m = absurd m
placed-counted (automaton_body a) own placed l m = map-member placed l a.locs m

own-counted : (b : SourceBody) (own : ℕ) (placed : LocationTree → ℕ) → is_automaton b ≡ false → Member own (counts_in b own placed)
own-counted (group_body is) own placed h = inl refl
own-counted (automaton_body a) own placed h = absurd (false-true h refl)

module _ (t : Source) (single : (at count : ℕ) → EquationsDue t at count → ⊥) (c : Component) (m : Member c (components_of t)) (x : TypeTree) (n : Ident) (e : Option Tree) (k : Member (alg_decl x n e) (decls_of c)) where
  listed : Member {A = Ident × Option Tree} (n, e) (algs_of (as_written c))
  listed = mapped-member alg_of (alg_decl x n e) (decls_of (as_written c)) (n, e) (subst (λ b. Member (alg_decl x n e) (decls_in b)) (sym (body-written c)) k) refl

  once : (count : ℕ) → Member count (definition_counts c n.text e) → count ≡ 1
  once count i =
      one-else count (λ other.
      single n.at count
      (member-any (λ (b : Component). Any (λ (a : Ident × Option Tree). (a.0.at ≡ n.at) × Contains (definition_counts b a.0.text a.1) count × (count ≢ 1)) (algs_of b)) (as_written c) (bodies t) (components-written t c m)
      (member-any (λ (a : Ident × Option Tree). (a.0.at ≡ n.at) × Contains (definition_counts (as_written c) a.0.text a.1) count × (count ≢ 1)) (n, e) (algs_of (as_written c)) listed
      (refl, contained (definition_counts (as_written c) n.text e) count (subst (Member count) (counts-written c n.text e) i), other))))

  abbrev placed : LocationTree → ℕ
  placed l = length (own_definitions c n.text e ++ location_definitions n.text l)

  pub located-once : own_definitions c n.text e ≡ [] → (l : LocationTree) → Member l (locs_of c) → length (location_definitions n.text l) ≡ 1
  located-once none l i =
      ap (λ ds. length (ds ++ location_definitions n.text l)) (sym none)
      ∙ once (placed l) (placed-counted (body_of c) (length (own_definitions c n.text e)) placed l i)

  -- what has no definition of its own is a variable of an automaton
  pub some-automaton : own_definitions c n.text e ≡ [] → is_automaton (body_of c) ≡ true
  some-automaton none =
      (elim (is_automaton (body_of c)) as (λ b. is_automaton (body_of c) ≡ b → b ≡ true) [
        | true ↦ λ g. refl
        | false ↦ λ g. absurd (omega (arith, ap length none, once (length (own_definitions c n.text e)) (own-counted (body_of c) (length (own_definitions c n.text e)) placed g)))
      ]) refl
