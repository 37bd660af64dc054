-- The place of a declaration among those of its sort in its body is its rank.
use Rattle.std.proofs.Common.{◌≡◌, ℕ, zero, suc, ◌+◌, ◌<◌, Bool, true, false, cond, inl, inr, List, [], ◌∷◌, length, take, Some, None, refl, sym, ◌∙◌, ap, subst, arith}
use Rattle.std.specs.Prelude.{not, filter, filter_map, slice_get}
use Rattle.std.specs.List.{cons_option, position_or_len}
use Rattle.std.proofs.lemmas.Cmp.{nat_list_eq_equiv}
use Rattle.cif_ast.specs.declared.names.Ident.{Ident}
use Rattle.cif_system.specs.Words.{Member, AreDistinct}
use Rattle.cif_system.proofs.Lists.{some-same, none-some}
use Rattle.cif_system.proofs.Picks.{map-member, at-member}
use Rattle.cif_source.specs.Source.{Text, DeclTree}
use Rattle.cif_source.specs.Components.{Component, scope_of, same_text, Entry, Entries, declared, literal, location, inner, definition, instance, parameter}
use Rattle.cif_source.specs.Objects.{decls_of, declares}
use Rattle.cif_scope.proofs.LookLaws.{same-text}
use Rattle.cif_inst_components.proofs.FindSingle.{texts}
use Rattle.cif_inst_numbers.specs.declared.counts.Counted.{Counted}
use Rattle.cif_inst_numbers.specs.Numbers.{is_counted, declaration, declared_by}
use Rattle.cif_inst_numbers.proofs.Entries.{IsNamed, sorted, scope-sorted, scope-named}

pub false-otherwise : (b : Bool) → (b ≡ true → ⊥) → b ≡ false
false-otherwise true h = absurd (h refl)
false-otherwise false h = refl

first-here : (x : Text) (d : DeclTree) (ds : List DeclTree) → declares x d ≡ true → position_or_len (declares x) (d ∷ ds) ≡ 0
first-here x d ds h = ap (λ b. cond (not b) (1 + position_or_len (declares x) ds) 0) h

not-here : (x : Text) (d : DeclTree) (ds : List DeclTree) → declares x d ≡ false → position_or_len (declares x) (d ∷ ds) ≡ 1 + position_or_len (declares x) ds
not-here x d ds h = ap (λ b. cond (not b) (1 + position_or_len (declares x) ds) 0) h

-- the name of an entry that is a declaration
own-name : (x : Ident × Entry) (d : DeclTree) (y : Text) → declaration x ≡ Some d → IsNamed x → declares y d ≡ same_text x.0.text y
own-name (n, declared b) d y h named = ap (declares y) (sym (some-same b d h)) ∙ named y
own-name (n, literal k ls) d y h named = absurd (none-some d h)
own-name (n, location k) d y h named = absurd (none-some d h)
own-name (n, inner m b) d y h named = absurd (none-some d h)
own-name (n, definition m ps b) d y h named = absurd (none-some d h)
own-name (n, instance i) d y h named = absurd (none-some d h)
own-name (n, parameter k p) d y h named = absurd (none-some d h)

abbrev AreNamed : Entries → Type 0
AreNamed es = (x : Ident × Entry) → Member x es → IsNamed x

module _ (q : Counted) (n : Ident) (d : DeclTree) (is : is_counted q d ≡ true) where
  -- another entry declares another name
  other : (x : Ident × Entry) (es : Entries) (s : ℕ) (b : DeclTree) → AreDistinct (texts (x ∷ es)) → IsNamed x → slice_get es s ≡ Some (n, declared d) → declaration x ≡ Some b → declares n.text b ≡ false
  other x es s b single named at g =
      own-name x b n.text g named
      ∙ false-otherwise (same_text x.0.text n.text) (λ h.
      let here : Member n.text (texts es) = map-member (λ (y : Ident × Entry). y.0.text) (n, declared d) es (at-member es s (n, declared d) at) in
      single.0 (subst (λ (y : Text). Member y (texts es)) (sym (same-text x.0.text n.text h)) here))

  rank-first : (es : Entries) (s : ℕ) → AreDistinct (texts es) → AreNamed es → slice_get es s ≡ Some (n, declared d) → position_or_len (declares n.text) (sorted q es) ≡ declared_by q (take s es)
  rank-first [] s single named at = absurd (none-some (n, declared d) at)
  rank-first (x ∷ es) zero single named at =
      subst (λ (y : Ident × Entry). position_or_len (declares n.text) (sorted q (y ∷ es)) ≡ 0) (sym (some-same x (n, declared d) at))
      (ap (λ b. position_or_len (declares n.text) (cond b (d ∷ sorted q es) (sorted q es))) is ∙ first-here n.text d (sorted q es) own)
    where
      own : declares n.text d ≡ true
      own = own-name (n, declared d) d n.text refl (subst IsNamed (some-same x (n, declared d) at) (named x (inl refl))) ∙ nat_list_eq_equiv.refl n.text
  rank-first (x ∷ es) (suc s) single named at =
      let rest = rank-first es s single.1 (λ y m. named y (inr m)) at in
      (elim (declaration x) as (λ o. declaration x ≡ o → position_or_len (declares n.text) (filter (is_counted q) (cons_option o (filter_map declaration es))) ≡ length (filter (is_counted q) (cons_option o (filter_map declaration (take s es))))) [
        | None ↦ λ g. rest
        | Some b ↦ λ g.
            elim (is_counted q b) as (λ v. position_or_len (declares n.text) (cond v (b ∷ sorted q es) (sorted q es)) ≡ length (cond v (b ∷ sorted q (take s es)) (sorted q (take s es)))) [
              | true ↦ not-here n.text b (sorted q es) (other x es s b single (named x (inl refl)) at g) ∙ (let more : 1 + position_or_len (declares n.text) (sorted q es) ≡ suc (declared_by q (take s es)) = omega (arith, rest) in more)
              | false ↦ rest
            ]
      ]) refl

  rank-within : (es : Entries) (s : ℕ) → slice_get es s ≡ Some (n, declared d) → declared_by q (take s es) < length (sorted q es)
  rank-within [] s at = absurd (none-some (n, declared d) at)
  rank-within (x ∷ es) zero at =
      subst (λ (y : Ident × Entry). 0 < length (sorted q (y ∷ es))) (sym (some-same x (n, declared d) at))
      (subst (λ b. 0 < length (cond b (d ∷ sorted q es) (sorted q es))) (sym is) (omega arith))
  rank-within (x ∷ es) (suc s) at =
      let rest = rank-within es s at in
      elim (declaration x) as (λ o. length (filter (is_counted q) (cons_option o (filter_map declaration (take s es)))) < length (filter (is_counted q) (cons_option o (filter_map declaration es)))) [
        | None ↦ rest
        | Some b ↦
            elim (is_counted q b) as (λ v. length (cond v (b ∷ sorted q (take s es)) (sorted q (take s es))) < length (cond v (b ∷ sorted q es) (sorted q es))) [
              | true ↦ omega (arith, rest)
              | false ↦ rest
            ]
      ]

  -- in the body of a component
  pub position-is : (c : Component) (s : ℕ) → AreDistinct (texts (scope_of c)) → slice_get (scope_of c) s ≡ Some (n, declared d)
      → position_or_len (declares n.text) (filter (is_counted q) (decls_of c)) ≡ declared_by q (take s (scope_of c))
  position-is c s single at = ap (position_or_len (declares n.text)) (sym (scope-sorted q c)) ∙ rank-first (scope_of c) s single (scope-named c) at

  pub position-within : (c : Component) (s : ℕ) → slice_get (scope_of c) s ≡ Some (n, declared d) → declared_by q (take s (scope_of c)) < length (filter (is_counted q) (decls_of c))
  position-within c s at = subst (λ ds. declared_by q (take s (scope_of c)) < length ds) (scope-sorted q c) (rank-within (scope_of c) s at)
