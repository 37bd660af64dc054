-- Types that have names, each settled after the one that it names, have the kinds for which their names stand.
use Rattle.std.proofs.Common.{◌≡◌, ◌≢◌, ℕ, zero, suc, ◌<◌, ◌≤◌, inl, inr, List, [], ◌∷◌, ◌++◌, length, refl, sym, ap, subst, ◌∙◌, append_assoc, arith, Option, Some, None}
use Rattle.std.specs.Prelude.{slice_get, slice_set, unwrap_or}
use Rattle.cif_system.specs.Words.{Member, AreDistinct, Before}
use Rattle.cif_system.proofs.Lists.{some-same, none-some, slice_get-below}
use Rattle.cif_ast.specs.declared.names.Ident.{Ident}
use Rattle.cif_source.specs.Source.{Text, TypeTree, bool_type, int_type, range_type, named_type, type_tree, type_decl, enum_decl, event_decl, const_decl, alg_decl, input_decl, disc_decl, equation_decl, invariant_decl, marked_decl, Source}
use Rattle.cif_source.specs.Components.{Component, as_written, declared, literal, location, inner, definition, instance, parameter}
use Rattle.cif_source.specs.Lookup.{Reached, reached, missing, blocked, found}
use Rattle.cif_source.specs.Objects.{bodies}
use Rattle.cif_source.specs.Kinds as rules
use Rattle.cif_source.specs.Kinds.{enum_of, type_kind_at, type_kind_by, type_kind_within}
use Rattle.cif_order.specs.Graph.{Needs, IsOrder, IsRank}
use Rattle.cif_order.proofs.Lists.{same-or-other, written-same, written-other}
use Rattle.cif_order.proofs.OrderLaws.{order-rank}
use Rattle.cif_scope.specs.declared.scopes.Scopes.{Scopes}
use Rattle.cif_scope.specs.Tables.{IsBody, Beside}
use Rattle.cif_scope.specs.Scopes.{AreNumbered}
use Rattle.cif_scope.proofs.Places.{beside-at}
use Rattle.cif_scope.proofs.LookLaws.{get-map}
use Rattle.cif_scope.proofs.WrittenLaws.{written}
use Rattle.cif_types_kinds.specs.declared.kind.Kind.{Kind}
use Rattle.cif_types_kinds.specs.declared.kind.Kind.TheVariants as kind
use Rattle.cif_types_kinds.specs.Tables.{kind_for}
use Rattle.cif_types_table.specs.declared.layout.Slot.{Slot}
use Rattle.cif_types_table.specs.declared.layout.NamedType.{NamedType}
use Rattle.cif_types_table.specs.declared.layout.NamedType.TheVariants as named
use Rattle.cif_types_table.specs.Layouts.{NamedTree, synonym, enumeration, named_tree}
use Rattle.cif_types_table.specs.Types.{type_named, type_in_type, kind_among, kind_of_type, settle_as, settle_one, settled}
use Rattle.cif_types_table.proofs.ListLaws.{IsListed}
use Rattle.cif_types_table.proofs.SlotLaws.{AreRows}
use Rattle.cif_types_table.proofs.NameLaws.{IsTypeOf, map-get, map-count, all, rows, graph, graph-count, synonym-needs, named-type}

-- ---- what stands before what

before-member : (x y : ℕ) (xs : List ℕ) → Before x y xs → Member y xs
before-member x y [] h = h
before-member x y (z ∷ xs) h = elim h [ inl w ↦ inr w.1 | inr b ↦ inr (before-member x y xs b) ]

member-right : (x : ℕ) (xs ys : List ℕ) → Member x ys → Member x (xs ++ ys)
member-right x [] ys h = h
member-right x (z ∷ xs) ys h = inr (member-right x xs ys h)

-- what stands behind an element of the rest is in the rest
before-rest : (x y : ℕ) (done rest : List ℕ) → AreDistinct (done ++ rest) → Before x y (done ++ rest) → Member x rest → Member y rest
before-rest x y [] rest d h m = before-member x y rest h
before-rest x y (z ∷ done) rest d h m =
    elim h [
      | inl w ↦ absurd (d.0 (subst (λ i. Member i (done ++ rest)) w.0 (member-right x done rest m)))
      | inr b ↦ before-rest x y done rest d.1 b m
    ]

set-length : {A : Type 0} (xs : List A) (k : ℕ) (x : A) → length (slice_set xs k x) ≡ length xs
set-length [] k x = refl
set-length (y ∷ xs) zero x = refl
set-length (y ∷ xs) (suc k) x = ap suc (set-length xs k x)

pub synonym-enumeration : (k : ℕ) (ty : TypeTree) (ls : List Ident) → synonym k ty ≡ enumeration ls → ⊥
synonym-enumeration k ty ls h = cc

pub same-body : (k j : ℕ) (ty u : TypeTree) → synonym k ty ≡ synonym j u → k ≡ j
same-body k j ty u h = cc

pub same-type : (k j : ℕ) (ty u : TypeTree) → synonym k ty ≡ synonym j u → ty ≡ u
same-type k j ty u h = cc

module _ (t : Source) (s : Scopes) (are : AreNumbered t s) (slots : List (List Slot)) (types : List NamedType) where
  abbrev every : List NamedTree
  every = all t s are slots types

  abbrev needs : List (List ℕ)
  needs = graph t s are slots types

  -- a synonym has the kind of its type, and an enumeration the one that it has here
  pub record AreSettled (first kinds : List Kind) : Type 0 where
    pub synonyms : (m j : ℕ) (ty : TypeTree) → slice_get every m ≡ Some (synonym j ty) → slice_get kinds m ≡ Some (kind_of_type s slots kinds j ty)
    pub enumerations : (m : ℕ) (ls : List Ident) → slice_get every m ≡ Some (enumeration ls) → slice_get kinds m ≡ slice_get first m

  -- ---- one after the other

  module _ (first : List Kind) (order : List ℕ) (is : IsOrder needs order) where
    -- those that are not in the rest are settled
    record IsPartly (rest : List ℕ) (kinds : List Kind) : Type 0 where
      sized : length kinds ≡ length every
      synonyms : (m j : ℕ) (ty : TypeTree) → slice_get every m ≡ Some (synonym j ty) → (Member m rest → ⊥) → slice_get kinds m ≡ Some (kind_of_type s slots kinds j ty)
      enumerations : (m : ℕ) (ls : List Ident) → slice_get every m ≡ Some (enumeration ls) → slice_get kinds m ≡ slice_get first m

    needs-itself : (x : ℕ) → Needs needs x x → ⊥
    needs-itself x h = let r = order-rank needs order is in let falls : r.0 x < r.0 x = r.1.falls x x h in omega arith

    -- the kind of a type that doesn't name the one that is settled
    same-kind : (kinds : List Kind) (x : ℕ) (k : Kind) (j : ℕ) (ty : TypeTree) → ((l : ℕ) → type_in_type s slots j ty ≡ Some l → l ≢ x)
        → kind_of_type s slots (slice_set kinds x k) j ty ≡ kind_of_type s slots kinds j ty
    same-kind kinds x k j bool_type h = refl
    same-kind kinds x k j int_type h = refl
    same-kind kinds x k j (range_type lower upper) h = refl
    same-kind kinds x k j (named_type nm) h = go (type_named s slots j nm) h
      where
        go : (o : Option ℕ) → ((l : ℕ) → o ≡ Some l → l ≢ x) → kind_among (slice_set kinds x k) o ≡ kind_among kinds o
        go None h = refl
        go (Some l) h = ap (λ o. unwrap_or o kind.None) (written-other kinds x l k (h l refl))

    module _ (done rest : List ℕ) (x : ℕ) (parts : order ≡ done ++ x ∷ rest) (kinds : List Kind) (old : IsPartly (x ∷ rest) kinds) where
      apart : (m : ℕ) → m ≢ x → (Member m rest → ⊥) → Member m (x ∷ rest) → ⊥
      apart m n h w = elim w [ inl e ↦ n e | inr g ↦ h g ]

      -- what a settled one needs is settled
      need-done : (m l : ℕ) → m ≢ x → (Member m rest → ⊥) → Needs needs m l → l ≢ x
      need-done m l n h need e =
          let before : Before l m (done ++ x ∷ rest) = subst (λ (xs : List ℕ). Before l m xs) parts (is.after m l need) in
          let once : AreDistinct (done ++ x ∷ rest) = subst (λ (xs : List ℕ). AreDistinct xs) parts is.once in
          apart m n h (before-rest l m done (x ∷ rest) once before (inl e))

      synonym-step : (k : ℕ) (ty : TypeTree) → slice_get every x ≡ Some (synonym k ty) → IsPartly rest (slice_set kinds x (kind_of_type s slots kinds k ty))
      synonym-step k ty at = record {
        sized = set-length kinds x (kind_of_type s slots kinds k ty) ∙ old.sized;
        synonyms = λ m j u h g. elim (same-or-other m x) [
          | inl e ↦
              let here : slice_get every x ≡ Some (synonym j u) = subst (λ i. slice_get every i ≡ Some (synonym j u)) e h in
              let one : synonym j u ≡ synonym k ty = some-same (synonym j u) (synonym k ty) (sym here ∙ at) in
              let below : x < length every = slice_get-below every x (synonym k ty) at in
              let sized : length kinds ≡ length every = old.sized in
              let within : x < length kinds = omega arith in
              let new : kind_of_type s slots (slice_set kinds x (kind_of_type s slots kinds k ty)) j u ≡ kind_of_type s slots kinds j u =
              same-kind kinds x (kind_of_type s slots kinds k ty) j u (λ l f same. needs-itself x (subst (λ i. Needs needs x i) same (synonym-needs t s are slots types x j l u here f))) in
              let value : kind_of_type s slots kinds k ty ≡ kind_of_type s slots kinds j u =
              ap (λ i. kind_of_type s slots kinds i ty) (sym (same-body j k u ty one)) ∙ ap (kind_of_type s slots kinds j) (sym (same-type j k u ty one)) in
              ap (slice_get (slice_set kinds x (kind_of_type s slots kinds k ty))) e ∙ written-same kinds x (kind_of_type s slots kinds k ty) within ∙ ap Some (value ∙ sym new)
          | inr n ↦
              let new : kind_of_type s slots (slice_set kinds x (kind_of_type s slots kinds k ty)) j u ≡ kind_of_type s slots kinds j u =
              same-kind kinds x (kind_of_type s slots kinds k ty) j u (λ l f. need-done m l n g (synonym-needs t s are slots types m j l u h f)) in
              written-other kinds x m (kind_of_type s slots kinds k ty) n ∙ old.synonyms m j u h (apart m n g) ∙ ap Some (sym new)
        ];
        enumerations = λ m ls h. elim (same-or-other m x) [
          | inl e ↦ absurd (synonym-enumeration k ty ls (some-same (synonym k ty) (enumeration ls) (sym at ∙ subst (λ i. slice_get every i ≡ Some (enumeration ls)) e h)))
          | inr n ↦ written-other kinds x m (kind_of_type s slots kinds k ty) n ∙ old.enumerations m ls h
        ];
      }

      other-step : ((k : ℕ) (ty : TypeTree) → slice_get every x ≡ Some (synonym k ty) → ⊥) → IsPartly rest kinds
      other-step none = record {
        sized = old.sized;
        synonyms = λ m j u h g. elim (same-or-other m x) [
          | inl e ↦ absurd (none j u (subst (λ i. slice_get every i ≡ Some (synonym j u)) e h))
          | inr n ↦ old.synonyms m j u h (apart m n g)
        ];
        enumerations = old.enumerations;
      }

      settle-step : IsPartly rest (settle_one s slots types kinds x)
      settle-step = go (slice_get types x) refl
        where
          mapped : (y : NamedType) → slice_get types x ≡ Some y → slice_get every x ≡ Some (named_tree y)
          mapped y e = get-map named_tree types x y e

          go : (o : Option NamedType) → slice_get types x ≡ o → IsPartly rest (settle_as s slots o kinds x)
          go None e = other-step (λ k ty h. let w = map-get named_tree types x (synonym k ty) h in none-some w.0 (sym e ∙ w.1))
          go (Some (named.Synonym k ty)) e = synonym-step k (type_tree ty.now) (mapped (named.Synonym k ty) e)
          go (Some (named.Enumeration ls)) e =
              other-step (λ k ty h. synonym-enumeration k ty ls.now (some-same (synonym k ty) (enumeration ls.now) (sym h ∙ mapped (named.Enumeration ls) e)))

    settle-all : (done rest : List ℕ) (kinds : List Kind) → order ≡ done ++ rest → IsPartly rest kinds → IsPartly [] (settled s slots types kinds rest)
    settle-all done [] kinds parts h = h
    settle-all done (x ∷ rest) kinds parts h =
        settle-all (done ++ x ∷ []) rest (settle_one s slots types kinds x) (parts ∙ sym (append_assoc done (x ∷ []) rest)) (settle-step done rest x parts kinds h)

    -- in the order every one is settled
    pub kinds-settled : length first ≡ length types → AreSettled first (settled s slots types first order)
    kinds-settled long =
        let end = settle-all [] order first refl (record {
          sized = long ∙ sym (map-count named_tree types);
          synonyms = λ m j ty h g. absurd (g (is.each m (
              let below : m < length every = slice_get-below every m (synonym j ty) h in
              let count : length needs ≡ length every = graph-count t s are slots types in
              omega arith)));
          enumerations = λ m ls h. refl;
        }) in
        record {
          synonyms = λ m j ty h. end.synonyms m j ty h (λ w. w);
          enumerations = end.enumerations;
        }

  -- ---- kinds of types

  module _ (slotted : AreRows every 0 (bodies t) (rows t s are slots types)) (lists : List (List Text)) (first kinds : List Kind) (listed : Beside (IsListed lists) types first) (ends : AreSettled first kinds) where
    abbrev value : Kind → rules.Kind
    value k = kind_for lists k

    pub enumeration-kind : (m : ℕ) (ls : List Ident) → slice_get every m ≡ Some (enumeration ls) → value (kind_among kinds (Some m)) ≡ enum_of ls
    enumeration-kind m ls h =
        let y = map-get named_tree types m (enumeration ls) h in
        let k = beside-at (IsListed lists) types first m y.0 listed y.1 in
        ap (λ o. value (unwrap_or o kind.None)) (ends.enumerations m ls h ∙ k.1) ∙ go y.0 k.0 k.2 y.2
      where
        same-literals : (xs ys : List Ident) → enumeration xs ≡ enumeration ys → xs ≡ ys
        same-literals xs ys e = cc

        go : (y : NamedType) (k : Kind) → IsListed lists y k → named_tree y ≡ enumeration ls → value k ≡ enum_of ls
        go (named.Synonym j ty) k g e = absurd (synonym-enumeration j (type_tree ty.now) ls e)
        go (named.Enumeration xs) k g e = g ∙ ap enum_of (same-literals xs.now ls e)

    at-kind : (more : Component → TypeTree → rules.Kind) (r : Reached) (o : Option ℕ) → IsTypeOf t every (written r) o
        → ((m j : ℕ) (d : Component) (ty : TypeTree) → o ≡ Some m → slice_get every m ≡ Some (synonym j ty) → IsBody t j (as_written d) → more d ty ≡ value (kind_among kinds (Some m)))
        → type_kind_at more r ≡ value (kind_among kinds o)
    at-kind more (reached (d, declared (type_decl n ty))) o h go = go h.0 h.1 d ty h.2 h.3 h.4 ∙ sym (ap (λ p. value (kind_among kinds p)) h.2)
    at-kind more (reached (d, declared (enum_decl n ls))) o h go = sym (enumeration-kind h.0 ls h.2) ∙ sym (ap (λ p. value (kind_among kinds p)) h.1)
    at-kind more (reached (d, declared (event_decl c i n))) o h go = sym (ap (λ p. value (kind_among kinds p)) h)
    at-kind more (reached (d, declared (const_decl ty n e))) o h go = sym (ap (λ p. value (kind_among kinds p)) h)
    at-kind more (reached (d, declared (alg_decl ty n e))) o h go = sym (ap (λ p. value (kind_among kinds p)) h)
    at-kind more (reached (d, declared (input_decl ty n))) o h go = sym (ap (λ p. value (kind_among kinds p)) h)
    at-kind more (reached (d, declared (disc_decl ty n e))) o h go = sym (ap (λ p. value (kind_among kinds p)) h)
    at-kind more (reached (d, declared (equation_decl q))) o h go = sym (ap (λ p. value (kind_among kinds p)) h)
    at-kind more (reached (d, declared (invariant_decl i))) o h go = sym (ap (λ p. value (kind_among kinds p)) h)
    at-kind more (reached (d, declared (marked_decl p))) o h go = sym (ap (λ p. value (kind_among kinds p)) h)
    at-kind more (reached (d, literal j ls)) o h go = sym (ap (λ p. value (kind_among kinds p)) h)
    at-kind more (reached (d, location j)) o h go = sym (ap (λ p. value (kind_among kinds p)) h)
    at-kind more (reached (d, inner n b)) o h go = sym (ap (λ p. value (kind_among kinds p)) h)
    at-kind more (reached (d, definition n ps b)) o h go = sym (ap (λ p. value (kind_among kinds p)) h)
    at-kind more (reached (d, instance i)) o h go = sym (ap (λ p. value (kind_among kinds p)) h)
    at-kind more (reached (d, parameter j q)) o h go = sym (ap (λ p. value (kind_among kinds p)) h)
    at-kind more missing o h go = sym (ap (λ p. value (kind_among kinds p)) h)
    at-kind more blocked o h go = sym (ap (λ p. value (kind_among kinds p)) h)

    -- the kind of a type, where those that it names have theirs
    by-kind : (more : Component → TypeTree → rules.Kind) (d : Component) (k : ℕ) (ty : TypeTree) → IsBody t k (as_written d)
        → ((m j : ℕ) (e : Component) (u : TypeTree) → type_in_type s slots k ty ≡ Some m → slice_get every m ≡ Some (synonym j u) → IsBody t j (as_written e) → more e u ≡ value (kind_among kinds (Some m)))
        → type_kind_by more d ty ≡ value (kind_of_type s slots kinds k ty)
    by-kind more d k bool_type own go = refl
    by-kind more d k int_type own go = refl
    by-kind more d k (range_type lower upper) own go = refl
    by-kind more d k (named_type nm) own go = at-kind more (found d nm) (type_named s slots k nm) (named-type t s are slots types slotted d k nm own) go

    module _ (rank : ℕ → ℕ) (ranked : IsRank needs rank) where
      -- through as many names as its rank
      synonym-kind : (n m j : ℕ) (d : Component) (ty : TypeTree) → slice_get every m ≡ Some (synonym j ty) → IsBody t j (as_written d) → rank m ≤ n
          → type_kind_within n d ty ≡ value (kind_among kinds (Some m))
      synonym-kind zero m j d ty h own low =
          by-kind (λ e u. rules.no_kind) d j ty own (λ l i e u f g is.
          let falls : rank l < rank m = ranked.falls m l (synonym-needs t s are slots types m j l ty h f) in
          absurd (omega arith))
          ∙ sym (ap (λ o. value (unwrap_or o kind.None)) (ends.synonyms m j ty h))
      synonym-kind (suc n) m j d ty h own low =
          by-kind (type_kind_within n) d j ty own (λ l i e u f g is.
          let falls : rank l < rank m = ranked.falls m l (synonym-needs t s are slots types m j l ty h f) in
          let less : rank l ≤ n = omega arith in
          synonym-kind n l i e u g is less)
          ∙ sym (ap (λ o. value (unwrap_or o kind.None)) (ends.synonyms m j ty h))

      -- through as many as there are
      pub whole-kind : (n k : ℕ) (d : Component) (ty : TypeTree) → length every ≤ n → IsBody t k (as_written d) → type_kind_within n d ty ≡ value (kind_of_type s slots kinds k ty)
      whole-kind zero k d ty low own =
          by-kind (λ e u. rules.no_kind) d k ty own (λ l i e u f g is.
          let below : l < length every = slice_get-below every l (synonym i u) g in
          absurd (omega arith))
      whole-kind (suc n) k d ty low own =
          by-kind (type_kind_within n) d k ty own (λ l i e u f g is.
          let below : l < length every = slice_get-below every l (synonym i u) g in
          let count : length needs ≡ length every = graph-count t s are slots types in
          let inside : l < length needs = omega arith in
          let small : rank l < length needs = ranked.within l inside in
          let less : rank l ≤ n = omega arith in
          synonym-kind n l i e u g is less)
