-- A type of a source that has a kind has that kind in the net, and a constant of it fits the kind.
use Rattle.std.proofs.Common.{◌≡◌, ℕ, zero, suc, ◌≤◌, ◌<◌, ℤ, pos, ◌-ℤ◌, true, false, ◌⊎◌, inl, inr, List, [], ◌∷◌, length, Option, refl, sym, ◌∙◌, ap, subst, arith}
use Rattle.std.specs.Prelude.{◌&&◌, flat_map, int_le, int_lt}
use Rattle.std.proofs.lemmas.Int.{ints}
use Rattle.cif_base.specs.declared.types.Ty.{Ty}
use Rattle.cif_base.specs.declared.types.Ty.TheVariants as ty
use Rattle.cif_ast.specs.Tree.{Tree}
use Rattle.cif_ast.specs.declared.names.Ident.{Ident}
use Rattle.cif_system.specs.System.{in_range}
use Rattle.cif_system.specs.Words.{Member}
use Rattle.cif_system.proofs.Lists.{false-true, map-length}
use Rattle.cif_system.proofs.Picks.{append-right, flat_map-member}
use Rattle.cif_net_model.specs.Net.{Net}
use Rattle.cif_net_model.specs.Meaning.{type_range}
use Rattle.cif_net_model.specs.Kinds as net
use Rattle.cif_net_model.specs.Kinds.{in_32_bits, number_fits, form_fits}
use Rattle.cif_source.specs.Source.{TypeTree, bool_type, int_type, range_type, named_type, DeclTree, type_decl, enum_decl, event_decl, const_decl, alg_decl, input_decl, disc_decl, equation_decl, invariant_decl, marked_decl, Source, tree_at}
use Rattle.cif_source.specs.Components.{Component, specification_of, params_of, Entry, declared, literal, location, inner, definition, instance, parameter}
use Rattle.cif_source.specs.Lookup.{ScopeEntry, Reached, reached, missing, blocked, found}
use Rattle.cif_source.specs.Objects.{components_of, bodies, decls_of, declarations}
use Rattle.cif_source.specs.Value.{constant}
use Rattle.cif_source.specs.Types.{signed_range}
use Rattle.cif_source.specs.Constants.{decl_types, param_types, types_of, Bounds, bounds_in, bounds_of, bound_values}
use Rattle.cif_source.specs.InstanceRules.{FaultyConstant, LeavesRange, LongBound, EmptyRange}
use Rattle.cif_source.specs.Kinds.{Kind, bool_kind, int_kind, no_kind, enum_of, type_kind_at, type_kind_by, type_kind_within, type_kind}
use Rattle.cif_inst_model.specs.Types.{NetType, plain_type, enum_type, type_at, type_by, type_within, net_type}
use Rattle.cif_inst_model.specs.Translation.{net_constant}
use Rattle.cif_inst_model.proofs.RuleLaws.{member-any}
use Rattle.cif_inst_laws.specs.Kinds.{net_kind}
use Rattle.cif_inst_laws.proofs.ExprLaws.{is_valued}
use Rattle.cif_inst_bodies.specs.Entries.{IsOf}
use Rattle.cif_inst_laws.proofs.Chains.{kind-within}
use Rattle.cif_inst_laws.proofs.SoundLaws.{IsSound, root, IsFound, found-is}

-- ---- numbers

within-bits : (lo hi z : ℤ) → in_32_bits lo ≡ true → in_32_bits hi ≡ true → in_range (record { lo = lo; hi = hi }) z ≡ true → in_32_bits z ≡ true
within-bits lo hi z h g k = grind (arith, ints)

-- a place in an enumeration with few literals
pub place-fits : (m : ℕ) (z : ℤ) → m ≤ 2147483647 → in_range (record { lo = pos 0; hi = pos m -ℤ pos 1 }) z ≡ true → (in_32_bits z && int_le (pos 0) z && int_lt z (pos m)) ≡ true
place-fits m z few h = grind (arith, ints)

pub literal-fits : (m k : ℕ) → m ≤ 2147483647 → k < m → (in_32_bits (pos k) && int_le (pos 0) (pos k) && int_lt (pos k) (pos m)) ≡ true
literal-fits m k few h = grind (arith, ints)

-- ---- types

-- the type has the kind, and a constant of the type fits the kind
pub record TypeFits (n : Net) (k : Kind) (y : NetType) : Type 0 where
  pub same : net.kind_of y.type_of y.literals ≡ net_kind k
  pub constants : (r : Option Ty) (z : ℤ) → in_range (type_range y.type_of) z ≡ true → form_fits n r (net_kind k) (net_constant y.type_of z) ≡ true

enum-fits : (n : Net) (ls : List Ident) → length ls ≤ 2147483647 → TypeFits n (enum_of ls) (enum_type ls)
enum-fits n ls few = record {
  same = refl;
  constants = λ r z h. subst (λ m. (in_32_bits z && int_le (pos 0) z && int_lt z (pos m)) ≡ true) (sym (map-length (λ (i : Ident). i.text) ls)) (place-fits (length ls) z few h);
}

range-fits : (n : Net) (lo hi : ℤ) → in_32_bits lo ≡ true → in_32_bits hi ≡ true → TypeFits n int_kind (plain_type (ty.Int lo hi))
range-fits n lo hi h g = record { same = refl; constants = λ r z k. within-bits lo hi z h g k }

bool-fits : (n : Net) → TypeFits n bool_kind (plain_type ty.Bool)
bool-fits n = record { same = refl; constants = λ r z k. refl }

-- a type that a declaration of a component writes is one of the component's
pub written : (c : Component) (d : DeclTree) (x : TypeTree) → Member d (decls_of c) → Member x (decl_types d) → Member x (types_of c)
written c d x m k = append-right x (flat_map param_types (params_of c)) (flat_map decl_types (decls_of c)) (flat_map-member decl_types d (decls_of c) x m k)

module _ (t : Source) (s : IsSound t) (n : Net) where
  -- no bound leaves 32 bits
  pub bound-kept : (c : Component) → Member c (components_of t) → (e : Tree) → Member e (bound_values c) → in_32_bits (constant c e) ≡ true
  bound-kept c m e k =
      (elim (in_range (signed_range 32) (constant c e)) as (λ b. in_range (signed_range 32) (constant c e) ≡ b → b ≡ true) [
        | true ↦ λ i. refl
        | false ↦ λ i.
            let long : LongBound c (tree_at e) = member-any _ e (bound_values c) k (refl, i) in
            absurd (s.ranges (tree_at e) (member-any (λ c. FaultyConstant c (tree_at e) ⊎ LeavesRange c (tree_at e) ⊎ LongBound c (tree_at e) ⊎ EmptyRange c (tree_at e)) c (components_of t) m (inr (inr (inl long)))))
      ]) refl

  bounds-kept : (c : Component) → Member c (components_of t) → (lower upper : Tree) → Member (range_type lower upper) (types_of c) → (in_32_bits (constant c lower) ≡ true) × (in_32_bits (constant c upper) ≡ true)
  bounds-kept c m lower upper k =
      let two : Member {A = Bounds} (lower, upper) (bounds_of c) = flat_map-member bounds_in (range_type lower upper) (types_of c) (lower, upper) k (inl refl) in (
        bound-kept c m lower (flat_map-member (λ (b : Bounds). b.0 ∷ b.1 ∷ []) (lower, upper) (bounds_of c) lower two (inl refl)),
        bound-kept c m upper (flat_map-member (λ (b : Bounds). b.0 ∷ b.1 ∷ []) (lower, upper) (bounds_of c) upper two (inr (inl refl))),
      )

  -- for the types that the components write
  abbrev Follow : (Component → TypeTree → Kind) → (Component → TypeTree → NetType) → Type 0
  Follow kinds types = (c : Component) → Member c (components_of t) → (x : TypeTree) → Member x (types_of c) → is_valued (kinds c x) ≡ true → TypeFits n (kinds c x) (types c x)

  module _ (kinds : Component → TypeTree → Kind) (types : Component → TypeTree → NetType) (more : Follow kinds types) where
    place-follows : (c : Component) (e : Entry) → Member c (components_of t) → IsOf c e → is_valued (type_kind_at kinds (reached (c, e))) ≡ true → TypeFits n (type_kind_at kinds (reached (c, e))) (type_at types (reached (c, e)))
    place-follows c (declared (type_decl i x)) m p v = more c m x (written c (type_decl i x) x p (inl refl)) v
    place-follows c (declared (enum_decl i ls)) m p v = enum-fits n ls (s.literals c m i ls p).1
    place-follows c (declared (event_decl k h i)) m p v = absurd (false-true refl v)
    place-follows c (declared (const_decl x i e)) m p v = absurd (false-true refl v)
    place-follows c (declared (alg_decl x i e)) m p v = absurd (false-true refl v)
    place-follows c (declared (input_decl x i)) m p v = absurd (false-true refl v)
    place-follows c (declared (disc_decl x i e)) m p v = absurd (false-true refl v)
    place-follows c (declared (equation_decl q)) m p v = absurd (false-true refl v)
    place-follows c (declared (invariant_decl i)) m p v = absurd (false-true refl v)
    place-follows c (declared (marked_decl q)) m p v = absurd (false-true refl v)
    place-follows c (literal k ls) m p v = absurd (false-true refl v)
    place-follows c (location k) m p v = absurd (false-true refl v)
    place-follows c (inner i b) m p v = absurd (false-true refl v)
    place-follows c (definition i ps b) m p v = absurd (false-true refl v)
    place-follows c (instance i) m p v = absurd (false-true refl v)
    place-follows c (parameter k q) m p v = absurd (false-true refl v)

    reached-follows : (r : Reached) → ((y : ScopeEntry) → r ≡ reached y → IsFound t s y) → is_valued (type_kind_at kinds r) ≡ true → TypeFits n (type_kind_at kinds r) (type_at types r)
    reached-follows missing f v = absurd (false-true refl v)
    reached-follows blocked f v = absurd (false-true refl v)
    reached-follows (reached (c, e)) f v = let is = f (c, e) refl in place-follows c e is.home is.own v

    by-follows : Follow (type_kind_by kinds) (type_by types)
    by-follows c m bool_type k v = bool-fits n
    by-follows c m int_type k v = range-fits n (signed_range 32).lo (signed_range 32).hi refl refl
    by-follows c m (range_type lower upper) k v = let two = bounds-kept c m lower upper k in range-fits n (constant c lower) (constant c upper) two.0 two.1
    by-follows c m (named_type nm) k v = reached-follows (found c nm) (found-is t s c m nm) v

  within-follows : (m : ℕ) → Follow (type_kind_within m) (type_within m)
  within-follows zero = by-follows (λ c x. no_kind) (λ c x. plain_type (ty.Int (pos 0) (pos 0))) (λ c m x k v. absurd (false-true refl v))
  within-follows (suc m) = by-follows (type_kind_within m) (type_within m) (within-follows m)

  -- a type that a component writes has the kind in the net, where it has one
  pub type-fits : (c : Component) → Member c (components_of t) → (x : TypeTree) → Member x (types_of c) → is_valued (type_kind c x) ≡ true → TypeFits n (type_kind c x) (net_type c x)
  type-fits c m x k v =
      let same : type_kind_within (length (declarations t)) c x ≡ type_kind c x = kind-within t s.few (length (flat_map decls_of (bodies (specification_of c)))) c m x v in
      let all : length (declarations (specification_of c)) ≡ length (declarations t) = ap (λ r. length (declarations r)) (root t s c m) in
      subst (λ j. TypeFits n j (net_type c x)) same
      (subst (λ j. TypeFits n (type_kind_within (length (declarations t)) c x) (type_within j c x)) (sym all)
      (within-follows (length (declarations t)) c m x k (ap is_valued same ∙ v)))
