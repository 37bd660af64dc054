-- A translated expression of a listed component has the value of the expression.
use Rattle.std.proofs.Common.{◌≡◌, ℕ, zero, suc, ◌+◌, ◌≤◌, ℤ, pos, negsuc, Bool, true, false, not, cond, inl, inr, List, [], ◌∷◌, ◌++◌, length, map, Option, Some, refl, sym, ◌∙◌, ap, arith}
use Rattle.std.specs.Prelude.{◌&&◌, flat_map, option_map, slice_get, slice_index_or}
use Rattle.std.proofs.lemmas.Option.{slice_get-map}
use Rattle.std.specs.List.{list_all, position_or_len}
use Rattle.std.specs.Option.{option_to_list}
use Rattle.std.proofs.lemmas.Int.{ints}
use Rattle.std.proofs.lemmas.Cmp.{lists_equiv, nat_list_eq_equiv}
use Rattle.cif_base.specs.declared.types.Ty.{Ty}
use Rattle.cif_base.specs.declared.types.Ty.TheVariants as ty
use Rattle.cif_ast.specs.Tree.{Tree}
use Rattle.cif_ast.specs.declared.names.Ident.{Ident}
use Rattle.cif_system.specs.Words.{Member}
use Rattle.cif_system.specs.System.{State, in_range}
use Rattle.cif_system.proofs.Lists.{filter-member, false-true, map-length}
use Rattle.cif_net_expr.specs.Tree.{NetExpr, net_expr, n_number}
use Rattle.cif_net_model.specs.Net.{AlgValue, one_value, by_loc}
use Rattle.cif_net_model.specs.Unfolding.{at_or}
use Rattle.cif_net_model.specs.Value.{net_value, net_form_value}
use Rattle.cif_net_model.specs.Meaning as net
use Rattle.cif_net_model.specs.Meaning.{type_range, alg_values, value_in}
use Rattle.cif_net_model.proofs.Orders.{Lies, lies-from_test}
use Rattle.cif_net_model.proofs.Passing.{all-member}
use Rattle.cif_net_model.proofs.UnfoldLaws.{map-at}
use Rattle.cif_source.specs.Source.{Text, Source, LocationTree, type_decl, enum_decl, event_decl, const_decl, alg_decl, input_decl, disc_decl, equation_decl, invariant_decl, marked_decl, TypeTree}
use Rattle.cif_source.specs.Components.{Component, specification_of, path_of, same_text, same_path, declared, literal, location, inner, definition, instance, parameter}
use Rattle.cif_source.specs.Lookup.{ScopeEntry, follow}
use Rattle.cif_source.specs.Objects.{components_of, most_objects, Declared, declarations, algs, is_alg, is_declared, number_in, locs_of, automaton_number}
use Rattle.cif_source.specs.Value.{is_true, of_bool, constant, value_with, value_by, value_within, value_of, object_value, first_value, at_or_last, own_definitions, location_definitions, definitions, place_in}
use Rattle.cif_source.specs.Types.{range_of}
use Rattle.cif_inst_model.specs.Types.{net_type}
use Rattle.cif_inst_model.specs.Translation.{net_with, net_constant, net_object, net_name, net_of}
use Rattle.cif_inst_model.specs.Flat.{net_definition, net_alg, net_of_source}
use Rattle.cif_inst_model.proofs.TranslationLaws.{expr-value}
use Rattle.cif_inst_model.proofs.FollowLaws.{follow-related}
use Rattle.cif_inst_model.proofs.TypeLaws.{range-same}
use Rattle.cif_source.proofs.ReachLaws.{frames-listed}
use Rattle.cif_inst_model.proofs.FoundLaws.{Home, Ok, outward-ok, root-ok, inside-ok, giver-home, declaration-listed}

-- ---- constants

truth-kept : (z : ℤ) → in_range (type_range ty.Bool) z ≡ true → of_bool (is_true z) ≡ z
truth-kept (pos zero) h = refl
truth-kept (pos (suc zero)) h = refl
truth-kept (pos (suc (suc n))) h = let l : Lies (type_range ty.Bool) (pos (suc (suc n))) = lies-from_test (type_range ty.Bool) (pos (suc (suc n))) h in absurd (omega (arith, ints))
truth-kept (negsuc n) h = let l : Lies (type_range ty.Bool) (negsuc n) = lies-from_test (type_range ty.Bool) (negsuc n) h in absurd (omega (arith, ints))

constant-kept : (alg : ℕ → ℤ) (s : State) (r : ℤ) (t : Ty) (z : ℤ) → in_range (type_range t) z ≡ true → net_form_value alg s r (net_constant t z) ≡ z
constant-kept alg s r ty.Bool z h = truth-kept z h
constant-kept alg s r (ty.Int lo hi) z h = refl
constant-kept alg s r (ty.Enum size) z h = refl

-- the value of a constant lies in its declared range
abbrev pub constant_fits : Declared → Bool
constant_fits (c, const_decl t n e) = in_range (range_of c t) (constant c e)
constant_fits _ = true

-- ---- numbers

text-self : (x : Text) → same_text x x ≡ true
text-self x = nat_list_eq_equiv.refl x

path-self : (p : List Text) → same_path p p ≡ true
path-self p = (lists_equiv nat_list_eq_equiv).refl p

-- the first that passes stands at the position that is told
position-first : {A : Type 0} → (p : A → Bool) → (xs : List A) → (y : A) → Member y xs → p y ≡ true → ((x : A) → Member x xs → p x ≡ true → x ≡ y) → slice_get xs (position_or_len p xs) ≡ Some y
position-first p [] y m h alone = absurd m
position-first p (x ∷ xs) y m h alone =
    (elim (p x) as (λ b. p x ≡ b → slice_get (x ∷ xs) (cond (not b) (1 + position_or_len p xs) 0) ≡ Some y) [
      | true ↦ λ g. ap Some (alone x (inl refl) g)
      | false ↦ λ g.
          let next : 1 + position_or_len p xs ≡ suc (position_or_len p xs) = omega arith in
          ap (slice_get (x ∷ xs)) next
          ∙ elim m [
            | inl w ↦ absurd (false-true g (ap p (sym w) ∙ h))
            | inr w ↦ position-first p xs y w h (λ z k. alone z (inr k))
          ]
    ]) refl

-- no two algebraic variables have one path
abbrev pub AlgsDiffer : Source → Type 0
AlgsDiffer t = (c : Component) (x : TypeTree) (n : Ident) (e : Option Tree) (d : Declared) → Member (c, alg_decl x n e) (algs t) → Member d (algs t) → is_declared c n.text d ≡ true → d ≡ (c, alg_decl x n e)

alg-number : (t : Source) → AlgsDiffer t → (c : Component) (x : TypeTree) (n : Ident) (e : Option Tree) → Member (c, alg_decl x n e) (algs t) → slice_get (algs t) (number_in (algs t) c n.text) ≡ Some (c, alg_decl x n e)
alg-number t differ c x n e m =
    position-first (is_declared c n.text) (algs t) (c, alg_decl x n e) m
    (ap (λ b. b && same_path (path_of c) (path_of c)) (text-self n.text) ∙ path-self (path_of c))
    (λ d k h. differ c x n e d m k h)

-- ---- definitions of algebraic variables

module _ (alg : ℕ → ℤ) (s : State) (r : ℤ) (c : Component) (value : Tree → ℤ) (same : (e : Tree) → net_value alg s r (net_of c e) ≡ value e) where
  definition-value : (es : List Tree) → net_value alg s r (net_definition c es) ≡ first_value value (es ++ [])
  definition-value [] = refl
  definition-value (e ∷ es) = same e

  by_location-value : (x : Text) (ls : List LocationTree) (k : ℕ)
      → net.at_or_last (map (λ l. net_definition c (location_definitions x l)) ls) k (net_value alg s r) ≡ first_value value (flat_map (location_definitions x) (option_to_list (at_or_last ls k)))
  by_location-value x [] k = refl
  by_location-value x (l ∷ []) zero = definition-value (location_definitions x l)
  by_location-value x (l ∷ []) (suc k) = definition-value (location_definitions x l)
  by_location-value x (l ∷ m ∷ ls) zero = definition-value (location_definitions x l)
  by_location-value x (l ∷ m ∷ ls) (suc k) = by_location-value x (m ∷ ls) k

  abbrev told : AlgValue → ℤ
  told (one_value f) = net_value alg s r f
  told (by_loc k es) = net.at_or_last es (slice_index_or s.locs k 0) (net_value alg s r)

  abbrev defined_as : Text → List Tree → AlgValue
  defined_as x [] = by_loc (automaton_number (specification_of c) c) (map (λ l. net_definition c (location_definitions x l)) (locs_of c))
  defined_as x (d ∷ ds) = one_value (net_of c d)

  definitions-value : (x : Text) (ds : List Tree) → told (defined_as x ds) ≡ first_value value (ds ++ flat_map (location_definitions x) (option_to_list (at_or_last (locs_of c) (place_in s c))))
  definitions-value x [] = by_location-value x (locs_of c) (place_in s c)
  definitions-value x (d ∷ ds) = same d

  pub alg-value : (x : TypeTree) (n : Ident) (e : Option Tree) → net.alg_value (net_value alg s r) s (net_alg (c, alg_decl x n e)) ≡ first_value value (definitions c n.text e (place_in s c))
  alg-value x n e = definitions-value n.text (own_definitions c n.text e)

-- ---- expressions

none-value : (es : List Tree) → pos 0 ≡ first_value (λ e. pos 0) es
none-value [] = refl
none-value (e ∷ es) = refl

-- what gives the values of definitions, with m unfoldings
abbrev defined_with : ℕ → State → ℤ → Component → Tree → ℤ
defined_with zero s r c e = pos 0
defined_with (suc m) s r c e = value_within m s r c e

module _ (t : Source) (few : length (components_of t) ≤ most_objects) (fits : list_all constant_fits (declarations t) ≡ true) (differ : AlgsDiffer t) (s : State) (r : ℤ) where
  abbrev Values : ℕ → Type 0
  Values m = (c : Component) → Home t few c → (e : Tree) → net_value (at_or (pos 0) (alg_values (net_of_source t) s r m)) s r (net_of c e) ≡ value_by s r (defined_with m s r) c e

  -- the value of what is declared, where those of definitions are given
  module _ (alg : ℕ → ℤ) (defined : Component → Tree → ℤ)
      (algs-same : (c : Component) (x : TypeTree) (n : Ident) (e : Option Tree) → Home t few c → Member (c, alg_decl x n e) (algs t) → alg (number_in (algs (specification_of c)) c n.text) ≡ first_value (defined c) (definitions c n.text e (place_in s c))) where
    object-value : (x : ScopeEntry) → Ok t few x → (at : ℕ) → net_value alg s r (net_expr (net_object x) at) ≡ object_value s defined x
    object-value (c, declared (const_decl u n e)) ok at =
        constant-kept alg s r (net_type c u).type_of (constant c e)
        (ap (λ k. in_range k (constant c e)) (range-same c u) ∙ all-member constant_fits (declarations t) (c, const_decl u n e) fits (declaration-listed t few c (const_decl u n e) ok.0.0 ok.1))
    object-value (c, declared (alg_decl u n e)) ok at =
        algs-same c u n e ok.0.0 (filter-member (λ d. is_alg d.1) (declarations t) (c, alg_decl u n e) (declaration-listed t few c (alg_decl u n e) ok.0.0 ok.1) refl)
    object-value (c, declared (disc_decl u n e)) ok at = refl
    object-value (c, declared (input_decl u n)) ok at = refl
    object-value (c, declared (type_decl n u)) ok at = refl
    object-value (c, declared (enum_decl n ls)) ok at = refl
    object-value (c, declared (event_decl k h n)) ok at = refl
    object-value (c, declared (equation_decl q)) ok at = refl
    object-value (c, declared (invariant_decl i)) ok at = refl
    object-value (c, declared (marked_decl p)) ok at = refl
    object-value (c, literal k ls) ok at = refl
    object-value (c, location k) ok at = refl
    object-value (c, inner n b) ok at = refl
    object-value (c, definition n ps b) ok at = refl
    object-value (c, instance i) ok at = refl
    object-value (c, parameter k p) ok at = refl

    pub net_of-value : (c : Component) → Home t few c → (e : Tree) → net_value alg s r (net_of c e) ≡ value_by s r defined c e
    net_of-value c home e =
        expr-value alg s r (net_name c) (follow (object_value s defined) (pos 0) (λ name g a. value_with name r a) c)
        (follow-related (λ (f : ℕ → NetExpr) z. (at : ℕ) → net_value alg s r (f at) ≡ z) (Ok t few) (Home t few) (outward-ok t few) (root-ok t few) (inside-ok t few) (giver-home t few)
        (λ x at. net_expr (net_object x) at) (λ at. net_expr (n_number (pos 0)) at) (λ name g a at. net_with name a)
        (object_value s defined) (pos 0) (λ name g a. value_with name r a)
        object-value (λ at. refl)
        (λ g h name name' same a at. expr-value alg s r name name' same a)
        c home) e

  pub root-of : (c : Component) → Home t few c → specification_of c ≡ t
  root-of c home = (frames-listed t few c home).0

  pub within : (m : ℕ) (d : Component) (f : Tree) → value_by s r (defined_with m s r) d f ≡ value_within m s r d f
  within zero d f = refl
  within (suc m) d f = refl

  pub values-same : (m : ℕ) → Values m
  values-same zero c home e = net_of-value (at_or (pos 0) []) (λ c e. pos 0) (λ d x n v h k. none-value (definitions d n.text v (place_in s d))) c home e
  values-same (suc m) c home e =
      net_of-value (at_or (pos 0) (alg_values (net_of_source t) s r (suc m))) (value_within m s r)
      (λ d x n v h k.
      ap (λ u. at_or (pos 0) (alg_values (net_of_source t) s r (suc m)) (number_in (algs u) d n.text)) (root-of d h)
      ∙ map-at (pos 0) (λ a. net.alg_value (net_value (at_or (pos 0) (alg_values (net_of_source t) s r m)) s r) s a) (map net_alg (algs t)) (number_in (algs t) d n.text) (net_alg (d, alg_decl x n v))
      (slice_get-map net_alg (algs t) (number_in (algs t) d n.text) ∙ ap (option_map net_alg) (alg-number t differ d x n v k))
      ∙ alg-value (at_or (pos 0) (alg_values (net_of_source t) s r m)) s r d (value_within m s r d) (λ f. values-same m d h f ∙ within m d f) x n v)
      c home e

  -- a translated expression of a listed component has the value of the expression
  pub value-same : (c : Component) → Home t few c → (e : Tree) → value_in (net_of_source t) s r (net_of c e) ≡ value_of c e s r
  value-same c home e =
      let as_many : length (algs t) ≡ length (map net_alg (algs t)) = sym (map-length net_alg (algs t)) in
      ap (λ m. net_value (at_or (pos 0) (alg_values (net_of_source t) s r m)) s r (net_of c e)) (sym as_many)
      ∙ values-same (length (algs t)) c home e
      ∙ within (length (algs t)) c e
      ∙ ap (λ u. value_within (length (algs u)) s r c e) (sym (root-of c home))
