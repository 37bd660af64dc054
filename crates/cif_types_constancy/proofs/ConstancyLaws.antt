-- The first name that is no constant, by where names lead, stands where the rule on constants is broken.
use Rattle.std.proofs.Common.{◌≡◌, ℕ, zero, suc, ◌+◌, Bool, true, not, inl, inr, List, [], ◌∷◌, ◌++◌, map, flat_map, refl, sym, ap, ◌∙◌, Option, Some, None}
use Rattle.std.specs.Prelude.{slice_get, IsTrue}
use Rattle.std.specs.List.{Any}
use Rattle.std.specs.Option.{option_or}
use Rattle.std.proofs.lemmas.Grind.{flat_map-append}
use Rattle.cif_system.proofs.Lists.{some-same, none-some}
use Rattle.cif_ast.specs.Tree.{Tree, node, Shape, truth, number, named, received, paren, negative, positive, negation, absolute, least, greatest, sum, product, comparison, all_of, any_of, implication, equivalence, choice, Trees, no_trees, trees, Terms, no_terms, terms, Factors, no_factors, factors, Branches, no_branches, branches}
use Rattle.cif_ast.specs.declared.names.Name.{Name}
use Rattle.cif_source.specs.Source.{DeclTree, type_decl, enum_decl, event_decl, const_decl, alg_decl, input_decl, disc_decl, equation_decl, invariant_decl, marked_decl, TypeTree, bool_type, int_type, range_type, named_type, Source}
use Rattle.cif_source.specs.Components.{Component, params_of, as_written, Entry, declared, literal, location, inner, definition, instance, parameter}
use Rattle.cif_source.specs.Lookup.{Reached, reached, missing, blocked, found}
use Rattle.cif_source.specs.Objects.{bodies, decls_in}
use Rattle.cif_source.specs.Uses.{names_in, shape_names, term_names, factor_names, names_in_all, branch_names}
use Rattle.cif_source.specs.Scoping.{is_wrong}
use Rattle.cif_source.specs.Constants.{param_types, decl_types, types_of, Bounds, bounds_in, bound_values, decl_constants, typed_constants, constants_of}
use Rattle.cif_source.specs.BodyRules.{is_constant, NotConstantDue}
use Rattle.cif_scope.specs.declared.scope.Sort.{Sort}
use Rattle.cif_scope.specs.declared.scope.What.{What}
use Rattle.cif_scope.specs.declared.looked.Looked.{Looked}
use Rattle.cif_scope.specs.declared.looked.Looked.TheVariants.{At, Missing, Blocked}
use Rattle.cif_scope.specs.declared.scopes.Scopes.{Scopes}
use Rattle.cif_scope.specs.Tables.{IsBody, Beside, IsSort, IsWhat}
use Rattle.cif_scope.specs.Looks.{look}
use Rattle.cif_scope.specs.Scopes.{AreNumbered}
use Rattle.cif_scope.specs.Written.{WrittenBody, written_bodies}
use Rattle.cif_scope.proofs.Places.{Sits, sits-head, sits-tail, sits-whole}
use Rattle.cif_scope.proofs.DefinitionLaws.{IsWritten, bodies-written}
use Rattle.cif_scope.proofs.IndexLaws.{any-of, of-any}
use Rattle.cif_scope.proofs.LookLaws.{Agrees}
use Rattle.cif_scope.proofs.FindLaws.{what-of, found-is}
use Rattle.cif_types_constancy.specs.Collected.{types_in, values_in}
use Rattle.cif_types_constancy.specs.Constancy.{is_constant_sort, is_constant_what, is_constant_slot, is_wrong_by, is_wrong_name, unfit, shape_unfit, terms_unfit, factors_unfit, trees_unfit, branches_unfit, types_unfit, values_unfit, body_unfit, unfit_from}
use Rattle.cif_types_constancy.proofs.Firsts.{or-three, or-told, or-none, first_place, first-both, first-one, first-told, first-none}

-- ---- a name

constant-sort : (d : DeclTree) (s : Sort) → IsSort d s → is_constant_sort s ≡ is_constant (declared d)
constant-sort (type_decl n ty) s h = ap is_constant_sort h
constant-sort (enum_decl n ls) s h = ap is_constant_sort h
constant-sort (event_decl k c n) s h = ap is_constant_sort h
constant-sort (const_decl ty n e) s h = ap is_constant_sort h
constant-sort (alg_decl ty n e) s h = ap is_constant_sort h
constant-sort (input_decl ty n) s h = ap is_constant_sort h
constant-sort (disc_decl ty n e) s h = ap is_constant_sort h
constant-sort (equation_decl q) s h = absurd h
constant-sort (invariant_decl i) s h = absurd h
constant-sort (marked_decl p) s h = absurd h

constant-what : (t : Source) (c : Component) (e : Entry) (w : What) → IsWhat t c e w → is_constant_what w ≡ is_constant e
constant-what t c (declared d) w h = ap is_constant_what h.1 ∙ constant-sort d h.0 h.2
constant-what t c (literal k ls) w h = ap is_constant_what h
constant-what t c (location k) w h = ap is_constant_what h
constant-what t c (inner n b) w h = ap is_constant_what h.1
constant-what t c (definition n ps b) w h = ap is_constant_what h.1
constant-what t c (instance i) w h = ap is_constant_what h.1
constant-what t c (parameter k p) w h = ap is_constant_what h

module _ (t : Source) (s : Scopes) (are : AreNumbered t s) where
  wrong-reached : (r : Reached) (l : Looked) → Agrees t r l → is_wrong_by s l ≡ is_wrong is_constant r
  wrong-reached (reached (o, e)) (At k j) h = let w = what-of t s.table are.table are.indexed k j o e h.0 h.1 in ap (λ x. not (is_constant_slot x)) w.1 ∙ ap not (constant-what t (as_written o) e w.0 w.2)
  wrong-reached (reached (o, e)) Missing h = absurd h
  wrong-reached (reached (o, e)) Blocked h = absurd h
  wrong-reached missing (At k j) h = absurd h
  wrong-reached missing Missing h = refl
  wrong-reached missing Blocked h = absurd h
  wrong-reached blocked (At k j) h = absurd h
  wrong-reached blocked Missing h = absurd h
  wrong-reached blocked Blocked h = refl

  wrong-name : (c : Component) (k : ℕ) → IsBody t k c → (nm : Name) → is_wrong_name s k nm ≡ is_wrong is_constant (found c nm)
  wrong-name c k own nm = wrong-reached (found c nm) (look s.table s.definitions true k nm) (found-is t s.table are.table are.indexed s.definitions are.definitions c k nm own)

-- ---- expressions

module _ (wrong : Name → Bool) where
  mutual
    unfit-is : (e : Tree) → unfit wrong e ≡ first_place wrong (names_in e)
    unfit-is (node form at) = shape-is form

    shape-is : (f : Shape) → shape_unfit wrong f ≡ first_place wrong (shape_names f)
    shape-is (truth b) = refl
    shape-is (number z) = refl
    shape-is (named nm) = first-one wrong nm
    shape-is received = refl
    shape-is (paren e) = unfit-is e
    shape-is (negative e) = unfit-is e
    shape-is (positive e) = unfit-is e
    shape-is (negation e) = unfit-is e
    shape-is (absolute e) = unfit-is e
    shape-is (least a b) = first-both wrong (unfit wrong a) (unfit wrong b) (names_in a) (names_in b) (unfit-is a) (unfit-is b)
    shape-is (greatest a b) = first-both wrong (unfit wrong a) (unfit wrong b) (names_in a) (names_in b) (unfit-is a) (unfit-is b)
    shape-is (sum e es) = first-both wrong (unfit wrong e) (terms_unfit wrong es) (names_in e) (term_names es) (unfit-is e) (terms-are es)
    shape-is (product e es) = first-both wrong (unfit wrong e) (factors_unfit wrong es) (names_in e) (factor_names es) (unfit-is e) (factors-are es)
    shape-is (comparison a op b) = first-both wrong (unfit wrong a) (unfit wrong b) (names_in a) (names_in b) (unfit-is a) (unfit-is b)
    shape-is (all_of es) = trees-are es
    shape-is (any_of es) = trees-are es
    shape-is (implication a b) = first-both wrong (unfit wrong a) (unfit wrong b) (names_in a) (names_in b) (unfit-is a) (unfit-is b)
    shape-is (equivalence a b) = first-both wrong (unfit wrong a) (unfit wrong b) (names_in a) (names_in b) (unfit-is a) (unfit-is b)
    shape-is (choice bs e) = first-both wrong (branches_unfit wrong bs) (unfit wrong e) (branch_names bs) (names_in e) (branches-are bs) (unfit-is e)

    terms-are : (es : Terms) → terms_unfit wrong es ≡ first_place wrong (term_names es)
    terms-are no_terms = refl
    terms-are (terms minus e es) = first-both wrong (unfit wrong e) (terms_unfit wrong es) (names_in e) (term_names es) (unfit-is e) (terms-are es)

    factors-are : (es : Factors) → factors_unfit wrong es ≡ first_place wrong (factor_names es)
    factors-are no_factors = refl
    factors-are (factors op e es) = first-both wrong (unfit wrong e) (factors_unfit wrong es) (names_in e) (factor_names es) (unfit-is e) (factors-are es)

    trees-are : (es : Trees) → trees_unfit wrong es ≡ first_place wrong (names_in_all es)
    trees-are no_trees = refl
    trees-are (trees e es) = first-both wrong (unfit wrong e) (trees_unfit wrong es) (names_in e) (names_in_all es) (unfit-is e) (trees-are es)

    branches-are : (bs : Branches) → branches_unfit wrong bs ≡ first_place wrong (branch_names bs)
    branches-are no_branches = refl
    branches-are (branches cs e bs) =
        first-both wrong (option_or (trees_unfit wrong cs) (unfit wrong e)) (branches_unfit wrong bs) (names_in_all cs ++ names_in e) (branch_names bs)
        (first-both wrong (trees_unfit wrong cs) (unfit wrong e) (names_in_all cs) (names_in e) (trees-are cs) (unfit-is e)) (branches-are bs)

  -- ---- the constants of a body

  abbrev bounds_from : List TypeTree → List Tree
  bounds_from ts = flat_map (λ (b : Bounds). b.0 ∷ b.1 ∷ []) (flat_map bounds_in ts)

  types-are : (ts : List TypeTree) → types_unfit wrong ts ≡ first_place wrong (flat_map names_in (bounds_from ts))
  types-are [] = refl
  types-are (bool_type ∷ ts) = types-are ts
  types-are (int_type ∷ ts) = types-are ts
  types-are (named_type nm ∷ ts) = types-are ts
  types-are (range_type l u ∷ ts) =
      or-three (unfit wrong l) (unfit wrong u) (types_unfit wrong ts)
      ∙ first-both wrong (unfit wrong l) (option_or (unfit wrong u) (types_unfit wrong ts)) (names_in l) (names_in u ++ flat_map names_in (bounds_from ts)) (unfit-is l)
      (first-both wrong (unfit wrong u) (types_unfit wrong ts) (names_in u) (flat_map names_in (bounds_from ts)) (unfit-is u) (types-are ts))

  values-are : (vs : List (TypeTree × Tree)) → values_unfit wrong vs ≡ first_place wrong (flat_map names_in (map (λ (v : TypeTree × Tree). v.1) vs))
  values-are [] = refl
  values-are (v ∷ vs) = first-both wrong (unfit wrong v.1) (values_unfit wrong vs) (names_in v.1) (flat_map names_in (map (λ (x : TypeTree × Tree). x.1) vs)) (unfit-is v.1) (values-are vs)

  abbrev both_unfit : List TypeTree → List (TypeTree × Tree) → Option ℕ
  both_unfit ts vs = option_or (types_unfit wrong ts) (values_unfit wrong vs)

  constants-are : (c : Component) → both_unfit (types_of c) (typed_constants c) ≡ first_place wrong (flat_map names_in (constants_of c))
  constants-are c =
      first-both wrong (types_unfit wrong (types_of c)) (values_unfit wrong (typed_constants c)) (flat_map names_in (bound_values c)) (flat_map names_in (map (λ (v : TypeTree × Tree). v.1) (typed_constants c))) (types-are (types_of c)) (values-are (typed_constants c))
      ∙ ap (first_place wrong) (sym (flat_map-append names_in (bound_values c) (map (λ (v : TypeTree × Tree). v.1) (typed_constants c))))

  written-are : (c : Component) (w : WrittenBody) → IsWritten c w → both_unfit (types_in w) (values_in w) ≡ first_place wrong (flat_map names_in (constants_of c))
  written-are c w h =
      ap (λ ps. both_unfit (flat_map param_types ps ++ flat_map decl_types (decls_in w.body)) (flat_map decl_constants (decls_in w.body))) (sym h.0)
      ∙ ap (λ b. both_unfit (flat_map param_types (params_of c) ++ flat_map decl_types (decls_in b)) (flat_map decl_constants (decls_in b))) (sym h.1)
      ∙ constants-are c

-- ---- all bodies

abbrev is_wrong_in : Component → Name → Bool
is_wrong_in c nm = is_wrong is_constant (found c nm)

abbrev names_for : Component → List Name
names_for c = flat_map names_in (constants_of c)

abbrev body_place : Component → Option ℕ
body_place c = first_place (is_wrong_in c) (names_for c)

abbrev places : List Component → Option ℕ
places [] = None
places (c ∷ cs) = option_or (body_place c) (places cs)

module _ (t : Source) (s : Scopes) (are : AreNumbered t s) where
  body-is : (c : Component) (k : ℕ) (w : WrittenBody) → IsBody t k c → IsWritten c w → body_unfit s k w ≡ body_place c
  body-is c k w own h = written-are (is_wrong_name s k) c w h ∙ ap (λ (f : Name → Bool). first_place f (names_for c)) (λ i nm. wrong-name t s are c k own nm i)

  bodies-are : (cs : List Component) (ws : List WrittenBody) (k : ℕ) → Beside IsWritten cs ws → Sits (bodies t) k cs → unfit_from s k ws ≡ places cs
  bodies-are [] [] k h g = refl
  bodies-are [] (w ∷ ws) k h g = absurd h
  bodies-are (c ∷ cs) [] k h g = absurd h
  bodies-are (c ∷ cs) (w ∷ ws) k h g =
      ap (λ o. option_or o (unfit_from s (k + 1) ws)) (body-is c k w (sits-head (bodies t) k c cs g) h.0)
      ∙ ap (option_or (body_place c)) (bodies-are cs ws (k + 1) h.1 (sits-tail (bodies t) k c cs g))

  all-are : unfit_from s 0 (written_bodies t) ≡ places (bodies t)
  all-are = bodies-are (bodies t) (written_bodies t) 0 (bodies-written t) (sits-whole (bodies t))

told-in : (cs : List Component) (at : ℕ) → places cs ≡ Some at → (k : ℕ) × (c : Component) × (slice_get cs k ≡ Some c) × (body_place c ≡ Some at)
told-in [] at h = absurd (none-some at h)
told-in (c ∷ cs) at h = elim (or-told (body_place c) (places cs) at h) [
  | inl g ↦ (zero, c, refl, g)
  | inr g ↦ let w = told-in cs at g in (suc w.0, w.1, w.2, w.3)
]

none-in : (cs : List Component) → places cs ≡ None → (k : ℕ) (c : Component) → slice_get cs k ≡ Some c → body_place c ≡ None
none-in [] h k c e = absurd (none-some c e)
none-in (d ∷ cs) h zero c e = ap body_place (sym (some-same d c e)) ∙ (or-none (body_place d) (places cs) h).0
none-in (d ∷ cs) h (suc k) c e = none-in cs (or-none (body_place d) (places cs) h).1 k c e

abbrev IsWrongAt : ℕ → Component → Name → Type 0
IsWrongAt at c nm = (nm.at ≡ at) × IsTrue (is_wrong is_constant (found c nm))

pub due-at : (t : Source) (s : Scopes) (o : Option ℕ) (at : ℕ) → AreNumbered t s → o ≡ unfit_from s 0 (written_bodies t) → o ≡ Some at → NotConstantDue t at
due-at t s o at are e h =
    let w = told-in (bodies t) at (sym (all-are t s are) ∙ sym e ∙ h) in
    let v = first-told (is_wrong_in w.1) (names_for w.1) at w.3 in
    any-of (λ c. Any (λ (nm : Name). (nm.at ≡ at) × IsTrue (is_wrong is_constant (found c nm))) (names_for c)) (bodies t) w.0 w.1 w.2
    (any-of (λ (nm : Name). (nm.at ≡ at) × IsTrue (is_wrong is_constant (found w.1 nm))) (names_for w.1) v.0 v.1 v.2 (v.3, v.4))

pub none-due : (t : Source) (s : Scopes) (o : Option ℕ) → AreNumbered t s → o ≡ unfit_from s 0 (written_bodies t) → o ≡ None → (at : ℕ) → NotConstantDue t at → ⊥
none-due t s o are e h at due =
    let w = of-any (λ c. Any (λ (nm : Name). (nm.at ≡ at) × IsTrue (is_wrong is_constant (found c nm))) (names_for c)) (bodies t) due in
    let v = of-any (λ (nm : Name). (nm.at ≡ at) × IsTrue (is_wrong is_constant (found w.1 nm))) (names_for w.1) w.3 in
    first-none (is_wrong_in w.1) (names_for w.1) (none-in (bodies t) (sym (all-are t s are) ∙ sym e ∙ h) w.0 w.1 w.2) v.0 v.1 v.2 v.3.1
